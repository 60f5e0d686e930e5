use Rattle.std.proofs.Common.{◌≡◌, take}
use Rattle.dewey_labels.proofs.list.List.copy.Given as goal

abbrev pub invariant-loop-cell : goal.invariant-loop-cell
invariant-loop-cell g l = l.cells.items ≡ take l.cell-index l.cell-items

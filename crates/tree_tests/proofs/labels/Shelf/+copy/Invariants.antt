use Rattle.std.proofs.Common.{◌≡◌, take}
use Rattle.tree_tests.proofs.labels.Shelf.+copy.Given as goal

abbrev pub invariant-loop-shelf : goal.invariant-loop-shelf
invariant-loop-shelf l = l.out ≡ take l.shelf-index l.shelf-items

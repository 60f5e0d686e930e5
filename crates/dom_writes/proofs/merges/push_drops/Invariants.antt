use Rattle.std.proofs.Common.{◌≡◌, ◌++◌, map, take}
use Rattle.tree_model.specs.Changes.{drop_change}
use Rattle.dom_writes.proofs.merges.push_drops.Given as goal

abbrev pub invariant-loop-key : goal.invariant-loop-key
invariant-loop-key l = l.changes ≡ l.fn.changes ++ map drop_change (take l.key-index l.entries)

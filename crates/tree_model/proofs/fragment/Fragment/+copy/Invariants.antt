use Rattle.std.proofs.Common.{◌≡◌, take}
use Rattle.tree_model.proofs.fragment.Fragment.+copy.Given as goal

abbrev pub invariant-loop-child : goal.invariant-loop-child
invariant-loop-child l = l.copies ≡ take l.child-index l.child-items

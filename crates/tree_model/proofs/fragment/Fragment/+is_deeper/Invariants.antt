use Rattle.std.proofs.Common.{◌≡◌, ◌-◌, nat_lt, drop}
use Rattle.tree_model.specs.Fragments.{depth, plain_row}
use Rattle.tree_model.proofs.fragment.Fragment.+is_deeper.Given as goal

-- a child takes more levels where one of those left does
abbrev pub invariant-loop-child : goal.invariant-loop-child
invariant-loop-child l = nat_lt (l.levels - 1) (depth (plain_row (drop l.child-index l.child-items))) ≡ nat_lt (l.levels - 1) (depth (plain_row l.child-items))

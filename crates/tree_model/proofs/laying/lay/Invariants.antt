use Rattle.std.proofs.Common.{◌≡◌, ◌≤◌, ◌+◌, ◌++◌, length, vec_capacity}
use Rattle.tree_model.specs.Changes.{Rising, laid}
use Rattle.tree_model.proofs.laying.lay.Given as goal

abbrev pub invariant-loop-change : goal.invariant-loop-change
invariant-loop-change l = record {
  gathered : l.out.items ++ laid l.upper.items l.lower.items ≡ laid l.fn.upper.items l.fn.lower.items;
  room : length l.upper.items + length l.lower.items + length l.out.items ≤ vec_capacity l.out;
  rising : Rising l.upper.items × Rising l.lower.items;
}

abbrev pub decreases-loop-change : goal.decreases-loop-change
decreases-loop-change l = length l.upper.items + length l.lower.items

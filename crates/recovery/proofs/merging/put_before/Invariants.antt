use Rattle.std.proofs.Common.{length, option_copied}
use Rattle.tree_model.specs.Changes.{Rising}
use Rattle.tree_model.specs.Entries.{Entries}
use Rattle.tree_rules.specs.Testing.{HasTaken}
use Rattle.recovery.specs.inside.Merging.{HasMade}
use Rattle.recovery.proofs.merging.put_before.Given as goal

abbrev pub invariant-loop-change : goal.invariant-loop-change
invariant-loop-change l = record {
  rising : Rising l.left;
  put : (taken : Entries) → HasTaken l.fn.tester taken → HasMade (option_copied l.limit) l.changes l.left taken l.tester;
}

abbrev pub decreases-loop-change : goal.decreases-loop-change
decreases-loop-change l = length l.left

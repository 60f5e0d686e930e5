use Rattle.std.proofs.Common.{◌≡◌, ◌-◌, ℕ, true, length, take}
use Rattle.std.specs.List.{AllByRecursion}
use Rattle.tree_model.specs.declared.key.Key.{Key}
use Rattle.node_seq.specs.ChangeLists.{IsChangeList}
use Rattle.overlays.specs.Stretches.{is_covered, IsOut}
use Rattle.tx_core.specs.declared.parts.Passed.{Passed}
use Rattle.tx_core.specs.inside.Passed.{stretches_of, KeepFewer}
use Rattle.tx_core.proofs.passed.forget_puts.Given as goal

abbrev pub invariant-loop-place : goal.invariant-loop-place
invariant-loop-place l = record {
  fewer : KeepFewer l.passed.items l.fn.passed.items;
  out : AllByRecursion (λ (p : Passed). AllByRecursion (IsOut p.gaps) l.overlay) (take l.place l.passed.items);
  list : (o : ℕ) (j : Key) → is_covered (stretches_of (take l.place l.passed.items) o) j ≡ true → IsChangeList l.overlay;
}

abbrev pub decreases-loop-place : goal.decreases-loop-place
decreases-loop-place l = length l.passed.items - l.place

use Rattle.std.proofs.Common.{◌≡◌, ◌-◌, false, length, take}
use Rattle.std.specs.Prelude.{IfSome}
use Rattle.tree_model.specs.declared.key.Key.{Key}
use Rattle.overlays.specs.Stretches.{is_covered, AreWithin}
use Rattle.tx_core.specs.inside.Passed.{stretches_of, KeepFewer}
use Rattle.tx_core.proofs.passed.end_passed.Given as goal

abbrev pub invariant-loop-place : goal.invariant-loop-place
invariant-loop-place l = record {
  fewer : KeepFewer l.passed.items l.fn.passed.items;
  out : (j : Key) → is_covered (stretches_of (take l.place l.passed.items) l.session) j ≡ false;
  taken : IfSome l.taken (λ gaps. AreWithin gaps (stretches_of l.fn.passed.items l.session));
}

abbrev pub decreases-loop-place : goal.decreases-loop-place
decreases-loop-place l = length l.passed.items - l.place

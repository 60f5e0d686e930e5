use Rattle.std.proofs.Common.{◌≡◌, ◌-◌, ◌∷◌, length, true}
use Rattle.tree_model.specs.declared.key.Key.{Key}
use Rattle.overlays.specs.Stretches.{is_in, AreWithin}
use Rattle.overlays.proofs.gaps.joined.Given as goal

abbrev pub invariant-loop-place : goal.invariant-loop-place
invariant-loop-place l = record {
  within : AreWithin (l.whole ∷ l.stretches.items) (l.fn.stretch ∷ l.fn.stretches.items);
  whole : AreWithin (l.fn.stretch ∷ l.fn.stretches.items) (l.whole ∷ l.stretches.items);
  has : (j : Key) → is_in l.fn.stretch j ≡ true → is_in l.whole j ≡ true;
}

abbrev pub decreases-loop-place : goal.decreases-loop-place
decreases-loop-place l = length l.stretches.items - l.place

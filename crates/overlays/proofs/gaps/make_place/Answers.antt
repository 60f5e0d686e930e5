use Rattle.std.proofs.Common.{◌≡◌, ◌<◌, ◌∷◌, length, true, sym, subst}
use Rattle.overlays.specs.Stretches.{is_covered}
use Rattle.overlays.proofs.StretchLaws.{covered_removed, removed_parts}
use Rattle.overlays.proofs.gaps.make_place.Goals as goal

pub returns : goal.returns
returns c = record {
  within = λ j h. covered_removed j c.args.stretches.now.items c.least-least.result (subst (λ v. is_covered v j ≡ true) c.remove.ensures.items h);
  left = λ j h. subst (λ v. is_covered (c.remove.result ∷ v) j ≡ true) (sym c.remove.ensures.items) (removed_parts c.args.stretches.now.items c.least-least.result c.remove.result (subst (λ v. c.least-least.result < length v) c.deref.ensures.value c.least-least.ensures) c.remove.ensures.value j h);
}

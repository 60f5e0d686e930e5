use Rattle.std.proofs.Common.{◌≡◌, true, sym, subst, ◌∙◌}
use Rattle.tree_model.specs.declared.key.Key.{Key}
use Rattle.overlays.specs.Stretches.{is_covered}
use Rattle.overlays.specs.Steps.{end_toward}
use Rattle.overlays.specs.inside.Passing.{Skips, IsEndOf}
use Rattle.overlays.proofs.StretchLaws.{skips_none, skips_to}
use Rattle.overlays.proofs.gaps.Gaps.skip.Goals as goal

pub returns-in-Some-clause-skips : goal.returns-in-Some-clause-skips
returns-in-Some-clause-skips c =
    subst (λ (r : Key). Skips c.args.toward c.args.key.now c.args.self.now r) (sym c.end.ensures)
    (skips_to c.args.toward c.args.key.now c.args.self.now c.in-Some.stretch.now c.in-Some.ensures.has
    (λ j h. subst (λ v. is_covered v j ≡ true) (c.deref.ensures.value ∙ c.self.view_is) (c.in-Some.ensures.one j h)))

pub returns-in-None-clause-skips : goal.returns-in-None-clause-skips
returns-in-None-clause-skips c = skips_none c.args.toward c.args.key.now c.args.self.now

pub returns-in-Some-clause-end : goal.returns-in-Some-clause-end
returns-in-Some-clause-end c = λ _.
    subst (λ (r : Key). IsEndOf c.args.toward r c.args.self.now) (sym c.end.ensures)
    (subst (IsEndOf c.args.toward (end_toward c.args.toward c.in-Some.stretch.now)) (c.deref.ensures.value ∙ c.self.view_is) (c.in-Some.ensures.end c.args.toward))

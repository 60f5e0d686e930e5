use Rattle.std.proofs.Common.{refl, not, sym, ap, ◌++◌, ◌∙◌}
use Rattle.dewey_labels.specs.NewLabels.{new_label}
use Rattle.tree_model.specs.Fragments.{plain}
use Rattle.lock_plans.specs.Plans.{grafted}
use Rattle.lock_plans.proofs.GapLaws.{no_label, not_placed, nothing_more, placed}
use Rattle.lock_plans.proofs.gaps.place_fragment.Goals as goal

pub returns-in_default : goal.returns-in_default
returns-in_default c = λ t end.
    nothing_more _ (no_label (grafted (plain c.args.fragment.now)) (new_label c.args.parent.now c.args.left.now c.args.right.now) t end (sym c.in_ok-new.ensures.new ∙ c.in_default.is)) refl

pub returns-then-not-fits_at : goal.returns-then-not-fits_at
returns-then-not-fits_at c = λ t end.
    nothing_more _ (not_placed (grafted (plain c.args.fragment.now)) (new_label c.args.parent.now c.args.left.now c.args.right.now) c.in-Some.new t end (sym c.in_ok-new.ensures.new ∙ c.in-Some.is) (sym c.fits_at.ensures ∙ c.if-not-fits_at.true)) refl

pub returns : goal.returns
returns c = λ t end.
    c.in_ok-take_tree.ensures
    ∙ ap (λ v. c.args.plan.now ++ v) (sym (placed (grafted (plain c.args.fragment.now)) (new_label c.args.parent.now c.args.left.now c.args.right.now) c.in-Some.new t end (sym c.in_ok-new.ensures.new ∙ c.in-Some.is) (sym c.fits_at.ensures ∙ c.if-not-fits_at.false)))

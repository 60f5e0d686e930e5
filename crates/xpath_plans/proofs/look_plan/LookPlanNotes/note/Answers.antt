use Rattle.std.proofs.Common.{sym, subst, ◌∙◌}
use Rattle.xpath_axes.specs.Looks.{meant}
use Rattle.xpath_plans.specs.inside.NotedLooks.{looks_of, HasNoted}
use Rattle.xpath_plans.proofs.NotedLooks.{noted_more, on_ok}
use Rattle.xpath_plans.proofs.look_plan.LookPlanNotes.note.Goals as goal

pub invariant_of-self-else-is_err : goal.invariant_of-self-else-is_err
invariant_of-self-else-is_err c =
    let more = on_ok c.insert.result (sym c.is_err.ensures.value ∙ c.if-is_err.false) c.insert.ensures.updates in
    subst (λ ks. HasNoted c.insert.new.self (looks_of ks)) (sym c.in_ok-push.ensures.ok)
    (noted_more c.self.inside.noted c.insert.new.self c.self.inside.looks c.in_ok-of.field-0 c.in_ok-one.one (meant c.args.look) c.in_ok-of.ensures c.in_ok-one.ensures c.self.invariant more.0)

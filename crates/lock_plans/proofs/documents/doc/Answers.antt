use Rattle.std.proofs.Common.{ap, ◌∙◌}
use Rattle.lock_modes.specs.declared.mode.Mode.TheVariants.{NR}
use Rattle.lock_plans.proofs.PlanLaws.{attribute_asks, begun, ended}
use Rattle.lock_plans.proofs.documents.doc.Goals as goal

pub returns : goal.returns
returns c = λ t. ended (begun _ c.new-plan.ensures c.in_ok-read_attribute.ensures ∙ ap (λ l. attribute_asks l c.args.name.now NR) c.in_ok-root.ensures)

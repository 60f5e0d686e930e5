use Rattle.std.proofs.Common.{ap, ◌∙◌}
use Rattle.lock_modes.specs.declared.ask.Ask.TheVariants as ask
use Rattle.lock_modes.specs.declared.mode.Mode.TheVariants.{LR}
use Rattle.lock_resources.specs.declared.resource.Resource.TheVariants.{AttrRoot}
use Rattle.lock_resources.specs.Intentions.{with_intentions}
use Rattle.lock_plans.proofs.PlanLaws.{begun, ended}
use Rattle.lock_plans.proofs.documents.docs.Goals as goal

pub returns : goal.returns
returns c = λ t. ended (begun _ c.new-plan.ensures c.in_ok-read_attributes.ensures ∙ ap (λ l. with_intentions (AttrRoot l) (ask.Node LR)) c.in_ok-root.ensures)

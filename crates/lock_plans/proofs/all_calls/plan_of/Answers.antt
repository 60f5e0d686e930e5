use Rattle.std.proofs.Common.{sym, ap, ◌∙◌}
use Rattle.lock_plans.specs.DomPlans.{requests}
use Rattle.lock_plans.proofs.all_calls.plan_of.Goals as goal

pub returns-in_ok-docs-in-Docs-clause-value : goal.returns-in_ok-docs-in-Docs-clause-value
returns-in_ok-docs-in-Docs-clause-value g c = λ t stands. c.in_ok-docs-in-Docs.ensures t ∙ ap (λ k. requests k t) (sym c.in-Docs.is)

pub returns-in_ok-doc-in-Doc-clause-value : goal.returns-in_ok-doc-in-Doc-clause-value
returns-in_ok-doc-in-Doc-clause-value g c = λ t stands. c.in_ok-doc-in-Doc.ensures t ∙ ap (λ k. requests k t) (sym c.in-Doc.is)

use Rattle.std.proofs.Common.{◌≡◌, true, [], ◌∷◌, ◌++◌, subst}
use Rattle.dewey_labels.specs.Labels.{Label, is_label}
use Rattle.dewey_labels.specs.Ancestors.{ancestors, IsWayDown}
use Rattle.dewey_labels.proofs.Ancestors.{way_down}
use Rattle.lock_resources.proofs.Laws.{nodes_down, all_fit}
use Rattle.lock_resources.proofs.intentions.with_intentions.Goals as goal

way_to : (l m : Label) → l ≡ m → is_label l ≡ true → IsWayDown (ancestors m ++ m ∷ [])
way_to l m e h = subst (λ k. IsWayDown (ancestors k ++ k ∷ [])) e (way_down l h)

pub returns-then-is_err-clause-nodes : goal.returns-then-is_err-clause-nodes
returns-then-is_err-clause-nodes c = nodes_down c.args.resource c.args.ask

pub returns-else-is_err-clause-nodes : goal.returns-else-is_err-clause-nodes
returns-else-is_err-clause-nodes c = nodes_down c.args.resource c.args.ask

pub returns-then-is_err-clause-way : goal.returns-then-is_err-clause-way
returns-then-is_err-clause-way c = way_to _ _ c.label.ensures c.divisions-divisions.ensures.label.0

pub returns-else-is_err-clause-way : goal.returns-else-is_err-clause-way
returns-else-is_err-clause-way c = way_to _ _ c.label.ensures c.divisions-divisions.ensures.label.0

pub returns-then-is_err-clause-fits : goal.returns-then-is_err-clause-fits
returns-then-is_err-clause-fits c = all_fit c.args.resource c.args.ask c.requires

pub returns-else-is_err-clause-fits : goal.returns-else-is_err-clause-fits
returns-else-is_err-clause-fits c = all_fit c.args.resource c.args.ask c.requires

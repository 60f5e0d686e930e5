use Rattle.std.proofs.Common.{◌≡◌, Option, None, Some, refl, sym, ap, ◌∙◌}
use Rattle.dewey_labels.specs.Labels.{Label}
use Rattle.tree_model.specs.Documents.{label_or_not_found}
use Rattle.tree_model.specs.Tree.{beside}
use Rattle.lock_plans.specs.inside.PlacedReplies.{placed_label}
use Rattle.lock_plans.proofs.documents.document_named.Goals as goal

placed : (o : Option Label) → placed_label (label_or_not_found o) ≡ o
placed None = refl
placed (Some l) = refl

pub returns-clause-found : goal.returns-clause-found
returns-clause-found g c = λ t stands. c.placed_label.ensures ∙ ap placed_label (c.in_ok-reply.ensures.reply t stands) ∙ placed (beside c.args.name.now t.catalogue)

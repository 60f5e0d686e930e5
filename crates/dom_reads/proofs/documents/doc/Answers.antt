use Rattle.std.proofs.Common.{◌≡◌, Some, sym, ap, ◌∙◌}
use Rattle.dewey_labels.specs.Labels.{root}
use Rattle.tree_model.specs.Documents.{label_or_not_found}
use Rattle.tree_model.specs.Places.{attributes_at}
use Rattle.tree_model.specs.Tree.{beside}
use Rattle.dom_reads.proofs.ReplyLaws.{no_doc_reply, doc_reply}
use Rattle.dom_reads.proofs.documents.doc.Goals as goal

pub returns-in_default-clause-reply : goal.returns-in_default-clause-reply
returns-in_default-clause-reply g c = λ t stands.
    c.not_found.ensures ∙ no_doc_reply c.args.name.now t (sym c.in_default.is ∙ c.in_ok-value.ensures.found t stands ∙ ap (λ l. beside c.args.name.now (attributes_at l t)) c.in_ok-root.ensures)

pub returns-in-Some-2-clause-reply : goal.returns-in-Some-2-clause-reply
returns-in-Some-2-clause-reply g c = λ t stands.
    let n = c.args.name.now in
    let entry : Some c.in-Some.value ≡ beside n (attributes_at root t) = sym c.in-Some.is ∙ c.in_ok-value.ensures.found t stands ∙ ap (λ l. beside n (attributes_at l t)) c.in_ok-root.ensures in
    ap label_or_not_found (sym c.in-Some-2.is ∙ c.in_ok-label.ensures) ∙ doc_reply n t c.in-Some.value stands.valid entry

pub returns-clause-reply : goal.returns-clause-reply
returns-clause-reply g c = λ t stands.
    let n = c.args.name.now in
    let entry : Some c.in-Some.value ≡ beside n (attributes_at root t) = sym c.in-Some.is ∙ c.in_ok-value.ensures.found t stands ∙ ap (λ l. beside n (attributes_at l t)) c.in_ok-root.ensures in
    c.not_found-in-None.ensures ∙ ap label_or_not_found (sym c.in-None.is ∙ c.in_ok-label.ensures) ∙ doc_reply n t c.in-Some.value stands.valid entry

use Rattle.std.proofs.Common.{◌≡◌, Some, sym, ◌∙◌}
use Rattle.tree_model.specs.Tree.{at, record_of}
use Rattle.dom_reads.proofs.ReplyLaws.{parent_reply}
use Rattle.dom_reads.proofs.navigation.parent.Goals as goal

pub returns-clause-reply : goal.returns-clause-reply
returns-clause-reply g c = λ t stands.
    let l = c.args.at.now in
    let r = c.in-Some.found in
    let e : Some r ≡ record_of (at l t.documents) = sym c.in-Some.is ∙ c.in_ok-found.ensures.found t stands in
    parent_reply l t r c.in_ok-parent.field-0 stands.valid e (sym c.is_document.ensures ∙ c.if-is_document.false) c.in_ok-parent.ensures.parent c.in_ok-parent.ensures.root.0

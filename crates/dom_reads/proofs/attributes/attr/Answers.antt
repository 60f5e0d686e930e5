use Rattle.std.proofs.Common.{◌≡◌, [], Some, unwrap_or, sym, ap, ◌∙◌}
use Rattle.tree_model.specs.Tree.{at, record_of}
use Rattle.tree_model.specs.declared.reply.Reply.TheVariants as reply
use Rattle.dom_reads.proofs.ReplyLaws.{later, attr_reply}
use Rattle.dom_reads.proofs.attributes.attr.Goals as goal

pub returns-clause-reply : goal.returns-clause-reply
returns-clause-reply g c = λ t stands.
    let l = c.args.at.now in
    let r = c.in-Some.found in
    let e : Some r ≡ record_of (at l t.documents) = sym c.in-Some.is ∙ c.in_ok-found.ensures.found t stands in
    let value = c.in_ok-value.ensures.value t (later _ _ t (g.met.S.NodeRead.unchanged_contents _ _ c.record_at.ensures.unchanged) stands) in
    ap reply.Chars (c.in_ok-value_or_empty.ensures ∙ ap (λ o. unwrap_or o []) value) ∙ attr_reply l c.args.name.now t r stands.valid e (sym c.is_element.ensures ∙ c.if-not-is_element.false)

use Rattle.std.proofs.Common.{◌≡◌, length, arith, Some, sym, ap, ◌∙◌}
use Rattle.tree_model.specs.Tree.{Attributes, at, attributes_of, record_of}
use Rattle.tree_model.specs.Places.{attributes_at}
use Rattle.tree_model.specs.declared.reply.Reply.TheVariants as reply
use Rattle.dom_reads.proofs.ReplyLaws.{later, attrs_reply, found_attributes}
use Rattle.dom_reads.proofs.attributes.attrs.Goals as goal

pub returns-clause-reply : goal.returns-clause-reply
returns-clause-reply g c = λ t stands.
    let l = c.args.at.now in
    let r = c.in-Some.found in
    let e : Some r ≡ record_of (at l t.documents) = sym c.in-Some.is ∙ c.in_ok-found.ensures.found t stands in
    let all = c.in_ok-all_attributes.ensures.found t (later _ _ t (g.met.S.NodeRead.unchanged_contents _ _ c.record_at.ensures.unchanged) stands) in
    ap (λ (ats : Attributes). reply.Attrs (Some ats)) all ∙ attrs_reply l t r stands.valid e (sym c.is_element.ensures ∙ c.if-not-is_element.false)

pub returns-in_err-all_attributes-clause-reads_of_tree : goal.returns-in_err-all_attributes-clause-reads_of_tree
returns-in_err-all_attributes-clause-reads_of_tree g c t stands =
    let l = c.args.at.now in
    let e : Some c.in-Some.found ≡ record_of (at l t.documents) = sym c.in-Some.is ∙ c.in_ok-found.ensures.found t stands in
    let all : length (attributes_at l t) ≡ length (attributes_of (at l t.documents)) = ap length (found_attributes l t c.in-Some.found stands.valid e) in
    let rest = c.in_err-all_attributes.ensures.reads_of_tree t (later _ _ t (g.met.S.NodeRead.unchanged_contents _ _ c.record_at.ensures.unchanged) stands) in
    let read = c.in_ok-found.ensures.reads in
    omega (arith, all, rest, read)

pub returns-clause-reads_of_tree : goal.returns-clause-reads_of_tree
returns-clause-reads_of_tree g c t stands =
    let l = c.args.at.now in
    let e : Some c.in-Some.found ≡ record_of (at l t.documents) = sym c.in-Some.is ∙ c.in_ok-found.ensures.found t stands in
    let all : length (attributes_at l t) ≡ length (attributes_of (at l t.documents)) = ap length (found_attributes l t c.in-Some.found stands.valid e) in
    let rest = c.in_ok-all_attributes.ensures.reads_of_tree t (later _ _ t (g.met.S.NodeRead.unchanged_contents _ _ c.record_at.ensures.unchanged) stands) in
    let read = c.in_ok-found.ensures.reads in
    omega (arith, all, rest, read)

use Rattle.std.proofs.Common.{◌≡◌, true, option_map, IfSome, IsTrue, sym, ap, subst, ◌∙◌}
use Rattle.dewey_labels.specs.Labels.{is_child}
use Rattle.tree_model.specs.Fragments.{plain_or_none}
use Rattle.tree_model.specs.Names.{is_name}
use Rattle.dom_reads.proofs.ReplyLaws.{later}
use Rattle.dom_writes.specs.inside.NewDocuments.{SuitsOrRefused}
use Rattle.dom_writes.specs.inside.NewPlaces.{answer}
use Rattle.dom_writes.proofs.MadeDocuments.{create_deep, create_exists, create_no_name, create_placed, create_text, within_suits}
use Rattle.dom_writes.proofs.documents.document_place.Goals as goal

pub returns-then-not-is_name-clause-place : goal.returns-then-not-is_name-clause-place
returns-then-not-is_name-clause-place g c = λ t stands.
    let f = plain_or_none (option_map (λ x. x.now) c.args.fragment) in
    c.invalid_character.ensures ∙ create_no_name c.args.name.now f t (sym c.is_name.ensures.exact ∙ c.if-not-is_name.true)

pub returns-then-is_text_document-clause-place : goal.returns-then-is_text_document-clause-place
returns-then-is_text_document-clause-place g c = λ t stands.
    let f = plain_or_none (option_map (λ x. x.now) c.args.fragment) in
    c.hierarchy_request.ensures ∙ create_text c.args.name.now f t (sym c.is_name.ensures.exact ∙ c.if-not-is_name.false) (sym c.is_text_document.ensures ∙ c.if-is_text_document.true)

pub returns-then-is_some-clause-place : goal.returns-then-is_some-clause-place
returns-then-is_some-clause-place g c = λ t stands.
    let n = c.args.name.now in
    let f = plain_or_none (option_map (λ x. x.now) c.args.fragment) in
    c.document_exists.ensures
    ∙ create_exists n f t c.in_ok-attribute_at.field-0 c.in_ok-root.root (sym c.is_name.ensures.exact ∙ c.if-not-is_name.false) (sym c.is_text_document.ensures ∙ c.if-is_text_document.false)
    c.in_ok-root.ensures (c.in_ok-attribute_at.ensures.found t stands) (sym c.is_some.ensures ∙ c.if-is_some.true)

pub returns-then-is_too_deep_document-clause-place : goal.returns-then-is_too_deep_document-clause-place
returns-then-is_too_deep_document-clause-place g c = λ t stands.
    let n = c.args.name.now in
    let f = plain_or_none (option_map (λ x. x.now) c.args.fragment) in
    c.too_deep.ensures
    ∙ create_deep n f t c.in_ok-attribute_at.field-0 c.in_ok-root.root (sym c.is_name.ensures.exact ∙ c.if-not-is_name.false) (sym c.is_text_document.ensures ∙ c.if-is_text_document.false)
    c.in_ok-root.ensures (c.in_ok-attribute_at.ensures.found t stands) (sym c.is_some.ensures ∙ c.if-is_some.false) (sym c.is_too_deep_document.ensures ∙ c.if-is_too_deep_document.true)

pub returns-clause-place : goal.returns-clause-place
returns-clause-place g c = λ t stands.
    let n = c.args.name.now in
    let f = plain_or_none (option_map (λ x. x.now) c.args.fragment) in
    let read = g.met.S.NodeRead.unchanged_contents _ _ c.in_ok-attribute_at.ensures.unchanged in
    ap answer c.within_limits.ensures
    ∙ create_placed n f t c.in_ok-attribute_at.field-0 c.in_ok-root.root (sym c.is_name.ensures.exact ∙ c.if-not-is_name.false) (sym c.is_text_document.ensures ∙ c.if-is_text_document.false)
    c.in_ok-root.ensures (c.in_ok-attribute_at.ensures.found t stands) c.in_ok-last.last c.in_ok-new.new (sym c.is_some.ensures ∙ c.if-is_some.false) (sym c.is_too_deep_document.ensures ∙ c.if-is_too_deep_document.false)
    (c.in_ok-last.ensures.found t (later _ _ t read stands)) c.in_ok-new.ensures.new

pub returns-clause-suits : goal.returns-clause-suits
returns-clause-suits g c =
    let n = c.args.name.now in
    let f = plain_or_none (option_map (λ x. x.now) c.args.fragment) in
    let named : is_name n ≡ true = sym c.is_name.ensures.exact ∙ c.if-not-is_name.false in
    let child = subst (λ r. IfSome c.in_ok-new.new (λ l. IsTrue (is_child r l))) c.in_ok-root.ensures c.in_ok-new.ensures.child in
    subst (SuitsOrRefused n f) (sym c.within_limits.ensures) (within_suits n f c.in_ok-new.new named child (sym c.is_too_deep_document.ensures ∙ c.if-is_too_deep_document.false))

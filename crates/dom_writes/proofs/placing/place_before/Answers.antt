use Rattle.std.proofs.Common.{◌≡◌, Less, nat_cmp, IfSome, Some, true, sym, ap, subst, ◌∙◌}
use Rattle.std.specs.Cmp.Lexicographic.{slice_cmp}
use Rattle.dewey_labels.specs.Labels.{is_child}
use Rattle.dewey_labels.specs.NewLabels.{new_label}
use Rattle.tree_model.specs.Fragments.{plain}
use Rattle.tree_model.specs.Placing.{has_child, insert_into}
use Rattle.tree_model.specs.Tree.{at, record_of}
use Rattle.dom_reads.proofs.ReplyLaws.{later}
use Rattle.dom_writes.specs.inside.NewPlaces.{SuitsOrRefused, answer}
use Rattle.dom_writes.proofs.PlacedCalls.{child_found, insert_deep, insert_full, insert_no_child, insert_placed, insert_text, sibling_is_child, unseen_reply, within_suits}
use Rattle.dom_writes.proofs.placing.place_before.Goals as goal

pub child_beside-requires-clause-left_child : goal.child_beside-requires-clause-left_child
child_beside-requires-clause-left_child g c =
    sibling_is_child c.args.at.now c.args.child.now c.in_ok-left.left c.divisions-divisions.ensures.label.0 (c.in_ok-has_child.ensures.child c.if-not-branch.false) c.in_ok-left.ensures.sibling

pub child_beside-requires-clause-right_child : goal.child_beside-requires-clause-right_child
child_beside-requires-clause-right_child g c = subst (λ k. is_child c.args.at.now k ≡ true) (sym c.in_ok-copy.ensures) (c.in_ok-has_child.ensures.child c.if-not-branch.false)

pub child_beside-requires-clause-order : goal.child_beside-requires-clause-order
child_beside-requires-clause-order g c = subst (λ k. IfSome c.in_ok-left.left (λ l. slice_cmp nat_cmp l k ≡ Less)) (sym c.in_ok-copy.ensures) c.in_ok-left.ensures.ahead

pub returns-in_default-clause-place : goal.returns-in_default-clause-place
returns-in_default-clause-place g c = λ t stands.
    let p = c.args.at.now in
    c.not_found.ensures ∙ unseen_reply (insert_into p c.args.child.now (plain c.args.fragment.now) t) (at p t.documents) t (sym c.in_default.is ∙ c.in_ok-parent.ensures.found t stands)

pub returns-then-is_text-clause-place : goal.returns-then-is_text-clause-place
returns-then-is_text-clause-place g c = λ t stands.
    let p = c.args.at.now in
    let e : Some c.in-Some.parent ≡ record_of (at p t.documents) = sym c.in-Some.is ∙ c.in_ok-parent.ensures.found t stands in
    c.hierarchy_request.ensures ∙ insert_text p c.args.child.now (plain c.args.fragment.now) t stands.valid c.in-Some.parent e (sym c.is_text.ensures ∙ c.if-is_text.true)

pub returns-then-not-branch-clause-place : goal.returns-then-not-branch-clause-place
returns-then-not-branch-clause-place g c = λ t stands.
    let p = c.args.at.now in
    let e : Some c.in-Some.parent ≡ record_of (at p t.documents) = sym c.in-Some.is ∙ c.in_ok-parent.ensures.found t stands in
    let read = g.met.S.NodeRead.unchanged_contents _ _ c.in_ok-parent.ensures.unchanged in
    c.not_found-then-not-branch.ensures
    ∙ insert_no_child p c.args.child.now (plain c.args.fragment.now) t stands.valid c.in-Some.parent e (sym c.is_text.ensures ∙ c.if-is_text.false)
    (sym (c.in_ok-has_child.ensures.there t (later _ _ t read stands)) ∙ c.if-not-branch.true)

pub returns-then-is_document-clause-place : goal.returns-then-is_document-clause-place
returns-then-is_document-clause-place g c = λ t stands.
    let p = c.args.at.now in
    let e : Some c.in-Some.parent ≡ record_of (at p t.documents) = sym c.in-Some.is ∙ c.in_ok-parent.ensures.found t stands in
    let read = g.met.S.NodeRead.unchanged_contents _ _ c.in_ok-parent.ensures.unchanged in
    c.hierarchy_request-then-is_document.ensures
    ∙ insert_full p c.args.child.now (plain c.args.fragment.now) t stands.valid c.in-Some.parent e (sym c.is_text.ensures ∙ c.if-is_text.false)
    (sym (c.in_ok-has_child.ensures.there t (later _ _ t read stands)) ∙ c.if-not-branch.false) (sym c.is_document.ensures ∙ c.if-is_document.true)

pub returns-then-is_too_deep-clause-place : goal.returns-then-is_too_deep-clause-place
returns-then-is_too_deep-clause-place g c = λ t stands.
    let p = c.args.at.now in
    let e : Some c.in-Some.parent ≡ record_of (at p t.documents) = sym c.in-Some.is ∙ c.in_ok-parent.ensures.found t stands in
    let read = g.met.S.NodeRead.unchanged_contents _ _ c.in_ok-parent.ensures.unchanged in
    c.too_deep.ensures
    ∙ insert_deep p c.args.child.now (plain c.args.fragment.now) t stands.valid c.in-Some.parent e (sym c.is_text.ensures ∙ c.if-is_text.false)
    (sym (c.in_ok-has_child.ensures.there t (later _ _ t read stands)) ∙ c.if-not-branch.false) (sym c.is_document.ensures ∙ c.if-is_document.false)
    (sym c.is_too_deep.ensures ∙ c.if-is_too_deep.true)

pub returns-clause-place : goal.returns-clause-place
returns-clause-place g c = λ t stands.
    let p = c.args.at.now in
    let k = c.args.child.now in
    let law = g.met.S.NodeRead in
    let e : Some c.in-Some.parent ≡ record_of (at p t.documents) = sym c.in-Some.is ∙ c.in_ok-parent.ensures.found t stands in
    let read = law.unchanged_contents _ _ c.in_ok-parent.ensures.unchanged in
    let then_read = law.unchanged_contents _ _ c.in_ok-has_child.ensures.unchanged ∙ read in
    let there : has_child p k t ≡ true = sym (c.in_ok-has_child.ensures.there t (later _ _ t read stands)) ∙ c.if-not-branch.false in
    ap answer c.within_limits.ensures
    ∙ insert_placed p k (plain c.args.fragment.now) t stands.valid c.in-Some.parent e c.in_ok-left.left c.in_ok-new.new
    (sym c.is_text.ensures ∙ c.if-is_text.false) there (sym c.is_document.ensures ∙ c.if-is_document.false) (sym c.is_too_deep.ensures ∙ c.if-is_too_deep.false)
    (c.in_ok-left.ensures.found t (later _ _ t then_read stands) (child_found p k t there))
    (c.in_ok-new.ensures.new ∙ ap (λ m. new_label p c.in_ok-left.left (Some m)) c.in_ok-copy.ensures)

pub returns-clause-suits : goal.returns-clause-suits
returns-clause-suits g c =
    let p = c.args.at.now in
    let f = plain c.args.fragment.now in
    subst (SuitsOrRefused p f) (sym c.within_limits.ensures) (within_suits p f c.in_ok-new.new c.in_ok-new.ensures.child (sym c.is_too_deep.ensures ∙ c.if-is_too_deep.false))

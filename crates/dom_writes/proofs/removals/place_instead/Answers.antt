use Rattle.std.proofs.Common.{◌≡◌, true, false, Some, Err, sym, ap, subst, ◌∙◌}
use Rattle.dewey_labels.specs.Labels.{Label}
use Rattle.tree_model.specs.Fragments.{Fragments, plain}
use Rattle.tree_model.specs.Outcomes.{is_refused}
use Rattle.tree_model.specs.Placing.{has_child}
use Rattle.tree_model.specs.Tree.{at, record_of}
use Rattle.tree_model.specs.declared.record.Record.{Record}
use Rattle.tree_model.specs.declared.reply.Reply.{Reply}
use Rattle.dom_reads.proofs.ReplyLaws.{later}
use Rattle.dom_writes.specs.inside.NewPlaces.{SuitsOrRefused}
use Rattle.dom_writes.specs.inside.Outcomes.{placed_instead}
use Rattle.dom_writes.proofs.PlacedCalls.{child_found, sibling_is_child, within_suits}
use Rattle.dom_writes.proofs.ReplacementLaws.{neighbours_rise, replace_deep, replace_no_child, replace_placed, replace_text, replace_unseen}
use Rattle.dom_writes.proofs.removals.place_instead.Goals as goal

pub child_beside-requires-clause-left_child : goal.child_beside-requires-clause-left_child
child_beside-requires-clause-left_child g c =
    sibling_is_child c.args.at.now c.args.old.now c.in_ok-left.left c.divisions-divisions.ensures.label.0 (c.in_ok-has_child.ensures.child c.if-not-branch.false) c.in_ok-left.ensures.sibling

pub child_beside-requires-clause-right_child : goal.child_beside-requires-clause-right_child
child_beside-requires-clause-right_child g c =
    sibling_is_child c.args.at.now c.args.old.now c.in_ok-right.right c.divisions-divisions.ensures.label.0 (c.in_ok-has_child.ensures.child c.if-not-branch.false) c.in_ok-right.ensures.sibling

pub child_beside-requires-clause-order : goal.child_beside-requires-clause-order
child_beside-requires-clause-order g c = neighbours_rise c.args.old.now c.in_ok-left.left c.in_ok-right.right c.in_ok-left.ensures.ahead c.in_ok-right.ensures.behind

pub returns-in_default-clause-place : goal.returns-in_default-clause-place
returns-in_default-clause-place g c t stands =
    let p : Label = c.args.at.now in
    let k : Label = c.args.old.now in
    let f : Fragments = plain c.args.fragment.now in
    ap (λ (r : Reply). placed_instead k f t (Err r)) c.not_found.ensures
    ∙ replace_unseen p k f t (sym c.in_default.is ∙ c.in_ok-parent.ensures.found t stands)

pub returns-in_default-clause-suits : goal.returns-in_default-clause-suits
returns-in_default-clause-suits g c = ap is_refused c.not_found.ensures

pub returns-then-not-branch-clause-place : goal.returns-then-not-branch-clause-place
returns-then-not-branch-clause-place g c t stands =
    let p : Label = c.args.at.now in
    let k : Label = c.args.old.now in
    let f : Fragments = plain c.args.fragment.now in
    let r : Record = c.in-Some.parent in
    let e : Some r ≡ record_of (at p t.documents) = sym c.in-Some.is ∙ c.in_ok-parent.ensures.found t stands in
    let read = g.met.S.NodeRead.unchanged_contents _ _ c.in_ok-parent.ensures.unchanged in
    let isnt : has_child p k t ≡ false = sym (c.in_ok-has_child.ensures.there t (later _ _ t read stands)) ∙ c.if-not-branch.true in
    ap (λ (r : Reply). placed_instead k f t (Err r)) c.not_found-then-not-branch.ensures ∙ replace_no_child p k f t r e isnt

pub returns-then-not-branch-clause-suits : goal.returns-then-not-branch-clause-suits
returns-then-not-branch-clause-suits g c = ap is_refused c.not_found-then-not-branch.ensures

pub returns-then-is_text_in_document-clause-place : goal.returns-then-is_text_in_document-clause-place
returns-then-is_text_in_document-clause-place g c t stands =
    let p : Label = c.args.at.now in
    let k : Label = c.args.old.now in
    let f : Fragments = plain c.args.fragment.now in
    let r : Record = c.in-Some.parent in
    let e : Some r ≡ record_of (at p t.documents) = sym c.in-Some.is ∙ c.in_ok-parent.ensures.found t stands in
    let read = g.met.S.NodeRead.unchanged_contents _ _ c.in_ok-parent.ensures.unchanged in
    let there : has_child p k t ≡ true = sym (c.in_ok-has_child.ensures.there t (later _ _ t read stands)) ∙ c.if-not-branch.false in
    ap (λ (r : Reply). placed_instead k f t (Err r)) c.hierarchy_request.ensures
    ∙ replace_text p k f t r e there (sym c.is_text_in_document.ensures ∙ c.if-is_text_in_document.true)

pub returns-then-is_text_in_document-clause-suits : goal.returns-then-is_text_in_document-clause-suits
returns-then-is_text_in_document-clause-suits g c = ap is_refused c.hierarchy_request.ensures

pub returns-then-is_too_deep-clause-place : goal.returns-then-is_too_deep-clause-place
returns-then-is_too_deep-clause-place g c t stands =
    let p : Label = c.args.at.now in
    let k : Label = c.args.old.now in
    let f : Fragments = plain c.args.fragment.now in
    let r : Record = c.in-Some.parent in
    let e : Some r ≡ record_of (at p t.documents) = sym c.in-Some.is ∙ c.in_ok-parent.ensures.found t stands in
    let read = g.met.S.NodeRead.unchanged_contents _ _ c.in_ok-parent.ensures.unchanged in
    let there : has_child p k t ≡ true = sym (c.in_ok-has_child.ensures.there t (later _ _ t read stands)) ∙ c.if-not-branch.false in
    ap (λ (r : Reply). placed_instead k f t (Err r)) c.too_deep.ensures
    ∙ replace_deep p k f t r e there (sym c.is_text_in_document.ensures ∙ c.if-is_text_in_document.false) (sym c.is_too_deep.ensures ∙ c.if-is_too_deep.true)

pub returns-then-is_too_deep-clause-suits : goal.returns-then-is_too_deep-clause-suits
returns-then-is_too_deep-clause-suits g c = ap is_refused c.too_deep.ensures

pub returns-clause-place : goal.returns-clause-place
returns-clause-place g c t stands =
    let law = g.met.S.NodeRead in
    let p : Label = c.args.at.now in
    let k : Label = c.args.old.now in
    let f : Fragments = plain c.args.fragment.now in
    let r : Record = c.in-Some.parent in
    let e : Some r ≡ record_of (at p t.documents) = sym c.in-Some.is ∙ c.in_ok-parent.ensures.found t stands in
    let read = law.unchanged_contents _ _ c.in_ok-parent.ensures.unchanged in
    let tested = law.unchanged_contents _ _ c.in_ok-has_child.ensures.unchanged ∙ read in
    let seen = law.unchanged_contents _ _ c.in_ok-left.ensures.unchanged ∙ tested in
    let there : has_child p k t ≡ true = sym (c.in_ok-has_child.ensures.there t (later _ _ t read stands)) ∙ c.if-not-branch.false in
    ap (placed_instead k f t) c.within_limits.ensures
    ∙ replace_placed p k f t r e c.in_ok-left.left c.in_ok-right.right c.in_ok-new.new there (sym c.is_text_in_document.ensures ∙ c.if-is_text_in_document.false)
    (sym c.is_too_deep.ensures ∙ c.if-is_too_deep.false)
    (c.in_ok-left.ensures.found t (later _ _ t tested stands) (child_found p k t there)) (c.in_ok-right.ensures.found t (later _ _ t seen stands) (child_found p k t there))
    c.in_ok-new.ensures.new

pub returns-clause-suits : goal.returns-clause-suits
returns-clause-suits g c =
    let p = c.args.at.now in
    let f = plain c.args.fragment.now in
    subst (SuitsOrRefused p f) (sym c.within_limits.ensures) (within_suits p f c.in_ok-new.new c.in_ok-new.ensures.child (sym c.is_too_deep.ensures ∙ c.if-is_too_deep.false))

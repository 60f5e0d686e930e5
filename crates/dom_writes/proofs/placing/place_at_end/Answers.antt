use Rattle.std.proofs.Common.{◌≡◌, Some, sym, ap, subst, ◌∙◌}
use Rattle.tree_model.specs.Fragments.{plain}
use Rattle.tree_model.specs.Placing.{append_to}
use Rattle.tree_model.specs.Tree.{at, record_of}
use Rattle.dom_reads.proofs.ReplyLaws.{later}
use Rattle.dom_writes.specs.inside.NewPlaces.{SuitsOrRefused, answer}
use Rattle.dom_writes.proofs.PlacedCalls.{append_deep, append_full, append_placed, append_text, unseen_reply, within_suits}
use Rattle.dom_writes.proofs.placing.place_at_end.Goals as goal

pub returns-in_default-clause-place : goal.returns-in_default-clause-place
returns-in_default-clause-place g c = λ t stands.
    let p = c.args.at.now in
    c.not_found.ensures ∙ unseen_reply (append_to p (plain c.args.fragment.now) t) (at p t.documents) t (sym c.in_default.is ∙ c.in_ok-parent.ensures.found t stands)

pub returns-then-is_text-clause-place : goal.returns-then-is_text-clause-place
returns-then-is_text-clause-place g c = λ t stands.
    let p = c.args.at.now in
    let e : Some c.in-Some.parent ≡ record_of (at p t.documents) = sym c.in-Some.is ∙ c.in_ok-parent.ensures.found t stands in
    c.hierarchy_request.ensures ∙ append_text p (plain c.args.fragment.now) t stands.valid c.in-Some.parent e (sym c.is_text.ensures ∙ c.if-is_text.true)

pub returns-then-takes_none-clause-place : goal.returns-then-takes_none-clause-place
returns-then-takes_none-clause-place g c = λ t stands.
    let p = c.args.at.now in
    let e : Some c.in-Some.parent ≡ record_of (at p t.documents) = sym c.in-Some.is ∙ c.in_ok-parent.ensures.found t stands in
    let read = g.met.S.NodeRead.unchanged_contents _ _ c.in_ok-parent.ensures.unchanged in
    c.hierarchy_request-then-takes_none.ensures
    ∙ append_full p (plain c.args.fragment.now) t stands.valid c.in-Some.parent e c.in_ok-last.last (sym c.is_text.ensures ∙ c.if-is_text.false)
    (c.in_ok-last.ensures.found t (later _ _ t read stands)) (sym c.takes_none.ensures ∙ c.if-takes_none.true)

pub returns-then-is_too_deep-clause-place : goal.returns-then-is_too_deep-clause-place
returns-then-is_too_deep-clause-place g c = λ t stands.
    let p = c.args.at.now in
    let e : Some c.in-Some.parent ≡ record_of (at p t.documents) = sym c.in-Some.is ∙ c.in_ok-parent.ensures.found t stands in
    let read = g.met.S.NodeRead.unchanged_contents _ _ c.in_ok-parent.ensures.unchanged in
    c.too_deep.ensures
    ∙ append_deep p (plain c.args.fragment.now) t stands.valid c.in-Some.parent e c.in_ok-last.last (sym c.is_text.ensures ∙ c.if-is_text.false)
    (c.in_ok-last.ensures.found t (later _ _ t read stands)) (sym c.takes_none.ensures ∙ c.if-takes_none.false) (sym c.is_too_deep.ensures ∙ c.if-is_too_deep.true)

pub returns-clause-place : goal.returns-clause-place
returns-clause-place g c = λ t stands.
    let p = c.args.at.now in
    let e : Some c.in-Some.parent ≡ record_of (at p t.documents) = sym c.in-Some.is ∙ c.in_ok-parent.ensures.found t stands in
    let read = g.met.S.NodeRead.unchanged_contents _ _ c.in_ok-parent.ensures.unchanged in
    ap answer c.within_limits.ensures
    ∙ append_placed p (plain c.args.fragment.now) t stands.valid c.in-Some.parent e c.in_ok-last.last (sym c.is_text.ensures ∙ c.if-is_text.false)
    (c.in_ok-last.ensures.found t (later _ _ t read stands)) (sym c.takes_none.ensures ∙ c.if-takes_none.false) c.in_ok-new.new (sym c.is_too_deep.ensures ∙ c.if-is_too_deep.false)
    c.in_ok-new.ensures.new

pub returns-clause-suits : goal.returns-clause-suits
returns-clause-suits g c =
    let p = c.args.at.now in
    let f = plain c.args.fragment.now in
    subst (SuitsOrRefused p f) (sym c.within_limits.ensures) (within_suits p f c.in_ok-new.new c.in_ok-new.ensures.child (sym c.is_too_deep.ensures ∙ c.if-is_too_deep.false))

use Rattle.std.proofs.Common.{OnErr, Result, Ok, Err, ◌&&◌, ◌==◌, not, cond, Some, sym, ap, ◌∙◌, subst, refl, true≢false}
use Rattle.std.specs.List.{list_any}
use Rattle.lock_table.specs.Asks.{join_with, is_barred_by, Covers}
use Rattle.lock_table.specs.Resources.{same_resource}
use Rattle.lock_table.specs.Tables.{held, AreHolders}
use Rattle.lock_table.specs.inside.Rows.{held_in}
use Rattle.lock_table.proofs.Shown.{shown, shown_as}
use Rattle.lock_table.proofs.Listing.{absurd}
use Rattle.lock_table.proofs.Again.{together_held, covered_nobody, covered_granted}
use Rattle.lock_table.proofs.GroupModes.{groups_of_same, groups_of_grant}
use Rattle.lock_table.proofs.table.LockTable.ask.Goals as goal

on_err : {T E P : Type 0} (r : Result T E) → P → OnErr r P
on_err (Ok x) p = tt
on_err (Err e) p = p

pub invariant_of-self-in_err-grant : goal.invariant_of-self-in_err-grant
invariant_of-self-in_err-grant c = (c.grant.ensures.kept, groups_of_same c.admitted.new.groups c.self.inside.rows c.grant.new.rows c.admitted.ensures.groups c.in_err-grant.ensures.err)

pub returns-in_err-grant-clause-err : goal.returns-in_err-grant-clause-err
returns-in_err-grant-clause-err c = on_err c.from_residual-in_err-grant.result
    (λ o r. shown c.grant.new.rows o r ∙ c.in_err-grant.ensures.err o r ∙ sym (shown_as c.self.inside.rows c.args.self.now c.self.view_is o r))

pub invariant_of-self-2 : goal.invariant_of-self-2
invariant_of-self-2 c = (
  c.grant.ensures.kept,
  groups_of_grant c.admitted.new.groups c.self.inside.rows c.grant.new.rows c.args.owner c.args.request.now.resource c.args.request.now.ask c.held-before.result
      c.admitted.ensures.groups (c.in_ok-holders.ensures.under (c.if-not-is_empty.ensures.0 refl)) c.held-before.ensures c.in_ok-grant.ensures.ok,
)

pub returns-then-not-is_empty-clause-answer : goal.returns-then-not-is_empty-clause-answer
returns-then-not-is_empty-clause-answer c =
    let holders : AreHolders c.args.self.now c.args.owner c.args.request.now c.in_ok-holders.holders = record {
      rising = c.in_ok-holders.ensures.rising;
      each = λ o. c.in_ok-holders.ensures.each o ∙ ap (λ h. not (o == c.args.owner) && is_barred_by c.args.request.now.ask h) (sym (shown_as c.self.inside.rows c.args.self.now c.self.view_is o c.args.request.now.resource));
    } in
    (holders, λ e. true≢false (sym (c.if-not-is_empty.ensures.1 e)), λ o r. shown c.self.inside.rows o r ∙ sym (shown_as c.self.inside.rows c.args.self.now c.self.view_is o r))

pub returns-clause-answer : goal.returns-clause-answer
returns-clause-answer c =
    let holders : AreHolders c.args.self.now c.args.owner c.args.request.now c.in_ok-holders.holders = record {
      rising = c.in_ok-holders.ensures.rising;
      each = λ o. c.in_ok-holders.ensures.each o ∙ ap (λ h. not (o == c.args.owner) && is_barred_by c.args.request.now.ask h) (sym (shown_as c.self.inside.rows c.args.self.now c.self.view_is o c.args.request.now.resource));
    } in (
      subst (AreHolders c.args.self.now c.args.owner c.args.request.now) (c.if-not-is_empty.ensures.0 refl) holders,
      λ o r. shown c.grant.new.rows o r ∙ c.in_ok-grant.ensures.ok o r
          ∙ ap (λ h. cond ((c.args.owner == o) && same_resource c.args.request.now.resource r) (Some (join_with c.args.request.now.ask h)) (held_in c.self.inside.rows o r))
          (c.held-before.ensures ∙ sym (shown_as c.self.inside.rows c.args.self.now c.self.view_is c.args.owner c.args.request.now.resource))
          ∙ ap (cond ((c.args.owner == o) && same_resource c.args.request.now.resource r) (Some (join_with c.args.request.now.ask (held c.args.self.now c.args.owner c.args.request.now.resource)))) (sym (shown_as c.self.inside.rows c.args.self.now c.self.view_is o r)),
    )

pub returns-then-covers-clause-answer : goal.returns-then-covers-clause-answer
returns-then-covers-clause-answer c =
    let covers : Covers (held c.args.self.now c.args.owner c.args.request.now.resource) c.args.request.now.ask =
    subst (λ h. Covers h c.args.request.now.ask) (c.held-before.ensures ∙ sym (shown_as c.self.inside.rows c.args.self.now c.self.view_is c.args.owner c.args.request.now.resource)) (c.if-covers.ensures.0 refl) in (
      covered_nobody c.args.self.now c.args.owner c.args.request.now covers (λ o off. together_held c.self.inside.rows c.args.self.now c.self.view_is c.self.invariant.0.together c.args.owner o c.args.request.now.resource off),
      covered_granted c.args.self.now c.args.owner c.args.request.now covers,
    )

pub returns-in_err-holders-clause-again : goal.returns-in_err-holders-clause-again
returns-in_err-holders-clause-again c = λ covers. absurd (c.if-covers.ensures.1 (subst (λ h. Covers h c.args.request.now.ask) (sym (c.held-before.ensures ∙ sym (shown_as c.self.inside.rows c.args.self.now c.self.view_is c.args.owner c.args.request.now.resource))) covers))

pub returns-then-not-is_empty-clause-again : goal.returns-then-not-is_empty-clause-again
returns-then-not-is_empty-clause-again c = λ covers. absurd (c.if-covers.ensures.1 (subst (λ h. Covers h c.args.request.now.ask) (sym (c.held-before.ensures ∙ sym (shown_as c.self.inside.rows c.args.self.now c.self.view_is c.args.owner c.args.request.now.resource))) covers))

pub returns-in_err-grant-clause-again : goal.returns-in_err-grant-clause-again
returns-in_err-grant-clause-again c = λ covers. absurd (c.if-covers.ensures.1 (subst (λ h. Covers h c.args.request.now.ask) (sym (c.held-before.ensures ∙ sym (shown_as c.self.inside.rows c.args.self.now c.self.view_is c.args.owner c.args.request.now.resource))) covers))

pub grant-requires-clause-free : goal.grant-requires-clause-free
grant-requires-clause-free c = λ p off.
    sym (c.in_ok-holders.ensures.each p ∙ ap (λ b. not b && is_barred_by c.args.request.now.ask (held_in c.self.inside.rows p c.args.request.now.resource)) off)
    ∙ ap (list_any (λ h. h == p)) (c.if-not-is_empty.ensures.0 refl)

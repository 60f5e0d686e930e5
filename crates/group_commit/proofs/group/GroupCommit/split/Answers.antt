use Rattle.std.proofs.Common.{◌≡◌, ◌≢◌, ◌<◌, ℕ, true, ap, sym, subst, ◌∙◌}
use Rattle.turn_lock.specs.Turns.{has_number}
use Rattle.shared_store.specs.Sessions.{SessionView}
use Rattle.group_commit.specs.Members.{GroupView, MemberView, only_with, without_number}
use Rattle.group_commit.proofs.Grouping.{another_left, given_member, kept_member}
use Rattle.group_commit.proofs.group.GroupCommit.split.Goals as goal

pub split-session-requires-clause-store : goal.split-session-requires-clause-store
split-session-requires-clause-store g c = ap (λ (v : MemberView _ _). v.session.lock) c.member.view_is ∙ (c.requires.group.0 ∙ sym (ap (λ (v : GroupView). v.store) c.self.view_is))

pub split-session-requires-clause-number : goal.split-session-requires-clause-number
split-session-requires-clause-number g c = subst (λ (v : MemberView _ _). (has_number v.session.has c.args.number ≡ true) × (v.session.under ≢ c.args.number)) (sym c.member.view_is) c.requires.number

pub split-pass-requires-clause-lock : goal.split-pass-requires-clause-lock
split-pass-requires-clause-lock g c = ap (λ (v : MemberView _ _). v.pass.lock) c.member.view_is ∙ (c.requires.group.1 ∙ sym (ap (λ (v : GroupView). v.lock) c.self.view_is))

pub split-pass-requires-clause-turn : goal.split-pass-requires-clause-turn
split-pass-requires-clause-turn g c = c.member.invariant.turn

pub split-pass-requires-clause-number : goal.split-pass-requires-clause-number
split-pass-requires-clause-number g c =
    let small = subst (λ (k : ℕ). k < 65) (ap (λ (v : SessionView _ _). v.under) c.split-session.ensures.given) c.number-number.ensures.small in
    c.member.invariant.numbers c.args.number small (subst (λ (v : MemberView _ _). has_number v.session.has c.args.number ≡ true) (sym c.member.view_is) c.requires.number.0)

pub split-pass-requires-clause-another : goal.split-pass-requires-clause-another
split-pass-requires-clause-another g c =
    let m = c.member.inside in
    let small = subst (λ (k : ℕ). k < 65) (ap (λ (v : SessionView _ _). v.under) c.split-session.ensures.given) c.number-number.ensures.small in
    another_left m.session m.pass m.durable c.member.invariant c.args.number small (subst (λ (v : MemberView _ _). v.session.under ≢ c.args.number) (sym c.member.view_is) c.requires.number.1)

pub invariant_of-member : goal.invariant_of-member
invariant_of-member g c =
    let m = c.member.inside in
    let small = subst (λ (k : ℕ). k < 65) (ap (λ (v : SessionView _ _). v.under) c.split-session.ensures.given) c.number-number.ensures.small in
    kept_member m.session m.pass m.durable c.member.invariant c.args.number small c.split-session.new.self c.split-pass.new.pass (subst (λ (v : MemberView _ _). v.session.under ≢ c.args.number) (sym c.member.view_is) c.requires.number.1)
    c.split-session.ensures.kept c.split-pass.ensures.kept

pub invariant_of-result : goal.invariant_of-result
invariant_of-result g c =
    let m = c.member.inside in
    let small = subst (λ (k : ℕ). k < 65) (ap (λ (v : SessionView _ _). v.under) c.split-session.ensures.given) c.number-number.ensures.small in
    given_member m.session m.pass m.durable c.member.invariant c.args.number small c.split-session.result c.split-pass.result c.split-session.ensures.given c.split-pass.ensures.given

pub returns-clause-kept : goal.returns-clause-kept
returns-clause-kept g c =
    (λ i. record { session = c.split-session.ensures.kept i; pass = c.split-pass.ensures.kept i })
    ∙ ap (λ (v : MemberView _ _). without_number c.args.number v) c.member.view_is

pub returns-clause-given : goal.returns-clause-given
returns-clause-given g c =
    (λ i. record { session = c.split-session.ensures.given i; pass = c.split-pass.ensures.given i })
    ∙ ap (λ (v : MemberView _ _). only_with c.args.number v) c.member.view_is

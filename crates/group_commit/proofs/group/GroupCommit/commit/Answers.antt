use Rattle.std.proofs.Common.{◌≡◌, ℕ, ap, sym, subst, ◌∙◌, refl}
use Rattle.std.specs.Prelude.{Err}
use Rattle.std.proofs.lemmas.Result.{err_from_is_err_and}
use Rattle.shared_store.specs.Sessions.{SessionView}
use Rattle.group_commit.specs.Members.{GroupView, HasCommittedAll, IsAnswered, MemberView}
use Rattle.group_commit.specs.inside.Scribes.{marks_in}
use Rattle.group_commit.proofs.Belonging.{done_grown, grown_committed, member, member_stays}
use Rattle.group_commit.proofs.Committing.{answered_adds, gives, opening_lock, refused, settle_number, turned, turned_member, visible}
use Rattle.group_commit.proofs.group.GroupCommit.commit.Goals as goal

pub settle-result-requires-clause-store : goal.settle-result-requires-clause-store
settle-result-requires-clause-store g c =
    let m = c.member.inside in
    let v = member m.session m.pass in
    let lock : m.session.lock ≡ c.self.inside.store = ap (λ (x : MemberView _ _). x.session.lock) c.member.view_is ∙ (c.requires.0 ∙ sym (ap (λ (x : GroupView). x.store) c.self.view_is)) in (
      opening_lock v m.durable c.take-turn.result.value c.member.invariant c.take-turn.ensures.goes_on ∙ lock,
      ap (λ (x : SessionView _ _). x.lock) c.commit.ensures.done.same ∙ lock,
    )

pub settle-result-requires-clause-number : goal.settle-result-requires-clause-number
settle-result-requires-clause-number g c =
    let m = c.member.inside in
    let v = member m.session m.pass in
    settle_number g.B.NodeRead.contents g.C.TreeCall.meaning v m.durable c.commit.new.self c.in_ok-number.number c.commit.result c.take-turn.result.value c.member.invariant c.in_ok-number.was c.commit.ensures.done c.take-turn.ensures.goes_on

pub give-requires-clause-grew : goal.give-requires-clause-grew
give-requires-clause-grew g c =
    let m = c.member.inside in
    let stays = member_stays m.session c.commit.new.self m.pass m.durable c.member.invariant c.commit.ensures.done.same
    (done_grown m.session c.commit.new.self _ c.commit.ensures.done (grown_committed g.B.NodeRead.contents g.C.TreeCall.meaning c.commit.ensures.done.before c.commit.new.self.seen m.session.under c.commit.result c.commit.ensures.done.did)) in
    gives m.pass c.take-turn.new.pass c.take-turn.new.pass _ _ c.take-turn.ensures.pass (answered_adds m.pass.has (marks_in c.take-turn.result.value) (marks_in c.settle-result.new.self) c.commit.new.self.under c.in_ok-number.number c.settle-result.result stays.own c.settle-result.ensures.answer)

-- what the session's own call was answered, where that isn't a number
pub invariant_of-member : goal.invariant_of-member
invariant_of-member g c =
    let m = c.member.inside in
    member_stays m.session c.commit.new.self m.pass m.durable c.member.invariant c.commit.ensures.done.same
    (done_grown m.session c.commit.new.self _ c.commit.ensures.done (grown_committed g.B.NodeRead.contents g.C.TreeCall.meaning c.commit.ensures.done.before c.commit.new.self.seen m.session.under c.commit.result c.commit.ensures.done.did))

pub returns-in_err-number : goal.returns-in_err-number
returns-in_err-number g c =
    let m = c.member.inside in
    let v = member m.session m.pass in
    let w = member c.commit.new.self m.pass in
    let p = err_from_is_err_and c.from_residual.result c.from_residual.ensures.1 in
    subst (λ (x : MemberView _ _). HasCommittedAll g.B.NodeRead.contents g.C.TreeCall.meaning x w c.from_residual.result) c.member.view_is
    (refused g.B.NodeRead.contents g.C.TreeCall.meaning v w c.commit.result c.from_residual.result c.in_err-number.field-0.0 c.in_err-number.was (p.1 ∙ ap Err p.2) c.commit.ensures.done refl)

pub invariant_of-member-2 : goal.invariant_of-member-2
invariant_of-member-2 g c =
    let m = c.member.inside in
    let stays = member_stays m.session c.commit.new.self m.pass m.durable c.member.invariant c.commit.ensures.done.same
    (done_grown m.session c.commit.new.self _ c.commit.ensures.done (grown_committed g.B.NodeRead.contents g.C.TreeCall.meaning c.commit.ensures.done.before c.commit.new.self.seen m.session.under c.commit.result c.commit.ensures.done.did)) in
    turned_member m.pass c.take-turn.new.pass c.give.new.pass _ _ c.take-turn.ensures.pass c.give.ensures.pass c.commit.new.self c.settle-result.new.session m.durable c.durable-member-inside.result
    stays c.settle-result.ensures.session c.take-turn.ensures.goes_on (answered_adds m.pass.has (marks_in c.take-turn.result.value) (marks_in c.settle-result.new.self) c.commit.new.self.under c.in_ok-number.number c.settle-result.result stays.own c.settle-result.ensures.answer) c.durable-member-inside.ensures

pub returns : goal.returns
returns g c =
    let m = c.member.inside in
    let v = member m.session m.pass in
    let w = member c.settle-result.new.session c.give.new.pass in
    let under : c.commit.new.self.under ≡ m.session.under = ap (λ (x : SessionView _ _). x.under) c.commit.ensures.done.same in
    let turn = turned m.pass c.take-turn.new.pass c.give.new.pass (marks_in c.take-turn.result.value) (marks_in c.settle-result.new.self) c.take-turn.ensures.pass c.give.ensures.pass m.session.under c.in_ok-number.number c.settle-result.result c.member.invariant.turn c.take-turn.ensures.goes_on
    (subst (λ (u : ℕ). IsAnswered (marks_in c.take-turn.result.value) u c.in_ok-number.number c.settle-result.result (marks_in c.settle-result.new.self)) under c.settle-result.ensures.answer) in
    subst (λ (x : MemberView _ _). HasCommittedAll g.B.NodeRead.contents g.C.TreeCall.meaning x w c.settle-result.result) c.member.view_is
    (visible g.B.NodeRead.contents g.C.TreeCall.meaning v w c.commit.new.self c.commit.result c.settle-result.result c.in_ok-number.number c.in_ok-number.was c.settle-result.ensures.session c.commit.ensures.done c.commit.ensures.ended turn)

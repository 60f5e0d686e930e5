use Rattle.std.proofs.Common.{◌≡◌, ap, sym, subst, ◌∙◌}
use Rattle.group_commit.specs.Marks.{last_commit}
use Rattle.group_commit.specs.Members.{GroupView, HasMadeDurable, MemberView}
use Rattle.group_commit.specs.inside.Scribes.{marks_in}
use Rattle.group_commit.proofs.Belonging.{member}
use Rattle.group_commit.proofs.Committing.{gives, made, made_adds, opening_lock, turned_member}
use Rattle.group_commit.proofs.group.GroupCommit.make_durable.Goals as goal

pub settle_all-result-requires : goal.settle_all-result-requires
settle_all-result-requires g c =
    let m = c.member.inside in
    let lock : m.session.lock ≡ c.self.inside.store = ap (λ (x : MemberView _ _). x.session.lock) c.member.view_is ∙ (c.requires.0 ∙ sym (ap (λ (x : GroupView). x.store) c.self.view_is)) in
    record { store = (opening_lock (member m.session m.pass) m.durable c.take-turn.result.value c.member.invariant c.take-turn.ensures.goes_on ∙ lock, lock) }

pub give-requires-clause-grew : goal.give-requires-clause-grew
give-requires-clause-grew g c =
    let m = c.member.inside in
    gives m.pass c.take-turn.new.pass c.take-turn.new.pass _ _ c.take-turn.ensures.pass (made_adds m.pass.has (marks_in c.take-turn.result.value) (marks_in c.settle_all-result.new.self) m.session.under (last_commit m.session.seen) c.settle_all-result.result c.member.invariant.own c.settle_all-result.ensures.answer)

pub invariant_of-member : goal.invariant_of-member
invariant_of-member g c =
    let m = c.member.inside in
    turned_member m.pass c.take-turn.new.pass c.give.new.pass _ _ c.take-turn.ensures.pass c.give.ensures.pass m.session c.settle_all-result.new.session m.durable c.durable-member-inside.result c.member.invariant c.settle_all-result.ensures.session c.take-turn.ensures.goes_on
    (made_adds m.pass.has (marks_in c.take-turn.result.value) (marks_in c.settle_all-result.new.self) m.session.under (last_commit m.session.seen) c.settle_all-result.result c.member.invariant.own c.settle_all-result.ensures.answer) c.durable-member-inside.ensures

pub returns : goal.returns
returns g c =
    let m = c.member.inside in
    subst (λ (v : MemberView _ _). HasMadeDurable v (member c.settle_all-result.new.session c.give.new.pass) c.settle_all-result.result) c.member.view_is
    (made m.pass c.take-turn.new.pass c.give.new.pass (marks_in c.take-turn.result.value) (marks_in c.settle_all-result.new.self) c.take-turn.ensures.pass c.give.ensures.pass m.session c.settle_all-result.new.session c.settle_all-result.result
    c.member.invariant.turn c.settle_all-result.ensures.session c.take-turn.ensures.goes_on c.settle_all-result.ensures.answer)

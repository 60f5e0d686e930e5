use Rattle.std.proofs.Common.{◌≡◌, ◌<◌, ℕ, true, ap, subst, ◌∙◌}
use Rattle.turn_lock.specs.Turns.{has_number}
use Rattle.shared_store.specs.Lists.{is_opened}
use Rattle.group_commit.specs.Members.{MemberView}
use Rattle.group_commit.proofs.member.Member.number.Goals as goal

pub returns-clause-number : goal.returns-clause-number
returns-clause-number g c = c.number.ensures.number ∙ ap (λ (v : MemberView _ _). v.session.under) c.self.view_is

pub returns-clause-own : goal.returns-clause-own
returns-clause-own g c = subst (λ (v : MemberView _ _). has_number v.session.has v.session.under ≡ true) c.self.view_is c.number.ensures.own

pub returns-clause-small : goal.returns-clause-small
returns-clause-small g c = subst (λ (v : MemberView _ _). v.session.under < 65) c.self.view_is c.number.ensures.small

pub returns-clause-opened : goal.returns-clause-opened
returns-clause-opened g c = subst (λ (v : MemberView _ _). is_opened v.session.seen ≡ true) c.self.view_is c.number.ensures.opened

pub returns-clause-pass : goal.returns-clause-pass
returns-clause-pass g c = subst (λ (v : MemberView _ _). (n : ℕ) → n < 65 → has_number v.session.has n ≡ true → has_number v.pass.has n ≡ true) c.self.view_is c.self.invariant.numbers

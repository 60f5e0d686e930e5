-- What a member of a group commit is after others were split off and joined again.
use Rattle.std.specs.Prelude.{◌≡◌, ◌<◌, ◌≤◌, ℕ, true}
use Rattle.turn_lock.specs.Turns.{has_number}
use Rattle.group_commit.specs.Members.{MemberView}

-- it belongs to the same group commit, works under the same number, and has each number that it had
pub record HasComeBack {C B : Type 0} (v w : MemberView C B) : Type 0 where
  pub store : w.session.lock ≡ v.session.lock
  pub lock : w.pass.lock ≡ v.pass.lock
  pub under : w.session.under ≡ v.session.under
  pub session : (n : ℕ) → has_number v.session.has n ≡ true → has_number w.session.has n ≡ true
  pub pass : (n : ℕ) → has_number v.pass.has n ≡ true → has_number w.pass.has n ≡ true

-- it has each number from 1 up to this one
abbrev pub HasUpTo : {C B : Type 0} → ℕ → MemberView C B → Type 0
HasUpTo last member = (n : ℕ) → 0 < n → n ≤ last → has_number member.session.has n ≡ true

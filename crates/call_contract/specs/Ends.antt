-- What the end of a transaction by an abort or a deadlock leaves: all but that transaction.
use Rattle.std.specs.Prelude.{◌≡◌, ◌≢◌, ℕ, None}
use Rattle.call_contract.specs.States.{State, of_session, without}

-- the session's transaction is gone with all that it held, and nothing else changed
pub record LeavesAllElse {C : Type 0} (old new : State C) (s : ℕ) : Type 0 where
  pub gone : of_session s new.live ≡ None
  pub others : (u : ℕ) → u ≢ s → of_session u new.live ≡ of_session u old.live
  pub tree : new.tree ≡ old.tree
  pub number : new.number ≡ old.number
  pub begun : new.begun ≡ old.begun
  pub ordinals : new.ordinals ≡ old.ordinals
  pub waiting : new.waiting ≡ without s old.waiting

-- What lines do to the committed tree and its number (docs/PROFILE.md, "Lines of sessions").
use Rattle.std.specs.Prelude.{◌≡◌, ℕ, ◌+◌, Some}
use Rattle.call_contract.specs.Calls.{CallMeaning}
use Rattle.call_contract.specs.States.{Live, State, of_session, view}
use Rattle.session_driver.specs.Lines.{Asked, after_line}

-- they are as they were
pub record SameCommitted {C : Type 0} (old new : State C) : Type 0 where
  pub tree : new.tree ≡ old.tree
  pub number : new.number ≡ old.number

-- a line leaves them so
abbrev pub LineLeavesCommitted : {C : Type 0} → CallMeaning C → State C → Asked C → Type 0
LineLeavesCommitted m st line = SameCommitted st (after_line m st line).state

-- the tree is what the session's transaction saw, and the number the next one
pub record Commits {C : Type 0} (m : CallMeaning C) (old : State C) (s : ℕ) (new : State C) : Type 0 where
  pub transaction : Live C
  pub live : of_session s old.live ≡ Some transaction
  pub tree : new.tree ≡ view m transaction.calls old.tree
  pub number : new.number ≡ old.number + 1

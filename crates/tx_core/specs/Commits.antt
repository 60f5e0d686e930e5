-- Commits: what is prepared of them, and when a transaction has changed too much for one.
use Rattle.std.specs.Prelude.{◌≡◌, ◌≢◌, ◌≤◌, ℕ, nat_lt, Bool, true, List, [], length, Some, IsSome}
use Rattle.std.specs.Option.{unwrap_or}
use Rattle.node_records.specs.Changes.{changes_bytes, changes_of as changes_read}
use Rattle.node_records.specs.declared.pending.Pending.{Pending}
use Rattle.tree_model.specs.declared.change.Change.{Change}
use Rattle.node_seq.specs.ChangeLists.{IsChangeList}
use Rattle.call_contract.specs.Books.{entry}
use Rattle.call_contract.specs.CallChanges.{changes_of_calls}
use Rattle.call_contract.specs.Calls.{CallMeaning}
use Rattle.call_contract.specs.Lives.{IsReplayed}
use Rattle.call_contract.specs.States.{Live, State, of_session}
use Rattle.call_contract.specs.declared.events.Event.TheVariants as event
use Rattle.call_contract.specs.declared.events.EventAnswer.TheVariants as said
use Rattle.tx_core.specs.Cores.{CoreView, next_number, with_entry, with_pending}

-- a commit that is prepared: its number, and its body with the changes that it is read as
pub record PreparedView : Type 0 where
  pub number : ℕ
  pub changes : List Change
  pub body : List ℕ

-- the changes that a body is read as
abbrev pub changes_in : List ℕ → List Change
changes_in body = unwrap_or (changes_read body) []

-- a number and a body, with what the body is read as
abbrev pub prepared_view : ℕ → List ℕ → PreparedView
prepared_view number body = record { number = number; changes = changes_in body; body = body }

-- these bytes are read as changes
abbrev pub IsRead : List ℕ → Type 0
IsRead body = IsSome (changes_read body)

-- the most bytes that a commit's body may have
abbrev pub body_limit : ℕ
body_limit = 4294967295

-- what the transaction has changed is more than a commit may hold
abbrev pub is_past_limit : {C : Type 0} → CallMeaning C → State C → Live C → Bool
is_past_limit m st t = nat_lt body_limit (length (changes_bytes (changes_of_calls m t.calls st.tree)))

-- what is prepared is the next commit: its body has the changes, and they are read off it again
pub record IsPrepared {C B : Type 0} (v : CoreView C B) (p : PreparedView) : Type 0 where
  pub number : p.number ≡ next_number v
  pub list : IsChangeList p.changes
  pub body : p.body ≡ changes_bytes p.changes
  pub read : changes_read p.body ≡ Some p.changes
  pub short : length p.body ≤ body_limit

-- what is left of it to be made durable
abbrev pub pending_of : PreparedView → Pending
pending_of p = record { number = p.number; body = p.body }

-- with the entry of a session's commit, answered with this number, and with what is left of it, which waits to be handed out
abbrev pub with_commit_entry : {C B : Type 0} → CoreView C B → ℕ → ℕ → PreparedView → CoreView C B
with_commit_entry v s n p = with_pending (with_entry v (entry s event.Commit (said.Number n))) (pending_of p)

-- the changes are those of the session's transaction in this state
abbrev pub HasChangesOf : {C : Type 0} → CallMeaning C → State C → ℕ → PreparedView → Type 0
HasChangesOf {C = C} m st s p = (x : Live C) → of_session s st.live ≡ Some x → p.changes ≡ changes_of_calls m x.calls st.tree

-- the session's transaction has changed too much in this state
abbrev pub IsPastLimitIn : {C : Type 0} → CallMeaning C → State C → ℕ → Type 0
IsPastLimitIn {C = C} m st s = (x : Live C) → of_session s st.live ≡ Some x → is_past_limit m st x ≡ true

-- when a session's transaction commits in this state, every other live one's calls have on the new tree the same requests, replies and written values
abbrev pub ReplaysOthers : {C : Type 0} → CallMeaning C → State C → ℕ → Type 0
ReplaysOthers {C = C} m st s = (u : ℕ) (x y : Live C) → of_session s st.live ≡ Some x → of_session u st.live ≡ Some y → u ≢ s → IsReplayed m st x y

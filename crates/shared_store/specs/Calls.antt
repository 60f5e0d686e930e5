-- What a session's call does to the list, and how its answer shows that.
use Rattle.std.specs.Prelude.{◌≡◌, ◌≢◌, ◌⊎◌, ℕ, ◌+◌, ◌<◌, Bool, true, false, List, [], ◌∷◌, ◌++◌, length, Option, Some, None, option_map, Result, Ok, Err, IfOk, IfErr, OnErr}
use Rattle.node_records.specs.Pending.{FollowOn}
use Rattle.node_records.specs.declared.pending.Pending.{Pending}
use Rattle.tree_model.specs.Entries.{Entries}
use Rattle.tree_model.specs.Tree.{Tree}
use Rattle.call_contract.specs.Books.{IsAbove, entry, last_fault}
use Rattle.call_contract.specs.Calls.{CallMeaning}
use Rattle.call_contract.specs.Sessions.{begins, begins_of, commits_in, live_in}
use Rattle.call_contract.specs.declared.events.Answer.{Answer}
use Rattle.call_contract.specs.declared.events.Event.TheVariants as event
use Rattle.call_contract.specs.declared.events.EventAnswer.TheVariants as said
use Rattle.call_contract.specs.declared.events.Noted.{Noted}
use Rattle.tx_core.specs.Commits.{IsPastLimitIn}
use Rattle.tx_core.specs.Cores.{waits_in}
use Rattle.tx_core.specs.Refusals.{refused_abort, refused_begin, refused_call}
use Rattle.tx_core.specs.Retries.{IsNotedRetry, IsRetried}
use Rattle.tx_core.specs.declared.errors.SessionError.{SessionError}
use Rattle.tx_core.specs.declared.errors.SessionError.TheVariants as session_error
use Rattle.shared_store.specs.Lists.{book_of, drained_in, limit_in, number_in, opening_in, OpensFrom, state_in}
use Rattle.shared_store.specs.declared.desk.Entry.{Entry}
use Rattle.shared_store.specs.declared.desk.Entry.TheVariants as kind
use Rattle.shared_store.specs.declared.errors.StoreError.{StoreError}
use Rattle.shared_store.specs.declared.errors.StoreError.TheVariants.{Session, DiskFault, NoMemory, Halted}

-- ---- refusals

-- the refusal that an error is, if it is one
abbrev pub refusal_in : StoreError → Option SessionError
refusal_in (Session why) = Some why
refusal_in e = None

abbrev pub shown_refusal : {T : Type 0} → Result T StoreError → Option SessionError
shown_refusal (Ok x) = None
shown_refusal (Err e) = refusal_in e

-- a commit's, but for changes past the limit
abbrev pub commit_refusal_in : StoreError → Option SessionError
commit_refusal_in (Session session_error.CommitLimit) = None
commit_refusal_in (Session why) = Some why
commit_refusal_in e = None

abbrev pub shown_commit_refusal : {T : Type 0} → Result T StoreError → Option SessionError
shown_commit_refusal (Ok x) = None
shown_commit_refusal (Err e) = commit_refusal_in e

-- the error tells of a journal, which no session's call does
abbrev pub is_halted : StoreError → Bool
is_halted (Halted faults) = true
is_halted e = false

abbrev pub NeverHalted : {T : Type 0} → Result T StoreError → Type 0
NeverHalted result = IfErr result (λ e. is_halted e ≡ false)

module _ {C B : Type 0} where
  -- ---- entries

  abbrev pub with_noted : List (Entry C B) → Noted C → List (Entry C B)
  with_noted es n = es ++ kind.Noted n ∷ []

  -- a call, or a retry where there is none, failed after so many grants
  abbrev pub with_failed : List (Entry C B) → ℕ → Option C → ℕ → Option ℕ → List (Entry C B)
  with_failed es s call k f = with_noted es (entry s (event.Fail call k f) said.Nothing)

  -- the retry of a session, where it is an entry
  abbrev pub with_retry : List (Entry C B) → ℕ → Answer → Bool → List (Entry C B)
  with_retry es s a true = with_noted es (entry s event.Retry (said.Call a))
  with_retry es s a false = es

  -- a fault was counted since the core was opened, and since each fault that the list tells of
  abbrev pub IsLaterFault : (B → ℕ) → List (Entry C B) → ℕ → Type 0
  IsLaterFault count es f = IsAbove (last_fault (option_map count (opening_in es)) (book_of es)) (Some f)

  -- ---- calls

  -- what an attempt leaves that isn't answered, by why
  abbrev pub IsLeft : (B → ℕ) → List (Entry C B) → ℕ → C → StoreError → List (Entry C B) → Type 0
  IsLeft count before s call (Session why) after = after ≡ before
  IsLeft count before s call NoMemory after = (after ≡ before) ⊎ ((k : ℕ) × (0 < k) × (after ≡ with_failed before s (Some call) k None))
  IsLeft count before s call DiskFault after = (k f : ℕ) × (after ≡ with_failed before s (Some call) k (Some f)) × IsLaterFault count before f
  IsLeft count before s call (Halted faults) after = ⊥

  -- an attempt of a call, and its answer
  pub record HasTried (count : B → ℕ) (before : List (Entry C B)) (s : ℕ) (call : C) (result : Result Answer StoreError) (after : List (Entry C B)) : Type 0 where
    pub ok : IfOk result (λ a. after ≡ with_noted before (entry s (event.Call call) (said.Call a)))
    pub err : IfErr result (λ e. IsLeft count before s call e after)
    pub refused : shown_refusal result ≡ refused_call (live_in (book_of before) s)

  -- what a retry leaves that isn't answered, by why; it is always noted
  abbrev pub IsGivenUp : (B → ℕ) → List (Entry C B) → ℕ → StoreError → List (Entry C B) → Type 0
  IsGivenUp count before s (Session why) after = ⊥
  IsGivenUp count before s NoMemory after = (k : ℕ) × (after ≡ with_failed before s None k None)
  IsGivenUp count before s DiskFault after = (k f : ℕ) × (after ≡ with_failed before s None k (Some f)) × IsLaterFault count before f
  IsGivenUp count before s (Halted faults) after = ⊥

  -- a retry was answered so. One that waits again is an entry only where the transaction holds more or waits for something else
  pub record IsAnsweredAgain (told : B → Option Entries) (m : CallMeaning C) (before : List (Entry C B)) (s : ℕ) (a : Answer) (after : List (Entry C B)) : Type 0 where
    pub noted : Bool
    pub may_be : IsNotedRetry a noted
    pub list : after ≡ with_retry before s a noted
    pub step : (t : Tree) → OpensFrom told before t → IsRetried m (state_in m t before) s a noted

  -- a retry, and its answer; none where the transaction doesn't wait, or there is none
  abbrev pub IsTriedAgain : (B → Option Entries) → CallMeaning C → List (Entry C B) → ℕ → Option Answer → List (Entry C B) → Type 0
  IsTriedAgain told m before s None after = (waits_in (live_in (book_of before) s) ≡ false) × (after ≡ before)
  IsTriedAgain told m before s (Some a) after = (waits_in (live_in (book_of before) s) ≡ true) × IsAnsweredAgain told m before s a after

  pub record HasTriedAgain (count : B → ℕ) (told : B → Option Entries) (m : CallMeaning C) (before : List (Entry C B)) (s : ℕ) (result : Result (Option Answer) StoreError) (after : List (Entry C B)) : Type 0 where
    pub ok : IfOk result (λ a. IsTriedAgain told m before s a after)
    pub err : IfErr result (λ e. IsGivenUp count before s e after)

  pub record HasBegun (before : List (Entry C B)) (s : ℕ) (result : Result ℕ StoreError) (after : List (Entry C B)) : Type 0 where
    pub ok : IfOk result (λ ordinal. after ≡ with_noted before (entry s event.Begin (said.Number ordinal)))
    pub ordinal : IfOk result (λ ordinal. ordinal ≡ begins_of (book_of before) s + 1)
    pub err : OnErr result (after ≡ before)
    pub refused : shown_refusal result ≡ refused_begin (number_in before + begins (book_of before)) (limit_in before) (live_in (book_of before) s)
    pub fault : result ≢ Err DiskFault
    pub unhalted : NeverHalted result

  -- a commit, which has the next number
  pub record HasCommitted (told : B → Option Entries) (m : CallMeaning C) (before : List (Entry C B)) (s : ℕ) (result : Result ℕ StoreError) (after : List (Entry C B)) : Type 0 where
    pub ok : IfOk result (λ number. after ≡ with_noted before (entry s event.Commit (said.Number number)))
    pub number : IfOk result (λ number. number ≡ number_in before + commits_in (book_of before) + 1)
    pub err : OnErr result (after ≡ before)
    pub refused : shown_commit_refusal result ≡ refused_call (live_in (book_of before) s)
    pub limit : result ≡ Err (Session session_error.CommitLimit) → (t : Tree) → OpensFrom told before t → IsPastLimitIn m (state_in m t before) s
    pub fault : result ≢ Err DiskFault
    pub unhalted : NeverHalted result

  pub record HasAborted (before : List (Entry C B)) (s : ℕ) (result : Result (Unit {0}) StoreError) (after : List (Entry C B)) : Type 0 where
    pub ok : IfOk result (λ _. after ≡ with_noted before (entry s event.Abort said.Nothing))
    pub err : OnErr result (after ≡ before)
    pub refused : shown_refusal result ≡ refused_abort (live_in (book_of before) s)
    pub shown : IfErr result (λ e. (why : SessionError) × (e ≡ Session why))

  -- the commits that weren't handed out; where there are some it is an entry
  pub record HasDrained (before : List (Entry C B)) (bodies : List Pending) (after : List (Entry C B)) : Type 0 where
    pub follow : FollowOn (drained_in before) bodies
    pub all : drained_in before + length bodies ≡ number_in before + commits_in (book_of before)
    pub list : ((bodies ≡ []) × (after ≡ before)) ⊎ ((bodies ≢ []) × (after ≡ before ++ kind.Drained (number_in before + commits_in (book_of before)) ∷ []))

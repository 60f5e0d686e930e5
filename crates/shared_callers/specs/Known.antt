-- What a caller knows of a book that a session's call stands in.
use Rattle.std.specs.Prelude.{◌≡◌, ℕ, List, [], ◌∷◌, ◌++◌, Bool, true, Option, None, IfSome}
use Rattle.tree_model.specs.Entries.{Entries}
use Rattle.tree_model.specs.Tree.{Tree}
use Rattle.node_seq.specs.Trees.{StandsFor}
use Rattle.call_contract.specs.Books.{Book, commits, entry}
use Rattle.call_contract.specs.Calls.{CallMeaning}
use Rattle.call_contract.specs.SerialRuns.{Committed, serial}
use Rattle.call_contract.specs.States.{given, replies}
use Rattle.call_contract.specs.Sessions.{live_in}
use Rattle.call_contract.specs.declared.events.Event.{Event}
use Rattle.call_contract.specs.declared.events.Event.TheVariants as event
use Rattle.call_contract.specs.declared.events.EventAnswer.TheVariants as said
use Rattle.call_contract.specs.declared.events.Noted.{Noted}
use Rattle.tx_core.specs.Cores.{CoreView}
use Rattle.shared_store.specs.Lists.{book_of, OpensFrom}
use Rattle.shared_store.specs.Sessions.{having_seen, SessionView}
use Rattle.shared_store.specs.Waits.{answer_of, IsAttemptOf}
use Rattle.shared_store.specs.declared.ended.Ended.{Ended}

-- the list begins with this one
abbrev pub BeginsWith : {A : Type 0} → List A → List A → Type 0
BeginsWith {A} front list = (rest : List A) × (list ≡ front ++ rest)

-- the entry stands in the book
abbrev pub Has : {C : Type 0} → Book C → Noted C → Type 0
Has {C} book n = (front rest : Book C) × (book ≡ front ++ n ∷ rest)

-- an attempt of the call by the session was answered so, and the session committed
pub record IsMade {C : Type 0} (s : ℕ) (call : C) (e : Ended) (book : Book C) : Type 0 where
  pub attempt : Event C
  pub of_call : IsAttemptOf call attempt
  pub answered : Has book (entry s attempt (said.Call (answer_of e)))
  pub number : ℕ
  pub committed : Has book (entry s event.Commit (said.Number number))

-- it was answered somehow
abbrev pub IsKnown : {C : Type 0} → ℕ → C → Book C → Type 0
IsKnown s call book = (e : Ended) × IsMade s call e book

-- a session has no transaction any more, and knows its call where that was made
pub record IsAfter {C B : Type 0} (p : SessionView C B) (call : C) (q : SessionView C B) (answered : Bool) : Type 0 where
  pub same : q ≡ having_seen q.seen p
  pub made : answered ≡ true → IsKnown p.under call (book_of q.seen)
  pub ended : live_in (book_of q.seen) q.under ≡ None

-- ---- what a session reads that has met others

-- the calls that two sessions made stand in the book, where they were made
abbrev pub KnowsBoth : {C : Type 0} → Bool → C → Bool → C → Book C → Type 0
KnowsBoth made_first first made_second second book = (made_first ≡ true → IsKnown 1 first book) × (made_second ≡ true → IsKnown 2 second book)

-- The session committed a call behind all that was known. What its transaction was answered is what its calls are answered on the tree that the commits before it make, one after another, on each tree that all began with.
pub record HasRead {C : Type 0} (m : CallMeaning C) (began_with : Tree → Type 0) (knows : Book C → Type 0) (s : ℕ) (call : C) (e : Ended) (book : Book C) : Type 0 where
  pub before : Book C
  pub rest : Book C
  pub number : ℕ
  pub parts : book ≡ before ++ entry s event.Commit (said.Number number) ∷ rest
  pub known : knows before
  pub attempt : Event C
  pub of_call : IsAttemptOf call attempt
  pub read : Has before (entry s attempt (said.Call (answer_of e)))
  pub own : Committed C
  pub commits_it : commits (before ++ entry s event.Commit (said.Number number) ∷ []) ≡ commits before ++ own ∷ []
  pub session : own.session ≡ s
  pub answered : (t : Tree) → began_with t → replies m own.calls (serial m (commits before) t).tree ≡ given own.calls

module _ {C B : Type 0} (m : CallMeaning C) (told : B → Option Entries) where
  -- it did so behind all that it had seen before, on each tree that the store was opened over
  abbrev pub HasReadBehind : SessionView C B → C → Ended → SessionView C B → Type 0
  HasReadBehind p call e q = HasRead m (OpensFrom told q.seen) (BeginsWith (book_of p.seen)) p.under call e (book_of q.seen)

  -- where there is an answer, it did so in this core's book
  abbrev pub HasReadIn : (Book C → Type 0) → ℕ → C → Option Ended → CoreView C B → Type 0
  HasReadIn knows s call answer core = IfSome answer (λ e. HasRead m (StandsFor (told core.opening)) knows s call e core.book)

-- Books: events with their answers. What a run of the machine is, and which transactions a book committed (docs/PROFILE.md, "The lock machine").
use Rattle.std.specs.Prelude.{◌≡◌, ℕ, ◌≤◌, List, [], ◌∷◌, ◌++◌, Option, Some, None}
use Rattle.std.specs.List.{AllByRecursion}
use Rattle.lock_resources.specs.Intentions.{request}
use Rattle.outside_traits.specs.Faults.{FaultCounted}
use Rattle.tree_model.specs.Tree.{Tree}
use Rattle.tree_model.specs.ValidTrees.{IsValidTree}
use Rattle.call_contract.specs.declared.events.Event.{Event}
use Rattle.call_contract.specs.declared.events.Event.TheVariants.{Begin, Call, Retry, Fail, Commit, Abort}
use Rattle.call_contract.specs.declared.events.Answer.TheVariants as answer
use Rattle.call_contract.specs.declared.events.EventAnswer.{EventAnswer}
use Rattle.call_contract.specs.declared.events.EventAnswer.TheVariants as said
use Rattle.call_contract.specs.declared.events.Noted.{Noted}
use Rattle.call_contract.specs.Calls.{CallMeaning}
use Rattle.call_contract.specs.States.{Waiting, Live, State, start, of_session, put, others}
use Rattle.call_contract.specs.Steps.{Outcome, step, new_live}
use Rattle.call_contract.specs.SerialRuns.{Committed, serial, all_given}

abbrev pub Book : Type 0 → Type 0
Book C = List (Noted C)

-- an entry
abbrev pub entry : {C : Type 0} → ℕ → Event C → EventAnswer → Noted C
entry s e a = record { session = s; event = e; answer = a }

-- ---- runs

-- the state after an entry; an event that may not come leaves it
abbrev pub state_of : {C : Type 0} → State C → Option (Outcome C) → State C
state_of st None = st
state_of st (Some o) = o.state

abbrev pub next : {C : Type 0} → CallMeaning C → State C → Noted C → State C
next m st n = state_of st (step m st n.session n.event)

-- the state after a book
abbrev pub last : {C : Type 0} → CallMeaning C → State C → Book C → State C
last m st [] = st
last m st (n ∷ ns) = last m (next m st n) ns

-- the event may come, and this is its answer
abbrev pub IsAnswer : {C : Type 0} → EventAnswer → Option (Outcome C) → Type 0
IsAnswer given None = ⊥
IsAnswer given (Some o) = given ≡ o.answer

-- each answer is the step's
abbrev pub IsRun : {C : Type 0} → CallMeaning C → State C → Book C → Type 0
IsRun m st [] = Unit {0}
IsRun m st (n ∷ ns) = IsAnswer n.answer (step m st n.session n.event) × IsRun m (next m st n) ns

-- if a book is a run from the state after opening, this holds of the state that it comes to
abbrev pub IfRun : {C : Type 0} → CallMeaning C → Tree → ℕ → ℕ → Book C → (State C → Type 0) → Type 0
IfRun m t n limit b Q = IsRun m (start t n limit) b → Q (last m (start t n limit) b)

-- ---- faults

-- the count of faults that an event tells
abbrev pub fault_in : {C : Type 0} → Event C → Option ℕ
fault_in (Fail c k f) = f
fault_in e = None

-- a further count shows that a fault was counted since the last one, if there was one
abbrev pub IsAbove : Option ℕ → Option ℕ → Type 0
IsAbove before None = Unit {0}
IsAbove None (Some f) = Unit {0}
IsAbove (Some before) (Some f) = FaultCounted before f

-- the last count of two
abbrev pub latest : Option ℕ → Option ℕ → Option ℕ
latest before None = before
latest before (Some f) = Some f

-- a fault was counted from each event with a count to the next, and from the last one before, if there was one
abbrev pub FaultsRise : {C : Type 0} → Option ℕ → Book C → Type 0
FaultsRise before [] = Unit {0}
FaultsRise before (n ∷ ns) = IsAbove before (fault_in n.event) × FaultsRise (latest before (fault_in n.event)) ns

-- the last count that a book tells
abbrev pub last_fault : {C : Type 0} → Option ℕ → Book C → Option ℕ
last_fault before [] = before
last_fault before (n ∷ ns) = last_fault (latest before (fault_in n.event)) ns

-- the last count that was told, if one was, is no more than this
abbrev pub IsAtMost : Option ℕ → ℕ → Type 0
IsAtMost None now = Unit {0}
IsAtMost (Some f) now = f ≤ now

-- ---- legal books

-- a run of the machine from a committed tree, with this number as the opening's and the last commit's, and no transaction
pub record IsLegal {C : Type 0} (m : CallMeaning C) (tree : Tree) (number limit : ℕ) (book : Book C) : Type 0 where
  pub run : IsRun m (start tree number limit) book
  pub faults : FaultsRise None book

-- the call of an event is valid
abbrev pub HasValidCall : {C : Type 0} → (C → Type 0) → Event C → Type 0
HasValidCall is_valid (Call c) = is_valid c
HasValidCall is_valid (Fail (Some c) k f) = is_valid c
HasValidCall is_valid e = Unit {0}

-- all calls of a book are
abbrev pub HasValidCalls : {C : Type 0} → (C → Type 0) → Book C → Type 0
HasValidCalls is_valid book = AllByRecursion (λ n. HasValidCall is_valid n.event) book

-- a legal book of valid calls, from a valid tree
pub record IsBookFrom {C : Type 0} (is_valid : C → Type 0) (m : CallMeaning C) (tree : Tree) (number limit : ℕ) (book : Book C) : Type 0 where
  pub valid_tree : IsValidTree tree
  pub valid_calls : HasValidCalls is_valid book
  pub legal : IsLegal m tree number limit book

-- a state that such a book comes to
pub record IsReached {C : Type 0} (is_valid : C → Type 0) (m : CallMeaning C) (st : State C) : Type 0 where
  pub tree : Tree
  pub number : ℕ
  pub limit : ℕ
  pub book : Book C
  pub legal : IsBookFrom is_valid m tree number limit book
  pub state : last m (start tree number limit) book ≡ st

-- ---- commits, read off the entries alone: who is live, with which answered calls; what is held stands in no entry

-- a call was answered
abbrev pub called : {C : Type 0} → Live C → C → EventAnswer → List (Live C) → List (Live C)
called t c (said.Call (answer.Answered r)) ts = put (record t { calls = t.calls ++ record { call = c; reply = r } ∷ []; waits = None }) ts
called t c (said.Call (answer.Waits r a holders)) ts = put (record t { waits = Some (record { call = c; request = request r a }) }) ts
called t c (said.Call (answer.Deadlock cycle)) ts = others t.session ts
called t c said.Nothing ts = ts
called t c (said.Number k) ts = ts

-- the call that waits was attempted again
abbrev pub called_again : {C : Type 0} → Live C → Option (Waiting C) → EventAnswer → List (Live C) → List (Live C)
called_again t None given ts = ts
called_again t (Some w) given ts = called t w.call given ts

-- a number that was answered
abbrev pub number_in : EventAnswer → ℕ
number_in (said.Number k) = k
number_in given = 0

-- the transactions that are live after an entry, by that of its session
abbrev pub open_of : {C : Type 0} → ℕ → Option (Live C) → Event C → EventAnswer → List (Live C) → List (Live C)
open_of s None Begin given ts = put (new_live s (number_in given)) ts
open_of s None (Call c) given ts = ts
open_of s None Retry given ts = ts
open_of s None (Fail c k f) given ts = ts
open_of s None Commit given ts = ts
open_of s None Abort given ts = ts
open_of s (Some t) Begin given ts = ts
open_of s (Some t) (Call c) given ts = called t c given ts
open_of s (Some t) Retry given ts = called_again t t.waits given ts
open_of s (Some t) (Fail c k f) given ts = put (record t { waits = None }) ts
open_of s (Some t) Commit given ts = others s ts
open_of s (Some t) Abort given ts = others s ts

-- the transaction that an entry commits
abbrev pub commit_of : {C : Type 0} → Option (Live C) → Event C → List (Committed C)
commit_of None e = []
commit_of (Some t) Commit = record { session = t.session; ordinal = t.ordinal; calls = t.calls } ∷ []
commit_of (Some t) e = []

-- the transactions that are live after an entry, and that it commits
abbrev pub open_after : {C : Type 0} → List (Live C) → Noted C → List (Live C)
open_after ts n = open_of n.session (of_session n.session ts) n.event n.answer ts

abbrev pub commits_after : {C : Type 0} → List (Live C) → Book C → List (Committed C)
commits_after ts [] = []
commits_after ts (n ∷ ns) = commit_of (of_session n.session ts) n.event ++ commits_after (open_after ts n) ns

-- the committed transactions of a book, in the order of their commits
abbrev pub commits : {C : Type 0} → Book C → List (Committed C)
commits book = commits_after [] book

-- ---- what a run is

-- the committed transactions, made one after another on the tree at the opening, give the replies that were given and the committed tree
pub record IsSerial {C : Type 0} (m : CallMeaning C) (opening : Tree) (number limit : ℕ) (book : Book C) : Type 0 where
  pub replies : (serial m (commits book) opening).replies ≡ all_given (commits book)
  pub tree : (serial m (commits book) opening).tree ≡ (last m (start opening number limit) book).tree

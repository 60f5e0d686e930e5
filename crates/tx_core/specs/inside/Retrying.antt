-- How a retry moves the core.
use Rattle.std.specs.Prelude.{◌≡◌, ◌≢◌, ◌⊎◌, ℕ, zero, suc, Bool, true, false, not, ◌||◌, List, [], ◌∷◌, ◌++◌, take, get_or, Option, Some, None, IfSome, if◌then◌else◌, Result, IfOk}
use Rattle.std.specs.Ordering.{nat_cmp}
use Rattle.std.specs.BTreeMap.{get}
use Rattle.tree_model.specs.Entries.{Entries}
use Rattle.tree_model.specs.declared.reply.Reply.{Reply}
use Rattle.lock_resources.specs.declared.request.Request.{Request}
use Rattle.lock_table.specs.Tables.{Table, AreHolders}
use Rattle.wait_graph.specs.Graphs.{Graph, waits}
use Rattle.call_contract.specs.Calls.{CallMeaning}
use Rattle.call_contract.specs.Attempts.{asked}
use Rattle.call_contract.specs.States.{Waiting, Live, State, view, of_session, put, ended}
use Rattle.call_contract.specs.Steps.{step}
use Rattle.call_contract.specs.Books.{Book, next, IsAnswer, IsReached, entry}
use Rattle.call_contract.specs.declared.events.Event.{Event}
use Rattle.call_contract.specs.declared.events.Event.TheVariants as event
use Rattle.call_contract.specs.declared.events.EventAnswer.TheVariants as said
use Rattle.call_contract.specs.declared.events.Answer.{Answer}
use Rattle.call_contract.specs.declared.events.Answer.TheVariants as answer
use Rattle.call_contract.specs.declared.events.Noted.{Noted}
use Rattle.tx_core.specs.Cores.{count_told}
use Rattle.tx_core.specs.Retries.{IsRetried, IsNotedRetry, hold_more, same_request}
use Rattle.tx_core.specs.declared.errors.CallError.{CallError}
use Rattle.tx_core.specs.declared.parts.Parts.{Parts}
use Rattle.tx_core.specs.declared.parts.Seat.{Seat}
use Rattle.tx_core.specs.declared.asking.Outcome.{Outcome}
use Rattle.tx_core.specs.declared.asking.Got.{Got}
use Rattle.tx_core.specs.declared.asking.Got.TheVariants.{All, Barred, NoMemory}
use Rattle.tx_core.specs.inside.Goes.{shown_wait, with_answer, with_wait, unqueued, AnyWaitWouldClose, IsMade}
use Rattle.tx_core.specs.inside.Standing.{Stands, OfState, OfTransaction, KeepsState, MovesTo, seat_in}

-- ---- the call that waits, as the book has it

abbrev pub call_of : {C : Type 0} → Event C → Option C
call_of (event.Call c) = Some c
call_of e = None

abbrev pub call_at : {C : Type 0} → Book C → ℕ → Option C
call_at [] k = None
call_at (n ∷ ns) zero = call_of n.event
call_at (n ∷ ns) (suc k) = call_at ns k

abbrev pub call_by : {C : Type 0} → Book C → Option ℕ → Option C
call_by book None = None
call_by book (Some k) = call_at book k

-- the call with which the transaction in a seat waits
abbrev pub call_in : {C : Type 0} → Book C → Option Seat → Option C
call_in book None = None
call_in book (Some seat) = call_by book seat.waiting

-- the call with which a session waits
abbrev pub waiting_call : {C B : Type 0} → Parts C B → ℕ → Option C
waiting_call p s = call_in p.book.items (seat_in (get nat_cmp p.places s))

-- this holds of it
abbrev pub OfWaiting : {C B : Type 0} → Parts C B → ℕ → (C → Type 0) → Type 0
OfWaiting {C = C} p s Q = (c : C) → waiting_call p s ≡ Some c → Q c

-- where its retry is answered, this holds of it and of the answer
abbrev pub IfRetried : {A C B E : Type 0} → Result A E → Parts C B → ℕ → (C → A → Type 0) → Type 0
IfRetried result p s Q = IfOk result (λ a. OfWaiting p s (λ c. Q c a))

-- the session waits with this call in this state
pub record IsWaitingWith {C : Type 0} (st : State C) (s : ℕ) (c : C) : Type 0 where
  pub live : Live C
  pub found : of_session s st.live ≡ Some live
  pub waiting : Waiting C
  pub waits : live.waits ≡ Some waiting
  pub call : waiting.call ≡ c

-- ---- entries

abbrev pub retry_entry : {C : Type 0} → ℕ → Answer → Noted C
retry_entry s a = entry s event.Retry (said.Call a)

abbrev pub failed_retry : {C : Type 0} → ℕ → ℕ → Option ℕ → Noted C
failed_retry s k f = entry s (event.Fail None k f) said.Nothing

-- ---- lists

-- where the first one stands that passes a test; the length where none does
abbrev pub first_at : {A : Type 0} → (A → Bool) → List A → ℕ
first_at p [] = 0
first_at p (x ∷ xs) = if p x then 0 else suc (first_at p xs)

-- those that were granted
abbrev pub granted_front : List Request → Got → List Request
granted_front qs All = qs
granted_front qs (Barred k hs) = take k qs
granted_front qs (NoMemory k) = take k qs

-- what is waited for is this request
abbrev pub waits_for_it : Option Request → Request → Bool
waits_for_it None g = false
waits_for_it (Some h) g = same_request h g

-- ---- whether what is waited for is still barred

-- the session waits with a request that others bar
pub record WaitsBarred (g : Graph) (t : Table) (s : ℕ) : Type 0 where
  pub request : Request
  pub waits : waits g s ≡ Some request
  pub some : (hs : List ℕ) → AreHolders t s request hs → hs ≢ []

-- and this answer names the request and them
pub record ShowsBarred (g : Graph) (t : Table) (s : ℕ) (a : Answer) : Type 0 where
  pub request : Request
  pub waits : waits g s ≡ Some request
  pub holders : List ℕ
  pub are : AreHolders t s request holders
  pub some : holders ≢ []
  pub is : a ≡ shown_wait request holders

-- where the session waits with a request that others bar this is an answer that shows it, and else it is none
pub record TellsBarred (g : Graph) (t : Table) (s : ℕ) (still : Option Answer) : Type 0 where
  pub shows : IfSome still (ShowsBarred g t s)
  pub none : still ≡ None → WaitsBarred g t s → ⊥

-- ---- states

-- a transaction that doesn't wait
abbrev pub at_rest : {C : Type 0} → State C → Live C → State C
at_rest st t = record st { live = put (record t { waits = None }) st.live }

module _ {C B : Type 0} (is_valid : C → Type 0) (m : CallMeaning C) (told : B → Option Entries) where
  -- the book gains the machine's entry of the retry of a waiting call, and the core stands for the state after it
  pub record GoesAgain (p : Parts C B) (s : ℕ) (c : C) (n : Noted C) (q : Parts C B) : Type 0 where
    pub book : q.book.items ≡ p.book.items ++ n ∷ []
    pub prepared : q.prepared ≡ None
    pub entry : (st : State C) → Stands is_valid m told p st → IsWaitingWith st s c → IsAnswer n.answer (step m st n.session n.event)
    pub state : (st : State C) → Stands is_valid m told p st → IsWaitingWith st s c → Stands is_valid m told q (next m st n)

  -- all stays, as far as books and states tell
  pub record StaysWaiting (p : Parts C B) (s : ℕ) (c : C) (q : Parts C B) : Type 0 where
    pub book : q.book.items ≡ p.book.items
    pub prepared : q.prepared ≡ p.prepared
    pub places : q.places ≡ p.places
    pub queue : q.waiting.items ≡ p.waiting.items
    pub state : (st : State C) → Stands is_valid m told p st → IsWaitingWith st s c → Stands is_valid m told q st

  -- the retry is an entry, or none
  abbrev pub HasMoved : Parts C B → ℕ → C → Answer → Bool → Parts C B → Type 0
  HasMoved p s c a true q = GoesAgain p s c (retry_entry s a) q
  HasMoved p s c a false q = StaysWaiting p s c q

  -- the retry was answered so, in each state that a legal book comes to, and is an entry or none
  pub record IsAgain (p : Parts C B) (s : ℕ) (c : C) (a : Answer) (q : Parts C B) : Type 0 where
    pub noted : Bool
    pub may_be : IsNotedRetry a noted
    pub moved : HasMoved p s c a noted q
    pub step : (st : State C) → IsReached is_valid m st → Stands is_valid m told p st → IsWaitingWith st s c → IsRetried m st s a noted

  -- the retry isn't answered, and that is an entry
  abbrev pub IsUnansweredAgain : (B → ℕ) → Parts C B → ℕ → CallError → Parts C B → Type 0
  IsUnansweredAgain count p s e q = OfWaiting p s (λ c. (k : ℕ) × GoesAgain p s c (failed_retry s k (count_told e (count q.base))) q)

  -- ---- what each part of a retry comes to

  -- these are the requests of the call that waits
  abbrev pub IsAskedAgain : Parts C B → ℕ → List Request → Type 0
  IsAskedAgain p s asks = OfWaiting p s (λ c. OfTransaction is_valid m told p s (λ st t. asks ≡ asked m st t c))

  -- its reply on what the transaction sees, and its changes there
  abbrev pub IsMadeAgain : Parts C B → ℕ → Outcome → Type 0
  IsMadeAgain p s made = OfWaiting p s (λ c. OfState is_valid m told p (λ st. IsMade m st s c made))

  -- the call was answered to a transaction that has all that it asks for
  pub record IsAnsweredAgain (p : Parts C B) (s : ℕ) (c : C) (a : Answer) (q : Parts C B) : Type 0 where
    pub book : q.book.items ≡ p.book.items ++ retry_entry s a ∷ []
    pub prepared : q.prepared ≡ None
    pub reply : Reply
    pub is : a ≡ answer.Answered reply
    pub means : OfTransaction is_valid m told p s (λ st t. reply ≡ m.reply c (view m t.calls st.tree))
    pub state : MovesTo is_valid m told p s (λ st t. unqueued (with_answer st t c reply) s) q

  -- it is an entry, with the request that it now waits for
  pub record PutsAgain (p : Parts C B) (s : ℕ) (g : Request) (a : Answer) (q : Parts C B) : Type 0 where
    pub book : q.book.items ≡ p.book.items ++ retry_entry s a ∷ []
    pub prepared : q.prepared ≡ None
    pub state : (st : State C) (t : Live C) (w : Waiting C) (c : C) → Stands is_valid m told p st → of_session s st.live ≡ Some t → t.waits ≡ Some w → Stands is_valid m told q (with_wait st t c g)

  -- it is none, and all stays
  pub record KeepsWaiting (p : Parts C B) (q : Parts C B) : Type 0 where
    pub book : q.book.items ≡ p.book.items
    pub prepared : q.prepared ≡ p.prepared
    pub places : q.places ≡ p.places
    pub queue : q.waiting.items ≡ p.waiting.items
    pub state : KeepsState is_valid m told p q

  abbrev pub IsPutAgain : Parts C B → ℕ → Request → Answer → Bool → Parts C B → Type 0
  IsPutAgain p s g a true q = PutsAgain p s g a q
  IsPutAgain p s g a false q = KeepsWaiting p q

  -- the transaction waits in its place, and no session waits for itself by it; more is what was granted beyond what it held
  pub record WaitsAgain (p : Parts C B) (s : ℕ) (g : Request) (hs : List ℕ) (more : Bool) (a : Answer) (q : Parts C B) : Type 0 where
    pub is : a ≡ shown_wait g hs
    pub alone : AnyWaitWouldClose is_valid m told p s g None
    pub noted : Bool
    pub changed : (st : State C) (t : Live C) (w : Waiting C) → Stands is_valid m told p st → of_session s st.live ≡ Some t → t.waits ≡ Some w → (more || not (same_request w.request g)) ≡ noted
    pub moved : IsPutAgain p s g a noted q

  -- waiting would close this cycle, and the transaction is ended
  pub record IsClosedAgain (p : Parts C B) (s : ℕ) (g : Request) (a : Answer) (q : Parts C B) : Type 0 where
    pub book : q.book.items ≡ p.book.items ++ retry_entry s a ∷ []
    pub prepared : q.prepared ≡ None
    pub cycle : List ℕ
    pub is : a ≡ answer.Deadlock cycle
    pub closes : AnyWaitWouldClose is_valid m told p s g (Some cycle)
    pub state : OfState is_valid m told p (λ st. Stands is_valid m told q (ended st s))

  abbrev pub IsStoppedAgain : Parts C B → ℕ → Request → List ℕ → Bool → Answer → Parts C B → Type 0
  IsStoppedAgain p s g hs more a q = WaitsAgain p s g hs more a q ⊎ IsClosedAgain p s g a q

  -- that the retry failed is noted, and nothing else
  pub record IsFailedAgain (p : Parts C B) (s : ℕ) (k : ℕ) (f : Option ℕ) (q : Parts C B) : Type 0 where
    pub book : q.book.items ≡ p.book.items ++ failed_retry s k f ∷ []
    pub prepared : q.prepared ≡ None
    pub state : MovesTo is_valid m told p s (λ st t. unqueued (at_rest st t) s) q

  -- so it is of one that is given up after k grants, with the count of faults that its cause tells
  abbrev pub IsLeftAgain : (B → ℕ) → Parts C B → ℕ → ℕ → CallError → Parts C B → Type 0
  IsLeftAgain count p s k e q = IsFailedAgain p s k (count_told e (count q.base)) q

  -- what a settled retry is answered
  abbrev pub IsSettledAgain : Parts C B → ℕ → C → List Request → Got → Bool → Answer → Parts C B → Type 0
  IsSettledAgain p s c qs All more a q = IsAnsweredAgain p s c a q
  IsSettledAgain p s c qs (Barred k hs) more a q = (g : Request) → g ≡ get_or qs k g → IsStoppedAgain p s g hs more a q
  IsSettledAgain p s c qs (NoMemory k) more a q = ⊥

  -- what the requests of a retry have come to, and whether the transaction holds more than before
  pub record AreAsked (p : Parts C B) (s : ℕ) (qs : List Request) (got : Got) (more : Bool) (q : Parts C B) : Type 0 where
    pub raised : OfTransaction is_valid m told p s (λ st t. hold_more t.grants (t.grants ++ granted_front qs got) ≡ more)
    pub kept : more ≡ false → KeepsState is_valid m told p q

-- How a call of the core moves its state. What an attempt does, and the word that says it:
--   it asks for its requests, which are granted up to one that is barred  Reaches
--   it is granted all; what it changes is taken in, and it is answered    IsAccepted, IsAnswered
--   it is barred, and waits where that closes no cycle                    IsPut
--   it is barred, and is a deadlock where that closes one                 IsClosed
--   either of these two; any of the three, as far as it was granted       IsStopped; IsSettled
--   it is given up: its failure is noted, or nothing moved                IsFailed, Stays; IsLeft
--   in all: its answer is an entry, or there is none, by why              Goes; IsUnanswered
-- A retry's words stand in Retrying.antt, with "again" behind them; a commit's in Committing.antt.
use Rattle.std.specs.Prelude.{◌≡◌, ◌⊎◌, ℕ, true, ◌||◌, nat_lt, List, [], ◌∷◌, ◌++◌, take, length, get_or, ◌<◌, nat_le, Option, Some, None, is_some}
use Rattle.tree_model.specs.Entries.{Entries}
use Rattle.tree_model.specs.declared.reply.Reply.{Reply}
use Rattle.lock_resources.specs.declared.request.Request.{Request}
use Rattle.call_contract.specs.Calls.{CallMeaning, changes_of}
use Rattle.call_contract.specs.States.{Live, State, view, of_session, put, others, without, ended}
use Rattle.call_contract.specs.Attempts.{holders, free, barred, asked}
use Rattle.call_contract.specs.Waits.{cycle_through}
use Rattle.call_contract.specs.Steps.{step}
use Rattle.call_contract.specs.Books.{next, IsAnswer, HasValidCall, entry}
use Rattle.call_contract.specs.declared.events.Noted.{Noted}
use Rattle.call_contract.specs.declared.events.Event.TheVariants as event
use Rattle.call_contract.specs.declared.events.EventAnswer.TheVariants as said
use Rattle.call_contract.specs.declared.events.Answer.{Answer}
use Rattle.call_contract.specs.declared.events.Answer.TheVariants as answer
use Rattle.tx_core.specs.declared.errors.CallError.{CallError}
use Rattle.tx_core.specs.declared.errors.CallError.TheVariants as call_error
use Rattle.tx_core.specs.declared.parts.Parts.{Parts}
use Rattle.tx_core.specs.declared.asking.Outcome.{Outcome}
use Rattle.tx_core.specs.declared.asking.Got.{Got}
use Rattle.tx_core.specs.declared.asking.Got.TheVariants.{All, Barred, NoMemory}
use Rattle.tx_core.specs.inside.Standing.{Stands, OfState, OfTransaction, KeepsState, MovesTo}

-- ---- entries

-- an attempt that was answered
abbrev pub call_entry : {C : Type 0} → ℕ → C → Answer → Noted C
call_entry s c a = entry s (event.Call c) (said.Call a)

-- an attempt that failed after k grants
abbrev pub fail_entry : {C : Type 0} → ℕ → C → ℕ → Option ℕ → Noted C
fail_entry s c k f = entry s (event.Fail (Some c) k f) said.Nothing

-- what a wait shows
abbrev pub shown_wait : Request → List ℕ → Answer
shown_wait g hs = answer.Waits g.resource g.ask hs

-- ---- states on the way through an attempt

-- a transaction with more grants
abbrev pub with_grants : {C : Type 0} → State C → Live C → List Request → State C
with_grants st t got = record st { live = put (record t { grants = t.grants ++ got }) st.live }

-- a transaction with one more answered call
abbrev pub with_answer : {C : Type 0} → State C → Live C → C → Reply → State C
with_answer st t c r = record st { live = put (record t { calls = t.calls ++ record { call = c; reply = r } ∷ []; waits = None }) st.live }

-- a transaction that waits with a call for a request
abbrev pub with_wait : {C : Type 0} → State C → Live C → C → Request → State C
with_wait st t c g = record st { live = put (record t { waits = Some (record { call = c; request = g }) }) st.live }

-- a session that doesn't wait, and one that stands last of those that do
abbrev pub unqueued : {C : Type 0} → State C → ℕ → State C
unqueued st s = record st { waiting = without s st.waiting }

abbrev pub enqueued : {C : Type 0} → State C → ℕ → State C
enqueued st s = record st { waiting = st.waiting ++ s ∷ [] }

module _ {C B : Type 0} (is_valid : C → Type 0) (m : CallMeaning C) (told : B → Option Entries) where
  -- the state stays, and so do the book and what is prepared
  pub record Stays (p q : Parts C B) : Type 0 where
    pub book : q.book.items ≡ p.book.items
    pub prepared : q.prepared ≡ p.prepared
    pub state : KeepsState is_valid m told p q

  -- the book gains the machine's entry, nothing is prepared, and the core stands for the state after it
  pub record Goes (p : Parts C B) (n : Noted C) (q : Parts C B) : Type 0 where
    pub book : q.book.items ≡ p.book.items ++ n ∷ []
    pub valid : HasValidCall is_valid n.event
    pub prepared : q.prepared ≡ None
    pub entry : (st : State C) → Stands is_valid m told p st → IsAnswer n.answer (step m st n.session n.event)
    pub state : (st : State C) → Stands is_valid m told p st → Stands is_valid m told q (next m st n)

  -- ---- how far the machine grants these

  pub record IsFreeUpTo (st : State C) (t : Live C) (qs : List Request) (k : ℕ) (q : Request) (hs : List ℕ) : Type 0 where
    pub within : k < length qs
    pub here : q ≡ get_or qs k q
    pub free : free qs (others t.session st.live) ≡ take k qs
    pub barred : barred qs (others t.session st.live) ≡ Some q
    pub holders : holders q (others t.session st.live) ≡ hs

  -- the machine grants the first k of these at least
  pub record IsFreeFront (st : State C) (t : Live C) (qs : List Request) (k : ℕ) : Type 0 where
    pub part : take k (free qs (others t.session st.live)) ≡ take k qs
    pub within : nat_le k (length (free qs (others t.session st.live))) ≡ true

  -- these came so far when they were asked for, as the machine grants them, and the core stands for the state with those grants
  abbrev pub Reaches : State C → Live C → List Request → Parts C B → Got → Type 0
  Reaches st t qs u All = (free qs (others t.session st.live) ≡ qs) × (barred qs (others t.session st.live) ≡ None) × Stands is_valid m told u (with_grants st t qs)
  Reaches st t qs u (Barred k hs) = (q : Request) × IsFreeUpTo st t qs k q hs × Stands is_valid m told u (with_grants st t (take k qs))
  Reaches st t qs u (NoMemory k) = IsFreeFront st t qs k × Stands is_valid m told u (with_grants st t (take k qs))

  -- so it is of each state that p stands for, where its session's transaction asks for these
  abbrev pub ReachesFrom : Parts C B → ℕ → List Request → Got → Parts C B → Type 0
  ReachesFrom p s qs got q = OfTransaction is_valid m told p s (λ st t. Reaches st t qs q got)

  -- ---- the cycle that a wait would close

  -- if the session waited for the request with this call, that would close this cycle, or none
  abbrev pub WaitWouldClose : Parts C B → ℕ → C → Request → Option (List ℕ) → Type 0
  WaitWouldClose p s c g cycle = OfTransaction is_valid m told p s (λ st t. cycle_through (with_wait st t c g).live s ≡ cycle)

  -- and so it is whichever call it waits with
  abbrev pub AnyWaitWouldClose : Parts C B → ℕ → Request → Option (List ℕ) → Type 0
  AnyWaitWouldClose p s g cycle = (st : State C) (t : Live C) (c : C) → Stands is_valid m told p st → of_session s st.live ≡ Some t → cycle_through (with_wait st t c g).live s ≡ cycle

  -- ---- what each part of an attempt comes to

  -- the changes of a call were taken in
  pub record IsAccepted (p : Parts C B) (s : ℕ) (made : Outcome) (q : Parts C B) : Type 0 where
    pub each : (st : State C) (t : Live C) (c : C) (r : Reply) → Stands is_valid m told p st → of_session s st.live ≡ Some t → is_valid c
        → made.changes ≡ changes_of m c (view m t.calls st.tree) → Stands is_valid m told q (with_answer st t c r)

  -- the call was answered to a transaction that has all that it asks for
  pub record IsAnswered (p : Parts C B) (s : ℕ) (c : C) (a : Answer) (q : Parts C B) : Type 0 where
    pub book : q.book.items ≡ p.book.items ++ call_entry s c a ∷ []
    pub prepared : q.prepared ≡ None
    pub reply : Reply
    pub is : a ≡ answer.Answered reply
    pub means : OfTransaction is_valid m told p s (λ st t. reply ≡ m.reply c (view m t.calls st.tree))
    pub state : MovesTo is_valid m told p s (λ st t. unqueued (with_answer st t c reply) s) q

  -- the transaction waits, and no session waits for itself by it
  pub record IsPut (p : Parts C B) (s : ℕ) (c : C) (g : Request) (hs : List ℕ) (a : Answer) (q : Parts C B) : Type 0 where
    pub book : q.book.items ≡ p.book.items ++ call_entry s c a ∷ []
    pub prepared : q.prepared ≡ None
    pub is : a ≡ shown_wait g hs
    pub alone : WaitWouldClose p s c g None
    pub state : MovesTo is_valid m told p s (λ st t. enqueued (with_wait st t c g) s) q

  -- waiting would close this cycle, and the transaction is ended
  pub record IsClosed (p : Parts C B) (s : ℕ) (c : C) (g : Request) (a : Answer) (q : Parts C B) : Type 0 where
    pub book : q.book.items ≡ p.book.items ++ call_entry s c a ∷ []
    pub prepared : q.prepared ≡ None
    pub cycle : List ℕ
    pub is : a ≡ answer.Deadlock cycle
    pub closes : WaitWouldClose p s c g (Some cycle)
    pub state : OfState is_valid m told p (λ st. Stands is_valid m told q (ended st s))

  -- a call that is barred waits, or is a deadlock
  abbrev pub IsStopped : Parts C B → ℕ → C → Request → List ℕ → Answer → Parts C B → Type 0
  IsStopped p s c g hs a q = IsPut p s c g hs a q ⊎ IsClosed p s c g a q

  -- that the attempt failed is noted, and nothing else
  pub record IsFailed (p : Parts C B) (s : ℕ) (c : C) (k : ℕ) (f : Option ℕ) (q : Parts C B) : Type 0 where
    pub book : q.book.items ≡ p.book.items ++ fail_entry s c k f ∷ []
    pub prepared : q.prepared ≡ None
    pub some : (is_some f || nat_lt 0 k) ≡ true
    pub state : OfState is_valid m told p (λ st. Stands is_valid m told q (unqueued st s))

  -- what a settled attempt is answered
  abbrev pub IsSettled : Parts C B → ℕ → C → List Request → Got → Answer → Parts C B → Type 0
  IsSettled p s c qs All a q = IsAnswered p s c a q
  IsSettled p s c qs (Barred k hs) a q = (g : Request) → g ≡ get_or qs k g → IsStopped p s c g hs a q
  IsSettled p s c qs (NoMemory k) a q = ⊥

  -- ---- attempts without an answer, by why

  -- nothing moved, or the failure is noted: after a fault with the base's count, for want of memory only where something was granted
  abbrev pub IsUnanswered : (B → ℕ) → Parts C B → ℕ → C → CallError → Parts C B → Type 0
  IsUnanswered count p s c (call_error.Session why) q = q ≡ p
  IsUnanswered count p s c call_error.NoMemory q = Stays p q ⊎ ((k : ℕ) × (0 < k) × Goes p (fail_entry s c k None) q)
  IsUnanswered count p s c call_error.DiskFault q = (k : ℕ) × Goes p (fail_entry s c k (Some (count q.base))) q

  -- what is left of one that gives up after k grants
  abbrev pub IsLeft : (B → ℕ) → Parts C B → ℕ → C → ℕ → CallError → Parts C B → Type 0
  IsLeft count p s c k (call_error.Session why) q = ⊥
  IsLeft count p s c k call_error.NoMemory q = ((k ≡ 0) × Stays p q) ⊎ ((0 < k) × IsFailed p s c k None q)
  IsLeft count p s c k call_error.DiskFault q = IsFailed p s c k (Some (count q.base)) q

module _ {C : Type 0} (m : CallMeaning C) where
  -- a live transaction that doesn't wait asks for these
  pub record IsAsked (st : State C) (s : ℕ) (c : C) (asks : List Request) : Type 0 where
    pub live : Live C
    pub found : of_session s st.live ≡ Some live
    pub ready : live.waits ≡ None
    pub are : asks ≡ asked m st live c

  -- the call's reply on what the transaction sees, and its changes there
  pub record IsMade (st : State C) (s : ℕ) (c : C) (made : Outcome) : Type 0 where
    pub reply : (t : Live C) → of_session s st.live ≡ Some t → made.reply ≡ m.reply c (view m t.calls st.tree)
    pub changes : (t : Live C) → of_session s st.live ≡ Some t → made.changes ≡ changes_of m c (view m t.calls st.tree)

-- A core as contracts see it: what it was opened with, its base, and its book.
use Rattle.std.specs.Prelude.{◌≡◌, ◌⊎◌, ℕ, ◌+◌, ◌/◌, ◌<◌, ◌≤◌, Bool, false, [], ◌∷◌, ◌++◌, length, Option, Some, None, is_some}
use Rattle.node_records.specs.Pending.{FollowOn}
use Rattle.node_records.specs.declared.pending.Pending.{Pending}
use Rattle.tree_model.specs.Entries.{Entries}
use Rattle.tree_model.specs.Tree.{Tree}
use Rattle.node_seq.specs.Trees.{StandsFor}
use Rattle.call_contract.specs.Calls.{CallMeaning}
use Rattle.call_contract.specs.States.{Live, State, start}
use Rattle.call_contract.specs.Sessions.{commits_in}
use Rattle.call_contract.specs.declared.events.Event.TheVariants as event
use Rattle.call_contract.specs.declared.events.EventAnswer.TheVariants as said
use Rattle.call_contract.specs.declared.events.Noted.{Noted}
use Rattle.call_contract.specs.Books.{Book, entry, last}
use Rattle.tx_core.specs.Drains.{Undrained}
use Rattle.tx_core.specs.declared.errors.CallError.{CallError}
use Rattle.tx_core.specs.declared.errors.CallError.TheVariants.{Session, DiskFault, NoMemory}

-- the base that it was opened over, the number of the opening's commit, the limit, the base now, the map of what is committed where it is known, the book,
-- the session whose commit was prepared since the last entry, if one was, and the commits that weren't handed out yet
pub record CoreView (C B : Type 0) : Type 0 where
  pub opening : B
  pub number : ℕ
  pub limit : ℕ
  pub base : B
  pub committed : Option Entries
  pub book : Book C
  pub prepared : Option ℕ
  pub undrained : Undrained

-- a core that was opened over a base with this map, whose last commit has this number
abbrev pub opened_over : {C B : Type 0} → B → Option Entries → ℕ → ℕ → CoreView C B
opened_over base map number limit = record {
  opening = base;
  number = number;
  limit = limit;
  base = base;
  committed = map;
  book = [];
  prepared = None;
  undrained = record { after = number; waiting = [] };
}

-- with one more entry in its book
abbrev pub with_entry : {C B : Type 0} → CoreView C B → Noted C → CoreView C B
with_entry v n = record v { book = v.book ++ n ∷ []; prepared = None }

-- over a base that was read
abbrev pub over : {C B : Type 0} → CoreView C B → B → CoreView C B
over v base = record v { base = base }

-- the base has at most 64 and a 256th of its entries more than the committed map, where that is known
abbrev pub HasFewMore : Entries → Option Entries → Type 0
HasFewMore base None = Unit {0}
HasFewMore base (Some es) = length base ≤ length es + (64 + length base / 256)

-- with this committed map
abbrev pub with_committed : {C B : Type 0} → CoreView C B → Option Entries → CoreView C B
with_committed v committed = record v { committed = committed }

-- the state after its book, from the tree that it was opened over
abbrev pub state_from : {C B : Type 0} → CallMeaning C → Tree → CoreView C B → State C
state_from m t v = last m (start t v.number v.limit) v.book

-- this holds of the state that the core's book has led to, where it was opened over the map of a tree
abbrev pub InState : {C B : Type 0} → CallMeaning C → (B → Option Entries) → CoreView C B → (State C → Type 0) → Type 0
InState m contents core Q = (t : Tree) → StandsFor (contents core.opening) t → Q (state_from m t core)

-- and this of the states before and after a call of the core
abbrev pub BeforeAndAfter : {C B : Type 0} → CallMeaning C → (B → Option Entries) → CoreView C B → CoreView C B → (State C → State C → Type 0) → Type 0
BeforeAndAfter m contents old new Q = (t : Tree) → StandsFor (contents old.opening) t → Q (state_from m t old) (state_from m t new)

-- the number that the next commit gets
abbrev pub next_number : {C B : Type 0} → CoreView C B → ℕ
next_number v = v.number + commits_in v.book + 1

-- with one more commit that waits to be handed out
abbrev pub with_pending : {C B : Type 0} → CoreView C B → Pending → CoreView C B
with_pending v p = record v { undrained = record { after = v.undrained.after; waiting = v.undrained.waiting ++ p ∷ [] } }

-- all commits were handed out
abbrev pub drained : {C B : Type 0} → CoreView C B → CoreView C B
drained v = record v { undrained = record { after = v.number + commits_in v.book; waiting = [] }; prepared = None }

-- the commits that weren't handed out are the last ones of the book
pub record IsUndrained {C B : Type 0} (v : CoreView C B) : Type 0 where
  pub opened : v.number ≤ v.undrained.after
  pub follow : FollowOn v.undrained.after v.undrained.waiting
  pub last : v.undrained.after + length v.undrained.waiting ≡ v.number + commits_in v.book

-- the session's transaction waits
abbrev pub waits_in : {C : Type 0} → Option (Live C) → Bool
waits_in None = false
waits_in (Some t) = is_some t.waits

-- ---- failed attempts

-- the book gains that a call, or a retry where there is none, failed after so many grants
abbrev pub with_failed : {C B : Type 0} → CoreView C B → ℕ → Option C → ℕ → Option ℕ → CoreView C B
with_failed v s c k f = with_entry v (entry s (event.Fail c k f) said.Nothing)

-- the count that such an entry tells: the base's after a fault, none after want of memory
abbrev pub count_told : CallError → ℕ → Option ℕ
count_told DiskFault now = Some now
count_told e now = None

-- what an attempt leaves that isn't answered, by why: a fault is always noted, with the base's count now; want of memory only where something was granted
abbrev pub IsLeftBy : {C B : Type 0} → (B → ℕ) → CoreView C B → ℕ → C → CallError → CoreView C B → Type 0
IsLeftBy count v s c (Session why) w = w ≡ v
IsLeftBy count v s c NoMemory w = (w ≡ over v w.base) ⊎ ((k : ℕ) × (0 < k) × (w ≡ over (with_failed v s (Some c) k None) w.base))
IsLeftBy count v s c DiskFault w = (k : ℕ) × (w ≡ over (with_failed v s (Some c) k (Some (count w.base))) w.base)

-- what a retry leaves that isn't answered, by why: it is always noted
abbrev pub IsGivenUpBy : {C B : Type 0} → (B → ℕ) → CoreView C B → ℕ → CallError → CoreView C B → Type 0
IsGivenUpBy count v s e w = (k : ℕ) × (w ≡ over (with_failed v s None k (count_told e (count w.base))) w.base)

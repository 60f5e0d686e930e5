-- What is left to be done between two cores.
use Rattle.std.specs.Prelude.{◌≡◌, ◌⊎◌, ◌≤◌, ◌<◌, ℕ, Bool, false, cond, length, List, [], ◌++◌, Option}
use Rattle.tree_model.specs.Entries.{Entries}
use Rattle.tree_model.specs.Tree.{Tree}
use Rattle.node_seq.specs.Trees.{StandsFor}
use Rattle.call_contract.specs.Books.{Book}
use Rattle.call_contract.specs.Calls.{CallMeaning}
use Rattle.call_contract.specs.Sessions.{queue_after}
use Rattle.call_contract.specs.States.{State, without}
use Rattle.call_contract.specs.Steps.{step}
use Rattle.call_contract.specs.declared.events.Event.TheVariants.{Retry}
use Rattle.call_contract.specs.declared.events.Noted.{Noted}
use Rattle.command_lines.specs.declared.line_reply.LineReply.{LineReply}
use Rattle.tx_core.specs.Cores.{CoreView, InState, state_from, with_entry}
use Rattle.tx_core.specs.Queues.{times}
use Rattle.session_driver.specs.Driving.{with_entries, IsFailureAtMost, HasGrown, HasDone, HasBegun}
use Rattle.session_driver.specs.Lines.{Asked, after_line}
use Rattle.session_driver.specs.Progress.{Progress}
use Rattle.session_driver.specs.Retries.{if_retried, round, rounds, retries}

-- all that a line leads to from the state that the core's book has led to is done
abbrev pub DoesLine : {C B : Type 0} → CallMeaning C → (B → Option Entries) → Asked C → CoreView C B → CoreView C B → List LineReply → List LineReply → Type 0
DoesLine m contents line old new before after = InState m contents old (λ st. HasDone old new before after (after_line m st line))

-- all of the first but the second was done
pub record Leaves {C B : Type 0} (old new : CoreView C B) (before after : List LineReply) (all left : Progress C) : Type 0 where
  pub entries : Book C
  pub said : List LineReply
  pub book : all.book ≡ entries ++ left.book
  pub lines : all.lines ≡ said ++ left.lines
  pub core : new ≡ with_entries old entries new
  pub out : after ≡ before ++ said

-- the core gained an entry
abbrev pub Adds : {C B : Type 0} → CoreView C B → Noted C → CoreView C B → Type 0
Adds old n new = new ≡ record (with_entry old n) { base = new.base; committed = new.committed; undrained = new.undrained }

-- an attempt failed at most
pub record HasFailed {C B : Type 0} (old new : CoreView C B) : Type 0 where
  pub failed : Book C
  pub failure : IsFailureAtMost failed
  pub core : new ≡ with_entries old failed new

-- ---- retries

-- the session was retried, and its transaction ended in a deadlock, or not
abbrev pub LeavesRetry : {C B : Type 0} → CallMeaning C → (B → Option Entries) → CoreView C B → ℕ → Bool → CoreView C B → List LineReply → List LineReply → Type 0
LeavesRetry {C = C} m told old s ended new before after = (t : Tree) → StandsFor (told old.opening) t → (from_first behind : State C → Progress C)
    → Leaves old new before after (if_retried (state_from m t old) s (step m (state_from m t old) s Retry) from_first behind)
    (cond ended (from_first (state_from m t new)) (behind (state_from m t new)))

-- a retry that ends in a deadlock, or is answered, takes the session out of the queue
abbrev pub KeepsQueue : {C : Type 0} → Book C → ℕ → Bool → Book C → Type 0
KeepsQueue old s ended new = (queue_after [] new ≡ without s (queue_after [] old)) ⊎ ((ended ≡ false) × (queue_after [] new ≡ queue_after [] old))

-- those that waited were retried in turn, up to the first deadlock, or all of them
abbrev pub LeavesRound : {C B : Type 0} → CallMeaning C → (B → Option Entries) → CoreView C B → Bool → CoreView C B → List LineReply → List LineReply → Type 0
LeavesRound {C = C} m told old ended new before after = (t : Tree) → StandsFor (told old.opening) t → (from_first : State C → Progress C)
    → Leaves old new before after (round m from_first (state_from m t old).waiting (state_from m t old))
    (cond ended (from_first (state_from m t new)) (record { state = state_from m t new; book = []; lines = [] }))

-- of that at most a first part was done
abbrev pub BeginsRound : {C B : Type 0} → CallMeaning C → (B → Option Entries) → CoreView C B → CoreView C B → List LineReply → List LineReply → Type 0
BeginsRound {C = C} m told old new before after = (t : Tree) → StandsFor (told old.opening) t → (from_first : State C → Progress C)
    → HasBegun old new before after (round m from_first (state_from m t old).waiting (state_from m t old))

-- each of these stands in the queue as often at least
abbrev pub AreQueued : {C : Type 0} → List ℕ → Book C → Type 0
AreQueued rest book = (s : ℕ) → times s rest ≤ times s (queue_after [] book)

-- in a round, those before these were retried with no deadlock
pub record IsInRound {C B : Type 0} (m : CallMeaning C) (told : B → Option Entries) (unchanged : B → B → Type 0) (count : B → ℕ)
    (old now : CoreView C B) (before after : List LineReply) (rest : List ℕ) : Type 0 where
  pub queued : AreQueued rest now.book
  pub once : (s : ℕ) → times s (queue_after [] now.book) ≤ 1
  pub fewer : length (queue_after [] now.book) ≤ length (queue_after [] old.book)
  pub later : HasGrown old now before after
  pub left : (t : Tree) → StandsFor (told old.opening) t → (from_first : State C → Progress C)
      → Leaves old now before after (round m from_first (state_from m t old).waiting (state_from m t old)) (round m from_first rest (state_from m t now))
  pub reads : unchanged old.base now.base
  pub faults : count now.base ≡ count old.base

-- in the rounds, those before ended in a deadlock each, and with so many more at most the rest is done
pub record IsInRounds {C B : Type 0} (m : CallMeaning C) (told : B → Option Entries) (unchanged : B → B → Type 0) (count : B → ℕ)
    (old now : CoreView C B) (before after : List LineReply) : Type 0 where
  pub later : HasGrown old now before after
  pub left : (t : Tree) → StandsFor (told old.opening) t
      → (k : ℕ) × (length (queue_after [] now.book) < k) × Leaves old now before after (retries m (state_from m t old)) (rounds m k (state_from m t now))
  pub reads : unchanged old.base now.base
  pub faults : count now.base ≡ count old.base

-- The value behind the turn: a core, what it was when the store was made, and where in its book commits were handed out.
use Rattle.std.specs.Prelude.{◌≡◌, true, false, ◌≤◌, ◌<◌, ◌+◌, ℕ, List, [], ◌∷◌, ◌++◌, length, vec_capacity, Option, Some, Result, Ok, Err}
use Rattle.std.specs.declared.alloc.Global.{Global}
use Rattle.std.specs.declared.vec.Vec.{Vec}
use Rattle.tree_model.specs.Entries.{Entries}
use Rattle.call_contract.specs.Calls.{CallMeaning}
use Rattle.call_contract.specs.Sessions.{commits_in}
use Rattle.call_contract.specs.declared.events.Answer.{Answer}
use Rattle.tx_core.specs.Cores.{CoreView}
use Rattle.tx_core.specs.declared.errors.CallError.{CallError}
use Rattle.tx_core.specs.declared.errors.CallError.TheVariants as call_error
use Rattle.tx_core.specs.declared.errors.SessionError.{SessionError}
use Rattle.tx_core.specs.declared.errors.SessionError.TheVariants as session_error
use Rattle.turn_lock.specs.Turns.{PassView, has_number}
use Rattle.shared_store.specs.Lists.{HasLegalBook, is_opened, list_of, number_of, SessionsFit}
use Rattle.shared_store.specs.declared.desk.Drain.{Drain}
use Rattle.shared_store.specs.declared.desk.Entry.{Entry}
use Rattle.shared_store.specs.declared.errors.StoreError.{StoreError}
use Rattle.shared_store.specs.declared.errors.StoreError.TheVariants as store_error

pub record DeskView (C B : Type 0) : Type 0 where
  pub core : CoreView C B
  pub first : CoreView C B
  pub drains : List Drain

-- its list
abbrev pub list_in : {C B : Type 0} → DeskView C B → List (Entry C B)
list_in d = list_of d.first d.core.book d.drains

-- the places rise, from one place to another
abbrev pub RiseTo : ℕ → ℕ → List Drain → Type 0
RiseTo from to [] = from ≤ to
RiseTo from to (d ∷ ds) = (from ≤ d.at) × RiseTo d.at to ds

-- the number of the last commit that was handed out, where it was k before
abbrev pub last_drained : ℕ → List Drain → ℕ
last_drained k [] = k
last_drained k (d ∷ ds) = last_drained d.number ds

-- the core goes on from what it was, its book is of sessions up to 64, and where commits wait to be handed out there is room for a drain
pub record IsDesk {C B : Type 0} (unchanged : B → B → Type 0) (core first : CoreView C B) (drains : Vec Drain Global) : Type 0 where
  pub opening : core.opening ≡ first.opening
  pub number : core.number ≡ first.number
  pub limit : core.limit ≡ first.limit
  pub base : unchanged first.base core.base
  pub rise : RiseTo 0 (length core.book) drains.items
  pub handed : core.undrained.after ≡ last_drained first.undrained.after drains.items
  pub fit : SessionsFit core.book
  pub room : core.undrained.after < core.number + commits_in core.book → length drains.items < vec_capacity drains

module _ {C B : Type 0} where
  abbrev pub AreUnder : ℕ → List (Entry C B) → Type 0
  AreUnder s [] = Unit {0}
  AreUnder s (e ∷ es) = (number_of e ≡ Some s) × AreUnder s es

  -- the list gained entries of this number alone
  abbrev pub AddsUnder : ℕ → List (Entry C B) → List (Entry C B) → Type 0
  AddsUnder s before after = (added : List (Entry C B)) × (after ≡ before ++ added) × AreUnder s added

-- ---- answers of the core as answers of the store

abbrev pub as_refusal : SessionError → StoreError
as_refusal session_error.NoMemory = store_error.NoMemory
as_refusal why = store_error.Session why

abbrev pub as_ended : {T : Type 0} → Result T SessionError → Result T StoreError
as_ended (Ok x) = Ok x
as_ended (Err why) = Err (as_refusal why)

abbrev pub as_error : CallError → StoreError
as_error (call_error.Session why) = store_error.Session why
as_error call_error.DiskFault = store_error.DiskFault
as_error call_error.NoMemory = store_error.NoMemory

abbrev pub as_called : {T : Type 0} → Result T CallError → Result T StoreError
as_called (Ok x) = Ok x
as_called (Err e) = Err (as_error e)

abbrev pub as_again : Result Answer CallError → Result (Option Answer) StoreError
as_again (Ok a) = Ok (Some a)
as_again (Err e) = Err (as_error e)

-- ---- sessions

-- the session holds no turn, has the number that it works under, and has seen the opening and a legal book behind it
pub record IsSession {C B : Type 0} (is_valid : C → Type 0) (m : CallMeaning C) (told : B → Option Entries) (pass : PassView (Entry C B)) (under : ℕ) : Type 0 where
  pub turn : pass.turn ≡ false
  pub own : has_number pass.has under ≡ true
  pub small : under < 65
  pub opened : is_opened pass.seen ≡ true
  pub legal : HasLegalBook is_valid m told pass.seen

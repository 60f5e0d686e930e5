-- Preparing a commit and making it.
use Rattle.std.specs.Prelude.{◌≡◌, ◌≤◌, ◌++◌, ◌∷◌, [], List, ℕ, cond, is_some, length, Option, Some, None, nat_lt, true}
use Rattle.std.specs.Ordering.{nat_cmp}
use Rattle.std.specs.BTreeMap.{get}
use Rattle.node_records.specs.Changes.{changes_bytes, changes_of as changes_read}
use Rattle.node_seq.specs.ChangeLists.{IsChangeList}
use Rattle.tree_model.specs.Entries.{Entries}
use Rattle.tree_model.specs.Tree.{map_of}
use Rattle.tree_model.specs.declared.change.Change.{Change}
use Rattle.call_contract.specs.Books.{next, IsAnswer, HasValidCall, IsReached}
use Rattle.call_contract.specs.Calls.{CallMeaning}
use Rattle.call_contract.specs.States.{State}
use Rattle.call_contract.specs.Steps.{step}
use Rattle.call_contract.specs.declared.events.Noted.{Noted}
use Rattle.tx_core.specs.Commits.{body_limit, PreparedView}
use Rattle.tx_core.specs.declared.errors.SessionError.{SessionError}
use Rattle.tx_core.specs.declared.errors.SessionError.TheVariants.{IsWaiting, NoTransaction}
use Rattle.tx_core.specs.declared.parts.Parts.{Parts}
use Rattle.tx_core.specs.declared.parts.Seat.{Seat}
use Rattle.tx_core.specs.inside.Standing.{Stands, OfState, seat_in}

-- there is a transaction, and it doesn't wait
abbrev pub IsReady : Option Seat → Type 0
IsReady None = ⊥
IsReady (Some seat) = seat.waiting ≡ None

-- a body of these changes that a commit may have: it is read as them again
pub record IsBodyOf (body : List ℕ) (changes : List Change) : Type 0 where
  pub list : IsChangeList changes
  pub bytes : body ≡ changes_bytes changes
  pub read : changes_read body ≡ Some changes
  pub short : length body ≤ body_limit

-- there is a transaction, and this is a body of its changes
abbrev pub HasBody : Option Seat → List ℕ → Type 0
HasBody None body = ⊥
HasBody (Some seat) body = IsBodyOf body seat.own

-- there is a transaction, and it has changed more than a commit may hold
abbrev pub HasTooMuch : Option Seat → Type 0
HasTooMuch None = ⊥
HasTooMuch (Some seat) = nat_lt body_limit (length (changes_bytes seat.own)) ≡ true

-- why no commit of it is prepared, before what it has changed is looked at
abbrev pub commit_refused : Option Seat → Option SessionError
commit_refused None = Some NoTransaction
commit_refused (Some seat) = cond (is_some seat.waiting) (Some IsWaiting) None

-- what is prepared is a commit of this number: its body has the changes, and they are read off it again
pub record IsCommit (n : ℕ) (p : PreparedView) : Type 0 where
  pub number : p.number ≡ n
  pub list : IsChangeList p.changes
  pub body : p.body ≡ changes_bytes p.changes
  pub read : changes_read p.body ≡ Some p.changes
  pub short : length p.body ≤ body_limit

-- the session whose commit was prepared is ready for it, and its layer has its memory
abbrev pub KeepsPrepared : {C B : Type 0} → Parts C B → Type 0
KeepsPrepared p = (s : ℕ) → p.prepared ≡ Some s → IsReady (seat_in (get nat_cmp p.places s)) × (1 ≤ p.layers.spare)

module _ {C B : Type 0} (is_valid : C → Type 0) (m : CallMeaning C) (told : B → Option Entries) where
  -- the book gains the machine's entry, and the core stands for the state after it, wherever it stood for a state that a legal book comes to
  pub record GoesOn (p : Parts C B) (n : Noted C) (q : Parts C B) : Type 0 where
    pub book : q.book.items ≡ p.book.items ++ n ∷ []
    pub valid : HasValidCall is_valid n.event
    pub entry : (st : State C) → IsReached is_valid m st → Stands is_valid m told p st → IsAnswer n.answer (step m st n.session n.event)
    pub state : (st : State C) → IsReached is_valid m st → Stands is_valid m told p st → Stands is_valid m told q (next m st n)

  -- whichever state p stands for, q stands for it over this base, where that has the state's committed map
  abbrev pub StandsOver : Parts C B → B → Parts C B → Type 0
  StandsOver p base q = OfState is_valid m told p (λ st. told base ≡ Some (map_of st.tree) → Stands is_valid m told q st)

-- What a core's parts keep of the machine's state.
use Rattle.std.specs.Prelude.{◌≡◌, ℕ, Option, Some, None, is_some}
use Rattle.std.specs.List.{AllByRecursion}
use Rattle.std.specs.Ordering.{nat_cmp}
use Rattle.std.specs.BTreeMap.{get}
use Rattle.tree_model.specs.Tree.{Tree, map_of}
use Rattle.tree_model.specs.ValidTrees.{IsValidTree}
use Rattle.tree_model.specs.Entries.{Entries, changed}
use Rattle.lock_table.specs.Grants.{IsTableOf}
use Rattle.wait_cycles.specs.Walks.{Rises}
use Rattle.wait_graph.specs.Graphs.{waits}
use Rattle.overlays.specs.Views.{contents_after}
use Rattle.call_contract.specs.CallChanges.{changes_of_calls}
use Rattle.call_contract.specs.Calls.{CallMeaning}
use Rattle.call_contract.specs.States.{Live, State, view, of_session, sessions}
use Rattle.tx_core.specs.Holding.{grants_of, request_of}
use Rattle.tx_core.specs.declared.parts.Parts.{Parts}
use Rattle.tx_core.specs.declared.parts.Place.{Place}
use Rattle.tx_core.specs.declared.parts.Seat.{Seat}

-- ---- sessions

-- how many transactions a session has begun, and its live one
abbrev pub ordinal_in : Option Place → ℕ
ordinal_in None = 0
ordinal_in (Some p) = p.ordinal

abbrev pub seat_in : Option Place → Option Seat
seat_in None = None
seat_in (Some p) = p.seat

module _ {C : Type 0} (is_valid : C → Type 0) (m : CallMeaning C) where
  -- what is kept of a live transaction: what its calls change on the committed tree, the map that it sees, whether it waits, and that its calls are valid
  pub record IsSeatOf (committed : Tree) (seat : Seat) (t : Live C) : Type 0 where
    pub changes : seat.own ≡ changes_of_calls m t.calls committed
    pub own : changed seat.own (map_of committed) ≡ map_of (view m t.calls committed)
    pub waits : is_some seat.waiting ≡ is_some t.waits
    pub valid : AllByRecursion (λ a. is_valid a.call) t.calls

  abbrev pub IsSeat : Tree → Option Seat → Option (Live C) → Type 0
  IsSeat committed None None = Unit {0}
  IsSeat committed None (Some t) = ⊥
  IsSeat committed (Some seat) None = ⊥
  IsSeat committed (Some seat) (Some t) = IsSeatOf committed seat t

  module _ {B : Type 0} (told : B → Option Entries) where
    -- the core's parts stand for the state
    pub record Stands (p : Parts C B) (st : State C) : Type 0 where
      pub committed : contents_after p.layers.changes (told p.base) ≡ Some (map_of st.tree)
      pub valid : IsValidTree st.tree
      pub seats : (s : ℕ) → IsSeat st.tree (seat_in (get nat_cmp p.places s)) (of_session s st.live)
      pub ordinals : (s : ℕ) → ordinal_in (get nat_cmp p.places s) ≡ st.ordinals s
      pub table : IsTableOf p.table (λ s. grants_of (of_session s st.live))
      pub graph : (s : ℕ) → waits p.graph s ≡ request_of (of_session s st.live)
      pub queue : p.waiting.items ≡ st.waiting
      pub rise : Rises (sessions st.live)
      pub opened : p.opened ≡ st.opening
      pub limit : p.limit ≡ st.limit
      pub number : p.number ≡ st.number
      pub begun : p.begun ≡ st.begun

    -- this holds of each state that the parts stand for
    abbrev pub OfState : Parts C B → (State C → Type 0) → Type 0
    OfState p Q = (st : State C) → Stands p st → Q st

    -- and this of it and of the session's live transaction in it
    abbrev pub OfTransaction : Parts C B → ℕ → (State C → Live C → Type 0) → Type 0
    OfTransaction p s Q = (st : State C) (t : Live C) → Stands p st → of_session s st.live ≡ Some t → Q st t

    -- the state stays: whichever p stands for, q does too
    abbrev pub KeepsState : Parts C B → Parts C B → Type 0
    KeepsState p q = (st : State C) → Stands p st → Stands q st

    -- the state moves: q stands for what the session's live transaction makes of the state that p stands for
    abbrev pub MovesTo : Parts C B → ℕ → (State C → Live C → State C) → Parts C B → Type 0
    MovesTo p s state q = OfTransaction p s (λ st t. Stands q (state st t))

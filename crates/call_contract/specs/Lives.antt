-- What holds of the live transactions of a state that a legal book comes to.
use Rattle.std.specs.Prelude.{◌≡◌, ◌≢◌, ℕ, true, false, List, Some}
use Rattle.lock_resources.specs.declared.request.Request.{Request}
use Rattle.lock_resources.specs.declared.resource.Resource.{Resource}
use Rattle.lock_table.specs.Asks.{is_barred}
use Rattle.lock_table.specs.Grants.{join_of}
use Rattle.tree_cells.specs.Cells.{Cell, value_at}
use Rattle.tree_cells.specs.Covers.{reads, writes, Agree}
use Rattle.call_contract.specs.Calls.{CallMeaning}
use Rattle.call_contract.specs.States.{Live, State, of_session, view, replies, given}
use Rattle.call_contract.specs.Replays.{IsSameRun}

-- each one's replies are its replies on the committed tree
abbrev pub RepliesStand : {C : Type 0} → CallMeaning C → State C → Type 0
RepliesStand {C = C} m st = (s : ℕ) (x : Live C) → of_session s st.live ≡ Some x → replies m x.calls st.tree ≡ given x.calls

-- each one sees what is committed in all cells that it doesn't cover for writing
abbrev pub WritesAreCovered : {C : Type 0} → CallMeaning C → State C → Type 0
WritesAreCovered {C = C} m st = (s : ℕ) (x : Live C) → of_session s st.live ≡ Some x
    → (y : Cell) → writes x.grants y ≡ false → value_at (view m x.calls st.tree) y ≡ value_at st.tree y

-- if x commits, then for y: its calls have the same requests, replies and written values,
-- and what it covers for reading is the same, on the committed trees and in what it sees
pub record IsReplayed {C : Type 0} (m : CallMeaning C) (st : State C) (x y : Live C) : Type 0 where
  pub calls : IsSameRun m y.calls st.tree (view m x.calls st.tree)
  pub committed : Agree y.grants st.tree (view m x.calls st.tree)
  pub seen : Agree y.grants (view m y.calls st.tree) (view m y.calls (view m x.calls st.tree))

-- of any two live transactions
abbrev pub CommitsReplay : {C : Type 0} → CallMeaning C → State C → Type 0
CommitsReplay {C = C} m st = (s u : ℕ) (x y : Live C) → of_session s st.live ≡ Some x → of_session u st.live ≡ Some y → u ≢ s → IsReplayed m st x y

-- no cell that one of them covers for reading is covered by another one for writing
abbrev pub NoCellIsShared : {C : Type 0} → State C → Type 0
NoCellIsShared {C = C} st = (s u : ℕ) (x y : Live C) → of_session s st.live ≡ Some x → of_session u st.live ≡ Some y → s ≢ u
    → (c : Cell) → reads x.grants c ≡ true → writes y.grants c ≡ false

-- at some resource the mode that these requests come to doesn't go together with that of those
abbrev pub BarSomewhere : List Request → List Request → Type 0
BarSomewhere gs hs = (r : Resource) × (is_barred (join_of gs r) (join_of hs r) ≡ true)

-- What a transaction's calls change: the changes of each, one over another.
use Rattle.std.specs.Prelude.{◌≡◌, ◌≢◌, ℕ, List, [], ◌∷◌, Some}
use Rattle.tree_model.specs.Changes.{Rising, laid}
use Rattle.tree_model.specs.Entries.{changed}
use Rattle.tree_model.specs.declared.change.Change.{Change}
use Rattle.tree_model.specs.Tree.{Tree, map_of}
use Rattle.call_contract.specs.Calls.{CallMeaning, changes_of}
use Rattle.call_contract.specs.States.{Answered, Live, State, of_session, view}

-- the changes so far, with those of further calls on this tree laid over them
abbrev pub with_calls : {C : Type 0} → CallMeaning C → List (Answered C) → Tree → List Change → List Change
with_calls m [] t changes = changes
with_calls m (a ∷ cs) t changes = with_calls m cs (m.after a.call t) (laid (changes_of m a.call t) changes)

-- the changes of calls on this tree
abbrev pub changes_of_calls : {C : Type 0} → CallMeaning C → List (Answered C) → Tree → List Change
changes_of_calls m cs t = with_calls m cs t []

-- the changes of calls, with those of one more call after them laid over
abbrev pub changes_with_one_more : {C : Type 0} → CallMeaning C → List (Answered C) → Answered C → Tree → List Change
changes_with_one_more m cs a t = laid (changes_of m a.call (view m cs t)) (changes_of_calls m cs t)

-- these changes lead from a tree to another: their keys rise, and laid over the one's map they make the other's
pub record LeadTo (changes : List Change) (t u : Tree) : Type 0 where
  pub rise : Rising changes
  pub map : changed changes (map_of t) ≡ map_of u

-- the changes of calls on a tree lead from it to what is seen after them
abbrev pub CallsLead : {C : Type 0} → CallMeaning C → List (Answered C) → Tree → Type 0
CallsLead m cs t = LeadTo (changes_of_calls m cs t) t (view m cs t)

-- each live transaction's changes lead from the committed tree to what it sees
abbrev pub ChangesLead : {C : Type 0} → CallMeaning C → State C → Type 0
ChangesLead {C = C} m st = (s : ℕ) (x : Live C) → of_session s st.live ≡ Some x → CallsLead m x.calls st.tree

-- if one live transaction commits, every other one's changes are on the new tree what they were
abbrev pub ChangesStay : {C : Type 0} → CallMeaning C → State C → Type 0
ChangesStay {C = C} m st = (s u : ℕ) (x y : Live C) → of_session s st.live ≡ Some x → of_session u st.live ≡ Some y → u ≢ s
    → changes_of_calls m y.calls (view m x.calls st.tree) ≡ changes_of_calls m y.calls st.tree

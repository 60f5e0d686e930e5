-- What holds of every state that a run comes to.
use Rattle.std.specs.Prelude.{◌≡◌, ◌≢◌, ℕ, false, List, [], ◌∷◌, Option, Some, None}
use Rattle.lock_resources.specs.declared.request.Request.{Request}
use Rattle.tree_model.specs.Tree.{Tree}
use Rattle.tree_model.specs.ValidTrees.{IsValidTree}
use Rattle.tree_cells.specs.Covers.{IsCoveredBy}
use Rattle.tree_cells.specs.Forms.{HasForm}
use Rattle.tree_cells.specs.Clashes.{bar_each_other}
use Rattle.call_contract.specs.Calls.{CallMeaning}
use Rattle.call_contract.specs.States.{Answered, Waiting, Live, of_session}

-- a valid call, all of whose requests these grants cover, has on this tree the reply that it was given
pub record IsKept {C : Type 0} (is_valid : C → Type 0) (m : CallMeaning C) (gs : List Request) (a : Answered C) (t : Tree) : Type 0 where
  pub valid : is_valid a.call
  pub covers : IsCoveredBy (m.requests a.call t) gs
  pub reply : m.reply a.call t ≡ a.reply

-- and so have these, one after another
abbrev pub AreKept : {C : Type 0} → (C → Type 0) → CallMeaning C → List Request → List (Answered C) → Tree → Type 0
AreKept is_valid m gs [] t = Unit {0}
AreKept is_valid m gs (a ∷ cs) t = IsKept is_valid m gs a t × AreKept is_valid m gs cs (m.after a.call t)

-- a call that waits is valid
abbrev pub WaitsValid : {C : Type 0} → (C → Type 0) → Option (Waiting C) → Type 0
WaitsValid is_valid None = Unit {0}
WaitsValid is_valid (Some w) = is_valid w.call

-- what holds of one live transaction
pub record IsSound {C : Type 0} (is_valid : C → Type 0) (m : CallMeaning C) (t : Tree) (s : ℕ) (x : Live C) : Type 0 where
  pub named : x.session ≡ s
  pub formed : HasForm x.grants
  pub kept : AreKept is_valid m x.grants x.calls t
  pub waits : WaitsValid is_valid x.waits

-- what holds of all of them on the committed tree
pub record AllSound {C : Type 0} (is_valid : C → Type 0) (m : CallMeaning C) (t : Tree) (ts : List (Live C)) : Type 0 where
  pub valid_tree : IsValidTree t
  pub each : (s : ℕ) (x : Live C) → of_session s ts ≡ Some x → IsSound is_valid m t s x
  pub apart : (s u : ℕ) (x y : Live C) → of_session s ts ≡ Some x → of_session u ts ≡ Some y → s ≢ u → bar_each_other x.grants y.grants ≡ false

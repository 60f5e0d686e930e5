-- What a call means, and the laws by which its transaction can be made again on another tree (docs/PROFILE.md, "Laws of calls").
use Rattle.std.specs.Prelude.{◌≡◌, ℕ, suc, true, false, List, [], take}
use Rattle.lock_resources.specs.declared.request.Request.{Request}
use Rattle.tree_model.specs.declared.reply.Reply.{Reply}
use Rattle.tree_model.specs.declared.change.Change.{Change}
use Rattle.tree_model.specs.Changes.{differences}
use Rattle.tree_model.specs.Tree.{Tree, map_of}
use Rattle.tree_model.specs.ValidTrees.{IsValidTree}
use Rattle.tree_model.specs.Outcomes.{is_refused}
use Rattle.tree_cells.specs.Cells.{Cell, value_at}
use Rattle.tree_cells.specs.Covers.{writes, Agree}
use Rattle.tree_cells.specs.Forms.{HasForm}

-- what each call asks for on a tree, what it is answered, and the tree after it
pub record CallMeaning (C : Type 0) : Type 0 where
  pub requests : C → Tree → List Request
  pub reply : C → Tree → Reply
  pub after : C → Tree → Tree

-- the changes of a call on a tree: one for each key whose record differs after it, and no other
abbrev pub changes_of : {C : Type 0} → CallMeaning C → C → Tree → List Change
changes_of m c t = differences (map_of t) (map_of (m.after c t))

-- the call is answered this, and changes nothing
pub record OnlyAnswers {C : Type 0} (m : CallMeaning C) (c : C) (t : Tree) (answer : Reply) : Type 0 where
  pub reply : answer ≡ m.reply c t
  pub changes : changes_of m c t ≡ []

-- the form of the requests, and four laws; what is covered is covered by the call's own requests on the first tree
pub record CallLaws (C : Type 0) (is_valid : C → Type 0) (m : CallMeaning C) : Type 0 where
  pub form : (c : C) (t : Tree) → is_valid c → IsValidTree t → HasForm (m.requests c t)
  -- 1. trees that agree on what is covered for reading give the same reply ..
  pub same_reply : (c : C) (t u : Tree) → is_valid c → IsValidTree t → IsValidTree u → Agree (m.requests c t) t u → m.reply c t ≡ m.reply c u
  -- .. and afterwards have the same in each cell that is covered for writing
  pub same_written : (c : C) (t u : Tree) → is_valid c → IsValidTree t → IsValidTree u → Agree (m.requests c t) t u
      → (x : Cell) → writes (m.requests c t) x ≡ true → value_at (m.after c t) x ≡ value_at (m.after c u) x
  -- 2. no other cell changes
  pub keeps_rest : (c : C) (t : Tree) → is_valid c → IsValidTree t → (x : Cell) → writes (m.requests c t) x ≡ false → value_at (m.after c t) x ≡ value_at t x
  -- 3. trees that agree on what the first k requests cover for reading have the same first k, and the same next one or both none
  pub same_next : (c : C) (t u : Tree) (k : ℕ) → is_valid c → IsValidTree t → IsValidTree u → Agree (take k (m.requests c t)) t u
      → take (suc k) (m.requests c t) ≡ take (suc k) (m.requests c u)
  -- 4. a valid tree stays valid, and a refused call changes nothing
  pub keeps_valid : (c : C) (t : Tree) → is_valid c → IsValidTree t → IsValidTree (m.after c t)
  pub refused_keeps : (c : C) (t : Tree) → is_valid c → IsValidTree t → is_refused (m.reply c t) ≡ true → m.after c t ≡ t

-- calls that hold a call of this meaning
abbrev pub held_meaning : {C D : Type 0} → (D → C) → CallMeaning C → CallMeaning D
held_meaning call m = record { requests = λ d t. m.requests (call d) t; reply = λ d t. m.reply (call d) t; after = λ d t. m.after (call d) t }

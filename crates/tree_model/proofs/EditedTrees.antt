-- A change at one place of a tree keeps the tree valid where it keeps its place so.
use Rattle.std.proofs.Common.{◌≡◌, true, ◌∷◌, Some, None, refl, sym, ap, subst, false, ◌∙◌, true≢false}
use Rattle.dewey_labels.specs.Labels.{Label, root, is_child, is_label}
use Rattle.dewey_labels.proofs.Sides.{same_is}
use Rattle.dewey_labels.specs.Sides.{above, left, same, under, right, side}
use Rattle.dewey_labels.proofs.Labels.{child_label}
use Rattle.tree_model.specs.Tree.{Forest, none, node, Tree, choose, at, found, head_label, labels, edit}
use Rattle.tree_model.specs.inside.FoundNodes.{up, low}
use Rattle.tree_model.specs.ValidTrees.{KeysRise, KindsAllowed, LimitsKept, IsCatalogueOf, IsValidTree}
use Rattle.tree_model.specs.Edits.{edited}
use Rattle.tree_model.proofs.Found.{some_is, at_keys, at_label}
use Rattle.tree_model.proofs.Edits.{over, edit_keys, edit_kinds, edit_limits}

-- a change that keeps the labels of its row keeps those of the first row
pub labels-edit : (l : Label) (h : Forest → Forest) (f : Forest) → ((g : Forest) → labels (h g) ≡ labels g) → labels (edit l h f) ≡ labels f
labels-edit l h none k = refl
labels-edit l h (node m r ats ch nx) k = elim (side m l) as (λ s. labels (choose s (node m r ats ch nx) (h (node m r ats ch nx)) (node m r ats (edit l h ch) nx) (node m r ats ch (edit l h nx))) ≡ m ∷ labels nx) [
  | above ↦ refl
  | left ↦ refl
  | same ↦ k (node m r ats ch nx)
  | under ↦ refl
  | right ↦ ap (λ v. m ∷ v) (labels-edit l h nx k)
]

-- nor does a change below the first row touch that row
pub labels-edit_below : (l p b : Label) (h : Forest → Forest) (f : Forest) → KeysRise p b f → is_child p l ≡ false → labels (edit l h f) ≡ labels f
labels-edit_below l p b h none w c = refl
labels-edit_below l p b h (node m r ats ch nx) w c = elim (side m l) as (λ s. side m l ≡ s → labels (choose s (node m r ats ch nx) (h (node m r ats ch nx)) (node m r ats (edit l h ch) nx) (node m r ats ch (edit l h nx))) ≡ m ∷ labels nx) [
  | above ↦ λ _. refl
  | left ↦ λ _. refl
  | same ↦ λ e. absurd (true≢false (sym (subst (λ v. is_child p v ≡ true) (sym (same_is m l e)) w.0) ∙ c))
  | under ↦ λ _. refl
  | right ↦ λ _. ap (λ v. m ∷ v) (labels-edit_below l p m h nx w.5 c)
] refl

-- what a change has to keep at the place of a label
pub record KeepsPlace (l : Label) (h : Forest → Forest) (f : Forest) : Type 0 where
  pub documents : labels (edit l h f) ≡ labels f
  pub keys : KeysRise (up l root f) (low l root f) (at l f) → KeysRise (up l root f) (low l root f) (h (at l f))
  pub kinds : KindsAllowed (over l None f) (at l f) → KindsAllowed (over l None f) (h (at l f))
  pub limits : LimitsKept (at l f) → LimitsKept (h (at l f))

-- then the tree stays valid
pub edited_keeps : (l : Label) (h : Forest → Forest) (t : Tree) → IsValidTree t → KeepsPlace l h t.documents → IsValidTree (edited l h t)
edited_keeps l h t w k = record {
  keys = edit_keys root root l h t.documents w.keys k.keys;
  kinds = edit_kinds None l h t.documents w.kinds k.kinds;
  limits = edit_limits l h t.documents w.limits k.limits;
  catalogue = subst (λ v. IsCatalogueOf v t.catalogue) (sym k.documents) w.catalogue;
}

-- a node's parent has a label
pub up_label : (l p b : Label) (f : Forest) → is_label p ≡ true → KeysRise p b f → is_label (up l p f) ≡ true
up_label l p b none h w = h
up_label l p b (node m r ats ch nx) h w = elim (side m l) as (λ s. is_label (choose s p p (up l m ch) (up l p nx)) ≡ true) [
  | above ↦ h
  | left ↦ h
  | same ↦ h
  | under ↦ up_label l m m ch (child_label p m h w.0) w.4
  | right ↦ up_label l p m nx h w.5
]

-- so the label of a found node is one
pub found_label : (l : Label) (f : Forest) → KeysRise root root f → found (at l f) ≡ true → is_label l ≡ true
found_label l f w y =
    let there = at_keys root root l f w in
    elim (at l f) as (λ g. KeysRise (up l root f) there.0 g → head_label g ≡ Some l → found g ≡ true → is_label l ≡ true) [
      | none ↦ λ _ _ q. cc
      | node m r ats ch nx ↦ λ v h _. subst (λ z. is_label z ≡ true) (some_is m l h) (child_label (up l root f) m (up_label l root root f refl w) v.0)
    ] there.1 (at_label l f y) y

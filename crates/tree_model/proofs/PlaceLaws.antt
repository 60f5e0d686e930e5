-- The laws of places, the root among them: the rows below them, and their attributes in the map.
use Rattle.std.proofs.Common.{◌≡◌, ℕ, Bool, true, false, cond, ◌∷◌, Option, None, Some, refl, sym, ap, subst, ◌∙◌, true≢false, ◌⊎◌, inl, inr, ⊎_elim}
use Rattle.dewey_labels.specs.Labels.{Label, root, is_child, is_label}
use Rattle.dewey_labels.specs.Sides.{above, left, same, under, right, side, is_in}
use Rattle.dewey_labels.proofs.Sides.{side_itself, same_is, right_within, in_under}
use Rattle.dewey_labels.proofs.Codes.{child_under}
use Rattle.tree_model.specs.Keys.{key_at}
use Rattle.tree_model.specs.Names.{Name}
use Rattle.tree_model.specs.Entries.{get, last_below}
use Rattle.tree_model.specs.Tree.{Forest, none, node, Tree, map_of, choose, at, found, below, head_label, prev_of, beside}
use Rattle.tree_model.specs.inside.FoundNodes.{up}
use Rattle.tree_model.specs.ValidTrees.{KeysRise, IsValidTree}
use Rattle.tree_model.specs.Places.{is_root, row, attributes_at, last_in}
use Rattle.tree_model.specs.inside.Seeks.{behind_tree, if_child}
use Rattle.tree_model.proofs.Found.{some_is, at_keys, at_label}
use Rattle.tree_model.proofs.WholeTree.{found_under, beside_root, get_document}
use Rattle.tree_model.proofs.StoredCatalogues.{root_is, under_not_root}
use Rattle.tree_model.proofs.Stretches.{attr_record}
use Rattle.tree_model.proofs.TreeReads.{attribute_in_tree, last_in_tree, last_document_in_tree}
use Rattle.tree_model.proofs.FoundParents.{parent_found}

-- a label is the root's, or that of a found node
abbrev pub IsPlace : Label → Tree → Type 0
IsPlace l t = (is_root l ≡ true) ⊎ (found (at l t.documents) ≡ true)

pub found_or_not : (b : Bool) → (b ≡ true) ⊎ (b ≡ false)
found_or_not true = inl refl
found_or_not false = inr refl

pub none_found : (f : Forest) → found f ≡ false → f ≡ none
none_found none e = refl
none_found (node l r ats ch nx) e = absurd (true≢false e)

-- the root is no node
pub not_root : (l : Label) (t : Tree) → IsValidTree t → found (at l t.documents) ≡ true → is_root l ≡ false
not_root l t w y = under_not_root l (found_under root root l t.documents w.keys y)

pub below_keys : (q : Label) (t : Tree) → IsValidTree t → KeysRise q q (below (at q t.documents))
below_keys q t w = by _ (at q t.documents) (at_keys root root q t.documents w.keys).1 (at_label q t.documents)
  where
    by : (b : Label) (g : Forest) → KeysRise (up q root t.documents) b g → (found g ≡ true → head_label g ≡ Some q) → KeysRise q q (below g)
    by b none v h = tt
    by b (node m r ats ch nx) v h = subst (λ z. KeysRise z z ch) (some_is m q (h refl)) v.4

-- a row's keys rise below its label
pub row_keys : (q : Label) (t : Tree) → IsValidTree t → KeysRise q q (row q t)
row_keys q t w = elim (is_root q) as (λ b. is_root q ≡ b → KeysRise q q (cond b t.documents (below (at q t.documents)))) [
  | true ↦ λ e. subst (λ z. KeysRise z z t.documents) (sym (root_is q e)) w.keys
  | false ↦ λ _. below_keys q t w
] refl

-- a child of a found node is found among its children
pub at_below : (p b q m : Label) (f : Forest) → KeysRise p b f → found (at q f) ≡ true → is_child q m ≡ true → at m f ≡ at m (below (at q f))
at_below p b q m none w y c = absurd (true≢false (sym y))
at_below p b q m (node k r ats ch nx) w y c =
    let whole = node k r ats ch nx in
    elim (side k q) as (λ s. side k q ≡ s → found (choose s none whole (at q ch) (at q nx)) ≡ true → at m whole ≡ at m (below (choose s none whole (at q ch) (at q nx)))) [
      | above ↦ λ _ e. absurd (true≢false (sym e))
      | left ↦ λ _ e. absurd (true≢false (sym e))
      | same ↦ λ s _. ap (λ s. choose s none whole (at m ch) (at m nx)) (subst (λ v. side v m ≡ under) (same_is k q s) (child_under q m c))
      | under ↦ λ s e. ap (λ s. choose s none whole (at m ch) (at m nx)) (in_under k q m s (ap is_in (child_under q m c))) ∙ at_below k k q m ch w.4 e c
      | right ↦ λ s e. ap (λ s. choose s none whole (at m ch) (at m nx)) (right_within k q k m s (ap is_in (side_itself k)) (ap is_in (child_under q m c))) ∙ at_below p k q m nx w.5 e c
    ] refl y

pub prev_below : (o : Option Label) (p b q m : Label) (f : Forest) → KeysRise p b f → found (at q f) ≡ true → is_child q m ≡ true → prev_of o m f ≡ prev_of None m (below (at q f))
prev_below o p b q m none w y c = absurd (true≢false (sym y))
prev_below o p b q m (node k r ats ch nx) w y c =
    let whole = node k r ats ch nx in
    elim (side k q) as (λ s. side k q ≡ s → found (choose s none whole (at q ch) (at q nx)) ≡ true → prev_of o m whole ≡ prev_of None m (below (choose s none whole (at q ch) (at q nx)))) [
      | above ↦ λ _ e. absurd (true≢false (sym e))
      | left ↦ λ _ e. absurd (true≢false (sym e))
      | same ↦ λ s _. ap (λ s. choose s None o (prev_of None m ch) (prev_of (Some k) m nx)) (subst (λ v. side v m ≡ under) (same_is k q s) (child_under q m c))
      | under ↦ λ s e. ap (λ s. choose s None o (prev_of None m ch) (prev_of (Some k) m nx)) (in_under k q m s (ap is_in (child_under q m c))) ∙ prev_below None k k q m ch w.4 e c
      | right ↦ λ s e. ap (λ s. choose s None o (prev_of None m ch) (prev_of (Some k) m nx)) (right_within k q k m s (ap is_in (side_itself k)) (ap is_in (child_under q m c))) ∙ prev_below (Some k) p k q m nx w.5 e c
    ] refl y

no_prev_there : (o : Option Label) (l : Label) (f : Forest) → found (at l f) ≡ false → prev_of o l f ≡ None
no_prev_there o l none y = refl
no_prev_there o l (node k r ats ch nx) y = elim (side k l) as (λ s. found (choose s none (node k r ats ch nx) (at l ch) (at l nx)) ≡ false → choose s None o (prev_of None l ch) (prev_of (Some k) l nx) ≡ None) [
  | Rattle.dewey_labels.specs.Sides.above ↦ λ _. refl
  | Rattle.dewey_labels.specs.Sides.left ↦ λ _. refl
  | Rattle.dewey_labels.specs.Sides.same ↦ λ e. absurd (true≢false e)
  | Rattle.dewey_labels.specs.Sides.under ↦ λ e. no_prev_there None l ch e
  | Rattle.dewey_labels.specs.Sides.right ↦ λ e. no_prev_there (Some k) l nx e
] y

-- a child is found in its row, with what stands before it
pub at_row : (q m : Label) (t : Tree) → IsValidTree t → is_label q ≡ true → is_child q m ≡ true → at m t.documents ≡ at m (row q t)
at_row q m t w i c = elim (is_root q) as (λ b. is_root q ≡ b → at m t.documents ≡ at m (cond b t.documents (below (at q t.documents)))) [
  | true ↦ λ _. refl
  | false ↦ λ e. ⊎_elim
      (λ y. at_below root root q m t.documents w.keys y c)
      (λ y. none_found (at m t.documents) (absent e y (found (at m t.documents)) refl) ∙ sym (ap (λ g. at m (below g)) (none_found (at q t.documents) y)))
      (found_or_not (found (at q t.documents)))
] refl
  where
    absent : is_root q ≡ false → found (at q t.documents) ≡ false → (b : Bool) → found (at m t.documents) ≡ b → b ≡ false
    absent e y false h = refl
    absent e y true h = ⊎_elim (λ g. absurd (true≢false (sym g ∙ e))) (λ g. absurd (true≢false (sym g ∙ y))) (parent_found q m t w i c h)

pub prev_row : (q m : Label) (t : Tree) → IsValidTree t → is_label q ≡ true → is_child q m ≡ true → prev_of None m t.documents ≡ prev_of None m (row q t)
prev_row q m t w i c = elim (is_root q) as (λ b. is_root q ≡ b → prev_of None m t.documents ≡ prev_of None m (cond b t.documents (below (at q t.documents)))) [
  | true ↦ λ _. refl
  | false ↦ λ e. ⊎_elim
      (λ y. prev_below None root root q m t.documents w.keys y c)
      (λ y. no_prev_there None m t.documents (absent e y (found (at m t.documents)) refl) ∙ sym (ap (λ g. prev_of None m (below g)) (none_found (at q t.documents) y)))
      (found_or_not (found (at q t.documents)))
] refl
  where
    absent : is_root q ≡ false → found (at q t.documents) ≡ false → (b : Bool) → found (at m t.documents) ≡ b → found (at m t.documents) ≡ false
    absent e y false h = h
    absent e y true h = ⊎_elim (λ g. absurd (true≢false (sym g ∙ e))) (λ g. absurd (true≢false (sym g ∙ y))) (parent_found q m t w i c h)

-- ---- attributes of a place

-- in the map
pub attribute_at_place : (l : Label) (d : ℕ) (n : Name) (t : Tree) → IsValidTree t → IsPlace l t → get (key_at l (d ∷ n)) (map_of t) ≡ attr_record (beside (d ∷ n) (attributes_at l t))
attribute_at_place l d n t w place = ⊎_elim
    (λ e. let is : l ≡ root = root_is l e in subst (λ k. get (key_at k (d ∷ n)) (map_of t) ≡ attr_record (beside (d ∷ n) (attributes_at k t))) (sym is) (get_document d n t w ∙ ap attr_record (sym (beside_root (d ∷ n) t.catalogue))))
    (λ y. attribute_in_tree l d n t w y ∙ ap (λ b. attr_record (beside (d ∷ n) (cond b (Rattle.tree_model.specs.Tree.root_attributes t.catalogue) (Rattle.tree_model.specs.Tree.attributes_of (at l t.documents))))) (sym (not_root l t w y)))
    place

-- ---- the last tree of a row

-- by one read
pub last_of_place : (l : Label) (t : Tree) → IsValidTree t → IsPlace l t → if_child l (last_below (behind_tree l) (map_of t)) ≡ last_in l t
last_of_place l t w place = ⊎_elim
    (λ e. let is : l ≡ root = root_is l e in subst (λ k. if_child k (last_below (behind_tree k) (map_of t)) ≡ last_in k t) (sym is) (last_document_in_tree t w))
    (λ y. last_in_tree l t w y ∙ ap (λ b. Rattle.tree_model.specs.Tree.last_label (cond b t.documents (below (at l t.documents)))) (sym (not_root l t w y)))
    place

-- Each label of an entry of a tree's map is that of a node or the root, and so are the labels above it.
use Rattle.std.proofs.Common.{◌≡◌, ℕ, zero, suc, true, ◌++◌, ◌⊎◌, inl, inr, ⊎_elim, refl, sym, ap, subst, ◌∙◌}
use Rattle.std.specs.List.{AllByRecursion}
use Rattle.dewey_labels.specs.Labels.{Label, root, parent, cut, is_label}
use Rattle.dewey_labels.specs.Sides.{under, right, side, is_under}
use Rattle.dewey_labels.proofs.Sides.{side_itself, ancestor_under}
use Rattle.dewey_labels.proofs.Labels.{is_ancestor_is}
use Rattle.tree_model.specs.Tree.{Forest, none, node, own, entries_of, choose, at, found, Tree, map_of}
use Rattle.tree_model.specs.Places.{is_root}
use Rattle.tree_model.specs.ValidTrees.{KeysRise, IsValidTree}
use Rattle.tree_model.proofs.Lists.{all_append, all_on, all_by}
use Rattle.tree_model.proofs.Split.{own_all, Labelled, SideIs, all_under, all_right}
use Rattle.tree_model.proofs.Found.{up_parent}
use Rattle.tree_model.proofs.FoundParents.{up_found}
use Rattle.tree_model.proofs.StoredCatalogues.{root_is}
use Rattle.tree_model.proofs.WholeTree.{catalogue_entries, at_root}

-- the label is the root's or a node's
abbrev pub IsPlace : Tree → Label → Type 0
IsPlace t l = (is_root l ≡ true) ⊎ (found (at l t.documents) ≡ true)

-- each entry of a forest has a node's label
all_found : (p b : Label) (f : Forest) → KeysRise p b f → AllByRecursion (Labelled (λ k. found (at k f) ≡ true)) (entries_of f)
all_found p b none w = tt
all_found p b (node m r ats ch nx) w =
    let whole = node m r ats ch nx in
    let S = Labelled (λ k. found (at k whole) ≡ true) in
    all_append S (own m r ats ++ entries_of ch) (entries_of nx)
    (all_append S (own m r ats) (entries_of ch)
    (own_all (λ k. found (at k whole) ≡ true) m r ats (ap (λ s. found (choose s none whole (at m ch) (at m nx))) (side_itself m)))
    (all_by (Labelled (SideIs m under)) (Labelled (λ k. found (at k ch) ≡ true)) S (λ e u h. ap (λ s. found (choose s none whole (at e.0.label ch) (at e.0.label nx))) u ∙ h) (entries_of ch) (all_under m m ch w.4) (all_found m m ch w.4)))
    (all_by (Labelled (SideIs m right)) (Labelled (λ k. found (at k nx) ≡ true)) S (λ e u h. ap (λ s. found (choose s none whole (at e.0.label ch) (at e.0.label nx))) u ∙ h) (entries_of nx) (all_right p m nx w.0 w.5) (all_found p m nx w.5))

-- each entry of the map has a place's label
pub all_places : (t : Tree) → IsValidTree t → AllByRecursion (Labelled (IsPlace t)) (map_of t)
all_places t w = all_append (Labelled (IsPlace t)) (catalogue_entries t.catalogue) (entries_of t.documents)
    (at_root (IsPlace t) (inl refl) t.catalogue)
    (all_on (Labelled (λ k. found (at k t.documents) ≡ true)) (Labelled (IsPlace t)) (λ e h. inr h) (entries_of t.documents) (all_found root root t.documents w.keys))

-- the label above that of a place is a place's
parent_place : (t : Tree) (l : Label) → IsValidTree t → IsPlace t l → IsPlace t (parent l)
parent_place t l w (inl h) = inl (ap (λ k. is_root (parent k)) (root_is l h))
parent_place t l w (inr h) = subst (IsPlace t) (up_parent l t.documents w.keys h) (⊎_elim (λ e. inl (ap is_root e)) (λ e. inr e) (up_found root root l t.documents w.keys h))

cut_place : (t : Tree) (n : ℕ) (l : Label) → IsValidTree t → IsPlace t l → IsPlace t (cut n l)
cut_place t zero l w h = h
cut_place t (suc n) l w h = parent_place t (cut n l) w (cut_place t n l w h)

-- a label under which a place lies is a place's
pub above_place : (t : Tree) (l k : Label) → IsValidTree t → is_label l ≡ true → is_label k ≡ true → is_under (side l k) ≡ true → IsPlace t k → IsPlace t l
above_place t l k w hl hk u h =
    let a = (is_ancestor_is l k hl hk).0 (ancestor_under l k ∙ u) in
    subst (IsPlace t) (sym a.3) (cut_place t a.0 k w h)

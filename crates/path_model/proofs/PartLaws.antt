-- Five axes part the nodes of a document (XPath 1.0, section 2.2).
use Rattle.std.proofs.Common.{◌≡◌, Bool, true, false, cond, if◌then◌else◌, ◌&&◌, List, [], ◌∷◌, length, Less, Equal, Greater, nat_cmp, is_eq, refl, sym, ap, subst, ◌∙◌, true≢false, append-nil}
use Rattle.std.specs.List.{filter}
use Rattle.std.specs.Ordering.{ordering_then, ordering_reverse}
use Rattle.std.specs.Cmp.{nat_cmp_total}
use Rattle.std.specs.Cmp.Lexicographic.{slice_cmp, nat_list_cmp_total}
use Rattle.dewey_labels.specs.Labels.{Label, root}
use Rattle.dewey_labels.specs.Sides.{Side, side, turn, ahead, is_in, is_under, is_right, above, left, same, under, right}
use Rattle.dewey_labels.proofs.Sides.{same_is, ahead_before, under_before, right_before}
use Rattle.tree_model.specs.Tree.{Tree, at, found}
use Rattle.tree_model.specs.ValidTrees.{IsValidTree, same_label}
use Rattle.tree_model.proofs.EntryLimits.{list_itself}
use Rattle.tree_model.proofs.StoredCatalogues.{same_label_is}
use Rattle.tree_model.proofs.WholeTree.{in_then_under}
use Rattle.path_model.specs.declared.path.Axis.{Axis}
use Rattle.path_model.specs.declared.path.Axis.TheVariants as axis
use Rattle.path_model.specs.Axes.{document_of, is_above, is_left, relates, share_document, parting}
use Rattle.path_model.specs.Positions.{Position, a_node, an_attribute, is_node}
use Rattle.path_model.specs.Sets.{At}
use Rattle.path_model.proofs.NodeLooks.{same_label_itself}
use Rattle.path_model.proofs.Standing.{stands}
use Rattle.path_model.proofs.Ways.{IsTop, document_top, same_document}

-- ---- labels

above_under : (l k : Label) → side l k ≡ above → side k l ≡ under
above_under [] [] h = cc
above_under [] (y ∷ k) h = cc
above_under (x ∷ l) [] h = refl
above_under (x ∷ l) (y ∷ k) h =
    elim (nat_cmp y x) as (λ o. nat_cmp x y ≡ ordering_reverse o → turn o (side l k) ≡ above → turn (nat_cmp x y) (side k l) ≡ under) [
      | Less ↦ λ _ e. cc
      | Equal ↦ λ q e. ap (λ o. turn o (side k l)) q ∙ above_under l k e
      | Greater ↦ λ _ e. cc
    ] (nat_cmp_total.antisymm x y) h

-- the keys of nodes with these labels are one
abbrev SameKey : Label → Label → Bool
SameKey l k = is_eq (ordering_then (slice_cmp nat_cmp l k) Equal)

before_apart : (l k : Label) → slice_cmp nat_cmp l k ≡ Less → SameKey l k ≡ false
before_apart l k h = ap (λ o. is_eq (ordering_then o Equal)) h

behind_apart : (l k : Label) → slice_cmp nat_cmp k l ≡ Less → SameKey l k ≡ false
behind_apart l k h = ap (λ o. is_eq (ordering_then o Equal)) (nat_list_cmp_total.antisymm l k ∙ ap ordering_reverse h)

ahead_apart : (l k : Label) → ahead (side l k) ≡ true → SameKey l k ≡ false
ahead_apart l k h = behind_apart l k (subst (λ v. slice_cmp nat_cmp k v ≡ Less) (append-nil l) (ahead_before l k [] h))

same_key : (l k : Label) → side l k ≡ same → SameKey l k ≡ true
same_key l k h = ap (λ o. is_eq (ordering_then o Equal)) (ap (slice_cmp nat_cmp l) (same_is l k h) ∙ list_itself l)

-- ---- the axes that relate two nodes, by the side on which the second lies, whether they share a document, and whether they are one

abbrev on_self : Bool → List Axis
on_self e = cond e (axis.SelfNode ∷ []) []

abbrev on_preceding : Side → Bool → Bool → List Axis
on_preceding s h e = cond (h && is_left s) (axis.Preceding ∷ on_self e) (on_self e)

abbrev on_following : Side → Bool → Bool → List Axis
on_following s h e = cond (h && is_right s) (axis.Following ∷ on_preceding s h e) (on_preceding s h e)

abbrev on_descendant : Side → Bool → Bool → List Axis
on_descendant s h e = cond (is_under s) (axis.Descendant ∷ on_following s h e) (on_following s h e)

abbrev relating : Side → Bool → Bool → List Axis
relating s h e = cond (is_above s) (axis.Ancestor ∷ on_descendant s h e) (on_descendant s h e)

counted : (s : Side) (h e : Bool) (z : Side) (b c : Bool) → s ≡ z → h ≡ b → e ≡ c → length (relating s h e) ≡ length (relating z b c)
counted s h e z b c p q r = λ i. length (relating (p i) (q i) (r i))

-- ---- which nodes share a document

module _ (t : Tree) (valid : IsValidTree t) where
  shared_below : (l k : Label) → found (at l t.documents) ≡ true → found (at k t.documents) ≡ true → side l k ≡ under → same_label (document_of l) (document_of k) ≡ true
  shared_below l k y z u =
      let d : IsTop root l (document_of l) t.documents = document_top t valid l y in
      let e : IsTop root k (document_of k) t.documents = document_top t valid k z in
      same_document t valid (document_of l) (document_of k) k d.is_child_of e.is_child_of e.holds ∙ ap is_in (in_then_under (document_of l) l k d.holds u)

  shared_above : (l k : Label) → found (at l t.documents) ≡ true → found (at k t.documents) ≡ true → side l k ≡ above → same_label (document_of l) (document_of k) ≡ true
  shared_above l k y z u =
      let is : document_of k ≡ document_of l = same_label_is (document_of k) (document_of l) (shared_below k l z y (above_under l k u)) in
      ap (same_label (document_of l)) is ∙ same_label_itself (document_of l)

  parted : (l k : Label) (h : Bool) → found (at l t.documents) ≡ true → found (at k t.documents) ≡ true → same_label (document_of l) (document_of k) ≡ h
      → length (relating (side l k) (same_label (document_of l) (document_of k)) (SameKey l k)) ≡ (if h then 1 else 0)
  parted l k true y z q = elim (side l k) as (λ s. side l k ≡ s → length (relating (side l k) (same_label (document_of l) (document_of k)) (SameKey l k)) ≡ 1) [
    | above ↦ λ u. counted _ _ _ above true false u q (ahead_apart l k (ap ahead u))
    | left ↦ λ u. counted _ _ _ left true false u q (ahead_apart l k (ap ahead u))
    | same ↦ λ u. counted _ _ _ same true true u q (same_key l k u)
    | under ↦ λ u. counted _ _ _ under true false u q (before_apart l k (under_before l k u))
    | right ↦ λ u. counted _ _ _ right true false u q (before_apart l k (right_before l k u))
  ] refl
  parted l k false y z q = elim (side l k) as (λ s. side l k ≡ s → length (relating (side l k) (same_label (document_of l) (document_of k)) (SameKey l k)) ≡ 0) [
    | above ↦ λ u. absurd (true≢false (sym (shared_above l k y z u) ∙ q))
    | left ↦ λ u. counted _ _ _ left false false u q (ahead_apart l k (ap ahead u))
    | same ↦ λ u. absurd (true≢false (sym (ap (λ v. same_label (document_of l) (document_of v)) (same_is l k u) ∙ same_label_itself (document_of l)) ∙ q))
    | under ↦ λ u. absurd (true≢false (sym (shared_below l k y z u) ∙ q))
    | right ↦ λ u. counted _ _ _ right false false u q (before_apart l k (right_before l k u))
  ] refl

pub axes_part : (t : Tree) (n m : Position) → IsValidTree t → At t n → At t m → is_node n ≡ true → is_node m ≡ true
    → length (filter (λ a. relates a n m) parting) ≡ (if share_document n m then 1 else 0)
axes_part t (an_attribute l n v) m valid i j e g = absurd (true≢false (sym e))
axes_part t (a_node l r) (an_attribute k n v) valid i j e g = absurd (true≢false (sym g))
axes_part t (a_node l r) (a_node k s) valid i j e g = parted t valid l k (same_label (document_of l) (document_of k)) (ap found (stands t valid (a_node l r) i).is) (ap found (stands t valid (a_node k s) j).is) refl

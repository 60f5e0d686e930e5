-- Where a found node stands among its siblings, and the label of a new one in the gap between two of them.
use Rattle.std.specs.Cmp.Lexicographic.{slice_cmp, nat_list_cmp_total}
use Rattle.std.proofs.Common.{◌≡◌, true, Option, None, Some, unwrap_or, Less, nat_cmp, refl, sym, ap, subst, ◌∙◌, true≢false}
use Rattle.dewey_labels.specs.Labels.{Label, root, parent, is_child, Within}
use Rattle.dewey_labels.specs.NewLabels.{new_label, new_divisions, AreNeighbours}
use Rattle.dewey_labels.specs.Sides.{above, left, same, under, right, side}
use Rattle.dewey_labels.proofs.Codes.{first_of_both, second_of_both, child_under}
use Rattle.dewey_labels.proofs.Sides.{under_before}
use Rattle.dewey_labels.proofs.NewLabels.{new_child, new_behind, new_ahead, new_label_is}
use Rattle.tree_model.specs.Tree.{Forest, none, node, Tree, choose, at, found, head_label, next_of, prev_of}
use Rattle.tree_model.specs.inside.FoundNodes.{up, low}
use Rattle.tree_model.specs.Placing.{has_child}
use Rattle.tree_model.specs.ValidTrees.{KeysRise, same_label}
use Rattle.tree_model.proofs.Found.{some_is, up_parent}
use Rattle.tree_model.proofs.FoundParents.{low_is}
use Rattle.tree_model.proofs.StoredCatalogues.{same_label_is}
use Rattle.tree_changes.proofs.EditedMaps.{with_label}

-- ---- a found node among its siblings

-- the tree found is valid above the label that bounds it
pub at_low : (p b l : Label) (f : Forest) → KeysRise p b f → KeysRise (up l p f) (low l b f) (at l f)
at_low p b l none w = tt
at_low p b l (node m r ats ch nx) w =
    elim (side m l) as (λ s. KeysRise (choose s p p (up l m ch) (up l p nx)) (choose s b b (low l m ch) (low l m nx))
    (choose s none (node m r ats ch nx) (at l ch) (at l nx))) [
      | above ↦ tt
      | left ↦ tt
      | same ↦ w
      | under ↦ at_low m m l ch w.4
      | right ↦ at_low p m l nx w.5
    ]

-- its left neighbour is a child of its parent
prev_child : (o : Option Label) (p b l : Label) (f : Forest) → KeysRise p b f → ((m : Label) → o ≡ Some m → is_child p m ≡ true) → found (at l f) ≡ true
    → (m : Label) → prev_of o l f ≡ Some m → is_child (up l p f) m ≡ true
prev_child o p b l none w c y m e = absurd (true≢false (sym y))
prev_child o p b l (node k r ats ch nx) w c y m e =
    elim (side k l) as (λ s. found (choose s none (node k r ats ch nx) (at l ch) (at l nx)) ≡ true
    → choose s None o (prev_of None l ch) (prev_of (Some k) l nx) ≡ Some m → is_child (choose s p p (up l k ch) (up l p nx)) m ≡ true) [
      | above ↦ λ z _. absurd (true≢false (sym z))
      | left ↦ λ z _. absurd (true≢false (sym z))
      | same ↦ λ _ g. c m g
      | under ↦ λ z g. prev_child None k k l ch w.4 (λ j h. cc) z m g
      | right ↦ λ z g. prev_child (Some k) p k l nx w.5 (λ j h. subst (λ i. is_child p i ≡ true) (some_is k j h) w.0) z m g
    ] y e

-- a node below p, with its neighbours
pub record StandsBelow (p l : Label) (t : Tree) : Type 0 where
  pub there : found (at l t.documents) ≡ true
  pub up_is : up l root t.documents ≡ p
  pub child : is_child p l ≡ true
  pub left_child : (m : Label) → prev_of None l t.documents ≡ Some m → is_child p m ≡ true
  pub left_less : (m : Label) → prev_of None l t.documents ≡ Some m → slice_cmp nat_cmp m l ≡ Less
  pub right_child : (m : Label) → next_of (at l t.documents) ≡ Some m → is_child p m ≡ true
  pub right_less : (m : Label) → next_of (at l t.documents) ≡ Some m → slice_cmp nat_cmp l m ≡ Less

-- each found node stands below its parent
pub stands_below : (p l : Label) (t : Tree) → KeysRise root root t.documents → found (at l t.documents) ≡ true → parent l ≡ p → StandsBelow p l t
stands_below p l t w y e = record {
  there = y;
  up_is = is;
  child = subst (λ z. is_child z l ≡ true) is (own_child (at l t.documents) y);
  left_child = λ m h. subst (λ z. is_child z m ≡ true) is (prev_child None root root l t.documents w (λ j g. cc) y m h);
  left_less = λ m h. subst (λ z. slice_cmp nat_cmp z l ≡ Less) (low_is None root root l t.documents refl y ∙ ap (λ o. unwrap_or o (up l root t.documents)) h)
      (own_less (at l t.documents) y);
  right_child = λ m h. subst (λ z. is_child z m ≡ true) is (next_child (at l t.documents) m h);
  right_less = λ m h. next_less (at l t.documents) m h;
}
  where
    is : up l root t.documents ≡ p
    is = up_parent l t.documents w y ∙ e

    keys : KeysRise (up l root t.documents) (low l root t.documents) (at l t.documents)
    keys = at_low root root l t.documents w

    own_child : (g : Forest) → found g ≡ true → is_child (up l root t.documents) l ≡ true
    own_child g z = with_label (λ h. is_child (up l root t.documents) l ≡ true) l t y
        (λ r ats ch nx is_node. (subst (KeysRise (up l root t.documents) (low l root t.documents)) is_node keys).0)

    own_less : (g : Forest) → found g ≡ true → slice_cmp nat_cmp (low l root t.documents) l ≡ Less
    own_less g z = with_label (λ h. slice_cmp nat_cmp (low l root t.documents) l ≡ Less) l t y
        (λ r ats ch nx is_node. (subst (KeysRise (up l root t.documents) (low l root t.documents)) is_node keys).1)

    behind_child : (q m : Label) (nx : Forest) → KeysRise q l nx → head_label nx ≡ Some m → (is_child q m ≡ true) × (slice_cmp nat_cmp l m ≡ Less)
    behind_child q m none k h = cc
    behind_child q m (node j r ats ch nx) k h = let is : j ≡ m =
        some_is j m h in (subst (λ z. is_child q z ≡ true) is k.0, subst (λ z. slice_cmp nat_cmp l z ≡ Less) is k.1)

    next_both : (m : Label) → next_of (at l t.documents) ≡ Some m → (is_child (up l root t.documents) m ≡ true) × (slice_cmp nat_cmp l m ≡ Less)
    next_both m = with_label (λ g. next_of g ≡ Some m → (is_child (up l root t.documents) m ≡ true) × (slice_cmp nat_cmp l m ≡ Less)) l t y
        (λ r ats ch nx is_node h. behind_child (up l root t.documents) m nx (subst (KeysRise (up l root t.documents) (low l root t.documents)) is_node keys).5
        h)

    next_child : (g : Forest) (m : Label) → next_of (at l t.documents) ≡ Some m → is_child (up l root t.documents) m ≡ true
    next_child g m h = (next_both m h).0

    next_less : (g : Forest) (m : Label) → next_of (at l t.documents) ≡ Some m → slice_cmp nat_cmp l m ≡ Less
    next_less g m h = (next_both m h).1

-- a child that a call names does
pub child_stands : (p c : Label) (t : Tree) → KeysRise root root t.documents → has_child p c t ≡ true → StandsBelow p c t
child_stands p c t w h = stands_below p c t w (second_of_both (same_label (parent c) p) (found (at c t.documents)) h)
    (same_label_is (parent c) p (first_of_both (same_label (parent c) p) (found (at c t.documents)) h))

-- ---- a new label in a gap

-- two neighbours, each of which may be missing
pub are_neighbours : (p : Label) (l r : Option Label) → ((m : Label) → l ≡ Some m → is_child p m ≡ true) → ((m : Label) → r ≡ Some m → is_child p m ≡ true)
    → ((m k : Label) → l ≡ Some m → r ≡ Some k → slice_cmp nat_cmp m k ≡ Less) → AreNeighbours p l r
are_neighbours p None None lc rc less = tt
are_neighbours p (Some l) None lc rc less = lc l refl
are_neighbours p None (Some r) lc rc less = rc r refl
are_neighbours p (Some l) (Some r) lc rc less = (lc l refl, rc r refl, less l r refl refl)

-- the label of a new child between two
pub record InGap (p new : Label) (l r : Option Label) : Type 0 where
  pub child : is_child p new ≡ true
  pub within : Within new
  pub behind_low : slice_cmp nat_cmp (unwrap_or l p) new ≡ Less
  pub behind_left : (m : Label) → l ≡ Some m → slice_cmp nat_cmp m new ≡ Less
  pub before_right : (m : Label) → r ≡ Some m → slice_cmp nat_cmp new m ≡ Less

pub in_gap : (p new : Label) (l r : Option Label) → AreNeighbours p l r → new_label p l r ≡ Some new → InGap p new l r
in_gap p new l r n e = record {
  child = subst (λ z. is_child p z ≡ true) (sym is) (new_child p l r n);
  within = (new_label_is p new l r e).1;
  behind_low = lowest l r n is;
  behind_left = λ m h. lefts l r m n is h;
  before_right = λ m h. rights l r m n is h;
}
  where
    is : new ≡ new_divisions p l r
    is = (new_label_is p new l r e).0

    lefts : (l r : Option Label) (m : Label) → AreNeighbours p l r → new ≡ new_divisions p l r → l ≡ Some m → slice_cmp nat_cmp m new ≡ Less
    lefts None r m n is h = cc
    lefts (Some l) r m n is h = subst (λ k. slice_cmp nat_cmp k new ≡ Less) (some_is l m h)
        (subst (λ z. slice_cmp nat_cmp l z ≡ Less) (sym is) (new_behind p l r n))

    rights : (l r : Option Label) (m : Label) → AreNeighbours p l r → new ≡ new_divisions p l r → r ≡ Some m → slice_cmp nat_cmp new m ≡ Less
    rights l None m n is h = cc
    rights l (Some r) m n is h = subst (λ k. slice_cmp nat_cmp new k ≡ Less) (some_is r m h)
        (subst (λ z. slice_cmp nat_cmp z r ≡ Less) (sym is) (new_ahead p r l n))

    lowest : (l r : Option Label) → AreNeighbours p l r → new ≡ new_divisions p l r → slice_cmp nat_cmp (unwrap_or l p) new ≡ Less
    lowest None r n is = subst (λ z. slice_cmp nat_cmp p z ≡ Less) (sym is) (under_before p _ (child_under p _ (new_child p None r n)))
    lowest (Some l) r n is = subst (λ z. slice_cmp nat_cmp l z ≡ Less) (sym is) (new_behind p l r n)

module _ (p l : Label) (t : Tree) (s : StandsBelow p l t) where
  -- before a node
  pub gap_before : (new : Label) → new_label p (prev_of None l t.documents) (Some l) ≡ Some new → InGap p new (prev_of None l t.documents) (Some l)
  gap_before new e = in_gap p new (prev_of None l t.documents) (Some l)
      (are_neighbours p (prev_of None l t.documents) (Some l) s.left_child (λ m h. subst (λ z. is_child p z ≡ true) (some_is l m h) s.child)
      (λ m k h g. subst (λ z. slice_cmp nat_cmp m z ≡ Less) (some_is l k g) (s.left_less m h))) e

  -- in its place
  pub gap_of : (new : Label) → new_label p (prev_of None l t.documents) (next_of (at l t.documents)) ≡ Some new
      → InGap p new (prev_of None l t.documents) (next_of (at l t.documents))
  gap_of new e = in_gap p new (prev_of None l t.documents) (next_of (at l t.documents))
      (are_neighbours p (prev_of None l t.documents) (next_of (at l t.documents)) s.left_child s.right_child
      (λ m k h g. nat_list_cmp_total.trans m l k (s.left_less m h) (s.right_less k g))) e

  -- behind it
  pub gap_behind : (new : Label) → new_label p (Some l) (next_of (at l t.documents)) ≡ Some new → InGap p new (Some l) (next_of (at l t.documents))
  gap_behind new e = in_gap p new (Some l) (next_of (at l t.documents))
      (are_neighbours p (Some l) (next_of (at l t.documents)) (λ m h. subst (λ z. is_child p z ≡ true) (some_is l m h) s.child) s.right_child
      (λ m k h g. subst (λ z. slice_cmp nat_cmp z k ≡ Less) (some_is l m h) (s.right_less k g))) e

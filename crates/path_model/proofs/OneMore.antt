-- One position more among those that a test leaves.
use Rattle.std.proofs.Common.{◌≡◌, Bool, true, false, ◌||◌, List, [], ◌∷◌, ◌++◌, Less, Equal, Greater, nat_cmp, is_eq, refl, sym, ap, subst, ◌∙◌, true≢false, append-nil, inl, inr}
use Rattle.std.specs.List.{AllByRecursion, filter}
use Rattle.std.specs.declared.cmp.Ordering.{Ordering}
use Rattle.std.specs.Ordering.{ordering_then, ordering_reverse}
use Rattle.std.specs.Cmp.Lexicographic.{slice_cmp, nat_list_cmp_total}
use Rattle.dewey_labels.specs.Labels.{Label}
use Rattle.dewey_labels.specs.Lists.{is_empty}
use Rattle.dewey_labels.specs.Sides.{Side, side, is_under, above, left, same, under, right}
use Rattle.dewey_labels.proofs.Sides.{under_before, above_before}
use Rattle.tree_model.specs.Keys.{key_cmp}
use Rattle.tree_model.specs.Names.{Name}
use Rattle.tree_model.specs.Orders.{by_order}
use Rattle.tree_model.specs.Tree.{Attributes, Tree}
use Rattle.tree_model.specs.ValidTrees.{IsValidTree, NamesRise}
use Rattle.tree_model.proofs.Lists.{all_on}
use Rattle.tree_model.proofs.Keys.{key_total, key_turned}
use Rattle.path_model.specs.Axes.{is_above, lies_under, lies_above}
use Rattle.path_model.specs.Evaluation.{put_in}
use Rattle.path_model.specs.Positions.{Position, a_node, an_attribute, attributes_at, positions, key_of, is_same, name_of}
use Rattle.path_model.specs.Sets.{Among, Precedes}
use Rattle.path_model.proofs.NodeLooks.{is_eq_turned}
use Rattle.path_model.proofs.OrderLaws.{put_low, put_filter, positions_rise, filter_on}
use Rattle.path_model.proofs.Standing.{Stands, stands, node_lies}
use Rattle.path_model.proofs.SubtreeLaws.{named_above}
use Rattle.path_model.proofs.Ways.{Above, filter_holds}
use Rattle.path_model.proofs.Filters.{filter_there}

-- ---- order

same_turned : (n m : Position) → is_same n m ≡ is_same m n
same_turned n m = ap is_eq (key_total.antisymm (key_of n) (key_of m)) ∙ is_eq_turned (key_cmp (key_of m) (key_of n))

-- behind positions that lie below it
pub put_high : (x : Position) (ms : List Position) → AllByRecursion (λ m. Precedes m x) ms → put_in x ms ≡ ms ++ (x ∷ [])
put_high x [] h = refl
put_high x (m ∷ ms) h = ap (λ o. by_order o (x ∷ m ∷ ms) (m ∷ ms) (m ∷ put_in x ms)) (key_turned (key_of m) (key_of x) h.0) ∙ ap (λ (ns : List Position). m ∷ ns) (put_high x ms h.1)

-- what is under a label is behind its node, and what is above a label before what stands there
under_is : (s : Side) → is_under s ≡ true → s ≡ under
under_is above h = cc
under_is left h = cc
under_is same h = cc
under_is under h = refl
under_is right h = cc

above_is : (s : Side) → is_above s ≡ true → s ≡ above
above_is above h = refl
above_is left h = cc
above_is same h = cc
above_is under h = cc
above_is right h = cc

lower_label : (k l : Label) (n m : Name) → slice_cmp nat_cmp k l ≡ Less → ordering_then (slice_cmp nat_cmp k l) (slice_cmp nat_cmp n m) ≡ Less
lower_label k l n m h = ap (λ o. ordering_then o (slice_cmp nat_cmp n m)) h

above_lower : (l k : Label) → is_above (side l k) ≡ true → slice_cmp nat_cmp k l ≡ Less
above_lower l k h = subst (λ v. slice_cmp nat_cmp k v ≡ Less) (append-nil l) (above_before l k [] (above_is (side l k) h))

-- ---- with the position itself

module _ (t : Tree) (valid : IsValidTree t) where
  pub with_itself : (n : Position) (q : Position → Bool) → Among n (positions t) → filter (λ m. is_same n m || q m) (positions t) ≡ put_in n (filter q (positions t))
  with_itself n q h =
      filter_on (λ m. is_same n m || q m) (λ m. is_same m n || q m) (λ m. ap (λ b. b || q m) (same_turned n m)) (positions t)
      ∙ sym (put_filter n q (positions t) (positions_rise t valid) h)

  pub under_last : (l : Label) (r : _) → put_in (a_node l r) (filter (lies_under (a_node l r)) (positions t)) ≡ a_node l r ∷ filter (lies_under (a_node l r)) (positions t)
  under_last l r = put_low (a_node l r) _ (all_on (λ m. lies_under (a_node l r) m ≡ true) (Precedes (a_node l r)) higher (filter (lies_under (a_node l r)) (positions t)) (filter_holds (lies_under (a_node l r)) (positions t)))
    where
      higher : (m : Position) → lies_under (a_node l r) m ≡ true → Precedes (a_node l r) m
      higher (a_node k s) e = lower_label l k [] [] (under_before l k (under_is (side l k) e))
      higher (an_attribute k n v) e = absurd (true≢false (sym e))

  -- an attribute has a name
  pub has_name : (l : Label) (n v : List _) → Among (an_attribute l n v) (positions t) → is_empty n ≡ false
  has_name l n v h =
      let s : Stands t.documents (an_attribute l n v) = stands t valid (an_attribute l n v) h in
      by [] s.attributes (node_lies t valid l s.holds (record { attributes = s.attributes; children = s.children; behind = s.behind; is = s.is })).names s.says
    where
      by : (lo : Name) (ats : Attributes) → NamesRise lo ats → Among (an_attribute l n v) (attributes_at l ats) → is_empty n ≡ false
      by lo [] w i = absurd i
      by lo (a ∷ ats) w (inl e) = ap (λ p. is_empty (name_of p)) e ∙ named_above lo a.0 w.0
      by lo (a ∷ ats) w (inr i) = by a.0 ats w.2 i

  -- what lies above a position stands before it
  pub above_first : (n : Position) → Among n (positions t) → put_in n (filter (lies_above n) (positions t)) ≡ filter (lies_above n) (positions t) ++ (n ∷ [])
  above_first n h = put_high n _ (all_on (λ m. lies_above n m ≡ true) (λ m. Precedes m n) (lower n h) (filter (lies_above n) (positions t)) (filter_holds (lies_above n) (positions t)))
    where
      named : (k : Label) (l : Label) (n : Name) → is_empty n ≡ false → (o : Ordering) → slice_cmp nat_cmp l k ≡ o → (is_eq o || is_above (side l k)) ≡ true → ordering_then (slice_cmp nat_cmp k l) (slice_cmp nat_cmp [] n) ≡ Less
      named k l [] e o q g = absurd (true≢false e)
      named k l (x ∷ n) e Less q g = lower_label k l [] (x ∷ n) (above_lower l k g)
      named k l (x ∷ n) e Equal q g = ap (λ o. ordering_then o Less) (key_less k l q)
        where
          key_less : (k l : Label) → slice_cmp nat_cmp l k ≡ Equal → slice_cmp nat_cmp k l ≡ Equal
          key_less k l q = nat_list_cmp_total.antisymm k l ∙ ap ordering_reverse q
      named k l (x ∷ n) e Greater q g = lower_label k l [] (x ∷ n) (above_lower l k g)

      lower : (n : Position) → Among n (positions t) → (m : Position) → lies_above n m ≡ true → Precedes m n
      lower (a_node l r) h (a_node k s) e = lower_label k l [] [] (above_lower l k e)
      lower (a_node l r) h (an_attribute k m v) e = absurd (true≢false (sym e))
      lower (an_attribute l n v) h (a_node k s) e = named k l n (has_name l n v h) (slice_cmp nat_cmp l k) refl e
      lower (an_attribute l n v) h (an_attribute k m u) e = absurd (true≢false (sym e))

  -- the element of an attribute and what lies above that
  pub with_element : (l : Label) (r : _) (n v : List _) → Among (a_node l r) (positions t)
      → filter (lies_above (an_attribute l n v)) (positions t) ≡ filter (Above l) (positions t) ++ (a_node l r ∷ [])
  with_element l r n v h =
      let x : Position = a_node l r in
      filter_there t (lies_above (an_attribute l n v)) (λ m. is_same x m || Above l m) both
      ∙ with_itself x (Above l) h
      ∙ put_high x (filter (Above l) (positions t)) (all_on (λ m. Above l m ≡ true) (λ m. Precedes m x) lower (filter (Above l) (positions t)) (filter_holds (Above l) (positions t)))
    where
      lower : (m : Position) → Above l m ≡ true → Precedes m (a_node l r)
      lower (a_node k s) e = lower_label k l [] [] (above_lower l k e)
      lower (an_attribute k m u) e = absurd (true≢false (sym e))

      then_same : (o : Ordering) → is_eq o ≡ is_eq (ordering_then o Equal)
      then_same Less = refl
      then_same Equal = refl
      then_same Greater = refl

      other : (k : Label) (m : Name) → is_empty m ≡ false → is_eq (ordering_then (slice_cmp nat_cmp l k) (slice_cmp nat_cmp [] m)) ≡ false
      other k [] e = absurd (true≢false e)
      other k (x ∷ m) e = elim (slice_cmp nat_cmp l k) as (λ o. is_eq (ordering_then o Less) ≡ false) [ Less ↦ refl | Equal ↦ refl | Greater ↦ refl ]

      both : (m : Position) → Among m (positions t) → lies_above (an_attribute l n v) m ≡ (is_same (a_node l r) m || Above l m)
      both (a_node k s) i = ap (λ b. b || is_above (side l k)) (then_same (slice_cmp nat_cmp l k))
      both (an_attribute k m u) i = sym (ap (λ b. b || false) (other k m (has_name k m u i)))

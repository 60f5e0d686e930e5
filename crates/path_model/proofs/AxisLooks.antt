-- The looks of the axes, of the document and of string-values show on every valid tree what these mean.
use Rattle.std.proofs.Common.{◌≡◌, Bool, true, false, cond, not, ◌&&◌, ◌||◌, List, [], ◌∷◌, ◌++◌, reverse, drop, is_eq, nat_cmp, None, Some, if◌then◌else◌, inr, refl, sym, ap, subst, ◌∙◌, true≢false, append-nil, Ordering, Less, Equal, Greater}
use Rattle.std.specs.List.{AllByRecursion, filter}
use Rattle.std.specs.Str.{bytes_eq}
use Rattle.std.specs.Cmp.Lexicographic.{slice_cmp}
use Rattle.std.proofs.lemmas.List.{reverse-append}
use Rattle.std.proofs.lemmas.Map.Text.{is_eq-slice_cmp}
use Rattle.dewey_labels.specs.Labels.{Label, root, is_child, parent}
use Rattle.dewey_labels.specs.Sides.{side, is_in, under, Side}
use Rattle.dewey_labels.proofs.Codes.{parent_is}
use Rattle.dewey_labels.proofs.Sides.{side_itself, under_before}
use Rattle.tree_model.specs.declared.record.Record.{Record}
use Rattle.tree_model.specs.declared.record.Record.TheVariants.{Document, Element, Text, Attr}
use Rattle.tree_model.specs.Names.{Name}
use Rattle.tree_model.specs.Tree.{Attributes, Tree, at, found, below, attributes_of, beside}
use Rattle.tree_model.specs.ValidTrees.{IsValidTree, KeysRise, NamesRise, may_have, same_label}
use Rattle.tree_model.proofs.Keys.{list_tied}
use Rattle.tree_model.proofs.NamedLists.{none_named}
use Rattle.tree_model.proofs.Split.{SideIs, all_under}
use Rattle.tree_model.proofs.StoredCatalogues.{same_label_is}
use Rattle.tree_model.proofs.WholeTree.{found_under}
use Rattle.path_model.specs.declared.path.Axis.{Axis}
use Rattle.path_model.specs.declared.path.Axis.TheVariants as axis
use Rattle.path_model.specs.declared.path.NodeTest.{NodeTest}
use Rattle.path_model.specs.declared.path.NodeTest.TheVariants as test
use Rattle.path_model.specs.Axes.{document_of, share_document, lies_under, is_child_of, is_parent_of, lies_above, are_siblings, is_attribute_of, relates, is_reverse, in_axis_order, on_axis}
use Rattle.path_model.specs.AxisPrograms.{along, ancestors_up, nodes_at, on_left, on_right, under_or_right}
use Rattle.path_model.specs.Evaluation.{string_value, put_in}
use Rattle.path_model.specs.Meaning as meaning
use Rattle.path_model.specs.Meaning.{joined_texts, own_document}
use Rattle.path_model.specs.Positions.{Position, a_node, an_attribute, attributes_at, positions_in, positions, label_of, is_node, is_document, is_same, passes}
use Rattle.path_model.specs.Programs.{looks, ends, at_node, answer, head_seen, row_seen, tree_seen, all_seen, value_seen}
use Rattle.path_model.proofs.AnswerLaws.{LooksTrue}
use Rattle.path_model.proofs.DescendantLaws.{descendants_are}
use Rattle.path_model.proofs.Filters.{filter_both, filter_out, filter_reversed, filter_there}
use Rattle.path_model.specs.Sets.{Among, At}
use Rattle.path_model.proofs.Members.{all_themselves, filtered_among}
use Rattle.path_model.proofs.NodeLooks.{NodeAt, ChildOf, same_label_itself, node_is, children_are, children_rise}
use Rattle.path_model.proofs.OneMore.{with_itself, under_last, above_first, with_element}
use Rattle.path_model.proofs.OrderLaws.{filter_on}
use Rattle.path_model.proofs.Standing.{HasNode, Stands, stands, has_node, node_lies, document_below_root, parent_there, no_attributes, odd_end, up_is_parent}
use Rattle.path_model.proofs.ProgramAnswers.{answer-and_then}
use Rattle.path_model.proofs.SubtreeLaws.{filter_joined, all_labelled, within_subtree}
use Rattle.path_model.proofs.Ways.{Above, node_there, ancestors_seen, document_top, document_shows}

-- ---- an axis and its node test

-- tested behind the axis, in its order
abbrev related : Tree → Axis → Position → List Position
related t a n = in_axis_order a (filter (relates a n) (positions t))

on_axis_is : (t : Tree) (a : Axis) (test : NodeTest) (n : Position) → on_axis t a test n ≡ filter (passes a test) (related t a n)
on_axis_is t a test n =
    ap (in_axis_order a) (filter_both (relates a n) (passes a test) (positions t)) ∙ turned (filter (relates a n) (positions t)) (is_reverse a)
  where
    turned : (ps : List Position) (b : Bool) → (if b then reverse (filter (passes a test) ps) else filter (passes a test) ps) ≡ filter (passes a test) (if b then reverse ps else ps)
    turned ps true = sym (filter_reversed (passes a test) ps)
    turned ps false = refl

-- ---- tests

both_assoc : (a b c : Bool) → (a && (b && c)) ≡ ((a && b) && c)
both_assoc true b c = refl
both_assoc false b c = refl

-- two tests at once, one behind the other, of which the first one is known
behind : (t : Tree) (p q s : Position → Bool) (ps : List Position) → ((m : Position) → s m ≡ (p m && q m)) → filter p (positions t) ≡ ps → filter s (positions t) ≡ filter q ps
behind t p q s ps h e = filter_on s (λ m. p m && q m) h (positions t) ∙ filter_both p q (positions t) ∙ ap (filter q) e

none_left : (t : Tree) (q : Position → Bool) → ((m : Position) → q m ≡ false) → filter q (positions t) ≡ []
none_left t q h = filter_out (λ m. Among m (positions t)) q (λ m i. h m) (positions t) (all_themselves (positions t))

-- ---- attributes

module _ (t : Tree) (valid : IsValidTree t) (l : Label) (r : Record) (h : HasNode t.documents l r) where
  own_attributes : (s : Record) (ats : Attributes) → filter (is_attribute_of (a_node l s)) (attributes_at l ats) ≡ attributes_at l ats
  own_attributes s [] = refl
  own_attributes s (a ∷ ats) = λ i. cond (same_label_itself l i) (an_attribute l a.0 a.1 ∷ own_attributes s ats i) (own_attributes s ats i)

  attributes_are : filter (is_attribute_of (a_node l r)) (positions t) ≡ attributes_at l h.attributes
  attributes_are =
      let q : Position → Bool = is_attribute_of (a_node l r) in
      let rise : KeysRise l l h.children = children_rise t valid l r h in
      within_subtree q l l r h.attributes h.children h.behind t valid h.is inside
      ∙ filter_joined q (a_node l r ∷ attributes_at l h.attributes) (positions_in h.children)
      ∙ (λ i. own_attributes r h.attributes i ++ filter_out (λ n. side l (label_of n) ≡ under) q other (positions_in h.children) (all_labelled (SideIs l under) l l h.children rise (all_under l l h.children rise)) i)
      ∙ append-nil (attributes_at l h.attributes)
    where
      inside : (m : Position) → is_attribute_of (a_node l r) m ≡ true → is_in (side l (label_of m)) ≡ true
      inside (a_node k s) e = absurd (true≢false (sym e))
      inside (an_attribute k n v) e = subst (λ z. is_in (side l z) ≡ true) (same_label_is l k e) (ap is_in (side_itself l))

      other : (m : Position) → side l (label_of m) ≡ under → is_attribute_of (a_node l r) m ≡ false
      other (a_node k s) u = refl
      other (an_attribute k n v) u = ap is_eq (under_before l k u)

-- with the name of the test
abbrev Named : Name → Position → Bool
Named k m = passes axis.Attribute (test.Name k) m

none_other : (l : Label) (k lo : Name) (ats : Attributes) → NamesRise lo ats → k ≡ lo → filter (Named k) (attributes_at l ats) ≡ []
none_other l k lo ats w e = by ats (none_named lo k ats w (inr e))
  where
    by : (ats : Attributes) → beside k ats ≡ None → filter (Named k) (attributes_at l ats) ≡ []
    by [] g = refl
    by (a ∷ ats) g = elim (is_eq (slice_cmp nat_cmp k a.0)) as (λ b. is_eq (slice_cmp nat_cmp k a.0) ≡ b → cond b (Some a.1) (beside k ats) ≡ None → filter (Named k) (attributes_at l (a ∷ ats)) ≡ []) [
      | true ↦ λ _ z. cc
      | false ↦ λ q z. ap (λ b. cond b (an_attribute l a.0 a.1 ∷ filter (Named k) (attributes_at l ats)) (filter (Named k) (attributes_at l ats))) (sym (is_eq-slice_cmp k a.0) ∙ q) ∙ by ats z
    ] refl g

one_named : (l : Label) (k lo : Name) (ats : Attributes) → NamesRise lo ats → filter (Named k) (value_seen l k (beside k ats)) ≡ filter (Named k) (attributes_at l ats)
one_named l k lo [] w = refl
one_named l k lo (a ∷ ats) w =
    let rest : List Position = filter (Named k) (attributes_at l ats) in
    elim (is_eq (slice_cmp nat_cmp k a.0)) as (λ b. is_eq (slice_cmp nat_cmp k a.0) ≡ b → filter (Named k) (value_seen l k (cond b (Some a.1) (beside k ats))) ≡ cond (bytes_eq k a.0) (an_attribute l a.0 a.1 ∷ rest) rest) [
      | true ↦ λ q.
          let is : k ≡ a.0 = list_tied k a.0 (equal_of (slice_cmp nat_cmp k a.0) q) in
          let itself : bytes_eq k k ≡ true = sym (is_eq-slice_cmp k k) ∙ same_label_itself k in
          ap (λ b. cond b (an_attribute l k a.1 ∷ []) []) itself
          ∙ (λ i. an_attribute l (is i) a.1 ∷ sym (none_other l k a.0 ats w.2 is) i)
          ∙ sym (ap (λ b. cond b (an_attribute l a.0 a.1 ∷ rest) rest) (sym (is_eq-slice_cmp k a.0) ∙ q))
      | false ↦ λ q. one_named l k a.0 ats w.2 ∙ sym (ap (λ b. cond b (an_attribute l a.0 a.1 ∷ rest) rest) (sym (is_eq-slice_cmp k a.0) ∙ q))
    ] refl
  where
    equal_of : (o : Ordering) → is_eq o ≡ true → o ≡ Equal
    equal_of Less e = cc
    equal_of Equal e = refl
    equal_of Greater e = cc

-- ---- each axis

module _ (t : Tree) (valid : IsValidTree t) where
  -- the node of a position, and the element of an attribute
  node_of : (n : Position) → At t n → (r : Record) × HasNode t.documents (label_of n) r
  node_of n i = let s : Stands t.documents n = stands t valid n i in (s.holds, record { attributes = s.attributes; children = s.children; behind = s.behind; is = s.is })

  is_found : (n : Position) → At t n → found (at (label_of n) t.documents) ≡ true
  is_found n i = ap found (node_of n i).1.is

  child_shown : (n : Position) → At t n → (z : NodeTest) → answer t (along axis.Child z n) ≡ related t axis.Child n
  child_shown (a_node l r) i z = sym (children_are t valid l r (has_node t valid l r i))
  child_shown (an_attribute l n v) i z = sym (none_left t (is_child_of (an_attribute l n v)) (λ m. refl))

  under_shown : (l : Label) (r : Record) → At t (a_node l r) → drop 1 (tree_seen (at l t.documents)) ≡ filter (lies_under (a_node l r)) (positions t)
  under_shown l r i =
      let h : HasNode t.documents l r = has_node t valid l r i in
      ap (λ g. drop 1 (tree_seen g)) h.is ∙ sym (descendants_are l l r r h.attributes h.children h.behind t valid h.is)

  nothing_under : (l : Label) (n v : List _) → filter (lies_under (an_attribute l n v)) (positions t) ≡ []
  nothing_under l n v = none_left t (lies_under (an_attribute l n v)) (λ m. refl)

  descendant_shown : (n : Position) → At t n → (z : NodeTest) → answer t (along axis.Descendant z n) ≡ related t axis.Descendant n
  descendant_shown (a_node l r) i z = under_shown l r i
  descendant_shown (an_attribute l n v) i z = sym (nothing_under l n v)

  descendant_or_self_shown : (n : Position) → At t n → (z : NodeTest) → answer t (along axis.DescendantOrSelf z n) ≡ related t axis.DescendantOrSelf n
  descendant_or_self_shown (a_node l r) i z =
      ap (λ (ps : List Position). a_node l r ∷ ps) (under_shown l r i) ∙ sym (under_last t valid l r) ∙ sym (with_itself t valid (a_node l r) (lies_under (a_node l r)) i)
  descendant_or_self_shown (an_attribute l n v) i z =
      let x : Position = an_attribute l n v in
      sym (with_itself t valid x (lies_under x) i ∙ ap (put_in x) (nothing_under l n v))

  self_shown : (n : Position) → At t n → (z : NodeTest) → answer t (along axis.SelfNode z n) ≡ related t axis.SelfNode n
  self_shown n i z =
      sym (filter_on (is_same n) (λ m. is_same n m || false) (λ m. or_false (is_same n m)) (positions t)
      ∙ with_itself t valid n (λ m. false) i
      ∙ ap (put_in n) (none_left t (λ m. false) (λ m. refl)))
    where
      or_false : (b : Bool) → b ≡ (b || false)
      or_false true = refl
      or_false false = refl

  -- ---- parents and ancestors

  -- a document's parent is no node
  none_over_document : (l : Label) → HasNode t.documents l Document → filter (is_parent_of (a_node l Document)) (positions t) ≡ []
  none_over_document l h = filter_out (λ m. At t m) (is_parent_of (a_node l Document)) no_parent (positions t) (all_themselves (positions t))
    where
      no_parent : (m : Position) → At t m → is_parent_of (a_node l Document) m ≡ false
      no_parent (an_attribute k n v) i = refl
      no_parent (a_node k s) i = elim (is_child k l) as (λ b. is_child k l ≡ b → b ≡ false) [
        | false ↦ λ _. refl
        | true ↦ λ e.
            let is_root : k ≡ root = sym (parent_is k l (odd_end t valid k s (has_node t valid k s i)) e) ∙ document_below_root t valid l h in
            absurd (apart (sym (ap (side root) is_root) ∙ found_under root root k t.documents valid.keys (is_found (a_node k s) i)))
      ] refl
        where
          apart : Side.same ≡ under → ⊥
          apart e = cc

  -- any other node's is the node with that label
  node_over : (l : Label) (r : Record) → HasNode t.documents l r → found (at (parent l) t.documents) ≡ true → head_seen (at (parent l) t.documents) ≡ filter (is_parent_of (a_node l r)) (positions t)
  node_over l r h y =
      let q : Label = parent l in
      let up = node_there t valid q y in
      sym (filter_there t (is_parent_of (a_node l r)) (NodeAt q) same ∙ node_is t valid q up.0 up.1)
    where
      same : (m : Position) → At t m → is_parent_of (a_node l r) m ≡ NodeAt (parent l) m
      same (an_attribute k n v) i = refl
      same (a_node k s) i = elim (is_child k l) as (λ b. is_child k l ≡ b → b ≡ same_label (parent l) k) [
        | true ↦ λ e. sym (ap (λ z. same_label z k) (parent_is k l (odd_end t valid k s (has_node t valid k s i)) e) ∙ same_label_itself k)
        | false ↦ λ e. elim (same_label (parent l) k) as (λ b. same_label (parent l) k ≡ b → false ≡ b) [
          | true ↦ λ g. absurd (true≢false (sym (subst (λ z. is_child z l ≡ true) (same_label_is (parent l) k g) (is_child_there)) ∙ e))
          | false ↦ λ _. refl
        ] refl
      ] refl
        where
          is_child_there : is_child (parent l) l ≡ true
          is_child_there = subst (λ z. is_child z l ≡ true) (up_is_parent t valid l r h) (node_lies t valid l r h).is_child_of

  parent_shown : (n : Position) → At t n → (z : NodeTest) → answer t (along axis.Parent z n) ≡ related t axis.Parent n
  parent_shown (a_node l Document) i z = sym (none_over_document l (has_node t valid l Document i))
  parent_shown (a_node l (Element m)) i z = let h = has_node t valid l (Element m) i in node_over l (Element m) h (parent_there t valid l (Element m) refl h)
  parent_shown (a_node l (Text d)) i z = let h = has_node t valid l (Text d) i in node_over l (Text d) h (parent_there t valid l (Text d) refl h)
  parent_shown (a_node l (Attr v)) i z = let h = has_node t valid l (Attr v) i in node_over l (Attr v) h (parent_there t valid l (Attr v) refl h)
  parent_shown (an_attribute l n v) i z = let e = node_of (an_attribute l n v) i in sym (node_is t valid l e.0 e.1)

  -- a node that stands is a position
  pub node_at : (l : Label) (r : Record) → HasNode t.documents l r → At t (a_node l r)
  node_at l r h = (subst (AllByRecursion (At t)) (node_is t valid l r h ∙ ap head_seen h.is) (filtered_among (NodeAt l) (positions t))).0

  ancestor_shown : (n : Position) → At t n → (z : NodeTest) → answer t (along axis.Ancestor z n) ≡ related t axis.Ancestor n
  ancestor_shown (a_node l r) i z = ancestors_seen t valid l (is_found (a_node l r) i)
  ancestor_shown (an_attribute l n v) i z =
      let e = node_of (an_attribute l n v) i in
      let x : Position = a_node l e.0 in
      answer-and_then t (nodes_at (ancestors_up l)) (λ zs. ends (head_seen (at l t.documents) ++ zs))
      ∙ (λ j. head_seen (e.1.is j) ++ ancestors_seen t valid l (is_found (an_attribute l n v) i) j)
      ∙ sym (ap reverse (with_element t valid l e.0 n v (node_at l e.0 e.1)) ∙ reverse-append (filter (Above l) (positions t)) (x ∷ []))

  ancestor_or_self_shown : (n : Position) → At t n → (z : NodeTest) → answer t (along axis.AncestorOrSelf z n) ≡ related t axis.AncestorOrSelf n
  ancestor_or_self_shown n i z =
      answer-and_then t (along axis.Ancestor z n) (λ s. ends (n ∷ s))
      ∙ ap (λ (ps : List Position). n ∷ ps) (ancestor_shown n i z)
      ∙ sym (ap reverse (with_itself t valid n (lies_above n) i ∙ above_first t valid n i) ∙ reverse-append (filter (lies_above n) (positions t)) (n ∷ []))

  -- ---- siblings

  -- of a node that is no document they are its parent's children
  row_shown : (l : Label) (r : Record) → is_document (a_node l r) ≡ false → HasNode t.documents l r → found (at (parent l) t.documents) ≡ true → (q : Position → Bool)
      → filter q (row_seen (below (at (parent l) t.documents))) ≡ filter (λ m. are_siblings (a_node l r) m && q m) (positions t)
  row_shown l r e h y q =
      let up = node_there t valid (parent l) y in
      sym (behind t (ChildOf (parent l)) q (λ m. are_siblings (a_node l r) m && q m) (row_seen (below (at (parent l) t.documents))) (λ m. ap (λ b. b && q m) (same m)) (children_are t valid (parent l) up.0 up.1))
    where
      same : (m : Position) → are_siblings (a_node l r) m ≡ ChildOf (parent l) m
      same (a_node k s) = ap (λ b. not b && is_child (parent l) k) e
      same (an_attribute k n v) = refl

  no_siblings : (n : Position) (q : Position → Bool) → ((m : Position) → are_siblings n m ≡ false) → filter (λ m. are_siblings n m && q m) (positions t) ≡ []
  no_siblings n q h = none_left t (λ m. are_siblings n m && q m) (λ m. ap (λ b. b && q m) (h m))

  no_sibling : (l : Label) (m : Position) → are_siblings (a_node l Document) m ≡ false
  no_sibling l (a_node k s) = refl
  no_sibling l (an_attribute k n v) = refl

  following_sibling_shown : (n : Position) → At t n → (z : NodeTest) → answer t (along axis.FollowingSibling z n) ≡ related t axis.FollowingSibling n
  following_sibling_shown (a_node l Document) i z = sym (no_siblings (a_node l Document) (on_right l) (no_sibling l))
  following_sibling_shown (a_node l (Element m)) i z = let h = has_node t valid l (Element m) i in row_shown l (Element m) refl h (parent_there t valid l (Element m) refl h) (on_right l)
  following_sibling_shown (a_node l (Text d)) i z = let h = has_node t valid l (Text d) i in row_shown l (Text d) refl h (parent_there t valid l (Text d) refl h) (on_right l)
  following_sibling_shown (a_node l (Attr v)) i z = let h = has_node t valid l (Attr v) i in row_shown l (Attr v) refl h (parent_there t valid l (Attr v) refl h) (on_right l)
  following_sibling_shown (an_attribute l n v) i z = sym (no_siblings (an_attribute l n v) (on_right l) (λ m. refl))

  preceding_sibling_shown : (n : Position) → At t n → (z : NodeTest) → answer t (along axis.PrecedingSibling z n) ≡ related t axis.PrecedingSibling n
  preceding_sibling_shown (a_node l Document) i z = ap reverse (sym (no_siblings (a_node l Document) (on_left l) (no_sibling l)))
  preceding_sibling_shown (a_node l (Element m)) i z = let h = has_node t valid l (Element m) i in ap reverse (row_shown l (Element m) refl h (parent_there t valid l (Element m) refl h) (on_left l))
  preceding_sibling_shown (a_node l (Text d)) i z = let h = has_node t valid l (Text d) i in ap reverse (row_shown l (Text d) refl h (parent_there t valid l (Text d) refl h) (on_left l))
  preceding_sibling_shown (a_node l (Attr v)) i z = let h = has_node t valid l (Attr v) i in ap reverse (row_shown l (Attr v) refl h (parent_there t valid l (Attr v) refl h) (on_left l))
  preceding_sibling_shown (an_attribute l n v) i z = ap reverse (sym (no_siblings (an_attribute l n v) (on_left l) (λ m. refl)))

  -- ---- what follows and what precedes

  -- a test of what shares the document
  in_document : (n : Position) → At t n → (q : Position → Bool)
      → filter q (tree_seen (at (document_of (label_of n)) t.documents)) ≡ filter (λ m. share_document n m && (is_node m && q m)) (positions t)
  in_document n i q =
      sym (behind t (λ m. share_document n m && is_node m) q (λ m. share_document n m && (is_node m && q m)) (tree_seen (at (document_of (label_of n)) t.documents)) (λ m. both_assoc (share_document n m) (is_node m) (q m)) (document_shows t valid (label_of n) (is_found n i)))

  following_shown : (n : Position) → At t n → (z : NodeTest) → answer t (along axis.Following z n) ≡ related t axis.Following n
  following_shown (a_node l r) i z = in_document (a_node l r) i (on_right l)
  following_shown (an_attribute l n v) i z = in_document (an_attribute l n v) i (under_or_right l)

  preceding_shown : (n : Position) → At t n → (z : NodeTest) → answer t (along axis.Preceding z n) ≡ related t axis.Preceding n
  preceding_shown n i z = ap reverse (in_document n i (on_left (label_of n)))

  -- ---- attributes

  bare_shown : (l : Label) (r : Record) → may_have r (([], []) ∷ []) ≡ false → At t (a_node l r) → (z : NodeTest) → [] ≡ filter (passes axis.Attribute z) (related t axis.Attribute (a_node l r))
  bare_shown l r e i z =
      let h = has_node t valid l r i in
      sym (ap (filter (passes axis.Attribute z)) (attributes_are t valid l r h ∙ ap (attributes_at l) (no_attributes t valid l r h e)))

  elements_shown : (l : Label) (m : Name) (i : At t (a_node l (Element m))) (z : NodeTest)
      → filter (passes axis.Attribute z) (answer t (along axis.Attribute z (a_node l (Element m)))) ≡ filter (passes axis.Attribute z) (attributes_at l (has_node t valid l (Element m) i).attributes)
  elements_shown l m i (test.Name k) =
      let h = has_node t valid l (Element m) i in
      ap (λ g. filter (Named k) (value_seen l k (beside k (attributes_of g)))) h.is ∙ one_named l k [] h.attributes (node_lies t valid l (Element m) h).names
  elements_shown l m i test.Any = ap (λ g. filter (passes axis.Attribute test.Any) (attributes_at l (attributes_of g))) (has_node t valid l (Element m) i).is
  elements_shown l m i test.Text = ap (λ g. filter (passes axis.Attribute test.Text) (attributes_at l (attributes_of g))) (has_node t valid l (Element m) i).is
  elements_shown l m i test.Node = ap (λ g. filter (passes axis.Attribute test.Node) (attributes_at l (attributes_of g))) (has_node t valid l (Element m) i).is

  attribute_shown : (n : Position) → At t n → (z : NodeTest) → filter (passes axis.Attribute z) (answer t (along axis.Attribute z n)) ≡ filter (passes axis.Attribute z) (related t axis.Attribute n)
  attribute_shown (a_node l Document) i z = bare_shown l Document refl i z
  attribute_shown (a_node l (Element m)) i z = elements_shown l m i z ∙ sym (ap (filter (passes axis.Attribute z)) (attributes_are t valid l (Element m) (has_node t valid l (Element m) i)))
  attribute_shown (a_node l (Text d)) i z = bare_shown l (Text d) refl i z
  attribute_shown (a_node l (Attr v)) i z = bare_shown l (Attr v) refl i z
  attribute_shown (an_attribute l n v) i z = sym (ap (filter (passes axis.Attribute z)) (none_left t (is_attribute_of (an_attribute l n v)) (λ m. refl)))

  -- ---- all looks

  tested : (a : Axis) (z : NodeTest) (n : Position) → answer t (along a z n) ≡ related t a n → filter (passes a z) (answer t (along a z n)) ≡ on_axis t a z n
  tested a z n e = ap (filter (passes a z)) e ∙ sym (on_axis_is t a z n)

  axes_shown : (a : Axis) (z : NodeTest) (n : Position) → At t n → filter (passes a z) (answer t (along a z n)) ≡ on_axis t a z n
  axes_shown axis.Child z n i = tested axis.Child z n (child_shown n i z)
  axes_shown axis.Descendant z n i = tested axis.Descendant z n (descendant_shown n i z)
  axes_shown axis.Parent z n i = tested axis.Parent z n (parent_shown n i z)
  axes_shown axis.Ancestor z n i = tested axis.Ancestor z n (ancestor_shown n i z)
  axes_shown axis.FollowingSibling z n i = tested axis.FollowingSibling z n (following_sibling_shown n i z)
  axes_shown axis.PrecedingSibling z n i = tested axis.PrecedingSibling z n (preceding_sibling_shown n i z)
  axes_shown axis.Following z n i = tested axis.Following z n (following_shown n i z)
  axes_shown axis.Preceding z n i = tested axis.Preceding z n (preceding_shown n i z)
  axes_shown axis.Attribute z n i = attribute_shown n i z ∙ sym (on_axis_is t axis.Attribute z n)
  axes_shown axis.SelfNode z n i = tested axis.SelfNode z n (self_shown n i z)
  axes_shown axis.DescendantOrSelf z n i = tested axis.DescendantOrSelf z n (descendant_or_self_shown n i z)
  axes_shown axis.AncestorOrSelf z n i = tested axis.AncestorOrSelf z n (ancestor_or_self_shown n i z)

  documents_shown : (n : Position) → At t n → answer t (looks (at_node (document_of (label_of n))) ends) ≡ own_document t n
  documents_shown n i = let h = node_there t valid (document_of (label_of n)) (document_top t valid (label_of n) (is_found n i)).there in sym (node_is t valid (document_of (label_of n)) h.0 h.1)

  -- a text's string-value is its data, that of what has no text of its own that of all texts under it
  joined_below : (l : Label) (r : Record) → At t (a_node l r) → ((ns : List Position) → joined_texts (a_node l r ∷ ns) ≡ joined_texts ns)
      → joined_texts (tree_seen (at l t.documents)) ≡ joined_texts (filter (lies_under (a_node l r)) (positions t))
  joined_below l r i e =
      let h : HasNode t.documents l r = has_node t valid l r i in
      ap (λ g. joined_texts (tree_seen g)) h.is ∙ e (all_seen h.children) ∙ ap joined_texts (sym (descendants_are l l r r h.attributes h.children h.behind t valid h.is))

  strings_shown : (n : Position) → At t n → answer t (string_value n) ≡ meaning.string_value t n
  strings_shown (a_node l Document) i = joined_below l Document i (λ ns. refl)
  strings_shown (a_node l (Element m)) i = joined_below l (Element m) i (λ ns. refl)
  strings_shown (a_node l (Text d)) i = refl
  strings_shown (a_node l (Attr v)) i = joined_below l (Attr v) i (λ ns. refl)
  strings_shown (an_attribute l n v) i = refl

  pub looks_true : LooksTrue t
  looks_true = record { axes = axes_shown; documents = documents_shown; strings = strings_shown }

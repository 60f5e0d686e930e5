-- The way from a document down to a node: its ancestors among the positions, and as its label says them.
use Rattle.std.proofs.Common.{◌≡◌, suc, ◌+◌, Bool, true, false, cond, ◌&&◌, List, [], ◌∷◌, ◌++◌, map, length, reverse, drop, Less, Equal, Greater, nat_cmp, is_eq, inr, refl, sym, ap, subst, ◌∙◌, true≢false, arith, append-nil, Some}
use Rattle.std.specs.List.{AllByRecursion, filter}
use Rattle.std.specs.Ordering.{ordering_reverse}
use Rattle.std.specs.Cmp.Lexicographic.{slice_cmp, nat_list_cmp_total}
use Rattle.std.proofs.lemmas.Grind.{reverse_onto}
use Rattle.std.proofs.lemmas.List.{map-append}
use Rattle.dewey_labels.specs.Labels.{Label, root, is_label, is_child, parent, level, cut}
use Rattle.dewey_labels.specs.Sides.{Side, side, is_in, above, left, same, under, right}
use Rattle.dewey_labels.specs.Ancestors.{cuts, ancestors}
use Rattle.dewey_labels.proofs.Labels.{parent_of_child, level_of_child, child_label}
use Rattle.dewey_labels.proofs.Sides.{side_itself, same_is, under_above, left_within, right_within}
use Rattle.dewey_labels.proofs.Codes.{children_right}
use Rattle.tree_model.specs.declared.record.Record.{Record}
use Rattle.tree_model.specs.Tree.{Attributes, Forest, none, node, Tree, choose, at, found, head_label}
use Rattle.tree_model.specs.ValidTrees.{IsValidTree, KeysRise, same_label}
use Rattle.tree_model.proofs.Found.{some_is, at_label}
use Rattle.tree_model.proofs.FoundParents.{found_right}
use Rattle.tree_model.proofs.Keys.{list_tied}
use Rattle.tree_model.proofs.Split.{SideIs, all_under, all_right}
use Rattle.path_model.specs.Axes.{is_above, document_in, document_of}
use Rattle.path_model.specs.AxisPrograms.{ancestors_up, nodes_at}
use Rattle.path_model.specs.Positions.{Position, a_node, an_attribute, attributes_at, positions_in, positions, label_of, is_node}
use Rattle.path_model.specs.Programs.{head_seen, tree_seen, answer, looks, ends, at_node}
use Rattle.path_model.proofs.DescendantLaws.{no_nodes}
use Rattle.path_model.proofs.Filters.{filter_out, filter_there}
use Rattle.path_model.specs.Sets.{Among}
use Rattle.path_model.proofs.Members.{all_reversed, filtered_among}
use Rattle.path_model.proofs.NodeLooks.{NodeIn, all_are}
use Rattle.path_model.proofs.ProgramAnswers.{flat, answer-gathered}
use Rattle.path_model.proofs.Standing.{HasNode, stands, has_node}
use Rattle.path_model.proofs.SubtreeLaws.{filter_joined, all_labelled}

-- ---- the nodes over a label, from the top of a forest down

abbrev pub over_nodes : Label → Forest → List Position
over_nodes l none = []
over_nodes l (node m r ats ch nx) = choose (side m l) [] [] (a_node m r ∷ over_nodes l ch) (over_nodes l nx)

abbrev pub Above : Label → Position → Bool
Above l m = is_node m && is_above (side l (label_of m))

not_above : (l : Label) (s : Side) → is_above s ≡ false → (m : Position) → side l (label_of m) ≡ s → Above l m ≡ false
not_above l s e (a_node k r) h = ap is_above h ∙ e
not_above l s e (an_attribute k n v) h = refl

-- at a node of which it is known whether it lies over the label
first_filtered : (l m : Label) (r : Record) (ats : Attributes) (ch nx : Forest) (b : Bool) → Above l (a_node m r) ≡ b → (cs ns : List Position)
    → filter (Above l) (positions_in ch) ≡ cs → filter (Above l) (positions_in nx) ≡ ns
    → filter (Above l) (positions_in (node m r ats ch nx)) ≡ (cond b (a_node m r ∷ []) [] ++ cs) ++ ns
first_filtered l m r ats ch nx b e cs ns c n =
    filter_joined (Above l) ((a_node m r ∷ attributes_at m ats) ++ positions_in ch) (positions_in nx)
    ∙ (λ i. filter_joined (Above l) (a_node m r ∷ attributes_at m ats) (positions_in ch) i ++ n i)
    ∙ (λ i. (cond (e i) (a_node m r ∷ no_nodes (Above l) (λ k n v. refl) m ats i) (no_nodes (Above l) (λ k n v. refl) m ats i) ++ c i) ++ ns)

pub above_are : (p b l : Label) (f : Forest) → KeysRise p b f → found (at l f) ≡ true → filter (Above l) (positions_in f) ≡ over_nodes l f
above_are p b l none w y = refl
above_are p b l (node m r ats ch nx) w y =
    let whole : Forest = node m r ats ch nx in
    let from_below : (s : Side) → is_above s ≡ false → ((k : Label) → side m k ≡ under → side l k ≡ s) → filter (Above l) (positions_in ch) ≡ [] =
    λ s z h. filter_out (λ n. side m (label_of n) ≡ under) (Above l) (λ n u. not_above l s z n (h (label_of n) u)) (positions_in ch) (all_labelled (SideIs m under) m m ch w.4 (all_under m m ch w.4)) in
    let from_behind : ((k : Label) → side m k ≡ right → side l k ≡ right) → filter (Above l) (positions_in nx) ≡ [] =
    λ h. filter_out (λ n. side m (label_of n) ≡ right) (Above l) (λ n u. not_above l right refl n (h (label_of n) u)) (positions_in nx) (all_labelled (SideIs m right) p m nx w.5 (all_right p m nx w.0 w.5)) in
    elim (side m l) as (λ s. side m l ≡ s → found (choose s none whole (at l ch) (at l nx)) ≡ true → filter (Above l) (positions_in whole) ≡ choose s [] [] (a_node m r ∷ over_nodes l ch) (over_nodes l nx)) [
      | above ↦ λ _ e. absurd (true≢false (sym e))
      | left ↦ λ _ e. absurd (true≢false (sym e))
      | same ↦ λ s _.
          let is : l ≡ m = same_is m l s in
          first_filtered l m r ats ch nx false (ap (λ z. is_above (side z m)) is ∙ ap is_above (side_itself m)) [] []
          (from_below under refl (λ k u. ap (λ z. side z k) is ∙ u))
          (from_behind (λ k u. ap (λ z. side z k) is ∙ u))
      | under ↦ λ s e.
          first_filtered l m r ats ch nx true (ap is_above (under_above m l s)) (over_nodes l ch) []
          (above_are m m l ch w.4 e)
          (from_behind (λ k u. right_within m k l k u (ap is_in s) (ap is_in (side_itself k))))
          ∙ append-nil _
      | right ↦ λ s e.
          first_filtered l m r ats ch nx false (ap is_above (left_within m l m l s (ap is_in (side_itself m)) (ap is_in (side_itself l)))) [] (over_nodes l nx)
          (from_below left refl (λ k u. left_within m l k l s (ap is_in u) (ap is_in (side_itself l))))
          (above_are p m l nx w.5 e)
    ] refl y

-- ---- the same by the label

-- they lie on the way from p down to l
record IsWay (p l : Label) (ns : List Position) : Type 0 where
  labels : map label_of ns ≡ cuts (length ns) l
  top : cut (suc (length ns)) l ≡ p
  levels : level l ≡ suc (length ns + level p)

way_is : (p b l : Label) (f : Forest) → is_label p ≡ true → KeysRise p b f → found (at l f) ≡ true → IsWay p l (over_nodes l f)
way_is p b l none i w y = absurd (true≢false (sym y))
way_is p b l (node m r ats ch nx) i w y =
    let whole : Forest = node m r ats ch nx in
    elim (side m l) as (λ s. side m l ≡ s → found (choose s none whole (at l ch) (at l nx)) ≡ true → IsWay p l (choose s [] [] (a_node m r ∷ over_nodes l ch) (over_nodes l nx))) [
      | above ↦ λ _ e. absurd (true≢false (sym e))
      | left ↦ λ _ e. absurd (true≢false (sym e))
      | same ↦ λ s _. subst (λ z. IsWay p z []) (sym (same_is m l s)) (record { labels = refl; top = parent_of_child p m i w.0; levels = omega (arith, level_of_child p m i w.0) })
      | under ↦ λ s e.
          let z : IsWay m l (over_nodes l ch) = way_is m m l ch (child_label p m i w.0) w.4 e in
          record {
            labels = λ j. sym z.top j ∷ z.labels j;
            top = ap parent z.top ∙ parent_of_child p m i w.0;
            levels = omega (arith, level_of_child p m i w.0, z.levels);
          }
      | right ↦ λ _ e. way_is p m l nx i w.5 e
    ] refl y

-- the top of a way lies in the row of the forest
abbrev top_of : Label → List Position → Label
top_of l [] = l
top_of l (n ∷ ns) = label_of n

pub record IsTop (p l d : Label) (f : Forest) : Type 0 where
  pub is_child_of : is_child p d ≡ true
  pub holds : is_in (side d l) ≡ true
  pub there : found (at d f) ≡ true

top_is : (p b l : Label) (f : Forest) → KeysRise p b f → found (at l f) ≡ true → IsTop p l (top_of l (over_nodes l f)) f
top_is p b l none w y = absurd (true≢false (sym y))
top_is p b l (node m r ats ch nx) w y =
    let whole : Forest = node m r ats ch nx in
    elim (side m l) as (λ s. side m l ≡ s → found (choose s none whole (at l ch) (at l nx)) ≡ true → IsTop p l (top_of l (choose s [] [] (a_node m r ∷ over_nodes l ch) (over_nodes l nx))) whole) [
      | above ↦ λ _ e. absurd (true≢false (sym e))
      | left ↦ λ _ e. absurd (true≢false (sym e))
      | same ↦ λ s _. record { is_child_of = subst (λ z. is_child p z ≡ true) (sym (same_is m l s)) w.0; holds = ap is_in (side_itself l); there = y }
      | under ↦ λ s _. record { is_child_of = w.0; holds = ap is_in s; there = ap (λ s. found (choose s none whole (at m ch) (at m nx))) (side_itself m) }
      | right ↦ λ _ e.
          let z : IsTop p l (top_of l (over_nodes l nx)) nx = top_is p m l nx w.5 e in
          let d : Label = top_of l (over_nodes l nx) in
          record {
            is_child_of = z.is_child_of;
            holds = z.holds;
            there = ap (λ s. found (choose s none whole (at d ch) (at d nx))) (found_right p m d m nx w.5 w.0 (inr refl) z.there) ∙ z.there;
          }
    ] refl y

-- ---- lists

map_reversed : {A B : Type 0} (f : A → B) (xs : List A) → map f (reverse xs) ≡ reverse (map f xs)
map_reversed f [] = refl
map_reversed f (x ∷ xs) =
    ap (map f) (reverse_onto xs x []) ∙ map-append f (reverse xs) (x ∷ []) ∙ ap (λ ys. ys ++ (f x ∷ [])) (map_reversed f xs) ∙ sym (reverse_onto (map f xs) (f x) [])

flat_mapped : {A B C : Type 0} (f : B → List C) (g : A → B) (xs : List A) → flat f (map g xs) ≡ flat (λ x. f (g x)) xs
flat_mapped f g [] = refl
flat_mapped f g (x ∷ xs) = ap (λ ys. f (g x) ++ ys) (flat_mapped f g xs)

flat_single : {A : Type 0} (P : A → Type 0) (f : A → List A) → ((x : A) → P x → f x ≡ x ∷ []) → (xs : List A) → AllByRecursion P xs → flat f xs ≡ xs
flat_single P f h [] w = refl
flat_single P f h (x ∷ xs) w = λ i. h x w.0 i ++ flat_single P f h xs w.1 i

pub filter_holds : {A : Type 0} (q : A → Bool) (xs : List A) → AllByRecursion (λ x. q x ≡ true) (filter q xs)
filter_holds q [] = tt
filter_holds q (x ∷ xs) = elim (q x) as (λ b. q x ≡ b → AllByRecursion (λ x. q x ≡ true) (cond b (x ∷ filter q xs) (filter q xs))) [
  | true ↦ λ e. (e, filter_holds q xs)
  | false ↦ λ _. filter_holds q xs
] refl

-- ---- in a valid tree

module _ (t : Tree) (valid : IsValidTree t) where
  pub node_there : (l : Label) → found (at l t.documents) ≡ true → (r : Record) × HasNode t.documents l r
  node_there l y = by (at l t.documents) refl (at_label l t.documents y) y
    where
      by : (g : Forest) → at l t.documents ≡ g → head_label (at l t.documents) ≡ Some l → found g ≡ true → (r : Record) × HasNode t.documents l r
      by none e h z = absurd (true≢false (sym z))
      by (node m r ats ch nx) e h z =
          let is : m ≡ l = some_is m l (sym (ap head_label e) ∙ h) in
          (r, record { attributes = ats; children = ch; behind = nx; is = e ∙ ap (λ k. node k r ats ch nx) is })

  ancestors_are : (l : Label) → found (at l t.documents) ≡ true → ancestors l ≡ root ∷ map label_of (over_nodes l t.documents)
  ancestors_are l y =
      let ns : List Position = over_nodes l t.documents in
      let z : IsWay root l ns = way_is root root l t.documents refl valid.keys y in
      let count : level l ≡ suc (length ns) = omega (arith, z.levels) in
      ap (λ n. cuts n l) count ∙ (λ i. z.top i ∷ sym z.labels i)

  -- each node over a label is seen by itself
  is_alone : (l : Label) (n : Position) → (Above l n ≡ true) × Among n (positions t) → head_seen (at (label_of n) t.documents) ≡ n ∷ []
  is_alone l (a_node k r) h = ap head_seen (has_node t valid k r h.1).is
  is_alone l (an_attribute k n v) h = absurd (true≢false (sym h.0))

  both_hold : (l : Label) (ns : List Position) → AllByRecursion (λ n. Above l n ≡ true) ns → AllByRecursion (λ n. Among n (positions t)) ns → AllByRecursion (λ n. (Above l n ≡ true) × Among n (positions t)) ns
  both_hold l [] a b = tt
  both_hold l (n ∷ ns) a b = ((a.0, b.0), both_hold l ns a.1 b.1)

  over_all : (l : Label) → found (at l t.documents) ≡ true → AllByRecursion (λ n. (Above l n ≡ true) × Among n (positions t)) (over_nodes l t.documents)
  over_all l y =
      subst (AllByRecursion (λ n. (Above l n ≡ true) × Among n (positions t))) (above_are root root l t.documents valid.keys y)
      (both_hold l (filter (Above l) (positions t)) (filter_holds (Above l) (positions t)) (filtered_among (Above l) (positions t)))

  pub ancestors_seen : (l : Label) → found (at l t.documents) ≡ true → answer t (nodes_at (ancestors_up l)) ≡ reverse (filter (Above l) (positions t))
  ancestors_seen l y =
      let ns : List Position = over_nodes l t.documents in
      ap (λ ls. answer t (nodes_at (reverse (drop 1 ls)))) (ancestors_are l y)
      ∙ ap (λ ls. answer t (nodes_at ls)) (sym (map_reversed label_of ns))
      ∙ answer-gathered t (λ k. looks (at_node k) ends) (map label_of (reverse ns))
      ∙ flat_mapped (λ k. answer t (looks (at_node k) ends)) label_of (reverse ns)
      ∙ flat_single (λ n. (Above l n ≡ true) × Among n (positions t)) (λ n. head_seen (at (label_of n) t.documents)) (is_alone l) (reverse ns) (all_reversed (λ n. (Above l n ≡ true) × Among n (positions t)) ns (over_all l y))
      ∙ ap reverse (sym (above_are root root l t.documents valid.keys y))

  -- ---- documents

  document_is : (l : Label) → found (at l t.documents) ≡ true → document_of l ≡ top_of l (over_nodes l t.documents)
  document_is l y = ap (document_in l) (ancestors_are l y) ∙ by (over_nodes l t.documents)
    where
      by : (ns : List Position) → document_in l (root ∷ map label_of ns) ≡ top_of l ns
      by [] = refl
      by (n ∷ ns) = refl

  pub document_top : (l : Label) → found (at l t.documents) ≡ true → IsTop root l (document_of l) t.documents
  document_top l y = subst (λ d. IsTop root l d t.documents) (sym (document_is l y)) (top_is root root l t.documents valid.keys y)

  -- of two documents the first one is that of what lies in the second where they are one
  pub same_document : (d e k : Label) → is_child root d ≡ true → is_child root e ≡ true → is_in (side e k) ≡ true → same_label d e ≡ is_in (side d k)
  same_document d e k c g h = elim (slice_cmp nat_cmp d e) as (λ o. slice_cmp nat_cmp d e ≡ o → is_eq o ≡ is_in (side d k)) [
    | Less ↦ λ q. sym (ap is_in (right_within d e d k (children_right root d e c g q) (ap is_in (side_itself d)) h))
    | Equal ↦ λ q. sym (ap (λ z. is_in (side z k)) (list_tied d e q) ∙ h)
    | Greater ↦ λ q. sym (ap is_in (left_within e d k d (children_right root e d g c (nat_list_cmp_total.antisymm e d ∙ ap ordering_reverse q)) h (ap is_in (side_itself d))))
  ] refl

  -- what shares a node's document is all from that document down
  pub document_shows : (l : Label) → found (at l t.documents) ≡ true
      → filter (λ m. same_label (document_of l) (document_of (label_of m)) && is_node m) (positions t) ≡ tree_seen (at (document_of l) t.documents)
  document_shows l y =
      let d = document_of l in
      let top : IsTop root l d t.documents = document_top l y in
      let h = node_there d top.there in
      filter_there t (λ m. same_label d (document_of (label_of m)) && is_node m) (NodeIn d) (λ m i.
      let e : IsTop root (label_of m) (document_of (label_of m)) t.documents = document_top (label_of m) (ap found (stands t valid m i).is) in
      ap (λ b. b && is_node m) (same_document d (document_of (label_of m)) (label_of m) top.is_child_of e.is_child_of e.holds))
      ∙ all_are t valid d h.0 h.1

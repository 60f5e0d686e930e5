-- Of a tree that was seen whole the children of each node stand behind it.
use Rattle.std.proofs.Common.{◌≡◌, Bool, true, false, cond, not, ◌&&◌, List, [], ◌∷◌, ◌++◌, drop, Ordering, Less, Equal, Greater, nat_cmp, refl, sym, ap, subst, ◌∙◌, true≢false}
use Rattle.std.specs.List.{AllByRecursion, filter}
use Rattle.std.specs.Ordering.{ordering_reverse, ordering_then}
use Rattle.std.specs.Cmp.Lexicographic.{slice_cmp, nat_list_cmp_total}
use Rattle.dewey_labels.specs.Labels.{Label, is_child, is_ancestor}
use Rattle.dewey_labels.specs.Sides.{Side, side, is_in, is_under, is_right, above, left, same, under, right}
use Rattle.dewey_labels.proofs.Codes.{child_under, first_of_both, second_of_both}
use Rattle.dewey_labels.proofs.Sides.{side_itself, under_before, ancestor_under, in_under, right_within, right_on, same_is}
use Rattle.tree_model.specs.declared.record.Record.{Record}
use Rattle.tree_model.specs.Keys.{key_cmp, key_at}
use Rattle.tree_model.specs.Tree.{Forest, none, node, Tree, at, found, head_label, below}
use Rattle.tree_model.specs.ValidTrees.{IsValidTree}
use Rattle.tree_model.proofs.Found.{some_is, at_label}
use Rattle.path_model.specs.declared.path.Axis.TheVariants.{DescendantOrSelf}
use Rattle.path_model.specs.declared.path.NodeTest.TheVariants as test
use Rattle.path_model.specs.AxisPrograms.{along, children}
use Rattle.path_model.specs.Positions.{Position, a_node, an_attribute, positions, label_of, is_node}
use Rattle.path_model.specs.Programs.{answer, all_seen, tree_seen, row_seen}
use Rattle.path_model.specs.Sets.{Among, Precedes, Rises}
use Rattle.path_model.proofs.Filters.{filter_both, filter_out}
use Rattle.path_model.proofs.Members.{AllAmong, all_filtered, filtered_among}
use Rattle.path_model.proofs.NodeLooks.{ChildOf, NodeIn, all_are, children_are}
use Rattle.path_model.proofs.OrderLaws.{filter_on, positions_rise}
use Rattle.path_model.proofs.Standing.{HasNode, has_node}
use Rattle.xpath_axes.specs.Wholes.{StandsBefore}
use Rattle.xpath_axes.specs.inside.Ahead.{children_ahead}
use Rattle.xpath_axes.proofs.LabelWays.{is_less, right_test}

-- ---- labels

node_below : (l k : Label) → key_cmp (key_at l []) (key_at k []) ≡ Less → slice_cmp nat_cmp l k ≡ Less
node_below l k h = by (slice_cmp nat_cmp l k) h
  where
    by : (o : Ordering) → ordering_then o Equal ≡ Less → o ≡ Less
    by Less e = refl
    by Equal e = e
    by Greater e = e

child_behind : (l k : Label) → is_child l k ≡ true → slice_cmp nat_cmp l k ≡ Less
child_behind l k e = under_before l k (child_under l k e)

no_child_before : (l k : Label) → slice_cmp nat_cmp k l ≡ Less → is_child l k ≡ false
no_child_before l k h = elim (is_child l k) as (λ b. is_child l k ≡ b → b ≡ false) [
  | true ↦ λ e. absurd (apart (sym h ∙ nat_list_cmp_total.antisymm k l ∙ ap ordering_reverse (child_behind l k e)))
  | false ↦ λ _. refl
] refl
  where
    apart : Less ≡ Greater → ⊥
    apart e = cc

no_child_itself : (l : Label) → is_child l l ≡ false
no_child_itself l = elim (is_child l l) as (λ b. is_child l l ≡ b → b ≡ false) [
  | true ↦ λ e. absurd (apart (sym (side_itself l) ∙ child_under l l e))
  | false ↦ λ _. refl
] refl
  where
    apart : same ≡ under → ⊥
    apart e = cc

child_is_under : (l k : Label) → is_child l k ≡ true → is_ancestor l k ≡ true
child_is_under l k e = ancestor_under l k ∙ ap is_under (child_under l k e)

no_child_apart : (l k : Label) → is_ancestor l k ≡ false → is_child l k ≡ false
no_child_apart l k h = elim (is_child l k) as (λ b. is_child l k ≡ b → b ≡ false) [
  | true ↦ λ e. absurd (true≢false (sym (child_is_under l k e) ∙ h))
  | false ↦ λ _. refl
] refl

right_is : (s : Side) → is_right s ≡ true → s ≡ right
right_is above e = cc
right_is left e = cc
right_is same e = cc
right_is under e = cc
right_is right e = refl

under_is : (s : Side) → is_under s ≡ true → s ≡ under
under_is above e = cc
under_is left e = cc
under_is same e = cc
under_is under e = refl
under_is right e = cc

-- what comes behind a label and not under it lies on its right
lies_right : (l k : Label) → slice_cmp nat_cmp l k ≡ Less → is_ancestor l k ≡ false → side l k ≡ right
lies_right l k h e = right_is (side l k) (sym (right_test l k) ∙ ap (λ o. is_less o && not (is_ancestor l k)) h ∙ ap not e)

-- and so does what comes behind that
stays_right : (l k j : Label) → side l k ≡ right → slice_cmp nat_cmp k j ≡ Less → side l j ≡ right
stays_right l k j r h = elim (is_ancestor k j) as (λ b. is_ancestor k j ≡ b → side l j ≡ right) [
  | true ↦ λ e. right_within l k l j r (ap is_in (side_itself l)) (ap is_in (under_is (side k j) (sym (ancestor_under k j) ∙ e)))
  | false ↦ λ e. right_on l k j r (lies_right k j h e)
] refl

no_child_right : (l k : Label) → side l k ≡ right → is_child l k ≡ false
no_child_right l k r = no_child_apart l k (ancestor_under l k ∙ ap is_under r)

-- ---- rising nodes

abbrev AllNodes : List Position → Type 0
AllNodes ns = AllByRecursion (λ m. is_node m ≡ true) ns

-- all come behind the label
abbrev AllBehind : Label → List Position → Type 0
AllBehind l ns = AllByRecursion (λ m. slice_cmp nat_cmp l (label_of m) ≡ Less) ns

behind_node : (l : Label) (r : Record) (ns : List Position) → AllNodes ns → AllByRecursion (Precedes (a_node l r)) ns → AllBehind l ns
behind_node l r [] w h = tt
behind_node l r (a_node k q ∷ ns) w h = (node_below l k h.0, behind_node l r ns w.1 h.1)
behind_node l r (an_attribute k n v ∷ ns) w h = absurd (true≢false (sym w.0))

all_right : (l k : Label) (ns : List Position) → side l k ≡ right → AllBehind k ns → AllByRecursion (λ m. side l (label_of m) ≡ right) ns
all_right l k [] r h = tt
all_right l k (m ∷ ns) r h = (stays_right l k (label_of m) r h.0, all_right l k ns r h.1)

node_right : (l : Label) (m : Position) → side l (label_of m) ≡ right → ChildOf l m ≡ false
node_right l (a_node k q) r = no_child_right l k r
node_right l (an_attribute k n v) r = refl

rows_ahead : (l : Label) (ns : List Position) → AllNodes ns → Rises ns → AllBehind l ns → filter (ChildOf l) ns ≡ children_ahead l ns
rows_ahead l [] w r h = refl
rows_ahead l (an_attribute k n v ∷ ns) w r h = absurd (true≢false (sym w.0))
rows_ahead l (a_node k q ∷ ns) w r h =
    let m : Position = a_node k q in
    elim (is_ancestor l k) as (λ b. is_ancestor l k ≡ b → cond (is_child l k) (m ∷ filter (ChildOf l) ns) (filter (ChildOf l) ns) ≡ cond b (cond (is_child l k) (m ∷ children_ahead l ns) (children_ahead l ns)) []) [
      | true ↦ λ e. ap (λ (ms : List Position). cond (is_child l k) (m ∷ ms) ms) (rows_ahead l ns w.1 r.1 h.1)
      | false ↦ λ e.
          ap (λ b. cond b (m ∷ filter (ChildOf l) ns) (filter (ChildOf l) ns)) (no_child_apart l k e)
          ∙ filter_out (λ x. side l (label_of x) ≡ right) (ChildOf l) (node_right l) ns (all_right l k ns (lies_right l k h.0 e) (behind_node k q ns w.1 r.0))
    ] refl

-- what holds of all holds of the one in the middle
in_the_middle : (P : Position → Type 0) (before : List Position) (m : Position) (ahead : List Position) → AllByRecursion P (before ++ m ∷ ahead) → P m
in_the_middle P [] m ahead h = h.0
in_the_middle P (x ∷ before) m ahead h = in_the_middle P before m ahead h.1

children_in : (l : Label) (r : Record) (before ahead : List Position) → AllNodes (before ++ a_node l r ∷ ahead) → Rises (before ++ a_node l r ∷ ahead)
    → filter (ChildOf l) (before ++ a_node l r ∷ ahead) ≡ children_ahead l ahead
children_in l r [] ahead w h =
    ap (λ b. cond b (a_node l r ∷ filter (ChildOf l) ahead) (filter (ChildOf l) ahead)) (no_child_itself l)
    ∙ rows_ahead l ahead w.1 h.1 (behind_node l r ahead w.1 h.0)
children_in l r (an_attribute k n v ∷ before) ahead w h = absurd (true≢false (sym w.0))
children_in l r (a_node k q ∷ before) ahead w h =
    let all : List Position = before ++ a_node l r ∷ ahead in
    ap (λ b. cond b (a_node k q ∷ filter (ChildOf l) all) (filter (ChildOf l) all)) (no_child_before l k (node_below k l (in_the_middle (Precedes (a_node k q)) before (a_node l r) ahead h.0)))
    ∙ children_in l r before ahead w.1 h.1

rises_filtered : (q : Position → Bool) (ns : List Position) → Rises ns → Rises (filter q ns)
rises_filtered q [] h = tt
rises_filtered q (n ∷ ns) h = elim (q n) as (λ b. Rises (cond b (n ∷ filter q ns) (filter q ns))) [
  | true ↦ (all_filtered (Precedes n) q ns h.0, rises_filtered q ns h.1)
  | false ↦ rises_filtered q ns h.1
]

all_pass : (q : Position → Bool) (ns : List Position) → AllByRecursion (λ m. q m ≡ true) (filter q ns)
all_pass q [] = tt
all_pass q (n ∷ ns) = elim (q n) as (λ b. q n ≡ b → AllByRecursion (λ m. q m ≡ true) (cond b (n ∷ filter q ns) (filter q ns))) [
  | true ↦ λ e. (e, all_pass q ns)
  | false ↦ λ e. all_pass q ns
] refl

-- ---- a tree from a node down

abbrev first_label : List Position → Label
first_label [] = []
first_label (m ∷ ms) = label_of m

-- a position of a tree, and what stands before and behind it
record Placed (f : Label) (s : Record) (under_it : List Position) (l : Label) (ahead : List Position) : Type 0 where
  before : List Position
  holds : Record
  is : a_node f s ∷ under_it ≡ before ++ a_node l holds ∷ ahead

placed : (f l : Label) (s r q : Record) (before ahead under_it : List Position) → before ++ a_node l q ∷ ahead ≡ a_node f r ∷ under_it → Placed f s under_it l ahead
placed f l s r q [] ahead under_it e = record { before = []; holds = s; is = λ i. a_node (sym (ap first_label e) i) s ∷ sym (ap (drop 1) e) i }
placed f l s r q (x ∷ before) ahead under_it e = record { before = a_node f s ∷ before; holds = q; is = ap (λ (ms : List Position). a_node f s ∷ ms) (sym (ap (drop 1) e)) }

module _ (t : Tree) (valid : IsValidTree t) where
  -- of the nodes from one down, as the tree has them
  module _ (l : Label) (s : Record) (h : HasNode t.documents l s) where
    abbrev nodes : List Position
    nodes = a_node l s ∷ all_seen h.children

    nodes_are : filter (NodeIn l) (positions t) ≡ nodes
    nodes_are = all_are t valid l s h ∙ ap tree_seen h.is

    nodes_rise : Rises nodes
    nodes_rise = subst Rises nodes_are (rises_filtered (NodeIn l) (positions t) (positions_rise t valid))

    all_in : AllByRecursion (λ m. NodeIn l m ≡ true) nodes
    all_in = subst (AllByRecursion (λ m. NodeIn l m ≡ true)) nodes_are (all_pass (NodeIn l) (positions t))

    all_nodes : (ns : List Position) → AllByRecursion (λ m. NodeIn l m ≡ true) ns → AllNodes ns
    all_nodes [] w = tt
    all_nodes (m ∷ ns) w = (second_of_both (is_in (side l (label_of m))) (is_node m) w.0, all_nodes ns w.1)

    all_there : AllAmong (positions t) nodes
    all_there = subst (AllAmong (positions t)) nodes_are (filtered_among (NodeIn l) (positions t))

    -- a child of a node in there lies in there
    child_in : (k : Label) → is_in (side l k) ≡ true → (m : Position) → ChildOf k m ≡ (NodeIn l m && ChildOf k m)
    child_in k i (an_attribute j n v) = sym (both_false (is_in (side l j)))
      where
        both_false : (b : Bool) → ((b && false) && false) ≡ false
        both_false true = refl
        both_false false = refl
    child_in k i (a_node j q) = elim (is_child k j) as (λ b. is_child k j ≡ b → b ≡ ((is_in (side l j) && true) && b)) [
      | true ↦ λ e. sym (ap (λ b. (b && true) && true) (in_there e))
      | false ↦ λ e. sym (both_false (is_in (side l j) && true))
    ] refl
      where
        both_false : (b : Bool) → (b && false) ≡ false
        both_false true = refl
        both_false false = refl

        in_there : is_child k j ≡ true → is_in (side l j) ≡ true
        in_there e = by (side l k) refl
          where
            by : (z : Side) → side l k ≡ z → is_in (side l j) ≡ true
            by above g = absurd (true≢false (sym i ∙ ap is_in g))
            by left g = absurd (true≢false (sym i ∙ ap is_in g))
            by same g = subst (λ y. is_in (side y j) ≡ true) (same_is l k g) (ap is_in (child_under k j e))
            by under g = ap is_in (in_under l k j g (ap is_in (child_under k j e)))
            by right g = absurd (true≢false (sym i ∙ ap is_in g))

    children_there : (k : Label) (ahead : List Position) → Placed l s (all_seen h.children) k ahead → children_ahead k ahead ≡ row_seen (below (at k t.documents))
    children_there k ahead p =
        let m : Position = a_node k p.holds in
        let all : List Position = p.before ++ m ∷ ahead in
        let within : NodeIn l m ≡ true = in_the_middle (λ x. NodeIn l x ≡ true) p.before m ahead (subst (AllByRecursion (λ x. NodeIn l x ≡ true)) p.is all_in) in
        let there : Among m (positions t) = in_the_middle (λ x. Among x (positions t)) p.before m ahead (subst (AllAmong (positions t)) p.is all_there) in
        sym (children_in k p.holds p.before ahead (subst AllNodes p.is (all_nodes nodes all_in)) (subst Rises p.is nodes_rise))
        ∙ sym (ap (filter (ChildOf k)) (nodes_are ∙ p.is))
        ∙ sym (filter_both (NodeIn l) (ChildOf k) (positions t))
        ∙ sym (filter_on (ChildOf k) (λ x. NodeIn l x && ChildOf k x) (child_in k (first_of_both (is_in (side l k)) true within)) (positions t))
        ∙ children_are t valid k p.holds (has_node t valid k p.holds there)

  -- the tree that is found with a label, by its node
  abbrev node_found : (l m : Label) (s : Record) (ats ch nx : _) → at l t.documents ≡ node m s ats ch nx → HasNode t.documents l s
  node_found l m s ats ch nx e = record {
    attributes = ats;
    children = ch;
    behind = nx;
    is = e ∙ ap (λ k. node k s ats ch nx) (some_is m l (sym (ap head_label e) ∙ at_label l t.documents (ap found e)));
  }

  pub whole_rises : (n : Position) → Rises (answer t (along DescendantOrSelf test.Node n))
  whole_rises (an_attribute l n v) = (tt, tt)
  whole_rises (a_node l r) = by (at l t.documents) refl
    where
      by : (f : Forest) → at l t.documents ≡ f → Rises (a_node l r ∷ drop 1 (tree_seen f))
      by none e = (tt, tt)
      by (node m s ats ch nx) e = nodes_rise l s (node_found l m s ats ch nx e)

  pub children_of_whole : (l : Label) (q : Record) (ahead : List Position) → StandsBefore t (a_node l q) ahead → children_ahead l ahead ≡ answer t (children (a_node l q))
  children_of_whole l q ahead (before, (an_attribute f n v, e)) = absurd (none_there before e)
    where
      none_there : (before : List Position) → before ++ a_node l q ∷ ahead ≡ an_attribute f n v ∷ [] → ⊥
      none_there [] e = cc
      none_there (x ∷ []) e = cc
      none_there (x ∷ y ∷ before) e = cc
  children_of_whole l q ahead (before, (a_node f r, e)) = by (at f t.documents) refl e
    where
      by : (g : Forest) → at f t.documents ≡ g → before ++ a_node l q ∷ ahead ≡ a_node f r ∷ drop 1 (tree_seen g) → children_ahead l ahead ≡ row_seen (below (at l t.documents))
      by none z e = alone before e
        where
          alone : (before : List Position) → before ++ a_node l q ∷ ahead ≡ a_node f r ∷ [] → children_ahead l ahead ≡ row_seen (below (at l t.documents))
          alone [] e = ap (children_ahead l) (ap (drop 1) e) ∙ sym (ap (λ k. row_seen (below (at k t.documents))) (ap first_label e) ∙ ap (λ g. row_seen (below g)) z)
          alone (x ∷ []) e = absurd (apart e)
            where
              apart : x ∷ a_node l q ∷ ahead ≡ a_node f r ∷ [] → ⊥
              apart e = cc
          alone (x ∷ y ∷ before) e = absurd (apart e)
            where
              apart : x ∷ y ∷ (before ++ a_node l q ∷ ahead) ≡ a_node f r ∷ [] → ⊥
              apart e = cc
      by (node m s ats ch nx) z e = children_there f s (node_found f m s ats ch nx z) l ahead (placed f l s r q before ahead (all_seen ch) e)

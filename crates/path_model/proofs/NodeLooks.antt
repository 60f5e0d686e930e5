-- What looks at a node, at its children and at all from it down show, as filters of all positions.
use Rattle.std.proofs.Common.{◌≡◌, Bool, true, false, cond, ◌&&◌, List, [], ◌∷◌, ◌++◌, Less, is_eq, refl, sym, ap, subst, ◌∙◌, true≢false, Ordering, Equal, Greater}
use Rattle.std.specs.List.{filter}
use Rattle.std.specs.Ordering.{ordering_reverse}
use Rattle.dewey_labels.specs.Labels.{Label, is_child}
use Rattle.dewey_labels.specs.Sides.{side, is_in, under, right, same}
use Rattle.dewey_labels.proofs.Sides.{side_itself, under_before}
use Rattle.dewey_labels.proofs.Codes.{child_under, children_right}
use Rattle.tree_model.specs.declared.record.Record.{Record}
use Rattle.tree_model.specs.Tree.{Forest, none, node, Tree, at, below}
use Rattle.tree_model.specs.ValidTrees.{IsValidTree, KeysRise, same_label}
use Rattle.tree_model.proofs.EntryLimits.{list_itself}
use Rattle.tree_model.proofs.Split.{SideIs, all_under}
use Rattle.tree_model.proofs.StoredCatalogues.{same_label_is}
use Rattle.path_model.specs.Positions.{Position, a_node, an_attribute, attributes_at, positions_in, positions, label_of, is_node}
use Rattle.path_model.specs.Programs.{head_seen, row_seen, tree_seen}
use Rattle.path_model.proofs.DescendantLaws.{no_nodes, nodes_only}
use Rattle.path_model.proofs.Filters.{filter_both, filter_out}
use Rattle.path_model.proofs.Standing.{HasNode, node_lies}
use Rattle.path_model.proofs.SubtreeLaws.{filter_joined, all_labelled, subtree_is, within_subtree}

-- ---- labels

pub same_label_itself : (l : Label) → same_label l l ≡ true
same_label_itself l = ap is_eq (list_itself l)

pub is_eq_turned : (o : Ordering) → is_eq (ordering_reverse o) ≡ is_eq o
is_eq_turned Less = refl
is_eq_turned Equal = refl
is_eq_turned Greater = refl

no_child_itself : (l : Label) → is_child l l ≡ false
no_child_itself l = elim (is_child l l) as (λ b. is_child l l ≡ b → b ≡ false) [
  | true ↦ λ e. absurd (apart (sym (side_itself l) ∙ child_under l l e))
  | false ↦ λ _. refl
] refl
  where
    apart : same ≡ under → ⊥
    apart e = cc

-- what lies under a child is no child
no_grandchild : (l m k : Label) → is_child l m ≡ true → side m k ≡ under → is_child l k ≡ false
no_grandchild l m k c u = elim (is_child l k) as (λ b. is_child l k ≡ b → b ≡ false) [
  | true ↦ λ e. absurd (apart (sym u ∙ children_right l m k c e (under_before m k u)))
  | false ↦ λ _. refl
] refl
  where
    apart : under ≡ right → ⊥
    apart e = cc

-- ---- tests of nodes

abbrev pub NodeAt : Label → Position → Bool
NodeAt l m = is_node m && same_label l (label_of m)

abbrev pub ChildOf : Label → Position → Bool
ChildOf l m = is_node m && is_child l (label_of m)

abbrev pub NodeIn : Label → Position → Bool
NodeIn l m = is_in (side l (label_of m)) && is_node m

node_test_within : (q : Label → Bool) (l : Label) → ((k : Label) → q k ≡ true → is_in (side l k) ≡ true) → (m : Position) → (is_node m && q (label_of m)) ≡ true → is_in (side l (label_of m)) ≡ true
node_test_within q l h (a_node k r) e = h k e
node_test_within q l h (an_attribute k n v) e = absurd (true≢false (sym e))

-- ---- rows

-- under a child no child is left
children_below : (l m : Label) (f : Forest) → is_child l m ≡ true → KeysRise m m f → filter (ChildOf l) (positions_in f) ≡ []
children_below l m f c w = filter_out (λ n. side m (label_of n) ≡ under) (ChildOf l) no_child (positions_in f) (all_labelled (SideIs m under) m m f w (all_under m m f w))
  where
    no_child : (n : Position) → side m (label_of n) ≡ under → ChildOf l n ≡ false
    no_child (a_node k r) u = no_grandchild l m k c u
    no_child (an_attribute k n v) u = refl

row_is : (l b : Label) (f : Forest) → KeysRise l b f → filter (ChildOf l) (positions_in f) ≡ row_seen f
row_is l b none w = refl
row_is l b (node m r ats ch nx) w =
    filter_joined (ChildOf l) ((a_node m r ∷ attributes_at m ats) ++ positions_in ch) (positions_in nx)
    ∙ (λ i. first i ++ row_is l m nx w.5 i)
  where
    first : filter (ChildOf l) ((a_node m r ∷ attributes_at m ats) ++ positions_in ch) ≡ a_node m r ∷ []
    first =
        filter_joined (ChildOf l) (a_node m r ∷ attributes_at m ats) (positions_in ch)
        ∙ (λ i. cond (w.0 i) (a_node m r ∷ no_nodes (ChildOf l) (λ k n v. refl) m ats i) (no_nodes (ChildOf l) (λ k n v. refl) m ats i) ++ children_below l m ch w.0 w.4 i)

-- ---- the looks

module _ (t : Tree) (valid : IsValidTree t) (l : Label) (r : Record) (h : HasNode t.documents l r) where
  pub children_rise : KeysRise l l h.children
  children_rise = (node_lies t valid l r h).children

  -- a test that fails at the attributes of a node
  own_filtered : (q : Position → Bool) → ((k : Label) (n v : List _) → q (an_attribute k n v) ≡ false) → (b : Bool) → q (a_node l r) ≡ b
      → filter q (a_node l r ∷ attributes_at l h.attributes) ≡ cond b (a_node l r ∷ []) []
  own_filtered q fails b e = λ i. cond (e i) (a_node l r ∷ no_nodes q fails l h.attributes i) (no_nodes q fails l h.attributes i)

  -- the one node with the label
  pub node_is : filter (NodeAt l) (positions t) ≡ head_seen (at l t.documents)
  node_is =
      within_subtree (NodeAt l) l l r h.attributes h.children h.behind t valid h.is (node_test_within (same_label l) l (λ k e. subst (λ z. is_in (side l z) ≡ true) (same_label_is l k e) (ap is_in (side_itself l))))
      ∙ filter_joined (NodeAt l) (a_node l r ∷ attributes_at l h.attributes) (positions_in h.children)
      ∙ (λ i. own_filtered (NodeAt l) (λ k n v. refl) true (same_label_itself l) i ++ none_below i)
      ∙ sym (ap head_seen h.is)
    where
      other : (n : Position) → side l (label_of n) ≡ under → NodeAt l n ≡ false
      other (a_node k s) u = ap is_eq (under_before l k u)
      other (an_attribute k n v) u = refl

      none_below : filter (NodeAt l) (positions_in h.children) ≡ []
      none_below = filter_out (λ n. side l (label_of n) ≡ under) (NodeAt l) other (positions_in h.children) (all_labelled (SideIs l under) l l h.children children_rise (all_under l l h.children children_rise))

  -- its children
  pub children_are : filter (ChildOf l) (positions t) ≡ row_seen (below (at l t.documents))
  children_are =
      within_subtree (ChildOf l) l l r h.attributes h.children h.behind t valid h.is (node_test_within (is_child l) l (λ k e. ap is_in (child_under l k e)))
      ∙ filter_joined (ChildOf l) (a_node l r ∷ attributes_at l h.attributes) (positions_in h.children)
      ∙ (λ i. own_filtered (ChildOf l) (λ k n v. refl) false (no_child_itself l) i ++ row_is l l h.children children_rise i)
      ∙ sym (ap (λ g. row_seen (below g)) h.is)

  -- all nodes from it down
  pub all_are : filter (NodeIn l) (positions t) ≡ tree_seen (at l t.documents)
  all_are =
      filter_both (λ m. is_in (side l (label_of m))) is_node (positions t)
      ∙ ap (filter is_node) (subtree_is l l r h.attributes h.children h.behind t valid h.is)
      ∙ filter_joined is_node (a_node l r ∷ attributes_at l h.attributes) (positions_in h.children)
      ∙ (λ i. own_filtered is_node (λ k n v. refl) true refl i ++ nodes_only h.children i)
      ∙ sym (ap tree_seen h.is)

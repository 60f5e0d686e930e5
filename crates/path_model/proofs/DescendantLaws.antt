-- The descendants of a node are the nodes under its label.
use Rattle.std.proofs.Common.{◌≡◌, Bool, true, false, cond, List, [], ◌∷◌, ◌++◌, refl, ap, ◌∙◌}
use Rattle.std.specs.List.{filter}
use Rattle.dewey_labels.specs.Labels.{Label, root}
use Rattle.dewey_labels.specs.Sides.{side, is_in, is_under, under}
use Rattle.dewey_labels.proofs.Sides.{side_itself, under_is_in}
use Rattle.tree_model.specs.declared.record.Record.{Record}
use Rattle.tree_model.specs.Tree.{Attributes, Forest, none, node, Tree, entries_of, at}
use Rattle.tree_model.specs.inside.FoundNodes.{up}
use Rattle.tree_model.specs.ValidTrees.{IsValidTree}
use Rattle.tree_model.proofs.Found.{Lies, lies}
use Rattle.tree_model.proofs.Split.{SideIs, all_under}
use Rattle.path_model.specs.Axes.{lies_under}
use Rattle.path_model.specs.Positions.{Position, a_node, an_attribute, attributes_at, positions_in, positions, label_of, is_node}
use Rattle.path_model.specs.Programs.{all_seen}
use Rattle.path_model.proofs.OrderLaws.{filter_where}
use Rattle.path_model.proofs.SubtreeLaws.{filter_joined, all_labelled, within_subtree}

-- no attribute is a node
pub no_nodes : (q : Position → Bool) → ((l : Label) (n v : List _) → q (an_attribute l n v) ≡ false) → (l : Label) (ats : Attributes) → filter q (attributes_at l ats) ≡ []
no_nodes q h l [] = refl
no_nodes q h l (a ∷ ats) = ap (λ b. cond b (an_attribute l a.0 a.1 ∷ filter q (attributes_at l ats)) (filter q (attributes_at l ats))) (h l a.0 a.1) ∙ no_nodes q h l ats

pub nodes_only : (f : Forest) → filter is_node (positions_in f) ≡ all_seen f
nodes_only none = refl
nodes_only (node l r ats ch nx) =
    filter_joined is_node ((a_node l r ∷ attributes_at l ats) ++ positions_in ch) (positions_in nx)
    ∙ ap (λ ps. ps ++ filter is_node (positions_in nx)) (filter_joined is_node (a_node l r ∷ attributes_at l ats) (positions_in ch)
    ∙ ap (λ ps. (a_node l r ∷ ps) ++ filter is_node (positions_in ch)) (no_nodes is_node (λ k n v. refl) l ats)
    ∙ ap (λ (ps : List Position). a_node l r ∷ ps) (nodes_only ch))
    ∙ ap (λ ps. (a_node l r ∷ all_seen ch) ++ ps) (nodes_only nx)

-- under the label of a found node lie the nodes below it
pub descendants_are : (l m : Label) (r s : Record) (ats : Attributes) (ch nx : Forest) (t : Tree) → IsValidTree t → at l t.documents ≡ node m s ats ch nx
    → filter (lies_under (a_node l r)) (positions t) ≡ all_seen ch
descendants_are l m r s ats ch nx t w e =
    let z : Lies (up l root t.documents) l s ats ch nx (entries_of t.documents) = lies root root l m s ats ch nx t.documents w.keys e in
    let q : Position → Bool = lies_under (a_node l r) in
    within_subtree q l m s ats ch nx t w e inside
    ∙ filter_joined q (a_node l s ∷ attributes_at l ats) (positions_in ch)
    ∙ ap (λ b. cond b (a_node l s ∷ filter q (attributes_at l ats)) (filter q (attributes_at l ats)) ++ filter q (positions_in ch)) (ap is_under (side_itself l))
    ∙ ap (λ ps. ps ++ filter q (positions_in ch)) (no_nodes q (λ k n v. refl) l ats)
    ∙ filter_where (λ n. side l (label_of n) ≡ under) q is_node (λ n h. under_node n h) (positions_in ch) (all_labelled (SideIs l under) l l ch z.children (all_under l l ch z.children))
    ∙ nodes_only ch
  where
    inside : (n : Position) → lies_under (a_node l r) n ≡ true → is_in (side l (label_of n)) ≡ true
    inside (a_node k x) h = under_is_in (side l k) h
    inside (an_attribute k n v) h = cc

    under_node : (n : Position) → side l (label_of n) ≡ under → lies_under (a_node l r) n ≡ is_node n
    under_node (a_node k x) h = ap is_under h
    under_node (an_attribute k n v) h = refl

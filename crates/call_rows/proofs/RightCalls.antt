-- With their requests the calls that see an edge, or an empty list, keep the first law.
use Rattle.std.proofs.Common.{◌≡◌, true, ◌&&◌, ◌++◌, [], ◌∷◌, Option, None, Some, refl, sym, ap, ◌∙◌}
use Rattle.dewey_labels.specs.Labels.{Label, is_child}
use Rattle.lock_modes.specs.declared.ask.Ask.TheVariants as ask
use Rattle.lock_modes.specs.declared.mode.Mode.TheVariants.{NR, LR}
use Rattle.lock_resources.specs.declared.resource.Side.TheVariants.{First}
use Rattle.lock_resources.specs.declared.resource.Resource.TheVariants.{Node}
use Rattle.lock_resources.specs.Intentions.{request, intentions}
use Rattle.tree_model.specs.declared.reply.Reply.{Reply}
use Rattle.tree_model.specs.declared.reply.Reply.TheVariants.{Place, Places}
use Rattle.tree_model.specs.Keys.{node_key}
use Rattle.tree_model.specs.Entries.{get}
use Rattle.tree_model.specs.Outcomes.{see}
use Rattle.tree_model.specs.Tree.{Forest, none, node, Tree, map_of, at, record_of, first_of, children_of}
use Rattle.tree_model.specs.ValidTrees.{IsValidTree}
use Rattle.tree_model.proofs.WholeTree.{get_node}
use Rattle.tree_cells.specs.Cells.{label_is, node_cell, edge_cell}
use Rattle.tree_cells.specs.Covers.{Agree, reads, reads_from}
use Rattle.tree_cells.specs.Places.{is_at, is_parent, is_at_or_above}
use Rattle.tree_cells.proofs.Coverage.{some_right, and_both, or_first, or_second}
use Rattle.tree_cells.proofs.Edges.{rows_same, found_by_cell}
use Rattle.call_rows.specs.Rows.{row_meaning, asked, at_node, first, children, e}
use Rattle.call_rows.specs.Wrong.{FirstLaw}
use Rattle.call_rows.proofs.LookLaws.{record_same}

-- ---- what was seen of the node

label_same : (o p : Option Label) → label_is o ≡ label_is p → o ≡ p
label_same o p h = cc

same_record : (t u : Tree) → IsValidTree t → IsValidTree u → get (node_key e) (map_of t) ≡ get (node_key e) (map_of u)
    → record_of (at e t.documents) ≡ record_of (at e u.documents)
same_record t u w v h = sym (get_node e t w) ∙ h ∙ get_node e u v

-- a reply that tells one thing of a found node
told : {A : Type 0} (reply : A → Reply) (of : Forest → A) (f g : Forest) → record_of f ≡ record_of g → of f ≡ of g
    → see (λ h. reply (of h)) f ≡ see (λ h. reply (of h)) g
told reply of none none r x = refl
told reply of none (node m s ats ch nx) r x = cc
told reply of (node l r ats ch nx) none s x = cc
told reply of (node l r ats ch nx) (node m s bts dh ny) q x = ap reply x

-- ---- the edge

pub first_keeps : FirstLaw row_meaning (first e)
first_keeps t u w v agree =
    told Place first_of (at e t.documents) (at e u.documents) (same_record t u w v (record_same _ _ (agree (node_cell e) refl)))
    (label_same _ _ (agree (edge_cell e First) refl))

-- ---- the level

level_is_read : (t : Tree) (m : Label) → is_child e m ≡ true → reads (asked (children e) t) (node_cell m) ≡ true
level_is_read t m c =
    some_right (λ r b. reads_from r b (node_cell m)) (at_node e NR ++ intentions (Node e) (ask.Node LR)) (request (Node e) (ask.Node LR) ∷ [])
    (or_first (reads_from (Node e) (ask.Node LR) (node_cell m)) _
    (or_second (is_at e m && true) _ (or_first (is_parent e m && true) (is_at_or_above e m && _) (and_both (is_parent e m) true c refl))))

pub children_keeps : FirstLaw row_meaning (children e)
children_keeps t u w v agree =
    told Places children_of (at e t.documents) (at e u.documents) (same_record t u w v (record_same _ _ (agree (node_cell e) refl)))
    (rows_same e t u w v refl (λ m c. found_by_cell m t u w v (record_same _ _ (agree (node_cell m) (level_is_read t m c)))))

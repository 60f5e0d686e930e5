-- The reading calls keep the laws.
use Rattle.std.proofs.Common.{◌≡◌, not, if◌then◌else◌, [], None, Some, unwrap_or, refl, sym, ap, ◌∙◌}
use Rattle.dewey_labels.specs.Labels.{Label, root, parent}
use Rattle.dewey_labels.proofs.Labels.{is_label-parent}
use Rattle.lock_modes.specs.declared.mode.Mode.TheVariants.{NR, LR, SR}
use Rattle.lock_modes.specs.declared.edge_mode.EdgeMode.TheVariants.{ER}
use Rattle.lock_resources.specs.declared.resource.Side.TheVariants.{First}
use Rattle.lock_resources.specs.declared.resource.Resource.TheVariants.{Node, AttrRoot, Attr, Edge}
use Rattle.tree_model.specs.declared.record.Record.{Record}
use Rattle.tree_model.specs.declared.record.Record.TheVariants.{Document, Element, Text, Attr}
use Rattle.tree_model.specs.declared.reply.Reply.{Reply}
use Rattle.tree_model.specs.declared.reply.Reply.TheVariants.{Refused, Place}
use Rattle.tree_model.specs.declared.refusal.Refusal.TheVariants.{Dom}
use Rattle.tree_model.specs.Names.{Name, is_name}
use Rattle.tree_model.specs.Tree.{Attributes, Forest, none, node, Tree, at, below, labels, record_of, attributes_of, beside, first_of, children_of}
use Rattle.tree_model.specs.ValidTrees.{IsValidTree}
use Rattle.tree_model.specs.Outcomes.{not_supported_err}
use Rattle.tree_model.specs.Navigation.{describe, unless_document, tagged}
use Rattle.tree_model.specs.Attributes.{of_element}
use Rattle.tree_model.specs.Subtrees.{dumped}
use Rattle.tree_model.specs.Documents.{label_or_not_found}
use Rattle.tree_model.proofs.FoundRecords.{no_attr_node}
use Rattle.tree_changes.specs.ValidCalls.{IsValidCall}
use Rattle.tree_cells.proofs.Edges.{rows_same, found_by_cell, neighbour_label}
use Rattle.tree_cells.proofs.SameTrees.{attribute_same, catalogue_same, document_same, alone, subtree_same}
use Rattle.lock_plans.specs.DomPlans.{run}
use Rattle.dom_laws.proofs.Same.{same_asks, same_answers, same_reading, Same}
use Rattle.tree_cells.proofs.Seen.{edge_seen, attribute_seen, attributes_seen, level_seen, tree_seen, row_is, first_is}
use Rattle.dom_laws.proofs.StepLaws.{see_same}
use Rattle.dom_laws.proofs.RecordKinds.{lone, by_record, document_same_kind, element_same_kind}
use Rattle.dom_laws.proofs.StepLaws.{same_see, same_element, same_read_found}
use Rattle.lock_modes.specs.declared.ask.Ask.TheVariants as ask
use Rattle.tree_model.specs.declared.reply.Reply.TheVariants as reply
use Rattle.tree_model.specs.declared.dom_call.DomCall.TheVariants as call

-- ---- documents

pub docs_same : (t u : Tree) → IsValidTree t → IsValidTree u → Same [] t u (run call.Docs t) (run call.Docs u)
docs_same t u w v =
    same_asks [] t u (AttrRoot root) (ask.Node LR) _ _ refl refl
    (λ agree. same_reading _ t u _ _ (ap reply.Names (catalogue_same t u w v (attributes_seen [] root t u agree))))

pub doc_same : (n : Name) → (t u : Tree) → IsValidTree t → IsValidTree u → Same [] t u (run (call.Doc n) t) (run (call.Doc n) u)
doc_same n t u w v =
    same_asks [] t u (Attr root n) (ask.Node NR) _ _ refl refl
    (λ agree. same_reading _ t u _ _ (ap label_or_not_found (document_same n t u w v (attribute_seen [] root n (ask.Node NR) t u refl agree))))

-- ---- one node

described_by : (f : Forest) → describe f ≡ describe (lone (record_of f))
described_by none = refl
described_by (node l r ats ch nx) = refl

pub node_same : (l : Label) → IsValidCall (call.Node l) → (t u : Tree) → IsValidTree t → IsValidTree u → Same [] t u (run (call.Node l) t) (run (call.Node l) u)
node_same l valid t u w v =
    same_see [] l t u w v _ _ valid.labels.0.0 (λ e y z. same_reading _ t u _ _ (by_record describe described_by (at l t.documents) (at l u.documents) e))

pub parent_same : (l : Label) → IsValidCall (call.Parent l) → (t u : Tree) → IsValidTree t → IsValidTree u
    → Same [] t u (run (call.Parent l) t) (run (call.Parent l) u)
parent_same l valid t u w v =
    same_see [] l t u w v _ _ valid.labels.0.0 (λ e y z.
    same_asks _ t u (Node (parent l)) (ask.Node NR) _ _ refl (is_label-parent l valid.labels.0.0) (λ agree.
    same_reading _ t u _ _ (see_same (unless_document (Some (parent l))) (unless_document (Some (parent l))) _ _ y z
    (ap (λ b. if b then Place None else Place (Some (parent l))) (document_same_kind _ _ e)))))

-- ---- edges

pub first_same : (l : Label) → IsValidCall (call.First l) → (t u : Tree) → IsValidTree t → IsValidTree u
    → Same [] t u (run (call.First l) t) (run (call.First l) u)
first_same l valid t u w v =
    same_see [] l t u w v _ _ valid.labels.0.0 (λ e y z.
    same_asks _ t u (Edge l First) (ask.Edge ER) _ _ refl valid.labels.0.0 (λ agree.
    let first : first_of (at l t.documents) ≡ first_of (at l u.documents) = sym (first_is l t w y) ∙ edge_seen _ l First ER t u agree ∙ first_is l u v z in
    same_read_found _ t u _ _ _ _ first (λ m h. neighbour_label l m First t w (first_is l t w y ∙ h)) (λ b.
    same_reading _ t u _ _ (see_same (λ f. Place (first_of f)) (λ f. Place (first_of f)) _ _ y z (ap Place first)))))

-- ---- a level

pub children_same : (l : Label) → IsValidCall (call.Children l) → (t u : Tree) → IsValidTree t → IsValidTree u
    → Same [] t u (run (call.Children l) t) (run (call.Children l) u)
children_same l valid t u w v =
    same_see [] l t u w v _ _ valid.labels.0.0 (λ e y z.
    same_asks _ t u (Node l) (ask.Node LR) _ _ refl valid.labels.0.0 (λ agree.
    let row = rows_same l t u w v valid.labels.0.0 (λ m c. found_by_cell m t u w v (level_seen _ l t u agree m c)) in
    let children : children_of (at l t.documents) ≡ children_of (at l u.documents) = ap labels (sym (row_is l t w y)) ∙ row ∙ ap labels (row_is l u v z) in
    same_reading _ t u _ _ (see_same (λ f. reply.Places (children_of f)) (λ f. reply.Places (children_of f)) _ _ y z (ap reply.Places children))))

-- ---- attributes

pub attr_same : (l : Label) (n : Name) → IsValidCall (call.Attr l n) → (t u : Tree) → IsValidTree t → IsValidTree u
    → Same [] t u (run (call.Attr l n) t) (run (call.Attr l n) u)
attr_same l n valid t u w v =
    same_see [] l t u w v _ _ valid.labels.0.0 (λ e y z.
    same_element _ l t u w v _ _ e (λ et eu.
    same_answers _ t u (not (is_name n)) (not (is_name n)) (reply.Chars []) _ _ refl (λ named _.
    same_asks _ t u (Attr l n) (ask.Node NR) _ _ refl valid.labels.0.0 (λ agree.
    let value = attribute_same l n t u w v y z (attribute_seen _ l n (ask.Node NR) t u refl agree) in
    let kind = element_same_kind _ _ e in
    same_reading _ t u _ _ (see_same answer answer _ _ y z
    (λ i. if kind i then reply.Chars (if is_name n then unwrap_or (value i) [] else []) else Refused (Dom not_supported_err)))))))
  where
    answer : Forest → Reply
    answer f = of_element (reply.Chars (if is_name n then unwrap_or (beside n (attributes_of f)) [] else [])) f

-- ---- subtrees

-- what a tree's fragment is, the trees behind it don't tell
dumped_alone : (l m : Label) (r : Record) (ats : Attributes) (ch nx : Forest) (t : Tree) → IsValidTree t → at l t.documents ≡ node m r ats ch nx
    → dumped (node m r ats ch nx) ≡ dumped (node m r ats ch none)
dumped_alone l m Document ats ch nx t w e = refl
dumped_alone l m (Element n) ats ch nx t w e = refl
dumped_alone l m (Text d) ats ch nx t w e = refl
dumped_alone l m (Attr v) ats ch nx t w e = absurd (no_attr_node l m v ats ch nx t w e)

dumped_is : (l : Label) (t : Tree) → IsValidTree t → dumped (at l t.documents) ≡ dumped (alone (at l t.documents))
dumped_is l t w = by (at l t.documents) refl
  where
    by : (f : Forest) → at l t.documents ≡ f → dumped f ≡ dumped (alone f)
    by none e = refl
    by (node m r ats ch nx) e = dumped_alone l m r ats ch nx t w e

pub dump_same : (l : Label) → IsValidCall (call.Dump l) → (t u : Tree) → IsValidTree t → IsValidTree u → Same [] t u (run (call.Dump l) t) (run (call.Dump l) u)
dump_same l valid t u w v =
    same_see [] l t u w v _ _ valid.labels.0.0 (λ e y z.
    same_asks _ t u (Node l) (ask.Node SR) _ _ refl valid.labels.0.0 (λ agree.
    let one = subtree_same l t u w v y z (tree_seen _ l t u agree) in
    same_reading _ t u _ _ (see_same (λ f. reply.Tree (dumped f)) (λ f. reply.Tree (dumped f)) _ _ y z
    (ap reply.Tree (dumped_is l t w ∙ ap dumped one ∙ sym (dumped_is l u v))))))

tags_alone : (n : Name) (f : Forest) → below f ≡ below (alone f)
tags_alone n none = refl
tags_alone n (node m r ats ch nx) = refl

pub tags_same : (l : Label) (n : Name) → IsValidCall (call.Tags l n) → (t u : Tree) → IsValidTree t → IsValidTree u
    → Same [] t u (run (call.Tags l n) t) (run (call.Tags l n) u)
tags_same l n valid t u w v =
    same_see [] l t u w v _ _ valid.labels.0.0 (λ e y z.
    same_asks _ t u (Node l) (ask.Node SR) _ _ refl valid.labels.0.0 (λ agree.
    let one = subtree_same l t u w v y z (tree_seen _ l t u agree) in
    same_reading _ t u _ _ (see_same answer answer _ _ y z
    (ap (λ g. reply.Places (tagged n g)) (tags_alone n (at l t.documents) ∙ ap below one ∙ sym (tags_alone n (at l u.documents)))))))
  where
    answer : Forest → Reply
    answer f = reply.Places (tagged n (below f))

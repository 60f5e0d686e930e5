-- Further reading calls keep the laws.
use Rattle.std.proofs.Common.{◌≡◌, ℕ, false, not, if◌then◌else◌, List, [], Option, None, Some, is_some, refl, sym, ap, ◌∙◌}
use Rattle.dewey_labels.specs.Labels.{Label}
use Rattle.lock_modes.specs.declared.mode.Mode.TheVariants.{NR, LR, SR}
use Rattle.lock_modes.specs.declared.edge_mode.EdgeMode.TheVariants.{ER}
use Rattle.lock_resources.specs.declared.resource.Side.TheVariants.{Last, Next, Prev}
use Rattle.lock_resources.specs.declared.resource.Resource.TheVariants.{Node, AttrRoot, Attr, Edge}
use Rattle.tree_model.specs.declared.record.Record.TheVariants.{Document, Element, Text, Attr as AttrRecord}
use Rattle.tree_model.specs.declared.reply.Reply.{Reply}
use Rattle.tree_model.specs.declared.reply.Reply.TheVariants.{Refused, Place}
use Rattle.tree_model.specs.declared.refusal.Refusal.TheVariants.{Dom}
use Rattle.tree_model.specs.Names.{Name, is_name}
use Rattle.tree_model.specs.Tree.{Forest, none, node, Tree, at, record_of, attributes_of, beside, last_child_of, next_of, prev_of}
use Rattle.tree_model.specs.Outcomes.{see, not_supported_err}
use Rattle.tree_model.specs.NodeKinds.{is_document, is_element}
use Rattle.tree_model.specs.ValidTrees.{IsValidTree}
use Rattle.tree_model.specs.Navigation.{unless_document}
use Rattle.tree_model.specs.Attributes.{of_element}
use Rattle.tree_model.specs.Texts.{content, of_text, is_past}
use Rattle.tree_changes.specs.ValidCalls.{IsValidCall}
use Rattle.tree_cells.proofs.Edges.{neighbour_label}
use Rattle.tree_cells.proofs.SameTrees.{attribute_same, attributes_same, alone, subtree_same}
use Rattle.lock_plans.specs.DomPlans.{data_of, run}
use Rattle.dom_laws.proofs.Same.{same_asks, same_answers, same_reading, Same}
use Rattle.tree_cells.proofs.Seen.{edge_seen, attribute_seen, attributes_seen, tree_seen, last_is}
use Rattle.dom_laws.proofs.StepLaws.{see_same}
use Rattle.dom_laws.proofs.RecordKinds.{lone, by_record, document_same_kind, element_same_kind, data_same}
use Rattle.dom_laws.proofs.StepLaws.{same_see, same_element, same_text, same_read_found}
use Rattle.lock_modes.specs.declared.ask.Ask.TheVariants as ask
use Rattle.tree_model.specs.declared.reply.Reply.TheVariants as reply
use Rattle.tree_model.specs.declared.dom_call.DomCall.TheVariants as call

-- ---- edges

pub last_same : (l : Label) → IsValidCall (call.Last l) → (t u : Tree) → IsValidTree t → IsValidTree u → Same [] t u (run (call.Last l) t) (run (call.Last l) u)
last_same l valid t u w v =
    same_see [] l t u w v _ _ valid.labels.0.0 (λ e y z.
    same_asks _ t u (Edge l Last) (ask.Edge ER) _ _ refl valid.labels.0.0 (λ agree.
    let last : last_child_of (at l t.documents) ≡ last_child_of (at l u.documents) = sym (last_is l t w y) ∙ edge_seen _ l Last ER t u agree
    ∙ last_is l u v z in
    same_read_found _ t u _ _ _ _ last (λ m h. neighbour_label l m Last t w (last_is l t w y ∙ h)) (λ b.
    same_reading _ t u _ _ (see_same (λ f. Place (last_child_of f)) (λ f. Place (last_child_of f)) _ _ y z (ap Place last)))))

pub next_same : (l : Label) → IsValidCall (call.Next l) → (t u : Tree) → IsValidTree t → IsValidTree u → Same [] t u (run (call.Next l) t) (run (call.Next l) u)
next_same l valid t u w v =
    same_see [] l t u w v _ _ valid.labels.0.0 (λ e y z.
    same_answers _ t u (is_document (at l t.documents)) (is_document (at l u.documents)) (Place None) _ _ (document_same_kind _ _ e) (λ _ _.
    same_asks _ t u (Edge l Next) (ask.Edge ER) _ _ refl valid.labels.0.0 (λ agree.
    let next : next_of (at l t.documents) ≡ next_of (at l u.documents) = edge_seen _ l Next ER t u agree in
    let kind = document_same_kind (at l t.documents) (at l u.documents) e in
    same_read_found _ t u _ _ _ _ next (λ m h. neighbour_label l m Next t w h) (λ b.
    same_reading _ t u _ _ (see_same answer answer _ _ y z (λ i. if kind i then Place None else Place (next i)))))))
  where
    answer : Forest → Reply
    answer f = unless_document (next_of f) f

pub prev_same : (l : Label) → IsValidCall (call.Prev l) → (t u : Tree) → IsValidTree t → IsValidTree u → Same [] t u (run (call.Prev l) t) (run (call.Prev l) u)
prev_same l valid t u w v =
    same_see [] l t u w v _ _ valid.labels.0.0 (λ e y z.
    same_answers _ t u (is_document (at l t.documents)) (is_document (at l u.documents)) (Place None) _ _ (document_same_kind _ _ e) (λ _ _.
    same_asks _ t u (Edge l Prev) (ask.Edge ER) _ _ refl valid.labels.0.0 (λ agree.
    let prev : prev_of None l t.documents ≡ prev_of None l u.documents = edge_seen _ l Prev ER t u agree in
    let kind = document_same_kind (at l t.documents) (at l u.documents) e in
    same_read_found _ t u _ _ _ _ prev (λ m h. neighbour_label l m Prev t w h) (λ b.
    same_reading _ t u _ _ (see_same (answer (prev_of None l t.documents)) (answer (prev_of None l u.documents)) _ _ y z
    (λ i. if kind i then Place None else Place (prev i)))))))
  where
    answer : Option Label → Forest → Reply
    answer o f = unless_document o f

-- ---- attributes

pub has_attr_same : (l : Label) (n : Name) → IsValidCall (call.HasAttr l n) → (t u : Tree) → IsValidTree t → IsValidTree u
    → Same [] t u (run (call.HasAttr l n) t) (run (call.HasAttr l n) u)
has_attr_same l n valid t u w v =
    same_see [] l t u w v _ _ valid.labels.0.0 (λ e y z.
    same_element _ l t u w v _ _ e (λ et eu.
    same_answers _ t u (not (is_name n)) (not (is_name n)) (reply.Flag false) _ _ refl (λ named _.
    same_asks _ t u (Attr l n) (ask.Node NR) _ _ refl valid.labels.0.0 (λ agree.
    let value = attribute_same l n t u w v y z (attribute_seen _ l n (ask.Node NR) t u refl agree) in
    let kind = element_same_kind (at l t.documents) (at l u.documents) e in
    same_reading _ t u _ _ (see_same answer answer _ _ y z
    (λ i. if kind i then reply.Flag (if is_name n then is_some (value i) else false) else Refused (Dom not_supported_err)))))))
  where
    answer : Forest → Reply
    answer f = of_element (reply.Flag (if is_name n then is_some (beside n (attributes_of f)) else false)) f

pub attrs_same : (l : Label) → IsValidCall (call.Attrs l) → (t u : Tree) → IsValidTree t → IsValidTree u
    → Same [] t u (run (call.Attrs l) t) (run (call.Attrs l) u)
attrs_same l valid t u w v =
    same_see [] l t u w v _ _ valid.labels.0.0 (λ e y z.
    same_answers _ t u (not (is_element (at l t.documents))) (not (is_element (at l u.documents))) (reply.Attrs None) _ _ (ap not (element_same_kind _ _ e))
    (λ _ _.
    same_asks _ t u (AttrRoot l) (ask.Node LR) _ _ refl valid.labels.0.0 (λ agree.
    let values = attributes_same l t u w v y z (attributes_seen _ l t u agree) in
    let kind = element_same_kind (at l t.documents) (at l u.documents) e in
    same_reading _ t u _ _ (see_same answer answer _ _ y z (λ i. reply.Attrs (if kind i then Some (values i) else None))))))
  where
    answer : Forest → Reply
    answer f = reply.Attrs (if is_element f then Some (attributes_of f) else None)

-- ---- subtrees

content_alone : (f : Forest) → content f ≡ content (alone f)
content_alone none = refl
content_alone (node m Document ats ch nx) = refl
content_alone (node m (Element n) ats ch nx) = refl
content_alone (node m (Text d) ats ch nx) = refl
content_alone (node m (AttrRecord v) ats ch nx) = refl

pub text_content_same : (l : Label) → IsValidCall (call.TextContent l) → (t u : Tree) → IsValidTree t → IsValidTree u
    → Same [] t u (run (call.TextContent l) t) (run (call.TextContent l) u)
text_content_same l valid t u w v =
    same_see [] l t u w v _ _ valid.labels.0.0 (λ e y z.
    same_answers _ t u (is_document (at l t.documents)) (is_document (at l u.documents)) reply.Nothing _ _ (document_same_kind _ _ e) (λ _ _.
    same_asks _ t u (Node l) (ask.Node SR) _ _ refl valid.labels.0.0 (λ agree.
    let one = subtree_same l t u w v y z (tree_seen _ l t u agree) in
    same_reading _ t u _ _ (see_same content content _ _ y z
    (content_alone (at l t.documents) ∙ ap content one ∙ sym (content_alone (at l u.documents)))))))

-- ---- characters

module _ (answer : List ℕ → Reply) where
  text_alone : (f : Forest) → see (of_text answer) f ≡ see (of_text answer) (lone (record_of f))
  text_alone none = refl
  text_alone (node m Document ats ch nx) = refl
  text_alone (node m (Element n) ats ch nx) = refl
  text_alone (node m (Text d) ats ch nx) = refl
  text_alone (node m (AttrRecord v) ats ch nx) = refl

pub length_same : (l : Label) → IsValidCall (call.Length l) → (t u : Tree) → IsValidTree t → IsValidTree u
    → Same [] t u (run (call.Length l) t) (run (call.Length l) u)
length_same l valid t u w v =
    same_see [] l t u w v _ _ valid.labels.0.0 (λ e y z.
    same_text _ l t u w v _ _ e (λ _ _. same_reading _ t u _ _ (by_record (see (of_text answer)) (text_alone answer) (at l t.documents) (at l u.documents) e)))
  where
    answer : List ℕ → Reply
    answer d = reply.Number (Rattle.std.proofs.Common.length (Rattle.std.specs.Str.chars d))

pub substring_same : (l : Label) (offset count : ℕ) → IsValidCall (call.Substring l offset count) → (t u : Tree) → IsValidTree t → IsValidTree u
    → Same [] t u (run (call.Substring l offset count) t) (run (call.Substring l offset count) u)
substring_same l offset count valid t u w v =
    same_see [] l t u w v _ _ valid.labels.0.0 (λ e y z.
    same_text _ l t u w v _ _ e (λ _ _.
    same_answers _ t u (is_past offset (data_of (at l t.documents))) (is_past offset (data_of (at l u.documents)))
    (Refused (Dom Rattle.tree_model.specs.Outcomes.index_size_err)) _ _ (ap (is_past offset) (data_same (at l t.documents) (at l u.documents) e)) (λ _ _.
    same_reading _ t u _ _ (by_record (see (of_text answer)) (text_alone answer) (at l t.documents) (at l u.documents) e))))
  where
    answer : List ℕ → Reply
    answer d = if is_past offset d then Refused (Dom Rattle.tree_model.specs.Outcomes.index_size_err) else reply.Chars
        (Rattle.std.proofs.Common.encode_utf8_all (Rattle.std.proofs.Common.take count (Rattle.std.proofs.Common.drop offset (Rattle.std.specs.Str.chars d))))

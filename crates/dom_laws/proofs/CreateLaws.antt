-- `create` on two trees that agree on what it asks for: it goes the same way on both.
use Rattle.std.specs.List.{AllByRecursion}
use Rattle.std.proofs.Common.{◌≡◌, ◌+◌, true, false, not, if◌then◌else◌, nat_lt, List, [], ◌∷◌, ◌++◌, map, None, Some, is_some, is_eq, refl, sym, ap, subst}
use Rattle.std.proofs.Common.{◌∙◌, ⊎_elim}
use Rattle.dewey_labels.specs.Labels.{Label, root, is_child, is_within}
use Rattle.dewey_labels.specs.LabelText.{label_text}
use Rattle.dewey_labels.specs.NewLabels.{first_division}
use Rattle.dewey_labels.proofs.Labels.{child_label}
use Rattle.dewey_labels.proofs.Sides.{under_before}
use Rattle.dewey_labels.proofs.Codes.{child_under, first_of_both, second_of_both}
use Rattle.dewey_labels.proofs.Limits.{within_of_test}
use Rattle.lock_modes.specs.declared.mode.Mode.TheVariants.{NR, SX}
use Rattle.lock_modes.specs.declared.edge_mode.EdgeMode.TheVariants.{EX}
use Rattle.lock_resources.specs.declared.resource.Side.TheVariants.{First, Last, Next}
use Rattle.lock_resources.specs.declared.resource.Resource.TheVariants.{Node, Attr, Edge}
use Rattle.lock_resources.specs.declared.request.Request.{Request}
use Rattle.lock_resources.specs.Intentions.{with_intentions}
use Rattle.tree_model.specs.declared.record.Record.TheVariants.{Document, Attr as AttrRecord}
use Rattle.tree_model.specs.declared.reply.Reply.TheVariants.{Refused, Place}
use Rattle.tree_model.specs.declared.refusal.Refusal.TheVariants.{Dom, DocumentExists, TooDeep, LabelLimit}
use Rattle.tree_model.specs.Limits.{deepest_level}
use Rattle.tree_model.specs.Names.{Name, is_name}
use Rattle.tree_model.specs.Keys.{key_cmp, key_at, node_key}
use Rattle.tree_model.specs.Entries.{changed}
use Rattle.tree_model.specs.Tree.{none, own, entries_of, Tree, map_of, labels, beside, last_label}
use Rattle.tree_model.specs.ValidTrees.{KeysRise, IsValidTree}
use Rattle.tree_model.specs.Fragments.{Fragments, depth, IsValid, is_text_fragment}
use Rattle.tree_model.specs.Graft.{graft, all_within}
use Rattle.tree_model.specs.Outcomes.{refused, invalid_character_err, hierarchy_request_err}
use Rattle.tree_model.specs.Documents.{document_at, with_document, document_label, place_document, create}
use Rattle.tree_model.specs.Changes.{put_change}
use Rattle.tree_model.proofs.Lists.{all_append}
use Rattle.tree_model.proofs.Split.{Labelled, SideIn, tree_in}
use Rattle.tree_model.proofs.Ends.{labels_before}
use Rattle.tree_model.proofs.Grafts.{keys-graft}
use Rattle.tree_model.proofs.Creates.{create_keeps, create_puts}
use Rattle.tree_model.proofs.NewDocuments.{new_document, document_entries}
use Rattle.tree_model.proofs.PutChanges.{changed_puts}
use Rattle.tree_model.proofs.PlaceLaws.{found_or_not}
use Rattle.tree_cells.specs.Cells.{Cell, node_cell, attr_cell, edge_cell}
use Rattle.tree_cells.specs.Covers.{changes_edge_at, writes}
use Rattle.tree_cells.proofs.Coverage.{some_left, writes_left}
use Rattle.tree_cells.proofs.Edges.{in_row, neighbour_child}
use Rattle.tree_cells.proofs.Rows.{last_is as last_in_is}
use Rattle.tree_cells.proofs.SameTrees.{document_same, key_is}
use Rattle.tree_cells.proofs.Insertions.{IsInserted, inserted_with_attribute}
use Rattle.lock_plans.specs.Plans.{ends, in_turn}
use Rattle.lock_plans.specs.DomPlans.{create_steps}
use Rattle.dom_laws.proofs.Same.{Same, same_asks, same_answers}
use Rattle.tree_cells.proofs.Seen.{edge_seen, attribute_seen}
use Rattle.dom_laws.proofs.StepLaws.{not_false}
use Rattle.dom_laws.proofs.Changes.{HasKey, taken, taken_attribute}
use Rattle.dom_laws.proofs.WriteLaws.{no_name}
use Rattle.dom_laws.proofs.Takes.{edge_taken, same_take_left, same_place, row_edge_written}
use Rattle.dom_laws.proofs.AppendLaws.{puts_covered}
use Rattle.dom_laws.proofs.GapChanges.{CoversGap, same_inserted}
use Rattle.lock_modes.specs.declared.ask.Ask.TheVariants as ask
use Rattle.tree_cells.proofs.RowChanges as changes

-- where all tests are passed
created : (n : Name) (f : Fragments) (t : Tree) (new : Label) → is_name n ≡ true → is_text_fragment f ≡ false → is_some (beside n t.catalogue) ≡ false
    → nat_lt deepest_level (1 + depth f) ≡ false → document_label t ≡ Some new → all_within (document_at new f) ≡ true
    → create n f t ≡ (Place (Some new), with_document n new f t)
created n f t new a b c d e h =
    (λ i. if not (a i) then refused (Dom invalid_character_err) t else if b i then refused
    (Dom hierarchy_request_err) t else if c i then refused DocumentExists t else if d i then refused TooDeep t else place_document n f t (e i))
    ∙ ap (λ z. if z then (Place (Some new), with_document n new f t) else refused LabelLimit t) h

-- ---- the new document

record Created (n : Name) (f : Fragments) (new : Label) (t t' : Tree) : Type 0 where
  is_inserted : IsInserted root new t t'
  map : map_of t' ≡ changed (map put_change (document_entries n new f)) (map_of t)
  left : changes.left_of new (labels t.documents) ≡ last_label t.documents
  right : changes.right_of new (labels t.documents) ≡ None

-- a document's entries lie in its label
document_inside : (new : Label) (f : Fragments) → is_child root new ≡ true → all_within (document_at new f) ≡ true → IsValid f
    → AllByRecursion (Labelled (SideIn new)) (entries_of (document_at new f))
document_inside new f c within valid =
    let below : is_child new (new ++ (first_division ∷ [])) ≡ true = Rattle.dewey_labels.proofs.Codes.is_child_append new (first_division ∷ []) refl in
    let keys : KeysRise root root (document_at new f) = (
      c,
      under_before root new (child_under root new c),
      Rattle.dewey_labels.proofs.Limits.within_of_test new (Rattle.dewey_labels.proofs.Codes.first_of_both _ _ within),
      tt,
      keys-graft new new (new ++ (first_division ∷ [])) f none below (under_before new _ (child_under new _ below))
          (Rattle.dewey_labels.proofs.Codes.first_of_both _ _
          (Rattle.dewey_labels.proofs.Codes.second_of_both (Rattle.dewey_labels.specs.Labels.is_within new) _ within)) valid tt tt,
      tt,
    ) in
    all_append (Labelled (SideIn new)) (own new Document [] ++ entries_of (graft (new ++ (first_division ∷ [])) f none)) []
    (tree_in root root new Document [] (graft (new ++ (first_division ∷ [])) f none) none keys) tt

pub no_node_key : (n : Name) → is_name n ≡ true → (m : Label) → is_eq (key_cmp (node_key m) (key_at root n)) ≡ false
no_node_key n h m = ⊎_elim (λ e. absurd (no_name n h (ap (λ k. k.name) (key_is (node_key m) (key_at root n) e)))) (λ e. e)
    (found_or_not (is_eq (key_cmp (node_key m) (key_at root n))))

module _ (n : Name) (f : Fragments) (named : is_name n ≡ true) (valid : IsValid f) where
  created_there : (new : Label) (t : Tree) → IsValidTree t → document_label t ≡ Some new → all_within (document_at new f) ≡ true
      → (create n f t).0 ≡ Place (Some new) → Created n f new t (create n f t).1
  created_there new t w e within reply =
      let is = new_document t new w.keys e in
      let puts : map_of (create n f t).1 ≡ changed (map put_change (document_entries n new f)) (map_of t) = create_puts n f t new w valid reply
      ∙ sym (changed_puts (document_entries n new f) (map_of t)) in
      let before = labels_before root root new t.documents w.keys is.last in
      record {
        is_inserted = inserted_with_attribute root new t (create n f t).1 n (AttrRecord (label_text new)) Document _ w
            (create_keeps n f t w valid) refl is.is_child_of
            (sym (in_row root new t w refl is.is_child_of) ∙ changes.end_not_among new (labels t.documents) before) (no_node_key n named)
            (document_inside new f is.is_child_of within valid) puts;
        map = puts;
        left = changes.end_left new (labels t.documents) before ∙ sym (last_in_is t.documents);
        right = changes.end_right new (labels t.documents) before;
      }

-- an entry of the catalogue that was taken
pub covered : (n : Name) → is_name n ≡ true → (acc : List Request) (y : Cell) → HasKey y (key_at root n)
    → writes (acc ++ with_intentions (Attr root n) (ask.Node SX)) y ≡ true
covered n h acc (node_cell m) e = absurd (no_name n h (sym (ap (λ k. k.name) e)))
covered n h acc (attr_cell m k) e = subst (λ z. writes (acc ++ with_intentions (Attr root n) (ask.Node SX)) (attr_cell z k) ≡ true) (ap (λ k. k.label) e)
    (subst (λ z. writes (acc ++ with_intentions (Attr root n) (ask.Node SX)) (attr_cell root z) ≡ true) (ap (λ k. k.name) e) (taken_attribute acc root n))
covered n h acc (edge_cell m s) e = absurd e

pub create_same : (n : Name) (f : Fragments) → IsValid f → (t u : Tree) → IsValidTree t → IsValidTree u
    → Same [] t u (in_turn (create_steps n f t) (ends (create n f t))) (in_turn (create_steps n f u) (ends (create n f u)))
create_same n f valid t u w v =
    same_answers [] t u (not (is_name n)) (not (is_name n)) (Refused (Dom invalid_character_err)) _ _ refl (λ not_named _.
    same_answers [] t u (is_text_fragment f) (is_text_fragment f) (Refused (Dom hierarchy_request_err)) _ _ refl (λ b _.
    same_asks [] t u (Attr root n) (ask.Node NR) _ _ refl refl (λ agree.
    let document = document_same n t u w v (attribute_seen [] root n (ask.Node NR) t u refl agree) in
    let acc0 : List Request = [] ++ with_intentions (Attr root n) (ask.Node NR) in
    same_answers acc0 t u (is_some (beside n t.catalogue)) (is_some (beside n u.catalogue)) (Refused DocumentExists) _ _ (ap is_some document) (λ ct cu.
    same_answers acc0 t u (nat_lt deepest_level (1 + depth f)) (nat_lt deepest_level (1 + depth f)) (Refused TooDeep) _ _ refl (λ d _.
    same_asks acc0 t u (Attr root n) (ask.Node SX) _ _ refl refl (λ _.
    let acc1 = acc0 ++ with_intentions (Attr root n) (ask.Node SX) in
    same_asks acc1 t u (Edge root Last) (ask.Edge EX) _ _ refl refl (λ agree.
    let last : last_label t.documents ≡ last_label u.documents = edge_seen acc1 root Last EX t u agree in
    let acc2 = acc1 ++ with_intentions (Edge root Last) (ask.Edge EX) in
    let child_of_root : (m : Label) → last_label t.documents ≡ Some m → is_child root m ≡ true = λ m h. neighbour_child root root m Last t w refl refl h in
    same_take_left t u acc2 root _ _ _ _ refl last (λ m h. child_label root m refl (child_of_root m h)) (λ block left _.
    let acc3 = acc2 ++ block in
    same_place t u acc3 (λ new. document_at new f) _ _ _ _ (ap (λ o. Rattle.dewey_labels.specs.NewLabels.new_label root o None) last)
    (λ new h. child_label root new refl (new_document t new w.keys h).is_child_of) (λ new h within agree.
    let acc = acc3 ++ with_intentions (Node new) (ask.Node SX) in
    let hu : document_label u ≡ Some new = ap (λ o. Rattle.dewey_labels.specs.NewLabels.new_label root o None) (sym last) ∙ h in
    let named = not_false (is_name n) not_named in
    let c = (new_document t new w.keys h).is_child_of in
    let rt : (create n f t).0 ≡ Place (Some new) = ap (λ o. o.0) (created n f t new named b ct d h within) in
    let ru : (create n f u).0 ≡ Place (Some new) = ap (λ o. o.0) (created n f u new named b cu d hu within) in
    let pt = created_there n f named valid new t w h within rt in
    let pu = created_there n f named valid new u v hu within ru in
    let gap : CoversGap acc root new (last_label t.documents) None = record {
      tree = λ x inside. taken acc3 new x inside;
      first = λ none. row_edge_written acc3 root new root First refl c refl (left.first none);
      next = λ l some. row_edge_written acc3 root new l Next refl c (child_of_root l some) (left.next l some);
      last = λ _. row_edge_written acc3 root new root Last refl c refl (some_left (changes_edge_at root Last) acc2 block (edge_taken acc1 root Last));
      prev = λ r some. cc;
    } in
    let attribute : (x : Cell) → HasKey x (key_at root n) → writes acc x ≡ true =
    λ x k. writes_left acc3 (with_intentions (Node new) (ask.Node SX)) x
    (writes_left acc2 block x (writes_left acc1 (with_intentions (Edge root Last) (ask.Edge EX)) x (covered n named acc0 x k))) in
    same_inserted acc t u w v agree (create n f t) (create n f u) (create_keeps n f t w valid) (create_keeps n f u v valid)
    (map put_change (document_entries n new f)) pt.map pu.map
    (attribute, puts_covered acc3 new (entries_of (document_at new f)) (document_inside new f c within valid))
    root new (last_label t.documents) None gap pt.is_inserted pu.is_inserted pt.left (pu.left ∙ sym last) pt.right pu.right (rt ∙ sym ru))))))))))

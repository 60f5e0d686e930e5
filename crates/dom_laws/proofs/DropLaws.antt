-- `drop` on two trees that agree on what it asks for: it goes the same way on both.
use Rattle.std.specs.List.{AllByRecursion}
use Rattle.std.proofs.Common.{◌≡◌, true, not, List, [], ◌∷◌, ◌++◌, map, Option, None, Some, is_some, refl, sym, ap, subst, ◌∙◌, true≢false}
use Rattle.dewey_labels.specs.Labels.{Label, root, is_child}
use Rattle.dewey_labels.specs.Sides.{side, is_in}
use Rattle.dewey_labels.proofs.Labels.{child_label}
use Rattle.lock_modes.specs.declared.mode.Mode.TheVariants.{NR, SX}
use Rattle.lock_resources.specs.declared.resource.Side.{Side}
use Rattle.lock_resources.specs.declared.resource.Side.TheVariants.{First, Last, Next, Prev}
use Rattle.lock_resources.specs.declared.resource.Resource.TheVariants.{Node, Attr}
use Rattle.lock_resources.specs.declared.request.Request.{Request}
use Rattle.lock_resources.specs.Intentions.{with_intentions}
use Rattle.tree_model.specs.declared.change.Change.{Change}
use Rattle.tree_model.specs.declared.reply.Reply.TheVariants.{Refused, Nothing}
use Rattle.tree_model.specs.declared.refusal.Refusal.TheVariants.{Dom}
use Rattle.tree_model.specs.Names.{Name}
use Rattle.tree_model.specs.Keys.{key_at}
use Rattle.tree_model.specs.Entries.{changed}
use Rattle.tree_model.specs.Tree.{Tree, map_of, at, beside, next_of, prev_of}
use Rattle.tree_model.specs.ValidTrees.{IsValidTree}
use Rattle.tree_model.specs.Outcomes.{not_found_err}
use Rattle.tree_model.specs.Documents.{without_document, drop_found, drop_document}
use Rattle.tree_model.specs.Changes.{drop_change}
use Rattle.tree_model.proofs.Split.{Labelled, SideIn}
use Rattle.tree_changes.specs.SubtreeEntries.{entries_within}
use Rattle.tree_changes.proofs.EditedMaps.{with_label}
use Rattle.tree_changes.proofs.DocumentLaws.{without_document_keeps, dropped_child, dropped_there, dropped_name, drop_changes}
use Rattle.tree_cells.specs.Cells.{Cell}
use Rattle.tree_cells.specs.Covers.{some_of, changes_row, writes, label_of}
use Rattle.tree_cells.specs.Places.{has_row_of}
use Rattle.tree_cells.proofs.Coverage.{some_left, and_both, writes_left}
use Rattle.tree_cells.proofs.Edges.{neighbour_child}
use Rattle.tree_cells.proofs.SameTrees.{alone, subtree_same, document_same}
use Rattle.tree_cells.proofs.Insertions.{IsInserted, removed_with_attribute, left_is, right_is}
use Rattle.lock_plans.specs.Plans.{ends}
use Rattle.lock_plans.specs.DomPlans.{run, take_document}
use Rattle.dom_laws.proofs.RemoveLaws.{within_same, tree_inside, drops_of, drops_covered, edge_written}
use Rattle.dom_laws.proofs.Same.{Same, same_asks, same_answers}
use Rattle.tree_cells.proofs.Seen.{same_self, attribute_seen, taken_seen, next_of_taken, prev_of_taken}
use Rattle.dom_laws.proofs.StepLaws.{not_false}
use Rattle.dom_laws.proofs.Changes.{HasKey, taken}
use Rattle.dom_laws.proofs.CreateLaws.{no_node_key, covered}
use Rattle.dom_laws.proofs.Takes.{left_grows, same_take_left, same_take_right, parent_taken}
use Rattle.dom_laws.proofs.GapChanges.{CoversGap, same_removed}
use Rattle.lock_modes.specs.declared.ask.Ask.TheVariants as ask
use Rattle.tree_model.specs.declared.dom_call.DomCall.TheVariants as call

-- ---- the tree without a document

module _ (n : Name) (l : Label) (t : Tree) (w : IsValidTree t) (e : beside n t.catalogue ≡ Some l) where
  abbrev changes_of : List Change
  changes_of = record { key = key_at root n; now = None } ∷ drops_of (at l t.documents)

  record GoneDocument : Type 0 where
    is_removed : IsInserted root l (without_document n l t) t
    inside : AllByRecursion (Labelled (SideIn l)) (entries_within (at l t.documents))

  is_gone : GoneDocument
  is_gone = with_label (λ g. map_of (without_document n l t) ≡ changed (record { key = key_at root n; now = None } ∷ drops_of g) (map_of t) → GoneDocument) l t
      (dropped_there n t l w e) (λ r ats ch nx h m.
      let inside = tree_inside l r ats ch nx t w.keys h in
      record {
        is_removed = removed_with_attribute root l t (without_document n l t) n r _ w (without_document_keeps n t l w e) refl (dropped_child n t l w e)
            (dropped_there n t l w e) (no_node_key n (dropped_name n t l w e)) inside m;
        inside =
            subst (λ g. AllByRecursion (Labelled (SideIn l)) (entries_within g)) (sym h) inside;
      }) (drop_changes n t l w e)

-- ---- the call

a_label : (o : Option Label) → is_some o ≡ true → (l : Label) × (o ≡ Some l)
a_label None h = absurd (true≢false (sym h))
a_label (Some l) h = (l, refl)

pub drop_same : (n : Name) (t u : Tree) → IsValidTree t → IsValidTree u → Same [] t u (run (call.Drop n) t) (run (call.Drop n) u)
drop_same n t u w v =
    same_asks [] t u (Attr root n) (ask.Node NR) _ _ refl refl (λ agree.
    let document = document_same n t u w v (attribute_seen [] root n (ask.Node NR) t u refl agree) in
    let acc0 : List Request = [] ++ with_intentions (Attr root n) (ask.Node NR) in
    same_answers acc0 t u (not (is_some (beside n t.catalogue))) (not (is_some (beside n u.catalogue))) (Refused (Dom not_found_err)) _ _
    (ap (λ o. not (is_some o)) document) (λ there_t _.
    same_asks acc0 t u (Attr root n) (ask.Node SX) _ _ refl refl (λ _.
    let one = a_label (beside n t.catalogue) (not_false (is_some (beside n t.catalogue)) there_t) in
    let l = one.0 in
    let et : beside n t.catalogue ≡ Some l = one.1 in
    let eu : beside n u.catalogue ≡ Some l = sym document ∙ et in
    let acc1 = acc0 ++ with_intentions (Attr root n) (ask.Node SX) in
    subst (λ o. Same acc1 t u (take_document o t (ends (drop_found n t o))) (take_document (beside n u.catalogue) u (ends (drop_document n u)))) (sym et)
    (subst (λ o. Same acc1 t u (take_document (Some l) t (ends (drop_found n t (Some l)))) (take_document o u (ends (drop_found n u o)))) (sym eu)
    (let c = dropped_child n t l w et in
    let yo = dropped_there n t l w et in
    let zo = dropped_there n u l v eu in
    same_asks acc1 t u (Node l) (ask.Node SX) _ _ refl (child_label root l refl c) (λ agree.
    let acc2 = acc1 ++ with_intentions (Node l) (ask.Node SX) in
    let whole : alone (at l t.documents) ≡ alone (at l u.documents) = subtree_same l t u w v yo zo (taken_seen acc1 l t u agree) in
    let left : prev_of None l t.documents ≡ prev_of None l u.documents = prev_of_taken acc1 l t u agree in
    let right : next_of (at l t.documents) ≡ next_of (at l u.documents) = next_of_taken acc1 l t u agree in
    let left_child : (m : Label) → prev_of None l t.documents ≡ Some m → is_child root m ≡ true = λ m k. neighbour_child root l m Prev t w refl c k in
    let right_child : (m : Label) → next_of (at l t.documents) ≡ Some m → is_child root m ≡ true = λ m k. neighbour_child root l m Next t w refl c k in
    same_take_left t u acc2 root _ _ _ _ refl left (λ m k. child_label root m refl (left_child m k)) (λ bl hl _.
    same_take_right t u (acc2 ++ bl) root _ _ _ _ refl right (λ m k. child_label root m refl (right_child m k)) (λ br hr agree.
    let acc = (acc2 ++ bl) ++ br in
    let hl2 = left_grows (acc2 ++ bl) br root (prev_of None l t.documents) hl in
    let in_row_of : (m : Label) (s : Side) → has_row_of s m root ≡ true
    → some_of (changes_row m s) acc ≡ true = λ m s k. some_left (changes_row m s) (acc2 ++ bl) br
    (some_left (changes_row m s) acc2 bl (parent_taken acc1 root l (changes_row m s) refl c (and_both (has_row_of s m root) true k refl))) in
    let tree : (x : Cell) → is_in (side l (label_of x)) ≡ true
    → writes acc x ≡ true = λ x inside. writes_left (acc2 ++ bl) br x (writes_left acc2 bl x (taken acc1 l x inside)) in
    let entry : (x : Cell) → HasKey x (key_at root n) → writes acc x ≡ true =
    λ x k. writes_left (acc2 ++ bl) br x
    (writes_left acc2 bl x (writes_left acc1 (with_intentions (Node l) (ask.Node SX)) x (covered n (dropped_name n t l w et) acc0 x k))) in
    let gap : CoversGap acc root l (prev_of None l t.documents) (next_of (at l t.documents)) = record {
      tree = tree;
      first = λ none. edge_written acc root First (hl2.first none) (in_row_of root First (same_self root));
      next = λ m some. edge_written acc m Next (hl2.next m some) (in_row_of m Next (left_child m some));
      last = λ none. edge_written acc root Last (hr.last none) (in_row_of root Last (same_self root));
      prev = λ r some. edge_written acc r Prev (hr.prev r some) (in_row_of r Prev (right_child r some));
    } in
    let wt = without_document_keeps n t l w et in
    let wu = without_document_keeps n u l v eu in
    let gt = is_gone n l t w et in
    let gu = is_gone n l u v eu in
    let cs : List Change = record { key = key_at root n; now = None } ∷ drops_of (at l t.documents) in
    same_removed acc t u w v agree (Nothing, without_document n l t) (Nothing, without_document n l u) wt wu cs (drop_changes n t l w et)
    (drop_changes n u l v eu ∙ ap (λ xs. changed (record { key = key_at root n; now = None } ∷ map drop_change xs) (map_of u))
    (sym (within_same (at l t.documents) (at l u.documents) whole)))
    (entry, drops_covered acc l (entries_within (at l t.documents)) tree gt.inside)
    root l (prev_of None l t.documents) (next_of (at l t.documents)) gap gt.is_removed gu.is_removed
    (sym (left_is root l (without_document n l t) t wt w gt.is_removed)) (sym (left_is root l (without_document n l u) u wu v gu.is_removed) ∙ sym left)
    (sym (right_is root l (without_document n l t) t wt w gt.is_removed)) (sym (right_is root l (without_document n l u) u wu v gu.is_removed) ∙ sym right)
    refl))))))))

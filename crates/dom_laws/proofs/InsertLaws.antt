-- `insert` on two trees that agree on what it asks for: it goes the same way on both.
use Rattle.std.proofs.Common.{◌≡◌, true, false, not, if◌then◌else◌, [], ◌∷◌, ◌++◌, map, None, Some, refl, sym, ap, subst, ◌∙◌}
use Rattle.dewey_labels.specs.Labels.{Label, is_label, is_child, parent}
use Rattle.dewey_labels.specs.NewLabels.{new_label}
use Rattle.dewey_labels.proofs.Labels.{child_label, parent_of_child}
use Rattle.lock_modes.specs.declared.mode.Mode.TheVariants.{SX}
use Rattle.lock_modes.specs.declared.edge_mode.EdgeMode.TheVariants.{EX}
use Rattle.lock_resources.specs.declared.resource.Side.TheVariants.{First, Next, Prev}
use Rattle.lock_resources.specs.declared.resource.Resource.TheVariants.{Node, Edge}
use Rattle.lock_resources.specs.Intentions.{with_intentions}
use Rattle.tree_model.specs.declared.reply.Reply.TheVariants.{Refused, Place}
use Rattle.tree_model.specs.declared.refusal.Refusal.TheVariants.{Dom, TooDeep, LabelLimit}
use Rattle.tree_model.specs.Keys.{node_key}
use Rattle.tree_model.specs.Entries.{changed}
use Rattle.tree_model.specs.Tree.{none, entries_of, Tree, map_of, at, found, labels, prev_of}
use Rattle.tree_model.specs.ValidTrees.{IsValidTree, same_label}
use Rattle.tree_model.specs.Fragments.{Fragments, IsValid}
use Rattle.tree_model.specs.Graft.{graft, all_within}
use Rattle.tree_model.specs.Outcomes.{Outcome, refused, hierarchy_request_err, not_found_err}
use Rattle.tree_model.specs.NodeKinds.{is_document, is_text_node}
use Rattle.tree_model.specs.Edits.{edited}
use Rattle.tree_model.specs.Placing.{has_child, is_too_deep, as_place, insert}
use Rattle.tree_model.specs.Changes.{put_change}
use Rattle.tree_model.specs.Places.{row}
use Rattle.tree_model.proofs.PlaceLaws.{row_keys}
use Rattle.tree_model.proofs.WholeTree.{map_sorted}
use Rattle.tree_changes.proofs.Gaps.{gap_before, StandsBelow, stands_below}
use Rattle.tree_changes.proofs.Cases.{not_false}
use Rattle.tree_changes.proofs.Placements.{inserted_keeps, entries_before}
use Rattle.tree_changes.proofs.EditedMaps.{stretch_changes, before_stretch}
use Rattle.tree_cells.specs.Covers.{some_of, changes_edge_at, writes}
use Rattle.tree_cells.proofs.Coverage.{some_left, and_both}
use Rattle.tree_cells.proofs.Edges.{in_row, edge_is, neighbour_child}
use Rattle.tree_cells.proofs.Rows.{rises}
use Rattle.tree_cells.proofs.Insertions.{IsInserted, inserted_by_puts}
use Rattle.lock_plans.specs.Plans.{ends, in_turn}
use Rattle.lock_plans.specs.DomPlans.{insert_steps}
use Rattle.lock_plans.proofs.InsertOutcome.{tail, here_is}
use Rattle.dom_laws.proofs.Same.{Same, same_asks, same_answers}
use Rattle.tree_cells.proofs.Seen.{same_self, edge_seen}
use Rattle.dom_laws.proofs.RecordKinds.{document_same_kind, text_same_kind}
use Rattle.dom_laws.proofs.StepLaws.{seen_at, same_see}
use Rattle.dom_laws.proofs.Changes.{AreCovered, taken}
use Rattle.dom_laws.proofs.Takes.{edge_taken, same_take_left, same_place, row_edge_written}
use Rattle.dom_laws.proofs.AppendLaws.{is_one, grafted, puts_of, puts_covered}
use Rattle.dom_laws.proofs.RemoveLaws.{is_child_there}
use Rattle.dom_laws.proofs.GapChanges.{CoversGap, same_inserted}
use Rattle.lock_modes.specs.declared.ask.Ask.TheVariants as ask
use Rattle.tree_cells.proofs.RowChanges as changes
use Rattle.lock_plans.specs.Plans as plans

-- ---- a call whose tests are passed

record Before (p c new : Label) (f : Fragments) (t t' : Tree) : Type 0 where
  stays : IsValidTree t'
  is_inserted : IsInserted p new t t'
  map : map_of t' ≡ changed (puts_of new f) (map_of t)
  left : changes.left_of new (labels (row p t)) ≡ prev_of None c t.documents
  right : changes.right_of new (labels (row p t)) ≡ Some c

module _ (p c : Label) (f : Fragments) (i : is_label p ≡ true) (j : is_label c ≡ true) (one : is_one f ≡ true) (valid : IsValid f) where
  stands : (t : Tree) → IsValidTree t → found (at c t.documents) ≡ true → is_child p c ≡ true → StandsBelow p c t
  stands t w there k = stands_below p c t w.keys there (parent_of_child p c i k)

  answered : (new : Label) (t : Tree) → found (at p t.documents) ≡ true → is_text_node (at p t.documents) ≡ false → has_child p c t ≡ true
      → is_document (at p t.documents) ≡ false → is_too_deep p f ≡ false → new_label p (prev_of None c t.documents) (Some c) ≡ Some new
      → all_within (graft new f none) ≡ true → insert p (Some c) f t ≡ (Place (Some new), edited c (graft new f) t)
  answered new t y x h d s e within = here_is p c f t (at p t.documents) y ∙ (λ k. tail p c f t (x k) (h k) (d k) (s k) (e k))
      ∙ ap (λ z. if z then (as_place new, edited c (graft new f) t) else refused LabelLimit t) within

  placed_before : (new : Label) (t : Tree) → IsValidTree t → found (at p t.documents) ≡ true → is_text_node (at p t.documents) ≡ false
      → found (at c t.documents) ≡ true → is_child p c ≡ true → is_document (at p t.documents) ≡ false → is_too_deep p f ≡ false
      → new_label p (prev_of None c t.documents) (Some c) ≡ Some new → all_within (graft new f none) ≡ true
      → Before p c new f t (edited c (graft new f) t)
  placed_before new t w y x there k d s e within =
      let b = stands t w there k in
      let is = gap_before p c t b new e in
      let stays = inserted_keeps p c t w b y new f (Some c) is valid within s (is.before_right c refl) x d in
      let puts : map_of (edited c (graft new f) t) ≡ changed (puts_of new f) (map_of t) =
      stretch_changes [] (entries_of (graft new f none)) t (edited c (graft new f) t) (map_sorted t w) (map_sorted (edited c (graft new f) t) stays)
      (before_stretch c (graft new f) (entries_of (graft new f none)) t there (entries_before new f (at c t.documents))) in
      let g = grafted p new f one is.child within valid in
      let prev : prev_of None c t.documents ≡ Rattle.tree_cells.proofs.Rows.prev_in None c (labels (row p t)) = edge_is p c Prev t w i k in
      let gap = changes.gap_before None p p c new (labels (row p t)) (rises p p (row p t) (row_keys p t w)) (in_row p c t w i k ∙ there)
      (λ m h. is.behind_left m (prev ∙ h)) (is.before_right c refl) in
      record {
        stays = stays;
        is_inserted = inserted_by_puts p new t (edited c (graft new f) t) g.top g.rest w stays i is.child
            (sym (in_row p new t w i is.child) ∙ gap.absent) g.inside
            (puts ∙ ap (λ xs. changed (Rattle.std.proofs.Common.map put_change xs) (map_of t)) g.entries);
        map = puts;
        left = changes.gap_left c new (labels (row p t)) gap ∙ sym prev;
        right = gap.right;
      }

  pub insert_same : (t u : Tree) → IsValidTree t → IsValidTree u
      → Same [] t u (in_turn (insert_steps p c f t) (ends (insert p (Some c) f t))) (in_turn (insert_steps p c f u) (ends (insert p (Some c) f u)))
  insert_same t u w v =
      same_see [] p t u w v _ _ i (λ e y z.
      same_answers (seen_at [] p) t u (is_text_node (at p t.documents)) (is_text_node (at p u.documents)) (Refused (Dom hierarchy_request_err)) _ _
      (text_same_kind _ _ e) (λ xt xu.
      same_answers (seen_at [] p) t u (not (same_label (parent c) p)) (not (same_label (parent c) p)) (Refused (Dom not_found_err)) _ _ refl (λ child _.
      same_see (seen_at [] p) c t u w v _ _ j (λ _ yc zc.
      let acc0 = seen_at (seen_at [] p) c in
      same_answers acc0 t u (is_document (at p t.documents)) (is_document (at p u.documents)) (Refused (Dom hierarchy_request_err)) _ _
      (document_same_kind _ _ e) (λ dt du.
      same_answers acc0 t u (is_too_deep p f) (is_too_deep p f) (Refused TooDeep) _ _ refl (λ s _.
      same_asks acc0 t u (Edge c Prev) (ask.Edge EX) _ _ refl j (λ agree.
      let h = not_false (same_label (parent c) p) child in
      let k = is_child_there p c i j t w h yc in
      let acc1 = acc0 ++ with_intentions (Edge c Prev) (ask.Edge EX) in
      let left : prev_of None c t.documents ≡ prev_of None c u.documents = edge_seen acc0 c Prev EX t u agree in
      let left_child : (m : Label) → prev_of None c t.documents ≡ Some m → is_child p m ≡ true = λ m g. neighbour_child p c m Prev t w i k g in
      same_take_left t u acc1 p _ _ _ _ i left (λ m g. child_label p m i (left_child m g)) (λ block held _.
      let acc2 = acc1 ++ block in
      same_place t u acc2 (plans.grafted f) _ _ _ _ (ap (λ o. new_label p o (Some c)) left)
      (λ new g. child_label p new i (gap_before p c t (stands t w yc k) new g).child) (λ new g within agree.
      let gu : new_label p (prev_of None c u.documents) (Some c) ≡ Some new = ap (λ o. new_label p o (Some c)) (sym left) ∙ g in
      let n = (gap_before p c t (stands t w yc k) new g).child in
      let bt = placed_before new t w y xt yc k dt s g within in
      let bu = placed_before new u v z xu zc k du s gu within in
      let at_ = answered new t y xt (and_both (same_label (parent c) p) (found (at c t.documents)) h yc) dt s g within in
      let au = answered new u z xu (and_both (same_label (parent c) p) (found (at c u.documents)) h zc) du s gu within in
      let tree = grafted p new f one n within valid in
      let acc = acc2 ++ with_intentions (Node new) (ask.Node SX) in
      let prev_taken : some_of (changes_edge_at c Prev) acc2 ≡ true = some_left (changes_edge_at c Prev) acc1 block (edge_taken acc0 c Prev) in
      let gap : CoversGap acc p new (prev_of None c t.documents) (Some c) = record {
        tree = λ x inside. taken acc2 new x inside;
        first = λ none. row_edge_written acc2 p new p First i n (same_self p) (held.first none);
        next = λ l some. row_edge_written acc2 p new l Next i n (left_child l some) (held.next l some);
        last = λ none. cc;
        prev = λ r some. subst (λ q. writes acc (Rattle.tree_cells.specs.Cells.edge_cell q Prev) ≡ true) (Rattle.tree_model.proofs.Found.some_is c r some)
            (row_edge_written acc2 p new c Prev i n k prev_taken);
      } in
      subst (λ (o : Outcome). Same acc t u (ends o) (ends (insert p (Some c) f u))) (sym at_)
      (subst (λ (o : Outcome). Same acc t u (ends (Place (Some new), edited c (graft new f) t)) (ends o)) (sym au)
      (same_inserted acc t u w v agree (Place (Some new), edited c (graft new f) t) (Place (Some new), edited c (graft new f) u) bt.stays bu.stays
      (puts_of new f) bt.map bu.map
      (subst (λ xs. AreCovered acc (Rattle.std.proofs.Common.map put_change xs)) (sym tree.entries)
      (puts_covered acc2 new ((node_key new, tree.top) ∷ tree.rest) tree.inside))
      p new (prev_of None c t.documents) (Some c) gap bt.is_inserted bu.is_inserted bt.left (bu.left ∙ sym left) bt.right bu.right refl)))))))))))

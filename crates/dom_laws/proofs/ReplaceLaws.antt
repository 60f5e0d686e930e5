-- `replace` on two trees that agree on what it asks for: it goes the same way on both.
use Rattle.std.proofs.Common.{◌≡◌, ◌+◌, true, false, not, if◌then◌else◌, ◌&&◌, [], ◌∷◌, ◌++◌, map, None, Some, refl, sym, ap, subst, ◌∙◌, append_assoc}
use Rattle.dewey_labels.specs.Labels.{Label, is_label, is_child, parent}
use Rattle.dewey_labels.specs.Sides.{side, is_in}
use Rattle.dewey_labels.specs.NewLabels.{new_label}
use Rattle.dewey_labels.proofs.Labels.{child_label, parent_of_child}
use Rattle.lock_modes.specs.declared.mode.Mode.TheVariants.{SX}
use Rattle.lock_resources.specs.declared.resource.Side.TheVariants.{First, Last, Next, Prev}
use Rattle.lock_resources.specs.declared.resource.Resource.TheVariants.{Node}
use Rattle.lock_resources.specs.Intentions.{with_intentions}
use Rattle.tree_model.specs.declared.change.Change.{Change}
use Rattle.tree_model.specs.declared.reply.Reply.TheVariants.{Refused}
use Rattle.tree_model.specs.declared.refusal.Refusal.TheVariants.{Dom, TooDeep, LabelLimit}
use Rattle.tree_model.specs.Keys.{node_key}
use Rattle.tree_model.specs.Entries.{changed}
use Rattle.tree_model.specs.Tree.{none, entries_of, Tree, map_of, at, found, behind, labels, next_of, prev_of}
use Rattle.tree_model.specs.ValidTrees.{IsValidTree, same_label}
use Rattle.tree_model.specs.Fragments.{Fragments, IsValid, is_text_fragment}
use Rattle.tree_model.specs.Graft.{graft, all_within}
use Rattle.tree_model.specs.Outcomes.{Outcome, refused, hierarchy_request_err, not_found_err}
use Rattle.tree_model.specs.NodeKinds.{is_document}
use Rattle.tree_model.specs.Edits.{edited}
use Rattle.tree_model.specs.Placing.{has_child, is_too_deep, in_place, replace}
use Rattle.tree_model.specs.Subtrees.{fragment_of}
use Rattle.tree_model.specs.Changes.{put_change, drop_change}
use Rattle.tree_model.specs.Places.{row}
use Rattle.tree_model.proofs.Entries.{changed_append}
use Rattle.tree_model.proofs.Lists.{all_append}
use Rattle.tree_model.proofs.Split.{after_of}
use Rattle.tree_model.proofs.WholeTree.{map_sorted}
use Rattle.tree_model.proofs.PlaceLaws.{row_keys}
use Rattle.tree_changes.specs.SubtreeEntries.{entries_within}
use Rattle.tree_changes.proofs.Cases.{not_false}
use Rattle.tree_changes.proofs.EditedMaps.{prefix_of, edited_map, stretch_changes, IsStretch}
use Rattle.tree_changes.proofs.Placements.{entries_before, removed_keeps, replaced_keeps}
use Rattle.tree_changes.proofs.Gaps.{StandsBelow, stands_below, gap_of}
use Rattle.tree_cells.specs.Cells.{Cell, edge_cell}
use Rattle.tree_cells.specs.Covers.{writes, label_of}
use Rattle.tree_cells.proofs.Coverage.{and_both, writes_left}
use Rattle.tree_cells.proofs.Edges.{in_row, neighbour_child}
use Rattle.tree_cells.proofs.Rows.{rises}
use Rattle.tree_cells.proofs.SameTrees.{alone, subtree_same}
use Rattle.tree_cells.proofs.Insertions.{IsInserted, inserted_by_puts, left_is, right_is, not_among}
use Rattle.lock_plans.specs.Plans.{ends, in_turn}
use Rattle.lock_plans.specs.DomPlans.{replace_steps}
use Rattle.lock_plans.proofs.ReplaceOutcome.{tail, here_is}
use Rattle.dom_laws.proofs.Same.{Same, same_asks, same_answers}
use Rattle.tree_cells.proofs.Seen.{same_self, taken_seen, next_of_taken, prev_of_taken}
use Rattle.dom_laws.proofs.RecordKinds.{document_same_kind}
use Rattle.dom_laws.proofs.StepLaws.{seen_at, same_see}
use Rattle.dom_laws.proofs.Changes.{AreCovered, HasKey, taken}
use Rattle.dom_laws.proofs.Takes.{left_grows, same_take_left, same_take_right, same_place, row_edge_written}
use Rattle.dom_laws.proofs.AppendLaws.{is_one, grafted, puts_of, puts_covered}
use Rattle.dom_laws.proofs.RemoveLaws.{Gone, is_child_there, removed_drops, drops_of, drops_covered, is_gone, fragment_alone, within_same}
use Rattle.dom_laws.proofs.GapChanges.{CoversGap, same_replaced}
use Rattle.lock_modes.specs.declared.ask.Ask.TheVariants as ask
use Rattle.tree_model.specs.declared.reply.Reply.TheVariants as reply
use Rattle.tree_cells.proofs.RowChanges as changes
use Rattle.lock_plans.specs.Plans as plans

-- ---- the laws

record Exchanged (p old new : Label) (f : Fragments) (t t1 t' : Tree) : Type 0 where
  between : IsValidTree t1
  stays : IsValidTree t'
  gone : IsInserted p old t1 t
  come : IsInserted p new t1 t'
  map : map_of t' ≡ changed (drops_of (at old t.documents) ++ puts_of new f) (map_of t)
  old_left : changes.left_of old (labels (row p t1)) ≡ prev_of None old t.documents
  old_right : changes.right_of old (labels (row p t1)) ≡ next_of (at old t.documents)
  new_left : changes.left_of new (labels (row p t1)) ≡ prev_of None old t.documents
  new_right : changes.right_of new (labels (row p t1)) ≡ next_of (at old t.documents)

module _ (p old : Label) (f : Fragments) (i : is_label p ≡ true) (j : is_label old ≡ true) (one : is_one f ≡ true) (valid : IsValid f) where
  stands : (t : Tree) → IsValidTree t → found (at old t.documents) ≡ true → is_child p old ≡ true → StandsBelow p old t
  stands t w there c = stands_below p old t w.keys there (parent_of_child p old i c)

  answered : (new : Label) (t : Tree) → found (at p t.documents) ≡ true → has_child p old t ≡ true
      → (is_document (at p t.documents) && is_text_fragment f) ≡ false → is_too_deep p f ≡ false
      → new_label p (prev_of None old t.documents) (next_of (at old t.documents)) ≡ Some new → all_within (graft new f none) ≡ true
      → replace p old f t ≡ (reply.Replaced new (fragment_of (at old t.documents)), edited old (in_place f new) t)
  answered new t y h d s e within = here_is p old f t (at p t.documents) y ∙ (λ k. tail p old f t (h k) (d k) (s k) (e k))
      ∙ ap (λ z. if z then (reply.Replaced new (fragment_of (at old t.documents)), edited old (in_place f new) t) else refused LabelLimit t) within

  -- the new entries where the old child stood
  come : (new : Label) (t : Tree) → found (at old t.documents) ≡ true
      → IsStretch [] (entries_of (graft new f none)) (edited old behind t) (edited old (in_place f new) t)
  come new t there = record {
    prefix = prefix_of old t;
    suffix = entries_of (behind (at old t.documents)) ++ after_of old t.documents;
    before = edited_map old behind t there;
    after = edited_map old (in_place f new) t there
        ∙ ap (λ es. prefix_of old t ++ (es ++ after_of old t.documents)) (entries_before new f (behind (at old t.documents)))
        ∙ ap (λ es. prefix_of old t ++ es) (append_assoc (entries_of (graft new f none)) (entries_of (behind (at old t.documents))) (after_of old t.documents));
  }

  exchanged : (new : Label) (t : Tree) → IsValidTree t → found (at p t.documents) ≡ true → found (at old t.documents) ≡ true → is_child p old ≡ true
      → (is_document (at p t.documents) && is_text_fragment f) ≡ false → is_too_deep p f ≡ false
      → new_label p (prev_of None old t.documents) (next_of (at old t.documents)) ≡ Some new → all_within (graft new f none) ≡ true
      → Exchanged p old new f t (edited old behind t) (edited old (in_place f new) t)
  exchanged new t w y there c d s e within =
      let t1 = edited old behind t in
      let t2 = edited old (in_place f new) t in
      let b = stands t w there c in
      let gap = gap_of p old t b new e in
      let w1 = removed_keeps p old t w b y in
      let w2 = replaced_keeps p old t w b y new f (next_of (at old t.documents)) gap valid within s gap.before_right d in
      let drops = removed_drops old t w w1 there in
      let gone : Gone p old t t1 = is_gone p old i j t t1 w w1 c there drops in
      let left = left_is p old t1 t w1 w gone.is_removed in
      let right = right_is p old t1 t w1 w gone.is_removed in
      let puts : map_of t2 ≡ changed (puts_of new f) (map_of t1) = stretch_changes [] (entries_of (graft new f none)) t1 t2 (map_sorted t1 w1)
      (map_sorted t2 w2) (come new t there) in
      let g = grafted p new f one gap.child within valid in
      let same = changes.gap_between p p old new (labels (row p t1)) (rises p p (row p t1) (row_keys p t1 w1)) (not_among p old t1 t w1 w gone.is_removed)
      (λ m h. gap.behind_left m (left ∙ h)) (λ m h. gap.before_right m (right ∙ h)) in
      record {
        between = w1;
        stays = w2;
        gone = gone.is_removed;
        come = inserted_by_puts p new t1 t2 g.top g.rest w1 w2 i gap.child (sym (in_row p new t1 w1 i gap.child) ∙ same.absent) g.inside
            (puts ∙ ap (λ xs. changed (Rattle.std.proofs.Common.map put_change xs) (map_of t1)) g.entries);
        map = puts ∙ ap (changed (puts_of new f)) drops ∙ sym (changed_append (drops_of (at old t.documents)) (puts_of new f) (map_of t));
        old_left = sym left;
        old_right = sym right;
        new_left = same.left ∙ sym left;
        new_right = same.right ∙ sym right;
      }

  pub replace_same : (t u : Tree) → IsValidTree t → IsValidTree u
      → Same [] t u (in_turn (replace_steps p old f t) (ends (replace p old f t))) (in_turn (replace_steps p old f u) (ends (replace p old f u)))
  replace_same t u w v =
      same_see [] p t u w v _ _ i (λ e y z.
      same_answers (seen_at [] p) t u (not (same_label (parent old) p)) (not (same_label (parent old) p)) (Refused (Dom not_found_err)) _ _ refl (λ child _.
      same_see (seen_at [] p) old t u w v _ _ j (λ _ yo zo.
      let acc1 = seen_at (seen_at [] p) old in
      same_answers acc1 t u (is_document (at p t.documents) && is_text_fragment f) (is_document (at p u.documents) && is_text_fragment f)
      (Refused (Dom hierarchy_request_err)) _ _ (ap (λ b. b && is_text_fragment f) (document_same_kind (at p t.documents) (at p u.documents) e)) (λ dt du.
      same_answers acc1 t u (is_too_deep p f) (is_too_deep p f) (Refused TooDeep) _ _ refl (λ s _.
      same_asks acc1 t u (Node old) (ask.Node SX) _ _ refl j (λ agree.
      let acc2 = acc1 ++ with_intentions (Node old) (ask.Node SX) in
      let h = not_false (same_label (parent old) p) child in
      let c = is_child_there p old i j t w h yo in
      let whole : alone (at old t.documents) ≡ alone (at old u.documents) = subtree_same old t u w v yo zo (taken_seen acc1 old t u agree) in
      let left : prev_of None old t.documents ≡ prev_of None old u.documents = prev_of_taken acc1 old t u agree in
      let right : next_of (at old t.documents) ≡ next_of (at old u.documents) = next_of_taken acc1 old t u agree in
      let left_child : (m : Label) → prev_of None old t.documents ≡ Some m → is_child p m ≡ true = λ m k. neighbour_child p old m Prev t w i c k in
      let right_child : (m : Label) → next_of (at old t.documents) ≡ Some m → is_child p m ≡ true = λ m k. neighbour_child p old m Next t w i c k in
      let labels_same : new_label p (prev_of None old t.documents) (next_of (at old t.documents)) ≡ new_label p (prev_of None old u.documents)
      (next_of (at old u.documents)) = λ k. new_label p (left k) (right k) in
      same_take_left t u acc2 p _ _ _ _ i left (λ m k. child_label p m i (left_child m k)) (λ bl hl _.
      same_take_right t u (acc2 ++ bl) p _ _ _ _ i right (λ m k. child_label p m i (right_child m k)) (λ br hr _.
      let acc4 = (acc2 ++ bl) ++ br in
      let hl2 = left_grows (acc2 ++ bl) br p (prev_of None old t.documents) hl in
      same_place t u acc4 (plans.grafted f) _ _ _ _ labels_same (λ new g. child_label p new i (gap_of p old t (stands t w yo c) new g).child)
      (λ new g within agree.
      let gu = sym labels_same ∙ g in
      let n = (gap_of p old t (stands t w yo c) new g).child in
      let et = exchanged new t w y yo c dt s g within in
      let eu = exchanged new u v z zo c du s gu within in
      let at_ = answered new t y (and_both (same_label (parent old) p) (found (at old t.documents)) h yo) dt s g within in
      let au = answered new u z (and_both (same_label (parent old) p) (found (at old u.documents)) h zo) du s gu within in
      let acc = acc4 ++ with_intentions (Node new) (ask.Node SX) in
      let tree_new : (x : Cell) → is_in (side new (label_of x)) ≡ true → writes acc x ≡ true = λ x inside. taken acc4 new x inside in
      let tree_old : (x : Cell) → is_in (side old (label_of x)) ≡ true
      → writes acc x ≡ true = λ x inside. writes_left acc4 (with_intentions (Node new) (ask.Node SX)) x
      (writes_left (acc2 ++ bl) br x (writes_left acc2 bl x (taken acc1 old x inside))) in
      let edge_first : prev_of None old t.documents ≡ None → writes acc (edge_cell p First) ≡ true =
      λ none. row_edge_written acc4 p new p First i n (same_self p) (hl2.first none) in
      let edge_next : (l : Label) → prev_of None old t.documents ≡ Some l
      → writes acc (edge_cell l Next) ≡ true = λ l some. row_edge_written acc4 p new l Next i n (left_child l some) (hl2.next l some) in
      let edge_last : next_of (at old t.documents) ≡ None → writes acc (edge_cell p Last) ≡ true =
      λ none. row_edge_written acc4 p new p Last i n (same_self p) (hr.last none) in
      let edge_prev : (r : Label) → next_of (at old t.documents) ≡ Some r
      → writes acc (edge_cell r Prev) ≡ true = λ r some. row_edge_written acc4 p new r Prev i n (right_child r some) (hr.prev r some) in
      let gap_old : CoversGap acc p old (prev_of None old t.documents) (next_of (at old t.documents)) =
      record { tree = tree_old; first = edge_first; next = edge_next; last = edge_last; prev = edge_prev } in
      let gap_new : CoversGap acc p new (prev_of None old t.documents) (next_of (at old t.documents)) =
      record { tree = tree_new; first = edge_first; next = edge_next; last = edge_last; prev = edge_prev } in
      let graft_at = grafted p new f one n within valid in
      let gone = is_gone p old i j t (edited old behind t) w et.between c yo (removed_drops old t w et.between yo) in
      let puts_in : AreCovered acc (puts_of new f) = subst (λ xs. AreCovered acc (Rattle.std.proofs.Common.map put_change xs)) (sym graft_at.entries)
      (puts_covered acc4 new ((node_key new, graft_at.top) ∷ graft_at.rest) graft_at.inside) in
      let all_in : AreCovered acc (drops_of (at old t.documents) ++ puts_of new f) =
      all_append (λ (k : Change). (x : Cell) → HasKey x k.key → writes acc x ≡ true) (drops_of (at old t.documents)) (puts_of new f)
      (drops_covered acc old (entries_within (at old t.documents)) tree_old gone.inside) puts_in in
      let drops_same : changed (drops_of (at old u.documents) ++ puts_of new f) (map_of u) ≡ changed (drops_of (at old t.documents) ++ puts_of new f)
      (map_of u) = ap (λ xs. changed (Rattle.std.proofs.Common.map drop_change xs ++ puts_of new f) (map_of u))
      (sym (within_same (at old t.documents) (at old u.documents) whole)) in
      subst (λ (o : Outcome). Same acc t u (ends o) (ends (replace p old f u))) (sym at_)
      (subst (λ (o : Outcome). Same acc t u (ends (reply.Replaced new (fragment_of (at old t.documents)), edited old (in_place f new) t)) (ends o)) (sym au)
      (same_replaced acc t u w v agree (reply.Replaced new (fragment_of (at old t.documents)), edited old (in_place f new) t)
      (reply.Replaced new (fragment_of (at old u.documents)), edited old (in_place f new) u) et.stays eu.stays
      (drops_of (at old t.documents) ++ puts_of new f) et.map (eu.map ∙ drops_same) all_in
      p old new (prev_of None old t.documents) (next_of (at old t.documents)) gap_old gap_new (edited old behind t)
      (edited old behind u) et.between eu.between et.gone eu.gone et.come eu.come
      et.old_left (eu.old_left ∙ sym left) et.old_right (eu.old_right ∙ sym right) et.new_left (eu.new_left ∙ sym left) et.new_right (eu.new_right ∙ sym right)
      (ap (reply.Replaced new) (fragment_alone old t w ∙ ap fragment_of whole ∙ sym (fragment_alone old u v))))))))))))))

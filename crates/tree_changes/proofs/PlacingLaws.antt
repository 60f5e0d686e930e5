-- `append`, `insert`, `replace` and `remove`: each keeps a valid tree valid, and puts or deletes the entries of the subtrees that come or go.
use Rattle.std.proofs.Common.{◌≡◌, true, false, not, if◌then◌else◌, ◌&&◌, ◌||◌, [], ◌++◌, map, Option, None, Some, refl, ap, subst, ◌∙◌, append-nil, true≢false}
use Rattle.dewey_labels.specs.Labels.{Label}
use Rattle.dewey_labels.specs.NewLabels.{new_label}
use Rattle.tree_model.specs.declared.record.Record.{Record}
use Rattle.tree_model.specs.declared.refusal.Refusal.{Refusal}
use Rattle.tree_model.specs.declared.refusal.Refusal.TheVariants.{Dom, TooDeep, LabelLimit}
use Rattle.tree_model.specs.declared.reply.Reply.{Reply}
use Rattle.tree_model.specs.declared.reply.Reply.TheVariants.{Place, Replaced}
use Rattle.tree_model.specs.declared.fragment.Fragment.{Fragment}
use Rattle.tree_model.specs.Changes.{put_change, drop_change, differences}
use Rattle.tree_model.specs.Entries.{Entries, changed}
use Rattle.tree_model.specs.Tree.{Attributes, Forest, none, node, entries_of, Tree, map_of, at, found, behind, last_label, next_of, prev_of}
use Rattle.tree_model.specs.ValidTrees.{IsValidTree}
use Rattle.tree_model.specs.Fragments.{Fragments, IsValid, is_text_fragment}
use Rattle.tree_model.specs.Graft.{graft, all_within}
use Rattle.tree_model.specs.NodeKinds.{is_document, is_text_node}
use Rattle.tree_model.specs.Outcomes.{Outcome, refused, is_refused, hierarchy_request_err, not_found_err}
use Rattle.tree_model.specs.Edits.{edited}
use Rattle.tree_model.specs.Subtrees.{fragment_of}
use Rattle.tree_model.specs.Placing.{is_full, is_too_deep, place, as_place, with_last, append_to, append, has_child, insert_into, insert, in_place, replace_in}
use Rattle.tree_model.specs.Placing.{replace, remove_from, remove}
use Rattle.tree_model.proofs.Appends.{append_keeps}
use Rattle.tree_model.proofs.WholeTree.{map_sorted}
use Rattle.tree_changes.specs.SubtreeEntries.{entries_within}
use Rattle.tree_changes.proofs.Cases.{not_false, on_test, on_node}
use Rattle.tree_changes.proofs.EditedMaps.{IsStretch, stretch_differences, stretch_changes, differences_from_none, with_label, tree_stretch, last_stretch}
use Rattle.tree_changes.proofs.EditedMaps.{before_stretch}
use Rattle.tree_changes.proofs.Gaps.{child_stands, gap_before, gap_of}
use Rattle.tree_changes.proofs.Placements.{entries_before, removed_keeps, inserted_keeps, replaced_keeps}
use Rattle.tree_model.specs.declared.reply.Reply.TheVariants as reply

-- a fragment at a new label, unless one of its labels passes a limit
pub on_place : (P : Outcome → Type 0) (f : Fragments) (o : Option Label) (change : Label → Forest → Forest) (answer : Label → Reply) (l : Label) (t : Tree)
    → P (refused LabelLimit t) → ((new : Label) → o ≡ Some new → all_within (graft new f none) ≡ true → P (answer new, edited l (change new) t))
    → P (place f o change answer l t)
on_place P f None change answer l t out done = out
on_place P f (Some new) change answer l t out done = on_test P (all_within (graft new f none)) (answer new, edited l (change new) t) (refused LabelLimit t)
    (λ within. done new refl within) (λ _. out)

-- what comes is put, and what goes is deleted
come_differences : (new : Entries) (t u : Tree) → IsValidTree t → IsValidTree u → IsStretch [] new t u → differences (map_of t) (map_of u) ≡ map put_change new
come_differences new t u w v s = stretch_differences [] new t u w v s ∙ differences_from_none new

come_changes : (new : Entries) (t u : Tree) → IsValidTree t → IsValidTree u → IsStretch [] new t u → map_of u ≡ changed (map put_change new) (map_of t)
come_changes new t u w v s = stretch_changes [] new t u (map_sorted t w) (map_sorted u v) s

-- a subtree taken out
pub removed_stretch : (l : Label) (t : Tree) → found (at l t.documents) ≡ true → IsStretch (entries_within (at l t.documents)) [] t (edited l behind t)
removed_stretch l t y = with_label (λ g. IsStretch (entries_within g) [] t (edited l behind t)) l t y
    (λ r ats ch nx e. tree_stretch l behind t r ats ch nx e [] refl)

-- ---- `append`

module _ (p : Label) (f : Fragments) (t : Tree) where
  -- refused, or placed behind the last child
  pub on_append : (P : Outcome → Type 0) → ((why : Refusal) → P (refused why t))
      → ((r : Record) (ats : Attributes) (ch nx : Forest) (new : Label) → at p t.documents ≡ node p r ats ch nx
      → (is_text_node (node p r ats ch nx) || is_full f (node p r ats ch nx)) ≡ false → is_too_deep p f ≡ false
      → new_label p (last_label ch) None ≡ Some new → all_within (graft new f none) ≡ true → P (Place (Some new), edited p (with_last f new) t))
      → P (append p f t)
  on_append P out done = on_node P p t (append_to p f t) (out (Dom not_found_err)) (λ r ats ch nx e.
      let placed : Outcome = place f (new_label p (last_label ch) None) (with_last f) as_place p t in
      on_test P (is_text_node (node p r ats ch nx) || is_full f (node p r ats ch nx)) (refused (Dom hierarchy_request_err) t)
      (if is_too_deep p f then refused TooDeep t else placed) (λ _. out (Dom hierarchy_request_err)) (λ taken.
      on_test P (is_too_deep p f) (refused TooDeep t) placed (λ _. out TooDeep) (λ shallow.
      on_place P f (new_label p (last_label ch) None) (with_last f) as_place p t (out LabelLimit)
      (λ new label within. done r ats ch nx new e taken shallow label within))))

  pub append_differences : IsValidTree t → IsValid f → (new : Label) → (append p f t).0 ≡ Place (Some new)
      → differences (map_of t) (map_of (append p f t).1) ≡ map put_change (entries_of (graft new f none))
  append_differences w valid new =
      on_append (λ o. IsValidTree o.1 → o.0 ≡ Place (Some new) → differences (map_of t) (map_of o.1) ≡ map put_change (entries_of (graft new f none)))
      (λ why v h. cc)
      (λ r ats ch nx k e taken shallow label within v h. let is : k ≡ new = cc in
      come_differences (entries_of (graft k f none)) t (edited p (with_last f k) t) w v (last_stretch p (with_last f k) t r ats ch nx e (graft k f none) refl)
      ∙ ap (λ z. map put_change (entries_of (graft z f none))) is)
      (append_keeps p f t w valid)

-- ---- `insert` before a child

module _ (p c : Label) (f : Fragments) (t : Tree) where
  pub on_insert : (P : Outcome → Type 0) → ((why : Refusal) → P (refused why t))
      → ((new : Label) → found (at p t.documents) ≡ true → is_text_node (at p t.documents) ≡ false → has_child p c t ≡ true
      → is_document (at p t.documents) ≡ false → is_too_deep p f ≡ false → new_label p (prev_of None c t.documents) (Some c) ≡ Some new
      → all_within (graft new f none) ≡ true → P (Place (Some new), edited c (graft new f) t))
      → P (insert p (Some c) f t)
  on_insert P out done = on_node P p t (insert_into p c f t) (out (Dom not_found_err)) (λ r ats ch nx e.
      let g = node p r ats ch nx in
      let placed : Outcome = place f (new_label p (prev_of None c t.documents) (Some c)) (λ new. graft new f) as_place c t in
      let deep : Outcome = if is_too_deep p f then refused TooDeep t else placed in
      let kind : Outcome = if is_document g then refused (Dom hierarchy_request_err) t else deep in
      on_test P (is_text_node g) (refused (Dom hierarchy_request_err) t) (if not (has_child p c t) then refused (Dom not_found_err) t else kind)
      (λ _. out (Dom hierarchy_request_err)) (λ no_text.
      on_test P (not (has_child p c t)) (refused (Dom not_found_err) t) kind (λ _. out (Dom not_found_err)) (λ child.
      on_test P (is_document g) (refused (Dom hierarchy_request_err) t) deep (λ _. out (Dom hierarchy_request_err)) (λ no_document.
      on_test P (is_too_deep p f) (refused TooDeep t) placed (λ _. out TooDeep) (λ shallow.
      on_place P f (new_label p (prev_of None c t.documents) (Some c)) (λ new. graft new f) as_place c t (out LabelLimit)
      (λ new label within. done new (ap found e) (ap is_text_node e ∙ no_text) (not_false (has_child p c t) child)
      (ap is_document e ∙ no_document) shallow label within))))))

  pub insert_keeps : IsValidTree t → IsValid f → IsValidTree (insert p (Some c) f t).1
  insert_keeps w valid = on_insert (λ o. IsValidTree o.1) (λ why. w) (λ new y no_text child no_document shallow label within.
      let s = child_stands p c t w.keys child in
      let gap = gap_before p c t s new label in
      inserted_keeps p c t w s y new f (Some c) gap valid within shallow (gap.before_right c refl) no_text no_document)

  pub insert_stretch : (new : Label) → (insert p (Some c) f t).0 ≡ Place (Some new) → IsValidTree t
      → IsStretch [] (entries_of (graft new f none)) t (insert p (Some c) f t).1
  insert_stretch new = on_insert (λ o. o.0 ≡ Place (Some new) → IsValidTree t → IsStretch [] (entries_of (graft new f none)) t o.1) (λ why h. cc)
      (λ k y no_text child no_document shallow label within h w. let is : k ≡ new = cc in
      subst (λ z. IsStretch [] (entries_of (graft z f none)) t (edited c (graft k f) t)) is
      (before_stretch c (graft k f) (entries_of (graft k f none)) t (child_stands p c t w.keys child).there (entries_before k f (at c t.documents))))

  pub insert_changes : IsValidTree t → IsValid f → (new : Label) → (insert p (Some c) f t).0 ≡ Place (Some new)
      → map_of (insert p (Some c) f t).1 ≡ changed (map put_change (entries_of (graft new f none))) (map_of t)
  insert_changes w valid new h = come_changes (entries_of (graft new f none)) t (insert p (Some c) f t).1 w (insert_keeps w valid) (insert_stretch new h w)

  pub insert_differences : IsValidTree t → IsValid f → (new : Label) → (insert p (Some c) f t).0 ≡ Place (Some new)
      → differences (map_of t) (map_of (insert p (Some c) f t).1) ≡ map put_change (entries_of (graft new f none))
  insert_differences w valid new h = come_differences (entries_of (graft new f none)) t (insert p (Some c) f t).1 w (insert_keeps w valid)
      (insert_stretch new h w)

-- ---- `replace`

module _ (p old : Label) (f : Fragments) (t : Tree) where
  abbrev answer : Label → Reply
  answer new = Replaced new (fragment_of (at old t.documents))

  pub on_replace : (P : Outcome → Type 0) → ((why : Refusal) → P (refused why t))
      → ((new : Label) → found (at p t.documents) ≡ true → has_child p old t ≡ true → (is_document (at p t.documents) && is_text_fragment f) ≡ false
      → is_too_deep p f ≡ false → new_label p (prev_of None old t.documents) (next_of (at old t.documents)) ≡ Some new
      → all_within (graft new f none) ≡ true → P (answer new, edited old (in_place f new) t))
      → P (replace p old f t)
  on_replace P out done = on_node P p t (replace_in p old f t) (out (Dom not_found_err)) (λ r ats ch nx e.
      let g = node p r ats ch nx in
      let placed : Outcome = place f (new_label p (prev_of None old t.documents) (next_of (at old t.documents))) (in_place f) answer old t in
      let deep : Outcome = if is_too_deep p f then refused TooDeep t else placed in
      let kind : Outcome = if is_document g && is_text_fragment f then refused (Dom hierarchy_request_err) t else deep in
      on_test P (not (has_child p old t)) (refused (Dom not_found_err) t) kind (λ _. out (Dom not_found_err)) (λ child.
      on_test P (is_document g && is_text_fragment f) (refused (Dom hierarchy_request_err) t) deep (λ _. out (Dom hierarchy_request_err)) (λ fits.
      on_test P (is_too_deep p f) (refused TooDeep t) placed (λ _. out TooDeep) (λ shallow.
      on_place P f (new_label p (prev_of None old t.documents) (next_of (at old t.documents))) (in_place f) answer old t (out LabelLimit)
      (λ new label within. done new (ap found e) (not_false (has_child p old t) child)
      (ap (λ z. is_document z && is_text_fragment f) e ∙ fits) shallow label within)))))

  pub replace_keeps : IsValidTree t → IsValid f → IsValidTree (replace p old f t).1
  replace_keeps w valid = on_replace (λ o. IsValidTree o.1) (λ why. w) (λ new y child fits shallow label within.
      let s = child_stands p old t w.keys child in
      let gap = gap_of p old t s new label in
      replaced_keeps p old t w s y new f (next_of (at old t.documents)) gap valid within shallow gap.before_right fits)

  -- the replaced subtree's entries, and the new ones in their stead
  replaced_stretch : (new : Label) → found (at old t.documents) ≡ true
      → IsStretch (entries_within (at old t.documents)) (entries_of (graft new f none)) t (edited old (in_place f new) t)
  replaced_stretch new y = with_label (λ g. IsStretch (entries_within g) (entries_of (graft new f none)) t (edited old (in_place f new) t)) old t y
      (λ r ats ch nx e. tree_stretch old (in_place f new) t r ats ch nx e (entries_of (graft new f none)) (entries_before new f nx))

  pub replace_stretch : (new : Label) (gone : Fragment) → (replace p old f t).0 ≡ Replaced new gone → IsValidTree t
      → IsStretch (entries_within (at old t.documents)) (entries_of (graft new f none)) t (replace p old f t).1
  replace_stretch new gone = on_replace (λ o. o.0 ≡ Replaced new gone → IsValidTree t
      → IsStretch (entries_within (at old t.documents)) (entries_of (graft new f none)) t o.1) (λ why h. cc)
      (λ k y child fits shallow label within h w. let is : k ≡ new = cc in
      subst (λ z. IsStretch (entries_within (at old t.documents)) (entries_of (graft z f none)) t (edited old (in_place f k) t)) is
      (replaced_stretch k (child_stands p old t w.keys child).there))

  pub replace_changes : IsValidTree t → IsValid f → (new : Label) (gone : Fragment) → (replace p old f t).0 ≡ Replaced new gone
      → map_of (replace p old f t).1 ≡ changed (map drop_change (entries_within (at old t.documents)) ++ map put_change (entries_of (graft new f none)))
      (map_of t)
  replace_changes w valid new gone h = stretch_changes (entries_within (at old t.documents)) (entries_of (graft new f none)) t (replace p old f t).1
      (map_sorted t w) (map_sorted (replace p old f t).1 (replace_keeps w valid)) (replace_stretch new gone h w)

  pub replace_differences : IsValidTree t → IsValid f → (new : Label) (gone : Fragment) → (replace p old f t).0 ≡ Replaced new gone
      → differences (map_of t) (map_of (replace p old f t).1) ≡ differences (entries_within (at old t.documents)) (entries_of (graft new f none))
  replace_differences w valid new gone h = stretch_differences (entries_within (at old t.documents)) (entries_of (graft new f none)) t (replace p old f t).1 w
      (replace_keeps w valid) (replace_stretch new gone h w)

-- ---- `remove`

module _ (p old : Label) (t : Tree) where
  pub on_remove : (P : Outcome → Type 0) → ((why : Refusal) → P (refused why t))
      → (found (at p t.documents) ≡ true → has_child p old t ≡ true → P (reply.Tree (Some (fragment_of (at old t.documents))), edited old behind t))
      → P (remove p old t)
  on_remove P out done = on_node P p t (remove_from p old t) (out (Dom not_found_err)) (λ r ats ch nx e.
      on_test P (not (has_child p old t)) (refused (Dom not_found_err) t) (reply.Tree (Some (fragment_of (at old t.documents))), edited old behind t)
      (λ _. out (Dom not_found_err)) (λ child. done (ap found e) (not_false (has_child p old t) child)))

  pub remove_keeps : IsValidTree t → IsValidTree (remove p old t).1
  remove_keeps w = on_remove (λ o. IsValidTree o.1) (λ why. w) (λ y child. removed_keeps p old t w (child_stands p old t w.keys child) y)

  pub remove_stretch : IsValidTree t → is_refused (remove p old t).0 ≡ false → IsStretch (entries_within (at old t.documents)) [] t (remove p old t).1
  remove_stretch w = on_remove (λ o. is_refused o.0 ≡ false → IsStretch (entries_within (at old t.documents)) [] t o.1) (λ why h. absurd (true≢false h))
      (λ y child _. removed_stretch old t (child_stands p old t w.keys child).there)

  pub remove_changes : IsValidTree t → is_refused (remove p old t).0 ≡ false
      → map_of (remove p old t).1 ≡ changed (map drop_change (entries_within (at old t.documents))) (map_of t)
  remove_changes w h = stretch_changes (entries_within (at old t.documents)) [] t (remove p old t).1 (map_sorted t w)
      (map_sorted (remove p old t).1 (remove_keeps w)) (remove_stretch w h)
      ∙ ap (λ cs. changed cs (map_of t)) (append-nil (map drop_change (entries_within (at old t.documents))))

  pub remove_differences : IsValidTree t → is_refused (remove p old t).0 ≡ false
      → differences (map_of t) (map_of (remove p old t).1) ≡ map drop_change (entries_within (at old t.documents))
  remove_differences w h = stretch_differences (entries_within (at old t.documents)) [] t (remove p old t).1 w (remove_keeps w) (remove_stretch w h)

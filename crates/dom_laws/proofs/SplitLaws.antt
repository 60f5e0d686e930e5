-- `split_text` on two trees.
use Rattle.std.proofs.Common.{◌≡◌, ℕ, Bool, true, false, if◌then◌else◌, List, [], ◌∷◌, ◌++◌, Option, Some, refl, sym, ap, subst, ◌∙◌, append_assoc}
use Rattle.std.proofs.Common.{true≢false}
use Rattle.dewey_labels.specs.Labels.{Label, is_label, is_child, parent}
use Rattle.dewey_labels.specs.NewLabels.{new_label}
use Rattle.dewey_labels.proofs.Labels.{child_label, is_label-parent}
use Rattle.lock_modes.specs.declared.mode.Mode.TheVariants.{SX}
use Rattle.lock_modes.specs.declared.edge_mode.EdgeMode.TheVariants.{EX}
use Rattle.lock_resources.specs.declared.resource.Side.TheVariants.{Last, Next, Prev}
use Rattle.lock_resources.specs.declared.resource.Resource.TheVariants.{Node, Edge}
use Rattle.lock_resources.specs.Intentions.{with_intentions}
use Rattle.tree_model.specs.Outcomes.{Outcome, refused, see_in, index_size_err}
use Rattle.tree_model.specs.declared.record.Record.{Record}
use Rattle.tree_model.specs.declared.record.Record.TheVariants.{Document, Element, Text, Attr as AttrRecord}
use Rattle.tree_model.specs.declared.change.Change.{Change}
use Rattle.tree_model.specs.declared.reply.Reply.TheVariants.{Refused, Place}
use Rattle.tree_model.specs.declared.refusal.Refusal.TheVariants.{Dom}
use Rattle.tree_model.specs.Keys.{node_key}
use Rattle.tree_model.specs.Entries.{Entries, Sorted, changed, put, put_all}
use Rattle.tree_model.specs.Tree.{Attributes, Forest, none, node, own, entries_of, Tree, map_of, at, found, labels, next_of}
use Rattle.tree_model.specs.ValidTrees.{LimitsKept, IsValidTree}
use Rattle.tree_model.specs.NodeKinds.{is_text_node}
use Rattle.tree_model.specs.Texts.{is_past, in_text, data_before, data_from, split_at, place_rest, split_text_in, split_text}
use Rattle.tree_model.specs.Edits.{edited, with_record}
use Rattle.tree_model.specs.Changes.{put_change}
use Rattle.tree_model.specs.Places.{row}
use Rattle.tree_model.proofs.Found.{some_is}
use Rattle.tree_model.proofs.Split.{after_of}
use Rattle.tree_model.proofs.WholeTree.{map_sorted}
use Rattle.tree_model.proofs.PlaceLaws.{row_keys}
use Rattle.tree_model.proofs.FoundRecords.{at_limits}
use Rattle.tree_model.proofs.Entries.{put_sorted}
use Rattle.tree_model.proofs.SplitTexts.{parts_are_data}
use Rattle.tree_changes.proofs.Gaps.{gap_behind, InGap, stands_below}
use Rattle.tree_changes.proofs.EditedMaps.{prefix_of, edited_map, with_label}
use Rattle.tree_changes.proofs.InPlace.{record_puts, data_keeps}
use Rattle.tree_changes.proofs.SplitLaws.{split_keeps}
use Rattle.tree_cells.specs.Cells.{Cell, edge_cell}
use Rattle.tree_cells.specs.Covers.{some_of, changes_edge_at, writes}
use Rattle.tree_cells.proofs.Coverage.{some_left, writes_left}
use Rattle.tree_cells.proofs.Edges.{in_row, edge_is, neighbour_child}
use Rattle.tree_cells.proofs.Rows.{rises, next_in}
use Rattle.tree_cells.proofs.Insertions.{IsInserted, inserted_by_puts}
use Rattle.lock_plans.specs.Plans.{ends}
use Rattle.lock_plans.specs.DomPlans.{run, data_of}
use Rattle.dom_laws.proofs.Same.{Same, same_asks, same_answers}
use Rattle.tree_cells.proofs.Seen.{same_self, in_self, next_of_taken}
use Rattle.dom_laws.proofs.RecordKinds.{data_same}
use Rattle.dom_laws.proofs.StepLaws.{seen_at, same_see, same_text}
use Rattle.dom_laws.proofs.Changes.{HasKey, taken}
use Rattle.dom_laws.proofs.WriteLaws.{node_put, node_covered}
use Rattle.dom_laws.proofs.Takes.{edge_taken, same_take_right, same_place, row_edge_written}
use Rattle.dom_laws.proofs.AppendLaws.{puts_covered}
use Rattle.dom_laws.proofs.GapChanges.{CoversGap, same_inserted}
use Rattle.tree_changes.proofs.SplitLaws as texts
use Rattle.lock_modes.specs.declared.ask.Ask.TheVariants as ask
use Rattle.tree_model.specs.declared.dom_call.DomCall.TheVariants as call
use Rattle.tree_cells.proofs.RowChanges as changes

module _ (l : Label) (offset : ℕ) (i : is_label l ≡ true) where
  abbrev p : Label
  p = parent l

  abbrev text : Label → Forest
  text new = node new (Text []) [] none none

  abbrev right_at : Tree → Option Label
  right_at t = next_of (at l t.documents)

  parent_label : is_label p ≡ true
  parent_label = is_label-parent l i

  texts_gap : (t : Tree) → IsValidTree t → found (at l t.documents) ≡ true → (new : Label) → new_label p (Some l) (right_at t) ≡ Some new
      → InGap p new (Some l) (right_at t)
  texts_gap t w y new g = gap_behind p l t (stands_below p l t w.keys y refl) new g

  -- ---- what the call does

  abbrev made : Tree → List ℕ → Bool → Option Label → Outcome
  made t d past o = if past then refused (Dom index_size_err) t else place_rest l offset t o

  abbrev out : Tree → Forest → Outcome
  out t g = see_in t (in_text t (split_text_in l offset t)) g

  out_is : (t : Tree) (g : Forest) → found g ≡ true → is_text_node g ≡ true
      → out t g ≡ made t (data_of g) (is_past offset (data_of g)) (new_label p (Some l) (right_at t))
  out_is t none y k = absurd (true≢false (sym y))
  out_is t (node m Document ats ch nx) y k = absurd (true≢false (sym k))
  out_is t (node m (Element n) ats ch nx) y k = absurd (true≢false (sym k))
  out_is t (node m (AttrRecord v) ats ch nx) y k = absurd (true≢false (sym k))
  out_is t (node m (Text d) ats ch nx) y k = refl

  is_below : (t : Tree) → IsValidTree t → found (at l t.documents) ≡ true → is_child p l ≡ true
  is_below t w y = (stands_below p l t w.keys y refl).child

  -- ---- a text in two

  module _ (t : Tree) (w : IsValidTree t) (new : Label) (d : List ℕ) (ats : Attributes) (ch nx : Forest) (e : at l t.documents ≡ node l (Text d) ats ch nx)
      (n : new_label p (Some l) (right_at t) ≡ Some new) where
    there : found (at l t.documents) ≡ true
    there = ap found e

    place_of : InGap p new (Some l) (right_at t)
    place_of = texts.gap l offset t w d ats ch nx new e n

    abbrev left_part : Record
    left_part = Text (data_before offset d)

    abbrev right_part : Record
    right_part = Text (data_from offset d)

    stays : IsValidTree (edited l (split_at offset new) t)
    stays = split_keeps l offset t w d ats ch nx new e n

    -- the tree with the text's left part alone
    abbrev shortened : Tree
    shortened = edited l (with_record left_part) t

    shortened_valid : IsValidTree shortened
    shortened_valid = data_keeps l d (data_before offset d) ats ch nx t w e
        (let k : LimitsKept (node l (Text d) ats ch nx) = subst LimitsKept e (at_limits l t.documents w.limits) in (parts_are_data offset d k.1).0)

    shortened_map : map_of shortened ≡ put (node_key l, left_part) (map_of t)
    shortened_map = record_puts l left_part t w there

    -- the rest is put behind it
    split_puts : map_of (edited l (split_at offset new) t) ≡ put_all ((node_key new, right_part) ∷ []) (map_of shortened)
    split_puts =
        let a = prefix_of l t ++ (own l left_part ats ++ entries_of ch) in
        let b = entries_of nx ++ after_of l t.documents in
        let after : map_of (edited l (split_at offset new) t) ≡ a ++ (((node_key new, right_part) ∷ []) ++ b) = edited_map l (split_at offset new) t there
        ∙ ap (λ g. prefix_of l t ++ (entries_of (split_at offset new g) ++ after_of l t.documents)) e
        ∙ regroup (prefix_of l t) (own l left_part ats ++ entries_of ch) ((node_key new, right_part) ∷ []) (entries_of nx) (after_of l t.documents) in
        let before : map_of shortened ≡ a ++ b = edited_map l (with_record left_part) t there
        ∙ ap (λ g. prefix_of l t ++ (entries_of (with_record left_part g) ++ after_of l t.documents)) e
        ∙ regroup_old (prefix_of l t) (own l left_part ats ++ entries_of ch) (entries_of nx) (after_of l t.documents) in
        after ∙ sym (put_sorted a ((node_key new, right_part) ∷ []) b (subst Sorted after (map_sorted (edited l (split_at offset new) t) stays)))
        ∙ ap (put_all ((node_key new, right_part) ∷ [])) (sym before)
      where
        regroup : (f o s n a : Entries) → f ++ ((o ++ (s ++ n)) ++ a) ≡ (f ++ o) ++ (s ++ (n ++ a))
        regroup f o s n a = simp append_assoc refl

        regroup_old : (f o n a : Entries) → f ++ ((o ++ n) ++ a) ≡ (f ++ o) ++ (n ++ a)
        regroup_old f o n a = simp append_assoc refl

    abbrev changes_of : List Change
    changes_of = put_change (node_key l, left_part) ∷ put_change (node_key new, right_part) ∷ []

    split_map : map_of (edited l (split_at offset new) t) ≡ changed changes_of (map_of t)
    split_map = split_puts ∙ ap (put_all ((node_key new, right_part) ∷ [])) shortened_map

    gap : changes.GapBehind (next_in l (labels (row p t))) l new (labels (row p t))
    gap =
        let c = is_below t w there in
        let next : right_at t ≡ next_in l (labels (row p t)) = edge_is p l Next t w parent_label c in
        changes.gap_behind p p l new (labels (row p t)) (rises p p (row p t) (row_keys p t w)) (in_row p l t w parent_label c ∙ there)
        (place_of.behind_left l refl) (λ m h. place_of.before_right m (next ∙ h))

    right_of_new : changes.right_of new (labels (row p t)) ≡ right_at t
    right_of_new = gap.right ∙ sym (edge_is p l Next t w parent_label (is_below t w there))

    absent : found (at new t.documents) ≡ false
    absent = sym (in_row p new t w parent_label place_of.child) ∙ gap.absent

    is_inserted : IsInserted p new t (edited l (split_at offset new) t)
    is_inserted =
        let same : (m : Label) → found (at m shortened.documents) ≡ found (at m t.documents) =
        λ m. node_put l m left_part t shortened w shortened_valid there shortened_map in
        let it = inserted_by_puts p new shortened (edited l (split_at offset new) t) right_part [] shortened_valid stays parent_label place_of.child
        (same new ∙ absent) (in_self new, tt) split_puts in
        record { label = it.label; child = it.child; absent = absent; there = it.there; elsewhere = λ m o. it.elsewhere m o ∙ same m }

  -- a text that was found, with its data
  record IsText (t : Tree) : Type 0 where
    data_is : List ℕ
    ats : Attributes
    ch : Forest
    nx : Forest
    here : at l t.documents ≡ node l (Text data_is) ats ch nx
    same_data : data_of (at l t.documents) ≡ data_is

  a_text : (t : Tree) → found (at l t.documents) ≡ true → is_text_node (at l t.documents) ≡ true → IsText t
  a_text t y k = with_label (λ g. is_text_node g ≡ true → IsText t) l t y by k
    where
      by : (r : Record) (ats : Attributes) (ch nx : Forest) → at l t.documents ≡ node l r ats ch nx → is_text_node (node l r ats ch nx) ≡ true → IsText t
      by Document ats ch nx e k = absurd (true≢false (sym k))
      by (Element n) ats ch nx e k = absurd (true≢false (sym k))
      by (AttrRecord v) ats ch nx e k = absurd (true≢false (sym k))
      by (Text d) ats ch nx e k = record { data_is = d; ats = ats; ch = ch; nx = nx; here = e; same_data = ap data_of e }

  -- ---- the laws

  pub split_same : (t u : Tree) → IsValidTree t → IsValidTree u → Same [] t u (run (call.SplitText l offset) t) (run (call.SplitText l offset) u)
  split_same t u w v =
      let acc0 = seen_at [] l in
      same_see [] l t u w v _ _ i (λ e y z.
      same_text acc0 l t u w v _ _ e (λ kt ku.
      let data_same_ : data_of (at l t.documents) ≡ data_of (at l u.documents) = data_same (at l t.documents) (at l u.documents) e in
      same_answers acc0 t u (is_past offset (data_of (at l t.documents))) (is_past offset (data_of (at l u.documents))) (Refused (Dom index_size_err)) _ _
      (ap (is_past offset) data_same_) (λ pt pu.
      same_asks acc0 t u (Node l) (ask.Node SX) _ _ refl i (λ agree.
      let acc1 = acc0 ++ with_intentions (Node l) (ask.Node SX) in
      let right : right_at t ≡ right_at u = next_of_taken acc0 l t u agree in
      let c = is_below t w y in
      let right_child : (m : Label) → right_at t ≡ Some m → is_child p m ≡ true = λ m k. neighbour_child p l m Next t w parent_label c k in
      same_asks acc1 t u (Edge l Next) (ask.Edge EX) _ _ refl i (λ _.
      let acc2 = acc1 ++ with_intentions (Edge l Next) (ask.Edge EX) in
      same_take_right t u acc2 p _ _ _ _ parent_label right (λ m k. child_label p m parent_label (right_child m k)) (λ block held _.
      let acc3 = acc2 ++ block in
      same_place t u acc3 text _ _ _ _ (ap (new_label p (Some l)) right) (λ new g. child_label p new parent_label (texts_gap t w y new g).child)
      (λ new g within agree.
      let gu : new_label p (Some l) (right_at u) ≡ Some new = ap (new_label p (Some l)) (sym right) ∙ g in
      let n = (texts_gap t w y new g).child in
      let acc = acc3 ++ with_intentions (Node new) (ask.Node SX) in
      let tt_ = a_text t y kt in
      let tu = a_text u z ku in
      let data_is : tu.data_is ≡ tt_.data_is = sym tu.same_data ∙ sym data_same_ ∙ tt_.same_data in
      let it : split_text l offset t ≡ (Place (Some new), edited l (split_at offset new) t) = out_is t (at l t.documents) y kt
      ∙ (λ k. made t [] (pt k) (g k)) in
      let iu : split_text l offset u ≡ (Place (Some new), edited l (split_at offset new) u) = out_is u (at l u.documents) z ku
      ∙ (λ k. made u [] (pu k) (gu k)) in
      let st = stays t w new tt_.data_is tt_.ats tt_.ch tt_.nx tt_.here g in
      let su = stays u v new tu.data_is tu.ats tu.ch tu.nx tu.here gu in
      let cs = changes_of t w new tt_.data_is tt_.ats tt_.ch tt_.nx tt_.here g in
      let mt : map_of (edited l (split_at offset new) t) ≡ changed cs (map_of t) = split_map t w new tt_.data_is tt_.ats tt_.ch tt_.nx tt_.here g in
      let mu : map_of (edited l (split_at offset new) u) ≡ changed cs (map_of u) = split_map u v new tu.data_is tu.ats tu.ch tu.nx tu.here gu
      ∙ ap (λ (d : List ℕ). changed (put_change (node_key l, Text (data_before offset d)) ∷ put_change (node_key new, Text (data_from offset d)) ∷ [])
      (map_of u)) data_is in
      let edge_held : some_of (changes_edge_at l Next) acc3 ≡ true = some_left (changes_edge_at l Next) acc2 block (edge_taken acc1 l Next) in
      let covers : CoversGap acc p new (Some l) (right_at t) = record {
        tree = λ x inside. taken acc3 new x inside;
        first = λ none. cc;
        next = λ m some. subst (λ q. writes acc (edge_cell q Next) ≡ true) (some_is l m some) (row_edge_written acc3 p new l Next parent_label n c edge_held);
        last = λ none. row_edge_written acc3 p new p Last parent_label n (same_self p) (held.last none);
        prev = λ r some. row_edge_written acc3 p new r Prev parent_label n (right_child r some) (held.prev r some);
      } in
      let own_covered : (x : Cell) → HasKey x (node_key l) → writes acc x ≡ true =
      λ x h. writes_left acc3 (with_intentions (Node new) (ask.Node SX)) x
      (writes_left acc2 block x (writes_left acc1 (with_intentions (Edge l Next) (ask.Edge EX)) x (node_covered acc0 l x h))) in
      let new_covered = puts_covered acc3 new ((node_key new, Text (data_from offset tt_.data_is)) ∷ []) (in_self new, tt) in
      let gap_t = gap t w new tt_.data_is tt_.ats tt_.ch tt_.nx tt_.here g in
      let gap_u = gap u v new tu.data_is tu.ats tu.ch tu.nx tu.here gu in
      subst (λ (o : Outcome). Same acc t u (ends o) (ends (split_text l offset u))) (sym it)
      (subst (λ (o : Outcome). Same acc t u (ends (Place (Some new), edited l (split_at offset new) t)) (ends o)) (sym iu)
      (same_inserted acc t u w v agree (Place (Some new), edited l (split_at offset new) t) (Place (Some new), edited l (split_at offset new) u) st su cs mt mu
      (own_covered, new_covered)
      p new (Some l) (right_at t) covers
      (is_inserted t w new tt_.data_is tt_.ats tt_.ch tt_.nx tt_.here g) (is_inserted u v new tu.data_is tu.ats tu.ch tu.nx tu.here gu)
      gap_t.left gap_u.left
      (right_of_new t w new tt_.data_is tt_.ats tt_.ch tt_.nx tt_.here g) (right_of_new u v new tu.data_is tu.ats tu.ch tu.nx tu.here gu ∙ sym right)
      refl)))))))))

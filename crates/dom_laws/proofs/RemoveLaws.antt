-- `remove` on two trees that agree on what it asks for: it goes the same way on both.
use Rattle.std.specs.List.{AllByRecursion}
use Rattle.std.proofs.Common.{◌≡◌, true, not, List, [], ◌∷◌, ◌++◌, map, None, Some, refl, sym, ap, subst, ◌∙◌, append-nil, true≢false}
use Rattle.dewey_labels.specs.Labels.{Label, root, is_label, is_child, parent}
use Rattle.dewey_labels.specs.Sides.{side, is_in, under}
use Rattle.dewey_labels.proofs.Labels.{child_label, child_of_parent}
use Rattle.dewey_labels.proofs.Sides.{side_itself}
use Rattle.lock_modes.specs.declared.mode.Mode.TheVariants.{SX}
use Rattle.lock_resources.specs.declared.resource.Side.{Side}
use Rattle.lock_resources.specs.declared.resource.Side.TheVariants.{First, Last, Next, Prev}
use Rattle.lock_resources.specs.declared.resource.Resource.TheVariants.{Node}
use Rattle.lock_resources.specs.declared.request.Request.{Request}
use Rattle.lock_resources.specs.Intentions.{with_intentions}
use Rattle.tree_model.specs.declared.record.Record.{Record}
use Rattle.tree_model.specs.declared.record.Record.TheVariants.{Document, Element, Text, Attr as AttrRecord}
use Rattle.tree_model.specs.declared.change.Change.{Change}
use Rattle.tree_model.specs.declared.reply.Reply.TheVariants.{Refused}
use Rattle.tree_model.specs.declared.refusal.Refusal.TheVariants.{Dom}
use Rattle.tree_model.specs.Entries.{Entries, changed}
use Rattle.tree_model.specs.Tree.{Attributes, Forest, none, node, own, entries_of, Tree, map_of, at, found, behind, next_of, prev_of}
use Rattle.tree_model.specs.inside.FoundNodes.{up}
use Rattle.tree_model.specs.ValidTrees.{KeysRise, IsValidTree, same_label}
use Rattle.tree_model.specs.Outcomes.{not_found_err, is_refused}
use Rattle.tree_model.specs.Edits.{edited}
use Rattle.tree_model.specs.Placing.{has_child, remove}
use Rattle.tree_model.specs.Subtrees.{fragment_of}
use Rattle.tree_model.specs.Changes.{drop_change}
use Rattle.tree_model.proofs.Lists.{all_append, all_on}
use Rattle.tree_model.proofs.Split.{Labelled, SideIs, SideIn, own_all, under_in, all_under}
use Rattle.tree_model.proofs.Found.{Lies, lies}
use Rattle.tree_model.proofs.StoredCatalogues.{same_label_is}
use Rattle.tree_model.proofs.WholeTree.{map_sorted}
use Rattle.tree_model.proofs.PlaceLaws.{not_root}
use Rattle.tree_changes.specs.SubtreeEntries.{entries_within}
use Rattle.tree_changes.proofs.Cases.{not_false}
use Rattle.tree_changes.proofs.EditedMaps.{with_label, stretch_changes}
use Rattle.tree_changes.proofs.PlacingLaws.{remove_keeps, remove_changes, removed_stretch}
use Rattle.tree_cells.specs.Cells.{Cell, node_cell, attr_cell, edge_cell}
use Rattle.tree_cells.specs.Covers.{some_of, changes_edge_at, changes_row, writes, writes_from, label_of}
use Rattle.tree_cells.specs.Places.{has_row_of}
use Rattle.tree_cells.proofs.Coverage.{some_left, and_both, or_second, writes_left}
use Rattle.tree_cells.proofs.Edges.{neighbour_child}
use Rattle.tree_cells.proofs.SameTrees.{alone, subtree_same}
use Rattle.tree_cells.proofs.Insertions.{IsInserted, removed_by_drops, left_is, right_is}
use Rattle.lock_plans.specs.DomPlans.{run}
use Rattle.lock_plans.proofs.RemoveOutcome.{removed}
use Rattle.dom_laws.proofs.Same.{Same, same_asks, same_answers}
use Rattle.tree_cells.proofs.Seen.{same_self, taken_seen, next_of_taken, prev_of_taken}
use Rattle.dom_laws.proofs.StepLaws.{seen_at, same_see}
use Rattle.dom_laws.proofs.Changes.{HasKey, AreCovered, taken}
use Rattle.dom_laws.proofs.Takes.{left_grows, same_take_left, same_take_right, parent_taken}
use Rattle.dom_laws.proofs.GapChanges.{CoversGap, same_removed}
use Rattle.lock_modes.specs.declared.ask.Ask.TheVariants as ask
use Rattle.tree_model.specs.declared.reply.Reply.TheVariants as reply
use Rattle.tree_model.specs.declared.dom_call.DomCall.TheVariants as call

-- ---- the map without a subtree

abbrev pub drops_of : Forest → List Change
drops_of g = map drop_change (entries_within g)

-- a subtree's entries, without the trees behind it
within_alone : (g : Forest) → entries_within g ≡ entries_within (alone g)
within_alone none = refl
within_alone (node m r ats ch nx) = refl

pub within_same : (f g : Forest) → alone f ≡ alone g → entries_within f ≡ entries_within g
within_same f g e = within_alone f ∙ ap entries_within e ∙ sym (within_alone g)

-- a found node's subtree lies in its label
pub tree_inside : (l : Label) (r : Record) (ats : Attributes) (ch nx : Forest) (t : Tree) → KeysRise root root t.documents
    → at l t.documents ≡ node l r ats ch nx → AllByRecursion (Labelled (SideIn l)) (own l r ats ++ entries_of ch)
tree_inside l r ats ch nx t w e =
    let z : Lies (up l root t.documents) l r ats ch nx (entries_of t.documents) = lies root root l l r ats ch nx t.documents w e in
    all_append (Labelled (SideIn l)) (own l r ats) (entries_of ch) (own_all (SideIn l) l r ats (ap is_in (side_itself l)))
    (all_on (Labelled (SideIs l under)) (Labelled (SideIn l)) (λ e h. under_in l e.0.label h) (entries_of ch) (all_under l l ch z.children))

pub removed_drops : (l : Label) (t : Tree) → IsValidTree t → IsValidTree (edited l behind t) → found (at l t.documents) ≡ true
    → map_of (edited l behind t) ≡ changed (drops_of (at l t.documents)) (map_of t)
removed_drops l t w v y = stretch_changes (entries_within (at l t.documents)) [] t (edited l behind t) (map_sorted t w) (map_sorted (edited l behind t) v)
    (removed_stretch l t y) ∙ ap (λ cs. changed cs (map_of t)) (append-nil (drops_of (at l t.documents)))

-- ---- the call

-- its reply, by the subtree alone
pub fragment_alone : (l : Label) (t : Tree) → IsValidTree t → fragment_of (at l t.documents) ≡ fragment_of (alone (at l t.documents))
fragment_alone l t w = by (at l t.documents) refl
  where
    by : (f : Forest) → at l t.documents ≡ f → fragment_of f ≡ fragment_of (alone f)
    by none e = refl
    by (node m Document ats ch nx) e = refl
    by (node m (Element n) ats ch nx) e = refl
    by (node m (Text d) ats ch nx) e = refl
    by (node m (AttrRecord v) ats ch nx) e = refl

-- ---- the laws

-- an edge that was taken, where a child of its row may be changed
pub edge_written : (acc : List Request) (l : Label) (s : Side) → some_of (changes_edge_at l s) acc ≡ true → some_of (changes_row l s) acc ≡ true
    → writes acc (edge_cell l s) ≡ true
edge_written acc l s e r = or_second (some_of (λ r a. writes_from r a (edge_cell l s)) acc) _
    (and_both (some_of (changes_edge_at l s) acc) (some_of (changes_row l s) acc) e r)

-- the changes lie in the subtree that was taken
pub drops_covered : (acc : List Request) (old : Label) (xs : Entries) → ((x : Cell) → is_in (side old (label_of x)) ≡ true → writes acc x ≡ true)
    → AllByRecursion (Labelled (SideIn old)) xs → AreCovered acc (map drop_change xs)
drops_covered acc old [] tree h = tt
drops_covered acc old (x ∷ xs) tree h = (one, drops_covered acc old xs tree h.1)
  where
    one : (y : Cell) → HasKey y x.0 → writes acc y ≡ true
    one (node_cell m) e = tree (node_cell m) (subst (λ k. is_in (side old k.label) ≡ true) e h.0)
    one (attr_cell m n) e = tree (attr_cell m n) (subst (λ k. is_in (side old k.label) ≡ true) e h.0)
    one (edge_cell m s) e = absurd e

pub record Gone (p old : Label) (t t' : Tree) : Type 0 where
  pub is_removed : IsInserted p old t' t
  pub inside : AllByRecursion (Labelled (SideIn old)) (entries_within (at old t.documents))

module _ (p old : Label) (i : is_label p ≡ true) (j : is_label old ≡ true) where
  pub is_child_there : (t : Tree) → IsValidTree t → same_label (parent old) p ≡ true → found (at old t.documents) ≡ true → is_child p old ≡ true
  is_child_there t w h there = subst (λ z. is_child z old ≡ true) (same_label_is (parent old) p h)
      (child_of_parent old j (λ e. true≢false (ap Rattle.tree_model.specs.Places.is_root (sym e) ∙ not_root old t w there)))

  pub is_gone : (t : Tree) (t' : Tree) → IsValidTree t → IsValidTree t' → is_child p old ≡ true → found (at old t.documents) ≡ true
      → map_of t' ≡ changed (drops_of (at old t.documents)) (map_of t) → Gone p old t t'
  is_gone t t' w v c y = with_label (λ g. map_of t' ≡ changed (drops_of g) (map_of t) → Gone p old t t') old t y (λ r ats ch nx e m.
      let inside = tree_inside old r ats ch nx t w.keys e in
      record {
        is_removed = removed_by_drops p old t t' r _ w v i c y inside m;
        inside =
            subst (λ g. AllByRecursion (Labelled (SideIn old)) (entries_within g)) (sym e) inside;
      })

  pub remove_same : (t u : Tree) → IsValidTree t → IsValidTree u → Same [] t u (run (call.Remove p old) t) (run (call.Remove p old) u)
  remove_same t u w v =
      same_see [] p t u w v _ _ i (λ e y z.
      same_answers (seen_at [] p) t u (not (same_label (parent old) p)) (not (same_label (parent old) p)) (Refused (Dom not_found_err)) _ _ refl (λ child _.
      same_see (seen_at [] p) old t u w v _ _ j (λ eo yo zo.
      same_asks (seen_at (seen_at [] p) old) t u (Node old) (ask.Node SX) _ _ refl j (λ agree.
      let acc1 = seen_at (seen_at [] p) old in
      let acc2 = acc1 ++ with_intentions (Node old) (ask.Node SX) in
      let h = not_false (same_label (parent old) p) child in
      let c = is_child_there t w h yo in
      let one : alone (at old t.documents) ≡ alone (at old u.documents) = subtree_same old t u w v yo zo (taken_seen acc1 old t u agree) in
      let left : prev_of None old t.documents ≡ prev_of None old u.documents = prev_of_taken acc1 old t u agree in
      let right : next_of (at old t.documents) ≡ next_of (at old u.documents) = next_of_taken acc1 old t u agree in
      let left_child : (m : Label) → prev_of None old t.documents ≡ Some m → is_child p m ≡ true = λ m k. neighbour_child p old m Prev t w i c k in
      let right_child : (m : Label) → next_of (at old t.documents) ≡ Some m → is_child p m ≡ true = λ m k. neighbour_child p old m Next t w i c k in
      same_take_left t u acc2 p _ _ _ _ i left (λ m k. child_label p m i (left_child m k)) (λ bl hl _.
      same_take_right t u (acc2 ++ bl) p _ _ _ _ i right (λ m k. child_label p m i (right_child m k)) (λ br hr agree.
      let acc = (acc2 ++ bl) ++ br in
      let hl2 = left_grows (acc2 ++ bl) br p (prev_of None old t.documents) hl in
      let row : (l : Label) (s : Side) → has_row_of s l p ≡ true
      → some_of (changes_row l s) acc ≡ true = λ l s k. some_left (changes_row l s) (acc2 ++ bl) br
      (some_left (changes_row l s) acc2 bl (parent_taken acc1 p old (changes_row l s) i c (and_both (has_row_of s l p) true k refl))) in
      let tree : (x : Cell) → is_in (side old (label_of x)) ≡ true
      → writes acc x ≡ true = λ x inside. writes_left (acc2 ++ bl) br x (writes_left acc2 bl x (taken acc1 old x inside)) in
      let gap : CoversGap acc p old (prev_of None old t.documents) (next_of (at old t.documents)) = record {
        tree = tree;
        first = λ none. edge_written acc p First (hl2.first none) (row p First (same_self p));
        next = λ l some. edge_written acc l Next (hl2.next l some) (row l Next (left_child l some));
        last = λ none. edge_written acc p Last (hr.last none) (row p Last (same_self p));
        prev = λ r some. edge_written acc r Prev (hr.prev r some) (row r Prev (right_child r some));
      } in
      let ht : has_child p old t ≡ true = and_both (same_label (parent old) p) (found (at old t.documents)) h yo in
      let hu : has_child p old u ≡ true = and_both (same_label (parent old) p) (found (at old u.documents)) h zo in
      let rt = removed p old t (at p t.documents) y ht in
      let ru = removed p old u (at p u.documents) z hu in
      let wt = remove_keeps p old t w in
      let wu = remove_keeps p old u v in
      let mt : map_of (remove p old t).1 ≡ changed (drops_of (at old t.documents)) (map_of t) = remove_changes p old t w (ap (λ o. is_refused o.0) rt) in
      let mu : map_of (remove p old u).1 ≡ changed (drops_of (at old u.documents)) (map_of u) = remove_changes p old u v (ap (λ o. is_refused o.0) ru) in
      let gt = is_gone t (remove p old t).1 w wt c yo mt in
      let gu = is_gone u (remove p old u).1 v wu c zo mu in
      same_removed acc t u w v agree (remove p old t) (remove p old u) wt wu (drops_of (at old t.documents)) mt
      (mu ∙ ap (λ xs. changed (map drop_change xs) (map_of u)) (sym (within_same (at old t.documents) (at old u.documents) one)))
      (drops_covered acc old (entries_within (at old t.documents)) tree gt.inside)
      p old (prev_of None old t.documents) (next_of (at old t.documents)) gap gt.is_removed gu.is_removed
      (sym (left_is p old (remove p old t).1 t wt w gt.is_removed)) (sym (left_is p old (remove p old u).1 u wu v gu.is_removed) ∙ sym left)
      (sym (right_is p old (remove p old t).1 t wt w gt.is_removed)) (sym (right_is p old (remove p old u).1 u wu v gu.is_removed) ∙ sym right)
      (ap (λ o. o.0) rt ∙ ap (λ f. reply.Tree (Some f)) (fragment_alone old t w ∙ ap fragment_of one ∙ sym (fragment_alone old u v))
      ∙ sym (ap (λ o. o.0) ru))))))))

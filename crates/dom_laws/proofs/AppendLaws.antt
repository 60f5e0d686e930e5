-- `append` on two trees that agree on what it asks for: it goes the same way on both.
use Rattle.std.specs.List.{AllByRecursion}
use Rattle.std.proofs.Common.{◌≡◌, Bool, true, false, if◌then◌else◌, ◌&&◌, ◌||◌, List, [], ◌∷◌, ◌++◌, map, None, Some, is_some, refl, sym, ap, subst, ◌∙◌}
use Rattle.std.proofs.Common.{true≢false}
use Rattle.dewey_labels.specs.Labels.{Label, is_label, is_child}
use Rattle.dewey_labels.specs.Sides.{side, is_in}
use Rattle.dewey_labels.specs.NewLabels.{new_label, first_division}
use Rattle.dewey_labels.proofs.Labels.{child_label}
use Rattle.dewey_labels.proofs.Sides.{under_before}
use Rattle.dewey_labels.proofs.Codes.{child_under}
use Rattle.lock_modes.specs.declared.mode.Mode.TheVariants.{SX}
use Rattle.lock_modes.specs.declared.edge_mode.EdgeMode.TheVariants.{ER, EX}
use Rattle.lock_resources.specs.declared.resource.Side.TheVariants.{First, Last, Next}
use Rattle.lock_resources.specs.declared.resource.Resource.TheVariants.{Node, Edge}
use Rattle.lock_resources.specs.declared.request.Request.{Request}
use Rattle.lock_resources.specs.Intentions.{with_intentions}
use Rattle.tree_model.specs.declared.record.Record.{Record}
use Rattle.tree_model.specs.declared.record.Record.TheVariants.{Element, Text}
use Rattle.tree_model.specs.declared.change.Change.{Change}
use Rattle.tree_model.specs.declared.fragment.Fragment.{Fragment, ind-Fragment, roll-Fragment, fold-Fragment, fold-roll-Fragment, map-Fragment}
use Rattle.tree_model.specs.declared.fragment.Fragment.TheOpen.{Fragment-F}
use Rattle.tree_model.specs.Fragments.{before_row, put_before, Fragments, no_more, element, text, plain, IsValid, is_text_fragment}
use Rattle.tree_model.specs.declared.reply.Reply.TheVariants.{Refused, Place}
use Rattle.tree_model.specs.declared.refusal.Refusal.TheVariants.{Dom, TooDeep, LabelLimit}
use Rattle.tree_model.specs.Keys.{node_key}
use Rattle.tree_model.specs.Entries.{Entries, changed}
use Rattle.tree_model.specs.Tree.{Forest, none, own, entries_of, Tree, map_of, at, found, below, labels, first_of, last_child_of}
use Rattle.tree_model.specs.ValidTrees.{KeysRise, IsValidTree, is_among}
use Rattle.tree_model.specs.Graft.{graft, graft_below, all_within}
use Rattle.tree_model.specs.Outcomes.{refused, hierarchy_request_err}
use Rattle.tree_model.specs.NodeKinds.{is_document, is_text_node}
use Rattle.tree_model.specs.Edits.{edited}
use Rattle.tree_model.specs.Placing.{is_full, is_too_deep, place, with_last, as_place, append}
use Rattle.tree_model.specs.Changes.{put_change}
use Rattle.tree_model.specs.Places.{row}
use Rattle.tree_model.proofs.Split.{Labelled, SideIn, tree_in}
use Rattle.tree_model.proofs.Ends.{labels_before}
use Rattle.tree_model.proofs.Grafts.{keys-graft}
use Rattle.tree_model.proofs.Appends.{IsNewLast, new_last, append_keeps, append_puts}
use Rattle.tree_model.proofs.PutChanges.{changed_puts}
use Rattle.tree_model.proofs.PlaceLaws.{below_keys}
use Rattle.tree_cells.specs.Cells.{Cell, node_cell, attr_cell, edge_cell}
use Rattle.tree_cells.specs.Covers.{changes_edge_at, writes}
use Rattle.tree_cells.proofs.Coverage.{some_left}
use Rattle.tree_cells.proofs.Edges.{in_row, neighbour_child}
use Rattle.tree_cells.proofs.Rows.{last_is as last_in_is}
use Rattle.tree_cells.proofs.Insertions.{IsInserted, inserted_by_puts}
use Rattle.lock_plans.specs.Plans.{ends, in_turn}
use Rattle.lock_plans.specs.DomPlans.{one_element_steps}
use Rattle.lock_plans.proofs.AppendOutcome.{placed, first_and_last, tests}
use Rattle.dom_laws.proofs.Same.{Same, same_asks, same_answers, same_where}
use Rattle.tree_cells.proofs.Seen.{same_self, edge_seen, first_is, last_is, row_is}
use Rattle.dom_laws.proofs.RecordKinds.{document_same_kind, text_same_kind}
use Rattle.dom_laws.proofs.StepLaws.{same_see}
use Rattle.dom_laws.proofs.Changes.{HasKey, AreCovered, taken}
use Rattle.dom_laws.proofs.Takes.{edge_taken, same_take_left, same_place, row_edge_written}
use Rattle.dom_laws.proofs.GapChanges.{CoversGap, same_inserted}
use Rattle.lock_modes.specs.declared.ask.Ask.TheVariants as ask
use Rattle.tree_cells.proofs.RowChanges as changes
use Rattle.lock_plans.specs.Plans as plans

-- ---- the fragment's tree

-- there is a first fragment
abbrev pub is_one : Fragments → Bool
is_one no_more = false
is_one (element n ats ch nx) = true
is_one (text d nx) = true

rolled_is_one : (x : Fragment-F Fragment) → is_one (before_row (roll-Fragment x) no_more) ≡ true
rolled_is_one x = ap (λ (g : Fragments → Fragments). is_one (g no_more)) (fold-roll-Fragment _ put_before x) ∙ by x
  where
    by : (x : Fragment-F Fragment) → is_one
        (put_before (map-Fragment Fragment (Fragments → Fragments) (fold-Fragment (Fragments → Fragments) put_before) x) no_more) ≡ true
    by (Fragment-F.Element n ats ch) = refl
    by (Fragment-F.Text t) = refl

pub plain_is_one : (f : Fragment) → is_one (plain f) ≡ true
plain_is_one = ind-Fragment (λ f. is_one (plain f) ≡ true) (λ x y e. rolled_is_one x)

-- the tree at its label
pub record Grafted (new : Label) (f : Fragments) : Type 0 where
  pub top : Record
  pub rest : Entries
  pub entries : entries_of (graft new f none) ≡ (node_key new, top) ∷ rest
  pub inside : AllByRecursion (Labelled (SideIn new)) ((node_key new, top) ∷ rest)

pub grafted : (p new : Label) (f : Fragments) → is_one f ≡ true → is_child p new ≡ true → all_within (graft new f none) ≡ true → IsValid f → Grafted new f
grafted p new f one c within valid = by f one (keys-graft p p new f none c (under_before p new (child_under p new c)) within valid tt tt)
  where
    by : (f : Fragments) → is_one f ≡ true → KeysRise p p (graft new f none) → Grafted new f
    by no_more one k = absurd (true≢false (sym one))
    by (element n ats ch nx) one k =
        record {
          top = Element n;
          rest = _;
          entries = refl;
          inside =
              Rattle.tree_model.proofs.Lists.all_append (Labelled (SideIn new)) (own new (Element n) ats ++ entries_of (graft_below new first_division ch)) []
              (tree_in p p new (Element n) ats (graft_below new first_division ch) none k) tt;
        }
    by (text d nx) one k = record {
      top = Text d;
      rest = _;
      entries = refl;
      inside =
          Rattle.tree_model.proofs.Lists.all_append (Labelled (SideIn new)) (own new (Text d) [] ++ []) [] (tree_in p p new (Text d) [] none none k) tt;
    }

-- the changes of a call that puts it
abbrev pub puts_of : Label → Fragments → List Change
puts_of new f = map put_change (entries_of (graft new f none))

-- they lie in a subtree that was taken
pub puts_covered : (acc : List Request) (new : Label) (xs : Entries) → AllByRecursion (Labelled (SideIn new)) xs
    → AreCovered (acc ++ with_intentions (Node new) (ask.Node SX)) (map put_change xs)
puts_covered acc new [] h = tt
puts_covered acc new (x ∷ xs) h = (one, puts_covered acc new xs h.1)
  where
    one : (y : Cell) → HasKey y x.0 → writes (acc ++ with_intentions (Node new) (ask.Node SX)) y ≡ true
    one (node_cell m) e = taken acc new (node_cell m) (subst (λ k. is_in (side new k.label) ≡ true) e h.0)
    one (attr_cell m n) e = taken acc new (attr_cell m n) (subst (λ k. is_in (side new k.label) ≡ true) e h.0)
    one (edge_cell m s) e = absurd e

-- ---- the laws

-- what is known of a call that places its fragment
record Placed (p : Label) (f : Fragments) (new : Label) (t t' : Tree) : Type 0 where
  is_inserted : IsInserted p new t t'
  map : map_of t' ≡ changed (puts_of new f) (map_of t)
  left : changes.left_of new (labels (row p t)) ≡ last_child_of (at p t.documents)
  right : changes.right_of new (labels (row p t)) ≡ None

module _ (p : Label) (f : Fragments) (i : is_label p ≡ true) (one : is_one f ≡ true) (valid : IsValid f) where
  answered : (new : Label) (t : Tree) → found (at p t.documents) ≡ true → tests p f t (at p t.documents) ≡ false → is_too_deep p f ≡ false
      → new_label p (last_child_of (at p t.documents)) None ≡ Some new → all_within (graft new f none) ≡ true → (append p f t).0 ≡ Place (Some new)
  answered new t y a b e within = ap (λ o. o.0) (placed p f t (at p t.documents) y a b ∙ ap (λ o. place f o (with_last f) as_place p t) e
      ∙ ap (λ z. if z then (as_place new, edited p (with_last f new) t) else refused LabelLimit t) within)

  is_new : (new : Label) (t : Tree) → IsValidTree t → new_label p (last_child_of (at p t.documents)) None ≡ Some new
      → IsNewLast p (below (at p t.documents)) new
  is_new new t w e = new_last p new (below (at p t.documents)) (below_keys p t w) e

  placed_there : (new : Label) (t : Tree) → IsValidTree t → found (at p t.documents) ≡ true → tests p f t (at p t.documents) ≡ false → is_too_deep p f ≡ false
      → new_label p (last_child_of (at p t.documents)) None ≡ Some new → all_within (graft new f none) ≡ true → Placed p f new t (append p f t).1
  placed_there new t w y a b e within =
      let is = is_new new t w e in
      let reply = answered new t y a b e within in
      let puts : map_of (append p f t).1 ≡ changed (puts_of new f) (map_of t) = append_puts p new f t w valid reply
      ∙ sym (changed_puts (entries_of (graft new f none)) (map_of t)) in
      let g = grafted p new f one is.is_child_of within valid in
      let rows : labels (row p t) ≡ labels (below (at p t.documents)) = ap labels (row_is p t w y) in
      let before = labels_before p p new (below (at p t.documents)) (below_keys p t w) is.last in
      record {
        is_inserted = inserted_by_puts p new t (append p f t).1 g.top g.rest w (append_keeps p f t w valid) i is.is_child_of
            (sym (in_row p new t w i is.is_child_of) ∙ ap (is_among new) rows ∙ changes.end_not_among new (labels (below (at p t.documents))) before) g.inside
            (puts ∙ ap (λ xs. changed (Rattle.std.proofs.Common.map put_change xs) (map_of t)) g.entries);
        map = puts;
        left = ap (changes.left_of new) rows ∙ changes.end_left new (labels (below (at p t.documents))) before ∙ sym (last_in_is (below (at p t.documents)));
        right = ap (changes.right_of new) rows ∙ changes.end_right new (labels (below (at p t.documents))) before;
      }

  module _ (t u : Tree) (w : IsValidTree t) (v : IsValidTree u) (y : found (at p t.documents) ≡ true) (z : found (at p u.documents) ≡ true) where
    -- the end of the list: the gap behind the last child, and the place
    same_end : (acc : List Request) → tests p f t (at p t.documents) ≡ false → tests p f u (at p u.documents) ≡ false → is_too_deep p f ≡ false
        → Same acc t u (plans.end_of p (last_child_of (at p t.documents))
        (plans.place (plans.grafted f) (new_label p (last_child_of (at p t.documents)) None) t (ends (append p f t))))
        (plans.end_of p (last_child_of (at p u.documents))
        (plans.place (plans.grafted f) (new_label p (last_child_of (at p u.documents)) None) u (ends (append p f u))))
    same_end acc at_ au b =
        same_asks acc t u (Edge p Last) (ask.Edge EX) _ _ refl i (λ agree.
        let last : last_child_of (at p t.documents) ≡ last_child_of (at p u.documents) = sym (last_is p t w y) ∙ edge_seen acc p Last EX t u agree
        ∙ last_is p u v z in
        let acc1 = acc ++ with_intentions (Edge p Last) (ask.Edge EX) in
        let child_of_p : (m : Label) → last_child_of (at p t.documents) ≡ Some m
        → is_child p m ≡ true = λ m h. neighbour_child p p m Last t w i (same_self p) (last_is p t w y ∙ h) in
        same_take_left t u acc1 p _ _ _ _ i last (λ m h. child_label p m i (child_of_p m h)) (λ block left agree.
        let acc2 = acc1 ++ block in
        same_place t u acc2 (plans.grafted f) _ _ _ _ (ap (λ o. new_label p o None) last) (λ new h. child_label p new i (is_new new t w h).is_child_of)
        (λ new h within agree.
        let hu : new_label p (last_child_of (at p u.documents)) None ≡ Some new = ap (λ o. new_label p o None) (sym last) ∙ h in
        let pt = placed_there new t w y at_ b h within in
        let pu = placed_there new u v z au b hu within in
        let c = (is_new new t w h).is_child_of in
        let g = grafted p new f one c within valid in
        let gap : CoversGap (acc2 ++ with_intentions (Node new) (ask.Node SX)) p new (last_child_of (at p t.documents)) None = record {
          tree = λ x inside. taken acc2 new x inside;
          first = λ none. row_edge_written acc2 p new p First i c (same_self p) (left.first none);
          next = λ l some. row_edge_written acc2 p new l Next i c (child_of_p l some) (left.next l some);
          last = λ _. row_edge_written acc2 p new p Last i c (same_self p) (some_left (changes_edge_at p Last) acc1 block (edge_taken acc p Last));
          prev = λ r some. cc;
        } in
        same_inserted _ t u w v agree (append p f t) (append p f u) (append_keeps p f t w valid) (append_keeps p f u v valid) (puts_of new f) pt.map pu.map
        (subst (λ xs. AreCovered (acc2 ++ with_intentions (Node new) (ask.Node SX)) (Rattle.std.proofs.Common.map put_change xs)) (sym g.entries)
        (puts_covered acc2 new ((node_key new, g.top) ∷ g.rest) g.inside))
        p new (last_child_of (at p t.documents)) None gap pt.is_inserted pu.is_inserted pt.left (pu.left ∙ sym last) pt.right pu.right
        (answered new t y at_ b h within ∙ sym (answered new u z au b hu within)))))

    same_deep : (acc : List Request) → tests p f t (at p t.documents) ≡ false → tests p f u (at p u.documents) ≡ false
        → Same acc t u (plans.refuses (is_too_deep p f) TooDeep t
        (plans.end_of p (last_child_of (at p t.documents))
        (plans.place (plans.grafted f) (new_label p (last_child_of (at p t.documents)) None) t (ends (append p f t)))))
        (plans.refuses (is_too_deep p f) TooDeep u
        (plans.end_of p (last_child_of (at p u.documents))
        (plans.place (plans.grafted f) (new_label p (last_child_of (at p u.documents)) None) u (ends (append p f u)))))
    same_deep acc a b = same_answers acc t u (is_too_deep p f) (is_too_deep p f) (Refused TooDeep) _ _ refl (λ d _. same_end acc a b d)

  pub append_same : (t u : Tree) → IsValidTree t → IsValidTree u
      → Same [] t u (in_turn (Rattle.lock_plans.specs.DomPlans.append_steps p f t) (ends (append p f t)))
      (in_turn (Rattle.lock_plans.specs.DomPlans.append_steps p f u) (ends (append p f u)))
  append_same t u w v =
      same_see [] p t u w v _ _ i (λ e y z.
      same_answers _ t u (is_text_node (at p t.documents)) (is_text_node (at p u.documents)) (Refused (Dom hierarchy_request_err)) _ _ (text_same_kind _ _ e)
      (λ xt xu.
      same_where _ t u (is_document (at p t.documents)) (is_document (at p u.documents)) (one_element_steps p f t) (one_element_steps p f u) _ _
      (document_same_kind _ _ e)
      (λ dt du. same_answers _ t u (is_text_fragment f) (is_text_fragment f) (Refused (Dom hierarchy_request_err)) _ _ refl (λ sf _.
      same_asks _ t u (Edge p First) (ask.Edge ER) _ _ refl i (λ agree.
      let first : first_of (at p t.documents) ≡ first_of (at p u.documents) = sym (first_is p t w y) ∙ edge_seen _ p First ER t u agree ∙ first_is p u v z in
      same_answers _ t u (is_some (first_of (at p t.documents))) (is_some (first_of (at p u.documents))) (Refused (Dom hierarchy_request_err)) _ _
      (ap is_some first) (λ ft fu.
      same_deep t u w v y z _ (open_at (at p t.documents) xt dt sf ft) (open_at (at p u.documents) xu du sf fu)))))
      (λ dt du. same_deep t u w v y z _ (λ k. xt k || (dt k && (is_text_fragment f || is_some (last_child_of (at p t.documents)))))
      (λ k. xu k || (du k && (is_text_fragment f || is_some (last_child_of (at p u.documents))))))))
    where
      open_at : (g : Forest) → is_text_node g ≡ false → is_document g ≡ true → is_text_fragment f ≡ false → is_some (first_of g) ≡ false
          → (is_text_node g || is_full f g) ≡ false
      open_at g x d s k = λ j. x j || (d j && (s j || (sym (first_and_last g) ∙ k) j))

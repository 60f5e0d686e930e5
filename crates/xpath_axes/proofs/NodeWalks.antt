-- The walks over the nodes below a node, as their loop meets them: what is found, if it is a node's own entry that lies there.
use Rattle.std.proofs.lemmas.Grind.{common_steps}
use Rattle.std.proofs.Common.{◌≡◌, ◌+◌, ◌≤◌, ◌==◌, ℕ, Bool, true, false, cond, ◌&&◌, List, [], ◌∷◌, ◌++◌, filter, length, Option, None, Some, Less, refl, sym, ap, subst, ◌∙◌, true≢false, ⊎_elim, arith}
use Rattle.std.proofs.lemmas.List.{length-append}
use Rattle.dewey_labels.specs.Labels.{Label, Within, is_label}
use Rattle.dewey_labels.specs.Lists.{is_empty}
use Rattle.dewey_labels.specs.Sides.{side, is_in, is_under}
use Rattle.dewey_labels.proofs.Sides.{side_itself}
use Rattle.tree_model.specs.declared.key.Key.{Key}
use Rattle.tree_model.specs.declared.record.Record.{Record}
use Rattle.tree_model.specs.Keys.{key_cmp, node_key}
use Rattle.tree_model.specs.Entries.{first_above}
use Rattle.tree_model.specs.inside.Seeks.{behind_attributes, behind_tree}
use Rattle.tree_model.specs.Places.{is_root}
use Rattle.tree_model.specs.Tree.{Forest, none, node, Tree, map_of, at, found, below}
use Rattle.tree_model.specs.ValidTrees.{IsValidTree}
use Rattle.tree_model.proofs.Entries.{first_above_has}
use Rattle.tree_model.proofs.EntryLimits.{list_itself}
use Rattle.tree_model.proofs.Seeks.{in_below_tree}
use Rattle.tree_model.proofs.Split.{Labelled}
use Rattle.tree_model.proofs.ValidKeys.{HasValidKey, keys_valid}
use Rattle.tree_model.proofs.WholeTree.{map_sorted}
use Rattle.path_model.specs.AxisPrograms.{on_right}
use Rattle.path_model.specs.Positions.{Position, a_node}
use Rattle.path_model.specs.Programs.{row_seen, all_seen}
use Rattle.xpath_axes.specs.declared.nodes.Reach.{Reach}
use Rattle.xpath_axes.specs.declared.nodes.Reach.TheVariants.{Children, ChildrenBehind, Descendants}
use Rattle.xpath_axes.specs.inside.Walks.{nodes_below, behind_key, start_key, node_under, CanBegin}
use Rattle.xpath_axes.proofs.FoundLabels.{IsPlace, all_places, above_place}
use Rattle.xpath_axes.proofs.RowWalks.{Walking, walk_begins, walk_goes, walk_ends, is_below}
use Rattle.xpath_axes.proofs.RowsBehind.{walk_begins_behind}
use Rattle.xpath_axes.proofs.TreeWalks.{Descent, descent_begins, descent_goes, descent_ends, nodes_in}

-- ---- the walks

-- so many were met, and this entry comes next
abbrev pub Coming : Reach → Label → Tree → List Position → Option (Key × Record) → Type 0
Coming Children l t out next = Walking l t.documents (row_seen (below (at l t.documents))) out next
Coming (ChildrenBehind m) l t out next = Walking l t.documents (filter (on_right m.now) (row_seen (below (at l t.documents)))) out next
Coming Descendants l t out next = Descent l (map_of t) (all_seen (below (at l t.documents))) out next

begins : (reach : Reach) (l : Label) (t : Tree) → IsValidTree t → CanBegin reach l → found (at l t.documents) ≡ true → Coming reach l t [] (first_above (start_key reach l) (map_of t))
begins Children l t w c y = by (at l t.documents) refl y
  where
    by : (f : Forest) → at l t.documents ≡ f → found f ≡ true → Walking l t.documents (row_seen (below f)) [] (first_above (behind_attributes l) (map_of t))
    by none e z = absurd (true≢false (sym z))
    by (node m r ats ch nx) e z = walk_begins l m r ats ch nx t w e
begins (ChildrenBehind k) l t w c y = by (at l t.documents) refl y
  where
    by : (f : Forest) → at l t.documents ≡ f → found f ≡ true → Walking l t.documents (filter (on_right k.now) (row_seen (below f))) [] (first_above (behind_tree k.now) (map_of t))
    by none e z = absurd (true≢false (sym z))
    by (node m r ats ch nx) e z = walk_begins_behind l m k.now r ats ch nx t w e c.1
begins Descendants l t w c y = by (at l t.documents) refl y
  where
    by : (f : Forest) → at l t.documents ≡ f → found f ≡ true → Descent l (map_of t) (all_seen (below f)) [] (first_above (behind_attributes l) (map_of t))
    by none e z = absurd (true≢false (sym z))
    by (node m r ats ch nx) e z = descent_begins l m r ats ch nx t w e

ends : (reach : Reach) (l : Label) (t : Tree) (out : List Position) (next : Option (Key × Record)) → Coming reach l t out next → is_below l next ≡ false → out ≡ nodes_below reach (at l t.documents)
ends Children l t out next w h = walk_ends l t.documents (row_seen (below (at l t.documents))) out next w h
ends (ChildrenBehind m) l t out next w h = walk_ends l t.documents (filter (on_right m.now) (row_seen (below (at l t.documents)))) out next w h
ends Descendants l t out next w h = descent_ends l (map_of t) (all_seen (below (at l t.documents))) out next w h

-- the next one is a node's own entry, and what is still to come stands behind it
record Goes (reach : Reach) (l : Label) (t : Tree) (out : List Position) (e : Key × Record) : Type 0 where
  label : Label
  record_there : Record
  entry : e ≡ (node_key label, record_there)
  on : Coming reach l t (out ++ a_node label record_there ∷ []) (first_above (behind_key reach label) (map_of t))
  rest : List Position
  whole : (out ++ a_node label record_there ∷ []) ++ rest ≡ nodes_below reach (at l t.documents)

goes : (reach : Reach) (l : Label) (t : Tree) (out : List Position) (e : Key × Record) → IsValidTree t → is_label l ≡ true → Coming reach l t out (Some e) → is_under (side l e.0.label) ≡ true → Goes reach l t out e
goes Children l t out e v i w y =
    let g = walk_goes l t (row_seen (below (at l t.documents))) out (Some e) v i w e refl y in
    record { label = g.label; record_there = g.record_there; entry = g.entry; on = g.on; rest = row_seen g.on.rest; whole = g.on.gathered }
goes (ChildrenBehind m) l t out e v i w y =
    let g = walk_goes l t (filter (on_right m.now) (row_seen (below (at l t.documents)))) out (Some e) v i w e refl y in
    record { label = g.label; record_there = g.record_there; entry = g.entry; on = g.on; rest = row_seen g.on.rest; whole = g.on.gathered }
goes Descendants l t out e v i w y =
    let g = descent_goes l (map_of t) (all_seen (below (at l t.documents))) out (Some e) (map_sorted t v) w e refl y in
    record { label = g.label; record_there = g.record_there; entry = g.entry; on = g.on; rest = nodes_in g.on.left; whole = g.on.gathered }

-- ---- what the loop has

abbrev picked : Bool → Key × Record → Option (Label × Record)
picked b e = cond b (Some (e.0.label, e.1)) None

-- the node that comes next, if there is one
abbrev pub Left : Reach → Label → Tree → List Position → Option (Label × Record) → Type 0
Left reach l t out None = out ≡ nodes_below reach (at l t.documents)
Left reach l t out (Some n) = Coming reach l t out (Some (node_key n.0, n.1)) × (is_under (side l n.0) ≡ true)

settled : (reach : Reach) (l : Label) (t : Tree) (out : List Position) (o : Option (Key × Record)) → IsValidTree t → is_label l ≡ true → Coming reach l t out o → Left reach l t out (node_under l o)
settled reach l t out None v i w = ends reach l t out None w refl
settled reach l t out (Some e) v i w = by (is_under (side l e.0.label)) refl
  where
    by : (b : Bool) → is_under (side l e.0.label) ≡ b → Left reach l t out (node_under l (Some e))
    by false q = subst (λ c. Left reach l t out (picked (c && is_empty e.0.name) e)) (sym q) (ends reach l t out (Some e) w q)
    by true q =
        let g = goes reach l t out e v i w q in
        let entry : e ≡ (node_key g.label, g.record_there) = g.entry in
        let here : e ≡ (node_key e.0.label, e.1) = entry ∙ ap (λ (x : Key × Record). (node_key x.0.label, x.1)) (sym entry) in
        subst (λ c. Left reach l t out (picked (c && is_empty e.0.name) e)) (sym q)
        (subst (λ c. Left reach l t out (picked c e)) (sym (ap (λ (x : Key × Record). is_empty x.0.name) entry))
        (subst (λ (x : Key × Record). Coming reach l t out (Some x)) here w, q))

pub left_goes : (reach : Reach) (l : Label) (t : Tree) (out : List Position) (c : Label) (r : Record) (o : Option (Key × Record)) → IsValidTree t → is_label l ≡ true → Left reach l t out (Some (c, r))
    → o ≡ first_above (behind_key reach c) (map_of t) → Left reach l t (out ++ a_node c r ∷ []) (node_under l o)
left_goes reach l t out c r o v i w h =
    let g = goes reach l t out (node_key c, r) v i w.0 w.1 in
    settled reach l t (out ++ a_node c r ∷ []) o v i
    (subst (Coming reach l t (out ++ a_node c r ∷ [])) (sym h)
    (subst (λ (x : Key × Record). Coming reach l t (out ++ a_node x.0.label x.1 ∷ []) (first_above (behind_key reach x.0.label) (map_of t))) (sym g.entry) g.on))

-- what comes next, and what stands behind that
pub coming : (reach : Reach) (l : Label) (t : Tree) (out : List Position) (c : Label) (r : Record) → IsValidTree t → is_label l ≡ true → Left reach l t out (Some (c, r))
    → (rest : List Position) × ((out ++ a_node c r ∷ []) ++ rest ≡ nodes_below reach (at l t.documents))
coming reach l t out c r v i w =
    let g = goes reach l t out (node_key c, r) v i w.0 w.1 in
    (g.rest, subst (λ (x : Key × Record). (out ++ a_node x.0.label x.1 ∷ []) ++ g.rest ≡ nodes_below reach (at l t.documents)) (sym g.entry) g.whole)

-- so one more is still to come
pub one_left : (reach : Reach) (l : Label) (t : Tree) (out : List Position) (c : Label) (r : Record) → IsValidTree t → is_label l ≡ true → Left reach l t out (Some (c, r))
    → length out + 1 ≤ length (nodes_below reach (at l t.documents))
one_left reach l t out c r v i w =
    let rest = coming reach l t out c r v i w in
    let n = length-append out (a_node c r ∷ []) in
    let m = length-append (out ++ a_node c r ∷ []) rest.0 in
    let e = ap length rest.1 in
    omega (arith, n, m, e)

-- ---- its beginning

-- no entry lies under a label that is no place's
none_there : (l : Label) (t : Tree) (o : Option (Key × Record)) → IsValidTree t → is_label l ≡ true → is_root l ≡ false → found (at l t.documents) ≡ false
    → ((e : Key × Record) → o ≡ Some e → IsPlace t e.0.label × (is_label e.0.label ≡ true)) → node_under l o ≡ None
none_there l t None w i r y h = refl
none_there l t (Some e) w i r y h = elim (is_under (side l e.0.label)) as (λ u. is_under (side l e.0.label) ≡ u → picked (u && is_empty e.0.name) e ≡ None) [
  | true ↦ λ u. ⊎_elim (λ q. absurd (true≢false (sym q ∙ r))) (λ q. absurd (true≢false (sym q ∙ y))) (above_place t l e.0.label w i (h e refl).1 u (h e refl).0)
  | false ↦ λ _. refl
] refl

nothing_below : (reach : Reach) (f : Forest) → found f ≡ false → [] ≡ nodes_below reach f
nothing_below Children none y = refl
nothing_below (ChildrenBehind m) none y = refl
nothing_below Descendants none y = refl
nothing_below reach (node l r ats ch nx) y = absurd (true≢false y)

not_root : (reach : Reach) (l : Label) → CanBegin reach l → is_root l ≡ false
not_root Children l c = c
not_root (ChildrenBehind m) l c = c.0
not_root Descendants l c = c

pub left_begins : (reach : Reach) (l : Label) (t : Tree) (o : Option (Key × Record)) → IsValidTree t → is_label l ≡ true → CanBegin reach l
    → o ≡ first_above (start_key reach l) (map_of t) → Left reach l t [] (node_under l o)
left_begins reach l t o v i r h = by (found (at l t.documents)) refl
  where
    by : (b : Bool) → found (at l t.documents) ≡ b → Left reach l t [] (node_under l o)
    by true y = settled reach l t [] o v i (subst (Coming reach l t []) (sym h) (begins reach l t v r y))
    by false y = subst (Left reach l t [])
        (sym (none_there l t o v i (not_root reach l r) y (λ e q.
        let is : first_above (start_key reach l) (map_of t) ≡ Some e = sym h ∙ q in
        (first_above_has (Labelled (IsPlace t)) (start_key reach l) e (map_of t) (all_places t v) is, (first_above_has HasValidKey (start_key reach l) e (map_of t) (keys_valid t v) is).label.0))))
        (nothing_below reach (at l t.documents) y)

-- ---- its end, over any map

-- the entry of a node that was found
abbrev pub entry_of : Option (Label × Record) → Option (Key × Record)
entry_of None = None
entry_of (Some n) = Some (node_key n.0, n.1)

-- a node's own entry lies below the key behind it
pub before_behind : (reach : Reach) (l : Label) (r : Record) → Within l → key_cmp (node_key l) (behind_key reach l) ≡ Less
before_behind Children l r w = in_below_tree l (node_key l, r) (ap is_in (side_itself l)) (w, refl)
before_behind (ChildrenBehind m) l r w = in_below_tree l (node_key l, r) (ap is_in (side_itself l)) (w, refl)
before_behind Descendants l r w = ap (λ o. Rattle.std.specs.Ordering.ordering_then o Less) (list_itself l)

empty_is : (n : List ℕ) → is_empty n ≡ true → n ≡ []
empty_is [] h = refl
empty_is (x ∷ n) h = absurd (true≢false (sym h))

module _ (P : Option (Key × Record) → Type 0) (at_end : P None) where
  -- what holds of nothing and of what was found holds of it where it is such a node
  pub kept_under : (l : Label) (o : Option (Key × Record)) → P o → P (entry_of (node_under l o))
  kept_under l None h = at_end
  kept_under l (Some e) h = by (is_under (side l e.0.label)) (is_empty e.0.name) refl
    where
      by : (b c : Bool) → is_empty e.0.name ≡ c → P (entry_of (picked (b && c) e))
      by false c q = at_end
      by true false q = at_end
      by true true q = subst (λ (n : List ℕ). P (Some (record { label = e.0.label; name = n }, e.1))) (empty_is e.0.name q) h

-- ---- what the code tests

pub not_under : (l : Label) (e : Key × Record) → is_under (side l e.0.label) ≡ false → None ≡ node_under l (Some e)
not_under l e h = ap (λ (b : Bool). picked (b && is_empty e.0.name) e) (sym h)

pub not_own : (l : Label) (e : Key × Record) → is_empty e.0.name ≡ false → None ≡ node_under l (Some e)
not_own l e h = by (is_under (side l e.0.label))
  where
    by : (b : Bool) → None ≡ picked (b && is_empty e.0.name) e
    by true = ap (λ (c : Bool). picked c e) (sym h)
    by false = refl

pub own_under : (l : Label) (e : Key × Record) → is_under (side l e.0.label) ≡ true → is_empty e.0.name ≡ true → Some (e.0.label, e.1) ≡ node_under l (Some e)
own_under l e h g = λ i. picked (sym h i && sym g i) e

pub empty_by_length : (n : List ℕ) → (length n == 0) ≡ is_empty n
empty_by_length [] = refl
empty_by_length (x ∷ n) = grind (arith, common_steps)

-- `set_text` on two trees that agree on what it asks for: it goes the same way on both.
use Rattle.std.specs.Str.{is_utf8}
use Rattle.std.specs.List.{AllByRecursion}
use Rattle.std.proofs.Common.{◌≡◌, ℕ, Bool, true, false, not, if◌then◌else◌, ◌&&◌, List, [], ◌∷◌, ◌++◌, map, Some, is_some, is_eq, refl, sym, ap, subst}
use Rattle.std.proofs.Common.{◌∙◌, true≢false, ⊎_elim}
use Rattle.dewey_labels.specs.Labels.{Label, is_label}
use Rattle.dewey_labels.specs.Sides.{under, side, is_in, is_under}
use Rattle.dewey_labels.specs.NewLabels.{first_division}
use Rattle.dewey_labels.specs.Lists.{is_empty}
use Rattle.lock_modes.specs.declared.mode.Mode.TheVariants.{SX}
use Rattle.lock_resources.specs.declared.resource.Resource.TheVariants.{Node}
use Rattle.lock_resources.specs.declared.request.Request.{Request}
use Rattle.lock_resources.specs.Intentions.{with_intentions}
use Rattle.tree_model.specs.declared.record.Record.TheVariants.{Document, Element, Text, Attr as AttrRecord}
use Rattle.tree_model.specs.declared.change.Change.{Change}
use Rattle.tree_model.specs.declared.reply.Reply.TheVariants.{Refused, Nothing}
use Rattle.tree_model.specs.declared.refusal.Refusal.TheVariants.{TooDeep, TextLimit, LabelLimit}
use Rattle.tree_model.specs.Limits.{is_too_long}
use Rattle.tree_model.specs.Keys.{key_cmp, node_key}
use Rattle.tree_model.specs.Entries.{Entries, changed}
use Rattle.tree_model.specs.Tree.{Forest, none, node, entries_of, Tree, map_of, at, found, below}
use Rattle.tree_model.specs.ValidTrees.{IsValidTree}
use Rattle.tree_model.specs.Graft.{graft, all_within}
use Rattle.tree_model.specs.Outcomes.{Outcome, refused, see_in}
use Rattle.tree_model.specs.NodeKinds.{is_document, is_text_node}
use Rattle.tree_model.specs.Edits.{edited, with_record, with_children}
use Rattle.tree_model.specs.Texts.{with_data, text_below, set_text_of, set_text}
use Rattle.tree_model.specs.Placing.{is_too_deep}
use Rattle.tree_model.specs.Changes.{put_change, drop_change}
use Rattle.tree_model.proofs.Split.{Labelled, SideIs, all_under}
use Rattle.tree_model.proofs.WholeTree.{map_sorted, there_in_tree}
use Rattle.tree_model.proofs.PlaceLaws.{below_keys, found_or_not}
use Rattle.tree_changes.specs.ValidCalls.{IsValidCall}
use Rattle.tree_changes.proofs.EditedMaps.{with_label, stretch_changes, children_stretch}
use Rattle.tree_changes.proofs.Cases.{not_false}
use Rattle.tree_changes.proofs.InPlace.{record_puts}
use Rattle.tree_changes.proofs.ContentLaws.{set_text_keeps, new_text_keys}
use Rattle.tree_cells.specs.Cells.{Cell, node_cell, attr_cell, edge_cell}
use Rattle.tree_cells.specs.Covers.{writes}
use Rattle.tree_cells.proofs.KeyChanges.{Unchanged, set_over_none, get_in_changed}
use Rattle.tree_cells.proofs.SameTrees.{alone, subtree_same, key_is}
use Rattle.lock_plans.specs.DomPlans.{run}
use Rattle.dom_laws.proofs.Same.{Same, same_asks, same_answers}
use Rattle.tree_cells.proofs.Seen.{taken_seen}
use Rattle.dom_laws.proofs.RecordKinds.{document_same_kind, text_same_kind}
use Rattle.dom_laws.proofs.StepLaws.{seen_at, same_see}
use Rattle.dom_laws.proofs.Changes.{HasKey, AreCovered, same_in_place, taken}
use Rattle.dom_laws.proofs.WriteLaws.{node_put, node_covered}
use Rattle.dom_laws.proofs.GapChanges.{same_rebuilt}
use Rattle.lock_modes.specs.declared.ask.Ask.TheVariants as ask
use Rattle.tree_model.specs.declared.dom_call.DomCall.TheVariants as call

-- ---- the map with other children

-- the changes that put other children in place of a node's
abbrev pub rebuilds : Forest → Forest → List Change
rebuilds old new = map drop_change (entries_of old) ++ map put_change (entries_of new)

pub children_changed : (l : Label) (new : Forest) (t : Tree) → IsValidTree t → IsValidTree (edited l (with_children new) t) → found (at l t.documents) ≡ true
    → map_of (edited l (with_children new) t) ≡ changed (rebuilds (below (at l t.documents)) new) (map_of t)
children_changed l new t w v y = with_label (λ g. map_of (edited l (with_children new) t) ≡ changed (rebuilds (below g) new) (map_of t)) l t y (λ r ats ch nx e.
    stretch_changes (entries_of ch) (entries_of new) t (edited l (with_children new) t) (map_sorted t w) (map_sorted (edited l (with_children new) t) v)
    (children_stretch l (with_children new) t r ats ch nx e new refl))

-- ---- its keys lie under the node

abbrev pub Under : Label → Change → Type 0
Under l c = is_under (side l c.key.label) ≡ true

pub all_join : (P : Change → Type 0) (xs ys : List Change) → AllByRecursion P xs → AllByRecursion P ys → AllByRecursion P (xs ++ ys)
all_join = Rattle.tree_model.proofs.Lists.all_append

pub drops_under : (l : Label) (xs : Entries) → AllByRecursion (Labelled (SideIs l under)) xs → AllByRecursion (Under l) (map drop_change xs)
drops_under l [] h = tt
drops_under l (x ∷ xs) h = (ap is_under h.0, drops_under l xs h.1)

pub puts_under : (l : Label) (xs : Entries) → AllByRecursion (Labelled (SideIs l under)) xs → AllByRecursion (Under l) (map put_change xs)
puts_under l [] h = tt
puts_under l (x ∷ xs) h = (ap is_under h.0, puts_under l xs h.1)

unchanged_above : (l m : Label) (cs : List Change) → is_under (side l m) ≡ false → AllByRecursion (Under l) cs → Unchanged (node_key m) cs
unchanged_above l m [] o h = tt
unchanged_above l m (c ∷ cs) o h = (
  ⊎_elim (λ e. absurd (true≢false (sym h.0 ∙ subst (λ k. is_under (side l k.label) ≡ false) (key_is (node_key m) c.key e) o))) (λ e. e)
      (found_or_not (is_eq (key_cmp (node_key m) c.key))),
  unchanged_above l m cs o h.1,
)

pub under_covered : (acc : List Request) (l : Label) (cs : List Change) → AllByRecursion (Under l) cs
    → AreCovered (acc ++ with_intentions (Node l) (ask.Node SX)) cs
under_covered acc l [] h = tt
under_covered acc l (c ∷ cs) h = (one, under_covered acc l cs h.1)
  where
    inside : is_in (side l c.key.label) ≡ true
    inside = Rattle.tree_cells.proofs.Insertions.under_is_in (side l c.key.label) h.0

    one : (x : Cell) → HasKey x c.key → writes (acc ++ with_intentions (Node l) (ask.Node SX)) x ≡ true
    one (node_cell m) e = taken acc l (node_cell m) (subst (λ k. is_in (side l k.label) ≡ true) e inside)
    one (attr_cell m n) e = taken acc l (attr_cell m n) (subst (λ k. is_in (side l k.label) ≡ true) e inside)
    one (edge_cell m s) e = absurd e

pub rebuilt_found : (l m : Label) (cs : List Change) (t t' : Tree) → IsValidTree t → IsValidTree t' → AllByRecursion (Under l) cs
    → map_of t' ≡ changed cs (map_of t) → is_under (side l m) ≡ false → found (at m t'.documents) ≡ found (at m t.documents)
rebuilt_found l m cs t t' w v h e o = sym (there_in_tree m t' v)
    ∙ ap is_some (get_in_changed (node_key m) cs t t' w e ∙ set_over_none (node_key m) cs _ (unchanged_above l m cs o h)) ∙ there_in_tree m t w

neither : (a : Bool) {b : Bool} → b ≡ false → (a && b) ≡ false
neither true e = e
neither false e = refl

-- ---- the text of an element

module _ (l : Label) (d : List ℕ) (u8 : is_utf8 d ≡ true) where
  abbrev new : Forest
  new = graft (l ++ (first_division ∷ [])) (text_below d) none

  abbrev tests : Tree → Bool → Bool → Bool → Outcome
  tests t s b a = if s then refused TooDeep t else if b then refused TextLimit t else if a then (Nothing, edited l (with_children new) t) else refused
      LabelLimit t

  abbrev out : Tree → Forest → Outcome
  out t g = see_in t (set_text_of l d t) g

  -- an element is given the text
  element_is : (t : Tree) (g : Forest) → found g ≡ true → is_document g ≡ false → is_text_node g ≡ false
      → out t g ≡ tests t (not (is_empty d) && is_too_deep l (text_below d)) (is_too_long d) (all_within new)
  element_is t none y a b = absurd (true≢false (sym y))
  element_is t (node m Document ats ch nx) y a b = absurd (true≢false a)
  element_is t (node m (Text x) ats ch nx) y a b = absurd (true≢false b)
  element_is t (node m (Element n) ats ch nx) y a b = refl
  element_is t (node m (AttrRecord v) ats ch nx) y a b = refl

  text_is : (t : Tree) (g : Forest) → found g ≡ true → is_text_node g ≡ true → out t g ≡ with_data l t d
  text_is t none y b = absurd (true≢false (sym y))
  text_is t (node m Document ats ch nx) y b = absurd (true≢false (sym b))
  text_is t (node m (Text x) ats ch nx) y b = refl
  text_is t (node m (Element n) ats ch nx) y b = absurd (true≢false (sym b))
  text_is t (node m (AttrRecord v) ats ch nx) y b = absurd (true≢false (sym b))

  -- ---- the call

  -- ---- the end of the list

  below_alone : (f : Forest) → below f ≡ below (alone f)
  below_alone none = refl
  below_alone (node m r ats ch nx) = refl

  rebuilt_under : (t : Tree) → IsValidTree t → is_too_long d ≡ false → all_within new ≡ true
      → AllByRecursion (Under l) (rebuilds (below (at l t.documents)) new)
  rebuilt_under t w b a = all_join (Under l) (map drop_change (entries_of (below (at l t.documents)))) (map put_change (entries_of new))
      (drops_under l (entries_of (below (at l t.documents))) (all_under l l (below (at l t.documents)) (below_keys l t w)))
      (puts_under l (entries_of new) (all_under l l new (new_text_keys l d u8 b a)))

  module _ (i : is_label l ≡ true) (t u : Tree) (w : IsValidTree t) (v : IsValidTree u) (y : found (at l t.documents) ≡ true)
      (z : found (at l u.documents) ≡ true) (b : is_too_long d ≡ false) (acc : List Request)
      (agree : Rattle.tree_cells.specs.Covers.Agree (acc ++ with_intentions (Node l) (ask.Node SX)) t u) where
    of_text : is_text_node (at l t.documents) ≡ true → is_text_node (at l u.documents) ≡ true
        → Same (acc ++ with_intentions (Node l) (ask.Node SX)) t u (Rattle.lock_plans.specs.Plans.ends (set_text l d t))
        (Rattle.lock_plans.specs.Plans.ends (set_text l d u))
    of_text kt ku =
        let it : set_text l d t ≡ (Nothing, edited l (with_record (Text d)) t) = text_is t (at l t.documents) y kt
        ∙ ap (λ x. if x then refused TextLimit t else (Nothing, edited l (with_record (Text d)) t)) b in
        let iu : set_text l d u ≡ (Nothing, edited l (with_record (Text d)) u) = text_is u (at l u.documents) z ku
        ∙ ap (λ x. if x then refused TextLimit u else (Nothing, edited l (with_record (Text d)) u)) b in
        let cs : List Change = record { key = node_key l; now = Some (Text d) } ∷ [] in
        let wt = set_text_keeps l d t w u8 in
        let wu = set_text_keeps l d u v u8 in
        let mt : map_of (set_text l d t).1 ≡ changed cs (map_of t) = ap (λ o. map_of o.1) it ∙ record_puts l (Text d) t w y in
        let mu : map_of (set_text l d u).1 ≡ changed cs (map_of u) = ap (λ o. map_of o.1) iu ∙ record_puts l (Text d) u v z in
        same_in_place _ t u w v agree (set_text l d t) (set_text l d u) cs mt mu (node_covered acc l, tt) (ap (λ o. o.0) it ∙ sym (ap (λ o. o.0) iu)) wt wu
        (λ m. node_put l m (Text d) t (set_text l d t).1 w wt y mt) (λ m. node_put l m (Text d) u (set_text l d u).1 v wu z mu)

    of_element : is_document (at l t.documents) ≡ false → is_document (at l u.documents) ≡ false → is_text_node (at l t.documents) ≡ false
        → is_text_node (at l u.documents) ≡ false → is_too_deep l (text_below d) ≡ false → all_within new ≡ true
        → Same (acc ++ with_intentions (Node l) (ask.Node SX)) t u (Rattle.lock_plans.specs.Plans.ends (set_text l d t))
        (Rattle.lock_plans.specs.Plans.ends (set_text l d u))
    of_element dt du kt ku s a =
        let deep : (not (is_empty d) && is_too_deep l (text_below d)) ≡ false = neither (not (is_empty d)) s in
        let it : set_text l d t ≡ (Nothing, edited l (with_children new) t) = element_is t (at l t.documents) y dt kt ∙ (λ k. tests t (deep k) (b k) (a k)) in
        let iu : set_text l d u ≡ (Nothing, edited l (with_children new) u) = element_is u (at l u.documents) z du ku ∙ (λ k. tests u (deep k) (b k) (a k)) in
        let wt : IsValidTree (edited l (with_children new) t) = subst (λ (o : Outcome). IsValidTree o.1) it (set_text_keeps l d t w u8) in
        let wu : IsValidTree (edited l (with_children new) u) = subst (λ (o : Outcome). IsValidTree o.1) iu (set_text_keeps l d u v u8) in
        let cs = rebuilds (below (at l t.documents)) new in
        let whole : alone (at l t.documents) ≡ alone (at l u.documents) = subtree_same l t u w v y z (taken_seen acc l t u agree) in
        let belows : below (at l u.documents) ≡ below (at l t.documents) = below_alone (at l u.documents) ∙ ap below (sym whole)
        ∙ sym (below_alone (at l t.documents)) in
        let mt : map_of (edited l (with_children new) t) ≡ changed cs (map_of t) = children_changed l new t w wt y in
        let mu : map_of (edited l (with_children new) u) ≡ changed cs (map_of u) = children_changed l new u v wu z
        ∙ ap (λ g. changed (rebuilds g new) (map_of u)) belows in
        let unders = rebuilt_under t w b a in
        subst (λ (o : Outcome). Same (acc ++ with_intentions (Node l) (ask.Node SX)) t u (Rattle.lock_plans.specs.Plans.ends o)
        (Rattle.lock_plans.specs.Plans.ends (set_text l d u))) (sym it)
        (subst (λ (o : Outcome). Same (acc ++ with_intentions (Node l) (ask.Node SX)) t u
        (Rattle.lock_plans.specs.Plans.ends (Nothing, edited l (with_children new) t)) (Rattle.lock_plans.specs.Plans.ends o)) (sym iu)
        (same_rebuilt _ t u w v agree (Nothing, edited l (with_children new) t) (Nothing, edited l (with_children new) u) wt wu cs mt mu
        (under_covered acc l cs unders)
        l i (λ x inside. taken acc l x inside)
        (λ m o. rebuilt_found l m cs t (edited l (with_children new) t) w wt unders mt o)
        (λ m o. rebuilt_found l m cs u (edited l (with_children new) u) v wu unders mu o) refl))

not_both : (k s : Bool) → k ≡ false → (not k && s) ≡ false → s ≡ false
not_both true s e h = absurd (true≢false e)
not_both false s e h = h

pub set_text_same : (l : Label) (d : List ℕ) → IsValidCall (call.SetText l d) → (t u : Tree) → IsValidTree t → IsValidTree u
    → Same [] t u (run (call.SetText l d) t) (run (call.SetText l d) u)
set_text_same l d valid t u w v =
    same_see [] l t u w v _ _ valid.labels.0.0 (λ e y z.
    let kinds = text_same_kind (at l t.documents) (at l u.documents) e in
    let acc = seen_at [] l in
    same_answers acc t u (is_document (at l t.documents)) (is_document (at l u.documents)) Nothing _ _ (document_same_kind _ _ e) (λ dt du.
    same_answers acc t u (not (is_text_node (at l t.documents)) && is_too_deep l (text_below d))
    (not (is_text_node (at l u.documents)) && is_too_deep l (text_below d)) (Refused TooDeep) _ _ (ap (λ k. not k && is_too_deep l (text_below d)) kinds)
    (λ st su.
    same_answers acc t u (is_too_long d) (is_too_long d) (Refused TextLimit) _ _ refl (λ b _.
    same_asks acc t u (Node l) (ask.Node SX) _ _ refl valid.labels.0.0 (λ agree.
    same_answers (acc ++ with_intentions (Node l) (ask.Node SX)) t u (not (is_text_node (at l t.documents)) && not (all_within (new l d valid.text)))
    (not (is_text_node (at l u.documents)) && not (all_within (new l d valid.text))) (Refused LabelLimit) _ _
    (ap (λ k. not k && not (all_within (new l d valid.text))) kinds) (λ at_ au.
    ⊎_elim
    (λ k. of_text l d valid.text valid.labels.0.0 t u w v y z b acc agree k (sym kinds ∙ k))
    (λ k. of_element l d valid.text valid.labels.0.0 t u w v y z b acc agree dt du k (sym kinds ∙ k) (not_both (is_text_node (at l t.documents)) _ k st)
    (not_false (all_within (new l d valid.text)) (not_both (is_text_node (at l t.documents)) _ k at_)))
    (found_or_not (is_text_node (at l t.documents)))))))))

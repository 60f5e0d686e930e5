-- `append` keeps a tree valid.
use Rattle.std.proofs.Common.{◌≡◌, ℕ, ◌+◌, ◌≤◌, Bool, true, false, ◌||◌, if◌then◌else◌, nat_lt, List, [], ◌++◌, Option, Some, None, is_some, Less, nat_cmp, refl, sym, ap, subst, ◌∙◌, append_assoc, arith, true≢false}
use Rattle.std.proofs.lemmas.Bool.Decides.{nat_tests}
use Rattle.std.specs.Cmp.Lexicographic.{slice_cmp}
use Rattle.std.specs.Ordering.{ordering_then}
use Rattle.std.specs.List.{AllByRecursion}
use Rattle.dewey_labels.specs.Sides.{under, side, is_in, ahead}
use Rattle.dewey_labels.specs.Labels.{Label, root, is_child, is_label, level}
use Rattle.dewey_labels.specs.NewLabels.{new_label, new_divisions, first_division}
use Rattle.dewey_labels.proofs.Sides.{under_before, under_above, in_under}
use Rattle.dewey_labels.proofs.Codes.{child_under}
use Rattle.dewey_labels.proofs.Labels.{level_of_child, child_label}
use Rattle.dewey_labels.proofs.NewLabels.{new_child, new_behind, new_label_is}
use Rattle.tree_model.specs.declared.record.Record.{Record}
use Rattle.tree_model.specs.declared.record.Record.TheVariants.{Document, Element, Text, Attr}
use Rattle.tree_model.specs.declared.reply.Reply.TheVariants.{Place}
use Rattle.tree_model.specs.declared.refusal.Refusal.TheVariants.{Dom, TooDeep, LabelLimit}
use Rattle.tree_model.specs.Limits.{deepest_level}
use Rattle.tree_model.specs.Names.{Name}
use Rattle.tree_model.specs.Tree.{Attributes, Forest, none, node, own, entries_of, Tree, map_of, at, found, labels, head_label, last_label, then_trees}
use Rattle.tree_model.specs.inside.FoundNodes.{up, low}
use Rattle.tree_model.specs.ValidTrees.{KeysRise, KindsAllowed, LimitsKept, IsValidTree, may_stand}
use Rattle.tree_model.specs.Fragments.{Fragments, no_more, element, text, IsValid, depth, is_text_fragment}
use Rattle.tree_model.specs.Graft.{graft_below, graft, all_within}
use Rattle.tree_model.specs.Outcomes.{Outcome, refused, see_in, hierarchy_request_err}
use Rattle.tree_model.specs.NodeKinds.{is_text_node}
use Rattle.tree_model.specs.Edits.{edited}
use Rattle.tree_model.specs.Placing.{is_full, is_too_deep, place, with_last, as_place, append_to, append}
use Rattle.tree_model.specs.Entries.{Entries, Below, Above, put_all}
use Rattle.std.specs.Option.{option_or}
use Rattle.tree_model.proofs.Lists.{all_append, all_on, all_by}
use Rattle.tree_model.proofs.Split.{Labelled, SideIs, SideIn, own_all, all_under, all_right, tree_in, before_of, after_of, all_ahead}
use Rattle.tree_model.proofs.Sorted.{entries_sorted}
use Rattle.tree_model.proofs.Removals.{all_below_each}
use Rattle.tree_model.proofs.WholeTree.{catalogue_entries, at_root, found_under}
use Rattle.tree_model.proofs.PutTrees.{all_above_each, put_in_place}
use Rattle.tree_model.proofs.Found.{some_is, at_keys, at_label, all_right_of_up}
use Rattle.tree_model.proofs.Edits.{over}
use Rattle.tree_model.proofs.Joins.{end_of, end_of_empty, end_of_last, entries-then_trees, keys-then_trees, kinds-then_trees, limits-then_trees}
use Rattle.tree_model.proofs.Ends.{last_is_child, all_ahead_of}
use Rattle.tree_model.proofs.Grafts.{keys-graft, kinds-graft_below, limits-graft}
use Rattle.tree_model.proofs.EditedTrees.{labels-edit, edited_keeps, found_label}

-- ---- the label of a new last child

pub record IsNewLast (p : Label) (ch : Forest) (new : Label) : Type 0 where
  pub is_child_of : is_child p new ≡ true
  pub last : slice_cmp nat_cmp (end_of p ch) new ≡ Less

pub new_last : (p new : Label) (ch : Forest) → KeysRise p p ch → new_label p (last_label ch) None ≡ Some new → IsNewLast p ch new
new_last p new ch w h = elim (last_label ch) as (λ o. last_label ch ≡ o → new_label p o None ≡ Some new → IsNewLast p ch new) [
  | None ↦ λ e g. let is = new_label_is p new None None g in let c : is_child p (new_divisions p None None) ≡ true = new_child p None None tt in record {
    is_child_of = subst (λ v. is_child p v ≡ true) (sym is.0) c;
    last = subst (λ v. slice_cmp nat_cmp v new ≡ Less) (sym (end_of_empty p ch e)) (subst (λ v. slice_cmp nat_cmp p v ≡ Less) (sym is.0) (under_before p (new_divisions p None None) (child_under p (new_divisions p None None) c)));
  }
  | Some m ↦ λ e g. let is = new_label_is p new (Some m) None g in let c = last_is_child p p m ch w e in record {
    is_child_of = subst (λ v. is_child p v ≡ true) (sym is.0) (new_child p (Some m) None c);
    last = subst (λ v. slice_cmp nat_cmp v new ≡ Less) (sym (end_of_last p m ch e)) (subst (λ v. slice_cmp nat_cmp m v ≡ Less) (sym is.0) (new_behind p m None c));
  }
] refl h

-- ---- kinds

-- one fragment below an element, and an element below a document
kinds_below_element : (n : Name) (l : Label) (f : Fragments) → KindsAllowed (Some (Element n)) (graft l f none)
kinds_below_element n l no_more = tt
kinds_below_element n l (element m ats ch nx) = (refl, refl, refl, kinds-graft_below m l first_division ch, tt)
kinds_below_element n l (text t nx) = (refl, refl, refl, tt, tt)

pub kinds_below_document : (l : Label) (f : Fragments) → is_text_fragment f ≡ false → KindsAllowed (Some Document) (graft l f none)
kinds_below_document l no_more h = tt
kinds_below_document l (element m ats ch nx) h = (refl, refl, refl, kinds-graft_below m l first_division ch, tt)
kinds_below_document l (text t nx) h = absurd (true≢false h)

-- no record of an attribute stands in the tree
pub no_attribute : (p : Option Record) (v : List ℕ) → may_stand p (Attr v) ≡ true → ⊥
no_attribute None v h = cc
no_attribute (Some Document) v h = cc
no_attribute (Some (Element n)) v h = cc
no_attribute (Some (Text t)) v h = cc
no_attribute (Some (Attr u)) v h = cc

-- ---- the place of the parent

-- a new last child keeps the keys
with_last_keys : (q b p new : Label) (r : Record) (ats : Attributes) (ch nx : Forest) (f : Fragments) → IsNewLast p ch new → all_within (graft new f none) ≡ true → IsValid f → KeysRise q b (node p r ats ch nx) → KeysRise q b (node p r ats (then_trees ch (graft new f none)) nx)
with_last_keys q b p new r ats ch nx f is h valid w = (w.0, w.1, w.2, w.3, keys-then_trees p p ch (graft new f none) w.4 (keys-graft p (end_of p ch) new f none is.is_child_of is.last h valid tt tt), w.5)

-- the kinds, where the parent takes it
with_last_kinds : (q : Option Record) (p new : Label) (r : Record) (ats : Attributes) (ch nx : Forest) (f : Fragments) → (is_text_node (node p r ats ch nx) || is_full f (node p r ats ch nx)) ≡ false → KindsAllowed q (node p r ats ch nx) → KindsAllowed q (node p r ats (then_trees ch (graft new f none)) nx)
with_last_kinds q p new (Element n) ats ch nx f h w = (w.0, w.1, w.2, kinds-then_trees (Some (Element n)) ch (graft new f none) (λ _. refl) w.3 (kinds_below_element n new f), w.4)
with_last_kinds q p new (Text t) ats ch nx f h w = absurd (true≢false h)
with_last_kinds q p new (Attr v) ats ch nx f h w = absurd (no_attribute q v w.0)
with_last_kinds q p new Document ats none nx f h w = (w.0, w.1, w.2, kinds_below_document new f (first_of_neither (is_text_fragment f) false h), w.4)
  where
    first_of_neither : (a b : Bool) → (a || b) ≡ false → a ≡ false
    first_of_neither true b e = e
    first_of_neither false b e = refl
with_last_kinds q p new Document ats (node l r ats' ch nx') nx f h w = absurd (true≢false (sym (has_last (last_label nx') l) ∙ second_of_neither (is_text_fragment f) _ h))
  where
    second_of_neither : (a b : Bool) → (a || b) ≡ false → b ≡ false
    second_of_neither true b e = absurd (true≢false e)
    second_of_neither false b e = e

    has_last : (o : Option Label) (l : Label) → is_some (option_or o (Some l)) ≡ true
    has_last None l = refl
    has_last (Some m) l = refl

-- the limits, where the parent lies high enough
with_last_limits : (p new : Label) (r : Record) (ats : Attributes) (ch nx : Forest) (f : Fragments) → is_label p ≡ true → is_child p new ≡ true → is_too_deep p f ≡ false → IsValid f → LimitsKept (node p r ats ch nx) → LimitsKept (node p r ats (then_trees ch (graft new f none)) nx)
with_last_limits p new r ats ch nx f h c shallow valid w =
    let fits : level p + depth f ≤ deepest_level = let e : nat_lt deepest_level (level p + depth f) ≡ false = shallow in grind (arith, nat_tests) in
    (w.0, w.1, w.2, limits-then_trees ch (graft new f none) w.3 (limits-graft p new f none (level_of_child p new h c) (child_label p new h c) fits valid tt), w.4)

same_labels : (f : Fragments) (new : Label) (g : Forest) → labels (with_last f new g) ≡ labels g
same_labels f new none = refl
same_labels f new (node l r ats ch nx) = refl

appended_keeps : (p new : Label) (r : Record) (ats : Attributes) (ch nx : Forest) (f : Fragments) (t : Tree) → IsValidTree t → IsValid f → at p t.documents ≡ node p r ats ch nx
    → (is_text_node (node p r ats ch nx) || is_full f (node p r ats ch nx)) ≡ false → is_too_deep p f ≡ false → new_label p (last_label ch) None ≡ Some new → all_within (graft new f none) ≡ true
    → IsValidTree (edited p (with_last f new) t)
appended_keeps p new r ats ch nx f t w valid e taken shallow label within =
    let there = at_keys root root p t.documents w.keys in
    let v : KeysRise (up p root t.documents) there.0 (node p r ats ch nx) = subst (KeysRise (up p root t.documents) there.0) e there.1 in
    let is : IsNewLast p ch new = new_last p new ch v.4 label in
    let labelled : is_label p ≡ true = found_label p t.documents w.keys (ap found e) in
    edited_keeps p (with_last f new) t w (record {
      documents = labels-edit p (with_last f new) t.documents (same_labels f new);
      keys = subst (λ g. KeysRise (up p root t.documents) (low p root t.documents) g → KeysRise (up p root t.documents) (low p root t.documents) (with_last f new g)) (sym e) (with_last_keys (up p root t.documents) (low p root t.documents) p new r ats ch nx f is within valid);
      kinds = subst (λ g. KindsAllowed (over p None t.documents) g → KindsAllowed (over p None t.documents) (with_last f new g)) (sym e) (with_last_kinds (over p None t.documents) p new r ats ch nx f taken);
      limits = subst (λ g. LimitsKept g → LimitsKept (with_last f new g)) (sym e) (with_last_limits p new r ats ch nx f labelled is.is_child_of shallow valid);
    })

-- ---- the call

pub append_keeps : (p : Label) (f : Fragments) (t : Tree) → IsValidTree t → IsValid f → IsValidTree (append p f t).1
append_keeps p f t w valid = elim (at p t.documents) as (λ g. at p t.documents ≡ g → (found g ≡ true → head_label g ≡ Some p) → IsValidTree (see_in t (append_to p f t) g).1) [
  | none ↦ λ _ _. w
  | node m r ats ch nx ↦ λ e q. let m_is : m ≡ p = some_is m p (q refl) in subst (λ z. at p t.documents ≡ node z r ats ch nx → IsValidTree (append_to p f t (node z r ats ch nx)).1) (sym m_is) (by r ats ch nx) e
] refl (at_label p t.documents)
  where
    placed : (r : Record) (ats : Attributes) (ch nx : Forest) → at p t.documents ≡ node p r ats ch nx → (is_text_node (node p r ats ch nx) || is_full f (node p r ats ch nx)) ≡ false → is_too_deep p f ≡ false → (o : Option Label) → new_label p (last_label ch) None ≡ o → IsValidTree (place f o (with_last f) as_place p t).1
    placed r ats ch nx e taken shallow None label = w
    placed r ats ch nx e taken shallow (Some new) label = elim (all_within (graft new f none)) as (λ b. all_within (graft new f none) ≡ b → IsValidTree (if b then (as_place new, edited p (with_last f new) t) else refused LabelLimit t).1) [
      | true ↦ λ within. appended_keeps p new r ats ch nx f t w valid e taken shallow label within
      | false ↦ λ _. w
    ] refl

    by : (r : Record) (ats : Attributes) (ch nx : Forest) → at p t.documents ≡ node p r ats ch nx → IsValidTree (append_to p f t (node p r ats ch nx)).1
    by r ats ch nx e = elim (is_text_node (node p r ats ch nx) || is_full f (node p r ats ch nx)) as (λ b. (is_text_node (node p r ats ch nx) || is_full f (node p r ats ch nx)) ≡ b → IsValidTree (if b then refused (Dom hierarchy_request_err) t else if is_too_deep p f then refused TooDeep t else place f (new_label p (last_label ch) None) (with_last f) as_place p t).1) [
      | true ↦ λ _. w
      | false ↦ λ taken. elim (is_too_deep p f) as (λ b. is_too_deep p f ≡ b → IsValidTree (if b then refused TooDeep t else place f (new_label p (last_label ch) None) (with_last f) as_place p t).1) [
        | true ↦ λ _. w
        | false ↦ λ shallow. placed r ats ch nx e taken shallow (new_label p (last_label ch) None) refl
      ] refl
    ] refl

-- ---- the map

-- below all of one list and all of another one
below_both : (a b s : Entries) → AllByRecursion (λ x. AllByRecursion (Below x.0) a) s → AllByRecursion (λ x. AllByRecursion (Below x.0) b) s → AllByRecursion (λ x. AllByRecursion (Below x.0) (a ++ b)) s
below_both a b s g h = all_by (λ x. AllByRecursion (Below x.0) a) (λ x. AllByRecursion (Below x.0) b) (λ x. AllByRecursion (Below x.0) (a ++ b)) (λ x k l. all_append (Below x.0) a b k l) s g h

-- and above
above_both : (a b s : Entries) → AllByRecursion (λ x. AllByRecursion (Above x.0) a) s → AllByRecursion (λ x. AllByRecursion (Above x.0) b) s → AllByRecursion (λ x. AllByRecursion (Above x.0) (a ++ b)) s
above_both a b s g h = all_by (λ x. AllByRecursion (Above x.0) a) (λ x. AllByRecursion (Above x.0) b) (λ x. AllByRecursion (Above x.0) (a ++ b)) (λ x k l. all_append (Above x.0) a b k l) s g h

-- the entries of one tree lie in its label
pub graft_in : (p new : Label) (f : Fragments) → KeysRise p p (graft new f none) → AllByRecursion (Labelled (SideIn new)) (entries_of (graft new f none))
graft_in p new no_more k = tt
graft_in p new (element n ats ch nx) k = all_append (Labelled (SideIn new)) (own new (Element n) ats ++ entries_of (graft_below new first_division ch)) [] (tree_in p p new (Element n) ats (graft_below new first_division ch) none k) tt
graft_in p new (text t nx) k = all_append (Labelled (SideIn new)) (own new (Text t) [] ++ []) [] (tree_in p p new (Text t) [] none none k) tt

appended_puts : (p new : Label) (r : Record) (ats : Attributes) (ch nx : Forest) (f : Fragments) (t : Tree) → IsValidTree t → IsValid f → at p t.documents ≡ node p r ats ch nx
    → new_label p (last_label ch) None ≡ Some new → all_within (graft new f none) ≡ true
    → map_of (edited p (with_last f new) t) ≡ put_all (entries_of (graft new f none)) (map_of t)
appended_puts p new r ats ch nx f t w valid e label within =
    let docs = t.documents in
    let there = at_keys root root p docs w.keys in
    let v : KeysRise (up p root docs) there.0 (node p r ats ch nx) = subst (KeysRise (up p root docs) there.0) e there.1 in
    let is : IsNewLast p ch new = new_last p new ch v.4 label in
    let new_under : side p new ≡ under = child_under p new is.is_child_of in
    let s = entries_of (graft new f none) in
    let cat = catalogue_entries t.catalogue in
    let keys : KeysRise p p (graft new f none) = keys-graft p p new f none is.is_child_of (under_before p new new_under) within valid tt tt in
    let s_under : AllByRecursion (Labelled (SideIs p under)) s = all_under p p (graft new f none) keys in
    let s_in : AllByRecursion (Labelled (SideIn p)) s = all_on (Labelled (SideIs p under)) (Labelled (SideIn p)) (λ x h. ap is_in h) s s_under in
    let up_under : side (up p root docs) p ≡ under = child_under (up p root docs) p v.0 in
    let s_in_up : AllByRecursion (Labelled (SideIn (up p root docs))) s = all_on (Labelled (SideIn p)) (Labelled (SideIn (up p root docs))) (λ x h. ap is_in (in_under (up p root docs) p x.0.label up_under h)) s s_in in
    let s_in_new : AllByRecursion (Labelled (SideIn new)) s = graft_in p new f keys in
    let prefix = own p r ats ++ entries_of ch in
    let low_cat = all_below_each p cat s (at_root (λ k. ahead (side p k) ≡ true) (ap ahead (under_above root p (found_under root root p docs w.keys (ap found e)))) t.catalogue) s_in in
    let low_before = all_below_each p (before_of p docs) s (all_ahead root root p docs w.keys) s_in in
    let low_own : AllByRecursion (λ x. AllByRecursion (Below x.0) (own p r ats)) s = all_on (Labelled (SideIs p under)) (λ x. AllByRecursion (Below x.0) (own p r ats)) (λ x h. all_on (Labelled (λ k. k ≡ p)) (Below x.0) (λ y g. ap (λ o. ordering_then o (slice_cmp nat_cmp y.0.name x.0.name)) (subst (λ z. slice_cmp nat_cmp z x.0.label ≡ Less) (sym g) (under_before p x.0.label h))) (own p r ats) (own_all (λ k. k ≡ p) p r ats refl)) s s_under in
    let low_children = all_below_each new (entries_of ch) s (all_ahead_of p p new ch v.4 is.is_child_of is.last) s_in_new in
    let high_next = all_above_each p (entries_of nx) s (all_right (up p root docs) p nx v.0 v.5) s_in in
    let high_after = all_above_each (up p root docs) (after_of p docs) s (all_right_of_up root root p docs w.keys (ap found e)) s_in_up in
    put_in_place p (with_last f new) t prefix s (entries_of nx) (ap found e) (ap entries_of e)
    (ap (λ g. entries_of (with_last f new g)) e ∙ ap (λ c. (own p r ats ++ c) ++ entries_of nx) (entries-then_trees ch (graft new f none)) ∙ regroup_new (own p r ats) (entries_of ch) s (entries_of nx))
    (entries_sorted p p (graft new f none) keys)
    (below_both cat (before_of p docs ++ prefix) s low_cat (below_both (before_of p docs) prefix s low_before (below_both (own p r ats) (entries_of ch) s low_own low_children)))
    (above_both (entries_of nx) (after_of p docs) s high_next high_after)
  where
    regroup_new : (o c s n : Entries) → (o ++ (c ++ s)) ++ n ≡ (o ++ c) ++ (s ++ n)
    regroup_new o c s n = simp append_assoc refl

-- an answered call puts the entries of the fragment's tree, and nothing else
pub append_puts : (p new : Label) (f : Fragments) (t : Tree) → IsValidTree t → IsValid f → (append p f t).0 ≡ Place (Some new) → map_of (append p f t).1 ≡ put_all (entries_of (graft new f none)) (map_of t)
append_puts p new f t w valid = elim (at p t.documents) as (λ g. at p t.documents ≡ g → (found g ≡ true → head_label g ≡ Some p) → Puts (see_in t (append_to p f t) g)) [
  | none ↦ λ _ _. λ h. cc
  | node m r ats ch nx ↦ λ e q. let m_is : m ≡ p = some_is m p (q refl) in subst (λ z. at p t.documents ≡ node z r ats ch nx → Puts (append_to p f t (node z r ats ch nx))) (sym m_is) (by r ats ch nx) e
] refl (at_label p t.documents)
  where
    Puts : Outcome → Type 0
    Puts o = o.0 ≡ Place (Some new) → map_of o.1 ≡ put_all (entries_of (graft new f none)) (map_of t)

    placed : (r : Record) (ats : Attributes) (ch nx : Forest) → at p t.documents ≡ node p r ats ch nx → (o : Option Label) → new_label p (last_label ch) None ≡ o → Puts (place f o (with_last f) as_place p t)
    placed r ats ch nx e None label = λ h. cc
    placed r ats ch nx e (Some k) label = elim (all_within (graft k f none)) as (λ b. all_within (graft k f none) ≡ b → Puts (if b then (as_place k, edited p (with_last f k) t) else refused LabelLimit t)) [
      | true ↦ λ within h. let k_is : k ≡ new = cc in subst (λ z. map_of (edited p (with_last f k) t) ≡ put_all (entries_of (graft z f none)) (map_of t)) k_is (appended_puts p k r ats ch nx f t w valid e label within)
      | false ↦ λ _. λ h. cc
    ] refl

    by : (r : Record) (ats : Attributes) (ch nx : Forest) → at p t.documents ≡ node p r ats ch nx → Puts (append_to p f t (node p r ats ch nx))
    by r ats ch nx e = elim (is_text_node (node p r ats ch nx) || is_full f (node p r ats ch nx)) as (λ b. Puts (if b then refused (Dom hierarchy_request_err) t else if is_too_deep p f then refused TooDeep t else place f (new_label p (last_label ch) None) (with_last f) as_place p t)) [
      | true ↦ λ h. cc
      | false ↦ elim (is_too_deep p f) as (λ b. Puts (if b then refused TooDeep t else place f (new_label p (last_label ch) None) (with_last f) as_place p t)) [
        | true ↦ λ h. cc
        | false ↦ placed r ats ch nx e (new_label p (last_label ch) None) refl
      ]
    ]

-- What is found before a seek key: the last child, and the left neighbour.
use Rattle.std.proofs.Common.{◌≡◌, true, false, cond, [], ◌∷◌, ◌++◌, map, Option, Some, None, Equal, nat_cmp, is_lt, refl, sym, ap, subst, ◌∙◌}
use Rattle.std.specs.Ordering.{ordering_then}
use Rattle.std.specs.Cmp.Lexicographic.{slice_cmp}
use Rattle.std.specs.List.{AllByRecursion}
use Rattle.dewey_labels.specs.Labels.{Label}
use Rattle.dewey_labels.specs.Sides.{above, left, same, under, right, side, is_under, is_in, ahead, rest, first_code}
use Rattle.dewey_labels.proofs.Sides.{same_is, side_itself, in_under, right_before, under_before}
use Rattle.dewey_labels.proofs.Codes.{child_under, cut_in}
use Rattle.tree_model.specs.declared.key.Key.{Key}
use Rattle.tree_model.specs.declared.record.Record.{Record}
use Rattle.tree_model.specs.Names.{Name}
use Rattle.tree_model.specs.Keys.{node_key}
use Rattle.tree_model.specs.Entries.{Entries, Below, Above, last_below}
use Rattle.std.specs.Option.{option_or}
use Rattle.tree_model.specs.inside.Seeks.{behind_tree, if_child}
use Rattle.tree_model.specs.Tree.{Attributes, Forest, none, node, attr_entry, own, entries_of, choose, at, found, prev_of, head_label, last_label}
use Rattle.tree_model.specs.inside.FoundNodes.{up}
use Rattle.tree_model.specs.ValidTrees.{KeysRise}
use Rattle.tree_model.proofs.Lists.{all_append, all_on}
use Rattle.tree_model.proofs.Entries.{NotBelow, above_not_below, last_of, last_below_past, last_below_last}
use Rattle.tree_model.proofs.Split.{own_all, Labelled, SideIs, SideIn, Later, all_right, tree_in, before_of, after_of, split, all_ahead, all_later}
use Rattle.tree_model.proofs.Found.{some_is, at_keys, at_label, Lies}
use Rattle.tree_model.proofs.EntryLimits.{list_itself}
use Rattle.tree_model.proofs.Seeks.{ahead_below_node, later_above}
use Rattle.tree_model.proofs.ForwardReads.{prefix_below, back_above}

-- the first of three that is there
pub or_else_on : {A : Type 0} (x y z : Option A) → option_or (option_or x y) z ≡ option_or x (option_or y z)
or_else_on None y z = refl
or_else_on (Some x) y z = refl

-- nothing to fall back on
pub or_none : {A : Type 0} (o : Option A) → o ≡ option_or o None
or_none None = refl
or_none (Some x) = refl

-- the last of two lists is the last of the second, if it has one
pub last_append : (xs ys : Entries) → last_of (xs ++ ys) ≡ option_or (last_of ys) (last_of xs)
last_append [] ys = or_none (last_of ys)
last_append (x ∷ xs) ys = ap (λ o. option_or o (Some x)) (last_append xs ys) ∙ or_else_on (last_of ys) (last_of xs) (Some x)

-- the last entry of a list that has one, all of whose entries have the property
pub last_has : (P : Key × Record → Type 0) (Q : Option (Key × Record) → Type 0) → ((e : Key × Record) → P e → Q (Some e)) → (x : Key × Record) (xs : Entries) (o : Option (Key × Record)) → AllByRecursion P (x ∷ xs) → Q (option_or (last_of (x ∷ xs)) o)
last_has P Q f x [] o h = f x h.0
last_has P Q f x (y ∷ ys) o h = subst Q (sym (or_else_on (last_of (y ∷ ys)) (Some x) o)) (last_has P Q f y ys (Some x) h.1)

tree_cut : (p lo l : Label) (r : Record) (ats : Attributes) (ch nx : Forest) (o : Option (Key × Record)) → KeysRise p lo (node l r ats ch nx) → if_child p (option_or (last_of (own l r ats ++ entries_of ch)) o) ≡ Some l
tree_cut p lo l r ats ch nx o w = last_has (Labelled (SideIn l)) (λ v. if_child p v ≡ Some l) (λ e h. ap (λ s. cond (is_under s) (Some (p ++ first_code (rest p e.0.label))) None) (in_under p l e.0.label (child_under p l w.0) h) ∙ ap Some (cut_in p l e.0.label w.0 h)) (node_key l, r) (map (attr_entry l) ats ++ entries_of ch) o (tree_in p lo l r ats ch nx w)

-- no child of l lies on the way to l's own entries
pub own_cut : (l : Label) (r : Record) (ats : Attributes) (o : Option (Key × Record)) → if_child l (option_or (last_of (own l r ats)) o) ≡ None
own_cut l r ats o = last_has (Labelled (SideIs l same)) (λ v. if_child l v ≡ None) (λ e h. ap (λ s. cond (is_under s) (Some (l ++ first_code (rest l e.0.label))) None) h) (node_key l, r) (map (attr_entry l) ats) o (own_all (SideIs l same) l r ats (side_itself l))

-- the last child on the way to the last entry of a forest
pub last_found : (p lo : Label) (f : Forest) (o : Option (Key × Record)) → KeysRise p lo f → if_child p (option_or (last_of (entries_of f)) o) ≡ option_or (last_label f) (if_child p o)
last_found p lo none o w = refl
last_found p lo (node c r ats ch nx) o w =
    let tree = own c r ats ++ entries_of ch in
    ap (λ v. if_child p (option_or v o)) (last_append tree (entries_of nx)) ∙ ap (if_child p) (or_else_on (last_of (entries_of nx)) (last_of tree) o) ∙ last_found p c nx (option_or (last_of tree) o) w.5
    ∙ ap (option_or (last_label nx)) (tree_cut p lo c r ats ch nx o w) ∙ sym (or_else_on (last_label nx) (Some c) (if_child p o))

-- the left neighbour on the way to what lies before a found node
pub prev_found : (p lo l : Label) (f : Forest) (o : Option Label) (e : Option (Key × Record)) → KeysRise p lo f → found (at l f) ≡ true → if_child p e ≡ o → if_child (up l p f) (option_or (last_of (before_of l f)) e) ≡ prev_of o l f
prev_found p lo l none o e w y h = cc
prev_found p lo l (node m r ats ch nx) o e w y h =
    elim (side m l) as (λ s. found (choose s none (node m r ats ch nx) (at l ch) (at l nx)) ≡ true → if_child (choose s p p (up l m ch) (up l p nx)) (option_or (last_of (choose s [] [] (own m r ats ++ before_of l ch) ((own m r ats ++ entries_of ch) ++ before_of l nx))) e) ≡ choose s None o (prev_of None l ch) (prev_of (Some m) l nx)) [
      | above ↦ λ q. cc
      | left ↦ λ q. cc
      | same ↦ λ _. h
      | under ↦ λ q. ap (λ v. if_child (up l m ch) (option_or v e)) (last_append (own m r ats) (before_of l ch)) ∙ ap (if_child (up l m ch)) (or_else_on (last_of (before_of l ch)) (last_of (own m r ats)) e) ∙ prev_found m m l ch None (option_or (last_of (own m r ats)) e) w.4 q (own_cut m r ats e)
      | right ↦ λ q. ap (λ v. if_child (up l p nx) (option_or v e)) (last_append (own m r ats ++ entries_of ch) (before_of l nx)) ∙ ap (if_child (up l p nx)) (or_else_on (last_of (before_of l nx)) (last_of (own m r ats ++ entries_of ch)) e) ∙ prev_found p m l nx (Some m) (option_or (last_of (own m r ats ++ entries_of ch)) e) w.5 q (tree_cut p lo m r ats ch nx e w)
    ] y

none_before_empty : (n : Name) → is_lt (slice_cmp nat_cmp n []) ≡ false
none_before_empty [] = refl
none_before_empty (x ∷ n) = refl

-- what lies at or under a label isn't below the node's own key
in_not_below : (l : Label) (e : Key × Record) → SideIn l e.0.label → NotBelow (node_key l) e
in_not_below l e i = elim (side l e.0.label) as (λ s. side l e.0.label ≡ s → is_in s ≡ true → NotBelow (node_key l) e) [
  | above ↦ λ _ h. cc
  | left ↦ λ _ h. cc
  | same ↦ λ s _. ap (λ o. is_lt (ordering_then o (slice_cmp nat_cmp e.0.name []))) (subst (λ v. slice_cmp nat_cmp v l ≡ Equal) (sym (same_is l e.0.label s)) (list_itself l)) ∙ none_before_empty e.0.name
  | under ↦ λ s _. above_not_below (node_key l) e (later_above l [] e (under_before l e.0.label s))
  | right ↦ λ _ h. cc
] refl i

-- nor is what comes behind the found node
pub found_not_below : (p lo l : Label) (f : Forest) → KeysRise p lo f → AllByRecursion (NotBelow (node_key l)) (entries_of (at l f) ++ after_of l f)
found_not_below p lo l f w =
    let k = node_key l in
    let there = at_keys p lo l f w in
    all_append (NotBelow k) (entries_of (at l f)) (after_of l f) (here (at l f) (up l p f) there.0 there.1 (at_label l f)) (all_on (Labelled (Later l)) (NotBelow k) (λ e h. above_not_below k e (later_above l [] e h)) (after_of l f) (all_later p lo l f w))
  where
    here : (g : Forest) (q b : Label) → KeysRise q b g → (found g ≡ true → head_label g ≡ Some l) → AllByRecursion (NotBelow (node_key l)) (entries_of g)
    here none q b v h = tt
    here (node m r ats ch nx) q b v h =
        let e = some_is m l (h refl) in
        let v' : KeysRise q b (node l r ats ch nx) = subst (λ z. KeysRise q b (node z r ats ch nx)) e v in
        let k = node_key l in
        subst (λ z. AllByRecursion (NotBelow k) (entries_of (node z r ats ch nx))) (sym e) (all_append (NotBelow k) (own l r ats ++ entries_of ch) (entries_of nx) (all_on (Labelled (SideIn l)) (NotBelow k) (λ e i. in_not_below l e i) (own l r ats ++ entries_of ch) (tree_in q b l r ats ch nx v')) (all_on (Labelled (SideIs l right)) (NotBelow k) (λ e i. above_not_below k e (later_above l [] e (right_before l e.0.label i))) (entries_of nx) (all_right q l nx v'.0 v'.5)))

-- the left neighbour, by a read before the node
pub prev_law : (p lo l : Label) (f : Forest) → KeysRise p lo f → found (at l f) ≡ true → if_child (up l p f) (last_below (node_key l) (entries_of f)) ≡ prev_of None l f
prev_law p lo l f w y =
    let k = node_key l in
    let lows : AllByRecursion (Below k) (before_of l f) = all_on (Labelled (λ v. ahead (side l v) ≡ true)) (Below k) (ahead_below_node l []) (before_of l f) (all_ahead p lo l f w) in
    ap (λ v. if_child (up l p f) (last_below k v)) (split l f) ∙ ap (if_child (up l p f)) (last_below_past k (before_of l f) _ (found_not_below p lo l f w) ∙ last_below_last k (before_of l f) lows ∙ or_none (last_of (before_of l f))) ∙ prev_found p lo l f None None w y refl

-- ---- the last child

module _ (p l : Label) (r : Record) (ats : Attributes) (ch nx : Forest) (es : Entries) (z : Lies p l r ats ch nx es) where
  -- `last`: from the key above the whole tree
  pub last_child_law : if_child l (last_below (behind_tree l) es) ≡ last_label ch
  last_child_law =
      let k = behind_tree l in
      let prefix = (z.before ++ own l r ats) ++ entries_of ch in
      let back = entries_of nx ++ z.after in
      let lows : AllByRecursion (Below k) prefix = prefix_below p l r ats ch nx es z in
      let highs : AllByRecursion (NotBelow k) back = all_on (Above k) (NotBelow k) (λ e h. above_not_below k e h) back (back_above p l r ats ch nx es z) in
      ap (if_child l) (ap (last_below k) z.whole ∙ last_below_past k prefix back highs ∙ last_below_last k prefix lows ∙ last_append (z.before ++ own l r ats) (entries_of ch))
      ∙ last_found l l ch (last_of (z.before ++ own l r ats)) z.children
      ∙ ap (option_or (last_label ch)) (ap (if_child l) (last_append z.before (own l r ats)) ∙ own_cut l r ats (last_of z.before)) ∙ sym (or_none (last_label ch))

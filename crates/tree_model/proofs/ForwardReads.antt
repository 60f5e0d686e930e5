-- What is found from a seek key: the navigation calls on the tree are reads of its entries.
use Rattle.std.proofs.Common.{◌≡◌, true, cond, [], ◌∷◌, ◌++◌, map, Some, None, Equal, nat_cmp, is_eq, refl, sym, ap, subst, ◌∙◌, append_assoc, is_some}
use Rattle.std.specs.Ordering.{ordering_then}
use Rattle.std.specs.Cmp.Lexicographic.{slice_cmp}
use Rattle.std.specs.List.{AllByRecursion}
use Rattle.dewey_labels.specs.Labels.{Label}
use Rattle.dewey_labels.specs.Sides.{under, right, side, is_under, is_in, ahead}
use Rattle.dewey_labels.proofs.Sides.{side_itself, right_within, right_before, under_before}
use Rattle.dewey_labels.proofs.Codes.{child_under}
use Rattle.tree_model.specs.declared.record.Record.{Record}
use Rattle.tree_model.specs.Keys.{node_key, top_name}
use Rattle.tree_model.specs.Entries.{Entries, Below, Above, get, first_above}
use Rattle.tree_model.specs.inside.Seeks.{behind_attributes, behind_tree, if_under}
use Rattle.tree_model.specs.Tree.{Attributes, Forest, none, node, attr_entry, own, entries_of, at, found, record_of, head_label, first_of, next_of}
use Rattle.tree_model.specs.inside.FoundNodes.{up}
use Rattle.tree_model.specs.ValidTrees.{KeysRise}
use Rattle.tree_model.proofs.Lists.{all_append, all_on, all_by}
use Rattle.tree_model.proofs.Entries.{head_of, get_past, get_none, first_above_past, first_above_head}
use Rattle.tree_model.proofs.Split.{own_all, Labelled, SideIs, SideIn, Later, under_in, all_under, all_right, before_of, after_of, split, all_ahead, all_later}
use Rattle.tree_model.proofs.Found.{some_is, at_label, Lies, lies}
use Rattle.tree_model.proofs.EntryLimits.{Fits, list_itself, own_below_top, own_fit, all_fit}
use Rattle.tree_model.proofs.Seeks.{in_below_tree, ahead_below, ahead_below_node, right_above_tree, later_above}

none_under : (p : Label) (es : Entries) → AllByRecursion (Labelled (SideIs p right)) es → if_under p (head_of es) ≡ None
none_under p [] h = refl
none_under p (e ∷ es) h = ap (λ s. cond (is_under s) (Some e.0.label) None) h.0

-- the first child is what is found behind the attributes, if it lies under the node
first_child_found : (l : Label) (ch : Forest) (es : Entries) → KeysRise l l ch → AllByRecursion (Labelled (SideIs l right)) es → if_under l (head_of (entries_of ch ++ es)) ≡ head_label ch
first_child_found l none es w h = none_under l es h
first_child_found l (node c r ats ch nx) es w h = ap (λ s. cond (is_under s) (Some c) None) (child_under l c w.0)

-- the next sibling likewise, p being the parent
next_found : (p lo : Label) (nx : Forest) (es : Entries) → KeysRise p lo nx → AllByRecursion (Labelled (SideIs p right)) es → if_under p (head_of (entries_of nx ++ es)) ≡ head_label nx
next_found p lo none es w h = none_under p es h
next_found p lo (node c r ats ch nx) es w h = ap (λ s. cond (is_under s) (Some c) None) (child_under p c w.0)

module _ (p l : Label) (r : Record) (ats : Attributes) (ch nx : Forest) (es : Entries) (z : Lies p l r ats ch nx es) where
  -- what lies behind the tree of l, seen from l
  pub behind_right : AllByRecursion (Labelled (SideIs l right)) (entries_of nx ++ z.after)
  behind_right = all_append (Labelled (SideIs l right)) (entries_of nx) z.after (all_right p l nx z.is_child_of z.siblings)
      (all_on (Labelled (SideIs p right)) (Labelled (SideIs l right)) (λ e h. right_within p e.0.label l e.0.label h (under_in p l (child_under p l z.is_child_of)) (ap is_in (side_itself e.0.label))) z.after z.after_right)

  -- `first`: from the node's key with the greatest name
  pub first_child_law : if_under l (first_above (behind_attributes l) es) ≡ head_label ch
  first_child_law =
      let k = behind_attributes l in
      let prefix = z.before ++ own l r ats in
      let back = entries_of ch ++ (entries_of nx ++ z.after) in
      let cut : es ≡ prefix ++ back = z.whole ∙ append_assoc prefix (entries_of ch) _ in
      let lows : AllByRecursion (Below k) prefix = all_append (Below k) z.before (own l r ats) (all_on (Labelled (λ v. ahead (side l v) ≡ true)) (Below k) (ahead_below_node l top_name) z.before z.before_ahead) (own_below_top l r ats z.names) in
      let highs : AllByRecursion (Above k) back = all_append (Above k) (entries_of ch) _ (all_on (Labelled (SideIs l under)) (Above k) (λ e h. later_above l top_name e (under_before l e.0.label h)) (entries_of ch) (all_under l l ch z.children)) (all_on (Labelled (SideIs l right)) (Above k) (λ e h. later_above l top_name e (right_before l e.0.label h)) _ behind_right) in
      ap (if_under l) (ap (first_above k) cut ∙ first_above_past k prefix back lows ∙ first_above_head k back highs) ∙ first_child_found l ch (entries_of nx ++ z.after) z.children behind_right

  -- all up to the end of the tree lies below the key above the tree, and all else above it
  pub prefix_below : AllByRecursion (Below (behind_tree l)) ((z.before ++ own l r ats) ++ entries_of ch)
  prefix_below =
      let k = behind_tree l in
      let tree = own l r ats ++ entries_of ch in
      let in_tree : AllByRecursion (Labelled (SideIn l)) tree = all_append (Labelled (SideIn l)) (own l r ats) (entries_of ch) (own_all (SideIn l) l r ats (ap is_in (side_itself l))) (all_on (Labelled (SideIs l under)) (Labelled (SideIn l)) (λ e h. under_in l e.0.label h) (entries_of ch) (all_under l l ch z.children)) in
      let tree_fits : AllByRecursion Fits tree = all_append Fits (own l r ats) (entries_of ch) (own_fit l r ats z.within z.names) (all_fit l l ch z.children) in
      let tree_low : AllByRecursion (Below k) tree = all_by (Labelled (SideIn l)) Fits (Below k) (λ e i f. in_below_tree l e i f) tree in_tree tree_fits in
      subst (AllByRecursion (Below k)) (sym (append_assoc z.before (own l r ats) (entries_of ch))) (all_append (Below k) z.before tree (all_on (Labelled (λ v. ahead (side l v) ≡ true)) (Below k) (λ e h. ahead_below l _ top_name e h) z.before z.before_ahead) tree_low)

  -- what comes behind the tree lies above the key behind it
  pub back_above : AllByRecursion (Above (behind_tree l)) (entries_of nx ++ z.after)
  back_above = all_on (Labelled (SideIs l right)) (Above (behind_tree l)) (λ e h. right_above_tree l e h) (entries_of nx ++ z.after) behind_right

  -- `next`: from the key above the whole tree
  pub next_law : if_under p (first_above (behind_tree l) es) ≡ head_label nx
  next_law =
      let k = behind_tree l in
      ap (if_under p) (ap (first_above k) z.whole ∙ first_above_past k _ (entries_of nx ++ z.after) prefix_below ∙ first_above_head k (entries_of nx ++ z.after) back_above) ∙ next_found p l nx z.after z.siblings z.after_right

-- ---- from a found node

-- the record at a node's key is the node's
pub get_law : (p lo l : Label) (f : Forest) → KeysRise p lo f → get (node_key l) (entries_of f) ≡ record_of (at l f)
get_law p lo l f w =
    let k = node_key l in
    let lows : AllByRecursion (Below k) (before_of l f) = all_on (Labelled (λ v. ahead (side l v) ≡ true)) (Below k) (ahead_below_node l []) (before_of l f) (all_ahead p lo l f w) in
    let highs : AllByRecursion (Above k) (after_of l f) = all_on (Labelled (Later l)) (Above k) (λ e h. later_above l [] e h) (after_of l f) (all_later p lo l f w) in
    ap (get k) (split l f) ∙ get_past k (before_of l f) _ lows ∙ here (at l f) (at_label l f) highs
  where
    here : (g : Forest) → (found g ≡ true → head_label g ≡ Some l) → AllByRecursion (Above (node_key l)) (after_of l f) → get (node_key l) (entries_of g ++ after_of l f) ≡ record_of g
    here none q h = get_none (node_key l) (after_of l f) h
    here (node m r ats ch nx) q h = ap (λ o. cond (is_eq (ordering_then o Equal)) (Some r) (get (node_key l) (((map (attr_entry m) ats ++ entries_of ch) ++ entries_of nx) ++ after_of l f))) (subst (λ v. slice_cmp nat_cmp l v ≡ Equal) (sym (some_is m l (q refl))) (list_itself l))

some_record : (g : Forest) → is_some (record_of g) ≡ found g
some_record none = refl
some_record (node l r ats ch nx) = refl

-- so a node is there where its key is
pub there_law : (p lo l : Label) (f : Forest) → KeysRise p lo f → is_some (get (node_key l) (entries_of f)) ≡ found (at l f)
there_law p lo l f w = ap is_some (get_law p lo l f w) ∙ some_record (at l f)

-- the first child, by a read from behind the attributes
pub first_law : (p lo l : Label) (f : Forest) → KeysRise p lo f → found (at l f) ≡ true → if_under l (first_above (behind_attributes l) (entries_of f)) ≡ first_of (at l f)
first_law p lo l f w y = elim (at l f) as (λ g. at l f ≡ g → found g ≡ true → if_under l (first_above (behind_attributes l) (entries_of f)) ≡ first_of g) [
  | none ↦ λ _ q. cc
  | node m r ats ch nx ↦ λ e _. first_child_law (up l p f) l r ats ch nx (entries_of f) (lies p lo l m r ats ch nx f w e)
] refl y

-- the right neighbour, by a read from behind the tree
pub next_law_of : (p lo l : Label) (f : Forest) → KeysRise p lo f → found (at l f) ≡ true → if_under (up l p f) (first_above (behind_tree l) (entries_of f)) ≡ next_of (at l f)
next_law_of p lo l f w y = elim (at l f) as (λ g. at l f ≡ g → found g ≡ true → if_under (up l p f) (first_above (behind_tree l) (entries_of f)) ≡ next_of g) [
  | none ↦ λ _ q. cc
  | node m r ats ch nx ↦ λ e _. next_law (up l p f) l r ats ch nx (entries_of f) (lies p lo l m r ats ch nx f w e)
] refl y

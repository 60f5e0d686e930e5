-- The entries of a forest are sorted by key.
use Rattle.std.proofs.Common.{◌≡◌, true, [], ◌∷◌, ◌++◌, map, nat_cmp, sym, ap, subst, ◌∙◌}
use Rattle.std.specs.Ordering.{ordering_then}
use Rattle.std.specs.Cmp.Lexicographic.{slice_cmp}
use Rattle.std.specs.List.{AllByRecursion}
use Rattle.dewey_labels.specs.Labels.{Label}
use Rattle.dewey_labels.specs.Sides.{same, under, right, side, is_in}
use Rattle.dewey_labels.proofs.Sides.{same_is, side_itself, right_within, right_before, under_before}
use Rattle.tree_model.specs.Names.{Name}
use Rattle.tree_model.specs.Keys.{key_at}
use Rattle.tree_model.specs.Entries.{Entries, Above, Sorted}
use Rattle.tree_model.specs.Tree.{Attributes, Forest, none, node, attr_entry, own, entries_of}
use Rattle.tree_model.specs.ValidTrees.{NamesRise, KeysRise}
use Rattle.tree_model.proofs.Lists.{all_on}
use Rattle.tree_model.proofs.Keys.{key_total}
use Rattle.tree_model.proofs.Entries.{sorted_append}
use Rattle.tree_model.proofs.Split.{own_all, Labelled, SideIs, SideIn, Later, all_under, all_right, tree_in}
use Rattle.tree_model.proofs.EntryLimits.{list_itself}

-- entries of two parts, the second of which has later labels
pub apart_by : (P Q : Label → Type 0) → ((a b : Label) → P a → Q b → Later a b) → (xs ys : Entries) → AllByRecursion (Labelled P) xs → AllByRecursion (Labelled Q) ys → AllByRecursion (λ x. AllByRecursion (Above x.0) ys) xs
apart_by P Q f [] ys h g = tt
apart_by P Q f (x ∷ xs) ys h g = (all_on (Labelled Q) (Above x.0) (λ e q. ap (λ o. ordering_then o (slice_cmp nat_cmp x.0.name e.0.name)) (f x.0.label e.0.label h.0 q)) ys g, apart_by P Q f xs ys h.1 g)

-- attributes rise by key, all above the name that they rise from
pub names_above : (lo : Name) (l : Label) (ats : Attributes) → NamesRise lo ats → AllByRecursion (Above (key_at l lo)) (map (attr_entry l) ats) × Sorted (map (attr_entry l) ats)
names_above lo l [] w = (tt, tt)
names_above lo l (a ∷ ats) w =
    let r = names_above a.0 l ats w.2 in
    let here : Above (key_at l lo) (attr_entry l a) = ap (λ o. ordering_then o (slice_cmp nat_cmp lo a.0)) (list_itself l) ∙ w.0 in
    ((here, all_on (Above (key_at l a.0)) (Above (key_at l lo)) (λ e h. key_total.trans (key_at l lo) (key_at l a.0) e.0 here h) (map (attr_entry l) ats) r.0), (r.0, r.1))

-- a forest's entries rise by key
pub entries_sorted : (p lo : Label) (f : Forest) → KeysRise p lo f → Sorted (entries_of f)
entries_sorted p lo none w = tt
entries_sorted p lo (node l r ats ch nx) w =
    let n = names_above [] l ats w.3 in
    let in_l : is_in (side l l) ≡ true = ap is_in (side_itself l) in
    let own_sorted : Sorted (own l r ats) = (n.0, n.1) in
    let tree_sorted : Sorted (own l r ats ++ entries_of ch) = sorted_append (own l r ats) (entries_of ch) own_sorted (entries_sorted l l ch w.4) (apart_by (SideIs l same) (SideIs l under) (λ a b h g. subst (λ v. Later v b) (sym (same_is l a h)) (under_before l b g)) (own l r ats) (entries_of ch) (own_all (SideIs l same) l r ats (side_itself l)) (all_under l l ch w.4)) in
    sorted_append (own l r ats ++ entries_of ch) (entries_of nx) tree_sorted (entries_sorted p l nx w.5) (apart_by (SideIn l) (SideIs l right) (λ a b h g. right_before a b (right_within l b a b g h (ap is_in (side_itself b)))) (own l r ats ++ entries_of ch) (entries_of nx) (tree_in p lo l r ats ch nx w) (all_right p l nx w.0 w.5))

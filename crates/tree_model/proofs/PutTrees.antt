-- A tree that goes in at one place: its entries are put into the map.
use Rattle.std.proofs.Common.{◌≡◌, true, ◌++◌, nat_cmp, refl, sym, ap, ◌∙◌, append_assoc}
use Rattle.std.specs.Cmp.Lexicographic.{slice_cmp}
use Rattle.std.specs.Ordering.{ordering_then}
use Rattle.std.specs.List.{AllByRecursion}
use Rattle.dewey_labels.specs.Labels.{Label}
use Rattle.dewey_labels.specs.Sides.{right, is_in}
use Rattle.dewey_labels.proofs.Sides.{side_itself, right_within, right_before}
use Rattle.tree_model.specs.Entries.{Entries, Below, Above, Sorted, put_all}
use Rattle.tree_model.specs.Tree.{Forest, Tree, map_of, at, found, entries_of}
use Rattle.tree_model.specs.Edits.{edited}
use Rattle.tree_model.proofs.Lists.{all_on}
use Rattle.tree_model.proofs.Entries.{put_stretch}
use Rattle.tree_model.proofs.Split.{Labelled, SideIs, SideIn, before_of, after_of, split}
use Rattle.tree_model.proofs.Edits.{edit_entries}
use Rattle.tree_model.proofs.WholeTree.{catalogue_entries}

-- what lies to the right of a label lies above every key of its subtree
pub all_above_each : (l : Label) (back xs : Entries) → AllByRecursion (Labelled (SideIs l right)) back → AllByRecursion (Labelled (SideIn l)) xs → AllByRecursion (λ x. AllByRecursion (Above x.0) back) xs
all_above_each l back xs a h = all_on (Labelled (SideIn l)) (λ x. AllByRecursion (Above x.0) back) (λ x i. all_on (Labelled (SideIs l right)) (Above x.0) (λ e g. ap (λ o. ordering_then o (slice_cmp nat_cmp x.0.name e.0.name)) (right_before x.0.label e.0.label (right_within l e.0.label x.0.label e.0.label g i (ap is_in (side_itself e.0.label))))) back a) xs h

regroup : (c b f s k a : Entries) → c ++ (b ++ ((f ++ (s ++ k)) ++ a)) ≡ (c ++ (b ++ f)) ++ (s ++ (k ++ a))
regroup c b f s k a = simp append_assoc refl

regroup_without : (c b f k a : Entries) → c ++ (b ++ ((f ++ k) ++ a)) ≡ (c ++ (b ++ f)) ++ (k ++ a)
regroup_without c b f k a = simp append_assoc refl

-- the place's entries before the new ones and behind them
pub put_in_place : (l : Label) (h : Forest → Forest) (t : Tree) (prefix s back : Entries) → found (at l t.documents) ≡ true
    → entries_of (at l t.documents) ≡ prefix ++ back → entries_of (h (at l t.documents)) ≡ prefix ++ (s ++ back) → Sorted s
    → AllByRecursion (λ x. AllByRecursion (Below x.0) (catalogue_entries t.catalogue ++ (before_of l t.documents ++ prefix))) s
    → AllByRecursion (λ x. AllByRecursion (Above x.0) (back ++ after_of l t.documents)) s
    → map_of (edited l h t) ≡ put_all s (map_of t)
put_in_place l h t prefix s back y old new sorted low high =
    let cat = catalogue_entries t.catalogue in
    let before = before_of l t.documents in
    let after = after_of l t.documents in
    ap (λ v. cat ++ v) (edit_entries l h t.documents y ∙ ap (λ v. before ++ (v ++ after)) new)
    ∙ regroup cat before prefix s back after
    ∙ sym (put_stretch (cat ++ (before ++ prefix)) s (back ++ after) sorted low high)
    ∙ ap (put_all s) (sym (ap (λ v. cat ++ v) (split l t.documents ∙ ap (λ v. before ++ (v ++ after)) old) ∙ regroup_without cat before prefix back after))

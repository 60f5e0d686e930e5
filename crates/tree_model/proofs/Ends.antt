-- What comes behind the last of some trees comes behind all of them.
use Rattle.std.proofs.Common.{◌≡◌, true, ◌++◌, Some, None, Less, nat_cmp, refl, ap, subst, ◌∙◌}
use Rattle.std.specs.Cmp.Lexicographic.{slice_cmp, nat_list_cmp_total}
use Rattle.std.specs.List.{AllByRecursion}
use Rattle.dewey_labels.specs.Labels.{Label, is_child}
use Rattle.dewey_labels.specs.Sides.{right, side, is_in, ahead}
use Rattle.dewey_labels.proofs.Sides.{side_itself, left_within}
use Rattle.dewey_labels.proofs.Codes.{children_right}
use Rattle.std.specs.Option.{option_or}
use Rattle.tree_model.specs.Tree.{Forest, none, node, own, entries_of, labels, last_label}
use Rattle.tree_model.specs.ValidTrees.{KeysRise}
use Rattle.tree_model.proofs.Lists.{all_append, all_on}
use Rattle.tree_model.proofs.Split.{Labelled, SideIn, tree_in}
use Rattle.tree_model.proofs.Found.{some_is}
use Rattle.tree_model.proofs.Joins.{end_of}

-- the last tree is that of a child
pub last_is_child : (p b m : Label) (f : Forest) → KeysRise p b f → last_label f ≡ Some m → is_child p m ≡ true
last_is_child p b m none w h = cc
last_is_child p b m (node l r ats ch nx) w h = elim (last_label nx) as (λ o. last_label nx ≡ o → option_or o (Some l) ≡ Some m → is_child p m ≡ true) [
  | None ↦ λ _ g. subst (λ v. is_child p v ≡ true) (some_is l m g) w.0
  | Some k ↦ λ e g. last_is_child p l m nx w.5 (e ∙ g)
] refl h

-- what comes behind the last tree comes behind all
pub end_before : (p b x : Label) (f : Forest) → KeysRise p b f → slice_cmp nat_cmp (end_of b f) x ≡ Less → slice_cmp nat_cmp b x ≡ Less
end_before p b x none w h = h
end_before p b x (node l r ats ch nx) w h = nat_list_cmp_total.trans b l x w.1 (end_before p l x nx w.5 h)

-- so do the labels of the row
pub labels_before : (p b x : Label) (f : Forest) → KeysRise p b f → slice_cmp nat_cmp (end_of b f) x ≡ Less → AllByRecursion (λ m. slice_cmp nat_cmp m x ≡ Less) (labels f)
labels_before p b x none w h = tt
labels_before p b x (node l r ats ch nx) w h = (end_before p l x nx w.5 h, labels_before p l x nx w.5 h)

-- all entries lie ahead of a later sibling
pub all_ahead_of : (p b x : Label) (f : Forest) → KeysRise p b f → is_child p x ≡ true → slice_cmp nat_cmp (end_of b f) x ≡ Less → AllByRecursion (Labelled (λ k. ahead (side x k) ≡ true)) (entries_of f)
all_ahead_of p b x none w c h = tt
all_ahead_of p b x (node l r ats ch nx) w c h =
    let apart : side l x ≡ right = children_right p l x w.0 c (end_before p l x nx w.5 h) in
    let S = Labelled (λ k. ahead (side x k) ≡ true) in
    all_append S (own l r ats ++ entries_of ch) (entries_of nx)
    (all_on (Labelled (SideIn l)) S (λ e i. ap ahead (left_within l x e.0.label x apart i (ap is_in (side_itself x)))) (own l r ats ++ entries_of ch) (tree_in p b l r ats ch nx w))
    (all_ahead_of p l x nx w.5 c h)

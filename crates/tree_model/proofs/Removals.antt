-- A subtree taken out: its entries are deleted.
use Rattle.std.proofs.Common.{◌≡◌, true, ◌++◌, refl, sym, ap, subst, ◌∙◌, append_assoc}
use Rattle.std.specs.List.{AllByRecursion}
use Rattle.dewey_labels.specs.Labels.{Label, root}
use Rattle.dewey_labels.specs.Sides.{under, side, is_in, ahead, rest}
use Rattle.dewey_labels.proofs.Sides.{in_is, side_itself}
use Rattle.tree_model.specs.declared.key.Key.{Key}
use Rattle.tree_model.specs.declared.record.Record.{Record}
use Rattle.tree_model.specs.Keys.{key_at}
use Rattle.tree_model.specs.Entries.{Entries, Below}
use Rattle.tree_model.specs.Tree.{Attributes, Forest, none, node, own, entries_of, at, found, edit}
use Rattle.tree_model.specs.inside.FoundNodes.{up}
use Rattle.tree_model.specs.ValidTrees.{KeysRise}
use Rattle.tree_model.proofs.Lists.{all_append, all_on}
use Rattle.tree_model.proofs.Entries.{del_all, del_stretch}
use Rattle.tree_model.proofs.Split.{own_all, Labelled, SideIs, SideIn, under_in, all_under, before_of, after_of}
use Rattle.tree_model.proofs.Found.{Lies, lies}
use Rattle.tree_model.proofs.Seeks.{ahead_below}
use Rattle.tree_model.proofs.Edits.{edit_entries}

-- what lies ahead of a label lies below each key in it
ahead_below_in : (l : Label) (x e : Key × Record) → SideIn l x.0.label → ahead (side l e.0.label) ≡ true → Below x.0 e
ahead_below_in l x e i h = subst (λ v. Below (key_at v x.0.name) e) (sym (in_is l x.0.label i)) (ahead_below l (rest l x.0.label) x.0.name e h)

-- what lies ahead of a label lies below every key of its subtree
pub all_below_each : (l : Label) (prefix xs : Entries) → AllByRecursion (Labelled (λ k. ahead (side l k) ≡ true)) prefix → AllByRecursion (Labelled (SideIn l)) xs → AllByRecursion (λ x. AllByRecursion (Below x.0) prefix) xs
all_below_each l prefix xs a h = all_on (Labelled (SideIn l)) (λ x. AllByRecursion (Below x.0) prefix) (λ x i. all_on (Labelled (λ k. ahead (side l k) ≡ true)) (Below x.0) (λ e g. ahead_below_in l x e i g) prefix a) xs h

-- without the first tree
abbrev pub without_first : Forest → Forest
without_first none = none
without_first (node l r ats ch nx) = nx

-- the entries of a subtree deleted are those of the forest without it
pub remove_law : (l m : Label) (r : Record) (ats : Attributes) (ch nx f : Forest) → KeysRise root root f → at l f ≡ node m r ats ch nx → del_all (own l r ats ++ entries_of ch) (entries_of f) ≡ entries_of (edit l without_first f)
remove_law l m r ats ch nx f w e =
    let z : Lies (up l root f) l r ats ch nx (entries_of f) = lies root root l m r ats ch nx f w e in
    let tree = own l r ats ++ entries_of ch in
    let in_tree : AllByRecursion (Labelled (SideIn l)) tree = all_append (Labelled (SideIn l)) (own l r ats) (entries_of ch) (own_all (SideIn l) l r ats (ap is_in (side_itself l))) (all_on (Labelled (SideIs l under)) (Labelled (SideIn l)) (λ e h. under_in l e.0.label h) (entries_of ch) (all_under l l ch z.children)) in
    ap (del_all tree) (z.whole ∙ regroup z.before (own l r ats) (entries_of ch) (entries_of nx ++ z.after))
    ∙ del_stretch z.before tree (entries_of nx ++ z.after) (all_below_each l z.before tree z.before_ahead in_tree)
    ∙ sym (edit_entries l without_first f (ap found e) ∙ ap (λ g. before_of l f ++ (entries_of (without_first g) ++ after_of l f)) e)
  where
    regroup : (b o c n : Entries) → ((b ++ o) ++ c) ++ n ≡ b ++ ((o ++ c) ++ n)
    regroup b o c n = simp append_assoc refl

-- A walk over the entries of a subtree, one `first_above` after another.
use Rattle.std.proofs.Common.{◌≡◌, Bool, true, false, cond, List, [], ◌∷◌, ◌++◌, map, is_lt, refl, ap, ◌∙◌, append_assoc, append-nil}
use Rattle.std.specs.List.{AllByRecursion}
use Rattle.dewey_labels.specs.Labels.{Label}
use Rattle.dewey_labels.specs.Sides.{under, right, side, is_in, ahead}
use Rattle.dewey_labels.proofs.Sides.{side_itself, right_before, under_before}
use Rattle.tree_model.specs.declared.key.Key.{Key}
use Rattle.tree_model.specs.declared.record.Record.{Record}
use Rattle.tree_model.specs.Keys.{node_key}
use Rattle.tree_model.specs.Entries.{Entries, Below, Above, entries_above}
use Rattle.tree_model.specs.Tree.{Attributes, Forest, attr_entry, own, entries_of}
use Rattle.tree_model.proofs.Lists.{all_append, all_on}
use Rattle.tree_model.proofs.Keys.{key_itself}
use Rattle.tree_model.proofs.Entries.{beyond_all, beyond_past}
use Rattle.tree_model.proofs.Split.{own_all, Labelled, SideIs, SideIn, all_under}
use Rattle.tree_model.proofs.Found.{Lies}
use Rattle.tree_model.proofs.Seeks.{ahead_below_node, later_above}
use Rattle.tree_model.proofs.ForwardReads.{behind_right}
use Rattle.tree_model.proofs.Sorted.{names_above}

-- the items from the start as long as they pass
abbrev pub as_long : {A : Type 0} → (A → Bool) → List A → List A
as_long q [] = []
as_long q (x ∷ xs) = cond (q x) (x ∷ as_long q xs) []

module _ {A : Type 0} (q : A → Bool) where
  while_past : (xs ys : List A) → AllByRecursion (λ x. q x ≡ true) xs → as_long q (xs ++ ys) ≡ xs ++ as_long q ys
  while_past [] ys h = refl
  while_past (x ∷ xs) ys h = ap (λ b. cond b (x ∷ as_long q (xs ++ ys)) []) h.0 ∙ ap (λ v. x ∷ v) (while_past xs ys h.1)

  while_none : (ys : List A) → AllByRecursion (λ x. q x ≡ false) ys → as_long q ys ≡ []
  while_none [] h = refl
  while_none (y ∷ ys) h = ap (λ b. cond b (y ∷ as_long q ys) []) h.0

module _ (p l : Label) (r : Record) (ats : Attributes) (ch nx : Forest) (es : Entries) (z : Lies p l r ats ch nx es) where
  -- what lies entries_above a node's key, as long as it lies in the subtree, is the rest of the subtree
  pub subtree_walk : as_long (λ e. is_in (side l e.0.label)) (entries_above (node_key l) es) ≡ map (attr_entry l) ats ++ entries_of ch
  subtree_walk =
      let k = node_key l in
      let q : Key × Record → Bool = λ e. is_in (side l e.0.label) in
      let back = entries_of nx ++ z.after in
      let prefix = z.before in
      let tree = map (attr_entry l) ats ++ entries_of ch in
      let whole : es ≡ prefix ++ ((node_key l, r) ∷ (tree ++ back)) = z.whole ∙ simp append_assoc refl in
      let names = names_above [] l ats z.names in
      let attrs_in : AllByRecursion (Labelled (SideIn l)) (own l r ats) = own_all (SideIn l) l r ats (ap is_in (side_itself l)) in
      let highs : AllByRecursion (Above k) (tree ++ back) = all_append (Above k) tree back (all_append (Above k) (map (attr_entry l) ats) (entries_of ch) names.0 (all_on (Labelled (SideIs l under)) (Above k) (λ e h. later_above l [] e (under_before l e.0.label h)) (entries_of ch) (all_under l l ch z.children))) (all_on (Labelled (SideIs l right)) (Above k) (λ e h. later_above l [] e (right_before l e.0.label h)) back (behind_right p l r ats ch nx es z)) in
      ap (λ v. as_long q (entries_above k v)) whole
      ∙ ap (as_long q) (beyond_past k prefix _ (all_on (Labelled (λ v. ahead (side l v) ≡ true)) (Below k) (ahead_below_node l []) z.before z.before_ahead)
      ∙ ap (λ o. cond (is_lt o) ((node_key l, r) ∷ entries_above k (tree ++ back)) (entries_above k (tree ++ back))) (key_itself k)
      ∙ beyond_all k (tree ++ back) highs)
      ∙ while_past q tree back (all_append (λ e. q e ≡ true) (map (attr_entry l) ats) (entries_of ch) attrs_in.1 (all_on (Labelled (SideIs l under)) (λ e. q e ≡ true) (λ e h. ap is_in h) (entries_of ch) (all_under l l ch z.children)))
      ∙ ap (λ v. tree ++ v) (while_none q back (all_on (Labelled (SideIs l right)) (λ e. q e ≡ false) (λ e h. ap is_in h) back (behind_right p l r ats ch nx es z)))
      ∙ append-nil tree

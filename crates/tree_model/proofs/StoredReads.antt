-- What the test of a stored record asks of the entries before it is answered by reads of the whole map, and by the entry just before.
use Rattle.std.proofs.Common.{◌≡◌, true, false, cond, is_eq, ◌||◌, Bool, [], ◌∷◌, ◌++◌, Option, Some, None, Greater, nat_cmp, refl, sym, ap, subst, ◌∙◌, true≢false}
use Rattle.std.specs.Ordering.{ordering_reverse}
use Rattle.std.specs.Cmp.Lexicographic.{slice_cmp, nat_list_cmp_total}
use Rattle.std.specs.List.{AllByRecursion}
use Rattle.dewey_labels.specs.Labels.{Label, parent, IsLabel}
use Rattle.dewey_labels.specs.Sides.{above, left, same, under, right, side, is_in, is_under, ahead, rest}
use Rattle.dewey_labels.proofs.Sides.{same_is, in_is, under_before, ahead_before, right_behind}
use Rattle.dewey_labels.proofs.Codes.{child_under}
use Rattle.dewey_labels.proofs.Labels.{child_of_parent}
use Rattle.tree_model.specs.declared.key.Key.{Key}
use Rattle.tree_model.specs.declared.record.Record.{Record}
use Rattle.tree_model.specs.Keys.{key_cmp, node_key}
use Rattle.tree_model.specs.Entries.{Entries, Above, Sorted, get}
use Rattle.std.specs.Option.{option_or}
use Rattle.tree_model.specs.Places.{is_root}
use Rattle.tree_model.specs.StoredTree.{catalogue_in, has_under}
use Rattle.tree_model.proofs.Lists.{all_behind}
use Rattle.tree_model.proofs.Entries.{last_of, get_none, all_above_lower, sorted_behind}
use Rattle.tree_model.proofs.Split.{Later}
use Rattle.tree_model.proofs.Seeks.{later_above}
use Rattle.tree_model.proofs.StoredCatalogues.{later_not_below, NotRoot, not_root_under, catalogue_before}
use Rattle.tree_model.proofs.StoredTrees.{others_behind}

-- ---- records

-- what is found at a key below an entry is found before that entry
get_prefix : (k : Key) (xs ys : Entries) → AllByRecursion (Above k) ys → get k (xs ++ ys) ≡ get k xs
get_prefix k [] ys h = get_none k ys h
get_prefix k (e ∷ xs) ys h = ap (λ o. cond (is_eq (key_cmp k e.0)) (Some e.1) o) (get_prefix k xs ys h)

pub get_before : (k : Key) (before : Entries) (x : Key × Record) (behind : Entries) → Sorted (before ++ (x ∷ behind)) → Above k x → get k (before ++ (x ∷ behind)) ≡ get k before
get_before k before x behind s h = get_prefix k before (x ∷ behind) (h, all_above_lower k x.0 h behind (sorted_behind before (x ∷ behind) s).0)

-- the keys of a node's parent, and of an attribute's node, lie below
pub parent_below : (l : Label) (r : Record) → IsLabel l → NotRoot l → Above (node_key (parent l)) (node_key l, r)
parent_below l r h n = later_above (parent l) [] (node_key l, r) (under_before (parent l) l (child_under (parent l) l (child_of_parent l h.0 (λ e. true≢false (ap is_root (sym e) ∙ n)))))

-- ---- the catalogue

-- the catalogue before an entry that isn't the root's is that of the whole map
pub catalogue_before_entry : (before : Entries) (x : Key × Record) (behind : Entries) → Sorted (before ++ (x ∷ behind)) → IsLabel x.0.label → NotRoot x.0.label → catalogue_in (before ++ (x ∷ behind)) ≡ catalogue_in before
catalogue_before_entry before x behind s h n = catalogue_before before (x ∷ behind) (n, others_behind x behind (not_root_under x.0.label h.0 n) (sorted_behind before (x ∷ behind) s).0)

-- ---- what lies under a label

-- what lies between two entries under a label lies under it
under_between : (p : Label) (e y x : Key × Record) → side p e.0.label ≡ under → side p x.0.label ≡ under → Above e.0 y → Above y.0 x → side p y.0.label ≡ under
under_between p e y x a b low high = elim (side p y.0.label) as (λ s. side p y.0.label ≡ s → s ≡ under) [
  | above ↦ λ s. absurd (too_early (ahead_of (ap ahead s)))
  | left ↦ λ s. absurd (too_early (ahead_of (ap ahead s)))
  | same ↦ λ s. absurd (too_early (subst (λ k. Later k e.0.label) (sym (same_is p y.0.label s)) (under_before p e.0.label a)))
  | under ↦ λ _. refl
  | right ↦ λ s. absurd (later_not_below x.0.label x.0.name y (turned (subst (λ k. slice_cmp nat_cmp y.0.label k ≡ Greater) (sym (in_is p x.0.label (ap is_in b))) (right_behind p y.0.label (rest p x.0.label) s))) high)
] refl
  where
    too_early : Later y.0.label e.0.label → ⊥
    too_early g = later_not_below y.0.label y.0.name e g low

    ahead_of : ahead (side p y.0.label) ≡ true → Later y.0.label e.0.label
    ahead_of g = subst (Later y.0.label) (sym (in_is p e.0.label (ap is_in a))) (ahead_before p y.0.label (rest p e.0.label) g)

    turned : slice_cmp nat_cmp y.0.label x.0.label ≡ Greater → Later x.0.label y.0.label
    turned g = nat_list_cmp_total.antisymm x.0.label y.0.label ∙ ap ordering_reverse g

-- whether an entry that is there lies under the label
abbrev pub lies_under : Label → Option (Key × Record) → Bool
lies_under p None = false
lies_under p (Some e) = is_under (side p e.0.label)

-- before an entry under a label some entry lies under it exactly where the last one does
pub has_under_by_last : (p : Label) (before : Entries) (x : Key × Record) (behind : Entries) → Sorted (before ++ (x ∷ behind)) → side p x.0.label ≡ under → has_under p before ≡ lies_under p (last_of before)
has_under_by_last p [] x behind s u = refl
has_under_by_last p (e ∷ []) x behind s u = or_false (is_under (side p e.0.label))
  where
    or_false : (b : Bool) → (b || false) ≡ b
    or_false true = refl
    or_false false = refl
has_under_by_last p (e ∷ y ∷ before) x behind s u =
    let again : has_under p (y ∷ before) ≡ lies_under p (last_of (e ∷ y ∷ before)) = has_under_by_last p (y ∷ before) x behind s.1 u ∙ ap (lies_under p) (first_of_some (last_of before)) in
    elim (side p e.0.label) as (λ t. side p e.0.label ≡ t → (is_under t || has_under p (y ∷ before)) ≡ lies_under p (last_of (e ∷ y ∷ before))) [
      | above ↦ λ _. again
      | left ↦ λ _. again
      | same ↦ λ _. again
      | under ↦ λ a. let next = under_between p e y x a u s.0.0 (all_behind (Above y.0) before (x ∷ behind) s.1.0).0 in ap (λ t. is_under t || has_under p before) (sym next) ∙ again
      | right ↦ λ _. again
    ] refl
  where
    first_of_some : (o : Option (Key × Record)) → option_or o (Some y) ≡ option_or (option_or o (Some y)) (Some e)
    first_of_some None = refl
    first_of_some (Some z) = refl

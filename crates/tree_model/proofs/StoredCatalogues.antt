-- The catalogue that entries give: the root's entries give it, and no others do.
use Rattle.std.proofs.Common.{◌≡◌, true, false, cond, ◌&&◌, [], ◌∷◌, ◌++◌, Ordering, Less, Equal, Greater, is_eq, nat_cmp, refl, sym, ap, ◌∙◌, true≢false, eqb}
use Rattle.std.specs.Cmp.Lexicographic.{slice_cmp}
use Rattle.std.specs.List.{AllByRecursion}
use Rattle.dewey_labels.specs.Labels.{Label, root, is_label}
use Rattle.dewey_labels.specs.Lists.{is_empty}
use Rattle.dewey_labels.specs.Sides.{under, side}
use Rattle.dewey_labels.proofs.Sides.{under_before}
use Rattle.dewey_labels.proofs.Codes.{eq_is, first_of_both}
use Rattle.tree_model.specs.declared.key.Key.{Key}
use Rattle.tree_model.specs.declared.record.Record.{Record}
use Rattle.tree_model.specs.Names.{Name}
use Rattle.tree_model.specs.Keys.{key_at}
use Rattle.tree_model.specs.Entries.{Entries, Below}
use Rattle.tree_model.specs.Tree.{Forest, entries_of}
use Rattle.tree_model.specs.ValidTrees.{KeysRise, same_label}
use Rattle.tree_model.specs.Places.{is_root}
use Rattle.tree_model.specs.StoredTree.{catalogue_in, with_label, label_in, names_document, catalogue_fits}
use Rattle.tree_model.proofs.Lists.{all_on}
use Rattle.tree_model.proofs.Keys.{key_turned, list_tied}
use Rattle.tree_model.proofs.Split.{Labelled, SideIs, Later, all_under}
use Rattle.tree_model.proofs.Seeks.{later_above}

-- ---- keys and names

-- no entry with a later label lies below a key
pub later_not_below : (l : Label) (n : Name) (e : Key × Record) → Later l e.0.label → Below (key_at l n) e → ⊥
later_not_below l n e h b = let clash : Less ≡ Greater = sym b ∙ key_turned (key_at l n) e.0 (later_above l n e h) in cc

pub name_not_empty : (n : Name) → slice_cmp nat_cmp [] n ≡ Less → is_empty n ≡ false
name_not_empty [] h = cc
name_not_empty (d ∷ n) h = refl

-- ---- the root's label and others

eq_is_equal : (o : Ordering) → is_eq o ≡ true → o ≡ Equal
eq_is_equal Less h = cc
eq_is_equal Equal h = refl
eq_is_equal Greater h = cc

pub same_label_is : (l m : Label) → same_label l m ≡ true → l ≡ m
same_label_is l m h = list_tied l m (eq_is_equal (slice_cmp nat_cmp l m) h)

pub root_is : (l : Label) → is_root l ≡ true → l ≡ root
root_is l h = sym (same_label_is root l h)

-- a label isn't the root's
abbrev pub NotRoot : Label → Type 0
NotRoot l = is_root l ≡ false

pub under_not_root : (l : Label) → side root l ≡ under → NotRoot l
under_not_root l h = ap is_eq (under_before root l h)

-- any label but the root's lies under it
pub not_root_under : (l : Label) → is_label l ≡ true → NotRoot l → side root l ≡ under
not_root_under [] h n = cc
not_root_under (d ∷ []) h n = let one : d ≡ 1 = eq_is d 1 (first_of_both (eqb d 1) true h) in absurd (true≢false (ap (λ x. is_root (x ∷ [])) (sym one) ∙ n))
not_root_under (d ∷ y ∷ l) h n = let one : d ≡ 1 = eq_is d 1 (first_of_both (eqb d 1) _ h) in ap (λ x. side root (x ∷ y ∷ l)) one

-- ---- entries that aren't the root's

pub catalogue_in_others : (es : Entries) → AllByRecursion (Labelled NotRoot) es → catalogue_in es ≡ []
catalogue_in_others [] h = refl
catalogue_in_others (e ∷ es) h = ap (λ b. cond b (with_label e.0.name (label_in e.1) (catalogue_in es)) (catalogue_in es)) h.0 ∙ catalogue_in_others es h.1

pub catalogue_before : (xs ys : Entries) → AllByRecursion (Labelled NotRoot) ys → catalogue_in (xs ++ ys) ≡ catalogue_in xs
catalogue_before [] ys h = catalogue_in_others ys h
catalogue_before (e ∷ xs) ys h = ap (λ c. cond (is_root e.0.label) (with_label e.0.name (label_in e.1) c) c) (catalogue_before xs ys h)

pub others_fit : (all es : Entries) → AllByRecursion (Labelled NotRoot) es → catalogue_fits all es ≡ true
others_fit all [] h = refl
others_fit all (e ∷ es) h = ap (λ b. cond b (names_document all e && catalogue_fits all es) (catalogue_fits all es)) h.0 ∙ others_fit all es h.1

-- nothing of a forest below the root is the root's
pub forest_not_root : (b : Label) (f : Forest) → KeysRise root b f → AllByRecursion (Labelled NotRoot) (entries_of f)
forest_not_root b f w = all_on (Labelled (SideIs root under)) (Labelled NotRoot) (λ e h. under_not_root e.0.label h) (entries_of f) (all_under root b f w)

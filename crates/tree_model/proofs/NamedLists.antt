-- The catalogue with a new document's entry, and attributes with one more.
use Rattle.std.proofs.Common.{◌≡◌, ℕ, suc, Bool, true, false, cond, ◌||◌, List, [], ◌∷◌, ◌++◌, map, Option, None, Some, is_some, Less, Equal, Greater, nat_cmp, is_eq, refl, sym, ap, subst, ◌∙◌, true≢false, ◌⊎◌, inl, inr, ⊎_elim}
use Rattle.std.specs.Ordering.{ordering_then, ordering_reverse}
use Rattle.std.specs.Cmp.Lexicographic.{slice_cmp, nat_list_cmp_total}
use Rattle.std.specs.List.{AllByRecursion}
use Rattle.std.specs.Str.{chars, is_utf8}
use Rattle.dewey_labels.specs.Labels.{Label}
use Rattle.dewey_labels.specs.LabelText.{label_text}
use Rattle.tree_model.specs.Names.{Name, is_name}
use Rattle.tree_model.specs.Keys.{key_at}
use Rattle.tree_model.specs.Entries.{Entries, Above, put}
use Rattle.tree_model.specs.Orders.{by_order}
use Rattle.tree_model.specs.Tree.{Attributes, attr_entry, Catalogue, root_attribute, root_attributes, beside}
use Rattle.tree_model.specs.ValidTrees.{NamesRise, same_label, entries_with, is_among, IsCatalogueOf}
use Rattle.tree_model.specs.Edits.{with_entry}
use Rattle.tree_model.proofs.Lists.{all_append, all_on}
use Rattle.tree_model.proofs.Keys.{list_tied}
use Rattle.tree_model.proofs.Found.{some_is}
use Rattle.tree_model.proofs.Entries.{put_new}
use Rattle.tree_model.proofs.EntryLimits.{list_itself}

-- no Name is empty
pub name_starts : (n : Name) → is_name n ≡ true → slice_cmp nat_cmp [] n ≡ Less
unfolding is_name is_utf8 chars
name_starts [] h = cc
name_starts (d ∷ n) h = refl

-- names go on rising
pub names-with_entry : {A : Type 0} (lo n : Name) (x : A) (ats : List (Name × A)) → slice_cmp nat_cmp lo n ≡ Less → is_name n ≡ true → NamesRise lo ats → NamesRise lo (with_entry n x ats)
names-with_entry lo n x [] lt h w = (lt, h, tt)
names-with_entry lo n x (a ∷ ats) lt h w = elim (slice_cmp nat_cmp n a.0) as (λ o. slice_cmp nat_cmp n a.0 ≡ o → NamesRise lo (by_order o ((n, x) ∷ a ∷ ats) ((n, x) ∷ ats) (a ∷ with_entry n x ats))) [
  | Less ↦ λ e. (lt, h, (e, w.1, w.2))
  | Equal ↦ λ e. (lt, h, subst (λ v. NamesRise v ats) (sym (list_tied n a.0 e)) w.2)
  | Greater ↦ λ e. (w.0, w.1, names-with_entry a.0 n x ats (nat_list_cmp_total.antisymm a.0 n ∙ ap ordering_reverse e) h w.2)
] refl

-- what holds of all holds with one more
pub all-with_entry : {A : Type 0} (P : Name × A → Type 0) (n : Name) (x : A) (ats : List (Name × A)) → P (n, x) → AllByRecursion P ats → AllByRecursion P (with_entry n x ats)
all-with_entry P n x [] h g = (h, tt)
all-with_entry P n x (a ∷ ats) h g = elim (slice_cmp nat_cmp n a.0) as (λ o. AllByRecursion P (by_order o ((n, x) ∷ a ∷ ats) ((n, x) ∷ ats) (a ∷ with_entry n x ats))) [ Less ↦ (h, (g.0, g.1)) | Equal ↦ (h, g.1) | Greater ↦ (g.0, all-with_entry P n x ats h g.1) ]

-- a name that isn't there adds an entry
entries-with_entry : (m : Label) (n : Name) (l : Label) (cat : Catalogue) → is_some (beside n cat) ≡ false → entries_with m (with_entry n l cat) ≡ cond (same_label m l) (suc (entries_with m cat)) (entries_with m cat)
entries-with_entry m n l [] h = refl
entries-with_entry m n l (c ∷ cat) h = elim (slice_cmp nat_cmp n c.0) as (λ o. is_some (cond (is_eq o) (Some c.1) (beside n cat)) ≡ false → entries_with m (by_order o ((n, l) ∷ c ∷ cat) ((n, l) ∷ cat) (c ∷ with_entry n l cat)) ≡ cond (same_label m l) (suc (entries_with m (c ∷ cat))) (entries_with m (c ∷ cat))) [
  | Less ↦ λ _. refl
  | Equal ↦ λ g. absurd (true≢false g)
  | Greater ↦ λ g. ap (λ v. cond (same_label m c.1) (suc v) v) (entries-with_entry m n l cat g) ∙ swapped (same_label m c.1) (same_label m l) (entries_with m cat)
] h
  where
    swapped : (a b : Bool) (k : ℕ) → cond a (suc (cond b (suc k) k)) (cond b (suc k) k) ≡ cond b (suc (cond a (suc k) k)) (cond a (suc k) k)
    swapped true true k = refl
    swapped true false k = refl
    swapped false true k = refl
    swapped false false k = refl

before_differs : (m l : Label) → slice_cmp nat_cmp m l ≡ Less → same_label m l ≡ false
before_differs m l h = ap is_eq h

behind_differs : (m l : Label) → slice_cmp nat_cmp m l ≡ Less → same_label l m ≡ false
behind_differs m l h = ap is_eq (nat_list_cmp_total.antisymm l m ∙ ap ordering_reverse h)

among_before : (x m : Label) (ls : List Label) → is_among m ls ≡ true → AllByRecursion (λ k. slice_cmp nat_cmp k x ≡ Less) ls → slice_cmp nat_cmp m x ≡ Less
among_before x m [] h g = cc
among_before x m (k ∷ ls) h g = elim (slice_cmp nat_cmp m k) as (λ o. slice_cmp nat_cmp m k ≡ o → (is_eq o || is_among m ls) ≡ true → slice_cmp nat_cmp m x ≡ Less) [
  | Less ↦ λ _ i. among_before x m ls i g.1
  | Equal ↦ λ e _. subst (λ v. slice_cmp nat_cmp v x ≡ Less) (sym (list_tied m k e)) g.0
  | Greater ↦ λ _ i. among_before x m ls i g.1
] refl h

none_with : (x : Label) (ls : List Label) (cat : Catalogue) → AllByRecursion (λ c. is_among c.1 ls ≡ true) cat → AllByRecursion (λ k. slice_cmp nat_cmp k x ≡ Less) ls → entries_with x cat ≡ 0
none_with x ls [] h g = refl
none_with x ls (c ∷ cat) h g = ap (λ b. cond b (suc (entries_with x cat)) (entries_with x cat)) (behind_differs c.1 x (among_before x c.1 ls h.0 g)) ∙ none_with x ls cat h.1 g

among-append : (m : Label) (ls ks : List Label) → is_among m ls ≡ true → is_among m (ls ++ ks) ≡ true
among-append m [] ks h = cc
among-append m (k ∷ ls) ks h = elim (same_label m k) as (λ b. (b || is_among m ls) ≡ true → (b || is_among m (ls ++ ks)) ≡ true) [ true ↦ λ _. refl | false ↦ λ i. among-append m ls ks i ] h

among_last : (m : Label) (ls : List Label) → is_among m (ls ++ (m ∷ [])) ≡ true
among_last m [] = ap (λ o. is_eq o || false) (list_itself m)
among_last m (k ∷ ls) = elim (same_label m k) as (λ b. (b || is_among m (ls ++ (m ∷ []))) ≡ true) [ true ↦ refl | false ↦ among_last m ls ]

-- a new last document with a new name keeps the rule
pub catalogue-with_entry : (n : Name) (l : Label) (ls : List Label) (cat : Catalogue) → is_name n ≡ true → is_some (beside n cat) ≡ false → AllByRecursion (λ m. slice_cmp nat_cmp m l ≡ Less) ls → IsCatalogueOf ls cat → IsCatalogueOf (ls ++ (l ∷ [])) (with_entry n l cat)
catalogue-with_entry n l ls cat h there before w = record {
  names = names-with_entry [] n l cat (name_starts n h) h w.names;
  each_document = all_append One ls (l ∷ []) (olds ls before w.each_document) (entries-with_entry l n l cat there ∙ (λ i. cond (is_eq (list_itself l i)) (suc (none_with l ls cat w.each_entry before i)) (none_with l ls cat w.each_entry before i)), tt);
  each_entry = all-with_entry (λ c. is_among c.1 (ls ++ (l ∷ [])) ≡ true) n l cat (among_last l ls) (all_on (λ c. is_among c.1 ls ≡ true) (λ c. is_among c.1 (ls ++ (l ∷ [])) ≡ true) (λ c i. among-append c.1 ls (l ∷ []) i) cat w.each_entry);
}
  where
    One : Label → Type 0
    One m = entries_with m (with_entry n l cat) ≡ 1

    olds : (ks : List Label) → AllByRecursion (λ m. slice_cmp nat_cmp m l ≡ Less) ks → AllByRecursion (λ m. entries_with m cat ≡ 1) ks → AllByRecursion (λ m. entries_with m (with_entry n l cat) ≡ 1) ks
    olds [] b e = tt
    olds (m ∷ ks) b e = (entries-with_entry m n l cat there ∙ ap (λ t. cond t (suc (entries_with m cat)) (entries_with m cat)) (before_differs m l b.0) ∙ e.0, olds ks b.1 e.1)

-- ---- the entries of attributes

-- an attribute is put among those of its node
pub put_attribute : (l : Label) (n : Name) (v : List ℕ) (ats : Attributes) (es : Entries) → AllByRecursion (Above (key_at l n)) es → put (attr_entry l (n, v)) (map (attr_entry l) ats ++ es) ≡ map (attr_entry l) (with_entry n v ats) ++ es
put_attribute l n v [] es h = put_new (attr_entry l (n, v)) es h
put_attribute l n v (a ∷ ats) es h =
    let x = attr_entry l (n, v) in
    let y = attr_entry l a in
    ap (λ o. by_order (ordering_then o (slice_cmp nat_cmp n a.0)) (x ∷ y ∷ (map (attr_entry l) ats ++ es)) (x ∷ (map (attr_entry l) ats ++ es)) (y ∷ put x (map (attr_entry l) ats ++ es))) (list_itself l)
    ∙ elim (slice_cmp nat_cmp n a.0) as (λ o. by_order o (x ∷ y ∷ (map (attr_entry l) ats ++ es)) (x ∷ (map (attr_entry l) ats ++ es)) (y ∷ put x (map (attr_entry l) ats ++ es)) ≡ map (attr_entry l) (by_order o ((n, v) ∷ a ∷ ats) ((n, v) ∷ ats) (a ∷ with_entry n v ats)) ++ es) [
      | Less ↦ refl
      | Equal ↦ refl
      | Greater ↦ ap (λ z. y ∷ z) (put_attribute l n v ats es h)
    ]

-- the root's attributes with one more
pub root-with_entry : (n : Name) (l : Label) (cat : Catalogue) → root_attributes (with_entry n l cat) ≡ with_entry n (label_text l) (root_attributes cat)
root-with_entry n l [] = refl
root-with_entry n l (c ∷ cat) = elim (slice_cmp nat_cmp n c.0) as (λ o. root_attributes (by_order o ((n, l) ∷ c ∷ cat) ((n, l) ∷ cat) (c ∷ with_entry n l cat)) ≡ by_order o ((n, label_text l) ∷ root_attributes (c ∷ cat)) ((n, label_text l) ∷ root_attributes cat) (root_attribute c ∷ with_entry n (label_text l) (root_attributes cat))) [ Less ↦ refl | Equal ↦ refl | Greater ↦ ap (λ v. root_attribute c ∷ v) (root-with_entry n l cat) ]

-- ---- what stands beside a name

pub none_named : {A : Type 0} (lo n : Name) (xs : List (Name × A)) → NamesRise lo xs → (slice_cmp nat_cmp n lo ≡ Less) ⊎ (n ≡ lo) → beside n xs ≡ None
none_named lo n [] w h = refl
none_named lo n (x ∷ xs) w h =
    let less : slice_cmp nat_cmp n x.0 ≡ Less = ⊎_elim (λ e. nat_list_cmp_total.trans n lo x.0 e w.0) (λ e. subst (λ v. slice_cmp nat_cmp v x.0 ≡ Less) (sym e) w.0) h in
    ap (λ o. cond (is_eq o) (Some x.1) (beside n xs)) less ∙ none_named x.0 n xs w.2 (inl less)

pub beside_first : {A : Type 0} (x : Name × A) (xs : List (Name × A)) → beside x.0 (x ∷ xs) ≡ Some x.1
beside_first x xs = ap (λ o. cond (is_eq o) (Some x.1) (beside x.0 xs)) (list_itself x.0)

no_value : {A P : Type 0} (a : A) → ◌≡◌ {A = Option A} (Some a) None → P
no_value a e = absurd (true≢false (ap is_some e))

-- two lists with the same at each name are one
pub same_named : {A : Type 0} (lo hi : Name) (xs ys : List (Name × A)) → NamesRise lo xs → NamesRise hi ys → ((n : Name) → beside n xs ≡ beside n ys) → xs ≡ ys
same_named lo hi [] [] w v alike = refl
same_named lo hi [] (y ∷ ys) w v alike = no_value y.1 (sym (beside_first y ys) ∙ sym (alike y.0))
same_named lo hi (x ∷ xs) [] w v alike = no_value x.1 (sym (beside_first x xs) ∙ alike x.0)
same_named lo hi (x ∷ xs) (y ∷ ys) w v alike =
    elim (slice_cmp nat_cmp x.0 y.0) as (λ o. slice_cmp nat_cmp x.0 y.0 ≡ o → x ∷ xs ≡ y ∷ ys) [
      | Less ↦ λ e. no_value x.1 (sym (beside_first x xs) ∙ alike x.0 ∙ ap (λ o. cond (is_eq o) (Some y.1) (beside x.0 ys)) e ∙ none_named y.0 x.0 ys v.2 (inl e))
      | Equal ↦ λ e.
          let names : x.0 ≡ y.0 = list_tied x.0 y.0 e in
          let values : x.1 ≡ y.1 = some_is x.1 y.1 (sym (beside_first x xs) ∙ alike x.0 ∙ ap (λ o. cond (is_eq o) (Some y.1) (beside x.0 ys)) e) in
          let rest = same_named x.0 y.0 xs ys w.2 v.2 (λ n. elim (slice_cmp nat_cmp n x.0) as (λ o. slice_cmp nat_cmp n x.0 ≡ o → beside n xs ≡ beside n ys) [
            | Less ↦ λ g. none_named x.0 n xs w.2 (inl g) ∙ sym (none_named y.0 n ys v.2 (inl (subst (λ z. slice_cmp nat_cmp n z ≡ Less) names g)))
            | Equal ↦ λ g. let is = list_tied n x.0 g in none_named x.0 n xs w.2 (inr is) ∙ sym (none_named y.0 n ys v.2 (inr (is ∙ names)))
            | Greater ↦ λ g. sym (ap (λ o. cond (is_eq o) (Some x.1) (beside n xs)) g) ∙ alike n ∙ ap (λ o. cond (is_eq o) (Some y.1) (beside n ys)) (subst (λ z. slice_cmp nat_cmp n z ≡ Greater) names g)
          ] refl) in
          λ i. (names i, values i) ∷ rest i
      | Greater ↦ λ e. let less : slice_cmp nat_cmp y.0 x.0 ≡ Less = nat_list_cmp_total.antisymm y.0 x.0 ∙ ap ordering_reverse e in no_value y.1 (sym (beside_first y ys) ∙ sym (alike y.0) ∙ ap (λ o. cond (is_eq o) (Some x.1) (beside y.0 xs)) less ∙ none_named x.0 y.0 xs w.2 (inl less))
    ] refl

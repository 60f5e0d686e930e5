-- The catalogue without a document: its names still stand for the documents that are left.
use Rattle.std.specs.List.{AllByRecursion}
use Rattle.std.specs.Ordering.{ordering_reverse}
use Rattle.std.specs.Cmp.Lexicographic.{slice_cmp, nat_list_cmp_total}
use Rattle.std.proofs.Common.{◌≡◌, arith, ℕ, suc, Bool, true, false, cond, if◌then◌else◌, ◌||◌, List, [], ◌∷◌, Some, is_some, is_eq, nat_cmp, Less, Equal}
use Rattle.std.proofs.Common.{Greater, refl, sym, ap, subst, ◌∙◌, true≢false, ⊎_elim, inl, inr, ◌⊎◌}
use Rattle.dewey_labels.specs.Labels.{Label, root, is_child}
use Rattle.dewey_labels.specs.Sides.{Side, side, is_in, left, same, right}
use Rattle.dewey_labels.proofs.Sides.{side_itself, left_within}
use Rattle.dewey_labels.proofs.Codes.{children_right}
use Rattle.tree_model.specs.Names.{Name}
use Rattle.tree_model.specs.Tree.{Forest, none, node, Catalogue, choose, at, found, behind, beside, labels, edit}
use Rattle.tree_model.specs.ValidTrees.{KeysRise, IsCatalogueOf, same_label, is_among, entries_with}
use Rattle.tree_model.specs.Edits.{without_entry}
use Rattle.tree_model.proofs.StoredCatalogues.{same_label_is}
use Rattle.tree_model.proofs.Keys.{list_tied}
use Rattle.tree_model.proofs.EntryLimits.{list_itself}
use Rattle.tree_model.proofs.Found.{some_is}
use Rattle.tree_model.proofs.PlaceLaws.{found_or_not}
use Rattle.tree_changes.proofs.NamedLess.{names-without, all-without}

-- ---- rows of labels

-- labels of children of p that rise from b on
abbrev pub Rises : Label → Label → List Label → Type 0
Rises p b [] = Unit {0}
Rises p b (l ∷ ls) = (is_child p l ≡ true) × (slice_cmp nat_cmp b l ≡ Less) × Rises p l ls

pub rises : (p b : Label) (f : Forest) → KeysRise p b f → Rises p b (labels f)
rises p b none w = tt
rises p b (node l r ats ch nx) w = (w.0, w.1, rises p l nx w.5)

-- what doesn't come behind b isn't among them
pub none_before : (p b m : Label) (ls : List Label) → Rises p b ls → (slice_cmp nat_cmp m b ≡ Less) ⊎ (m ≡ b) → is_among m ls ≡ false
none_before p b m [] w h = refl
none_before p b m (l ∷ ls) w h =
    let less : slice_cmp nat_cmp m l ≡ Less = ⊎_elim (λ e. nat_list_cmp_total.trans m b l e w.1)
    (λ e. subst (λ v. slice_cmp nat_cmp v l ≡ Less) (sym e) w.1) h in
    ap (λ o. is_eq o || is_among m ls) less ∙ none_before p l m ls w.2 (inl less)

-- a sibling that comes before lies to the left
pub left_of : (p m l : Label) → is_child p m ≡ true → is_child p l ≡ true → slice_cmp nat_cmp m l ≡ Less → side l m ≡ left
left_of p m l c d e = left_within m l m l (children_right p m l c d e) (ap is_in (side_itself m)) (ap is_in (side_itself l))

-- ---- a row without a label

abbrev pub drop_in : Label → List Label → List Label
drop_in l [] = []
drop_in l (m ∷ ms) = cond (same_label l m) ms (m ∷ drop_in l ms)

drop_absent : (l : Label) (ms : List Label) → is_among l ms ≡ false → drop_in l ms ≡ ms
drop_absent l [] h = refl
drop_absent l (m ∷ ms) h = elim (same_label l m) as (λ b. (b || is_among l ms) ≡ false → cond b ms (m ∷ drop_in l ms) ≡ m ∷ ms) [
  | true ↦ λ g. absurd (true≢false g)
  | false ↦ λ g. ap (λ v. m ∷ v) (drop_absent l ms g)
] h

all_dropped : (P : Label → Type 0) (l : Label) (ms : List Label) → AllByRecursion P ms → AllByRecursion P (drop_in l ms)
all_dropped P l [] h = tt
all_dropped P l (m ∷ ms) h = elim (same_label l m) as (λ b. AllByRecursion P (cond b ms (m ∷ drop_in l ms))) [
  | true ↦ h.1
  | false ↦
      (h.0, all_dropped P l ms h.1)
]

gone_among : (p b l : Label) (ms : List Label) → Rises p b ms → is_among l (drop_in l ms) ≡ false
gone_among p b l [] w = refl
gone_among p b l (m ∷ ms) w = elim (same_label l m) as (λ z. same_label l m ≡ z → is_among l (cond z ms (m ∷ drop_in l ms)) ≡ false) [
  | true ↦ λ e. none_before p m l ms w.2 (inr (same_label_is l m e))
  | false ↦ λ e. ap (λ z. z || is_among l (drop_in l ms)) e ∙ gone_among p m l ms w.2
] refl

-- what isn't among them is none of them
apart_all : (l : Label) (ms : List Label) → is_among l ms ≡ false → AllByRecursion (λ m. same_label m l ≡ false) ms
apart_all l [] h = tt
apart_all l (m ∷ ms) h = (
  ⊎_elim
      (λ e. absurd (true≢false (sym (ap (λ z. z || is_among l ms) (subst (λ k. same_label l k ≡ true) (sym (same_label_is m l e)) (ap is_eq (list_itself l))))
      ∙ h))) (λ e. e) (found_or_not (same_label m l)),
  apart_all l ms (rest (same_label l m) (is_among l ms) h),
)
  where
    rest : (a b : Bool) → (a || b) ≡ false → b ≡ false
    rest true b e = absurd (true≢false e)
    rest false b e = e

still_among : (l m : Label) (ms : List Label) → same_label m l ≡ false → is_among m ms ≡ true → is_among m (drop_in l ms) ≡ true
still_among l m [] n h = h
still_among l m (k ∷ ks) n h = elim (same_label l k) as (λ z. same_label l k ≡ z → is_among m (cond z ks (k ∷ drop_in l ks)) ≡ true) [
  | true ↦ λ e. sym (ap (λ z. z || is_among m ks) (subst (λ z. same_label m z ≡ false) (same_label_is l k e) n)) ∙ h
  | false ↦ λ _. elim (same_label m k) as (λ z. (z || is_among m ks) ≡ true
      → (z || is_among m (drop_in l ks)) ≡ true) [ true ↦ λ _. refl | false ↦ λ g. still_among l m ks n g ] h
] refl

-- what is among them is a child of p behind b
pub among_in : (p b l : Label) (ms : List Label) → Rises p b ms → is_among l ms ≡ true → (is_child p l ≡ true) × (slice_cmp nat_cmp b l ≡ Less)
among_in p b l [] w h = absurd (true≢false (sym h))
among_in p b l (m ∷ ms) w h = elim (same_label l m) as (λ z. same_label l m ≡ z → (z || is_among l ms) ≡ true
    → (is_child p l ≡ true) × (slice_cmp nat_cmp b l ≡ Less)) [
      | true ↦ λ e _. (subst (λ z. is_child p z ≡ true) (sym (same_label_is l m e)) w.0, subst (λ z. slice_cmp nat_cmp b z ≡ Less) (sym (same_label_is l m e)) w.1)
      | false ↦ λ _ g. let rest = among_in p m l ms w.2 g in (rest.0, nat_list_cmp_total.trans b m l w.1 rest.1)
    ] refl h

-- and is found among the trees of these labels
pub found_among : (p b l : Label) (f : Forest) → KeysRise p b f → is_among l (labels f) ≡ true → found (at l f) ≡ true
found_among p b l none w h = absurd (true≢false (sym h))
found_among p b l (node m r ats ch nx) w h = elim (same_label l m) as (λ z. same_label l m ≡ z → (z || is_among l (labels nx)) ≡ true
    → found (at l (node m r ats ch nx)) ≡ true) [
      | true ↦ λ e _. ap (λ s. found (choose s none (node m r ats ch nx) (at l ch) (at l nx)))
          (subst (λ z. side m z ≡ same) (sym (same_label_is l m e)) (side_itself m))
      | false ↦ λ _ g. let there = among_in p m l (labels nx) (rises p m nx w.5) g in ap (λ s. found (choose s none (node m r ats ch nx) (at l ch) (at l nx)))
          (children_right p m l w.0 there.0 there.1) ∙ found_among p m l nx w.5 g
    ] refl h

-- the labels of a row one of whose trees goes
pub labels_gone : (p b l : Label) (f : Forest) → KeysRise p b f → is_child p l ≡ true → labels (edit l behind f) ≡ drop_in l (labels f)
labels_gone p b l none w c = refl
labels_gone p b l (node m r ats ch nx) w c = elim (slice_cmp nat_cmp l m) as (λ o. slice_cmp nat_cmp l m ≡ o
    → labels (edit l behind (node m r ats ch nx)) ≡ cond (is_eq o) (labels nx) (m ∷ drop_in l (labels nx))) [
      | Less ↦ λ e. at_side left (left_of p l m c w.0 e)
          ∙ ap (λ v. m ∷ v) (sym (drop_absent l (labels nx) (none_before p m l (labels nx) (rises p m nx w.5) (inl e))))
      | Equal ↦ λ e. at_side same (subst (λ z. side z l ≡ same) (list_tied l m e) (side_itself l))
      | Greater ↦ λ e. at_side right (children_right p m l w.0 c (nat_list_cmp_total.antisymm m l ∙ ap ordering_reverse e))
          ∙ ap (λ v. m ∷ v) (labels_gone p m l nx w.5 c)
    ] refl
  where
    at_side : (s : Side) → side m l ≡ s
        → labels (edit l behind (node m r ats ch nx)) ≡ labels
        (choose s (node m r ats ch nx) nx (node m r ats (edit l behind ch) nx) (node m r ats ch (edit l behind nx)))
    at_side s e = ap (λ v. labels (choose v (node m r ats ch nx) nx (node m r ats (edit l behind ch) nx) (node m r ats ch (edit l behind nx)))) e

-- ---- the catalogue without a name

entries_less : (m : Label) (n : Name) (l : Label) (cat : Catalogue) → beside n cat ≡ Some l
    → entries_with m cat ≡ cond (same_label m l) (suc (entries_with m (without_entry n cat))) (entries_with m (without_entry n cat))
entries_less m n l [] h = absurd (true≢false (ap is_some (sym h)))
entries_less m n l (c ∷ cat) h = elim (is_eq (slice_cmp nat_cmp n c.0)) as (λ b. cond b (Some c.1) (beside n cat) ≡ Some l
    → entries_with m (c ∷ cat) ≡ cond (same_label m l) (suc (entries_with m (if b then cat else c ∷ without_entry n cat)))
    (entries_with m (if b then cat else c ∷ without_entry n cat))) [
      | true ↦ λ g. ap (λ k. cond (same_label m k) (suc (entries_with m cat)) (entries_with m cat)) (some_is c.1 l g)
      | false ↦ λ g. ap (λ v. cond (same_label m c.1) (suc v) v) (entries_less m n l cat g)
          ∙ swapped (same_label m c.1) (same_label m l) (entries_with m (without_entry n cat))
    ] h
  where
    swapped : (a b : Bool) (k : ℕ) → cond a (suc (cond b (suc k) k)) (cond b (suc k) k) ≡ cond b (suc (cond a (suc k) k)) (cond a (suc k) k)
    swapped true true k = refl
    swapped true false k = refl
    swapped false true k = refl
    swapped false false k = refl

-- no entry has a label that none is with
none_has : (l : Label) (cat : Catalogue) → entries_with l cat ≡ 0 → AllByRecursion (λ c. same_label c.1 l ≡ false) cat
none_has l [] h = tt
none_has l (c ∷ cat) h = elim (same_label l c.1) as (λ z. same_label l c.1 ≡ z → cond z (suc (entries_with l cat)) (entries_with l cat) ≡ 0
    → AllByRecursion (λ c. same_label c.1 l ≡ false) (c ∷ cat)) [
      | true ↦ λ _ g. cc
      | false ↦ λ e g. (
        ⊎_elim (λ k. absurd (true≢false (sym (subst (λ z. same_label l z ≡ true) (sym (same_label_is c.1 l k)) (ap is_eq (list_itself l))) ∙ e)))
            (λ k. k) (found_or_not (same_label c.1 l)),
        none_has l cat g,
      )
    ] refl h

same_some : {A : Type 0} (x y : A) → Some x ≡ Some y → x ≡ y
same_some x y e = cc

pub beside_all : {A : Type 0} (P : Name × A → Type 0) (n : Name) (l : A) (xs : List (Name × A)) → AllByRecursion P xs → beside n xs ≡ Some l
    → (k : Name) × P (k, l)
beside_all P n l [] h e = absurd (true≢false (ap is_some (sym e)))
beside_all P n l (x ∷ xs) h e = elim (is_eq (slice_cmp nat_cmp n x.0)) as (λ b. cond b (Some x.1) (beside n xs) ≡ Some l → (k : Name) × P (k, l)) [
  | true ↦ λ g. (x.0, subst (λ v. P (x.0, v)) (same_some x.1 l g) h.0)
  | false ↦ λ g. beside_all P n l xs h.1 g
] e

pub catalogue_gone : (n : Name) (l : Label) (cat : Catalogue) (ls : List Label) → Rises root root ls → IsCatalogueOf ls cat → beside n cat ≡ Some l
    → is_among l ls ≡ true → IsCatalogueOf (drop_in l ls) (without_entry n cat)
catalogue_gone n l cat ls w is e there = record {
  names = names-without [] n cat is.names;
  each_document = ones (drop_in l ls) (apart_all l (drop_in l ls) (gone_among root root l ls w))
      (all_dropped (λ m. entries_with m cat ≡ 1) l ls is.each_document);
  each_entry = still (without_entry n cat) (none_has l (without_entry n cat) none_left) (all-without (λ c. is_among c.1 ls ≡ true) n cat is.each_entry);
}
  where
    ones : (ms : List Label) → AllByRecursion (λ m. same_label m l ≡ false) ms → AllByRecursion (λ m. entries_with m cat ≡ 1) ms
        → AllByRecursion (λ m. entries_with m (without_entry n cat) ≡ 1) ms
    ones [] a h = tt
    ones (m ∷ ms) a h = (
      ap (λ z. cond z (suc (entries_with m (without_entry n cat))) (entries_with m (without_entry n cat))) (sym a.0)
          ∙ sym (entries_less m n l cat e) ∙ h.0,
      ones ms a.1 h.1,
    )

    one_of : (ms : List Label) → is_among l ms ≡ true → AllByRecursion (λ m. entries_with m cat ≡ 1) ms → entries_with l cat ≡ 1
    one_of [] k h = absurd (true≢false (sym k))
    one_of (m ∷ ms) k h = elim (same_label l m) as (λ z. same_label l m ≡ z → (z || is_among l ms) ≡ true → entries_with l cat ≡ 1) [
      | true ↦ λ q _. subst (λ v. entries_with v cat ≡ 1) (sym (same_label_is l m q)) h.0
      | false ↦ λ _ g. one_of ms g h.1
    ] refl k

    pred : (k : ℕ) → suc k ≡ 1 → k ≡ 0
    pred k h = omega (arith, h)

    none_left : entries_with l (without_entry n cat) ≡ 0
    none_left = pred _ (ap (λ z. cond z (suc (entries_with l (without_entry n cat))) (entries_with l (without_entry n cat))) (sym (ap is_eq (list_itself l)))
        ∙ sym (entries_less l n l cat e) ∙ one_of ls there is.each_document)

    still : (cs : Catalogue) → AllByRecursion (λ c. same_label c.1 l ≡ false) cs → AllByRecursion (λ c. is_among c.1 ls ≡ true) cs
        → AllByRecursion (λ c. is_among c.1 (drop_in l ls) ≡ true) cs
    still [] a h = tt
    still (c ∷ cs) a h = (still_among l c.1 ls a.0 h.0, still cs a.1 h.1)

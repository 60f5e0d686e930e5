-- The rows of a tree: which labels stand in one, and what its nodes have beside them.
use Rattle.std.proofs.Common.{◌≡◌, true, false, cond, ◌||◌, List, [], ◌∷◌, Option, None, Some, Less, Equal, Greater, nat_cmp, is_eq, refl, sym, ap, subst, ◌∙◌, true≢false, ◌⊎◌, inl, inr, ⊎_elim}
use Rattle.std.specs.Ordering.{ordering_reverse}
use Rattle.std.specs.Cmp.Lexicographic.{slice_cmp, nat_list_cmp_total}
use Rattle.dewey_labels.specs.Labels.{Label, is_child}
use Rattle.dewey_labels.specs.Sides.{left, same, side, is_in}
use Rattle.dewey_labels.proofs.Sides.{side_itself, left_within}
use Rattle.dewey_labels.proofs.Codes.{children_right}
use Rattle.std.specs.Option.{option_or}
use Rattle.tree_model.specs.Tree.{Forest, none, node, choose, at, found, labels, head_label, last_label, next_of, prev_of}
use Rattle.tree_model.specs.ValidTrees.{KeysRise, same_label, is_among}
use Rattle.tree_model.proofs.Keys.{list_tied}
use Rattle.tree_model.proofs.EntryLimits.{list_itself}

-- ---- rows of labels

-- labels of children of p that rise from b on
abbrev pub Rises : Label → Label → List Label → Type 0
Rises p b [] = Unit {0}
Rises p b (l ∷ ls) = (is_child p l ≡ true) × (slice_cmp nat_cmp b l ≡ Less) × Rises p l ls

pub rises : (p b : Label) (f : Forest) → KeysRise p b f → Rises p b (labels f)
rises p b none w = tt
rises p b (node l r ats ch nx) w = (w.0, w.1, rises p l nx w.5)

-- what doesn't come behind b isn't among them
pub none_before : (p b m : Label) (ls : List Label) → Rises p b ls → (slice_cmp nat_cmp m b ≡ Less) ⊎ (m ≡ b) → is_among m ls ≡ false
none_before p b m [] w h = refl
none_before p b m (l ∷ ls) w h =
    let less : slice_cmp nat_cmp m l ≡ Less = ⊎_elim (λ e. nat_list_cmp_total.trans m b l e w.1) (λ e. subst (λ v. slice_cmp nat_cmp v l ≡ Less) (sym e) w.1) h in
    ap (λ o. is_eq o || is_among m ls) less ∙ none_before p l m ls w.2 (inl less)

among_first : (m : Label) (ls : List Label) → is_among m (m ∷ ls) ≡ true
among_first m ls = ap (λ o. is_eq o || is_among m ls) (list_itself m)

-- two rows with the same labels are one
pub same_rows : (p b c : Label) (ks ls : List Label) → Rises p b ks → Rises p c ls → ((m : Label) → is_child p m ≡ true → is_among m ks ≡ is_among m ls) → ks ≡ ls
same_rows p b c [] [] w v alike = refl
same_rows p b c [] (l ∷ ls) w v alike = absurd (true≢false (sym (among_first l ls) ∙ sym (alike l v.0)))
same_rows p b c (k ∷ ks) [] w v alike = absurd (true≢false (sym (among_first k ks) ∙ alike k w.0))
same_rows p b c (k ∷ ks) (l ∷ ls) w v alike =
    elim (slice_cmp nat_cmp k l) as (λ o. slice_cmp nat_cmp k l ≡ o → k ∷ ks ≡ l ∷ ls) [
      | Less ↦ λ e. absurd (true≢false (sym (among_first k ks) ∙ alike k w.0 ∙ ap (λ o. is_eq o || is_among k ls) e ∙ none_before p l k ls v.2 (inl e)))
      | Equal ↦ λ e.
          let one = list_tied k l e in
          let rest = same_rows p k l ks ls w.2 v.2 (λ m c. elim (slice_cmp nat_cmp m k) as (λ o. slice_cmp nat_cmp m k ≡ o → is_among m ks ≡ is_among m ls) [
            | Less ↦ λ g. none_before p k m ks w.2 (inl g) ∙ sym (none_before p l m ls v.2 (inl (subst (λ z. slice_cmp nat_cmp m z ≡ Less) one g)))
            | Equal ↦ λ g. let is = list_tied m k g in none_before p k m ks w.2 (inr is) ∙ sym (none_before p l m ls v.2 (inr (is ∙ one)))
            | Greater ↦ λ g. sym (ap (λ o. is_eq o || is_among m ks) g) ∙ alike m c ∙ ap (λ o. is_eq o || is_among m ls) (subst (λ z. slice_cmp nat_cmp m z ≡ Greater) one g)
          ] refl) in
          λ i. one i ∷ rest i
      | Greater ↦ λ e. let less : slice_cmp nat_cmp l k ≡ Less = nat_list_cmp_total.antisymm l k ∙ ap ordering_reverse e in absurd (true≢false (sym (among_first l ls) ∙ sym (alike l v.0) ∙ ap (λ o. is_eq o || is_among l ks) less ∙ none_before p k l ks w.2 (inl less)))
    ] refl

-- ---- a row of trees

-- a sibling that comes before lies to the left
pub left_of : (p m l : Label) → is_child p m ≡ true → is_child p l ≡ true → slice_cmp nat_cmp m l ≡ Less → side l m ≡ left
left_of p m l c d e = left_within m l m l (children_right p m l c d e) (ap is_in (side_itself m)) (ap is_in (side_itself l))

-- a label is found in a row of its siblings where it is among their labels
pub among_found : (p b m : Label) (f : Forest) → KeysRise p b f → is_child p m ≡ true → is_among m (labels f) ≡ found (at m f)
among_found p b m none w c = refl
among_found p b m (node k r ats ch nx) w c =
    elim (slice_cmp nat_cmp m k) as (λ o. slice_cmp nat_cmp m k ≡ o → (is_eq o || is_among m (labels nx)) ≡ found (at m (node k r ats ch nx))) [
      | Less ↦ λ e. none_before p k m (labels nx) (rises p k nx w.5) (inl e) ∙ sym (ap (λ s. found (choose s none (node k r ats ch nx) (at m ch) (at m nx))) (left_of p m k c w.0 e))
      | Equal ↦ λ e. sym (ap (λ s. found (choose s none (node k r ats ch nx) (at m ch) (at m nx))) (subst (λ v. side k v ≡ same) (sym (list_tied m k e)) (side_itself k)))
      | Greater ↦ λ e. among_found p k m nx w.5 c ∙ sym (ap (λ s. found (choose s none (node k r ats ch nx) (at m ch) (at m nx))) (children_right p k m w.0 c (nat_list_cmp_total.antisymm k m ∙ ap ordering_reverse e)))
    ] refl

abbrev pub head_in : List Label → Option Label
head_in [] = None
head_in (l ∷ ls) = Some l

abbrev pub last_in : List Label → Option Label
last_in [] = None
last_in (l ∷ ls) = option_or (last_in ls) (Some l)

abbrev pub next_in : Label → List Label → Option Label
next_in m [] = None
next_in m (l ∷ ls) = cond (same_label m l) (head_in ls) (next_in m ls)

-- o stands before the row
abbrev pub prev_in : Option Label → Label → List Label → Option Label
prev_in o m [] = None
prev_in o m (l ∷ ls) = cond (same_label m l) o (prev_in (Some l) m ls)

pub head_is : (f : Forest) → head_label f ≡ head_in (labels f)
head_is none = refl
head_is (node l r ats ch nx) = refl

pub last_is : (f : Forest) → last_label f ≡ last_in (labels f)
last_is none = refl
last_is (node l r ats ch nx) = ap (λ o. option_or o (Some l)) (last_is nx)

pub no_next : (m : Label) (ls : List Label) → is_among m ls ≡ false → next_in m ls ≡ None
no_next m [] e = refl
no_next m (l ∷ ls) e = elim (same_label m l) as (λ b. (b || is_among m ls) ≡ false → cond b (head_in ls) (next_in m ls) ≡ None) [ true ↦ λ h. absurd (true≢false h) | false ↦ λ h. no_next m ls h ] e

pub no_prev : (o : Option Label) (m : Label) (ls : List Label) → is_among m ls ≡ false → prev_in o m ls ≡ None
no_prev o m [] e = refl
no_prev o m (l ∷ ls) e = elim (same_label m l) as (λ b. (b || is_among m ls) ≡ false → cond b o (prev_in (Some l) m ls) ≡ None) [ true ↦ λ h. absurd (true≢false h) | false ↦ λ h. no_prev (Some l) m ls h ] e

pub next_is : (p b m : Label) (f : Forest) → KeysRise p b f → is_child p m ≡ true → next_of (at m f) ≡ next_in m (labels f)
next_is p b m none w c = refl
next_is p b m (node k r ats ch nx) w c =
    elim (slice_cmp nat_cmp m k) as (λ o. slice_cmp nat_cmp m k ≡ o → next_of (at m (node k r ats ch nx)) ≡ cond (is_eq o) (head_in (labels nx)) (next_in m (labels nx))) [
      | Less ↦ λ e. ap (λ s. next_of (choose s none (node k r ats ch nx) (at m ch) (at m nx))) (left_of p m k c w.0 e) ∙ sym (no_next m (labels nx) (none_before p k m (labels nx) (rises p k nx w.5) (inl e)))
      | Equal ↦ λ e. ap (λ s. next_of (choose s none (node k r ats ch nx) (at m ch) (at m nx))) (subst (λ v. side k v ≡ same) (sym (list_tied m k e)) (side_itself k)) ∙ head_is nx
      | Greater ↦ λ e. ap (λ s. next_of (choose s none (node k r ats ch nx) (at m ch) (at m nx))) (children_right p k m w.0 c (nat_list_cmp_total.antisymm k m ∙ ap ordering_reverse e)) ∙ next_is p k m nx w.5 c
    ] refl

pub prev_is : (o : Option Label) (p b m : Label) (f : Forest) → KeysRise p b f → is_child p m ≡ true → prev_of o m f ≡ prev_in o m (labels f)
prev_is o p b m none w c = refl
prev_is o p b m (node k r ats ch nx) w c =
    elim (slice_cmp nat_cmp m k) as (λ z. slice_cmp nat_cmp m k ≡ z → prev_of o m (node k r ats ch nx) ≡ cond (is_eq z) o (prev_in (Some k) m (labels nx))) [
      | Less ↦ λ e. ap (λ s. choose s None o (prev_of None m ch) (prev_of (Some k) m nx)) (left_of p m k c w.0 e) ∙ sym (no_prev (Some k) m (labels nx) (none_before p k m (labels nx) (rises p k nx w.5) (inl e)))
      | Equal ↦ λ e. ap (λ s. choose s None o (prev_of None m ch) (prev_of (Some k) m nx)) (subst (λ v. side k v ≡ same) (sym (list_tied m k e)) (side_itself k))
      | Greater ↦ λ e. ap (λ s. choose s None o (prev_of None m ch) (prev_of (Some k) m nx)) (children_right p k m w.0 c (nat_list_cmp_total.antisymm k m ∙ ap ordering_reverse e)) ∙ prev_is (Some k) p k m nx w.5 c
    ] refl

-- Labels: the way up from one, and the sides of two.
use Rattle.std.proofs.Common.{◌≡◌, ℕ, zero, suc, ◌+◌, ◌-◌, ◌≤◌, Bool, true, false, not, ◌&&◌, [], ◌∷◌, ◌++◌, reverse, drop, Option, None, Some, Ordering, Less, Equal, Greater, nat_cmp, refl, sym, ap, subst, ◌∙◌, append-nil, true≢false, arith}
use Rattle.std.specs.Ordering.{ordering_reverse, ordering_then}
use Rattle.std.specs.Cmp.{nat_cmp_total}
use Rattle.std.specs.Cmp.Lexicographic.{slice_cmp, nat_list_cmp_total}
use Rattle.std.proofs.lemmas.Grind.{reverse_onto}
use Rattle.dewey_labels.specs.Labels.{Label, root, is_child, is_label, is_ancestor, parent, level, cut}
use Rattle.dewey_labels.specs.Sides.{Side, side, turn, above, left, same, under, right, is_under, is_right, child_toward}
use Rattle.dewey_labels.specs.Ancestors.{cuts}
use Rattle.dewey_labels.proofs.Ancestors.{cut_all, toward-cut, toward_itself}
use Rattle.dewey_labels.proofs.Labels.{child_of_parent}
use Rattle.dewey_labels.proofs.Sides.{left_before, above_before, right_before, same_is, ancestor_under, cmp_itself}
use Rattle.tree_model.specs.Places.{is_root}
use Rattle.path_model.specs.Axes.{document_in, document_of, is_left}
use Rattle.path_model.specs.AxisPrograms.{ancestors_up}

-- ---- up

pub ups_more : (i : ℕ) (l : Label) → 1 ≤ i → reverse (cuts i l) ≡ reverse (cuts (i - 1) l) ++ cut i l ∷ []
ups_more zero l h = absurd (omega (arith, h))
ups_more (suc n) l h = let e : n ≡ suc n - 1 = omega arith in reverse_onto (cuts n l) (cut (suc n) l) [] ∙ ap (λ m. reverse (cuts m l) ++ cut (suc n) l ∷ []) e

pub cut_more : (i : ℕ) (l : Label) → cut (i + 1) l ≡ parent (cut i l)
cut_more i l = let e : i + 1 ≡ suc i = omega arith in ap (λ n. cut n l) e

pub ups_all : (l : Label) → reverse (cuts (level l - 1) l) ≡ ancestors_up l
ups_all l = by (level l)
  where
    by : (n : ℕ) → reverse (cuts (n - 1) l) ≡ reverse (drop 1 (cuts n l))
    by zero = refl
    by (suc n) = let e : suc n - 1 ≡ n = omega arith in ap (λ m. reverse (cuts m l)) e

-- where a loop from 1 to below n ends
pub ends_at : (i n : ℕ) → i ≤ 1 + n → 1 ≤ i → (1 ≤ n → i ≤ n) → n ≤ i → i - 1 ≡ n - 1
ends_at i zero h low high past = omega arith
ends_at i (suc n) h low high past = let e : i ≤ suc n = high (omega arith) in omega (arith, e)

-- a label whose parent isn't the root is a child of it
pub child_of_place : (p l : Label) → is_label l ≡ true → p ≡ parent l → is_root p ≡ false → is_child p l ≡ true
child_of_place p l i e r = subst (λ q. is_child q l ≡ true) (sym e) (child_of_parent l i (λ is. true≢false (sym (ap (λ k. is_root (parent k)) is) ∙ sym (ap is_root e) ∙ r)))

-- ---- the document

pub document_is : (l : Label) → document_of l ≡ cut (level l - 1) l
document_is l = by (level l)
  where
    by : (n : ℕ) → document_in l (cuts n l) ≡ cut (n - 1) l
    by zero = refl
    by (suc zero) = refl
    by (suc (suc n)) = let e : suc n ≡ suc (suc n) - 1 = omega arith in ap (λ m. cut m l) e

abbrev pub or_itself : Label → Option Label → Label
or_itself l None = l
or_itself l (Some d) = d

pub toward_document : (l : Label) → is_label l ≡ true → or_itself l (child_toward root l) ≡ document_of l
toward_document l h = by (level l) refl ∙ sym (document_is l)
  where
    by : (n : ℕ) → level l ≡ n → or_itself l (child_toward root l) ≡ cut (level l - 1) l
    by zero e =
        let is : l ≡ root = sym (ap (λ m. cut m l) e) ∙ cut_all l h in
        ap (λ p. or_itself l (child_toward p l)) (sym is) ∙ ap (or_itself l) (toward_itself l) ∙ ap (λ m. cut (m - 1) l) (sym e)
    by (suc n) e =
        let less : n ≡ level l - 1 = omega (arith, e) in
        let top : cut (suc n) l ≡ root = sym (ap (λ m. cut m l) e) ∙ cut_all l h in
        ap (λ p. or_itself l (child_toward p l)) (sym top) ∙ ap (or_itself l) (toward-cut n l h (omega (arith, e))) ∙ ap (λ m. cut m l) less

-- ---- sides

abbrev pub is_less : Ordering → Bool
is_less Less = true
is_less Equal = false
is_less Greater = false

pub not_less : (o : Ordering) → (o ≡ Less → ⊥) → false ≡ is_less o
not_less Less h = absurd (h refl)
not_less Equal h = refl
not_less Greater h = refl

behind : (l k : Label) → slice_cmp nat_cmp k l ≡ Less → is_less (slice_cmp nat_cmp l k) ≡ false
behind l k h = ap is_less (nat_list_cmp_total.antisymm l k ∙ ap ordering_reverse h)

pub right_test : (l k : Label) → (is_less (slice_cmp nat_cmp l k) && not (is_ancestor l k)) ≡ is_right (side l k)
right_test l k = ap (λ b. is_less (slice_cmp nat_cmp l k) && not b) (ancestor_under l k) ∙ by (side l k) refl
  where
    by : (s : Side) → side l k ≡ s → (is_less (slice_cmp nat_cmp l k) && not (is_under (side l k))) ≡ is_right (side l k)
    by s e = elim s as (λ s. side l k ≡ s → (is_less (slice_cmp nat_cmp l k) && not (is_under (side l k))) ≡ is_right (side l k)) [
      | above ↦ λ e. ap (λ b. b && not (is_under (side l k))) (behind l k (subst (λ z. slice_cmp nat_cmp k z ≡ Less) (append-nil l) (above_before l k [] e))) ∙ sym (ap is_right e)
      | left ↦ λ e. ap (λ b. b && not (is_under (side l k))) (behind l k (subst (λ z. slice_cmp nat_cmp k z ≡ Less) (append-nil l) (left_before l k [] e))) ∙ sym (ap is_right e)
      | same ↦ λ e. ap (λ z. is_less (slice_cmp nat_cmp l z) && not (is_under (side l k))) (same_is l k e) ∙ ap (λ o. is_less o && not (is_under (side l k))) (list_itself l) ∙ sym (ap is_right e)
      | under ↦ λ e. ap (λ z. is_less (slice_cmp nat_cmp l k) && not (is_under z)) e ∙ both_false (is_less (slice_cmp nat_cmp l k)) ∙ sym (ap is_right e)
      | right ↦ λ e. ap (λ o. is_less o && not (is_under (side l k))) (right_before l k e) ∙ ap (λ z. not (is_under z)) e ∙ sym (ap is_right e)
    ] e
      where
        both_false : (b : Bool) → (b && false) ≡ false
        both_false true = refl
        both_false false = refl

        list_itself : (l : Label) → slice_cmp nat_cmp l l ≡ Equal
        list_itself [] = refl
        list_itself (x ∷ l) = ap (λ o. ordering_then o (slice_cmp nat_cmp l l)) (cmp_itself x) ∙ list_itself l

-- the side of one on which the other lies, turned
pub flipped : (l k : Label) → is_right (side k l) ≡ is_left (side l k)
flipped [] [] = refl
flipped [] (y ∷ k) = refl
flipped (x ∷ l) [] = refl
flipped (x ∷ l) (y ∷ k) =
    elim (nat_cmp y x) as (λ o. nat_cmp x y ≡ ordering_reverse o → is_right (turn (nat_cmp x y) (side k l)) ≡ is_left (turn o (side l k))) [
      | Less ↦ λ e. ap (λ o. is_right (turn o (side k l))) e
      | Equal ↦ λ e. ap (λ o. is_right (turn o (side k l))) e ∙ flipped l k
      | Greater ↦ λ e. ap (λ o. is_right (turn o (side k l))) e
    ] (nat_cmp_total.antisymm x y)

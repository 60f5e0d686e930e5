-- The laws of the last label of a subtree: nothing of the subtree comes behind it, and it comes before all to the right.
use Rattle.std.proofs.Common.{◌≡◌, ◌⊎◌, inl, inr, ℕ, zero, suc, ◌-◌, ◌<◌, ◌≤◌, List, [], ◌∷◌, ◌++◌, length, replicate, true, Less, Equal, Greater, nat_cmp, arith, refl, sym, ap, subst, ◌∙◌, length-append}
use Rattle.std.specs.Ordering.{ordering_reverse, ordering_then}
use Rattle.std.specs.Cmp.{ranked}
use Rattle.std.specs.Cmp.Lexicographic.{slice_cmp, nat_list_cmp_total}
use Rattle.std.specs.List.{AllByRecursion}
use Rattle.dewey_labels.specs.Labels.{Label, greatest, most_divisions, Within}
use Rattle.dewey_labels.specs.Sides.{right, side, is_in, rest, fill}
use Rattle.dewey_labels.proofs.Sides.{cmp_append, in_is, right_behind}

-- at most n divisions, each at most the greatest, don't come behind n times the greatest
none_behind : (n : ℕ) (w : List ℕ) → length w ≤ n → AllByRecursion (λ d. d ≤ greatest) w → (slice_cmp nat_cmp w (replicate n greatest) ≡ Less) ⊎ (slice_cmp nat_cmp w (replicate n greatest) ≡ Equal)
none_behind zero [] h g = inr refl
none_behind (suc n) [] h g = inl refl
none_behind zero (d ∷ w) h g = absurd (omega arith)
none_behind (suc n) (d ∷ w) h g =
    let end : List ℕ = replicate n greatest in
    elim (nat_cmp d greatest) as (λ o. nat_cmp d greatest ≡ o → (ordering_then o (slice_cmp nat_cmp w end) ≡ Less) ⊎ (ordering_then o (slice_cmp nat_cmp w end) ≡ Equal)) [
      | Less ↦ λ _. inl refl
      | Equal ↦ λ _. none_behind n w (omega arith) g.1
      | Greater ↦ λ q. let h : greatest < d = ranked d greatest Greater (sym q) in absurd (omega (arith, g.0))
    ] refl

pub all_behind : (P : ℕ → Type 0) (l w : Label) → AllByRecursion P (l ++ w) → AllByRecursion P w
all_behind P [] w h = h
all_behind P (x ∷ l) w h = all_behind P l w h.1

-- of the labels within the limits, those of the subtree are the last one or come before it
pub in_before_fill : (l k : Label) → is_in (side l k) ≡ true → Within k → (slice_cmp nat_cmp k (fill l) ≡ Less) ⊎ (slice_cmp nat_cmp k (fill l) ≡ Equal)
in_before_fill l k i within =
    let n = most_divisions - length l in
    let w = rest l k in
    let k_is : k ≡ l ++ w = in_is l k i in
    let short : length w ≤ n = omega (arith, within.0, ap length k_is ∙ length-append l w) in
    let small : AllByRecursion (λ d. d ≤ greatest) w = all_behind (λ d. d ≤ greatest) l w (subst (AllByRecursion (λ d. d ≤ greatest)) k_is within.1) in
    let by : slice_cmp nat_cmp k (fill l) ≡ slice_cmp nat_cmp w (replicate n greatest) = ap (λ v. slice_cmp nat_cmp v (fill l)) k_is ∙ cmp_append l w (replicate n greatest) in
    subst (λ o. (o ≡ Less) ⊎ (o ≡ Equal)) (sym by) (none_behind n w short small)

pub fill_before_right : (l k : Label) → side l k ≡ right → slice_cmp nat_cmp (fill l) k ≡ Less
fill_before_right l k h = nat_list_cmp_total.antisymm (fill l) k ∙ ap ordering_reverse (right_behind l k _ h)

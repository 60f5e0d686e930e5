-- There is one first cycle.
use Rattle.std.proofs.Common.{◌≡◌, ℕ, Bool, false, ◌&&◌, ◌||◌, List, [], ◌∷◌, length, nat_lt, ◌==◌, refl, sym, ap₂, arith}
use Rattle.std.proofs.lemmas.Bool.Decides.{nat_tests}
use Rattle.wait_cycles.specs.Walks.{is_less}
use Rattle.wait_cycles.specs.Cycles.{IsFirst}

same_heads : (u v : ℕ) (a b : Bool) → (nat_lt u v || ((u == v) && a)) ≡ false → (nat_lt v u || ((v == u) && b)) ≡ false → u ≡ v
same_heads u v a b e f = grind (arith, nat_tests, e, f)

tails : (u v : ℕ) (a : Bool) → u ≡ v → (nat_lt u v || ((u == v) && a)) ≡ false → a ≡ false
tails u v a same e = grind (arith, nat_tests, same, e)

neither_less : (us vs : List ℕ) → length us ≡ length vs → is_less us vs ≡ false → is_less vs us ≡ false → us ≡ vs
neither_less [] [] size e f = refl
neither_less [] (v ∷ vs) size e f = absurd (omega (arith, size))
neither_less (u ∷ us) [] size e f = absurd (omega (arith, size))
neither_less (u ∷ us) (v ∷ vs) size e f =
    let same = same_heads u v (is_less us vs) (is_less vs us) e f in
    ap₂ (λ x xs. x ∷ xs) same (neither_less us vs (omega (arith, size)) (tails u v (is_less us vs) same e) (tails v u (is_less vs us) (sym same) f))

pub one_first : (R : ℕ → ℕ → Bool) (s : ℕ) (us vs : List ℕ) → IsFirst R s us → IsFirst R s vs → us ≡ vs
one_first R s us vs a b =
    let x = a.first vs b.cycle in
    let y = b.first us a.cycle in
    let short = x.short in
    let long = y.short in
    let size : length us ≡ length vs = omega (arith, short, long) in
    neither_less us vs size (y.least size) (x.least (sym size))

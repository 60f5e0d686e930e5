-- A row that is read up to the last of the children that are wanted.
use Rattle.std.proofs.Common.{◌≡◌, ◌≤◌, ◌<◌, ◌+◌, ℕ, zero, suc, Bool, true, false, cond, if◌then◌else◌, List, [], ◌∷◌, ◌++◌, length, take, refl, sym, ap, ◌∙◌, append_assoc, arith}
use Rattle.std.specs.List.{filter}
use Rattle.std.proofs.Math.Seq.{take-append_seam}
use Rattle.std.proofs.lemmas.List.{length-append, take_all}
use Rattle.path_model.specs.Positions.{Position}
use Rattle.path_model.proofs.SubtreeLaws.{filter_joined}
use Rattle.xpath_axes.specs.declared.position.Position as declared
use Rattle.xpath_axes.specs.LookReads.{up_to}
use Rattle.xpath_axes.specs.Positions.{all_plain}
use Rattle.xpath_axes.proofs.ReadCounts.{plain_length}

module _ (q : Position → Bool) where
  pub up_to_length : (room : ℕ) (ns : List Position) → length (up_to q room ns) ≤ length ns
  up_to_length zero ns = omega arith
  up_to_length (suc k) [] = omega arith
  up_to_length (suc k) (n ∷ ns) = elim (q n) as (λ b. suc (length (if b then up_to q k ns else up_to q (suc k) ns)) ≤ suc (length ns)) [
    | true ↦ let e = up_to_length k ns in omega (arith, e)
    | false ↦ let e = up_to_length (suc k) ns in omega (arith, e)
  ]

  pub filter_length : (ns : List Position) → length (filter q ns) ≤ length ns
  filter_length [] = omega arith
  filter_length (n ∷ ns) = elim (q n) as (λ b. length (cond b (n ∷ filter q ns) (filter q ns)) ≤ suc (length ns)) [
    | true ↦ let e = filter_length ns in omega (arith, e)
    | false ↦ let e = filter_length ns in omega (arith, e)
  ]

  -- where fewer pass of what was met than are wanted, all of it is read, and one more where there is one
  long_enough : (room : ℕ) (out rest : List Position) → length (filter q out) < room → length out + length (take 1 rest) ≤ length (up_to q room (out ++ rest))
  long_enough zero out rest h = absurd (omega (arith, h))
  long_enough (suc k) [] [] h = omega arith
  long_enough (suc k) [] (m ∷ ms) h = omega arith
  long_enough (suc k) (x ∷ xs) rest h =
      elim (q x) as (λ b. length (cond b (x ∷ filter q xs) (filter q xs)) < suc k → suc (length xs) + length (take 1 rest) ≤ suc (length (if b then up_to q k (xs ++ rest) else up_to q (suc k) (xs ++ rest)))) [
        | true ↦ λ g. let e = long_enough k xs rest (omega (arith, g)) in omega (arith, e)
        | false ↦ λ g. let e = long_enough (suc k) xs rest g in omega (arith, e)
      ] h

  one_or_none : (n : Position) → length (filter q (n ∷ [])) ≤ 1
  one_or_none n = elim (q n) as (λ b. length (cond b (n ∷ []) []) ≤ 1) [ true ↦ omega arith | false ↦ omega arith ]

  pub longer : (found : List declared.Position) (n : Position) (more : List declared.Position) → all_plain more ≡ all_plain found ++ filter q (n ∷ []) → length more ≤ length found + 1
  longer found n more p =
      let total : length more ≡ length found + length (filter q (n ∷ [])) =
      sym (plain_length more) ∙ ap length p ∙ length-append (all_plain found) (filter q (n ∷ [])) ∙ ap (λ k. k + length (filter q (n ∷ []))) (plain_length found) in
      let one = one_or_none n in
      omega (arith, total, one)

  pub one_put : (found : List declared.Position) (out : List Position) (n : Position) (more : List declared.Position) → all_plain found ≡ filter q out → all_plain more ≡ all_plain found ++ filter q (n ∷ [])
      → all_plain more ≡ filter q (out ++ n ∷ [])
  one_put found out n more e p = p ∙ ap (λ (ns : List Position). ns ++ filter q (n ∷ [])) e ∙ sym (filter_joined q out (n ∷ []))

  module _ (found : List declared.Position) (out : List Position) (e : all_plain found ≡ filter q out) where
    passed : length (filter q out) ≡ length found
    passed = ap length (sym e) ∙ plain_length found

    -- where all were met
    pub all_met : (room : ℕ) (row : List Position) → length found < room → out ≡ row → all_plain found ≡ take room (filter q row)
    all_met room row h w = let n = passed in e ∙ sym (take_all room (filter q out) (omega (arith, h, n))) ∙ ap (λ (ns : List Position). take room (filter q ns)) w

    pub all_read : (first read room : ℕ) (row : List Position) → read ≤ first + (length out + 1) → length found < room → out ≡ row → read ≤ first + (length (up_to q room row) + 1)
    all_read first read room row h g w =
        let n = passed in
        let long = long_enough room out [] (omega (arith, g, n)) in
        let is = ap (λ (ns : List Position). length (up_to q room ns)) (Rattle.std.proofs.Common.append-nil out ∙ w) in
        omega (arith, h, long, is)

    -- where one more is to come
    pub next_read : (first read after room : ℕ) (n : Position) (rest row : List Position) → read ≤ first + (length out + 1) → length found < room → (out ++ n ∷ []) ++ rest ≡ row → after ≤ read + 1
        → after ≤ first + (length (up_to q room row) + 1)
    next_read first read after room n rest row h g w step =
        let m = passed in
        let long = long_enough room out (n ∷ rest) (omega (arith, g, m)) in
        let is = ap (λ (ns : List Position). length (up_to q room ns)) (sym (append_assoc out (n ∷ []) rest) ∙ w) in
        omega (arith, h, long, is, step)

  -- where as many pass as are wanted, the rest of the row isn't read
  pub enough_met : (found : List declared.Position) (out rest row : List Position) (room : ℕ) → all_plain found ≡ filter q out → length found ≡ room → out ++ rest ≡ row → all_plain found ≡ take room (filter q row)
  enough_met found out rest row room e n w =
      sym (take-append_seam (all_plain found) (filter q rest))
      ∙ (λ i. take ((plain_length found ∙ n) i) (e i ++ filter q rest))
      ∙ ap (take room) (sym (filter_joined q out rest) ∙ ap (filter q) w)

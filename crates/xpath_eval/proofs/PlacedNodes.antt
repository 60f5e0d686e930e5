-- A number as predicate, or `position()=` it, keeps the node at its place, and needs none behind it.
use Rattle.std.proofs.Common.{◌≡◌, ◌<◌, ◌≤◌, ◌+◌, ℕ, zero, suc, true, false, cond, if◌then◌else◌, MatchOption, Option, None, Some, Less, Equal, Greater, is_eq, nat_lt, List, [], ◌∷◌, ◌++◌, length, take, drop, ℤ, pos, negsuc, refl, sym, ap, subst, ◌∙◌, arith, rules}
use Rattle.std.specs.Ordering.{int_eq}
use Rattle.std.specs.Prelude.{⊤}
use Rattle.std.proofs.lemmas.Bool.Decides.{nat_tests}
use Rattle.std.proofs.lemmas.Cmp.{int_eq_equiv}
use Rattle.std.proofs.lemmas.List.{length-append}
use Rattle.path_model.specs.declared.path.Expr as declared
use Rattle.path_model.specs.declared.path.Expr.{the_lemmas}
use Rattle.path_model.specs.declared.path.Expr.TheVariants.{Number}
use Rattle.path_model.specs.declared.path.Op.TheVariants as op
use Rattle.path_model.specs.Evaluation.{kept_by, filtered, value}
use Rattle.path_model.specs.Paths as paths
use Rattle.path_model.specs.PlainPaths.{plain, plain_row}
use Rattle.path_model.specs.Positions.{Position}
use Rattle.path_model.specs.Programs.{Program, ends, and_then}
use Rattle.xpath_axes.specs.declared.position.Position as seen
use Rattle.xpath_axes.specs.Positions as position
use Rattle.xpath_axes.specs.Positions.{all_plain}
use Rattle.xpath_eval.specs.inside.Places.{at_place, place_of, IsEnough, KeepsAsNumber}

pub number_opened : (z : ℤ) → plain (Number z) ≡ paths.number z
number_opened z = search (rules, the_lemmas)

-- ---- one node is kept at most

-- the nodes whose places, from p on, are the number
abbrev equal_to : ℤ → ℕ → List Position → List Position
equal_to z p [] = []
equal_to z p (n ∷ ns) = if int_eq z (pos p) then n ∷ equal_to z (p + 1) ns else equal_to z (p + 1) ns

kept_by_number : (z : ℤ) (size p : ℕ) (ns : List Position) → kept_by (λ c. value (paths.number z) c) size p ns ≡ ends (equal_to z p ns)
kept_by_number z size p [] = refl
kept_by_number z size p (n ∷ ns) = ap (λ (q : Program (List Position)). and_then q (λ kept. ends (if int_eq z (pos p) then n ∷ kept else kept))) (kept_by_number z size (p + 1) ns)

below : (m p : ℕ) → m < p → nat_lt m p ≡ true
below m p h = grind (arith, nat_tests)

not_below : (m p : ℕ) → p ≤ m → nat_lt m p ≡ false
not_below m p h = grind (arith, nat_tests)

same_place : (p : ℕ) → int_eq (pos p) (pos p) ≡ true
same_place p = ap (λ b. is_eq (cond b Less (cond b Greater Equal))) (not_below p p (omega arith))

earlier : (m p : ℕ) → m < p → int_eq (pos m) (pos p) ≡ false
earlier m p h = ap (λ b. is_eq (cond b Less (cond (nat_lt p m) Greater Equal))) (below m p h)

later : (m p : ℕ) → p < m → int_eq (pos m) (pos p) ≡ false
later m p h = λ i. is_eq (cond (not_below m p (omega (arith, h)) i) Less (cond (below p m h i) Greater Equal))

none_behind : (m p : ℕ) (ns : List Position) → m < p → equal_to (pos m) p ns ≡ []
none_behind m p [] h = refl
none_behind m p (n ∷ ns) h = ap (λ b. if b then n ∷ equal_to (pos m) (p + 1) ns else equal_to (pos m) (p + 1) ns) (earlier m p h) ∙ none_behind m (p + 1) ns (omega (arith, h))

no_place : (k p : ℕ) (ns : List Position) → equal_to (negsuc k) p ns ≡ []
no_place k p [] = refl
no_place k p (n ∷ ns) = no_place k (p + 1) ns

one_equal : (k p m : ℕ) (ns : List Position) → m ≡ p + k → equal_to (pos m) p ns ≡ take 1 (drop k ns)
one_equal zero p m [] e = refl
one_equal (suc k) p m [] e = refl
one_equal zero p m (n ∷ ns) e =
    let is : m ≡ p = omega (arith, e) in
    ap (λ b. if b then n ∷ equal_to (pos m) (p + 1) ns else equal_to (pos m) (p + 1) ns) (ap (λ x. int_eq (pos x) (pos p)) is ∙ same_place p)
    ∙ ap (λ (xs : List Position). n ∷ xs) (none_behind m (p + 1) ns (omega (arith, e)))
one_equal (suc k) p m (n ∷ ns) e =
    ap (λ b. if b then n ∷ equal_to (pos m) (p + 1) ns else equal_to (pos m) (p + 1) ns) (later m p (omega (arith, e))) ∙ one_equal k (p + 1) m ns (omega (arith, e))

equal_at : (z : ℤ) (ns : List Position) → equal_to z 1 ns ≡ at_place (place_of z) ns
equal_at (negsuc k) ns = no_place k 1 ns
equal_at (pos zero) ns = none_behind 0 1 ns (omega arith)
equal_at (pos (suc k)) ns = one_equal k 1 (suc k) ns (omega arith)

pub kept_number : (z : ℤ) (size : ℕ) (ns : List Position) → kept_by (λ c. value (paths.number z) c) size 1 ns ≡ ends (at_place (place_of z) ns)
kept_number z size ns = kept_by_number z size 1 ns ∙ ap ends (equal_at z ns)

-- ---- a number by another name

pub itself : (z : ℤ) → KeepsAsNumber z (plain (Number z))
itself z = subst (KeepsAsNumber z) (sym (number_opened z)) (λ size p ns. refl)

-- `position()`
abbrev pub position_asked : paths.Expr
position_asked = paths.apply op.Position paths.no_more

number_first : (z : ℤ) → KeepsAsNumber z (paths.binary op.Eq (paths.number z) position_asked)
number_first z size p [] = refl
number_first z size p (n ∷ ns) = ap (λ (q : Program (List Position)). and_then q (λ kept. ends (if int_eq z (pos p) then n ∷ kept else kept))) (number_first z size (p + 1) ns)

number_last : (z : ℤ) → KeepsAsNumber z (paths.binary op.Eq position_asked (paths.number z))
number_last z size p [] = refl
number_last z size p (n ∷ ns) = λ i. and_then (number_last z size (p + 1) ns i) (λ kept. ends (if int_eq_equiv.symm (pos p) z i then n ∷ kept else kept))

pub position_left : (z : ℤ) (a b : paths.Expr) → a ≡ position_asked → b ≡ paths.number z → KeepsAsNumber z (paths.binary op.Eq a b)
position_left z a b e f = subst (λ x. KeepsAsNumber z (paths.binary op.Eq x b)) (sym e) (subst (λ x. KeepsAsNumber z (paths.binary op.Eq position_asked x)) (sym f) (number_last z))

pub position_right : (z : ℤ) (a b : paths.Expr) → a ≡ paths.number z → b ≡ position_asked → KeepsAsNumber z (paths.binary op.Eq a b)
position_right z a b e f = subst (λ x. KeepsAsNumber z (paths.binary op.Eq x b)) (sym e) (subst (λ x. KeepsAsNumber z (paths.binary op.Eq (paths.number z) x)) (sym f) (number_first z))

-- what may be there is so
pub where_there : {A : Type 0} (P Q : A → Type 0) (o : Option A) → ((a : A) → P a → Q a) → MatchOption o ⊤ P → MatchOption o ⊤ Q
where_there P Q None f h = tt
where_there P Q (Some a) f h = f a h

-- ---- what stands behind the place isn't needed

one_of_first : (k : ℕ) (ns : List Position) → take 1 (drop k (take (suc k) ns)) ≡ take 1 (drop k ns)
one_of_first zero [] = refl
one_of_first zero (n ∷ ns) = refl
one_of_first (suc k) [] = refl
one_of_first (suc k) (n ∷ ns) = one_of_first k ns

place_of_first : (p : ℕ) (ns : List Position) → at_place p (take p ns) ≡ at_place p ns
place_of_first zero ns = refl
place_of_first (suc k) ns = one_of_first k ns

pub enough : (z : ℤ) (e : declared.Expr) (es : List declared.Expr) → KeepsAsNumber z (plain e) → IsEnough (place_of z) (plain_row (e ∷ es))
enough z e es means ns =
    let whole : (ms : List Position) → filtered (plain_row (e ∷ es)) ms ≡ filtered (plain_row es) (at_place (place_of z) ms) = λ ms.
    ap (λ p. and_then p (λ kept. filtered (plain_row es) kept)) (means (length ms) 1 ms ∙ kept_number z (length ms) ms) in
    whole (take (place_of z) ns) ∙ ap (filtered (plain_row es)) (place_of_first (place_of z) ns) ∙ sym (whole ns)

-- ---- as the program takes it

-- of fewer than the place there is none
pub none_there : (p : ℕ) (ns : List seen.Position) → length (take p ns) < p → [] ≡ at_place p (all_plain ns)
none_there zero ns h = absurd (omega (arith, h))
none_there (suc k) ns h = sym (beyond k ns h)
  where
    beyond : (k : ℕ) (ns : List seen.Position) → length (take (suc k) ns) < suc k → take 1 (drop k (all_plain ns)) ≡ []
    beyond zero [] h = refl
    beyond zero (n ∷ ns) h = absurd (omega (arith, h))
    beyond (suc k) [] h = refl
    beyond (suc k) (n ∷ ns) h = beyond k ns (omega (arith, h))

-- the last of the first ones
pub last_there : (p : ℕ) (ns before : List seen.Position) (n : seen.Position) → p ≤ length (take p ns) → take p ns ≡ before ++ n ∷ [] → position.plain n ∷ [] ≡ at_place p (all_plain ns)
last_there zero ns before n h e = absurd (let l = ap length e ∙ length-append before (n ∷ []) in omega (arith, l))
last_there (suc k) ns before n h e = sym (at k ns before e h)
  where
    at : (k : ℕ) (ns before : List seen.Position) → take (suc k) ns ≡ before ++ n ∷ [] → suc k ≤ length (take (suc k) ns) → take 1 (drop k (all_plain ns)) ≡ position.plain n ∷ []
    at zero [] before e h = absurd (omega (arith, h))
    at zero (m ∷ ms) [] e h = ap (λ (xs : List seen.Position). take 1 (all_plain xs)) e
    at zero (m ∷ ms) (b ∷ bs) e h = absurd (let l = ap length e ∙ ap suc (length-append bs (n ∷ [])) in omega (arith, l))
    at (suc k) [] before e h = absurd (omega (arith, h))
    at (suc k) (m ∷ ms) [] e h = absurd (let l = ap length e in omega (arith, h, l))
    at (suc k) (m ∷ ms) (b ∷ bs) e h = at k ms bs (ap (drop 1) e) (omega (arith, h))

pub no_first : (p : ℕ) (ns : List seen.Position) → p ≤ length (take p ns) → take p ns ≡ [] → [] ≡ at_place p (all_plain ns)
no_first zero ns h e = refl
no_first (suc k) ns h e = absurd (let l = ap length e in omega (arith, h, l))

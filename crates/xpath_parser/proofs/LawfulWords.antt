-- What the tables of words and operators, and the digits of numbers, bring to lawful paths.
use Rattle.std.proofs.Common.{◌≡◌, ℕ, suc, ◌+◌, ◌*◌, ◌-◌, ◌^◌, ◌≤◌, ◌<◌, Bool, true, false, cond, not, ◌&&◌, ◌||◌, ◌==◌, List, [], ◌∷◌, map, length, Option, None, Some, is_some, pos, mul_assoc, mul-le-mul_right, lt_of_lt_of_le, refl, sym, ap, ◌∙◌, subst, arith}
use Rattle.std.proofs.Math.Nat.{pow-le-pow_right, pow-succ'}
use Rattle.std.proofs.lemmas.Bool.{and_from, and_parts, le-leb, leb-true, eqb-true, true≢false}
use Rattle.std.specs.List.{list_all}
use Rattle.std.specs.Prelude.{⊤, nat_lt, nat_le, codes}
use Rattle.std.specs.Str.{bytes_eq}
use Rattle.path_model.specs.Lawful.{takes, precedence, at_most, admits}
use Rattle.path_model.specs.Numbers.{bound, in_range, is_digit, digits_value, are_digits}
use Rattle.path_model.specs.declared.path.Op.{Op}
use Rattle.path_model.specs.declared.path.Op.TheVariants as op
use Rattle.xpath_parser.specs.declared.lex.Kind.{Kind}
use Rattle.xpath_parser.specs.declared.lex.Kind.TheVariants as k
use Rattle.xpath_parser.specs.declared.words.Function.{Function}
use Rattle.xpath_parser.specs.Grammar.{sign_operator, operator, of_level, number_of}
use Rattle.xpath_parser.specs.Input.{kind, sees_word}
use Rattle.xpath_parser.specs.Lex.{Text}
use Rattle.xpath_parser.specs.Words.{find_word, function_rows, function_named}

-- ---- operators

abbrev Marked : Option (ℕ × Op) → Type 0
Marked None = ⊤
Marked (Some o) = precedence o.1 ≡ o.0

sign_marked : (kind : Kind) → Marked (sign_operator kind)
sign_marked k.End = tt
sign_marked k.Bad = tt
sign_marked k.Name = tt
sign_marked k.Prefix = tt
sign_marked k.Number = tt
sign_marked k.Fraction = tt
sign_marked k.Literal = tt
sign_marked k.Variable = tt
sign_marked k.Open = tt
sign_marked k.Close = tt
sign_marked k.OpenBracket = tt
sign_marked k.CloseBracket = tt
sign_marked k.Comma = tt
sign_marked k.At = tt
sign_marked k.DoubleColon = tt
sign_marked k.Slash = tt
sign_marked k.DoubleSlash = tt
sign_marked k.Dot = tt
sign_marked k.DoubleDot = tt
sign_marked k.Star = refl
sign_marked k.Bar = tt
sign_marked k.Plus = refl
sign_marked k.Minus = refl
sign_marked k.Equal = refl
sign_marked k.NotEqual = refl
sign_marked k.Less = refl
sign_marked k.LessEqual = refl
sign_marked k.Greater = refl
sign_marked k.GreaterEqual = refl

by_word : (a o : Bool) (m : Option (ℕ × Op)) → Marked m → Marked (cond a (Some (5, op.And)) (cond o (Some (6, op.Or)) m))
by_word true o m h = refl
by_word false true m h = refl
by_word false false m h = h

operator_marked : (i : Text) → Marked (operator i)
unfolding operator
operator_marked i = by_word (sees_word (codes "and") i) (sees_word (codes "or") i) (sign_operator (kind i)) (sign_marked (kind i))

-- where there is an operator it is of the level
abbrev pub IsOfLevel : ℕ → Option Op → Type 0
IsOfLevel level None = ⊤
IsOfLevel level (Some o) = precedence o ≡ level

if_of_level : (level : ℕ) (b : Bool) (o : Op) → (b ≡ true → precedence o ≡ level) → IsOfLevel level (cond b (Some o) None)
if_of_level level true o h = h refl
if_of_level level false o h = tt

level_kept : (level : ℕ) (m : Option (ℕ × Op)) → Marked m → IsOfLevel level (of_level level m)
level_kept level None h = tt
level_kept level (Some o) h = if_of_level level (o.0 == level) o.1 (λ e. h ∙ eqb-true o.0 level e)

pub operator_of_level : (level : ℕ) (i : Text) → IsOfLevel level (of_level level (operator i))
operator_of_level level i = level_kept level (operator i) (operator_marked i)

-- ---- functions

abbrev agrees_most : Option ℕ → ℕ → Bool
agrees_most None n = true
agrees_most (Some m) n = m == n

-- the parser's row of a function says what the function takes
abbrev agrees : Function → Bool
agrees f = precedence f.op == 0 && ((takes f.op).least == f.least && (agrees_most (takes f.op).most f.most && (not (takes f.op).are_paths || f.takes_nodes)))

pub record Sound (f : Function) : Type 0 where
  pub unary : precedence f.op ≡ 0
  pub many : (n : ℕ) → f.least ≤ n → n ≤ f.most → admits (takes f.op) n ≡ true
  pub paths : (takes f.op).are_paths ≡ true → f.takes_nodes ≡ true

below_most : (m : Option ℕ) (most n : ℕ) → agrees_most m most ≡ true → n ≤ most → at_most m n ≡ true
below_most None most n h k = refl
below_most (Some m) most n h k = let e = eqb-true m most h in le-leb n m (omega (arith, e, k))

implied : (a b : Bool) → (not a || b) ≡ true → a ≡ true → b ≡ true
implied true b h k = h
implied false b h k = absurd (true≢false (sym k))

sound : (f : Function) → agrees f ≡ true → Sound f
sound f h =
    let a = and_parts (precedence f.op == 0) _ h in
    let b = and_parts ((takes f.op).least == f.least) _ a.1 in
    let c = and_parts (agrees_most (takes f.op).most f.most) _ b.1 in
    let least = eqb-true (takes f.op).least f.least b.0 in
    record {
      unary = eqb-true (precedence f.op) 0 a.0;
      many = λ n few enough. and_from (nat_le (takes f.op).least n) _ (le-leb (takes f.op).least n (omega (arith, least, few))) (below_most (takes f.op).most f.most n c.0 enough);
      paths = implied (takes f.op).are_paths f.takes_nodes c.1;
    }

abbrev pub IfFound : {A : Type 0} → (A → Type 0) → Option A → Type 0
IfFound P None = ⊤
IfFound P (Some a) = P a

if_found : {A : Type 0} (P : A → Type 0) (b : Bool) (a : A) (m : Option A) → P a → IfFound P m → IfFound P (cond b (Some a) m)
if_found P true a m h k = h
if_found P false a m h k = k

word_found : {A : Type 0} (q : A → Bool) (name : List ℕ) (rows : List (List ℕ × A)) → list_all (λ r. q r.1) rows ≡ true → IfFound (λ a. q a ≡ true) (find_word name rows)
word_found q name [] h = tt
word_found q name (r ∷ rows) h = let p = and_parts (q r.1) _ h in if_found (λ a. q a ≡ true) (bytes_eq r.0 name) r.1 (find_word name rows) p.0 (word_found q name rows p.1)

all_agree : list_all (λ r. agrees r.1) function_rows ≡ true
all_agree = refl

sound_if : (m : Option Function) → IfFound (λ f. agrees f ≡ true) m → IfFound Sound m
sound_if None h = tt
sound_if (Some f) h = sound f h

pub function_sound : (name : List ℕ) → IfFound Sound (function_named name)
function_sound name = sound_if (function_named name) (word_found agrees name function_rows all_agree)

-- ---- numbers

digit_small : (b : ℕ) → is_digit b ≡ true → b - 48 ≤ 9
digit_small b h = let k = leb-true b 57 (and_parts (nat_le 48 b) (nat_le b 57) h).1 in omega (arith, k)

digits_below : (n : ℕ) (ds : List ℕ) → list_all is_digit ds ≡ true → digits_value n ds < (n + 1) * 10 ^ length ds
digits_below n [] h = omega arith
digits_below n (b ∷ ds) h =
    let p = and_parts (is_digit b) _ h in
    let small = digit_small b p.0 in
    let rest = digits_below (n * 10 + (b - 48)) ds p.1 in
    let e : 10 ^ suc (length ds) ≡ 10 * 10 ^ length ds = pow-succ' 10 (length ds) in
    let up : (n * 10 + (b - 48) + 1) * 10 ^ length ds ≤ ((n + 1) * 10) * 10 ^ length ds = mul-le-mul_right (10 ^ length ds) (omega (arith, small)) in
    let same : ((n + 1) * 10) * 10 ^ length ds ≡ (n + 1) * 10 ^ suc (length ds) = mul_assoc (n + 1) 10 (10 ^ length ds) ∙ ap (λ q. (n + 1) * q) (sym e) in
    lt_of_lt_of_le rest (subst (λ q. (n * 10 + (b - 48) + 1) * 10 ^ length ds ≤ q) same up)

in_bound : (n : ℕ) → n ≤ bound → is_some (in_range (pos n)) ≡ true
in_bound n h = ap (λ b. is_some (cond b (Some (pos n)) None)) (le-leb n bound h)

number_small : (z : List ℕ) → are_digits z ≡ true → digits_value 0 z ≤ bound
number_small z h =
    let p = and_parts (nat_lt 0 (length z)) _ h in
    let q = and_parts (nat_le (length z) 18) _ p.1 in
    let below = digits_below 0 z q.1 in
    let most : 10 ^ length z ≤ 10 ^ 18 = pow-le-pow_right (omega arith) (leb-true (length z) 18 q.0) in
    omega (arith, below, most)

if_number : (b : Bool) (n : ℕ) → (b ≡ true → n ≤ bound) → IfFound (λ n. is_some (in_range (pos n)) ≡ true) (cond b (Some n) None)
if_number true n h = in_bound n (h refl)
if_number false n h = tt

pub number_in_range : (z : List ℕ) → IfFound (λ n. is_some (in_range (pos n)) ≡ true) (number_of z)
number_in_range z = if_number (are_digits z) (digits_value 0 z) (number_small z)

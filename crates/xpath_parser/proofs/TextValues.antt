-- The tokens of numbers and literals, and what is read of them.
use Rattle.std.proofs.Common.{◌≡◌, ℕ, zero, suc, ◌+◌, ◌-◌, ◌*◌, ◌%◌, ◌^◌, ◌≤◌, ◌<◌, Bool, true, false, cond, not, ◌==◌, [], ◌∷◌, ◌++◌, length, take, drop, refl, ap, ◌∙◌, subst, append_assoc, arith}
use Rattle.std.proofs.Math.Seq.{take-append_seam}
use Rattle.std.proofs.lemmas.Bool.{and_parts, and_from, leb-true, le-leb, lt-ltb}
use Rattle.std.proofs.lemmas.Fmt.{decimal_by_steps, length-decimal-le, decimal_nonempty}
use Rattle.std.proofs.lemmas.List.{length-append}
use Rattle.std.specs.List.{list_all, list_any, prefix_len}
use Rattle.std.specs.Prelude.{decimal, nat_le, nat_lt, encode_utf8_all, Some, None}
use lib.Utf8.{scalar, scalars}
use Rattle.path_model.specs.Numbers.{is_space, is_digit, are_digits, digits_value, bound}
use Rattle.tree_model.specs.Names.{is_start_char}
use Rattle.xpath_parser.specs.declared.lex.Kind.TheVariants as k
use Rattle.xpath_parser.specs.Grammar.{number_of, literal_of}
use Rattle.xpath_parser.specs.Lex.{Text, token, token_at, behind_digits, behind_quote, begins_run, quoted, name_token, number_token}
use Rattle.xpath_parser.specs.PathText.{word, quote_of, literal_word, is_quotable}
use Rattle.xpath_parser.proofs.TextTokens.{IsToken, drop_seam, kept}

-- ---- digits

within_ten : (P : ℕ → Type 0) → P 48 → P 49 → P 50 → P 51 → P 52 → P 53 → P 54 → P 55 → P 56 → P 57 → (d : ℕ) → d ≤ 9 → P (48 + d)
within_ten P a b c d e f g h i j zero below = a
within_ten P a b c d e f g h i j (suc zero) below = b
within_ten P a b c d e f g h i j (suc (suc zero)) below = c
within_ten P a b c d e f g h i j (suc (suc (suc zero))) below = d
within_ten P a b c d e f g h i j (suc (suc (suc (suc zero)))) below = e
within_ten P a b c d e f g h i j (suc (suc (suc (suc (suc zero))))) below = f
within_ten P a b c d e f g h i j (suc (suc (suc (suc (suc (suc zero)))))) below = g
within_ten P a b c d e f g h i j (suc (suc (suc (suc (suc (suc (suc zero))))))) below = h
within_ten P a b c d e f g h i j (suc (suc (suc (suc (suc (suc (suc (suc zero)))))))) below = i
within_ten P a b c d e f g h i j (suc (suc (suc (suc (suc (suc (suc (suc (suc zero))))))))) below = j
within_ten P a b c d e f g h i j (suc (suc (suc (suc (suc (suc (suc (suc (suc (suc n)))))))))) below = absurd (omega (arith, below))

pub of_digits : (P : ℕ → Type 0) → P 48 → P 49 → P 50 → P 51 → P 52 → P 53 → P 54 → P 55 → P 56 → P 57 → (c : ℕ) → is_digit c ≡ true → P c
of_digits P a b c d e f g h i j x digit =
    let p = and_parts (nat_le 48 x) (nat_le x 57) digit in
    let least = leb-true 48 x p.0 in
    let most = leb-true x 57 p.1 in
    let same : 48 + (x - 48) ≡ x = omega (arith, least) in
    subst P same (within_ten P a b c d e f g h i j (x - 48) (omega (arith, most)))

no_run : (c : ℕ) → is_digit c ≡ true → begins_run c ≡ false
unfolding is_start_char
no_run = of_digits (λ c. begins_run c ≡ false) refl refl refl refl refl refl refl refl refl refl

no_space : (c : ℕ) → is_digit c ≡ true → is_space c ≡ false
no_space = of_digits (λ c. is_space c ≡ false) refl refl refl refl refl refl refl refl refl refl

all_pass : (p : ℕ → Bool) → p 32 ≡ false → (w z : Text) → list_all p w ≡ true → prefix_len p (word w z) ≡ length w
all_pass p other [] z h = ap (λ b. cond b (1 + prefix_len p z) 0) other
all_pass p other (c ∷ w) z h =
    let q = and_parts (p c) _ h in
    let e : 1 + length w ≡ suc (length w) = omega arith in
    ap (λ b. cond b (1 + prefix_len p (word w z)) 0) q.0 ∙ (ap (λ n. 1 + n) (all_pass p other w z q.1) ∙ e)

digits_token : (w : Text) → 0 < length w → list_all is_digit w ≡ true → IsToken k.Number w
unfolding token behind_digits
digits_token [] some h = absurd (omega (arith, some))
digits_token (c ∷ w) some h =
    let digit = (and_parts (is_digit c) _ h).0 in
    record {
      lexes = λ z. ap (λ b. cond b (name_token (c ∷ word w z)) (cond (is_digit c) (number_token (c ∷ word w z)) (token_at c (word w z)))) (no_run c digit)
          ∙ ap (λ b. cond b (number_token (c ∷ word w z)) (token_at c (word w z))) digit
          ∙ ap (λ n. behind_digits n (drop n (word (c ∷ w) z))) (all_pass is_digit refl (c ∷ w) z h)
          ∙ ap (behind_digits (length (c ∷ w))) (drop_seam (c ∷ w) (32 ∷ z));
      begins = λ z. kept c (word w z) (no_space c digit);
    }

-- ---- numbers

record HasDigits (n : ℕ) (ds : Text) : Type 0 where
  all : list_all is_digit ds ≡ true
  value : digits_value 0 ds ≡ n

digit_is : (d : ℕ) → d < 10 → is_digit (48 + d) ≡ true
digit_is d below = and_from (nat_le 48 (48 + d)) _ (le-leb 48 (48 + d) (omega arith)) (le-leb (48 + d) 57 (omega (arith, below)))

all_digits_snoc : (ds : Text) (c : ℕ) → list_all is_digit ds ≡ true → is_digit c ≡ true → list_all is_digit (ds ++ c ∷ []) ≡ true
all_digits_snoc [] c h one = and_from (is_digit c) true one refl
all_digits_snoc (d ∷ ds) c h one = let p = and_parts (is_digit d) _ h in and_from (is_digit d) _ p.0 (all_digits_snoc ds c p.1 one)

value_snoc : (n : ℕ) (ds : Text) (c : ℕ) → digits_value n (ds ++ c ∷ []) ≡ digits_value n ds * 10 + (c - 48)
value_snoc n [] c = refl
value_snoc n (d ∷ ds) c = value_snoc (n * 10 + (d - 48)) ds c

has_digits : (n : ℕ) → n < 2 ^ 64 → HasDigits n (decimal n)
has_digits = decimal_by_steps HasDigits
    (λ n below. record { all = and_from (is_digit (48 + n)) true (digit_is n below) refl; value = omega arith })
    (λ n ds many h. record {
      all = all_digits_snoc ds (48 + n % 10) h.all (digit_is (n % 10) (omega arith));
      value = value_snoc 0 ds (48 + n % 10) ∙ (let v = h.value in omega (arith, v));
    })

pub number_token_is : (n : ℕ) → n ≤ bound → IsToken k.Number (decimal n)
number_token_is n small = digits_token (decimal n) (decimal_nonempty n (omega (arith, small))) (has_digits n (omega (arith, small))).all

pub number_is : (n : ℕ) → n ≤ bound → number_of (decimal n) ≡ Some n
number_is n small =
    let h = has_digits n (omega (arith, small)) in
    let digits : are_digits (decimal n) ≡ true =
    and_from (nat_lt 0 (length (decimal n))) _ (lt-ltb 0 (length (decimal n)) (decimal_nonempty n (omega (arith, small))))
    (and_from (nat_le (length (decimal n)) 18) _ (le-leb (length (decimal n)) 18 (length-decimal-le 18 n (omega arith) (omega (arith, small)) (omega (arith, small)))) h.all) in
    ap (λ b. cond b (Some (digits_value 0 (decimal n))) None) digits ∙ ap Some h.value

all_scalar : (ds : Text) → list_all is_digit ds ≡ true → scalars ds ≡ true
all_scalar [] h = refl
all_scalar (d ∷ ds) h = let p = and_parts (is_digit d) _ h in and_from (scalar d) _ (of_digits (λ c. scalar c ≡ true) refl refl refl refl refl refl refl refl refl refl d p.0) (all_scalar ds p.1)

pub digits_scalar : (n : ℕ) → n ≤ bound → scalars (decimal n) ≡ true
digits_scalar n small = all_scalar (decimal n) (has_digits n (omega (arith, small))).all

-- ---- literals

up_to_quote : (p : ℕ → Bool) (q : ℕ) → p q ≡ false → (cs z : Text) → list_all p cs ≡ true → prefix_len p (cs ++ q ∷ z) ≡ length cs
up_to_quote p q self [] z h = ap (λ b. cond b (1 + prefix_len p z) 0) self
up_to_quote p q self (c ∷ cs) z h =
    let r = and_parts (p c) _ h in
    let e : 1 + length cs ≡ suc (length cs) = omega arith in
    ap (λ b. cond b (1 + prefix_len p (cs ++ q ∷ z)) 0) r.0 ∙ (ap (λ n. 1 + n) (up_to_quote p q self cs z r.1) ∙ e)

literal_at : (q : ℕ) → not (q == q) ≡ false → (cs z : Text) → list_all (λ c. not (c == q)) cs ≡ true → behind_quote q (word (cs ++ q ∷ []) z) ≡ (k.Literal, length (q ∷ (cs ++ q ∷ [])))
unfolding behind_quote
literal_at q self cs z h =
    let rest : word (cs ++ q ∷ []) z ≡ cs ++ q ∷ (32 ∷ z) = append_assoc cs (q ∷ []) (32 ∷ z) in
    let many : quoted q (cs ++ q ∷ (32 ∷ z)) ≡ length cs = up_to_quote (λ c. not (c == q)) q self cs (32 ∷ z) h in
    let long : length (cs ++ q ∷ (32 ∷ z)) ≡ length cs + length (q ∷ (32 ∷ z)) = length-append cs (q ∷ (32 ∷ z)) in
    let own : length (cs ++ q ∷ []) ≡ length cs + length (q ∷ []) = length-append cs (q ∷ []) in
    let below : nat_lt (length cs) (length (cs ++ q ∷ (32 ∷ z))) ≡ true = lt-ltb (length cs) _ (omega (arith, long)) in
    let same : length cs + 2 ≡ suc (length (cs ++ q ∷ [])) = omega (arith, own) in
    ap (behind_quote q) rest ∙ (ap (λ n. cond (nat_lt n (length (cs ++ q ∷ (32 ∷ z)))) (k.Literal, n + 2) (k.Bad, 1)) many
    ∙ (ap (λ b. cond b (k.Literal, length cs + 2) (k.Bad, 1)) below ∙ ap (λ n. (k.Literal, n)) same))

in_double_quotes : (cs : Text) → list_all (λ c. not (c == 34)) cs ≡ true → IsToken k.Literal (34 ∷ (cs ++ 34 ∷ []))
unfolding token token_at is_start_char
in_double_quotes cs h = record { lexes = λ z. literal_at 34 refl cs z h; begins = λ z. refl }

in_single_quotes : (cs : Text) → list_all (λ c. not (c == 39)) cs ≡ true → IsToken k.Literal (39 ∷ (cs ++ 39 ∷ []))
unfolding token token_at is_start_char
in_single_quotes cs h = record { lexes = λ z. literal_at 39 refl cs z h; begins = λ z. refl }

in_quotes : (b : Bool) (cs : Text) → list_all (λ c. not (c == cond b 39 34)) cs ≡ true → IsToken k.Literal (cond b 39 34 ∷ (cs ++ cond b 39 34 ∷ []))
in_quotes true cs h = in_single_quotes cs h
in_quotes false cs h = in_double_quotes cs h

pub literal_token_is : (cs : Text) → is_quotable cs ≡ true → IsToken k.Literal (literal_word cs)
literal_token_is cs h = in_quotes (list_any (λ c. c == 34) cs) cs h

pub literal_is : (cs : Text) → literal_of (literal_word cs) ≡ encode_utf8_all cs
literal_is cs =
    let q = quote_of cs in
    let own : length (cs ++ q ∷ []) ≡ length cs + length (q ∷ []) = length-append cs (q ∷ []) in
    let same : length (literal_word cs) - 2 ≡ length cs = omega (arith, own) in
    ap (λ n. encode_utf8_all (take n (cs ++ q ∷ []))) same ∙ ap encode_utf8_all (take-append_seam cs (q ∷ []))

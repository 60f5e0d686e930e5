-- The parts of a text, cut between characters, are texts that are no longer than it, and joined again they are the text.
use Rattle.std.proofs.Common.{◌≡◌, ℕ, ◌+◌, ◌≤◌, Bool, true, ◌&&◌, nat_le, List, [], ◌∷◌, ◌++◌, length, take, drop, length-append, take-append-drop, refl, sym, ap, ◌∙◌, arith}
use Rattle.std.proofs.lemmas.Bool.Decides.{nat_tests}
use Rattle.std.proofs.lemmas.Str.{encodes-append, encodes-chars, scalars-chars, IsUtf8-append, IsUtf8-from_is_utf8, is_utf8-from_IsUtf8}
use Rattle.std.specs.Prelude.{encode_utf8_all}
use lib.Utf8.{scalar, scalars}
use Rattle.std.specs.Str.{is_utf8, chars}
use Rattle.dewey_labels.proofs.Codes.{first_of_both, second_of_both}
use Rattle.tree_model.specs.Limits.{most_text_bytes, is_too_long}
use Rattle.tree_model.specs.Records.{is_data}
use Rattle.tree_model.specs.Texts.{data_before, data_from}

and_from : (a b : Bool) → a ≡ true → b ≡ true → (a && b) ≡ true
and_from a b h g = ap (λ c. c && b) h ∙ g

-- joined again they are the text
pub parts_joined : (offset : ℕ) (d : List ℕ) → is_utf8 d ≡ true → data_before offset d ++ data_from offset d ≡ d
parts_joined offset d u = sym (encodes-append (take offset (chars d)) (drop offset (chars d))) ∙ ap encode_utf8_all (take-append-drop offset (chars d)) ∙ encodes-chars d (IsUtf8-from_is_utf8 d u)

all_of_both : (cs ds : List ℕ) → scalars (cs ++ ds) ≡ true → (scalars cs ≡ true) × (scalars ds ≡ true)
all_of_both [] ds h = (refl, h)
all_of_both (c ∷ cs) ds h =
    let rest = all_of_both cs ds (second_of_both (scalar c) (scalars (cs ++ ds)) h) in
    (and_from (scalar c) (scalars cs) (first_of_both (scalar c) (scalars (cs ++ ds)) h) rest.0, rest.1)

-- they are UTF-8
pub parts_utf8 : (offset : ℕ) (d : List ℕ) → is_utf8 d ≡ true → (is_utf8 (data_before offset d) ≡ true) × (is_utf8 (data_from offset d) ≡ true)
parts_utf8 offset d u =
    let halves = all_of_both (take offset (chars d)) (drop offset (chars d)) (ap scalars (take-append-drop offset (chars d)) ∙ scalars-chars d (IsUtf8-from_is_utf8 d u)) in
    (is_utf8-from_IsUtf8 (data_before offset d) (take offset (chars d), (halves.0, refl)), is_utf8-from_IsUtf8 (data_from offset d) (drop offset (chars d), (halves.1, refl)))

shorter : (d e : List ℕ) → nat_le (length d) most_text_bytes ≡ true → length e ≤ length d → nat_le (length e) most_text_bytes ≡ true
shorter d e h less = grind (arith, nat_tests)

-- of data they are data
pub parts_are_data : (offset : ℕ) (d : List ℕ) → is_data d ≡ true → (is_data (data_before offset d) ≡ true) × (is_data (data_from offset d) ≡ true)
parts_are_data offset d h =
    let few = first_of_both (nat_le (length d) most_text_bytes) (is_utf8 d) h in
    let u = second_of_both (nat_le (length d) most_text_bytes) (is_utf8 d) h in
    let sum : length (data_before offset d) + length (data_from offset d) ≡ length d = sym (length-append (data_before offset d) (data_from offset d)) ∙ ap length (parts_joined offset d u) in
    let parts = parts_utf8 offset d u in
    (and_from _ _ (shorter d (data_before offset d) few (omega (arith, sum))) parts.0, and_from _ _ (shorter d (data_from offset d) few (omega (arith, sum))) parts.1)

-- texts behind one another are a text
pub utf8_append : (d e : List ℕ) → is_utf8 d ≡ true → is_utf8 e ≡ true → is_utf8 (d ++ e) ≡ true
utf8_append d e u v = is_utf8-from_IsUtf8 (d ++ e) (IsUtf8-append d e (IsUtf8-from_is_utf8 d u) (IsUtf8-from_is_utf8 e v))

-- UTF-8 that passes the test of its length is data
pub data_of_tests : (d : List ℕ) → is_utf8 d ≡ true → is_too_long d ≡ Rattle.std.proofs.Common.false → is_data d ≡ true
data_of_tests d u h = let few : nat_le (length d) most_text_bytes ≡ true = grind (arith, nat_tests) in and_from _ _ few u

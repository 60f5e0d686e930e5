-- Parts of texts, cut between characters one after another.
use Rattle.std.proofs.Common.{◌≡◌, ℕ, ◌+◌, ◌≤◌, true, List, [], ◌∷◌, ◌++◌, length, take, drop, sym, ap, ◌∙◌, arith, take-append-drop}
use Rattle.std.proofs.lemmas.List.{drop-drop, drop_all}
use Rattle.std.proofs.lemmas.Bool.Decides.{nat_tests}
use Rattle.std.proofs.lemmas.Str.{chars-encodes, scalars-chars}
use Rattle.std.specs.Prelude.{encode_utf8_all}
use Rattle.std.specs.Str.{IsUtf8, chars}
use Rattle.dewey_labels.proofs.Codes.{second_of_both}
use Rattle.tree_model.specs.Texts.{data_from, is_past}
use lib.Utf8.{scalar, scalars}

scalars_behind : (xs ys : List ℕ) → scalars (xs ++ ys) ≡ true → scalars ys ≡ true
scalars_behind [] ys h = h
scalars_behind (x ∷ xs) ys h = scalars_behind xs ys (second_of_both (scalar x) (scalars (xs ++ ys)) h)

chars_behind : (n : ℕ) (d : List ℕ) → IsUtf8 d → chars (data_from n d) ≡ drop n (chars d)
chars_behind n d u = chars-encodes (drop n (chars d)) (scalars_behind (take n (chars d)) (drop n (chars d)) (ap scalars (take-append-drop n (chars d)) ∙ scalars-chars d u))

-- cut behind some characters, and again
pub cut_again : (m n : ℕ) (d : List ℕ) → IsUtf8 d → data_from n (data_from m d) ≡ data_from (m + n) d
cut_again m n d u = ap encode_utf8_all (ap (drop n) (chars_behind m d u) ∙ drop-drop n m (chars d))

-- nothing stands behind more characters than there are
pub nothing_behind : (n : ℕ) (d : List ℕ) → is_past n d ≡ true → [] ≡ data_from n d
nothing_behind n d h = let less : length (chars d) ≤ n = grind (arith, nat_tests) in sym (ap encode_utf8_all (drop_all n (chars d) less))

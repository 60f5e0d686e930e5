-- What is left of a text behind two cuts.
use Rattle.std.proofs.Common.{◌≡◌, ℕ, ◌+◌, true, List, [], ◌∷◌, ◌++◌, take, drop, take-append-drop, ap, ◌∙◌}
use Rattle.std.proofs.lemmas.List.{drop-drop}
use Rattle.std.proofs.lemmas.Str.{chars-encodes, scalars-chars}
use Rattle.std.specs.Prelude.{encode_utf8_all}
use Rattle.std.specs.Str.{IsUtf8, chars}
use lib.Utf8.{scalar, scalars}
use Rattle.dewey_labels.proofs.Codes.{second_of_both}
use Rattle.tree_model.specs.Texts.{data_from}

all_behind : (cs ds : List ℕ) → scalars (cs ++ ds) ≡ true → scalars ds ≡ true
all_behind [] ds h = h
all_behind (c ∷ cs) ds h = all_behind cs ds (second_of_both (scalar c) (scalars (cs ++ ds)) h)

chars_from : (n : ℕ) (d : List ℕ) → IsUtf8 d → chars (data_from n d) ≡ drop n (chars d)
chars_from n d u = chars-encodes (drop n (chars d)) (all_behind (take n (chars d)) (drop n (chars d)) (ap scalars (take-append-drop n (chars d)) ∙ scalars-chars d u))

pub from_on : (offset count : ℕ) (d : List ℕ) → IsUtf8 d → data_from count (data_from offset d) ≡ data_from (offset + count) d
from_on offset count d u = ap (λ cs. encode_utf8_all (drop count cs)) (chars_from offset d u) ∙ ap encode_utf8_all (drop-drop count offset (chars d))

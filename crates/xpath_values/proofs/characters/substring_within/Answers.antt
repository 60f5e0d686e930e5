use Rattle.std.proofs.Common.{drop, take, w64, FitsSigned, sym, ap, ap₂, refl, ◌∙◌, rules}
use Rattle.std.proofs.lemmas.Int.{to_z-of_z}
use Rattle.std.specs.Prelude.{encode_utf8_all, ◌+ℤ◌}
use Rattle.std.specs.Str.{chars}
use Rattle.path_model.specs.Texts.{substring_within}
use Rattle.xpath_values.specs.Places.{places_before}
use Rattle.xpath_values.proofs.Substrings.{within_is}
use Rattle.xpath_values.proofs.characters.substring_within.Goals as goal

pub returns-in-Some-Some : goal.returns-in-Some-Some
returns-in-Some-Some c =
    let text = c.args.text.now in
    let first = c.first_characters-first.result.now in
    let start = c.in-Some-Some.start in
    let length = c.in-Some-Some.length in
    let start_fits : FitsSigned w64 c.in-Some-Some.start = search rules in
    let length_fits : FitsSigned w64 c.in-Some-Some.length = search rules in
    let start_is = to_z-of_z w64 c.in-Some-Some.start start_fits in
    let length_is = to_z-of_z w64 c.in-Some-Some.length length_fits in
    let before = c.places_before.ensures ∙ ap places_before start_is in
    let end = c.places_before_end.ensures ∙ ap places_before (ap₂ (λ x y. x +ℤ y) start_is length_is) in
    let first_is = c.first_characters-first.ensures ∙ ap (λ k. encode_utf8_all (take k (chars text))) end in
    c.without_first.ensures ∙ ap (λ k. encode_utf8_all (drop k (chars first))) before
    ∙ within_is text first start length (start +ℤ length) c.first_characters-first.utf8 first_is refl
    ∙ ap₂ (λ n m. substring_within text n m) (sym c.in-Some-Some.is-0) (sym c.in-Some-Some.is-1)

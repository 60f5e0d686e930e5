use Rattle.std.proofs.Common.{drop, w64, FitsSigned, sym, ap, ◌∙◌, rules}
use Rattle.std.proofs.lemmas.Int.{to_z-of_z}
use Rattle.std.specs.Prelude.{encode_utf8_all}
use Rattle.std.specs.Str.{chars}
use Rattle.path_model.specs.Texts.{substring_from}
use Rattle.xpath_values.specs.Places.{places_before}
use Rattle.xpath_values.proofs.Substrings.{from_is}
use Rattle.xpath_values.proofs.characters.substring_from.Goals as goal

pub returns-in-Some : goal.returns-in-Some
returns-in-Some c =
    let text = c.args.text.now in
    let start = c.in-Some.start in
    let fits : FitsSigned w64 c.in-Some.start = search rules in
    let places = c.places_before.ensures ∙ ap places_before (to_z-of_z w64 c.in-Some.start fits) in
    c.without_first.ensures ∙ ap (λ k. encode_utf8_all (drop k (chars text))) places ∙ from_is text start ∙ ap (substring_from text) (sym c.in-Some.is)

use Rattle.std.proofs.Common.{◌≤◌, ◌<◌, ◌^◌, length, pos, ap, subst, ◌∙◌, w64, arith, rules}
use Rattle.std.proofs.lemmas.Str.{length-le-encodes, encodes-chars}
use Rattle.std.proofs.lemmas.Int.{to_z_pos}
use Rattle.std.specs.Str.{chars}
use Rattle.xpath_values.proofs.characters.string_length.Goals as goal

pub overflow_cast-result : goal.overflow_cast-result
overflow_cast-result c =
    let text = c.args.text.now in
    let fewer : length (chars text) ≤ length text = subst (λ s. length (chars text) ≤ length s) (encodes-chars text c.utf8.text) (length-le-encodes (chars text)) in
    let few : c.count_of.result < 2 ^ 63 = omega arith in
    search rules

pub returns : goal.returns
returns c =
    let text = c.args.text.now in
    let fewer : length (chars text) ≤ length text = subst (λ s. length (chars text) ≤ length s) (encodes-chars text c.utf8.text) (length-le-encodes (chars text)) in
    let few : c.count_of.result < 2 ^ 63 = omega arith in
    to_z_pos w64 c.count_of.result few ∙ ap pos c.count_of.ensures

use Rattle.std.proofs.Common.{◌≡◌, ◌≤◌, length, string_bytes, IsTrue, w64, sym, ap, subst, ◌∙◌, arith}
use Rattle.std.specs.Fmt.{signed_decimal}
use Rattle.std.proofs.lemmas.Fmt.{length_signed_le}
use Rattle.std.proofs.lemmas.Int.{to_z-of_z}
use Rattle.tree_model.specs.Records.{is_data}
use Rattle.jsonml_io.proofs.Valid.{data_string}
use Rattle.jsonml_io.proofs.attributes.signed_text.Goals as goal

pub returns-clause-fits : goal.returns-clause-fits
returns-clause-fits c =
    let s = c.in_ok-format.field-0 in
    let same : string_bytes s ≡ signed_decimal c.args.n = c.in_ok-format.ensures.ok ∙ ap signed_decimal (to_z-of_z w64 c.args.n c.ranges.n) in
    let short = length_signed_le 19 c.args.n (omega (arith, c.ranges.n.sfits)) (omega (arith, c.ranges.n.sfits)) in
    let few : length (string_bytes s) ≤ 1_048_576 = omega (arith, ap length same, short) in
    subst (λ t. IsTrue (is_data t)) (sym c.from_string.ensures) (data_string s few)

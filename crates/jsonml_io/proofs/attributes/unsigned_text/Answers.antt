use Rattle.std.proofs.Common.{◌≤◌, length, string_bytes, IsTrue, sym, ap, subst, arith}
use Rattle.std.proofs.lemmas.Fmt.{length-decimal-le}
use Rattle.tree_model.specs.Records.{is_data}
use Rattle.jsonml_io.proofs.Valid.{data_string}
use Rattle.jsonml_io.proofs.attributes.unsigned_text.Goals as goal

pub returns-clause-fits : goal.returns-clause-fits
returns-clause-fits c =
    let s = c.in_ok-format.field-0 in
    let few : length (string_bytes s) ≤ 1_048_576 = omega (arith, ap length c.in_ok-format.ensures.ok, length-decimal-le 20 c.args.n (omega arith) (omega arith) (omega arith)) in
    subst (λ t. IsTrue (is_data t)) (sym c.from_string.ensures) (data_string s few)

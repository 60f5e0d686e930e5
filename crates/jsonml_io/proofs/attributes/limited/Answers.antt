use Rattle.std.proofs.Common.{◌≤◌, length, string_bytes, IsTrue, sym, subst, arith}
use Rattle.tree_model.specs.Records.{is_data}
use Rattle.jsonml_io.proofs.Valid.{data_string}
use Rattle.jsonml_io.proofs.attributes.limited.Goals as goal

pub returns-else-len-gt-MOST_TEXT_BYTES-clause-fits : goal.returns-else-len-gt-MOST_TEXT_BYTES-clause-fits
returns-else-len-gt-MOST_TEXT_BYTES-clause-fits c =
    let few : length (string_bytes c.args.text) ≤ 1_048_576 = omega arith in
    subst (λ t. IsTrue (is_data t)) (sym c.from_string.ensures) (data_string c.args.text few)

use Rattle.std.proofs.Common.{IsTrue, sym, subst}
use Rattle.tree_model.specs.Records.{is_data}
use Rattle.jsonml_io.proofs.Valid.{data_empty, data_true, data_false}
use Rattle.jsonml_io.proofs.attributes.value_text.Goals as goal

pub returns-in-Null-clause-fits : goal.returns-in-Null-clause-fits
returns-in-Null-clause-fits c = subst (λ t. IsTrue (is_data t)) (sym c.in_ok-of-in-Null.ensures) data_empty

pub returns-in-Bool-true-clause-fits : goal.returns-in-Bool-true-clause-fits
returns-in-Bool-true-clause-fits c = subst (λ t. IsTrue (is_data t)) (sym c.in_ok-of-in-Bool-true.ensures) data_true

pub returns-in-Bool-false-clause-fits : goal.returns-in-Bool-false-clause-fits
returns-in-Bool-false-clause-fits c = subst (λ t. IsTrue (is_data t)) (sym c.in_ok-of-in-Bool-false.ensures) data_false

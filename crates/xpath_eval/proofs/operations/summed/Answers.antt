use Rattle.std.proofs.Common.{List, ℕ, sym, ap, ◌∙◌}
use Rattle.path_model.specs.Evaluation.{string_values}
use Rattle.path_model.specs.Functions.{Value, nodes_in, added_up, zero_number}
use Rattle.path_model.specs.Programs.{ends, and_then}
use Rattle.path_model.specs.Values as values
use Rattle.xpath_axes.specs.Positions.{all_plain}
use Rattle.xpath_eval.specs.Values.{meant}
use Rattle.xpath_eval.proofs.Parts.{run_is, answer_is, made_of}
use Rattle.xpath_eval.proofs.operations.summed.Goals as goal

pub returns-clause-run : goal.returns-clause-run
returns-clause-run g c = λ t stands.
    let reads = g.S.NodeRead.reads in
    let saw = g.W.Looks.saw in
    let f : List (List ℕ) → Value = λ ss. values.number (added_up zero_number ss) in
    run_is reads saw t (ap (λ ns. and_then (string_values (all_plain ns)) (λ ss. ends (f ss))) c.as_slice.ensures.value ∙ ap (λ v. and_then (string_values (nodes_in (meant v))) (λ ss. ends (f ss))) (sym c.in-Nodes.is))
    (answer_is reads saw t (ap f (sym c.as_slice-2.ensures) ∙ ap (λ n. values.number n) (sym c.sum.ensures) ∙ sym c.of_number.ensures)
    (made_of reads saw t g.met.W.Looks.saw_nothing g.met.W.Looks.saw_further (string_values (all_plain c.as_slice.result.now)) f (c.in_ok-strings.ensures.run t stands)))

use Rattle.std.proofs.Common.{sym, ap, ◌∙◌}
use Rattle.path_model.specs.Evaluation.{string_values, with_strings}
use Rattle.path_model.specs.Values.{nodes}
use Rattle.xpath_axes.specs.Positions.{all_plain}
use Rattle.xpath_eval.specs.Values.{meant}
use Rattle.xpath_eval.proofs.Parts.{run_is, made_of}
use Rattle.xpath_eval.proofs.strings.with_strings.Goals as goal

pub returns-in_ok-strings-in-Nodes-clause-run : goal.returns-in_ok-strings-in-Nodes-clause-run
returns-in_ok-strings-in-Nodes-clause-run g c = λ t stands.
    run_is g.S.NodeRead.reads g.W.Looks.saw t (ap (λ ns. with_strings (nodes (all_plain ns))) c.as_slice.ensures.value ∙ ap (λ v. with_strings (meant v)) (sym c.in-Nodes.is))
    (made_of g.S.NodeRead.reads g.W.Looks.saw t g.met.W.Looks.saw_nothing g.met.W.Looks.saw_further (string_values (all_plain c.as_slice.result.now)) (λ ss. nodes ss) (c.in_ok-strings-in-Nodes.ensures.run t stands))

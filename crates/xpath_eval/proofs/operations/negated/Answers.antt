use Rattle.std.proofs.Common.{sym, ap, ◌∙◌}
use Rattle.path_model.specs.Functions.{Value, zero_number}
use Rattle.path_model.specs.Numbers.{Num, minus}
use Rattle.path_model.specs.Values.{Strings, nodes, text, flag, compare}
use Rattle.path_model.specs.Values as values
use Rattle.xpath_eval.specs.Values.{meant}
use Rattle.xpath_eval.specs.inside.Texts.{as_number}
use Rattle.xpath_eval.proofs.Parts.{run_is, answer_is, made_of, one_in_number}
use Rattle.xpath_eval.proofs.operations.negated.Goals as goal

pub returns-clause-run : goal.returns-clause-run
returns-clause-run g c = λ t stands.
    let reads = g.S.NodeRead.reads in
    let saw = g.W.Looks.saw in
    let nothing = g.met.W.Looks.saw_nothing in
    let further = g.met.W.Looks.saw_further in
    let seqs = g.met.S.NodeRead in
    let f : Num → Value = λ n. values.number (minus zero_number n) in
    run_is reads saw t (one_in_number f (meant c.args.of.now))
    (answer_is reads saw t (ap (λ z. values.number z) (sym c.minus.ensures) ∙ sym c.of_number.ensures) (made_of reads saw t nothing further (as_number (meant c.args.of.now)) f (c.in_ok-number.ensures.run t stands)))

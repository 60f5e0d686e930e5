use Rattle.std.proofs.Common.{sym, ap, ◌∙◌}
use Rattle.path_model.specs.Functions.{Value}
use Rattle.path_model.specs.Numbers.{Num}
use Rattle.path_model.specs.Programs.{ends, and_then}
use Rattle.path_model.specs.Values.{Strings, nodes, text, flag, compare}
use Rattle.path_model.specs.Values as values
use Rattle.xpath_eval.specs.Values.{meant}
use Rattle.xpath_eval.specs.inside.Operations.{calculation}
use Rattle.xpath_eval.specs.inside.Texts.{as_number}
use Rattle.xpath_eval.proofs.Parts.{later, run_is, answer_is, made_of, one_by_one, two_numbers}
use Rattle.xpath_eval.proofs.operations.calculated.Goals as goal

pub returns-clause-run : goal.returns-clause-run
returns-clause-run g c = λ t stands.
    let reads = g.S.NodeRead.reads in
    let saw = g.W.Looks.saw in
    let nothing = g.met.W.Looks.saw_nothing in
    let further = g.met.W.Looks.saw_further in
    let seqs = g.met.S.NodeRead in
    let a = meant c.args.left.now in
    let b = meant c.args.right.now in
    let f : Num → Num → Value = λ m n. values.number (calculation c.args.by m n) in
    run_is reads saw t (two_numbers f a b)
    (one_by_one reads saw t nothing further (as_number a) (λ m. and_then (as_number b) (λ n. ends (f m n))) (c.in_ok-one.ensures.run t stands)
    (answer_is reads saw t (ap (λ z. values.number z) (sym c.calculate.ensures) ∙ sym c.of_number.ensures)
    (made_of reads saw t nothing further (as_number b) (λ n. f c.in_ok-one.one n) (c.in_ok-other.ensures.run t (later _ _ t (seqs.unchanged_contents _ _ c.in_ok-one.ensures.unchanged) stands)))))

use Rattle.std.proofs.Common.{sym, ap}
use Rattle.path_model.specs.Evaluation.{with_strings}
use Rattle.path_model.specs.Programs.{ends, and_then}
use Rattle.path_model.specs.Values.{flag, compare}
use Rattle.xpath_values.specs.PlainValues.{plain}
use Rattle.xpath_eval.specs.Values.{meant}
use Rattle.xpath_eval.proofs.Parts.{later, answer_is, made_of, one_by_one}
use Rattle.xpath_eval.proofs.operations.by_strings.Goals as goal

pub returns-clause-run : goal.returns-clause-run
returns-clause-run g c = λ t stands.
    let reads = g.S.NodeRead.reads in
    let saw = g.W.Looks.saw in
    let nothing = g.met.W.Looks.saw_nothing in
    let further = g.met.W.Looks.saw_further in
    let seqs = g.met.S.NodeRead in
    let a = meant c.args.left.now in
    let b = meant c.args.right.now in
    one_by_one reads saw t nothing further (with_strings a) (λ x. and_then (with_strings b) (λ y. ends (flag (compare c.args.by x y)))) (c.in_ok-one.ensures.run t stands)
    (answer_is reads saw t (ap (λ z. flag z) (sym c.compare.ensures))
    (made_of reads saw t nothing further (with_strings b) (λ y. flag (compare c.args.by (plain c.in_ok-one.one) y)) (c.in_ok-other.ensures.run t (later _ _ t (seqs.unchanged_contents _ _ c.in_ok-one.ensures.unchanged) stands))))

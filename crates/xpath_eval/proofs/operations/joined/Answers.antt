use Rattle.std.proofs.Common.{sym, ap, ◌∙◌}
use Rattle.path_model.specs.Evaluation.{texts_of}
use Rattle.path_model.specs.Texts.{joined}
use Rattle.path_model.specs.Values.{text}
use Rattle.xpath_eval.specs.Values.{all_meant}
use Rattle.xpath_eval.proofs.Parts.{answer_is, made_of}
use Rattle.xpath_eval.proofs.operations.joined.Goals as goal

pub returns-clause-run : goal.returns-clause-run
returns-clause-run g c = λ t stands.
    let reads = g.S.NodeRead.reads in
    let saw = g.W.Looks.saw in
    let nothing = g.met.W.Looks.saw_nothing in
    let further = g.met.W.Looks.saw_further in
    let seqs = g.met.S.NodeRead in
    answer_is reads saw t (ap (λ ss. text (joined ss)) (sym c.as_slice.ensures) ∙ ap (λ s. text s) (sym c.in_ok-concat.ensures))
    (made_of reads saw t nothing further (texts_of (all_meant c.args.operands.now)) (λ ss. text (joined ss)) (c.in_ok-texts.ensures.run t stands))

use Rattle.std.proofs.Common.{List, ℕ, sym, ap, ◌∙◌}
use Rattle.path_model.specs.Functions.{Value}
use Rattle.path_model.specs.Programs.{ends, and_then}
use Rattle.xpath_eval.specs.Values.{meant}
use Rattle.xpath_eval.specs.inside.Operations.{text_function}
use Rattle.xpath_eval.specs.inside.Texts.{as_text}
use Rattle.xpath_eval.proofs.Parts.{later, run_is, answer_is, made_of, one_by_one, two_texts}
use Rattle.xpath_eval.proofs.operations.by_texts.Goals as goal

pub returns-clause-run : goal.returns-clause-run
returns-clause-run g c = λ t stands.
    let reads = g.S.NodeRead.reads in
    let saw = g.W.Looks.saw in
    let nothing = g.met.W.Looks.saw_nothing in
    let further = g.met.W.Looks.saw_further in
    let seqs = g.met.S.NodeRead in
    let a = meant c.args.left.now in
    let b = meant c.args.right.now in
    let f : List ℕ → List ℕ → Value = text_function c.args.by in
    let shown = ap (λ s. f s c.in_ok-part.part) (sym c.as_str.ensures.bytes) ∙ ap (λ p. f c.as_str.result.now p) (sym c.as_str-2.ensures.bytes) ∙ sym c.in_ok-of_texts.ensures in
    run_is reads saw t (two_texts f a b)
    (one_by_one reads saw t nothing further (as_text a) (λ s. and_then (as_text b) (λ p. ends (f s p))) (c.in_ok-text.ensures.run t stands)
    (answer_is reads saw t shown
    (made_of reads saw t nothing further (as_text b) (λ p. f c.in_ok-text.text p) (c.in_ok-part.ensures.run t (later _ _ t (seqs.unchanged_contents _ _ c.in_ok-text.ensures.unchanged) stands)))))

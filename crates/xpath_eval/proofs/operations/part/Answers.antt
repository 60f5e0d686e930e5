use Rattle.std.proofs.Common.{drop, sym, ap, ◌∙◌}
use Rattle.path_model.specs.Evaluation.{numbers_of}
use Rattle.path_model.specs.Functions.{first_of, second_of, part_of}
use Rattle.path_model.specs.Programs.{ends, and_then}
use Rattle.path_model.specs.Values.{text}
use Rattle.xpath_eval.specs.Values.{all_meant}
use Rattle.xpath_eval.specs.inside.Texts.{as_text, as_number}
use Rattle.xpath_eval.proofs.Parts.{later, run_is, answer_is, made_of, one_by_one, part_is}
use Rattle.xpath_eval.proofs.operations.part.Goals as goal

pub returns-clause-run : goal.returns-clause-run
returns-clause-run g c = λ t stands.
    let reads = g.S.NodeRead.reads in
    let saw = g.W.Looks.saw in
    let nothing = g.met.W.Looks.saw_nothing in
    let further = g.met.W.Looks.saw_further in
    let seqs = g.met.S.NodeRead in
    let vs = all_meant c.args.operands.now in
    let one = c.in_ok-text.ensures in
    let two = c.in_ok-start.ensures in
    let three = c.in_ok-others.ensures in
    let then_two = later _ _ t (seqs.unchanged_contents _ _ one.unchanged) stands in
    let then_three = later _ _ t (seqs.unchanged_contents _ _ two.unchanged) then_two in
    let shown = ap (λ s. text (part_of s c.in_ok-start.start c.in_ok-others.others)) (sym c.as_str.ensures.bytes)
    ∙ ap (λ ms. text (part_of c.as_str.result.now c.in_ok-start.start ms)) (sym c.as_slice.ensures) ∙ ap (λ s. text s) (sym c.part_of-kept.ensures) ∙ ap (λ s. text s) (sym c.in_ok-of.ensures) in
    run_is reads saw t (part_is vs)
    (one_by_one reads saw t nothing further (as_text (first_of vs)) (λ s. and_then (as_number (second_of vs)) (λ n. and_then (numbers_of (drop 2 vs)) (λ zs. ends (text (part_of s n zs)))))
    (run_is reads saw t (ap as_text c.operand.ensures) (one.run t stands))
    (one_by_one reads saw t nothing further (as_number (second_of vs)) (λ n. and_then (numbers_of (drop 2 vs)) (λ zs. ends (text (part_of c.in_ok-text.text n zs))))
    (run_is reads saw t (ap as_number c.operand-2.ensures) (two.run t then_two))
    (answer_is reads saw t shown (made_of reads saw t nothing further (numbers_of (drop 2 vs)) (λ zs. text (part_of c.in_ok-text.text c.in_ok-start.start zs))
    (run_is reads saw t (ap numbers_of c.behind_two.ensures) (three.run t then_three))))))

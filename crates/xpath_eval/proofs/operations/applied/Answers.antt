use Rattle.std.proofs.Common.{sym, ap, ◌∙◌}
use Rattle.path_model.specs.Evaluation.{applied, in_texts}
use Rattle.path_model.specs.Functions.{first_of}
use Rattle.xpath_axes.proofs.Running.{runs_as}
use Rattle.xpath_eval.specs.Values.{meant, all_meant}
use Rattle.xpath_eval.specs.inside.Contexts.{stands}
use Rattle.xpath_eval.specs.inside.Operations.{text_function}
use Rattle.xpath_eval.specs.declared.operations.TextFunction.TheVariants.{StartsWith, Contains, Before, After}
use Rattle.xpath_eval.proofs.operations.applied.Goals as goal

pub returns-in-StartsWith-clause-run : goal.returns-in-StartsWith-clause-run
returns-in-StartsWith-clause-run g c =
    let vs = all_meant c.args.operands.now in
    runs_as g.S.NodeRead.reads g.W.Looks.saw g.S.NodeRead.contents meant c.args.seq.now c.args.looks.now c.by_texts.result c.by_texts.new.seq c.by_texts.new.looks
    (ap (λ v. in_texts (text_function StartsWith) v (meant c.operand-second.result.now)) c.operand-first.ensures ∙ ap (λ v. in_texts (text_function StartsWith) (first_of vs) v) c.operand-second.ensures
    ∙ ap (λ o. applied o vs (stands c.args.context.now)) (sym c.in-StartsWith.is)) c.by_texts.ensures.run

pub returns-in-Contains-clause-run : goal.returns-in-Contains-clause-run
returns-in-Contains-clause-run g c =
    let vs = all_meant c.args.operands.now in
    runs_as g.S.NodeRead.reads g.W.Looks.saw g.S.NodeRead.contents meant c.args.seq.now c.args.looks.now c.by_texts-in-Contains.result c.by_texts-in-Contains.new.seq c.by_texts-in-Contains.new.looks
    (ap (λ v. in_texts (text_function Contains) v (meant c.operand-second.result.now)) c.operand-first.ensures ∙ ap (λ v. in_texts (text_function Contains) (first_of vs) v) c.operand-second.ensures
    ∙ ap (λ o. applied o vs (stands c.args.context.now)) (sym c.in-Contains.is)) c.by_texts-in-Contains.ensures.run

pub returns-in-SubstringBefore-clause-run : goal.returns-in-SubstringBefore-clause-run
returns-in-SubstringBefore-clause-run g c =
    let vs = all_meant c.args.operands.now in
    runs_as g.S.NodeRead.reads g.W.Looks.saw g.S.NodeRead.contents meant c.args.seq.now c.args.looks.now c.by_texts-in-SubstringBefore.result c.by_texts-in-SubstringBefore.new.seq c.by_texts-in-SubstringBefore.new.looks
    (ap (λ v. in_texts (text_function Before) v (meant c.operand-second.result.now)) c.operand-first.ensures ∙ ap (λ v. in_texts (text_function Before) (first_of vs) v) c.operand-second.ensures
    ∙ ap (λ o. applied o vs (stands c.args.context.now)) (sym c.in-SubstringBefore.is)) c.by_texts-in-SubstringBefore.ensures.run

pub returns-in-SubstringAfter-clause-run : goal.returns-in-SubstringAfter-clause-run
returns-in-SubstringAfter-clause-run g c =
    let vs = all_meant c.args.operands.now in
    runs_as g.S.NodeRead.reads g.W.Looks.saw g.S.NodeRead.contents meant c.args.seq.now c.args.looks.now c.by_texts-in-SubstringAfter.result c.by_texts-in-SubstringAfter.new.seq c.by_texts-in-SubstringAfter.new.looks
    (ap (λ v. in_texts (text_function After) v (meant c.operand-second.result.now)) c.operand-first.ensures ∙ ap (λ v. in_texts (text_function After) (first_of vs) v) c.operand-second.ensures
    ∙ ap (λ o. applied o vs (stands c.args.context.now)) (sym c.in-SubstringAfter.is)) c.by_texts-in-SubstringAfter.ensures.run

use Rattle.std.proofs.Common.{sym, ap, ◌∙◌}
use Rattle.path_model.specs.Texts.{behind_part}
use Rattle.xpath_values.proofs.Cuts.{cut_found, cut_not_found}
use Rattle.xpath_values.proofs.strings.substring_after.Goals as goal

pub returns-in-Some : goal.returns-in-Some
returns-in-Some c =
    let met = c.in-Some.ensures.cases in
    met.4 ∙ ap behind_part (sym (cut_found c.args.part.now c.args.text.now met.0 met.1 met.2))

pub returns-in-None : goal.returns-in-None
returns-in-None c = ap behind_part (sym (cut_not_found c.args.part.now c.args.text.now c.in-None.ensures.cases))

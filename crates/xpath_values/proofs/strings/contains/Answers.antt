use Rattle.xpath_values.proofs.Cuts.{contains_is}
use Rattle.xpath_values.proofs.strings.contains.Goals as goal

pub returns : goal.returns
returns c = contains_is c.contains.result c.args.part.now c.args.text.now c.contains.ensures.cases

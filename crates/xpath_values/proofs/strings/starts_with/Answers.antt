use Rattle.std.proofs.Common.{◌∙◌}
use Rattle.std.proofs.lemmas.Str.Pattern.{starts_text}
use Rattle.xpath_values.proofs.Cuts.{starts_is_begins}
use Rattle.xpath_values.proofs.strings.starts_with.Goals as goal

pub returns : goal.returns
returns c = starts_text c.starts_with.result c.args.start.now c.args.text.now c.starts_with.ensures.cases ∙ starts_is_begins c.args.start.now c.args.text.now

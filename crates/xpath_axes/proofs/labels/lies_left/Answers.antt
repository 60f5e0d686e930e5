use Rattle.std.proofs.Common.{◌∙◌}
use Rattle.xpath_axes.proofs.LabelWays.{flipped}
use Rattle.xpath_axes.proofs.labels.lies_left.Goals as goal

pub returns : goal.returns
returns c = c.lies_right.ensures ∙ flipped c.args.of.now c.args.at.now

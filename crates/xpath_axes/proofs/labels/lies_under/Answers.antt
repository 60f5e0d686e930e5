use Rattle.std.proofs.Common.{◌∙◌}
use Rattle.dewey_labels.proofs.Sides.{ancestor_under}
use Rattle.xpath_axes.proofs.labels.lies_under.Goals as goal

pub returns : goal.returns
returns c = c.is_ancestor_of.ensures.prefix ∙ ancestor_under c.args.of.now c.args.at.now

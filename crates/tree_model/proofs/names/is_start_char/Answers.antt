use Rattle.tree_model.specs.Names.{is_start_char}
use Rattle.tree_model.proofs.names.is_start_char.Goals as goal

pub returns : goal.returns
unfolding is_start_char
returns c = c.is_in_ranges.ensures

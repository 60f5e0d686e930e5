use Rattle.tree_model.specs.Names.{is_start_char}
use Rattle.xpath_parser.proofs.characters.is_start_char.Goals as goal

pub returns : goal.returns
unfolding is_start_char
returns c = c.is_in_ranges.ensures

use Rattle.std.proofs.Common.{◌∙◌, ap, ◌||◌, sym}
use Rattle.tree_model.specs.Names.{is_name_char, is_in_ranges, further_ranges}
use Rattle.xpath_parser.proofs.characters.is_name_char.Goals as goal

pub returns-then-is_start_char : goal.returns-then-is_start_char
unfolding is_name_char
returns-then-is_start_char c = c.if-is_start_char.true ∙ ap (λ b. b || is_in_ranges further_ranges c.args.c) (sym c.if-is_start_char.true ∙ c.is_start_char.ensures)

pub returns-else-is_start_char : goal.returns-else-is_start_char
unfolding is_name_char
returns-else-is_start_char c = c.is_in_ranges.ensures ∙ ap (λ b. b || is_in_ranges further_ranges c.args.c) (sym c.if-is_start_char.false ∙ c.is_start_char.ensures)

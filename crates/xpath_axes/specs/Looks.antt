-- Looks as they are meant.
use Rattle.path_model.specs.Programs as path
use Rattle.xpath_axes.specs.declared.look.Look.{Look}
use Rattle.xpath_axes.specs.declared.look.Look.TheVariants as look

-- the look of a program
abbrev pub meant : Look → path.Look
meant (look.Node l) = path.at_node l.now
meant (look.Row l) = path.at_row l.now
meant (look.Tree l) = path.at_tree l.now
meant (look.Attributes l) = path.at_attributes l.now
meant (look.Attribute l n) = path.at_attribute l.now n.now

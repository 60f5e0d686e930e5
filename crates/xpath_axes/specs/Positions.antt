-- The positions that the looks answer, as those of `path_model`.
use Rattle.std.specs.Prelude.{List, map}
use Rattle.path_model.specs.Positions as path
use Rattle.xpath_axes.specs.declared.position.Position.{Position}
use Rattle.xpath_axes.specs.declared.position.Position.TheVariants.{Node, Attribute}

-- the position that is meant
abbrev pub plain : Position → path.Position
plain (Node l r) = path.a_node l r
plain (Attribute l n v) = path.an_attribute l n v

-- each of a list
abbrev pub all_plain : List Position → List path.Position
all_plain ps = map plain ps

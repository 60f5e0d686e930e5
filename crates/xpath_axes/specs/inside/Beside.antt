-- The nodes beside a node, and the labels above it.
use Rattle.std.specs.Prelude.{Bool, ◌||◌, List, ◌∷◌, reverse}
use Rattle.std.specs.List.{filter}
use Rattle.dewey_labels.specs.Labels.{Label}
use Rattle.dewey_labels.specs.Sides.{side, is_under, is_right}
use Rattle.path_model.specs.Axes.{is_left}
use Rattle.path_model.specs.AxisPrograms.{ancestors_up}
use Rattle.path_model.specs.Positions.{Position, a_node, an_attribute, label_of}
use Rattle.xpath_axes.specs.declared.axes.Side.{Side}
use Rattle.xpath_axes.specs.declared.axes.Side.TheVariants.{Left, Right, UnderOrRight}

-- whether a label lies on the side of another one
abbrev pub lies_on : Side → Label → Label → Bool
lies_on Left l k = is_left (side l k)
lies_on Right l k = is_right (side l k)
lies_on UnderOrRight l k = is_under (side l k) || is_right (side l k)

abbrev pub is_on : Side → Label → Position → Bool
is_on which l m = lies_on which l (label_of m)

-- those on the side, of positions in document order; those on the left from the nearest one on
abbrev pub in_turn : Side → Label → List Position → List Position
in_turn Left l s = reverse (filter (is_on Left l) s)
in_turn Right l s = filter (is_on Right l) s
in_turn UnderOrRight l s = filter (is_on UnderOrRight l) s

-- the labels of the ancestors of a position, from the parent up to the document
abbrev pub labels_above : Position → List Label
labels_above (a_node l r) = ancestors_up l
labels_above (an_attribute l n v) = l ∷ ancestors_up l

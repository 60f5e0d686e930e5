-- The children of a label among positions in document order that stand behind it.
use Rattle.std.specs.Prelude.{cond, List, [], ◌∷◌}
use Rattle.dewey_labels.specs.Labels.{Label, is_ancestor, is_child}
use Rattle.path_model.specs.Positions.{Position, label_of}

-- of those at the front that lie under the label its children
abbrev pub children_ahead : Label → List Position → List Position
children_ahead l [] = []
children_ahead l (m ∷ ms) = cond (is_ancestor l (label_of m)) (cond (is_child l (label_of m)) (m ∷ children_ahead l ms) (children_ahead l ms)) []

-- The catalogue that attributes of the root make: those whose values are labels' texts.
use Rattle.std.specs.Prelude.{[], ◌∷◌}
use Rattle.dewey_labels.specs.LabelText.{label_of}
use Rattle.tree_model.specs.StoredTree.{with_label}
use Rattle.tree_model.specs.Tree.{Attributes, Catalogue}

abbrev pub catalogue_of : Attributes → Catalogue
catalogue_of [] = []
catalogue_of (a ∷ ats) = with_label a.0 (label_of a.1) (catalogue_of ats)

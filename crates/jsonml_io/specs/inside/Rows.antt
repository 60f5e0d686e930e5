-- Fragments in a list.
use Rattle.std.specs.Prelude.{List, map}
use Rattle.tree_model.specs.declared.fragment.Fragment.{Fragment}
use Rattle.tree_model.specs.Fragments.{before_row, in_a_row, IsValid}

-- every fragment of the list is valid
abbrev pub AreValid : List Fragment → Type 0
AreValid fs = IsValid (in_a_row (map before_row fs))

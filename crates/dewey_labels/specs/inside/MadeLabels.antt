-- What a call makes of a new label.
use Rattle.std.specs.Prelude.{◌≡◌, Option, Some, None, Result, Ok, Err}
use Rattle.dewey_labels.specs.Labels.{Label}
use Rattle.dewey_labels.specs.declared.new_labels.LabelError.{LabelError}
use Rattle.dewey_labels.specs.declared.new_labels.LabelError.TheVariants.{LabelLimit}

-- what was made of a new label, where memory didn't run out
abbrev pub IsMade : Result Label LabelError → Option Label → Type 0
IsMade made None = made ≡ Err LabelLimit
IsMade made (Some new) = made ≡ Ok new

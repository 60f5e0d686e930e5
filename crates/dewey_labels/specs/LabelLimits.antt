-- Where a new label isn't made, since it would pass a limit (docs/PROFILE.md, "New labels").
use Rattle.std.specs.Prelude.{◌≡◌, ◌≢◌, ◌↔◌, Option, None, Result, Err}
use Rattle.dewey_labels.specs.Labels.{Label}
use Rattle.dewey_labels.specs.declared.new_labels.LabelError.{LabelError}
use Rattle.dewey_labels.specs.declared.new_labels.LabelError.TheVariants.{LabelLimit, NoMemory}

-- the limit is the answer exactly where there is no such label, unless memory runs out first
abbrev pub IsRefusedAtLimit : Result Label LabelError → Option Label → Type 0
IsRefusedAtLimit result new = (result ≡ Err LabelLimit) ↔ ((new ≡ None) × (result ≢ Err NoMemory))

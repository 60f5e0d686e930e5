use Rattle.std.proofs.Common.{◌≡◌, take, string_bytes}
use Rattle.dewey_labels.specs.LabelText.{label_text}
use Rattle.dewey_labels.proofs.label.Label.string.Given as goal

abbrev pub invariant-loop-index : goal.invariant-loop-index
invariant-loop-index l = string_bytes l.text ≡ label_text (take l.index l.division-items)

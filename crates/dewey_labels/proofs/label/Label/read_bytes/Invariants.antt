use Rattle.std.proofs.Common.{◌≡◌, take}
use Rattle.dewey_labels.proofs.label.Label.read_bytes.Given as goal

abbrev pub invariant-loop-byte : goal.invariant-loop-byte
invariant-loop-byte l = l.reader ≡ take l.byte-index l.text

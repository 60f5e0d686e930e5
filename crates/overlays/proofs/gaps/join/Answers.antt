use Rattle.overlays.proofs.StretchLaws.{whole_within, whole_has}
use Rattle.overlays.proofs.gaps.join.Goals as goal

pub returns : goal.returns
returns c = record { within = whole_within c.args.a c.args.b (record { first = c.lesser.result; last = c.greater.result; steps = c.saturating_add.result }) c.requires c.lesser.ensures c.greater.ensures; whole = whole_has c.args.a c.args.b (record { first = c.lesser.result; last = c.greater.result; steps = c.saturating_add.result }) c.lesser.ensures c.greater.ensures }

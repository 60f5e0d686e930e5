use Rattle.std.proofs.Common.{◌∙◌}
use Rattle.tx_core.proofs.Copies.{one_copied}
use Rattle.tx_core.proofs.copying.map_with.Goals as goal

pub loop-entry-preserved : goal.loop-entry-preserved
loop-entry-preserved c = λ sorted. c.in_ok-put_entry.ensures ∙ one_copied c.in-Some.entry c.loop-entry.yielded c.loop-entry.map c.loop-entry.invariant sorted

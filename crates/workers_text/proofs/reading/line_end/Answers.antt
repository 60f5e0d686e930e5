use Rattle.std.proofs.Common.{sym, subst}
use Rattle.script_runs.specs.inside.Feeding.{IsFirstEnd}
use Rattle.script_runs.proofs.LineEnds.{first_end_is}
use Rattle.workers_text.proofs.reading.line_end.Goals as goal

pub returns : goal.returns
returns c = subst (IsFirstEnd c.args.bytes.now) (sym c.first_end.ensures) (first_end_is c.args.bytes.now)

use Rattle.std.proofs.Common.{sym}
use Rattle.overlays.proofs.Directions.{toward_tied}
use Rattle.overlays.proofs.view.copy_other.Goals as goal

pub returns-in-Equal : goal.returns-in-Equal
returns-in-Equal c = toward_tied c.args.toward c.args.key.now c.args.at.now (sym c.in-Equal.ensures)

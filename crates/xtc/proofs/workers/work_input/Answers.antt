use Rattle.std.proofs.Common.{ap, sym, subst}
use Rattle.std.specs.Prelude.{Option, Some}
use Rattle.command_words.specs.Commands.{workers}
use Rattle.workers_text.specs.Shown.{lines_in}
use Rattle.xtc.specs.Checkpoints.{may_lose}
use Rattle.xtc.specs.StoreMachine.{HasPages}
use Rattle.xtc.proofs.WorkersLaws.{error_fault, error_worked, input_worked, stops_fault, worked_whole}
use Rattle.xtc.proofs.workers.work_input.Goals as goal

pub returns-in-Ok-clause-done : goal.returns-in-Ok-clause-done
returns-in-Ok-clause-done g c =
    let read = c.in-Ok.ensures.read in (
      read.0,
      read.1,
      read.2,
      read.3,
      λ kj kp t is files.
          input_worked t c.args.number c.args.checkpoints.every read.0 (lines_in c.in-Ok.script.entries) _ _ _ (λ text. text.items) c.work_over.result.text (ap lines_in read.4.1) read.4.0 c.in-Ok.ensures.whole
          (c.work_over.ensures.done kj kp t is files),
    )

pub returns-in-Ok-clause-whole : goal.returns-in-Ok-clause-whole
returns-in-Ok-clause-whole g c = worked_whole c.work_over.result.text _ c.in-Ok.ensures.whole

pub returns-in-Ok-clause-fault : goal.returns-in-Ok-clause-fault
returns-in-Ok-clause-fault g c = stops_fault (may_lose (Some workers) c.args.checkpoints.every g.P.Disk.is_known) c.work_over.result.text c.work_over.ensures.stops

pub returns-in-Err-clause-done : goal.returns-in-Err-clause-done
returns-in-Err-clause-done g c =
    let read = c.in-Err.ensures.read in (
      read.0,
      read.1,
      read.2,
      read.3,
      λ kj kp t is files. error_worked c.in-Err.error c.from.result t c.args.number c.args.checkpoints.every read.0 _ _ c.from.ensures read.4,
    )

pub returns-in-Err-clause-fault : goal.returns-in-Err-clause-fault
returns-in-Err-clause-fault g c = error_fault (may_lose (Some workers) c.args.checkpoints.every g.P.Disk.is_known) c.in-Err.error c.from.result c.from.ensures

pub returns-in-Err-clause-pages : goal.returns-in-Err-clause-pages
returns-in-Err-clause-pages g c = subst (λ (p : Option g.row.P.Denot). HasPages c.args.base p) (sym c.requires.begun.inside) c.requires.begun.paged

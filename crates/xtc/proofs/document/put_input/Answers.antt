use Rattle.std.specs.Prelude.{Ok, Err}
use Rattle.command_words.specs.Commands.{put}
use Rattle.xtc.specs.TopCall.{IsWhole}
use Rattle.xtc.proofs.DocumentLaws.{input_done, input_err, not_had, not_judged, nothing_judged, read_within, stops_unwritten}
use Rattle.xtc.proofs.document.put_input.Goals as goal

pub returns-in_err-element-clause-done : goal.returns-in_err-element-clause-done
returns-in_err-element-clause-done g c =
    let read = c.in_err-element.ensures.read in
    let status = c.in_err-element.field-0.0 in
    let left = g.S.Source.left c.read_element.new.source in (
      read.0,
      read.1,
      read.2,
      read_within read.0 (Err status) read.3,
      λ s stands.
          let why = not_had c.args.name.now s read.0 status read.3 in
          input_err c.from_residual.result status g.J.Disk.is_known s (put c.args.name.now) read.0 (IsWhole left read.0) c.args.journal.now.history c.args.journal.now.history (λ text. text.items) c.from_residual.ensures.1
          (nothing_judged g.J.Disk.is_known s (put c.args.name.now) read.0 (IsWhole left read.0) c.args.journal.now.history status why.0 why.1 (not_judged read.0 left status read.3 c.in_err-element.ensures.whole)),
    )

pub returns-clause-done : goal.returns-clause-done
returns-clause-done g c =
    let read = c.in_ok-element.ensures.read in
    let left = g.S.Source.left c.read_element.new.source in (
      read.0,
      read.1,
      read.2,
      read_within read.0 (Ok c.in_ok-element.element) read.3,
      λ s stands.
          input_done c.put.result g.J.Disk.is_known s (put c.args.name.now) read.0 (IsWhole left read.0) c.args.journal.now.history c.put.new.journal.history (λ text. text.items)
          (c.put.ensures.done s stands read.0 read.3.0 read.3.1) (c.in_ok-element.ensures.whole, read.3.1),
    )

pub returns-clause-unwritten : goal.returns-clause-unwritten
returns-clause-unwritten g c = stops_unwritten c.put.result c.put.ensures.stops

use Rattle.std.proofs.Common.{ap, subst, sym}
use Rattle.outside_traits.specs.DiskPairs.{pair_of}
use Rattle.command_words.specs.Commands.{Command, meant}
use Rattle.xtc.specs.StoreMachine.{pages_of, told}
use Rattle.xtc.specs.Outside.{Input, Output, Disks}
use Rattle.xtc.specs.inside.CommandRuns.{RunsCommand}
use Rattle.xtc.proofs.top_call.run_command.Goals as goal

pub returns-in-Run : goal.returns-in-Run
returns-in-Run g c =
    let store = c.args.store in
    let result = c.run_store.result in
    let input : Input = record { left = g.S.Source.left c.args.source.now; given = g.S.Source.given c.args.source.now; asked = g.S.Source.asked c.args.source.now; faults = g.S.Source.faults c.args.source.now } in
    let input_now : Input = record { left = g.S.Source.left c.run_store.new.source; given = g.S.Source.given c.run_store.new.source; asked = g.S.Source.asked c.run_store.new.source; faults = g.S.Source.faults c.run_store.new.source } in
    let output : Output = record { held = g.K.Sink.held c.args.sink.now; faults = g.K.Sink.faults c.args.sink.now } in
    let output_now : Output = record { held = g.K.Sink.held c.run_store.new.sink; faults = g.K.Sink.faults c.run_store.new.sink } in
    let before : Disks = record { files = pair_of store.journal.history (pages_of g.P.Disk.history store.base); faults = record { journal = store.journal.faults; pages = g.P.Disk.faults store.base.base.disk } } in
    let left : Disks = record { files = pair_of (g.J.Disk.history result.journal) (g.P.Disk.history result.pages); faults = record { journal = g.J.Disk.faults result.journal; pages = g.P.Disk.faults result.pages } } in
    subst (λ (command : Command). RunsCommand g.J.Disk.is_known g.P.Disk.is_known (told g.P.Disk.is_known g.P.Disk.history store.base) store.number command c.args.every result.status input input_now output output_now before left) (sym (ap meant c.in-Run.is)) c.run_store.ensures

pub returns-in-Workers : goal.returns-in-Workers
returns-in-Workers g c =
    let store = c.args.store in
    let result = c.run_workers.result in
    let input : Input = record { left = g.S.Source.left c.args.source.now; given = g.S.Source.given c.args.source.now; asked = g.S.Source.asked c.args.source.now; faults = g.S.Source.faults c.args.source.now } in
    let input_now : Input = record { left = g.S.Source.left c.run_workers.new.source; given = g.S.Source.given c.run_workers.new.source; asked = g.S.Source.asked c.run_workers.new.source; faults = g.S.Source.faults c.run_workers.new.source } in
    let output : Output = record { held = g.K.Sink.held c.args.sink.now; faults = g.K.Sink.faults c.args.sink.now } in
    let output_now : Output = record { held = g.K.Sink.held c.run_workers.new.sink; faults = g.K.Sink.faults c.run_workers.new.sink } in
    let before : Disks = record { files = pair_of store.journal.history (pages_of g.P.Disk.history store.base); faults = record { journal = store.journal.faults; pages = g.P.Disk.faults store.base.base.disk } } in
    let left : Disks = record { files = pair_of (g.J.Disk.history result.journal) (g.P.Disk.history result.pages); faults = record { journal = g.J.Disk.faults result.journal; pages = g.P.Disk.faults result.pages } } in
    subst (λ (command : Command). RunsCommand g.J.Disk.is_known g.P.Disk.is_known (told g.P.Disk.is_known g.P.Disk.history store.base) store.number command c.args.every result.status input input_now output output_now before left) (sym (ap meant c.in-Workers.is)) c.run_workers.ensures

pub returns-in-Put : goal.returns-in-Put
returns-in-Put g c =
    let store = c.args.store in
    let result = c.run_put.result in
    let input : Input = record { left = g.S.Source.left c.args.source.now; given = g.S.Source.given c.args.source.now; asked = g.S.Source.asked c.args.source.now; faults = g.S.Source.faults c.args.source.now } in
    let input_now : Input = record { left = g.S.Source.left c.run_put.new.source; given = g.S.Source.given c.run_put.new.source; asked = g.S.Source.asked c.run_put.new.source; faults = g.S.Source.faults c.run_put.new.source } in
    let output : Output = record { held = g.K.Sink.held c.args.sink.now; faults = g.K.Sink.faults c.args.sink.now } in
    let output_now : Output = record { held = g.K.Sink.held c.run_put.new.sink; faults = g.K.Sink.faults c.run_put.new.sink } in
    let before : Disks = record { files = pair_of store.journal.history (pages_of g.P.Disk.history store.base); faults = record { journal = store.journal.faults; pages = g.P.Disk.faults store.base.base.disk } } in
    let left : Disks = record { files = pair_of (g.J.Disk.history result.journal) (g.P.Disk.history result.pages); faults = record { journal = g.J.Disk.faults result.journal; pages = g.P.Disk.faults result.pages } } in
    subst (λ (command : Command). RunsCommand g.J.Disk.is_known g.P.Disk.is_known (told g.P.Disk.is_known g.P.Disk.history store.base) store.number command c.args.every result.status input input_now output output_now before left) (sym (ap meant c.in-Put.is)) (c.run_put.ensures c.args.every)

pub returns-in-Get : goal.returns-in-Get
returns-in-Get g c =
    let store = c.args.store in
    let result = c.run_get.result in
    let input : Input = record { left = g.S.Source.left c.args.source.now; given = g.S.Source.given c.args.source.now; asked = g.S.Source.asked c.args.source.now; faults = g.S.Source.faults c.args.source.now } in
    let output : Output = record { held = g.K.Sink.held c.args.sink.now; faults = g.K.Sink.faults c.args.sink.now } in
    let output_now : Output = record { held = g.K.Sink.held c.run_get.new.sink; faults = g.K.Sink.faults c.run_get.new.sink } in
    let before : Disks = record { files = pair_of store.journal.history (pages_of g.P.Disk.history store.base); faults = record { journal = store.journal.faults; pages = g.P.Disk.faults store.base.base.disk } } in
    let left : Disks = record { files = pair_of (g.J.Disk.history result.journal) (g.P.Disk.history result.pages); faults = record { journal = g.J.Disk.faults result.journal; pages = g.P.Disk.faults result.pages } } in
    subst (λ (command : Command). RunsCommand g.J.Disk.is_known g.P.Disk.is_known (told g.P.Disk.is_known g.P.Disk.history store.base) store.number command c.args.every result.status input input output output_now before left) (sym (ap meant c.in-Get.is)) (c.run_get.ensures input c.args.every)

pub returns-in-Query : goal.returns-in-Query
returns-in-Query g c =
    let store = c.args.store in
    let result = c.run_query.result in
    let input : Input = record { left = g.S.Source.left c.args.source.now; given = g.S.Source.given c.args.source.now; asked = g.S.Source.asked c.args.source.now; faults = g.S.Source.faults c.args.source.now } in
    let output : Output = record { held = g.K.Sink.held c.args.sink.now; faults = g.K.Sink.faults c.args.sink.now } in
    let output_now : Output = record { held = g.K.Sink.held c.run_query.new.sink; faults = g.K.Sink.faults c.run_query.new.sink } in
    let before : Disks = record { files = pair_of store.journal.history (pages_of g.P.Disk.history store.base); faults = record { journal = store.journal.faults; pages = g.P.Disk.faults store.base.base.disk } } in
    let left : Disks = record { files = pair_of (g.J.Disk.history result.journal) (g.P.Disk.history result.pages); faults = record { journal = g.J.Disk.faults result.journal; pages = g.P.Disk.faults result.pages } } in
    subst (λ (command : Command). RunsCommand g.J.Disk.is_known g.P.Disk.is_known (told g.P.Disk.is_known g.P.Disk.history store.base) store.number command c.args.every result.status input input output output_now before left) (sym (ap meant c.in-Query.is)) (c.run_query.ensures input c.args.every)

pub returns-in-Gen : goal.returns-in-Gen
returns-in-Gen g c =
    let store = c.args.store in
    let result = c.run_gen.result in
    let input : Input = record { left = g.S.Source.left c.args.source.now; given = g.S.Source.given c.args.source.now; asked = g.S.Source.asked c.args.source.now; faults = g.S.Source.faults c.args.source.now } in
    let output : Output = record { held = g.K.Sink.held c.args.sink.now; faults = g.K.Sink.faults c.args.sink.now } in
    let output_now : Output = record { held = g.K.Sink.held c.run_gen.new.sink; faults = g.K.Sink.faults c.run_gen.new.sink } in
    let before : Disks = record { files = pair_of store.journal.history (pages_of g.P.Disk.history store.base); faults = record { journal = store.journal.faults; pages = g.P.Disk.faults store.base.base.disk } } in
    let left : Disks = record { files = pair_of (g.J.Disk.history result.journal) (g.P.Disk.history result.pages); faults = record { journal = g.J.Disk.faults result.journal; pages = g.P.Disk.faults result.pages } } in
    subst (λ (command : Command). RunsCommand g.J.Disk.is_known g.P.Disk.is_known (told g.P.Disk.is_known g.P.Disk.history store.base) store.number command c.args.every result.status input input output output_now before left) (sym (ap meant c.in-Gen.is)) (c.run_gen.ensures input)

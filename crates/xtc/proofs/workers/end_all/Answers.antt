use Rattle.std.proofs.Common.{◌≡◌, ap, sym, subst}
use Rattle.std.specs.Prelude.{Err, IfErr, IfOk, OnOk, Some}
use Rattle.call_contract.specs.Sessions.{commits_in}
use Rattle.checkpoint.specs.declared.base.Base.{Base}
use Rattle.command_words.specs.Commands.{workers}
use Rattle.node_records.specs.declared.open_error.OpenError.TheVariants as error
use Rattle.script_runs.specs.Counts.{DisksCountedWhere}
use Rattle.xtc.specs.Checkpoints.{may_lose}
use Rattle.xtc.specs.StoreMachine.{HasPages}
use Rattle.xtc.specs.declared.workers.WorkedOver.{WorkedOver}
use Rattle.xtc.specs.inside.Working.{HasCommits, IsWorkersStop, LeavesCommits, counts_beside, files_beside}
use Rattle.xtc.proofs.WorkersCommits.{checkpoint_counted, checkpoint_stop, commits_had, commits_left, made_ok, may_renew, not_made, nothing_counted, stands_somewhere}
use Rattle.xtc.proofs.workers.end_all.Goals as goal

pub make_at_end-requires-clause-may : goal.make_at_end-requires-clause-may
make_at_end-requires-clause-may g c = may_renew g.J.Disk.is_known g.P.Disk.is_known g.P.Disk.history c.args.first.value c.args.core c.args.journal c.args.checkpoints c.requires.may

pub make_at_end-requires-clause-inside : goal.make_at_end-requires-clause-inside
make_at_end-requires-clause-inside g c = c.requires.may.begun.inside

pub make_at_end-requires-clause-opened : goal.make_at_end-requires-clause-opened
make_at_end-requires-clause-opened g c = c.requires.may.begun.opened

pub make_at_end-requires-clause-stands : goal.make_at_end-requires-clause-stands
make_at_end-requires-clause-stands g c = stands_somewhere g.J.Disk.is_known g.P.Disk.is_known g.P.Disk.history c.args.first.value c.args.core c.args.journal c.args.checkpoints c.requires.may

-- ---- the checkpoint came to its end, or none was due

pub returns-in-Ok-clause-leaves : goal.returns-in-Ok-clause-leaves
returns-in-Ok-clause-leaves g c = λ kj kp t opened legal files.
    let history = g.P.Disk.history in
    let every = c.args.checkpoints.every in
    let core = c.args.core in
    let may = c.requires.may in
    let run = c.make_at_end in
    let begin = files_beside history c.args.first.value c.args.core.base c.args.checkpoints in
    let synced = c.is_usable.ensures.settled kj may.wrote.takes.unfailed in
    let again = c.in-Ok.ensures.again in
    subst (λ (b : Base g.row.P.Denot). LeavesCommits t core.number every core.book begin (files_beside history run.new.journal b run.new.self)
    × HasCommits t core.number every core.book (files_beside history run.new.journal b run.new.self)) (sym c.into_base.ensures) (
      commits_left g.J.Disk.is_known g.P.Disk.is_known history c.args.first.value core c.args.journal c.args.checkpoints may c.first_commits_stand.ensures kj c.requires.reads t opened legal files synced
          run.new.core run.new.journal run.new.self made_ok (c.in-Ok.ensures.files kj kp) run.ensures.left,
      commits_had g.J.Disk.is_known g.P.Disk.is_known history c.args.first.value core c.args.journal c.args.checkpoints may c.first_commits_stand.ensures kj c.requires.reads t opened legal files synced
          run.new.core run.new.journal run.new.self (c.in-Ok.ensures.files kj kp) run.ensures.left (c.in-Ok.ensures.made kp) c.in-Ok.ensures.inside
          (c.is_usable-in-Ok.ensures.groups kj again.usable.unfailed) (c.is_usable-in-Ok.ensures.commits kj again.usable.unfailed again.usable.unheld),
    )

pub returns-in-Ok-clause-pages : goal.returns-in-Ok-clause-pages
returns-in-Ok-clause-pages g c = subst (λ (b : Base g.row.P.Denot). HasPages b c.make_at_end.new.self.pages) (sym c.into_base.ensures) c.make_at_end.ensures.left.has_pages

pub returns-in-Ok-clause-counts : goal.returns-in-Ok-clause-counts
returns-in-Ok-clause-counts g c =
    let run = c.make_at_end in
    nothing_counted c.args.text _ _
    (subst (λ (b : Base g.row.P.Denot). DisksCountedWhere (made_ok ≡ Err error.DiskFault) (counts_beside g.P.Disk.faults c.args.journal c.args.core.base c.args.checkpoints) (counts_beside g.P.Disk.faults run.new.journal b run.new.self)) (sym c.into_base.ensures) c.in-Ok.ensures.counts)

-- ---- it failed

pub returns-clause-leaves : goal.returns-clause-leaves
returns-clause-leaves g c = λ kj kp t opened legal files.
    let history = g.P.Disk.history in
    let every = c.args.checkpoints.every in
    let core = c.args.core in
    let may = c.requires.may in
    let run = c.make_at_end in
    let begin = files_beside history c.args.first.value c.args.core.base c.args.checkpoints in
    let synced = c.is_usable.ensures.settled kj may.wrote.takes.unfailed in
    subst (λ (r : WorkedOver _ g.row.P.Denot). LeavesCommits t core.number every core.book begin (files_beside history r.journal r.base r.checkpoints)
    × OnOk r.text (HasCommits t core.number every core.book (files_beside history r.journal r.base r.checkpoints))) (sym c.without_text.ensures) (
      commits_left g.J.Disk.is_known g.P.Disk.is_known history c.args.first.value core c.args.journal c.args.checkpoints may c.first_commits_stand.ensures kj c.requires.reads t opened legal files synced
          run.new.core run.new.journal run.new.self (not_made c.in-Err.error) (c.in-Err.ensures.files kj kp) run.ensures.left,
      tt,
    )

pub returns-clause-text : goal.returns-clause-text
returns-clause-text g c = subst (λ (r : WorkedOver _ g.row.P.Denot). IfOk r.text (λ b. b ≡ c.args.text)) (sym c.without_text.ensures) tt

pub returns-clause-stops : goal.returns-clause-stops
returns-clause-stops g c =
    subst (λ (r : WorkedOver _ g.row.P.Denot). IfErr r.text (IsWorkersStop (may_lose (Some workers) c.args.checkpoints.every g.P.Disk.is_known))) (sym c.without_text.ensures)
    (checkpoint_stop g.P.Disk.is_known c.args.checkpoints (commits_in c.args.core.book) c.in-Err.error c.from.result c.from.ensures c.in-Err.ensures.damaged)

pub returns-clause-pages : goal.returns-clause-pages
returns-clause-pages g c = subst (λ (r : WorkedOver _ g.row.P.Denot). HasPages r.base r.checkpoints.pages) (sym c.without_text.ensures) c.make_at_end.ensures.left.has_pages

pub returns-clause-counts : goal.returns-clause-counts
returns-clause-counts g c =
    let run = c.make_at_end in
    let r = c.without_text.result in
    checkpoint_counted r.text c.in-Err.error c.from.result _ _ (ap (λ (d : WorkedOver _ g.row.P.Denot). d.text) c.without_text.ensures) c.from.ensures
    (subst (λ (d : WorkedOver _ g.row.P.Denot). DisksCountedWhere (not_made c.in-Err.error ≡ Err error.DiskFault) (counts_beside g.P.Disk.faults c.args.journal c.args.core.base c.args.checkpoints) (counts_beside g.P.Disk.faults d.journal d.base d.checkpoints)) (sym c.without_text.ensures) c.in-Err.ensures.counts)

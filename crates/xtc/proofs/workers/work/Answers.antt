use Rattle.std.proofs.Common.{◌≡◌, ◌∙◌, ℕ, Vec, Global, refl, sym, ap, subst}
use Rattle.std.specs.Prelude.{Err, IfErr, OnOk, Some, flat_map}
use Rattle.node_seq.specs.Trees.{StandsFor}
use Rattle.tree_model.specs.Tree.{Tree}
use Rattle.call_contract.specs.Books.{IsBookFrom}
use Rattle.checkpoint.specs.Bases.{contents_of, unchanged_count}
use Rattle.checkpoint.specs.declared.base.Base.{Base}
use Rattle.command_lines.specs.Replies.{reply_text}
use Rattle.session_driver.specs.Asking.{BookCall}
use Rattle.command_words.specs.Commands.{workers}
use Rattle.journal.specs.Views.{JournalView}
use Rattle.script_runs.specs.Counts.{Counts, DisksCountedWhere}
use Rattle.store_calls.specs.StoreCalls.{IsValidStoreCall, store_meaning}
use Rattle.tx_core.specs.Cores.{CoreView}
use Rattle.workers_text.specs.Shown.{lines_in}
use Rattle.xtc.specs.Checkpoints.{is_positive, may_lose}
use Rattle.xtc.specs.StoreMachine.{HasPages}
use Rattle.xtc.specs.declared.status.Status.TheVariants.{DiskFault}
use Rattle.xtc.specs.declared.workers.WorkedOver.{WorkedOver}
use Rattle.xtc.specs.inside.CommandRuns.{StandSettled}
use Rattle.xtc.specs.inside.Renewing.{ReadsGroups}
use Rattle.xtc.specs.inside.Working.{HasCommits, IsWorkersStop, LeavesCommits, MayEnd, ScriptDone, counts_beside, files_beside}
use Rattle.xtc.proofs.WorkedScripts.{base_rose, both_same, did_some, ended_done, journal_rose, known_unlost, may_end, of_commits, of_ok, pages_still, some_done}
use Rattle.xtc.proofs.workers.work.Goals as goal

pub answer_script-core-requires-clause-begin : goal.answer_script-core-requires-clause-begin
answer_script-core-requires-clause-begin g c = λ κs within. record {
  book = ap (λ (v : CoreView BookCall (Base g.row.P.Denot)). v.book) c.requires.opened;
  takes = c.requires.begun.takes.usable;
  next = c.requires.begun.takes.next;
}

-- ---- a fault of the pages was counted

pub returns-then-pages_now-pages_before-clause-done : goal.returns-then-pages_now-pages_before-clause-done
returns-then-pages_now-pages_before-clause-done g c = λ kj kp t is files.
    let a = c.answer_script-core in
    let known = g.P.Disk.is_known in
    let history = g.P.Disk.history in
    let first = c.args.core in
    let lines = lines_in c.args.script.now.entries in
    let reads : ReadsGroups g.J.Disk.is_known c.args.journal = λ kj unfailed unheld. (c.is_usable.ensures.groups kj unfailed, c.is_usable.ensures.commits kj unfailed unheld) in
    let did = did_some a.result.text (λ (u : Tree). StandsFor (contents_of known history first.opening) u) first.number first.limit a.result.core.book lines (λ x ls. x.items ≡ flat_map reply_text ls) a.ensures.text a.ensures.stops in
    subst (λ (r : WorkedOver _ g.row.P.Denot). ScriptDone t first.number c.args.checkpoints.every lines (files_beside history c.args.journal first.base c.args.checkpoints)
    (files_beside history r.journal r.base r.checkpoints) (λ text. text.items) r.text) (sym c.without_text.ensures)
    (some_done known history g.P.Disk.faults first a.result.core c.requires.opened a.ensures.opened c.args.journal c.args.checkpoints kp t is files lines a.ensures.book.legal
    c.first_commits_stand.ensures g.J.Disk.is_known kj reads c.requires.begun a.result.journal a.ensures.written.wrote did)

pub returns-then-pages_now-pages_before-clause-stops : goal.returns-then-pages_now-pages_before-clause-stops
returns-then-pages_now-pages_before-clause-stops g c = subst (λ (r : WorkedOver _ g.row.P.Denot). IfErr r.text (IsWorkersStop (may_lose (Some workers) c.args.checkpoints.every g.P.Disk.is_known))) (sym c.without_text.ensures) tt

pub returns-then-pages_now-pages_before-clause-pages : goal.returns-then-pages_now-pages_before-clause-pages
returns-then-pages_now-pages_before-clause-pages g c =
    let a = c.answer_script-core in
    subst (λ (r : WorkedOver _ g.row.P.Denot). HasPages r.base r.checkpoints.pages) (sym c.without_text.ensures)
    (pages_still g.P.Disk.is_known g.P.Disk.history g.P.Disk.faults c.args.core a.result.core c.requires.opened a.ensures.opened c.args.journal c.args.checkpoints c.requires.begun)

pub returns-then-pages_now-pages_before-clause-counts : goal.returns-then-pages_now-pages_before-clause-counts
returns-then-pages_now-pages_before-clause-counts g c =
    let a = c.answer_script-core in
    let faults = g.P.Disk.faults in
    subst (λ (r : WorkedOver _ g.row.P.Denot). DisksCountedWhere (r.text ≡ Err DiskFault) (counts_beside faults c.args.journal c.args.core.base c.args.checkpoints) (counts_beside faults r.journal r.base r.checkpoints)) (sym c.without_text.ensures)
    (base_rose faults c.args.journal a.result.journal c.args.checkpoints c.requires.begun.inside c.args.core.base a.result.core.base refl a.ensures.written.wrote.faults
    (unchanged_count g.P.Disk.is_known g.P.Disk.history faults c.args.core.base a.result.core.base a.ensures.opened.base) (λ e. c.if-pages_now-pages_before.true (c.faults-pages_now.ensures ∙ e ∙ sym c.faults-pages_before.ensures)))

-- ---- a fault of the journal was

pub returns-then-journal_now-journal_before-clause-done : goal.returns-then-journal_now-journal_before-clause-done
returns-then-journal_now-journal_before-clause-done g c = λ kj kp t is files.
    let a = c.answer_script-core in
    let known = g.P.Disk.is_known in
    let history = g.P.Disk.history in
    let first = c.args.core in
    let lines = lines_in c.args.script.now.entries in
    let reads : ReadsGroups g.J.Disk.is_known c.args.journal = λ kj unfailed unheld. (c.is_usable.ensures.groups kj unfailed, c.is_usable.ensures.commits kj unfailed unheld) in
    let did = did_some a.result.text (λ (u : Tree). StandsFor (contents_of known history first.opening) u) first.number first.limit a.result.core.book lines (λ x ls. x.items ≡ flat_map reply_text ls) a.ensures.text a.ensures.stops in
    subst (λ (r : WorkedOver _ g.row.P.Denot). ScriptDone t first.number c.args.checkpoints.every lines (files_beside history c.args.journal first.base c.args.checkpoints)
    (files_beside history r.journal r.base r.checkpoints) (λ text. text.items) r.text) (sym c.without_text-then-journal_now-journal_before.ensures)
    (some_done known history g.P.Disk.faults first a.result.core c.requires.opened a.ensures.opened c.args.journal c.args.checkpoints kp t is files lines a.ensures.book.legal
    c.first_commits_stand.ensures g.J.Disk.is_known kj reads c.requires.begun a.result.journal a.ensures.written.wrote did)

pub returns-then-journal_now-journal_before-clause-stops : goal.returns-then-journal_now-journal_before-clause-stops
returns-then-journal_now-journal_before-clause-stops g c = subst (λ (r : WorkedOver _ g.row.P.Denot). IfErr r.text (IsWorkersStop (may_lose (Some workers) c.args.checkpoints.every g.P.Disk.is_known))) (sym c.without_text-then-journal_now-journal_before.ensures) tt

pub returns-then-journal_now-journal_before-clause-pages : goal.returns-then-journal_now-journal_before-clause-pages
returns-then-journal_now-journal_before-clause-pages g c =
    let a = c.answer_script-core in
    subst (λ (r : WorkedOver _ g.row.P.Denot). HasPages r.base r.checkpoints.pages) (sym c.without_text-then-journal_now-journal_before.ensures)
    (pages_still g.P.Disk.is_known g.P.Disk.history g.P.Disk.faults c.args.core a.result.core c.requires.opened a.ensures.opened c.args.journal c.args.checkpoints c.requires.begun)

pub returns-then-journal_now-journal_before-clause-counts : goal.returns-then-journal_now-journal_before-clause-counts
returns-then-journal_now-journal_before-clause-counts g c =
    let a = c.answer_script-core in
    let faults = g.P.Disk.faults in
    subst (λ (r : WorkedOver _ g.row.P.Denot). DisksCountedWhere (r.text ≡ Err DiskFault) (counts_beside faults c.args.journal c.args.core.base c.args.checkpoints) (counts_beside faults r.journal r.base r.checkpoints)) (sym c.without_text-then-journal_now-journal_before.ensures)
    (journal_rose faults c.args.journal a.result.journal c.args.checkpoints c.requires.begun.inside c.args.core.base a.result.core.base refl a.ensures.written.wrote.faults
    (λ e. c.if-journal_now-journal_before.true (c.faults-journal_now.ensures.count ∙ e ∙ sym c.faults-journal_before.ensures.count))
    (unchanged_count g.P.Disk.is_known g.P.Disk.history faults c.args.core.base a.result.core.base a.ensures.opened.base))

-- ---- memory was wanting

pub returns-in-Err-clause-done : goal.returns-in-Err-clause-done
returns-in-Err-clause-done g c = λ kj kp t is files.
    let a = c.answer_script-core in
    let known = g.P.Disk.is_known in
    let history = g.P.Disk.history in
    let first = c.args.core in
    let lines = lines_in c.args.script.now.entries in
    let reads : ReadsGroups g.J.Disk.is_known c.args.journal = λ kj unfailed unheld. (c.is_usable.ensures.groups kj unfailed, c.is_usable.ensures.commits kj unfailed unheld) in
    let did = did_some a.result.text (λ (u : Tree). StandsFor (contents_of known history first.opening) u) first.number first.limit a.result.core.book lines (λ x ls. x.items ≡ flat_map reply_text ls) a.ensures.text a.ensures.stops in
    subst (λ (r : WorkedOver _ g.row.P.Denot). ScriptDone t first.number c.args.checkpoints.every lines (files_beside history c.args.journal first.base c.args.checkpoints)
    (files_beside history r.journal r.base r.checkpoints) (λ text. text.items) r.text) (sym c.without_text-in-Err.ensures)
    (some_done known history g.P.Disk.faults first a.result.core c.requires.opened a.ensures.opened c.args.journal c.args.checkpoints kp t is files lines a.ensures.book.legal
    c.first_commits_stand.ensures g.J.Disk.is_known kj reads c.requires.begun a.result.journal a.ensures.written.wrote did)

pub returns-in-Err-clause-stops : goal.returns-in-Err-clause-stops
returns-in-Err-clause-stops g c = subst (λ (r : WorkedOver _ g.row.P.Denot). IfErr r.text (IsWorkersStop (may_lose (Some workers) c.args.checkpoints.every g.P.Disk.is_known))) (sym c.without_text-in-Err.ensures) tt

pub returns-in-Err-clause-pages : goal.returns-in-Err-clause-pages
returns-in-Err-clause-pages g c =
    let a = c.answer_script-core in
    subst (λ (r : WorkedOver _ g.row.P.Denot). HasPages r.base r.checkpoints.pages) (sym c.without_text-in-Err.ensures)
    (pages_still g.P.Disk.is_known g.P.Disk.history g.P.Disk.faults c.args.core a.result.core c.requires.opened a.ensures.opened c.args.journal c.args.checkpoints c.requires.begun)

pub returns-in-Err-clause-counts : goal.returns-in-Err-clause-counts
returns-in-Err-clause-counts g c =
    let a = c.answer_script-core in
    let faults = g.P.Disk.faults in
    let journal_same = sym c.faults-journal_now.ensures.count ∙ c.if-journal_now-journal_before.false ∙ c.faults-journal_before.ensures.count in
    let pages_same = sym c.faults-pages_now.ensures ∙ c.if-pages_now-pages_before.false ∙ c.faults-pages_before.ensures in
    subst (λ (r : WorkedOver _ g.row.P.Denot). DisksCountedWhere (r.text ≡ Err DiskFault) (counts_beside faults c.args.journal c.args.core.base c.args.checkpoints) (counts_beside faults r.journal r.base r.checkpoints)) (sym c.without_text-in-Err.ensures)
    (record {
      counted = λ it. absurd cc;
      exact = λ never. both_same faults c.args.journal a.result.journal c.args.checkpoints c.requires.begun.inside c.args.core.base a.result.core.base journal_same pages_same;
    })

-- ---- all lines were done

pub end_all-requires-clause-may : goal.end_all-requires-clause-may
end_all-requires-clause-may g c =
    let a = c.answer_script-core in
    let wrote = of_ok a.result.text c.in-Ok.text _ c.in-Ok.is a.ensures.written.durable in
    subst (λ (j : JournalView). MayEnd g.J.Disk.is_known g.P.Disk.is_known g.P.Disk.history j a.result.core a.result.journal c.args.checkpoints) (sym c.of-first.ensures)
    (may_end g.P.Disk.is_known g.P.Disk.history g.P.Disk.faults c.args.core a.result.core c.requires.opened a.ensures.opened c.args.journal c.args.checkpoints g.J.Disk.is_known a.result.journal c.requires.begun c.requires.tree wrote)

pub end_all-requires-clause-reads : goal.end_all-requires-clause-reads
end_all-requires-clause-reads g c =
    subst (λ (j : JournalView). ReadsGroups g.J.Disk.is_known j) (sym c.of-first.ensures) (λ kj unfailed unheld. (c.is_usable.ensures.groups kj unfailed, c.is_usable.ensures.commits kj unfailed unheld))

pub returns-in-Ok-clause-done : goal.returns-in-Ok-clause-done
returns-in-Ok-clause-done g c = λ kj kp t is files.
    let a = c.answer_script-core in
    let e = c.end_all.ensures in
    let r = c.end_all.result in
    let known = g.P.Disk.is_known in
    let history = g.P.Disk.history in
    let every = c.args.checkpoints.every in
    let first = c.args.core in
    let core = a.result.core in
    let lines = lines_in c.args.script.now.entries in
    let shown = of_ok a.result.text c.in-Ok.text _ c.in-Ok.is a.ensures.text in
    let new = files_beside history c.end_all.result.journal c.end_all.result.base c.end_all.result.checkpoints in
    let left = of_commits known history g.P.Disk.faults first core c.requires.opened a.ensures.opened c.args.journal c.args.checkpoints kp t is files lines a.ensures.book.legal _
    (subst (λ (j : JournalView). StandsFor (contents_of known history core.opening) t → IsBookFrom IsValidStoreCall store_meaning t core.number core.limit core.book
    → StandSettled (files_beside history j core.base c.args.checkpoints) t core.number
    → LeavesCommits t core.number every core.book (files_beside history j core.base c.args.checkpoints) new × OnOk r.text (HasCommits t core.number every core.book new)) c.of-first.ensures (e.leaves kj kp t)) in
    ended_done known history g.P.Disk.faults first core c.requires.opened a.ensures.opened c.args.journal c.args.checkpoints kp t is files lines a.ensures.book.legal
    r.text c.in-Ok.text (λ (text : Vec ℕ Global). text.items) (may_lose (Some workers) every known) (known_unlost (is_positive every) known kp) e.stops e.text new left shown.0 shown.2 shown.1

pub returns-in-Ok-clause-counts : goal.returns-in-Ok-clause-counts
returns-in-Ok-clause-counts g c =
    let a = c.answer_script-core in
    let faults = g.P.Disk.faults in
    let journal_same = sym c.faults-journal_now.ensures.count ∙ c.if-journal_now-journal_before.false ∙ c.faults-journal_before.ensures.count in
    let pages_same = sym c.faults-pages_now.ensures ∙ c.if-pages_now-pages_before.false ∙ c.faults-pages_before.ensures in
    let same = both_same faults c.args.journal a.result.journal c.args.checkpoints c.requires.begun.inside c.args.core.base a.result.core.base journal_same pages_same in
    let r = c.end_all.result in
    subst (λ (x : Counts). DisksCountedWhere (r.text ≡ Err DiskFault) x (counts_beside faults c.end_all.result.journal c.end_all.result.base c.end_all.result.checkpoints)) same c.end_all.ensures.counts

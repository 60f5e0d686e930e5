use Rattle.std.proofs.Common.{◌≡◌, not, ◌&&◌, sym, ap, subst, ◌∙◌}
use Rattle.std.specs.Prelude.{Err, Option}
use Rattle.outside_traits.specs.DiskPairs.{Pair, pair_of}
use Rattle.outside_traits.specs.Moments.{History}
use Rattle.tree_model.specs.Entries.{Entries}
use Rattle.tree_model.specs.declared.refusal.Refusal.TheVariants.{DocumentExists}
use Rattle.node_seq.specs.Trees.{StandsFor}
use Rattle.call_contract.specs.States.{start}
use Rattle.command_words.specs.Commands.{gen}
use Rattle.script_runs.specs.Counts.{Counts, DisksCountedWhere}
use Rattle.durable_sessions.specs.declared.reasons.Reason.TheVariants as reason
use Rattle.xtc.specs.Checkpoints.{is_positive}
use Rattle.xtc.specs.StoreMachine.{faults_of, file_of}
use Rattle.xtc.specs.TopCall.{tx_limit}
use Rattle.xtc.specs.declared.status.Status.{Status}
use Rattle.xtc.specs.declared.status.Status.TheVariants.{DiskFault, DocumentRefused}
use Rattle.xtc.specs.inside.Counting.{IsStopIf}
use Rattle.xtc.specs.inside.Generating.{DoneOverFiles, WentOver}
use Rattle.xtc.specs.inside.Renewing.{StandFor}
use Rattle.xtc.proofs.GeneratedLaws.{documents_went, halted_went}
use Rattle.xtc.proofs.LinesKept.{contents_same, counts_read, counts_unread, files_read, pages_behind, pages_unread, rested_read, stop_is}
use Rattle.xtc.proofs.generator.generate_over.Goals as goal

pub generate_in-requires-clause-rested : goal.generate_in-requires-clause-rested
generate_in-requires-clause-rested g c =
    rested_read g.P.Disk.is_known g.P.Disk.history g.P.Disk.faults c.args.base c.has_documents.new.seq c.args.number c.args.journal.now c.args.checkpoints c.has_documents.ensures.unchanged c.requires.rested

pub returns-in-Ok-false-clause-done : goal.returns-in-Ok-false-clause-done
returns-in-Ok-false-clause-done g c = λ kj kp t is files.
    let known = g.P.Disk.is_known in
    let history = g.P.Disk.history in
    let n = c.args.number in
    let read = c.has_documents.new.seq in
    let journal = c.args.journal.now.history in
    let pages_is : file_of history read c.args.checkpoints.pages ≡ file_of history c.args.base c.args.checkpoints.pages
    = files_read known history g.P.Disk.faults c.args.base read n c.args.journal.now c.args.checkpoints c.has_documents.ensures.unchanged c.requires.rested kp in
    let now : Pair = pair_of c.generate_in.new.journal.history (file_of history c.generate_in.result.base c.generate_in.result.checkpoints.pages) in
    subst (λ (h : History). DoneOverFiles t n (gen c.args.seed c.args.count) c.args.checkpoints.every (pair_of journal h) now (λ text. text.items) c.generate_in.result.text) pages_is
    (c.generate_in.ensures.done kj kp t
    (subst (λ (m : Option Entries). StandsFor m t) (sym (contents_same known history g.P.Disk.faults c.args.base read n c.args.journal.now c.args.checkpoints c.has_documents.ensures.unchanged c.requires.rested)) is)
    (subst (λ (h : History). StandFor (start t n tx_limit) (pair_of journal h)) (sym pages_is) files)
    (sym (c.in-Ok-false.ensures.some t is) ∙ c.in-Ok-false.field-0-test))

pub returns-in-Ok-false-clause-pages : goal.returns-in-Ok-false-clause-pages
returns-in-Ok-false-clause-pages g c =
    pages_behind g.P.Disk.is_known g.P.Disk.history g.P.Disk.faults c.args.base c.has_documents.new.seq c.args.number c.args.journal.now c.args.checkpoints c.has_documents.ensures.unchanged c.requires.rested
    c.generate_in.result.base c.generate_in.result.checkpoints.pages c.generate_in.ensures.pages

pub returns-in-Ok-false-clause-counts : goal.returns-in-Ok-false-clause-counts
returns-in-Ok-false-clause-counts g c =
    subst (λ (k : Counts). DisksCountedWhere (c.generate_in.result.text ≡ Err DiskFault) k (record { journal = c.generate_in.new.journal.faults; pages = faults_of g.P.Disk.faults c.generate_in.result.base c.generate_in.result.checkpoints.pages }))
    (λ i. record {
      journal = c.args.journal.now.faults;
      pages = counts_unread g.P.Disk.is_known g.P.Disk.history g.P.Disk.faults c.args.base c.has_documents.new.seq c.args.number c.args.journal.now c.args.checkpoints c.has_documents.ensures.unchanged c.requires.rested
          (c.in-Ok-false.ensures.counts.cause.exact (λ it. cc)) i;
    }) c.generate_in.ensures.counts

pub returns-in-Ok-true-clause-done : goal.returns-in-Ok-true-clause-done
returns-in-Ok-true-clause-done g c = λ kj kp t is files.
    let history = g.P.Disk.history in
    let journal = c.args.journal.now.history in
    let old : Pair = pair_of journal (file_of history c.args.base c.args.checkpoints.pages) in
    subst (λ (h : History). WentOver (start t c.args.number tx_limit) (gen c.args.seed c.args.count) old (pair_of journal h) (DocumentRefused (reason.Call DocumentExists)))
    (sym (files_read g.P.Disk.is_known history g.P.Disk.faults c.args.base c.has_documents.new.seq c.args.number c.args.journal.now c.args.checkpoints c.has_documents.ensures.unchanged c.requires.rested kp))
    (documents_went (start t c.args.number tx_limit) c.args.seed c.args.count old files (sym (c.in-Ok-true.ensures.some t is) ∙ c.in-Ok-true.field-0-test))

pub returns-in-Ok-true-clause-pages : goal.returns-in-Ok-true-clause-pages
returns-in-Ok-true-clause-pages g c =
    pages_unread g.P.Disk.is_known g.P.Disk.history g.P.Disk.faults c.args.base c.has_documents.new.seq c.args.number c.args.journal.now c.args.checkpoints c.has_documents.ensures.unchanged c.requires.rested

pub returns-in-Ok-true-clause-counts : goal.returns-in-Ok-true-clause-counts
returns-in-Ok-true-clause-counts g c = record {
  counted = λ it. absurd cc;
  exact = λ never i. record {
    journal = c.args.journal.now.faults;
    pages = counts_unread g.P.Disk.is_known g.P.Disk.history g.P.Disk.faults c.args.base c.has_documents.new.seq c.args.number c.args.journal.now c.args.checkpoints c.has_documents.ensures.unchanged c.requires.rested
        (c.in-Ok-true.ensures.counts.cause.exact (λ it. cc)) i;
  };
}

-- the read failed

pub returns-in-Err-clause-done : goal.returns-in-Err-clause-done
returns-in-Err-clause-done g c = λ kj kp t is files.
    let history = g.P.Disk.history in
    let journal = c.args.journal.now.history in
    let old : Pair = pair_of journal (file_of history c.args.base c.args.checkpoints.pages) in
    subst (λ (x : History × Status). WentOver (start t c.args.number tx_limit) (gen c.args.seed c.args.count) old (pair_of journal x.0) x.1)
    (λ i. (sym (files_read g.P.Disk.is_known history g.P.Disk.faults c.args.base c.has_documents.new.seq c.args.number c.args.journal.now c.args.checkpoints c.has_documents.ensures.unchanged c.requires.rested kp) i, sym c.from.ensures i))
    (halted_went (start t c.args.number tx_limit) (gen c.args.seed c.args.count) old files c.in-Err.stop c.in-Err.ensures.unrefused)

pub returns-in-Err-clause-stops : goal.returns-in-Err-clause-stops
returns-in-Err-clause-stops g c = subst (IsStopIf (is_positive c.args.checkpoints.every && not g.P.Disk.is_known)) (sym c.from.ensures) (stop_is _ c.in-Err.stop)

pub returns-in-Err-clause-pages : goal.returns-in-Err-clause-pages
returns-in-Err-clause-pages g c =
    pages_unread g.P.Disk.is_known g.P.Disk.history g.P.Disk.faults c.args.base c.has_documents.new.seq c.args.number c.args.journal.now c.args.checkpoints c.has_documents.ensures.unchanged c.requires.rested

pub returns-in-Err-clause-counts : goal.returns-in-Err-clause-counts
returns-in-Err-clause-counts g c =
    counts_read g.P.Disk.is_known g.P.Disk.history g.P.Disk.faults c.args.base c.has_documents.new.seq c.args.number c.args.journal.now c.args.checkpoints c.has_documents.ensures.unchanged c.requires.rested
    c.from.result c.in-Err.stop c.from.ensures (ap Err) (λ it. cc) c.in-Err.ensures.counts

-- What a command that shows something of a document leaves, by what its parts leave.
use Rattle.std.proofs.Common.{List, ◌≡◌, ℕ, Bool, [], inr, refl, sym, ap, subst, add-zero, arith}
use Rattle.std.specs.Prelude.{Option, Result, Err, IfOk, IfErr, IsTrue, false}
use Rattle.outside_traits.specs.CrashImages.{IsImage}
use Rattle.outside_traits.specs.DiskPairs.{Pair, pair_of}
use Rattle.outside_traits.specs.Moments.{History}
use Rattle.outside_traits.proofs.Laws.{gave_none}
use Rattle.tree_model.specs.Entries.{Entries}
use Rattle.tree_model.specs.Tree.{Tree}
use Rattle.node_seq.specs.Trees.{StandsFor}
use Rattle.call_contract.specs.States.{start}
use Rattle.script_runs.specs.Counts.{Counts, CountedWhere, DisksCountedWhere}
use Rattle.command_words.specs.Commands.{Command}
use Rattle.xtc.specs.TopCall.{WroteWhole, tx_limit}
use Rattle.xtc.specs.declared.status.Status.{Status}
use Rattle.xtc.specs.declared.status.Status.TheVariants.{WriteFault, DiskFault}
use Rattle.xtc.specs.inside.Asking.{DocumentDone, IsStop, IsUnwritten, IsWriteEnd}
use Rattle.xtc.specs.Outside.{Input, Output}
use Rattle.xtc.specs.inside.CommandRuns.{RunsCommand}
use Rattle.xtc.specs.inside.Showing.{IsOfShown}
use Rattle.xtc.specs.inside.Stores.{Counts as PagesCounts}
use Rattle.xtc.proofs.CommandRunLaws.{document_runs, ends_by, ends_undamaged, not_lost, quiets, read_never, without_checkpoints}
use Rattle.xtc.proofs.DocumentLaws.{document_finished, document_written, input_done, stops_unwritten}
use Rattle.xtc.proofs.OpeningLaws.{opening_holds}

-- a fault of the pages alone was counted
pub pages_counted : {P : Type 0} (journal before now : ℕ) → PagesCounts P before now → DisksCountedWhere P (record { journal = journal; pages = before }) (record { journal = journal; pages = now })
pages_counted journal before now c = record {
  counted = λ is. record { one = inr (c.cause.counted is); journal = omega arith; pages = c.later };
  exact = λ no. ap (λ (n : ℕ). record { journal = journal; pages = n }) (c.cause.exact no);
}

-- the premises tell of the text that there was, of writing it, and of the disks
pub shown_runs : {T : Type 0} (known pages_known : Bool) (map : Option Entries) (number every : ℕ) (c : Command) (shown : IsOfShown c) (text : Result T Status) (bytes : T → List ℕ) (status : Status)
    (input : Input) (output output_now : Output) (journal pages mid : History) (faults faults_now : Counts) (now : Pair)
    → IfErr text IsStop
    → ((t : Tree) → StandsFor map t → DocumentDone known (start t number tx_limit) c [] journal mid bytes text)
    → IfOk text (λ x. IsWriteEnd status × WroteWhole status output.held output_now.held (bytes x))
    → IfErr text (λ why. (status ≡ why) × (output_now.held ≡ output.held))
    → now.journal ≡ mid → (IsTrue pages_known → now.pages ≡ pages)
    → (IsTrue known → IsImage now.journal.now now.journal.now.reads) × (IsTrue pages_known → IsImage now.pages.now now.pages.now.reads)
    → CountedWhere (status ≡ WriteFault) output.faults output_now.faults
    → DisksCountedWhere (text ≡ Err DiskFault) faults faults_now
    → RunsCommand known pages_known map number c every status input input output output_now
    (record { files = pair_of journal pages; faults = faults }) (record { files = now; faults = faults_now })
shown_runs known pages_known map number every c shown text bytes status input output output_now journal pages mid faults faults_now now stops done written none journal_is pages_is images write counted =
    let unwritten : IfErr text IsUnwritten = stops_unwritten text stops in
    let ends = ends_by text status (output_now.held ≡ output.held) (λ x. WroteWhole status output.held output_now.held (bytes x)) (quiets text unwritten) written none in
    document_runs known pages_known map number c every text status input input output output_now (record { files = pair_of journal pages; faults = faults }) (record { files = now; faults = faults_now })
    ends (λ place it. absurd (not_lost text unwritten place it)) (
      [],
      gave_none input.left,
      sym (add-zero input.given),
      λ kj kp t is files old.
          let s = start t number tx_limit in
          let all = input_done text known s c [] (Unit {0}) journal mid bytes (done t is) tt in
          let wrote = document_written known s c [] (Unit {0}) journal mid bytes output.held output_now.held text status all unwritten written none in
          without_checkpoints t number tx_limit c every status (pair_of journal pages) _ (shown.untried every)
          (shown.ran t number tx_limit status (pair_of journal pages) _
          (document_finished t number tx_limit is.valid known c _ (Unit {0}) journal pages mid status kj (opening_holds t number tx_limit journal pages files) files.pages
          wrote journal_is (pages_is kp) (images.0 kj) (images.1 kp) (λ no. refl) (λ reads w. let no : IsTrue false = subst IsTrue shown.unread reads in absurd cc)))
          (ends_undamaged c text status (output_now.held ≡ output.held) ends (not_lost text unwritten)) (pages_is kp),
    )
    (λ reads. let no : IsTrue false = subst IsTrue shown.unread reads in absurd cc)
    (omega arith)
    (read_never _ _ _ (λ it. subst (λ r. IfErr r IsStop) it stops))
    write
    counted

-- What running a command over a store that was opened leaves.
use Rattle.std.specs.Prelude.{◌≡◌, ◌≤◌, ℕ, ◌+◌, Bool, false, IsTrue, [], Option, Some, IfSome}
use Rattle.outside_kinds.specs.Bounds.{input_limit}
use Rattle.outside_traits.specs.CrashImages.{IsImage}
use Rattle.outside_traits.specs.DiskPairs.{Pair, pair_of}
use Rattle.outside_traits.specs.Moments.{IsAllSynced}
use Rattle.outside_traits.specs.declared.disk.Disk.{Ghosts as DiskOf}
use Rattle.tree_model.specs.Entries.{Entries}
use Rattle.tree_model.specs.Tree.{Tree}
use Rattle.node_seq.specs.Trees.{StandsFor}
use Rattle.store_contents.specs.StoredTrees.{StandFor}
use Rattle.script_runs.specs.Counts.{CountedWhere, DisksCountedWhere, ReadCountedWhere}
use Rattle.command_words.specs.Commands.{Command}
use Rattle.xtc.specs.Checkpoints.{AreMade, may_lose, tries}
use Rattle.xtc.specs.Commands.{reads_input}
use Rattle.xtc.specs.Outside.{Disks, ReadSome, Input, Output, Through, disks_left}
use Rattle.xtc.specs.StoreMachine.{pages_of, told}
use Rattle.xtc.specs.TopCall.{CommandRan, IsOfOpened, IsSilent, Outcome, book_of, outcome_of, tx_limit}
use Rattle.xtc.specs.declared.status.Status.{Status}
use Rattle.xtc.specs.declared.status.Status.TheVariants.{Done, ReadFault, WriteFault, DiskFault}
use Rattle.xtc.specs.declared.store.OpenStore.{OpenStore}
use Rattle.xtc.specs.declared.top_call.Finish.{Finish}

-- two files of which a crash leaves what a read gives stand for this tree and number
pub record StandSettled (files : Pair) (t : Tree) (number : ℕ) : Type 0 where
  pub journal : IsAllSynced files.journal
  pub pages : IsAllSynced files.pages
  pub stand : StandFor files.journal.now.reads files.pages.now.reads t number

-- a map is that of a tree
pub record HasTree (map : Option Entries) : Type 0 where
  pub tree : Tree
  pub stands : StandsFor map tree

-- a command that ran, with checkpoints behind each so many commits, over files that were opened: it doesn't end as damage, and of the pages is left what the checkpoints make of them
pub record RanWith (t : Tree) (n limit : ℕ) (c : Command) (every : ℕ) (status : Status) (opening : Pair) (o : Outcome) : Type 0 where
  pub ran : CommandRan t n limit (Some c) status opening o
  pub undamaged : IsOfOpened false status
  pub pages : tries (Some c) every ≡ false → o.new.pages ≡ opening.pages
  pub made : status ≡ Done → IsTrue (tries (Some c) every) → AreMade (Some c) every t n (book_of t n limit (Some c) status opening o ran) o.new.journal.now.reads o.new.pages.now.reads

-- the command ran, where both disks are known, and the files stand for the tree of the map that was told, and the number
abbrev pub RanOver : Bool → Bool → Option Entries → ℕ → Command → ℕ → Status → Input → Input → Output → Output → Pair → Pair → Type 0
RanOver journal_known pages_known map number c every status input input_now output output_now files files_now =
    ReadSome (record { before = input; now = input_now }) (λ read. IsTrue journal_known → IsTrue pages_known → (t : Tree) → StandsFor map t → StandSettled files t number → (old : Pair)
    → RanWith t number tx_limit c every status files (outcome_of (record { before = input; now = input_now }) (record { before = output; now = output_now }) old files_now read))

-- what it leaves, by its status
pub record RunsCommand (journal_known pages_known : Bool) (map : Option Entries) (number : ℕ) (c : Command) (every : ℕ) (status : Status)
    (input input_now : Input) (output output_now : Output) (disks disks_now : Disks) : Type 0 where
  pub ran : RanOver journal_known pages_known map number c every status input input_now output output_now disks.files disks_now.files
  pub whole : IsTrue (reads_input (Some c)) → status ≡ Done → IfSome input_now.left (λ rest. rest ≡ [])
  pub bound : input_now.given ≤ input.given + input_limit
  pub silent : IsSilent (Some c) (may_lose (Some c) every pages_known) status (output_now.held ≡ output.held)
  pub opened : IsOfOpened (may_lose (Some c) every pages_known) status
  pub read : ReadCountedWhere (status ≡ ReadFault) input_limit input.faults input_now.faults input.given input_now.given
  pub write : CountedWhere (status ≡ WriteFault) output.faults output_now.faults
  pub disk : DisksCountedWhere (status ≡ DiskFault) disks.faults disks_now.faults

-- ---- over a store that was opened

-- what the disks of a store tell that was opened
abbrev pub disks_opened : {J P : Type 0} → DiskOf P → OpenStore J P → Disks
disks_opened p store = record {
  files = pair_of store.journal.history (pages_of p.history store.base);
  faults = record { journal = store.journal.faults; pages = p.faults store.base.base.disk };
}

-- a command that was run over it, and whose run has ended so, leaves that of its source, its sink and its disks
abbrev pub RunsOver : {J P : Type 0} → DiskOf J → DiskOf P → OpenStore J P → Command → ℕ → Finish J P → Through Input → Through Output → Type 0
RunsOver j p store c every finish input output =
    RunsCommand j.is_known p.is_known (told p.is_known p.history store.base) store.number c every finish.status
    input.before input.now output.before output.now (disks_opened p store) (disks_left j p finish)

-- a command without checkpoints leaves that, whatever the words say of these
abbrev pub RunsWithout : {J P : Type 0} → DiskOf J → DiskOf P → OpenStore J P → Command → Finish J P → Through Input → Through Output → Type 0
RunsWithout j p store c finish input output = (every : ℕ) → RunsOver j p store c every finish input output

-- of each disk that is handed out and known, what a read gives is among what a crash may leave
abbrev pub ReadAsImages : {J P : Type 0} → DiskOf J → DiskOf P → Finish J P → Type 0
ReadAsImages j p finish = (IsTrue j.is_known → IsImage (j.history finish.journal).now (j.history finish.journal).now.reads)
    × (IsTrue p.is_known → IsImage (p.history finish.pages).now (p.history finish.pages).now.reads)

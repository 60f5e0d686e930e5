-- What is told of the outside of a run: of its source, its sink and the two disks of its store.
use Rattle.std.specs.Prelude.{◌≡◌, ℕ, ◌+◌, List, length, Option}
use Rattle.outside_kinds.specs.Bounds.{input_limit}
use Rattle.outside_traits.specs.Bytes.{Gave}
use Rattle.outside_traits.specs.DiskPairs.{Pair, pair_of}
use Rattle.outside_traits.specs.declared.disk.Disk.{Ghosts as DiskOf}
use Rattle.outside_traits.specs.declared.sink.Sink.{Ghosts as SinkOf}
use Rattle.outside_traits.specs.declared.source.Source.{Ghosts as SourceOf}
use Rattle.script_runs.specs.Counts.{Counts, ReadCountedWhere}
use Rattle.xtc.specs.declared.top_call.Finish.{Finish}

-- ---- at a moment

-- what is told of a source: what is left of it, how many bytes it gave and had given at the last read, and its faults
pub record Input : Type 0 where
  pub left : Option (List ℕ)
  pub given : ℕ
  pub asked : ℕ
  pub faults : ℕ

-- of a sink: what it holds, and its faults
pub record Output : Type 0 where
  pub held : Option (List ℕ)
  pub faults : ℕ

-- of the two disks: their files, and their faults
pub record Disks : Type 0 where
  pub files : Pair
  pub faults : Counts

-- what a source of this kind tells
abbrev pub input_of : {S : Type 0} → SourceOf S → S → Input
input_of s source = record { left = s.left source; given = s.given source; asked = s.asked source; faults = s.faults source }

-- what a sink of this kind tells
abbrev pub output_of : {K : Type 0} → SinkOf K → K → Output
output_of k sink = record { held = k.held sink; faults = k.faults sink }

-- what two disks of these kinds tell
abbrev pub disks_of : {J P : Type 0} → DiskOf J → DiskOf P → J → P → Disks
disks_of j p journal pages = record { files = pair_of (j.history journal) (p.history pages); faults = record { journal = j.faults journal; pages = p.faults pages } }

-- what the disks tell that a run hands out at its end
abbrev pub disks_left : {J P : Type 0} → DiskOf J → DiskOf P → Finish J P → Disks
disks_left j p finish = disks_of j p finish.journal finish.pages

-- ---- before and behind

-- what is told of something before it was used, and now
pub record Through (A : Type 0) : Type 0 where
  pub before : A
  pub now : A

-- of a source that was read, if at all
abbrev pub read_from : {S : Type 0} → SourceOf S → S → S → Through Input
read_from s source source_now = record { before = input_of s source; now = input_of s source_now }

-- of a source that wasn't read
abbrev pub unread : Input → Through Input
unread input = record { before = input; now = input }

-- of a sink that was written, if at all
abbrev pub written_to : {K : Type 0} → SinkOf K → K → K → Through Output
written_to k sink sink_now = record { before = output_of k sink; now = output_of k sink_now }

-- some bytes were read, and of these this holds
abbrev pub ReadSome : Through Input → (List ℕ → Type 0) → Type 0
ReadSome input Q = (read : List ℕ) × Gave input.before.left input.now.left read × (input.now.given ≡ input.before.given + length read) × Q read

-- a read failed where this is so, or as much was given as an input may have; and no fault was counted where it isn't
abbrev pub InputCountedWhere : Type 0 → Through Input → Type 0
InputCountedWhere this input = ReadCountedWhere this input_limit input.before.faults input.now.faults input.before.given input.now.given

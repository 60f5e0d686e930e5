-- What `stop_images` gives for a crash in a call (docs/PROFILE.md, "Kinds in memory").
use Rattle.std.specs.Prelude.{ℕ, Bool, true, false, List, [], ◌∷◌, ◌++◌, length, replicate, nat_lt, nat_eq, ◌&&◌, if◌then◌else◌}
use Rattle.outside_traits.specs.Disks.{put_at_or_past}
use Rattle.outside_traits.specs.Moments.{History}
use Rattle.outside_kinds.specs.MemoryDisks.{DiskInMemory, after_calls, start}
use Rattle.outside_kinds.specs.declared.noted_call.DiskCall.{DiskCall}
use Rattle.outside_kinds.specs.declared.noted_call.DiskCall.TheVariants.{Write, FailedWrite, Sync, FailedSync}
use Rattle.outside_kinds.specs.declared.noted_call.NotedCall.{NotedCall}

abbrev pub is_write : DiskCall → Bool
is_write (Write at bytes) = true
is_write (FailedWrite at bytes) = true
is_write Sync = false
is_write FailedSync = false

-- the calls before this one, and this one if it is a write; a sync has made sure of nothing yet
abbrev pub until : ℕ → List NotedCall → List NotedCall
until number [] = []
until number (noted ∷ more) = if nat_lt noted.number number then noted ∷ until number more else if nat_eq noted.number number && is_write noted.call then noted ∷ [] else []

-- the moment of a crash in this call
abbrev pub stopped_in : ℕ → DiskInMemory → History
stopped_in number d = after_calls (until number d.noted) (start d.first)

abbrev pub is_sync : DiskCall → Bool
is_sync (Write at bytes) = false
is_sync (FailedWrite at bytes) = false
is_sync Sync = true
is_sync FailedSync = false

-- the calls behind the last sync that was done among `more`; all of `so_far` where there is none
abbrev pub behind_sync : List NotedCall → List NotedCall → List NotedCall
behind_sync so_far [] = so_far
behind_sync so_far (noted ∷ more) = if is_sync noted.call then behind_sync more more else behind_sync so_far more

-- the calls that a crash in this call may tear: those behind the last sync before it
abbrev pub writes_open_in : ℕ → DiskInMemory → List NotedCall
writes_open_in number d = behind_sync (until number d.noted) (until number d.noted)

-- a call behind the last sync: what it wrote is not there, there as it was written, or zeros
abbrev pub torn_by : DiskCall → (List ℕ → List (List ℕ)) → List ℕ → List (List ℕ)
torn_by (Write at bytes) later file = later file ++ (later (put_at_or_past at bytes file) ++ later (put_at_or_past at (replicate (length bytes) 0) file))
torn_by (FailedWrite at bytes) later file = later file ++ (later (put_at_or_past at bytes file) ++ later (put_at_or_past at (replicate (length bytes) 0) file))
torn_by Sync later file = later file
torn_by FailedSync later file = later file

-- the file, torn in each of these ways by each of these calls
abbrev pub torn : List NotedCall → List ℕ → List (List ℕ)
torn [] file = file ∷ []
torn (noted ∷ more) file = torn_by noted.call (torn more) file

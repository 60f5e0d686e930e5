-- What a disk in memory is: its first bytes, and what its calls have done (docs/PROFILE.md, "Kinds in memory").
use Rattle.std.specs.Prelude.{ℕ, ◌+◌, max, Bool, if◌then◌else◌, List, [], ◌∷◌, ◌++◌, length}
use Rattle.outside_traits.specs.Disks.{DiskState, all_synced, put_at_or_past}
use Rattle.outside_traits.specs.Moments.{History}
use Rattle.outside_kinds.specs.CallCounts.{CallCount}
use Rattle.outside_kinds.specs.declared.noted_call.DiskCall.{DiskCall}
use Rattle.outside_kinds.specs.declared.noted_call.DiskCall.TheVariants.{Write, FailedWrite, Sync, FailedSync}
use Rattle.outside_kinds.specs.declared.noted_call.NotedCall.{NotedCall}

-- the bytes that it was made of, the writes and syncs since, its calls
pub record DiskInMemory : Type 0 where
  pub first : List ℕ
  pub noted : List NotedCall
  pub count : CallCount

-- a state with one range more written
abbrev pub range_opened : ℕ → ℕ → DiskState → DiskState
range_opened at n s = record { reads = s.reads; synced = s.synced; written = (at, n) ∷ s.written; longest = max s.longest (at + n) }

-- a state with these bytes written
abbrev pub wrote : ℕ → List ℕ → DiskState → DiskState
wrote at bytes s = record { reads = put_at_or_past at bytes s.reads; synced = s.synced; written = (at, length bytes) ∷ s.written; longest = max s.longest (at + length bytes) }

-- what a call makes of a state
abbrev pub state_after : DiskCall → DiskState → DiskState
state_after (Write at bytes) s = wrote at bytes s
state_after (FailedWrite at bytes) s = range_opened at (length bytes) s
state_after Sync s = all_synced s.reads
state_after FailedSync s = s

-- one call more
abbrev pub after_call : DiskCall → History → History
after_call call t = record { now = state_after call t.now; past = t.now ∷ t.past }

-- these calls, one after another
abbrev pub after_calls : List NotedCall → History → History
after_calls [] t = t
after_calls (noted ∷ more) t = after_calls more (after_call noted.call t)

-- a disk that was just made of these bytes
abbrev pub start : List ℕ → History
start bytes = record { now = all_synced bytes; past = [] }

-- the states of a disk in memory
abbrev pub history_of : DiskInMemory → History
history_of d = after_calls d.noted (start d.first)

-- the disk with this call noted, under the number of the last one
abbrev pub with_call : DiskCall → DiskInMemory → DiskInMemory
with_call call d = record { first = d.first; noted = d.noted ++ record { number = d.count.calls; call = call } ∷ []; count = d.count }

-- a call that leaves what a read gives
abbrev pub KeepsBytes : DiskCall → Type 0
KeepsBytes (Write at bytes) = ⊥
KeepsBytes (FailedWrite at bytes) = Unit {0}
KeepsBytes Sync = Unit {0}
KeepsBytes FailedSync = Unit {0}

-- the bytes now: those of the file, once it was copied, and before that the first ones
abbrev pub bytes_of : Bool → List ℕ → List ℕ → List ℕ
bytes_of is_copied file first = if is_copied then file else first

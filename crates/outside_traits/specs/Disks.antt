-- Where a disk is between two calls, and what each call does (docs/PROFILE.md, "Disks and crashes").
use Rattle.std.specs.Prelude.{◌≡◌, ℕ, ◌+◌, ◌-◌, max, List, [], ◌∷◌, ◌++◌, length, take, drop, replicate}

-- the bytes that a read gives, those at the last sync, the ranges written since (start and count), the greatest length since
pub record DiskState : Type 0 where
  pub reads : List ℕ
  pub synced : List ℕ
  pub written : List (ℕ × ℕ)
  pub longest : ℕ

-- all of these bytes are synced, and nothing was written since
abbrev pub all_synced : List ℕ → DiskState
all_synced bytes = record { reads = bytes; synced = bytes; written = []; longest = length bytes }

-- old bytes with these at this place, over what stood there and past the end
abbrev pub put_at : ℕ → List ℕ → List ℕ → List ℕ
put_at at bytes old = take at old ++ bytes ++ drop (at + length bytes) old

-- the same on a file that may end before that place: zeros stand up to there
abbrev pub put_at_or_past : ℕ → List ℕ → List ℕ → List ℕ
put_at_or_past at bytes file = put_at at bytes (file ++ replicate (at - length file) 0)

-- one range more is written since the last sync
pub record OpensRange (at n : ℕ) (s next : DiskState) : Type 0 where
  pub synced : next.synced ≡ s.synced
  pub written : next.written ≡ (at, n) ∷ s.written
  pub longest : next.longest ≡ max s.longest (at + n)

-- a write that was done
pub record Wrote (at : ℕ) (bytes : List ℕ) (s next : DiskState) : Type 0 where
  pub opens : OpensRange at (length bytes) s next
  pub reads : next.reads ≡ put_at at bytes s.reads

-- a sync that was done
abbrev pub Synced : DiskState → DiskState → Type 0
Synced s next = next ≡ all_synced s.reads

-- a sync that failed: what was open stays open
pub record Unsynced (s next : DiskState) : Type 0 where
  pub synced : next.synced ≡ s.synced
  pub written : next.written ≡ s.written
  pub longest : next.longest ≡ s.longest

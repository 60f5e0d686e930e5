-- What a crash may leave of a disk (docs/PROFILE.md, "Disks and crashes").
use Rattle.std.specs.Prelude.{◌≡◌, ◌<◌, ◌≤◌, ◌⊎◌, ℕ, ◌+◌, List, [], ◌∷◌, length, get_or}
use Rattle.outside_traits.specs.Bytes.{IsBytes}
use Rattle.outside_traits.specs.Disks.{DiskState}

-- none of these ranges has this place
abbrev pub Misses : List (ℕ × ℕ) → ℕ → Type 0
Misses [] i = Unit {0}
Misses (range ∷ ranges) i = ((i < range.0) ⊎ (range.0 + range.1 ≤ i)) × Misses ranges i

-- Of a file in this state a crash may leave this: any length from that at the last sync to the greatest since; what was synced, where nothing was written since.
pub record Remains (s : DiskState) (image : List ℕ) : Type 0 where
  pub no_shorter : length s.synced ≤ length image
  pub no_longer : length image ≤ s.longest
  pub kept : (i : ℕ) → i < length s.synced → Misses s.written i → get_or image i 0 ≡ get_or s.synced i 0

-- an image of a crash: what may remain, in bytes
pub record IsImage (s : DiskState) (image : List ℕ) : Type 0 where
  pub remains : Remains s image
  pub bytes : IsBytes image

-- where the file is an image of a crash, so is this one
abbrev pub KeepsImage : DiskState → List ℕ → List ℕ → Type 0
KeepsImage s file other = IsImage s file → IsImage s other

-- a crash may leave any bytes at each place of this range already
pub record IsOpen (s : DiskState) (at n : ℕ) : Type 0 where
  pub no_longer : at + n ≤ s.longest
  pub any : (i : ℕ) → at ≤ i → i < at + n → i < length s.synced → Misses s.written i → ⊥

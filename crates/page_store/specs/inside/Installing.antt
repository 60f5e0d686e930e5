-- Some of the images are written in place, and some are left.
use Rattle.std.specs.Prelude.{◌≡◌, ◌⊎◌, ℕ, ◌*◌, List, [], ◌∷◌, length}
use Rattle.std.specs.List.{AllByRecursion}
use Rattle.outside_traits.specs.Disks.{DiskState}
use Rattle.outside_traits.specs.Moments.{History}
use Rattle.page_store.specs.Images.{AreImages, LeavesOthers, written_over}

-- a range is that of one of the images
abbrev pub IsRangeOf : List (ℕ × List ℕ) → ℕ × ℕ → Type 0
IsRangeOf [] range = ⊥
IsRangeOf (image ∷ images) range = ((range.0 ≡ 8_192 * image.0) × (range.1 ≡ 8_192)) ⊎ IsRangeOf images range

-- a disk in whose file some of the images were written since its last sync
pub record IsWriting (images : List (ℕ × List ℕ)) (file : List ℕ) (s : DiskState) : Type 0 where
  pub synced : s.synced ≡ file
  pub ranges : AllByRecursion (IsRangeOf images) s.written

-- some images were written, and these are left
pub record IsInstalling (images left : List (ℕ × List ℕ)) (old new : History) : Type 0 where
  pub leaves : LeavesOthers images old new
  pub writing : IsWriting images old.now.reads new.now
  pub images_left : AreImages (length new.now.reads) left
  pub all : written_over left new.now.reads ≡ written_over images old.now.reads

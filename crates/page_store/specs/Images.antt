-- Images of pages that are put in a file, and what a crash leaves while they are written in place (docs/FILE_FORMAT.md, "Checkpoints").
use Rattle.std.specs.Prelude.{◌≡◌, ◌≢◌, ◌≤◌, ◌<◌, ◌⊎◌, ℕ, ◌+◌, ◌*◌, max, List, [], ◌∷◌, length}
use Rattle.std.specs.List.{AllByRecursion}
use Rattle.outside_traits.specs.Disks.{DiskState, put_at}
use Rattle.outside_traits.specs.Moments.{History, LeavesOnly}
use Rattle.page_store.specs.Pages.{page_of}

-- the file with these images written over it, one after another
abbrev pub written_over : List (ℕ × List ℕ) → List ℕ → List ℕ
written_over [] file = file
written_over (image ∷ images) file = written_over images (put_at (8_192 * image.0) image.1 file)

-- each is a whole page, and begins within the file as it is when those before it are written
abbrev pub AreImages : ℕ → List (ℕ × List ℕ) → Type 0
AreImages count [] = Unit {0}
AreImages count (image ∷ images) = (length image.1 ≡ 8_192) × (8_192 * image.0 ≤ count) × AreImages (max count (8_192 * image.0 + 8_192)) images

-- their numbers rise strictly
abbrev pub Rising : List (ℕ × List ℕ) → Type 0
Rising [] = Unit {0}
Rising (image ∷ images) = AllByRecursion (λ later. image.0 < later.0) images × Rising images

-- no image is one of this page
abbrev pub Lacks : ℕ → List (ℕ × List ℕ) → Type 0
Lacks n images = AllByRecursion (λ image. image.0 ≢ n) images

-- a file that is no shorter than another, and has each whole page of it of which there is no image
pub record KeepsOthers (images : List (ℕ × List ℕ)) (old new : List ℕ) : Type 0 where
  pub longer : length old ≤ length new
  pub pages : (n : ℕ) → Lacks n images → 8_192 * n + 8_192 ≤ length old → page_of n new ≡ page_of n old

-- after each call a crash leaves a file that differs from the one before in the pages of these images at most
abbrev pub LeavesOthers : List (ℕ × List ℕ) → History → History → Type 0
LeavesOthers images old new = LeavesOnly (KeepsOthers images old.now.reads) old new

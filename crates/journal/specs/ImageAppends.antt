-- What an append of images leaves of a journal (docs/FILE_FORMAT.md, "Appending").
use Rattle.std.specs.Prelude.{◌≡◌, ℕ, ◌+◌, true, false, List, length, Some, Ok}
use Rattle.outside_traits.specs.CrashImages.{IsImage}
use Rattle.outside_traits.specs.Moments.{History, IsAllSynced, LeavesOnly}
use Rattle.journal.specs.Appends.{IsOneOf, groups_in}
use Rattle.journal.specs.Groups.{images, with_images}
use Rattle.journal.specs.Journals.{read}
use Rattle.journal.specs.Steps.{Does, images_steps}
use Rattle.journal.specs.Views.{JournalView}

-- after each call a crash leaves the groups from before it, with the images or without them
abbrev pub LeavesWithOrWithoutImages : ℕ → List ℕ → History → History → Type 0
LeavesWithOrWithoutImages number body old new = LeavesOnly (IsOneOf (groups_in old) (with_images (groups_in old) (images number body))) old new

-- images were added at the closed gate
pub record AddsImages (gate number : ℕ) (body : List ℕ) (old new : History) : Type 0 where
  -- the bytes are read as the same commits and these images, and so is each crash image: all is synced
  pub groups : read new.now.reads ≡ Ok (with_images (groups_in old) (images number body))
  pub synced : IsAllSynced new
  pub durable : (image : List ℕ) → IsImage new.now image → read image ≡ Ok (with_images (groups_in old) (images number body))
  -- by these four calls with their bytes, and no other
  pub steps : Does (images_steps gate number body) old new

-- the journal holds the images until it is reset
pub record HoldsImages (number : ℕ) (body : List ℕ) (old new : JournalView) : Type 0 where
  pub usable : new.failed ≡ false
  pub has_images : new.has_images ≡ true
  pub last : new.last ≡ Some number
  pub gate : new.gate ≡ old.gate + 10 + length body

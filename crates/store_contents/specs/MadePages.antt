-- Images that were made the pages of their numbers (docs/FILE_FORMAT.md, "Checkpoints").
use Rattle.std.specs.Prelude.{◌<◌, ℕ, List}
use Rattle.std.specs.List.{AllByRecursion}
use Rattle.page_store.specs.Pages.{IsPageOf}

-- each image of a page below the count is this page of the file: pages past the count aren't read
abbrev pub AreMade : ℕ → List ℕ → List (ℕ × List ℕ) → Type 0
AreMade count file images = AllByRecursion (λ image. image.0 < count → IsPageOf file image) images

-- Images that were gathered from pages in their order.
use Rattle.std.specs.Prelude.{◌≡◌, ◌≤◌, ◌<◌, ℕ, List, length}
use Rattle.std.specs.List.{AllByRecursion}
use Rattle.page_store.specs.Images.{Rising}

-- each is a whole page
abbrev pub AreWhole : List (List ℕ) → Type 0
AreWhole pages = AllByRecursion (λ page. length page ≡ 8_192) pages

-- whole pages with rising numbers below this one, and no more of them
pub record AreGathered (count : ℕ) (images : List (ℕ × List ℕ)) : Type 0 where
  pub below : AllByRecursion (λ image. image.0 < count) images
  pub whole : AllByRecursion (λ image. length image.1 ≡ 8_192) images
  pub rising : Rising images
  pub few : length images ≤ count

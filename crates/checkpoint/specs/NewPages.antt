-- The pages that a checkpoint writes (docs/FILE_FORMAT.md, "Checkpoints").
use Rattle.std.specs.Prelude.{ℕ, ◌+◌, Bool, nat_eq, if◌then◌else◌, List, [], ◌∷◌}
use Rattle.std.specs.Cmp.Lexicographic.{pointwise}
use Rattle.page_store.specs.Pages.{page_of}

-- the file has these bytes as its page with this number
abbrev pub has_page : ℕ → List ℕ → List ℕ → Bool
has_page n page file = pointwise nat_eq page (page_of n file)

-- a page as an image, but where the file has it
abbrev pub image_unless : Bool → ℕ → List ℕ → List (ℕ × List ℕ)
image_unless has n page = if has then [] else (n, page) ∷ []

-- the images of those of these pages that the file hasn't; the first of them has this number
abbrev pub new_pages : ℕ → List (List ℕ) → List ℕ → List (ℕ × List ℕ)
new_pages n [] file = []
new_pages n (page ∷ pages) file = if has_page n page file then new_pages (n + 1) pages file else (n, page) ∷ new_pages (n + 1) pages file

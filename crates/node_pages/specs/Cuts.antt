-- A map cut into pages (docs/FILE_FORMAT.md, "The page file").
use Rattle.std.specs.Prelude.{ℕ, nat_le, if◌then◌else◌, List, ◌∷◌, ◌++◌, length, map}
use Rattle.tree_model.specs.Entries.{Entries}
use Rattle.node_records.specs.declared.entries.Entry.{Entry}
use Rattle.node_pages.specs.Chunks.{all_chunks}
use Rattle.node_pages.specs.EntryForm.{entry_behind}
use Rattle.node_pages.specs.Filling.{filled, page_bytes}
use Rattle.node_pages.specs.PageStarts.{start_behind, starts_from}
use Rattle.node_pages.specs.PageZero.{Header, count_of, page_zero}
use Rattle.node_pages.specs.declared.page_start.PageStart.{PageStart}
use Rattle.node_pages.specs.declared.cut.Cut.{Cut}
use Rattle.node_pages.specs.declared.cut.Cut.TheVariants.{Pages, TooMany}

-- the most pages of a checkpoint
abbrev pub most_pages : ℕ
most_pages = 32_768

-- the entries of a map, page by page
abbrev pub data_of : Entries → List (List Entry)
data_of es = filled entry_behind (all_chunks es)

-- where the data pages begin, page by page of the directory
abbrev pub directory_of : List (List Entry) → List (List PageStart)
directory_of pages = filled start_behind (starts_from 1 pages)

-- the counts of these pages
abbrev pub header_for : ℕ → List (List Entry) → Header
header_for number pages = record { base = number; data_pages = length pages; directory_pages = length (directory_of pages) }

-- the bytes of these data pages and their directory, page 0 first
abbrev pub file_of : ℕ → List (List Entry) → List (List ℕ)
file_of number pages = page_zero (header_for number pages) ∷ (map (page_bytes entry_behind) pages ++ map (page_bytes start_behind) (directory_of pages))

-- these pages, or how many they would be
abbrev pub cut_of : ℕ → List (List Entry) → Cut
cut_of number pages =
    if nat_le (count_of (header_for number pages)) most_pages then Pages (file_of number pages)
    else TooMany (count_of (header_for number pages))

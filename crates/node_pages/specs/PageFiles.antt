-- What the bytes of a page file stand for (docs/FILE_FORMAT.md, "The page file").
use Rattle.std.specs.Prelude.{◌≡◌, ◌<◌, ℕ, ◌+◌, ◌*◌, List, length, [], ◌∷◌, Option, Some, None, Result, Ok, Err}
use Rattle.page_store.specs.Pages.{page_of}
use Rattle.tree_model.specs.Entries.{Entries}
use Rattle.node_records.specs.declared.entries.Entry.{Entry}
use Rattle.node_pages.specs.Chunks.{records_in}
use Rattle.node_pages.specs.Following.{Runs}
use Rattle.node_pages.specs.PageStarts.{starts_from}
use Rattle.node_pages.specs.PageZero.{Header, header_in}
use Rattle.node_pages.specs.PagesIn.{starts_in, data_pages_from, entries_from, pages_in}
use Rattle.node_pages.specs.Scanning.{and_then}
use Rattle.node_pages.specs.declared.page_start.PageStart.{PageStart}

-- the pages of a file by their numbers
abbrev pub file_page : List ℕ → ℕ → List ℕ
file_page file n = page_of n file

-- the map of a file and its base, or the first page that breaks a rule; a file without a byte is the empty map
abbrev pub contents_of_file : List ℕ → Result (Entries × ℕ) ℕ
contents_of_file [] = Ok ([], 0)
contents_of_file (b ∷ bs) = pages_in (file_page (b ∷ bs))

-- where a page begins in its file
abbrev pub place_of_page : ℕ → ℕ
place_of_page n = 8_192 * n

-- ---- where its data pages begin

-- the base of a file, and what each of its data pages begins with
pub record Index : Type 0 where
  pub base : ℕ
  pub starts : List PageStart

-- that of a file with this header, or the first page behind page 0 that breaks a rule
abbrev pub index_with : List ℕ → Header → Result Index ℕ
index_with file h = and_then (starts_in (file_page file) h) (λ starts. Ok (record { base = h.base; starts = starts }))

abbrev pub index_behind : List ℕ → Option Header → Result Index ℕ
index_behind file None = Err 0
index_behind file (Some h) = index_with file h

abbrev pub index_of_file : List ℕ → Result Index ℕ
index_of_file [] = Ok (record { base = 0; starts = [] })
index_of_file (b ∷ bs) = index_behind (b ∷ bs) (header_in (file_page (b ∷ bs) 0))

-- the map and the base of a file with this index
abbrev pub contents_with : List ℕ → Index → Entries × ℕ
contents_with file i = (records_in (entries_from (file_page file) 1 (length i.starts)), i.base)

-- ---- what is known of pages of which the data pages begin so

-- each page has an entry
abbrev pub EachHas : List (List Entry) → Type 0
EachHas [] = Unit {0}
EachHas ([] ∷ ps) = ⊥
EachHas ((e ∷ es) ∷ ps) = EachHas ps

-- these are the starts of the data pages, each of which is whole and has an entry; the entries follow one another as their rules want it
pub record IsIndex (page : ℕ → List ℕ) (index : List PageStart) : Type 0 where
  pub starts : index ≡ starts_from 1 (data_pages_from page 1 (length index))
  pub each : EachHas (data_pages_from page 1 (length index))
  pub whole : (n : ℕ) → n < length index → length (page (1 + n)) ≡ 8_192
  pub runs : Runs None None (entries_from page 1 (length index))

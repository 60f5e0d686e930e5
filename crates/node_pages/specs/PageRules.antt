-- The rules of the pages of a file, each asked of one page (docs/FILE_FORMAT.md, "Damage of pages").
use Rattle.std.specs.Prelude.{◌≡◌, ◌≤◌, ◌<◌, ℕ, zero, suc, ◌+◌, ◌-◌, ◌==◌, Bool, true, false, ◌&&◌, if◌then◌else◌, List, [], ◌∷◌, ◌++◌, length, drop, Option, Some, None, is_some}
use Rattle.std.specs.Ordering.{is_lt, is_eq}
use Rattle.tree_model.specs.Keys.{key_cmp}
use Rattle.node_records.specs.Entries.{entry_bytes}
use Rattle.node_records.specs.Records.{record_of}
use Rattle.node_records.specs.declared.entries.Entry.{Entry}
use Rattle.node_pages.specs.DirectoryPages.{directory_pages}
use Rattle.node_pages.specs.EntryForm.{entry_behind, entry_read}
use Rattle.node_pages.specs.Filling.{last_behind, written}
use Rattle.node_pages.specs.PageStarts.{starts_from}
use Rattle.node_pages.specs.PageZero.{Header, count_of, header_in}
use Rattle.node_pages.specs.PagesIn.{items_or_none, data_pages_from}
use Rattle.node_pages.specs.Reading.{page_in}
use Rattle.node_pages.specs.Scanning.{has_room}

-- ---- the rules of entries

-- an entry goes on with the one before it: the next chunk of its record, or behind the last chunk the first one of a record with a key above
abbrev pub follows : Entry → Entry → Bool
follows x e = if x.last then is_lt (key_cmp x.key e.key) && (e.chunk == 0) else is_eq (key_cmp x.key e.key) && (e.chunk == x.chunk + 1)

-- the same, and the first entry of all is the first chunk of a record
abbrev pub follows_on : Option Entry → Entry → Bool
follows_on None e = e.chunk == 0
follows_on (Some x) e = follows x e

-- each of these entries goes on with the one before it
abbrev pub AllFollow : Option Entry → List Entry → Type 0
AllFollow before [] = Unit {0}
AllFollow before (e ∷ es) = (follows_on before e ≡ true) × AllFollow (Some e) es

-- these bytes are a record's
abbrev pub IsRecord : List ℕ → Type 0
IsRecord bytes = is_some (record_of bytes) ≡ true

-- a record with these bytes so far, this chunk the last of them: as long as the entries behind it go on with it, it comes to a last chunk and is a record; `at_end` says that the data pages end behind these entries
abbrev pub EndsWell : Bool → List ℕ → Entry → List Entry → Type 0
EndsWell at_end bytes x [] = at_end ≡ false
EndsWell at_end bytes x (e ∷ es) = follows x e ≡ true → (e.last ≡ true → IsRecord (bytes ++ e.bytes)) × (e.last ≡ false → EndsWell at_end (bytes ++ e.bytes) e es)

-- the same of a record of which this chunk may be the last
abbrev pub IsWell : Bool → List ℕ → Entry → List Entry → Type 0
IsWell at_end bytes e es = (e.last ≡ true → IsRecord bytes) × (e.last ≡ false → EndsWell at_end bytes e es)

-- each record that begins among these entries of a page, with those behind the page
abbrev pub RecordsAreWell : Bool → List Entry → List Entry → Type 0
RecordsAreWell at_end behind [] = Unit {0}
RecordsAreWell at_end behind (e ∷ es) = (e.chunk ≡ 0 → IsWell at_end e.bytes e (es ++ behind)) × RecordsAreWell at_end behind es

-- ---- data pages

-- a page has entries
abbrev pub has_entries : Option (List Entry) → Bool
has_entries None = false
has_entries (Some []) = false
has_entries (Some (e ∷ es)) = true

-- the entries of a page before these ones; none where the page has none, so nothing is asked of what stands behind it
abbrev pub put_before : Option (List Entry) → List Entry → List Entry
put_before None behind = []
put_before (Some []) behind = []
put_before (Some (e ∷ es)) behind = (e ∷ es) ++ behind

-- so many bytes of a page leave no room for the first entry of the next one
abbrev pub LeavesNoRoom : Option ℕ → Option (List Entry) → Type 0
LeavesNoRoom used None = Unit {0}
LeavesNoRoom used (Some []) = Unit {0}
LeavesNoRoom used (Some (e ∷ es)) = has_room used (length (entry_bytes e)) ≡ false

-- `page n` are the bytes of the page with this number
module _ (page : ℕ → List ℕ) where
  -- whether each of so many pages from this one on has entries
  abbrev pub all_have_entries : ℕ → ℕ → Bool
  all_have_entries n zero = true
  all_have_entries n (suc left) = has_entries (page_in entry_read (page n)) && all_have_entries (n + 1) left

  -- the entries of so many pages from this one on, up to the first page that has none
  abbrev pub entries_up_to : ℕ → ℕ → List Entry
  entries_up_to n zero = []
  entries_up_to n (suc left) = put_before (page_in entry_read (page n)) (entries_up_to (n + 1) left)

  -- the entry before a data page: the last one of the page before it
  abbrev pub entry_before : ℕ → Option Entry
  entry_before zero = None
  entry_before (suc zero) = None
  entry_before (suc (suc n)) = last_behind None (items_or_none (page_in entry_read (page (suc n))))

-- the n-th page keeps the rules of the data pages, of which there are so many: it has entries and no room for the next page's first; they go on with each other and with the one before; and each record that begins on it is one
pub record KeepsDataRules (page : ℕ → List ℕ) (count n : ℕ) : Type 0 where
  pub first : Entry
  pub others : List Entry
  pub entries : page_in entry_read (page n) ≡ Some (first ∷ others)
  pub no_room : n < count → LeavesNoRoom (Some (length (written entry_behind None (first ∷ others)))) (page_in entry_read (page (n + 1)))
  pub follow : AllFollow (entry_before page n) (first ∷ others)
  pub records : RecordsAreWell (all_have_entries page (n + 1) (count - n)) (entries_up_to page (n + 1) (count - n)) (first ∷ others)

-- so do all data pages
abbrev pub DataPagesKeepRules : (ℕ → List ℕ) → ℕ → Type 0
DataPagesKeepRules page count = (n : ℕ) → 1 ≤ n → n ≤ count → KeepsDataRules page count n

-- ---- directory pages

-- the directory that so many data pages give
abbrev pub directory_for : (ℕ → List ℕ) → ℕ → List (List ℕ)
directory_for page count = directory_pages (starts_from 1 (data_pages_from page 1 count))

-- the n-th page is the one that the data pages give there; if it is the last one, they give no more
pub record KeepsDirectoryRules (page : ℕ → List ℕ) (h : Header) (n : ℕ) : Type 0 where
  pub behind : List (List ℕ)
  pub given : drop (n - (1 + h.data_pages)) (directory_for page h.data_pages) ≡ page n ∷ behind
  pub enough : n + 1 ≡ count_of h → behind ≡ []

-- ---- all pages

-- the n-th page keeps the rules of its kind, in a file whose page 0 says what this header has; the directory's are asked where all data pages keep theirs
pub record KeepsRules (page : ℕ → List ℕ) (n : ℕ) : Type 0 where
  pub header : Header
  pub said : header_in (page 0) ≡ Some header
  pub data_page : 1 ≤ n → n ≤ header.data_pages → KeepsDataRules page header.data_pages n
  pub directory_page : DataPagesKeepRules page header.data_pages → header.data_pages < n → n < count_of header → KeepsDirectoryRules page header n
  pub has_directory : DataPagesKeepRules page header.data_pages → n ≡ 0 → header.directory_pages ≡ 0 → directory_for page header.data_pages ≡ []

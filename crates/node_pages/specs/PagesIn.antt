-- What the pages of a file stand for, or the first of them that breaks a rule (docs/FILE_FORMAT.md, "Damage of pages").
use Rattle.std.specs.Prelude.{ℕ, zero, suc, ◌+◌, List, [], ◌∷◌, Option, Some, None, Result, Ok, Err}
use Rattle.tree_model.specs.Entries.{Entries}
use Rattle.node_records.specs.declared.entries.Entry.{Entry}
use Rattle.node_pages.specs.Chunks.{records_in}
use Rattle.node_pages.specs.DirectoryPages.{Compared, at_end, after_directory_page, at_directory_end}
use Rattle.node_pages.specs.EntryForm.{entry_read}
use Rattle.node_pages.specs.Filling.{joined}
use Rattle.node_pages.specs.PageZero.{Header, header_in}
use Rattle.node_pages.specs.Reading.{page_in}
use Rattle.node_pages.specs.Scanning.{Scanned, no_pages, after_page, and_then}
use Rattle.node_pages.specs.declared.page_start.PageStart.{PageStart}

-- the items of a page, none where it couldn't be read
abbrev pub items_or_none : {A : Type 0} → Option (List A) → List A
items_or_none None = []
items_or_none (Some xs) = xs

-- `after s bytes` is what is known after one page more, or the page that breaks a rule; `page n` are the bytes of the page with this number
module _ {S : Type 0} (after : S → List ℕ → Result S ℕ) (page : ℕ → List ℕ) where
  -- what is known after so many pages more, from page n on
  abbrev pub after_pages : ℕ → ℕ → S → Result S ℕ
  after_pages n zero s = Ok s
  after_pages n (suc left) s = and_then (after s (page n)) (λ t. after_pages (n + 1) left t)

-- `page n` are the bytes of the page with this number: fewer than 8,192 where the file ends before it does
module _ (page : ℕ → List ℕ) where
  -- so many data pages more, from page n on
  abbrev pub scanned : ℕ → ℕ → Scanned → Result Scanned ℕ
  scanned n left s = after_pages after_page page n left s

  -- so many directory pages more, from page n on
  abbrev pub compared : ℕ → ℕ → Compared → Result Compared ℕ
  compared n left c = after_pages after_directory_page page n left c

  -- where the data pages of a file with this header begin, or the first page behind page 0 that breaks a rule
  abbrev pub starts_in : Header → Result (List PageStart) ℕ
  starts_in h =
      and_then (scanned 1 h.data_pages no_pages) (λ s. and_then (at_end s) (λ c. and_then (compared (1 + h.data_pages) h.directory_pages c) (λ d. at_directory_end d)))

  -- the entries of so many pages from this one on, page by page
  abbrev pub data_pages_from : ℕ → ℕ → List (List Entry)
  data_pages_from n zero = []
  data_pages_from n (suc left) = items_or_none (page_in entry_read (page n)) ∷ data_pages_from (n + 1) left

  -- the entries of so many pages from this one on
  abbrev pub entries_from : ℕ → ℕ → List Entry
  entries_from n left = joined (data_pages_from n left)

  -- the records of a file with this header, and its base, where its pages keep the rules
  abbrev pub read_with : Header → Result (Entries × ℕ) ℕ
  read_with h = and_then (starts_in h) (λ starts. Ok (records_in (entries_from 1 h.data_pages), h.base))

  -- the same of a file whose page 0 may break a rule, too
  abbrev pub read_behind : Option Header → Result (Entries × ℕ) ℕ
  read_behind None = Err 0
  read_behind (Some h) = read_with h

  abbrev pub pages_in : Result (Entries × ℕ) ℕ
  pages_in = read_behind (header_in (page 0))

-- What a directory has of each data page (docs/FILE_FORMAT.md, "The directory").
use Rattle.std.specs.Prelude.{ℕ, ◌+◌, List, [], ◌∷◌, ◌++◌, Option}
use Rattle.byteorder.specs.Endian.{big_bytes}
use Rattle.node_records.specs.Keys.{key_bytes}
use Rattle.node_records.specs.declared.entries.Entry.{Entry}
use Rattle.node_pages.specs.declared.page_start.PageStart.{PageStart}

-- the page with this number begins with this entry
abbrev pub start_of : ℕ → Entry → PageStart
start_of page e = record { key = e.key; chunk = e.chunk; page = page }

-- its key, that entry's chunk number, and the page number
abbrev pub start_bytes : PageStart → List ℕ
start_bytes s = key_bytes s.key ++ (big_bytes 2 s.chunk ++ big_bytes 4 s.page)

-- how a start stands on a page, whatever stands before it there
abbrev pub start_behind : Option PageStart → PageStart → List ℕ
start_behind before s = start_bytes s

-- the starts of pages with these entries, the first with this number
abbrev pub starts_from : ℕ → List (List Entry) → List PageStart
starts_from n [] = []
starts_from n ([] ∷ pages) = starts_from (n + 1) pages
starts_from n ((e ∷ es) ∷ pages) = start_of n e ∷ starts_from (n + 1) pages

-- The directory pages of a file beside those that its data pages give (docs/FILE_FORMAT.md, "The directory").
use Rattle.std.specs.Prelude.{ℕ, ◌+◌, nat_eq, if◌then◌else◌, List, [], ◌∷◌, map, Option, Some, None, Result, Ok, Err}
use Rattle.std.specs.Cmp.Lexicographic.{pointwise}
use Rattle.node_pages.specs.Filling.{filled, page_bytes}
use Rattle.node_pages.specs.PageStarts.{start_behind}
use Rattle.node_pages.specs.Scanning.{Scanned, unless, fault_at_end}
use Rattle.node_pages.specs.declared.page_start.PageStart.{PageStart}

-- the pages of a directory with these starts
abbrev pub directory_pages : List PageStart → List (List ℕ)
directory_pages starts = map (page_bytes start_behind) (filled start_behind starts)

-- the starts, the pages that a directory with them still has, the number of the next page, and that of the directory page before it, 0 where there is none
pub record Compared : Type 0 where
  pub starts : List PageStart
  pub wanted : List (List ℕ)
  pub next : ℕ
  pub before : ℕ

-- none of the pages was compared yet, and this is the first one's number
abbrev pub none_compared : ℕ → List PageStart → Compared
none_compared n starts = record { starts = starts; wanted = directory_pages starts; next = n; before = 0 }

-- no data page is left, and the directory is next
abbrev pub at_end : Scanned → Result Compared ℕ
at_end s = unless (fault_at_end s.part s.roomy) (none_compared s.next s.starts)

-- a page with these bytes is the one that is wanted; where none is, it breaks a rule
abbrev pub compared_with : Compared → List (List ℕ) → List ℕ → Result Compared ℕ
compared_with c [] bytes = Err c.next
compared_with c (want ∷ wanted) bytes = if pointwise nat_eq bytes want then Ok (record c { wanted = wanted; next = c.next + 1; before = c.next }) else Err c.next

-- one directory page more, which has these bytes
abbrev pub after_directory_page : Compared → List ℕ → Result Compared ℕ
after_directory_page c bytes = compared_with c c.wanted bytes

-- the last directory page breaks a rule, or page 0 where there is none, if more are wanted
abbrev pub fault_of_few : List (List ℕ) → ℕ → Option ℕ
fault_of_few [] n = None
fault_of_few (want ∷ wanted) n = Some n

-- no page is left
abbrev pub at_directory_end : Compared → Result (List PageStart) ℕ
at_directory_end c = unless (fault_of_few c.wanted c.before) c.starts

-- The first page of a file of pages (docs/FILE_FORMAT.md, "Page 0").
use Rattle.std.specs.Prelude.{ℕ, ◌+◌, ◌==◌, Bool, ◌&&◌, if◌then◌else◌, List, [], ◌∷◌, ◌++◌, length, take, drop, replicate, nat_eq, Option, Some, None}
use Rattle.std.specs.Cmp.Lexicographic.{pointwise}
use Rattle.byteorder.specs.Endian.{big_bytes, big_number}
use Rattle.node_pages.specs.Reading.{are_zeros}

-- XTCPAGE1
abbrev pub page_magic : List ℕ
page_magic = 0x58 ∷ 0x54 ∷ 0x43 ∷ 0x50 ∷ 0x41 ∷ 0x47 ∷ 0x45 ∷ 0x31 ∷ []

-- the number of the last commit in the pages, and how many data pages and directory pages there are
pub record Header : Type 0 where
  pub base : ℕ
  pub data_pages : ℕ
  pub directory_pages : ℕ

-- how many pages there are, page 0 too
abbrev pub count_of : Header → ℕ
count_of h = 1 + h.data_pages + h.directory_pages

-- the first page of a file
abbrev pub page_zero : Header → List ℕ
page_zero h = page_magic ++ (big_bytes 4 h.base ++ (big_bytes 4 (count_of h) ++ (big_bytes 4 h.data_pages ++ (big_bytes 4 h.directory_pages ++ replicate 8_168 0))))

-- what stands behind the magic
abbrev pub header_of : List ℕ → Header
header_of page = record { base = big_number 4 (drop 8 page); data_pages = big_number 4 (drop 16 page); directory_pages = big_number 4 (drop 20 page) }

-- whether these bytes are a first page: the magic, the sum of the counts, and zeros
abbrev pub is_page_zero : List ℕ → Bool
is_page_zero page =
    (length page == 8_192) && (pointwise nat_eq (take 8 page) page_magic && ((big_number 4 (drop 12 page) == count_of (header_of page)) && are_zeros (drop 24 page)))

-- the header of a first page; None where it breaks a rule
abbrev pub header_in : List ℕ → Option Header
header_in page = if is_page_zero page then Some (header_of page) else None

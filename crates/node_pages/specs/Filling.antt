-- How items fill pages: each page has as many as fit, and their count before them (docs/FILE_FORMAT.md, "Filling").
use Rattle.std.specs.Prelude.{◌≡◌, ℕ, ◌+◌, ◌-◌, ◌^◌, ◌<◌, ◌≤◌, Bool, false, nat_le, nat_lt, if◌then◌else◌, List, [], ◌∷◌, ◌++◌, length, replicate, Option, Some, None}
use Rattle.byteorder.specs.Endian.{big_bytes}

-- how many bytes of items a page takes, behind the two of its count
abbrev pub room : ℕ
room = 8_190

-- so many items with these bytes, and zeros up to the end of the page
unfoldable pub page_with : ℕ → List ℕ → List ℕ
page_with count bytes = big_bytes 2 count ++ (bytes ++ replicate (8_190 - length bytes) 0)

-- one more item before those of the first page
abbrev pub on_first : {A : Type 0} → A → List (List A) → List (List A)
on_first x [] = (x ∷ []) ∷ []
on_first x (page ∷ pages) = (x ∷ page) ∷ pages

-- the last of these items, or the one before them
abbrev pub last_behind : {A : Type 0} → Option A → List A → Option A
last_behind before [] = before
last_behind before (x ∷ xs) = last_behind (Some x) xs

-- pages that are filled one after another: how many are full, these where they are few enough to be kept, and of the one that is open the count of its items, their bytes and the last item
pub record Fill (A : Type 0) : Type 0 where
  pub most : ℕ
  pub pages : ℕ
  pub full : List (List ℕ)
  pub count : ℕ
  pub bytes : List ℕ
  pub last : Option A

-- no page yet, where so many full ones may be kept
abbrev pub no_items : {A : Type 0} → ℕ → Fill A
no_items most = record { most = most; pages = 0; full = []; count = 0; bytes = []; last = None }

-- the open page has room for its items, each of which has some byte; a number of four bytes counts the pages
pub record IsSized {A : Type 0} (f : Fill A) : Type 0 where
  pub count : f.count ≤ length f.bytes
  pub within : length f.bytes ≤ 8_190
  pub few : f.pages + 1 < 2 ^ 32

-- the open page is full too
abbrev pub closed : {A : Type 0} → Fill A → List (List ℕ)
closed f = f.full ++ (page_with f.count f.bytes) ∷ []

-- the same where that many are kept
abbrev pub kept : {A : Type 0} → Fill A → List (List ℕ)
kept f = if nat_lt f.pages f.most then closed f else []

-- the open page is full, and a new one has no item yet; the item that was put last stays known
abbrev pub emptied : {A : Type 0} → Fill A → Fill A
emptied f = record f { pages = f.pages + 1; full = kept f; count = 0; bytes = [] }

-- all pages, the open one too if there is one
abbrev pub all_pages : {A : Type 0} → Fill A → List (List ℕ)
all_pages f = if nat_lt 0 f.count then closed f else f.full

-- how many these are
abbrev pub page_count : {A : Type 0} → Fill A → ℕ
page_count f = if nat_lt 0 f.count then f.pages + 1 else f.pages

-- `write before x` are the bytes of an item behind another one on its page, or as the page's first
module _ {A : Type 0} (write : Option A → A → List ℕ) where
  -- the bytes of items that follow one another on a page
  abbrev pub written : Option A → List A → List ℕ
  written before [] = []
  written before (x ∷ xs) = write before x ++ written (Some x) xs

  -- one more item fits behind so many bytes
  abbrev pub fits : ℕ → Option A → A → Bool
  fits used before x = nat_le (used + length (write before x)) room

  -- items page by page, the first going on the page with so many bytes: each goes to the next page exactly where it doesn't fit
  abbrev pub filled_behind : ℕ → Option A → List A → List (List A)
  filled_behind used before [] = [] ∷ []
  filled_behind used before (x ∷ xs) =
      if fits used before x then on_first x (filled_behind (used + length (write before x)) (Some x) xs)
      else [] ∷ on_first x (filled_behind (length (write None x)) (Some x) xs)

  -- the same from a new page on; no page where there is no item
  abbrev pub filled : List A → List (List A)
  filled [] = []
  filled (x ∷ xs) = on_first x (filled_behind (length (write None x)) (Some x) xs)

  -- the bytes of a page with these items
  abbrev pub page_bytes : List A → List ℕ
  page_bytes xs = page_with (length xs) (written None xs)

  -- one item more: on the open page where it fits, else on a new one
  abbrev pub with_item : Fill A → A → Fill A
  with_item f x =
      if fits (length f.bytes) f.last x
      then record f { count = f.count + 1; bytes = f.bytes ++ write f.last x; last = Some x }
      else record { most = f.most; pages = f.pages + 1; full = kept f; count = 1; bytes = write None x; last = Some x }

  abbrev pub with_items : Fill A → List A → Fill A
  with_items f [] = f
  with_items f (x ∷ xs) = with_items (with_item f x) xs

  -- ---- pages that are filled so

  -- the next page's first item wouldn't have fitted behind so many bytes
  abbrev pub NextIsTooLong : ℕ → Option A → List (List A) → Type 0
  NextIsTooLong used before [] = Unit {0}
  NextIsTooLong used before ([] ∷ pages) = Unit {0}
  NextIsTooLong used before ((y ∷ ys) ∷ pages) = fits used before y ≡ false

  -- each page has an item and room for all of its items, and none for the next page's first
  abbrev pub AreFilled : List (List A) → Type 0
  AreFilled [] = Unit {0}
  AreFilled ([] ∷ pages) = ⊥
  AreFilled ((x ∷ xs) ∷ pages) = (length (written None (x ∷ xs)) ≤ room) × NextIsTooLong (length (written None (x ∷ xs))) (last_behind (Some x) xs) pages × AreFilled pages

-- the items of all pages
abbrev pub joined : {A : Type 0} → List (List A) → List A
joined [] = []
joined (page ∷ pages) = page ++ joined pages

-- The pages of a file up to the first that isn't whole (docs/FILE_FORMAT.md, "With pages").
use Rattle.std.specs.Prelude.{ℕ, zero, suc, ◌+◌, ◌==◌, if◌then◌else◌, List, [], ◌++◌, length}

-- `page n` are the bytes of the page with this number
module _ (page : ℕ → List ℕ) where
  -- so many pages from this one on, one behind the other, up to the first that isn't whole
  abbrev pub front : ℕ → ℕ → List ℕ
  front n zero = []
  front n (suc left) = if length (page n) == 8_192 then page n ++ front (n + 1) left else []

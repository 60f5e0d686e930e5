-- Reading the start of some bytes: a value and how many bytes it takes, or none (docs/FILE_FORMAT.md, "Reading and writing").
use Rattle.std.specs.Prelude.{◌≡◌, ℕ, List, ◌++◌, length, drop, nat_lt, if◌then◌else◌, Option, Some, None, option_and_then}
use Rattle.std.specs.Str.{is_utf8}
use Rattle.byteorder.specs.Endian.{big_number}

-- what is read behind a first read, if that gave something: std's word, written in the order of reading
infixl 10 ◌>>=◌
abbrev pub ◌>>=◌ : {A B : Type 0} → Option A → (A → Option B) → Option B
r >>= f = option_and_then f r

-- the number in the first n bytes, the highest byte first
abbrev pub number_in : ℕ → List ℕ → Option ℕ
number_in n bytes = if nat_lt (length bytes) n then None else Some (big_number n bytes)

-- the text that all of the bytes are
abbrev pub text_of : List ℕ → Option (List ℕ)
text_of bytes = if is_utf8 bytes then Some bytes else None

-- this text stands at the start, and takes n bytes
pub record Takes (text : List ℕ) (n : ℕ) (bytes : List ℕ) : Type 0 where
  pub parts : bytes ≡ text ++ drop n bytes
  pub count : n ≡ length text

-- The kind of a word, as `clap` sees it.
use Rattle.std.proofs.Common.{◌≡◌, ℕ, Bool, true, false, refl, sym, ap, arith, List, [], ◌∷◌, Some, None, ◌==◌, length}
use Rattle.std.specs.Prelude.{slice_get, encode_utf8_all}
use Rattle.std.specs.Str.{bytes_eq, chars, IsUtf8}
use Rattle.std.specs.Cmp.{unsigned_Decides}
use Rattle.std.proofs.lemmas.Str.{IsUtf8-drop, IsCharBoundary-after_ascii, chars_from_encodes}
use Rattle.clap.specs.Lexer.{long_of, short_of}
use Rattle.command_words.specs.Arguments.{Word, Kind, ends, sets, dashed, plain, kind_of}

-- the bytes of `--`
abbrev pub two_dashes : Word
two_dashes = 45 ∷ 45 ∷ []

-- a word with at least one byte and one character behind a dash
pub record IsShort (w : Word) : Type 0 where
  pub byte : ℕ
  pub bytes : Word
  pub short : short_of w ≡ Some (byte ∷ bytes)
  pub first : ℕ
  pub char : slice_get (chars (byte ∷ bytes)) 0 ≡ Some first

-- what the three tests say of a word of this kind
abbrev pub Looks : Word → Kind → Type 0
Looks w ends = bytes_eq w two_dashes ≡ true
Looks w (sets name text) = (bytes_eq w two_dashes ≡ false) × (long_of w ≡ Some (name, text))
Looks w dashed = (bytes_eq w two_dashes ≡ false) × (long_of w ≡ None) × IsShort w
Looks w plain = (bytes_eq w two_dashes ≡ false) × (long_of w ≡ None) × (short_of w ≡ None)

-- bytes that spell something have a first character
first_char : (b : ℕ) (rest : Word) → IsUtf8 (b ∷ rest) → (x : ℕ) × (slice_get (chars (b ∷ rest)) 0 ≡ Some x)
first_char b rest u = go u.0 u.1.1 (chars_from_encodes u.0 (b ∷ rest) u u.1.1)
  where
    go : (cs : List ℕ) → encode_utf8_all cs ≡ b ∷ rest → cs ≡ chars (b ∷ rest) → (x : ℕ) × (slice_get (chars (b ∷ rest)) 0 ≡ Some x)
    go [] e same = let bad : 0 ≡ length (b ∷ rest) = ap length e in absurd (omega arith)
    go (x ∷ xs) e same = (x, sym (ap (λ ys. slice_get ys 0) same))

short_word : (a b : ℕ) (rest : Word) → (a == 45) ≡ true → (b == 45) ≡ false → IsUtf8 (a ∷ b ∷ rest) → IsShort (a ∷ b ∷ rest)
short_word a b rest ea eb u =
    let is : a ≡ 45 = (unsigned_Decides a 45).0 ea in
    let behind = IsUtf8-drop (a ∷ b ∷ rest) 1 u (IsCharBoundary-after_ascii (a ∷ b ∷ rest) 0 u (omega arith) (omega arith)) in
    let first = first_char b rest behind in
    record { byte = b; bytes = rest; short = rw (ea, eb) refl; first = first.0; char = first.1 }

pub looks : (w : Word) → IsUtf8 w → Looks w (kind_of w)
looks [] u = (refl, refl, refl)
looks (a ∷ []) u = go (a == 45) refl
  where
    go : (b : Bool) → (a == 45) ≡ b → Looks (a ∷ []) (kind_of (a ∷ []))
    go true e = rw e (rw e refl, rw e refl, rw e refl)
    go false e = rw e (rw e refl, rw e refl, rw e refl)
looks (a ∷ b ∷ []) u = go (a == 45) (b == 45) refl refl
  where
    go : (p q : Bool) → (a == 45) ≡ p → (b == 45) ≡ q → Looks (a ∷ b ∷ []) (kind_of (a ∷ b ∷ []))
    go true true ea eb = rw (ea, eb) (rw (ea, eb) refl)
    go true false ea eb = rw (ea, eb) (rw (ea, eb) refl, rw (ea, eb) refl, short_word a b [] ea eb u)
    go false q ea eb = rw ea (rw ea refl, rw ea refl, rw ea refl)
looks (a ∷ b ∷ x ∷ rest) u = go (a == 45) (b == 45) refl refl
  where
    go : (p q : Bool) → (a == 45) ≡ p → (b == 45) ≡ q → Looks (a ∷ b ∷ x ∷ rest) (kind_of (a ∷ b ∷ x ∷ rest))
    go true true ea eb = rw (ea, eb) (rw (ea, eb) refl, rw (ea, eb) refl)
    go true false ea eb = rw (ea, eb) (rw (ea, eb) refl, rw (ea, eb) refl, short_word a b (x ∷ rest) ea eb u)
    go false q ea eb = rw ea (rw ea refl, rw ea refl, rw ea refl)

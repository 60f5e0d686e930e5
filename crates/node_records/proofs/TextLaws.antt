-- Which bytes are a text.
use Rattle.std.proofs.Common.{◌≡◌, ℕ, true, false, List, Some, None, refl, ap}
use Rattle.std.proofs.lemmas.Str.{IsUtf8-from_is_utf8, is_utf8-from_IsUtf8}
use Rattle.std.specs.Prelude.{if◌then◌else◌}
use Rattle.std.specs.Str.{IsUtf8, is_utf8}
use Rattle.node_records.specs.Reads.{text_of}

pub text_is : (bytes : List ℕ) → IsUtf8 bytes → text_of bytes ≡ Some bytes
text_is bytes h = ap (λ b. if b then Some bytes else None) (is_utf8-from_IsUtf8 bytes h)

pub text_is_not : (bytes : List ℕ) → (IsUtf8 bytes → ⊥) → text_of bytes ≡ None
text_is_not bytes h =
    elim (is_utf8 bytes) as (λ b. is_utf8 bytes ≡ b → (if b then Some bytes else None) ≡ None) [
      | true ↦ λ q. absurd (h (IsUtf8-from_is_utf8 bytes q))
      | false ↦ λ _. refl
    ] refl

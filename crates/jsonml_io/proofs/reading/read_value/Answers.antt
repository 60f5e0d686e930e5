use Rattle.std.proofs.Common.{◌≡◌, List, ℕ, Bool, true, false, cond, sym, ap, ◌∙◌, refl}
use Rattle.std.specs.Prelude.{Option, None, IsUtf8}
use Rattle.std.specs.Str.{is_utf8}
use Rattle.std.proofs.lemmas.Str.{IsUtf8-from_is_utf8, is_utf8-from_IsUtf8}
use Rattle.serde_json.specs.Data.{Data}
use Rattle.serde_json.specs.Read.{read}
use Rattle.jsonml_io.specs.JsonMl.{value_of}
use Rattle.jsonml_io.proofs.reading.read_value.Goals as goal

no_text : (bytes : List ℕ) → (IsUtf8 bytes → ⊥) → None ≡ value_of bytes
no_text bytes h =
    let P : Bool → Type 0 = λ v. None ≡ cond v (read bytes) None in
    let Q : (b : Bool) → (b ≡ true → ⊥) → P b = elim [ true ↦ λ k. absurd (k refl) | false ↦ λ k. refl ] in
    Q (is_utf8 bytes) (λ e. h (IsUtf8-from_is_utf8 bytes e))

a_text : (bytes : List ℕ) (o : Option Data) → IsUtf8 bytes → read bytes ≡ o → o ≡ value_of bytes
a_text bytes o h e = sym e ∙ ap (λ v. cond v (read bytes) None) (sym (is_utf8-from_IsUtf8 bytes h))

pub returns-in_default : goal.returns-in_default
returns-in_default c = no_text c.args.bytes.now c.in_default.ensures.cases.0

pub returns-in-Ok-from_str : goal.returns-in-Ok-from_str
returns-in-Ok-from_str c =
    let text = c.in-Ok.ensures.cases in
    a_text c.args.bytes.now _ text.1 (ap read (sym text.0) ∙ c.in-Ok-from_str.ensures.ok)

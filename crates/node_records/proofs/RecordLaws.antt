-- The bytes of a record: what is written is read again, what is read was written so.
use Rattle.std.proofs.Common.{◌≡◌, ℕ, ◌==◌, true, false, eqb, List, [], ◌∷◌, Option, Some, None, refl, sym, ap, subst, ◌∙◌}
use Rattle.std.proofs.lemmas.Bool.{eqb-true}
use Rattle.std.proofs.lemmas.Option.{none-some, same_Some, cond_some}
use Rattle.std.specs.Prelude.{if◌then◌else◌}
use Rattle.std.specs.Str.{is_utf8}
use Rattle.tree_model.specs.declared.record.Record.{Record}
use Rattle.tree_model.specs.declared.record.Record.TheVariants.{Document, Element, Text, Attr}
use Rattle.node_records.specs.Reads.{◌>>=◌, text_of}
use Rattle.node_records.specs.Records.{record_bytes, document_of, record_of}
use Rattle.tree_model.specs.Records.{HasText}
use Rattle.node_records.proofs.ReadLaws.{bind_some}

pub record_again : (r : Record) → HasText r → record_of (record_bytes r) ≡ Some r
record_again Document h = refl
record_again (Element t) h = ap (λ b. (if b then Some t else None) >>= λ x. Some (Element x)) h
record_again (Text t) h = ap (λ b. (if b then Some t else None) >>= λ x. Some (Text x)) h
record_again (Attr t) h = ap (λ b. (if b then Some t else None) >>= λ x. Some (Attr x)) h

-- a record that was read from these bytes
abbrev pub IsRecordOf : Record → List ℕ → Type 0
IsRecordOf r bytes = (bytes ≡ record_bytes r) × HasText r

text_written : (kind : ℕ) (make : List ℕ → Record) (bytes : List ℕ) (r : Record) → ((t : List ℕ) → is_utf8 t ≡ true → IsRecordOf (make t) (kind ∷ t)) → (text_of bytes >>= λ t. Some (make t)) ≡ Some r → IsRecordOf r (kind ∷ bytes)
text_written kind make bytes r is e =
    let p = bind_some (text_of bytes) (λ t. Some (make t)) r e in
    let g = cond_some (is_utf8 bytes) bytes p.0 p.1 in
    subst (λ (x : Record). IsRecordOf x (kind ∷ bytes)) (ap make g.1 ∙ same_Some (make p.0) r p.2) (is bytes g.0)

document_written : (bytes : List ℕ) (r : Record) → document_of bytes ≡ Some r → IsRecordOf r (1 ∷ bytes)
document_written [] r e = subst (λ (x : Record). IsRecordOf x (1 ∷ [])) (same_Some Document r e) (refl, tt)
document_written (b ∷ bs) r e = absurd (none-some r e)

-- one of two ways, by the kind
by_kind : (kind k : ℕ) (bytes : List ℕ) (r : Record) (this other : Option Record) → (this ≡ Some r → IsRecordOf r (k ∷ bytes)) → (other ≡ Some r → IsRecordOf r (kind ∷ bytes)) → (if kind == k then this else other) ≡ Some r → IsRecordOf r (kind ∷ bytes)
by_kind kind k bytes r this other f g e =
    elim (eqb kind k) as (λ t. eqb kind k ≡ t → (if t then this else other) ≡ Some r → IsRecordOf r (kind ∷ bytes)) [
      | true ↦ λ q h. subst (λ (x : ℕ). IsRecordOf r (x ∷ bytes)) (sym (eqb-true kind k q)) (f h)
      | false ↦ λ _ h. g h
    ] refl e

pub record_written : (bytes : List ℕ) (r : Record) → record_of bytes ≡ Some r → IsRecordOf r bytes
record_written [] r e = absurd (none-some r e)
record_written (kind ∷ bytes) r e =
    let attr = text_of bytes >>= λ t. Some (Attr t) in
    let text = text_of bytes >>= λ t. Some (Text t) in
    let element = text_of bytes >>= λ t. Some (Element t) in
    let last : Option Record = if kind == 4 then attr else None in
    let third : Option Record = if kind == 3 then text else last in
    let second : Option Record = if kind == 2 then element else third in
    by_kind kind 1 bytes r (document_of bytes) second (document_written bytes r)
    (by_kind kind 2 bytes r element third (text_written 2 (λ t. Element t) bytes r (λ t u. (refl, u)))
    (by_kind kind 3 bytes r text last (text_written 3 (λ t. Text t) bytes r (λ t u. (refl, u)))
    (by_kind kind 4 bytes r attr None (text_written 4 (λ t. Attr t) bytes r (λ t u. (refl, u))) (λ h. absurd (none-some r h))))) e

-- A record that a valid tree may have is cuttable.
use Rattle.std.proofs.Common.{◌≡◌, ◌≤◌, ℕ, ◌+◌, ◌*◌, ◌-◌, true, false, ◌&&◌, nat_le, ltb, List, [], ◌∷◌, ◌++◌, length, ap, arith, length-append}
use Rattle.std.proofs.Common.{⊎_elim}
use Rattle.std.proofs.lemmas.Bool.{leb-true}
use Rattle.std.specs.List.{flat_map}
use Rattle.std.specs.Prelude.{if◌then◌else◌}
use Rattle.std.specs.Str.{chars, is_utf8}
use Rattle.byteorder.specs.Endian.{big_bytes}
use Rattle.tree_model.specs.declared.key.Key.{Key}
use Rattle.tree_model.specs.declared.record.Record.{Record}
use Rattle.tree_model.specs.declared.record.Record.TheVariants.{Document, Element, Text, Attr}
use Rattle.tree_model.specs.Keys.{IsKeyName, IsValidKey}
use Rattle.tree_model.specs.Limits.{most_name_bytes, most_text_bytes}
use Rattle.tree_model.specs.Names.{Name, is_name, are_name_chars}
use Rattle.tree_model.specs.Records.{HasText, record_fits, is_data}
use Rattle.node_records.specs.Divisions.{division_bytes}
use Rattle.node_records.specs.Keys.{key_bytes}
use Rattle.node_records.specs.Labels.{label_bytes}
use Rattle.node_records.specs.Records.{record_bytes}
use Rattle.node_records.proofs.KeyLaws.{valid_writable}
use Rattle.node_records.proofs.ReadLaws.{both}
use Rattle.node_pages.specs.CutReads.{IsCuttable}

-- ---- how long a key is

division_short : (d : ℕ) → length (division_bytes d) ≤ 5
division_short d = elim (ltb d 128) as (λ t. length (if t then d ∷ [] else if ltb d 16_512 then big_bytes 2 (0x8000 + (d - 128)) else if ltb d 2_113_664 then big_bytes 3 (0xC0_0000 + (d - 16_512)) else 0xE0 ∷ big_bytes 4 d) ≤ 5) [
  | true ↦ omega arith
  | false ↦ elim (ltb d 16_512) as (λ t. length (if t then big_bytes 2 (0x8000 + (d - 128)) else if ltb d 2_113_664 then big_bytes 3 (0xC0_0000 + (d - 16_512)) else 0xE0 ∷ big_bytes 4 d) ≤ 5) [
    | true ↦ omega arith
    | false ↦ elim (ltb d 2_113_664) as (λ t. length (if t then big_bytes 3 (0xC0_0000 + (d - 16_512)) else 0xE0 ∷ big_bytes 4 d) ≤ 5) [
      | true ↦ omega arith
      | false ↦ omega arith
    ]
  ]
]

divisions_short : (l : List ℕ) → length (flat_map division_bytes l) ≤ 5 * length l
divisions_short [] = omega arith
divisions_short (d ∷ ds) = let one = division_short d in let ih = divisions_short ds in omega (arith, one, ih, length-append (division_bytes d) (flat_map division_bytes ds))

name_parts : (n : Name) → is_name n ≡ true → (length n ≤ 1_024) × (is_utf8 n ≡ true)
unfolding is_name
name_parts n h =
    let p = both (nat_le (length n) most_name_bytes) (is_utf8 n && are_name_chars (chars n)) h in (
      leb-true (length n) most_name_bytes p.0,
      (both (is_utf8 n) (are_name_chars (chars n)) p.1).0,
    )

key_name_short : (n : Name) → IsKeyName n → length n ≤ 1_024
key_name_short n named = ⊎_elim (λ empty. let none : length n ≡ 0 = ap (λ (x : Name). length x) empty in omega (arith, none)) (λ name. (name_parts n name).0) named

key_short : (k : Key) → IsValidKey k → length (key_bytes k) ≤ 2_301
key_short k valid =
    let divisions = divisions_short k.label in
    let name = key_name_short k.name valid.name in
    let few = valid.label.1.0 in
    omega (arith, divisions, name, few, length-append (flat_map division_bytes k.label) (0 ∷ []), length-append (label_bytes k.label) (k.name ++ 0 ∷ []), length-append k.name (0 ∷ []))

-- ---- its record

data_parts : (d : List ℕ) → is_data d ≡ true → (length d ≤ 1_048_576) × (is_utf8 d ≡ true)
data_parts d h = let p = both (nat_le (length d) most_text_bytes) (is_utf8 d) h in (leb-true (length d) most_text_bytes p.0, p.1)

record_parts : (r : Record) → record_fits r ≡ true → (length (record_bytes r) ≤ 67_108_864) × HasText r
record_parts Document h = (omega arith, tt)
record_parts (Element n) h = let p = name_parts n h in let short = p.0 in (omega (arith, short), p.1)
record_parts (Text d) h = let p = data_parts d h in let short = p.0 in (omega (arith, short), p.1)
record_parts (Attr v) h = let p = data_parts v h in let short = p.0 in (omega (arith, short), p.1)

pub cuttable : (k : Key) (r : Record) → IsValidKey k → record_fits r ≡ true → IsCuttable (k, r)
cuttable k r valid fits =
    let short = key_short k valid in
    let p = record_parts r fits in
    record { key = valid_writable k valid; short = omega (arith, short); text = p.1; chunks = p.0 }

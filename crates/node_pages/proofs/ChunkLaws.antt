-- The chunks of records, and how long entries and starts are.
use Rattle.std.proofs.Common.{◌≡◌, ◌≤◌, ◌<◌, ℕ, zero, suc, ◌+◌, ◌*◌, ◌-◌, Bool, true, false, ◌&&◌, nat_le, ltb, cond, List, [], ◌∷◌, ◌++◌, length, take, drop, refl, sym, ap, subst, ◌∙◌, arith, length-append, length-take, length-drop}
use Rattle.std.proofs.Common.{⊎_elim}
use Rattle.std.proofs.lemmas.Bool.{le-leb, lt-leb, leb-true}
use Rattle.std.specs.List.{AllByRecursion, flat_map}
use Rattle.std.specs.Prelude.{if◌then◌else◌}
use Rattle.byteorder.specs.Endian.{big_bytes}
use Rattle.tree_model.specs.declared.key.Key.{Key}
use Rattle.tree_model.specs.declared.record.Record.{Record}
use Rattle.tree_model.specs.declared.record.Record.TheVariants.{Document, Element, Text, Attr}
use Rattle.tree_model.specs.Entries.{Entries}
use Rattle.tree_model.specs.Keys.{IsKeyName, IsValidKey}
use Rattle.tree_model.specs.Limits.{most_name_bytes, most_text_bytes}
use Rattle.tree_model.specs.Names.{Name, is_name, are_name_chars}
use Rattle.tree_model.specs.Records.{record_fits, is_data}
use Rattle.std.specs.Str.{chars, is_utf8}
use Rattle.tree_model.proofs.Lists.{all_append, all_behind}
use Rattle.node_records.specs.Divisions.{division_bytes}
use Rattle.node_records.specs.Keys.{key_bytes}
use Rattle.node_records.specs.Labels.{label_bytes}
use Rattle.node_records.specs.Records.{record_bytes}
use Rattle.node_records.specs.Entries.{entry_at, chunk_head, entry_bytes}
use Rattle.node_records.specs.declared.entries.Entry.{Entry}
use Rattle.node_records.proofs.ReadLaws.{both}
use Rattle.node_pages.specs.Chunks.{chunks_from, chunks_of, all_chunks}
use Rattle.node_pages.specs.Cutting.{IsShort, IsStored}
use Rattle.node_pages.specs.PageStarts.{start_of, start_bytes, starts_from}
use Rattle.node_pages.specs.Filling.{room, joined}

-- ---- one chunk more

pub last_chunk : (n : ℕ) (k : Key) (c : ℕ) (bytes : List ℕ) → length bytes ≤ 1_024 → chunks_from n k c bytes ≡ entry_at k c true bytes ∷ []
last_chunk zero k c bytes few = refl
last_chunk (suc n) k c bytes few = ap (λ b. cond b (entry_at k c true bytes ∷ []) (entry_at k c false (take 1_024 bytes) ∷ chunks_from n k (c + 1) (drop 1_024 bytes))) (le-leb (length bytes) 1_024 few)

pub next_chunk : (n m : ℕ) (k : Key) (c : ℕ) (bytes : List ℕ) → m ≡ suc n → 1_024 < length bytes
    → chunks_from m k c bytes ≡ entry_at k c false (take 1_024 bytes) ∷ chunks_from n k (c + 1) (drop 1_024 bytes)
next_chunk n m k c bytes more many =
    ap (λ j. chunks_from j k c bytes) more
    ∙ ap (λ b. cond b (entry_at k c true bytes ∷ []) (entry_at k c false (take 1_024 bytes) ∷ chunks_from n k (c + 1) (drop 1_024 bytes))) (lt-leb (length bytes) 1_024 many)

-- ---- how long a key is

division_short : (d : ℕ) → length (division_bytes d) ≤ 5
division_short d = elim (ltb d 128) as (λ t. length (if t then d ∷ [] else if ltb d 16_512 then big_bytes 2 (0x8000 + (d - 128)) else if ltb d 2_113_664 then big_bytes 3 (0xC0_0000 + (d - 16_512)) else 0xE0 ∷ big_bytes 4 d) ≤ 5) [
  | true ↦ omega arith
  | false ↦ elim (ltb d 16_512) as (λ t. length (if t then big_bytes 2 (0x8000 + (d - 128)) else if ltb d 2_113_664 then big_bytes 3 (0xC0_0000 + (d - 16_512)) else 0xE0 ∷ big_bytes 4 d) ≤ 5) [
    | true ↦ omega arith
    | false ↦ elim (ltb d 2_113_664) as (λ t. length (if t then big_bytes 3 (0xC0_0000 + (d - 16_512)) else 0xE0 ∷ big_bytes 4 d) ≤ 5) [
      | true ↦ omega arith
      | false ↦ omega arith
    ]
  ]
]

divisions_short : (l : List ℕ) → length (flat_map division_bytes l) ≤ 5 * length l
divisions_short [] = omega arith
divisions_short (d ∷ ds) = let one = division_short d in let ih = divisions_short ds in omega (arith, one, ih, length-append (division_bytes d) (flat_map division_bytes ds))

name_short : (n : Name) → is_name n ≡ true → length n ≤ 1_024
unfolding is_name
name_short n h = leb-true (length n) most_name_bytes (both (nat_le (length n) most_name_bytes) (is_utf8 n && are_name_chars (chars n)) h).0

key_name_short : (n : Name) → IsKeyName n → length n ≤ 1_024
key_name_short n named = ⊎_elim (λ empty. let none : length n ≡ 0 = ap (λ (x : Name). length x) empty in omega (arith, none)) (λ name. name_short n name) named

pub key_short : (k : Key) → IsValidKey k → length (key_bytes k) ≤ 2_301
key_short k valid =
    let divisions = divisions_short k.label in
    let name = key_name_short k.name valid.name in
    let few = valid.label.1.0 in
    omega (arith, divisions, name, few, length-append (flat_map division_bytes k.label) (0 ∷ []), length-append (label_bytes k.label) (k.name ++ 0 ∷ []), length-append k.name (0 ∷ []))

-- ---- how long a record is

data_short : (d : List ℕ) → is_data d ≡ true → length d ≤ 1_048_576
data_short d h = leb-true (length d) most_text_bytes (both (nat_le (length d) most_text_bytes) (is_utf8 d) h).0

pub record_short : (r : Record) → record_fits r ≡ true → length (record_bytes r) ≤ 1_048_577
record_short Document h = omega arith
record_short (Element n) h = let s = name_short n h in omega (arith, s)
record_short (Text d) h = let s = data_short d h in omega (arith, s)
record_short (Attr v) h = let s = data_short v h in omega (arith, s)

-- ---- entries and starts fit on a page

pub entry_short : (e : Entry) → IsShort e → length (entry_bytes e) ≤ room
entry_short e short = let key = short.key in let bytes = short.bytes in omega (arith, key, bytes, length-append (key_bytes e.key) (chunk_head e ++ e.bytes), length-append (chunk_head e) e.bytes)

pub start_short : (n : ℕ) (e : Entry) → IsShort e → length (start_bytes (start_of n e)) ≤ room
start_short n e short = let key = short.key in omega (arith, key, length-append (key_bytes e.key) (big_bytes 2 e.chunk ++ big_bytes 4 n))

pub chunks_short : (n : ℕ) (k : Key) (c : ℕ) (bytes : List ℕ) → length (key_bytes k) ≤ 2_301 → length bytes ≤ n → AllByRecursion IsShort (chunks_from n k c bytes)
chunks_short zero k c bytes key few = (record { key = key; bytes = omega (arith, few) }, tt)
chunks_short (suc n) k c bytes key few = elim (nat_le (length bytes) 1_024) as (λ b. nat_le (length bytes) 1_024 ≡ b
    → AllByRecursion IsShort (cond b (entry_at k c true bytes ∷ []) (entry_at k c false (take 1_024 bytes) ∷ chunks_from n k (c + 1) (drop 1_024 bytes)))) [
      | true ↦ λ h. (record { key = key; bytes = leb-true (length bytes) 1_024 h }, tt)
      | false ↦ λ h. let taken = length-take 1_024 bytes in let left = length-drop 1_024 bytes in
          (record { key = key; bytes = omega (arith, taken) }, chunks_short n k (c + 1) (drop 1_024 bytes) key (omega (arith, left, few)))
    ] refl

pub all_short : (es : Entries) → AllByRecursion IsStored es → AllByRecursion IsShort (all_chunks es)
all_short [] stored = tt
all_short (e ∷ es) stored = all_append IsShort (chunks_of e) (all_chunks es)
    (chunks_short (length (record_bytes e.1)) e.0 0 (record_bytes e.1) (key_short e.0 stored.0.1.0) (omega arith)) (all_short es stored.1)

pub entries_short : (es : List Entry) → AllByRecursion IsShort es → AllByRecursion (λ e. length (entry_bytes e) ≤ room) es
entries_short [] short = tt
entries_short (e ∷ es) short = (entry_short e short.0, entries_short es short.1)

pub starts_short : (n : ℕ) (pages : List (List Entry)) → AllByRecursion IsShort (joined pages) → AllByRecursion (λ s. length (start_bytes s) ≤ room) (starts_from n pages)
starts_short n [] short = tt
starts_short n ([] ∷ pages) short = starts_short (n + 1) pages short
starts_short n ((e ∷ es) ∷ pages) short = (start_short n e short.0, starts_short (n + 1) pages (all_behind IsShort es (joined pages) short.1))

-- a chunk at a valid key is short
pub short_at : (e : Entry) (k j : Key) (chunk : ℕ) (last : Bool) (bytes : List ℕ) → e ≡ entry_at j chunk last bytes → j ≡ k → IsValidKey k → length bytes ≤ 1_024 → IsShort e
short_at e k j chunk last bytes is same valid few =
    subst IsShort (sym (is ∙ ap (λ (x : Key). entry_at x chunk last bytes) same)) (record { key = key_short k valid; bytes = few })

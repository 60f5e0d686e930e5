-- How many entries and records stand on so many pages, at most.
use Rattle.std.proofs.Common.{◌≡◌, ◌≤◌, ℕ, zero, suc, ◌+◌, ◌*◌, Bool, true, false, ◌&&◌, cond, nat_le, List, [], ◌∷◌, ◌++◌, length, drop, Option, Some, None, option_and_then, refl, sym, ap, arith, length-append, length-drop}
use Rattle.std.proofs.lemmas.Bool.{ltb-false}
use Rattle.std.proofs.lemmas.Option.{none-some, same_Some}
use Rattle.std.specs.Prelude.{nat_lt, slice_index, ◌==◌, take}
use Rattle.byteorder.specs.Endian.{big_number}
use Rattle.tree_model.specs.declared.key.Key.{Key}
use Rattle.tree_model.specs.declared.record.Record.{Record}
use Rattle.tree_model.specs.Entries.{Entries}
use Rattle.node_records.specs.Entries.{chunk_in, chunk_of, entry_at, entry_in, is_chunk}
use Rattle.node_records.specs.Keys.{key_in}
use Rattle.node_records.specs.Reads.{◌>>=◌}
use Rattle.node_records.specs.Records.{record_of}
use Rattle.node_records.specs.declared.entries.Entry.{Entry}
use Rattle.node_records.proofs.ReadLaws.{bind_some}
use Rattle.node_pages.specs.Chunks.{one_more, records_behind}
use Rattle.node_pages.specs.EntryForm.{entry_read}
use Rattle.node_pages.specs.PagesIn.{items_or_none, entries_from}
use Rattle.node_pages.specs.Reading.{items_in, page_in}
use Rattle.node_pages.proofs.FileLaws.{page_whole}
use Rattle.paged_seq.specs.PagedMaps.{records_of}
use Rattle.paged_seq.proofs.PlaceLaws.{page_start}

if_no : {A : Type 0} (b : Bool) (o : Option A) (y : A) → cond b None o ≡ Some y → (b ≡ false) × (o ≡ Some y)
if_no true o y e = absurd (none-some y e)
if_no false o y e = (refl, e)

if_yes : {A : Type 0} (b : Bool) (x y : A) → cond b (Some x) None ≡ Some y → x ≡ y
if_yes true x y e = same_Some x y e
if_yes false x y e = absurd (none-some y e)

chunk_size : (k : Key) (bytes : List ℕ) (y : Entry × ℕ) → chunk_in k bytes ≡ Some y → (1 ≤ y.1) × (1 ≤ length bytes)
chunk_size k bytes y e =
    let n = big_number 2 (drop 3 bytes) in
    let p = if_no (nat_lt (length bytes) 5) (chunk_of k (big_number 2 bytes) (slice_index bytes 2) n (drop 5 bytes)) y e in
    let long = ltb-false (length bytes) 5 p.0 in
    let flag = slice_index bytes 2 in
    let x : Entry × ℕ = (entry_at k (big_number 2 bytes) (flag == 1) (take n (drop 5 bytes)), 5 + n) in
    let same = if_yes (nat_le n (length (drop 5 bytes)) && is_chunk flag n) x y p.1 in
    let size : y.1 ≡ 5 + n = sym (ap (λ (z : Entry × ℕ). z.1) same) in
    (omega (arith, size), omega (arith, long))

entry_size : (bytes : List ℕ) (y : Entry × ℕ) → entry_in bytes ≡ Some y → (1 ≤ y.1) × (1 ≤ length bytes)
entry_size bytes y e =
    let p = bind_some (key_in bytes) (λ k. chunk_in k.0 (drop k.1 bytes) >>= λ x. Some (x.0, k.1 + x.1)) y e in
    let k = p.0 in
    let q = bind_some (chunk_in k.0 (drop k.1 bytes)) (λ x. Some (x.0, k.1 + x.1)) y p.2 in
    let x = q.0 in
    let size = chunk_size k.0 (drop k.1 bytes) x q.1 in
    let one = size.0 in
    let some = size.1 in
    let sum : k.1 + x.1 ≡ y.1 = ap (λ (z : Entry × ℕ). z.1) (same_Some (x.0, k.1 + x.1) y q.2) in
    (omega (arith, one, sum), omega (arith, some, length-drop k.1 bytes))

items_few : (n : ℕ) (before : Option Entry) (bytes : List ℕ) (y : List Entry × List ℕ) → items_in entry_read n before bytes ≡ Some y → length y.0 ≤ length bytes
items_few zero before bytes y e = let none : 0 ≡ length y.0 = ap (λ (z : List Entry × List ℕ). length z.0) (same_Some (let start : List Entry × List ℕ = ([], bytes) in start) y e) in omega (arith, none)
items_few (suc n) before bytes y e =
    let p = bind_some (entry_read before bytes) (λ x. option_and_then (λ ys. Some (x.0 ∷ ys.0, ys.1)) (items_in entry_read n (Some x.0) (drop x.1 bytes))) y e in
    let x = p.0 in
    let q = bind_some (items_in entry_read n (Some x.0) (drop x.1 bytes)) (λ ys. Some (x.0 ∷ ys.0, ys.1)) y p.2 in
    let ys = q.0 in
    let size = entry_size bytes x p.1 in
    let one = size.0 in
    let some = size.1 in
    let few = items_few n (Some x.0) (drop x.1 bytes) ys q.1 in
    let count : suc (length ys.0) ≡ length y.0 = ap (λ (z : List Entry × List ℕ). length z.0) (same_Some (x.0 ∷ ys.0, ys.1) y q.2) in
    omega (arith, one, some, few, count, length-drop x.1 bytes)

page_few : (bytes : List ℕ) (o : Option (List Entry)) → page_in entry_read bytes ≡ o → length (items_or_none o) ≤ 8_192
page_few bytes None e = omega arith
page_few bytes (Some es) e =
    let s = page_start bytes es e in
    let few = items_few (big_number 2 bytes) None (drop 2 bytes) (es, s.0) s.1 in
    let whole = page_whole bytes es e in
    omega (arith, few, whole, length-drop 2 bytes)

entries_few : (page : ℕ → List ℕ) (left n : ℕ) → length (entries_from page n left) ≤ 8_192 * left
entries_few page zero n = omega arith
entries_few page (suc left) n =
    let here = items_or_none (page_in entry_read (page n)) in
    let one = page_few (page n) (page_in entry_read (page n)) refl in
    let others = entries_few page left (n + 1) in
    omega (arith, one, others, length-append here (entries_from page (n + 1) left))

more_few : (k : Key) (o : Option Record) (es : Entries) → length (one_more k o es) ≤ length es + 1
more_few k None es = omega arith
more_few k (Some r) es = omega arith

records_few : (es : List Entry) (bytes : List ℕ) → length (records_behind bytes es) ≤ length es
records_few [] bytes = omega arith
records_few (e ∷ es) bytes =
    let begun = records_few es [] in
    let more = more_few e.key (record_of (bytes ++ e.bytes)) (records_behind [] es) in
    let on = records_few es (bytes ++ e.bytes) in
    elim e.last as (λ b. length (cond b (one_more e.key (record_of (bytes ++ e.bytes)) (records_behind [] es)) (records_behind (bytes ++ e.bytes) es)) ≤ length (e ∷ es)) [
      | true ↦ omega (arith, begun, more)
      | false ↦ omega (arith, on)
    ]

-- no more records than bytes stand on so many pages
pub most_records : (page : ℕ → List ℕ) (count : ℕ) → length (records_of page count) ≤ 8_192 * count
most_records page count =
    let records = records_few (entries_from page 1 count) [] in
    let entries = entries_few page count 1 in
    omega (arith, records, entries)

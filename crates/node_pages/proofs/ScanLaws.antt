-- What the scan of pages stands on: a page's first entry leaves room for its start, and how many bytes entries take.
use Rattle.std.proofs.Common.{◌≡◌, ◌≤◌, ◌<◌, ◌==◌, ℕ, zero, suc, ◌+◌, Bool, true, false, not, ◌&&◌, cond, List, [], ◌∷◌, ◌++◌, length, drop, Option, Some, None, option_and_then, if◌then◌else◌, refl, ap, subst, ◌∙◌, arith, length-append, length-drop}
use Rattle.std.proofs.lemmas.Bool.{eqb-true}
use Rattle.std.proofs.lemmas.Option.{cond_some, none-some, same_Some}
use Rattle.byteorder.specs.Endian.{big_bytes, big_number}
use Rattle.outside_traits.specs.Bytes.{IsBytes}
use Rattle.node_records.specs.Keys.{key_bytes}
use Rattle.node_records.specs.Entries.{flag_of, is_chunk, chunk_head, entry_bytes, entry_in, IsWritableEntry}
use Rattle.node_records.specs.declared.entries.Entry.{Entry}
use Rattle.node_records.proofs.EntryLaws.{entry_written}
use Rattle.node_records.proofs.ReadLaws.{bind_some, both, bytes_drop, takes_within}
use Rattle.node_pages.specs.EntryForm.{entry_behind, entry_read}
use Rattle.std.specs.List.{AllByRecursion}
use Rattle.std.specs.Prelude.{nat_lt, Err}
use Rattle.node_pages.specs.DirectoryPages.{directory_pages, fault_of_few}
use Rattle.node_pages.specs.Filling.{room, written, filled, Fill, IsSized, no_items, all_pages, page_count, with_items}
use Rattle.node_pages.proofs.FillLaws.{pages_filled, pages_counted}
use Rattle.node_pages.specs.Scanning.{unless}
use Rattle.node_pages.specs.declared.page_start.PageStart.{PageStart}
use Rattle.node_pages.specs.declared.scan_fault.ScanFault.{ScanFault}
use Rattle.node_pages.specs.declared.scan_fault.ScanFault.TheVariants.{Broken, NoMemory}
use Rattle.node_pages.specs.PageStarts.{start_of, start_behind}
use Rattle.node_pages.specs.Reading.{are_zeros, items_in, items_and_zeros, page_in}
use Rattle.node_pages.specs.ScanFaults.{FirstFits, FitsOnPage, IfBroken}

-- ---- a page's first entry leaves room for its start

chunk_some : (last : Bool) (n : ℕ) → is_chunk (flag_of last) n ≡ true → 1 ≤ n
chunk_some true zero h = cc
chunk_some true (suc n) h = omega arith
chunk_some false n h = let p = eqb-true n 1_024 h in omega (arith, p)

start_fits : (e : Entry) (n : ℕ) → IsWritableEntry e → length (entry_bytes e) ≤ room → FitsOnPage (start_of n e)
start_fits e n w within =
    let some = chunk_some e.last (length e.bytes) w.bytes in
    omega (arith, some, within, length-append (key_bytes e.key) (chunk_head e ++ e.bytes), length-append (chunk_head e) e.bytes, length-append (key_bytes e.key) (big_bytes 2 e.chunk ++ big_bytes 4 n))

entry_fits : (bytes : List ℕ) (y : Entry × ℕ) (n : ℕ) → IsBytes bytes → length bytes ≤ room → entry_in bytes ≡ Some y → FitsOnPage (start_of n y.0)
entry_fits bytes y n are within e =
    let w = entry_written bytes y are e in
    let whole = takes_within (entry_bytes y.0) bytes y.1 w.0 in
    let count = w.0.count in
    start_fits y.0 n w.1 (omega (arith, whole, count, within))

first_item : (n : ℕ) (bytes : List ℕ) (xs : List Entry × List ℕ) → IsBytes bytes → length bytes ≤ room → items_in entry_read n None bytes ≡ Some xs → FirstFits xs.0
first_item zero bytes xs are within e = subst (λ (z : List Entry × List ℕ). FirstFits z.0) (same_Some ([], bytes) xs e) tt
first_item (suc n) bytes xs are within e =
    let behind = λ (x : Entry × ℕ). items_in entry_read n (Some x.0) (drop x.1 bytes) in
    let p = bind_some (entry_in bytes) (λ x. option_and_then (λ ys. Some (x.0 ∷ ys.0, ys.1)) (behind x)) xs e in
    let x = p.0 in
    let q = bind_some (behind x) (λ ys. Some (x.0 ∷ ys.0, ys.1)) xs p.2 in
    let ys = q.0 in
    subst (λ (z : List Entry × List ℕ). FirstFits z.0) (same_Some (x.0 ∷ ys.0, ys.1) xs q.2) (λ m. entry_fits bytes x m are within p.1)

if_some : {A : Type 0} (b : Bool) (o : Option A) (y : A) → cond b o None ≡ Some y → (b ≡ true) × (o ≡ Some y)
if_some true o y e = (refl, e)
if_some false o y e = absurd (none-some y e)

pub first_fits : (bytes : List ℕ) (es : List Entry) → IsBytes bytes → page_in entry_read bytes ≡ Some es → FirstFits es
unfolding page_in
first_fits bytes es are e =
    let n = big_number 2 bytes in
    let items = items_in entry_read n None (drop 2 bytes) in
    let p = if_some ((length bytes == 8_192) && not (n == 0)) (items_and_zeros entry_read n (drop 2 bytes)) es e in
    let whole = eqb-true (length bytes) 8_192 (both (length bytes == 8_192) (not (n == 0)) p.0).0 in
    let q = bind_some items (λ xs. if are_zeros xs.1 then Some xs.0 else None) es p.1 in
    let xs = q.0 in
    let z = cond_some (are_zeros xs.1) xs.0 es q.2 in
    subst FirstFits z.1 (first_item n (drop 2 bytes) xs (bytes_drop 2 bytes are) (omega (arith, whole, length-drop 2 bytes)) q.1)

-- ---- the directory that is wanted

few_pages : {A : Type 0} (f : Fill A) → IsSized f → page_count f ≤ 4_294_967_295
few_pages f sized = let few = sized.few in elim (nat_lt 0 f.count) as (λ b. (if b then f.pages + 1 else f.pages) ≤ 4_294_967_295) [ true ↦ omega (arith, few) | false ↦ omega (arith, few) ]

pub directory_done : (starts : List PageStart) (f : Fill PageStart) → AllByRecursion FitsOnPage starts → f ≡ with_items start_behind (no_items 4_294_967_295) starts → IsSized f
    → all_pages f ≡ directory_pages starts
directory_done starts f fit is sized =
    let count : page_count f ≡ length (filled start_behind starts) = ap page_count is ∙ pages_counted start_behind 4_294_967_295 starts fit in
    let few = few_pages f sized in
    ap all_pages is ∙ pages_filled start_behind 4_294_967_295 starts fit (omega (arith, count, few))

-- pages that are still wanted are too few where no page is left
pub few_left : (i n : ℕ) (pages : List (List ℕ)) (starts : List PageStart) → i < length pages → unless (fault_of_few (drop i pages) n) starts ≡ Err n
few_left i n [] starts h = absurd (omega arith)
few_left zero n (p ∷ ps) starts h = refl
few_left (suc i) n (p ∷ ps) starts h = few_left i n ps starts (omega arith)

-- ---- what a broken rule says

pub broken_then : (A B : Type 0) (e : ScanFault) (P Q : ℕ → Type 0) → ((n : ℕ) → P n → Q n) → IfBroken {A = A} (Err e) P → IfBroken {A = B} (Err e) Q
broken_then A B (Broken n) P Q f h = f n h
broken_then A B NoMemory P Q f h = tt

-- ---- how many bytes entries take

-- an entry's bytes are the same whatever stands before it
pub any_before : (a b : Option Entry) (es : List Entry) → written entry_behind a es ≡ written entry_behind b es
any_before a b [] = refl
any_before a b (e ∷ es) = refl

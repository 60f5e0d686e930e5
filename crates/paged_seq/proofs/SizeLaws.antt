-- How many bytes the parts of an entry have.
use Rattle.std.proofs.Common.{◌≡◌, ◌<◌, ◌≤◌, ℕ, zero, suc, ◌+◌, ◌-◌, Bool, true, false, ◌&&◌, cond, ltb, eqb, nat_cmp, List, [], ◌∷◌, ◌++◌, length, get_or, take, drop, Option, Some, None, refl, sym, ap, subst, ◌∙◌, append_assoc, arith}
use Rattle.std.proofs.Math.Seq.{take-append_seam}
use Rattle.std.proofs.lemmas.Bool.{leb-true, ltb-false}
use Rattle.std.proofs.lemmas.List.{drop-drop}
use Rattle.std.proofs.lemmas.Option.{cond_some, none-some, same_Some}
use Rattle.std.specs.Cmp.Lexicographic.{slice_cmp}
use Rattle.std.specs.List.{position}
use Rattle.std.specs.Prelude.{◌==◌, if◌then◌else◌, nat_le, nat_lt, option_map, slice_index}
use Rattle.byteorder.specs.Endian.{big_number}
use Rattle.dewey_labels.specs.Labels.{Label, is_label_within}
use Rattle.outside_traits.specs.Bytes.{IsBytes}
use Rattle.tree_model.specs.Keys.{key_at, key_cmp}
use Rattle.tree_model.specs.Names.{Name}
use Rattle.tree_model.specs.declared.key.Key.{Key}
use Rattle.node_records.specs.Divisions.{division_in}
use Rattle.node_records.specs.Entries.{chunk_head, chunk_in, chunk_of, entry_at, entry_in, is_chunk}
use Rattle.node_records.specs.Keys.{IsWritable, key_bytes, key_in, name_in}
use Rattle.node_records.specs.Labels.{divisions_in, label_in}
use Rattle.node_records.specs.Reads.{◌>>=◌, number_in, text_of}
use Rattle.node_records.specs.declared.entries.Entry.{Entry}
use Rattle.node_records.proofs.EntryLaws.{entry_written}
use Rattle.node_records.proofs.KeyLaws.{key_written}
use Rattle.node_records.proofs.KeyOrder.{keys_sort}
use Rattle.node_records.proofs.ReadLaws.{bind_some, both}
use Rattle.paged_seq.specs.Sizes.{LabelAhead, division_size, entry_there}

-- ---- divisions

sized : (r : Option ℕ) (f : ℕ → ℕ) (k : ℕ) (d : ℕ × ℕ) → (r >>= λ n. Some (f n, k)) ≡ Some d → d.1 ≡ k
sized None f k d e = absurd (none-some d e)
sized (Some n) f k d e = sym (ap (λ (x : ℕ × ℕ). x.1) (same_Some (f n, k) d e))

five_sized : (r : Option ℕ) (d : ℕ × ℕ) → (r >>= λ n. if nat_lt n 2_113_664 then None else Some (n, 5)) ≡ Some d → d.1 ≡ 5
five_sized None d e = absurd (none-some d e)
five_sized (Some n) d e =
    elim (ltb n 2_113_664) as (λ t. cond t None (Some (n, 5)) ≡ Some d → d.1 ≡ 5) [
      | true ↦ λ h. absurd (none-some d h)
      | false ↦ λ h. sym (ap (λ (x : ℕ × ℕ). x.1) (same_Some (n, 5) d h))
    ] e

-- a division has as many bytes as its first one says
pub division_sized : (b : ℕ) (bs : List ℕ) (d : ℕ × ℕ) → division_in (b ∷ bs) ≡ Some d → d.1 ≡ division_size b
division_sized b bs d =
    let two = number_in 2 (b ∷ bs) >>= λ n. Some (n - 0x8000 + 128, 2) in
    let three = number_in 3 (b ∷ bs) >>= λ n. Some (n - 0xC0_0000 + 16_512, 3) in
    let five = number_in 4 bs >>= λ n. if nat_lt n 2_113_664 then None else Some (n, 5) in
    elim (ltb b 0x80) as (λ t. cond t (Some (b, 1)) (cond (ltb b 0xC0) two (cond (ltb b 0xE0) three (cond (eqb b 0xE0) five None))) ≡ Some d → d.1 ≡ cond t 1 (cond (ltb b 0xC0) 2 (cond (ltb b 0xE0) 3 5))) [
      | true ↦ λ h. sym (ap (λ (x : ℕ × ℕ). x.1) (same_Some (b, 1) d h))
      | false ↦ elim (ltb b 0xC0) as (λ t. cond t two (cond (ltb b 0xE0) three (cond (eqb b 0xE0) five None)) ≡ Some d → d.1 ≡ cond t 2 (cond (ltb b 0xE0) 3 5)) [
        | true ↦ λ h. sized (number_in 2 (b ∷ bs)) (λ n. n - 0x8000 + 128) 2 d h
        | false ↦ elim (ltb b 0xE0) as (λ t. cond t three (cond (eqb b 0xE0) five None) ≡ Some d → d.1 ≡ cond t 3 5) [
          | true ↦ λ h. sized (number_in 3 (b ∷ bs)) (λ n. n - 0xC0_0000 + 16_512) 3 d h
          | false ↦ elim (eqb b 0xE0) as (λ t. cond t five None ≡ Some d → d.1 ≡ 5) [
            | true ↦ λ h. five_sized (number_in 4 bs) d h
            | false ↦ λ h. absurd (none-some d h)
          ]
        ]
      ]
    ]

-- ---- labels

pub label_begun : (bytes : List ℕ) → LabelAhead bytes 0
label_begun bytes l e =
    let p = bind_some (divisions_in 256 bytes) (λ ds. if is_label_within ds.0 then Some ds else None) l e in
    let ds = p.0 in
    let same = cond_some (is_label_within ds.0) ds l p.2 in
    let count : ds.1 ≡ l.1 = ap (λ (x : List ℕ × ℕ). x.1) same.1 in
    (256, ds, p.1, omega (arith, count))

-- one division more
label_step : (n : ℕ) (rest : List ℕ) (ds : List ℕ × ℕ) → 0 < length rest → (get_or rest 0 0 ≡ 0 → ⊥) → divisions_in n rest ≡ Some ds
    → (m : ℕ) × (es : List ℕ × ℕ) × (divisions_in m (drop (division_size (get_or rest 0 0)) rest) ≡ Some es) × (ds.1 ≡ division_size (get_or rest 0 0) + es.1)
label_step zero rest ds some other e = absurd (none-some ds e)
label_step (suc n) [] ds some other e = absurd (none-some ds e)
label_step (suc n) (zero ∷ bs) ds some other e = absurd (other refl)
label_step (suc n) (suc b ∷ bs) ds some other e =
    let p = bind_some (division_in (suc b ∷ bs)) (λ d. divisions_in n (drop d.1 (suc b ∷ bs)) >>= λ xs. Some (d.0 ∷ xs.0, d.1 + xs.1)) ds e in
    let d = p.0 in
    let q = bind_some (divisions_in n (drop d.1 (suc b ∷ bs))) (λ xs. Some (d.0 ∷ xs.0, d.1 + xs.1)) ds p.2 in
    let es = q.0 in
    let size : d.1 ≡ division_size (suc b) = division_sized (suc b) bs d p.1 in
    (n, es, subst (λ (k : ℕ). divisions_in n (drop k (suc b ∷ bs)) ≡ Some es) size q.1, sym (ap (λ (x : List ℕ × ℕ). x.1) (same_Some (d.0 ∷ es.0, d.1 + es.1) ds q.2)) ∙ ap (λ (k : ℕ). k + es.1) size)

-- the divisions end at a 00
label_end : (n : ℕ) (rest : List ℕ) (ds : List ℕ × ℕ) → get_or rest 0 0 ≡ 0 → divisions_in n rest ≡ Some ds → ds.1 ≡ 1
label_end zero rest ds none e = absurd (none-some ds e)
label_end (suc n) [] ds none e = absurd (none-some ds e)
label_end (suc n) (zero ∷ bs) ds none e = let start : List ℕ × ℕ = ([], 1) in sym (ap (λ (x : List ℕ × ℕ). x.1) (same_Some start ds e))
label_end (suc n) (suc b ∷ bs) ds none e = absurd (omega (arith, none))

-- or they are cut short
label_short : (n : ℕ) (rest : List ℕ) (ds : List ℕ × ℕ) → length rest ≡ 0 → divisions_in n rest ≡ Some ds → ⊥
label_short zero rest ds none e = none-some ds e
label_short (suc n) [] ds none e = none-some ds e
label_short (suc n) (b ∷ bs) ds none e = omega (arith, none)

first_at : (n : ℕ) (bytes : List ℕ) → get_or (drop n bytes) 0 0 ≡ get_or bytes n 0
first_at zero [] = refl
first_at zero (b ∷ bs) = refl
first_at (suc n) [] = refl
first_at (suc n) (b ∷ bs) = first_at n bs

some_left : (n : ℕ) (bytes : List ℕ) → n < length bytes → 0 < length (drop n bytes)
some_left zero bytes h = h
some_left (suc n) [] h = absurd (omega (arith, h))
some_left (suc n) (b ∷ bs) h = some_left n bs (omega (arith, h))

none_left : (n : ℕ) (bytes : List ℕ) → length bytes ≤ n → length (drop n bytes) ≡ 0
none_left zero bytes h = omega (arith, h)
none_left (suc n) [] h = refl
none_left (suc n) (b ∷ bs) h = none_left n bs (omega (arith, h))

pub label_more : (bytes : List ℕ) (at b : ℕ) → LabelAhead bytes at → at < length bytes → get_or bytes at 0 ≡ b → (b ≡ 0 → ⊥) → LabelAhead bytes (at + division_size b)
label_more bytes at b ahead less is other l e =
    let p = ahead l e in
    let here : get_or (drop at bytes) 0 0 ≡ b = first_at at bytes ∙ is in
    let s = label_step p.0 (drop at bytes) p.1 (some_left at bytes less) (λ h. other (sym here ∙ h)) p.2 in
    let size : division_size (get_or (drop at bytes) 0 0) ≡ division_size b = ap division_size here in (
      s.0,
      s.1,
      ap (λ (r : List ℕ). divisions_in s.0 r) (sym (drop-drop (division_size b) at bytes)) ∙ ap (λ (k : ℕ). divisions_in s.0 (drop k (drop at bytes))) (sym size) ∙ s.2,
      p.3 ∙ ap (λ (k : ℕ). at + k) (s.3 ∙ ap (λ (k : ℕ). k + s.1.1) size) ∙ omega arith,
    )

pub label_done : (bytes : List ℕ) (at : ℕ) (l : Label × ℕ) → LabelAhead bytes at → get_or bytes at 0 ≡ 0 → label_in bytes ≡ Some l → at + 1 ≡ l.1
label_done bytes at l ahead is e =
    let p = ahead l e in
    sym (p.3 ∙ ap (λ (k : ℕ). at + k) (label_end p.0 (drop at bytes) p.1 (first_at at bytes ∙ is) p.2))

pub label_missing : (bytes : List ℕ) (at : ℕ) (l : Label × ℕ) → LabelAhead bytes at → length bytes ≤ at → label_in bytes ≡ Some l → ⊥
label_missing bytes at l ahead over e = let p = ahead l e in label_short p.0 (drop at bytes) p.1 (none_left at bytes over) p.2

-- ---- keys

-- a key is a label and a name behind it
pub key_parts : (bytes : List ℕ) (k : Key × ℕ) → key_in bytes ≡ Some k → (l : Label × ℕ) × (n : ℕ) × (label_in bytes ≡ Some l) × (position (λ b. b == 0) (drop l.1 bytes) ≡ Some n) × (k.1 ≡ l.1 + (n + 1))
key_parts bytes k e =
    let p = bind_some (label_in bytes) (λ l. name_in (drop l.1 bytes) >>= λ n. Some (key_at l.0 n.0, l.1 + n.1)) k e in
    let l = p.0 in
    let rest = drop l.1 bytes in
    let q = bind_some (name_in rest) (λ n. Some (key_at l.0 n.0, l.1 + n.1)) k p.2 in
    let name = q.0 in
    let r = bind_some (position (λ b. b == 0) rest) (λ n. text_of (take n rest) >>= λ x. Some (x, n + 1)) name q.1 in
    let n = r.0 in
    let s = bind_some (text_of (take n rest)) (λ x. Some (x, n + 1)) name r.2 in
    let count : n + 1 ≡ name.1 = ap (λ (x : Name × ℕ). x.1) (same_Some (s.0, n + 1) name s.2) in
    (l, n, p.1, r.1, sym (ap (λ (x : Key × ℕ). x.1) (same_Some (key_at l.0 name.0, l.1 + name.1) k q.2)) ∙ ap (λ (m : ℕ). l.1 + m) (sym count))

-- ---- entries

-- the parts of an entry that was read: its key, what stands between that and its bytes, and these
pub record EntryParts (bytes : List ℕ) (e : Entry × ℕ) : Type 0 where
  pub key : Key × ℕ
  pub read : key_in bytes ≡ Some key
  pub same : e.0.key ≡ key.0
  pub long : 5 ≤ length (drop key.1 bytes)
  pub within : big_number 2 (drop 3 (drop key.1 bytes)) ≤ length (drop 5 (drop key.1 bytes))
  pub size : e.1 ≡ key.1 + (5 + big_number 2 (drop 3 (drop key.1 bytes)))

not_short : {A : Type 0} (b : Bool) (o : Option A) (y : A) → cond b None o ≡ Some y → (b ≡ false) × (o ≡ Some y)
not_short true o y e = absurd (none-some y e)
not_short false o y e = (refl, e)

pub entry_parts : (bytes : List ℕ) (e : Entry × ℕ) → entry_in bytes ≡ Some e → EntryParts bytes e
entry_parts bytes e is =
    let p = bind_some (key_in bytes) (λ k. chunk_in k.0 (drop k.1 bytes) >>= λ x. Some (x.0, k.1 + x.1)) e is in
    let k = p.0 in
    let rest = drop k.1 bytes in
    let n = big_number 2 (drop 3 rest) in
    let q = bind_some (chunk_in k.0 rest) (λ x. Some (x.0, k.1 + x.1)) e p.2 in
    let x = q.0 in
    let s = not_short (ltb (length rest) 5) (chunk_of k.0 (big_number 2 rest) (slice_index rest 2) n (drop 5 rest)) x q.1 in
    let c = cond_some (nat_le n (length (drop 5 rest)) && is_chunk (slice_index rest 2) n) (entry_at k.0 (big_number 2 rest) (slice_index rest 2 == 1) (take n (drop 5 rest)), 5 + n) x s.1 in
    let fits = both (nat_le n (length (drop 5 rest))) (is_chunk (slice_index rest 2) n) c.0 in
    let last = same_Some (x.0, k.1 + x.1) e q.2 in
    record {
      key = k;
      read = p.1;
      same = sym (ap (λ (z : Entry × ℕ). z.0.key) last) ∙ sym (ap (λ (z : Entry × ℕ). z.0.key) c.1);
      long = ltb-false (length rest) 5 s.0;
      within = leb-true n (length (drop 5 rest)) fits.0;
      size = sym (ap (λ (z : Entry × ℕ). z.1) last) ∙ ap (λ (m : ℕ). k.1 + m) (sym (ap (λ (z : Entry × ℕ). z.1) c.1));
    }

-- its key has as many bytes as were read of it
pub key_counted : (bytes : List ℕ) (e : Entry × ℕ) → IsBytes bytes → (p : EntryParts bytes e) → p.key.1 ≡ length (key_bytes e.0.key)
key_counted bytes e fits p = (key_written bytes p.key fits p.read).0.count ∙ ap (λ (k : Key). length (key_bytes k)) (sym p.same)

-- the first bytes of an entry compare with those of a key as its key does
pub sorts_there : (bytes asked : List ℕ) (size : ℕ) (key : Key) (e : Entry × ℕ) → IsBytes bytes → entry_in bytes ≡ Some e → size ≡ length (key_bytes e.0.key) → asked ≡ key_bytes key → IsWritable key
    → slice_cmp nat_cmp (take size bytes) asked ≡ key_cmp e.0.key key
sorts_there bytes asked size key e fits is count same writable =
    let w = entry_written bytes e fits is in
    let mine = key_bytes e.0.key in
    let behind = chunk_head e.0 ++ e.0.bytes in
    let parts : bytes ≡ mine ++ (behind ++ drop e.1 bytes) = w.0.parts ∙ append_assoc mine behind (drop e.1 bytes) in
    let first : take size bytes ≡ mine = ap (λ (n : ℕ). take n bytes) count ∙ ap (λ (b : List ℕ). take (length mine) b) parts ∙ take-append_seam mine (behind ++ drop e.1 bytes) in
    (λ i. slice_cmp nat_cmp (first i) (same i)) ∙ keys_sort e.0.key key w.1.key writable

-- ---- the first bytes of divisions

pub size_within : (b : ℕ) → (1 ≤ division_size b) × (division_size b ≤ 5)
size_within b =
    elim (ltb b 0x80) as (λ t. (1 ≤ cond t 1 (cond (ltb b 0xC0) 2 (cond (ltb b 0xE0) 3 5))) × (cond t 1 (cond (ltb b 0xC0) 2 (cond (ltb b 0xE0) 3 5)) ≤ 5)) [
      | true ↦ (omega arith, omega arith)
      | false ↦ elim (ltb b 0xC0) as (λ t. (1 ≤ cond t 2 (cond (ltb b 0xE0) 3 5)) × (cond t 2 (cond (ltb b 0xE0) 3 5) ≤ 5)) [
        | true ↦ (omega arith, omega arith)
        | false ↦ elim (ltb b 0xE0) as (λ t. (1 ≤ cond t 3 5) × (cond t 3 5 ≤ 5)) [
          | true ↦ (omega arith, omega arith)
          | false ↦ (omega arith, omega arith)
        ]
      ]
    ]

-- the sizes that were told
pub sizes_told : (r : Option (ℕ × ℕ)) (a b : ℕ × ℕ) → r ≡ Some a → r ≡ Some b → (a.0 ≡ b.0) × (a.1 ≡ b.1)
sizes_told r a b h g = let same = same_Some a b (sym h ∙ g) in (ap (λ (x : ℕ × ℕ). x.0) same, ap (λ (x : ℕ × ℕ). x.1) same)

pub there_read : (bytes : List ℕ) (before : Option Entry) (n : ℕ) (x : Entry × ℕ) → entry_in (drop n bytes) ≡ Some x → entry_there bytes before (Some n) ≡ Some x.0
there_read bytes before n x is = ap (λ (o : Option (Entry × ℕ)). option_map (λ e. e.0) o) is

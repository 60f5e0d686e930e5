-- The bytes of entries: what is written is read again, what is read was written so.
use Rattle.std.proofs.Common.{◌≡◌, ◌<◌, ℕ, suc, ◌+◌, ◌*◌, ◌^◌, ◌/◌, ◌%◌, Bool, true, false, ◌&&◌, eqb, ltb, nat_le, ◌==◌, List, [], ◌∷◌, ◌++◌, length, take, drop, Option, Some, None, refl, sym, ap, subst, ◌∙◌, append_assoc, arith, length-append, length-take, le-ltb}
use Rattle.std.proofs.lemmas.Bool.{eqb-true, le-leb, leb-true}
use Rattle.std.proofs.lemmas.List.{drop_at, take_at, take-append-drop}
use Rattle.std.proofs.lemmas.Option.{none-some, same_Some, cond_some}
use Rattle.std.specs.Prelude.{if◌then◌else◌, IfSome, IfNone}
use Rattle.byteorder.specs.Endian.{big_bytes, big_number}
use Rattle.tree_model.specs.declared.key.Key.{Key}
use Rattle.outside_traits.specs.Bytes.{IsBytes}
use Rattle.node_records.specs.declared.entries.Entry.{Entry}
use Rattle.node_records.specs.Reads.{◌>>=◌, Takes}
use Rattle.node_records.specs.Keys.{key_bytes, key_in, IsWritable}
use Rattle.node_records.specs.Entries.{entry_at, flag_of, is_chunk, chunk_head, entry_bytes, chunk_of, chunk_in, entry_in, IsWritableEntry}
use Rattle.node_records.proofs.ReadLaws.{bind_some, takes_then, bytes_drop, both}
use Rattle.node_records.proofs.KeyLaws.{key_again, key_written}

-- ---- what is written is read again

two_again : (n : ℕ) (rest : List ℕ) → n < 2 ^ 16 → big_number 2 (big_bytes 2 n ++ rest) ≡ n
two_again n rest fits = omega arith

flag_again : (last : Bool) → (flag_of last == 1) ≡ last
flag_again true = refl
flag_again false = refl

chunk_small : (last : Bool) (n : ℕ) → is_chunk (flag_of last) n ≡ true → n < 2 ^ 16
chunk_small true n h = let p = both (ltb 0 n) (nat_le n 1_024) h in let q = leb-true n 1_024 p.1 in omega (arith, q)
chunk_small false n h = let p = eqb-true n 1_024 h in omega (arith, p)

chunk_of_again : (k : Key) (chunk : ℕ) (last : Bool) (bytes rest : List ℕ) → is_chunk (flag_of last) (length bytes) ≡ true
    → chunk_of k chunk (flag_of last) (length bytes) (bytes ++ rest) ≡ Some (entry_at k chunk last bytes, 5 + length bytes)
chunk_of_again k chunk last bytes rest is =
    let n = length bytes in
    let long : nat_le n (length (bytes ++ rest)) ≡ true = le-leb n (length (bytes ++ rest)) (omega (arith, length-append bytes rest)) in
    ap (λ t. if t && is_chunk (flag_of last) n then Some (entry_at k chunk (flag_of last == 1) (take n (bytes ++ rest)), 5 + n) else None) long
    ∙ ap (λ t. if t then Some (entry_at k chunk (flag_of last == 1) (take n (bytes ++ rest)), 5 + n) else None) is
    ∙ (λ i. Some (entry_at k chunk (flag_again last i) (take_at bytes rest n refl i), 5 + n))

chunk_again : (e : Entry) (rest : List ℕ) → IsWritableEntry e → chunk_in e.key ((chunk_head e ++ e.bytes) ++ rest) ≡ Some (e, length (chunk_head e ++ e.bytes))
chunk_again e rest w =
    let n = length e.bytes in
    let behind = e.bytes ++ rest in
    let tail = (chunk_head e ++ e.bytes) ++ rest in
    let long : ltb (length tail) 5 ≡ false = le-ltb _ _ (omega arith) in
    let chunk : big_number 2 tail ≡ e.chunk = two_again e.chunk (flag_of e.last ∷ (big_bytes 2 n ++ behind)) w.chunk in
    let count : big_number 2 (big_bytes 2 n ++ behind) ≡ n = two_again n behind (chunk_small e.last n w.bytes) in
    ap (λ t. if t then None else chunk_of e.key (big_number 2 tail) (flag_of e.last) (big_number 2 (big_bytes 2 n ++ behind)) behind) long
    ∙ (λ i. chunk_of e.key (chunk i) (flag_of e.last) (count i) behind)
    ∙ chunk_of_again e.key e.chunk e.last e.bytes rest w.bytes
    ∙ ap (λ (m : ℕ). Some (e, m)) (let sum : 5 + n ≡ length (chunk_head e ++ e.bytes) = omega arith in sum)

pub entry_again : (e : Entry) (rest : List ℕ) → IsWritableEntry e → entry_in (entry_bytes e ++ rest) ≡ Some (e, length (entry_bytes e))
entry_again e rest w =
    let key = key_bytes e.key in
    let body = chunk_head e ++ e.bytes in
    let tail = body ++ rest in
    ap entry_in (append_assoc key body rest)
    ∙ ap (λ o. o >>= λ k. chunk_in k.0 (drop k.1 (key ++ tail)) >>= λ x. Some (x.0, k.1 + x.1)) (key_again e.key tail w.key)
    ∙ ap (λ (t : List ℕ). chunk_in e.key t >>= λ x. Some (x.0, length key + x.1)) (drop_at key tail (length key) refl)
    ∙ ap (λ o. o >>= λ x. Some (x.0, length key + x.1)) (chunk_again e rest w)
    ∙ ap (λ (m : ℕ). Some (e, m)) (sym (length-append key body))

-- ---- what is read was written so

-- a flag of a chunk is that of a last one or of another
flag_read : (flag n : ℕ) → is_chunk flag n ≡ true → flag_of (flag == 1) ≡ flag
flag_read flag n h = elim (eqb flag 1) as (λ t. eqb flag 1 ≡ t → (if t then ltb 0 n && nat_le n 1_024 else (flag == 0) && (n == 1_024)) ≡ true → flag_of t ≡ flag) [
  | true ↦ λ q _. sym (eqb-true flag 1 q)
  | false ↦ λ _ g. let p = both (flag == 0) (n == 1_024) g in sym (eqb-true flag 0 p.0)
] refl h

-- an entry behind its key that was read
pub record IsChunkOf (k : Key) (y : Entry × ℕ) (bytes : List ℕ) : Type 0 where
  pub takes : Takes (chunk_head y.0 ++ y.0.bytes) y.1 bytes
  pub key : y.0.key ≡ k
  pub chunk : y.0.chunk < 2 ^ 16
  pub is : is_chunk (flag_of y.0.last) (length y.0.bytes) ≡ true

five_on : (n a b f c d : ℕ) (bs : List ℕ) → drop (5 + n) (a ∷ b ∷ f ∷ c ∷ d ∷ bs) ≡ drop n bs
five_on n a b f c d bs = let more : 5 + n ≡ suc (suc (suc (suc (suc n)))) = omega arith in ap (λ (k : ℕ). drop k (a ∷ b ∷ f ∷ c ∷ d ∷ bs)) more

chunk_written : (k : Key) (bytes : List ℕ) (y : Entry × ℕ) → IsBytes bytes → chunk_in k bytes ≡ Some y → IsChunkOf k y bytes
chunk_written k [] y fits e = absurd (none-some y e)
chunk_written k (a ∷ []) y fits e = absurd (none-some y e)
chunk_written k (a ∷ b ∷ []) y fits e = absurd (none-some y e)
chunk_written k (a ∷ b ∷ f ∷ []) y fits e = absurd (none-some y e)
chunk_written k (a ∷ b ∷ f ∷ c ∷ []) y fits e = absurd (none-some y e)
chunk_written k (a ∷ b ∷ f ∷ c ∷ d ∷ bs) y fits e =
    let bytes = a ∷ b ∷ f ∷ c ∷ d ∷ bs in
    let m : ℕ = a * 256 + b in
    let n : ℕ = c * 256 + d in
    let long : ltb (length bytes) 5 ≡ false = le-ltb _ _ (omega arith) in
    let chunk : big_number 2 bytes ≡ m = omega arith in
    let count : big_number 2 (c ∷ d ∷ bs) ≡ n = omega arith in
    let of : chunk_in k bytes ≡ chunk_of k m f n bs = ap (λ t. if t then None else chunk_of k (big_number 2 bytes) f (big_number 2 (c ∷ d ∷ bs)) bs) long ∙ (λ i. chunk_of k (chunk i) f (count i) bs) in
    let p = cond_some (nat_le n (length bs) && is_chunk f n) (entry_at k m (f == 1) (take n bs), 5 + n) y (sym of ∙ e) in
    let q = both (nat_le n (length bs)) (is_chunk f n) p.0 in
    let within = leb-true n (length bs) q.0 in
    let small1 : a < 256 = fits.0 in
    let small2 : b < 256 = fits.1.0 in
    let small3 : c < 256 = fits.1.1.1.0 in
    let small4 : d < 256 = fits.1.1.1.1.0 in
    let taken : length (take n bs) ≡ n = omega (arith, length-take n bs, within) in
    let flag = flag_read f n q.1 in
    let first : a ≡ m / 256 % 256 = omega arith in
    let second : b ≡ m % 256 = omega arith in
    let third : c ≡ n / 256 % 256 = omega arith in
    let fourth : d ≡ n % 256 = omega arith in
    let head : a ∷ b ∷ f ∷ c ∷ d ∷ [] ≡ chunk_head (entry_at k m (f == 1) (take n bs)) = (λ i. first i ∷ second i ∷ sym flag i ∷ third i ∷ fourth i ∷ []) ∙ ap (λ (j : ℕ). big_bytes 2 m ++ (flag_of (f == 1) ∷ big_bytes 2 j)) (sym taken) in
    let parts : bytes ≡ (chunk_head (entry_at k m (f == 1) (take n bs)) ++ take n bs) ++ drop (5 + n) bytes =
    ap (λ (t : List ℕ). a ∷ b ∷ f ∷ c ∷ d ∷ t) (sym (take-append-drop n bs))
    ∙ (λ i. (head i ++ take n bs) ++ sym (five_on n a b f c d bs) i) in
    let is : IsChunkOf k (entry_at k m (f == 1) (take n bs), 5 + n) bytes = record {
      takes = record { parts = parts; count = omega (arith, taken) };
      key = refl;
      chunk = omega arith;
      is = (λ i. is_chunk (flag i) (taken i)) ∙ q.1;
    } in
    subst (λ (x : Entry × ℕ). IsChunkOf k x bytes) p.1 is

pub entry_written : (bytes : List ℕ) (y : Entry × ℕ) → IsBytes bytes → entry_in bytes ≡ Some y → Takes (entry_bytes y.0) y.1 bytes × IsWritableEntry y.0
entry_written bytes y fits e =
    let p = bind_some (key_in bytes) (λ k. chunk_in k.0 (drop k.1 bytes) >>= λ x. Some (x.0, k.1 + x.1)) y e in
    let k = p.0 in
    let q = bind_some (chunk_in k.0 (drop k.1 bytes)) (λ x. Some (x.0, k.1 + x.1)) y p.2 in
    let x = q.0 in
    let key = key_written bytes k fits p.1 in
    let chunk = chunk_written k.0 (drop k.1 bytes) x (bytes_drop k.1 bytes fits) q.1 in
    let whole : Takes (key_bytes x.0.key ++ (chunk_head x.0 ++ x.0.bytes)) (k.1 + x.1) bytes =
    subst (λ (j : Key). Takes (key_bytes j ++ (chunk_head x.0 ++ x.0.bytes)) (k.1 + x.1) bytes) (sym chunk.key) (takes_then (key_bytes k.0) (chunk_head x.0 ++ x.0.bytes) bytes k.1 x.1 key.0 chunk.takes) in
    let writable : IsWritableEntry x.0 = record { key = subst IsWritable (sym chunk.key) key.1; chunk = chunk.chunk; bytes = chunk.is } in
    subst (λ (z : Entry × ℕ). Takes (entry_bytes z.0) z.1 bytes × IsWritableEntry z.0) (same_Some (x.0, k.1 + x.1) y q.2) (whole, writable)

-- ---- what an exact read says of the grammar

pub entry_found : (bytes : List ℕ) → IsBytes bytes → (found : Option (Entry × ℕ)) → found ≡ entry_in bytes → IfSome found (λ e. Takes (entry_bytes e.0) e.1 bytes × IsWritableEntry e.0)
entry_found bytes fits None e = tt
entry_found bytes fits (Some y) e = entry_written bytes y fits (sym e)

pub entry_none : (bytes : List ℕ) (found : Option (Entry × ℕ)) → found ≡ entry_in bytes → IfNone found ((e : Entry) (rest : List ℕ) → IsWritableEntry e → bytes ≡ entry_bytes e ++ rest → ⊥)
entry_none bytes None e = λ x rest w h. none-some (x, length (entry_bytes x)) (e ∙ ap entry_in h ∙ entry_again x rest w)
entry_none bytes (Some y) e = tt

-- The bytes of changes: what is written is read again, what is read was written so.
use Rattle.std.proofs.Common.{◌≡◌, ℕ, suc, ◌+◌, ◌*◌, ◌/◌, ◌%◌, ◌^◌, ◌<◌, true, false, eqb, ltb, ◌==◌, List, [], ◌∷◌, ◌++◌, length, take, drop, Option, Some, None, refl, sym, ap, subst, ◌∙◌, append_assoc, arith, length-append, length-take, le-ltb, ltb-false}
use Rattle.std.proofs.lemmas.Bool.{eqb-true}
use Rattle.std.proofs.lemmas.List.{drop_at, take_at, take-append-drop}
use Rattle.std.proofs.lemmas.Option.{none-some, same_Some}
use Rattle.std.specs.Prelude.{if◌then◌else◌}
use Rattle.byteorder.specs.Endian.{big_bytes, big_number}
use Rattle.tree_model.specs.declared.change.Change.{Change}
use Rattle.tree_model.specs.declared.key.Key.{Key}
use Rattle.tree_model.specs.declared.record.Record.{Record}
use Rattle.node_records.specs.Reads.{◌>>=◌, number_in, Takes}
use Rattle.outside_traits.specs.Bytes.{IsBytes}
use Rattle.node_records.specs.Keys.{key_bytes, key_in, IsWritable}
use Rattle.node_records.specs.Records.{record_bytes, record_of}
use Rattle.tree_model.specs.Records.{HasText}
use Rattle.node_records.specs.Changes.{sized_record, change_at, bytes_of, change_bytes, sized_record_in, put_in, delete_in, change_in, Fits, IsWritableChange}
use Rattle.node_records.proofs.ReadLaws.{bind_some, takes_then, bytes_drop}
use Rattle.node_records.proofs.KeyLaws.{key_again, key_written}
use Rattle.node_records.proofs.RecordLaws.{record_again, record_written}

-- ---- a number in four bytes

four_again : (n : ℕ) (rest : List ℕ) → n < 2 ^ 32 → number_in 4 (big_bytes 4 n ++ rest) ≡ Some n
four_again n rest fits =
    let long : ltb (length (big_bytes 4 n ++ rest)) 4 ≡ false = le-ltb _ _ (omega arith) in
    let number : big_number 4 (big_bytes 4 n ++ rest) ≡ n = omega arith in
    ap (λ t. if t then None else Some (big_number 4 (big_bytes 4 n ++ rest))) long ∙ ap (λ (k : ℕ). Some k) number

-- a number that was read from four bytes
abbrev IsNumber : ℕ → List ℕ → Type 0
IsNumber n bytes = Takes (big_bytes 4 n) 4 bytes × (n < 2 ^ 32)

four_written : (bytes : List ℕ) (n : ℕ) → IsBytes bytes → number_in 4 bytes ≡ Some n → IsNumber n bytes
four_written [] n fits e = absurd (none-some n e)
four_written (a ∷ []) n fits e = absurd (none-some n e)
four_written (a ∷ b ∷ []) n fits e = absurd (none-some n e)
four_written (a ∷ b ∷ c ∷ []) n fits e = absurd (none-some n e)
four_written (a ∷ b ∷ c ∷ d ∷ bs) n fits e =
    let m : ℕ = a * 16777216 + b * 65536 + c * 256 + d in
    let long : ltb (length (a ∷ b ∷ c ∷ d ∷ bs)) 4 ≡ false = le-ltb _ _ (omega arith) in
    let number : big_number 4 (a ∷ b ∷ c ∷ d ∷ bs) ≡ m = omega arith in
    let read : number_in 4 (a ∷ b ∷ c ∷ d ∷ bs) ≡ Some m = ap (λ t. if t then None else Some (big_number 4 (a ∷ b ∷ c ∷ d ∷ bs))) long ∙ ap (λ (k : ℕ). Some k) number in
    let small1 : a < 256 = fits.0 in
    let small2 : b < 256 = fits.1.0 in
    let small3 : c < 256 = fits.1.1.0 in
    let small4 : d < 256 = fits.1.1.1.0 in
    let first : a ≡ m / 16777216 % 256 = omega arith in
    let second : b ≡ m / 65536 % 256 = omega arith in
    let third : c ≡ m / 256 % 256 = omega arith in
    let fourth : d ≡ m % 256 = omega arith in
    let text : a ∷ b ∷ c ∷ d ∷ bs ≡ big_bytes 4 m ++ bs = λ i. first i ∷ second i ∷ third i ∷ fourth i ∷ bs in
    subst (λ (x : ℕ). IsNumber x (a ∷ b ∷ c ∷ d ∷ bs)) (same_Some m n (sym read ∙ e)) (record { parts = text; count = refl }, omega arith)

-- ---- a record behind its length

sized_again : (r : Record) (rest : List ℕ) → HasText r → length (record_bytes r) < 2 ^ 32 → sized_record_in (sized_record r ++ rest) ≡ Some (r, length (sized_record r))
sized_again r rest text fits =
    let body = record_bytes r in
    let n = length body in
    let long : ltb (length (body ++ rest)) n ≡ false = le-ltb _ _ (omega (arith, length-append body rest)) in
    ap (λ o. o >>= λ k. if ltb (length (body ++ rest)) k then None else (record_of (take k (body ++ rest)) >>= λ x. Some (x, 4 + k))) (four_again n (body ++ rest) fits)
    ∙ ap (λ t. if t then None else (record_of (take n (body ++ rest)) >>= λ x. Some (x, 4 + n))) long
    ∙ ap (λ (t : List ℕ). record_of t >>= λ x. Some (x, 4 + n)) (take_at body rest n refl)
    ∙ ap (λ o. o >>= λ x. Some (x, 4 + n)) (record_again r text)
    ∙ ap (λ (k : ℕ). Some (r, k)) (let e : 4 + n ≡ length (big_bytes 4 n ++ body) = omega (arith, length-append (big_bytes 4 n) body) in e)

-- a record that was read behind its length
abbrev IsSized : Record × ℕ → List ℕ → Type 0
IsSized y bytes = Takes (sized_record y.0) y.1 bytes × HasText y.0 × (length (record_bytes y.0) < 2 ^ 32)

sized_written : (bytes : List ℕ) (y : Record × ℕ) → IsBytes bytes → sized_record_in bytes ≡ Some y → IsSized y bytes
sized_written bytes y fits e =
    let rest = drop 4 bytes in
    let p = bind_some (number_in 4 bytes) (λ n. if ltb (length rest) n then None else (record_of (take n rest) >>= λ r. Some (r, 4 + n))) y e in
    let n = p.0 in
    let number = four_written bytes n fits p.1 in
    elim (ltb (length rest) n) as (λ t. ltb (length rest) n ≡ t → (if t then None else (record_of (take n rest) >>= λ r. Some (r, 4 + n))) ≡ Some y → IsSized y bytes) [
      | true ↦ λ _ h. absurd (none-some y h)
      | false ↦ λ q h.
          let enough = ltb-false (length rest) n q in
          let s = bind_some (record_of (take n rest)) (λ r. Some (r, 4 + n)) y h in
          let is = record_written (take n rest) s.0 s.1 in
          let count : length (record_bytes s.0) ≡ n = ap (λ (t : List ℕ). length t) (sym is.0) ∙ (let l : length (take n rest) ≡ n = omega (arith, length-take n rest, enough) in l) in
          let body : Takes (record_bytes s.0) n rest = record { parts = sym (take-append-drop n rest) ∙ ap (λ (t : List ℕ). t ++ drop n rest) is.0; count = sym count } in
          let whole = takes_then (big_bytes 4 n) (record_bytes s.0) bytes 4 n number.0 body in
          let sized : Takes (sized_record s.0) (4 + n) bytes = subst (λ (k : ℕ). Takes (big_bytes 4 k ++ record_bytes s.0) (4 + n) bytes) (sym count) whole in
          subst (λ (x : Record × ℕ). IsSized x bytes) (same_Some (s.0, 4 + n) y s.2) (sized, is.1, omega (arith, count, number.1))
    ] refl p.2

-- ---- a change

put_again : (k : Key) (r : Record) (rest : List ℕ) → IsWritable k → HasText r → length (record_bytes r) < 2 ^ 32 → put_in ((key_bytes k ++ sized_record r) ++ rest) ≡ Some (change_at k (Some r), length (bytes_of k (Some r)))
put_again k r rest w text fits =
    let key = key_bytes k in
    let sized = sized_record r in
    let tail = sized ++ rest in
    let counts : 1 + length key + length sized ≡ length (1 ∷ (key ++ sized)) = omega (arith, length-append key sized) in
    ap put_in (append_assoc key sized rest)
    ∙ ap (λ o. o >>= λ x. sized_record_in (drop x.1 (key ++ tail)) >>= λ y. Some (change_at x.0 (Some y.0), 1 + x.1 + y.1)) (key_again k tail w)
    ∙ ap (λ (t : List ℕ). sized_record_in t >>= λ y. Some (change_at k (Some y.0), 1 + length key + y.1)) (drop_at key tail (length key) refl)
    ∙ ap (λ o. o >>= λ y. Some (change_at k (Some y.0), 1 + length key + y.1)) (sized_again r rest text fits)
    ∙ ap (λ (n : ℕ). Some (change_at k (Some r), n)) counts

delete_again : (k : Key) (rest : List ℕ) → IsWritable k → delete_in (key_bytes k ++ rest) ≡ Some (change_at k None, length (bytes_of k None))
delete_again k rest w =
    let counts : 1 + length (key_bytes k) ≡ length (2 ∷ key_bytes k) = omega arith in
    ap (λ o. o >>= λ x. Some (change_at x.0 None, 1 + x.1)) (key_again k rest w) ∙ ap (λ (n : ℕ). Some (change_at k None, n)) counts

again_at : (k : Key) (now : Option Record) (rest : List ℕ) → IsWritable k → Fits now → change_in (bytes_of k now ++ rest) ≡ Some (change_at k now, length (bytes_of k now))
again_at k None rest w f = delete_again k rest w
again_at k (Some r) rest w f = put_again k r rest w f.0 f.1

pub change_again : (c : Change) (rest : List ℕ) → IsWritableChange c → change_in (change_bytes c ++ rest) ≡ Some (c, length (change_bytes c))
change_again c rest w = again_at c.key c.now rest w.key w.fits

-- a change that was read
abbrev pub IsChange : Change × ℕ → List ℕ → Type 0
IsChange y bytes = Takes (change_bytes y.0) y.1 bytes × IsWritableChange y.0

-- a byte before what was read
behind : (b : ℕ) (text bs : List ℕ) (n m : ℕ) → m ≡ suc n → Takes text n bs → Takes (b ∷ text) m (b ∷ bs)
behind b text bs n m e t = subst (λ (k : ℕ). Takes (b ∷ text) k (b ∷ bs)) (sym e) (record { parts = ap (λ (x : List ℕ). b ∷ x) t.parts; count = ap suc t.count })

put_written : (bytes : List ℕ) (y : Change × ℕ) → IsBytes bytes → put_in bytes ≡ Some y → IsChange y (1 ∷ bytes)
put_written bytes y fits e =
    let p = bind_some (key_in bytes) (λ k. sized_record_in (drop k.1 bytes) >>= λ r. Some (change_at k.0 (Some r.0), 1 + k.1 + r.1)) y e in
    let k = p.0 in
    let q = bind_some (sized_record_in (drop k.1 bytes)) (λ r. Some (change_at k.0 (Some r.0), 1 + k.1 + r.1)) y p.2 in
    let r = q.0 in
    let key = key_written bytes k fits p.1 in
    let sized = sized_written (drop k.1 bytes) r (bytes_drop k.1 bytes fits) q.1 in
    let whole = behind 1 (key_bytes k.0 ++ sized_record r.0) bytes (k.1 + r.1) (1 + k.1 + r.1) (omega arith) (takes_then (key_bytes k.0) (sized_record r.0) bytes k.1 r.1 key.0 sized.0) in
    let writable : IsWritableChange (change_at k.0 (Some r.0)) = record { key = key.1; fits = (sized.1, sized.2) } in
    subst (λ (x : Change × ℕ). IsChange x (1 ∷ bytes)) (same_Some (change_at k.0 (Some r.0), 1 + k.1 + r.1) y q.2) (whole, writable)

delete_written : (bytes : List ℕ) (y : Change × ℕ) → IsBytes bytes → delete_in bytes ≡ Some y → IsChange y (2 ∷ bytes)
delete_written bytes y fits e =
    let p = bind_some (key_in bytes) (λ k. Some (change_at k.0 None, 1 + k.1)) y e in
    let k = p.0 in
    let key = key_written bytes k fits p.1 in
    let whole = behind 2 (key_bytes k.0) bytes k.1 (1 + k.1) (omega arith) key.0 in
    let writable : IsWritableChange (change_at k.0 None) = record { key = key.1; fits = tt } in
    subst (λ (x : Change × ℕ). IsChange x (2 ∷ bytes)) (same_Some (change_at k.0 None, 1 + k.1) y p.2) (whole, writable)

pub change_written : (bytes : List ℕ) (y : Change × ℕ) → IsBytes bytes → change_in bytes ≡ Some y → IsChange y bytes
change_written [] y fits e = absurd (none-some y e)
change_written (b ∷ bs) y fits e =
    elim (eqb b 1) as (λ t. eqb b 1 ≡ t → (if t then put_in bs else if b == 2 then delete_in bs else None) ≡ Some y → IsChange y (b ∷ bs)) [
      | true ↦ λ q h. subst (λ (x : ℕ). IsChange y (x ∷ bs)) (sym (eqb-true b 1 q)) (put_written bs y fits.1 h)
      | false ↦ λ _ h. elim (eqb b 2) as (λ t. eqb b 2 ≡ t → (if t then delete_in bs else None) ≡ Some y → IsChange y (b ∷ bs)) [
        | true ↦ λ q g. subst (λ (x : ℕ). IsChange y (x ∷ bs)) (sym (eqb-true b 2 q)) (delete_written bs y fits.1 g)
        | false ↦ λ _ g. absurd (none-some y g)
      ] refl h
    ] refl e

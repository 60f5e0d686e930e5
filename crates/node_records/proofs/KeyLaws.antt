-- The bytes of a key: what is written is read again, what is read was written so; a valid key is one that its bytes tell.
use Rattle.std.proofs.Common.{◌≡◌, ℕ, zero, suc, ◌+◌, ◌<◌, ◌/◌, ◌%◌, Bool, true, false, cond, ◌&&◌, not, nat_le, ltb, eqb, ◌==◌, List, [], ◌∷◌, ◌++◌, length, take, drop, Some, None, refl, sym, ap, subst, ◌∙◌, append_assoc, arith, length-append, lt-ltb, ltb-true, ⊎_elim}
use Rattle.std.proofs.Math.Utf8.{encode, encodes}
use Rattle.std.proofs.lemmas.Bool.{eqb-true, eqb-false}
use Rattle.std.proofs.lemmas.List.{drop_at, take_at}
use Rattle.std.proofs.lemmas.Option.{same_Some, cond_some}
use Rattle.std.proofs.lemmas.Str.{IsUtf8-nil, is_utf8-from_IsUtf8, IsUtf8-from_is_utf8, encodes-chars}
use Rattle.std.specs.Prelude.{if◌then◌else◌}
use Rattle.std.specs.List.{AllByRecursion, list_all, position, position_or_len}
use Rattle.std.specs.Str.{chars, is_utf8}
use Rattle.tree_model.specs.declared.key.Key.{Key}
use Rattle.tree_model.specs.Keys.{IsKeyName, IsValidKey, key_at}
use Rattle.tree_model.specs.Limits.{most_name_bytes}
use Rattle.tree_model.specs.Names.{Name, is_start_char, is_name_char, begins_name, are_name_chars, is_name}
use Rattle.node_records.specs.Reads.{◌>>=◌, Takes, text_of}
use Rattle.outside_traits.specs.Bytes.{IsBytes}
use Rattle.node_records.specs.Labels.{label_bytes, label_in}
use Rattle.node_records.specs.Keys.{key_bytes, name_in, key_in, IsWritable}
use Rattle.node_records.proofs.ReadLaws.{bind_some, takes_then, both}
use Rattle.node_records.proofs.LabelLaws.{label_again, label_written}

abbrev pub NoZero : List ℕ → Type 0
NoZero bytes = AllByRecursion (λ b. 0 < b) bytes

abbrev is_zero : ℕ → Bool
is_zero b = b == 0

not_zero : (b : ℕ) → 0 < b → is_zero b ≡ false
not_zero b h = elim (eqb b 0) as (λ t. eqb b 0 ≡ t → t ≡ false) [
  | true ↦ λ q. let z : b ≡ 0 = eqb-true b 0 q in absurd (omega (arith, z, h))
  | false ↦ λ _. refl
] refl

-- the first 00 stands behind the name
first_zero : (n rest : List ℕ) → NoZero n → position_or_len is_zero (n ++ 0 ∷ rest) ≡ length n
first_zero [] rest h = refl
first_zero (b ∷ n) rest h = ap (λ t. cond (not t) (1 + position_or_len is_zero (n ++ 0 ∷ rest)) 0) (not_zero b h.0) ∙ let again = first_zero n rest h.1 in omega (arith, again)

pub name_again : (n rest : List ℕ) → is_utf8 n ≡ true → NoZero n → name_in (n ++ 0 ∷ rest) ≡ Some (n, length n + 1)
name_again n rest utf8 h =
    let place = first_zero n rest h in
    let long : ltb (length n) (length (n ++ 0 ∷ rest)) ≡ true = lt-ltb _ _ (omega (arith, length-append n (0 ∷ rest))) in
    let found : position is_zero (n ++ 0 ∷ rest) ≡ Some (length n) = ap (λ (k : ℕ). cond (ltb k (length (n ++ 0 ∷ rest))) (Some k) None) place ∙ ap (λ t. cond t (Some (length n)) None) long in
    ap (λ r. r >>= λ k. text_of (take k (n ++ 0 ∷ rest)) >>= λ name. Some (name, k + 1)) found
    ∙ ap (λ (t : List ℕ). text_of t >>= λ name. Some (name, length n + 1)) (take_at n (0 ∷ rest) (length n) refl)
    ∙ ap (λ b. (if b then Some n else None) >>= λ name. Some (name, length n + 1)) utf8

pub key_again : (k : Key) (rest : List ℕ) → IsWritable k → key_in (key_bytes k ++ rest) ≡ Some (k, length (key_bytes k))
key_again k rest w =
    let label = label_bytes k.label in
    let name = k.name ++ 0 ∷ [] in
    let tail = k.name ++ 0 ∷ rest in
    let grouped : key_bytes k ++ rest ≡ label ++ tail = append_assoc label name rest ∙ ap (λ (t : List ℕ). label ++ t) (append_assoc k.name (0 ∷ []) rest) in
    let counts : length label + (length k.name + 1) ≡ length (label ++ name) = omega (arith, length-append label name, length-append k.name (0 ∷ [])) in
    ap key_in grouped
    ∙ ap (λ r. r >>= λ l. name_in (drop l.1 (label ++ tail)) >>= λ n. Some (key_at l.0 n.0, l.1 + n.1)) (label_again k.label tail w.label)
    ∙ ap (λ (t : List ℕ). name_in t >>= λ n. Some (key_at k.label n.0, length label + n.1)) (drop_at label tail (length label) refl)
    ∙ ap (λ r. r >>= λ n. Some (key_at k.label n.0, length label + n.1)) (name_again k.name rest w.utf8 w.no_zero)
    ∙ ap (λ (c : ℕ). Some (k, c)) counts

-- ---- what is read was written so

-- what stands before the first 00 has none
pub record IsCutAt (n : ℕ) (bytes : List ℕ) : Type 0 where
  pub parts : bytes ≡ take n bytes ++ 0 ∷ drop (n + 1) bytes
  pub no_zero : NoZero (take n bytes)
  pub count : length (take n bytes) ≡ n

cut_at_zero : (bytes : List ℕ) → position_or_len is_zero bytes < length bytes → IsCutAt (position_or_len is_zero bytes) bytes
cut_at_zero [] h = absurd (omega (arith, h))
cut_at_zero (b ∷ bs) h =
    elim (eqb b 0) as (λ t. eqb b 0 ≡ t → cond (not t) (1 + position_or_len is_zero bs) 0 < length (b ∷ bs) → IsCutAt (cond (not t) (1 + position_or_len is_zero bs) 0) (b ∷ bs)) [
      | true ↦ λ q _. let z : b ≡ 0 = eqb-true b 0 q in record { parts = ap (λ (x : ℕ). x ∷ bs) z; no_zero = tt; count = refl }
      | false ↦ λ q g.
          let n = position_or_len is_zero bs in
          let rest = cut_at_zero bs (omega (arith, g)) in
          let nonzero = eqb-false b 0 q in
          let next : 1 + n ≡ suc n = omega arith in
          let further : suc n + 1 ≡ suc (n + 1) = omega arith in
          let here : IsCutAt (suc n) (b ∷ bs) = record {
            parts = ap (λ (t : List ℕ). b ∷ t) rest.parts ∙ ap (λ (k : ℕ). b ∷ (take n bs ++ 0 ∷ drop k (b ∷ bs))) (sym further);
            no_zero = (omega (arith, nonzero), rest.no_zero);
            count = ap suc rest.count;
          } in
          subst (λ (k : ℕ). IsCutAt k (b ∷ bs)) (sym next) here
    ] refl h

-- a name that was read
pub record IsName (y : Name × ℕ) (bytes : List ℕ) : Type 0 where
  pub takes : Takes (y.0 ++ 0 ∷ []) y.1 bytes
  pub utf8 : is_utf8 y.0 ≡ true
  pub no_zero : NoZero y.0

-- the name before the first 00
named : (bytes name : List ℕ) (n : ℕ) (y : Name × ℕ) → IsCutAt n bytes → is_utf8 (take n bytes) ≡ true → take n bytes ≡ name → Some (name, n + 1) ≡ Some y → IsName y bytes
named bytes name n y cut utf8 same e =
    let read : IsName (take n bytes, n + 1) bytes = record {
      takes = record { parts = cut.parts ∙ sym (append_assoc (take n bytes) (0 ∷ []) (drop (n + 1) bytes)); count = omega (arith, length-append (take n bytes) (0 ∷ []), cut.count) };
      utf8 = utf8;
      no_zero = cut.no_zero;
    } in
    subst (λ (x : Name × ℕ). IsName x bytes) (same_Some (name, n + 1) y e) (subst (λ (t : Name). IsName (t, n + 1) bytes) same read)

pub name_written : (bytes : List ℕ) (y : Name × ℕ) → name_in bytes ≡ Some y → IsName y bytes
name_written bytes y e =
    let p = bind_some (position is_zero bytes) (λ n. text_of (take n bytes) >>= λ name. Some (name, n + 1)) y e in
    let n = p.0 in
    let g = cond_some (ltb (position_or_len is_zero bytes) (length bytes)) (position_or_len is_zero bytes) n p.1 in
    let q = bind_some (text_of (take n bytes)) (λ name. Some (name, n + 1)) y p.2 in
    let u = cond_some (is_utf8 (take n bytes)) (take n bytes) q.0 q.1 in
    named bytes q.0 n y (subst (λ (k : ℕ). IsCutAt k bytes) g.1 (cut_at_zero bytes (ltb-true _ _ g.0))) u.0 u.1 q.2

pub key_written : (bytes : List ℕ) (y : Key × ℕ) → IsBytes bytes → key_in bytes ≡ Some y → Takes (key_bytes y.0) y.1 bytes × IsWritable y.0
key_written bytes y fits e =
    let p = bind_some (label_in bytes) (λ l. name_in (drop l.1 bytes) >>= λ n. Some (key_at l.0 n.0, l.1 + n.1)) y e in
    let l = p.0 in
    let q = bind_some (name_in (drop l.1 bytes)) (λ n. Some (key_at l.0 n.0, l.1 + n.1)) y p.2 in
    let n = q.0 in
    let label = label_written bytes l fits p.1 in
    let name = name_written (drop l.1 bytes) n q.1 in
    let writable : IsWritable (key_at l.0 n.0) = record { label = label.1; utf8 = name.utf8; no_zero = name.no_zero } in
    subst (λ (x : Key × ℕ). Takes (key_bytes x.0) x.1 bytes × IsWritable x.0) (same_Some (key_at l.0 n.0, l.1 + n.1) y q.2) (takes_then (label_bytes l.0) (n.0 ++ 0 ∷ []) bytes l.1 n.1 label.0 name.takes, writable)

-- ---- valid keys

name_char : (c : ℕ) → is_name_char c ≡ true → 0 < c
unfolding is_name_char is_start_char
name_char zero h = cc
name_char (suc c) h = omega arith

encode_no_zero : (c : ℕ) → 0 < c → NoZero (encode c)
unfolding encode
encode_no_zero c h =
    elim (ltb c 128) as (λ t. NoZero (cond t (c ∷ []) (cond (ltb c 2048) ((192 + c / 64) ∷ (128 + c % 64) ∷ []) (cond (ltb c 65536) ((224 + c / 4096) ∷ (128 + c / 64 % 64) ∷ (128 + c % 64) ∷ []) ((240 + c / 262144) ∷ (128 + c / 4096 % 64) ∷ (128 + c / 64 % 64) ∷ (128 + c % 64) ∷ []))))) [
      | true ↦ (h, tt)
      | false ↦ elim (ltb c 2048) as (λ t. NoZero (cond t ((192 + c / 64) ∷ (128 + c % 64) ∷ []) (cond (ltb c 65536) ((224 + c / 4096) ∷ (128 + c / 64 % 64) ∷ (128 + c % 64) ∷ []) ((240 + c / 262144) ∷ (128 + c / 4096 % 64) ∷ (128 + c / 64 % 64) ∷ (128 + c % 64) ∷ [])))) [
        | true ↦ (omega arith, (omega arith, tt))
        | false ↦ elim (ltb c 65536) as (λ t. NoZero (cond t ((224 + c / 4096) ∷ (128 + c / 64 % 64) ∷ (128 + c % 64) ∷ []) ((240 + c / 262144) ∷ (128 + c / 4096 % 64) ∷ (128 + c / 64 % 64) ∷ (128 + c % 64) ∷ []))) [
          | true ↦ (omega arith, (omega arith, (omega arith, tt)))
          | false ↦ (omega arith, (omega arith, (omega arith, (omega arith, tt))))
        ]
      ]
    ]

no_zero_append : (xs ys : List ℕ) → NoZero xs → NoZero ys → NoZero (xs ++ ys)
no_zero_append [] ys h g = g
no_zero_append (x ∷ xs) ys h g = (h.0, no_zero_append xs ys h.1 g)

encodes_no_zero : (cs : List ℕ) → list_all is_name_char cs ≡ true → NoZero (encodes cs)
encodes_no_zero [] h = tt
encodes_no_zero (c ∷ cs) h =
    let p = both (is_name_char c) (list_all is_name_char cs) h in
    no_zero_append (encode c) (encodes cs) (encode_no_zero c (name_char c p.0)) (encodes_no_zero cs p.1)

-- what a Name's bytes are
name_writable : (n : Name) → is_name n ≡ true → (is_utf8 n ≡ true) × NoZero n
unfolding is_name
name_writable n h =
    let a = both (nat_le (length n) most_name_bytes) (is_utf8 n && are_name_chars (chars n)) h in
    let b = both (is_utf8 n) (are_name_chars (chars n)) a.1 in
    let c = both (begins_name (chars n)) (list_all is_name_char (chars n)) b.1 in
    (b.0, subst NoZero (encodes-chars n (IsUtf8-from_is_utf8 n b.0)) (encodes_no_zero (chars n) c.1))

key_name_writable : (n : Name) → IsKeyName n → (is_utf8 n ≡ true) × NoZero n
key_name_writable n named = ⊎_elim (λ empty. subst (λ (x : Name). (is_utf8 x ≡ true) × NoZero x) (sym empty) (is_utf8-from_IsUtf8 [] IsUtf8-nil, tt)) (λ name. name_writable n name) named

pub valid_writable : (k : Key) → IsValidKey k → IsWritable k
valid_writable k h = let n = key_name_writable k.name h.name in record { label = h.label; utf8 = n.0; no_zero = n.1 }

-- The entries of a map follow one another as the rules of entries want it, and hold the map.
use Rattle.std.proofs.Common.{◌≡◌, ◌≤◌, ◌<◌, ◌==◌, ℕ, zero, suc, ◌+◌, ◌*◌, Bool, true, false, cond, ltb, nat_le, List, [], ◌∷◌, ◌++◌, length, take, drop, Option, Some, None, refl, sym, ap, subst, ◌∙◌, arith, append_assoc, length-append, length-take, length-drop}
use Rattle.std.proofs.lemmas.Bool.{eq-eqb, leb-true, leb-false, lt-ltb, and_from}
use Rattle.std.proofs.lemmas.List.{take-append-drop}
use Rattle.std.specs.List.{AllByRecursion}
use Rattle.std.specs.Ordering.{is_lt, is_eq}
use Rattle.std.specs.Prelude.{if◌then◌else◌, Result, Ok, is_some}
use Rattle.tree_model.specs.declared.key.Key.{Key}
use Rattle.tree_model.specs.declared.record.Record.{Record}
use Rattle.tree_model.specs.declared.record.Record.TheVariants.{Document, Element, Text, Attr}
use Rattle.tree_model.specs.Entries.{Entries, Sorted, Above}
use Rattle.tree_model.specs.Keys.{key_cmp}
use Rattle.tree_model.proofs.Keys.{key_itself}
use Rattle.node_records.specs.Entries.{entry_at, flag_of, is_chunk, chunk_head, entry_bytes, IsWritableEntry}
use Rattle.node_records.specs.Keys.{key_bytes, IsWritable}
use Rattle.node_records.specs.Records.{record_bytes, record_of}
use Rattle.node_records.specs.declared.entries.Entry.{Entry}
use Rattle.node_records.proofs.RecordLaws.{record_again}
use Rattle.node_pages.specs.Chunks.{chunks_from, chunks_of, all_chunks, one_more, records_behind, records_in}
use Rattle.node_pages.specs.CutReads.{IsCuttable}
use Rattle.node_pages.specs.Filling.{room}
use Rattle.node_pages.specs.Following.{hand_of, bytes_of, chunks_in, goes, hand_after, IsWhole, Runs}
use Rattle.node_pages.specs.Scanning.{Scanned, rises, goes_on, with_chunk, after_chunk, after_entry, after_entries, and_then, broken}
use Rattle.node_pages.specs.declared.scan.Part.{Part}

-- ---- the scan goes over entries that follow one another

-- the second state is behind entries that the first was before, and these follow
pub record Ran (s t : Scanned) (more : List Entry) : Type 0 where
  pub starts : t.starts ≡ s.starts
  pub next : t.next ≡ s.next
  pub roomy : t.roomy ≡ s.roomy
  pub runs : Runs t.last (hand_of t.part) more

pub goes_hand : (last : Option Key) (part : Option Part) (e : Entry) → goes_on last part e ≡ goes last (hand_of part) e.key e.chunk
goes_hand last None e = refl
goes_hand last (Some p) e = refl

pub chunk_bytes_hand : (n : ℕ) (part : Option Part) (bytes : List ℕ) → (with_chunk n part bytes).bytes ≡ bytes_of (hand_of part) ++ bytes
chunk_bytes_hand n None bytes = refl
chunk_bytes_hand n (Some p) bytes = refl

pub chunk_hand : (n : ℕ) (part : Option Part) (bytes : List ℕ) → hand_of (Some (with_chunk n part bytes)) ≡ Some (bytes_of (hand_of part) ++ bytes, chunks_in (hand_of part) + 1)
chunk_hand n None bytes = refl
chunk_hand n (Some p) bytes = refl

one_chunk : (s : Scanned) (k : Key) (p : Part) (h : Option (List ℕ × ℕ)) (last : Bool) (bytes : List ℕ) (more : List Entry)
    → p.bytes ≡ bytes_of h ++ bytes → hand_of (Some p) ≡ Some (bytes_of h ++ bytes, chunks_in h + 1) → IsWhole h last bytes → Runs (Some k) (hand_after h last bytes) more
    → (t : Scanned) × (after_chunk (record s { last = Some k }) p last ≡ Ok t) × Ran s t more
one_chunk s k p h true bytes more all hand whole runs =
    let t : Scanned = record s { last = Some k; part = None } in (
      t,
      ap (λ (b : Bool). if b then Ok t else broken (record s { last = Some k }) p.page) (ap (λ (bs : List ℕ). is_some (record_of bs)) all ∙ whole),
      record { starts = refl; next = refl; roomy = refl; runs = runs },
    )
one_chunk s k p h false bytes more all hand whole runs = (
  record s { last = Some k; part = Some p },
  refl,
  record { starts = refl; next = refl; roomy = refl; runs = subst (λ (g : Option (List ℕ × ℕ)). Runs (Some k) g more) (sym hand) runs },
)

one_entry : (s : Scanned) (e : Entry) (more : List Entry) → Runs s.last (hand_of s.part) (e ∷ more) → (t : Scanned) × (after_entry s e ≡ Ok t) × Ran s t more
one_entry s e more runs =
    let p = with_chunk s.next s.part e.bytes in
    let c = one_chunk s e.key p (hand_of s.part) e.last e.bytes more (chunk_bytes_hand s.next s.part e.bytes) (chunk_hand s.next s.part e.bytes) runs.1 runs.2 in (
      c.0,
      ap (λ (b : Bool). if b then after_chunk (record s { last = Some e.key }) p e.last else broken s s.next) (goes_hand s.last s.part e ∙ runs.0) ∙ c.1,
      c.2,
    )

pub entries_run : (es more : List Entry) (s : Scanned) → Runs s.last (hand_of s.part) (es ++ more) → (t : Scanned) × (after_entries s es ≡ Ok t) × Ran s t more
entries_run [] more s runs = (s, refl, record { starts = refl; next = refl; roomy = refl; runs = runs })
entries_run (e ∷ es) more s runs =
    let a = one_entry s e (es ++ more) runs in
    let b = entries_run es more a.0 a.2.runs in (
      b.0,
      ap (λ (r : Result Scanned ℕ). and_then r (λ t. after_entries t es)) a.1 ∙ b.1,
      record { starts = b.2.starts ∙ a.2.starts; next = b.2.next ∙ a.2.next; roomy = b.2.roomy ∙ a.2.roomy; runs = b.2.runs },
    )

-- ---- the entries of a map follow one another

joined_again : (so_far bytes : List ℕ) → (so_far ++ take 1_024 bytes) ++ drop 1_024 bytes ≡ so_far ++ bytes
joined_again so_far bytes = append_assoc so_far (take 1_024 bytes) (drop 1_024 bytes) ∙ ap (λ (b : List ℕ). so_far ++ b) (take-append-drop 1_024 bytes)

same_key : (k : Key) (c d : ℕ) → d ≡ c → goes (Some k) (Some ([], d + 1)) k (c + 1) ≡ true
same_key k c d is = and_from (is_eq (key_cmp k k)) ((c + 1) == (d + 1)) (ap is_eq (key_itself k)) (eq-eqb (c + 1) (d + 1) (omega (arith, is)))

chunks_run : (n : ℕ) (k : Key) (c : ℕ) (bytes : List ℕ) (r : Record) (last : Option Key) (h : Option (List ℕ × ℕ)) (more : List Entry)
    → goes last h k c ≡ true → chunks_in h ≡ c → record_of (bytes_of h ++ bytes) ≡ Some r → Runs (Some k) None more → Runs last h (chunks_from n k c bytes ++ more)
chunks_run zero k c bytes r last h more go count whole runs = (go, ap is_some whole, runs)
chunks_run (suc n) k c bytes r last h more go count whole runs = elim (nat_le (length bytes) 1_024) as (λ b.
    Runs last h (cond b (entry_at k c true bytes ∷ []) (entry_at k c false (take 1_024 bytes) ∷ chunks_from n k (c + 1) (drop 1_024 bytes)) ++ more)) [
      | true ↦ (go, ap is_some whole, runs)
      | false ↦ (
        go,
        tt,
        chunks_run n k (c + 1) (drop 1_024 bytes) r (Some k) (Some (bytes_of h ++ take 1_024 bytes, chunks_in h + 1)) more
            (same_key k c (chunks_in h) count) (ap (λ m. m + 1) count) (ap record_of (joined_again (bytes_of h) bytes) ∙ whole) runs,
      )
    ]

abbrev RisesFrom : Option Key → Entries → Type 0
RisesFrom last [] = Unit {0}
RisesFrom last (e ∷ es) = rises last e.0 ≡ true

next_rises : (k : Key) (es : Entries) → AllByRecursion (Above k) es → RisesFrom (Some k) es
next_rises k [] above = tt
next_rises k (e ∷ es) above = ap is_lt above.0

pub map_runs : (es : Entries) (last : Option Key) → RisesFrom last es → Sorted es → AllByRecursion IsCuttable es → Runs last None (all_chunks es)
map_runs [] last first sorted cut = refl
map_runs (e ∷ es) last first sorted cut =
    chunks_run (length (record_bytes e.1)) e.0 0 (record_bytes e.1) e.1 last None (all_chunks es)
    (and_from (rises last e.0) (0 == 0) first refl) refl (record_again e.1 cut.0.text) (map_runs es (Some e.0) (next_rises e.0 es sorted.0) sorted.1 cut.1)

pub map_runs_first : (es : Entries) → Sorted es → AllByRecursion IsCuttable es → Runs None None (all_chunks es)
map_runs_first [] sorted cut = refl
map_runs_first (e ∷ es) sorted cut = map_runs (e ∷ es) None refl sorted cut

-- ---- they hold the map

chunks_hold : (n : ℕ) (k : Key) (c : ℕ) (bytes : List ℕ) (r : Record) (so_far : List ℕ) (more : List Entry)
    → record_of (so_far ++ bytes) ≡ Some r → records_behind so_far (chunks_from n k c bytes ++ more) ≡ (k, r) ∷ records_behind [] more
chunks_hold zero k c bytes r so_far more whole = ap (λ (o : Option Record). one_more k o (records_behind [] more)) whole
chunks_hold (suc n) k c bytes r so_far more whole = elim (nat_le (length bytes) 1_024) as (λ b.
    records_behind so_far (cond b (entry_at k c true bytes ∷ []) (entry_at k c false (take 1_024 bytes) ∷ chunks_from n k (c + 1) (drop 1_024 bytes)) ++ more) ≡ (k, r) ∷ records_behind [] more) [
      | true ↦ ap (λ (o : Option Record). one_more k o (records_behind [] more)) whole
      | false ↦ chunks_hold n k (c + 1) (drop 1_024 bytes) r (so_far ++ take 1_024 bytes) more (ap record_of (joined_again so_far bytes) ∙ whole)
    ]

pub map_held : (es : Entries) → AllByRecursion IsCuttable es → records_in (all_chunks es) ≡ es
map_held [] cut = refl
map_held (e ∷ es) cut =
    chunks_hold (length (record_bytes e.1)) e.0 0 (record_bytes e.1) e.1 [] (all_chunks es) (record_again e.1 cut.0.text)
    ∙ ap (λ (xs : Entries). e ∷ xs) (map_held es cut.1)

-- ---- they are read again, and fit on a page

pub record IsPlaced (e : Entry) : Type 0 where
  pub writable : IsWritableEntry e
  pub short : length (entry_bytes e) ≤ room

placed : (k : Key) (c : ℕ) (last : Bool) (bytes : List ℕ) → IsWritable k → length (key_bytes k) ≤ 7_161 → c < 65_536 → length bytes ≤ 1_024 → is_chunk (flag_of last) (length bytes) ≡ true
    → IsPlaced (entry_at k c last bytes)
placed k c last bytes w short few within is =
    let e = entry_at k c last bytes in
    record {
      writable = record { key = w; chunk = omega (arith, few); bytes = is };
      short = omega (arith, short, within, length-append (key_bytes k) (chunk_head e ++ bytes), length-append (chunk_head e) bytes);
    }

chunks_placed : (n : ℕ) (k : Key) (c : ℕ) (bytes : List ℕ) → IsWritable k → length (key_bytes k) ≤ 7_161 → 1 ≤ length bytes → length bytes ≤ n → c * 1_024 + length bytes ≤ 67_108_864
    → AllByRecursion IsPlaced (chunks_from n k c bytes)
chunks_placed zero k c bytes w short some fuel few = absurd (omega (arith, some, fuel))
chunks_placed (suc n) k c bytes w short some fuel few = elim (nat_le (length bytes) 1_024) as (λ b. nat_le (length bytes) 1_024 ≡ b
    → AllByRecursion IsPlaced (cond b (entry_at k c true bytes ∷ []) (entry_at k c false (take 1_024 bytes) ∷ chunks_from n k (c + 1) (drop 1_024 bytes)))) [
      | true ↦ λ h.
          let within = leb-true (length bytes) 1_024 h in
          (placed k c true bytes w short (omega (arith, some, few)) within (and_from (ltb 0 (length bytes)) (nat_le (length bytes) 1_024) (lt-ltb 0 (length bytes) (omega (arith, some))) h), tt)
      | false ↦ λ h.
          let more = leb-false (length bytes) 1_024 h in
          let taken : length (take 1_024 bytes) ≡ 1_024 = omega (arith, length-take 1_024 bytes, more) in
          let left = length-drop 1_024 bytes in (
            placed k c false (take 1_024 bytes) w short (omega (arith, more, few)) (omega (arith, taken)) (ap (λ m. is_chunk 0 m) taken),
            chunks_placed n k (c + 1) (drop 1_024 bytes) w short (omega (arith, left, more)) (omega (arith, left, fuel, more)) (omega (arith, left, few, more)),
          )
    ] refl

all_append : {A : Type 0} (P : A → Type 0) (xs ys : List A) → AllByRecursion P xs → AllByRecursion P ys → AllByRecursion P (xs ++ ys)
all_append P [] ys a b = b
all_append P (x ∷ xs) ys a b = (a.0, all_append P xs ys a.1 b)

some_byte : (r : Record) → 1 ≤ length (record_bytes r)
some_byte Document = omega arith
some_byte (Element n) = omega arith
some_byte (Text d) = omega arith
some_byte (Attr v) = omega arith

pub map_placed : (es : Entries) → AllByRecursion IsCuttable es → AllByRecursion IsPlaced (all_chunks es)
map_placed [] cut = tt
map_placed (e ∷ es) cut =
    let few = cut.0.chunks in
    all_append IsPlaced (chunks_of e) (all_chunks es)
    (chunks_placed (length (record_bytes e.1)) e.0 0 (record_bytes e.1) cut.0.key cut.0.short (some_byte e.1) (omega arith) (omega (arith, few))) (map_placed es cut.1)

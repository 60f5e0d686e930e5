-- Pages one behind the other, up to the first that isn't whole, stand for what the pages of these numbers do.
use Rattle.std.proofs.Common.{◌≡◌, ◌≤◌, ◌<◌, ◌==◌, ℕ, zero, suc, ◌+◌, ◌-◌, ◌*◌, Bool, true, false, cond, List, [], ◌∷◌, ◌++◌, length, take, drop, map, replicate, Option, Some, None, ⊎_elim, refl, sym, ap, subst, ◌∙◌, arith, length-append}
use Rattle.std.proofs.lemmas.Bool.{cases_lt, eq-eqb, eqb-true}
use Rattle.std.proofs.lemmas.List.{length-replicate, length-take, length-drop, take-append-le, take_all}
use Rattle.std.proofs.Math.Seq.{drop-append-add}
use Rattle.std.specs.Cmp.Lexicographic.{pointwise}
use Rattle.std.specs.List.{AllByRecursion}
use Rattle.std.specs.Prelude.{nat_eq, Result, Ok, Err}
use Rattle.byteorder.specs.Endian.{big_bytes}
use Rattle.byteorder.specs.Numbers.{length-bytes_high_first}
use Rattle.page_store.specs.Pages.{page_of}
use Rattle.tree_model.specs.Entries.{Entries}
use Rattle.node_records.specs.declared.entries.Entry.{Entry}
use Rattle.node_records.proofs.ReadLaws.{both}
use Rattle.node_pages.specs.Chunks.{records_in}
use Rattle.node_pages.specs.DirectoryPages.{Compared, at_end, after_directory_page, at_directory_end, compared_with, none_compared}
use Rattle.node_pages.specs.EntryForm.{entry_read}
use Rattle.node_pages.specs.Filling.{filled, page_bytes, page_with, written}
use Rattle.node_pages.specs.PageFiles.{contents_of_file, file_page}
use Rattle.node_pages.specs.PageStarts.{start_behind}
use Rattle.node_pages.specs.PageZero.{Header, count_of, header_in}
use Rattle.node_pages.specs.PagesIn.{compared, entries_from, items_or_none, pages_in, read_behind, read_with, scanned, starts_in}
use Rattle.node_pages.specs.Reading.{page_in}
use Rattle.node_pages.specs.Scanning.{Scanned, after_items, after_page, and_then, fault_at_end, least, no_pages, unless}
use Rattle.node_pages.specs.declared.page_start.PageStart.{PageStart}
use Rattle.node_pages.proofs.CountLaws.{pages_same}
use Rattle.node_pages.proofs.FileLaws.{page_whole}
use Rattle.store_contents.proofs.WholePages.{header_is}
use Rattle.recovery.specs.inside.Fronts.{front}

-- ---- pages in a row

first_of_row : (first rest : List ℕ) → length first ≡ 8_192 → page_of 0 (first ++ rest) ≡ first
first_of_row first rest whole = take-append-le 8_192 first rest (omega (arith, whole)) ∙ take_all 8_192 first (omega (arith, whole))

later_of_row : (first rest : List ℕ) (k : ℕ) → length first ≡ 8_192 → page_of (suc k) (first ++ rest) ≡ page_of k rest
later_of_row first rest k whole =
    let at : 8_192 * suc k ≡ length first + 8_192 * k = omega (arith, whole) in
    ap (λ (n : ℕ). take 8_192 (drop n (first ++ rest))) at ∙ ap (λ (bytes : List ℕ). take 8_192 bytes) (drop-append-add first rest (8_192 * k))

module _ (page : ℕ → List ℕ) where
  -- how many of so many pages from this one on are whole, up to the first that isn't
  abbrev whole_pages : ℕ → ℕ → ℕ
  whole_pages n zero = 0
  whole_pages n (suc left) = cond (length (page n) == 8_192) (suc (whole_pages (n + 1) left)) 0

  front_long : (left n : ℕ) → length (front page n left) ≡ 8_192 * whole_pages n left
  front_long zero n = refl
  front_long (suc left) n = (elim (length (page n) == 8_192) as (λ b. (length (page n) == 8_192) ≡ b
      → length (cond b (page n ++ front page (n + 1) left) []) ≡ 8_192 * cond b (suc (whole_pages (n + 1) left)) 0) [
        | true ↦ λ h. omega (arith, length-append (page n) (front page (n + 1) left), eqb-true (length (page n)) 8_192 h, front_long left (n + 1))
        | false ↦ λ h. refl
      ]) refl

  few_whole : (left n : ℕ) → whole_pages n left ≤ left
  few_whole zero n = omega arith
  few_whole (suc left) n = elim (length (page n) == 8_192) as (λ b. cond b (suc (whole_pages (n + 1) left)) 0 ≤ suc left) [
    | true ↦ omega (arith, few_whole left (n + 1))
    | false ↦ omega arith
  ]

  -- each of them is the row's
  row_page : (left n k : ℕ) → k < whole_pages n left → page_of k (front page n left) ≡ page (n + k)
  row_page zero n k less = absurd (omega (arith, less))
  row_page (suc left) n zero less = (elim (length (page n) == 8_192) as (λ b. (length (page n) == 8_192) ≡ b → 0 < cond b (suc (whole_pages (n + 1) left)) 0
      → page_of 0 (cond b (page n ++ front page (n + 1) left) []) ≡ page (n + 0)) [
        | true ↦ λ h some. let here : n ≡ n + 0 = omega arith in first_of_row (page n) (front page (n + 1) left) (eqb-true (length (page n)) 8_192 h) ∙ ap page here
        | false ↦ λ h some. absurd (omega (arith, some))
      ]) refl less
  row_page (suc left) n (suc k) less = (elim (length (page n) == 8_192) as (λ b. (length (page n) == 8_192) ≡ b → suc k < cond b (suc (whole_pages (n + 1) left)) 0
      → page_of (suc k) (cond b (page n ++ front page (n + 1) left) []) ≡ page (n + suc k)) [
        | true ↦ λ h more.
            let there : n + 1 + k ≡ n + suc k = omega arith in
            later_of_row (page n) (front page (n + 1) left) k (eqb-true (length (page n)) 8_192 h) ∙ row_page left (n + 1) k (omega (arith, more)) ∙ ap page there
        | false ↦ λ h more. absurd (omega (arith, more))
      ]) refl less

  -- and the one behind them isn't whole
  stops : (left n : ℕ) → whole_pages n left < left → length (page (n + whole_pages n left)) ≡ 8_192 → ⊥
  stops zero n less whole = absurd (omega (arith, less))
  stops (suc left) n less whole = (elim (length (page n) == 8_192) as (λ b. (length (page n) == 8_192) ≡ b → cond b (suc (whole_pages (n + 1) left)) 0 < suc left
      → length (page (n + cond b (suc (whole_pages (n + 1) left)) 0)) ≡ 8_192 → ⊥) [
        | true ↦ λ h more long.
            let there : n + suc (whole_pages (n + 1) left) ≡ n + 1 + whole_pages (n + 1) left = omega arith in
            stops left (n + 1) (omega (arith, more)) (ap (λ (m : ℕ). length (page m)) (sym there) ∙ long)
        | false ↦ λ h more long.
            let here : n ≡ n + 0 = omega arith in
            let no_way : true ≡ false = sym (eq-eqb (length (page n)) 8_192 (ap (λ (m : ℕ). length (page m)) here ∙ long)) ∙ h in
            cc
      ]) refl less whole

-- ---- pages that are the same up to one that isn't whole

no_items : (bytes : List ℕ) → length bytes < 8_192 → page_in entry_read bytes ≡ None
no_items bytes short = (elim (page_in entry_read bytes) as (λ o. page_in entry_read bytes ≡ o → o ≡ None) [
  | None ↦ λ h. refl
  | Some es ↦ λ h. absurd (omega (arith, short, page_whole bytes es h))
]) refl

lengths_same : (xs ys : List ℕ) → pointwise nat_eq xs ys ≡ true → length xs ≡ length ys
lengths_same [] [] h = refl
lengths_same [] (y ∷ ys) h = cc
lengths_same (x ∷ xs) [] h = cc
lengths_same (x ∷ xs) (y ∷ ys) h = ap suc (lengths_same xs ys (both (nat_eq x y) (pointwise nat_eq xs ys) h).1)

-- each of these pages has the bytes of a whole one
abbrev AreLong : List (List ℕ) → Type 0
AreLong pages = AllByRecursion (λ page. 8_192 ≤ length page) pages

long_page : (count : ℕ) (bytes : List ℕ) → 8_192 ≤ length (page_with count bytes)
unfolding page_with
long_page count bytes =
    let zeros : List ℕ = replicate (8_190 - length bytes) 0 in
    omega (arith, length-bytes_high_first 2 count, length-append (big_bytes 2 count) (bytes ++ zeros), length-append bytes zeros, length-replicate {A = ℕ} (8_190 - length bytes) 0)

each_long : (pages : List (List PageStart)) → AreLong (map (page_bytes start_behind) pages)
each_long [] = tt
each_long (page ∷ pages) = (long_page (length page) (written start_behind None page), each_long pages)

short_fails : (c : Compared) (wanted : List (List ℕ)) (bytes : List ℕ) → AreLong wanted → length bytes < 8_192 → compared_with c wanted bytes ≡ Err c.next
short_fails c [] bytes long short = refl
short_fails c (want ∷ wanted) bytes long short = (elim (pointwise nat_eq bytes want) as (λ b. pointwise nat_eq bytes want ≡ b
    → cond b (Ok (record c { wanted = wanted; next = c.next + 1; before = c.next })) (Err c.next) ≡ Err c.next) [
      | true ↦ λ h. absurd (omega (arith, long.0, short, lengths_same bytes want h))
      | false ↦ λ h. refl
    ]) refl

long_on : (c : Compared) (wanted : List (List ℕ)) (bytes : List ℕ) (d : Compared) → AreLong wanted → compared_with c wanted bytes ≡ Ok d → AreLong d.wanted
long_on c [] bytes d long e = cc
long_on c (want ∷ wanted) bytes d long e = (elim (pointwise nat_eq bytes want) as (λ b. cond b (Ok (record c { wanted = wanted; next = c.next + 1; before = c.next })) (Err c.next) ≡ Ok d → AreLong d.wanted) [
  | true ↦ λ is. let same : record c { wanted = wanted; next = c.next + 1; before = c.next } ≡ d = cc in subst (λ (x : Compared). AreLong x.wanted) same long.1
  | false ↦ λ is. cc
]) e

and_then_same : {A B : Type 0} (r : Result A ℕ) (k m : A → Result B ℕ) → ((a : A) → r ≡ Ok a → k a ≡ m a) → and_then r k ≡ and_then r m
and_then_same (Ok a) k m same = same a refl
and_then_same (Err n) k m same = refl

module _ (f g : ℕ → List ℕ) (w : ℕ) (same : (k : ℕ) → k < w → f k ≡ g k) (short_f : length (f w) < 8_192) (short_g : length (g w) < 8_192) where
  page_fails : (p : ℕ → List ℕ) (n : ℕ) (s : Scanned) → length (p w) < 8_192 → n ≡ w → after_page s (p n) ≡ after_items s None
  page_fails p n s short here = ap (λ (m : ℕ). after_page s (p m)) here ∙ ap (after_items s) (no_items (p w) short)

  directory_fails : (p : ℕ → List ℕ) (n : ℕ) (c : Compared) → AreLong c.wanted → length (p w) < 8_192 → n ≡ w → after_directory_page c (p n) ≡ Err c.next
  directory_fails p n c long short here = ap (λ (m : ℕ). after_directory_page c (p m)) here ∙ short_fails c c.wanted (p w) long short

  scanned_alike : (left n : ℕ) (s : Scanned) → n ≤ w → scanned f n left s ≡ scanned g n left s
  scanned_alike zero n s to = refl
  scanned_alike (suc left) n s to = ⊎_elim
      (λ (less : n < w).
      ap (λ (b : List ℕ). and_then (after_page s b) (λ t. scanned f (n + 1) left t)) (same n less)
      ∙ and_then_same (after_page s (g n)) (λ t. scanned f (n + 1) left t) (λ t. scanned g (n + 1) left t) (λ t is. scanned_alike left (n + 1) t (omega (arith, less))))
      (λ (past : w ≤ n).
      let here : n ≡ w = omega (arith, to, past) in
      ap (λ (r : Result Scanned ℕ). and_then r (λ t. scanned f (n + 1) left t)) (page_fails f n s short_f here)
      ∙ sym (ap (λ (r : Result Scanned ℕ). and_then r (λ t. scanned g (n + 1) left t)) (page_fails g n s short_g here)))
      (cases_lt n w)

  scanned_fails : (left n : ℕ) (s : Scanned) → n ≤ w → w < n + left → (m : ℕ) × (scanned g n left s ≡ Err m)
  scanned_fails zero n s to below = absurd (omega (arith, to, below))
  scanned_fails (suc left) n s to below = ⊎_elim
      (λ (less : n < w). elim (after_page s (g n)) as (λ r. (m : ℕ) × (and_then r (λ t. scanned g (n + 1) left t) ≡ Err m)) [
        | Ok t ↦ scanned_fails left (n + 1) t (omega (arith, less)) (omega (arith, below))
        | Err m ↦ (m, refl)
      ])
      (λ (past : w ≤ n).
      let here : n ≡ w = omega (arith, to, past) in
      subst (λ (r : Result Scanned ℕ). (m : ℕ) × (and_then r (λ t. scanned g (n + 1) left t) ≡ Err m)) (sym (page_fails g n s short_g here)) (least s.roomy s.next, refl))
      (cases_lt n w)

  compared_alike : (left n : ℕ) (c : Compared) → AreLong c.wanted → n ≤ w → compared f n left c ≡ compared g n left c
  compared_alike zero n c long to = refl
  compared_alike (suc left) n c long to = ⊎_elim
      (λ (less : n < w).
      ap (λ (b : List ℕ). and_then (after_directory_page c b) (λ t. compared f (n + 1) left t)) (same n less)
      ∙ and_then_same (after_directory_page c (g n)) (λ t. compared f (n + 1) left t) (λ t. compared g (n + 1) left t)
      (λ d is. compared_alike left (n + 1) d (long_on c c.wanted (g n) d long is) (omega (arith, less))))
      (λ (past : w ≤ n).
      let here : n ≡ w = omega (arith, to, past) in
      ap (λ (r : Result Compared ℕ). and_then r (λ t. compared f (n + 1) left t)) (directory_fails f n c long short_f here)
      ∙ sym (ap (λ (r : Result Compared ℕ). and_then r (λ t. compared g (n + 1) left t)) (directory_fails g n c long short_g here)))
      (cases_lt n w)

  entries_alike : (left n : ℕ) → n + left ≤ w → entries_from f n left ≡ entries_from g n left
  entries_alike zero n below = refl
  entries_alike (suc left) n below =
      ap (λ (b : List ℕ). items_or_none (page_in entry_read b) ++ entries_from f (n + 1) left) (same n (omega (arith, below)))
      ∙ ap (λ (es : List Entry). items_or_none (page_in entry_read (g n)) ++ es) (entries_alike left (n + 1) (omega (arith, below)))

  -- the directory behind data pages that were scanned
  abbrev directory_behind : (ℕ → List ℕ) → Header → Scanned → Result (List PageStart) ℕ
  directory_behind p h s = and_then (at_end s) (λ c. and_then (compared p (1 + h.data_pages) h.directory_pages c) (λ d. at_directory_end d))

  behind_alike : (h : Header) (s : Scanned) → h.data_pages < w → directory_behind f h s ≡ directory_behind g h s
  behind_alike h s below = elim (fault_at_end s.part s.roomy) as (λ (o : Option ℕ).
      and_then (unless o (none_compared s.next s.starts)) (λ c. and_then (compared f (1 + h.data_pages) h.directory_pages c) (λ d. at_directory_end d))
      ≡ and_then (unless o (none_compared s.next s.starts)) (λ c. and_then (compared g (1 + h.data_pages) h.directory_pages c) (λ d. at_directory_end d))) [
        | None ↦ ap (λ (r : Result Compared ℕ). and_then r (λ d. at_directory_end d))
            (compared_alike h.directory_pages (1 + h.data_pages) (none_compared s.next s.starts) (each_long (filled start_behind s.starts)) (omega (arith, below)))
        | Some n ↦ refl
      ]

  starts_alike : (h : Header) → h.data_pages < w → starts_in f h ≡ starts_in g h
  starts_alike h below =
      ap (λ (r : Result Scanned ℕ). and_then r (directory_behind f h)) (scanned_alike h.data_pages 1 no_pages (omega (arith, below)))
      ∙ and_then_same (scanned g 1 h.data_pages no_pages) (directory_behind f h) (directory_behind g h) (λ s is. behind_alike h s below)

  -- what is read of the pages behind the scan of the data pages
  abbrev read_from : (ℕ → List ℕ) → Header → Result Scanned ℕ → Result (Entries × ℕ) ℕ
  read_from p h r = and_then (and_then r (directory_behind p h)) (λ starts. Ok (records_in (entries_from p 1 h.data_pages), h.base))

  read_alike : (h : Header) → 0 < w → read_with f h ≡ read_with g h
  read_alike h some = ⊎_elim
      (λ (below : h.data_pages < w).
      ap (λ (r : Result (List PageStart) ℕ). and_then r (λ starts. Ok (records_in (entries_from f 1 h.data_pages), h.base))) (starts_alike h below)
      ∙ ap (λ (es : List Entry). and_then (starts_in g h) (λ starts. Ok (records_in es, h.base))) (entries_alike h.data_pages 1 (omega (arith, below))))
      (λ (past : w ≤ h.data_pages).
      let fails = scanned_fails h.data_pages 1 no_pages (omega (arith, some)) (omega (arith, past)) in
      ap (read_from f h) (scanned_alike h.data_pages 1 no_pages (omega (arith, some)) ∙ fails.1) ∙ sym (ap (read_from g h) fails.1))
      (cases_lt h.data_pages w)

-- ---- pages in a row stand for what they are

has_bytes : (file : List ℕ) → 0 < length file → contents_of_file file ≡ pages_in (file_page file)
has_bytes [] some = absurd (omega (arith, some))
has_bytes (b ∷ bs) some = refl

-- the pages below the count of page 0
pub front_stands : (page : ℕ → List ℕ) (h : Header) (count : ℕ) → header_in (page 0) ≡ Some h → length (page 0) ≡ 8_192 → count ≡ count_of h → ((n : ℕ) → length (page n) ≤ 8_192)
    → contents_of_file (front page 0 count) ≡ pages_in page
front_stands page h count said first_whole counted within =
    let w = whole_pages page 0 count in
    let row = front page 0 count in
    let g = file_page row in
    let long = front_long page count 0 in
    let same : (k : ℕ) → k < w → page k ≡ g k = λ k less. sym (row_page page count 0 k less ∙ ap page (zero_first k)) in
    let some : 0 < w = some_whole count first_whole (omega (arith, counted)) in
    let header : header_in (g 0) ≡ Some h = ap header_in (sym (same 0 some)) ∙ said in
    has_bytes row (omega (arith, long, some)) ∙ ⊎_elim
    (λ (missing : w < count).
    let short : length (page w) < 8_192 = not_whole (length (page w)) (within w) (λ whole. stops page count 0 missing (ap (λ (m : ℕ). length (page m)) (zero_first w) ∙ whole)) in
    let short_row : length (g w) < 8_192 = omega (arith, long, length-take 8_192 (drop (8_192 * w) row), length-drop (8_192 * w) row) in
    ap (read_behind g) header ∙ sym (read_alike page g w same short short_row h some) ∙ sym (ap (read_behind page) said))
    (λ (all : count ≤ w).
    sym (pages_same page g (λ n below. same n (below_all n (subst (λ (x : Header). n < count_of x) (header_is (page 0) h said) below) all))))
    (cases_lt w count)
  where
    zero_first : (k : ℕ) → 0 + k ≡ k
    zero_first k = omega arith

    some_whole : (n : ℕ) → length (page 0) ≡ 8_192 → 0 < n → 0 < whole_pages page 0 n
    some_whole zero whole none = absurd (omega (arith, none))
    some_whole (suc n) whole some = subst (λ (b : Bool). 0 < cond b (suc (whole_pages page (0 + 1) n)) 0) (sym (eq-eqb (length (page 0)) 8_192 whole)) (omega arith)

    not_whole : (n : ℕ) → n ≤ 8_192 → (n ≡ 8_192 → ⊥) → n < 8_192
    not_whole n le other = omega (arith, le, other)

    below_all : (n : ℕ) → n < count_of h → count ≤ whole_pages page 0 count → n < whole_pages page 0 count
    below_all n below all = omega (arith, below, all, counted)

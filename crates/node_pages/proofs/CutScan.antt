-- The pages that a map is cut into are read as this map again.
use Rattle.std.proofs.Common.{◌≡◌, ◌≤◌, ◌<◌, ◌==◌, ℕ, zero, suc, ◌+◌, ◌-◌, ◌^◌, Bool, true, false, ◌&&◌, nat_le, List, [], ◌∷◌, ◌++◌, length, get_or, take, drop, map, replicate, Option, Some, None, refl, sym, ap, subst, ◌∙◌, arith, append_assoc, append-nil, length-append}
use Rattle.std.proofs.lemmas.Bool.{eq-eqb, leb-true, and_from}
use Rattle.std.proofs.lemmas.List.{length-map, length-replicate}
use Rattle.std.specs.Cmp.Lexicographic.{pointwise}
use Rattle.std.specs.List.{AllByRecursion}
use Rattle.std.specs.Option.{option_or}
use Rattle.std.specs.Prelude.{if◌then◌else◌, nat_eq, Result, Ok, Err}
use Rattle.byteorder.specs.Endian.{big_bytes, big_number}
use Rattle.byteorder.specs.Numbers.{big_number-reads_back}
use Rattle.tree_model.specs.Entries.{Entries, Sorted}
use Rattle.node_records.specs.Entries.{entry_bytes}
use Rattle.node_records.specs.declared.entries.Entry.{Entry}
use Rattle.node_records.proofs.EntryLaws.{entry_again}
use Rattle.node_pages.specs.Chunks.{all_chunks, records_in}
use Rattle.node_pages.specs.CutReads.{IsCuttable, page_among}
use Rattle.node_pages.specs.Cuts.{most_pages, data_of, directory_of, header_for, file_of, cut_of}
use Rattle.node_pages.specs.DirectoryPages.{Compared, none_compared, at_end, after_directory_page, at_directory_end}
use Rattle.node_pages.specs.EntryForm.{entry_behind, entry_read}
use Rattle.node_pages.specs.Filling.{room, last_behind, written, joined, page_bytes, NextIsTooLong, AreFilled}
use Rattle.node_pages.specs.Lengths.{some_entry}
use Rattle.node_pages.specs.PageStarts.{start_of, start_behind, starts_from}
use Rattle.node_pages.specs.PagesIn.{items_or_none, scanned, compared, starts_in, entries_from, read_with, read_behind, pages_in}
use Rattle.node_pages.specs.PageZero.{Header, count_of, header_in, header_of, is_page_zero, page_magic, page_zero}
use Rattle.node_pages.specs.Reading.{are_zeros, page_in}
use Rattle.node_pages.specs.Scanning.{Scanned, no_pages, unless, fault_at_end, has_room, roomy_before, with_start, with_end, after_items, after_page, and_then}
use Rattle.node_pages.specs.declared.cut.Cut.{Cut}
use Rattle.node_pages.specs.declared.cut.Cut.TheVariants.{Pages, TooMany}
use Rattle.node_pages.specs.declared.page_start.PageStart.{PageStart}
use Rattle.node_pages.specs.declared.scan.Part.{Part}
use Rattle.node_pages.proofs.CutRuns.{IsPlaced, entries_run, map_held, map_placed, map_runs_first}
use Rattle.node_pages.specs.Following.{Runs, hand_of}
use Rattle.node_pages.proofs.ReadLaws.{ReadBack, page_read}
use Rattle.node_pages.proofs.RuleLaws.{filled_keep, joined_filled}

-- ---- a page of entries

entries_back : (before : Option Entry) (es : List Entry) → AllByRecursion IsPlaced es → ReadBack entry_behind entry_read before es
entries_back before [] placed = tt
entries_back before (e ∷ es) placed = (λ rest. entry_again e rest placed.0.writable, entries_back (Some e) es placed.1)

few_entries : (before : Option Entry) (es : List Entry) → length es ≤ length (written entry_behind before es)
few_entries before [] = omega arith
few_entries before (e ∷ es) =
    let one = some_entry e in
    let others = few_entries (Some e) es in
    omega (arith, one, others, length-append (entry_bytes e) (written entry_behind (Some e) es))

page_again : (e : Entry) (es : List Entry) → AllByRecursion IsPlaced (e ∷ es) → length (written entry_behind None (e ∷ es)) ≤ room
    → page_in entry_read (page_bytes entry_behind (e ∷ es)) ≡ Some (e ∷ es)
page_again e es placed within =
    let few = few_entries None (e ∷ es) in
    page_read entry_behind entry_read e es (entries_back None (e ∷ es) placed) within (omega (arith, within, few))

-- ---- the data pages

front_all : {A : Type 0} (P : A → Type 0) (xs ys : List A) → AllByRecursion P (xs ++ ys) → AllByRecursion P xs
front_all P [] ys all = tt
front_all P (x ∷ xs) ys all = (all.0, front_all P xs ys all.1)

back_all : {A : Type 0} (P : A → Type 0) (xs ys : List A) → AllByRecursion P (xs ++ ys) → AllByRecursion P ys
back_all P [] ys all = all
back_all P (x ∷ xs) ys all = back_all P xs ys all.1

-- the pages with these numbers, from n on, have these bytes
abbrev ArePages : (ℕ → List ℕ) → ℕ → List (List ℕ) → Type 0
ArePages page n [] = Unit {0}
ArePages page n (b ∷ bs) = (page n ≡ b) × ArePages page (n + 1) bs

-- the page before, if there is one, has no room for the next one's first entry
abbrev IsUsed : Option ℕ → List (List Entry) → Type 0
IsUsed used [] = Unit {0}
IsUsed used ([] ∷ ps) = Unit {0}
IsUsed used ((e ∷ es) ∷ ps) = has_room used (length (entry_bytes e)) ≡ false

is_used : (n : ℕ) (before : Option Entry) (ps : List (List Entry)) → NextIsTooLong entry_behind n before ps → IsUsed (Some n) ps
is_used n before [] next = tt
is_used n before ([] ∷ ps) next = tt
is_used n before ((e ∷ es) ∷ ps) next = next

none_used : (ps : List (List Entry)) → IsUsed None ps
none_used [] = tt
none_used ([] ∷ ps) = tt
none_used ((e ∷ es) ∷ ps) = refl

no_hand : (part : Option Part) → hand_of part ≡ None → part ≡ None
no_hand None h = refl
no_hand (Some p) h = cc

-- what is known behind these pages, of which the first has this number
record Through (s t : Scanned) (n : ℕ) (ps : List (List Entry)) : Type 0 where
  starts : t.starts ≡ s.starts ++ starts_from n ps
  roomy : t.roomy ≡ None
  part : t.part ≡ None

pages_scanned : (page : ℕ → List ℕ) (ps : List (List Entry)) (n : ℕ) (s : Scanned) → s.next ≡ n → s.roomy ≡ None → IsUsed s.used ps → AreFilled entry_behind ps
    → AllByRecursion IsPlaced (joined ps) → Runs s.last (hand_of s.part) (joined ps) → ArePages page n (map (page_bytes entry_behind) ps)
    → (t : Scanned) × (scanned page n (length ps) s ≡ Ok t) × Through s t n ps
pages_scanned page [] n s next roomy used are placed runs pages = (s, refl, record { starts = sym (append-nil s.starts); roomy = roomy; part = no_hand s.part runs })
pages_scanned page ([] ∷ ps) n s next roomy used are placed runs pages = absurd are
pages_scanned page ((e ∷ es) ∷ ps) n s next roomy used are placed runs pages =
    let p : List Entry = e ∷ es in
    let taken : ℕ = length (written entry_behind None p) in
    let read : page_in entry_read (page n) ≡ Some p = ap (λ (b : List ℕ). page_in entry_read b) pages.0 ∙ page_again e es (front_all IsPlaced p (joined ps) placed) are.0 in
    let run = entries_run p (joined ps) (with_start s e) runs in
    let t : Scanned = with_end taken run.0 in
    let step : after_page s (page n) ≡ Ok t = ap (λ (o : Option (List Entry)). after_items s o) read ∙ ap (λ (r : Result Scanned ℕ). and_then r (λ u. Ok (with_end taken u))) run.1 in
    let no_room : roomy_before s e ≡ None = λ i. option_or (roomy i) (if used i then Some (s.next - 1) else None) in
    let others = pages_scanned page ps (n + 1) t (ap (λ m. m + 1) (run.2.next ∙ next)) (run.2.roomy ∙ no_room) (is_used taken (last_behind (Some e) es) ps are.1) are.2
    (back_all IsPlaced p (joined ps) placed) run.2.runs pages.1 in (
      others.0,
      ap (λ (r : Result Scanned ℕ). and_then r (λ u. scanned page (n + 1) (length ps) u)) step ∙ others.1,
      record {
        starts =
            others.2.starts
            ∙ ap (λ (ss : List PageStart). ss ++ starts_from (n + 1) ps) run.2.starts
            ∙ append_assoc s.starts (start_of s.next e ∷ []) (starts_from (n + 1) ps)
            ∙ ap (λ (m : ℕ). s.starts ++ (start_of m e ∷ starts_from (n + 1) ps)) next;
        roomy = others.2.roomy;
        part = others.2.part;
      },
    )

entries_again : (page : ℕ → List ℕ) (ps : List (List Entry)) (n : ℕ) → AreFilled entry_behind ps → AllByRecursion IsPlaced (joined ps)
    → ArePages page n (map (page_bytes entry_behind) ps) → entries_from page n (length ps) ≡ joined ps
entries_again page [] n are placed pages = refl
entries_again page ([] ∷ ps) n are placed pages = absurd are
entries_again page ((e ∷ es) ∷ ps) n are placed pages =
    let p : List Entry = e ∷ es in
    let read : page_in entry_read (page n) ≡ Some p = ap (λ (b : List ℕ). page_in entry_read b) pages.0 ∙ page_again e es (front_all IsPlaced p (joined ps) placed) are.0 in
    ap (λ (o : Option (List Entry)). items_or_none o ++ entries_from page (n + 1) (length ps)) read
    ∙ ap (λ (xs : List Entry). p ++ xs) (entries_again page ps (n + 1) are.2 (back_all IsPlaced p (joined ps) placed) pages.1)

-- ---- the directory pages

same_bytes : (xs : List ℕ) → pointwise nat_eq xs xs ≡ true
same_bytes [] = refl
same_bytes (x ∷ xs) = and_from (nat_eq x x) (pointwise nat_eq xs xs) (eq-eqb x x refl) (same_bytes xs)

pages_compared : (page : ℕ → List ℕ) (ws : List (List ℕ)) (n m before : ℕ) (starts : List PageStart) → ArePages page n ws
    → (d : Compared) × (compared page n (length ws) (record { starts = starts; wanted = ws; next = m; before = before }) ≡ Ok d) × (at_directory_end d ≡ Ok starts)
pages_compared page [] n m before starts pages = (record { starts = starts; wanted = []; next = m; before = before }, refl, refl)
pages_compared page (w ∷ ws) n m before starts pages =
    let c : Compared = record { starts = starts; wanted = w ∷ ws; next = m; before = before } in
    let d : Compared = record { starts = starts; wanted = ws; next = m + 1; before = m } in
    let same : pointwise nat_eq (page n) w ≡ true = ap (λ (b : List ℕ). pointwise nat_eq b w) pages.0 ∙ same_bytes w in
    let step : after_directory_page c (page n) ≡ Ok d = ap (λ (b : Bool). if b then Ok d else Err m) same in
    let others = pages_compared page ws (n + 1) (m + 1) m starts pages.1 in (
      others.0,
      ap (λ (r : Result Compared ℕ). and_then r (λ x. compared page (n + 1) (length ws) x)) step ∙ others.1,
      others.2,
    )

-- ---- page 0

zeros : (n : ℕ) → are_zeros (replicate n 0) ≡ true
zeros zero = refl
zeros (suc n) = zeros n

four_again : (n : ℕ) (rest : List ℕ) → n < 2 ^ 32 → big_number 4 (big_bytes 4 n ++ rest) ≡ n
four_again n rest fits = big_number-reads_back 4 n rest fits

header_with : (h : Header) (z : List ℕ) → length z ≡ 8_168 → are_zeros z ≡ true → h.base < 2 ^ 32 → count_of h < 2 ^ 32
    → header_in (page_magic ++ (big_bytes 4 h.base ++ (big_bytes 4 (count_of h) ++ (big_bytes 4 h.data_pages ++ (big_bytes 4 h.directory_pages ++ z))))) ≡ Some h
header_with h z long are base few =
    let fourth = big_bytes 4 h.directory_pages ++ z in
    let third = big_bytes 4 h.data_pages ++ fourth in
    let second = big_bytes 4 (count_of h) ++ third in
    let page = page_magic ++ (big_bytes 4 h.base ++ second) in
    let base_is : big_number 4 (drop 8 page) ≡ h.base = four_again h.base second base in
    let count_is : big_number 4 (drop 12 page) ≡ count_of h = four_again (count_of h) third few in
    let datas_is : big_number 4 (drop 16 page) ≡ h.data_pages = four_again h.data_pages fourth (omega (arith, few)) in
    let directories_is : big_number 4 (drop 20 page) ≡ h.directory_pages = four_again h.directory_pages z (omega (arith, few)) in
    let of : header_of page ≡ h = λ i. record { base = base_is i; data_pages = datas_is i; directory_pages = directories_is i } in
    let whole : (length page == 8_192) ≡ true = eq-eqb (length page) 8_192 (omega (arith, long)) in
    let sum : (big_number 4 (drop 12 page) == count_of (header_of page)) ≡ true =
    eq-eqb (big_number 4 (drop 12 page)) (count_of (header_of page)) (count_is ∙ sym (ap (λ (x : Header). count_of x) of)) in
    let is : is_page_zero page ≡ true =
    and_from (length page == 8_192) (pointwise nat_eq (take 8 page) page_magic && ((big_number 4 (drop 12 page) == count_of (header_of page)) && are_zeros (drop 24 page))) whole
    (and_from (pointwise nat_eq (take 8 page) page_magic) ((big_number 4 (drop 12 page) == count_of (header_of page)) && are_zeros (drop 24 page)) refl
    (and_from (big_number 4 (drop 12 page) == count_of (header_of page)) (are_zeros (drop 24 page)) sum are)) in
    ap (λ (b : Bool). if b then Some (header_of page) else None) is ∙ ap Some of

header_again : (h : Header) → h.base < 2 ^ 32 → count_of h < 2 ^ 32 → header_in (page_zero h) ≡ Some h
header_again h base few = header_with h (replicate 8_168 0) (length-replicate {A = ℕ} 8_168 0) (zeros 8_168) base few

-- ---- the pages among those of the file

behind_front : (front : List (List ℕ)) (x : List ℕ) (rest : List (List ℕ)) → get_or (front ++ (x ∷ rest)) (length front) [] ≡ x
behind_front [] x rest = refl
behind_front (f ∷ front) x rest = behind_front front x rest

are_among : (pages xs front back : List (List ℕ)) (n : ℕ) → pages ≡ front ++ (xs ++ back) → n ≡ length front → ArePages (page_among pages) n xs
are_among pages [] front back n parts count = tt
are_among pages (x ∷ xs) front back n parts count = (
  (λ i. get_or (parts i) (count i) []) ∙ behind_front front x (xs ++ back),
  are_among pages xs (front ++ x ∷ []) back (n + 1) (parts ∙ sym (append_assoc front (x ∷ []) (xs ++ back))) (omega (arith, count, length-append front (x ∷ []))),
)

-- ---- all of it

all_short : (es : List Entry) → AllByRecursion IsPlaced es → AllByRecursion (λ e. length (entry_behind None e) ≤ room) es
all_short [] placed = tt
all_short (e ∷ es) placed = (placed.0.short, all_short es placed.1)

file_again : (number : ℕ) (es : Entries) → number < 2 ^ 32 → Sorted es → AllByRecursion IsCuttable es → count_of (header_for number (data_of es)) < 2 ^ 32
    → pages_in (page_among (file_of number (data_of es))) ≡ Ok (es, number)
file_again number es base sorted cut few =
    let ps : List (List Entry) = data_of es in
    let placed = map_placed es cut in
    let are : AreFilled entry_behind ps = filled_keep entry_behind (all_chunks es) (all_short (all_chunks es) placed) in
    let held : joined ps ≡ all_chunks es = joined_filled entry_behind (all_chunks es) in
    let placed_there : AllByRecursion IsPlaced (joined ps) = subst (AllByRecursion IsPlaced) (sym held) placed in
    let h : Header = header_for number ps in
    let datas : List (List ℕ) = map (page_bytes entry_behind) ps in
    let directories : List (List ℕ) = map (page_bytes start_behind) (directory_of ps) in
    let starts : List PageStart = starts_from 1 ps in
    let file : List (List ℕ) = file_of number ps in
    let page : ℕ → List ℕ = page_among file in
    let datas_there : ArePages page 1 datas = are_among file datas (page_zero h ∷ []) directories 1 refl refl in
    let directories_there : ArePages page (1 + length ps) directories =
    are_among file directories (page_zero h ∷ datas) [] (1 + length ps) (ap (λ (r : List (List ℕ)). page_zero h ∷ (datas ++ r)) (sym (append-nil directories)))
    (omega (arith, length-map ps (page_bytes entry_behind))) in
    let through = pages_scanned page ps 1 no_pages refl refl (none_used ps) are placed_there (subst (Runs None None) (sym held) (map_runs_first es sorted cut)) datas_there in
    let t : Scanned = through.0 in
    let end : at_end t ≡ Ok (none_compared t.next starts) = λ i. unless (fault_at_end (through.2.part i) (through.2.roomy i)) (none_compared t.next (through.2.starts i)) in
    let others = pages_compared page directories (1 + length ps) t.next 0 starts directories_there in
    let count : length directories ≡ length (directory_of ps) = length-map (directory_of ps) (page_bytes start_behind) in
    let directory_left : Compared → Result (List PageStart) ℕ = λ c. and_then (compared page (1 + length ps) (length (directory_of ps)) c) (λ d. at_directory_end d) in
    let found : starts_in page h ≡ Ok starts =
    ap (λ (r : Result Scanned ℕ). and_then r (λ s. and_then (at_end s) directory_left)) through.1
    ∙ ap (λ (r : Result Compared ℕ). and_then r directory_left) end
    ∙ ap (λ (m : ℕ). and_then (compared page (1 + length ps) m (none_compared t.next starts)) (λ d. at_directory_end d)) (sym count)
    ∙ ap (λ (r : Result Compared ℕ). and_then r (λ d. at_directory_end d)) others.1
    ∙ others.2 in
    let entries : entries_from page 1 (length ps) ≡ all_chunks es = entries_again page ps 1 are placed_there datas_there ∙ held in
    let all : read_with page h ≡ Ok (es, number) =
    ap (λ (r : Result (List PageStart) ℕ). and_then r (λ ss. Ok (records_in (entries_from page 1 (length ps)), number))) found
    ∙ ap (λ (xs : List Entry). Ok (records_in xs, number)) entries
    ∙ ap (λ (xs : Entries). Ok (xs, number)) (map_held es cut) in
    ap (λ (o : Option Header). read_behind page o) (header_again h base few) ∙ all

pages_of : Cut → List (List ℕ)
pages_of (Pages pages) = pages
pages_of (TooMany n) = []

cut_parts : (b : Bool) (file pages : List (List ℕ)) (n : ℕ) → (if b then Pages file else TooMany n) ≡ Pages pages → (b ≡ true) × (file ≡ pages)
unfolding pages_of
cut_parts true file pages n is = (refl, ap pages_of is)
cut_parts false file pages n is = cc

pub cut_again : (number : ℕ) (es : Entries) (pages : List (List ℕ)) → number < 2 ^ 32 → Sorted es → AllByRecursion IsCuttable es → cut_of number (data_of es) ≡ Pages pages
    → pages_in (page_among pages) ≡ Ok (es, number)
cut_again number es pages base sorted cut is =
    let count = count_of (header_for number (data_of es)) in
    let p = cut_parts (nat_le count most_pages) (file_of number (data_of es)) pages count is in
    let few = leb-true count most_pages p.0 in
    subst (λ (ps : List (List ℕ)). pages_in (page_among ps) ≡ Ok (es, number)) p.1 (file_again number es base sorted cut (omega (arith, few)))

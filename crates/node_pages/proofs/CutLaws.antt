-- What is cut entry by entry is the cut of all entries.
use Rattle.std.proofs.Common.{◌≡◌, ◌≤◌, ◌<◌, ℕ, ◌+◌, Bool, true, false, not, ◌||◌, ◌==◌, nat_le, cond, List, [], ◌∷◌, ◌++◌, length, map, Some, None, is_lt, refl, sym, ap, subst, ◌∙◌, arith, length-append}
use Rattle.std.proofs.lemmas.Bool.{le-leb, leb-true, ne_eqb}
use Rattle.std.specs.List.{AllByRecursion}
use Rattle.dewey_labels.specs.Labels.{root}
use Rattle.tree_model.specs.declared.key.Key.{Key}
use Rattle.tree_model.specs.Keys.{node_key}
use Rattle.tree_model.specs.Entries.{Entries, entries_above}
use Rattle.node_records.specs.declared.entries.Entry.{Entry}
use Rattle.node_records.specs.Entries.{entry_bytes}
use Rattle.node_pages.specs.declared.page_start.PageStart.{PageStart}
use Rattle.node_pages.specs.declared.cut.Cut.TheVariants.{Pages, TooMany}
use Rattle.node_pages.specs.Cuts.{most_pages, directory_of, header_for, file_of, cut_of}
use Rattle.node_pages.specs.EntryForm.{entry_behind}
use Rattle.node_pages.specs.Cutting.{Cutting, nothing_cut, with_entry, with_entries, header_now, finished, IsShort, IsStored}
use Rattle.node_pages.specs.Filling.{Fill, room, no_items, fits, filled_behind, filled, on_first, with_item, with_items, page_count, all_pages, kept, page_bytes}
use Rattle.node_pages.specs.PageStarts.{start_of, start_behind, starts_from}
use Rattle.node_pages.specs.PageZero.{Header, count_of, page_zero}
use Rattle.node_pages.proofs.FillLaws.{pages_filled, pages_counted}
use Rattle.node_pages.proofs.RuleLaws.{joined_filled}
use Rattle.node_pages.proofs.ChunkLaws.{entries_short, starts_short}

pub entries_append : (c : Cutting) (xs ys : List Entry) → with_entries c (xs ++ ys) ≡ with_entries (with_entries c xs) ys
entries_append c [] ys = refl
entries_append c (x ∷ xs) ys = entries_append (with_entry c x) xs ys

data_cut : (c : Cutting) (xs : List Entry) → (with_entries c xs).data_pages ≡ with_items entry_behind c.data_pages xs
data_cut c [] = refl
data_cut c (x ∷ xs) = data_cut (with_entry c x) xs

-- all but the first page
abbrev behind_first : List (List Entry) → List (List Entry)
behind_first [] = []
behind_first (p ∷ ps) = ps

rest_same : (x : Entry) (ps : List (List Entry)) → behind_first (on_first x ps) ≡ behind_first ps
rest_same x [] = refl
rest_same x (p ∷ ps) = refl

first_start : (n : ℕ) (x : Entry) (ps : List (List Entry)) → starts_from n (on_first x ps) ≡ start_of n x ∷ starts_from (n + 1) (behind_first ps)
first_start n x [] = refl
first_start n x (p ∷ ps) = refl

abbrev with_fit : Fill Entry → Entry → Fill Entry
with_fit f x = record f { count = f.count + 1; bytes = f.bytes ++ entry_bytes x; last = Some x }

abbrev with_page : Fill Entry → Entry → Fill Entry
with_page f x = record { most = f.most; pages = f.pages + 1; full = kept f; count = 1; bytes = entry_bytes x; last = Some x }

-- the cut after an entry, where it is told whether the page had none before and whether the entry fitted
abbrev cut_so : Cutting → Entry → Bool → Bool → Cutting
cut_so c x none y = record {
  data_pages = cond y (with_fit c.data_pages x) (with_page c.data_pages x);
  directory = cond (none || not y) (with_item start_behind c.directory (start_of (page_count (cond y (with_fit c.data_pages x) (with_page c.data_pages x))) x)) c.directory;
}

abbrev Behind : Fill Entry → List Entry → List (List Entry)
Behind f xs = filled_behind entry_behind (length f.bytes) f.last xs

directory_on : (c : Cutting) (xs : List Entry) → 0 < c.data_pages.count
    → (with_entries c xs).directory ≡ with_items start_behind c.directory (starts_from (c.data_pages.pages + 2) (behind_first (Behind c.data_pages xs)))
directory_on c [] some = refl
directory_on c (x ∷ xs) some =
    let f = c.data_pages in
    let none : (f.count == 0) ≡ false = ne_eqb f.count 0 (λ e. absurd (omega (arith, some, e))) in
    let n = f.pages + 2 in
    let fit_rest = filled_behind entry_behind (length f.bytes + length (entry_bytes x)) (Some x) xs in
    let new_rest = filled_behind entry_behind (length (entry_bytes x)) (Some x) xs in
    ap (λ b. (with_entries (cut_so c x b (fits entry_behind (length f.bytes) f.last x)) xs).directory) none
    ∙ (elim (fits entry_behind (length f.bytes) f.last x) as (λ y.
    (with_entries (cut_so c x false y) xs).directory ≡ with_items start_behind c.directory (starts_from n (behind_first (cond y (on_first x fit_rest) ([] ∷ on_first x new_rest))))) [
      | true ↦
          directory_on (cut_so c x false true) xs (omega arith)
          ∙ ap (λ m. with_items start_behind c.directory (starts_from n (behind_first (filled_behind entry_behind m (Some x) xs)))) (length-append f.bytes (entry_bytes x))
          ∙ ap (λ (ps : List (List Entry)). with_items start_behind c.directory (starts_from n ps)) (sym (rest_same x fit_rest))
      | false ↦
          let first : (f.pages + 1) + 1 ≡ n = omega arith in
          let next : (f.pages + 1) + 2 ≡ n + 1 = omega arith in
          directory_on (cut_so c x false false) xs (omega arith)
          ∙ (λ i. with_items start_behind (with_item start_behind c.directory (start_of (first i) x)) (starts_from (next i) (behind_first new_rest)))
          ∙ ap (λ (ss : List PageStart). with_items start_behind c.directory ss) (sym (first_start n x new_rest))
    ])

directory_cut : (es : List Entry) → AllByRecursion IsShort es → (with_entries nothing_cut es).directory ≡ with_items start_behind (no_items most_pages) (starts_from 1 (filled entry_behind es))
directory_cut [] short = refl
directory_cut (x ∷ xs) short =
    let rest = filled_behind entry_behind (length (entry_bytes x)) (Some x) xs in
    let fit : fits entry_behind 0 None x ≡ true = le-leb (0 + length (entry_bytes x)) room (omega (arith, (entries_short (x ∷ []) (short.0, tt)).0)) in
    ap (λ y. (with_entries (cut_so nothing_cut x true y) xs).directory) fit
    ∙ directory_on (cut_so nothing_cut x true true) xs (omega arith)
    ∙ ap (λ (ss : List PageStart). with_items start_behind (no_items most_pages) ss) (sym (first_start 1 x rest))

-- where the pages are known by their counts and bytes
known : (number : ℕ) (c : Cutting) (pages : List (List Entry)) → page_count c.data_pages ≡ length pages → page_count c.directory ≡ length (directory_of pages)
    → (length pages ≤ most_pages → all_pages c.data_pages ≡ map (page_bytes entry_behind) pages)
    → (length (directory_of pages) ≤ most_pages → all_pages c.directory ≡ map (page_bytes start_behind) (directory_of pages))
    → finished number c ≡ cut_of number pages
known number c pages entries directory data_bytes directory_bytes =
    let header : header_now number c ≡ header_for number pages = λ i. record { base = number; data_pages = entries i; directory_pages = directory i } in
    let h = header_for number pages in
    ap (λ (x : Header). cond (nat_le (count_of x) most_pages) (Pages (page_zero x ∷ (all_pages c.data_pages ++ all_pages c.directory))) (TooMany (count_of x))) header
    ∙ (elim (nat_le (count_of h) most_pages) as (λ b. nat_le (count_of h) most_pages ≡ b
    → cond b (Pages (page_zero h ∷ (all_pages c.data_pages ++ all_pages c.directory))) (TooMany (count_of h)) ≡ cond b (Pages (file_of number pages)) (TooMany (count_of h))) [
      | true ↦ λ few.
          let within = leb-true (count_of h) most_pages few in
          let a = data_bytes (omega (arith, within)) in
          let b = directory_bytes (omega (arith, within)) in
          λ i. Pages (page_zero h ∷ (a i ++ b i))
      | false ↦ λ many. refl
    ] refl)

pub cut_is : (number : ℕ) (es : List Entry) → AllByRecursion IsShort es → finished number (with_entries nothing_cut es) ≡ cut_of number (filled entry_behind es)
cut_is number es short =
    let c = with_entries nothing_cut es in
    let pages = filled entry_behind es in
    let starts = starts_from 1 pages in
    let entries = data_cut nothing_cut es in
    let directory = directory_cut es short in
    let fits = entries_short es short in
    let starts_fit = starts_short 1 pages (subst (AllByRecursion IsShort) (sym (joined_filled entry_behind es)) short) in
    known number c pages
    (ap page_count entries ∙ pages_counted entry_behind most_pages es fits)
    (ap page_count directory ∙ pages_counted start_behind most_pages starts starts_fit)
    (λ few. ap all_pages entries ∙ pages_filled entry_behind most_pages es fits few)
    (λ few. ap all_pages directory ∙ pages_filled start_behind most_pages starts starts_fit few)

-- ---- the entries of a map that stands for a tree

pub all_above : (es : Entries) → AllByRecursion IsStored es → entries_above (node_key root) es ≡ es
all_above [] stored = refl
all_above (e ∷ es) stored = ap (λ o. cond (is_lt o) (e ∷ entries_above (node_key root) es) (entries_above (node_key root) es)) stored.0.0 ∙ ap (λ (l : Entries). e ∷ l) (all_above es stored.1)

-- what lies above the root's key is the whole map
pub from_root : (k : Key) (rest es : Entries) → k ≡ node_key root → rest ≡ entries_above k es → AllByRecursion IsStored es → rest ≡ es
from_root k rest es is above stored = above ∙ ap (λ (j : Key). entries_above j es) is ∙ all_above es stored

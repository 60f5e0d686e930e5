-- Pages that break no rule have all their bytes.
use Rattle.std.proofs.Common.{◌≡◌, ◌≤◌, ◌<◌, ◌==◌, ℕ, zero, suc, ◌+◌, ◌-◌, Bool, true, false, ◌&&◌, cond, List, [], ◌∷◌, ◌++◌, length, take, drop, map, replicate, Option, Some, None, Ok, Result, Err, ⊎_elim, refl, sym, ap, subst, ◌∙◌, arith, length-append}
use Rattle.std.proofs.lemmas.Bool.{cases_lt, eqb-true}
use Rattle.std.proofs.lemmas.List.{length-replicate}
use Rattle.std.specs.Cmp.Lexicographic.{pointwise}
use Rattle.std.specs.Prelude.{nat_eq}
use Rattle.byteorder.specs.Endian.{big_bytes, big_number}
use Rattle.byteorder.specs.Numbers.{length-bytes_high_first}
use Rattle.tree_model.specs.Entries.{Entries}
use Rattle.node_records.proofs.ReadLaws.{both}
use Rattle.node_pages.specs.Filling.{filled, page_bytes, page_with, written}
use Rattle.node_pages.specs.PageRules.{KeepsRules, KeepsDataRules, DataPagesKeepRules, KeepsDirectoryRules, directory_for}
use Rattle.node_pages.specs.PageStarts.{start_behind, starts_from}
use Rattle.node_pages.specs.PageZero.{Header, count_of, header_in, header_of, is_page_zero, page_magic}
use Rattle.node_pages.specs.PagesIn.{data_pages_from, pages_in, read_behind}
use Rattle.node_pages.specs.Reading.{are_zeros}
use Rattle.node_pages.specs.declared.page_start.PageStart.{PageStart}
use Rattle.node_pages.proofs.FileLaws.{page_whole}
use Rattle.node_pages.proofs.FirstBroken.{kept_before}

-- a page is never shorter than its zeros make it
long_page : (count : ℕ) (bytes : List ℕ) → 8_192 ≤ length (page_with count bytes)
unfolding page_with
long_page count bytes =
    let zeros : List ℕ = replicate (8_190 - length bytes) 0 in
    omega (arith, length-bytes_high_first 2 count, length-append (big_bytes 2 count) (bytes ++ zeros), length-append bytes zeros, length-replicate {A = ℕ} (8_190 - length bytes) 0)

-- an item of a list that a function made
of_each : {A B : Type 0} (P : B → Type 0) (f : A → B) → ((a : A) → P (f a)) → (xs : List A) (n : ℕ) (y : B) (ys : List B) → drop n (map f xs) ≡ y ∷ ys → P y
of_each P f each [] zero y ys e = cc
of_each P f each [] (suc n) y ys e = cc
of_each P f each (x ∷ xs) zero y ys e = let same : f x ≡ y = cc in subst P same (each x)
of_each P f each (x ∷ xs) (suc n) y ys e = of_each P f each xs n y ys e

-- the header that a page 0 has
abbrev header_told : Header → Option Header → Header
header_told other None = other
header_told other (Some h) = h

if_true : (b : Bool) (h k : Header) → cond b (Some k) None ≡ Some h → (b ≡ true) × (k ≡ h)
if_true true h k e = (refl, ap (header_told h) e)
if_true false h k e = cc

-- a first page has all its bytes
zero_whole : (bytes : List ℕ) (h : Header) → header_in bytes ≡ Some h → length bytes ≡ 8_192
zero_whole bytes h e =
    let is : is_page_zero bytes ≡ true = (if_true (is_page_zero bytes) h (header_of bytes) e).0 in
    eqb-true (length bytes) 8_192
    (both (length bytes == 8_192) (pointwise nat_eq (take 8 bytes) page_magic && ((big_number 4 (drop 12 bytes) == count_of (header_of bytes)) && are_zeros (drop 24 bytes))) is).0

-- and says what it says
pub header_is : (bytes : List ℕ) (h : Header) → header_in bytes ≡ Some h → header_of bytes ≡ h
header_is bytes h e = (if_true (is_page_zero bytes) h (header_of bytes) e).1

-- pages that break no rule have a first page
header_behind : (page : ℕ → List ℕ) (o : Option Header) (held : Entries × ℕ) → read_behind page o ≡ Ok held → (h : Header) × (o ≡ Some h)
header_behind page None held e = cc
header_behind page (Some h) held e = (h, refl)

pub has_header : (page : ℕ → List ℕ) (held : Entries × ℕ) → pages_in page ≡ Ok held → (h : Header) × (header_in (page 0) ≡ Some h)
has_header page held hold = header_behind page (header_in (page 0)) held hold

module _ (page : ℕ → List ℕ) (held : Entries × ℕ) (hold : pages_in page ≡ Ok held) (h : Header) (said : header_in (page 0) ≡ Some h) where
  keeps : (n : ℕ) → KeepsRules page n
  keeps n = kept_before page (Ok held) n hold tt

  same : (n : ℕ) → (keeps n).header ≡ h
  same n = ap (header_told h) (sym (keeps n).said ∙ said)

  data_keeps : DataPagesKeepRules page h.data_pages
  data_keeps n from to =
      subst (λ (k : Header). KeepsDataRules page k.data_pages n) (same n) ((keeps n).data_page from (subst (λ (k : Header). n ≤ k.data_pages) (sym (same n)) to))

  directory_keeps : (n : ℕ) → h.data_pages < n → n < count_of h → KeepsDirectoryRules page h n
  directory_keeps n above below =
      subst (λ (k : Header). KeepsDirectoryRules page k n) (same n)
      ((keeps n).directory_page (subst (λ (k : Header). DataPagesKeepRules page k.data_pages) (sym (same n)) data_keeps)
      (subst (λ (k : Header). k.data_pages < n) (sym (same n)) above) (subst (λ (k : Header). n < count_of k) (sym (same n)) below))

  long_first : (n : ℕ) → n ≤ 0 → 8_192 ≤ length (page n)
  long_first n none = let first : n ≡ 0 = omega (arith, none) in omega (arith, zero_whole (page 0) h said, ap (λ (k : ℕ). length (page k)) first)

  long_data : (n : ℕ) → 0 < n → n ≤ h.data_pages → 8_192 ≤ length (page n)
  long_data n from to =
      let rules = data_keeps n from to in
      omega (arith, page_whole (page n) (rules.first ∷ rules.others) rules.entries)

  long_directory : (n : ℕ) → h.data_pages < n → n < count_of h → 8_192 ≤ length (page n)
  long_directory n above below =
      let rules = directory_keeps n above below in
      of_each (λ (bytes : List ℕ). 8_192 ≤ length bytes) (page_bytes start_behind) (λ starts. long_page (length starts) (written start_behind None starts))
      (filled start_behind (starts_from 1 (data_pages_from page 1 h.data_pages))) (n - (1 + h.data_pages)) (page n) rules.behind rules.given

  -- no page below the count is short
  pub long_below : (n : ℕ) → n < count_of h → 8_192 ≤ length (page n)
  long_below n below = ⊎_elim
      (λ (some : 0 < n). ⊎_elim (λ (above : h.data_pages < n). long_directory n above below) (λ (to : n ≤ h.data_pages). long_data n some to) (cases_lt h.data_pages n))
      (λ (none : n ≤ 0). long_first n none)
      (cases_lt 0 n)

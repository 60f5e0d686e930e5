-- What an opening stands on: the bytes of a page, and why it ends.
use Rattle.std.proofs.Common.{◌≡◌, ◌≤◌, ◌<◌, ℕ, zero, suc, ◌+◌, ◌-◌, ◌*◌, Bool, true, false, IsTrue, List, [], ◌∷◌, length, take, drop, refl, sym, ap, subst, ◌∙◌, arith, length-take, length-drop}
use Rattle.std.specs.Prelude.{Option, Some, None, Result, Ok, Err}
use Rattle.std.specs.Result.{IfErr, IsErrAnd}
use Rattle.std.proofs.lemmas.Option.{none-some, same_Some}
use Rattle.std.proofs.lemmas.Result.{err_from_is_err_and}
use Rattle.tree_model.specs.Entries.{Entries}
use Rattle.node_pages.proofs.FileLaws.{indexed}
use Rattle.node_pages.proofs.FirstBroken.{broken_there, file_broken, kept_before}
use Rattle.node_pages.specs.PageFiles.{Index, IsIndex, contents_of_file, file_page, index_behind, index_of_file}
use Rattle.paged_seq.specs.PagedMaps.{entries_or_none, file_entries, map_of_file, records_of, valid_entries}
use Rattle.node_pages.specs.PageZero.{Header, header_in}
use Rattle.node_pages.specs.declared.page_start.PageStart.{PageStart}
use Rattle.node_records.specs.declared.open_error.OpenError.{OpenError}
use Rattle.node_records.specs.declared.open_error.OpenError.TheVariants.{Damaged, DiskFault, NoMemory}
use Rattle.page_store.specs.Pages.{page_of}
use Rattle.node_pages.specs.DirectoryPages.{Compared, at_directory_end, at_end}
use Rattle.node_pages.specs.PagesIn.{after_pages, compared, scanned, starts_in}
use Rattle.node_pages.specs.Scanning.{Scanned, and_then, no_pages}
use Rattle.paged_seq.specs.PagedFiles.{AllPagesKeepRules, HasReason, IsFirstBroken, IsIndexOf, IsPageWith, index_at, whole_below}

take_whole : (n : ℕ) (bytes : List ℕ) → length bytes ≤ n → take n bytes ≡ bytes
take_whole zero [] h = refl
take_whole zero (b ∷ bs) h = absurd (omega arith)
take_whole (suc n) [] h = refl
take_whole (suc n) (b ∷ bs) h = ap (λ (l : List ℕ). b ∷ l) (take_whole n bs (omega (arith, h)))

-- the last bytes of a file are all that its last page has
pub tail_page : (n count : ℕ) (file : List ℕ) → count ≡ length file → count - 8_192 * n < 8_192 → drop (8_192 * n) file ≡ page_of n file
tail_page n count file is few = sym (take_whole 8_192 (drop (8_192 * n) file) (omega (arith, is, few, length-drop (8_192 * n) file)))

pub whole_page : (n count : ℕ) (file : List ℕ) → count ≡ length file → 8_192 ≤ count - 8_192 * n → length (page_of n file) ≡ 8_192
whole_page n count file is more = omega (arith, is, more, length-take 8_192 (drop (8_192 * n) file), length-drop (8_192 * n) file)

-- ---- how many pages are read

-- pages that are taken one behind the other
pub read_on : (from at to : ℕ) (file : List ℕ) (r s t : ℕ) → s + whole_below from file ≤ r + whole_below at file → t + whole_below at file ≤ s + whole_below to file → t + whole_below from file ≤ r + whole_below to file
read_on from at to file r s t so_far step = omega (arith, so_far, step)

-- no more than all
pub read_within : (from at to : ℕ) (file : List ℕ) (r s : ℕ) → at ≤ to → s + whole_below from file ≤ r + whole_below at file → s + whole_below from file ≤ r + whole_below to file
read_within from at to file r s less so_far = omega (arith, less, so_far)

-- a reason is one of something else, too
pub reason_on : (P Q : ℕ → Type 0) (C D : Type 0) → ((n : ℕ) → P n → Q n) → (C → D) → (fault : OpenError) → HasReason (IsPageWith P) C fault → HasReason (IsPageWith Q) D fault
reason_on P Q C D f h (Damaged place) r = (r.0, r.1, f r.0 r.2)
reason_on P Q C D f h DiskFault r = h r
reason_on P Q C D f h NoMemory r = r

-- ---- the first page that breaks a rule

pub first_broken : (file : List ℕ) (n : ℕ) → contents_of_file file ≡ Err n → IsFirstBroken file n
first_broken file n is =
    let pages = file_broken file n is in
    record { breaks = broken_there (file_page file) n pages; before = λ m less. kept_before (file_page file) (Err n) m pages less }

pub all_kept : (file : List ℕ) (es : Entries) (base : ℕ) → contents_of_file file ≡ Ok (es, base) → AllPagesKeepRules file
all_kept [] es base is = tt
all_kept (b ∷ bs) es base is = λ m. kept_before (file_page (b ∷ bs)) (Ok (es, base)) m is tt

-- ---- pages that are taken

module _ {S : Type 0} (after : S → List ℕ → Result S ℕ) (page : ℕ → List ℕ) where
  -- one page more was taken
  pub one_taken : (all : Result S ℕ) (n left more : ℕ) (s t : S) → left ≡ suc more → all ≡ after_pages after page n left s → after s (page n) ≡ Ok t → all ≡ after_pages after page (n + 1) more t
  one_taken all n left more s t count so_far step =
      so_far ∙ ap (λ (m : ℕ). after_pages after page n m s) count ∙ ap (λ (r : Result S ℕ). and_then r (λ u. after_pages after page (n + 1) more u)) step

  -- or it breaks a rule
  pub one_broken : (all : Result S ℕ) (n left more : ℕ) (s : S) (m : ℕ) → left ≡ suc more → all ≡ after_pages after page n left s → after s (page n) ≡ Err m → all ≡ Err m
  one_broken all n left more s m count so_far step =
      so_far ∙ ap (λ (k : ℕ). after_pages after page n k s) count ∙ ap (λ (r : Result S ℕ). and_then r (λ u. after_pages after page (n + 1) more u)) step

-- ---- errors that are handed on

-- what holds of the error holds of the answer
pub err_out : (T : Type 0) (r : Result T OpenError) (R : OpenError → Type 0) (x : OpenError) → IsErrAnd r (λ y. y ≡ x) → R x → IfErr r R
err_out T r R x is holds = let p = err_from_is_err_and r is in subst (λ (o : Result T OpenError). IfErr o R) (sym p.1) (subst R (sym p.2) holds)

-- ---- the file

behind_zero : (file : List ℕ) → 0 < length file → index_of_file file ≡ index_behind file (header_in (file_page file 0))
behind_zero [] h = absurd (omega (arith, h))
behind_zero (b ∷ bs) h = refl

pub no_header : (file : List ℕ) → 0 < length file → header_in (file_page file 0) ≡ None → index_of_file file ≡ Err 0
no_header file some none = behind_zero file some ∙ ap (λ (o : Option Header). index_behind file o) none

pub no_starts : (file : List ℕ) (h : Header) (n : ℕ) → 0 < length file → header_in (file_page file 0) ≡ Some h → starts_in (file_page file) h ≡ Err n → index_of_file file ≡ Err n
no_starts file h n some is broken =
    behind_zero file some ∙ ap (λ (o : Option Header). index_behind file o) is ∙ ap (λ (r : Result (List PageStart) ℕ). and_then r (λ starts. Ok (index_at h.base starts))) broken

pub with_starts : (file : List ℕ) (h : Header) (starts : List PageStart) → 0 < length file → header_in (file_page file 0) ≡ Some h → starts_in (file_page file) h ≡ Ok starts → index_of_file file ≡ Ok (index_at h.base starts)
with_starts file h starts some is found =
    behind_zero file some ∙ ap (λ (o : Option Header). index_behind file o) is ∙ ap (λ (r : Result (List PageStart) ℕ). and_then r (λ ss. Ok (index_at h.base ss))) found

-- the directory pages break a rule behind data pages that break none
pub starts_broken : (page : ℕ → List ℕ) (h : Header) (s : Scanned) (c : Compared) (m : ℕ) → scanned page 1 h.data_pages no_pages ≡ Ok s → at_end s ≡ Ok c → compared page (1 + h.data_pages) h.directory_pages c ≡ Err m → starts_in page h ≡ Err m
starts_broken page h s c m scans ends compares =
    let behind : Compared → Result (List PageStart) ℕ = λ (k : Compared). and_then (compared page (1 + h.data_pages) h.directory_pages k) (λ d. at_directory_end d) in
    ap (λ (r : Result Scanned ℕ). and_then r (λ k. and_then (at_end k) behind)) scans ∙ ap (λ (r : Result Compared ℕ). and_then r behind) ends ∙ ap (λ (r : Result Compared ℕ). and_then r (λ d. at_directory_end d)) compares

-- ---- a file that is open

pub open_pages : (is_known : Bool) (file : List ℕ) (i : Index) → IsIndexOf is_known file i → IsTrue is_known → IsIndex (file_page file) i.starts
open_pages is_known file i is known = (indexed file i (is.index known)).pages

pub open_contents : (file : List ℕ) (i : Index) → index_of_file file ≡ Ok i → contents_of_file file ≡ Ok (file_entries file, i.base)
open_contents file i is =
    let contents = (indexed file i is).contents in
    contents ∙ ap (λ (es : Entries). let r : Result (Entries × ℕ) ℕ = Ok (es, i.base) in r) (sym (ap entries_or_none contents))

pub open_entries : (is_known : Bool) (file : List ℕ) (i : Index) → IsIndexOf is_known file i → IsTrue is_known → file_entries file ≡ records_of (file_page file) (length i.starts)
open_entries is_known file i is known = ap entries_or_none (indexed file i (is.index known)).contents

pub map_told : (is_known : Bool) (file : List ℕ) (es : Entries) → map_of_file is_known file ≡ Some es → IsTrue is_known × (valid_entries (file_entries file) ≡ es)
map_told true file es is = (refl, same_Some (valid_entries (file_entries file)) es is)
map_told false file es is = absurd (none-some es is)

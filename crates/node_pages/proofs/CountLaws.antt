-- Only the pages below the count are read.
use Rattle.std.proofs.Common.{◌≡◌, ◌<◌, ℕ, zero, suc, ◌+◌, Bool, true, false, List, ◌++◌, Some, None, refl, sym, ap, ◌∙◌, arith}
use Rattle.std.specs.Prelude.{if◌then◌else◌, Result, Ok, Err}
use Rattle.node_records.specs.declared.entries.Entry.{Entry}
use Rattle.node_pages.specs.Chunks.{records_in}
use Rattle.node_pages.specs.DirectoryPages.{Compared, at_end, after_directory_page, at_directory_end}
use Rattle.node_pages.specs.EntryForm.{entry_read}
use Rattle.node_pages.specs.PageZero.{Header, count_of, header_in, header_of, is_page_zero}
use Rattle.node_pages.specs.PagesIn.{scanned, compared, starts_in, entries_from, items_or_none, read_with, read_behind, pages_in}
use Rattle.node_pages.specs.Reading.{page_in}
use Rattle.node_pages.specs.Scanning.{Scanned, no_pages, after_page, and_then}
use Rattle.node_pages.specs.declared.page_start.PageStart.{PageStart}

and_then_same : {A B : Type 0} (r : Result A ℕ) (k m : A → Result B ℕ) → ((a : A) → k a ≡ m a) → and_then r k ≡ and_then r m
and_then_same (Ok a) k m same = same a
and_then_same (Err n) k m same = refl

module _ (f g : ℕ → List ℕ) where
  -- so many pages from this one on are the same
  abbrev SameFrom : ℕ → ℕ → Type 0
  SameFrom n left = (i : ℕ) → i < left → f (n + i) ≡ g (n + i)

  first_same : (n left : ℕ) → SameFrom n (suc left) → f n ≡ g n
  first_same n left same = let here : n + 0 ≡ n = omega arith in ap f (sym here) ∙ same 0 (omega arith) ∙ ap g here

  others_same : (n left : ℕ) → SameFrom n (suc left) → SameFrom (n + 1) left
  others_same n left same i h = let here : (n + 1) + i ≡ n + suc i = omega arith in ap f here ∙ same (suc i) (omega arith) ∙ ap g (sym here)

  scanned_same : (left n : ℕ) (s : Scanned) → SameFrom n left → scanned f n left s ≡ scanned g n left s
  scanned_same zero n s same = refl
  scanned_same (suc left) n s same =
      ap (λ (b : List ℕ). and_then (after_page s b) (λ t. scanned f (n + 1) left t)) (first_same n left same)
      ∙ and_then_same (after_page s (g n)) (λ t. scanned f (n + 1) left t) (λ t. scanned g (n + 1) left t) (λ t. scanned_same left (n + 1) t (others_same n left same))

  compared_same : (left n : ℕ) (c : Compared) → SameFrom n left → compared f n left c ≡ compared g n left c
  compared_same zero n c same = refl
  compared_same (suc left) n c same =
      ap (λ (b : List ℕ). and_then (after_directory_page c b) (λ t. compared f (n + 1) left t)) (first_same n left same)
      ∙ and_then_same (after_directory_page c (g n)) (λ t. compared f (n + 1) left t) (λ t. compared g (n + 1) left t) (λ t. compared_same left (n + 1) t (others_same n left same))

  entries_same : (left n : ℕ) → SameFrom n left → entries_from f n left ≡ entries_from g n left
  entries_same zero n same = refl
  entries_same (suc left) n same =
      ap (λ (b : List ℕ). items_or_none (page_in entry_read b) ++ entries_from f (n + 1) left) (first_same n left same)
      ∙ ap (λ (es : List Entry). items_or_none (page_in entry_read (g n)) ++ es) (entries_same left (n + 1) (others_same n left same))

  with_same : (h : Header) → ((n : ℕ) → n < count_of h → f n ≡ g n) → read_with f h ≡ read_with g h
  with_same h same =
      let datas : SameFrom 1 h.data_pages = λ i b. same (1 + i) (omega (arith, b)) in
      let directory : SameFrom (1 + h.data_pages) h.directory_pages = λ i b. same (1 + h.data_pages + i) (omega (arith, b)) in
      let starts : starts_in f h ≡ starts_in g h =
      ap (λ (r : Result Scanned ℕ). and_then r (λ s. and_then (at_end s) (λ c. and_then (compared f (1 + h.data_pages) h.directory_pages c) (λ d. at_directory_end d))))
      (scanned_same h.data_pages 1 no_pages datas)
      ∙ and_then_same (scanned g 1 h.data_pages no_pages)
      (λ s. and_then (at_end s) (λ c. and_then (compared f (1 + h.data_pages) h.directory_pages c) (λ d. at_directory_end d)))
      (λ s. and_then (at_end s) (λ c. and_then (compared g (1 + h.data_pages) h.directory_pages c) (λ d. at_directory_end d)))
      (λ s. and_then_same (at_end s) (λ c. and_then (compared f (1 + h.data_pages) h.directory_pages c) (λ d. at_directory_end d))
      (λ c. and_then (compared g (1 + h.data_pages) h.directory_pages c) (λ d. at_directory_end d))
      (λ c. ap (λ (r : Result Compared ℕ). and_then r (λ d. at_directory_end d)) (compared_same h.directory_pages (1 + h.data_pages) c directory))) in
      ap (λ (r : Result (List PageStart) ℕ). and_then r (λ starts. Ok (records_in (entries_from f 1 h.data_pages), h.base))) starts
      ∙ ap (λ (es : List Entry). and_then (starts_in g h) (λ starts. Ok (records_in es, h.base))) (entries_same h.data_pages 1 datas)

  behind_same : (b : Bool) (h : Header) → ((n : ℕ) → n < count_of h → f n ≡ g n) → read_behind f (if b then Some h else None) ≡ read_behind g (if b then Some h else None)
  behind_same true h same = with_same h same
  behind_same false h same = refl

pub pages_same : (f g : ℕ → List ℕ) → ((n : ℕ) → n < count_of (header_of (f 0)) → f n ≡ g n) → pages_in f ≡ pages_in g
pages_same f g same =
    behind_same f g (is_page_zero (f 0)) (header_of (f 0)) same
    ∙ ap (λ (page : List ℕ). read_behind g (header_in page)) (same 0 (omega arith))

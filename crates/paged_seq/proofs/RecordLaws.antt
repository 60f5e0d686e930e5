-- The records that entries hold, taken entry by entry and page by page.
use Rattle.std.proofs.Common.{◌≡◌, ◌<◌, ℕ, suc, ◌+◌, ◌-◌, Bool, true, false, cond, List, [], ◌∷◌, ◌++◌, Option, Some, None, refl, sym, ap, ◌∙◌, arith, append_assoc}
use Rattle.std.proofs.lemmas.List.{append-nil}
use Rattle.tree_model.specs.Entries.{Entries}
use Rattle.tree_model.specs.declared.key.Key.{Key}
use Rattle.tree_model.specs.declared.record.Record.{Record}
use Rattle.node_records.specs.Records.{record_of}
use Rattle.node_records.specs.declared.entries.Entry.{Entry}
use Rattle.node_pages.specs.Chunks.{one_more, records_behind}
use Rattle.node_pages.specs.EntryForm.{entry_read}
use Rattle.node_pages.specs.PagesIn.{entries_from, items_or_none}
use Rattle.node_pages.specs.Reading.{page_in}
use Rattle.paged_seq.specs.PagedMaps.{records_of}

-- a record is put behind the others
pub record_put : (rs now more : Entries) (k : Key) (r : Record) (o : Option Record) → o ≡ Some r → now ≡ rs ++ (k, r) ∷ [] → now ++ more ≡ rs ++ one_more k o more
record_put rs now more k r o is put = ap (λ (l : Entries). l ++ more) put ∙ append_assoc rs ((k, r) ∷ []) more ∙ ap (λ (p : Option Record). rs ++ one_more k p more) (sym is)

pub none_put : (rs more : Entries) (k : Key) (o : Option Record) → o ≡ None → rs ++ more ≡ rs ++ one_more k o more
none_put rs more k o is = ap (λ (p : Option Record). rs ++ one_more k p more) (sym is)

-- the last chunk of a record was read
pub last_taken : (rs now : Entries) (bytes part after : List ℕ) (e : Entry) (more : List Entry) → e.last ≡ true → part ≡ bytes ++ e.bytes → after ≡ []
    → now ++ records_behind [] more ≡ rs ++ one_more e.key (record_of part) (records_behind [] more)
    → now ++ records_behind after more ≡ rs ++ records_behind bytes (e ∷ more)
last_taken rs now bytes part after e more last is none put =
    ap (λ (l : List ℕ). now ++ records_behind l more) none ∙ put
    ∙ ap (λ (l : List ℕ). rs ++ one_more e.key (record_of l) (records_behind [] more)) is
    ∙ ap (λ (b : Bool). rs ++ cond b (one_more e.key (record_of (bytes ++ e.bytes)) (records_behind [] more)) (records_behind (bytes ++ e.bytes) more)) (sym last)

-- another chunk was
pub chunk_taken : (rs : Entries) (bytes part : List ℕ) (e : Entry) (more : List Entry) → e.last ≡ false → part ≡ bytes ++ e.bytes → rs ++ records_behind part more ≡ rs ++ records_behind bytes (e ∷ more)
chunk_taken rs bytes part e more last is =
    ap (λ (l : List ℕ). rs ++ records_behind l more) is
    ∙ ap (λ (b : Bool). rs ++ cond b (one_more e.key (record_of (bytes ++ e.bytes)) (records_behind [] more)) (records_behind (bytes ++ e.bytes) more)) (sym last)

module _ (page : ℕ → List ℕ) (count : ℕ) where
  -- before the first page all entries are left
  pub all_left : records_behind [] (entries_from page 1 (count - 0)) ≡ records_of page count
  all_left = let none : count - 0 ≡ count = omega arith in ap (λ (m : ℕ). records_behind [] (entries_from page 1 m)) none

  -- one page more was taken
  pub page_taken : (n : ℕ) (rs now : Entries) (bytes part : List ℕ) (es : List Entry) (all : Entries) → n < count → es ≡ items_or_none (page_in entry_read (page (n + 1)))
      → ((more : List Entry) → now ++ records_behind part more ≡ rs ++ records_behind bytes (es ++ more))
      → rs ++ records_behind bytes (entries_from page (n + 1) (count - n)) ≡ all
      → now ++ records_behind part (entries_from page (n + 1 + 1) (count - (n + 1))) ≡ all
  page_taken n rs now bytes part es all less is step so_far =
      let left : count - n ≡ suc (count - (n + 1)) = omega (arith, less) in
      step (entries_from page (n + 1 + 1) (count - (n + 1)))
      ∙ ap (λ (l : List Entry). rs ++ records_behind bytes (l ++ entries_from page (n + 1 + 1) (count - (n + 1)))) is
      ∙ ap (λ (m : ℕ). rs ++ records_behind bytes (entries_from page (n + 1) m)) (sym left) ∙ so_far

  -- behind the last page none is left
  pub none_left : (n : ℕ) (rs : Entries) (bytes : List ℕ) (all : Entries) → count - n ≡ 0 → rs ++ records_behind bytes (entries_from page (n + 1) (count - n)) ≡ all → rs ≡ all
  none_left n rs bytes all none so_far =
      sym (append-nil rs) ∙ ap (λ (m : ℕ). rs ++ records_behind bytes (entries_from page (n + 1) m)) (sym none) ∙ so_far

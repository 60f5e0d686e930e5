-- A file of pages that is open: what is kept of it between reads.
use Rattle.std.specs.Prelude.{◌≡◌, ◌≤◌, ◌<◌, ◌+◌, ◌^◌, ◌/◌, min, ℕ, Bool, true, false, IsTrue, List, [], ◌∷◌, length, Option, None, Result, Ok, Err, MatchResult}
use Rattle.std.proofs.Common.{ap, refl}
use Rattle.outside_traits.specs.Faults.{FaultCounted}
use Rattle.outside_traits.specs.Moments.{History}
use Rattle.page_store.specs.Pages.{PoolView}
use Rattle.node_pages.specs.PageFiles.{Index, contents_of_file, file_page, index_of_file, place_of_page}
use Rattle.node_pages.specs.PageRules.{KeepsRules}
use Rattle.node_pages.specs.PageZero.{header_in}
use Rattle.node_records.specs.declared.open_error.OpenError.{OpenError}
use Rattle.node_records.specs.declared.open_error.OpenError.TheVariants.{Damaged, DiskFault, NoMemory}
use Rattle.node_records.specs.declared.open_error.Place.{Place}
use Rattle.node_records.specs.declared.open_error.File.TheVariants.{Pages}
use Rattle.node_pages.specs.declared.page_start.PageStart.{PageStart}
use Rattle.tree_model.specs.Entries.{Entries}
use Rattle.tree_model.specs.declared.key.Key.{Key}
use Rattle.tree_model.specs.declared.record.Record.{Record}
use Rattle.paged_seq.specs.PagedMaps.{chunks_found, chunks_of_entry, file_entries, map_of_file}
use Rattle.paged_seq.specs.declared.opening.PagesFault.{PagesFault}

-- a disk of pages, and the pool of those that are kept
pub record FileView (P : Type 0) : Type 0 where
  pub disk : P
  pub pool : PoolView

-- the same of a map over them, with where its data pages begin
pub record PagedView (P : Type 0) : Type 0 where
  pub disk : P
  pub pool : PoolView
  pub index : Index

-- the pages on the disk of an open file, by their numbers
abbrev pub disk_page : {P : Type 0} → (P → History) → FileView P → ℕ → List ℕ
disk_page history file = file_page (history file.disk).now.reads

-- the records of the pages on the disk of an open map
abbrev pub disk_entries : {P : Type 0} → (P → History) → PagedView P → Entries
disk_entries history seq = file_entries (history seq.disk).now.reads

-- so many data pages begin as their file has them
pub record IsIndexOf (is_known : Bool) (bytes : List ℕ) (i : Index) : Type 0 where
  pub few : length i.starts < 2 ^ 32
  pub index : IsTrue is_known → index_of_file bytes ≡ Ok i

-- an index with these parts
abbrev pub index_at : ℕ → List PageStart → Index
index_at base starts = record { base = base; starts = starts }

-- how many pages of a file have all their bytes
abbrev pub whole_count : List ℕ → ℕ
whole_count file = length file / 8_192

-- how many of them are below this page
abbrev pub whole_below : ℕ → List ℕ → ℕ
whole_below page file = min page (whole_count file)

-- a file breaks no rule, and has this base
abbrev pub HasBase : List ℕ → ℕ → Type 0
HasBase file base = contents_of_file file ≡ Ok (file_entries file, base)

-- ---- how many pages are read

-- no more than so many pages were read between the first of these states of a pool and the second
abbrev pub ReadsAtMost : ℕ → PoolView → PoolView → Type 0
ReadsAtMost most old new = new.reads ≤ old.reads + most

-- no more were read than for a record at a key: two, and one a chunk of the record, if one was found
abbrev pub ReadsForRecord : Option Record → PoolView → PoolView → Type 0
ReadsForRecord found old new = new.reads ≤ old.reads + 2 + chunks_found found

-- no more were read than for an entry above or below a key: three, and one a chunk of its record, if one was found
abbrev pub ReadsForEntry : Option (Key × Record) → PoolView → PoolView → Type 0
ReadsForEntry found old new = new.reads ≤ old.reads + 3 + chunks_of_entry found

-- no more were read than have all their bytes, of the pages of a file from one up to another
abbrev pub ReadsWhole : List ℕ → ℕ → ℕ → PoolView → PoolView → Type 0
ReadsWhole file first end old new = new.reads + whole_below first file ≤ old.reads + whole_below end file

-- the same of all pages from one on
abbrev pub ReadsWholeFrom : List ℕ → ℕ → PoolView → PoolView → Type 0
ReadsWholeFrom file first old new = new.reads + whole_below first file ≤ old.reads + whole_count file

-- ---- why it isn't opened

-- the place of a page
abbrev pub page_place : ℕ → Place
page_place n = record { file = Pages; at = place_of_page n }

-- the place of a page of which this holds
abbrev pub IsPageWith : (ℕ → Type 0) → Place → Type 0
IsPageWith P place = (n : ℕ) × (place ≡ page_place n) × P n

-- a place of the pages; where their bytes are known, the first byte of the first page that breaks a rule
abbrev pub BreaksPages : Bool → List ℕ → Place → Type 0
BreaksPages is_known bytes place = IsPageWith (λ page. IsTrue is_known → contents_of_file bytes ≡ Err page) place

-- page 0; where the bytes are known, it has no header
abbrev pub LacksHeader : Bool → List ℕ → Place → Type 0
LacksHeader is_known bytes place = IsPageWith (λ page. (page ≡ 0) × (IsTrue is_known → header_in (file_page bytes 0) ≡ None)) place

-- the page with this number is the first of a file that breaks a rule: it breaks one, and each page before it keeps those of its kind
pub record IsFirstBroken (file : List ℕ) (n : ℕ) : Type 0 where
  pub breaks : KeepsRules (file_page file) n → ⊥
  pub before : (m : ℕ) → m < n → KeepsRules (file_page file) m

-- each page of a file keeps the rules of its kind; a file without a byte has no page
abbrev pub AllPagesKeepRules : List ℕ → Type 0
AllPagesKeepRules [] = Unit {0}
AllPagesKeepRules (b ∷ bs) = (n : ℕ) → KeepsRules (file_page (b ∷ bs)) n

-- damage is at such a place, a fault has this cause; out of memory is free
abbrev pub HasReason : (Place → Type 0) → Type 0 → OpenError → Type 0
HasReason damage cause (Damaged place) = damage place
HasReason damage cause DiskFault = cause
HasReason damage cause NoMemory = Unit {0}

-- the same, where the cause of a fault is one that was counted between these states of a disk
abbrev pub HasReasonOn : {P : Type 0} → (Place → Type 0) → (P → ℕ) → P → P → OpenError → Type 0
HasReasonOn damage faults old new fault = HasReason damage (FaultCounted (faults old) (faults new)) fault

-- the same of an open file: damage is at the page with which this answer refuses the file, where its bytes are known
abbrev pub HasPageReason : {P S : Type 0} → Bool → Result S ℕ → (P → ℕ) → FileView P → FileView P → OpenError → Type 0
HasPageReason is_known answer faults old new fault = HasReasonOn (IsPageWith (λ page. IsTrue is_known → answer ≡ Err page)) faults old.disk new.disk fault

-- damage is where the first page begins that breaks a rule, if the bytes are known; nothing is said of other errors
abbrev pub IfDamagedAtFirst : Bool → List ℕ → OpenError → Type 0
IfDamagedAtFirst is_known file fault = HasReason (IsPageWith (λ page. IsTrue is_known → IsFirstBroken file page)) (Unit {0}) fault

-- ---- what an opening leaves

-- this holds of the pool that is left: the map's, or the one that is handed back where the file isn't opened
abbrev pub LeavesPool : {P : Type 0} → (PoolView → Type 0) → Result (PagedView P) (PagesFault P) → Type 0
LeavesPool Q result = MatchResult result (λ seq. Q seq.pool) (λ refused. Q refused.pool)

-- in a known file that is opened each page keeps its rules, and damage is where the first page begins that breaks one
abbrev pub OpensByRules : {P : Type 0} → Bool → List ℕ → Result (PagedView P) (PagesFault P) → Type 0
OpensByRules is_known file result =
    MatchResult result (λ _. IsTrue is_known → AllPagesKeepRules file) (λ refused. IfDamagedAtFirst is_known file refused.fault)

-- files with the same bytes have the same map
pub map_same : (is_known : Bool) (a b : History) → (IsTrue is_known → b ≡ a) → map_of_file is_known b.now.reads ≡ map_of_file is_known a.now.reads
map_same true a b same = ap (λ (h : History). map_of_file true h.now.reads) (same refl)
map_same false a b same = refl

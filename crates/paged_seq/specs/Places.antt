-- Places among the entries of data pages, and what a search finds there.
use Rattle.std.specs.Prelude.{◌≡◌, ◌≤◌, ◌<◌, ℕ, ◌+◌, ◌*◌, ◌-◌, Bool, true, false, not, IsTrue, List, [], ◌∷◌, ◌++◌, length, drop, Option, Some, None, IfSome, is_some, option_and_then}
use Rattle.std.specs.declared.cmp.Ordering.{Ordering}
use Rattle.std.specs.declared.cmp.Ordering.TheVariants.{Less, Equal, Greater}
use Rattle.byteorder.specs.Endian.{big_number}
use Rattle.tree_model.specs.Entries.{Entries}
use Rattle.tree_model.specs.Keys.{key_cmp}
use Rattle.tree_model.specs.declared.key.Key.{Key}
use Rattle.tree_model.specs.declared.record.Record.{Record}
use Rattle.node_records.specs.Records.{record_of}
use Rattle.node_records.specs.declared.entries.Entry.{Entry}
use Rattle.node_pages.specs.Chunks.{records_behind, whole_record}
use Rattle.node_pages.specs.EntryForm.{entry_read}
use Rattle.node_pages.specs.Filling.{last_behind}
use Rattle.node_pages.specs.Following.{NonePass, HeadPasses}
use Rattle.node_pages.specs.PageFiles.{Index, file_page}
use Rattle.node_pages.specs.PagesIn.{entries_from}
use Rattle.node_pages.specs.Reading.{items_in}
use Rattle.node_pages.specs.declared.page_start.PageStart.{PageStart}
use Rattle.paged_seq.specs.PagedFiles.{IsIndexOf}
use Rattle.paged_seq.specs.declared.place.Place.{Place}

-- a place with these parts
abbrev pub place_at : ℕ → ℕ → ℕ → Option Entry → Place
place_at page at left before = record { page = page; at = at; left = left; before = before }

-- the place before the first entry of a page with these bytes
abbrev pub first_place : ℕ → List ℕ → Place
first_place page bytes = place_at page 2 (big_number 2 bytes) None

-- an entry that compares so with the key that is looked for stands there or beyond it; only beyond it, where `beyond` says so
abbrev pub comes : Bool → Ordering → Bool
comes beyond Less = false
comes beyond Equal = not beyond
comes beyond Greater = true

abbrev pub passes : Key → Bool → Key → Bool
passes k beyond j = comes beyond (key_cmp j k)

-- ---- where pages begin

-- the first page from here on, if there is one, begins with a key that passes
abbrev pub NextPasses : (Key → Bool) → List PageStart → Type 0
NextPasses p [] = Unit {0}
NextPasses p (s ∷ ss) = p s.key ≡ true

-- the last page so far, if there is one, begins with a key that doesn't
abbrev pub LastFails : (Key → Bool) → List PageStart → Type 0
LastFails p ss = IfSome (last_behind None ss) (λ s. p s.key ≡ false)

-- ---- on one page

-- a search of a page that began behind this entry and before these has passed some, and stands at the others
pub record HasPassed (test : Key → Bool) (page : List ℕ) (before : Option Entry) (es : List Entry) (p : Place) : Type 0 where
  pub passed : List Entry
  pub ahead : List Entry
  pub rest : List ℕ
  pub parts : es ≡ passed ++ ahead
  pub none : NonePass test passed
  pub last : last_behind before passed ≡ p.before
  pub items : items_in entry_read p.left p.before (drop p.at page) ≡ Some (ahead, rest)

-- it has found the first that passes
pub record HasFound (test : Key → Bool) (page : List ℕ) (before : Option Entry) (es : List Entry) (p : Place) : Type 0 where
  pub reached : HasPassed test page before es p
  pub first : HeadPasses test reached.ahead

-- a search of a page that begins at a place finds the first behind it that passes
abbrev pub FindsFrom : (Key → Bool) → List ℕ → Place → Place → Type 0
FindsFrom test page start p = (es : List Entry) (rest : List ℕ) → items_in entry_read start.left start.before (drop start.at page) ≡ Some (es, rest)
    → HasFound test page start.before es p

-- a search of this page may go on at a place: behind an entry of it that doesn't pass
pub record MayGoOn (page : ℕ) (test : Key → Bool) (p : Place) : Type 0 where
  pub on : p.page ≡ page
  pub chunk : Entry
  pub before : p.before ≡ Some chunk
  pub fails : test chunk.key ≡ false

-- a chunk that isn't its record's last has 1,024 bytes
abbrev pub IsFull : Option Entry → Type 0
IsFull None = Unit {0}
IsFull (Some e) = e.last ≡ false → length e.bytes ≡ 1_024

-- the place went behind one entry of its page, where there is one
abbrev pub Advances : List ℕ → Place → Place → Bool → Type 0
Advances page old new read = (x : Entry) (here : List Entry) (rest : List ℕ) → items_in entry_read old.left old.before (drop old.at page) ≡ Some (x ∷ here, rest)
    → (read ≡ true) × (new.before ≡ Some x) × (items_in entry_read new.left new.before (drop new.at page) ≡ Some (here, rest))

-- ---- among all pages

-- the items that were read, none where they couldn't be
abbrev pub read_or_none : Option (List Entry × List ℕ) → List Entry
read_or_none None = []
read_or_none (Some r) = r.0

-- the entries behind a place, where there are so many data pages
abbrev pub rest_at : (ℕ → List ℕ) → ℕ → Place → List Entry
rest_at page count p = read_or_none (items_in entry_read p.left p.before (drop p.at (page p.page))) ++ entries_from page (p.page + 1) (count - p.page)

-- a place among the entries of so many data pages
pub record IsPlace (page : ℕ → List ℕ) (count : ℕ) (p : Place) : Type 0 where
  pub within : p.page ≤ count
  pub first : 0 < p.left → 1 ≤ p.page
  pub read : is_some (items_in entry_read p.left p.before (drop p.at (page p.page))) ≡ true

-- an entry was arrived at, if one of these is left, and the same stand behind the place
abbrev pub HasArrived : List Entry → Bool → List Entry → Type 0
HasArrived [] arrived after = arrived ≡ false
HasArrived (e ∷ es) arrived after = (arrived ≡ true) × (after ≡ e ∷ es)

-- the first of these entries was read, if there is one, and the others stand behind the place
abbrev pub HasRead : List Entry → Bool → Option Entry → List Entry → Type 0
HasRead [] read last after = read ≡ false
HasRead (e ∷ es) read last after = (read ≡ true) × (last ≡ Some e) × (after ≡ es)

-- a place went on to an entry, if one is left, with the same entries behind it as before
abbrev pub Arrives : (ℕ → List ℕ) → ℕ → Place → Bool → Place → Type 0
Arrives page count old arrived new = HasArrived (rest_at page count old) arrived (rest_at page count new)

-- a place went on behind an entry, if one is left, with that one before it and the others behind it
abbrev pub GoesBehind : (ℕ → List ℕ) → ℕ → Place → Bool → Place → Type 0
GoesBehind page count old read new = HasRead (rest_at page count old) read new.before (rest_at page count new)

-- a place parts the entries where a test turns; before it stands the last one that doesn't pass
pub record Parts (page : ℕ → List ℕ) (count : ℕ) (test : Key → Bool) (p : Place) : Type 0 where
  pub place : IsPlace page count p
  pub below : List Entry
  pub parts : entries_from page 1 count ≡ below ++ rest_at page count p
  pub none : NonePass test below
  pub first : HeadPasses test (rest_at page count p)
  pub last : last_behind None below ≡ p.before

-- how many steps a place may still take, at most
abbrev pub steps_left : ℕ → Place → ℕ
steps_left count p = (count - p.page) * 65_536 + p.left

-- a place went on and stands before an entry, with no more steps left than before
abbrev pub IsBeforeEntry : ℕ → Place → Place → Type 0
IsBeforeEntry count old new = (0 < new.left) × (steps_left count new ≤ steps_left count old)

-- ---- a place that is kept between reads

-- a place behind some of the entries, the last of which stands before it
pub record IsBehind (page : ℕ → List ℕ) (count : ℕ) (p : Place) : Type 0 where
  pub place : IsPlace page count p
  pub below : List Entry
  pub parts : entries_from page 1 count ≡ below ++ rest_at page count p
  pub last : last_behind None below ≡ p.before

-- a place that lay behind some of the entries does so after it went on
abbrev pub StaysBehind : (ℕ → List ℕ) → ℕ → Place → Place → Type 0
StaysBehind page count old new = IsBehind page count old → IsBehind page count new

-- a place may be kept: of a known file it lies behind some of the entries
pub record MayBeKept (is_known : Bool) (file : List ℕ) (count : ℕ) (p : Place) : Type 0 where
  pub within : p.at ≤ 8_192
  pub behind : IsTrue is_known → IsBehind (file_page file) count p

-- before a place stands the last chunk of the record at a key
pub record EndsRecord (k : Key) (p : Place) : Type 0 where
  pub chunk : Entry
  pub before : p.before ≡ Some chunk
  pub last : chunk.last ≡ true
  pub key : chunk.key ≡ k

-- the index of an open file, and places that may be kept of it
pub record IsOpenAt (is_known : Bool) (file : List ℕ) (i : Index) (walked got : Option Place) : Type 0 where
  pub index : IsIndexOf is_known file i
  pub passed : IfSome walked (MayBeKept is_known file (length i.starts))
  pub found : IfSome got (MayBeKept is_known file (length i.starts))

-- ---- the record that was begun

-- the record whose first chunk was read last, of which these entries follow
abbrev pub begun_record : Option Entry → List Entry → Option Record
begun_record None es = None
begun_record (Some e) es = option_and_then record_of (whole_record e.last e.bytes es)

-- the record whose first chunk stands before a place, and the others behind it
abbrev pub record_around : (ℕ → List ℕ) → ℕ → Place → Option Record
record_around page count p = begun_record p.before (rest_at page count p)

-- these records, and those of these entries, where these bytes were read of the first one's
abbrev pub all_records : Entries → List ℕ → List Entry → Entries
all_records records part entries = records ++ records_behind part entries

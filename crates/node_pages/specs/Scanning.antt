-- What is known of the data pages of a file that are read one after another, and which of them breaks a rule first (docs/FILE_FORMAT.md, "Damage of pages").
use Rattle.std.specs.Prelude.{ℕ, ◌+◌, ◌-◌, ◌==◌, nat_le, min, Bool, true, false, ◌&&◌, if◌then◌else◌, List, [], ◌∷◌, ◌++◌, length, Option, Some, None, Result, Ok, Err, is_some}
use Rattle.std.specs.Option.{option_or}
use Rattle.std.specs.Ordering.{is_lt, is_eq}
use Rattle.tree_model.specs.Keys.{key_cmp}
use Rattle.tree_model.specs.declared.key.Key.{Key}
use Rattle.node_records.specs.Entries.{entry_bytes}
use Rattle.node_records.specs.Records.{record_of}
use Rattle.node_records.specs.declared.entries.Entry.{Entry}
use Rattle.node_pages.specs.EntryForm.{entry_behind, entry_read}
use Rattle.node_pages.specs.Filling.{room, written}
use Rattle.node_pages.specs.PageStarts.{start_of}
use Rattle.node_pages.specs.Reading.{page_in}
use Rattle.node_pages.specs.declared.page_start.PageStart.{PageStart}
use Rattle.node_pages.specs.declared.scan.Part.{Part}

-- where each data page so far begins, the number of the next one, the last key, how many bytes the entries of the page before take, the first page that has room for the next one's first entry, and the record in hand
pub record Scanned : Type 0 where
  pub starts : List PageStart
  pub next : ℕ
  pub last : Option Key
  pub used : Option ℕ
  pub roomy : Option ℕ
  pub part : Option Part

-- no data page yet
abbrev pub no_pages : Scanned
no_pages = record { starts = []; next = 1; last = None; used = None; roomy = None; part = None }

-- ---- where a broken rule is

-- the lesser of two pages that break a rule
abbrev pub least : Option ℕ → ℕ → ℕ
least None n = n
least (Some m) n = min m n

-- this page breaks a rule, unless one before it was found to have room: the record in hand may have begun before that one, so it waits for the next fault or the end
abbrev pub broken : {A : Type 0} → Scanned → ℕ → Result A ℕ
broken s n = Err (least s.roomy n)

-- what is done behind a step that broke no rule
abbrev pub and_then : {A B : Type 0} → Result A ℕ → (A → Result B ℕ) → Result B ℕ
and_then (Ok a) f = f a
and_then (Err n) f = Err n

-- a page that breaks a rule, or else this
abbrev pub unless : {A : Type 0} → Option ℕ → A → Result A ℕ
unless None a = Ok a
unless (Some n) a = Err n

-- ---- the rules of entries

-- a key lies above the last one, if there is one
abbrev pub rises : Option Key → Key → Bool
rises None k = true
rises (Some last) k = is_lt (key_cmp last k)

-- a key is the last one
abbrev pub stays : Option Key → Key → Bool
stays None k = false
stays (Some last) k = is_eq (key_cmp last k)

-- an entry goes on with the record in hand by its key and the next chunk; where there is none it begins one, at a key above the last
abbrev pub goes_on : Option Key → Option Part → Entry → Bool
goes_on last None e = rises last e.key && (e.chunk == 0)
goes_on last (Some p) e = stays last e.key && (e.chunk == p.chunks)

-- the record in hand with a chunk more, or one that begins with it on this page
abbrev pub with_chunk : ℕ → Option Part → List ℕ → Part
with_chunk n None bytes = record { bytes = bytes; chunks = 1; page = n }
with_chunk n (Some p) bytes = record { bytes = p.bytes ++ bytes; chunks = p.chunks + 1; page = p.page }

-- what is in hand after a record's last chunk, where its bytes are one
abbrev pub after_last : Scanned → Part → Result Scanned ℕ
after_last s p = if is_some (record_of p.bytes) then Ok (record s { part = None }) else broken s p.page

abbrev pub after_chunk : Scanned → Part → Bool → Result Scanned ℕ
after_chunk s p last = if last then after_last s p else Ok (record s { part = Some p })

-- one entry more of the page that is next
abbrev pub after_entry : Scanned → Entry → Result Scanned ℕ
after_entry s e =
    if goes_on s.last s.part e then after_chunk (record s { last = Some e.key }) (with_chunk s.next s.part e.bytes) e.last
    else broken s s.next

abbrev pub after_entries : Scanned → List Entry → Result Scanned ℕ
after_entries s [] = Ok s
after_entries s (e ∷ es) = and_then (after_entry s e) (λ t. after_entries t es)

-- ---- the rules of data pages

-- so many bytes of entries on the page before, if there is one, leave room for so many more
abbrev pub has_room : Option ℕ → ℕ → Bool
has_room None size = false
has_room (Some used) size = nat_le (used + size) room

-- the page before is the first with room for this entry, if it has room and no other was found
abbrev pub roomy_before : Scanned → Entry → Option ℕ
roomy_before s e = option_or s.roomy (if has_room s.used (length (entry_bytes e)) then Some (s.next - 1) else None)

-- a page has these entries, of which this one is the first
abbrev pub with_start : Scanned → Entry → Scanned
with_start s e = record s { starts = s.starts ++ start_of s.next e ∷ []; roomy = roomy_before s e }

-- the page's entries are all known and take so many bytes; the page behind it is next
abbrev pub with_end : ℕ → Scanned → Scanned
with_end used s = record s { next = s.next + 1; used = Some used }

-- a page with these entries; one that can't be read, or has none, breaks a rule
abbrev pub after_items : Scanned → Option (List Entry) → Result Scanned ℕ
after_items s None = broken s s.next
after_items s (Some []) = broken s s.next
after_items s (Some (e ∷ es)) = and_then (after_entries (with_start s e) (e ∷ es)) (λ t. Ok (with_end (length (written entry_behind None (e ∷ es))) t))

-- one data page more, which has these bytes
abbrev pub after_page : Scanned → List ℕ → Result Scanned ℕ
after_page s bytes = after_items s (page_in entry_read bytes)

-- no data page is left: a record in hand breaks a rule, and so does a page with room
abbrev pub fault_at_end : Option Part → Option ℕ → Option ℕ
fault_at_end (Some p) roomy = Some (least roomy p.page)
fault_at_end None roomy = roomy

-- Worked rows of the rules of pages (docs/FILE_FORMAT.md, "Damage of pages"): small made-up pages, by hand.
use Rattle.std.proofs.Common.{◌≡◌, ℕ, true, List, [], ◌∷◌, Option, Some, None, refl}
use Rattle.std.specs.Prelude.{if◌then◌else◌, ◌==◌, Ok, Err}
use Rattle.tree_model.specs.Keys.{key_at}
use Rattle.tree_model.specs.declared.key.Key.{Key}
use Rattle.node_records.specs.Entries.{entry_at}
use Rattle.node_records.specs.declared.entries.Entry.{Entry}
use Rattle.node_pages.specs.DirectoryPages.{Compared, at_end, at_directory_end}
use Rattle.node_pages.specs.PageStarts.{start_of}
use Rattle.node_pages.specs.PagesIn.{compared, read_behind}
use Rattle.node_pages.specs.Reading.{page_in}
use Rattle.node_pages.specs.Scanning.{Scanned, no_pages, after_items, after_page}
use Rattle.node_pages.specs.declared.scan.Part.{Part}

-- the keys 1.1001 and 1.1001.1001, and an entry of one chunk at each
abbrev low : Key
low = key_at (1 ∷ 1001 ∷ []) []

abbrev high : Key
high = key_at (1 ∷ 1001 ∷ 1001 ∷ []) []

abbrev document : Entry
document = entry_at low 0 true (1 ∷ [])

abbrev lower : Entry
lower = entry_at high 0 true (1 ∷ [])

-- page 5 is next; the page before is full, its last key is `low`, and a record that began on page 2 may be in hand, here with no byte yet
abbrev on_page_five : Option Part → Scanned
on_page_five part = record { starts = []; next = 5; last = Some low; used = Some 8_190; roomy = None; part = part }

abbrev begun : Part
begun = record { bytes = []; chunks = 1; page = 2 }

-- no record begins with the byte 9
abbrev no_record : Part
no_record = record { bytes = 9 ∷ []; chunks = 1; page = 2 }

-- ---- data pages

kept : after_items no_pages (Some (document ∷ lower ∷ []))
    ≡ Ok (record { starts = start_of 1 document ∷ []; next = 2; last = Some high; used = Some 24; roomy = None; part = None })
kept = refl

not_read : after_items (on_page_five None) None ≡ Err 5
not_read = refl

no_bytes : after_page no_pages [] ≡ Err 1
unfolding page_in
no_bytes = refl

same_key_again : after_items (on_page_five None) (Some (document ∷ [])) ≡ Err 5
same_key_again = refl

keys_fall : after_items no_pages (Some (lower ∷ document ∷ [])) ≡ Err 1
keys_fall = refl

begins_with_chunk_one : after_items (on_page_five None) (Some (entry_at high 1 true (1 ∷ []) ∷ [])) ≡ Err 5
begins_with_chunk_one = refl

goes_on_at_another_key : after_items (on_page_five (Some begun)) (Some (entry_at high 1 true (1 ∷ []) ∷ [])) ≡ Err 5
goes_on_at_another_key = refl

leaves_out_a_chunk : after_items (on_page_five (Some begun)) (Some (entry_at low 2 true (1 ∷ []) ∷ [])) ≡ Err 5
leaves_out_a_chunk = refl

is_whole : after_items (on_page_five (Some begun)) (Some (entry_at low 1 true (1 ∷ []) ∷ []))
    ≡ Ok (record { starts = start_of 5 (entry_at low 1 true (1 ∷ [])) ∷ []; next = 6; last = Some low; used = Some 11; roomy = None; part = None })
is_whole = refl

-- the page of the first chunk, and not that of the last
is_no_record : after_items (on_page_five (Some no_record)) (Some (entry_at low 1 true (1 ∷ []) ∷ [])) ≡ Err 2
is_no_record = refl

has_no_last_chunk : at_end (on_page_five (Some begun)) ≡ Err 2
has_no_last_chunk = refl

-- ---- a page with room

-- page 4 has room for the eleven bytes of this entry, if 8,179 are used, and not if one more is
has_room : after_items (record (on_page_five (Some begun)) { used = Some 8_179 }) (Some (entry_at low 1 true (1 ∷ []) ∷ []))
    ≡ Ok (record { starts = start_of 5 (entry_at low 1 true (1 ∷ [])) ∷ []; next = 6; last = Some low; used = Some 11; roomy = Some 4; part = None })
has_room = refl

has_none : after_items (record (on_page_five (Some begun)) { used = Some 8_180 }) (Some (entry_at low 1 true (1 ∷ []) ∷ []))
    ≡ Ok (record { starts = start_of 5 (entry_at low 1 true (1 ∷ [])) ∷ []; next = 6; last = Some low; used = Some 11; roomy = None; part = None })
has_none = refl

room_at_the_end : at_end (record (on_page_five None) { roomy = Some 4 }) ≡ Err 4
room_at_the_end = refl

room_before_another_fault : after_items (record (on_page_five None) { roomy = Some 3 }) None ≡ Err 3
room_before_another_fault = refl

-- the record began before the page with room: its page is the earlier one
room_behind_the_start_of_a_record : after_items (record (on_page_five (Some no_record)) { roomy = Some 4 }) (Some (entry_at low 1 true (1 ∷ []) ∷ [])) ≡ Err 2
room_behind_the_start_of_a_record = refl

-- ---- directory pages, of one byte each here

abbrev two_wanted : Compared
two_wanted = record { starts = []; wanted = (7 ∷ []) ∷ (8 ∷ []) ∷ []; next = 6; before = 0 }

-- page n has this one byte, from page 6 on
abbrev pages_with : ℕ → ℕ → ℕ → List ℕ
pages_with a b n = if n == 6 then a ∷ [] else b ∷ []

as_wanted : compared (pages_with 7 8) 6 2 two_wanted ≡ Ok (record { starts = []; wanted = []; next = 8; before = 7 })
as_wanted = refl

differs : compared (pages_with 7 9) 6 2 two_wanted ≡ Err 7
differs = refl

too_many : compared (pages_with 7 8) 6 3 two_wanted ≡ Err 8
too_many = refl

too_few : at_directory_end (record two_wanted { wanted = (8 ∷ []) ∷ []; before = 6 }) ≡ Err 6
too_few = refl

none_at_all : at_directory_end two_wanted ≡ Err 0
none_at_all = refl

-- ---- page 0

no_page_zero : read_behind (λ n. []) None ≡ Err 0
no_page_zero = refl

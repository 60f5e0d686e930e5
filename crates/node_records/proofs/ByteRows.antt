-- The worked rows of docs/FILE_FORMAT.md, by computation: the edges of the forms of a division, and the body of a commit.
use Rattle.std.proofs.Common.{◌≡◌, ℕ, List, [], ◌∷◌, Some, None, true, refl}
use Rattle.std.specs.Str.{chars, is_utf8}
use lib.Utf8.{encode}
use Rattle.tree_model.specs.declared.change.Change.{Change}
use Rattle.tree_model.specs.declared.record.Record.TheVariants.{Document, Element, Attr}
use Rattle.tree_model.specs.Keys.{key_at}
use Rattle.node_records.specs.Divisions.{division_bytes, division_in}
use Rattle.node_records.specs.Labels.{label_in}
use Rattle.node_records.specs.Records.{record_of}
use Rattle.node_records.specs.Changes.{change_at, changes_bytes, changes_of}
use Rattle.tree_model.specs.Changes.{keys_rise}

last_of_one : division_bytes 127 ≡ 0x7F ∷ []
last_of_one = refl

first_of_two : division_bytes 128 ≡ 0x80 ∷ 0x00 ∷ []
first_of_two = refl

last_of_two : division_bytes 16_511 ≡ 0xBF ∷ 0xFF ∷ []
last_of_two = refl

first_of_three : division_bytes 16_512 ≡ 0xC0 ∷ 0x00 ∷ 0x00 ∷ []
first_of_three = refl

last_of_three : division_bytes 2_113_663 ≡ 0xDF ∷ 0xFF ∷ 0xFF ∷ []
last_of_three = refl

first_of_five : division_bytes 2_113_664 ≡ 0xE0 ∷ 0x00 ∷ 0x20 ∷ 0x40 ∷ 0x80 ∷ []
first_of_five = refl

the_greatest : division_bytes 4_294_967_291 ≡ 0xE0 ∷ 0xFF ∷ 0xFF ∷ 0xFF ∷ 0xFB ∷ []
the_greatest = refl

longer_than_needed : division_in (0xE0 ∷ 0x00 ∷ 0x20 ∷ 0x40 ∷ 0x7F ∷ []) ≡ None
longer_than_needed = refl

a_zero_within : label_in (0x01 ∷ 0x80 ∷ 0x00 ∷ 0x03 ∷ 0x00 ∷ 7 ∷ []) ≡ Some (1 ∷ 128 ∷ 3 ∷ [], 5)
a_zero_within = refl

cut_short : label_in (0x01 ∷ 0x83 ∷ []) ≡ None
cut_short = refl

no_kind : record_of (0 ∷ 0x61 ∷ []) ≡ None
no_kind = refl

-- the document x with the root element a
abbrev creates : List Change
creates =
    change_at (key_at (1 ∷ []) (0x78 ∷ [])) (Some (Attr (0x31 ∷ 0x2E ∷ 0x31 ∷ 0x30 ∷ 0x30 ∷ 0x31 ∷ [])))
    ∷ change_at (key_at (1 ∷ 1001 ∷ []) []) (Some Document)
    ∷ change_at (key_at (1 ∷ 1001 ∷ 1001 ∷ []) []) (Some (Element (0x61 ∷ [])))
    ∷ []

abbrev body : List ℕ
body =
    0x01 ∷ 0x01 ∷ 0x00 ∷ 0x78 ∷ 0x00 ∷ 0x00 ∷ 0x00 ∷ 0x00 ∷ 0x07 ∷ 0x04 ∷ 0x31 ∷ 0x2E ∷ 0x31 ∷ 0x30 ∷ 0x30 ∷ 0x31
    ∷ 0x01 ∷ 0x01 ∷ 0x83 ∷ 0x69 ∷ 0x00 ∷ 0x00 ∷ 0x00 ∷ 0x00 ∷ 0x00 ∷ 0x01 ∷ 0x01
    ∷ 0x01 ∷ 0x01 ∷ 0x83 ∷ 0x69 ∷ 0x83 ∷ 0x69 ∷ 0x00 ∷ 0x00 ∷ 0x00 ∷ 0x00 ∷ 0x00 ∷ 0x02 ∷ 0x02 ∷ 0x61
    ∷ []

body_written : changes_bytes creates ≡ body
body_written = refl

body_read : changes_of body ≡ Some creates
unfolding is_utf8 chars encode
body_read = refl

body_rises : keys_rise creates ≡ true
body_rises = refl

-- with a byte behind it, and without its last one
body_broken : changes_of (0x01 ∷ 0x01 ∷ 0x83 ∷ 0x69 ∷ 0x00 ∷ 0x00 ∷ 0x00 ∷ 0x00 ∷ 0x00 ∷ 0x01 ∷ 0x01 ∷ 0x01 ∷ []) ≡ None
unfolding is_utf8 chars encode
body_broken = refl

body_cut : changes_of (0x01 ∷ 0x01 ∷ 0x83 ∷ 0x69 ∷ 0x00 ∷ 0x00 ∷ 0x00 ∷ 0x00 ∷ 0x00 ∷ 0x01 ∷ []) ≡ None
unfolding is_utf8 chars encode
body_cut = refl

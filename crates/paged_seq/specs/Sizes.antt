-- How many bytes the parts of an entry have, told by some of them (docs/FILE_FORMAT.md, "Divisions", "Entries").
use Rattle.std.specs.Prelude.{◌≡◌, ℕ, ◌+◌, nat_lt, if◌then◌else◌, List, drop, Option, Some, None, option_map}
use Rattle.dewey_labels.specs.Labels.{Label}
use Rattle.node_records.specs.Entries.{entry_in}
use Rattle.node_records.specs.Keys.{IsWritable, key_bytes}
use Rattle.node_records.specs.Labels.{divisions_in, label_in}
use Rattle.node_records.specs.declared.entries.Entry.{Entry}
use Rattle.tree_model.specs.declared.key.Key.{Key}

-- how many bytes the division has that begins with this one
abbrev pub division_size : ℕ → ℕ
division_size b = if nat_lt b 0x80 then 1 else if nat_lt b 0xC0 then 2 else if nat_lt b 0xE0 then 3 else 5

-- the label at the start of the bytes, if there is one, ends as far behind this place as the divisions there take
abbrev pub LabelAhead : List ℕ → ℕ → Type 0
LabelAhead bytes at = (l : Label × ℕ) → label_in bytes ≡ Some l → (n : ℕ) × (ds : List ℕ × ℕ) × (divisions_in n (drop at bytes) ≡ Some ds) × (l.1 ≡ at + ds.1)

-- the entry at a place of these bytes, if a place is named; else this one
abbrev pub entry_there : List ℕ → Option Entry → Option ℕ → Option Entry
entry_there bytes before None = before
entry_there bytes before (Some n) = option_map (λ e. e.0) (entry_in (drop n bytes))

-- these are the bytes of a key, by which it sorts among those of entries
pub record SortsAs (k : Key) (bytes : List ℕ) : Type 0 where
  pub same : bytes ≡ key_bytes k
  pub writable : IsWritable k

-- The map that a file of pages has for its readers: the entries that a valid tree may have (docs/FILE_FORMAT.md, "The page file").
use Rattle.std.specs.Prelude.{ℕ, ◌+◌, ◌/◌, Bool, ◌&&◌, ◌||◌, nat_le, cond, List, [], ◌∷◌, filter, length, reverse, Option, Some, None, Result, Ok, Err}
use Rattle.dewey_labels.specs.Labels.{is_label_within, level}
use Rattle.node_records.specs.Records.{record_bytes}
use Rattle.node_pages.specs.Chunks.{records_in}
use Rattle.node_pages.specs.PageFiles.{contents_of_file}
use Rattle.node_pages.specs.PagesIn.{entries_from}
use Rattle.tree_model.specs.declared.key.Key.{Key}
use Rattle.tree_model.specs.declared.record.Record.{Record}
use Rattle.tree_model.specs.Entries.{Entries, entries_above, entries_below}
use Rattle.tree_model.specs.Limits.{deepest_level}
use Rattle.tree_model.specs.Names.{Name, is_name}
use Rattle.tree_model.specs.Records.{record_fits}

-- a key's name is empty or a Name
abbrev pub is_key_name : Name → Bool
is_key_name n = nat_le (length n) 0 || is_name n

-- an entry that a valid tree may have: `IsValidEntry` as a test
abbrev pub is_valid_entry : Key × Record → Bool
is_valid_entry e = (is_label_within e.0.label && (nat_le (level e.0.label) deepest_level && is_key_name e.0.name)) && record_fits e.1

-- a record at a key, unless such a test refuses it
abbrev pub valid_at : (Key × Record → Bool) → Key → Option Record → Option Record
valid_at valid k None = None
valid_at valid k (Some r) = cond (valid (k, r)) (Some r) None

-- the entries that a valid tree may have
abbrev pub valid_entries : Entries → Entries
valid_entries es = filter is_valid_entry es

-- the records of a file's pages; none where a page breaks a rule
abbrev pub entries_or_none : Result (Entries × ℕ) ℕ → Entries
entries_or_none (Ok read) = read.0
entries_or_none (Err n) = []

abbrev pub file_entries : List ℕ → Entries
file_entries file = entries_or_none (contents_of_file file)

-- the records of so many data pages
abbrev pub records_of : (ℕ → List ℕ) → ℕ → Entries
records_of page count = records_in (entries_from page 1 count)

-- the map of a file, where its bytes are known
abbrev pub map_of_file : Bool → List ℕ → Option Entries
map_of_file is_known file = cond is_known (Some (valid_entries (file_entries file))) None

-- ---- what reads cost

-- the chunks of a record of so many bytes
abbrev pub chunk_count : ℕ → ℕ
chunk_count n = (n + 1_023) / 1_024

-- those of the record that was found, if one was
abbrev pub chunks_found : Option Record → ℕ
chunks_found None = 0
chunks_found (Some r) = chunk_count (length (record_bytes r))

abbrev pub chunks_of_entry : Option (Key × Record) → ℕ
chunks_of_entry None = 0
chunks_of_entry (Some e) = chunk_count (length (record_bytes e.1))

-- going over entries until the first that a valid tree may have: three pages for each and for the end, and one a chunk of its record
abbrev pub passing_cost : Entries → ℕ
passing_cost [] = 3
passing_cost (e ∷ es) = 3 + chunk_count (length (record_bytes e.1)) + cond (is_valid_entry e) 0 (passing_cost es)

-- looking upwards from a key
abbrev pub next_cost : Key → Entries → ℕ
next_cost k es = passing_cost (entries_above k es)

-- looking downwards
abbrev pub prev_cost : Key → Entries → ℕ
prev_cost k es = passing_cost (reverse (entries_below k es))

-- Records as the entries of their chunks, and entries as the records that they hold (docs/FILE_FORMAT.md, "Entries").
use Rattle.std.specs.Prelude.{ℕ, zero, suc, ◌+◌, nat_le, Bool, true, false, if◌then◌else◌, List, [], ◌∷◌, ◌++◌, length, take, drop, Option, Some, None}
use Rattle.std.specs.List.{flat_map}
use Rattle.tree_model.specs.declared.key.Key.{Key}
use Rattle.tree_model.specs.declared.record.Record.{Record}
use Rattle.tree_model.specs.Entries.{Entries}
use Rattle.node_records.specs.declared.entries.Entry.{Entry}
use Rattle.node_records.specs.Entries.{entry_at}
use Rattle.node_records.specs.Records.{record_bytes, record_of}

-- the chunks of these bytes, the first with this number: each but the last has 1,024 bytes; there are no more than n before the last
abbrev pub chunks_from : ℕ → Key → ℕ → List ℕ → List Entry
chunks_from zero k chunk bytes = entry_at k chunk true bytes ∷ []
chunks_from (suc n) k chunk bytes =
    if nat_le (length bytes) 1_024 then entry_at k chunk true bytes ∷ []
    else entry_at k chunk false (take 1_024 bytes) ∷ chunks_from n k (chunk + 1) (drop 1_024 bytes)

-- the entries of a record at its key
abbrev pub chunks_of : Key × Record → List Entry
chunks_of e = chunks_from (length (record_bytes e.1)) e.0 0 (record_bytes e.1)

-- the entries of a map
abbrev pub all_chunks : Entries → List Entry
all_chunks es = flat_map chunks_of es

-- a record at a key, where these bytes are one
abbrev pub one_more : Key → Option Record → Entries → Entries
one_more k None es = es
one_more k (Some r) es = (k, r) ∷ es

-- the records that entries hold, where these bytes were read of the first one
abbrev pub records_behind : List ℕ → List Entry → Entries
records_behind bytes [] = []
records_behind bytes (e ∷ es) = if e.last then one_more e.key (record_of (bytes ++ e.bytes)) (records_behind [] es) else records_behind (bytes ++ e.bytes) es

-- the bytes of a record of which these were read, and the last entry was its last chunk or wasn't; None where the last one is missing
abbrev pub whole_record : Bool → List ℕ → List Entry → Option (List ℕ)
whole_record true bytes es = Some bytes
whole_record false bytes [] = None
whole_record false bytes (e ∷ es) = whole_record e.last (bytes ++ e.bytes) es

-- the records that entries hold
abbrev pub records_in : List Entry → Entries
records_in es = records_behind [] es

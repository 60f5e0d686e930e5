-- The bytes of an entry, which is a chunk of a record at its key (docs/FILE_FORMAT.md, "Entries").
use Rattle.std.specs.Prelude.{◌<◌, ◌^◌, ℕ, ◌+◌, Bool, true, false, ◌&&◌, ◌==◌, nat_lt, nat_le, if◌then◌else◌, List, ◌∷◌, ◌++◌, length, take, drop, slice_index, Option, Some, None, IsTrue}
use Rattle.std.specs.Str.{is_utf8}
use Rattle.byteorder.specs.Endian.{big_bytes, big_number}
use Rattle.dewey_labels.specs.Labels.{IsLabel}
use Rattle.tree_model.specs.declared.key.Key.{Key}
use Rattle.node_records.specs.Reads.{◌>>=◌}
use Rattle.node_records.specs.Keys.{key_bytes, key_in, IsWritable}
use Rattle.node_records.specs.declared.entries.Entry.{Entry}

-- how many bytes a chunk has that isn't its record's last
abbrev pub chunk_bytes : ℕ
chunk_bytes = 1_024

-- an entry with these parts
abbrev pub entry_at : Key → ℕ → Bool → List ℕ → Entry
entry_at k chunk last bytes = record { key = k; chunk = chunk; last = last; bytes = bytes }

-- 1 for a record's last chunk, 0 for others
abbrev pub flag_of : Bool → ℕ
flag_of true = 1
flag_of false = 0

-- a last chunk has from 1 to 1,024 bytes, and any other has 1,024; no other flag is one
abbrev pub is_chunk : ℕ → ℕ → Bool
is_chunk flag n = if flag == 1 then nat_lt 0 n && nat_le n 1_024 else (flag == 0) && (n == 1_024)

-- what stands between an entry's key and its bytes: the number of its chunk, whether that is the last, how many bytes it has
abbrev pub chunk_head : Entry → List ℕ
chunk_head e = big_bytes 2 e.chunk ++ (flag_of e.last ∷ big_bytes 2 (length e.bytes))

-- the bytes of an entry
abbrev pub entry_bytes : Entry → List ℕ
entry_bytes e = key_bytes e.key ++ (chunk_head e ++ e.bytes)

-- the entry whose key and head were read, and how many bytes it takes behind the key
abbrev pub chunk_of : Key → ℕ → ℕ → ℕ → List ℕ → Option (Entry × ℕ)
chunk_of k chunk flag n bytes = if nat_le n (length bytes) && is_chunk flag n then Some (entry_at k chunk (flag == 1) (take n bytes), 5 + n) else None

-- the same, where the key alone was read
abbrev pub chunk_in : Key → List ℕ → Option (Entry × ℕ)
chunk_in k bytes = if nat_lt (length bytes) 5 then None else chunk_of k (big_number 2 bytes) (slice_index bytes 2) (big_number 2 (drop 3 bytes)) (drop 5 bytes)

-- the entry at the start
abbrev pub entry_in : List ℕ → Option (Entry × ℕ)
entry_in bytes = key_in bytes >>= λ k. chunk_in k.0 (drop k.1 bytes) >>= λ e. Some (e.0, k.1 + e.1)

-- what the types of its parts say of every entry
pub record IsTyped (e : Entry) : Type 0 where
  pub label : IsLabel e.key.label
  pub utf8 : IsTrue (is_utf8 e.key.name)
  pub chunk : e.chunk < 2 ^ 16

-- an entry that its bytes tell
pub record IsWritableEntry (e : Entry) : Type 0 where
  pub key : IsWritable e.key
  pub chunk : e.chunk < 2 ^ 16
  pub bytes : IsTrue (is_chunk (flag_of e.last) (length e.bytes))

-- How entries stand on pages (docs/FILE_FORMAT.md, "Entries").
use Rattle.std.specs.Prelude.{ℕ, List, Option}
use Rattle.node_records.specs.Entries.{entry_bytes, entry_in}
use Rattle.node_records.specs.declared.entries.Entry.{Entry}

-- an entry on a page, whatever stands before it there
abbrev pub entry_behind : Option Entry → Entry → List ℕ
entry_behind before e = entry_bytes e

-- the entry at the start of the bytes, whatever stands before it on its page
abbrev pub entry_read : Option Entry → List ℕ → Option (Entry × ℕ)
entry_read before bytes = entry_in bytes

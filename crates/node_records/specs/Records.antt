-- The bytes of a record (docs/FILE_FORMAT.md, "Records").
use Rattle.std.specs.Prelude.{ℕ, ◌==◌, if◌then◌else◌, List, [], ◌∷◌, length, Option, Some, None}
use Rattle.tree_model.specs.declared.record.Record.{Record}
use Rattle.tree_model.specs.declared.record.Record.TheVariants.{Document, Element, Text, Attr}
use Rattle.node_records.specs.Reads.{◌>>=◌, text_of}

-- a byte for its kind, then the name, data or value
abbrev pub record_bytes : Record → List ℕ
record_bytes Document = 1 ∷ []
record_bytes (Element name) = 2 ∷ name
record_bytes (Text t) = 3 ∷ t
record_bytes (Attr value) = 4 ∷ value

-- a document has nothing behind its kind
abbrev pub document_of : List ℕ → Option Record
document_of [] = Some Document
document_of (b ∷ bs) = None

-- the record that all of the bytes are
abbrev pub record_of : List ℕ → Option Record
record_of [] = None
record_of (kind ∷ bytes) =
    if kind == 1 then document_of bytes else
    if kind == 2 then (text_of bytes >>= λ name. Some (Element name)) else
    if kind == 3 then (text_of bytes >>= λ t. Some (Text t)) else
    if kind == 4 then (text_of bytes >>= λ value. Some (Attr value)) else
    None

-- the same with the number of bytes that it takes, which is all of them
abbrev pub record_in : List ℕ → Option (Record × ℕ)
record_in bytes = record_of bytes >>= λ r. Some (r, length bytes)

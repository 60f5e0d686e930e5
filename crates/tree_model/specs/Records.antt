-- What a record may hold (docs/PROFILE.md, "Limits").
use Rattle.std.specs.Prelude.{ℕ, Bool, true, ◌&&◌, nat_le, List, length, IsTrue}
use Rattle.std.specs.Str.{is_utf8}
use Rattle.tree_model.specs.Limits.{most_text_bytes}
use Rattle.tree_model.specs.Names.{is_name}
use Rattle.tree_model.specs.declared.record.Record.{Record}
use Rattle.tree_model.specs.declared.record.Record.TheVariants.{Document, Element, Text, Attr}

-- the name, data or value is UTF-8, as every text is
abbrev pub HasText : Record → Type 0
HasText Document = Unit {0}
HasText (Element n) = IsTrue (is_utf8 n)
HasText (Text d) = IsTrue (is_utf8 d)
HasText (Attr v) = IsTrue (is_utf8 v)

-- data of a text, or a value of an attribute, that may stand in a tree: UTF-8, and not too long
abbrev pub is_data : List ℕ → Bool
is_data d = nat_le (length d) most_text_bytes && is_utf8 d

-- an element's name is a Name, and a text's data and an attribute's value may stand in a tree
abbrev pub record_fits : Record → Bool
record_fits Document = true
record_fits (Element n) = is_name n
record_fits (Text d) = is_data d
record_fits (Attr v) = is_data v

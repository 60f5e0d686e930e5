-- The bytes of a key (docs/FILE_FORMAT.md, "Keys").
use Rattle.std.specs.Prelude.{ℕ, ◌+◌, ◌==◌, List, [], ◌∷◌, ◌++◌, take, drop, Option, Some, IsTrue}
use Rattle.std.specs.List.{AllByRecursion, position}
use Rattle.std.specs.Prelude.{◌<◌}
use Rattle.std.specs.Str.{is_utf8}
use Rattle.dewey_labels.specs.Labels.{IsLabel}
use Rattle.tree_model.specs.Keys.{key_at}
use Rattle.tree_model.specs.Names.{Name}
use Rattle.tree_model.specs.declared.key.Key.{Key}
use Rattle.node_records.specs.Reads.{◌>>=◌, text_of}
use Rattle.node_records.specs.Labels.{label_bytes, label_in}

-- its label, its name, then 00
abbrev pub key_bytes : Key → List ℕ
key_bytes k = label_bytes k.label ++ (k.name ++ 0 ∷ [])

-- the name at the start: UTF-8 up to the first 00
abbrev pub name_in : List ℕ → Option (Name × ℕ)
name_in bytes = position (λ b. b == 0) bytes >>= λ n. text_of (take n bytes) >>= λ name. Some (name, n + 1)

-- the key at the start
abbrev pub key_in : List ℕ → Option (Key × ℕ)
key_in bytes = label_in bytes >>= λ l. name_in (drop l.1 bytes) >>= λ n. Some (key_at l.0 n.0, l.1 + n.1)

-- a key that its bytes tell: its label is one within the limits, its name is UTF-8 without the character U+0000
pub record IsWritable (k : Key) : Type 0 where
  pub label : IsLabel k.label
  pub utf8 : IsTrue (is_utf8 k.name)
  pub no_zero : AllByRecursion (λ b. 0 < b) k.name

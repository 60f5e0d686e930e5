-- The keys of a tree's map: a label, and a name for an attribute of the node with this label (docs/PROFILE.md, "Keys").
use Rattle.std.specs.Prelude.{◌≡◌, ◌≤◌, ◌⊎◌, [], ◌∷◌, IsTrue}
use Rattle.std.specs.declared.cmp.Ordering.{Ordering}
use Rattle.std.specs.Ordering.{ordering_then, nat_cmp}
use Rattle.std.specs.Cmp.Lexicographic.{slice_cmp}
use Rattle.dewey_labels.specs.Labels.{Label, IsLabel, level}
use Rattle.tree_model.specs.Limits.{deepest_level}
use Rattle.tree_model.specs.Names.{Name, is_name}
use Rattle.tree_model.specs.declared.key.Key.{Key}

-- the key with this label and name
abbrev pub key_at : Label → Name → Key
key_at l n = record { label = l; name = n }

-- the key of the node with this label
abbrev pub node_key : Label → Key
node_key l = key_at l []

-- by label, then by the bytes of the name; both orders are those of lists, a prefix first
abbrev pub key_cmp : Key → Key → Ordering
key_cmp a b = ordering_then (slice_cmp nat_cmp a.label b.label) (slice_cmp nat_cmp a.name b.name)

-- the character U+10FFFF in UTF-8: a text above every Name
abbrev pub top_name : Name
top_name = 0xF4 ∷ 0x8F ∷ 0xBF ∷ 0xBF ∷ []

-- a key's name is empty, for a node, or a Name, for an attribute
abbrev pub IsKeyName : Name → Type 0
IsKeyName n = (n ≡ []) ⊎ IsTrue (is_name n)

-- a key that a tree may have: within the limits, its name empty or a Name
pub record IsValidKey (k : Key) : Type 0 where
  pub label : IsLabel k.label
  pub level : level k.label ≤ deepest_level
  pub name : IsKeyName k.name

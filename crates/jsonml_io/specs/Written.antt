-- A fragment as a JSON value (docs/PROFILE.md, "JsonML"), and its text.
use Rattle.std.specs.Prelude.{◌≡◌, ◌≤◌, ℕ, List, [], ◌∷◌, ◌++◌, Ok}
use Rattle.serde_json.specs.Data.{Data, string, array, object, Members, no_members, put}
use Rattle.serde_json.specs.View.{items_of}
use Rattle.serde_json.specs.Written.{compact_text}
use Rattle.tree_model.specs.Fragments.{IsValid, depth, plain}
use Rattle.tree_model.specs.Names.{Name}
use Rattle.tree_model.specs.Tree.{Attributes}
use Rattle.tree_model.specs.declared.fragment.Fragment.{Fragment, fold-Fragment}
use Rattle.tree_model.specs.declared.fragment.Fragment.TheOpen.{Fragment-F}
use Rattle.jsonml_io.specs.JsonMl.{fragment_in, most_depth}

-- attributes as members of an object, put one after the other
abbrev pub with_members : Members → Attributes → Members
with_members ms [] = ms
with_members ms (a ∷ ats) = with_members (put a.0 (string a.1) ms) ats

-- what stands before an element's children: its name, and an object where it has attributes
abbrev pub opening : Name → Attributes → List Data
opening name [] = string name ∷ []
opening name (a ∷ ats) = string name ∷ object (with_members no_members (a ∷ ats)) ∷ []

-- one fragment, its children already as values
abbrev pub value_step : Fragment-F Data → Data
value_step (Fragment-F.Element name attrs values) = array (items_of (opening name attrs ++ values))
value_step (Fragment-F.Text t) = string t

-- the value that a fragment is written as
abbrev pub json_of : Fragment → Data
json_of = fold-Fragment Data value_step

-- its text, without white space
abbrev pub fragment_text : Fragment → List ℕ
fragment_text f = compact_text (json_of f)

-- its text is read again as it, where it is valid and nests no deeper than is read
abbrev pub IsReadAgain : Fragment → Type 0
IsReadAgain f = IsValid (plain f) → depth (plain f) ≤ most_depth → fragment_in (fragment_text f) ≡ Ok f

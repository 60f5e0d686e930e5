-- The tokens of a fragment's text.
use Rattle.std.specs.Prelude.{List, [], ◌∷◌, map, Bool, true, ◌&&◌}
use Rattle.std.specs.Cmp.Lexicographic.{slice_cmp}
use Rattle.std.specs.Ordering.{is_lt, nat_cmp}
use Rattle.json.specs.Token.{Token, begin_object, end_object, key, string}
use Rattle.json.specs.Tree.{items_tokens, json_tokens, members_tokens}
use Rattle.serde_json.specs.Data.{no_members}
use Rattle.serde_json.specs.View.{items_of}
use Rattle.serde_json.specs.Written.{items_outline, members_outline, outline}
use Rattle.tree_model.specs.Names.{Name}
use Rattle.tree_model.specs.Tree.{Attributes}
use Rattle.tree_model.specs.declared.fragment.Fragment.{Fragment}
use Rattle.jsonml_io.specs.Written.{json_of, with_members}

-- the tokens of the value that a fragment is written as
abbrev pub fragment_tokens : Fragment → List Token
fragment_tokens f = json_tokens (outline (json_of f))

-- those of fragments in a row, with the closing bracket
abbrev pub row_tokens : List Fragment → List Token
row_tokens fs = items_tokens (items_outline (items_of (map json_of fs)))

-- those of an object of attributes, where there are any
abbrev pub attribute_tokens : Attributes → List Token
attribute_tokens [] = []
attribute_tokens (a ∷ ats) = begin_object ∷ members_tokens (members_outline (with_members no_members (a ∷ ats)))

-- attributes as members one behind the other, with the closing brace
abbrev pub member_tokens : Attributes → List Token
member_tokens [] = end_object ∷ []
member_tokens (a ∷ ats) = key a.0 ∷ string a.1 ∷ member_tokens ats

-- whether names rise strictly, the first above this one
abbrev pub rise_behind : Name → Attributes → Bool
rise_behind n [] = true
rise_behind n (a ∷ ats) = is_lt (slice_cmp nat_cmp n a.0) && rise_behind a.0 ats

-- whether names rise strictly
abbrev pub names_rise : Attributes → Bool
names_rise [] = true
names_rise (a ∷ ats) = rise_behind a.0 ats

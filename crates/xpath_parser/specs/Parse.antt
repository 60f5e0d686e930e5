-- The path of a text, or why it is none (docs/PROFILE.md, "Paths"). A place is the token's first byte, or the text's length at its end.
use Rattle.std.specs.Prelude.{◌≡◌, ◌≢◌, ℕ, ◌-◌, List, length, take, encode_utf8_all, Result, Ok, Err, codes}
use Rattle.std.specs.Str.{chars}
use Rattle.path_model.specs.declared.path.XPath.{XPath}
use Rattle.xpath_parser.specs.declared.path_error.PathError.{PathError}
use Rattle.xpath_parser.specs.declared.path_error.PathError.TheVariants as error
use Rattle.xpath_parser.specs.declared.refusal.Refusal.TheVariants.{Syntax, Unsupported, Deep, NoMemory}
use Rattle.xpath_parser.specs.declared.refusal.Refusal.{Refusal}
use Rattle.xpath_parser.specs.declared.refusal.What.{What}
use Rattle.xpath_parser.specs.declared.refusal.What.TheVariants as what
use Rattle.xpath_parser.specs.Grammar.{whole}
use Rattle.xpath_parser.specs.Input.{Outcome}
use Rattle.xpath_parser.specs.Lex.{Text, skip}

-- what isn't supported, as replies have it
abbrev pub what_text : What → List ℕ
what_text what.Axis = codes "axis"
what_text what.NodeTest = codes "node test"
what_text what.Prefix = codes "prefix"
what_text what.Expression = codes "expression"
what_text what.Variable = codes "variable"
what_text what.Function = codes "function"
what_text what.Operator = codes "operator"
what_text what.Fraction = codes "fraction"
what_text what.Number = codes "number"
what_text what.Filter = codes "filter"
what_text what.Argument = codes "argument"

-- the first byte of the token from which on so many characters are left
abbrev pub place_of : Text → ℕ → ℕ
place_of z left = length (encode_utf8_all (take (length z - left) z))

-- the refusal's name, as replies have it
abbrev pub refusal_name : PathError → List ℕ
refusal_name (error.Syntax place) = codes "Syntax"
refusal_name (error.Unsupported place what) = codes "Unsupported"
refusal_name (error.Deep place) = codes "Deep"
refusal_name error.NoMemory = codes "NoMemory"

-- its place, and 0 where memory was wanting
abbrev pub refusal_place : PathError → ℕ
refusal_place (error.Syntax place) = place
refusal_place (error.Unsupported place what) = place
refusal_place (error.Deep place) = place
refusal_place error.NoMemory = 0

abbrev pub error_of : Text → Refusal → PathError
error_of z (Syntax left) = error.Syntax (place_of z left)
error_of z (Unsupported w left) = error.Unsupported (place_of z left) (what_text w)
error_of z (Deep left) = error.Deep (place_of z left)
error_of z NoMemory = error.NoMemory

abbrev pub path_in : Text → Outcome XPath → Result XPath PathError
path_in z (Ok p) = Ok p.0
path_in z (Err r) = Err (error_of z r)

-- the path that the bytes are
abbrev pub parsed : List ℕ → Result XPath PathError
parsed text = path_in (chars text) (whole (skip (chars text)))

-- what `parse` answers: what the text is, unless memory fails
abbrev pub Parses : List ℕ → Result XPath PathError → Type 0
Parses text (Ok path) = parsed text ≡ Ok path
Parses text (Err e) = e ≢ error.NoMemory → parsed text ≡ Err e

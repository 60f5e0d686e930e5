-- The names of axes and functions (XPath 1.0, sections 2.2 and 4), and what a function takes (docs/PROFILE.md, "Paths").
use Rattle.std.specs.Prelude.{ℕ, ◌-◌, ◌^◌, Bool, ◌||◌, if◌then◌else◌, List, [], ◌∷◌, map, Option, None, Some, codes}
use Rattle.std.specs.Str.{bytes_eq}
use Rattle.path_model.specs.Lawful.{takes}
use Rattle.path_model.specs.declared.path.Axis.{Axis}
use Rattle.path_model.specs.declared.path.Axis.TheVariants as axis
use Rattle.path_model.specs.declared.path.Op.{Op}
use Rattle.path_model.specs.declared.path.Op.TheVariants as op
use Rattle.xpath_parser.specs.declared.words.Function.{Function}

-- the axes by their names: those of XPath 1.0 but `namespace`, in its order
abbrev pub axes : List (List ℕ × Axis)
axes =
    (codes "child", axis.Child)
    ∷ (codes "descendant", axis.Descendant)
    ∷ (codes "parent", axis.Parent)
    ∷ (codes "ancestor", axis.Ancestor)
    ∷ (codes "following-sibling", axis.FollowingSibling)
    ∷ (codes "preceding-sibling", axis.PrecedingSibling)
    ∷ (codes "following", axis.Following)
    ∷ (codes "preceding", axis.Preceding)
    ∷ (codes "attribute", axis.Attribute)
    ∷ (codes "self", axis.SelfNode)
    ∷ (codes "descendant-or-self", axis.DescendantOrSelf)
    ∷ (codes "ancestor-or-self", axis.AncestorOrSelf)
    ∷ []

-- the functions by their names: those of the profile, in its order
abbrev pub functions : List (List ℕ × Op)
functions =
    (codes "position", op.Position)
    ∷ (codes "last", op.Last)
    ∷ (codes "count", op.Count)
    ∷ (codes "sum", op.Sum)
    ∷ (codes "name", op.NameOf)
    ∷ (codes "string", op.StringOf)
    ∷ (codes "concat", op.Concat)
    ∷ (codes "starts-with", op.StartsWith)
    ∷ (codes "contains", op.Contains)
    ∷ (codes "substring-before", op.SubstringBefore)
    ∷ (codes "substring-after", op.SubstringAfter)
    ∷ (codes "substring", op.Substring)
    ∷ (codes "string-length", op.StringLength)
    ∷ (codes "normalize-space", op.NormalizeSpace)
    ∷ (codes "boolean", op.BooleanOf)
    ∷ (codes "not", op.Not)
    ∷ (codes "true", op.TrueOf)
    ∷ (codes "false", op.FalseOf)
    ∷ (codes "number", op.NumberOf)
    ∷ []

-- what stands beside a word in a table
abbrev pub find_word : {A : Type 0} → List ℕ → List (List ℕ × A) → Option A
find_word name [] = None
find_word name (row ∷ rows) = if bytes_eq row.0 name then Some row.1 else find_word name rows

abbrev pub axis_named : List ℕ → Option Axis
axis_named name = find_word name axes

-- the most arguments; where there is no limit, more than any text has
abbrev pub most_arguments : Option ℕ → ℕ
most_arguments None = 2 ^ 64 - 1
most_arguments (Some most) = most

-- the function of an operation: its arguments are as many and of the kind that the operation takes
abbrev pub function_of : Op → Function
function_of o = record { op = o; least = (takes o).least; most = most_arguments (takes o).most; takes_nodes = (takes o).are_paths }

-- the functions by their names, each with what it takes
abbrev pub function_rows : List (List ℕ × Function)
function_rows = map (λ row. (row.0, function_of row.1)) functions

abbrev pub function_named : List ℕ → Option Function
function_named name = find_word name function_rows

-- a row of the code's table of functions: the name, the operation, the least and the most arguments, and whether its argument is a node set
abbrev pub function_row : List ℕ → Op → ℕ → ℕ → Bool → List ℕ × Function
function_row name o least most takes_nodes = (name, record { op = o; least = least; most = most; takes_nodes = takes_nodes })

-- node types that this profile leaves out
abbrev pub is_foreign_type : List ℕ → Bool
is_foreign_type name = bytes_eq name (codes "comment") || bytes_eq name (codes "processing-instruction")

-- a name that makes a node test of the `(` behind it
abbrev pub is_node_type : List ℕ → Bool
is_node_type name = bytes_eq name (codes "text") || (bytes_eq name (codes "node") || is_foreign_type name)

-- The keys of calls, and what their values are read as (docs/MANUAL.md, "Keys").
use Rattle.std.specs.Prelude.{ℕ, ◌^◌, ◌==◌, nat_lt, if◌then◌else◌, List, codes, Option, Some, None, option_and_then, Result, Ok, Err}
use Rattle.serde_json.specs.Data.{Data, null}
use Rattle.serde_json.specs.Find.{as_number, as_u64, as_str}
use Rattle.dewey_labels.specs.Labels.{Label, level}
use Rattle.dewey_labels.specs.LabelText.{label_of}
use Rattle.path_model.specs.declared.path.XPath.{XPath}
use Rattle.xpath_parser.specs.declared.path_error.PathError.{PathError}
use Rattle.xpath_parser.specs.Parse.{parsed}
use Rattle.tree_model.specs.declared.fragment.Fragment.{Fragment}
use Rattle.jsonml_io.specs.declared.fragment_error.FragmentError.{FragmentError}
use Rattle.jsonml_io.specs.JsonMl.{fragment_of}
use Rattle.command_lines.specs.declared.bad_line.BadLine.{BadLine}
use Rattle.command_lines.specs.declared.bad_line.BadLine.TheVariants.{Why}
use Rattle.command_lines.specs.declared.key.Key.{Key}
use Rattle.command_lines.specs.declared.key.Key.TheVariants.{At, Path, Name, Offset, Count, Before, Old, Tree, TreeOrNone, Value, Data as DataKey}
use Rattle.command_lines.specs.Reasons.{◌>>=◌, found_or, refused_path, refused_tree}

-- the key as it stands in a line, which is also the reason where it is missing or of the wrong kind
abbrev pub key_name : Key → List ℕ
key_name At = codes "at"
key_name Path = codes "path"
key_name Name = codes "name"
key_name Offset = codes "offset"
key_name Count = codes "count"
key_name Before = codes "before"
key_name Old = codes "old"
key_name Tree = codes "tree"
key_name TreeOrNone = codes "tree"
key_name Value = codes "value"
key_name DataKey = codes "data"

-- the key is missing, or its value of the wrong kind
abbrev pub wrong_key : Key → BadLine
wrong_key key = Why (key_name key)

-- a text, or this reason
abbrev pub string_at : List ℕ → Option Data → Result (List ℕ) BadLine
string_at why value = found_or why (option_and_then as_str value)

-- a text
abbrev pub text_at : Key → Option Data → Result (List ℕ) BadLine
text_at key value = string_at (key_name key) value

-- a number, where it is below this one
abbrev pub if_below : ℕ → ℕ → Option ℕ
if_below most n = if nat_lt n most then Some n else None

-- the whole number that a value is, if it is none below 0
abbrev pub as_whole : Data → Option ℕ
as_whole value = option_and_then as_u64 (as_number value)

-- a whole number up to 4,294,967,295
abbrev pub whole_at : Key → Option Data → Result ℕ BadLine
whole_at key value = found_or (key_name key) (option_and_then (if_below (2 ^ 32)) (option_and_then as_whole value))

-- a label that isn't the root's, which alone has level 0
abbrev pub below_root : Label → Option Label
below_root l = if level l == 0 then None else Some l

-- the label of a document or of a node below one that has this text
abbrev pub node_label : List ℕ → Option Label
node_label text = option_and_then below_root (label_of text)

-- a label of a document or of a node below one
abbrev pub label_at : Key → Option Data → Result Label BadLine
label_at key value = text_at key value >>= λ text. found_or (key_name key) (node_label text)

-- such a label or null
abbrev pub label_or_none_at : Key → Option Data → Result (Option Label) BadLine
label_or_none_at key (Some null) = Ok None
label_or_none_at key value = label_at key value >>= λ l. Ok (Some l)

-- a path, or why the text is none
abbrev pub path_or_reason : Result XPath PathError → Result XPath BadLine
path_or_reason (Ok p) = Ok p
path_or_reason (Err e) = Err (refused_path e)

-- a location path
abbrev pub path_at : Key → Option Data → Result XPath BadLine
path_at key value = text_at key value >>= λ text. path_or_reason (parsed text)

-- a fragment, or why the value is none
abbrev pub fragment_or_reason : Result Fragment FragmentError → Result Fragment BadLine
fragment_or_reason (Ok f) = Ok f
fragment_or_reason (Err e) = Err (refused_tree e)

-- a fragment
abbrev pub tree_at : Key → Option Data → Result Fragment BadLine
tree_at key value = found_or (key_name key) value >>= λ d. fragment_or_reason (fragment_of d)

-- a fragment; none where the key is missing or null
abbrev pub tree_or_none_at : Key → Option Data → Result (Option Fragment) BadLine
tree_or_none_at key None = Ok None
tree_or_none_at key (Some null) = Ok None
tree_or_none_at key value = tree_at key value >>= λ f. Ok (Some f)

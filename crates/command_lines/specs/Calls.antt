-- The words of lines, and what each asks for (docs/MANUAL.md, "Calls").
use Rattle.std.specs.Prelude.{ℕ, List, [], ◌∷◌, codes, Option, Some, None, if◌then◌else◌}
use Rattle.std.specs.Str.{bytes_eq}
use Rattle.command_lines.specs.declared.calls.Word.{Word}
use Rattle.command_lines.specs.declared.calls.Word.TheVariants.{Begin, Commit, Abort, Dom, Find}
use Rattle.command_lines.specs.declared.calls.DomWord.TheVariants.{Docs, OfName, Create, At, AtName, AtData, AtRange, Append, Insert, Replace, Remove, SetAttr, InsertData, ReplaceData, SplitText}
use Rattle.command_lines.specs.declared.calls.OfNameCall.TheVariants as of_name
use Rattle.command_lines.specs.declared.calls.AtCall.TheVariants as at
use Rattle.command_lines.specs.declared.calls.AtNameCall.TheVariants as at_name
use Rattle.command_lines.specs.declared.calls.AtDataCall.TheVariants as at_data
use Rattle.command_lines.specs.declared.calls.AtRangeCall.TheVariants as at_range

-- each word as it stands in a line, and what it asks for: what a session does, then the calls
abbrev pub calls : List (List ℕ × Word)
calls =
    (codes "begin", Begin)
    ∷ (codes "commit", Commit)
    ∷ (codes "abort", Abort)
    ∷ (codes "docs", Dom Docs)
    ∷ (codes "doc", Dom (OfName of_name.Doc))
    ∷ (codes "node", Dom (At at.Node))
    ∷ (codes "parent", Dom (At at.Parent))
    ∷ (codes "first", Dom (At at.First))
    ∷ (codes "last", Dom (At at.Last))
    ∷ (codes "next", Dom (At at.Next))
    ∷ (codes "prev", Dom (At at.Prev))
    ∷ (codes "children", Dom (At at.Children))
    ∷ (codes "attr", Dom (AtName at_name.Attr))
    ∷ (codes "has_attr", Dom (AtName at_name.HasAttr))
    ∷ (codes "attrs", Dom (At at.Attrs))
    ∷ (codes "text_content", Dom (At at.TextContent))
    ∷ (codes "tags", Dom (AtName at_name.Tags))
    ∷ (codes "dump", Dom (At at.Dump))
    ∷ (codes "length", Dom (At at.Length))
    ∷ (codes "substring", Dom (AtRange at_range.Substring))
    ∷ (codes "find", Find)
    ∷ (codes "create", Dom Create)
    ∷ (codes "drop", Dom (OfName of_name.Drop))
    ∷ (codes "append", Dom Append)
    ∷ (codes "insert", Dom Insert)
    ∷ (codes "replace", Dom Replace)
    ∷ (codes "remove", Dom Remove)
    ∷ (codes "set_attr", Dom SetAttr)
    ∷ (codes "remove_attr", Dom (AtName at_name.RemoveAttr))
    ∷ (codes "rename", Dom (AtName at_name.Rename))
    ∷ (codes "set_data", Dom (AtData at_data.SetData))
    ∷ (codes "append_data", Dom (AtData at_data.AppendData))
    ∷ (codes "insert_data", Dom InsertData)
    ∷ (codes "delete_data", Dom (AtRange at_range.DeleteData))
    ∷ (codes "replace_data", Dom ReplaceData)
    ∷ (codes "split_text", Dom SplitText)
    ∷ (codes "normalize", Dom (At at.Normalize))
    ∷ (codes "set_text", Dom (AtData at_data.SetText))
    ∷ []

-- what a word asks for by these rows
abbrev pub find_call : List ℕ → List (List ℕ × Word) → Option Word
find_call name [] = None
find_call name (row ∷ rows) = if bytes_eq row.0 name then Some row.1 else find_call name rows

-- what a word asks for
abbrev pub call_named : List ℕ → Option Word
call_named name = find_call name calls

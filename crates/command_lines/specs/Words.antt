-- What a word asks for: the keys that it takes, each by its kind and in this order, and the call that is made of them.
use Rattle.std.specs.Prelude.{ℕ, List, Option}
use Rattle.dewey_labels.specs.Labels.{Label}
use Rattle.tree_model.specs.declared.dom_call.DomCall.{DomCall}
use Rattle.tree_model.specs.declared.dom_call.DomCall.TheVariants as dom
use Rattle.command_lines.specs.declared.key.Key.{Key}
use Rattle.command_lines.specs.declared.key.Key.TheVariants as key
use Rattle.command_lines.specs.declared.calls.Word.{Word}
use Rattle.command_lines.specs.declared.calls.Word.TheVariants as word
use Rattle.command_lines.specs.declared.calls.DomWord.{DomWord}
use Rattle.command_lines.specs.declared.calls.DomWord.TheVariants.{Docs, OfName, Create, At, AtName, AtData, AtRange, Append, Insert, Replace, Remove, SetAttr, InsertData, ReplaceData, SplitText}
use Rattle.command_lines.specs.declared.calls.OfNameCall.{OfNameCall}
use Rattle.command_lines.specs.declared.calls.OfNameCall.TheVariants as of_name
use Rattle.command_lines.specs.declared.calls.AtCall.{AtCall}
use Rattle.command_lines.specs.declared.calls.AtCall.TheVariants as at
use Rattle.command_lines.specs.declared.calls.AtNameCall.{AtNameCall}
use Rattle.command_lines.specs.declared.calls.AtNameCall.TheVariants as at_name
use Rattle.command_lines.specs.declared.calls.AtDataCall.{AtDataCall}
use Rattle.command_lines.specs.declared.calls.AtDataCall.TheVariants as at_data
use Rattle.command_lines.specs.declared.calls.AtRangeCall.{AtRangeCall}
use Rattle.command_lines.specs.declared.calls.AtRangeCall.TheVariants as at_range
use Rattle.command_lines.specs.declared.command.What.{What}
use Rattle.command_lines.specs.declared.command.What.TheVariants.{Begin, Commit, Abort, Call}
use Rattle.command_lines.specs.declared.command.StoreCall.{StoreCall}
use Rattle.command_lines.specs.declared.command.StoreCall.TheVariants.{Dom, Find}
use Rattle.command_lines.specs.KeyValues.{text_at, whole_at, label_at, label_or_none_at, path_at, tree_at, tree_or_none_at}
use Rattle.command_lines.specs.Taking.{Taking, take_key, ◌|>◌, done}

-- ---- calls with the same keys

abbrev pub of_name_call : OfNameCall → List ℕ → DomCall
of_name_call of_name.Doc name = dom.Doc name
of_name_call of_name.Drop name = dom.Drop name

abbrev pub at_call : AtCall → Label → DomCall
at_call at.Node l = dom.Node l
at_call at.Parent l = dom.Parent l
at_call at.First l = dom.First l
at_call at.Last l = dom.Last l
at_call at.Next l = dom.Next l
at_call at.Prev l = dom.Prev l
at_call at.Children l = dom.Children l
at_call at.Attrs l = dom.Attrs l
at_call at.TextContent l = dom.TextContent l
at_call at.Dump l = dom.Dump l
at_call at.Length l = dom.Length l
at_call at.Normalize l = dom.Normalize l

abbrev pub at_name_call : AtNameCall → Label → List ℕ → DomCall
at_name_call at_name.Attr l name = dom.Attr l name
at_name_call at_name.HasAttr l name = dom.HasAttr l name
at_name_call at_name.Tags l name = dom.Tags l name
at_name_call at_name.RemoveAttr l name = dom.RemoveAttr l name
at_name_call at_name.Rename l name = dom.Rename l name

abbrev pub at_data_call : AtDataCall → Label → List ℕ → DomCall
at_data_call at_data.SetData l t = dom.SetData l t
at_data_call at_data.AppendData l t = dom.AppendData l t
at_data_call at_data.SetText l t = dom.SetText l t

abbrev pub at_range_call : AtRangeCall → Label → ℕ → ℕ → DomCall
at_range_call at_range.Substring l offset count = dom.Substring l offset count
at_range_call at_range.DeleteData l offset count = dom.DeleteData l offset count

-- ---- keys by their kinds

abbrev pub label : Key → Taking Label
label = take_key label_at

abbrev pub label_or_none : Key → Taking (Option Label)
label_or_none = take_key label_or_none_at

abbrev pub text : Key → Taking (List ℕ)
text = take_key text_at

abbrev pub whole : Key → Taking ℕ
whole = take_key whole_at

-- ---- words

abbrev pub dom_call : DomWord → Taking DomCall
dom_call Docs = done dom.Docs
dom_call (OfName call) = text key.Name |> λ name. done (of_name_call call name)
dom_call Create = text key.Name |> λ name. take_key tree_or_none_at key.TreeOrNone |> λ tree. done (dom.Create name tree)
dom_call (At call) = label key.At |> λ l. done (at_call call l)
dom_call (AtName call) = label key.At |> λ l. text key.Name |> λ name. done (at_name_call call l name)
dom_call (AtData call) = label key.At |> λ l. text key.Data |> λ t. done (at_data_call call l t)
dom_call (AtRange call) = label key.At |> λ l. whole key.Offset |> λ offset. whole key.Count |> λ count. done (at_range_call call l offset count)
dom_call Append = label key.At |> λ l. take_key tree_at key.Tree |> λ tree. done (dom.Append l tree)
dom_call Insert = label key.At |> λ l. label_or_none key.Before |> λ before. take_key tree_at key.Tree |> λ tree. done (dom.Insert l before tree)
dom_call Replace = label key.At |> λ l. label key.Old |> λ old. take_key tree_at key.Tree |> λ tree. done (dom.Replace l old tree)
dom_call Remove = label key.At |> λ l. label key.Old |> λ old. done (dom.Remove l old)
dom_call SetAttr = label key.At |> λ l. text key.Name |> λ name. text key.Value |> λ value. done (dom.SetAttr l name value)
dom_call InsertData = label key.At |> λ l. whole key.Offset |> λ offset. text key.Data |> λ t. done (dom.InsertData l offset t)
dom_call ReplaceData = label key.At |> λ l. whole key.Offset |> λ from. whole key.Count |> λ count. text key.Data |> λ t. done (dom.ReplaceData l from count t)
dom_call SplitText = label key.At |> λ l. whole key.Offset |> λ offset. done (dom.SplitText l offset)

abbrev pub find : Taking StoreCall
find = label key.At |> λ l. take_key path_at key.Path |> λ p. done (Find l p)

abbrev pub what_in : Word → Taking What
what_in word.Begin = done Begin
what_in word.Commit = done Commit
what_in word.Abort = done Abort
what_in (word.Dom call) = dom_call call |> λ made. done (Call (Dom made))
what_in word.Find = find |> λ call. done (Call call)

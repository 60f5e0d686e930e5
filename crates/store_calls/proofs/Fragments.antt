-- The fragment of a command's call is valid.
use Rattle.tree_model.specs.declared.dom_call.DomCall.{DomCall}
use Rattle.tree_model.specs.declared.dom_call.DomCall.TheVariants as call
use Rattle.tree_model.specs.Fragments.{IsValid}
use Rattle.tree_changes.specs.ValidCalls.{fragment_brought}
use Rattle.command_lines.specs.ValidCommands.{IsValidCall}

pub brought_is_valid : (c : DomCall) → IsValidCall c → IsValid (fragment_brought c)
brought_is_valid call.Docs valid = tt
brought_is_valid (call.Doc n) valid = tt
brought_is_valid (call.Node l) valid = tt
brought_is_valid (call.Parent l) valid = tt
brought_is_valid (call.First l) valid = tt
brought_is_valid (call.Last l) valid = tt
brought_is_valid (call.Next l) valid = tt
brought_is_valid (call.Prev l) valid = tt
brought_is_valid (call.Children l) valid = tt
brought_is_valid (call.Attr l n) valid = tt
brought_is_valid (call.HasAttr l n) valid = tt
brought_is_valid (call.Attrs l) valid = tt
brought_is_valid (call.TextContent l) valid = tt
brought_is_valid (call.Tags l n) valid = tt
brought_is_valid (call.Dump l) valid = tt
brought_is_valid (call.Length l) valid = tt
brought_is_valid (call.Substring l offset count) valid = tt
brought_is_valid (call.Create n f) valid = valid
brought_is_valid (call.Drop n) valid = tt
brought_is_valid (call.Append p f) valid = valid
brought_is_valid (call.Insert p c f) valid = valid
brought_is_valid (call.Replace p old f) valid = valid
brought_is_valid (call.Remove p old) valid = tt
brought_is_valid (call.SetAttr l n v) valid = tt
brought_is_valid (call.RemoveAttr l n) valid = tt
brought_is_valid (call.Rename l n) valid = tt
brought_is_valid (call.SetData l d) valid = tt
brought_is_valid (call.AppendData l d) valid = tt
brought_is_valid (call.InsertData l offset d) valid = tt
brought_is_valid (call.DeleteData l offset count) valid = tt
brought_is_valid (call.ReplaceData l offset count d) valid = tt
brought_is_valid (call.SplitText l offset) valid = tt
brought_is_valid (call.Normalize l) valid = tt
brought_is_valid (call.SetText l d) valid = tt

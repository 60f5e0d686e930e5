-- Which calls read alone and leave the tree as it is (docs/PROFILE.md, "Calls").
use Rattle.std.specs.Prelude.{Bool, true, false}
use Rattle.tree_model.specs.declared.dom_call.DomCall.{DomCall}
use Rattle.tree_model.specs.declared.dom_call.DomCall.TheVariants as call

-- whether a call reads alone
abbrev pub is_reading : DomCall → Bool
is_reading call.Docs = true
is_reading (call.Doc n) = true
is_reading (call.Node l) = true
is_reading (call.Parent l) = true
is_reading (call.First l) = true
is_reading (call.Last l) = true
is_reading (call.Next l) = true
is_reading (call.Prev l) = true
is_reading (call.Children l) = true
is_reading (call.Attr l n) = true
is_reading (call.HasAttr l n) = true
is_reading (call.Attrs l) = true
is_reading (call.TextContent l) = true
is_reading (call.Tags l n) = true
is_reading (call.Dump l) = true
is_reading (call.Length l) = true
is_reading (call.Substring l offset count) = true
is_reading c = false

-- Valid calls: those whose labels, fragment and text a tree could have (docs/PROFILE.md, "Calls"). What else may be wrong with a call, it refuses itself.
use Rattle.std.specs.Prelude.{ℕ, List, [], ◌∷◌, Option, None, Some, IsTrue}
use Rattle.std.specs.List.{AllByRecursion}
use Rattle.std.specs.Str.{is_utf8}
use Rattle.dewey_labels.specs.Labels.{Label, IsLabel}
use Rattle.tree_model.specs.declared.dom_call.DomCall.{DomCall}
use Rattle.tree_model.specs.declared.dom_call.DomCall.TheVariants as call
use Rattle.tree_model.specs.Fragments.{Fragments, no_more, plain, plain_or_none, IsValid}

-- a label that may be missing, as a list
abbrev pub if_any : Option Label → List Label
if_any None = []
if_any (Some l) = l ∷ []

-- the labels that a call names
abbrev pub labels_named : DomCall → List Label
labels_named call.Docs = []
labels_named (call.Doc n) = []
labels_named (call.Node l) = l ∷ []
labels_named (call.Parent l) = l ∷ []
labels_named (call.First l) = l ∷ []
labels_named (call.Last l) = l ∷ []
labels_named (call.Next l) = l ∷ []
labels_named (call.Prev l) = l ∷ []
labels_named (call.Children l) = l ∷ []
labels_named (call.Attr l n) = l ∷ []
labels_named (call.HasAttr l n) = l ∷ []
labels_named (call.Attrs l) = l ∷ []
labels_named (call.TextContent l) = l ∷ []
labels_named (call.Tags l n) = l ∷ []
labels_named (call.Dump l) = l ∷ []
labels_named (call.Length l) = l ∷ []
labels_named (call.Substring l offset count) = l ∷ []
labels_named (call.Create n f) = []
labels_named (call.Drop n) = []
labels_named (call.Append p f) = p ∷ []
labels_named (call.Insert p c f) = p ∷ if_any c
labels_named (call.Replace p old f) = p ∷ old ∷ []
labels_named (call.Remove p old) = p ∷ old ∷ []
labels_named (call.SetAttr l n v) = l ∷ []
labels_named (call.RemoveAttr l n) = l ∷ []
labels_named (call.Rename l n) = l ∷ []
labels_named (call.SetData l d) = l ∷ []
labels_named (call.AppendData l d) = l ∷ []
labels_named (call.InsertData l offset d) = l ∷ []
labels_named (call.DeleteData l offset count) = l ∷ []
labels_named (call.ReplaceData l offset count d) = l ∷ []
labels_named (call.SplitText l offset) = l ∷ []
labels_named (call.Normalize l) = l ∷ []
labels_named (call.SetText l d) = l ∷ []

-- the fragment that a call brings
abbrev pub fragment_brought : DomCall → Fragments
fragment_brought (call.Create n f) = plain_or_none f
fragment_brought (call.Append p f) = plain f
fragment_brought (call.Insert p c f) = plain f
fragment_brought (call.Replace p old f) = plain f
fragment_brought c = no_more

-- the data or value that a call brings
abbrev pub text_brought : DomCall → List ℕ
text_brought (call.SetAttr l n v) = v
text_brought (call.SetData l d) = d
text_brought (call.AppendData l d) = d
text_brought (call.InsertData l offset d) = d
text_brought (call.ReplaceData l offset count d) = d
text_brought (call.SetText l d) = d
text_brought c = []

-- a valid call: what it names are labels, its fragment is valid, and its text is UTF-8
pub record IsValidCall (c : DomCall) : Type 0 where
  pub labels : AllByRecursion IsLabel (labels_named c)
  pub fragment : IsValid (fragment_brought c)
  pub text : IsTrue (is_utf8 (text_brought c))

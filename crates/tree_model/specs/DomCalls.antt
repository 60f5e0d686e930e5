-- The DOM calls on the tree, a case each (DOM Level 3 Core; docs/PROFILE.md, "Calls").
use Rattle.std.specs.Prelude.{[]}
use Rattle.tree_model.specs.declared.dom_call.DomCall.{DomCall}
use Rattle.tree_model.specs.declared.dom_call.DomCall.TheVariants as call
use Rattle.tree_model.specs.Tree.{Tree}
use Rattle.tree_model.specs.Fragments.{plain, plain_or_none}
use Rattle.tree_model.specs.Outcomes.{Outcome}
use Rattle.tree_model.specs.Navigation as navigation
use Rattle.tree_model.specs.Documents as documents
use Rattle.tree_model.specs.Subtrees as subtrees
use Rattle.tree_model.specs.Placing as placing
use Rattle.tree_model.specs.Attributes as attributes
use Rattle.tree_model.specs.Texts as texts

-- the reply of a call on a tree, and the tree after it
abbrev pub dom : DomCall → Tree → Outcome
dom call.Docs t = (documents.docs t, t)
dom (call.Doc n) t = (documents.doc n t, t)
dom (call.Node l) t = (navigation.node_of l t, t)
dom (call.Parent l) t = (navigation.parent_of l t, t)
dom (call.First l) t = (navigation.first l t, t)
dom (call.Last l) t = (navigation.last l t, t)
dom (call.Next l) t = (navigation.next l t, t)
dom (call.Prev l) t = (navigation.prev l t, t)
dom (call.Children l) t = (navigation.children l t, t)
dom (call.Attr l n) t = (attributes.attr l n t, t)
dom (call.HasAttr l n) t = (attributes.has_attr l n t, t)
dom (call.Attrs l) t = (attributes.attrs l t, t)
dom (call.TextContent l) t = (texts.text_content l t, t)
dom (call.Tags l n) t = (navigation.tags l n t, t)
dom (call.Dump l) t = (subtrees.dump l t, t)
dom (call.Length l) t = (texts.text_length l t, t)
dom (call.Substring l offset count) t = (texts.substring l offset count t, t)
dom (call.Create n f) t = documents.create n (plain_or_none f) t
dom (call.Drop n) t = documents.drop_document n t
dom (call.Append p f) t = placing.append p (plain f) t
dom (call.Insert p c f) t = placing.insert p c (plain f) t
dom (call.Replace p old f) t = placing.replace p old (plain f) t
dom (call.Remove p old) t = placing.remove p old t
dom (call.SetAttr l n v) t = attributes.set_attr l n v t
dom (call.RemoveAttr l n) t = attributes.remove_attr l n t
dom (call.Rename l n) t = attributes.rename l n t
dom (call.SetData l d) t = texts.set_data l d t
dom (call.AppendData l d) t = texts.append_data l d t
dom (call.InsertData l offset d) t = texts.replace_data l offset 0 d t
dom (call.DeleteData l offset count) t = texts.replace_data l offset count [] t
dom (call.ReplaceData l offset count d) t = texts.replace_data l offset count d t
dom (call.SplitText l offset) t = texts.split_text l offset t
dom (call.Normalize l) t = texts.normalize l t
dom (call.SetText l d) t = texts.set_text l d t

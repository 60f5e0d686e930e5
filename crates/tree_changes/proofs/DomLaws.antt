-- Every valid call keeps a valid tree valid.
use Rattle.std.proofs.Common.{[], None, Some}
use Rattle.tree_model.specs.declared.dom_call.DomCall.{DomCall}
use Rattle.tree_model.specs.Tree.{Tree}
use Rattle.tree_model.specs.ValidTrees.{IsValidTree}
use Rattle.tree_model.specs.Fragments.{plain, plain_or_none}
use Rattle.tree_model.specs.DomCalls.{dom}
use Rattle.tree_model.proofs.Appends.{append_keeps}
use Rattle.tree_model.proofs.Creates.{create_keeps}
use Rattle.tree_changes.specs.ValidCalls.{IsValidCall}
use Rattle.tree_changes.proofs.AttributeLaws.{set_attr_keeps, remove_attr_keeps, rename_keeps}
use Rattle.tree_changes.proofs.ContentLaws.{set_text_keeps, normalize_keeps}
use Rattle.tree_changes.proofs.DataLaws.{set_data_keeps, append_data_keeps, replace_data_keeps}
use Rattle.tree_changes.proofs.DocumentLaws.{drop_keeps}
use Rattle.tree_changes.proofs.PlacingLaws.{insert_keeps, replace_keeps, remove_keeps}
use Rattle.tree_changes.proofs.SplitLaws.{split_text_keeps}
use Rattle.tree_model.specs.declared.dom_call.DomCall.TheVariants as call

pub dom_keeps : (c : DomCall) (t : Tree) → IsValidCall c → IsValidTree t → IsValidTree (dom c t).1
dom_keeps call.Docs t valid w = w
dom_keeps (call.Doc n) t valid w = w
dom_keeps (call.Node l) t valid w = w
dom_keeps (call.Parent l) t valid w = w
dom_keeps (call.First l) t valid w = w
dom_keeps (call.Last l) t valid w = w
dom_keeps (call.Next l) t valid w = w
dom_keeps (call.Prev l) t valid w = w
dom_keeps (call.Children l) t valid w = w
dom_keeps (call.Attr l n) t valid w = w
dom_keeps (call.HasAttr l n) t valid w = w
dom_keeps (call.Attrs l) t valid w = w
dom_keeps (call.TextContent l) t valid w = w
dom_keeps (call.Tags l n) t valid w = w
dom_keeps (call.Dump l) t valid w = w
dom_keeps (call.Length l) t valid w = w
dom_keeps (call.Substring l offset count) t valid w = w
dom_keeps (call.Create n f) t valid w = create_keeps n (plain_or_none f) t w valid.fragment
dom_keeps (call.Drop n) t valid w = drop_keeps n t w
dom_keeps (call.Append p f) t valid w = append_keeps p (plain f) t w valid.fragment
dom_keeps (call.Insert p None f) t valid w = append_keeps p (plain f) t w valid.fragment
dom_keeps (call.Insert p (Some c) f) t valid w = insert_keeps p c (plain f) t w valid.fragment
dom_keeps (call.Replace p old f) t valid w = replace_keeps p old (plain f) t w valid.fragment
dom_keeps (call.Remove p old) t valid w = remove_keeps p old t w
dom_keeps (call.SetAttr l n v) t valid w = set_attr_keeps l n v t w valid.text
dom_keeps (call.RemoveAttr l n) t valid w = remove_attr_keeps l n t w
dom_keeps (call.Rename l n) t valid w = rename_keeps l n t w
dom_keeps (call.SetData l d) t valid w = set_data_keeps l d t w valid.text
dom_keeps (call.AppendData l d) t valid w = append_data_keeps l d t w valid.text
dom_keeps (call.InsertData l offset d) t valid w = replace_data_keeps l offset 0 d t w valid.text
dom_keeps (call.DeleteData l offset count) t valid w = replace_data_keeps l offset count [] t w valid.text
dom_keeps (call.ReplaceData l offset count d) t valid w = replace_data_keeps l offset count d t w valid.text
dom_keeps (call.SplitText l offset) t valid w = split_text_keeps l offset t w
dom_keeps (call.Normalize l) t valid w = normalize_keeps l t w
dom_keeps (call.SetText l d) t valid w = set_text_keeps l d t w valid.text

-- Every call ends as its steps say: what they answer early is what the call answers.
use Rattle.std.proofs.Common.{◌≡◌, if◌then◌else◌, [], None, Some, false, is_some, unwrap_or, refl, ap}
use Rattle.tree_model.specs.declared.dom_call.DomCall.{DomCall}
use Rattle.tree_model.specs.Names.{is_name}
use Rattle.tree_model.specs.Tree.{Tree, at, below, beside, children_of}
use Rattle.tree_model.specs.ValidTrees.{IsValidTree}
use Rattle.tree_model.specs.Fragments.{plain, plain_or_none}
use Rattle.tree_model.specs.Navigation.{tagged}
use Rattle.tree_model.specs.Subtrees.{dumped}
use Rattle.tree_model.specs.DomCalls.{dom}
use Rattle.lock_plans.specs.DomPlans.{run}
use Rattle.lock_plans.proofs.AppendOutcome.{append_outcome}
use Rattle.lock_plans.proofs.InsertOutcome.{insert_outcome}
use Rattle.lock_plans.proofs.ReplaceOutcome.{replace_outcome}
use Rattle.lock_plans.proofs.RemoveOutcome.{remove_outcome}
use Rattle.lock_plans.proofs.DocumentOutcomes.{create_outcome, drop_outcome}
use Rattle.tree_model.specs.declared.dom_call.DomCall.TheVariants as call
use Rattle.tree_model.specs.declared.reply.Reply.TheVariants as reply
use Rattle.lock_plans.proofs.NodeOutcomes as nodes

pub run_outcome : (c : DomCall) (t : Tree) → IsValidTree t → (run c t).outcome ≡ dom c t
run_outcome call.Docs t w = refl
run_outcome (call.Doc n) t w = refl
run_outcome (call.Node l) t w = nodes.node_outcome l t (at l t.documents)
run_outcome (call.Parent l) t w = nodes.parent_outcome l t
run_outcome (call.First l) t w = nodes.first_outcome l t
run_outcome (call.Last l) t w = nodes.last_outcome l t
run_outcome (call.Next l) t w = nodes.next_outcome l t
run_outcome (call.Prev l) t w = nodes.prev_outcome l t
run_outcome (call.Children l) t w = nodes.seen_outcome l t (λ f. reply.Places (children_of f))
run_outcome (call.Attr l n) t w = nodes.attribute_outcome l t n (reply.Chars []) (λ ats. reply.Chars (if is_name n then unwrap_or (beside n ats) [] else []))
    (λ h ats. ap (λ b. reply.Chars (if b then unwrap_or (beside n ats) [] else [])) h)
run_outcome (call.HasAttr l n) t w = nodes.attribute_outcome l t n (reply.Flag false) (λ ats. reply.Flag (if is_name n then is_some (beside n ats) else false))
    (λ h ats. ap (λ b. reply.Flag (if b then is_some (beside n ats) else false)) h)
run_outcome (call.Attrs l) t w = nodes.attrs_outcome l t
run_outcome (call.TextContent l) t w = nodes.content_outcome l t
run_outcome (call.Tags l n) t w = nodes.seen_outcome l t (λ f. reply.Places (tagged n (below f)))
run_outcome (call.Dump l) t w = nodes.seen_outcome l t (λ f. reply.Tree (dumped f))
run_outcome (call.Length l) t w = nodes.length_outcome l t
run_outcome (call.Substring l offset count) t w = nodes.substring_outcome l t offset count
run_outcome (call.Create n f) t w = create_outcome n (plain_or_none f) t
run_outcome (call.Drop n) t w = drop_outcome n t
run_outcome (call.Append p f) t w = append_outcome p (plain f) t
run_outcome (call.Insert p None f) t w = append_outcome p (plain f) t
run_outcome (call.Insert p (Some c) f) t w = insert_outcome p c (plain f) t
run_outcome (call.Replace p old f) t w = replace_outcome p old (plain f) t
run_outcome (call.Remove p old) t w = remove_outcome p old t
run_outcome (call.SetAttr l n v) t w = nodes.set_attr_outcome l t n v
run_outcome (call.RemoveAttr l n) t w = nodes.remove_attr_outcome l t n
run_outcome (call.Rename l n) t w = nodes.rename_outcome l t n
run_outcome (call.SetData l d) t w = nodes.set_data_outcome l t d
run_outcome (call.AppendData l d) t w = nodes.append_data_outcome l t d
run_outcome (call.InsertData l offset d) t w = nodes.replace_data_outcome l t offset 0 d
run_outcome (call.DeleteData l offset count) t w = nodes.replace_data_outcome l t offset count []
run_outcome (call.ReplaceData l offset count d) t w = nodes.replace_data_outcome l t offset count d
run_outcome (call.SplitText l offset) t w = nodes.split_outcome l t offset
run_outcome (call.Normalize l) t w = nodes.normalize_outcome l t
run_outcome (call.SetText l d) t w = nodes.set_text_outcome l t d w

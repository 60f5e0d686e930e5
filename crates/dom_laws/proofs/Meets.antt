-- Each call goes the same way on trees that agree on what it asked for; so it keeps the laws.
use Rattle.std.proofs.Common.{◌≡◌, ℕ, suc, true, false, [], None, Some, take, refl, sym, ap, ◌∙◌}
use Rattle.tree_model.specs.declared.dom_call.DomCall.{DomCall}
use Rattle.tree_model.specs.Tree.{Tree}
use Rattle.tree_model.specs.ValidTrees.{IsValidTree}
use Rattle.tree_model.specs.Fragments.{plain, plain_or_none}
use Rattle.tree_model.specs.Outcomes.{Outcome}
use Rattle.tree_model.specs.DomCalls.{dom}
use Rattle.tree_changes.specs.ValidCalls.{IsValidCall}
use Rattle.tree_cells.specs.Cells.{Cell, value_at}
use Rattle.tree_cells.specs.Covers.{writes, Agree}
use Rattle.tree_cells.specs.Forms.{AreRows, HasForm}
use Rattle.tree_cells.proofs.FormedRows.{rows_formed}
use Rattle.lock_plans.specs.DomPlans.{run, requests}
use Rattle.lock_plans.proofs.Outcomes.{run_outcome}
use Rattle.dom_laws.proofs.AppendLaws.{append_same, plain_is_one}
use Rattle.dom_laws.proofs.CreateLaws.{create_same}
use Rattle.dom_laws.proofs.DataLaws.{append_data_same, insert_data_same, delete_data_same, replace_data_same}
use Rattle.dom_laws.proofs.DropLaws.{drop_same}
use Rattle.dom_laws.proofs.InsertLaws.{insert_same}
use Rattle.dom_laws.proofs.MoreReads.{last_same, next_same, prev_same, has_attr_same, attrs_same, text_content_same, length_same, substring_same}
use Rattle.dom_laws.proofs.NormalizeLaws.{normalize_same}
use Rattle.dom_laws.proofs.ReadLaws.{docs_same, doc_same, node_same, parent_same, first_same, children_same, attr_same, tags_same, dump_same}
use Rattle.dom_laws.proofs.RemoveAttrLaws.{remove_attr_same}
use Rattle.dom_laws.proofs.RemoveLaws.{remove_same}
use Rattle.dom_laws.proofs.RenameLaws.{rename_same}
use Rattle.dom_laws.proofs.ReplaceLaws.{replace_same}
use Rattle.dom_laws.proofs.Same.{Same}
use Rattle.dom_laws.proofs.SetTextLaws.{set_text_same}
use Rattle.dom_laws.proofs.SplitLaws.{split_same}
use Rattle.dom_laws.proofs.WriteLaws.{set_data_same, set_attr_same}
use Rattle.tree_model.specs.declared.dom_call.DomCall.TheVariants as call

-- ---- every call

pub call_same : (c : DomCall) → IsValidCall c → (t u : Tree) → IsValidTree t → IsValidTree u → Same [] t u (run c t) (run c u)
call_same call.Docs valid t u w v = docs_same t u w v
call_same (call.Doc n) valid t u w v = doc_same n t u w v
call_same (call.Node l) valid t u w v = node_same l valid t u w v
call_same (call.Parent l) valid t u w v = parent_same l valid t u w v
call_same (call.First l) valid t u w v = first_same l valid t u w v
call_same (call.Last l) valid t u w v = last_same l valid t u w v
call_same (call.Next l) valid t u w v = next_same l valid t u w v
call_same (call.Prev l) valid t u w v = prev_same l valid t u w v
call_same (call.Children l) valid t u w v = children_same l valid t u w v
call_same (call.Attr l n) valid t u w v = attr_same l n valid t u w v
call_same (call.HasAttr l n) valid t u w v = has_attr_same l n valid t u w v
call_same (call.Attrs l) valid t u w v = attrs_same l valid t u w v
call_same (call.TextContent l) valid t u w v = text_content_same l valid t u w v
call_same (call.Tags l n) valid t u w v = tags_same l n valid t u w v
call_same (call.Dump l) valid t u w v = dump_same l valid t u w v
call_same (call.Length l) valid t u w v = length_same l valid t u w v
call_same (call.Substring l offset count) valid t u w v = substring_same l offset count valid t u w v
call_same (call.Create n f) valid t u w v = create_same n (plain_or_none f) valid.fragment t u w v
call_same (call.Drop n) valid t u w v = drop_same n t u w v
call_same (call.Append p f) valid t u w v = append_same p (plain f) valid.labels.0.0 (plain_is_one f) valid.fragment t u w v
call_same (call.Insert p None f) valid t u w v = append_same p (plain f) valid.labels.0.0 (plain_is_one f) valid.fragment t u w v
call_same (call.Insert p (Some c) f) valid t u w v = insert_same p c (plain f) valid.labels.0.0 valid.labels.1.0.0 (plain_is_one f) valid.fragment t u w v
call_same (call.Replace p old f) valid t u w v = replace_same p old (plain f) valid.labels.0.0 valid.labels.1.0.0 (plain_is_one f) valid.fragment t u w v
call_same (call.Remove p old) valid t u w v = remove_same p old valid.labels.0.0 valid.labels.1.0.0 t u w v
call_same (call.SetAttr l n x) valid t u w v = set_attr_same l n x valid t u w v
call_same (call.RemoveAttr l n) valid t u w v = remove_attr_same l n valid t u w v
call_same (call.Rename l n) valid t u w v = rename_same l n valid t u w v
call_same (call.SetData l d) valid t u w v = set_data_same l d valid t u w v
call_same (call.AppendData l d) valid t u w v = append_data_same l d valid t u w v
call_same (call.InsertData l offset d) valid t u w v = insert_data_same l offset d valid t u w v
call_same (call.DeleteData l offset count) valid t u w v = delete_data_same l offset count valid t u w v
call_same (call.ReplaceData l offset count d) valid t u w v = replace_data_same l offset count d valid t u w v
call_same (call.SplitText l offset) valid t u w v = split_same l offset valid.labels.0.0 t u w v
call_same (call.Normalize l) valid t u w v = normalize_same l valid.labels.0.0 t u w v
call_same (call.SetText l d) valid t u w v = set_text_same l d valid t u w v

-- ---- the laws

-- the requests are rows of the table, each with its intentions before it
pub requests_rows : (c : DomCall) (t : Tree) → IsValidCall c → IsValidTree t → AreRows (requests c t)
requests_rows c t valid w = (call_same c valid t t w w).form (λ x _. refl)

-- so they have the form
pub requests_formed : (c : DomCall) (t : Tree) → IsValidCall c → IsValidTree t → HasForm (requests c t)
requests_formed c t valid w = rows_formed (requests c t) (requests_rows c t valid w)

-- trees that agree on what is covered for reading give the same reply
pub replies_same : (c : DomCall) (t u : Tree) → IsValidCall c → IsValidTree t → IsValidTree u → Agree (requests c t) t u → (dom c t).0 ≡ (dom c u).0
replies_same c t u valid w v agree = ap (λ (o : Outcome). o.0) (sym (run_outcome c t w)) ∙ (call_same c valid t u w v).reply agree
    ∙ ap (λ (o : Outcome). o.0) (run_outcome c u v)

-- and afterwards have the same in each cell that is covered for writing
pub written_same : (c : DomCall) (t u : Tree) → IsValidCall c → IsValidTree t → IsValidTree u → Agree (requests c t) t u
    → (x : Cell) → writes (requests c t) x ≡ true → value_at (dom c t).1 x ≡ value_at (dom c u).1 x
written_same c t u valid w v agree x on = ap (λ (o : Outcome). value_at o.1 x) (sym (run_outcome c t w)) ∙ (call_same c valid t u w v).written agree x on
    ∙ ap (λ (o : Outcome). value_at o.1 x) (run_outcome c u v)

-- no other cell changes
pub rest_kept : (c : DomCall) (t : Tree) → IsValidCall c → IsValidTree t → (x : Cell) → writes (requests c t) x ≡ false → value_at (dom c t).1 x ≡ value_at t x
rest_kept c t valid w x off = ap (λ (o : Outcome). value_at o.1 x) (sym (run_outcome c t w)) ∙ (call_same c valid t t w w).kept (λ y _. refl) x off

-- the next request is the same, or there is none
pub next_same_request : (c : DomCall) (t u : Tree) (k : ℕ) → IsValidCall c → IsValidTree t → IsValidTree u → Agree (take k (requests c t)) t u
    → take (suc k) (requests c t) ≡ take (suc k) (requests c u)
next_same_request c t u k valid w v agree = (call_same c valid t u w v).next k agree

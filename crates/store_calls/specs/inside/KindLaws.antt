-- The calls keep the laws of calls: each kind does.
use Rattle.std.specs.Prelude.{◌≡◌, ℕ, suc, true, false, take}
use Rattle.dewey_labels.specs.Labels.{Label}
use Rattle.tree_model.specs.Outcomes.{is_refused}
use Rattle.tree_model.specs.Tree.{Tree}
use Rattle.tree_model.specs.ValidTrees.{IsValidTree}
use Rattle.tree_cells.specs.Cells.{Cell, value_at}
use Rattle.tree_cells.specs.Covers.{writes, Agree}
use Rattle.tree_cells.specs.Forms.{HasForm}
use Rattle.path_model.specs.PlainPaths.{plain_path}
use Rattle.path_model.specs.declared.path.XPath.{XPath}
use Rattle.xpath_plans.specs.Finds as plans
use Rattle.xpath_plans.proofs.FindLaws.{find_laws}
use Rattle.call_contract.specs.Calls.{CallLaws}
use Rattle.command_lines.specs.declared.command.StoreCall.{StoreCall}
use Rattle.command_lines.specs.declared.command.StoreCall.TheVariants.{Dom, Find}
use Rattle.dom_laws.proofs.Contract.{dom_laws}
use Rattle.store_calls.specs.StoreCalls.{store_requests, store_reply, store_after, store_meaning, IsValidStoreCall}

-- a find as it is meant
abbrev find_of : Label → XPath → plans.Find
find_of at path = record { at = at; path = plain_path path }

form_of : (c : StoreCall) (t : Tree) → IsValidStoreCall c → IsValidTree t → HasForm (store_requests c t)
form_of (Dom call) t i w = dom_laws.form call t i w
form_of (Find at path) t i w = find_laws.form (find_of at path) t i.label w

reply_of : (c : StoreCall) (t u : Tree) → IsValidStoreCall c → IsValidTree t → IsValidTree u → Agree (store_requests c t) t u → store_reply c t ≡ store_reply c u
reply_of (Dom call) t u i w v agree = dom_laws.same_reply call t u i w v agree
reply_of (Find at path) t u i w v agree = find_laws.same_reply (find_of at path) t u i.label w v agree

written_of : (c : StoreCall) (t u : Tree) → IsValidStoreCall c → IsValidTree t → IsValidTree u → Agree (store_requests c t) t u
    → (x : Cell) → writes (store_requests c t) x ≡ true → value_at (store_after c t) x ≡ value_at (store_after c u) x
written_of (Dom call) t u i w v agree x on = dom_laws.same_written call t u i w v agree x on
written_of (Find at path) t u i w v agree x on = find_laws.same_written (find_of at path) t u i.label w v agree x on

rest_of : (c : StoreCall) (t : Tree) → IsValidStoreCall c → IsValidTree t → (x : Cell) → writes (store_requests c t) x ≡ false → value_at (store_after c t) x ≡ value_at t x
rest_of (Dom call) t i w x off = dom_laws.keeps_rest call t i w x off
rest_of (Find at path) t i w x off = find_laws.keeps_rest (find_of at path) t i.label w x off

next_of : (c : StoreCall) (t u : Tree) (k : ℕ) → IsValidStoreCall c → IsValidTree t → IsValidTree u → Agree (take k (store_requests c t)) t u
    → take (suc k) (store_requests c t) ≡ take (suc k) (store_requests c u)
next_of (Dom call) t u k i w v agree = dom_laws.same_next call t u k i w v agree
next_of (Find at path) t u k i w v agree = find_laws.same_next (find_of at path) t u k i.label w v agree

valid_after : (c : StoreCall) (t : Tree) → IsValidStoreCall c → IsValidTree t → IsValidTree (store_after c t)
valid_after (Dom call) t i w = dom_laws.keeps_valid call t i w
valid_after (Find at path) t i w = find_laws.keeps_valid (find_of at path) t i.label w

refused_of : (c : StoreCall) (t : Tree) → IsValidStoreCall c → IsValidTree t → is_refused (store_reply c t) ≡ true → store_after c t ≡ t
refused_of (Dom call) t i w h = dom_laws.refused_keeps call t i w h
refused_of (Find at path) t i w h = find_laws.refused_keeps (find_of at path) t i.label w h

pub laws_of_kinds : CallLaws StoreCall IsValidStoreCall store_meaning
laws_of_kinds = record {
  form = form_of;
  same_reply = reply_of;
  same_written = written_of;
  keeps_rest = rest_of;
  same_next = next_of;
  keeps_valid = valid_after;
  refused_keeps = refused_of;
}

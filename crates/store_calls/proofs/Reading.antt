-- Calls that read alone leave the tree, and have no changes.
use Rattle.std.specs.Prelude.{Option, Some, None, Result, Ok, Err, IfOk, IfSome, IsSome, IsTrue}
use Rattle.std.proofs.Common.{◌≡◌, [], ap, refl, sym, subst, ◌∙◌, true, true≢false}
use Rattle.tree_model.specs.declared.dom_call.DomCall.{DomCall}
use Rattle.tree_model.specs.declared.dom_call.DomCall.TheVariants as call
use Rattle.tree_model.specs.DomCalls.{dom}
use Rattle.tree_model.specs.Entries.{Entries}
use Rattle.tree_model.specs.declared.reply.Reply.{Reply}
use Rattle.tree_model.specs.Changes.{differences}
use Rattle.tree_model.specs.Tree.{Tree, map_of}
use Rattle.tree_model.specs.ValidTrees.{IsValidTree}
use Rattle.tree_model.proofs.WholeTree.{map_sorted}
use Rattle.tree_changes.proofs.ChangeLists.{no_differences}
use Rattle.node_seq.specs.Trees.{OnTree}
use Rattle.dom_reads.specs.Reading.{is_reading}
use Rattle.call_contract.specs.Calls.{OnlyAnswers, changes_of}
use Rattle.session_driver.specs.Asking.{BookCall}
use Rattle.command_lines.specs.declared.command.StoreCall.TheVariants.{Dom, Find}
use Rattle.dewey_labels.specs.Labels.{Label}
use Rattle.path_model.specs.Finds.{found_at}
use Rattle.path_model.specs.PlainPaths.{plain_path}
use Rattle.path_model.specs.declared.path.XPath.{XPath}
use Rattle.store_calls.specs.StoreCalls.{store_meaning, store_reply, KnowsFind}

pub reading_leaves : (c : DomCall) (t : Tree) → is_reading c ≡ true → (dom c t).1 ≡ t
reading_leaves call.Docs t reads = refl
reading_leaves (call.Doc n) t reads = refl
reading_leaves (call.Node l) t reads = refl
reading_leaves (call.Parent l) t reads = refl
reading_leaves (call.First l) t reads = refl
reading_leaves (call.Last l) t reads = refl
reading_leaves (call.Next l) t reads = refl
reading_leaves (call.Prev l) t reads = refl
reading_leaves (call.Children l) t reads = refl
reading_leaves (call.Attr l n) t reads = refl
reading_leaves (call.HasAttr l n) t reads = refl
reading_leaves (call.Attrs l) t reads = refl
reading_leaves (call.TextContent l) t reads = refl
reading_leaves (call.Tags l n) t reads = refl
reading_leaves (call.Dump l) t reads = refl
reading_leaves (call.Length l) t reads = refl
reading_leaves (call.Substring l offset count) t reads = refl
reading_leaves (call.Create n f) t reads = absurd (true≢false (sym reads))
reading_leaves (call.Drop n) t reads = absurd (true≢false (sym reads))
reading_leaves (call.Append p f) t reads = absurd (true≢false (sym reads))
reading_leaves (call.Insert p c f) t reads = absurd (true≢false (sym reads))
reading_leaves (call.Replace p old f) t reads = absurd (true≢false (sym reads))
reading_leaves (call.Remove p old) t reads = absurd (true≢false (sym reads))
reading_leaves (call.SetAttr l n v) t reads = absurd (true≢false (sym reads))
reading_leaves (call.RemoveAttr l n) t reads = absurd (true≢false (sym reads))
reading_leaves (call.Rename l n) t reads = absurd (true≢false (sym reads))
reading_leaves (call.SetData l d) t reads = absurd (true≢false (sym reads))
reading_leaves (call.AppendData l d) t reads = absurd (true≢false (sym reads))
reading_leaves (call.InsertData l offset d) t reads = absurd (true≢false (sym reads))
reading_leaves (call.DeleteData l offset count) t reads = absurd (true≢false (sym reads))
reading_leaves (call.ReplaceData l offset count d) t reads = absurd (true≢false (sym reads))
reading_leaves (call.SplitText l offset) t reads = absurd (true≢false (sym reads))
reading_leaves (call.Normalize l) t reads = absurd (true≢false (sym reads))
reading_leaves (call.SetText l d) t reads = absurd (true≢false (sym reads))

pub reading_changes_nothing : (c : DomCall) (t : Tree) → IsValidTree t → is_reading c ≡ true → differences (map_of t) (map_of (dom c t).1) ≡ []
reading_changes_nothing c t w reads = ap (λ u. differences (map_of t) (map_of u)) (reading_leaves c t reads) ∙ no_differences (map_of t) (map_sorted t w)

-- a call of the store that reads alone has no changes
pub dom_changes_nothing : (x : BookCall) (c : DomCall) (t : Tree) → Dom c ≡ x → IsValidTree t → is_reading c ≡ true → changes_of store_meaning x t ≡ []
dom_changes_nothing x c t is w reads = subst (λ y. changes_of store_meaning y t ≡ []) is (reading_changes_nothing c t w reads)

-- and so has a find, whatever the path
pub find_changes_nothing : (x : BookCall) (at : Label) (path : XPath) (t : Tree) → Find at path ≡ x → IsValidTree t → changes_of store_meaning x t ≡ []
find_changes_nothing x at path t is w = subst (λ y. changes_of store_meaning y t ≡ []) is (no_differences (map_of t) (map_sorted t w))

-- what holds of every answer holds of an answer that came
pub of_every_answer : {A E : Type 0} (r : Result A E) (P : A → Type 0) → ((x : A) → P x) → IfOk r P
of_every_answer (Ok x) P all = all x
of_every_answer (Err e) P all = tt

-- the reply of a call that reads alone is all that the call does
pub only_answers : {E : Type 0} (told : Option Entries) (x : BookCall) (c : DomCall) (r : Result (Option Reply) E) → Dom c ≡ x
    → OnTree told r (λ t known. IfSome known (λ answer. answer ≡ (dom c t).0)) → IfOk r (λ known. IsSome known → IsTrue (is_reading c))
    → OnTree told r (λ t known. IfSome known (OnlyAnswers store_meaning x t))
only_answers told x c (Err e) is replies reads = tt
only_answers told x c (Ok None) is replies reads = λ t stands. tt
only_answers told x c (Ok (Some answer)) is replies reads = λ t stands. record {
  reply = replies t stands ∙ ap (λ y. store_reply y t) is;
  changes = dom_changes_nothing x c t is stands.valid (reads refl);
}

-- so is that of a find
pub find_only_answers : {E : Type 0} (told : Option Entries) (x : BookCall) (at : Label) (path : XPath) (r : Result (Option Reply) E) → Find at path ≡ x
    → OnTree told r (λ t known. known ≡ Some (found_at at (plain_path path) t)) → OnTree told r (λ t known. IfSome known (OnlyAnswers store_meaning x t))
find_only_answers told x at path (Err e) is replies = tt
find_only_answers told x at path (Ok known) is replies = λ t stands.
    subst (λ o. IfSome o (OnlyAnswers store_meaning x t)) (sym (replies t stands)) (record { reply = ap (λ y. store_reply y t) is; changes = find_changes_nothing x at path t is stands.valid })

-- of a DOM call nothing is asked
pub dom_knows : {E : Type 0} (told : Option Entries) (x : BookCall) (c : DomCall) (r : Result (Option Reply) E) → Dom c ≡ x → OnTree told r (KnowsFind x)
dom_knows told x c (Err e) is = tt
dom_knows told x c (Ok known) is = λ t stands. subst (λ y. KnowsFind y t known) is tt

-- a find whose reply is known is answered at once
pub find_knows : {E : Type 0} (told : Option Entries) (x : BookCall) (at : Label) (path : XPath) (r : Result (Option Reply) E) → Find at path ≡ x
    → OnTree told r (λ t known. known ≡ Some (found_at at (plain_path path) t)) → OnTree told r (KnowsFind x)
find_knows told x at path (Err e) is replies = tt
find_knows told x at path (Ok known) is replies = λ t stands. subst (λ y. KnowsFind y t known) is (replies t stands)

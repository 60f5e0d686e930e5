-- A first call that is refused leaves the tree.
use Rattle.std.proofs.Common.{◌≡◌, Bool, true, if◌then◌else◌, [], sym, ap, ◌∙◌}
use Rattle.dewey_labels.specs.Labels.{Label}
use Rattle.tree_model.specs.declared.reply.Reply.{Reply}
use Rattle.tree_model.specs.Changes.{differences}
use Rattle.tree_model.specs.Outcomes.{is_refused}
use Rattle.tree_model.specs.Tree.{Tree, map_of}
use Rattle.tree_model.specs.ValidTrees.{IsValidTree}
use Rattle.call_contract.specs.Calls.{changes_of}
use Rattle.call_rows.specs.Toys.{look, clear}
use Rattle.call_rows.specs.MadeToys.{look_then_clear}
use Rattle.call_tests.proofs.Changes.{nothing_changed}

pub refused_changes : (a : Label × Label) (t : Tree) → IsValidTree t → (answer : Reply) → answer ≡ look.reply a.0 t → is_refused answer ≡ true
    → [] ≡ changes_of look_then_clear a t
refused_changes a t w answer is e = nothing_changed t w ∙ sym (ap (λ (u : Tree). differences (map_of t) (map_of u)) stays)
  where
    refused : is_refused (look.reply a.0 t) ≡ true
    refused = sym (ap is_refused is) ∙ e

    stays : look_then_clear.after a t ≡ t
    stays =
        ap (λ (b : Bool). if is_refused (if b then look.reply a.0 t else clear.reply a.1 t) then t else clear.after a.1 t) refused
        ∙ ap (λ (b : Bool). if b then t else clear.after a.1 t) refused

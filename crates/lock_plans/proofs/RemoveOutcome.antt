-- `remove` ends as its steps say.
use Rattle.std.proofs.Common.{◌≡◌, true, false, not, if◌then◌else◌, ◌&&◌, None, Some, refl, sym, ap, ◌∙◌, true≢false}
use Rattle.dewey_labels.specs.Labels.{Label, parent}
use Rattle.tree_model.specs.declared.reply.Reply.TheVariants.{Refused}
use Rattle.tree_model.specs.declared.refusal.Refusal.TheVariants.{Dom}
use Rattle.tree_model.specs.Tree.{Forest, none, node, Tree, at, found, behind, next_of, prev_of}
use Rattle.tree_model.specs.ValidTrees.{same_label}
use Rattle.tree_model.specs.Outcomes.{Outcome, refused, see_in, not_found_err}
use Rattle.tree_model.specs.Edits.{edited}
use Rattle.tree_model.specs.Placing.{has_child, remove_from, remove}
use Rattle.tree_model.specs.Subtrees.{fragment_of}
use Rattle.tree_changes.proofs.Cases.{not_false, not_true}
use Rattle.lock_plans.specs.Plans.{ends}
use Rattle.lock_plans.specs.DomPlans.{run}
use Rattle.lock_plans.proofs.StepOutcomes.{stepped, left_outcome, right_outcome, change_by}
use Rattle.tree_model.specs.declared.reply.Reply.TheVariants as reply
use Rattle.tree_model.specs.declared.dom_call.DomCall.TheVariants as call
use Rattle.lock_plans.specs.Plans as plans

module _ (p old : Label) (t : Tree) where
  pub removed : (g : Forest) → found g ≡ true → has_child p old t ≡ true
      → see_in t (remove_from p old t) g ≡ (reply.Tree (Some (fragment_of (at old t.documents))), edited old behind t)
  removed none y h = absurd (true≢false (sym y))
  removed (node m r ats ch nx) y h =
      ap (λ b. if not b then refused (Dom not_found_err) t else (reply.Tree (Some (fragment_of (at old t.documents))), edited old behind t)) h

  pub not_child : (g : Forest) → has_child p old t ≡ false → see_in t (remove_from p old t) g ≡ refused (Dom not_found_err) t
  not_child none h = refl
  not_child (node m r ats ch nx) h =
      ap (λ b. if not b then refused (Dom not_found_err) t else (reply.Tree (Some (fragment_of (at old t.documents))), edited old behind t)) h

pub remove_outcome : (p old : Label) (t : Tree) → (run (call.Remove p old) t).outcome ≡ remove p old t
remove_outcome p old t = change_by t (remove_from p old t) rest (λ m r ats ch nx. by (node m r ats ch nx) refl) (at p t.documents)
  where
    rest : Forest → Outcome
    rest g = if not (same_label (parent old) p) then (Refused (Dom not_found_err), t) else if not
        (found (at old t.documents)) then (Refused (Dom not_found_err), t)
        else (plans.take_out p old (prev_of None old t.documents) (next_of (at old t.documents)) (ends (see_in t (remove_from p old t) g))).outcome

    by : (g : Forest) → found g ≡ true → rest g ≡ see_in t (remove_from p old t) g
    by g y = stepped (not (same_label (parent old) p)) _ _ _
        (λ h. sym (not_child p old t g (ap (λ b. b && found (at old t.documents)) (not_true (same_label (parent old) p) h))))
        (λ h. stepped (not (found (at old t.documents))) _ _ _
        (λ k. sym (not_child p old t g (λ i. not_false (same_label (parent old) p) h i && not_true (found (at old t.documents)) k i)))
        (λ k. left_outcome p (prev_of None old t.documents) _ ∙ right_outcome p (next_of (at old t.documents)) _))

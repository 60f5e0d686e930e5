-- `replace` ends as its steps say.
use Rattle.std.proofs.Common.{◌≡◌, Bool, true, not, if◌then◌else◌, ◌&&◌, Option, None, Some, refl, sym, ap, ◌∙◌, true≢false}
use Rattle.dewey_labels.specs.Labels.{Label, parent}
use Rattle.dewey_labels.specs.NewLabels.{new_label}
use Rattle.tree_model.specs.declared.reply.Reply.TheVariants.{Refused}
use Rattle.tree_model.specs.declared.refusal.Refusal.TheVariants.{Dom, TooDeep, LabelLimit}
use Rattle.tree_model.specs.Tree.{Forest, none, node, Tree, at, found, next_of, prev_of}
use Rattle.tree_model.specs.ValidTrees.{same_label}
use Rattle.tree_model.specs.Fragments.{Fragments, is_text_fragment}
use Rattle.tree_model.specs.Graft.{graft, all_within}
use Rattle.tree_model.specs.Outcomes.{Outcome, refused, see_in, hierarchy_request_err, not_found_err}
use Rattle.tree_model.specs.NodeKinds.{is_document}
use Rattle.tree_model.specs.Edits.{edited}
use Rattle.tree_model.specs.Placing.{has_child, is_too_deep, place, in_place, replace_in, replace}
use Rattle.tree_model.specs.Subtrees.{fragment_of}
use Rattle.tree_changes.proofs.Cases.{not_false, not_true}
use Rattle.lock_plans.specs.Plans.{ends, in_turn}
use Rattle.lock_plans.specs.DomPlans.{replace_steps}
use Rattle.lock_plans.proofs.StepOutcomes.{stepped, left_outcome, right_outcome, change_by}
use Rattle.tree_model.specs.declared.reply.Reply.TheVariants as reply
use Rattle.lock_plans.specs.Plans as plans

abbrev pub tail : Label → Label → Fragments → Tree → Bool → Bool → Bool → Option Label → Outcome
tail p old f t h d s o = if not h then refused (Dom not_found_err) t else if d then refused
    (Dom hierarchy_request_err) t else if s then refused TooDeep t else place f o (in_place f)
    (λ new. reply.Replaced new (fragment_of (at old t.documents))) old t

abbrev pub here : Label → Label → Fragments → Tree → Forest → Outcome
here p old f t g = see_in t (replace_in p old f t) g

pub here_is : (p old : Label) (f : Fragments) (t : Tree) (g : Forest) → found g ≡ true
    → here p old f t g ≡ tail p old f t (has_child p old t) (is_document g && is_text_fragment f) (is_too_deep p f)
    (new_label p (prev_of None old t.documents) (next_of (at old t.documents)))
here_is p old f t none y = absurd (true≢false (sym y))
here_is p old f t (node m r ats ch nx) y = refl

pub replace_outcome : (p old : Label) (f : Fragments) (t : Tree) → (in_turn (replace_steps p old f t) (ends (replace p old f t))).outcome ≡ replace p old f t
replace_outcome p old f t = change_by t (replace_in p old f t) rest (λ m r ats ch nx. by (node m r ats ch nx) refl) (at p t.documents)
  where
    new : Option Label
    new = new_label p (prev_of None old t.documents) (next_of (at old t.documents))

    gap : Forest → Outcome
    gap g = (plans.take_out p old (prev_of None old t.documents) (next_of (at old t.documents))
        (plans.place (plans.grafted f) new t (ends (here p old f t g)))).outcome

    rest : Forest → Outcome
    rest g = if not (same_label (parent old) p) then (Refused (Dom not_found_err), t) else if not
        (found (at old t.documents)) then (Refused (Dom not_found_err), t) else if is_document g
        && is_text_fragment f then (Refused (Dom hierarchy_request_err), t) else if is_too_deep p f then (Refused TooDeep, t) else gap g

    placed : (g : Forest) → (o : Option Label) → here p old f t g ≡ place f o (in_place f) (λ new. reply.Replaced new (fragment_of (at old t.documents))) old t
        → (plans.place (plans.grafted f) o t (ends (here p old f t g))).outcome ≡ here p old f t g
    placed g None e = sym e
    placed g (Some k) e = stepped (not (all_within (graft k f none))) _ _ _
        (λ h. sym (e ∙ ap (λ z. if z then (reply.Replaced k (fragment_of (at old t.documents)), edited old (in_place f k) t) else refused LabelLimit t)
        (not_true (all_within (graft k f none)) h)))
        (λ _. refl)

    by : (g : Forest) → found g ≡ true → rest g ≡ here p old f t g
    by g y =
        let is = here_is p old f t g y in
        stepped (not (same_label (parent old) p)) _ _ _
        (λ h. sym (is ∙ (λ i. tail p old f t (not_true (same_label (parent old) p) h i && found (at old t.documents)) (is_document g && is_text_fragment f)
        (is_too_deep p f) new)))
        (λ h. stepped (not (found (at old t.documents))) _ _ _
        (λ k. sym (is ∙ (λ i. tail p old f t (not_false (same_label (parent old) p) h i && not_true (found (at old t.documents)) k i)
        (is_document g && is_text_fragment f) (is_too_deep p f) new)))
        (λ k. stepped (is_document g && is_text_fragment f) _ _ _
        (λ d. sym (is ∙ (λ i. tail p old f t (not_false (same_label (parent old) p) h i && not_false (found (at old t.documents)) k i) (d i)
        (is_too_deep p f) new)))
        (λ d. stepped (is_too_deep p f) _ _ _
        (λ s. sym (is ∙ (λ i. tail p old f t (not_false (same_label (parent old) p) h i && not_false (found (at old t.documents)) k i) (d i) (s i) new)))
        (λ s. left_outcome p (prev_of None old t.documents) _ ∙ right_outcome p (next_of (at old t.documents)) _
        ∙ placed g new (is ∙ (λ i. tail p old f t (not_false (same_label (parent old) p) h i && not_false (found (at old t.documents)) k i) (d i)
        (s i) new))))))

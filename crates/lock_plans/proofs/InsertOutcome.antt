-- `insert` before a child ends as its steps say.
use Rattle.std.proofs.Common.{◌≡◌, Bool, true, not, if◌then◌else◌, ◌&&◌, Option, None, Some, refl, sym, ap, ◌∙◌, true≢false}
use Rattle.dewey_labels.specs.Labels.{Label, parent}
use Rattle.dewey_labels.specs.NewLabels.{new_label}
use Rattle.tree_model.specs.declared.reply.Reply.TheVariants.{Refused}
use Rattle.tree_model.specs.declared.refusal.Refusal.TheVariants.{Dom, TooDeep, LabelLimit}
use Rattle.tree_model.specs.Tree.{Forest, none, node, Tree, at, found, prev_of}
use Rattle.tree_model.specs.ValidTrees.{same_label}
use Rattle.tree_model.specs.Fragments.{Fragments}
use Rattle.tree_model.specs.Graft.{graft, all_within}
use Rattle.tree_model.specs.Outcomes.{Outcome, refused, see_in, hierarchy_request_err, not_found_err}
use Rattle.tree_model.specs.NodeKinds.{is_document, is_text_node}
use Rattle.tree_model.specs.Edits.{edited}
use Rattle.tree_model.specs.Placing.{has_child, is_too_deep, place, as_place, insert_into, insert}
use Rattle.tree_changes.proofs.Cases.{not_false, not_true}
use Rattle.lock_plans.specs.Plans.{ends, in_turn}
use Rattle.lock_plans.specs.DomPlans.{insert_steps}
use Rattle.lock_plans.proofs.StepOutcomes.{stepped, left_outcome, change_by}
use Rattle.lock_plans.specs.Plans as plans

abbrev pub tail : Label → Label → Fragments → Tree → Bool → Bool → Bool → Bool → Option Label → Outcome
tail p c f t x h d s o = if x then refused (Dom hierarchy_request_err) t else if not h then refused (Dom not_found_err) t else if d then refused
    (Dom hierarchy_request_err) t else if s then refused TooDeep t else place f o (λ new. graft new f) as_place c t

abbrev pub here : Label → Label → Fragments → Tree → Forest → Outcome
here p c f t g = see_in t (insert_into p c f t) g

pub here_is : (p c : Label) (f : Fragments) (t : Tree) (g : Forest) → found g ≡ true
    → here p c f t g ≡ tail p c f t (is_text_node g) (has_child p c t) (is_document g) (is_too_deep p f) (new_label p (prev_of None c t.documents) (Some c))
here_is p c f t none y = absurd (true≢false (sym y))
here_is p c f t (node m r ats ch nx) y = refl

pub insert_outcome : (p c : Label) (f : Fragments) (t : Tree) → (in_turn (insert_steps p c f t) (ends (insert p (Some c) f t))).outcome ≡ insert p (Some c) f t
insert_outcome p c f t = change_by t (insert_into p c f t) rest (λ m r ats ch nx. by (node m r ats ch nx) refl) (at p t.documents)
  where
    new : Option Label
    new = new_label p (prev_of None c t.documents) (Some c)

    gap : Forest → Outcome
    gap g = (plans.before p c (prev_of None c t.documents) (plans.place (plans.grafted f) new t (ends (here p c f t g)))).outcome

    rest : Forest → Outcome
    rest g = if is_text_node g then (Refused (Dom hierarchy_request_err), t) else if not
        (same_label (parent c) p) then (Refused (Dom not_found_err), t) else if not
        (found (at c t.documents)) then (Refused (Dom not_found_err), t) else if is_document g then (Refused (Dom hierarchy_request_err), t) else if is_too_deep
        p f then (Refused TooDeep, t) else gap g

    placed : (g : Forest) → (o : Option Label) → here p c f t g ≡ place f o (λ new. graft new f) as_place c t
        → (plans.place (plans.grafted f) o t (ends (here p c f t g))).outcome ≡ here p c f t g
    placed g None e = sym e
    placed g (Some k) e = stepped (not (all_within (graft k f none))) _ _ _
        (λ h. sym (e ∙ ap (λ z. if z then (as_place k, edited c (graft k f) t) else refused LabelLimit t) (not_true (all_within (graft k f none)) h)))
        (λ _. refl)

    by : (g : Forest) → found g ≡ true → rest g ≡ here p c f t g
    by g y =
        let is = here_is p c f t g y in
        stepped (is_text_node g) _ _ _
        (λ x. sym (is ∙ (λ i. tail p c f t (x i) (has_child p c t) (is_document g) (is_too_deep p f) new)))
        (λ x. stepped (not (same_label (parent c) p)) _ _ _
        (λ h. sym (is ∙ (λ i. tail p c f t (x i) (not_true (same_label (parent c) p) h i && found (at c t.documents)) (is_document g) (is_too_deep p f) new)))
        (λ h. stepped (not (found (at c t.documents))) _ _ _
        (λ k. sym (is ∙ (λ i. tail p c f t (x i) (not_false (same_label (parent c) p) h i && not_true (found (at c t.documents)) k i) (is_document g)
        (is_too_deep p f) new)))
        (λ k. stepped (is_document g) _ _ _
        (λ d. sym (is ∙ (λ i. tail p c f t (x i) (not_false (same_label (parent c) p) h i && not_false (found (at c t.documents)) k i) (d i)
        (is_too_deep p f) new)))
        (λ d. stepped (is_too_deep p f) _ _ _
        (λ s. sym (is ∙ (λ i. tail p c f t (x i) (not_false (same_label (parent c) p) h i && not_false (found (at c t.documents)) k i) (d i) (s i) new)))
        (λ s. left_outcome p (prev_of None c t.documents) _
        ∙ placed g new (is ∙ (λ i. tail p c f t (x i) (not_false (same_label (parent c) p) h i && not_false (found (at c t.documents)) k i) (d i)
        (s i) new)))))))

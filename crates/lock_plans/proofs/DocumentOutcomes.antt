-- `create` and `drop` end as their steps say.
use Rattle.std.proofs.Common.{◌≡◌, ◌+◌, not, if◌then◌else◌, nat_lt, Option, None, Some, is_some, refl, sym, ap, ◌∙◌}
use Rattle.dewey_labels.specs.Labels.{Label, root}
use Rattle.tree_model.specs.declared.reply.Reply.TheVariants.{Refused, Place}
use Rattle.tree_model.specs.declared.refusal.Refusal.TheVariants.{Dom, DocumentExists, TooDeep, LabelLimit}
use Rattle.tree_model.specs.Limits.{deepest_level}
use Rattle.tree_model.specs.Names.{Name, is_name}
use Rattle.tree_model.specs.Tree.{Tree, beside, last_label, at, next_of, prev_of}
use Rattle.tree_model.specs.Fragments.{Fragments, depth, is_text_fragment}
use Rattle.tree_model.specs.Graft.{all_within}
use Rattle.tree_model.specs.Outcomes.{refused, invalid_character_err, hierarchy_request_err, not_found_err}
use Rattle.tree_model.specs.Documents.{document_at, with_document, document_label, place_document, create, drop_found, drop_document}
use Rattle.tree_changes.proofs.Cases.{not_true}
use Rattle.lock_plans.specs.Plans.{ends, in_turn}
use Rattle.lock_plans.specs.DomPlans.{create_steps, run, take_document}
use Rattle.lock_plans.proofs.StepOutcomes.{stepped, left_outcome, right_outcome}
use Rattle.tree_model.specs.declared.dom_call.DomCall.TheVariants as call
use Rattle.lock_plans.specs.Plans as plans

pub create_outcome : (n : Name) (f : Fragments) (t : Tree) → (in_turn (create_steps n f t) (ends (create n f t))).outcome ≡ create n f t
create_outcome n f t =
    stepped (not (is_name n)) _ _ _
    (λ a. sym (λ i. if a i then refused (Dom invalid_character_err) t else if is_text_fragment f then refused (Dom hierarchy_request_err) t else if is_some
    (beside n t.catalogue) then refused DocumentExists t else if nat_lt deepest_level (1 + depth f) then refused TooDeep t else place_document n f t
    (document_label t)))
    (λ a. stepped (is_text_fragment f) _ _ _
    (λ b. sym (λ i. if a i then refused (Dom invalid_character_err) t else if b i then refused (Dom hierarchy_request_err) t else if is_some
    (beside n t.catalogue) then refused DocumentExists t else if nat_lt deepest_level (1 + depth f) then refused TooDeep t else place_document n f t
    (document_label t)))
    (λ b. stepped (is_some (beside n t.catalogue)) _ _ _
    (λ c. sym (λ i. if a i then refused (Dom invalid_character_err) t else if b i then refused
    (Dom hierarchy_request_err) t else if c i then refused DocumentExists t else if nat_lt deepest_level
    (1 + depth f) then refused TooDeep t else place_document n f t (document_label t)))
    (λ c. stepped (nat_lt deepest_level (1 + depth f)) _ _ _
    (λ d. sym (λ i. if a i then refused (Dom invalid_character_err) t else if b i then refused
    (Dom hierarchy_request_err) t else if c i then refused DocumentExists t else if d i then refused TooDeep t else place_document n f t
    (document_label t)))
    (λ d. left_outcome root (last_label t.documents) _
    ∙ placed (document_label t) (λ i. if a i then refused (Dom invalid_character_err) t else if b i then refused
    (Dom hierarchy_request_err) t else if c i then refused DocumentExists t else if d i then refused TooDeep t else place_document n f t
    (document_label t))))))
  where
    placed : (o : Option Label) → create n f t ≡ place_document n f t o
        → (plans.place (λ new. document_at new f) o t (ends (create n f t))).outcome ≡ create n f t
    placed None e = sym e
    placed (Some new) e = stepped (not (all_within (document_at new f))) _ _ _
        (λ h. sym (e ∙ ap (λ z. if z then (Place (Some new), with_document n new f t) else refused LabelLimit t) (not_true (all_within (document_at new f)) h)))
        (λ _. refl)

pub drop_outcome : (n : Name) (t : Tree) → (run (call.Drop n) t).outcome ≡ drop_document n t
drop_outcome n t = by (beside n t.catalogue)
  where
    by : (o : Option Label) → (if not (is_some o) then (Refused (Dom not_found_err), t) else (take_document o t (ends (drop_found n t o))).outcome) ≡ drop_found
        n t o
    by None = refl
    by (Some l) = left_outcome root (prev_of None l t.documents) _ ∙ right_outcome root (next_of (at l t.documents)) _

-- `append` ends as its steps say.
use Rattle.std.proofs.Common.{◌≡◌, Bool, true, false, not, if◌then◌else◌, ◌&&◌, ◌||◌, Option, None, Some, is_some, refl, sym, ap, ◌∙◌, true≢false}
use Rattle.dewey_labels.specs.Labels.{Label}
use Rattle.dewey_labels.specs.NewLabels.{new_label}
use Rattle.tree_model.specs.Fragments.{Fragments, is_text_fragment}
use Rattle.tree_model.specs.declared.reply.Reply.TheVariants.{Refused}
use Rattle.tree_model.specs.declared.refusal.Refusal.TheVariants.{Dom, TooDeep, LabelLimit}
use Rattle.tree_model.specs.Tree.{Forest, none, node, Tree, at, found, first_of, last_child_of, last_label}
use Rattle.tree_model.specs.Graft.{graft, all_within}
use Rattle.tree_model.specs.Outcomes.{Outcome, refused, see_in, hierarchy_request_err}
use Rattle.tree_model.specs.NodeKinds.{is_document, is_text_node}
use Rattle.tree_model.specs.Edits.{edited}
use Rattle.tree_model.specs.Placing.{is_full, is_too_deep, place, with_last, as_place, append_to, append}
use Rattle.lock_plans.specs.Plans.{ends, in_turn}
use Rattle.lock_plans.proofs.StepOutcomes.{stepped, left_outcome}
use Rattle.lock_plans.specs.Plans as plans

module _ (p : Label) (f : Fragments) (t : Tree) where
  abbrev pub tests : Forest → Bool
  tests g = is_text_node g || is_full f g

  -- the call once all tests are passed
  pub placed : (g : Forest) → found g ≡ true → tests g ≡ false → is_too_deep p f ≡ false
      → see_in t (append_to p f t) g ≡ place f (new_label p (last_child_of g) None) (with_last f) as_place p t
  placed none y a b = absurd (true≢false (sym y))
  placed (node m r ats ch nx) y a b = λ i. if a i then refused (Dom hierarchy_request_err) t else if b i then refused TooDeep t else place f
      (new_label p (last_label ch) None) (with_last f) as_place p t

  pub too_deep : (g : Forest) → found g ≡ true → tests g ≡ false → is_too_deep p f ≡ true → see_in t (append_to p f t) g ≡ refused TooDeep t
  too_deep none y a b = absurd (true≢false (sym y))
  too_deep (node m r ats ch nx) y a b = λ i. if a i then refused (Dom hierarchy_request_err) t else if b i then refused TooDeep t else place f
      (new_label p (last_label ch) None) (with_last f) as_place p t

  pub not_taken : (g : Forest) → found g ≡ true → tests g ≡ true → see_in t (append_to p f t) g ≡ refused (Dom hierarchy_request_err) t
  not_taken none y a = absurd (true≢false (sym y))
  not_taken (node m r ats ch nx) y a =
      ap (λ b. if b then refused (Dom hierarchy_request_err) t else if is_too_deep p f then refused TooDeep t else place f (new_label p (last_label ch) None)
      (with_last f) as_place p t) a

-- a node has a first child where it has a last one
pub first_and_last : (g : Forest) → is_some (first_of g) ≡ is_some (last_child_of g)
first_and_last none = refl
first_and_last (node m r ats none nx) = refl
first_and_last (node m r ats (node k q ats' ch nx') nx) = by (last_label nx')
  where
    by : (o : Option Label) → true ≡ is_some (Rattle.std.specs.Option.option_or o (Some k))
    by None = refl
    by (Some l) = refl

pub append_outcome : (p : Label) (f : Fragments) (t : Tree)
    → (in_turn (Rattle.lock_plans.specs.DomPlans.append_steps p f t) (ends (append p f t))).outcome ≡ append p f t
append_outcome p f t = by (at p t.documents)
  where
    -- the end of the list, from the depth on
    tail : Forest → Outcome
    tail g = if is_too_deep p f then (Refused TooDeep, t)
        else (plans.end_of p (last_child_of g)
        (plans.place (plans.grafted f) (new_label p (last_child_of g) None) t (ends (see_in t (append_to p f t) g)))).outcome

    place_is : (g : Forest) → found g ≡ true → tests p f t g ≡ false → is_too_deep p f ≡ false → (o : Option Label) → new_label p (last_child_of g) None ≡ o
        → (plans.place (plans.grafted f) o t (ends (see_in t (append_to p f t) g))).outcome ≡ see_in t (append_to p f t) g
    place_is g y a b None e = sym (placed p f t g y a b ∙ ap (λ o. place f o (with_last f) as_place p t) e)
    place_is g y a b (Some new) e = stepped (not (all_within (graft new f none))) _ _ _
        (λ h. sym (placed p f t g y a b ∙ ap (λ o. place f o (with_last f) as_place p t) e
        ∙ ap (λ z. if z then (as_place new, edited p (with_last f new) t) else refused LabelLimit t) (not_true (all_within (graft new f none)) h)))
        (λ _. refl)
      where
        not_true : (z : Bool) → not z ≡ true → z ≡ false
        not_true true h = absurd (true≢false (sym h))
        not_true false h = refl

    tail_is : (g : Forest) → found g ≡ true → tests p f t g ≡ false → tail g ≡ see_in t (append_to p f t) g
    tail_is g y a = stepped (is_too_deep p f) _ _ _
        (λ b. sym (too_deep p f t g y a b))
        (λ b. left_outcome p (last_child_of g) _ ∙ place_is g y a b (new_label p (last_child_of g) None) refl)

    by : (g : Forest) → (if not (found g) then (Refused (Dom Rattle.tree_model.specs.Outcomes.not_found_err), t) else if is_text_node g
        then (Refused (Dom hierarchy_request_err), t) else if is_document g
        then (if is_text_fragment f then (Refused (Dom hierarchy_request_err), t) else if is_some
        (first_of g) then (Refused (Dom hierarchy_request_err), t) else tail g) else tail g) ≡ see_in t (append_to p f t) g
    by none = refl
    by (node m r ats ch nx) =
        let g = node m r ats ch nx in
        let no : tests p f t g ≡ true → (Refused (Dom hierarchy_request_err), t) ≡ see_in t (append_to p f t) g = λ a. sym (not_taken p f t g refl a) in
        stepped (is_text_node g) _ _ _
        (λ a. no (ap (λ z. z || is_full f g) a))
        (λ a. stepped (is_document g) _ _ _
        (λ d. stepped (is_text_fragment f) _ _ _
        (λ x. no (λ i. a i || (d i && (x i || is_some (last_child_of g)))))
        (λ x. stepped (is_some (first_of g)) _ _ _
        (λ k. no (λ i. a i || (d i && (x i || (sym (first_and_last g) ∙ k) i))))
        (λ k. tail_is g refl (λ i. a i || (d i && (x i || (sym (first_and_last g) ∙ k) i))))))
        (λ d. tail_is g refl (λ i. a i || (d i && (is_text_fragment f || is_some (last_child_of g))))))

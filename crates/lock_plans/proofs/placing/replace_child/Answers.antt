use Rattle.std.proofs.Common.{◌≡◌, None, Some, IfSome, IsTrue, Option, Less, nat_cmp, refl, sym, ap, subst, ◌++◌, ◌∙◌}
use Rattle.std.proofs.lemmas.Result.{IfOk-from_err}
use Rattle.std.specs.Cmp.Lexicographic.{slice_cmp}
use Rattle.dewey_labels.specs.Labels.{Label, is_child}
use Rattle.dewey_labels.specs.NewLabels.{new_label}
use Rattle.tree_model.specs.Fragments.{plain}
use Rattle.tree_model.specs.Tree.{at, next_of, prev_of}
use Rattle.dom_reads.proofs.ReplyLaws.{later}
use Rattle.lock_plans.specs.Plans.{ends, grafted, place, take_out}
use Rattle.lock_plans.specs.inside.PlanSteps.{takes_out}
use Rattle.lock_plans.proofs.Causes.{answer_cause, fault_cause, memory_cause}
use Rattle.lock_plans.proofs.GapLaws.{one_then, out_taken, in_order}
use Rattle.lock_plans.proofs.PlanLaws.{past, stopped}
use Rattle.lock_plans.proofs.placing.replace_child.Goals as goal

pub returns-then-is_too_deep : goal.returns-then-is_too_deep
returns-then-is_too_deep g c = record {
  value = λ t stands is_there end. stopped _ (sym c.is_too_deep.ensures ∙ c.if-is_too_deep.true) refl;
  unchanged = g.met.S.NodeRead.unchanged_itself _;
  cause = answer_cause _ refl;
}

pub returns-in_err-left : goal.returns-in_err-left
returns-in_err-left g c = record {
  value = IfOk-from_err _ _ c.from_residual.ensures.0;
  unchanged = c.previous_sibling.ensures.unchanged;
  cause = fault_cause _ refl c.in_err-left.ensures.cause c.from_residual.ensures.1;
}

pub returns-in_err-right : goal.returns-in_err-right
returns-in_err-right g c = record {
  value = IfOk-from_err _ _ c.from_residual-in_err-right.ensures.0;
  unchanged = g.met.S.NodeRead.unchanged_onward _ _ _ c.previous_sibling.ensures.unchanged c.next_sibling.ensures.unchanged;
  cause = fault_cause _ c.in_ok-left.ensures.cause.exact c.in_err-right.ensures.cause c.from_residual-in_err-right.ensures.1;
}

pub returns-in_err-take_out : goal.returns-in_err-take_out
returns-in_err-take_out g c = record {
  value = IfOk-from_err _ _ c.from_residual-in_err-take_out.ensures.0;
  unchanged = g.met.S.NodeRead.unchanged_onward _ _ _ c.previous_sibling.ensures.unchanged c.next_sibling.ensures.unchanged;
  cause = memory_cause _ (c.in_ok-right.ensures.cause.exact ∙ c.in_ok-left.ensures.cause.exact) c.from_residual-in_err-take_out.ensures.1;
}

pub returns-in_err-place_fragment : goal.returns-in_err-place_fragment
returns-in_err-place_fragment g c = record {
  value = IfOk-from_err _ _ c.from_residual-in_err-place_fragment.ensures.0;
  unchanged = g.met.S.NodeRead.unchanged_onward _ _ _ c.previous_sibling.ensures.unchanged c.next_sibling.ensures.unchanged;
  cause = memory_cause _ (c.in_ok-right.ensures.cause.exact ∙ c.in_ok-left.ensures.cause.exact) c.from_residual-in_err-place_fragment.ensures.1;
}

pub place_fragment-requires-clause-left_child : goal.place_fragment-requires-clause-left_child
place_fragment-requires-clause-left_child g c = subst (λ p. IfSome c.in_ok-left.left (λ l. IsTrue (is_child p l))) c.requires.parent c.in_ok-left.ensures.sibling

pub place_fragment-requires-clause-right_child : goal.place_fragment-requires-clause-right_child
place_fragment-requires-clause-right_child g c = subst (λ p. IfSome c.in_ok-right.right (λ l. IsTrue (is_child p l))) c.requires.parent c.in_ok-right.ensures.sibling

pub place_fragment-requires-clause-order : goal.place_fragment-requires-clause-order
place_fragment-requires-clause-order g c = in_order c.args.old.now c.in_ok-left.left c.in_ok-right.right c.in_ok-left.ensures.ahead c.in_ok-right.ensures.behind

pub returns : goal.returns
returns g c = record {
  value = λ t stands is_there end.
      let p = c.args.at.now in
      let k = c.args.old.now in
      let f = plain c.args.fragment.now in
      let left = c.in_ok-left.left in
      let right = c.in_ok-right.right in
      let now = later _ _ t (g.met.S.NodeRead.unchanged_contents _ _ c.previous_sibling.ensures.unchanged) stands in
      let left_is : left ≡ prev_of None k t.documents = c.in_ok-left.ensures.found t stands is_there in
      let right_is : right ≡ next_of (at k t.documents) = c.in_ok-right.ensures.found t now is_there in
      let made = one_then c.args.plan (takes_out p k left right) (place (grafted f) (new_label p left right) t (ends end)).requests (take_out p k left right (place (grafted f) (new_label p left right) t (ends end))).requests
      c.in_ok-take_out.ensures (c.in_ok-place_fragment.ensures t end) (out_taken p k left right (place (grafted f) (new_label p left right) t (ends end))) in
      past c.args.plan _ (sym c.is_too_deep.ensures ∙ c.if-is_too_deep.false)
      (made ∙ (λ i. c.args.plan ++ (take_out p k (left_is i) (right_is i) (place (grafted f) (new_label p (left_is i) (right_is i)) t (ends end))).requests));
  unchanged = g.met.S.NodeRead.unchanged_onward _ _ _ c.previous_sibling.ensures.unchanged c.next_sibling.ensures.unchanged;
  cause = answer_cause _ (c.in_ok-right.ensures.cause.exact ∙ c.in_ok-left.ensures.cause.exact);
}

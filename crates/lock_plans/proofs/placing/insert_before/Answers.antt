use Rattle.std.proofs.Common.{◌≡◌, None, Some, IfSome, IsTrue, refl, sym, ap, subst, ◌++◌, ◌∙◌}
use Rattle.std.proofs.lemmas.Result.{IfOk-from_err}
use Rattle.dewey_labels.specs.Labels.{is_child}
use Rattle.dewey_labels.specs.NewLabels.{new_label}
use Rattle.lock_modes.specs.declared.edge_mode.EdgeMode.TheVariants.{EX}
use Rattle.lock_resources.specs.declared.resource.Side.TheVariants.{Prev}
use Rattle.tree_model.specs.Fragments.{plain}
use Rattle.tree_model.specs.Tree.{prev_of}
use Rattle.lock_plans.specs.Plans.{ends, grafted, place, take_left}
use Rattle.lock_plans.specs.inside.PlanSteps.{takes_left}
use Rattle.lock_plans.proofs.Causes.{answer_cause, fault_cause, memory_cause}
use Rattle.lock_plans.proofs.GapLaws.{two_then}
use Rattle.lock_plans.proofs.PlanLaws.{edge_asks, left_taken, past, stopped}
use Rattle.lock_plans.proofs.placing.insert_before.Goals as goal

pub returns-then-is_too_deep : goal.returns-then-is_too_deep
returns-then-is_too_deep g c = record {
  value = λ t stands is_there end. stopped _ (sym c.is_too_deep.ensures ∙ c.if-is_too_deep.true) refl;
  unchanged = g.met.S.NodeRead.unchanged_itself _;
  cause = answer_cause _ refl;
}

pub returns-in_err-left : goal.returns-in_err-left
returns-in_err-left g c = record {
  value = IfOk-from_err _ _ c.from_residual.ensures.0;
  unchanged = c.previous_sibling.ensures.unchanged;
  cause = fault_cause _ refl c.in_err-left.ensures.cause c.from_residual.ensures.1;
}

pub returns-in_err-take_gap_before : goal.returns-in_err-take_gap_before
returns-in_err-take_gap_before g c = record {
  value = IfOk-from_err _ _ c.from_residual-in_err-take_gap_before.ensures.0;
  unchanged = c.previous_sibling.ensures.unchanged;
  cause = memory_cause _ c.in_ok-left.ensures.cause.exact c.from_residual-in_err-take_gap_before.ensures.1;
}

pub returns-in_err-copy : goal.returns-in_err-copy
returns-in_err-copy g c = record {
  value = IfOk-from_err _ _ c.from_residual-in_err-copy.ensures.0;
  unchanged = c.previous_sibling.ensures.unchanged;
  cause = memory_cause _ c.in_ok-left.ensures.cause.exact c.from_residual-in_err-copy.ensures.1;
}

pub returns-in_err-place_fragment : goal.returns-in_err-place_fragment
returns-in_err-place_fragment g c = record {
  value = IfOk-from_err _ _ c.from_residual-in_err-place_fragment.ensures.0;
  unchanged = c.previous_sibling.ensures.unchanged;
  cause = memory_cause _ c.in_ok-left.ensures.cause.exact c.from_residual-in_err-place_fragment.ensures.1;
}

pub place_fragment-requires-clause-left_child : goal.place_fragment-requires-clause-left_child
place_fragment-requires-clause-left_child g c = subst (λ p. IfSome c.in_ok-left.left (λ l. IsTrue (is_child p l))) c.requires.parent c.in_ok-left.ensures.sibling

pub returns : goal.returns
returns g c = record {
  value = λ t stands is_there end.
      let p = c.args.at.now in
      let k = c.args.child.now in
      let f = plain c.args.fragment.now in
      let left = c.in_ok-left.left in
      let e = edge_asks k Prev EX in
      let is : left ≡ prev_of None k t.documents = c.in_ok-left.ensures.found t stands is_there in
      let right = ap Some c.in_ok-copy.ensures in
      let made = two_then c.args.plan e (takes_left p left) (place (grafted f) (new_label p left (Some k)) t (ends end)).requests (take_left p left (place (grafted f) (new_label p left (Some k)) t (ends end))).requests c.in_ok-take_gap_before.ensures
      (c.in_ok-place_fragment.ensures t end ∙ ap (λ r. c.take_gap_before.new.self ++ (place (grafted f) (new_label p left r) t (ends end)).requests) right)
      (left_taken p left (place (grafted f) (new_label p left (Some k)) t (ends end))) in
      past c.args.plan _ (sym c.is_too_deep.ensures ∙ c.if-is_too_deep.false)
      (subst (λ o. c.place_fragment.new.plan ≡ c.args.plan ++ (e ++ (take_left p o (place (grafted f) (new_label p o (Some k)) t (ends end))).requests)) is made);
  unchanged = c.previous_sibling.ensures.unchanged;
  cause = answer_cause _ c.in_ok-left.ensures.cause.exact;
}

use Rattle.std.proofs.Common.{◌≡◌, None, true, refl, sym, ap, subst, ◌++◌, ◌∙◌}
use Rattle.std.proofs.lemmas.Result.{IfOk-from_err}
use Rattle.dewey_labels.specs.NewLabels.{new_label}
use Rattle.lock_modes.specs.declared.edge_mode.EdgeMode.TheVariants.{EX}
use Rattle.lock_resources.specs.declared.resource.Side.TheVariants.{Last}
use Rattle.tree_model.specs.Fragments.{plain}
use Rattle.tree_model.specs.Tree.{at, last_child_of, last_label}
use Rattle.tree_model.proofs.PlaceLaws.{not_root}
use Rattle.dom_reads.proofs.StepLaws.{row_of}
use Rattle.lock_plans.specs.Plans.{ends, grafted, place, take_left}
use Rattle.lock_plans.specs.inside.PlanSteps.{takes_left}
use Rattle.lock_plans.proofs.Causes.{answer_cause, fault_cause, memory_cause}
use Rattle.lock_plans.proofs.GapLaws.{two_then}
use Rattle.lock_plans.proofs.PlanLaws.{edge_asks, left_taken, past, stopped}
use Rattle.lock_plans.proofs.placing.append_last.Goals as goal

pub returns-then-is_too_deep : goal.returns-then-is_too_deep
returns-then-is_too_deep g c = record {
  value = λ t stands is_there end. stopped _ (sym c.is_too_deep.ensures ∙ c.if-is_too_deep.true) refl;
  unchanged = g.met.S.NodeRead.unchanged_itself _;
  cause = answer_cause _ refl;
}

pub returns-in_err-last : goal.returns-in_err-last
returns-in_err-last g c = record {
  value = IfOk-from_err _ _ c.from_residual.ensures.0;
  unchanged = c.last_child.ensures.unchanged;
  cause = fault_cause _ refl c.in_err-last.ensures.cause c.from_residual.ensures.1;
}

pub returns-in_err-take_end : goal.returns-in_err-take_end
returns-in_err-take_end g c = record {
  value = IfOk-from_err _ _ c.from_residual-in_err-take_end.ensures.0;
  unchanged = c.last_child.ensures.unchanged;
  cause = memory_cause _ c.in_ok-last.ensures.cause.exact c.from_residual-in_err-take_end.ensures.1;
}

pub returns-in_err-place_fragment : goal.returns-in_err-place_fragment
returns-in_err-place_fragment g c = record {
  value = IfOk-from_err _ _ c.from_residual-in_err-place_fragment.ensures.0;
  unchanged = c.last_child.ensures.unchanged;
  cause = memory_cause _ c.in_ok-last.ensures.cause.exact c.from_residual-in_err-place_fragment.ensures.1;
}

pub returns : goal.returns
returns g c = record {
  value = λ t stands is_there end.
      let p = c.args.at.now in
      let f = plain c.args.fragment.now in
      let last = c.in_ok-last.last in
      let e = edge_asks p Last EX in
      let is : last ≡ last_child_of (at p t.documents) = c.in_ok-last.ensures.found t stands ∙ ap last_label (row_of p t (not_root p t stands.valid is_there)) in
      let made = two_then c.args.plan e (takes_left p last) (place (grafted f) (new_label p last None) t (ends end)).requests (take_left p last (place (grafted f) (new_label p last None) t (ends end))).requests c.in_ok-take_end.ensures (c.in_ok-place_fragment.ensures t end) (left_taken p last (place (grafted f) (new_label p last None) t (ends end))) in
      past c.args.plan _ (sym c.is_too_deep.ensures ∙ c.if-is_too_deep.false)
      (subst (λ o. c.place_fragment.new.plan ≡ c.args.plan ++ (e ++ (take_left p o (place (grafted f) (new_label p o None) t (ends end))).requests)) is made);
  unchanged = c.last_child.ensures.unchanged;
  cause = answer_cause _ c.in_ok-last.ensures.cause.exact;
}

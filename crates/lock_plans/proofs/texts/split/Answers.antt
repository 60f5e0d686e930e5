use Rattle.std.proofs.Common.{◌≡◌, ◌≢◌, ℕ, [], true, false, Option, None, Some, IfSome, IsTrue, is_some, ◌&&◌, refl, sym, ap, subst, ◌++◌, ◌∙◌, true≢false}
use Rattle.std.proofs.lemmas.Result.{IfOk-from_err}
use Rattle.dewey_labels.specs.Labels.{Label, is_child, is_within, parent, root}
use Rattle.dewey_labels.specs.NewLabels.{new_label}
use Rattle.dewey_labels.proofs.Labels.{child_of_parent}
use Rattle.dewey_labels.proofs.Limits.{test_of_within}
use Rattle.lock_modes.specs.declared.mode.Mode.TheVariants.{SX}
use Rattle.lock_modes.specs.declared.edge_mode.EdgeMode.TheVariants.{EX}
use Rattle.lock_resources.specs.declared.resource.Side.TheVariants.{Next}
use Rattle.tree_model.specs.declared.record.Record.TheVariants.{Text}
use Rattle.tree_model.specs.Tree.{Forest, at, next_of, node, none}
use Rattle.tree_model.proofs.Grafts.{and_true}
use Rattle.dom_reads.proofs.StepLaws.{root_not_found}
use Rattle.lock_plans.specs.Plans.{ends, place, take_right}
use Rattle.lock_plans.specs.inside.PlanSteps.{takes_right}
use Rattle.lock_plans.proofs.Causes.{answer_cause, fault_cause, memory_cause}
use Rattle.lock_plans.proofs.GapLaws.{no_label, nothing_more, placed, two_then}
use Rattle.lock_plans.proofs.PlanLaws.{edge_asks, grown, joined, node_asks, right_taken}
use Rattle.lock_plans.proofs.texts.split.Goals as goal

pub returns-in_err-parent : goal.returns-in_err-parent
returns-in_err-parent g c = record {
  value = IfOk-from_err _ _ c.from_residual.ensures.0;
  unchanged = g.met.S.NodeRead.unchanged_itself _;
  cause = memory_cause _ refl c.from_residual.ensures.1;
}

-- the new text
abbrev text_at : Label → Forest
text_at new = node new (Text []) [] none none

below_root : (l : Label) (o : Option Label) (p : Label) → (l ≡ root → is_some o ≡ false) → o ≡ Some p → l ≢ root
below_root l o p h e = λ r. true≢false (sym (ap is_some e) ∙ h r)

pub returns-in_default : goal.returns-in_default
returns-in_default g c = record {
  value = λ t stands there. absurd (root_not_found c.args.at.now t stands.valid there (c.in_ok-parent.ensures.root.0 (ap is_some c.in_default.is)));
  unchanged = g.met.S.NodeRead.unchanged_itself _;
  cause = answer_cause _ refl;
}

pub returns-in_err-take_tree : goal.returns-in_err-take_tree
returns-in_err-take_tree g c = record {
  value = IfOk-from_err _ _ c.from_residual-in_err-take_tree.ensures.0;
  unchanged = g.met.S.NodeRead.unchanged_itself _;
  cause = memory_cause _ refl c.from_residual-in_err-take_tree.ensures.1;
}

pub returns-in_err-take_edge : goal.returns-in_err-take_edge
returns-in_err-take_edge g c = record {
  value = IfOk-from_err _ _ c.from_residual-in_err-take_edge.ensures.0;
  unchanged = g.met.S.NodeRead.unchanged_itself _;
  cause = memory_cause _ refl c.from_residual-in_err-take_edge.ensures.1;
}

pub returns-in_err-next : goal.returns-in_err-next
returns-in_err-next g c = record {
  value = IfOk-from_err _ _ c.from_residual-in_err-next.ensures.0;
  unchanged = c.next_sibling.ensures.unchanged;
  cause = fault_cause _ refl c.in_err-next.ensures.cause c.from_residual-in_err-next.ensures.1;
}

pub returns-in_err-take_right : goal.returns-in_err-take_right
returns-in_err-take_right g c = record {
  value = IfOk-from_err _ _ c.from_residual-in_err-take_right.ensures.0;
  unchanged = c.next_sibling.ensures.unchanged;
  cause = memory_cause _ c.in_ok-next.ensures.cause.exact c.from_residual-in_err-take_right.ensures.1;
}

pub returns-in_err-copy : goal.returns-in_err-copy
returns-in_err-copy g c = record {
  value = IfOk-from_err _ _ c.from_residual-in_err-copy.ensures.0;
  unchanged = c.next_sibling.ensures.unchanged;
  cause = memory_cause _ c.in_ok-next.ensures.cause.exact c.from_residual-in_err-copy.ensures.1;
}

pub returns-in_err-new : goal.returns-in_err-new
returns-in_err-new g c = record {
  value = IfOk-from_err _ _ c.from_residual-in_err-new.ensures.0;
  unchanged = c.next_sibling.ensures.unchanged;
  cause = memory_cause _ c.in_ok-next.ensures.cause.exact c.from_residual-in_err-new.ensures.1;
}

pub child_beside-requires-clause-left_child : goal.child_beside-requires-clause-left_child
child_beside-requires-clause-left_child g c =
    let l = c.args.at.now in
    let p = c.in-Some.parent in
    let is : p ≡ parent l = subst (λ o. IfSome o (λ v. v ≡ parent l)) c.in-Some.is c.in_ok-parent.ensures.parent in
    let child = child_of_parent l c.divisions-divisions.ensures.label.0 (below_root l c.in_ok-parent.field-0 p c.in_ok-parent.ensures.root.1 c.in-Some.is) in
    subst (λ k. is_child p k ≡ true) (sym c.in_ok-copy.ensures) (subst (λ q. is_child q l ≡ true) (sym is) child)

pub child_beside-requires-clause-right_child : goal.child_beside-requires-clause-right_child
child_beside-requires-clause-right_child g c =
    let l = c.args.at.now in
    let is : c.in-Some.parent ≡ parent l = subst (λ o. IfSome o (λ v. v ≡ parent l)) c.in-Some.is c.in_ok-parent.ensures.parent in
    subst (λ p. IfSome c.in_ok-next.next (λ n. IsTrue (is_child p n))) (sym is) c.in_ok-next.ensures.sibling

pub returns-in_default-2 : goal.returns-in_default-2
returns-in_default-2 g c = record {
  value = λ t stands there end.
      let l = c.args.at.now in
      let p = c.in-Some.parent in
      let is : p ≡ parent l = subst (λ o. IfSome o (λ v. v ≡ parent l)) c.in-Some.is c.in_ok-parent.ensures.parent in
      let copy = c.in_ok-copy.field-0 in
      let copy_is = c.in_ok-copy.ensures in
      let next = c.in_ok-next.next in
      let next_is : next ≡ next_of (at l t.documents) = c.in_ok-next.ensures.found t stands there in
      let new : new_label p (Some copy) next ≡ None = sym c.in_ok-new.ensures.new ∙ c.in_default-2.is in
      let x = (place text_at (new_label p (Some copy) next) t (ends end)).requests in
      let w = c.args.plan ++ node_asks l SX in
      let taken = joined w (edge_asks l Next EX) (takes_right p next) (grown _ (grown _ c.in_ok-take_tree.ensures c.in_ok-take_edge.ensures) c.in_ok-take_right.ensures) in
      let rest : c.take_right.new.self ≡ c.take_right.new.self ++ x = nothing_more x (no_label text_at (new_label p (Some copy) next) t end new) refl in
      joined c.args.plan (node_asks l SX) _ (two_then w (edge_asks l Next EX) (takes_right p next) x (take_right p next (place text_at (new_label p (Some copy) next) t (ends end))).requests taken rest (right_taken p next (place text_at (new_label p (Some copy) next) t (ends end))))
      ∙ (λ i. c.args.plan ++ (node_asks l SX ++ (edge_asks l Next EX ++ (take_right (is i) (next_is i) (place text_at (new_label (is i) (Some (copy_is i)) (next_is i)) t (ends end))).requests)));
  unchanged = c.next_sibling.ensures.unchanged;
  cause = answer_cause _ c.in_ok-next.ensures.cause.exact;
}

pub returns-in_err-take_tree-2 : goal.returns-in_err-take_tree-2
returns-in_err-take_tree-2 g c = record {
  value = IfOk-from_err _ _ c.from_residual-in_err-take_tree-2.ensures.0;
  unchanged = c.next_sibling.ensures.unchanged;
  cause = memory_cause _ c.in_ok-next.ensures.cause.exact c.from_residual-in_err-take_tree-2.ensures.1;
}

pub returns : goal.returns
returns g c = record {
  value = λ t stands there end.
      let l = c.args.at.now in
      let p = c.in-Some.parent in
      let is : p ≡ parent l = subst (λ o. IfSome o (λ v. v ≡ parent l)) c.in-Some.is c.in_ok-parent.ensures.parent in
      let copy = c.in_ok-copy.field-0 in
      let copy_is = c.in_ok-copy.ensures in
      let next = c.in_ok-next.next in
      let next_is : next ≡ next_of (at l t.documents) = c.in_ok-next.ensures.found t stands there in
      let new : new_label p (Some copy) next ≡ Some c.in-Some-2.new = sym c.in_ok-new.ensures.new ∙ c.in-Some-2.is in
      let x = (place text_at (new_label p (Some copy) next) t (ends end)).requests in
      let w = c.args.plan ++ node_asks l SX in
      let taken = joined w (edge_asks l Next EX) (takes_right p next) (grown _ (grown _ c.in_ok-take_tree.ensures c.in_ok-take_edge.ensures) c.in_ok-take_right.ensures) in
      let rest : c.take_tree-2.new.self ≡ c.take_right.new.self ++ x = c.in_ok-take_tree-2.ensures ∙ ap (λ v. c.take_right.new.self ++ v) (sym (placed text_at (new_label p (Some copy) next) c.in-Some-2.new t end new (ap (λ b. b && (true && true)) (test_of_within c.in-Some-2.new c.divisions-within.ensures.label.1)))) in
      joined c.args.plan (node_asks l SX) _ (two_then w (edge_asks l Next EX) (takes_right p next) x (take_right p next (place text_at (new_label p (Some copy) next) t (ends end))).requests taken rest (right_taken p next (place text_at (new_label p (Some copy) next) t (ends end))))
      ∙ (λ i. c.args.plan ++ (node_asks l SX ++ (edge_asks l Next EX ++ (take_right (is i) (next_is i) (place text_at (new_label (is i) (Some (copy_is i)) (next_is i)) t (ends end))).requests)));
  unchanged = c.next_sibling.ensures.unchanged;
  cause = answer_cause _ c.in_ok-next.ensures.cause.exact;
}

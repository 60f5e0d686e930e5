use Rattle.std.proofs.Common.{◌≡◌, None, Some, Option, not, refl, sym, ap, ◌++◌, ◌∙◌}
use Rattle.std.proofs.lemmas.Result.{IfOk-from_err}
use Rattle.dewey_labels.specs.Labels.{Label}
use Rattle.dewey_labels.specs.NewLabels.{new_label}
use Rattle.lock_modes.specs.declared.edge_mode.EdgeMode.TheVariants.{EX}
use Rattle.lock_resources.specs.declared.resource.Side.TheVariants.{Last}
use Rattle.tree_model.specs.declared.fragment.Fragment.{Fragment}
use Rattle.tree_model.specs.Documents.{document_at}
use Rattle.tree_model.specs.Fragments.{plain_or_none}
use Rattle.tree_model.specs.Graft.{all_within}
use Rattle.tree_model.specs.Places.{last_in}
use Rattle.tree_model.specs.Tree.{Forest, last_label}
use Rattle.lock_plans.specs.Plans.{ends, place, take_left}
use Rattle.lock_plans.specs.inside.PlanSteps.{takes_left}
use Rattle.lock_plans.proofs.Causes.{answer_cause, fault_cause, memory_cause}
use Rattle.lock_plans.proofs.GapLaws.{no_label, not_placed, nothing_more, placed, two_then}
use Rattle.lock_plans.proofs.PlanLaws.{edge_asks, left_taken}
use Rattle.lock_plans.proofs.documents.place_document.Goals as goal

pub returns-in_err-root : goal.returns-in_err-root
returns-in_err-root g c = record {
  value = IfOk-from_err _ _ c.from_residual.ensures.0;
  unchanged = g.met.S.NodeRead.unchanged_itself _;
  cause = memory_cause _ refl c.from_residual.ensures.1;
}

pub returns-in_err-last : goal.returns-in_err-last
returns-in_err-last g c = record {
  value = IfOk-from_err _ _ c.from_residual-in_err-last.ensures.0;
  unchanged = c.last_child.ensures.unchanged;
  cause = fault_cause _ refl c.in_err-last.ensures.cause c.from_residual-in_err-last.ensures.1;
}

pub returns-in_err-take_end : goal.returns-in_err-take_end
returns-in_err-take_end g c = record {
  value = IfOk-from_err _ _ c.from_residual-in_err-take_end.ensures.0;
  unchanged = c.last_child.ensures.unchanged;
  cause = memory_cause _ c.in_ok-last.ensures.cause.exact c.from_residual-in_err-take_end.ensures.1;
}

pub returns-in_err-new : goal.returns-in_err-new
returns-in_err-new g c = record {
  value = IfOk-from_err _ _ c.from_residual-in_err-new.ensures.0;
  unchanged = c.last_child.ensures.unchanged;
  cause = memory_cause _ c.in_ok-last.ensures.cause.exact c.from_residual-in_err-new.ensures.1;
}

-- the new document
abbrev document_of : Option Fragment → Label → Forest
document_of f new = document_at new (plain_or_none f)

pub returns-in_default : goal.returns-in_default
returns-in_default g c = record {
  value = λ t stands end.
      let l = c.in_ok-root.root in
      let is = c.in_ok-root.ensures in
      let last = c.in_ok-last.last in
      let last_is : last ≡ last_label t.documents = c.in_ok-last.ensures.found t stands ∙ ap (λ k. last_in k t) is in
      let tree = document_of c.args.fragment.now in
      let new : new_label l last None ≡ None = sym c.in_ok-new.ensures.new ∙ c.in_default.is in
      let x = (place tree (new_label l last None) t (ends end)).requests in
      let rest : c.take_end.new.self ≡ c.take_end.new.self ++ x = nothing_more x (no_label tree (new_label l last None) t end new) refl in
      two_then c.args.plan (edge_asks l Last EX) (takes_left l last) x (take_left l last (place tree (new_label l last None) t (ends end))).requests c.in_ok-take_end.ensures rest (left_taken l last (place tree (new_label l last None) t (ends end)))
      ∙ (λ i. c.args.plan ++ (edge_asks (is i) Last EX ++ (take_left (is i) (last_is i) (place tree (new_label (is i) (last_is i) None) t (ends end))).requests));
  unchanged = c.last_child.ensures.unchanged;
  cause = answer_cause _ c.in_ok-last.ensures.cause.exact;
}

pub returns-then-not-document_fits_at : goal.returns-then-not-document_fits_at
returns-then-not-document_fits_at g c = record {
  value = λ t stands end.
      let l = c.in_ok-root.root in
      let is = c.in_ok-root.ensures in
      let last = c.in_ok-last.last in
      let last_is : last ≡ last_label t.documents = c.in_ok-last.ensures.found t stands ∙ ap (λ k. last_in k t) is in
      let tree = document_of c.args.fragment.now in
      let new : new_label l last None ≡ Some c.in-Some.new = sym c.in_ok-new.ensures.new ∙ c.in-Some.is in
      let x = (place tree (new_label l last None) t (ends end)).requests in
      let rest : c.take_end.new.self ≡ c.take_end.new.self ++ x = nothing_more x (not_placed tree (new_label l last None) c.in-Some.new t end new (sym (c.document_fits_at.ensures ∙ ap (λ o. all_within (document_at c.in-Some.new (plain_or_none o))) c.as_ref.ensures.value) ∙ c.if-not-document_fits_at.true)) refl in
      two_then c.args.plan (edge_asks l Last EX) (takes_left l last) x (take_left l last (place tree (new_label l last None) t (ends end))).requests c.in_ok-take_end.ensures rest (left_taken l last (place tree (new_label l last None) t (ends end)))
      ∙ (λ i. c.args.plan ++ (edge_asks (is i) Last EX ++ (take_left (is i) (last_is i) (place tree (new_label (is i) (last_is i) None) t (ends end))).requests));
  unchanged = c.last_child.ensures.unchanged;
  cause = answer_cause _ c.in_ok-last.ensures.cause.exact;
}

pub returns-in_err-take_tree : goal.returns-in_err-take_tree
returns-in_err-take_tree g c = record {
  value = IfOk-from_err _ _ c.from_residual-in_err-take_tree.ensures.0;
  unchanged = c.last_child.ensures.unchanged;
  cause = memory_cause _ c.in_ok-last.ensures.cause.exact c.from_residual-in_err-take_tree.ensures.1;
}

pub returns : goal.returns
returns g c = record {
  value = λ t stands end.
      let l = c.in_ok-root.root in
      let is = c.in_ok-root.ensures in
      let last = c.in_ok-last.last in
      let last_is : last ≡ last_label t.documents = c.in_ok-last.ensures.found t stands ∙ ap (λ k. last_in k t) is in
      let tree = document_of c.args.fragment.now in
      let new : new_label l last None ≡ Some c.in-Some.new = sym c.in_ok-new.ensures.new ∙ c.in-Some.is in
      let x = (place tree (new_label l last None) t (ends end)).requests in
      let rest : c.take_tree.new.self ≡ c.take_end.new.self ++ x = c.in_ok-take_tree.ensures ∙ ap (λ v. c.take_end.new.self ++ v) (sym (placed tree (new_label l last None) c.in-Some.new t end new (sym (c.document_fits_at.ensures ∙ ap (λ o. all_within (document_at c.in-Some.new (plain_or_none o))) c.as_ref.ensures.value) ∙ c.if-not-document_fits_at.false))) in
      two_then c.args.plan (edge_asks l Last EX) (takes_left l last) x (take_left l last (place tree (new_label l last None) t (ends end))).requests c.in_ok-take_end.ensures rest (left_taken l last (place tree (new_label l last None) t (ends end)))
      ∙ (λ i. c.args.plan ++ (edge_asks (is i) Last EX ++ (take_left (is i) (last_is i) (place tree (new_label (is i) (last_is i) None) t (ends end))).requests));
  unchanged = c.last_child.ensures.unchanged;
  cause = answer_cause _ c.in_ok-last.ensures.cause.exact;
}

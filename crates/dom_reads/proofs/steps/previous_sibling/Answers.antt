use Rattle.std.proofs.Common.{◌≡◌, IfSome, is_some, Less, nat_cmp, sym, ap, subst, ◌∙◌}
use Rattle.std.specs.Cmp.Lexicographic.{slice_cmp}
use Rattle.dewey_labels.specs.Labels.{parent}
use Rattle.tree_model.specs.Entries.{last_below}
use Rattle.tree_model.specs.Keys.{key_cmp, node_key}
use Rattle.node_seq.specs.Reads.{key_below}
use Rattle.dom_reads.specs.inside.Steps.{toward_key}
use Rattle.tree_model.specs.Tree.{map_of}
use Rattle.dom_reads.proofs.StepLaws.{child_by_key, prev_is, root_not_found, before_key}
use Rattle.dom_reads.proofs.steps.previous_sibling.Goals as goal

pub returns-in_default-clause-found : goal.returns-in_default-clause-found
returns-in_default-clause-found g c = λ t stands there. absurd (root_not_found c.args.at.now t stands.valid there (c.in_ok-parent.ensures.root.0 (ap is_some c.in_default.is)))

pub returns-clause-found : goal.returns-clause-found
returns-clause-found g c = λ t stands there.
    let p = c.in-Some.parent in
    let found = c.in_ok-found.ensures.value (map_of t) stands.map ∙ ap (λ k. key_below k (map_of t)) c.in_ok-key.ensures in
    let of_parent : p ≡ parent c.args.at.now = subst (λ o. IfSome o (λ v. v ≡ parent c.args.at.now)) c.in-Some.is c.in_ok-parent.ensures.parent in
    c.in_ok-child_toward.ensures.value ∙ (λ i. toward_key (of_parent i) (found i))
    ∙ child_by_key (parent c.args.at.now) (last_below (node_key c.args.at.now) (map_of t)) ∙ prev_is c.args.at.now t stands.valid there

pub returns-clause-ahead : goal.returns-clause-ahead
returns-clause-ahead g c =
    let l = c.args.at.now in
    subst (λ o. IfSome o (λ k. slice_cmp nat_cmp k l ≡ Less)) (sym c.in_ok-child_toward.ensures.value) (before_key l c.in-Some.parent c.in_ok-found.found (subst (λ k. IfSome c.in_ok-found.found (λ j. key_cmp j k ≡ Less)) c.in_ok-key.ensures c.in_ok-found.ensures.below))

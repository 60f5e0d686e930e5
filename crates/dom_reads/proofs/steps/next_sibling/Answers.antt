use Rattle.std.proofs.Common.{◌≡◌, IfSome, is_some, ap, subst, ◌∙◌}
use Rattle.dewey_labels.specs.Labels.{parent}
use Rattle.tree_model.specs.Entries.{first_above}
use Rattle.tree_model.specs.Tree.{map_of}
use Rattle.tree_model.specs.inside.Seeks.{behind_tree}
use Rattle.node_seq.specs.Reads.{key_above}
use Rattle.dom_reads.specs.inside.Steps.{toward_key, if_behind}
use Rattle.dom_reads.proofs.StepLaws.{child_by_key, next_is, root_not_found}
use Rattle.dom_reads.proofs.steps.next_sibling.Goals as goal

pub returns-in_default-clause-found : goal.returns-in_default-clause-found
returns-in_default-clause-found g c = λ t stands there. absurd (root_not_found c.args.at.now t stands.valid there (c.in_ok-parent.ensures.root.0 (ap is_some c.in_default.is)))

pub returns-clause-found : goal.returns-clause-found
returns-clause-found g c = λ t stands there.
    let p = c.in-Some.parent in
    let found = c.in_ok-found.ensures.value (map_of t) stands.map ∙ ap (λ k. key_above k (map_of t)) c.in_ok-key.ensures in
    let of_parent : p ≡ parent c.args.at.now = subst (λ o. IfSome o (λ v. v ≡ parent c.args.at.now)) c.in-Some.is c.in_ok-parent.ensures.parent in
    c.behind.ensures
    ∙ ap (if_behind c.args.at.now) (c.in_ok-sibling.ensures.value ∙ (λ i. toward_key (of_parent i) (found i)) ∙ child_by_key (parent c.args.at.now) (first_above (behind_tree c.args.at.now) (map_of t)))
    ∙ next_is c.args.at.now t stands.valid there

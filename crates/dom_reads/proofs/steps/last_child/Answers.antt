use Rattle.std.proofs.Common.{ap, ◌∙◌}
use Rattle.tree_model.specs.Entries.{last_below}
use Rattle.tree_model.specs.inside.Seeks.{behind_tree}
use Rattle.tree_model.specs.Tree.{map_of}
use Rattle.node_seq.specs.Reads.{key_below}
use Rattle.dom_reads.specs.inside.Steps.{toward_key}
use Rattle.dom_reads.proofs.StepLaws.{child_by_key, last_child_is}
use Rattle.dom_reads.proofs.steps.last_child.Goals as goal

pub returns-clause-found : goal.returns-clause-found
returns-clause-found g c = λ t stands.
    c.in_ok-child_toward.ensures.value
    ∙ ap (toward_key c.args.at.now) (c.in_ok-found.ensures.value (map_of t) stands.map ∙ ap (λ k. key_below k (map_of t)) c.in_ok-key.ensures)
    ∙ child_by_key c.args.at.now (last_below (behind_tree c.args.at.now) (map_of t))
    ∙ last_child_is c.args.at.now t stands.valid c.divisions-divisions.ensures.label.0

use Rattle.std.proofs.Common.{[], ◌∷◌, sym, ap, ◌∙◌}
use Rattle.tree_model.specs.Entries.{get}
use Rattle.tree_model.specs.Tree.{map_of}
use Rattle.xpath_axes.specs.Positions.{all_plain}
use Rattle.path_model.specs.Positions.{a_node}
use Rattle.xpath_axes.proofs.SingleLooks.{node_seen, node_is}
use Rattle.xpath_axes.proofs.nodes.at_node.Goals as goal

pub returns-in_default-clause-seen : goal.returns-in_default-clause-seen
returns-in_default-clause-seen g c = λ t stands.
    let l = c.args.at.now in
    let value = c.in_ok-record.ensures.value (map_of t) stands.map ∙ ap (λ k. get k (map_of t)) c.in_ok-key.ensures in
    ap all_plain c.new.ensures ∙ ap (node_seen l) (sym c.in_default.is) ∙ node_is l t c.in_ok-record.field-0 stands.valid value

pub returns-clause-seen : goal.returns-clause-seen
returns-clause-seen g c = λ t stands.
    let l = c.args.at.now in
    let value = c.in_ok-record.ensures.value (map_of t) stands.map ∙ ap (λ k. get k (map_of t)) c.in_ok-key.ensures in
    ap all_plain c.in_ok-only.ensures
    ∙ ap (λ k. a_node k.label c.in-Some.record ∷ []) c.in_ok-key.ensures
    ∙ ap (node_seen l) (sym c.in-Some.is) ∙ node_is l t c.in_ok-record.field-0 stands.valid value

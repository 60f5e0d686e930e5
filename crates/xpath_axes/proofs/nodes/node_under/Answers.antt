use Rattle.std.proofs.Common.{◌==◌, List, length, sym, ap, ◌∙◌}
use Rattle.tree_model.specs.declared.key.Key.{Key}
use Rattle.tree_model.specs.declared.record.Record.{Record}
use Rattle.dewey_labels.proofs.Sides.{ancestor_under}
use Rattle.xpath_axes.specs.inside.Walks.{node_under}
use Rattle.xpath_axes.proofs.NodeWalks.{not_under, not_own, own_under, empty_by_length}
use Rattle.xpath_axes.proofs.nodes.node_under.Goals as goal
use Rattle.xpath_axes.proofs.nodes.node_under.Goals.{then-not-is_ancestor_of-via-then-not-is_ancestor_of, then-not-is_ancestor_of-via-else-not-is_ancestor_of+then-not-is_empty}

pub returns-then-not-is_ancestor_of : goal.returns-then-not-is_ancestor_of
returns-then-not-is_ancestor_of c =
    let l = c.args.at.now in
    let key = c.in_ok-key.key in
    let e : Key × Record = (key, c.in_ok-key.record) in
    elim c.then-not-is_ancestor_of.branch [
      | then-not-is_ancestor_of-via-then-not-is_ancestor_of w ↦
          not_under l e (sym (ancestor_under l key.label) ∙ sym c.is_ancestor_of.ensures.prefix ∙ w.if-not-is_ancestor_of.true)
      | then-not-is_ancestor_of-via-else-not-is_ancestor_of+then-not-is_empty w ↦
          not_own l e (sym (empty_by_length key.name) ∙ ap (λ (bs : List _). length bs == 0) (sym w.as_str.ensures.bytes) ∙ sym w.is_empty.ensures ∙ w.if-not-is_empty.true)
    ] ∙ ap (node_under l) (sym c.in_ok-key.was)

pub returns : goal.returns
returns c =
    let l = c.args.at.now in
    let key = c.in_ok-key.key in
    let e : Key × Record = (key, c.in_ok-key.record) in
    own_under l e
    (sym (ancestor_under l key.label) ∙ sym c.is_ancestor_of.ensures.prefix ∙ c.if-not-is_ancestor_of.false)
    (sym (empty_by_length key.name) ∙ ap (λ (bs : List _). length bs == 0) (sym c.as_str.ensures.bytes) ∙ sym c.is_empty.ensures ∙ c.if-not-is_empty.false)
    ∙ ap (node_under l) (sym c.in_ok-key.was)

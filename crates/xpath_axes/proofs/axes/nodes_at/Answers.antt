use Rattle.std.proofs.Common.{◌+◌, drop, ap, ◌∙◌, arith}
use Rattle.path_model.specs.Programs.{looks, ends, at_node}
use Rattle.xpath_axes.specs.Positions.{all_plain}
use Rattle.xpath_axes.proofs.ReadCounts.{plain_append}
use Rattle.xpath_axes.proofs.Running.{each_goes, item_next}
use Rattle.xpath_axes.proofs.TreeLooks.{later}
use Rattle.xpath_axes.proofs.axes.nodes_at.Goals as goal

pub loop-label-preserved : goal.loop-label-preserved
loop-label-preserved g c =
    let seqs = g.met.S.NodeRead in
    let inv = c.loop-label.invariant in
    let i = c.loop-label.label-index in
    let x = c.label-item.result in
    record {
      same = seqs.unchanged_onward _ _ _ inv.same c.in_ok-node.ensures.unchanged;
      counted = c.in_ok-node.ensures.cause.exact ∙ inv.counted;
      left = λ t stands.
          each_goes g.S.NodeRead.reads g.W.Looks.saw t g.met.W.Looks.saw_nothing g.met.W.Looks.saw_further (λ l. looks (at_node l) ends) x (drop (i + 1) c.args.labels.now) (all_plain c.loop-label.found)
          (item_next c.args.labels.now i x (omega arith) c.label-item.is)
          (ap all_plain c.in_ok-put_behind.ensures ∙ plain_append c.loop-label.found c.in_ok-node.node)
          (inv.left t stands)
          (c.in_ok-node.ensures.run t (later _ _ t (seqs.unchanged_contents _ _ inv.same) stands));
    }

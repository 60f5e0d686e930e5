use Rattle.std.proofs.Common.{◌≡◌, Bool, false, List, take, sym, ap, ◌∙◌}
use Rattle.std.specs.List.{filter}
use Rattle.std.proofs.Math.Seq.{take-nil}
use Rattle.tree_model.specs.Places.{is_root}
use Rattle.tree_model.specs.Tree.{below, at as node_at}
use Rattle.path_model.specs.declared.path.Axis.TheVariants as along
use Rattle.path_model.specs.Positions as path
use Rattle.path_model.specs.Programs.{row_seen}
use Rattle.xpath_axes.specs.declared.position.Position.{Position}
use Rattle.xpath_axes.specs.Positions.{all_plain}
use Rattle.xpath_axes.proofs.SingleLooks.{root_is_none}
use Rattle.xpath_axes.proofs.TreeLooks.{on_tree}
use Rattle.xpath_axes.proofs.nodes.at_row_up_to.Goals as goal

pub returns-then-is_root-clause-seen : goal.returns-then-is_root-clause-seen
returns-then-is_root-clause-seen g c = λ t stands.
    let q : path.Position → Bool = path.passes along.Child c.args.test.now in
    let none = root_is_none c.args.at.now t stands.valid (sym c.is_root.ensures ∙ c.if-is_root.true) in
    ap all_plain c.new.ensures ∙ sym (take-nil c.args.room) ∙ ap (λ f. take c.args.room (filter q (row_seen (below f)))) (sym none)

pub returns-clause-seen : goal.returns-clause-seen
returns-clause-seen g c =
    let l = c.args.at.now in
    let first : List path.Position → List path.Position = λ s. take c.args.room (filter (path.passes along.Child c.args.test.now) s) in
    on_tree (λ t (a : List Position). is_root l ≡ false → all_plain a ≡ first (row_seen (below (node_at l t.documents))))
    (λ t (a : List Position). all_plain a ≡ first (row_seen (below (node_at l t.documents)))) _ _ c.below_up_to.result
    (λ t a stands h. h stands (sym c.is_root.ensures ∙ c.if-is_root.false)) c.below_up_to.ensures.seen

pub returns-clause-reads : goal.returns-clause-reads
returns-clause-reads g c t stands = c.below_up_to.ensures.reads t stands (sym c.is_root.ensures ∙ c.if-is_root.false)

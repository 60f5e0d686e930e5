use Rattle.std.proofs.Common.{◌≡◌, List, false, ◌++◌, length, sym, ap, ◌∙◌, arith}
use Rattle.tree_model.specs.Tree.{below as below_of, at as node_at}
use Rattle.tree_model.specs.Places.{is_root}
use Rattle.path_model.specs.Programs.{row_seen}
use Rattle.xpath_axes.specs.declared.position.Position.{Position}
use Rattle.xpath_axes.specs.Positions.{all_plain}
use Rattle.xpath_axes.proofs.SingleLooks.{root_is_none}
use Rattle.xpath_axes.proofs.TreeLooks.{on_tree, if_ok}
use Rattle.xpath_axes.proofs.nodes.at_row.Goals as goal

pub returns-then-is_root-clause-seen : goal.returns-then-is_root-clause-seen
returns-then-is_root-clause-seen g c = λ t stands.
    ap all_plain c.new-children.ensures ∙ ap (λ f. row_seen (below_of f)) (sym (root_is_none c.args.at.now t stands.valid (sym c.is_root.ensures ∙ c.if-is_root.true)))

pub returns-clause-seen : goal.returns-clause-seen
returns-clause-seen g c =
    let l = c.args.at.now in
    on_tree (λ t (a : List Position). is_root l ≡ false → all_plain a ≡ all_plain c.new-children.result ++ row_seen (below_of (node_at l t.documents)))
    (λ t (a : List Position). all_plain a ≡ row_seen (below_of (node_at l t.documents))) _ _ c.below.result (λ t a stands h.
    h stands (sym c.is_root.ensures ∙ c.if-is_root.false) ∙ ap (λ ps. all_plain ps ++ row_seen (below_of (node_at l t.documents))) c.new-children.ensures) c.below.ensures.seen

pub returns-clause-reads : goal.returns-clause-reads
returns-clause-reads g c =
    if_ok _ _ c.below.result (λ a h. let none = ap length c.new-children.ensures in omega (arith, none, h)) c.below.ensures.reads

pub returns-clause-reads_of_tree : goal.returns-clause-reads_of_tree
returns-clause-reads_of_tree g c = λ t stands. c.below.ensures.reads_of_tree t stands (sym c.is_root.ensures ∙ c.if-is_root.false)

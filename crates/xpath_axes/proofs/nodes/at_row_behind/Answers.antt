use Rattle.std.proofs.Common.{◌≡◌, false, true, List, ◌++◌, sym, ap, ◌∙◌}
use Rattle.std.specs.List.{filter}
use Rattle.dewey_labels.specs.Labels.{is_child}
use Rattle.tree_model.specs.Places.{is_root}
use Rattle.tree_model.specs.Tree.{below as below_of, at as node_at}
use Rattle.path_model.specs.AxisPrograms.{on_right}
use Rattle.path_model.specs.Programs.{row_seen}
use Rattle.xpath_axes.specs.declared.position.Position.{Position}
use Rattle.xpath_axes.specs.Positions.{all_plain}
use Rattle.xpath_axes.proofs.LabelWays.{child_of_place}
use Rattle.xpath_axes.proofs.SingleLooks.{root_is_none}
use Rattle.xpath_axes.proofs.TreeLooks.{on_tree}
use Rattle.xpath_axes.proofs.nodes.at_row_behind.Goals as goal

pub returns-then-is_root-clause-seen : goal.returns-then-is_root-clause-seen
returns-then-is_root-clause-seen g c = λ t stands.
    let none = root_is_none c.args.at.now t stands.valid (sym c.is_root.ensures ∙ c.if-is_root.true) in
    ap all_plain c.new-behind.ensures ∙ ap (λ f. filter (on_right c.args.of.now) (row_seen (below_of f))) (sym none)

pub returns-clause-seen : goal.returns-clause-seen
returns-clause-seen g c =
    let l = c.args.at.now in
    let k = c.args.of.now in
    let no_root = sym c.is_root.ensures ∙ c.if-is_root.false in
    on_tree (λ t (a : List Position). (is_root l ≡ false) × (is_child l k ≡ true) → all_plain a ≡ all_plain c.new-behind.result ++ filter (on_right k) (row_seen (below_of (node_at l t.documents))))
    (λ t (a : List Position). all_plain a ≡ filter (on_right k) (row_seen (below_of (node_at l t.documents)))) _ _ c.below.result (λ t a stands h.
    h stands (no_root, child_of_place l k c.divisions-divisions.ensures.label.0 c.requires no_root)
    ∙ ap (λ ps. all_plain ps ++ filter (on_right k) (row_seen (below_of (node_at l t.documents)))) c.new-behind.ensures) c.below.ensures.seen

pub returns-clause-reads : goal.returns-clause-reads
returns-clause-reads g c t stands =
    let no_root = sym c.is_root.ensures ∙ c.if-is_root.false in
    c.below.ensures.reads_of_tree t stands (no_root, child_of_place c.args.at.now c.args.of.now c.divisions-divisions.ensures.label.0 c.requires no_root)

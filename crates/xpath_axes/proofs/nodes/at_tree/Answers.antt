use Rattle.std.proofs.Common.{◌≡◌, List, false, ◌++◌, [], ◌∷◌, length, sym, ap, ◌∙◌, arith}
use Rattle.tree_model.specs.Entries.{get}
use Rattle.tree_model.specs.Tree.{map_of, below as below_of, at as node_at}
use Rattle.tree_model.specs.Places.{is_root}
use Rattle.path_model.specs.Positions.{a_node}
use Rattle.path_model.specs.Programs.{all_seen, tree_seen}
use Rattle.xpath_axes.specs.declared.position.Position.{Position}
use Rattle.xpath_axes.specs.Positions.{all_plain}
use Rattle.xpath_axes.proofs.TreeLooks.{on_tree, if_ok, later, tree_from, tree_is, is_no_root}
use Rattle.xpath_axes.proofs.nodes.at_tree.Goals as goal

pub returns-in_default-clause-seen : goal.returns-in_default-clause-seen
returns-in_default-clause-seen g c = λ t stands.
    let l = c.args.at.now in
    let value = c.in_ok-record.ensures.value (map_of t) stands.map ∙ ap (λ k. get k (map_of t)) c.in_ok-key.ensures in
    ap all_plain c.new.ensures ∙ ap (λ r. tree_from l r (node_at l t.documents)) (sym c.in_default.is) ∙ tree_is l t c.in_ok-record.field-0 stands.valid value

pub returns-clause-seen : goal.returns-clause-seen
returns-clause-seen g c =
    let l = c.args.at.now in
    on_tree (λ t (a : List Position). is_root l ≡ false → all_plain a ≡ all_plain c.in_ok-node.node ++ all_seen (below_of (node_at l t.documents)))
    (λ t (a : List Position). all_plain a ≡ tree_seen (node_at l t.documents)) _ _ c.below.result (λ t a stands h.
    let value = c.in_ok-record.ensures.value (map_of t) stands.map ∙ ap (λ k. get k (map_of t)) c.in_ok-key.ensures in
    let now = later _ _ t (g.met.S.NodeRead.unchanged_contents _ _ c.in_ok-record.ensures.unchanged) stands in
    let node = ap all_plain c.in_ok-node.ensures ∙ ap (λ k. a_node k.label c.in-Some.record ∷ []) c.in_ok-key.ensures in
    h now (is_no_root l t c.in-Some.record stands.valid (sym c.in-Some.is ∙ value))
    ∙ ap (λ ps. ps ++ all_seen (below_of (node_at l t.documents))) node
    ∙ ap (λ r. tree_from l r (node_at l t.documents)) (sym c.in-Some.is) ∙ tree_is l t c.in_ok-record.field-0 stands.valid value) c.below.ensures.seen

pub returns-clause-reads : goal.returns-clause-reads
returns-clause-reads g c =
    if_ok _ _ c.below.result (λ a h.
    let one = ap length c.in_ok-node.ensures in
    let first = c.in_ok-record.ensures.reads in
    omega (arith, one, first, h)) c.below.ensures.reads

pub returns-clause-reads_of_tree : goal.returns-clause-reads_of_tree
returns-clause-reads_of_tree g c = λ t stands.
    let l = c.args.at.now in
    let value = c.in_ok-record.ensures.value (map_of t) stands.map ∙ ap (λ k. get k (map_of t)) c.in_ok-key.ensures in
    let now = later _ _ t (g.met.S.NodeRead.unchanged_contents _ _ c.in_ok-record.ensures.unchanged) stands in
    let rest = c.below.ensures.reads_of_tree t now (is_no_root l t c.in-Some.record stands.valid (sym c.in-Some.is ∙ value)) in
    let all = ap length (ap (λ r. tree_from l r (node_at l t.documents)) (sym c.in-Some.is) ∙ tree_is l t c.in_ok-record.field-0 stands.valid value) in
    let first = c.in_ok-record.ensures.reads in
    omega (arith, all, first, rest)

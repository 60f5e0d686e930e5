use Rattle.std.proofs.Common.{◌∙◌, sym, ap, subst}
use Rattle.tree_model.specs.declared.key.Key.{Key}
use Rattle.tree_model.specs.Entries.{Sorted, entries_above}
use Rattle.tree_model.specs.Keys.{node_key}
use Rattle.tree_model.specs.Tree.{map_of}
use Rattle.tree_model.proofs.WholeTree.{map_sorted}
use Rattle.tx_core.proofs.Copies.{above_root}
use Rattle.tx_core.proofs.copying.copy_map.Goals as goal

pub returns-clause-tree : goal.returns-clause-tree
returns-clause-tree g c t stands =
    let is = c.in_ok-entries.ensures.value (map_of t) stands.map ∙ ap (λ (k : Key). entries_above k (map_of t)) (c.in_ok-root.ensures ∙ ap node_key c.in_ok-label.ensures) ∙ above_root t stands.valid in
    c.in_ok-map_with.ensures (subst Sorted (sym is) (map_sorted t stands.valid)) ∙ is

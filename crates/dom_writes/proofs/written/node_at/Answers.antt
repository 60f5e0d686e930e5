use Rattle.std.proofs.Common.{◌<◌, subst, arith}
use Rattle.tree_model.specs.Limits.{deepest_level}
use Rattle.tree_model.specs.Keys.{IsValidKey, node_key}
use Rattle.dom_writes.proofs.WrittenLaws.{none_too_deep, if_found, valid_node_key}
use Rattle.dom_writes.proofs.written.node_at.Goals as goal

pub returns-then-level-gt-DEEPEST_LEVEL-clause-found : goal.returns-then-level-gt-DEEPEST_LEVEL-clause-found
returns-then-level-gt-DEEPEST_LEVEL-clause-found g c = λ t stands.
    none_too_deep c.args.at.now t stands.valid (subst (λ n. deepest_level < n) c.level.ensures c.if-level-gt-DEEPEST_LEVEL.true)

pub returns-clause-key : goal.returns-clause-key
returns-clause-key g c =
    let l = c.args.at.now in
    let level_is = c.level.ensures in
    let above = c.if-level-gt-DEEPEST_LEVEL.false in
    if_found (IsValidKey (node_key l)) c.record_at.result (valid_node_key l c.divisions-divisions.ensures.label (omega (arith, level_is, above)))

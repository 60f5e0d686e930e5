use Rattle.std.proofs.Common.{ap, ◌∙◌}
use Rattle.std.specs.Prelude.{is_some}
use Rattle.tree_model.specs.declared.key.Key.{Key}
use Rattle.tree_model.specs.Keys.{node_key}
use Rattle.tree_model.specs.Tree.{map_of}
use Rattle.node_seq.specs.Reads.{key_above}
use Rattle.xtc.proofs.CountingLaws.{documents_seen}
use Rattle.xtc.proofs.generator.some_document.Goals as goal

pub returns-in-Ok-clause-some : goal.returns-in-Ok-clause-some
returns-in-Ok-clause-some g c = λ t stands.
    let is = c.in-Ok.ensures.value (map_of t) stands.map ∙ ap (λ (k : Key). key_above k (map_of t)) (c.in_ok-root-2.ensures ∙ ap node_key c.in_ok-root.ensures) in
    c.is_some.ensures ∙ ap is_some is ∙ documents_seen t stands.valid

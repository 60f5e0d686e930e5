use Rattle.std.proofs.Common.{◌==◌, length, sym, ap, ◌∙◌}
use Rattle.tree_model.specs.Entries.{get}
use Rattle.tree_model.specs.Keys.{key_at}
use Rattle.tree_model.specs.Tree.{map_of}
use Rattle.dom_reads.specs.inside.Steps.{value_of}
use Rattle.dom_reads.proofs.StepLaws.{value_is, no_empty_name}
use Rattle.dom_reads.proofs.steps.attribute_at.Goals as goal

pub returns-then-is_empty-clause-found : goal.returns-then-is_empty-clause-found
returns-then-is_empty-clause-found g c = λ t stands.
    sym (no_empty_name c.args.at.now c.args.name.now t (ap (λ n. length n == 0) (sym c.as_str.ensures.bytes) ∙ sym c.is_empty.ensures ∙ c.if-is_empty.true) stands.valid)

pub returns-clause-found : goal.returns-clause-found
returns-clause-found g c = λ t stands.
    let l = c.args.at.now in
    let n = c.args.name.now in
    let key = c.in_ok-key.ensures ∙ ap (key_at l) c.as_str-2.ensures.bytes in
    c.value_of.ensures
    ∙ ap value_of (c.in_ok-found.ensures.value (map_of t) stands.map ∙ ap (λ k. get k (map_of t)) key)
    ∙ value_is l n t (ap (λ n. length n == 0) (sym c.as_str.ensures.bytes) ∙ sym c.is_empty.ensures ∙ c.if-is_empty.false) stands.valid

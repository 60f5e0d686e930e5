use Rattle.std.proofs.Common.{◌≡◌, None, sym, ap, ◌∙◌}
use Rattle.tree_model.specs.Attributes.{remove_attr_in}
use Rattle.tree_model.specs.Entries.{get}
use Rattle.tree_model.specs.Keys.{key_at}
use Rattle.tree_model.specs.Tree.{map_of}
use Rattle.tree_changes.specs.KeyChanges.{change_at}
use Rattle.dom_reads.proofs.ReplyLaws.{later}
use Rattle.dom_writes.proofs.InPlaceOutcomes.{element_nowhere, no_element_there, remove_attr_no_name, remove_attr_done}
use Rattle.dom_writes.proofs.attributes.remove_attr.Goals as goal

pub returns-in_default-clause-changes : goal.returns-in_default-clause-changes
returns-in_default-clause-changes g c = λ t stands.
    c.requires.empty ∙ element_nowhere c.args.at.now t stands.valid (remove_attr_in c.args.at.now c.args.name.now t) (sym c.in_default.is ∙ c.in_ok-found.ensures.found t stands)

pub returns-then-not-is_element-clause-changes : goal.returns-then-not-is_element-clause-changes
returns-then-not-is_element-clause-changes g c = λ t stands.
    c.requires.empty ∙ no_element_there c.args.at.now t stands.valid (remove_attr_in c.args.at.now c.args.name.now t)
    c.in-Some.found (sym c.in-Some.is ∙ c.in_ok-found.ensures.found t stands) (sym c.is_element.ensures ∙ c.if-not-is_element.true)

pub returns-then-not-is_name-clause-changes : goal.returns-then-not-is_name-clause-changes
returns-then-not-is_name-clause-changes g c = λ t stands.
    c.requires.empty ∙ remove_attr_no_name c.args.at.now c.args.name.now t stands.valid
    c.in-Some.found (sym c.in-Some.is ∙ c.in_ok-found.ensures.found t stands) (sym c.is_element.ensures ∙ c.if-not-is_element.false) (sym c.is_name.ensures.exact ∙ c.if-not-is_name.true)

pub returns-clause-changes : goal.returns-clause-changes
returns-clause-changes g c = λ t stands.
    let l = c.args.at.now in
    let now = later _ _ t (g.met.S.NodeRead.unchanged_contents _ _ c.node_at.ensures.unchanged) stands in
    let key : c.in_ok-key.key ≡ key_at l c.args.name.now = c.in_ok-key.ensures ∙ ap (key_at l) c.as_str.ensures.bytes in
    c.in_ok-change_key.ensures.changed (map_of t) now.map
    ∙ ap (λ k. change_at k (get k (map_of t)) None) key
    ∙ remove_attr_done l c.args.name.now t stands.valid
    c.in-Some.found (sym c.in-Some.is ∙ c.in_ok-found.ensures.found t stands) (sym c.is_element.ensures ∙ c.if-not-is_element.false) (sym c.is_name.ensures.exact ∙ c.if-not-is_name.false)

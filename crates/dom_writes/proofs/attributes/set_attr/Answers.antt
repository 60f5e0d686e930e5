use Rattle.std.proofs.Common.{◌≡◌, true, IfSome, Some, sym, ap, subst, ◌∙◌}
use Rattle.tree_model.specs.declared.record.Record.TheVariants.{Attr}
use Rattle.tree_model.specs.Attributes.{set_attr_in}
use Rattle.tree_model.specs.Entries.{get}
use Rattle.tree_model.specs.Keys.{IsValidKey, key_at, node_key}
use Rattle.tree_model.specs.Records.{is_data}
use Rattle.tree_model.specs.Tree.{map_of}
use Rattle.tree_changes.specs.KeyChanges.{change_at}
use Rattle.tree_changes.proofs.Cases.{not_false}
use Rattle.dom_reads.proofs.ReplyLaws.{later}
use Rattle.dom_writes.proofs.InPlaceOutcomes.{element_nowhere, no_element_there, set_attr_no_name, set_attr_too_long, set_attr_done}
use Rattle.dom_writes.proofs.WrittenLaws.{attribute_key}
use Rattle.dom_writes.proofs.attributes.set_attr.Goals as goal

pub returns-in_default-clause-changes : goal.returns-in_default-clause-changes
returns-in_default-clause-changes g c = λ t stands.
    c.requires.empty ∙ element_nowhere c.args.at.now t stands.valid (set_attr_in c.args.at.now c.args.name.now c.args.value.now t) (sym c.in_default.is ∙ c.in_ok-found.ensures.found t stands)

pub returns-then-not-is_element-clause-changes : goal.returns-then-not-is_element-clause-changes
returns-then-not-is_element-clause-changes g c = λ t stands.
    c.requires.empty ∙ no_element_there c.args.at.now t stands.valid (set_attr_in c.args.at.now c.args.name.now c.args.value.now t)
    c.in-Some.found (sym c.in-Some.is ∙ c.in_ok-found.ensures.found t stands) (sym c.is_element.ensures ∙ c.if-not-is_element.true)

pub returns-then-not-is_name-clause-changes : goal.returns-then-not-is_name-clause-changes
returns-then-not-is_name-clause-changes g c = λ t stands.
    c.requires.empty ∙ set_attr_no_name c.args.at.now c.args.name.now c.args.value.now t stands.valid
    c.in-Some.found (sym c.in-Some.is ∙ c.in_ok-found.ensures.found t stands) (sym c.is_element.ensures ∙ c.if-not-is_element.false) (sym c.is_name.ensures.exact ∙ c.if-not-is_name.true)

pub returns-then-is_too_long-clause-changes : goal.returns-then-is_too_long-clause-changes
returns-then-is_too_long-clause-changes g c = λ t stands.
    c.requires.empty ∙ set_attr_too_long c.args.at.now c.args.name.now c.args.value.now t stands.valid
    c.in-Some.found (sym c.in-Some.is ∙ c.in_ok-found.ensures.found t stands) (sym c.is_element.ensures ∙ c.if-not-is_element.false) (sym c.is_name.ensures.exact ∙ c.if-not-is_name.false)
    (sym c.is_too_long.ensures.long ∙ c.if-is_too_long.true)

pub change_key-requires-clause-entry : goal.change_key-requires-clause-entry
change_key-requires-clause-entry g c =
    let l = c.args.at.now in
    let n = c.args.name.now in
    let node_valid = subst (λ o. IfSome o (λ _. IsValidKey (node_key l))) c.in-Some.is c.in_ok-found.ensures.key in
    let fits : is_data c.args.value.now ≡ true = not_false (is_data c.args.value.now) (sym c.is_too_long.ensures.data ∙ c.if-is_too_long.false) in (
      subst IsValidKey (sym (c.in_ok-key.ensures ∙ ap (key_at l) c.as_str.ensures.bytes)) (attribute_key l n node_valid (sym c.is_name.ensures.exact ∙ c.if-not-is_name.false)),
      subst (λ v. is_data v ≡ true) (sym c.in_ok-copy.ensures) fits,
    )

pub returns-clause-changes : goal.returns-clause-changes
returns-clause-changes g c = λ t stands.
    let l = c.args.at.now in
    let now = later _ _ t (g.met.S.NodeRead.unchanged_contents _ _ c.node_at.ensures.unchanged) stands in
    let key : c.in_ok-key.key ≡ key_at l c.args.name.now = c.in_ok-key.ensures ∙ ap (key_at l) c.as_str.ensures.bytes in
    c.in_ok-change_key.ensures.changed (map_of t) now.map
    ∙ (λ i. change_at (key i) (get (key i) (map_of t)) (Some (Attr (c.in_ok-copy.ensures i))))
    ∙ set_attr_done l c.args.name.now c.args.value.now t stands.valid
    c.in-Some.found (sym c.in-Some.is ∙ c.in_ok-found.ensures.found t stands) (sym c.is_element.ensures ∙ c.if-not-is_element.false) (sym c.is_name.ensures.exact ∙ c.if-not-is_name.false)
    (sym c.is_too_long.ensures.long ∙ c.if-is_too_long.false)

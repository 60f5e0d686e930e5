use Rattle.std.proofs.Common.{◌++◌, IfSome, Some, sym, subst, ◌∙◌}
use Rattle.tree_model.specs.declared.record.Record.TheVariants.{Element}
use Rattle.tree_model.specs.Attributes.{rename_in}
use Rattle.tree_model.specs.Keys.{IsValidKey, node_key}
use Rattle.tree_changes.specs.KeyChanges.{change_at}
use Rattle.node_seq.specs.ChangeLists.{IsChangeList}
use Rattle.dom_writes.proofs.InPlaceOutcomes.{element_nowhere, no_element_there, rename_no_name, rename_done}
use Rattle.dom_writes.proofs.WrittenLaws.{one_change}
use Rattle.dom_writes.proofs.attributes.rename.Goals as goal

pub returns-in_default-clause-changes : goal.returns-in_default-clause-changes
returns-in_default-clause-changes g c = λ t stands.
    c.requires.empty ∙ element_nowhere c.args.at.now t stands.valid (rename_in c.args.at.now c.args.name.now t) (sym c.in_default.is ∙ c.in_ok-found.ensures.found t stands)

pub returns-then-not-is_element-clause-changes : goal.returns-then-not-is_element-clause-changes
returns-then-not-is_element-clause-changes g c = λ t stands.
    c.requires.empty ∙ no_element_there c.args.at.now t stands.valid (rename_in c.args.at.now c.args.name.now t)
    c.in-Some.found (sym c.in-Some.is ∙ c.in_ok-found.ensures.found t stands) (sym c.is_element.ensures ∙ c.if-not-is_element.true)

pub returns-then-not-is_name-clause-changes : goal.returns-then-not-is_name-clause-changes
returns-then-not-is_name-clause-changes g c = λ t stands.
    c.requires.empty ∙ rename_no_name c.args.at.now c.args.name.now t stands.valid
    c.in-Some.found (sym c.in-Some.is ∙ c.in_ok-found.ensures.found t stands) (sym c.is_element.ensures ∙ c.if-not-is_element.false) (sym c.is_name.ensures.exact ∙ c.if-not-is_name.true)

pub returns-clause-rise : goal.returns-clause-rise
returns-clause-rise g c =
    let l = c.args.at.now in
    let r = c.in-Some.found in
    let n = c.args.name.now in
    let node_valid = subst (λ o. IfSome o (λ _. IsValidKey (node_key l))) c.in-Some.is c.in_ok-found.ensures.key in
    subst IsChangeList (sym (c.in_ok-add_change.ensures.ok ∙ (λ i. c.requires.empty i ++ change_at (c.in_ok-key.ensures i) (Some r) (Some (Element (c.in_ok-copy.ensures i))))))
    (one_change (node_key l) (Some r) (Some (Element n)) (node_valid, sym c.is_name.ensures.exact ∙ c.if-not-is_name.false))

pub returns-clause-changes : goal.returns-clause-changes
returns-clause-changes g c = λ t stands.
    let l = c.args.at.now in
    let r = c.in-Some.found in
    c.in_ok-add_change.ensures.ok
    ∙ (λ i. c.requires.empty i ++ change_at (c.in_ok-key.ensures i) (Some r) (Some (Element (c.in_ok-copy.ensures i))))
    ∙ rename_done l c.args.name.now t stands.valid
    r (sym c.in-Some.is ∙ c.in_ok-found.ensures.found t stands) (sym c.is_element.ensures ∙ c.if-not-is_element.false) (sym c.is_name.ensures.exact ∙ c.if-not-is_name.false)

use Rattle.std.proofs.Common.{◌==◌, [], ◌∷◌, List, length, sym, ap, ◌∙◌}
use Rattle.tree_model.specs.Entries.{get}
use Rattle.tree_model.specs.Keys.{key_at}
use Rattle.tree_model.specs.Tree.{map_of, attributes_of, beside}
use Rattle.path_model.specs.Positions.{an_attribute}
use Rattle.path_model.specs.Programs.{value_seen}
use Rattle.xpath_axes.specs.Positions.{all_plain}
use Rattle.xpath_axes.specs.inside.Walks.{value_of}
use Rattle.xpath_axes.proofs.SingleLooks.{attribute_is, no_empty_name, root_is_none}
use Rattle.xpath_axes.proofs.attributes.at_attribute.Goals as goal
use Rattle.xpath_axes.proofs.attributes.at_attribute.Goals.{then-is_root-via-then-is_root, then-is_root-via-else-is_root+then-is_empty}

pub returns-then-is_root-clause-seen : goal.returns-then-is_root-clause-seen
returns-then-is_root-clause-seen g c = λ t stands.
    let l = c.args.at.now in
    let n = c.args.name.now in
    ap all_plain c.new.ensures ∙ elim c.then-is_root.branch [
      | then-is_root-via-then-is_root w ↦ ap (λ f. value_seen l n (beside n (attributes_of f))) (sym (root_is_none l t stands.valid (sym c.is_root.ensures ∙ w.if-is_root.true)))
      | then-is_root-via-else-is_root+then-is_empty w ↦
          no_empty_name l n t stands.valid (ap (λ (bs : List _). length bs == 0) (sym w.as_str.ensures.bytes) ∙ sym w.is_empty.ensures ∙ w.if-is_empty.true)
    ]

pub returns-in_default-clause-seen : goal.returns-in_default-clause-seen
returns-in_default-clause-seen g c = λ t stands.
    let l = c.args.at.now in
    let n = c.args.name.now in
    let key = c.in_ok-key.ensures ∙ ap (key_at l) c.as_str-2.ensures.bytes in
    let value = c.in_ok-found.ensures.value (map_of t) stands.map ∙ ap (λ k. get k (map_of t)) key in
    ap all_plain c.new-in_default.ensures
    ∙ ap (value_seen l n) (sym c.in_default.is ∙ c.value_of.ensures ∙ ap value_of value)
    ∙ attribute_is l n t stands.valid (sym c.is_root.ensures ∙ c.if-is_root.false) (ap (λ (bs : List _). length bs == 0) (sym c.as_str.ensures.bytes) ∙ sym c.is_empty.ensures ∙ c.if-is_empty.false)

pub returns-clause-seen : goal.returns-clause-seen
returns-clause-seen g c = λ t stands.
    let l = c.args.at.now in
    let n = c.args.name.now in
    let key = c.in_ok-key.ensures ∙ ap (key_at l) c.as_str-2.ensures.bytes in
    let value = c.in_ok-found.ensures.value (map_of t) stands.map ∙ ap (λ k. get k (map_of t)) key in
    ap all_plain c.in_ok-only.ensures
    ∙ ap (λ k. an_attribute k.label k.name c.in-Some.value ∷ []) key
    ∙ ap (value_seen l n) (sym c.in-Some.is ∙ c.value_of.ensures ∙ ap value_of value)
    ∙ attribute_is l n t stands.valid (sym c.is_root.ensures ∙ c.if-is_root.false) (ap (λ (bs : List _). length bs == 0) (sym c.as_str.ensures.bytes) ∙ sym c.is_empty.ensures ∙ c.if-is_empty.false)

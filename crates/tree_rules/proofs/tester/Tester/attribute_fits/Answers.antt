use Rattle.std.proofs.Common.{◌∙◌, ◌≡◌, ◌&&◌, true, sym, ap}
use Rattle.tree_model.specs.Names.{is_name}
use Rattle.tree_model.specs.StoredTree.{is_value}
use Rattle.tree_rules.specs.inside.Paths.{holds_nodes, room_at}
use Rattle.tree_rules.proofs.TestLaws.{attribute_by}
use Rattle.tree_rules.proofs.tester.Tester.attribute_fits.Goals.{then-is_name, else-is_name}
use Rattle.tree_rules.proofs.tester.Tester.attribute_fits.Goals as goal

pub returns-then-is_value : goal.returns-then-is_value
returns-then-is_value c es named next =
    let t = c.args.self.now in
    let key = c.args.key.now in
    let value = c.args.value.now in
    let holds = c.holds_nodes.ensures ∙ ap holds_nodes (c.room_at.ensures ∙ ap (room_at key.label) c.deref.ensures.value) in
    elim c.if-is_name.branch [
      | then-is_name w ↦
          let has_name : true ≡ is_name key.name = sym w.if-is_name.true ∙ c.is_name.ensures.exact in
          let has_value : true ≡ is_value value = sym c.if-is_value.true ∙ w.value-is ∙ w.is_value.ensures in
          holds ∙ (λ i. has_name i && (has_value i && holds_nodes (room_at key.label t.path.items))) ∙ sym (attribute_by t es (key, value) next)
      | else-is_name w ↦ let clash = sym w.if-is_name.false ∙ sym w.value-is ∙ c.if-is_value.true in cc
    ]

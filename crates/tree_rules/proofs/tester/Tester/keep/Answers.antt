use Rattle.std.proofs.Common.{◌∙◌, ◌≡◌, Bool, ◌&&◌, Some, ap, refl, sym}
use Rattle.dewey_labels.specs.Labels.{Label}
use Rattle.tree_model.specs.declared.key.Key.{Key}
use Rattle.tree_model.specs.declared.record.Record.{Record}
use Rattle.tree_rules.specs.inside.Named.{gives_label}
use Rattle.tree_rules.proofs.TestLaws.{keeps_attribute, keeps_node, keeps_root}
use Rattle.tree_rules.proofs.tester.Tester.keep.Goals.{then-self, else-self}
use Rattle.tree_rules.proofs.tester.Tester.keep.Goals as goal

pub returns-then-is_root-clause-keeps : goal.returns-then-is_root-clause-keeps
returns-then-is_root-clause-keeps c es next fits =
    let t = c.args.self.now in
    let x : Key × Record = (c.args.key.now, c.args.value.now) in
    let last = ap (λ (l : Label). Some l) c.in_ok-copy.ensures in
    let all_name : c.if-self.self ≡ (t.all_name && gives_label x) = elim c.if-self.branch [
      | then-self w ↦ w.self-is ∙ ap (λ (b : Bool). b && c.in_ok-names.names) (sym w.if-self.true) ∙ ap (λ (b : Bool). t.all_name && b) c.in_ok-names.ensures.gives
      | else-self w ↦ w.self-is ∙ w.if-self.false ∙ ap (λ (b : Bool). b && gives_label x) (sym w.if-self.false)
    ] in
    keeps_root t _ es x next (sym c.is_root.ensures.root ∙ c.if-is_root.true) fits last refl c.in_ok-names.ensures.named all_name

pub returns-in_ok-go_to-clause-keeps : goal.returns-in_ok-go_to-clause-keeps
returns-in_ok-go_to-clause-keeps c es next fits =
    keeps_node c.args.self.now _ es c.args.key.now c.args.value.now next (sym c.is_root.ensures.root ∙ c.if-is_root.false) (sym c.is_node.ensures ∙ c.if-is_node.true) fits
    (ap (λ (l : Label). Some l) c.in_ok-copy.ensures) c.in_ok-go_to.ensures c.take_off.ensures refl

pub returns-else-is_node-clause-keeps : goal.returns-else-is_node-clause-keeps
returns-else-is_node-clause-keeps c es next fits =
    keeps_attribute c.args.self.now _ es (c.args.key.now, c.args.value.now) next (sym c.is_root.ensures.root ∙ c.if-is_root.false) (sym c.is_node.ensures ∙ c.if-is_node.false) fits
    (ap (λ (l : Label). Some l) c.in_ok-copy.ensures) refl refl refl

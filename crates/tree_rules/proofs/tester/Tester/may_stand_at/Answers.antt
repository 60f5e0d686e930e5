use Rattle.std.proofs.Common.{rules, ◌≡◌, ◌∙◌, Bool, false, ◌&&◌, Some, unwrap_or, nat_cmp, ap, sym}
use Rattle.std.specs.BTreeMap.{get as get_in}
use Rattle.std.specs.Cmp.Lexicographic.{slice_cmp}
use Rattle.dewey_labels.specs.Labels.{Label, parent}
use Rattle.tree_model.specs.Places.{is_root}
use Rattle.tree_model.specs.StoredTree.{is_document_record}
use Rattle.tree_rules.specs.inside.Paths.{is_above, may_enter, room_at}
use Rattle.tree_rules.proofs.TestLaws.{stands_below, stands_first}
use Rattle.tree_rules.proofs.tester.Tester.may_stand_at.Goals.{then-is_document, else-is_document}
use Rattle.tree_rules.proofs.tester.Tester.may_stand_at.Goals as goal

pub returns-then-is_root : goal.returns-then-is_root
returns-then-is_root c es next =
    let t = c.args.self.now in
    let label = c.args.label.now in
    let value = c.args.value.now in
    let found : c.in-Some.parent ≡ parent label = search rules in
    let root = ap is_root (sym found) ∙ sym c.is_root.ensures.root ∙ c.if-is_root.true in
    let once = unwrap_or (get_in (slice_cmp nat_cmp) t.named label) false in
    let may = sym (stands_first t es label value next c.requires.inner root) in
    elim c.if-is_document.branch [
      | then-is_document w ↦
          w.result-is ∙ ap (λ (b : Bool). b && w.is_named_once.result) (sym w.if-is_document.true ∙ c.is_document.ensures)
          ∙ ap (λ (b : Bool). is_document_record (Some value) && b) w.is_named_once.ensures ∙ may
      | else-is_document w ↦ w.result-is ∙ w.if-is_document.false ∙ ap (λ (b : Bool). b && once) (sym w.if-is_document.false ∙ c.is_document.ensures) ∙ may
    ]

pub returns : goal.returns
returns c es next =
    let t = c.args.self.now in
    let label = c.args.label.now in
    let value = c.args.value.now in
    let found : c.in-Some.parent ≡ parent label = search rules in
    let inner = ap is_root (sym found) ∙ sym c.is_root.ensures.root ∙ c.if-is_root.false in
    let room = c.room_at-room.ensures ∙ ap (room_at c.in-Some.parent) c.deref.ensures.value ∙ ap (λ (p : Label). room_at p t.path.items) found in
    let taken = c.is_above_last-taken.ensures ∙ ap (λ (p : Label). is_above p t.last) found in
    c.may_enter.ensures ∙ (λ i. may_enter (room i) value (taken i)) ∙ sym (stands_below t es label value next c.requires.inner inner)

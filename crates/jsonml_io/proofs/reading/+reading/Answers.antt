use Rattle.std.proofs.Common.{◌+◌, arith, ap, sym, subst, ◌∙◌}
use Rattle.std.specs.Vec.Iter.{into_iter_items}
use Rattle.serde_json.specs.View.{view, items_view}
use Rattle.jsonml_io.specs.JsonMl.{behind, children}
use Rattle.jsonml_io.specs.inside.Rows.{AreValid}
use Rattle.jsonml_io.proofs.Outcomes.{child_more}
use Rattle.jsonml_io.proofs.Valid.{valid_more}
use Rattle.jsonml_io.proofs.reading.+reading.Goals as goal

pub children_behind-loop-item-preserved : goal.children_behind-loop-item-preserved
children_behind-loop-item-preserved t c =
    let l = c.loop-item in
    let child = c.in_ok-child_at.field-0 in
    let left = items_view (into_iter_items c.next.new.self) in
    let pushed = c.in_ok-push.ensures.ok in
    let more = child_more c.args.left l.index (view c.in-Some.item) left child l.front c.in_ok-child_at.ensures.read in
    let met = ap (λ xs. behind l.front (children c.args.left l.index (items_view xs))) c.in-Some.ensures.steps.0 in (
      tt,
      tt,
      subst AreValid (sym pushed) (valid_more l.front child l.invariant.2 c.in_ok-child_at.ensures.valid),
      omega (arith, l.invariant.3, c.in-Some.ensures.steps.1),
      l.invariant.4 ∙ met ∙ more ∙ ap (λ fs. behind fs (children c.args.left (l.index + 1) left)) (sym pushed),
    )

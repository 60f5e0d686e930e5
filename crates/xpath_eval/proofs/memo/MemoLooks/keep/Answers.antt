use Rattle.std.proofs.Common.{subst, sym}
use Rattle.std.proofs.lemmas.Map.Views.{All-values-insert_entry}
use Rattle.std.specs.List.{All}
use Rattle.std.specs.Map.{values_of}
use Rattle.path_model.specs.PlainPaths.{plain}
use Rattle.xpath_axes.specs.Kept.{holds_at}
use Rattle.xpath_axes.specs.Positions as position
use Rattle.xpath_eval.specs.inside.Memos.{IsAt, IsNoted, IsRightAt}
use Rattle.xpath_eval.proofs.Memos.{one_right}
use Rattle.xpath_eval.proofs.memo.MemoLooks.keep.Goals as goal

pub returns : goal.returns
returns g c = λ t known kept.
    let saw = g.W.Notes.saw in
    let memo = c.args.self.now in
    let e = plain c.args.test.now in
    let stands : IsAt memo.tests c.in-Some.index e = subst (λ xs. IsAt xs c.in-Some.index e) c.as_slice.ensures c.in-Some.ensures in
    let it : IsNoted saw t (holds_at e (position.plain c.in_ok-copy.field-0) c.args.proximity c.args.size) c.args.holds memo.notes =
    subst (λ at. IsNoted saw t (holds_at e (position.plain at) c.args.proximity c.args.size) c.args.holds memo.notes) (sym c.in_ok-copy.ensures) (record { right = kept.right; noted = kept.noted.1 }) in
    let one = one_right saw t memo.tests memo.notes (record { test = c.in-Some.index; at = c.in_ok-copy.field-0; proximity = c.args.proximity; size = c.args.size; holds = c.args.holds }) e stands it in (
      known.0,
      known.1,
      subst (λ es. All (IsRightAt saw t memo.tests memo.notes) (values_of es)) (sym c.in_ok-_before.ensures.entries)
          (All-values-insert_entry _ _ _ (IsRightAt saw t memo.tests memo.notes) _ known.0 one),
    )

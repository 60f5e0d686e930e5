use Rattle.std.proofs.Common.{◌++◌, ◌∷◌, [], take, sym, ap, ◌∙◌, subst, arith}
use Rattle.std.proofs.lemmas.List.{take_more}
use Rattle.lock_table.specs.declared.table.Asked.TheVariants.{Granted, Conflict}
use Rattle.lock_table.specs.Tables.{Answers}
use Rattle.tx_core.specs.inside.Asking.{AreGranted}
use Rattle.tx_core.proofs.Granted.{granted_snoc, granted_same, barred_at}
use Rattle.tx_core.proofs.asking.ask_all.Goals as goal

pub loop-granted-preserved : goal.loop-granted-preserved
loop-granted-preserved c =
    let n = c.loop-granted.granted in
    let qs = c.args.requests.now in
    let q = c.index-requests-granted.result in
    let got : Answers c.loop-granted.table c.args.owner q c.ask_next.new.table Granted = subst (Answers c.loop-granted.table c.args.owner q c.ask_next.new.table) c.in-Ok-Granted.field-0-is c.in-Ok-Granted.ensures.answer in
    record {
      within = omega (arith, c.loop-granted-test.true);
      start = omega (arith, c.reach-ways.ensures.start);
      before = omega (arith, c.reach-ways.ensures.before);
      so_far = subst (λ xs. AreGranted c.args.table.now c.args.owner xs c.ask_next.new.table)
          (ap (λ x. take n qs ++ x ∷ []) c.index-requests-granted.is ∙ sym (take_more qs n q c.loop-granted-test.true))
          (granted_snoc c.args.table.now c.args.owner (take n qs) c.loop-granted.table q c.ask_next.new.table c.loop-granted.invariant.so_far got.0 got.1);
    }

pub returns-in-Ok-Conflict : goal.returns-in-Ok-Conflict
returns-in-Ok-Conflict c =
    let got : Answers c.loop-granted.table c.args.owner c.index-requests-granted.result c.ask_next.new.table (Conflict c.in-Ok-Conflict.holders) = subst (Answers c.loop-granted.table c.args.owner c.index-requests-granted.result c.ask_next.new.table) (c.in-Ok-Conflict.field-0-is ∙ ap Conflict (sym c.in-Ok-Conflict.holders-is)) c.in-Ok-Conflict.ensures.answer in (
      c.index-requests-granted.result,
      barred_at c.args.table.now c.args.owner c.args.requests.now c.loop-granted.table c.ask_next.new.table c.loop-granted.granted c.index-requests-granted.result c.in-Ok-Conflict.holders
          c.loop-granted.invariant.so_far c.loop-granted-test.true c.index-requests-granted.is got.0 got.1 got.2,
    )

pub returns-in-Err : goal.returns-in-Err
returns-in-Err c = (c.loop-granted.invariant.within, granted_same c.args.table.now c.args.owner _ c.loop-granted.table c.ask_next.new.table c.loop-granted.invariant.so_far c.in-Err.ensures.err)

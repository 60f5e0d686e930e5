use Rattle.std.proofs.Common.{rules, ℕ, List, ◌∷◌, sym, ap, ◌∙◌, Some}
use Rattle.std.specs.Prelude.{Option}
use Rattle.atomic_table.specs.Table.{Me, rest}
use Rattle.turn_lock.specs.declared.rule.Known.{Known}
use Rattle.turn_lock.proofs.StepsKept.{taking}
use Rattle.turn_lock.proofs.lock.TurnLock.try_take.Goals as goal

pub compare_exchange-requires : goal.compare_exchange-requires
compare_exchange-requires g c = (search rules, search rules, taking _ _ _ _ _ c.pass.invariant.0.2)

pub exchange-slot-requires : goal.exchange-slot-requires
exchange-slot-requires g c = let t = c.compare_exchange.ensures.2.0 (search rules) in
    let p = ap (λ (m : Me (Option g.row.V.Denot) (Known g.row.V-Entry.Denot)). m.1) t.1 in
    (search rules, (Some t.0, p ∙ ap (λ (l : List (ℕ × Option g.row.V.Denot)). (0, Some t.0) ∷ rest l) (sym p)))

use Rattle.std.proofs.Common.{rules, ◌∙◌, List, Bool, ap, sym, refl, subst}
use Rattle.turn_lock.specs.Turns.{GrewBy}
use Rattle.turn_lock.proofs.StepsKept.{marking}
use Rattle.turn_lock.proofs.PassesKept.{freeing_after, pass_given}
use Rattle.turn_lock.proofs.lock.TurnLock.give.Goals as goal

pub compare_exchange_with-requires : goal.compare_exchange_with-requires
compare_exchange_with-requires g c = (
  search rules,
  search rules,
  marking _ _ _ _ _ _ _ c.args.turn.value (ap (λ p. p.turn) c.pass.view_is ∙ c.requires.turn) c.pass.invariant.1
      (subst (λ (z : List Bool × List g.row.V-Entry.Denot). GrewBy g.V.Grows.number z.0 z.1 (g.V.Grows.entries c.args.turn.value)) (λ i. (sym (ap (λ p. p.has) c.pass.view_is) i, sym (ap (λ p. p.seen) c.pass.view_is) i)) c.requires.grew)
      (search rules),
)

pub store-requires : goal.store-requires
store-requires g c = let t = ap (λ p. p.turn) c.pass.view_is ∙ c.requires.turn in (
  search rules,
  search rules,
  freeing_after _ _ _ c.self.invariant.1 _ _ _ c.pass.inside.seat.me c.args.turn.value c.exchange-before.ensures.3 (c.compare_exchange_with.ensures.2 c.args.turn.value refl) (c.pass.invariant.0.4 t) t,
)

pub invariant_of-pass : goal.invariant_of-pass
invariant_of-pass g c = pass_given g.V.Grows.entries g.V.Grows.number _ c.pass.inside.seat.me _ _ _ c.args.turn.value _ c.pass.invariant.0 (ap (λ p. p.turn) c.pass.view_is ∙ c.requires.turn)
    (c.compare_exchange_with.ensures.2 c.args.turn.value refl) c.exchange-before.ensures.3 c.store.ensures.2 (search rules)

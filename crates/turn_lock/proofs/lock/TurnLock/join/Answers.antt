use Rattle.std.proofs.Common.{rules, ◌∙◌, ap, subst, sym, refl}
use Rattle.turn_lock.specs.Turns.{longer, merged, having_seen, having_numbers}
use Rattle.turn_lock.specs.Steps.{IsPass, echo, joined}
use Rattle.turn_lock.proofs.StepsKept.{joining, recalling}
use Rattle.turn_lock.proofs.Numbers.{merged_none}
use Rattle.turn_lock.proofs.PassesKept.{pass_joined, pass_met, then_joined, either_goes, goes_on_seen, other_goes_on_seen, counts_longer}
use Rattle.turn_lock.proofs.lock.TurnLock.join.Goals as goal

pub load-pass-inside-requires : goal.load-pass-inside-requires
load-pass-inside-requires g c = (search rules, search rules, recalling _ _ _ _ _)

pub join_seat-requires : goal.join_seat-requires
join_seat-requires g c = let e = c.load-pass-inside.ensures.2.0 ∙ c.tell.ensures.joined in
    let free = ap (λ p. p.turn) c.other.view_is ∙ c.requires.turn.1 in (
      search rules,
      search rules,
      ap (λ m. m.1) e ∙ c.other.invariant.0.3 free,
      search rules,
      joining _ _ _ _ _ _ (ap (λ m. m.0.turn) c.tell.ensures.kept.1 ∙ (ap (λ p. p.turn) c.pass.view_is ∙ c.requires.turn.0)) (ap (λ m. m.0.turn) e ∙ free),
    )

pub load-pass-inside-requires-2 : goal.load-pass-inside-requires-2
load-pass-inside-requires-2 g c = (search rules, search rules, recalling _ _ _ _ _)

pub invariant_of-pass : goal.invariant_of-pass
invariant_of-pass g c = let told = then_joined c.pass.inside.seat.me _ _ c.other.inside.seat.me _ c.tell.ensures.kept.1 (c.load-pass-inside.ensures.2.0 ∙ c.tell.ensures.joined) c.join_seat.ensures.2 in
    let x = either_goes g.V.Grows.entries g.V.Grows.number c.pass.inside.seat.me c.other.inside.seat.me _ _ c.load-pass-inside-2.new.seat.me (joined c.other.inside.seat.me.0 (echo c.pass.inside.seat.me.0)) refl told c.tell.ensures.joined c.load-pass-inside-2.ensures.2.0 c.load-pass-inside-2.ensures.2.1 c.load-pass-inside.ensures.2.1 in (
      pass_joined _ _ _ c.tell.new.seat.me c.load-pass-inside.new.seat.me _ (subst (IsPass _) (sym c.tell.ensures.kept.1) c.pass.invariant.0)
          (pass_met _ c.other.inside.seat.me _ c.pass.inside.seat.me.0 c.other.invariant.0 (c.load-pass-inside.ensures.2.0 ∙ c.tell.ensures.joined)) c.add_numbers.ensures (c.load-pass-inside-2.ensures.2.0 ∙ c.join_seat.ensures.2),
      counts_longer _ _ _ _ _ _ c.pass.invariant.1 c.other.invariant.1 c.longer_count-pass-inside.ensures x.0,
    )

pub returns-clause-pass : goal.returns-clause-pass
returns-clause-pass g c = let told = then_joined c.pass.inside.seat.me _ _ c.other.inside.seat.me _ c.tell.ensures.kept.1 (c.load-pass-inside.ensures.2.0 ∙ c.tell.ensures.joined) c.join_seat.ensures.2 in
    let whole = c.load-pass-inside-2.ensures.2.0 ∙ told in
    let x = either_goes g.V.Grows.entries g.V.Grows.number c.pass.inside.seat.me c.other.inside.seat.me _ _ c.load-pass-inside-2.new.seat.me (joined c.other.inside.seat.me.0 (echo c.pass.inside.seat.me.0)) refl told c.tell.ensures.joined c.load-pass-inside-2.ensures.2.0 c.load-pass-inside-2.ensures.2.1 c.load-pass-inside.ensures.2.1 in
    let lock = c.load-pass-inside-2.ensures.0 ∙ (c.join_seat.ensures.0 ∙ c.tell.ensures.kept.0) in
    let has = ap (λ m. m.0.has) whole ∙ ap (merged c.pass.inside.seat.me.0.has) (merged_none _ c.other.invariant.0.1) in
    (λ i. record { lock = lock i; seen = x.0 i; has = has i; turn = (whole i).0.turn })
    ∙ (λ i. having_numbers (merged (c.pass.view_is i).has (c.other.view_is i).has) (having_seen (longer (c.pass.view_is i).seen (c.other.view_is i).seen) (c.pass.view_is i)))

pub returns-clause-goes_on : goal.returns-clause-goes_on
returns-clause-goes_on g c = let told = then_joined c.pass.inside.seat.me _ _ c.other.inside.seat.me _ c.tell.ensures.kept.1 (c.load-pass-inside.ensures.2.0 ∙ c.tell.ensures.joined) c.join_seat.ensures.2 in
    let x = either_goes g.V.Grows.entries g.V.Grows.number c.pass.inside.seat.me c.other.inside.seat.me _ _ c.load-pass-inside-2.new.seat.me (joined c.other.inside.seat.me.0 (echo c.pass.inside.seat.me.0)) refl told c.tell.ensures.joined c.load-pass-inside-2.ensures.2.0 c.load-pass-inside-2.ensures.2.1 c.load-pass-inside.ensures.2.1 in
    goes_on_seen g.V.Grows.number _ _ _ _ c.pass.view_is c.other.view_is x.1

pub returns-clause-other_goes_on : goal.returns-clause-other_goes_on
returns-clause-other_goes_on g c = let told = then_joined c.pass.inside.seat.me _ _ c.other.inside.seat.me _ c.tell.ensures.kept.1 (c.load-pass-inside.ensures.2.0 ∙ c.tell.ensures.joined) c.join_seat.ensures.2 in
    let x = either_goes g.V.Grows.entries g.V.Grows.number c.pass.inside.seat.me c.other.inside.seat.me _ _ c.load-pass-inside-2.new.seat.me (joined c.other.inside.seat.me.0 (echo c.pass.inside.seat.me.0)) refl told c.tell.ensures.joined c.load-pass-inside-2.ensures.2.0 c.load-pass-inside-2.ensures.2.1 c.load-pass-inside.ensures.2.1 in
    other_goes_on_seen g.V.Grows.number _ _ _ _ c.pass.view_is c.other.view_is x.2

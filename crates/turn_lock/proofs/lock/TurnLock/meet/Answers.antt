use Rattle.std.proofs.Common.{rules, ◌∙◌, ap, sym, refl, length}
use Rattle.turn_lock.specs.Turns.{longer, having_seen}
use Rattle.turn_lock.specs.Steps.{echo, joined, went_back}
use Rattle.turn_lock.proofs.StepsKept.{returning, recalling}
use Rattle.turn_lock.proofs.Numbers.{merged_none}
use Rattle.turn_lock.proofs.PassesKept.{pass_met, pass_back, both_told, had_all, either_goes, goes_on_seen, other_goes_on_seen, counts_longer}
use Rattle.turn_lock.proofs.lock.TurnLock.meet.Goals as goal

pub load-pass-inside-requires : goal.load-pass-inside-requires
load-pass-inside-requires g c = let e = c.tell-2.ensures.kept.1 ∙ c.tell.ensures.joined in (
  search rules,
  search rules,
  returning _ _ _ _ _ (ap (λ m. m.0.turn) e ∙ (ap (λ p. p.turn) c.other.view_is ∙ c.requires.turn.1)) (had_all _ c.other.inside.seat.me _ c.pass.inside.seat.me.0 c.other.invariant.0 e),
)

pub load-pass-inside-requires-2 : goal.load-pass-inside-requires-2
load-pass-inside-requires-2 g c = (search rules, search rules, recalling _ _ _ _ _)

pub invariant_of-pass : goal.invariant_of-pass
invariant_of-pass g c = let told = both_told c.pass.inside.seat.me _ _ c.other.inside.seat.me _ c.tell.ensures.kept.1 c.tell.ensures.joined c.tell-2.ensures.joined in
    let x = either_goes g.V.Grows.entries g.V.Grows.number c.pass.inside.seat.me c.other.inside.seat.me _ _ c.load-pass-inside-2.new.seat.me (echo (joined c.other.inside.seat.me.0 (echo c.pass.inside.seat.me.0))) refl told (c.tell-2.ensures.kept.1 ∙ c.tell.ensures.joined) c.load-pass-inside-2.ensures.2.0 c.load-pass-inside-2.ensures.2.1 c.load-pass-inside.ensures.2.1 in (
      pass_met _ c.pass.inside.seat.me _ (joined c.other.inside.seat.me.0 (echo c.pass.inside.seat.me.0)) c.pass.invariant.0 (c.load-pass-inside-2.ensures.2.0 ∙ told),
      counts_longer _ _ _ _ _ _ c.pass.invariant.1 c.other.invariant.1 c.longer_count-pass-inside.ensures x.0,
    )

pub invariant_of-other : goal.invariant_of-other
invariant_of-other g c = let e = c.tell-2.ensures.kept.1 ∙ c.tell.ensures.joined in let whole = c.load-pass-inside.ensures.2.0 ∙ (λ i. (went_back (e i).0, (e i).1)) in (
  pass_back _ c.other.inside.seat.me _ c.pass.inside.seat.me.0 c.other.invariant.0 whole,
  c.other.invariant.1 ∙ ap length (sym (ap (λ m. m.0.seen) whole)),
)

pub returns-clause-pass : goal.returns-clause-pass
returns-clause-pass g c = let told = both_told c.pass.inside.seat.me _ _ c.other.inside.seat.me _ c.tell.ensures.kept.1 c.tell.ensures.joined c.tell-2.ensures.joined in
    let whole = c.load-pass-inside-2.ensures.2.0 ∙ told in
    let x = either_goes g.V.Grows.entries g.V.Grows.number c.pass.inside.seat.me c.other.inside.seat.me _ _ c.load-pass-inside-2.new.seat.me (echo (joined c.other.inside.seat.me.0 (echo c.pass.inside.seat.me.0))) refl told (c.tell-2.ensures.kept.1 ∙ c.tell.ensures.joined) c.load-pass-inside-2.ensures.2.0 c.load-pass-inside-2.ensures.2.1 c.load-pass-inside.ensures.2.1 in
    let lock = c.load-pass-inside-2.ensures.0 ∙ (c.tell-2.ensures.kept.2 ∙ c.tell.ensures.kept.0) in
    let has = ap (λ m. m.0.has) whole ∙ merged_none _ c.pass.invariant.0.1 in
    (λ i. record { lock = lock i; seen = x.0 i; has = has i; turn = (whole i).0.turn }) ∙ (λ i. having_seen (longer (c.pass.view_is i).seen (c.other.view_is i).seen) (c.pass.view_is i))

pub returns-clause-goes_on : goal.returns-clause-goes_on
returns-clause-goes_on g c = let told = both_told c.pass.inside.seat.me _ _ c.other.inside.seat.me _ c.tell.ensures.kept.1 c.tell.ensures.joined c.tell-2.ensures.joined in
    let x = either_goes g.V.Grows.entries g.V.Grows.number c.pass.inside.seat.me c.other.inside.seat.me _ _ c.load-pass-inside-2.new.seat.me (echo (joined c.other.inside.seat.me.0 (echo c.pass.inside.seat.me.0))) refl told (c.tell-2.ensures.kept.1 ∙ c.tell.ensures.joined) c.load-pass-inside-2.ensures.2.0 c.load-pass-inside-2.ensures.2.1 c.load-pass-inside.ensures.2.1 in
    goes_on_seen g.V.Grows.number _ _ _ _ c.pass.view_is c.other.view_is x.1

pub returns-clause-other_goes_on : goal.returns-clause-other_goes_on
returns-clause-other_goes_on g c = let told = both_told c.pass.inside.seat.me _ _ c.other.inside.seat.me _ c.tell.ensures.kept.1 c.tell.ensures.joined c.tell-2.ensures.joined in
    let x = either_goes g.V.Grows.entries g.V.Grows.number c.pass.inside.seat.me c.other.inside.seat.me _ _ c.load-pass-inside-2.new.seat.me (echo (joined c.other.inside.seat.me.0 (echo c.pass.inside.seat.me.0))) refl told (c.tell-2.ensures.kept.1 ∙ c.tell.ensures.joined) c.load-pass-inside-2.ensures.2.0 c.load-pass-inside-2.ensures.2.1 c.load-pass-inside.ensures.2.1 in
    other_goes_on_seen g.V.Grows.number _ _ _ _ c.pass.view_is c.other.view_is x.2

pub returns-clause-other : goal.returns-clause-other
returns-clause-other g c = let e = c.tell-2.ensures.kept.1 ∙ c.tell.ensures.joined in let whole = c.load-pass-inside.ensures.2.0 ∙ (λ i. (went_back (e i).0, (e i).1)) in
    let lock = c.load-pass-inside.ensures.0 ∙ (c.tell-2.ensures.kept.0 ∙ c.tell.ensures.kept.2) in
    (λ i. record { lock = lock i; seen = (whole i).0.seen; has = (whole i).0.has; turn = (whole i).0.turn }) ∙ c.other.view_is

use Rattle.std.proofs.Common.{[], rules, ◌∙◌, ap, sym, subst, set, false, ◌<◌, ℕ, length}
use Rattle.turn_lock.specs.Turns.{has_number, HasSome}
use Rattle.turn_lock.specs.Steps.{IsPass, left_over, cut_off}
use Rattle.turn_lock.proofs.StepsKept.{picking, cutting}
use Rattle.turn_lock.proofs.PassesKept.{number_fits, pass_cut, new_pass, M}
use Rattle.turn_lock.proofs.lock.TurnLock.split.Goals as goal

pub take_out-requires : goal.take_out-requires
take_out-requires g c = number_fits _ c.pass.inside.seat.me _ c.pass.invariant.0 (ap (λ p. has_number p.has c.args.number) c.pass.view_is ∙ c.requires.number)

pub compare_exchange-requires : goal.compare_exchange-requires
compare_exchange-requires g c = (search rules, search rules, picking _ _ _ _ _ _)

pub split_seat-seat-requires : goal.split_seat-seat-requires
split_seat-seat-requires g c = let e = c.compare_exchange.ensures.2 in let n = ap (λ p. has_number p.has c.args.number) c.pass.view_is ∙ c.requires.number in (
  search rules,
  search rules,
  cutting _ _ _ _
      (ap (λ m. m.0.turn) e ∙ (ap (λ p. p.turn) c.pass.view_is ∙ c.requires.turn))
      (subst (λ (k : ℕ). k < 65) (sym (ap (λ m. m.0.picked) e)) (number_fits _ c.pass.inside.seat.me _ c.pass.invariant.0 n))
      ((λ i. has_number (ap (λ m. m.0.has) e i) (ap (λ m. m.0.picked) e i)) ∙ n),
)

pub invariant_of-pass : goal.invariant_of-pass
invariant_of-pass g c = let whole = c.split_seat-seat.ensures.2 ∙ ap (λ (m : M g.row.V.Denot g.row.V-Entry.Denot). (left_over m.0, m.1)) c.compare_exchange.ensures.2 in (
  subst (λ b. IsPass b c.split_seat-seat.new.seat.me) (sym c.take_out.ensures)
      (pass_cut _ c.pass.inside.seat.me _ c.args.number c.pass.invariant.0 (ap (λ p. p.turn) c.pass.view_is ∙ c.requires.turn) (subst (λ b. HasSome (set b c.args.number false)) (sym (ap (λ p. p.has) c.pass.view_is)) c.requires.another) whole),
  c.pass.invariant.1 ∙ ap length (sym (ap (λ m. m.0.seen) whole)),
)

pub invariant_of-result : goal.invariant_of-result
invariant_of-result g c = let whole = c.split_seat-seat.ensures.4 ∙ ap (λ (m : M g.row.V.Denot g.row.V-Entry.Denot). (cut_off m.0, [])) c.compare_exchange.ensures.2 in (
  subst (λ b. IsPass b c.split_seat-seat.result.me) (sym c.number_alone.ensures)
      (new_pass c.pass.inside.seat.me.0 _ c.args.number (number_fits _ c.pass.inside.seat.me _ c.pass.invariant.0 (ap (λ p. has_number p.has c.args.number) c.pass.view_is ∙ c.requires.number)) whole),
  c.pass.invariant.1 ∙ ap length (sym (ap (λ m. m.0.seen) whole)),
)

pub returns-clause-fits : goal.returns-clause-fits
returns-clause-fits g c = number_fits _ c.pass.inside.seat.me _ c.pass.invariant.0 (ap (λ p. has_number p.has c.args.number) c.pass.view_is ∙ c.requires.number)

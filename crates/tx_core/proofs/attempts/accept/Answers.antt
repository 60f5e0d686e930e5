use Rattle.tx_core.proofs.PassedOn.{laid_passed, passed_on, seen_same, own_again}
use Rattle.std.proofs.Common.{refl, sym, ◌∙◌, None}
use Rattle.std.specs.Ordering.{nat_cmp}
use Rattle.std.specs.BTreeMap as tree
use Rattle.tx_core.specs.inside.Standing.{seat_in}
use Rattle.tx_core.proofs.Reached.{accepted, taken_again}
use Rattle.tx_core.proofs.attempts.accept.Goals as goal

pub returns-in-Ok-clause-ok : goal.returns-in-Ok-clause-ok
returns-in-Ok-clause-ok g c =
    let p = c.args.parts.now in
    let s = c.args.session in
    record {
      each = accepted g.C.TreeCall.is_valid g.C.TreeCall.meaning g.B.NodeRead.contents g.met.C.TreeCall.laws p _ s c.in-Some.seat c.lay_own.new.own c.args.outcome.changes
          (sym c.in-Some.ensures.seat) c.in-Ok.ensures.changes c.in-Ok.ensures.effect
          (taken_again s (record { own = c.lay_own.new.own; waiting = _ }) (λ o. seat_in (tree.get nat_cmp p.places o)) (λ o. seat_in (tree.get nat_cmp c.unseat.new.places o)) (λ o. seat_in (tree.get nat_cmp c.seat_again.new.places o)) c.unseat.ensures.seats c.seat_again.ensures.seats)
          (λ o. c.seat_again.ensures.ordinals o ∙ c.unseat.ensures.ordinals o)
          (record { base = refl; layers = refl; opened = refl; limit = refl; number = refl }) refl refl c.stop.ensures.waits refl;
    }

pub returns-in-Ok-clause-passed : goal.returns-in-Ok-clause-passed
returns-in-Ok-clause-passed g c =
    let p = c.args.parts.now in
    let s = c.args.session in
    laid_passed g.B.NodeRead.contents p (record p { places = c.seat_again.new.places; passed = c.lay_own.new.passed }) s c.in-Some.seat (record { own = c.lay_own.new.own; waiting = None }) c.args.outcome.changes (sym c.in-Some.ensures.seat)
    (taken_again s (record { own = c.lay_own.new.own; waiting = None }) (λ o. seat_in (tree.get nat_cmp p.places o)) (λ o. seat_in (tree.get nat_cmp c.unseat.new.places o)) (λ o. seat_in (tree.get nat_cmp c.seat_again.new.places o)) c.unseat.ensures.seats c.seat_again.ensures.seats)
    refl refl c.faults-faults.ensures.in_order c.requires.rise.rise c.in-Ok.ensures.effect c.lay_own.ensures.fewer c.in-Ok.ensures.out

pub returns-in-Err-clause-passed : goal.returns-in-Err-clause-passed
returns-in-Err-clause-passed g c =
    let p = c.args.parts.now in
    let s = c.args.session in
    passed_on g.B.NodeRead.contents p (record p { places = c.seat_again-in-Err.new.places; passed = c.lay_own.new.passed }) (seen_same g.B.NodeRead.contents p (record p { places = c.seat_again-in-Err.new.places; passed = c.lay_own.new.passed })
    (own_again s c.in-Some.seat (record { own = c.lay_own.new.own; waiting = c.in-Some.seat.waiting }) (λ o. seat_in (tree.get nat_cmp p.places o)) (λ o. seat_in (tree.get nat_cmp c.seat_again-in-Err.new.places o)) (sym c.in-Some.ensures.seat)
    (taken_again s (record { own = c.lay_own.new.own; waiting = c.in-Some.seat.waiting }) (λ o. seat_in (tree.get nat_cmp p.places o)) (λ o. seat_in (tree.get nat_cmp c.unseat.new.places o)) (λ o. seat_in (tree.get nat_cmp c.seat_again-in-Err.new.places o)) c.unseat.ensures.seats c.seat_again-in-Err.ensures.seats) c.in-Err.ensures.err) refl) c.lay_own.ensures.fewer

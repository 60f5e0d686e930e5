use Rattle.tx_core.proofs.PassedOn.{passed_on, seen_same, own_again}
use Rattle.std.proofs.Common.{refl, sym, ◌∙◌, None}
use Rattle.std.specs.Ordering.{nat_cmp}
use Rattle.std.specs.BTreeMap as tree
use Rattle.tx_core.specs.inside.Standing.{seat_in}
use Rattle.tx_core.specs.declared.parts.Seat.{Seat}
use Rattle.tx_core.proofs.Reached.{taken_again}
use Rattle.tx_core.proofs.Told.{wait_put}
use Rattle.tx_core.proofs.Rested.{put_at_rest}
use Rattle.tx_core.proofs.later_failures.cease.Goals as goal

pub returns-clause-state : goal.returns-clause-state
returns-clause-state g c =
    let p = c.args.parts.now in
    let s = c.args.session in
    put_at_rest g.C.TreeCall.is_valid g.C.TreeCall.meaning g.B.NodeRead.contents p _ s c.in-Some.seat
    (sym c.in-Some.ensures.seat)
    (taken_again s (record { own = c.in-Some.seat.own; waiting = None }) (λ o. seat_in (tree.get nat_cmp p.places o)) (λ o. seat_in (tree.get nat_cmp c.unseat.new.places o)) (λ o. seat_in (tree.get nat_cmp c.seat_again.new.places o)) c.unseat.ensures.seats c.seat_again.ensures.seats)
    (λ o. c.seat_again.ensures.ordinals o ∙ c.unseat.ensures.ordinals o)
    (record { base = refl; layers = refl; opened = refl; limit = refl; number = refl }) refl refl c.stop.ensures.waits c.stop_waiting.ensures

pub returns-clause-waits : goal.returns-clause-waits
returns-clause-waits g c =
    let p = c.args.parts.now in
    let s = c.args.session in
    let seat : Seat = record { own = c.in-Some.seat.own; waiting = None } in
    let seats = taken_again s seat (λ o. seat_in (tree.get nat_cmp p.places o)) (λ o. seat_in (tree.get nat_cmp c.unseat.new.places o)) (λ o. seat_in (tree.get nat_cmp c.seat_again.new.places o)) c.unseat.ensures.seats c.seat_again.ensures.seats in
    wait_put s seat (λ o. seat_in (tree.get nat_cmp p.places o)) (λ o. seat_in (tree.get nat_cmp c.seat_again.new.places o)) seats

pub returns-clause-ordinals : goal.returns-clause-ordinals
returns-clause-ordinals g c = λ o. c.seat_again.ensures.ordinals o ∙ c.unseat.ensures.ordinals o

pub returns-clause-passed : goal.returns-clause-passed
returns-clause-passed g c =
    let p = c.args.parts.now in
    let s = c.args.session in
    passed_on g.B.NodeRead.contents p (record p { places = c.seat_again.new.places }) (seen_same g.B.NodeRead.contents p (record p { places = c.seat_again.new.places })
    (own_again s c.in-Some.seat (record { own = c.in-Some.seat.own; waiting = None }) (λ o. seat_in (tree.get nat_cmp p.places o)) (λ o. seat_in (tree.get nat_cmp c.seat_again.new.places o)) (sym c.in-Some.ensures.seat)
    (taken_again s (record { own = c.in-Some.seat.own; waiting = None }) (λ o. seat_in (tree.get nat_cmp p.places o)) (λ o. seat_in (tree.get nat_cmp c.unseat.new.places o)) (λ o. seat_in (tree.get nat_cmp c.seat_again.new.places o)) c.unseat.ensures.seats c.seat_again.ensures.seats) refl) refl) (λ o j h. h)

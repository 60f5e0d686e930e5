use Rattle.tx_core.proofs.PassedOn.{passed_on, seen_same, own_again}
use Rattle.std.proofs.Common.{refl, sym, ap, arith, ◌∙◌, ◌++◌, ◌∷◌, [], length, ◌+◌, ◌≤◌, vec_capacity, Some, cond, ◌==◌, ℕ, Option}
use Rattle.std.specs.Ordering.{nat_cmp}
use Rattle.std.specs.BTreeMap as tree
use Rattle.tx_core.specs.inside.Standing.{seat_in}
use Rattle.tx_core.specs.declared.parts.Seat.{Seat}
use Rattle.tx_core.specs.inside.Sessions.{wait_in}
use Rattle.tx_core.specs.inside.Goes.{call_entry}
use Rattle.tx_core.proofs.Booked.{longer}
use Rattle.tx_core.proofs.Told.{seated_waits, wait_put}
use Rattle.tx_core.proofs.Reached.{put_waiting, taken_again}
use Rattle.tx_core.proofs.waits.set_waiting.Goals as goal

pub returns-clause-state : goal.returns-clause-state
returns-clause-state g c =
    let p = c.args.parts.now in
    let s = c.args.session in
    λ st t. put_waiting g.C.TreeCall.is_valid g.C.TreeCall.meaning g.B.NodeRead.contents p _ s c.len-entry.result c.in-Some.seat c.args.request
    (sym c.in-Some.ensures.seat)
    (taken_again s (record { own = c.in-Some.seat.own; waiting = Some c.len-entry.result }) (λ o. seat_in (tree.get nat_cmp p.places o)) (λ o. seat_in (tree.get nat_cmp c.unseat.new.places o)) (λ o. seat_in (tree.get nat_cmp c.seat_again.new.places o)) c.unseat.ensures.seats c.seat_again.ensures.seats)
    (λ o. c.seat_again.ensures.ordinals o ∙ c.unseat.ensures.ordinals o)
    (record { base = refl; layers = refl; opened = refl; limit = refl; number = refl }) refl refl c.wait.ensures.waits c.enqueue.ensures st t c.args.call

pub returns-clause-seated : goal.returns-clause-seated
returns-clause-seated g c =
    let p = c.args.parts.now in
    let s = c.args.session in
    let at = c.len-entry.ensures ∙ p.book.ok.0 in
    let seat : Seat = record { own = c.in-Some.seat.own; waiting = Some c.len-entry.result } in
    let room : length c.note.new.book.items + p.live + length c.enqueue.new.waiting.items + 0 ≤ vec_capacity c.note.new.book =
    omega (arith, ap length c.note.ensures.book, longer p.book.items (call_entry s c.args.call c.args.noted), ap length c.enqueue.ensures, longer p.waiting.items s, c.requires.book_room, c.note.ensures.capacity) in
    let seats = taken_again s seat (λ o. seat_in (tree.get nat_cmp p.places o)) (λ o. seat_in (tree.get nat_cmp c.unseat.new.places o)) (λ o. seat_in (tree.get nat_cmp c.seat_again.new.places o)) c.unseat.ensures.seats c.seat_again.ensures.seats in
    seated_waits p _ s c.args.call c.args.request c.requires.noted.0 c.requires.seated c.requires.ready (record { ordinals = λ o. c.seat_again.ensures.ordinals o ∙ c.unseat.ensures.ordinals o; opened = refl; limit = refl; begun = refl; prepared = refl })
    (λ o. wait_put s seat (λ o. seat_in (tree.get nat_cmp p.places o)) (λ o. seat_in (tree.get nat_cmp c.seat_again.new.places o)) seats o ∙ ap (λ (k : ℕ). cond {A = Option (Option ℕ)} (s == o) (Some (Some k)) (wait_in (tree.get nat_cmp p.places o))) at)
    c.enqueue.ensures refl refl (c.note.ensures.book ∙ ap (λ a. p.book.items ++ call_entry s c.args.call a ∷ []) c.requires.noted.1) room refl

pub returns-clause-passed : goal.returns-clause-passed
returns-clause-passed g c =
    let p = c.args.parts.now in
    let s = c.args.session in
    passed_on g.B.NodeRead.contents p (record p { places = c.seat_again.new.places }) (seen_same g.B.NodeRead.contents p (record p { places = c.seat_again.new.places })
    (own_again s c.in-Some.seat (record { own = c.in-Some.seat.own; waiting = Some c.len-entry.result }) (λ o. seat_in (tree.get nat_cmp p.places o)) (λ o. seat_in (tree.get nat_cmp c.seat_again.new.places o)) (sym c.in-Some.ensures.seat)
    (taken_again s (record { own = c.in-Some.seat.own; waiting = Some c.len-entry.result }) (λ o. seat_in (tree.get nat_cmp p.places o)) (λ o. seat_in (tree.get nat_cmp c.unseat.new.places o)) (λ o. seat_in (tree.get nat_cmp c.seat_again.new.places o)) c.unseat.ensures.seats c.seat_again.ensures.seats) refl) refl) (λ o j h. h)

use Rattle.std.proofs.Common.{refl, ap, length, arith, ◌+◌, ◌≤◌, vec_capacity}
use Rattle.tx_core.specs.inside.Goes.{fail_entry}
use Rattle.tx_core.proofs.Booked.{longer, length_without}
use Rattle.tx_core.proofs.Told.{seated_fails}
use Rattle.tx_core.proofs.failures.fail.Goals as goal

pub returns-clause-seated : goal.returns-clause-seated
returns-clause-seated g c =
    let p = c.args.parts.now in
    let s = c.args.session in
    let room : length c.note.new.book.items + p.live + length c.stop_waiting.new.waiting.items + 0 ≤ vec_capacity c.note.new.book =
    omega (arith, ap length c.note.ensures.book, longer p.book.items (fail_entry s c.args.call c.args.grants c.args.faults), ap length c.stop_waiting.ensures, length_without s p.waiting.items, c.requires.room, c.note.ensures.capacity) in
    seated_fails p _ s c.args.call c.args.grants c.args.faults c.requires.seated c.requires.ready (record { ordinals = λ o. refl; opened = refl; limit = refl; begun = refl; prepared = refl })
    refl c.stop_waiting.ensures refl refl c.note.ensures.book room refl

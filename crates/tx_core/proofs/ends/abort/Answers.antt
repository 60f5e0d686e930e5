use Rattle.tx_core.proofs.PassedOn.{ended_passed}
use Rattle.std.proofs.Common.{refl, sym, ap, arith}
use Rattle.std.specs.Ordering.{nat_cmp}
use Rattle.std.specs.BTreeMap as tree
use Rattle.tx_core.specs.inside.Standing.{seat_in}
use Rattle.tx_core.specs.inside.Sessions.{wait_of}
use Rattle.tx_core.specs.Refusals.{refused_abort}
use Rattle.tx_core.proofs.Moves.{abort_goes}
use Rattle.tx_core.proofs.Told.{seated_aborts, wait_out, live_one, told_live}
use Rattle.tx_core.proofs.ends.abort.Goals as goal

pub returns-clause-ok : goal.returns-clause-ok
returns-clause-ok g c =
    abort_goes g.C.TreeCall.is_valid g.C.TreeCall.meaning g.B.NodeRead.contents c.args.parts.now _ c.args.session c.in-Some._seat.now
    (sym c.in-Some.ensures) c.unseat.ensures.seats c.unseat.ensures.ordinals
    (record { base = refl; layers = refl; opened = refl; limit = refl; number = refl }) refl c.release_all.ensures c.stop.ensures.waits c.stop_waiting.ensures refl
    c.note.ensures.book

pub returns-clause-refused : goal.returns-clause-refused
returns-clause-refused g c =
    sym (ap refused_abort (told_live c.args.parts.now c.args.session _ c.requires (ap wait_of (sym c.in-Some.ensures))).1)

pub returns-clause-seated : goal.returns-clause-seated
returns-clause-seated g c =
    let p = c.args.parts.now in
    let s = c.args.session in
    let there = ap wait_of (sym c.in-Some.ensures) in
    seated_aborts p _ s _ c.requires there (record { ordinals = c.unseat.ensures.ordinals; opened = refl; limit = refl; begun = refl; prepared = refl })
    (wait_out s (λ o. seat_in (tree.get nat_cmp p.places o)) (λ o. seat_in (tree.get nat_cmp c.unseat.new.places o)) c.unseat.ensures.seats) c.stop_waiting.ensures refl
    (omega (arith, live_one p s _ c.requires there)) c.note.ensures.book c.note.ensures.capacity refl

pub note-requires : goal.note-requires
note-requires g c = omega (arith, c.requires.room, live_one c.args.parts.now c.args.session _ c.requires (ap wait_of (sym c.in-Some.ensures)))

pub returns-clause-passed : goal.returns-clause-passed
returns-clause-passed g c = ended_passed g.B.NodeRead.contents c.args.parts.now (record c.args.parts.now { places = c.unseat.new.places; passed = c.end_passed.new.passed }) c.args.session c.unseat.ensures.seats refl refl c.end_passed.ensures.fewer c.end_passed.ensures.out

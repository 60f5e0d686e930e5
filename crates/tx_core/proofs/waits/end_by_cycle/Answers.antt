use Rattle.tx_core.proofs.PassedOn.{ended_passed}
use Rattle.std.proofs.Common.{refl, arith, ap, ◌∙◌, ◌++◌, ◌∷◌, [], List, ℕ}
use Rattle.call_contract.specs.declared.events.Answer.TheVariants.{Deadlock}
use Rattle.tx_core.specs.inside.Goes.{call_entry}
use Rattle.std.specs.Ordering.{nat_cmp}
use Rattle.std.specs.BTreeMap as tree
use Rattle.tx_core.specs.inside.Standing.{seat_in}
use Rattle.tx_core.proofs.Moves.{stands_ended}
use Rattle.tx_core.proofs.Told.{seated_closes, wait_out, live_one}
use Rattle.tx_core.proofs.waits.end_by_cycle.Goals as goal

pub returns-clause-ok : goal.returns-clause-ok
returns-clause-ok g c =
    let p = c.args.parts.now in
    let s = c.args.session in
    record {
      book = c.note.ensures.book ∙ ap (λ (r : List ℕ). p.book.items ++ call_entry s c.args.call (Deadlock r) ∷ []) c.in-Ok.ensures;
      prepared = refl;
      cycle = c.args.cycle;
      is = refl;
      closes = c.requires.closes;
      state = stands_ended g.C.TreeCall.is_valid g.C.TreeCall.meaning g.B.NodeRead.contents p _ s c.unseat-seat.ensures.seats c.unseat-seat.ensures.ordinals
          (record { base = refl; layers = refl; opened = refl; limit = refl; number = refl }) refl c.release_all.ensures c.stop.ensures.waits c.stop_waiting.ensures;
    }

pub returns-clause-seated : goal.returns-clause-seated
returns-clause-seated g c =
    let p = c.args.parts.now in
    let s = c.args.session in
    seated_closes p _ s c.args.call _ _ c.requires.seated c.requires.ready (record { ordinals = c.unseat-seat.ensures.ordinals; opened = refl; limit = refl; begun = refl; prepared = refl })
    (wait_out s (λ o. seat_in (tree.get nat_cmp p.places o)) (λ o. seat_in (tree.get nat_cmp c.unseat-seat.new.places o)) c.unseat-seat.ensures.seats) c.stop_waiting.ensures refl
    (omega (arith, live_one p s _ c.requires.seated c.requires.ready)) c.note.ensures.book c.note.ensures.capacity refl

pub returns-clause-passed : goal.returns-clause-passed
returns-clause-passed g c = ended_passed g.B.NodeRead.contents c.args.parts.now (record c.args.parts.now { places = c.unseat-seat.new.places; passed = c.end_passed.new.passed }) c.args.session c.unseat-seat.ensures.seats refl refl c.end_passed.ensures.fewer c.end_passed.ensures.out

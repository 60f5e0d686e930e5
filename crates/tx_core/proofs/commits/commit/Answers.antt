use Rattle.tx_core.proofs.PassedOn.{committed_passed}
use Rattle.std.proofs.Common.{refl, sym, subst, arith}
use Rattle.std.specs.Ordering.{nat_cmp}
use Rattle.std.specs.BTreeMap as tree
use Rattle.tx_core.specs.inside.Committing.{IsReady}
use Rattle.tx_core.specs.inside.Standing.{seat_in}
use Rattle.tx_core.proofs.Told.{seated_commits, wait_out, live_one, ready_waits}
use Rattle.tx_core.proofs.Committed.{commit_goes}
use Rattle.tx_core.proofs.commits.commit.Goals as goal

pub returns-clause-goes : goal.returns-clause-goes
returns-clause-goes g c =
    let seat = c.in-Some.seat in
    commit_goes g.C.TreeCall.is_valid g.C.TreeCall.meaning g.B.NodeRead.contents g.met.C.TreeCall.laws c.args.parts.now _ c.args.session c.args.number seat
    (sym c.in-Some.ensures.seat) (subst IsReady (sym c.in-Some.ensures.seat) c.requires.ready)
    c.unseat.ensures.seats c.unseat.ensures.ordinals refl c.faults-faults.ensures.in_order c.push_layer.ensures.effect
    refl refl c.requires.number refl refl c.release_all.ensures c.stop.ensures.waits c.stop_waiting.ensures c.note.ensures.book

pub returns-clause-seated : goal.returns-clause-seated
returns-clause-seated g c =
    let p = c.args.parts.now in
    let s = c.args.session in
    let there = ready_waits (seat_in (tree.get nat_cmp p.places s)) c.requires.ready in
    seated_commits p _ s c.args.number _ c.requires.seated there (record { ordinals = c.unseat.ensures.ordinals; opened = refl; limit = refl; begun = refl; prepared = refl })
    (wait_out s (λ o. seat_in (tree.get nat_cmp p.places o)) (λ o. seat_in (tree.get nat_cmp c.unseat.new.places o)) c.unseat.ensures.seats) c.stop_waiting.ensures c.requires.number
    (omega (arith, live_one p s _ c.requires.seated there)) c.note.ensures.book c.note.ensures.capacity

pub note-requires : goal.note-requires
note-requires g c =
    let p = c.args.parts.now in
    let s = c.args.session in
    omega (arith, c.requires.seated.room, live_one p s _ c.requires.seated (ready_waits (seat_in (tree.get nat_cmp p.places s)) c.requires.ready))

pub returns-clause-passed : goal.returns-clause-passed
returns-clause-passed g c =
    committed_passed g.B.NodeRead.contents c.args.parts.now (record c.args.parts.now { places = c.unseat.new.places; layers = c.push_layer.new.self; passed = c.forget_puts.new.passed }) c.args.session c.in-Some.seat c.end_passed.new.passed.items c.unseat.ensures.seats refl c.faults-faults.ensures.in_order c.push_layer.ensures.effect
    c.forget_puts.ensures.list c.end_passed.ensures.fewer c.end_passed.ensures.out c.forget_puts.ensures.fewer c.forget_puts.ensures.out

use Rattle.overlays.specs.Stretches.{is_covered}
use Rattle.tx_core.specs.inside.Passed.{stretches_of}
use Rattle.tx_core.proofs.PassedOn.{ended_passed}
use Rattle.std.proofs.Common.{refl, sym, ap, subst, ◌∙◌, ◌++◌, ◌∷◌, [], List, ℕ, arith}
use Rattle.std.specs.Ordering.{nat_cmp}
use Rattle.std.specs.BTreeMap as tree
use Rattle.tx_core.specs.inside.Sessions.{wait_in}
use Rattle.tx_core.proofs.Told.{wait_out, live_one, seated_itself}
use Rattle.tx_core.proofs.ToldAgain.{waits_at, entry_room, seated_closes_again}
use Rattle.call_contract.specs.States.{ended}
use Rattle.call_contract.specs.declared.events.Answer.TheVariants.{Deadlock}
use Rattle.tx_core.specs.declared.parts.Parts.{Parts}
use Rattle.tx_core.specs.inside.Retrying.{retry_entry}
use Rattle.tx_core.specs.inside.Standing.{Stands, seat_in, ordinal_in}
use Rattle.tx_core.proofs.Moves.{stands_ended}
use Rattle.tx_core.proofs.later_waits.end_again.Goals as goal

pub returns-clause-ok : goal.returns-clause-ok
returns-clause-ok g c =
    let v = g.C.TreeCall.is_valid in
    let m = g.C.TreeCall.meaning in
    let told = g.B.NodeRead.contents in
    let p = c.args.parts.now in
    let s = c.args.session in
    record {
      book = c.note_again.ensures.book ∙ ap (λ (r : List ℕ). p.book.items ++ retry_entry s (Deadlock r) ∷ []) c.in_ok-copy.ensures;
      prepared = ap (λ (x : Parts g.row.C.Denot g.row.B.Denot). x.prepared) c.note_again.ensures.same;
      cycle = c.args.cycle;
      is = refl;
      closes = c.requires.closes;
      state = λ st stands. subst (λ (x : Parts g.row.C.Denot g.row.B.Denot). Stands v m told x (ended st s)) (sym c.note_again.ensures.same)
          (stands_ended v m told p _ s c.unseat-seat.ensures.seats c.unseat-seat.ensures.ordinals
          (record { base = refl; layers = refl; opened = refl; limit = refl; number = refl }) refl c.release_all.ensures c.stop.ensures.waits c.stop_waiting.ensures st stands);
    }

pub note_again-requires : goal.note_again-requires
note_again-requires g c = let at = waits_at c.args.parts.now c.args.session c.requires.waits in record { room = entry_room c.args.parts.now c.args.session at.0 c.requires.seated at.1 }

pub returns-clause-seated : goal.returns-clause-seated
returns-clause-seated g c =
    let p = c.args.parts.now in
    let s = c.args.session in
    let e = c.note_again.ensures.same in
    let at = waits_at p s c.requires.waits in
    seated_closes_again p c.note_again.new.parts s at.0 c.args.cycle c.requires.seated at.1
    (record {
      ordinals = λ o. ap (λ (x : Parts _ _). ordinal_in (tree.get nat_cmp x.places o)) e ∙ c.unseat-seat.ensures.ordinals o;
      opened = ap (λ (x : Parts _ _). x.opened) e;
      limit = ap (λ (x : Parts _ _). x.limit) e;
      begun = ap (λ (x : Parts _ _). x.begun) e;
      prepared = ap (λ (x : Parts _ _). x.prepared) e;
    })
    (λ o. ap (λ (x : Parts _ _). wait_in (tree.get nat_cmp x.places o)) e ∙ wait_out s (λ u. seat_in (tree.get nat_cmp p.places u)) (λ u. seat_in (tree.get nat_cmp c.unseat-seat.new.places u)) c.unseat-seat.ensures.seats o)
    (ap (λ (x : Parts _ _). x.waiting.items) e ∙ c.stop_waiting.ensures)
    (ap (λ (x : Parts _ _). x.number) e)
    (omega (arith, ap (λ (x : Parts _ _). x.live) e, live_one p s _ c.requires.seated at.1))
    (c.note_again.ensures.book ∙ ap (λ (r : List ℕ). p.book.items ++ retry_entry s (Deadlock r) ∷ []) c.in_ok-copy.ensures)
    c.note_again.ensures.capacity (ap (λ (x : Parts _ _). x.layers) e)

pub returns-in_err-copy-clause-seated : goal.returns-in_err-copy-clause-seated
returns-in_err-copy-clause-seated g c = seated_itself c.args.parts.now c.requires.seated

pub returns-clause-passed : goal.returns-clause-passed
returns-clause-passed g c =
    let s = c.args.session in
    let e = c.note_again.ensures.same in
    ended_passed g.B.NodeRead.contents c.args.parts.now c.note_again.new.parts s (λ o. ap (λ (x : Parts _ _). seat_in (tree.get nat_cmp x.places o)) e ∙ c.unseat-seat.ensures.seats o) (ap (λ (x : Parts _ _). x.layers) e) (ap (λ (x : Parts _ _). x.base) e)
    (λ o j h. c.end_passed.ensures.fewer o j (ap (λ (x : Parts _ _). is_covered (stretches_of x.passed.items o) j) (sym e) ∙ h))
    (λ j. ap (λ (x : Parts _ _). is_covered (stretches_of x.passed.items s) j) e ∙ c.end_passed.ensures.out j)

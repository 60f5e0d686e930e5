use Rattle.tx_core.proofs.PassedOn.{passed_on, seen_same, own_begun}
use Rattle.tx_core.specs.inside.Passed.{ArePassed, own_in}
use Rattle.std.proofs.Common.{refl, sym, ap, ap₂, ◌∙◌, ◌+◌, ℕ, ◌≡◌, ◌≤◌, length, subst, arith, vec_capacity}
use Rattle.std.proofs.lemmas.Result.{err_from_is_err_and}
use Rattle.std.specs.Ordering.{nat_cmp}
use Rattle.std.specs.BTreeMap as tree
use Rattle.std.specs.Map.{lookup}
use Rattle.call_contract.specs.Books.{entry}
use Rattle.call_contract.specs.declared.events.Event.TheVariants as event
use Rattle.call_contract.specs.declared.events.EventAnswer.TheVariants as said
use Rattle.tx_core.specs.declared.parts.Parts.{Parts}
use Rattle.tx_core.specs.inside.Standing.{seat_in, ordinal_in, Stands}
use Rattle.tx_core.specs.inside.Sessions.{wait_of}
use Rattle.tx_core.proofs.Moves.{begin_goes}
use Rattle.tx_core.proofs.Kept.{goes_after}
use Rattle.tx_core.proofs.Reached.{stands_same}
use Rattle.tx_core.proofs.Seats.{not_equal}
use Rattle.tx_core.proofs.Booked.{longer}
use Rattle.tx_core.proofs.Told.{seated_begins, seated_on, roomy_seated, seated_same, wait_put, ordinal_fits, may_begin}
use Rattle.tx_core.proofs.ends.begin.Goals as goal

pub returns-clause-ok : goal.returns-clause-ok
returns-clause-ok g c =
    let v = g.C.TreeCall.is_valid in
    let m = g.C.TreeCall.meaning in
    let told = g.B.NodeRead.contents in
    let p = c.args.parts.now in
    let p1 = c.make_room.new.parts in
    let e = c.in_ok-make_room.ensures.same in
    let below : (p.opened + p.begun ≡ p.limit) → ⊥ = λ is. c.if-from.false (ap₂ (λ (x y : ℕ). x + y) c.from.ensures c.from-2.ensures ∙ is ∙ sym c.from-3.ensures) in
    let below1 : (p1.opened + p1.begun ≡ p1.limit) → ⊥ = λ is. below (sym (ap (λ (x : Parts _ _). x.opened + x.begun) e) ∙ is ∙ ap (λ (x : Parts _ _). x.limit) e) in
    goes_after v m told p p1 _ _ c.in_ok-make_room.ensures.book
    (λ st stands. subst (λ (x : Parts _ _). Stands v m told x st) (sym e)
    (stands_same v m told p (record p { book = p1.book }) (record { base = refl; layers = refl; opened = refl; limit = refl; number = refl }) refl refl (λ grants is. is) (λ o. refl) refl st stands))
    (begin_goes v m told p1 _ c.args.session _ c.new.result
    c.new.ensures (ap (λ (x : Parts _ _). seat_in (tree.get nat_cmp x.places c.args.session)) e ∙ sym c.in_default.ensures) (not_equal (p1.opened + p1.begun) p1.limit below1)
    (ap (λ x. x + 1) (c.ordinal_at-ordinal.ensures ∙ sym (ap (λ (x : Parts _ _). ordinal_in (tree.get nat_cmp x.places c.args.session)) e))) c.in_ok-seat_new.ensures.seats c.in_ok-seat_new.ensures.ordinals
    (record { base = refl; layers = refl; opened = refl; limit = refl; number = refl }) refl refl refl refl refl
    c.note.ensures.book)

pub returns-clause-seated : goal.returns-clause-seated
returns-clause-seated g c =
    let p = c.args.parts.now in
    let p1 = c.make_room.new.parts in
    let s = c.args.session in
    let e = c.in_ok-make_room.ensures.same in
    let roomy = roomy_seated p p1 c.requires e c.in_ok-make_room.ensures.book c.in_ok-make_room.ensures.room in
    let below : (p.opened + p.begun ≡ p.limit) → ⊥ = λ is. c.if-from.false (ap₂ (λ (x y : ℕ). x + y) c.from.ensures c.from-2.ensures ∙ is ∙ sym c.from-3.ensures) in
    let below1 : (p1.opened + p1.begun ≡ p1.limit) → ⊥ = λ is. below (sym (ap (λ (x : Parts _ _). x.opened + x.begun) e) ∙ is ∙ ap (λ (x : Parts _ _). x.limit) e) in
    let room : length c.note.new.book.items + (p1.live + 1) + length p1.waiting.items + 0 ≤ vec_capacity c.note.new.book =
    omega (arith, ap length c.note.ensures.book, longer p1.book.items (entry s event.Begin (said.Number (c.ordinal_at-ordinal.result + 1))), c.in_ok-make_room.ensures.more, c.note.ensures.capacity) in
    seated_on p p1 _ roomy
    (seated_begins p1 _ s _ roomy.seated (ap (λ (x : Parts _ _). wait_of (seat_in (tree.get nat_cmp x.places s))) e ∙ ap wait_of (sym c.in_default.ensures)) below1
    (ap (λ x. x + 1) (c.ordinal_at-ordinal.ensures ∙ sym (ap (λ (x : Parts _ _). ordinal_in (tree.get nat_cmp x.places s)) e))) c.note.ensures.book
    (wait_put s _ (λ o. seat_in (tree.get nat_cmp p1.places o)) (λ o. seat_in (tree.get nat_cmp c.seat_new.new.places o)) c.in_ok-seat_new.ensures.seats) c.in_ok-seat_new.ensures.ordinals refl refl refl refl refl refl room refl refl)

pub overflow_add-ordinal : goal.overflow_add-ordinal
overflow_add-ordinal g c =
    let below : (c.args.parts.now.opened + c.args.parts.now.begun ≡ c.args.parts.now.limit) → ⊥ = λ is. c.if-from.false (ap₂ (λ (x y : ℕ). x + y) c.from.ensures c.from-2.ensures ∙ is ∙ sym c.from-3.ensures) in
    let fits = ordinal_fits c.args.parts.now c.args.session c.requires below in
    omega (arith, fits, c.ordinal_at-ordinal.ensures)

pub returns-in_err-make_room-clause-seated : goal.returns-in_err-make_room-clause-seated
returns-in_err-make_room-clause-seated g c = roomy_seated c.args.parts.now c.make_room.new.parts c.requires c.make_room.ensures.same c.make_room.ensures.book c.make_room.ensures.room

pub returns-in_err-seat_new-clause-refused : goal.returns-in_err-seat_new-clause-refused
returns-in_err-seat_new-clause-refused g c =
    let below : (c.args.parts.now.opened + c.args.parts.now.begun ≡ c.args.parts.now.limit) → ⊥ = λ is. c.if-from.false (ap₂ (λ (x y : ℕ). x + y) c.from.ensures c.from-2.ensures ∙ is ∙ sym c.from-3.ensures) in
    let end = err_from_is_err_and c.from_residual-in_err-seat_new.result c.from_residual-in_err-seat_new.ensures.1 in
    rw (end.1, end.2) (may_begin c.args.parts.now c.args.session c.requires (ap wait_of (sym c.in_default.ensures)) below)

pub returns-in_err-seat_new-clause-seated : goal.returns-in_err-seat_new-clause-seated
returns-in_err-seat_new-clause-seated g c =
    let p = c.args.parts.now in
    let p1 = c.make_room.new.parts in
    let roomy = roomy_seated p p1 c.requires c.in_ok-make_room.ensures.same c.in_ok-make_room.ensures.book c.in_ok-make_room.ensures.room in
    seated_on p p1 _ roomy (seated_same p1 _ roomy.seated (record {
      seats = λ o. ap (λ es. wait_of (seat_in (lookup (tree.is_at (nat_cmp o)) es))) c.in_err-seat_new.ensures.err;
      ordinals = λ o. ap (λ es. ordinal_in (lookup (tree.is_at (nat_cmp o)) es)) c.in_err-seat_new.ensures.err;
      queue = refl;
      book = refl;
      opened = refl;
      limit = refl;
      number = refl;
      begun = refl;
      live = refl;
      prepared = refl;
      layers = refl;
    }) c.in_ok-make_room.ensures.room)

pub returns-clause-refused : goal.returns-clause-refused
returns-clause-refused g c =
    let below : (c.args.parts.now.opened + c.args.parts.now.begun ≡ c.args.parts.now.limit) → ⊥ = λ is. c.if-from.false (ap₂ (λ (x y : ℕ). x + y) c.from.ensures c.from-2.ensures ∙ is ∙ sym c.from-3.ensures) in
    may_begin c.args.parts.now c.args.session c.requires (ap wait_of (sym c.in_default.ensures)) below

pub returns-clause-passed : goal.returns-clause-passed
returns-clause-passed g c =
    let s = c.args.session in
    let p1 = c.make_room.new.parts in
    let e = c.in_ok-make_room.ensures.same in
    λ old. passed_on g.B.NodeRead.contents p1 (record p1 { places = c.seat_new.new.places }) (seen_same g.B.NodeRead.contents p1 (record p1 { places = c.seat_new.new.places })
    (own_begun s _ (λ o. seat_in (tree.get nat_cmp p1.places o)) (λ o. seat_in (tree.get nat_cmp c.seat_new.new.places o)) (ap (λ (x : Parts _ _). seat_in (tree.get nat_cmp x.places s)) e ∙ sym c.in_default.ensures) c.in_ok-seat_new.ensures.seats c.new.ensures) refl)
    (λ o j h. h) (subst (λ (x : Parts _ _). ArePassed g.B.NodeRead.contents x) (sym e) old)

pub returns-in_err-make_room-clause-passed : goal.returns-in_err-make_room-clause-passed
returns-in_err-make_room-clause-passed g c = λ old. subst (λ (x : Parts _ _). ArePassed g.B.NodeRead.contents x) (sym c.make_room.ensures.same) old

pub returns-in_err-seat_new-clause-passed : goal.returns-in_err-seat_new-clause-passed
returns-in_err-seat_new-clause-passed g c =
    let p1 = c.make_room.new.parts in
    λ old. passed_on g.B.NodeRead.contents p1 (record p1 { places = c.seat_new.new.places }) (seen_same g.B.NodeRead.contents p1 (record p1 { places = c.seat_new.new.places }) (λ o. ap (λ es. own_in (seat_in (lookup (tree.is_at (nat_cmp o)) es))) c.in_err-seat_new.ensures.err) refl) (λ o j h. h) (subst (λ (x : Parts _ _). ArePassed g.B.NodeRead.contents x) (sym c.in_ok-make_room.ensures.same) old)

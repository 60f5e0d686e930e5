use Rattle.std.proofs.Common.{◌≡◌, ℕ, Option, refl, sym, ap, ap₂, ◌∙◌, ◌++◌, ◌∷◌, [], length, vec_capacity, arith}
use Rattle.tx_core.specs.declared.parts.Parts.{Parts}
use Rattle.tx_core.proofs.Told.{has_seat}
use Rattle.tx_core.proofs.ToldAgain.{waits_at, entry_room, seated_fails_again}
use Rattle.tx_core.specs.Cores.{count_told}
use Rattle.tx_core.specs.inside.Goes.{unqueued}
use Rattle.tx_core.specs.inside.Retrying.{at_rest, failed_retry}
use Rattle.tx_core.proofs.Reached.{stands_same}
use Rattle.tx_core.proofs.later_failures.fail_again.Goals as goal

pub returns-clause-failed : goal.returns-clause-failed
returns-clause-failed g c =
    let v = g.C.TreeCall.is_valid in
    let m = g.C.TreeCall.meaning in
    let told = g.B.NodeRead.contents in
    let s = c.args.session in
    let f = c.fault_now-faults.result in
    let said : f ≡ count_told c.call_error.result (g.B.NodeRead.count c.cease.new.parts.base) =
    c.fault_now-faults.ensures ∙ ap₂ count_told (sym c.call_error.ensures) (ap (λ (x : Parts _ _). g.B.NodeRead.count x.base) (sym c.cease.ensures.same)) in
    record {
      book = c.note.ensures.book ∙ ap (λ (x : Parts _ _). x.book.items ++ failed_retry s c.args.grants f ∷ []) c.cease.ensures.same
          ∙ ap (λ (x : Option ℕ). c.args.parts.now.book.items ++ failed_retry s c.args.grants x ∷ []) said;
      prepared = refl;
      state = λ st t stands found. stands_same v m told c.cease.new.parts _ (record { base = refl; layers = refl; opened = refl; limit = refl; number = refl }) refl refl (λ grants is. is) (λ o. refl) refl
          (unqueued (at_rest st t) s) (c.cease.ensures.state st t stands found);
    }

pub cease-requires : goal.cease-requires
cease-requires g c = record { seated = has_seat _ (waits_at c.args.parts.now c.args.session c.requires.waits).1 }

pub note-requires : goal.note-requires
note-requires g c =
    let p = c.args.parts.now in
    let at = waits_at p c.args.session c.requires.waits in
    omega (
      arith,
      entry_room p c.args.session at.0 c.requires.seated at.1,
      ap (λ (x : Parts _ _). length x.book.items) c.cease.ensures.same,
      ap (λ (x : Parts _ _). vec_capacity x.book) c.cease.ensures.same,
    )

pub returns-clause-seated : goal.returns-clause-seated
returns-clause-seated g c =
    let p = c.args.parts.now in
    let s = c.args.session in
    let e = c.cease.ensures.same in
    let at = waits_at p s c.requires.waits in
    let f = c.fault_now-faults.result in
    seated_fails_again p _ s at.0 c.args.grants f c.requires.seated at.1
    (record { ordinals = c.cease.ensures.ordinals; opened = ap (λ (x : Parts _ _). x.opened) e; limit = ap (λ (x : Parts _ _). x.limit) e; begun = ap (λ (x : Parts _ _). x.begun) e; prepared = refl })
    c.cease.ensures.waits c.cease.ensures.queue (ap (λ (x : Parts _ _). x.number) e) (ap (λ (x : Parts _ _). x.live) e)
    (c.note.ensures.book ∙ ap (λ (x : Parts _ _). x.book.items ++ failed_retry s c.args.grants f ∷ []) e)
    (omega (arith, c.note.ensures.capacity, ap (λ (x : Parts _ _). vec_capacity x.book) e)) (ap (λ (x : Parts _ _). x.layers) e)

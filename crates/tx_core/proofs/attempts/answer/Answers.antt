use Rattle.std.proofs.Common.{refl, ap, ◌∙◌, ◌++◌, ◌∷◌, [], ◌+◌, ◌≤◌, length, vec_capacity, arith}
use Rattle.std.specs.Ordering.{nat_cmp}
use Rattle.std.specs.BTreeMap as tree
use Rattle.call_contract.specs.States.{without}
use Rattle.call_contract.specs.declared.events.Answer.TheVariants.{Answered}
use Rattle.tx_core.specs.declared.parts.Parts.{Parts}
use Rattle.tx_core.specs.inside.Goes.{call_entry}
use Rattle.tx_core.specs.inside.Sessions.{wait_in}
use Rattle.tx_core.proofs.Booked.{longer, length_without}
use Rattle.tx_core.proofs.Told.{seated_answers, seated_on, based_seated, no_cause, moved_seated}
use Rattle.tx_core.proofs.attempts.answer.Goals as goal

pub returns-clause-seated : goal.returns-clause-seated
returns-clause-seated g c =
    let p = c.args.parts.now in
    let p1 = c.outcome_of.new.parts in
    let p2 = c.accept.new.parts in
    let s = c.args.session in
    let a = c.outcome_of.ensures.same in
    let b = c.accept.ensures.same in
    let one = based_seated p p1 c.requires.seated a in
    let n = call_entry s c.args.call (Answered c.in-Ok-copy.copy) in
    let room : length c.note.new.book.items + p2.live + length c.stop_waiting.new.waiting.items + 0 ≤ vec_capacity c.note.new.book =
    omega (
      arith,
      ap length c.note.ensures.book,
      longer p2.book.items n,
      ap length c.stop_waiting.ensures,
      length_without s p2.waiting.items,
      c.note.ensures.capacity,
      c.requires.room,
      ap (λ (x : Parts _ _). length x.book.items) (b),
      ap (λ (x : Parts _ _). length x.book.items) a,
      ap (λ (x : Parts _ _). vec_capacity x.book) b,
      ap (λ (x : Parts _ _). vec_capacity x.book) a,
      ap (λ (x : Parts _ _). length x.waiting.items) b,
      ap (λ (x : Parts _ _). length x.waiting.items) a,
      ap (λ (x : Parts _ _). x.live) b,
      ap (λ (x : Parts _ _). x.live) a,
    ) in
    seated_on p p1 _ one
    (seated_answers p1 _ s c.args.call c.in-Ok-copy.copy one.seated (ap (λ (x : Parts _ _). wait_in (tree.get nat_cmp x.places s)) a ∙ c.requires.ready)
    (record { ordinals = c.accept.ensures.ordinals; opened = ap (λ (x : Parts _ _). x.opened) b; limit = ap (λ (x : Parts _ _). x.limit) b; begun = ap (λ (x : Parts _ _). x.begun) b; prepared = refl })
    c.in-Ok-accept.ensures.waits (c.stop_waiting.ensures ∙ ap (λ (x : Parts _ _). without s x.waiting.items) b) (ap (λ (x : Parts _ _). x.number) b) (ap (λ (x : Parts _ _). x.live) b)
    (c.note.ensures.book ∙ ap (λ (x : Parts _ _). x.book.items ++ n ∷ []) b) room (ap (λ (x : Parts _ _). x.layers) b))

pub returns-clause-cause : goal.returns-clause-cause
returns-clause-cause g c = no_cause _ _ _ _ (ap (λ (x : Parts _ _). g.B.NodeRead.count x.base) c.accept.ensures.same ∙ c.in-Ok.ensures.cause.exact)

pub returns-in-Err-clause-seated : goal.returns-in-Err-clause-seated
returns-in-Err-clause-seated g c = based_seated c.args.parts.now c.outcome_of.new.parts c.requires.seated c.outcome_of.ensures.same

pub returns-in_default-clause-seated : goal.returns-in_default-clause-seated
returns-in_default-clause-seated g c = based_seated c.args.parts.now c.outcome_of.new.parts c.requires.seated c.outcome_of.ensures.same

pub returns-in_default-accept-clause-seated : goal.returns-in_default-accept-clause-seated
returns-in_default-accept-clause-seated g c =
    let p = c.args.parts.now in
    let p1 = c.outcome_of.new.parts in
    let one = based_seated p p1 c.requires.seated c.outcome_of.ensures.same in
    seated_on p p1 c.accept.new.parts one (moved_seated p1 c.accept.new.parts one.seated c.accept.ensures.same c.in_default-accept.ensures.still c.accept.ensures.ordinals)

pub returns-clause-passed : goal.returns-clause-passed
returns-clause-passed g c = c.accept.ensures.passed c.outcome_of.ensures.passed

pub returns-in_default-accept-clause-passed : goal.returns-in_default-accept-clause-passed
returns-in_default-accept-clause-passed g c = c.accept.ensures.passed c.outcome_of.ensures.passed

use Rattle.tx_core.specs.inside.Passed.{ArePassed}
use Rattle.std.proofs.Common.{◌≡◌, refl, sym, ap, subst, ◌∙◌, ◌||◌, not, true, ◌++◌, ◌∷◌, [], length, vec_capacity, arith, ◌+◌, ◌≤◌}
use Rattle.std.specs.Ordering.{nat_cmp}
use Rattle.std.specs.BTreeMap as tree
use Rattle.tx_core.specs.declared.parts.Parts.{Parts}
use Rattle.tx_core.specs.inside.Goes.{shown_wait}
use Rattle.tx_core.specs.inside.Standing.{ordinal_in}
use Rattle.tx_core.proofs.Booked.{longer}
use Rattle.tx_core.proofs.ToldAgain.{waits_at, seated_waits_again}
use Rattle.lock_resources.specs.declared.request.Request.{Request}
use Rattle.wait_graph.specs.Graphs.{ClosesNone, waits}
use Rattle.tx_core.specs.inside.Retrying.{retry_entry, waits_for_it}
use Rattle.tx_core.proofs.WaitedAgain.{put_waiting_again, or_not, or_more}
use Rattle.tx_core.proofs.later_waits.wait_on.Goals.{else-not-more-via-then-not-more+else-waits_for, else-not-more-via-else-not-more}
use Rattle.tx_core.proofs.later_waits.wait_on.Goals as goal

pub wait-requires-clause-no_cycle : goal.wait-requires-clause-no_cycle
wait-requires-clause-no_cycle g c =
    subst (λ (x : Request). ClosesNone c.args.parts.now.graph c.args.session x c.args.parts.now.table) (sym c.in_ok-waited.ensures.waited) c.requires.no_cycle

pub returns-clause-ok : goal.returns-clause-ok
returns-clause-ok g c =
    let p = c.args.parts.now in
    let r = waits_for_it (waits p.graph c.args.session) c.args.request.now in
    let on : (c.args.more || not r) ≡ true = elim c.else-not-more.branch as (λ _. (c.args.more || not r) ≡ true) [
      | else-not-more-via-then-not-more+else-waits_for w ↦ or_not c.args.more r (sym w.waits_for.ensures ∙ w.if-waits_for.false)
      | else-not-more-via-else-not-more w ↦ or_more c.args.more r w.if-not-more.false
    ] in
    put_waiting_again g.C.TreeCall.is_valid g.C.TreeCall.meaning g.B.NodeRead.contents p c.note_again.new.parts _ c.args.session c.args.request.now
    c.in_ok-waited.field-0.waited c.in_ok-waited.field-0.noted c.in_ok-waited.field-0.shown c.args.holders c.in_ok-waited.field-0.holders c.args.more r _ _
    c.in_ok-waited.ensures.waited c.in_ok-waited.ensures.noted c.in_ok-waited.ensures.shown c.in_ok-waited.ensures.holders c.answer_of-2.ensures c.answer_of-3.ensures
    on refl c.requires.alone (sym c.note_again.ensures.same) (record { base = refl; layers = refl; opened = refl; limit = refl; number = refl }) refl refl refl c.wait.ensures.waits refl refl c.note_again.ensures.book

pub returns-clause-seated : goal.returns-clause-seated
returns-clause-seated g c =
    let p = c.args.parts.now in
    let q = c.note_again.new.parts in
    let s = c.args.session in
    let e = c.note_again.ensures.same in
    let at = waits_at p s c.requires.waits in
    let named = c.in_ok-waited.field-0.holders in
    let adds = c.note_again.ensures.book ∙ ap (λ a. p.book.items ++ retry_entry s a ∷ []) (c.answer_of-2.ensures ∙ ap (λ (x : Request). shown_wait x named) c.in_ok-waited.ensures.noted) in
    let room : length q.book.items + q.live + length q.waiting.items + 0 ≤ vec_capacity q.book =
    omega (
      arith,
      c.requires.room,
      ap length adds,
      longer p.book.items (retry_entry s (shown_wait c.args.request.now named)),
      c.note_again.ensures.capacity,
      ap (λ (x : Parts _ _). x.live) e,
      ap (λ (x : Parts _ _). length x.waiting.items) e,
    ) in
    seated_waits_again p q s at.0 c.args.request.now named c.requires.seated at.1
    (record {
      ordinals = λ o. ap (λ (x : Parts _ _). ordinal_in (tree.get nat_cmp x.places o)) e;
      opened = ap (λ (x : Parts _ _). x.opened) e;
      limit = ap (λ (x : Parts _ _). x.limit) e;
      begun = ap (λ (x : Parts _ _). x.begun) e;
      prepared = ap (λ (x : Parts _ _). x.prepared) e;
    })
    (ap (λ (x : Parts _ _). x.places) e) (ap (λ (x : Parts _ _). x.waiting.items) e) (ap (λ (x : Parts _ _). x.number) e) (ap (λ (x : Parts _ _). x.live) e) adds room (ap (λ (x : Parts _ _). x.layers) e)

pub returns-clause-passed : goal.returns-clause-passed
returns-clause-passed g c = λ old. subst (λ (x : Parts _ _). ArePassed g.B.NodeRead.contents x) (sym c.note_again.ensures.same) old

use Rattle.std.proofs.Common.{◌≡◌, ◌++◌, ◌∷◌, [], refl, sym, ap, subst, ◌∙◌, rules, length, true≢false, arith}
use Rattle.tx_core.specs.Cores.{CoreView}
use Rattle.shared_store.specs.Calls.{HasDrained}
use Rattle.shared_store.specs.Lists.{list_of}
use Rattle.shared_store.specs.declared.desk.Drain.{Drain}
use Rattle.shared_store.specs.inside.Desks.{AddsUnder, DeskView, list_in}
use Rattle.shared_store.proofs.Bodies.{handed_bodies, none_left}
use Rattle.shared_store.proofs.Desks.{drained_desk, none_drained, none_last, room_left, some_drained, still_desk}
use Rattle.shared_store.proofs.Weaves.{list_book}
use Rattle.shared_store.proofs.desk.Desk.drain.Goals as goal

pub push_reserved-requires : goal.push_reserved-requires
push_reserved-requires g c =
    let d = c.self.inside in
    omega (arith, d.drains.ok.0, room_left g.B.NodeRead.unchanged d.first.value d.core d.drains c.self.invariant.0 c.drain-bodies.result c.drain-bodies.ensures.last (λ e. true≢false (sym (c.is_empty.ensures.1 e) ∙ c.if-not-is_empty.true)))

pub invariant_of-self : goal.invariant_of-self
invariant_of-self g c =
    let d = c.self.inside in
    let w = c.drain-bodies.new.self in
    let note : Drain = record { at = length c.book-at.result.now; number = c.drained-number.result } in
    let more : c.push_reserved.new.self.items ≡ d.drains.items ++ note ∷ [] = search rules in (
      drained_desk g.B.NodeRead.unchanged d.first.value d.core w d.drains c.push_reserved.new.self c.self.invariant.0 note c.drain-bodies.ensures.none_waits more (ap length c.book-at.ensures.book) c.drained-number.ensures,
      none_left g.C.TreeCall.meaning g.B.NodeRead.contents d.core w c.drain-bodies.ensures.none_waits,
    )

pub invariant_of-self-else-not-is_empty : goal.invariant_of-self-else-not-is_empty
invariant_of-self-else-not-is_empty g c =
    let d = c.self.inside in
    let w = c.drain-bodies.new.self in (
      still_desk g.B.NodeRead.unchanged d.first.value d.core w d.drains d.drains c.self.invariant.0 c.drain-bodies.ensures.none_waits refl (none_last d.core c.drain-bodies.result c.drain-bodies.ensures.last (c.is_empty.ensures.0 c.if-not-is_empty.false)),
      none_left g.C.TreeCall.meaning g.B.NodeRead.contents d.core w c.drain-bodies.ensures.none_waits,
    )

pub returns-then-not-is_empty-clause-told : goal.returns-then-not-is_empty-clause-told
returns-then-not-is_empty-clause-told g c =
    let d = c.self.inside in
    let w = c.drain-bodies.new.self in
    let ds = c.push_reserved.new.self in
    let note : Drain = record { at = length c.book-at.result.now; number = c.drained-number.result } in
    let more : ds.items ≡ d.drains.items ++ note ∷ [] = search rules in
    let is = c.drain-bodies.ensures in
    subst (λ (z : DeskView _ _). HasDrained (list_in z) c.drain-bodies.result (list_of d.first.value w.book ds.items)) c.self.view_is
    (some_drained g.B.NodeRead.unchanged d.first.value d.core w d.drains ds c.self.invariant.0 c.drain-bodies.result note is.follow is.last (ap (λ (v : CoreView _ _). v.book) is.none_waits) more (ap length c.book-at.ensures.book)
    (c.drained-number.ensures ∙ ap (λ (v : CoreView _ _). v.undrained.after) is.none_waits) (λ e. true≢false (sym (c.is_empty.ensures.1 e) ∙ c.if-not-is_empty.true))).0

pub returns-then-not-is_empty-clause-under : goal.returns-then-not-is_empty-clause-under
returns-then-not-is_empty-clause-under g c =
    let d = c.self.inside in
    let w = c.drain-bodies.new.self in
    let ds = c.push_reserved.new.self in
    let note : Drain = record { at = length c.book-at.result.now; number = c.drained-number.result } in
    let more : ds.items ≡ d.drains.items ++ note ∷ [] = search rules in
    let is = c.drain-bodies.ensures in
    subst (λ (z : DeskView _ _). AddsUnder 0 (list_in z) (list_of d.first.value w.book ds.items)) c.self.view_is
    (some_drained g.B.NodeRead.unchanged d.first.value d.core w d.drains ds c.self.invariant.0 c.drain-bodies.result note is.follow is.last (ap (λ (v : CoreView _ _). v.book) is.none_waits) more (ap length c.book-at.ensures.book)
    (c.drained-number.ensures ∙ ap (λ (v : CoreView _ _). v.undrained.after) is.none_waits) (λ e. true≢false (sym (c.is_empty.ensures.1 e) ∙ c.if-not-is_empty.true))).1

pub returns-else-not-is_empty-clause-told : goal.returns-else-not-is_empty-clause-told
returns-else-not-is_empty-clause-told g c =
    let d = c.self.inside in
    let w = c.drain-bodies.new.self in
    let is = c.drain-bodies.ensures in
    subst (λ (z : DeskView _ _). HasDrained (list_in z) c.drain-bodies.result (list_of d.first.value w.book d.drains.items)) c.self.view_is
    (none_drained g.B.NodeRead.unchanged d.first.value d.core w d.drains d.drains c.self.invariant.0 c.drain-bodies.result is.follow is.last (ap (λ (v : CoreView _ _). v.book) is.none_waits) refl (c.is_empty.ensures.0 c.if-not-is_empty.false)).0

pub returns-else-not-is_empty-clause-under : goal.returns-else-not-is_empty-clause-under
returns-else-not-is_empty-clause-under g c =
    let d = c.self.inside in
    let w = c.drain-bodies.new.self in
    let is = c.drain-bodies.ensures in
    subst (λ (z : DeskView _ _). AddsUnder 0 (list_in z) (list_of d.first.value w.book d.drains.items)) c.self.view_is
    (none_drained g.B.NodeRead.unchanged d.first.value d.core w d.drains d.drains c.self.invariant.0 c.drain-bodies.result is.follow is.last (ap (λ (v : CoreView _ _). v.book) is.none_waits) refl (c.is_empty.ensures.0 c.if-not-is_empty.false)).1

pub returns-then-not-is_empty-clause-bodies : goal.returns-then-not-is_empty-clause-bodies
returns-then-not-is_empty-clause-bodies g c =
    let d = c.self.inside in
    let w = c.drain-bodies.new.self in
    let is = c.drain-bodies.ensures in
    handed_bodies g.C.TreeCall.meaning g.B.NodeRead.contents d.first.value d.core (list_of d.first.value w.book c.push_reserved.new.self.items) c.drain-bodies.result c.self.invariant.1 is.waiting c.self.invariant.0.opening refl
    (list_book d.first.value w.book c.push_reserved.new.self.items (invariant_of-self g c).0.rise ∙ ap (λ (v : CoreView _ _). v.book) is.none_waits)

pub returns-else-not-is_empty-clause-bodies : goal.returns-else-not-is_empty-clause-bodies
returns-else-not-is_empty-clause-bodies g c =
    let d = c.self.inside in
    let w = c.drain-bodies.new.self in
    let is = c.drain-bodies.ensures in
    handed_bodies g.C.TreeCall.meaning g.B.NodeRead.contents d.first.value d.core (list_of d.first.value w.book d.drains.items) c.drain-bodies.result c.self.invariant.1 is.waiting c.self.invariant.0.opening refl
    (list_book d.first.value w.book d.drains.items (invariant_of-self-else-not-is_empty g c).0.rise ∙ ap (λ (v : CoreView _ _). v.book) is.none_waits)

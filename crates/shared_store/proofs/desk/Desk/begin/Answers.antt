use Rattle.std.proofs.Common.{refl, sym, subst}
use Rattle.call_contract.specs.Books.{entry}
use Rattle.call_contract.specs.declared.events.Event.TheVariants as event
use Rattle.call_contract.specs.declared.events.EventAnswer.TheVariants as said
use Rattle.shared_store.specs.Calls.{HasBegun}
use Rattle.shared_store.specs.Lists.{list_of}
use Rattle.shared_store.specs.inside.Desks.{AddsUnder, DeskView, list_in}
use Rattle.shared_store.proofs.Desks.{adds, base_left, begun, keeps_bodies, keeps_ended, stays_desk}
use Rattle.shared_store.proofs.desk.Desk.begin.Goals as goal

pub invariant_of-self : goal.invariant_of-self
invariant_of-self g c =
    let d = c.self.inside in
    let w = c.begin.new.self in
    let s = c.args.session in
    let keeps = keeps_ended s d.core w c.begin.result (λ x. entry s event.Begin (said.Number x)) (λ x. refl) (λ x. refl) c.begin.ensures.ok c.begin.ensures.err in (
      stays_desk g.B.NodeRead.unchanged d.first.value d.core w d.drains c.self.invariant.0 s c.requires
          (subst (λ b. g.B.NodeRead.unchanged d.first.value.base b) (sym (base_left d.core w c.begin.result (λ x. entry s event.Begin (said.Number x)) c.begin.ensures.ok c.begin.ensures.err)) c.self.invariant.0.base) keeps,
      keeps_bodies g.C.TreeCall.meaning g.B.NodeRead.contents s d.core w keeps c.self.invariant.1,
    )

pub returns-clause-told : goal.returns-clause-told
returns-clause-told g c =
    let d = c.self.inside in
    let w = c.begin.new.self in
    let s = c.args.session in
    subst (λ (z : DeskView _ _). HasBegun (list_in z) s c.ended.result (list_of d.first.value w.book d.drains.items)) c.self.view_is
    (subst (λ r. HasBegun (list_of d.first.value d.core.book d.drains.items) s r (list_of d.first.value w.book d.drains.items)) (sym c.ended.ensures)
    (begun g.B.NodeRead.unchanged d.first.value d.core w d.drains c.self.invariant.0 s c.begin.result c.begin.ensures.ok c.begin.ensures.ordinal c.begin.ensures.err c.begin.ensures.refused))

pub returns-clause-under : goal.returns-clause-under
returns-clause-under g c =
    let d = c.self.inside in
    let w = c.begin.new.self in
    let s = c.args.session in
    let keeps = keeps_ended s d.core w c.begin.result (λ x. entry s event.Begin (said.Number x)) (λ x. refl) (λ x. refl) c.begin.ensures.ok c.begin.ensures.err in
    subst (λ (z : DeskView _ _). AddsUnder s (list_in z) (list_of d.first.value w.book d.drains.items)) c.self.view_is
    (adds g.B.NodeRead.unchanged d.first.value d.core w d.drains c.self.invariant.0 s c.requires keeps.steps)

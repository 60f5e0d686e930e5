use Rattle.std.proofs.Common.{refl, sym, subst}
use Rattle.call_contract.specs.Books.{entry}
use Rattle.call_contract.specs.declared.events.Event.TheVariants as event
use Rattle.call_contract.specs.declared.events.EventAnswer.TheVariants as said
use Rattle.shared_store.specs.Calls.{HasAborted}
use Rattle.shared_store.specs.Lists.{list_of}
use Rattle.shared_store.specs.inside.Desks.{AddsUnder, DeskView, list_in}
use Rattle.shared_store.proofs.Desks.{adds, base_left, aborted, keeps_bodies, keeps_ended, stays_desk}
use Rattle.shared_store.proofs.desk.Desk.abort.Goals as goal

pub invariant_of-self : goal.invariant_of-self
invariant_of-self g c =
    let d = c.self.inside in
    let w = c.abort.new.self in
    let s = c.args.session in
    let keeps = keeps_ended s d.core w c.abort.result (λ x. entry s event.Abort said.Nothing) (λ x. refl) (λ x. refl) c.abort.ensures.ok c.abort.ensures.err in (
      stays_desk g.B.NodeRead.unchanged d.first.value d.core w d.drains c.self.invariant.0 s c.requires
          (subst (λ b. g.B.NodeRead.unchanged d.first.value.base b) (sym (base_left d.core w c.abort.result (λ x. entry s event.Abort said.Nothing) c.abort.ensures.ok c.abort.ensures.err)) c.self.invariant.0.base) keeps,
      keeps_bodies g.C.TreeCall.meaning g.B.NodeRead.contents s d.core w keeps c.self.invariant.1,
    )

pub returns-clause-told : goal.returns-clause-told
returns-clause-told g c =
    let d = c.self.inside in
    let w = c.abort.new.self in
    let s = c.args.session in
    subst (λ (z : DeskView _ _). HasAborted (list_in z) s c.ended.result (list_of d.first.value w.book d.drains.items)) c.self.view_is
    (subst (λ r. HasAborted (list_of d.first.value d.core.book d.drains.items) s r (list_of d.first.value w.book d.drains.items)) (sym c.ended.ensures)
    (aborted g.B.NodeRead.unchanged d.first.value d.core w d.drains c.self.invariant.0 s c.abort.result c.abort.ensures.ok c.abort.ensures.err c.abort.ensures.refused c.abort.ensures.memory))

pub returns-clause-under : goal.returns-clause-under
returns-clause-under g c =
    let d = c.self.inside in
    let w = c.abort.new.self in
    let s = c.args.session in
    let keeps = keeps_ended s d.core w c.abort.result (λ x. entry s event.Abort said.Nothing) (λ x. refl) (λ x. refl) c.abort.ensures.ok c.abort.ensures.err in
    subst (λ (z : DeskView _ _). AddsUnder s (list_in z) (list_of d.first.value w.book d.drains.items)) c.self.view_is
    (adds g.B.NodeRead.unchanged d.first.value d.core w d.drains c.self.invariant.0 s c.requires keeps.steps)

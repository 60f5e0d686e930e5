use Rattle.std.proofs.Common.{sym, subst}
use Rattle.shared_store.specs.Calls.{HasTried}
use Rattle.shared_store.specs.Lists.{list_of}
use Rattle.shared_store.specs.inside.Desks.{AddsUnder, DeskView, list_in}
use Rattle.shared_store.proofs.Desks.{adds, keeps_bodies, keeps_tried, stays_desk, tried}
use Rattle.shared_store.proofs.desk.Desk.try_call.Goals as goal

pub invariant_of-self : goal.invariant_of-self
invariant_of-self g c =
    let d = c.self.inside in
    let w = c.attempt-answer.new.self in
    let s = c.args.session in
    let keeps = keeps_tried s d.core w g.B.NodeRead.count c.args.call c.attempt-answer.result c.attempt-answer.ensures.ok c.attempt-answer.ensures.err in (
      stays_desk g.B.NodeRead.unchanged d.first.value d.core w d.drains c.self.invariant.0 s c.requires (g.met.B.NodeRead.unchanged_onward _ _ _ c.self.invariant.0.base c.attempt-answer.ensures.unchanged) keeps,
      keeps_bodies g.C.TreeCall.meaning g.B.NodeRead.contents s d.core w keeps c.self.invariant.1,
    )

pub returns-clause-told : goal.returns-clause-told
returns-clause-told g c =
    let d = c.self.inside in
    let w = c.attempt-answer.new.self in
    let s = c.args.session in
    subst (λ (z : DeskView _ _). HasTried g.B.NodeRead.count (list_in z) s c.args.call c.called.result (list_of d.first.value w.book d.drains.items)) c.self.view_is
    (subst (λ r. HasTried g.B.NodeRead.count (list_of d.first.value d.core.book d.drains.items) s c.args.call r (list_of d.first.value w.book d.drains.items)) (sym c.called.ensures)
    (tried g.B.NodeRead.unchanged d.first.value d.core w d.drains c.self.invariant.0 s g.B.NodeRead.count c.args.call c.attempt-answer.result c.attempt-answer.ensures.ok c.attempt-answer.ensures.err c.attempt-answer.ensures.refused
    c.is_legal.ensures.faults))

pub returns-clause-under : goal.returns-clause-under
returns-clause-under g c =
    let d = c.self.inside in
    let w = c.attempt-answer.new.self in
    let s = c.args.session in
    let keeps = keeps_tried s d.core w g.B.NodeRead.count c.args.call c.attempt-answer.result c.attempt-answer.ensures.ok c.attempt-answer.ensures.err in
    subst (λ (z : DeskView _ _). AddsUnder s (list_in z) (list_of d.first.value w.book d.drains.items)) c.self.view_is
    (adds g.B.NodeRead.unchanged d.first.value d.core w d.drains c.self.invariant.0 s c.requires keeps.steps)

use Rattle.std.proofs.Common.{None, Ok, sym, subst, ◌∙◌}
use Rattle.shared_store.specs.Calls.{HasTriedAgain}
use Rattle.shared_store.specs.Lists.{list_of}
use Rattle.shared_store.specs.inside.Desks.{AddsUnder, DeskView, list_in}
use Rattle.shared_store.proofs.Desks.{adds, keeps_bodies, keeps_retried, not_tried, stays_desk, tried_again, waits_among}
use Rattle.shared_store.proofs.desk.Desk.try_again.Goals as goal

pub retry-answer-requires : goal.retry-answer-requires
retry-answer-requires g c = sym (waits_among c.self.inside.core.book c.args.session c.waiting.result.now c.is_legal.ensures.queue c.waiting.ensures) ∙ (sym c.is_among.ensures ∙ c.if-not-is_among.false)

pub invariant_of-self : goal.invariant_of-self
invariant_of-self g c =
    let d = c.self.inside in
    let w = c.retry-answer.new.self in
    let s = c.args.session in
    let keeps = keeps_retried g.B.NodeRead.unchanged d.first.value d.core w d.drains c.self.invariant.0 s g.C.TreeCall.meaning g.B.NodeRead.contents g.B.NodeRead.count c.retry-answer.result c.retry-answer.ensures.ok c.retry-answer.ensures.err in (
      stays_desk g.B.NodeRead.unchanged d.first.value d.core w d.drains c.self.invariant.0 s c.requires (g.met.B.NodeRead.unchanged_onward _ _ _ c.self.invariant.0.base c.retry-answer.ensures.unchanged) keeps,
      keeps_bodies g.C.TreeCall.meaning g.B.NodeRead.contents s d.core w keeps c.self.invariant.1,
    )

pub returns-clause-told : goal.returns-clause-told
returns-clause-told g c =
    let d = c.self.inside in
    let w = c.retry-answer.new.self in
    let s = c.args.session in
    let waits = sym (waits_among d.core.book s c.waiting.result.now c.is_legal.ensures.queue c.waiting.ensures) ∙ (sym c.is_among.ensures ∙ c.if-not-is_among.false) in
    subst (λ (z : DeskView _ _). HasTriedAgain g.B.NodeRead.count g.B.NodeRead.contents g.C.TreeCall.meaning (list_in z) s c.again.result (list_of d.first.value w.book d.drains.items)) c.self.view_is
    (subst (λ r. HasTriedAgain g.B.NodeRead.count g.B.NodeRead.contents g.C.TreeCall.meaning (list_of d.first.value d.core.book d.drains.items) s r (list_of d.first.value w.book d.drains.items)) (sym c.again.ensures)
    (tried_again g.B.NodeRead.unchanged d.first.value d.core w d.drains c.self.invariant.0 s g.B.NodeRead.count g.C.TreeCall.meaning g.B.NodeRead.contents c.retry-answer.result waits c.retry-answer.ensures.ok c.retry-answer.ensures.err c.retry-answer.ensures.refused
    c.is_legal-2.ensures.faults))

pub returns-clause-under : goal.returns-clause-under
returns-clause-under g c =
    let d = c.self.inside in
    let w = c.retry-answer.new.self in
    let s = c.args.session in
    let keeps = keeps_retried g.B.NodeRead.unchanged d.first.value d.core w d.drains c.self.invariant.0 s g.C.TreeCall.meaning g.B.NodeRead.contents g.B.NodeRead.count c.retry-answer.result c.retry-answer.ensures.ok c.retry-answer.ensures.err in
    subst (λ (z : DeskView _ _). AddsUnder s (list_in z) (list_of d.first.value w.book d.drains.items)) c.self.view_is
    (adds g.B.NodeRead.unchanged d.first.value d.core w d.drains c.self.invariant.0 s c.requires keeps.steps)

pub returns-then-not-is_among-clause-told : goal.returns-then-not-is_among-clause-told
returns-then-not-is_among-clause-told g c =
    let d = c.self.inside in
    let s = c.args.session in
    let idle = sym (waits_among d.core.book s c.waiting.result.now c.is_legal.ensures.queue c.waiting.ensures) ∙ (sym c.is_among.ensures ∙ c.if-not-is_among.true) in
    subst (λ (z : DeskView _ _). HasTriedAgain g.B.NodeRead.count g.B.NodeRead.contents g.C.TreeCall.meaning (list_in z) s (Ok None) (list_in z)) c.self.view_is
    (not_tried g.B.NodeRead.unchanged d.first.value d.core d.core d.drains c.self.invariant.0 s g.B.NodeRead.count g.C.TreeCall.meaning g.B.NodeRead.contents idle)

use Rattle.std.proofs.Common.{◌≡◌, sym, subst, ◌∙◌}
use Rattle.shared_store.specs.Bodies.{HasBodies}
use Rattle.shared_store.specs.Lists.{book_of, drained_in, SessionsFit}
use Rattle.shared_store.specs.inside.Desks.{DeskView, list_in}
use Rattle.shared_store.proofs.Weaves.{list_book, list_last}
use Rattle.shared_store.proofs.desk.Desk.into_core.Goals as goal

pub returns-clause-base : goal.returns-clause-base
returns-clause-base g c = subst (λ (z : DeskView _ _). g.B.NodeRead.unchanged z.first.base z.core.base) c.self.view_is c.self.invariant.0.base

pub returns-clause-opening : goal.returns-clause-opening
returns-clause-opening g c =
    subst (λ (z : DeskView _ _). (z.core.opening ≡ z.first.opening) × (z.core.number ≡ z.first.number) × (z.core.limit ≡ z.first.limit)) c.self.view_is (c.self.invariant.0.opening, c.self.invariant.0.number, c.self.invariant.0.limit)

pub returns-clause-fit : goal.returns-clause-fit
returns-clause-fit g c = subst (λ (z : DeskView _ _). SessionsFit z.core.book) c.self.view_is c.self.invariant.0.fit

pub returns-clause-list : goal.returns-clause-list
returns-clause-list g c =
    let d = c.self.inside in
    subst (λ (z : DeskView _ _). book_of (list_in z) ≡ z.core.book) c.self.view_is (list_book d.first.value d.core.book d.drains.items c.self.invariant.0.rise)

pub returns-clause-bodies : goal.returns-clause-bodies
returns-clause-bodies g c = subst (λ (z : DeskView _ _). HasBodies g.C.TreeCall.meaning g.B.NodeRead.contents z.core) c.self.view_is c.self.invariant.1

pub returns-clause-drained : goal.returns-clause-drained
returns-clause-drained g c =
    let d = c.self.inside in
    subst (λ (z : DeskView _ _). z.core.undrained.after ≡ drained_in (list_in z)) c.self.view_is (c.self.invariant.0.handed ∙ sym (list_last d.first.value d.core.book d.drains.items c.self.invariant.0.rise))

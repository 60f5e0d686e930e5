use Rattle.std.proofs.Common.{sym, ap, ◌∙◌, subst}
use Rattle.tx_core.specs.Cores.{CoreView}
use Rattle.turn_lock.specs.Turns.{HasAll}
use Rattle.shared_store.specs.Bodies.{HasBodies}
use Rattle.shared_store.specs.Lists.{book_of, drained_in, list_of, SessionsFit}
use Rattle.shared_store.specs.Sessions.{IsOpenedAs, SessionView}
use Rattle.shared_store.proofs.Done.{closed_book, closed_drained, opened_as}
use Rattle.shared_store.proofs.session.Store.close.Goals as goal

pub returns-clause-book : goal.returns-clause-book
returns-clause-book g c =
    ap (λ (v : CoreView _ _). v.book) c.into_core.ensures.core
    ∙ closed_book c.session.inside.pass.has c.session.inside.pass.seen (list_of c.close.result.first c.close.result.core.book c.close.result.drains) c.close.result.core.book (subst (λ (p : SessionView _ _). HasAll p.has) (sym c.session.view_is) c.requires.all)
    c.into_core.ensures.fit c.into_core.ensures.list c.close.ensures
    ∙ ap (λ (p : SessionView _ _). book_of p.seen) c.session.view_is

pub returns-clause-opened : goal.returns-clause-opened
returns-clause-opened g c =
    let d = c.close.result in
    let o = c.into_core.ensures.opening in
    subst (λ (v : CoreView _ _). IsOpenedAs g.B.NodeRead.unchanged c.args.session.seen v) (sym c.into_core.ensures.core)
    (subst (λ (p : SessionView _ _). IsOpenedAs g.B.NodeRead.unchanged p.seen d.core) c.session.view_is
    (opened_as g.B.NodeRead.unchanged c.session.inside.pass.has c.session.inside.pass.seen d.first d.core d.core.book d.drains c.session.invariant.opened c.close.ensures o.0 o.1 o.2 c.into_core.ensures.base))

pub returns-clause-sessions : goal.returns-clause-sessions
returns-clause-sessions g c = subst (λ (v : CoreView _ _). SessionsFit v.book) (sym c.into_core.ensures.core) c.into_core.ensures.fit

pub returns-clause-bodies : goal.returns-clause-bodies
returns-clause-bodies g c = subst (λ (v : CoreView _ _). HasBodies g.C.TreeCall.meaning g.B.NodeRead.contents v) (sym c.into_core.ensures.core) c.into_core.ensures.bodies

pub returns-clause-drained : goal.returns-clause-drained
returns-clause-drained g c =
    let d = c.close.result in
    ap (λ (v : CoreView _ _). v.undrained.after) c.into_core.ensures.core
    ∙ (c.into_core.ensures.drained
    ∙ (closed_drained c.session.inside.pass.has c.session.inside.pass.seen (list_of d.first d.core.book d.drains) (subst (λ (p : SessionView _ _). HasAll p.has) (sym c.session.view_is) c.requires.all) c.session.invariant.opened c.close.ensures
    ∙ ap (λ (p : SessionView _ _). drained_in p.seen) c.session.view_is))

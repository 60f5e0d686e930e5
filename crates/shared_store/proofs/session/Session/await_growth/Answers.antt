use Rattle.std.proofs.Common.{◌≡◌, true, sym, ap, subst, ◌∙◌}
use Rattle.turn_lock.specs.Turns.{has_number, PassView}
use Rattle.shared_store.specs.inside.Desks.{IsSession}
use Rattle.shared_store.proofs.Done.{seen_as}
use Rattle.shared_store.proofs.session.Session.await_growth.Goals as goal

pub invariant_of-self : goal.invariant_of-self
invariant_of-self g c = subst (λ (p : PassView _). IsSession g.C.TreeCall.is_valid g.C.TreeCall.meaning g.B.NodeRead.contents p c.self.inside.number) (sym c.await_growth.ensures.pass) c.self.invariant

pub returns-clause-same : goal.returns-clause-same
returns-clause-same g c = ap (λ (p : PassView _). seen_as p c.self.inside.number) c.await_growth.ensures.pass ∙ c.self.view_is

pub returns-clause-own : goal.returns-clause-own
returns-clause-own g c = subst (λ (p : PassView _). has_number p.has c.self.inside.number ≡ true) (sym c.await_growth.ensures.pass) c.self.invariant.own

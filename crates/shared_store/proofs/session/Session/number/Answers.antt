use Rattle.std.proofs.Common.{◌≡◌, ◌<◌, true, subst}
use Rattle.turn_lock.specs.Turns.{has_number}
use Rattle.shared_store.specs.Lists.{is_opened}
use Rattle.shared_store.specs.Sessions.{SessionView}
use Rattle.shared_store.proofs.session.Session.number.Goals as goal

pub returns-clause-own : goal.returns-clause-own
returns-clause-own g c = subst (λ (p : SessionView _ _). has_number p.has p.under ≡ true) c.self.view_is c.self.invariant.own

pub returns-clause-small : goal.returns-clause-small
returns-clause-small g c = subst (λ (p : SessionView _ _). p.under < 65) c.self.view_is c.self.invariant.small

pub returns-clause-opened : goal.returns-clause-opened
returns-clause-opened g c = subst (λ (p : SessionView _ _). is_opened p.seen ≡ true) c.self.view_is c.self.invariant.opened

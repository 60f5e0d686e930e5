use Rattle.std.proofs.Common.{◌≡◌, true, sym, ap, subst}
use Rattle.turn_lock.specs.Turns.{GoesOn, longer, PassView}
use Rattle.shared_store.specs.Lists.{HasLegalBook, is_opened, number_of}
use Rattle.shared_store.specs.Sessions.{SessionView}
use Rattle.shared_store.specs.inside.Desks.{IsSession}
use Rattle.shared_store.proofs.Done.{of_longer}
use Rattle.shared_store.proofs.session.Session.meet.Goals as goal

pub invariant_of-self : goal.invariant_of-self
invariant_of-self g c =
    subst (λ (p : PassView _). IsSession g.C.TreeCall.is_valid g.C.TreeCall.meaning g.B.NodeRead.contents p c.self.inside.number) (sym c.meet.ensures.pass) (record {
      turn = c.self.invariant.turn;
      own = c.self.invariant.own;
      small = c.self.invariant.small;
      opened = of_longer (λ es. is_opened es ≡ true) c.self.inside.pass.seen c.other.inside.pass.seen c.self.invariant.opened c.other.invariant.opened;
      legal = of_longer (HasLegalBook g.C.TreeCall.is_valid g.C.TreeCall.meaning g.B.NodeRead.contents) c.self.inside.pass.seen c.other.inside.pass.seen c.self.invariant.legal c.other.invariant.legal;
    })

pub returns-clause-goes_on : goal.returns-clause-goes_on
returns-clause-goes_on g c =
    let a = c.self.inside.pass in
    let b = c.other.inside.pass in
    let seen : c.meet.new.pass.seen ≡ longer a.seen b.seen = ap (λ (p : PassView _). p.seen) c.meet.ensures.pass in
    subst (λ (p : SessionView _ _). GoesOn number_of p.has p.seen c.meet.new.pass.seen) c.self.view_is (subst (GoesOn number_of a.has a.seen) (sym seen) c.meet.ensures.goes_on)

pub returns-clause-other_goes_on : goal.returns-clause-other_goes_on
returns-clause-other_goes_on g c =
    let a = c.self.inside.pass in
    let b = c.other.inside.pass in
    let seen : c.meet.new.pass.seen ≡ longer a.seen b.seen = ap (λ (p : PassView _). p.seen) c.meet.ensures.pass in
    subst (λ (p : SessionView _ _). GoesOn number_of p.has p.seen c.meet.new.pass.seen) c.other.view_is (subst (GoesOn number_of b.has b.seen) (sym seen) c.meet.ensures.other_goes_on)

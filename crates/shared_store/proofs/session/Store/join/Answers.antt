use Rattle.std.proofs.Common.{◌≡◌, true, ap, sym, subst, ◌∙◌}
use Rattle.turn_lock.specs.Turns.{GoesOn, longer, PassView}
use Rattle.shared_store.specs.Lists.{HasLegalBook, is_opened, number_of}
use Rattle.shared_store.specs.Sessions.{SessionView}
use Rattle.turn_lock.proofs.Numbers.{merged_at, or_left}
use Rattle.shared_store.specs.inside.Desks.{IsSession}
use Rattle.shared_store.proofs.Done.{of_longer}
use Rattle.shared_store.proofs.session.Store.join.Goals as goal

pub invariant_of-session : goal.invariant_of-session
invariant_of-session g c =
    subst (λ (p : PassView _). IsSession g.C.TreeCall.is_valid g.C.TreeCall.meaning g.B.NodeRead.contents p c.session.inside.number) (sym c.join.ensures.pass) (record {
      turn = c.session.invariant.turn;
      own = merged_at c.session.inside.pass.has c.other.inside.pass.has c.session.inside.number ∙ or_left _ _ c.session.invariant.own;
      small = c.session.invariant.small;
      opened = of_longer (λ es. is_opened es ≡ true) c.session.inside.pass.seen c.other.inside.pass.seen c.session.invariant.opened c.other.invariant.opened;
      legal = of_longer (HasLegalBook g.C.TreeCall.is_valid g.C.TreeCall.meaning g.B.NodeRead.contents) c.session.inside.pass.seen c.other.inside.pass.seen c.session.invariant.legal c.other.invariant.legal;
    })

pub returns-clause-goes_on : goal.returns-clause-goes_on
returns-clause-goes_on g c =
    let a = c.session.inside.pass in
    let b = c.other.inside.pass in
    let seen : c.join.new.pass.seen ≡ longer a.seen b.seen = ap (λ (p : PassView _). p.seen) c.join.ensures.pass in
    subst (λ (p : SessionView _ _). GoesOn number_of p.has p.seen c.join.new.pass.seen) c.session.view_is (subst (GoesOn number_of a.has a.seen) (sym seen) c.join.ensures.goes_on)

pub returns-clause-other_goes_on : goal.returns-clause-other_goes_on
returns-clause-other_goes_on g c =
    let a = c.session.inside.pass in
    let b = c.other.inside.pass in
    let seen : c.join.new.pass.seen ≡ longer a.seen b.seen = ap (λ (p : PassView _). p.seen) c.join.ensures.pass in
    subst (λ (p : SessionView _ _). GoesOn number_of p.has p.seen c.join.new.pass.seen) c.other.view_is (subst (GoesOn number_of b.has b.seen) (sym seen) c.join.ensures.other_goes_on)

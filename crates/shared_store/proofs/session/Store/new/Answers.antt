use Rattle.std.proofs.Common.{refl, sym, subst}
use Rattle.turn_lock.specs.Turns.{PassView}
use Rattle.turn_lock.proofs.Numbers.{all_there}
use Rattle.shared_store.specs.inside.Desks.{IsSession}
use Rattle.shared_store.proofs.session.Store.new.Goals as goal

pub invariant_of-result : goal.invariant_of-result
invariant_of-result g c =
    subst (λ (p : PassView _). IsSession g.C.TreeCall.is_valid g.C.TreeCall.meaning g.B.NodeRead.contents p c.args.number) (sym c.in-Ok-new.ensures.ok) (record { turn = refl; own = all_there c.args.number c.requires.number.1; small = c.requires.number.1; opened = refl; legal = c.is_legal.ensures })

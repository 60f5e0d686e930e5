use Rattle.std.proofs.Common.{ℕ, refl}
use Rattle.shared_store.specs.Calls.{HasTried}
use Rattle.shared_store.proofs.Done.{done, grew_at, session_stays}
use Rattle.shared_store.proofs.session.Session.try_call.Goals as goal

pub give-requires-clause-grew : goal.give-requires-clause-grew
give-requires-clause-grew g c = grew_at c.self.inside.pass c.take-turn.new.pass c.self.inside.number _ _ c.take-turn.ensures.pass c.self.invariant.own c.try_call-result.ensures.under

pub invariant_of-self : goal.invariant_of-self
invariant_of-self g c = session_stays c.self.inside.pass c.take-turn.new.pass c.give.new.pass c.self.inside.number _ _ c.self.invariant c.take-turn.ensures.pass c.give.ensures.pass refl c.is_legal.ensures

pub returns : goal.returns
returns g c =
    done (λ (s : ℕ). λ before after. HasTried g.B.NodeRead.count before s c.args.call c.try_call-result.result after) c.args.self.now c.self.inside.pass c.take-turn.new.pass c.give.new.pass c.self.inside.number _ _ c.self.view_is c.take-turn.ensures.pass c.take-turn.ensures.goes_on c.give.ensures.pass
    c.try_call-result.ensures.told

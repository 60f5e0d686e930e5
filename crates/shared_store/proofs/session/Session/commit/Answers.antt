use Rattle.std.proofs.Common.{ℕ, refl}
use Rattle.shared_store.specs.Calls.{HasCommitted}
use Rattle.shared_store.proofs.Done.{done, grew_at, session_stays}
use Rattle.shared_store.proofs.Waiting.{committed_ended}
use Rattle.shared_store.proofs.session.Session.commit.Goals as goal

pub give-requires-clause-grew : goal.give-requires-clause-grew
give-requires-clause-grew g c = grew_at c.self.inside.pass c.take-turn.new.pass c.self.inside.number _ _ c.take-turn.ensures.pass c.self.invariant.own c.commit-result.ensures.under

pub invariant_of-self : goal.invariant_of-self
invariant_of-self g c = session_stays c.self.inside.pass c.take-turn.new.pass c.give.new.pass c.self.inside.number _ _ c.self.invariant c.take-turn.ensures.pass c.give.ensures.pass refl c.is_legal.ensures

pub returns-clause-done : goal.returns-clause-done
returns-clause-done g c =
    done (λ (s : ℕ). λ before after. HasCommitted g.B.NodeRead.contents g.C.TreeCall.meaning before s c.commit-result.result after) c.args.self.now c.self.inside.pass c.take-turn.new.pass c.give.new.pass c.self.inside.number _ _ c.self.view_is c.take-turn.ensures.pass c.take-turn.ensures.goes_on c.give.ensures.pass
    c.commit-result.ensures.told

pub returns-clause-ended : goal.returns-clause-ended
returns-clause-ended g c = committed_ended g.B.NodeRead.contents g.C.TreeCall.meaning c.args.self.now _ c.commit-result.result (returns-clause-done g c)

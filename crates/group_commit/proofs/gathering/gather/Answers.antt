use Rattle.group_commit.proofs.Gathered.{covered, drainer_is, gathered, met_as}
use Rattle.group_commit.proofs.gathering.gather.Goals as goal

pub returns-clause-drainer : goal.returns-clause-drainer
returns-clause-drainer g c = drainer_is c.args.drainer.now c.meet.new.self c.drain.new.self _ (met_as c.args.drainer.now c.meet.new.self _ c.meet.ensures.seen) c.drain.ensures.done

pub returns-clause-grown : goal.returns-clause-grown
returns-clause-grown g c = (gathered c.args.drainer.now c.meet.new.self c.drain.new.self c.drain.result c.requires.number c.number.ensures.opened (met_as c.args.drainer.now c.meet.new.self _ c.meet.ensures.seen) c.meet.ensures.goes_on c.drain.ensures.done).grown

pub returns-clause-follow : goal.returns-clause-follow
returns-clause-follow g c = (gathered c.args.drainer.now c.meet.new.self c.drain.new.self c.drain.result c.requires.number c.number.ensures.opened (met_as c.args.drainer.now c.meet.new.self _ c.meet.ensures.seen) c.meet.ensures.goes_on c.drain.ensures.done).follow

pub returns-clause-all : goal.returns-clause-all
returns-clause-all g c = (gathered c.args.drainer.now c.meet.new.self c.drain.new.self c.drain.result c.requires.number c.number.ensures.opened (met_as c.args.drainer.now c.meet.new.self _ c.meet.ensures.seen) c.meet.ensures.goes_on c.drain.ensures.done).all

pub returns-clause-drained : goal.returns-clause-drained
returns-clause-drained g c = (gathered c.args.drainer.now c.meet.new.self c.drain.new.self c.drain.result c.requires.number c.number.ensures.opened (met_as c.args.drainer.now c.meet.new.self _ c.meet.ensures.seen) c.meet.ensures.goes_on c.drain.ensures.done).drained

pub returns-clause-covers : goal.returns-clause-covers
returns-clause-covers g c = covered c.args.drainer.now c.meet.new.self c.drain.new.self c.args.session.now.seen c.args.session.now.has c.drain.result c.number-2.ensures.opened c.meet.ensures.other_goes_on c.drain.ensures.done

pub returns-clause-bodies : goal.returns-clause-bodies
returns-clause-bodies g c = c.drain.ensures.bodies

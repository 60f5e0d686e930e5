use Rattle.tx_core.proofs.Bodies.{body_is}
use Rattle.tx_core.proofs.commits.body_from.Goals as goal

pub returns-in-Ok-clause-body : goal.returns-in-Ok-clause-body
returns-in-Ok-clause-body c =
    body_is c.body_of.result c.in-Ok.changes.now c.args.own.now c.in-Ok.ensures.changes c.changes.ensures.list c.body_of.ensures.body c.body_of.ensures.read c.body_of.ensures.short

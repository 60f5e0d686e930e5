use Rattle.tx_core.proofs.Spared.{spared}
use Rattle.tx_core.proofs.asking.ask_next.Goals as goal

pub returns-then-is_covered-clause-answer : goal.returns-then-is_covered-clause-answer
returns-then-is_covered-clause-answer c =
    let before = c.requires.granted in
    spared before.0 c.args.owner c.args.earlier.now c.args.table.now c.args.request.now before.1 (c.is_covered.ensures c.if-is_covered.true)

use Rattle.std.proofs.Common.{◌<◌, Some, ap, sym, subst, ◌∙◌, take, take_all}
use Rattle.node_records.specs.Changes.{changes_of as changes_read}
use Rattle.node_records.proofs.BodyLaws.{changes_again}
use Rattle.tx_core.specs.Commits.{body_limit}
use Rattle.tx_core.proofs.Bodies.{ok_of, past_limit}
use Rattle.tx_core.proofs.commits.body_of.Goals as goal

pub returns-then-len-gt-BODY_LIMIT-clause-limit : goal.returns-then-len-gt-BODY_LIMIT-clause-limit
returns-then-len-gt-BODY_LIMIT-clause-limit c = λ _.
    past_limit c.write_change.new.out c.loop-change.body c.change-item.result c.args.changes.now c.loop-change.change-index c.loop-change-test.true c.change-item.is
    (ok_of c.write_change.result (sym c.is_err.ensures.value ∙ c.if-is_err.false) c.write_change.ensures.ok)
    c.loop-change.invariant.body (subst (λ k. body_limit < k) c.len.ensures c.if-len-gt-BODY_LIMIT.true)

pub returns-clause-read : goal.returns-clause-read
returns-clause-read c =
    let front = take c.loop-change.change-index c.args.changes.now in
    ap changes_read c.loop-change.invariant.body
    ∙ changes_again front c.loop-change.invariant.writable
    ∙ ap Some (take_all c.loop-change.change-index c.args.changes.now c.loop-change-test.false)

use Rattle.std.proofs.Common.{sym, ap, ◌∙◌, not, arith}
use Rattle.lock_resources.specs.declared.request.Request.{Request}
use Rattle.lock_table.specs.Tables.{held}
use Rattle.tx_core.specs.Retries.{has_mode}
use Rattle.tx_core.proofs.AskedAgain.{first_here, first_later, first_none, lacks_by, has_by}
use Rattle.tx_core.proofs.retries.count_held.Goals as goal

pub loop-count-init : goal.loop-count-init
loop-count-init c = record { within = omega arith; so_far = omega arith }

pub returns-then-not-has : goal.returns-then-not-has
returns-then-not-has c =
    let q = c.index-requests-count.result in
    first_here (λ (g : Request). not (has_mode (held c.args.table.now c.args.owner g.resource) g.ask)) c.args.requests.now c.loop-count.count q c.loop-count-test.true c.loop-count.invariant.so_far
    (sym (ap (λ (g : Request). not (has_mode (held c.args.table.now c.args.owner g.resource) g.ask)) c.index-requests-count.is)
    ∙ lacks_by c.held.result (held c.args.table.now c.args.owner q.resource) q.ask c.has.result c.held.ensures.held c.has.ensures c.if-not-has.true)

pub loop-count-preserved : goal.loop-count-preserved
loop-count-preserved c =
    let q = c.index-requests-count.result in
    record {
      within = omega (arith, c.loop-count-test.true);
      so_far = first_later (λ (g : Request). not (has_mode (held c.args.table.now c.args.owner g.resource) g.ask)) c.args.requests.now c.loop-count.count q c.loop-count-test.true c.loop-count.invariant.so_far
          (sym (ap (λ (g : Request). not (has_mode (held c.args.table.now c.args.owner g.resource) g.ask)) c.index-requests-count.is)
          ∙ has_by c.held.result (held c.args.table.now c.args.owner q.resource) q.ask c.has.result c.held.ensures.held c.has.ensures c.if-not-has.false);
    }

pub returns : goal.returns
returns c =
    first_none (λ (g : Request). not (has_mode (held c.args.table.now c.args.owner g.resource) g.ask)) c.args.requests.now c.loop-count.count c.loop-count-test.false c.loop-count.invariant.within c.loop-count.invariant.so_far

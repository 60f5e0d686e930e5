use Rattle.std.proofs.Common.{◌≡◌, ℕ, ◌+◌, ◌*◌, true, false, max, Some, drop, sym, ap, ◌∙◌, arith}
use Rattle.recovery.proofs.ReadyLaws.{front_ended, front_more, front_stops}
use Rattle.recovery.specs.inside.Finishing.{is_ready, ready_front}
use Rattle.recovery.proofs.finishing.ready_front.Goals as goal

pub returns-then-stops-clause-ready : goal.returns-then-stops-clause-ready
returns-then-stops-clause-ready c =
    let inv = c.loop-image.invariant in
    let stops : is_ready c.args.count c.loop-image.end c.loop-image.last c.image-item.result ≡ false = sym c.is_ready-goes_on.ensures ∙ c.if-stops.true in
    let none = front_stops c.args.count c.loop-image.end c.loop-image.last c.args.images.now c.loop-image.image-index c.image-item.result c.loop-image-test.true c.image-item.is stops in
    omega (arith, inv.ready, inv.so_far, none)

pub loop-image-preserved : goal.loop-image-preserved
loop-image-preserved c =
    let inv = c.loop-image.invariant in
    let goes : is_ready c.args.count c.loop-image.end c.loop-image.last c.image-item.result ≡ true = sym c.is_ready-goes_on.ensures ∙ c.if-stops.false in
    let more = front_more c.args.count c.loop-image.end c.loop-image.last c.args.images.now c.loop-image.image-index c.image-item.result c.loop-image-test.true c.image-item.is goes in
    let on : ready_front c.args.count (max c.loop-image.end (8_192 * c.image-item.result.0 + 8_192)) (Some c.image-item.result.0) (drop (c.loop-image.image-index + 1) c.args.images.now)
    ≡ ready_front c.args.count c.end_after-end.result (Some c.image-item.result.0) (drop (c.loop-image.image-index + 1) c.args.images.now) =
    ap (λ (n : ℕ). ready_front c.args.count n (Some c.image-item.result.0) (drop (c.loop-image.image-index + 1) c.args.images.now)) (sym c.end_after-end.ensures) in
    record { ready = omega (arith, inv.ready); so_far = omega (arith, inv.so_far, more, on) }

pub returns-clause-ready : goal.returns-clause-ready
returns-clause-ready c =
    let inv = c.loop-image.invariant in
    let none = front_ended c.args.count c.loop-image.end c.loop-image.last c.args.images.now c.loop-image.image-index c.loop-image-test.false in
    omega (arith, inv.ready, inv.so_far, none)

use Rattle.std.proofs.Common.{ℕ, ◌+◌, Some, get_or, refl, sym, ap, subst, arith}
use Rattle.paged_seq.specs.Sizes.{LabelAhead}
use Rattle.paged_seq.proofs.SizeLaws.{label_begun, label_done, label_missing, label_more, size_within}
use Rattle.paged_seq.proofs.sizes.label_size.Goals as goal

pub loop-at-init : goal.loop-at-init
loop-at-init c = record { within = omega arith; ahead = label_begun c.args.bytes.now }

pub loop-at-preserved : goal.loop-at-preserved
loop-at-preserved c =
    let b = get_or c.args.bytes.now c.loop-at.at 0 in
    let size = c.division_size-at.ensures in
    let less = c.loop-at-test.true in
    let most = size_within b in
    record {
      within = omega (arith, less, size, most.1);
      ahead = subst (λ (k : ℕ). LabelAhead c.args.bytes.now (c.loop-at.at + k)) (sym size) (label_more c.args.bytes.now c.loop-at.at b c.loop-at.invariant.ahead less refl c.if-first-eq-END.false);
    }

pub loop-at-smaller : goal.loop-at-smaller
loop-at-smaller c = let b = get_or c.args.bytes.now c.loop-at.at 0 in let size = c.division_size-at.ensures in let some = (size_within b).0 in let less = c.loop-at-test.true in omega (arith, size, some, less)

pub returns-then-first-eq-END-clause-size : goal.returns-then-first-eq-END-clause-size
returns-then-first-eq-END-clause-size c l e = ap (λ (n : ℕ). Some n) (label_done c.args.bytes.now c.loop-at.at l c.loop-at.invariant.ahead c.if-first-eq-END.true e)

pub returns-clause-size : goal.returns-clause-size
returns-clause-size c l e = let over = c.loop-at-test.false in absurd (label_missing c.args.bytes.now c.loop-at.at l c.loop-at.invariant.ahead (omega (arith, over)) e)

use Rattle.std.proofs.Common.{◌+◌, ◌-◌, ◌/◌, refl, sym, arith}
use Rattle.paged_seq.specs.Places.{passes}
use Rattle.paged_seq.proofs.PlaceLaws.{last_fails_there}
use Rattle.paged_seq.proofs.search.pages_before.Goals as goal

pub loop-low-preserved : goal.loop-low-preserved
loop-low-preserved c =
    let inv = c.loop-low.invariant in
    let middle = c.loop-low.low + (c.loop-low.high - c.loop-low.low) / 2 in
    let less = c.loop-low-test.true in
    let within = inv.within in
    record {
      ordered = omega (arith, less);
      within = within;
      last = last_fails_there (passes c.args.key.now c.args.beyond) c.args.starts.now middle (middle + 1) c.index-starts-middle.result (omega (arith, less, within)) refl c.index-starts-middle.is (sym c.if-passes.ensures);
      next = inv.next;
    }

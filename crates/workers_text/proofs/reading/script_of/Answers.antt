use Rattle.std.proofs.Common.{rules, arith, sym, subst}
use Rattle.script_runs.specs.inside.Feeding.{IsInLine}
use Rattle.script_runs.proofs.FeedingLaws.{empty_is_not}
use Rattle.workers_text.proofs.LineByLine.{cut_at, last_on, line_on}
use Rattle.workers_text.proofs.reading.script_of.Goals as goal

pub loop-place-preserved : goal.loop-place-preserved
loop-place-preserved c =
    let invariant = c.loop-place.invariant in
    let ends = c.in-Some.ensures in
    let rest = c.loop-place.rest.now in
    let line = c.split_at.result.0.now in
    let next = c.split_at-in-Some.result.1.now in
    let cut = cut_at rest line c.split_at.result.1.now next c.in-Some.place ends c.split_at.ensures.front c.split_at.ensures.back c.split_at-in-Some.ensures.back in
    let in_line = subst IsInLine (sym c.split_at.ensures.front) ends.in_line in
    record {
      so_far = line_on c.loop-place.script.entries c.add_line.new.script.entries c.loop-place.lines rest line next c.args.bytes.now c.in_ok-add_line.ensures cut in_line invariant.so_far;
      count = omega (arith, invariant.count, ends.within, c.split_at.ensures.back_len, c.split_at-in-Some.ensures.back_len);
    }

pub returns : goal.returns
returns c =
    let rest = c.loop-place.rest.now in
    let some = empty_is_not rest (search rules) in
    last_on c.loop-place.script.entries c.add_line-2.new.script.entries c.loop-place.lines rest c.args.bytes.now c.in_ok-add_line-2.ensures c.in_default.ensures some c.loop-place.invariant.so_far

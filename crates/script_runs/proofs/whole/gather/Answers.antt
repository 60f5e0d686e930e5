use Rattle.std.proofs.Common.{rules, arith, ◌≡◌, ◌+◌, ◌<◌, ◌≤◌, ◌++◌, length, take, length-append}
use Rattle.outside_traits.proofs.Laws.{gave_on}
use Rattle.std.proofs.lemmas.List.{length-take-le}
use Rattle.script_runs.specs.Whole.{piece as most_piece}
use Rattle.script_runs.proofs.whole.gather.Goals as goal

pub returns-then-limit-len-clause-read : goal.returns-then-limit-len-clause-read
returns-then-limit-len-clause-read g c =
    let invariant = c.loop-count.invariant in
    let read = c.in-Ok-read.ensures in
    let bytes = c.loop-count.bytes.items in
    let piece = take c.in-Ok-read.count c.read.new.buf in
    let count : length piece ≡ c.in-Ok-read.count = length-take-le c.in-Ok-read.count c.read.new.buf (omega (arith, read.bound, c.read.auto.buf, c.deref_mut.ensures.len)) in
    let over : c.args.limit < length bytes + c.in-Ok-read.count = search rules in
    let most : c.in-Ok-read.count ≤ most_piece = omega (arith, read.bound, c.deref_mut.ensures.len, invariant.most) in (
      bytes ++ piece,
      gave_on _ _ _ bytes piece invariant.gave read.bytes,
      omega (arith, invariant.given, read.count, count, length-append bytes piece),
      record { past = omega (arith, over, count, length-append bytes piece); most = omega (arith, most, count, length-append bytes piece, invariant.within) },
    )

pub returns-then-is_err-clause-read : goal.returns-then-is_err-clause-read
returns-then-is_err-clause-read g c =
    let invariant = c.loop-count.invariant in
    let read = c.in-Ok-read.ensures in
    let bytes = c.loop-count.bytes.items in
    let piece = take c.in-Ok-read.count c.read.new.buf in
    let count : length piece ≡ c.in-Ok-read.count = length-take-le c.in-Ok-read.count c.read.new.buf (omega (arith, read.bound, c.read.auto.buf, c.deref_mut.ensures.len)) in
    let most : c.in-Ok-read.count ≤ most_piece = omega (arith, read.bound, c.deref_mut.ensures.len, invariant.most) in (
      bytes ++ piece,
      gave_on _ _ _ bytes piece invariant.gave read.bytes,
      omega (arith, invariant.given, read.count, count, length-append bytes piece),
      omega (arith, most, count, length-append bytes piece, invariant.within),
    )

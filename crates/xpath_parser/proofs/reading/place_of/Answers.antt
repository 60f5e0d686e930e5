use Rattle.std.proofs.Common.{◌+◌, take, arith}
use Rattle.xpath_parser.proofs.Encoded.{encoded_within, encoded_more}
use Rattle.xpath_parser.proofs.reading.place_of.Goals as goal

pub overflow_add-place : goal.overflow_add-place
overflow_add-place c =
    let front = take c.saturating_sub.result c.args.text.now in
    let more = encoded_more front c.loop-c.c-index c.c-item.result c.loop-c-test.true c.c-item.is in
    let within_front = encoded_within (c.loop-c.c-index + 1) front in
    let within = encoded_within c.saturating_sub.result c.args.text.now in
    omega (arith, more, within_front, within, c.loop-c.invariant, c.len_utf8.ensures.len, c.requires)

pub loop-c-preserved : goal.loop-c-preserved
loop-c-preserved c =
    let front = take c.saturating_sub.result c.args.text.now in
    let more = encoded_more front c.loop-c.c-index c.c-item.result c.loop-c-test.true c.c-item.is in
    omega (arith, more, c.loop-c.invariant, c.len_utf8.ensures.len)

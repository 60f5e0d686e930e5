use Rattle.std.proofs.Common.{◌∙◌, arith}
use Rattle.std.specs.Str.Iter.{chars_rest}
use Rattle.std.proofs.lemmas.Str.{IsUtf8-past_char}
use Rattle.xpath_values.proofs.CharacterCuts.{past_end, one_more, from_rest}
use Rattle.xpath_values.proofs.characters.without_first.Goals as goal

pub returns-in-None : goal.returns-in-None
returns-in-None c =
    let i = c.loop-passed.invariant in
    past_end c.loop-passed.passed c.args.count c.args.text.now (chars_rest c.loop-passed.rest) i.within i.left c.in-None.ensures.steps.0.0

pub loop-passed-preserved : goal.loop-passed-preserved
loop-passed-preserved c =
    let i = c.loop-passed.invariant in
    let rest = chars_rest c.loop-passed.rest in
    let behind = chars_rest c.next.new.self in
    let front = c.in-Some.ensures.steps.0 in
    record {
      within = omega arith;
      utf8 = IsUtf8-past_char rest behind c.in-Some.field-0 i.utf8 front;
      left = one_more c.loop-passed.passed c.in-Some.field-0 c.args.text.now rest behind i.utf8 i.left front;
    }

pub returns : goal.returns
returns c =
    let i = c.loop-passed.invariant in
    c.as_str.ensures ∙ from_rest c.loop-passed.passed c.args.count c.args.text.now (chars_rest c.loop-passed.rest) i.utf8 (omega arith) i.left

use Rattle.std.proofs.Common.{false, string_bytes, sym, ◌∙◌}
use Rattle.std.proofs.lemmas.Bool.{false≢true}
use Rattle.std.specs.Str.Iter.{chars_rest}
use Rattle.path_model.specs.Texts.{normal_from}
use Rattle.xpath_values.proofs.SpaceRuns.{char_more, all_written}
use Rattle.xpath_values.proofs.spaces.normalize_space.Goals as goal

pub loop-c-preserved : goal.loop-c-preserved
loop-c-preserved c =
    let i = c.loop-c.invariant in
    let text = string_bytes c.loop-c.normal in
    let more = string_bytes c.push_behind.new.text in
    let other = sym c.is_space_char.ensures ∙ c.if-is_space_char.false in
    record {
      whole = char_more text more (chars_rest c.loop-c.c-iterator) (chars_rest c.next.new.self) (normal_from false c.args.text.now) c.loop-c.has_gap c.in-Some.c c.in_ok-push_behind.ensures c.in-Some.ensures.steps.0 other i.whole;
      behind = λ e. absurd (false≢true e);
    }

pub returns : goal.returns
returns c =
    let text = string_bytes c.loop-c.normal in
    c.from_string.ensures ∙ all_written text (chars_rest c.loop-c.c-iterator) (normal_from false c.args.text.now) c.loop-c.has_gap c.in-None.ensures.steps.0.0 c.loop-c.invariant.whole

use Rattle.std.proofs.Common.{◌≡◌, false, nat_lt, length, drop, sym, ap, ◌∙◌, arith}
use Rattle.std.proofs.lemmas.Bool.Decides.{nat_tests}
use Rattle.std.specs.Str.{chars}
use Rattle.std.specs.Str.Iter.{chars_rest}
use Rattle.dom_reads.proofs.CharacterCuts.{character_read, drop_one, one_left, behind_is, behind_shorter, before_is, before_utf8}
use Rattle.dom_reads.proofs.text_cuts.cut.Goals as goal

pub loop-taken-preserved : goal.loop-taken-preserved
loop-taken-preserved c =
    let i = c.loop-taken.invariant in
    let read = character_read (chars_rest c.loop-taken.rest) c.in_ok-next.field-0 (chars_rest c.next.new.self) i.utf8 c.in_ok-next.ensures.steps.0 in
    let there = one_left c.loop-taken.taken (chars c.args.text.now) c.in_ok-next.field-0 (chars (chars_rest c.next.new.self)) (i.rest ∙ read.1) in
    record {
      within = omega arith;
      there = omega arith;
      utf8 = read.0;
      rest = drop_one c.loop-taken.taken (chars c.args.text.now) c.in_ok-next.field-0 (chars (chars_rest c.next.new.self)) (i.rest ∙ read.1);
    }

-- the characters behind the cut
characters_behind : (c : goal.After-as_str-behind) → drop c.args.characters (chars c.args.text.now) ≡ chars c.as_str-behind.result.now
characters_behind c =
    let i = c.loop-taken.invariant in
    let all : c.args.characters ≡ c.loop-taken.taken = omega arith in
    ap (λ n. drop n (chars c.args.text.now)) all ∙ i.rest ∙ ap chars (sym c.as_str-behind.ensures)

pub overflow_sub-text : goal.overflow_sub-text
overflow_sub-text c = behind_shorter c.args.characters c.args.text.now c.as_str-behind.result.now c.utf8.text c.as_str-behind.utf8 (characters_behind c)

pub prefix-before-requires-clause-characters : goal.prefix-before-requires-clause-characters
prefix-before-requires-clause-characters c = before_utf8 c.args.characters c.args.text.now c.as_str-behind.result.now c.utf8.text c.as_str-behind.utf8 (characters_behind c)

pub returns : goal.returns
returns c =
    let i = c.loop-taken.invariant in
    let behind = c.as_str-behind.result.now in
    let d = c.args.text.now in
    let all : c.args.characters ≡ c.loop-taken.taken = omega arith in
    let is : drop c.args.characters (chars d) ≡ chars behind = ap (λ n. drop n (chars d)) all ∙ i.rest ∙ ap chars (sym c.as_str-behind.ensures) in
    let some : nat_lt (length (chars d)) c.args.characters ≡ false = (let there = i.there in grind (arith, nat_tests)) in (
      some,
      c.prefix-before.ensures ∙ before_is c.args.characters d behind c.utf8.text c.as_str-behind.utf8 is,
      behind_is c.args.characters d behind c.utf8.text c.as_str-behind.utf8 is,
    )

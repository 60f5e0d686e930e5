use Rattle.std.proofs.Common.{◌≡◌, ◌-◌, length, take, ap, ◌∙◌, arith}
use Rattle.xpath_values.proofs.CharacterCuts.{shorter, may_cut, front_is}
use Rattle.xpath_values.proofs.characters.first_characters.Goals as goal

pub overflow_sub-text : goal.overflow_sub-text
overflow_sub-text c = shorter c.args.count c.args.text.now c.without_first-behind.result.now c.utf8.text c.without_first-behind.utf8 c.without_first-behind.ensures

pub range-requires-clause-end_boundary : goal.range-requires-clause-end_boundary
range-requires-clause-end_boundary c = may_cut c.args.count c.args.text.now c.without_first-behind.result.now c.utf8.text c.without_first-behind.utf8 c.without_first-behind.ensures

pub returns : goal.returns
returns c =
    let text = c.args.text.now in
    let behind = c.without_first-behind.result.now in
    let from_start : length text - length behind - 0 ≡ length text - length behind = omega arith in
    c.range.ensures.value ∙ ap (λ n. take n text) from_start ∙ front_is c.args.count text behind c.utf8.text c.without_first-behind.utf8 c.without_first-behind.ensures

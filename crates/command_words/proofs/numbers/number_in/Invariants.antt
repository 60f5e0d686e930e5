use Rattle.std.proofs.Common.{◌≡◌, ◌<◌, ◌≤◌, ◌^◌, drop, length}
use Rattle.std.specs.List.{list_all}
use Rattle.command_words.specs.Numbers.{is_digit, value_behind}
use Rattle.command_words.proofs.numbers.number_in.Given as goal

-- the digits that are left lead to what all write, all of them are digits where those are, and what was read has so many digits
abbrev pub invariant-loop-digit : goal.invariant-loop-digit
invariant-loop-digit l = (0 < length l.fn.text) × (length l.fn.text ≤ 10) × (value_behind l.value (drop l.digit-index l.fn.text) ≡ value_behind 0 l.fn.text)
    × (list_all is_digit (drop l.digit-index l.fn.text) ≡ list_all is_digit l.fn.text) × (l.value < 10 ^ l.digit-index)

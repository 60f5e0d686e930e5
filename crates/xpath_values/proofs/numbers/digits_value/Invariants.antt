use Rattle.std.proofs.Common.{◌≡◌, ◌<◌, ◌^◌, drop}
use Rattle.std.specs.List.{list_all}
use Rattle.path_model.specs.Numbers.{digits_value, is_digit}
use Rattle.xpath_values.proofs.numbers.digits_value.Given as goal

-- the value so far, read on through the rest, is the whole one
abbrev pub invariant-loop-digit : goal.invariant-loop-digit
invariant-loop-digit l = record {
  whole : digits_value l.value (drop l.digit-index l.digits) ≡ digits_value 0 l.digits;
  digits : list_all is_digit (drop l.digit-index l.digits) ≡ list_all is_digit l.digits;
  below : l.value < 10 ^ l.digit-index;
}

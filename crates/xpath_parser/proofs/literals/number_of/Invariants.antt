use Rattle.std.proofs.Common.{◌≡◌, ◌<◌, ◌^◌, drop}
use Rattle.std.specs.List.{list_all}
use Rattle.path_model.specs.Numbers.{is_digit, digits_value}
use Rattle.xpath_parser.proofs.literals.number_of.Given as goal

abbrev pub invariant-loop-c : goal.invariant-loop-c
invariant-loop-c l = record {
  rest : digits_value 0 l.text ≡ digits_value l.number (drop l.c-index l.text);
  digits : list_all is_digit l.text ≡ list_all is_digit (drop l.c-index l.text);
  small : l.number < 10 ^ l.c-index;
}

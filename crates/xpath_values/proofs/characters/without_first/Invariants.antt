use Rattle.std.proofs.Common.{◌≡◌, ◌≤◌, drop}
use Rattle.std.specs.Str.{chars, IsUtf8}
use Rattle.std.specs.Str.Iter.{chars_rest}
use Rattle.xpath_values.proofs.characters.without_first.Given as goal

abbrev pub invariant-loop-passed : goal.invariant-loop-passed
invariant-loop-passed l = record {
  within : l.passed ≤ l.count;
  utf8 : IsUtf8 (chars_rest l.rest);
  left : drop l.passed (chars l.text) ≡ chars (chars_rest l.rest);
}

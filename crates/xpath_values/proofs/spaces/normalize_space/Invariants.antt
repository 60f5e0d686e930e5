use Rattle.std.proofs.Common.{◌≡◌, ◌++◌, true, false, string_bytes}
use Rattle.std.specs.Str.Iter.{chars_rest}
use Rattle.path_model.specs.Texts.{normal_from}
use Rattle.path_model.specs.Values.{is_filled}
use Rattle.xpath_values.proofs.SpaceRuns.{left}
use Rattle.xpath_values.proofs.spaces.normalize_space.Given as goal

-- what is written, and what is still to write, are the whole
abbrev pub invariant-loop-c : goal.invariant-loop-c
invariant-loop-c l = record {
  whole : string_bytes l.normal ++ left (is_filled (string_bytes l.normal)) l.has_gap (chars_rest l.c-iterator) ≡ normal_from false l.text;
  behind : l.has_gap ≡ true → is_filled (string_bytes l.normal) ≡ true;
}

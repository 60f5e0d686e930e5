use Rattle.std.proofs.Common.{◌≡◌, ◌≤◌, length, drop}
use Rattle.std.specs.Str.{chars, IsUtf8}
use Rattle.std.specs.Str.Iter.{chars_rest}
use Rattle.dom_reads.proofs.text_cuts.cut.Given as goal

abbrev pub invariant-loop-taken : goal.invariant-loop-taken
invariant-loop-taken l = record {
  within : l.taken ≤ l.characters;
  there : l.taken ≤ length (chars l.text);
  utf8 : IsUtf8 (chars_rest l.rest);
  rest : drop l.taken (chars l.text) ≡ chars (chars_rest l.rest);
}

use Rattle.std.proofs.Common.{◌≡◌, ◌∷◌, ◌++◌, string_bytes}
use Rattle.std.specs.Str.Iter.{chars_rest}
use Rattle.jsonml_io.specs.Pointers.{escaped}
use Rattle.jsonml_io.proofs.pointer.step_to_member.Given as goal

-- what is written and what is left to write are the whole step
abbrev pub invariant-loop-c : goal.invariant-loop-c
invariant-loop-c l = string_bytes l.step ++ escaped (chars_rest l.c-iterator) ≡ 47 ∷ escaped l.fn.name

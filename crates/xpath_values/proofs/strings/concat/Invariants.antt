use Rattle.std.proofs.Common.{◌≡◌, ◌++◌, drop, string_bytes}
use Rattle.path_model.specs.Texts.{joined}
use Rattle.xpath_values.proofs.strings.concat.Given as goal

-- what is joined, and then the rest, are all parts
abbrev pub invariant-loop-part : goal.invariant-loop-part
invariant-loop-part l = string_bytes l.joined ++ joined (drop l.part-index l.parts) ≡ joined l.parts

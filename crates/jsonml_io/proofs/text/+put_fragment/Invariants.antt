use Rattle.std.proofs.Common.{◌≡◌, ◌++◌, drop}
use Rattle.jsonml_io.specs.inside.Tokens.{row_tokens}
use Rattle.jsonml_io.proofs.text.+put_fragment.Given as goal

-- what is put and what is left of the children are all
abbrev pub invariant-loop-child : goal.invariant-loop-child
invariant-loop-child l = record {
  tokens : l.writer.tokens ++ row_tokens (drop l.child-index l.child-items) ≡ l.initial.writer.tokens ++ row_tokens l.child-items;
  before : l.writer.before ≡ l.fn.writer.before;
}

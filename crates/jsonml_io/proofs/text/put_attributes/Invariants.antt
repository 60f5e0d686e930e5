use Rattle.std.proofs.Common.{◌≡◌, ◌++◌, ◌∷◌, drop}
use Rattle.json.specs.Token.{begin_object}
use Rattle.jsonml_io.specs.inside.Tokens.{member_tokens}
use Rattle.jsonml_io.proofs.text.put_attributes.Given as goal

-- what is put and what is left are the whole object
abbrev pub invariant-loop-name : goal.invariant-loop-name
invariant-loop-name l = record {
  tokens : l.writer.tokens ++ member_tokens (drop l.name-index l.attrs) ≡ l.fn.writer.tokens ++ begin_object ∷ member_tokens l.attrs;
  before : l.writer.before ≡ l.fn.writer.before;
}

use Rattle.std.proofs.Common.{◌≡◌, true, ap, sym, ◌∙◌}
use Rattle.jsonml_io.specs.inside.Tokens.{names_rise}
use Rattle.jsonml_io.proofs.TokenLaws.{opened}
use Rattle.jsonml_io.proofs.text.put_opening.Goals as goal

pub returns-clause-tokens : goal.returns-clause-tokens
returns-clause-tokens c = λ _.
    let rise : names_rise c.args.attrs.now ≡ true = ap names_rise (sym c.as_slice.ensures) ∙ sym c.names_rise.ensures ∙ c.if-not-names_rise.false in
    opened c.args.writer.now.tokens c.begin_array.new.self.tokens c.string.new.self.tokens c.put_attributes.new.writer.tokens c.args.name.now c.as_str.result.now
    c.args.attrs.now c.as_slice-2.result.now c.is_empty.result
    c.in_ok-begin_array.ensures.ok c.in_ok-string.ensures.ok c.as_str.ensures.bytes c.in_ok-put_attributes.ensures.tokens c.as_slice-2.ensures c.if-is_empty.false c.is_empty.ensures rise

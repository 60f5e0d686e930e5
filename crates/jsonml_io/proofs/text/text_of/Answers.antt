use Rattle.std.proofs.Common.{◌≡◌, List, [], ◌++◌, ap, ◌∙◌}
use Rattle.json.specs.Print.{print}
use Rattle.json.specs.Token.{Token}
use Rattle.serde_json.proofs.Texts.{print-outline}
use Rattle.jsonml_io.specs.Written.{json_of}
use Rattle.jsonml_io.specs.inside.Tokens.{fragment_tokens}
use Rattle.jsonml_io.proofs.text.text_of.Goals as goal

pub returns-then-whole : goal.returns-then-whole
returns-then-whole c =
    let f = c.args.fragment.now in
    let written = c.put_fragment.new.writer in
    let before : written.before ≡ [] = c.put_fragment.ensures.before ∙ c.new-writer.ensures.before ∙ c.new.ensures.items in
    let tokens : written.tokens ≡ fragment_tokens f = c.in_ok-whole.ensures.tokens c.if-whole.true ∙ ap (λ (ts : List Token). ts ++ fragment_tokens f) c.new-writer.ensures.tokens in
    c.into_inner.ensures.items ∙ (λ i. before i ++ print (tokens i)) ∙ print-outline (json_of f)

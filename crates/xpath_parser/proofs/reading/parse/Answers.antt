use Rattle.std.proofs.Common.{rules, arith, ◌≡◌, ◌∙◌, ap, length, encode_utf8_all, Ok}
use Rattle.std.proofs.lemmas.Str.{encodes-chars}
use Rattle.xpath_parser.proofs.LawfulPaths.{parsed_lawful}
use Rattle.xpath_parser.specs.Parse.{parsed}
use Rattle.xpath_parser.proofs.reading.parse.Goals as goal

pub error_of-requires : goal.error_of-requires
error_of-requires c =
    let e : length (encode_utf8_all c.deref-in-Err.result.now) ≡ length c.args.text.now =
    ap length (ap encode_utf8_all (c.deref-in-Err.ensures.value ∙ c.in_ok-characters.ensures) ∙ encodes-chars c.args.text.now c.utf8.text) in
    rw e (first_of (search rules, omega arith))

pub returns-in-Ok-clause-lawful : goal.returns-in-Ok-clause-lawful
returns-in-Ok-clause-lawful c =
    let read : parsed c.args.text.now ≡ Ok c.in-Ok.path = search rules in
    parsed_lawful c.args.text.now c.in-Ok.path read

use Rattle.std.proofs.Common.{rules, arith}
use Rattle.std.proofs.lemmas.Grind.{common_steps}
use Rattle.std.proofs.lemmas.Str.{encodes-append}
use Rattle.xpath_parser.proofs.names.text_of.Goals as goal

pub loop-c-preserved : goal.loop-c-preserved
loop-c-preserved c = first_of (grind (arith, common_steps, encodes-append), search (rules, encodes-append))

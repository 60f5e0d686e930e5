use Rattle.std.proofs.Common.{◌≡◌, take, length, encode_utf8_all}
use Rattle.xpath_parser.proofs.reading.place_of.Given as goal

abbrev pub invariant-loop-c : goal.invariant-loop-c
invariant-loop-c l = l.place ≡ length (encode_utf8_all (take l.c-index l.c-items))

use Rattle.std.proofs.Common.{◌≡◌, map, drop}
use Rattle.xpath_parser.specs.Words.{find_word, function_row}
use Rattle.xpath_parser.proofs.words.find_function.Given as goal

-- the rows left have what all have
abbrev pub invariant-loop-word : goal.invariant-loop-word
invariant-loop-word l =
    find_word l.name (map (λ row. function_row row.0.now row.1 row.2 row.3 row.4) l.rows)
    ≡ find_word l.name (map (λ row. function_row row.0.now row.1 row.2 row.3 row.4) (drop l.word-index l.rows))

use Rattle.std.proofs.Common.{◌≡◌, map, drop}
use Rattle.xpath_parser.specs.Words.{find_word}
use Rattle.xpath_parser.proofs.words.find_axis.Given as goal

-- the rows left have what all have
abbrev pub invariant-loop-word : goal.invariant-loop-word
invariant-loop-word l =
    find_word l.name (map (λ row. (row.0.now, row.1)) l.rows) ≡ find_word l.name (map (λ row. (row.0.now, row.1)) (drop l.word-index l.rows))

-- What a cursor shows, and what it keeps ready.
use Rattle.std.specs.Prelude.{◌≡◌, ◌≤◌, length}
use Rattle.xpath_parser.specs.declared.tokens.Tokens.TheInside.{Inside}
use Rattle.xpath_parser.specs.Lex.{Text, token}

abbrev pub text_of : Inside → Text
text_of t = t.ahead.now

abbrev pub IsReady : Inside → Type 0
IsReady t = (t.token ≡ token t.ahead.now) × (t.token.1 ≤ length t.ahead.now)

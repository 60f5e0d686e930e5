-- What a parser reads from, the text from the next token on, and the steps that every rule is made of. A refusal tells how many characters stand from the refused token on.
use Rattle.std.specs.Prelude.{◌≡◌, ◌≢◌, ℕ, Bool, ◌&&◌, if◌then◌else◌, List, length, take, drop, encode_utf8_all, Result, Ok, Err}
use Rattle.std.specs.Str.{bytes_eq}
use denote.Enum.Bare.{sameb}
use Rattle.xpath_parser.specs.contracts.lex.Kind.{the_type}
use Rattle.xpath_parser.specs.declared.lex.Kind.{Kind}
use Rattle.xpath_parser.specs.declared.lex.Kind.TheVariants.{Name}
use Rattle.xpath_parser.specs.declared.refusal.Refusal.{Refusal}
use Rattle.xpath_parser.specs.declared.refusal.Refusal.TheVariants.{Syntax, Unsupported, NoMemory}
use Rattle.xpath_parser.specs.declared.refusal.What.{What}
use Rattle.xpath_parser.specs.Lex.{Text, token, skip}

-- ---- the next token

unfoldable pub kind : Text → Kind
kind i = (token i).0

unfoldable pub spelling : Text → Text
spelling i = take (token i).1 i

unfoldable pub next : Text → Text
next i = skip (drop (token i).1 i)

abbrev pub same_kind : Kind → Kind → Bool
same_kind a b = sameb the_type a b

unfoldable pub sees : Kind → Text → Bool
sees k i = same_kind (kind i) k

-- the next token is this name
unfoldable pub sees_word : Text → Text → Bool
sees_word word i = sees Name i && bytes_eq (spelling i) word

-- ---- parsers

abbrev pub Outcome : Type 0 → Type 0
Outcome A = Result (A × Text) Refusal

abbrev pub Parser : Type 0 → Type 0
Parser A = Text → Outcome A

abbrev pub and_then : {A B : Type 0} → Outcome A → (A → Parser B) → Outcome B
and_then (Ok p) f = f p.0 p.1
and_then (Err e) f = Err e

infixl 10 ◌>>=◌
abbrev pub ◌>>=◌ : {A B : Type 0} → Parser A → (A → Parser B) → Parser B
p >>= f = λ i. and_then (p i) f

infixl 10 ◌>>◌
abbrev pub ◌>>◌ : {A B : Type 0} → Parser A → Parser B → Parser B
p >> q = p >>= (λ _. q)

abbrev pub pure : {A : Type 0} → A → Parser A
pure a = λ i. Ok (a, i)

-- the next token is refused
abbrev pub refuse : {A : Type 0} → Parser A
refuse = λ i. Err (Syntax (length i))

abbrev pub unsupported : {A : Type 0} → What → Parser A
unsupported what = λ i. Err (Unsupported what (length i))

abbrev pub peek : Parser Kind
peek = λ i. Ok (kind i, i)

abbrev pub take_token : Parser (Unit {0})
take_token = λ i. Ok (tt, next i)

-- the UTF-8 of the token's characters
abbrev pub take_name : Parser (List ℕ)
take_name = λ i. Ok (encode_utf8_all (spelling i), next i)

unfoldable pub expect : Kind → Parser (Unit {0})
expect k = λ i. if sees k i then Ok (tt, next i) else refuse i

-- what a function that parses ensures: the parser's outcome, unless memory fails
abbrev pub Reads : {A : Type 0} → Outcome A → Result A Refusal → Text → Type 0
Reads outcome (Ok a) new = outcome ≡ Ok (a, new)
Reads outcome (Err e) new = e ≢ NoMemory → outcome ≡ Err e

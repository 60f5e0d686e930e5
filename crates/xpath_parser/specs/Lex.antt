-- Tokens of a path (XPath 1.0, section 3.7, with the names of docs/PROFILE.md, "Paths"). A text is the list of its characters; where two tokens fit, the longest is taken.
use Rattle.std.specs.Prelude.{ℕ, ◌+◌, Bool, true, false, not, ◌&&◌, ◌||◌, if◌then◌else◌, ◌==◌, nat_lt, List, [], ◌∷◌, length, drop}
use Rattle.std.specs.List.{prefix_len}
use Rattle.tree_model.specs.Names.{is_start_char, is_name_char}
use Rattle.path_model.specs.Numbers.{is_space, is_digit}
use Rattle.xpath_parser.specs.declared.lex.Kind.{Kind}
use Rattle.xpath_parser.specs.declared.lex.Kind.TheVariants.{End, Bad, Name, Prefix, Number, Fraction, Literal, Variable, Open, Close, OpenBracket, CloseBracket, Comma, At, DoubleColon, Slash, DoubleSlash, Dot, DoubleDot, Star, Bar, Plus, Minus, Equal, NotEqual, Less, LessEqual, Greater, GreaterEqual}

abbrev pub Text : Type 0
Text = List ℕ

-- the first character is there and passes
abbrev pub first_passes : (ℕ → Bool) → Text → Bool
first_passes test [] = false
first_passes test (c ∷ z) = test c

abbrev pub begins_with_char : ℕ → Text → Bool
begins_with_char c z = first_passes (λ d. d == c) z

-- ---- names

-- in a run of name characters a colon is none
abbrev pub begins_run : ℕ → Bool
begins_run c = is_start_char c && not (c == 58)

abbrev pub is_in_run : ℕ → Bool
is_in_run c = is_name_char c && not (c == 58)

abbrev pub run : Text → ℕ
run z = prefix_len is_in_run z

-- behind a run of so many characters and a colon: a second run belongs to the name, and so does a `*`
unfoldable pub behind_colon : ℕ → Text → Kind × ℕ
behind_colon n z =
    if first_passes begins_run z then (Name, n + 1 + run z)
    else if begins_with_char 42 z then (Prefix, n + 2) else (Name, n)

-- behind the first run
unfoldable pub behind_run : ℕ → Text → Kind × ℕ
behind_run n z = if begins_with_char 58 z then behind_colon n (drop 1 z) else (Name, n)

abbrev pub name_token : Text → Kind × ℕ
name_token z = behind_run (run z) (drop (run z) z)

-- ---- numbers and literals

abbrev pub digits : Text → ℕ
digits z = prefix_len is_digit z

-- behind so many digits
unfoldable pub behind_digits : ℕ → Text → Kind × ℕ
behind_digits n z =
    if begins_with_char 46 z then (Fraction, n + 1 + digits (drop 1 z))
    else (Number, n)

abbrev pub number_token : Text → Kind × ℕ
number_token z = behind_digits (digits z) (drop (digits z) z)

-- behind a point
unfoldable pub behind_point : Text → Kind × ℕ
behind_point z =
    if begins_with_char 46 z then (DoubleDot, 2)
    else if first_passes is_digit z then (Fraction, 1 + digits z) else (Dot, 1)

-- how many characters stand before the quote
abbrev pub quoted : ℕ → Text → ℕ
quoted q z = prefix_len (λ c. not (c == q)) z

-- behind the quote that opens a literal, which the same one closes
unfoldable pub behind_quote : ℕ → Text → Kind × ℕ
behind_quote q z = if nat_lt (quoted q z) (length z) then (Literal, quoted q z + 2) else (Bad, 1)

-- behind a `$`
unfoldable pub behind_dollar : Text → Kind × ℕ
behind_dollar z = if first_passes begins_run z then (Variable, 1 + run z) else (Bad, 1)

-- ---- signs

abbrev pub sign : ℕ → Kind
sign c =
    if c == 40 then Open else if c == 41 then Close else if c == 91 then OpenBracket else if c == 93 then CloseBracket
    else if c == 44 then Comma else if c == 64 then At else if c == 42 then Star else if c == 124 then Bar
    else if c == 43 then Plus else if c == 45 then Minus else if c == 61 then Equal
    else if c == 47 then Slash else if c == 60 then Less else if c == 62 then Greater else Bad

-- two characters that are one sign
abbrev pub double_sign : ℕ → ℕ → Kind
double_sign c d =
    if c == 47 && d == 47 then DoubleSlash else if c == 58 && d == 58 then DoubleColon
    else if c == 33 && d == 61 then NotEqual else if c == 60 && d == 61 then LessEqual
    else if c == 62 && d == 61 then GreaterEqual else Bad

abbrev pub is_bad : Kind → Bool
is_bad Bad = true
is_bad k = false

-- the sign at a character, with what stands behind that one
unfoldable pub sign_token : ℕ → Text → Kind × ℕ
sign_token c [] = (sign c, 1)
sign_token c (d ∷ z) = if is_bad (double_sign c d) then (sign c, 1) else (double_sign c d, 2)

-- ---- tokens

-- a token that begins with this character, with what stands behind that one
unfoldable pub token_at : ℕ → Text → Kind × ℕ
token_at c z =
    if c == 46 then behind_point z
    else if c == 34 || c == 39 then behind_quote c z
    else if c == 36 then behind_dollar z else sign_token c z

-- the kind of the first token, and its length
unfoldable pub token : Text → Kind × ℕ
token [] = (End, 0)
token (c ∷ z) = if begins_run c then name_token (c ∷ z) else if is_digit c then number_token (c ∷ z) else token_at c z

-- the text from the first token on
abbrev pub skip : Text → Text
skip z = drop (prefix_len is_space z) z

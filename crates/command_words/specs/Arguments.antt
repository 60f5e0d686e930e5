-- The words behind the command's: plain words, and options with their texts (docs/MANUAL.md, "Words").
use Rattle.std.specs.Prelude.{◌==◌, ℕ, Bool, List, [], ◌∷◌, ◌++◌, codes, if◌then◌else◌, Option, Some, None, option_and_then, option_map}
use Rattle.std.specs.List.{before_first, after_first, list_any, find}
use Rattle.std.specs.Str.{bytes_eq}

abbrev pub Word : Type 0
Word = List ℕ

-- the name that no option has: under it the plain words are asked for
abbrev pub plain_id : Word
plain_id = codes "words"

-- what a word is where it isn't the text of an option
pub data Kind : Type 0 where
  -- `--`, after which all words are plain
  ends : Kind
  -- `--NAME`, or `--NAME=TEXT`
  sets : Word → Option Word → Kind
  -- another word of two or more characters that begins with `-`
  dashed : Kind
  plain : Kind

-- the byte is `=`
abbrev pub is_equals : ℕ → Bool
is_equals b = b == 61

-- the text behind the first `=`, if there is one
abbrev pub text_behind : Word → Option Word
text_behind w = if list_any is_equals w then Some (after_first is_equals w) else None

-- a word of which these bytes stand behind `--`
abbrev pub behind_two : Word → Kind
behind_two [] = ends
behind_two (b ∷ rest) = sets (before_first is_equals (b ∷ rest)) (text_behind (b ∷ rest))

-- a word of which these bytes stand behind `-`
abbrev pub behind_one : Word → Kind
behind_one [] = plain
behind_one (b ∷ rest) = if b == 45 then behind_two rest else dashed

abbrev pub kind_of : Word → Kind
kind_of [] = plain
kind_of (b ∷ rest) = if b == 45 then behind_one rest else plain

-- the options that were given, each with its text, and the plain words, in the order in which they stand
pub record Parts : Type 0 where
  pub given : List (Word × Word)
  pub plain : List Word

abbrev pub no_parts : Parts
no_parts = record { given = []; plain = [] }

abbrev pub with_plain : List Word → Parts → Parts
with_plain ws r = record r { plain = r.plain ++ ws }

abbrev pub is_given : Word → Parts → Bool
is_given name r = list_any (λ g. bytes_eq g.0 name) r.given

-- the text of an option, if it was given
abbrev pub text_of : Word → Parts → Option Word
text_of name r = option_map (λ g. g.1) (find (λ g. bytes_eq g.0 name) r.given)

-- an option with its text; each stands at most once
abbrev pub with_option : Word → Word → Parts → Option Parts
with_option name text r = if is_given name r then None else Some (record r { given = r.given ++ (name, text) ∷ [] })

module _ (names : List Word) where
  abbrev pub is_option : Word → Bool
  is_option name = list_any (λ n. bytes_eq n name) names

  -- `--NAME=TEXT` or `--NAME`, whose text the next word is
  abbrev pub option_met : Word → Option Word → Parts → (Parts → Option Word → Option Parts) → Option Parts
  option_met name (Some text) r rest = option_and_then (λ s. rest s None) (with_option name text r)
  option_met name None r rest = rest r (Some name)

  -- a word that isn't the text of an option, with the words after it and how those are read
  abbrev pub word_met : Kind → Word → List Word → Parts → (Parts → Option Word → Option Parts) → Option Parts
  word_met ends w ws r rest = Some (with_plain ws r)
  word_met (sets name text) w ws r rest = if is_option name then option_met name text r rest else None
  word_met dashed w ws r rest = None
  word_met plain w ws r rest = rest (with_plain (w ∷ []) r) None

  -- a word as the text of an option
  abbrev pub text_met : Kind → Word → Word → Parts → (Parts → Option Word → Option Parts) → Option Parts
  text_met plain name w r rest = option_and_then (λ s. rest s None) (with_option name w r)
  text_met _ name w r rest = None

  abbrev pub step : Option Word → Word → List Word → Parts → (Parts → Option Word → Option Parts) → Option Parts
  step (Some name) w ws r rest = text_met (kind_of w) name w r rest
  step None w ws r rest = word_met (kind_of w) w ws r rest

  -- where the words end
  abbrev pub at_end : Option Word → Parts → Option Parts
  at_end None r = Some r
  at_end (Some name) r = None

  -- the parts of these words behind others, where an option may still want its text
  unfoldable pub parts_from : List Word → Parts → Option Word → Option Parts
  parts_from [] r wanted = at_end wanted r
  parts_from (w ∷ ws) r wanted = step wanted w ws r (parts_from ws)

  -- the parts of the words with options of these names; None where they aren't of the grammar
  abbrev pub parts_of : List Word → Option Parts
  parts_of ws = parts_from ws no_parts None

-- What is found in the words behind a command's, as the matches of `clap` tell it.
use Rattle.std.specs.Prelude.{◌≡◌, List, [], false, Option, Some, option_map, unwrap_or}
use Rattle.std.specs.Str.{bytes_eq}
use Rattle.clap.specs.Matches.{first_value, found_of, matched_of, raw_values}
use Rattle.command_words.specs.Arguments.{Word, Parts, plain_id, text_of}
use Rattle.command_words.specs.declared.arguments.Arguments.{Arguments}

abbrev pub words_in : Option (List Word) → List Word
words_in o = unwrap_or o []

-- the plain words, and the text of each option
pub record TellsParts (a : Arguments) (parts : Parts) : Type 0 where
  pub plain : words_in (option_map raw_values (matched_of (found_of a.found) plain_id)) ≡ parts.plain
  pub text : (n : Word) → bytes_eq plain_id n ≡ false → first_value (found_of a.found) n ≡ text_of n parts

-- the words have parts, which the arguments tell
pub record HasParts (o : Option Parts) (a : Arguments) : Type 0 where
  pub parts : Parts
  pub is : o ≡ Some parts
  pub tells : TellsParts a parts

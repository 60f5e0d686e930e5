-- The commands of the program, and the words that ask for them (docs/MANUAL.md, "Words").
use Rattle.std.specs.Prelude.{ℕ, ◌≤◌, List, [], ◌∷◌, map, codes, Option, Some, None, option_and_then, option_map, String, string_bytes}
use Rattle.std.specs.List.{find}
use Rattle.std.specs.Str.{bytes_eq}
use Rattle.std.specs.declared.alloc.Global.{Global}
use Rattle.command_words.specs.Arguments.{Word, Parts, parts_of, text_of}
use Rattle.command_words.specs.Numbers.{number_in}
use Rattle.command_words.specs.declared.command.Command.{Command as Asked}
use Rattle.command_words.specs.declared.command.Command.TheVariants as asked
use Rattle.command_words.specs.declared.words.Words.{Words as Read}

-- a script is run, line by line or by workers; the document with a name is made from the input, or it is written, or what a path finds from it; the script of the generator with a seed and a count is run
pub data Command : Type 0 where
  run : Command
  workers : Command
  put : Word → Command
  get : Word → Command
  query : Word → Word → Command
  gen : ℕ → ℕ → Command

-- ---- what a command takes

abbrev pub no_words : Command → List Word → Option Command
no_words c [] = Some c
no_words c (w ∷ ws) = None

-- the one word
abbrev pub only : List Word → Option Word
only (w ∷ []) = Some w
only _ = None

abbrev pub one_word : (Word → Command) → List Word → Option Command
one_word c ws = option_map c (only ws)

-- the two words
abbrev pub both : List Word → Option (Word × Word)
both (v ∷ w ∷ []) = Some (v, w)
both _ = None

abbrev pub two_words : (Word → Word → Command) → List Word → Option Command
two_words c ws = option_map (λ p. c p.0 p.1) (both ws)

abbrev pub with_count : ℕ → Option ℕ → Option Command
with_count seed count = option_map (gen seed) count

-- SEED from 0 to 4,294,967,295 and COUNT from 1 to 20,000
abbrev pub seed_and_count : List Word → Option Command
seed_and_count (seed ∷ count ∷ []) = option_and_then (λ s. with_count s (number_in 1 20000 count)) (number_in 0 4294967295 seed)
seed_and_count _ = None

-- numbers are within their ranges
abbrev pub IsInRange : Command → Type 0
IsInRange (gen seed count) = (seed ≤ 4294967295) × (1 ≤ count) × (count ≤ 20000)
IsInRange c = Unit {0}

-- ---- the grammar

-- each command: its word, and what it makes of the plain words behind it
abbrev pub commands : List (Word × (List Word → Option Command))
commands =
    (codes "run", no_words run)
    ∷ (codes "workers", no_words workers)
    ∷ (codes "put", one_word put)
    ∷ (codes "get", one_word get)
    ∷ (codes "query", two_words query)
    ∷ (codes "gen", seed_and_count)
    ∷ []

-- the command with this word and these plain words
abbrev pub command_by : Word → List Word → Option Command
command_by w plain = option_and_then (λ row. row.1 plain) (find (λ row. bytes_eq row.0 w) commands)

-- ---- the options, which every command takes

-- `--frames N`
abbrev pub frames_name : Word
frames_name = codes "frames"

-- `--checkpoint N`
abbrev pub checkpoint_name : Word
checkpoint_name = codes "checkpoint"

abbrev pub option_names : List Word
option_names = frames_name ∷ checkpoint_name ∷ []

-- the frames that the option's text tells, from 1 to 65,536; 256 where the option isn't given
abbrev pub frames_in : Option Word → Option ℕ
frames_in (Some text) = number_in 1 65536 text
frames_in None = Some 256

-- behind how many commits a checkpoint is made, by the option's text, at most 1,000,000; 0, which is behind none, where the option isn't given
abbrev pub checkpoint_in : Option Word → Option ℕ
checkpoint_in (Some text) = number_in 0 1000000 text
checkpoint_in None = Some 0

-- ---- the words

-- a command, the most pages of the page file that are kept in memory meanwhile, and behind how many commits a checkpoint is made
pub record Words : Type 0 where
  pub command : Command
  pub frames : ℕ
  pub checkpoint : ℕ

abbrev pub with_checkpoint : Command → Option ℕ → ℕ → Option Words
with_checkpoint c checkpoint frames = option_map (λ n. record { command = c; frames = frames; checkpoint = n }) checkpoint

abbrev pub with_options : Option ℕ → Option ℕ → Command → Option Words
with_options frames checkpoint c = option_and_then (with_checkpoint c checkpoint) frames

abbrev pub of_parts : Word → Parts → Option Words
of_parts w parts = option_and_then (with_options (frames_in (text_of frames_name parts)) (checkpoint_in (text_of checkpoint_name parts))) (command_by w parts.plain)

-- what words ask for: the first is the command's; None where they aren't of the grammar
abbrev pub words_of_texts : List Word → Option Words
words_of_texts [] = None
words_of_texts (w ∷ ws) = option_and_then (of_parts w) (parts_of option_names ws)

abbrev pub words_of : List (String Global) → Option Words
words_of words = words_of_texts (map string_bytes words)

-- the command that words ask for
abbrev pub command_of : List (String Global) → Option Command
command_of words = option_map (λ w. w.command) (words_of words)

-- the frames that words ask for
abbrev pub frames_of : List (String Global) → Option ℕ
frames_of words = option_map (λ w. w.frames) (words_of words)

-- behind how many commits they ask for a checkpoint
abbrev pub checkpoint_of : List (String Global) → Option ℕ
checkpoint_of words = option_map (λ w. w.checkpoint) (words_of words)

-- ---- what was read

-- a command that was read
abbrev pub meant : Asked → Command
meant asked.Run = run
meant asked.Workers = workers
meant (asked.Put name) = put name.now
meant (asked.Get name) = get name.now
meant (asked.Query name path) = query name.now path.now
meant (asked.Gen seed count) = gen seed count

-- words that were read
abbrev pub told : Read → Words
told words = record { command = meant words.command; frames = words.frames; checkpoint = words.checkpoint }

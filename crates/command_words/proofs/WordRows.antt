-- Worked words: what they ask for, and the parts of words with two options.
use Rattle.std.proofs.Common.{◌≡◌, ℕ, refl, List, [], ◌∷◌, Option, Some, None, codes}
use Rattle.std.specs.Prelude.{option_map}
use Rattle.command_words.specs.Arguments.{Word, Parts, parts_from, parts_of}
use Rattle.command_words.specs.Commands.{Command, words_of_texts, run, workers, put, get, query, gen}

abbrev asks : List Word → Option Command → Type 0
asks ws c = option_map (λ w. w.command) (words_of_texts ws) ≡ c

-- a command with its frames
abbrev asks_over : List Word → Command → ℕ → Type 0
asks_over ws c frames = words_of_texts ws ≡ Some (record { command = c; frames = frames; checkpoint = 0 })

-- a command with its checkpoints
abbrev asks_often : List Word → Command → ℕ → Type 0
asks_often ws c checkpoint = words_of_texts ws ≡ Some (record { command = c; frames = 256; checkpoint = checkpoint })

-- with options `frames` and `checkpoint`
abbrev has : List Word → Option Parts → Type 0
has ws parts = parts_of (codes "frames" ∷ codes "checkpoint" ∷ []) ws ≡ parts

module _ where
  no_words_at_all : asks [] None
  no_words_at_all = refl

  run_alone : asks (codes "run" ∷ []) (Some run)
  unfolding parts_from
  run_alone = refl

  run_with_a_word : asks (codes "run" ∷ codes "x" ∷ []) None
  unfolding parts_from
  run_with_a_word = refl

  workers_alone : asks (codes "workers" ∷ []) (Some workers)
  unfolding parts_from
  workers_alone = refl

  workers_with_a_word : asks (codes "workers" ∷ codes "2" ∷ []) None
  unfolding parts_from
  workers_with_a_word = refl

  no_such_option : asks (codes "run" ∷ codes "--lock-depth" ∷ codes "1" ∷ []) None
  unfolding parts_from
  no_such_option = refl

  a_checkpoint_behind_each_commit : asks_often (codes "run" ∷ codes "--checkpoint" ∷ codes "1" ∷ []) run 1
  unfolding parts_from
  a_checkpoint_behind_each_commit = refl

  no_checkpoint : asks_often (codes "get" ∷ codes "--checkpoint=0" ∷ codes "x" ∷ []) (get (codes "x")) 0
  unfolding parts_from
  no_checkpoint = refl

  the_most_commits : asks_often (codes "workers" ∷ codes "--checkpoint=1000000" ∷ []) workers 1000000
  unfolding parts_from
  the_most_commits = refl

  too_many_commits : asks (codes "run" ∷ codes "--checkpoint" ∷ codes "1000001" ∷ []) None
  unfolding parts_from
  too_many_commits = refl

  frames_unsaid : asks_over (codes "get" ∷ codes "x" ∷ []) (get (codes "x")) 256
  unfolding parts_from
  frames_unsaid = refl

  one_frame : asks_over (codes "run" ∷ codes "--frames" ∷ codes "1" ∷ []) run 1
  unfolding parts_from
  one_frame = refl

  the_most_frames : asks_over (codes "gen" ∷ codes "7" ∷ codes "--frames=65536" ∷ codes "1" ∷ []) (gen 7 1) 65536
  unfolding parts_from
  the_most_frames = refl

  no_frames : asks (codes "run" ∷ codes "--frames" ∷ codes "0" ∷ []) None
  unfolding parts_from
  no_frames = refl

  too_many_frames : asks (codes "run" ∷ codes "--frames=65537" ∷ []) None
  unfolding parts_from
  too_many_frames = refl

  the_option_as_a_name : asks_over (codes "put" ∷ codes "--" ∷ codes "--frames" ∷ []) (put (codes "--frames")) 256
  unfolding parts_from
  the_option_as_a_name = refl

  the_end_of_options_first : asks (codes "--" ∷ codes "run" ∷ []) None
  unfolding parts_from
  the_end_of_options_first = refl

  a_second_end_is_plain : asks (codes "get" ∷ codes "--" ∷ codes "--" ∷ []) (Some (get (codes "--")))
  unfolding parts_from
  a_second_end_is_plain = refl

  a_dash_alone : asks (codes "put" ∷ codes "-" ∷ []) (Some (put (codes "-")))
  unfolding parts_from
  a_dash_alone = refl

  the_empty_word : asks (codes "get" ∷ [] ∷ []) (Some (get []))
  unfolding parts_from
  the_empty_word = refl

  two_words_of_a_query : asks (codes "query" ∷ codes "x" ∷ codes "//a" ∷ []) (Some (query (codes "x") (codes "//a")))
  unfolding parts_from
  two_words_of_a_query = refl

  a_query_without_its_path : asks (codes "query" ∷ codes "x" ∷ []) None
  unfolding parts_from
  a_query_without_its_path = refl

  help : asks (codes "run" ∷ codes "--help" ∷ []) None
  unfolding parts_from
  help = refl

  leading_zeros : asks (codes "gen" ∷ codes "0000000007" ∷ codes "1" ∷ []) (Some (gen 7 1))
  unfolding parts_from
  leading_zeros = refl

  eleven_digits : asks (codes "gen" ∷ codes "00000000007" ∷ codes "1" ∷ []) None
  unfolding parts_from
  eleven_digits = refl

  no_books : asks (codes "gen" ∷ codes "1" ∷ codes "0" ∷ []) None
  unfolding parts_from
  no_books = refl

  the_greatest : asks (codes "gen" ∷ codes "4294967295" ∷ codes "20000" ∷ []) (Some (gen 4294967295 20000))
  unfolding parts_from
  the_greatest = refl

  a_seed_too_great : asks (codes "gen" ∷ codes "4294967296" ∷ codes "1" ∷ []) None
  unfolding parts_from
  a_seed_too_great = refl

  options_anywhere : has (codes "--frames=8" ∷ codes "x" ∷ codes "--checkpoint" ∷ codes "7" ∷ codes "y" ∷ [])
      (Some (record { given = (codes "frames", codes "8") ∷ (codes "checkpoint", codes "7") ∷ []; plain = codes "x" ∷ codes "y" ∷ [] }))
  unfolding parts_from
  options_anywhere = refl

  the_first_equals_ends_a_name : has (codes "--frames=8=9" ∷ []) (Some (record { given = (codes "frames", codes "8=9") ∷ []; plain = [] }))
  unfolding parts_from
  the_first_equals_ends_a_name = refl

  twice : has (codes "--frames" ∷ codes "8" ∷ codes "--frames=8" ∷ []) None
  unfolding parts_from
  twice = refl

  a_text_begins_with_no_dash : has (codes "--frames" ∷ codes "--" ∷ codes "1" ∷ []) None
  unfolding parts_from
  a_text_begins_with_no_dash = refl

  no_text : has (codes "--frames" ∷ []) None
  unfolding parts_from
  no_text = refl

  plain_behind_the_end : has (codes "--frames" ∷ codes "3" ∷ codes "--" ∷ codes "-x" ∷ codes "--frames" ∷ [])
      (Some (record { given = (codes "frames", codes "3") ∷ []; plain = codes "-x" ∷ codes "--frames" ∷ [] }))
  unfolding parts_from
  plain_behind_the_end = refl

  a_shortened_option : has (codes "--frame" ∷ codes "1" ∷ []) None
  unfolding parts_from
  a_shortened_option = refl

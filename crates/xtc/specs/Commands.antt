-- What the commands take of their input, and which of them commit (docs/MANUAL.md, "Commands").
use Rattle.std.specs.Prelude.{Bool, true, false, Option, Some, None}
use Rattle.command_words.specs.Commands.{Command, run, workers, put, get, query, gen}

-- the input is read to its end
abbrev pub reads_input : Option Command → Bool
reads_input (Some (get name)) = false
reads_input (Some (query name path)) = false
reads_input (Some (put name)) = true
reads_input (Some run) = true
reads_input (Some workers) = true
reads_input (Some (gen seed count)) = false
reads_input None = false

-- transactions may be committed
abbrev pub may_commit : Option Command → Bool
may_commit (Some (get name)) = false
may_commit (Some (query name path)) = false
may_commit (Some (put name)) = true
may_commit (Some run) = true
may_commit (Some workers) = true
may_commit (Some (gen seed count)) = true
may_commit None = false

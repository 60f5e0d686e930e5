-- The lines of the generator's script as they stand in a script (docs/PROFILE.md, "The generator"; docs/MANUAL.md, "Script lines").
use Rattle.std.specs.Prelude.{◌+◌, ◌*◌, ℕ, List, ◌++◌, codes, decimal}
use Rattle.workload_gen.specs.declared.line.Line.{Line}
use Rattle.workload_gen.specs.declared.line.Step.{Step}
use Rattle.workload_gen.specs.declared.line.Step.TheVariants.{Begin, Commit, Create, Book, Review, Children, Find, Drop}

-- the last division of the label of the book of this number: book 1 has 1001, and each next one two more
abbrev pub division : ℕ → ℕ
division number = 999 + 2 * number

-- a step's word, and what stands behind it
abbrev pub step_text : Step → List ℕ
step_text Begin = codes "\"begin\""
step_text Commit = codes "\"commit\""
step_text Create = codes "\"create\",\"name\":\"gen\",\"tree\":[\"catalogue\"]"
step_text (Book number price) =
    codes "\"append\",\"at\":\"1.1001.1001\",\"tree\":[\"book\",{\"id\":\"" ++ decimal number ++ codes "\"},[\"title\",\"Book " ++ decimal number
    ++ codes "\"],[\"price\",\"" ++ decimal price ++ codes "\"]]"
step_text (Review book stars) =
    codes "\"append\",\"at\":\"1.1001.1001." ++ decimal (division book) ++ codes "\",\"tree\":[\"review\",{\"stars\":\"" ++ decimal stars ++ codes "\"},\"ok\"]"
step_text (Children book) = codes "\"children\",\"at\":\"1.1001.1001." ++ decimal (division book) ++ codes "\""
step_text Find = codes "\"find\",\"at\":\"1.1001\",\"path\":\"/catalogue/book[review/@stars >= 3]\""
step_text Drop = codes "\"drop\",\"name\":\"gen\""

abbrev pub line_text : Line → List ℕ
line_text line = codes "{\"s\":" ++ decimal line.session ++ codes ",\"call\":" ++ step_text line.step ++ codes "}"

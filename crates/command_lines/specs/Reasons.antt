-- Why a line is bad: the first reason that holds (docs/MANUAL.md, "Bad lines").
use Rattle.std.specs.Prelude.{◌≡◌, ◌≢◌, ℕ, List, ◌++◌, codes, decimal, Option, Some, None, Result, Ok, Err}
use Rattle.jsonml_io.specs.declared.fragment_error.FragmentError.{FragmentError}
use Rattle.jsonml_io.specs.JsonMl.{refusal_name, refusal_path}
use Rattle.xpath_parser.specs.declared.path_error.PathError.{PathError}
use Rattle.xpath_parser.specs.Parse as parse
use Rattle.command_lines.specs.declared.bad_line.BadLine.{BadLine}
use Rattle.command_lines.specs.declared.bad_line.BadLine.TheVariants.{Why, NoMemory}

-- what comes next, unless the line is bad already
infixl 10 ◌>>=◌
abbrev pub ◌>>=◌ : {A B : Type 0} → Result A BadLine → (A → Result B BadLine) → Result B BadLine
(Ok x) >>= f = f x
(Err e) >>= f = Err e

-- what was found, or this reason where there is none
abbrev pub found_or : {A : Type 0} → List ℕ → Option A → Result A BadLine
found_or why None = Err (Why why)
found_or why (Some x) = Ok x

-- the reason of a `tree` that is there and no fragment: the refusal's name and its path
abbrev pub refused_tree : FragmentError → BadLine
refused_tree e = Why (codes "tree " ++ (refusal_name e ++ (codes " " ++ refusal_path e)))

-- the reason of a `path` that is a text and no path: the refusal's name and its place
abbrev pub refused_path : PathError → BadLine
refused_path e = Why (codes "path " ++ (parse.refusal_name e ++ (codes " " ++ decimal (parse.refusal_place e))))

-- a call answered what is read, or the reason, unless memory was wanting
abbrev pub Reads : {A : Type 0} → Result A BadLine → Result A BadLine → Type 0
Reads read (Ok x) = read ≡ Ok x
Reads read (Err e) = e ≢ NoMemory → read ≡ Err e

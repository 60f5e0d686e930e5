-- Programs whose positions are put behind those that were found before.
use Rattle.std.specs.Prelude.{List, ◌++◌}
use Rattle.path_model.specs.Positions as path
use Rattle.path_model.specs.Programs.{Program, ends, and_then}
use Rattle.xpath_axes.specs.declared.position.Position.{Position}
use Rattle.xpath_axes.specs.Positions.{all_plain}

-- the positions from before, and then those of the program
abbrev pub put_behind : List Position → Program (List path.Position) → Program (List path.Position)
put_behind before program = and_then program (λ s. ends (all_plain before ++ s))

-- What a label holds its divisions in.
use Rattle.std.specs.Prelude.{ℕ, ◌≤◌, List, take}
use Rattle.dewey_labels.specs.declared.divisions.Held.{Held}
use Rattle.dewey_labels.specs.declared.divisions.Held.TheVariants.{Few, Many}

-- the divisions that are held: of few the first places
abbrev pub divisions_held : Held → List ℕ
divisions_held (Few count places) = take count places
divisions_held (Many v) = v.items

-- there are so many places
abbrev pub AreHeld : Held → Type 0
AreHeld (Few count places) = count ≤ 7
AreHeld (Many v) = Unit {0}

-- What a text holds its bytes in.
use Rattle.std.specs.Prelude.{ℕ, ◌≤◌, List, take}
use Rattle.dewey_labels.specs.declared.bytes.Held.{Held}
use Rattle.dewey_labels.specs.declared.bytes.Held.TheVariants.{Few, Many}

-- the bytes that are held: of few the first places
abbrev pub bytes_held : Held → List ℕ
bytes_held (Few count places) = take count places
bytes_held (Many v) = v.items

-- there are so many places
abbrev pub AreHeld : Held → Type 0
AreHeld (Few count places) = count ≤ 30
AreHeld (Many v) = Unit {0}

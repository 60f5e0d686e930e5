-- The bytes of a label (docs/FILE_FORMAT.md, "Labels").
use Rattle.std.specs.Prelude.{ℕ, zero, suc, ◌+◌, if◌then◌else◌, List, [], ◌∷◌, ◌++◌, drop, Option, Some, None}
use Rattle.std.specs.List.{flat_map}
use Rattle.dewey_labels.specs.Labels.{Label, is_label_within}
use Rattle.node_records.specs.Reads.{◌>>=◌}
use Rattle.node_records.specs.Divisions.{division_bytes, division_in}

-- its divisions, then 00
abbrev pub label_bytes : Label → List ℕ
label_bytes l = flat_map division_bytes l ++ 0 ∷ []

-- fewer than n divisions up to a 00
abbrev pub divisions_in : ℕ → List ℕ → Option (List ℕ × ℕ)
divisions_in zero bytes = None
divisions_in (suc n) [] = None
divisions_in (suc n) (zero ∷ bs) = Some ([], 1)
divisions_in (suc n) (suc b ∷ bs) = division_in (suc b ∷ bs) >>= λ d. divisions_in n (drop d.1 (suc b ∷ bs)) >>= λ ds. Some (d.0 ∷ ds.0, d.1 + ds.1)

-- the label at the start
abbrev pub label_in : List ℕ → Option (Label × ℕ)
label_in bytes = divisions_in 256 bytes >>= λ ds. if is_label_within ds.0 then Some ds else None

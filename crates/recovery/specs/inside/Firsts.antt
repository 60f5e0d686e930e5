-- The first broken rule of a journal beside pages (docs/FILE_FORMAT.md, "Opening").
use Rattle.std.specs.Prelude.{◌≡◌, ℕ, List, Option}
use Rattle.node_records.specs.declared.open_error.OpenError.{OpenError}
use Rattle.node_records.specs.declared.open_error.OpenError.TheVariants.{Damaged, DiskFault, NoMemory}
use Rattle.node_records.specs.declared.open_error.File.TheVariants.{Journal}
use Rattle.store_contents.specs.Contents.{first_broken, place_in}

-- for a journal that is found damaged at a place beside pages with this base the first place is answered, or a fault that has its cause; any other fault stays
abbrev pub IsFirst : Type 0 → Option ℕ → List ℕ → Type 0 → OpenError → OpenError → Type 0
IsFirst is_known base journal cause (Damaged found) (Damaged place) = is_known → place ≡ place_in Journal (first_broken base journal found.at)
IsFirst is_known base journal cause (Damaged found) DiskFault = cause
IsFirst is_known base journal cause (Damaged found) NoMemory = ⊥
IsFirst is_known base journal cause DiskFault fault = fault ≡ DiskFault
IsFirst is_known base journal cause NoMemory fault = fault ≡ NoMemory

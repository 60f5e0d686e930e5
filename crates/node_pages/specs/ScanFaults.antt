-- What an answer of a scan says.
use Rattle.std.specs.Prelude.{◌≤◌, ℕ, List, [], ◌∷◌, length, Result, Ok, Err}
use Rattle.node_records.specs.declared.entries.Entry.{Entry}
use Rattle.node_pages.specs.Filling.{room}
use Rattle.node_pages.specs.PageStarts.{start_of, start_bytes}
use Rattle.node_pages.specs.declared.page_start.PageStart.{PageStart}
use Rattle.node_pages.specs.declared.scan_fault.ScanFault.{ScanFault}
use Rattle.node_pages.specs.declared.scan_fault.ScanFault.TheVariants.{Broken, NoMemory}

-- where the answer is a page that breaks a rule, P holds of its number
abbrev pub IfBroken : {A : Type 0} → Result A ScanFault → (ℕ → Type 0) → Type 0
IfBroken (Ok a) P = Unit {0}
IfBroken (Err (Broken n)) P = P n
IfBroken (Err NoMemory) P = Unit {0}

-- a start that fits on a page
abbrev pub FitsOnPage : PageStart → Type 0
FitsOnPage s = length (start_bytes s) ≤ room

-- the start of a page with these entries fits on a page
abbrev pub FirstFits : List Entry → Type 0
FirstFits [] = Unit {0}
FirstFits (e ∷ es) = (n : ℕ) → FitsOnPage (start_of n e)

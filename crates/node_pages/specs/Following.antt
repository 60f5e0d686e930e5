-- Entries that follow one another as their rules want it, whatever their pages (docs/FILE_FORMAT.md, "Damage of pages").
use Rattle.std.specs.Prelude.{◌≡◌, ℕ, ◌+◌, ◌==◌, Bool, true, false, ◌&&◌, List, [], ◌∷◌, ◌++◌, Option, Some, None, is_some}
use Rattle.std.specs.List.{AllByRecursion}
use Rattle.tree_model.specs.declared.key.Key.{Key}
use Rattle.node_records.specs.Records.{record_of}
use Rattle.node_records.specs.declared.entries.Entry.{Entry}
use Rattle.node_pages.specs.Scanning.{rises, stays}
use Rattle.node_pages.specs.declared.scan.Part.{Part}

-- ---- what is in hand of a record: its bytes so far, and how many chunks they are

abbrev pub hand_of : Option Part → Option (List ℕ × ℕ)
hand_of None = None
hand_of (Some p) = Some (p.bytes, p.chunks)

-- the bytes in hand
abbrev pub bytes_of : Option (List ℕ × ℕ) → List ℕ
bytes_of None = []
bytes_of (Some h) = h.0

-- how many chunks they are
abbrev pub chunks_in : Option (List ℕ × ℕ) → ℕ
chunks_in None = 0
chunks_in (Some h) = h.1

-- an entry with this key and chunk number goes on with what is in hand, or begins a record at a key above the last
abbrev pub goes : Option Key → Option (List ℕ × ℕ) → Key → ℕ → Bool
goes last None k c = rises last k && (c == 0)
goes last (Some h) k c = stays last k && (c == h.1)

-- what is in hand after one chunk more
abbrev pub hand_after : Option (List ℕ × ℕ) → Bool → List ℕ → Option (List ℕ × ℕ)
hand_after h true bytes = None
hand_after h false bytes = Some (bytes_of h ++ bytes, chunks_in h + 1)

-- after its last chunk the record is one
abbrev pub IsWhole : Option (List ℕ × ℕ) → Bool → List ℕ → Type 0
IsWhole h true bytes = is_some (record_of (bytes_of h ++ bytes)) ≡ true
IsWhole h false bytes = Unit {0}

-- these entries follow one another, and no record is in hand behind them
abbrev pub Runs : Option Key → Option (List ℕ × ℕ) → List Entry → Type 0
Runs last h [] = h ≡ None
Runs last h (e ∷ es) = (goes last h e.key e.chunk ≡ true) × IsWhole h e.last e.bytes × Runs (Some e.key) (hand_after h e.last e.bytes) es

-- ---- where a test of keys turns

-- no entry has a key that passes
abbrev pub NonePass : (Key → Bool) → List Entry → Type 0
NonePass p es = AllByRecursion (λ e. p e.key ≡ false) es

-- the first of these entries, if there is one, has a key that passes
abbrev pub HeadPasses : (Key → Bool) → List Entry → Type 0
HeadPasses p [] = Unit {0}
HeadPasses p (e ∷ es) = p e.key ≡ true

-- Who stands in the queue of those that wait, as a book tells it.
use Rattle.std.specs.Prelude.{◌≡◌, ℕ, ◌+◌, ◌==◌, if◌then◌else◌, List, [], ◌∷◌}
use Rattle.call_contract.specs.Books.{Book}
use Rattle.call_contract.specs.Sessions.{live_in, queue_after}
use Rattle.tx_core.specs.Cores.{waits_in}

-- how often a session stands in a list
abbrev pub times : ℕ → List ℕ → ℕ
times s [] = 0
times s (t ∷ ts) = if t == s then times s ts + 1 else times s ts

-- a session whose transaction waits stands in the queue once, and no other does
abbrev pub HasQueue : {C : Type 0} → Book C → Type 0
HasQueue book = (s : ℕ) → times s (queue_after [] book) ≡ (if waits_in (live_in book s) then 1 else 0)

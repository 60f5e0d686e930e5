-- What a caller of a group commit knows of the file when it is closed.
use Rattle.std.specs.Prelude.{◌≡◌, ◌≤◌, ℕ, Bool, List, length, Result, Ok, IfOk, IsTrue}
use Rattle.outside_traits.specs.CrashImages.{IsImage}
use Rattle.outside_traits.specs.Moments.{History}
use Rattle.journal.specs.Journals.{read}
use Rattle.journal.specs.declared.group.Groups.{Groups}
use Rattle.shared_store.specs.declared.errors.StoreError.{StoreError}

-- the bytes are those of a journal with so many commits at least
pub record HasCommits (number : ℕ) (bytes : List ℕ) : Type 0 where
  pub groups : Groups
  pub reads : read bytes ≡ Ok groups
  pub enough : number ≤ length groups.commits

-- where a commit was answered a crash leaves as many commits as its number says
abbrev pub IsKept : Bool → History → Result ℕ StoreError → Type 0
IsKept known history answer = IfOk answer (λ number. IsTrue known → (image : List ℕ) → IsImage history.now image → HasCommits number image)

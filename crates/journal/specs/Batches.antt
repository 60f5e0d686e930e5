-- What an append of many commits at once leaves of a journal (docs/FILE_FORMAT.md, "Appending").
use Rattle.std.specs.Prelude.{◌≡◌, ℕ, ◌+◌, ◌≤◌, List, [], ◌∷◌, ◌++◌, length, map, take, Option, Ok}
use Rattle.outside_traits.specs.CrashImages.{IsImage}
use Rattle.outside_traits.specs.Moments.{History, IsAllSynced, LeavesOnly}
use Rattle.journal.specs.Appends.{IsOneOf, groups_in, last_number}
use Rattle.journal.specs.Groups.{AreCommits, commits_of, only_commits, open_groups, word}
use Rattle.journal.specs.Journals.{read}
use Rattle.journal.specs.Steps.{DiskStep, Does}
use Rattle.journal.specs.Steps.DiskStep.{write, sync}
use Rattle.journal.specs.Views.{JournalView, TakesGroups}
use Rattle.journal.specs.declared.group.Group.{Group}
use Rattle.journal.specs.declared.group.Groups.{Groups}
use Rattle.node_records.specs.declared.pending.Pending.{Pending}

-- commits that are to be written, each as its number and its body
abbrev pub pairs_of : List Pending → List (ℕ × List ℕ)
pairs_of pending = map (λ p. (p.number, p.body)) pending

-- these may stand one behind the other, the first behind a group with this number
abbrev pub MayFollow : Option ℕ → List Pending → Type 0
MayFollow last pending = AreCommits last (pairs_of pending)

-- the gate behind a commit: open where one of these follows on it
abbrev pub gate_before : List (ℕ × List ℕ) → ℕ
gate_before [] = 0
gate_before (c ∷ commits) = 1

-- one commit's writes from the place behind its gate on: the head, the body, the next gate
abbrev pub commit_writes : ℕ → ℕ → List ℕ → ℕ → List DiskStep
commit_writes at number body gate = write at (0 ∷ (word number ++ word (length body))) ∷ write (at + 9) body ∷ write (at + 9 + length body) (gate ∷ []) ∷ []

-- the writes of commits, one behind the other; the gates between them are open, and the last is closed
abbrev pub batch_writes : ℕ → List (ℕ × List ℕ) → List DiskStep
batch_writes at [] = []
batch_writes at (c ∷ commits) = commit_writes at c.0 c.1 (gate_before commits) ++ batch_writes (at + 10 + length c.1) commits

-- An append of commits at the closed gate: all behind it, and then this one gate.
abbrev pub batch_steps : ℕ → List (ℕ × List ℕ) → List DiskStep
batch_steps gate commits = batch_writes (gate + 1) commits ++ (sync ∷ write gate (1 ∷ []) ∷ sync ∷ [])

-- commits behind these groups
abbrev pub with_commits : Groups → List Group → Groups
with_commits groups commits = only_commits (groups.commits ++ commits)

-- the bytes stand for these groups, with all of these commits behind them or with none
abbrev pub IsAllOrNone : Groups → List Group → List ℕ → Type 0
IsAllOrNone groups commits = IsOneOf groups (with_commits groups commits)

-- after each call of an append a crash leaves the groups from before it, with all of these commits or with none
abbrev pub LeavesAllOrNone : List (ℕ × List ℕ) → History → History → Type 0
LeavesAllOrNone commits old new = LeavesOnly (IsAllOrNone (groups_in old) (commits_of commits)) old new

-- commits were added at the closed gate
pub record AddsCommits (gate : ℕ) (commits : List (ℕ × List ℕ)) (old new : History) : Type 0 where
  -- the bytes are read with these commits behind those before, and so is each image that a crash may leave: all is synced
  pub groups : read new.now.reads ≡ Ok (with_commits (groups_in old) (commits_of commits))
  pub synced : IsAllSynced new
  pub durable : (image : List ℕ) → IsImage new.now image → read image ≡ Ok (with_commits (groups_in old) (commits_of commits))
  -- by these calls with their bytes, and no other
  pub steps : Does (batch_steps gate commits) old new

-- the journal may be used again, behind the commits that were added
pub record HasAddedAll (commits : List (ℕ × List ℕ)) (old new : JournalView) : Type 0 where
  pub usable : TakesGroups new
  pub last : new.last ≡ last_number old.last (commits_of commits)
  pub gate : new.gate ≡ old.gate + length (open_groups commits)

-- the bytes stand for these groups, and behind them some first of these commits, so many at least
pub record HasFirst (groups : Groups) (commits : List (ℕ × List ℕ)) (least : ℕ) (bytes : List ℕ) : Type 0 where
  pub count : ℕ
  pub enough : least ≤ count
  pub some : count ≤ length commits
  pub reads : read bytes ≡ Ok (with_commits groups (commits_of (take count commits)))

-- since old these commits were added behind these groups, by one append or many
pub record HasAddedSince (groups : Groups) (commits : List (ℕ × List ℕ)) (old new : History) : Type 0 where
  pub now : read new.now.reads ≡ Ok (with_commits groups (commits_of commits))
  pub leaves : LeavesOnly (HasFirst groups commits 0) old new

-- within an append of `more` to the commits that were added since `old`, this holds
abbrev pub DuringAppends : (Groups → List (ℕ × List ℕ) → List (ℕ × List ℕ) → History → History → History → Type 0) → Type 0
DuringAppends P =
    (groups : Groups) (commits more : List (ℕ × List ℕ)) (old mid new : History) → HasAddedSince groups commits old mid
    → LeavesAllOrNone more mid new → P groups commits more old mid new

-- once it is done, this holds
abbrev pub AfterAppends : (Groups → List (ℕ × List ℕ) → List (ℕ × List ℕ) → History → History → Type 0) → Type 0
AfterAppends P =
    (groups : Groups) (commits more : List (ℕ × List ℕ)) (old mid new : History) (gate : ℕ) → HasAddedSince groups commits old mid
    → AddsCommits gate more mid new → LeavesAllOrNone more mid new → P groups commits more old new

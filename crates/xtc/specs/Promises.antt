-- What is promised of a run over a store that was opened, read off what the program's call says of it (README.md, "What is promised").
use Rattle.std.specs.Prelude.{◌≡◌, ℕ, ◌+◌, false, List, [], take, Option, Some, None}
use Rattle.outside_traits.specs.Bytes.{Took, TookPrefix}
use Rattle.outside_traits.specs.DiskPairs.{Pair}
use Rattle.recovery.specs.Openings.{HasImages, journal_made}
use Rattle.script_runs.specs.Lines.{ended}
use Rattle.script_runs.specs.Runs.{TookAtLeast}
use Rattle.call_contract.specs.Books.{Book}
use Rattle.call_contract.specs.States.{State, start}
use Rattle.session_driver.specs.Asking.{BookCall}
use Rattle.session_driver.specs.Progress.{Progress}
use Rattle.tree_model.specs.Tree.{Tree}
use Rattle.xtc.specs.Book.{after_asked, script_of, replies_text}
use Rattle.command_words.specs.Commands.{Command, run, workers, put, get, query, gen}
use Rattle.xtc.specs.Commands.{may_commit}
use Rattle.xtc.specs.Documents.{text_of}
use Rattle.xtc.specs.TopCall.{Outcome, OpenedStoreLeaves, OpenAfterAsked, OpenAfterCommits, OpenAfterLines, IsExact, IsWorkersOutput, WroteWhole, durable_at}
use Rattle.xtc.specs.declared.status.Status.{Status}

-- ---- of one run

-- so it is of the book: of a script's lines, of what was asked in turn, or of what workers did
abbrev pub OfBook : (limit : ℕ) (c : Option Command) (every : ℕ) (status : Status) (o : Outcome) → OpenedStoreLeaves limit c every status o → (Book BookCall → Type 0) → Type 0
OfBook limit (Some run) every status o left P = P left.ran.script.book
OfBook limit (Some workers) every status o left P = P left.ran.book
OfBook limit (Some (put name)) every status o left P = P (after_asked (start left.tree left.number limit) left.ran.asked).book
OfBook limit (Some (get name)) every status o left P = P (after_asked (start left.tree left.number limit) left.ran.asked).book
OfBook limit (Some (query name path)) every status o left P = P (after_asked (start left.tree left.number limit) left.ran.asked).book
OfBook limit (Some (gen seed count)) every status o left P = P (after_asked (start left.tree left.number limit) left.ran.asked).book
OfBook limit None every status o left P = Unit {0}

-- so it is of the files that hold the tree after a prefix of the commits: with every one that was answered, or with none of them for sure
abbrev pub OfAnswered : (limit : ℕ) (c : Option Command) (every : ℕ) (status : Status) (o : Outcome) → OpenedStoreLeaves limit c every status o → ((List ℕ → List ℕ → Type 0) → Type 0) → Type 0
OfAnswered limit (Some run) every status o left P = P (OpenAfterLines left.tree left.number limit left.ran.done (take (left.ran.done + left.ran.further) left.ran.lines))
OfAnswered limit (Some workers) every status o left P = P (OpenAfterCommits left.tree left.number (durable_at status left.ran.book) left.ran.book)
OfAnswered limit (Some (put name)) every status o left P = P (OpenAfterAsked left.tree left.number limit left.ran.answered left.ran.asked)
OfAnswered limit (Some (get name)) every status o left P = P (OpenAfterAsked left.tree left.number limit left.ran.answered left.ran.asked)
OfAnswered limit (Some (query name path)) every status o left P = P (OpenAfterAsked left.tree left.number limit left.ran.answered left.ran.asked)
OfAnswered limit (Some (gen seed count)) every status o left P = P (OpenAfterAsked left.tree left.number limit left.ran.answered left.ran.asked)
OfAnswered limit None every status o left P = Unit {0}

abbrev pub OfPrefix : (limit : ℕ) (c : Option Command) (every : ℕ) (status : Status) (o : Outcome) → OpenedStoreLeaves limit c every status o → ((List ℕ → List ℕ → Type 0) → Type 0) → Type 0
OfPrefix limit (Some run) every status o left P = P (OpenAfterLines left.tree left.number limit 0 (take (left.ran.done + left.ran.further) left.ran.lines))
OfPrefix limit (Some workers) every status o left P = P (OpenAfterCommits left.tree left.number 0 left.ran.book)
OfPrefix limit (Some (put name)) every status o left P = P (OpenAfterAsked left.tree left.number limit 0 left.ran.asked)
OfPrefix limit (Some (get name)) every status o left P = P (OpenAfterAsked left.tree left.number limit 0 left.ran.asked)
OfPrefix limit (Some (query name path)) every status o left P = P (OpenAfterAsked left.tree left.number limit 0 left.ran.asked)
OfPrefix limit (Some (gen seed count)) every status o left P = P (OpenAfterAsked left.tree left.number limit 0 left.ran.asked)
OfPrefix limit None every status o left P = Unit {0}

-- What the sink took of a script's replies: a prefix of the text of those to the lines that were done; the status says which lines these are, and where all is written;
-- and before the last read that came back it had taken those of the lines that had ended.
pub record WroteReplies (t : Tree) (n limit : ℕ) (status : Status) (o : Outcome) (lines : List (List ℕ)) (done : ℕ) (script : Progress BookCall) : Type 0 where
  pub wrote : TookPrefix o.before o.now (replies_text (script_of (start t n limit) (take done lines)).lines)
  pub exact : IsExact status o.read lines done (Took o.before o.now (replies_text script.lines))
  pub prompt : TookAtLeast o.before o.now (replies_text (script_of (start t n limit) (ended [] (take o.asked o.read))).lines)

-- so it is of the state of the sessions after the last line that was done; workers' sessions end with their lines
abbrev pub OfLastState : (limit : ℕ) (c : Option Command) (every : ℕ) (status : Status) (o : Outcome) → OpenedStoreLeaves limit c every status o → (State BookCall → Type 0) → Type 0
OfLastState limit (Some run) every status o left P = P left.ran.script.state
OfLastState limit (Some workers) every status o left P = Unit {0}
OfLastState limit (Some (put name)) every status o left P = P (after_asked (start left.tree left.number limit) left.ran.asked).state
OfLastState limit (Some (get name)) every status o left P = P (after_asked (start left.tree left.number limit) left.ran.asked).state
OfLastState limit (Some (query name path)) every status o left P = P (after_asked (start left.tree left.number limit) left.ran.asked).state
OfLastState limit (Some (gen seed count)) every status o left P = P (after_asked (start left.tree left.number limit) left.ran.asked).state
OfLastState limit None every status o left P = Unit {0}

-- what the sink took: of a script the text of its replies, of workers a text that the book shows, of a document its text at the end and else nothing
abbrev pub IsOutput : (limit : ℕ) (c : Option Command) (every : ℕ) (status : Status) (o : Outcome) → OpenedStoreLeaves limit c every status o → Type 0
IsOutput limit (Some run) every status o left = WroteReplies left.tree left.number limit status o left.ran.lines left.ran.done left.ran.script
IsOutput limit (Some workers) every status o left = IsWorkersOutput left.tree left.number limit status left.ran.book o.read o.before o.now
IsOutput limit (Some (put name)) every status o left = WroteWhole status o.before o.now (text_of (put name) (start left.tree left.number limit) left.ran.asked)
IsOutput limit (Some (get name)) every status o left = WroteWhole status o.before o.now (text_of (get name) (start left.tree left.number limit) left.ran.asked)
IsOutput limit (Some (query name path)) every status o left = WroteWhole status o.before o.now (text_of (query name path) (start left.tree left.number limit) left.ran.asked)
IsOutput limit (Some (gen seed count)) every status o left = WroteWhole status o.before o.now (text_of (gen seed count) (start left.tree left.number limit) left.ran.asked)
IsOutput limit None every status o left = Unit {0}

-- ---- of each run

-- so it is of each run over a store that was opened
abbrev pub EachOpened : ((limit : ℕ) (c : Option Command) (every : ℕ) (status : Status) (o : Outcome) → OpenedStoreLeaves limit c every status o → Type 0) → Type 0
EachOpened Q = (limit : ℕ) (c : Option Command) (every : ℕ) (status : Status) (o : Outcome) (left : OpenedStoreLeaves limit c every status o) → Q limit c every status o left

-- so it is of the book of each, from the tree and the number that the store was opened as, and with its limit
abbrev pub EachBook : (Tree → ℕ → ℕ → Book BookCall → Type 0) → Type 0
EachBook Q = EachOpened (λ limit c every status o left. OfBook limit c every status o left (Q left.tree left.number limit))

-- so it is of the state of the sessions behind each
abbrev pub EachLastState : (State BookCall → Type 0) → Type 0
EachLastState Q = EachOpened (λ limit c every status o left. OfLastState limit c every status o left Q)

-- so it is of what each has done, where `Held` are files that hold every commit that was answered
abbrev pub EachAnswered : ((List ℕ → List ℕ → Type 0) → Outcome → Type 0) → Type 0
EachAnswered Q = EachOpened (λ limit c every status o left. OfAnswered limit c every status o left (λ Held. Q Held o))

-- so it is of the files at the opening and of what each has done, where `Held` are files that hold any of the first commits
abbrev pub EachPrefix : ((List ℕ → List ℕ → Type 0) → Pair → Outcome → Type 0) → Type 0
EachPrefix Q = EachOpened (λ limit c every status o left. OfPrefix limit c every status o left (λ Held. Q Held left.opening o))

-- ---- commands that only read

-- the files hold what they held: the pages their bytes, and the journal its own, or nine where it was fresh
pub record KeepBytes (o : Outcome) : Type 0 where
  pub journal : o.new.journal.now.reads ≡ journal_made o.old.journal.now.reads
  pub pages : o.new.pages.now.reads ≡ o.old.pages.now.reads

-- such a command leaves them so, where no images were open
abbrev pub EachReading : (Outcome → Type 0) → Type 0
EachReading Q = (limit : ℕ) (c : Command) (every : ℕ) (status : Status) (o : Outcome) → OpenedStoreLeaves limit (Some c) every status o → may_commit (Some c) ≡ false → (HasImages o.old.journal.now.reads → ⊥) → Q o

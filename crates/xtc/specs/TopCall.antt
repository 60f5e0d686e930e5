-- What a run of the program leaves, by its status (docs/MANUAL.md, "Statuses").
use Rattle.std.specs.Prelude.{◌≡◌, ◌≤◌, ◌⊎◌, ℕ, ◌+◌, ◌-◌, List, [], ◌∷◌, ◌++◌, length, take, Bool, false, true, IsTrue, Option, Some, None, Result, Ok, Err, IfOk, IfSome, String}
use Rattle.std.specs.declared.alloc.Global.{Global}
use Rattle.outside_kinds.specs.Bounds.{input_limit}
use Rattle.outside_traits.specs.Bytes.{Took, TookPrefix}
use Rattle.outside_traits.specs.DiskPairs.{Pair, PairsHave, PairsLeave}
use Rattle.outside_traits.specs.declared.disk.Disk.{Ghosts as DiskOf}
use Rattle.node_records.specs.declared.open_error.Place.{Place}
use Rattle.recovery.specs.Openings.{AreOpened, RefusesPages, UnlessImages}
use Rattle.tree_model.specs.Tree.{Tree}
use Rattle.store_contents.specs.StoredTrees.{StandFor, StoodFor, LeaveWhatStood}
use Rattle.script_runs.specs.Lines.{ended, lines_of, first_long, AllShort, line_limit}
use Rattle.script_runs.specs.Runs.{AskedLines, TookAtLeast}
use Rattle.script_runs.specs.Whole.{IsPast, piece}
use Rattle.call_contract.specs.Books.{Book, IsBookFrom, IsSerial, commits, last}
use Rattle.call_contract.specs.Deadlocks.{DeadlockIsTrue}
use Rattle.call_contract.specs.Ends.{LeavesAllElse}
use Rattle.call_contract.specs.Lives.{RepliesStand}
use Rattle.call_contract.specs.SerialRuns.{serial}
use Rattle.call_contract.specs.States.{State, start}
use Rattle.call_contract.specs.declared.events.Event.TheVariants.{Abort}
use Rattle.call_contract.specs.declared.events.Noted.{Noted}
use Rattle.session_driver.specs.Asking.{BookCall}
use Rattle.command_lines.specs.declared.line_reply.LineReply.{LineReply}
use Rattle.session_driver.specs.Lines.{Asked}
use Rattle.session_driver.specs.Progress.{Progress}
use Rattle.session_driver.specs.Waiters.{AllStopped}
use Rattle.store_calls.specs.StoreCalls.{store_meaning, IsValidStoreCall}
use Rattle.xtc.specs.Book.{script_of, after_asked, replies_text}
use Rattle.command_words.specs.Commands.{Command, checkpoint_of, command_of, run, workers, put, get, query, gen}
use Rattle.workers_text.specs.Entries.{entries_of}
use Rattle.workers_text.specs.Limits.{too_long}
use Rattle.workers_text.specs.Shown.{lines_in, IsShownBy}
use Rattle.session_driver.specs.Sessions.{DoesSome}
use Rattle.workers_text.specs.WorkersText.{asked_of}
use Rattle.xtc.specs.Checkpoints.{AreMade, every_of, may_lose_by, tries}
use Rattle.xtc.specs.Commands.{may_commit, reads_input}
use Rattle.durable_sessions.specs.InTurn as turn
use Rattle.durable_sessions.specs.declared.reasons.Reason.{Reason}
use Rattle.xtc.specs.Documents.{asks_of, end_of, stops_at, text_of}
use Rattle.xtc.specs.Outside.{ReadSome, Input, Output, Through, disks_left, disks_of}
use Rattle.xtc.specs.declared.status.Status.{Status}
use Rattle.xtc.specs.declared.status.Status.TheVariants.{Done, Usage, LineTooLong, Damaged, ReadFault, WriteFault, DiskFault, NoMemory, NotJsonMl, DocumentRefused}
use Rattle.xtc.specs.declared.top_call.Finish.{Finish}

-- the greatest number that a commit may have
abbrev pub tx_limit : ℕ
tx_limit = 4294967295

-- what was done to the outside: the bytes that were read, how many of them before the last read was asked for, what is left of the input,
-- what the sink held and holds, and the disks as they were and are
pub record Outcome : Type 0 where
  pub read : List ℕ
  pub asked : ℕ
  pub left : Option (List ℕ)
  pub before : Option (List ℕ)
  pub now : Option (List ℕ)
  pub old : Pair
  pub new : Pair

-- what a run has done that read these bytes, by what is told of its source and its sink, and by the files
abbrev pub outcome_of : Through Input → Through Output → Pair → Pair → List ℕ → Outcome
outcome_of input output old new read = record {
  read = read;
  asked = input.now.asked - input.before.given;
  left = input.now.left;
  before = output.before.held;
  now = output.now.held;
  old = old;
  new = new;
}

-- ---- the files

-- two files stand for the tree and the number after the commits of this book, run one after another by one thread on a plain tree
abbrev pub OpenAfter : Tree → ℕ → Book BookCall → List ℕ → List ℕ → Type 0
OpenAfter t n book journal pages = StandFor journal pages (serial store_meaning (commits book) t).tree (n + length (commits book))

-- after the commits of the first of these lines, at least so many
pub record OpenAfterLines (t : Tree) (n limit : ℕ) (least : ℕ) (lines : List (List ℕ)) (journal pages : List ℕ) : Type 0 where
  pub count : ℕ
  pub enough : least ≤ count
  pub within : count ≤ length lines
  pub opens : OpenAfter t n (script_of (start t n limit) (take count lines)).book journal pages

-- ---- the book

-- each deadlock in a book from this tree, number and limit shows a true cycle
abbrev pub ShowTrueCycles : Tree → ℕ → ℕ → Book BookCall → Type 0
ShowTrueCycles t n limit book = (before : Book BookCall) (e : Noted BookCall) (behind : Book BookCall) → book ≡ before ++ e ∷ behind
    → DeadlockIsTrue store_meaning (last store_meaning (start t n limit) before) e

-- each abort in it leaves the committed tree and all other transactions, and the aborted one holds nothing
abbrev pub AbortsLeaveAllElse : Tree → ℕ → ℕ → Book BookCall → Type 0
AbortsLeaveAllElse t n limit book = (before : Book BookCall) (e : Noted BookCall) (behind : Book BookCall) → book ≡ before ++ e ∷ behind → e.event ≡ Abort
    → LeavesAllElse (last store_meaning (start t n limit) before) (last store_meaning (start t n limit) (before ++ e ∷ [])) e.session

-- What holds of a book from this tree, number and limit.
-- It is legal; its committed transactions, run one after another by one thread on a plain tree, give the replies that were given, and the committed tree;
-- at each moment what the live ones were answered, those that abort later among them, is what they would be answered on the committed tree of that moment;
-- a deadlock shows a true cycle; and an aborted transaction leaves all else.
pub record IsSoundBook (t : Tree) (n limit : ℕ) (book : Book BookCall) : Type 0 where
  pub legal : IsBookFrom IsValidStoreCall store_meaning t n limit book
  pub serial : IsSerial store_meaning t n limit book
  pub live : (before behind : Book BookCall) → book ≡ before ++ behind → RepliesStand store_meaning (last store_meaning (start t n limit) before)
  pub deadlocks : ShowTrueCycles t n limit book
  pub aborts : AbortsLeaveAllElse t n limit book

-- The book of a script is sound, the state after it is that of the script, and no session waits whose call would be answered.
pub record IsSound (t : Tree) (n limit : ℕ) (script : Progress BookCall) : Type 0 where
  pub book : IsSoundBook t n limit script.book
  pub state : last store_meaning (start t n limit) script.book ≡ script.state
  pub no_vain_wait : AllStopped store_meaning script.state

-- ---- a script that ran

-- how many lines more than those that were answered a crash may find committed
abbrev pub slack : Status → ℕ
slack DiskFault = 1
slack NoMemory = 1
slack (Damaged place) = 1
slack status = 0

-- what is known besides, by the status: which lines were done, and that all their answers are written
abbrev pub IsExact : Status → List ℕ → List (List ℕ) → ℕ → Type 0 → Type 0
IsExact Done read lines done all_written = (done ≡ length lines) × (lines ≡ lines_of read) × all_written
IsExact (LineTooLong n) read lines done all_written = (n ≡ done + 1) × (first_long line_limit 1 (lines_of read) ≡ Some n) × all_written
IsExact ReadFault read lines done all_written = (done ≡ length lines) × (lines ≡ ended [] read) × all_written × AllShort line_limit (lines_of read)
IsExact (NotJsonMl why) read lines done all_written = ⊥
IsExact (DocumentRefused why) read lines done all_written = ⊥
IsExact status read lines done all_written = Unit {0}

-- A script over a store that was opened as a tree and a number. Of the lines that it was to do it did so many, none too long;
-- `script` is what these do, and the next one where it stopped within that one's commit.
-- The sink took a prefix of the text of the replies, whole where the status says so; the book is sound,
-- and the files, now and as a crash leaves them at any moment, stand for a prefix of its commits with every one that was answered.
pub record ScriptRan (t : Tree) (n limit : ℕ) (status : Status) (opening : Pair) (o : Outcome) : Type 0 where
  pub lines : List (List ℕ)
  pub asked_for : AskedLines o.left o.read lines
  pub done : ℕ
  pub within : done ≤ length lines
  pub short : AllShort line_limit (take done lines)
  pub further : ℕ
  pub at_most : further ≤ slack status
  pub script : Progress BookCall
  pub is : script ≡ script_of (start t n limit) (take (done + further) lines)
  pub sound : IsSound t n limit script
  pub wrote : TookPrefix o.before o.now (replies_text (script_of (start t n limit) (take done lines)).lines)
  pub exact : IsExact status o.read lines done (Took o.before o.now (replies_text script.lines))
  -- before the last read that came back, the lines that had ended were answered and their answers written, and no line was too long
  pub prompt : TookAtLeast o.before o.now (replies_text (script_of (start t n limit) (ended [] (take o.asked o.read))).lines)
  pub not_past : AllShort line_limit (lines_of (take o.asked o.read))
  -- a crash at any moment since the opening, a crash now, and the files as they read
  pub any_moment : PairsLeave (OpenAfterLines t n limit 0 (take (done + further) lines)) opening o.new
  pub left : PairsHave (OpenAfterLines t n limit done (take (done + further) lines)) o.new
  pub reads : OpenAfterLines t n limit done (take (done + further) lines) o.new.journal.now.reads o.new.pages.now.reads

-- ---- a command that asks in turn, and that ran

-- the most bytes of an input that is read as a whole
abbrev pub whole_limit : ℕ
whole_limit = 16777216

-- after the commits of the first of what was asked, at least of so many
pub record OpenAfterAsked (t : Tree) (n limit : ℕ) (least : ℕ) (asked : List (Asked BookCall)) (journal pages : List ℕ) : Type 0 where
  pub count : ℕ
  pub enough : least ≤ count
  pub within : count ≤ length asked
  pub opens : OpenAfter t n (after_asked (start t n limit) (take count asked)).book journal pages

-- these are the first of what a command asks
abbrev pub AreFirst : List (Asked BookCall) → Result (List (Asked BookCall)) Status → Type 0
AreFirst asked (Ok asks) = (rest : List (Asked BookCall)) × (asked ++ rest ≡ asks)
AreFirst asked (Err status) = asked ≡ []

-- A command is refused so. One that may commit has done all up to there: what was asked of the store ends it so,
-- where its input asks for anything at all.
pub record IsRefusedBehind (c : Command) (st : State BookCall) (read : List ℕ) (asked : List (Asked BookCall)) (why : Reason) : Type 0 where
  pub end : end_of c st (asks_of c st read) ≡ DocumentRefused why
  pub behind : IsTrue (may_commit (Some c)) → IfOk (asks_of c st read) (λ asks. end_of c st (Ok asked) ≡ DocumentRefused why)

-- what a status says of the input, and of what was asked from a state on; where nothing fails it is `end_of`
abbrev pub IsDocumentEnd : Command → State BookCall → List ℕ → Status → List (Asked BookCall) → Type 0
IsDocumentEnd c st read Done asked = (asks_of c st read ≡ Ok asked) × (end_of c st (Ok asked) ≡ Done)
IsDocumentEnd c st read WriteFault asked = (asks_of c st read ≡ Ok asked) × (end_of c st (Ok asked) ≡ Done)
IsDocumentEnd c st read (DocumentRefused why) asked = IsRefusedBehind c st read asked why
IsDocumentEnd c st read (NotJsonMl why) asked = asks_of c st read ≡ Err (NotJsonMl why)
IsDocumentEnd c st read (LineTooLong line) asked = (line ≡ 0) × (asked ≡ [])
IsDocumentEnd c st read ReadFault asked = IsTrue (reads_input (Some c)) × (asked ≡ [])
IsDocumentEnd c st read DiskFault asked = Unit {0}
IsDocumentEnd c st read NoMemory asked = Unit {0}
IsDocumentEnd c st read Usage asked = ⊥
IsDocumentEnd c st read (Damaged place) asked = ⊥

-- nothing was asked behind a reply by which there is a reason to stop
abbrev pub StopsAtRefusal : (LineReply → Option Reason) → State BookCall → List (Asked BookCall) → Type 0
StopsAtRefusal by st asked = turn.StopsAtRefusal store_meaning by st asked

-- so many bytes were read: more than an input may have at that status alone, or where memory was wanting for them
abbrev pub IsWithin : Status → ℕ → Type 0
IsWithin (LineTooLong line) count = IsPast whole_limit count
IsWithin NoMemory count = count ≤ whole_limit + piece
IsWithin status count = count ≤ whole_limit

-- the input was read to its end, within its limit: what was read is all of it
abbrev pub IsWhole : Option (List ℕ) → List ℕ → Type 0
IsWhole left read = IfSome left (λ rest. rest ≡ []) × (length read ≤ whole_limit)

-- what needs the whole input: each status that judges it, and all that was asked of the store
abbrev pub NeedsWhole : Status → List (Asked BookCall) → Type 0 → Type 0
NeedsWhole (LineTooLong line) asked P = Unit {0}
NeedsWhole ReadFault asked P = Unit {0}
NeedsWhole NoMemory asked P = (asked ≡ []) ⊎ P
NeedsWhole status asked P = P

-- the text is written at the end, and nothing at any other status but a write fault
abbrev pub WroteWhole : Status → Option (List ℕ) → Option (List ℕ) → List ℕ → Type 0
WroteWhole Done before now text = Took before now text
WroteWhole WriteFault before now text = TookPrefix before now text
WroteWhole status before now text = now ≡ before

-- `put`, `get`, `query` or `gen` over a store that was opened as a tree and a number. `asked` is what sessions were asked in turn, up to the first reply that ends the command; `answered` of these were answered,
-- all but the last one at most, within whose commit the command stopped. The book of all is sound,
-- and the files, now and as a crash leaves them at any moment, stand for a prefix of its commits with every one that was answered.
pub record DocumentRan (t : Tree) (n limit : ℕ) (c : Command) (status : Status) (opening : Pair) (o : Outcome) : Type 0 where
  pub asked : List (Asked BookCall)
  pub first : AreFirst asked (asks_of c (start t n limit) o.read)
  pub stops : StopsAtRefusal (stops_at c) (start t n limit) asked
  pub answered : ℕ
  pub all_but : length asked ≤ answered + slack status
  pub sound : IsSound t n limit (after_asked (start t n limit) asked)
  pub end : IsDocumentEnd c (start t n limit) o.read status asked
  pub short : IsWithin status (length o.read)
  -- `put` judges its whole input and commits nothing but that; the others read none, and `get` and `query` leave the journal
  pub whole : IsTrue (reads_input (Some c)) → NeedsWhole status asked (IsWhole o.left o.read)
  pub unread : reads_input (Some c) ≡ false → o.read ≡ []
  pub unwritten : may_commit (Some c) ≡ false → o.new.journal ≡ opening.journal
  pub wrote : WroteWhole status o.before o.now (text_of c (start t n limit) asked)
  -- a crash at any moment since the opening, a crash now, and the files as they read
  pub any_moment : PairsLeave (OpenAfterAsked t n limit 0 asked) opening o.new
  pub left : PairsHave (OpenAfterAsked t n limit answered asked) o.new
  pub reads : OpenAfterAsked t n limit answered asked o.new.journal.now.reads o.new.pages.now.reads

-- ---- a script that was run by workers

-- the files stand for the tree and the number after the first of this book's commits, at least so many
pub record OpenAfterCommits (t : Tree) (n least : ℕ) (book : Book BookCall) (journal pages : List ℕ) : Type 0 where
  pub count : ℕ
  pub enough : least ≤ count
  pub within : count ≤ length (commits book)
  pub opens : StandFor journal pages (serial store_meaning (take count (commits book)) t).tree (n + count)

-- what was written: the text that this book shows of the lines, whole where the status says so
pub record WroteShown (t : Tree) (n limit : ℕ) (status : Status) (book : Book BookCall) (read : List ℕ) (before now : Option (List ℕ)) : Type 0 where
  pub text : List LineReply
  pub shows : IsShownBy store_meaning t n limit book (lines_in (entries_of read)) text
  pub wrote : WroteWhole status before now (replies_text text)

-- nothing is written, and the book has of each session the first of its lines, the last of them as far as it came
pub record WroteNone (t : Tree) (n limit : ℕ) (book : Book BookCall) (read : List ℕ) (before now : Option (List ℕ)) : Type 0 where
  pub did : (s : ℕ) → DoesSome store_meaning s (start t n limit) book (asked_of s (lines_in (entries_of read)))
  pub silent : now ≡ before

-- nothing was done, and nothing is written
abbrev pub IsUndone : Book BookCall → Option (List ℕ) → Option (List ℕ) → Type 0
IsUndone book before now = (book ≡ []) × (now ≡ before)

-- The workers did all lines, and the book shows a text of them. Where a disk failed, or memory was wanting, they may have done the first ones alone, and nothing is written;
-- where memory was wanting for the script, and at any other status, they did none.
abbrev pub IsWorkersOutput : Tree → ℕ → ℕ → Status → Book BookCall → List ℕ → Option (List ℕ) → Option (List ℕ) → Type 0
IsWorkersOutput t n limit Done book read before now = WroteShown t n limit Done book read before now
IsWorkersOutput t n limit WriteFault book read before now = WroteShown t n limit WriteFault book read before now
IsWorkersOutput t n limit DiskFault book read before now = WroteNone t n limit book read before now
IsWorkersOutput t n limit NoMemory book read before now = WroteNone t n limit book read before now ⊎ IsUndone book before now
IsWorkersOutput t n limit status book read before now = IsUndone book before now

-- what a status says of the input
abbrev pub IsWorkersEnd : Status → List ℕ → Type 0
IsWorkersEnd Done read = too_long read ≡ None
IsWorkersEnd WriteFault read = too_long read ≡ None
IsWorkersEnd DiskFault read = too_long read ≡ None
IsWorkersEnd ReadFault read = too_long read ≡ None
IsWorkersEnd (LineTooLong line) read = too_long read ≡ Some line
IsWorkersEnd NoMemory read = Unit {0}
IsWorkersEnd status read = ⊥

-- the statuses at which lines were done need the whole input; where memory was wanting, and it wasn't read to its end, the book is empty
abbrev pub NeedsWholeScript : Status → Book BookCall → Type 0 → Type 0
NeedsWholeScript Done book P = P
NeedsWholeScript WriteFault book P = P
NeedsWholeScript DiskFault book P = P
NeedsWholeScript NoMemory book P = (book ≡ []) ⊎ P
NeedsWholeScript status book P = Unit {0}

-- how many of a book's commits are sure to be found: all, where something may be written
abbrev pub durable_at : Status → Book BookCall → ℕ
durable_at Done book = length (commits book)
durable_at WriteFault book = length (commits book)
durable_at status book = 0

-- `workers` over a store that was opened as a tree and a number. One book, sound and that which the store kept, shows what was written;
-- the files, now and as a crash leaves them at any moment, stand for the tree after the first of its commits, and after all where anything was written.
pub record WorkersRan (t : Tree) (n limit : ℕ) (status : Status) (opening : Pair) (o : Outcome) : Type 0 where
  pub book : Book BookCall
  pub sound : IsSoundBook t n limit book
  pub output : IsWorkersOutput t n limit status book o.read o.before o.now
  pub end : IsWorkersEnd status o.read
  pub whole : NeedsWholeScript status book (IfSome o.left (λ rest. rest ≡ []))
  pub short : length o.read ≤ whole_limit + piece
  -- a crash at any moment since the opening, a crash now, and the files as they read
  pub any_moment : PairsLeave (OpenAfterCommits t n 0 book) opening o.new
  pub left : PairsHave (OpenAfterCommits t n (durable_at status book) book) o.new
  pub reads : OpenAfterCommits t n (durable_at status book) book o.new.journal.now.reads o.new.pages.now.reads

-- a command that ran
abbrev pub CommandRan : Tree → ℕ → ℕ → Option Command → Status → Pair → Outcome → Type 0
CommandRan t n limit (Some run) status opening o = ScriptRan t n limit status opening o
CommandRan t n limit (Some workers) status opening o = WorkersRan t n limit status opening o
CommandRan t n limit (Some (put name)) status opening o = DocumentRan t n limit (put name) status opening o
CommandRan t n limit (Some (get name)) status opening o = DocumentRan t n limit (get name) status opening o
CommandRan t n limit (Some (query name path)) status opening o = DocumentRan t n limit (query name path) status opening o
CommandRan t n limit (Some (gen seed count)) status opening o = DocumentRan t n limit (gen seed count) status opening o
CommandRan t n limit None status opening o = ⊥

-- its book: of a script's lines, of what was asked in turn, or of what workers did
abbrev pub book_of : (t : Tree) (n limit : ℕ) (c : Option Command) (status : Status) (opening : Pair) (o : Outcome) → CommandRan t n limit c status opening o → Book BookCall
book_of t n limit (Some run) status opening o ran = ran.script.book
book_of t n limit (Some workers) status opening o ran = ran.book
book_of t n limit (Some (put name)) status opening o ran = (after_asked (start t n limit) ran.asked).book
book_of t n limit (Some (get name)) status opening o ran = (after_asked (start t n limit) ran.asked).book
book_of t n limit (Some (query name path)) status opening o ran = (after_asked (start t n limit) ran.asked).book
book_of t n limit (Some (gen seed count)) status opening o ran = (after_asked (start t n limit) ran.asked).book
book_of t n limit None status opening o ran = []

-- ---- by the status

-- the store wasn't opened: nothing was read or written, and a crash leaves what stands for what such files stood for at the start, now and at each moment
pub record UnopenedStoreLeaves (o : Outcome) : Type 0 where
  pub read : o.read ≡ []
  pub silent : o.now ≡ o.before
  pub any_moment : LeaveWhatStood o.old o.new
  pub left : PairsHave (StoodFor o.old) o.new

-- the store was opened, and the command ran, with checkpoints behind each so many commits
pub record OpenedStoreLeaves (limit : ℕ) (command : Option Command) (every : ℕ) (status : Status) (o : Outcome) : Type 0 where
  pub tree : Tree
  pub number : ℕ
  pub stood : StandFor o.old.journal.now.reads o.old.pages.now.reads tree number
  pub opening : Pair
  pub until_open : LeaveWhatStood o.old opening
  -- where no images were open, the opening left the bytes of both files, all synced; of a fresh journal nine
  pub begins : UnlessImages true true o.old.journal.now.reads (AreOpened true true o.old opening)
  pub ran : CommandRan tree number limit command status opening o
  -- without checkpoints the pages aren't written; with them, at the end, they hold the tree behind the last one
  pub pages : tries command every ≡ false → o.new.pages ≡ opening.pages
  pub made : status ≡ Done → IsTrue (tries command every) → AreMade command every tree number (book_of tree number limit command status opening o ran) o.new.journal.now.reads o.new.pages.now.reads

-- what the words' command leaves, which asks for checkpoints behind each so many commits
abbrev pub Leaves : ℕ → Option Command → ℕ → Status → Outcome → Type 0
Leaves limit command every Usage o = (o.read ≡ []) × (o.now ≡ o.before) × (o.new ≡ o.old)
Leaves limit command every (Damaged place) o = UnopenedStoreLeaves o
Leaves limit command every DiskFault o = UnopenedStoreLeaves o ⊎ OpenedStoreLeaves limit command every DiskFault o
Leaves limit command every NoMemory o = UnopenedStoreLeaves o ⊎ OpenedStoreLeaves limit command every NoMemory o
Leaves limit command every status o = OpenedStoreLeaves limit command every status o

-- what a run of these words leaves, where the disks that it is given are known
abbrev pub XtcLeaves : {J P : Type 0} → DiskOf J → DiskOf P → List (String Global) → J → P → Finish J P → Through Input → Through Output → Type 0
XtcLeaves j p words journal pages finish input output = ReadSome input (λ read. IsTrue j.is_known → IsTrue p.is_known
    → Leaves tx_limit (command_of words) (every_of (checkpoint_of words)) finish.status
    (outcome_of input output (disks_of j p journal pages).files (disks_left j p finish).files read))

-- files that were found damaged at this place are synced, and as they were, where both disks are known
abbrev pub LeavesDamaged : {J P : Type 0} → DiskOf J → DiskOf P → J → P → Finish J P → Place → Type 0
LeavesDamaged j p journal pages finish place = IsTrue j.is_known → IsTrue p.is_known → RefusesPages (disks_of j p journal pages).files (disks_left j p finish).files place

-- nothing was begun: that is said of the words, or memory was wanting, and the disks are those that were given
abbrev pub IsUnstarted : {J P : Type 0} → J → P → Finish J P → Type 0
IsUnstarted journal pages finish = ((finish.status ≡ Usage) ⊎ (finish.status ≡ NoMemory)) × (finish.journal ≡ journal) × (finish.pages ≡ pages)

-- so it is where nothing is read; `lost`: damage may have come behind the opening
abbrev pub IsUnread : Bool → Status → Type 0 → Type 0
IsUnread lost Usage P = P
IsUnread false (Damaged place) P = P
IsUnread lost status P = Unit {0}

-- what a run took of its input, of so many bytes given: all of it at the end of a command that reads one, nothing where no store was opened
pub record TookInput (command : Option Command) (lost : Bool) (status : Status) (left left_now : Option (List ℕ)) (given given_now : ℕ) : Type 0 where
  pub whole : IsTrue (reads_input command) → status ≡ Done → IfSome left_now (λ rest. rest ≡ [])
  pub unread : IsUnread lost status ((left_now ≡ left) × (given_now ≡ given))
  pub bound : given_now ≤ given + input_limit

-- the same of a run of these words, by what is told of its source
abbrev pub RunTookInput : List (String Global) → Bool → Status → Through Input → Type 0
RunTookInput words pages_known status input =
    TookInput (command_of words) (may_lose_by words pages_known) status input.before.left input.now.left input.before.given input.now.given

-- so it is in a command that isn't done line by line
abbrev pub OfDocument : Option Command → Type 0 → Type 0
OfDocument (Some (put name)) P = P
OfDocument (Some (get name)) P = P
OfDocument (Some (query name path)) P = P
OfDocument (Some (gen seed count)) P = P
OfDocument (Some workers) P = P
OfDocument command P = Unit {0}

-- so it is in one that writes nothing but at its end
abbrev pub OfWorkers : Option Command → Type 0 → Type 0
OfWorkers (Some workers) P = P
OfWorkers command P = Unit {0}

-- so it is where nothing is written; `lost`: damage may have come behind the opening
abbrev pub IsSilent : Option Command → Bool → Status → Type 0 → Type 0
IsSilent command lost Usage P = P
IsSilent command false (Damaged place) P = P
IsSilent command true (Damaged place) P = OfDocument command P
IsSilent command lost (NotJsonMl why) P = P
IsSilent command lost (DocumentRefused why) P = P
IsSilent command lost (LineTooLong line) P = OfDocument command P
IsSilent command lost ReadFault P = OfDocument command P
IsSilent command lost DiskFault P = OfWorkers command P
IsSilent command lost NoMemory P = OfWorkers command P
IsSilent command lost status P = Unit {0}

-- the statuses with which a command ends over a store that was opened
abbrev pub IsOfOpened : Bool → Status → Type 0
IsOfOpened lost Usage = ⊥
IsOfOpened lost (Damaged place) = IsTrue lost
IsOfOpened lost status = Unit {0}

-- What the workers of a script did to a core that was opened, and what they leave of a store's files.
use Rattle.std.proofs.Common.{◌≡◌, ◌==◌, ◌≤◌, ◌⊎◌, ℕ, Bool, true, false, not, ◌&&◌, IsTrue, List, [], ◌∷◌, inl, inr, refl, sym, ap, ◌∙◌, subst, append-nil}
use Rattle.std.specs.Prelude.{Option, None, Result, Ok, Err, IfOk, IfErr, OnOk, if◌then◌else◌}
use Rattle.outside_traits.specs.DiskPairs.{Pair, pair_of}
use Rattle.outside_traits.proofs.PairLaws.{none}
use Rattle.outside_traits.specs.Faults.{FaultCounted}
use Rattle.outside_traits.specs.Moments.{History, IsAllSynced}
use Rattle.tree_model.specs.Entries.{Entries}
use Rattle.tree_model.specs.Tree.{Tree}
use Rattle.tree_model.specs.ValidTrees.{IsValidTree}
use Rattle.node_seq.specs.Trees.{StandsFor}
use Rattle.journal.specs.Views.{JournalView}
use Rattle.recovery.specs.Openings.{TakesBehind}
use Rattle.checkpoint.specs.Bases.{IsUnchanged, contents_of, count_of, is_paged}
use Rattle.checkpoint.specs.declared.base.Base.{Base}
use Rattle.script_runs.specs.Counts.{Counts, DisksCountedWhere}
use Rattle.call_contract.specs.Books.{Book, IsBookFrom, last}
use Rattle.call_contract.specs.Calls.{CallMeaning}
use Rattle.call_contract.specs.States.{State, start}
use Rattle.session_driver.specs.declared.doing.Doing.{Doing}
use Rattle.session_driver.specs.Asking.{BookCall}
use Rattle.command_lines.specs.declared.line_reply.LineReply.{LineReply}
use Rattle.tx_core.specs.Cores.{CoreView, opened_over}
use Rattle.store_calls.specs.StoreCalls.{IsValidStoreCall, store_meaning}
use Rattle.workers_text.specs.Shown.{IsShownBy}
use Rattle.group_commit.specs.Cores.{IsFrom}
use Rattle.group_commit.specs.Journals.{WroteAll, WroteFirst}
use Rattle.session_driver.specs.Sessions.{BreaksNext, Does, DoesSome, Ends, Printed, doings_of}
use Rattle.workers_text.specs.WorkersText.{HasReplies, Line, asked, asked_of, bad, printed_of}
use Rattle.xtc.specs.Book.{replies_text}
use Rattle.xtc.specs.StoreMachine.{HasPages, faults_of}
use Rattle.xtc.specs.TopCall.{OpenAfterCommits, tx_limit}
use Rattle.xtc.specs.declared.checkpoints.Checkpoints.{Checkpoints}
use Rattle.xtc.specs.declared.status.Status.{Status}
use Rattle.xtc.specs.declared.status.Status.TheVariants.{Done, Usage, LineTooLong, Damaged, ReadFault, WriteFault, DiskFault, NoMemory, NotJsonMl, DocumentRefused}
use Rattle.xtc.specs.inside.CommandRuns.{HasTree, StandSettled}
use Rattle.xtc.specs.inside.Renewing.{ReadsGroups}
use Rattle.xtc.specs.inside.Working.{HasCommits, IsBegun, IsNew, IsWorkersStop, LeavesCommits, MayEnd, ScriptDone, WorkedAll, WorkedSome, counts_beside, files_beside}
use Rattle.xtc.proofs.CheckpointLaws.{file_still, paged_still}
use Rattle.xtc.proofs.LoneLines.{rose}
use Rattle.xtc.proofs.SoundBooks.{empty_legal}
use Rattle.xtc.proofs.WorkersCommits.{FirstsStand, written_leaves}

-- a core that was opened is new
pub new_core : {B : Type 0} (contents : B → Option Entries) (base : B) (n : ℕ) (core : CoreView BookCall B) → core ≡ opened_over base (contents base) n tx_limit → IsNew contents core
new_core contents base n core is = subst (IsNew contents) (sym is) refl

-- ---- lines that were done, or begun

module _ {C : Type 0} (s : ℕ) where
  asked_printed : (lines : List (Line C)) (rs : List LineReply) → HasReplies lines rs → asked_of s lines ≡ doings_of (printed_of s lines rs)
  asked_printed [] [] h = refl
  asked_printed [] (r ∷ rs) h = absurd h
  asked_printed (line ∷ lines) [] h = absurd h
  asked_printed (asked a ∷ lines) (r ∷ rs) h = go (a.session == s) (asked_printed lines rs h)
    where
      go : (b : Bool) → asked_of s lines ≡ doings_of (printed_of s lines rs) → (if b then a.doing ∷ asked_of s lines else asked_of s lines) ≡ doings_of (if b then record { doing = a.doing; reply = r } ∷ printed_of s lines rs else printed_of s lines rs)
      go true e = ap (λ (ds : List (Doing C)). a.doing ∷ ds) e
      go false e = e
  asked_printed (bad b ∷ lines) (r ∷ rs) h = asked_printed lines rs h.1

-- what was done whole was done in part
done_in_part : {C : Type 0} (m : CallMeaning C) (s : ℕ) (st : State C) (whole : Book C) (ps : List (Printed C)) → Does m s st whole ps → DoesSome m s st whole (doings_of ps)
done_in_part m s st whole ps does = record {
  entries = does.entries;
  broken = [];
  rest = does.rest;
  book = does.book;
  done = ps;
  left = [];
  all = sym (append-nil (doings_of ps));
  lines = does.lines;
  breaks = tt;
  ends = subst (λ (es : Book _). Ends m s (last m st es) does.rest) (sym (append-nil does.entries)) does.ends;
}

shown_in_part : (t : Tree) (n limit : ℕ) (book : Book BookCall) (lines : List (Line BookCall)) (text : List LineReply) → IsShownBy store_meaning t n limit book lines text → (s : ℕ) → DoesSome store_meaning s (start t n limit) book (asked_of s lines)
shown_in_part t n limit book lines text shown s =
    subst (DoesSome store_meaning s (start t n limit) book) (sym (asked_printed s lines shown.replies shown.each))
    (done_in_part store_meaning s (start t n limit) book (printed_of s lines shown.replies) (shown.does s))

-- whether there is a text or not
pub did_some : {T E : Type 0} (r : Result T E) (Opens : Tree → Type 0) (n limit : ℕ) (book : Book BookCall) (lines : List (Line BookCall)) (bytes : T → List LineReply → Type 0)
    → IfOk r (λ x. (text : List LineReply) × bytes x text × ((t : Tree) → Opens t → IsShownBy store_meaning t n limit book lines text))
    → IfErr r (λ e. (t : Tree) → Opens t → (s : ℕ) → DoesSome store_meaning s (start t n limit) book (asked_of s lines))
    → (t : Tree) → Opens t → (s : ℕ) → DoesSome store_meaning s (start t n limit) book (asked_of s lines)
did_some (Ok x) Opens n limit book lines bytes shows stops t opens s = shown_in_part t n limit book lines shows.0 (shows.2 t opens) s
did_some (Err e) Opens n limit book lines bytes shows stops t opens s = stops t opens s

-- none was done
pub none_worked : (t : Tree) (n every : ℕ) → IsValidTree t → (old new : Pair) → new ≡ old → (lines : List (Line BookCall)) → WorkedSome t n every lines old new
none_worked t n every formed old new same lines = record {
  book = [];
  legal = empty_legal t n tx_limit formed;
  did = λ s. record { entries = []; broken = []; rest = []; book = refl; done = []; left = asked_of s lines; all = refl; lines = tt; breaks = unbroken (asked_of s lines) s; ends = refl };
  leaves = subst (LeavesCommits t n every [] old) (sym same) (record { moments = none (OpenAfterCommits t n 0 []) old; still = λ undue. refl });
}
  where
    unbroken : (ds : List (Doing BookCall)) (s : ℕ) → BreaksNext s ds []
    unbroken [] s = tt
    unbroken (d ∷ ds) s = tt

-- why nothing is written of lines that were done; known pages aren't lost
pub stopped_done : {T : Type 0} (t : Tree) (n every : ℕ) (lines : List (Line BookCall)) (old new : Pair) (bytes : T → List ℕ) (lost : Bool) (status : Status) → IsWorkersStop lost status → (IsTrue lost → ⊥)
    → WorkedSome t n every lines old new → ScriptDone t n every lines old new bytes (Err status)
stopped_done t n every lines old new bytes lost DiskFault is unlost did = did
stopped_done t n every lines old new bytes lost NoMemory is unlost did = did
stopped_done t n every lines old new bytes lost (Damaged place) is unlost did = unlost is
stopped_done t n every lines old new bytes lost Done is unlost did = is
stopped_done t n every lines old new bytes lost Usage is unlost did = is
stopped_done t n every lines old new bytes lost (LineTooLong line) is unlost did = is
stopped_done t n every lines old new bytes lost ReadFault is unlost did = is
stopped_done t n every lines old new bytes lost WriteFault is unlost did = is
stopped_done t n every lines old new bytes lost (NotJsonMl why) is unlost did = is
stopped_done t n every lines old new bytes lost (DocumentRefused why) is unlost did = is

pub known_unlost : (some is_known : Bool) → IsTrue is_known → IsTrue (some && not is_known) → ⊥
known_unlost true true known lost = absurd cc
known_unlost false true known lost = absurd cc
known_unlost some false known lost = absurd cc

-- ---- what they did to a core

module _ {P : Type 0} (is_known : Bool) (history : P → History) (faults : P → ℕ) (first core : CoreView BookCall (Base P)) (is : IsNew (contents_of is_known history) first)
    (from : IsFrom (IsUnchanged is_known history faults) first core) (journal : JournalView) (checkpoints : Checkpoints P) where
  opening_is : core.opening ≡ first.base
  opening_is = from.opening ∙ ap (λ (v : CoreView BookCall (Base P)). v.opening) is

  begun_still : IsBegun is_known history first.base first.number journal checkpoints → IsBegun is_known history core.base core.number journal checkpoints
  begun_still begun = record {
    paged = paged_still is_known history faults first.base core.base from.base begun.paged;
    synced = λ known. subst IsAllSynced (sym (file_still is_known history faults first.base core.base None from.base known)) (begun.synced known);
    takes = subst (TakesBehind journal) (sym from.number) begun.takes;
    inside = begun.inside;
    opened = begun.opened ∙ sym from.number;
  }

  -- the pages are in the base
  pub pages_still : IsBegun is_known history first.base first.number journal checkpoints → HasPages core.base checkpoints.pages
  pages_still begun = subst (λ (p : Option P). HasPages core.base p) (sym begun.inside) (begun_still begun).paged

  -- the workers have ended, and all commits are written
  pub may_end : (journal_known : Bool) (later : JournalView) → IsBegun is_known history first.base first.number journal checkpoints → (IsTrue is_known → HasTree (contents_of is_known history first.base))
      → WroteAll store_meaning (contents_of is_known history) journal_known journal core later → MayEnd journal_known is_known history journal core later checkpoints
  may_end journal_known later begun tree wrote = record {
    begun = begun_still begun;
    opened = subst (λ (b : Base P). IsTrue (is_paged b)) (sym opening_is) begun.paged;
    tree = λ known. subst (λ (b : Base P). HasTree (contents_of is_known history b)) (sym opening_is) (tree known);
    wrote = wrote;
  }

  abbrev begin : Pair
  begin = files_beside history journal first.base checkpoints

  -- the files are as they were
  pub files_still : IsTrue is_known → files_beside history journal core.base checkpoints ≡ begin
  files_still known = λ i. pair_of journal.history (file_still is_known history faults first.base core.base checkpoints.pages from.base known i)

  module _ (known : IsTrue is_known) (t : Tree) (stands : StandsFor (contents_of is_known history first.base) t) (files : StandSettled begin t first.number) (lines : List (Line BookCall))
      (legal : (u : Tree) → StandsFor (contents_of is_known history first.opening) u → IsBookFrom IsValidStoreCall store_meaning u first.number first.limit core.book) where
    pub first_stands : StandsFor (contents_of is_known history first.opening) t
    first_stands = subst (λ (b : Base P). StandsFor (contents_of is_known history b) t) (sym (ap (λ (v : CoreView BookCall (Base P)). v.opening) is)) stands

    pub limit_is : first.limit ≡ tx_limit
    limit_is = ap (λ (v : CoreView BookCall (Base P)). v.limit) is

    abbrev now : Pair
    now = files_beside history journal core.base checkpoints

    -- what is so of the commits of its book, by the files beside which it stands
    pub of_commits : (Q : Type 0) → (StandsFor (contents_of is_known history core.opening) t → IsBookFrom IsValidStoreCall store_meaning t core.number core.limit core.book → StandSettled now t core.number → Q) → Q
    of_commits Q leads = leads
        (subst (λ (b : Base P). StandsFor (contents_of is_known history b) t) (sym opening_is) stands)
        (subst (λ (x : ℕ × ℕ). IsBookFrom IsValidStoreCall store_meaning t x.0 x.1 core.book) (λ i. (sym from.number i, sym from.limit i)) (legal t first_stands))
        (subst (λ (x : Pair × ℕ). StandSettled x.0 t x.1) (λ i. (sym (files_still known) i, sym from.number i)) files)

    -- of the commits of its book the first ones are in the journal
    pub first_left : (law : FirstsStand) (journal_known : Bool) → IsTrue journal_known → ReadsGroups journal_known journal → IsBegun is_known history first.base first.number journal checkpoints → (later : JournalView)
        → WroteFirst store_meaning (contents_of is_known history) journal_known journal 0 core later → LeavesCommits t core.number checkpoints.every core.book now (files_beside history later core.base checkpoints)
    first_left law journal_known kj reads begun later wrote = of_commits (LeavesCommits t core.number checkpoints.every core.book now (files_beside history later core.base checkpoints)) (λ opened legal_now files_now. record {
      moments = written_leaves (contents_of is_known history) law journal_known kj core t opened legal_now journal later (reads kj begun.takes.usable.unfailed begun.takes.usable.unheld) now.pages files_now.pages files_now.stand 0 wrote;
      still = λ none. refl;
    })

    module _ (new : Pair) (leaves : LeavesCommits t core.number checkpoints.every core.book now new) where
      legal_here : IsBookFrom IsValidStoreCall store_meaning t first.number tx_limit core.book
      legal_here = subst (λ (limit : ℕ). IsBookFrom IsValidStoreCall store_meaning t first.number limit core.book) limit_is (legal t first_stands)

      leaves_here : LeavesCommits t first.number checkpoints.every core.book begin new
      leaves_here = subst (λ (x : Pair × ℕ). LeavesCommits t x.1 checkpoints.every core.book x.0 new) (λ i. (files_still known i, from.number i)) leaves

      pub worked_some : ((u : Tree) → StandsFor (contents_of is_known history first.opening) u → (s : ℕ) → DoesSome store_meaning s (start u first.number first.limit) core.book (asked_of s lines))
          → WorkedSome t first.number checkpoints.every lines begin new
      worked_some did = record {
        book = core.book;
        legal = legal_here;
        did = λ s. subst (λ (limit : ℕ). DoesSome store_meaning s (start t first.number limit) core.book (asked_of s lines)) limit_is (did t first_stands s);
        leaves = leaves_here;
      }

      pub worked_all : (text : List LineReply) → ((u : Tree) → StandsFor (contents_of is_known history first.opening) u → IsShownBy store_meaning u first.number first.limit core.book lines text) → (bytes : List ℕ) → bytes ≡ replies_text text
          → HasCommits t core.number checkpoints.every core.book new → WorkedAll t first.number checkpoints.every lines begin new bytes
      worked_all text shows bytes shown all = record {
        book = core.book;
        legal = legal_here;
        text = text;
        shows = subst (λ (limit : ℕ). IsShownBy store_meaning t first.number limit core.book lines text) limit_is (shows t first_stands);
        bytes_are = shown;
        leaves = leaves_here;
        all = subst (λ (n : ℕ). HasCommits t n checkpoints.every core.book new) from.number all;
      }

    -- they did some of the lines
    pub some_done : (law : FirstsStand) (journal_known : Bool) → IsTrue journal_known → ReadsGroups journal_known journal → IsBegun is_known history first.base first.number journal checkpoints → (later : JournalView)
        → WroteFirst store_meaning (contents_of is_known history) journal_known journal 0 core later
        → ((u : Tree) → StandsFor (contents_of is_known history first.opening) u → (s : ℕ) → DoesSome store_meaning s (start u first.number first.limit) core.book (asked_of s lines))
        → WorkedSome t first.number checkpoints.every lines begin (files_beside history later core.base checkpoints)
    some_done law journal_known kj reads begun later wrote did = worked_some (files_beside history later core.base checkpoints) (first_left law journal_known kj reads begun later wrote) did

    -- all of them, with a checkpoint behind them that came to its end or not
    pub ended_done : {T : Type 0} (r : Result T Status) (x : T) (items : T → List ℕ) (lost : Bool) → (IsTrue lost → ⊥) → IfErr r (IsWorkersStop lost) → IfOk r (λ b. b ≡ x) → (new : Pair)
        → LeavesCommits t core.number checkpoints.every core.book now new × OnOk r (HasCommits t core.number checkpoints.every core.book new) → (text : List LineReply)
        → ((u : Tree) → StandsFor (contents_of is_known history first.opening) u → IsShownBy store_meaning u first.number first.limit core.book lines text) → items x ≡ replies_text text
        → ScriptDone t first.number checkpoints.every lines begin new items r
    ended_done (Ok b) x items lost unlost stops is_its new left text shows shown = worked_all new left.0 text shows (items b) (ap items is_its ∙ shown) left.1
    ended_done {T} (Err status) x items lost unlost stops is_its new left text shows shown =
        stopped_done {T = T} t first.number checkpoints.every lines begin new items lost status stops unlost
        (worked_some new left.0 (λ u stands s. shown_in_part u first.number first.limit core.book lines text (shows u stands) s))

-- ---- the counts

module _ {P : Type 0} (faults : P → ℕ) (first last : JournalView) (checkpoints : Checkpoints P) (inside : checkpoints.pages ≡ None) (x y : Base P) where
  abbrev count_in : JournalView → Base P → Option P → Counts
  count_in j b p = record { journal = j.faults; pages = faults_of faults b p }

  -- a fault of one disk was counted
  one_rose : {Q : Type 0} → Q → FaultCounted first.faults last.faults ⊎ FaultCounted (count_of faults x) (count_of faults y) → first.faults ≤ last.faults → count_of faults x ≤ count_of faults y
      → DisksCountedWhere Q (counts_beside faults first x checkpoints) (counts_beside faults last y checkpoints)
  one_rose {Q} it one journal_later pages_later =
      subst (λ (p : Option P). DisksCountedWhere Q (count_in first x p) (count_in last y p)) (sym inside) (record {
        counted = λ _. record { one = one; journal = journal_later; pages = pages_later };
        exact = λ never. absurd (never it);
      })

  pub base_rose : {Q : Type 0} → Q → first.faults ≤ last.faults → count_of faults x ≤ count_of faults y → (count_of faults y ≡ count_of faults x → ⊥) → DisksCountedWhere Q (counts_beside faults first x checkpoints) (counts_beside faults last y checkpoints)
  base_rose it journal_later later other = one_rose it (inr (rose (count_of faults x) (count_of faults y) later other)) journal_later later

  pub journal_rose : {Q : Type 0} → Q → first.faults ≤ last.faults → (last.faults ≡ first.faults → ⊥) → count_of faults x ≤ count_of faults y → DisksCountedWhere Q (counts_beside faults first x checkpoints) (counts_beside faults last y checkpoints)
  journal_rose it later other pages_later = one_rose it (inl (rose first.faults last.faults later other)) later pages_later

  -- or none was
  pub both_same : last.faults ≡ first.faults → count_of faults y ≡ count_of faults x → counts_beside faults last y checkpoints ≡ counts_beside faults first x checkpoints
  both_same journal_is is = subst (λ (p : Option P). count_in last y p ≡ count_in first x p) (sym inside) (λ i. record { journal = journal_is i; pages = is i })

-- ---- results

-- where there is a text, this holds of it
pub of_ok : {T E : Type 0} (r : Result T E) (x : T) (P : T → Type 0) → r ≡ Ok x → IfOk r P → P x
of_ok r x P is h = subst (λ (s : Result _ _). IfOk s P) is h

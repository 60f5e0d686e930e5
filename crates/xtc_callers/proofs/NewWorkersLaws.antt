-- What the clauses of `xtc` say of the workers of a script over two empty files.
use Rattle.std.proofs.Common.{◌≡◌, true, false, IsTrue, ℕ, ◌+◌, List, [], length, take, Option, Some, Ok, refl, sym, ap, subst, ◌∙◌, arith}
use Rattle.std.specs.Prelude.{IfSome, is_some}
use Rattle.std.proofs.lemmas.List.{take_all}
use Rattle.outside_traits.specs.Bytes.{Gave}
use Rattle.outside_traits.specs.DiskPairs.{Pair}
use Rattle.outside_traits.specs.Disks.{DiskState}
use Rattle.outside_traits.specs.Moments.{History}
use Rattle.tree_model.specs.Tree.{Tree, empty_tree}
use Rattle.journal.specs.Groups.{only_commits}
use Rattle.journal.specs.Journals.{read}
use Rattle.journal.specs.declared.group.Groups.{Groups}
use Rattle.recovery.specs.Openings.{HasImages}
use Rattle.store_contents.specs.StoredTrees.{StandFor}
use Rattle.call_contract.specs.Books.{Book, commits}
use Rattle.call_contract.specs.SerialRuns.{Committed, serial}
use Rattle.session_driver.specs.Asking.{BookCall}
use Rattle.command_words.specs.Commands.{Command, workers}
use Rattle.store_calls.specs.StoreCalls.{store_meaning}
use Rattle.xtc.specs.Checkpoints.{AreMade, is_positive}
use Rattle.xtc.specs.TopCall.{Leaves, OpenAfterCommits, OpenedStoreLeaves, Outcome, WorkersRan, tx_limit}
use Rattle.xtc.specs.declared.status.Status.{Status}
use Rattle.xtc.specs.declared.status.Status.TheVariants.{Done}
use Rattle.workers_text.specs.Entries.{entries_of}
use Rattle.workers_text.specs.Limits.{too_long}
use Rattle.workers_text.specs.Shown.{IsShownBy, lines_in}
use Rattle.xtc_callers.specs.NewStores.{StandForCommits}
use Rattle.xtc_callers.specs.NewWorkers.{WorkersDone}
use Rattle.xtc_callers.proofs.InPagesLaws.{held_by_workers}
use Rattle.xtc_callers.proofs.NewStoreLaws.{all_read, alone, took_all}

-- files that stand for the tree after all of a book's commits
all_stand : (book : Book BookCall) (journal pages : List ℕ) → OpenAfterCommits empty_tree 0 (length (commits book)) book journal pages → StandForCommits book journal pages
all_stand book journal pages after =
    let all : take after.count (commits book) ≡ commits book = take_all after.count (commits book) after.enough in
    let count : 0 + after.count ≡ length (commits book) = omega (arith, after.enough, after.within) in
    subst (λ (x : List (Committed BookCall) × ℕ). StandFor journal pages (serial store_meaning x.0 empty_tree).tree x.1) (λ i. (all i, count i)) after.opens

-- ---- over two empty files

abbrev pub no_bytes : List ℕ
no_bytes = []

-- an empty journal has no open images
pub no_images : HasImages no_bytes → ⊥
unfolding read
no_images has =
    let same : Ok (only_commits []) ≡ Ok has.groups = has.reads in
    let none : only_commits [] ≡ has.groups = cc in
    let no : false ≡ true = ap (λ (g : Groups). is_some g.images) none ∙ has.has in cc

-- what a run of workers has, by a tree and a number
record Worked (t : Tree) (n every : ℕ) (opening : Pair) (o : Outcome) : Type 0 where
  ran : WorkersRan t n tx_limit Done opening o
  made : IsTrue (is_positive every) → AreMade (Some workers) every t n ran.book o.new.journal.now.reads o.new.pages.now.reads

worked : (every : ℕ) (o : Outcome) (opening : Pair) (script text : List ℕ) → o.read ≡ script → o.before ≡ Some [] → o.now ≡ Some text → Worked empty_tree 0 every opening o
    → (every ≡ 0 → o.new.pages.now.reads ≡ []) → WorkersDone every script text o.new.journal o.new.pages
worked every o opening script text read before now did unasked =
    let ran = did.ran in
    let output = ran.output in
    record {
      within = ap too_long (sym read) ∙ ran.end;
      book = ran.book;
      legal = ran.sound.legal;
      serial = ran.sound.serial;
      replies = output.text;
      shown = subst (λ (s : List ℕ). IsShownBy store_meaning empty_tree 0 tx_limit ran.book (lines_in (entries_of s)) output.text) read output.shows;
      answered = took_all o text before now _ output.wrote;
      stored = all_stand ran.book o.new.journal.now.reads o.new.pages.now.reads ran.reads;
      durable = λ journal pages of_journal of_pages. all_stand ran.book journal pages (ran.left journal pages of_journal of_pages);
      in_pages = held_by_workers every ran.book o.new.journal.now.reads o.new.pages.now.reads did.made;
      unasked = unasked;
    }

pub workers_done : StandFor [] [] empty_tree 0 → (o : Outcome) (command : Option Command) (status : Status) (every : ℕ) (script text : List ℕ) (left_before : Option (List ℕ))
    → command ≡ Some workers → status ≡ Done → Leaves tx_limit command every status o → left_before ≡ Some script → Gave left_before o.left o.read → IfSome o.left (λ rest. rest ≡ [])
    → o.before ≡ Some [] → o.now ≡ Some text → o.old.journal.now.reads ≡ [] → o.old.pages.now.reads ≡ []
    → WorkersDone every script text o.new.journal o.new.pages
workers_done empty o command status every script text left_before named done leaves_so script_is gave_so whole before now journal pages =
    let leaves : OpenedStoreLeaves tx_limit (Some workers) every Done o = subst (λ (x : Option Command × Status). Leaves tx_limit x.0 every x.1 o) (λ i. (named i, done i)) leaves_so in
    let gave : Gave (Some script) o.left o.read = subst (λ (l : Option (List ℕ)). Gave l o.left o.read) script_is gave_so in
    let stood : StandFor [] [] leaves.tree leaves.number =
    subst (λ (x : List ℕ × List ℕ). StandFor x.0 x.1 leaves.tree leaves.number) (λ i. (journal i, pages i)) leaves.stood in
    let is = alone empty leaves.tree leaves.number stood in
    let found : Worked leaves.tree leaves.number every leaves.opening o = record { ran = leaves.ran; made = λ asked. leaves.made refl asked } in
    worked every o leaves.opening script text (all_read script o.read o.left gave whole) before now
    (subst (λ (x : Tree × ℕ). Worked x.0 x.1 every leaves.opening o) (λ i. (is.0 i, is.1 i)) found)
    (λ none.
    let shut : HasImages o.old.journal.now.reads → ⊥ = λ has. no_images (subst HasImages journal has) in
    let opened = leaves.begins refl refl shut in
    ap (λ (h : History). h.now.reads) (leaves.pages (ap is_positive none)) ∙ ap (λ (d : DiskState). d.reads) (opened.pages refl) ∙ pages)

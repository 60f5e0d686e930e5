-- What the clauses of `xtc` say of a whole script over two empty files.
use Rattle.std.proofs.Common.{◌≡◌, ◌⊎◌, Bool, inl, inr, ℕ, ◌+◌, ◌≤◌, List, [], ◌++◌, length, take, drop, Option, Some, None, Result, Ok, Err, refl, sym, ap, subst, ◌∙◌, arith}
use Rattle.std.specs.Prelude.{IfSome, IsTrue}
use Rattle.std.specs.Option.{option_map}
use Rattle.std.proofs.lemmas.List.{append-nil, append_assoc, take_all, take-take, take-append-drop, length-take}
use Rattle.std.proofs.lemmas.Option.{same_Some}
use Rattle.outside_traits.specs.Bytes.{Gave, Took, TookPrefix}
use Rattle.outside_traits.specs.CrashImages.{IsImage}
use Rattle.outside_traits.specs.DiskPairs.{Pair}
use Rattle.outside_traits.specs.Disks.{DiskState, all_synced}
use Rattle.outside_traits.proofs.ImageLaws.{image-all_synced}
use Rattle.tree_model.specs.Entries.{Entries}
use Rattle.tree_model.specs.Tree.{Tree, empty_tree, map_of}
use Rattle.tree_model.proofs.SameMaps.{same_tree}
use Rattle.node_records.specs.declared.open_error.Place.{Place}
use Rattle.journal.specs.Journals.{read}
use Rattle.store_contents.specs.Contents.{Contents, contents_of_files}
use Rattle.recovery.specs.Openings.{RefusesPages}
use Rattle.store_contents.specs.StoredTrees.{StandFor, StoodFor}
use Rattle.script_runs.specs.Lines.{ended, unended, last_line, lines_of}
use Rattle.script_runs.specs.Runs.{AskedLines}
use Rattle.script_runs.proofs.FeedingLaws.{ended_on}
use Rattle.call_contract.specs.Books.{Book, commits}
use Rattle.call_contract.specs.SerialRuns.{serial}
use Rattle.session_driver.specs.Asking.{BookCall}
use Rattle.session_driver.specs.Progress.{Progress}
use Rattle.store_calls.specs.StoreCalls.{store_meaning}
use Rattle.xtc.specs.Book.{script_of, replies_text}
use Rattle.command_words.specs.Commands.{Command, run}
use Rattle.xtc.specs.Checkpoints.{AreMade, is_positive}
use Rattle.xtc.specs.TopCall.{Outcome, Leaves, OpenAfterLines, OpenedStoreLeaves, UnopenedStoreLeaves, ScriptRan, IsSilent, slack, tx_limit}
use Rattle.xtc.specs.declared.status.Status.{Status}
use Rattle.xtc.specs.declared.status.Status.TheVariants.{Done, Usage, LineTooLong, Damaged, ReadFault, WriteFault, DiskFault, NoMemory, NotJsonMl, DocumentRefused}
use Rattle.xtc_callers.proofs.InPagesLaws.{held_by_run}
use Rattle.xtc_callers.specs.NewStores.{new_store, ScriptDone, ScriptBegun, IfAnswered, StandForCommits}

abbrev number_read : Result Contents Place → ℕ
number_read (Ok contents) = contents.number
number_read (Err place) = 0

abbrev entries_read : Result Contents Place → Entries
entries_read (Ok contents) = contents.entries
entries_read (Err place) = []

-- two files stand for one tree
pub one_tree : (journal pages : List ℕ) (t u : Tree) (n k : ℕ) → StandFor journal pages t n → StandFor journal pages u k → t ≡ u
one_tree journal pages t u n k one other =
    let same : Ok (record { entries = map_of t; number = n }) ≡ Ok (record { entries = map_of u; number = k }) = sym one.opens ∙ other.opens in
    same_tree t u one.is_valid_tree other.is_valid_tree (ap entries_read same)

-- two empty files stand for no other tree and number
pub alone : StandFor [] [] empty_tree 0 → (t : Tree) (n : ℕ) → StandFor [] [] t n → (t ≡ empty_tree) × (n ≡ 0)
alone empty t n stand =
    let same : Ok (record { entries = map_of t; number = n }) ≡ Ok (record { entries = map_of empty_tree; number = 0 }) = sym stand.opens ∙ empty.opens in
    (same_tree t empty_tree stand.is_valid_tree empty.is_valid_tree (ap entries_read same), ap number_read same)

-- what stood for two empty files at the start stands for the empty tree
pub stands_unopened : StandFor [] [] empty_tree 0 → (old : Pair) → old.journal.now ≡ all_synced [] → old.pages.now ≡ all_synced [] → (journal pages : List ℕ) → StoodFor old journal pages → StandFor journal pages empty_tree 0
stands_unopened empty old old_journal old_pages journal pages stood =
    let then_journal : stood.journal_then ≡ [] = image-all_synced [] stood.journal_then (subst (λ (s : DiskState). IsImage s stood.journal_then) old_journal stood.of_journal) in
    let then_pages : stood.pages_then ≡ [] = image-all_synced [] stood.pages_then (subst (λ (s : DiskState). IsImage s stood.pages_then) old_pages stood.of_pages) in
    record { is_valid_tree = empty.is_valid_tree; opens = stood.same ∙ (λ i. contents_of_files (then_journal i) (then_pages i)) ∙ empty.opens }

-- a whole input was read
pub all_read : (script read : List ℕ) (left : Option (List ℕ)) → Gave (Some script) left read → IfSome left (λ rest. rest ≡ []) → read ≡ script
all_read script read (Some rest) gave none = sym (same_Some _ _ gave ∙ ap (λ (l : List ℕ). read ++ l) none ∙ append-nil read)
all_read script read None gave none = cc

-- files that stand for the commits of at least so many lines, which are all, stand for all commits
all_commits : (least : ℕ) (lines : List (List ℕ)) (done : Progress BookCall) (journal pages : List ℕ) → length lines ≤ least → done ≡ script_of new_store lines
    → OpenAfterLines empty_tree 0 tx_limit least lines journal pages → StandForCommits done.book journal pages
all_commits least lines done journal pages whole is after =
    let all : script_of new_store (take after.count lines) ≡ done = ap (script_of new_store) (take_all after.count lines (omega (arith, whole, after.enough))) ∙ sym is in
    let count : 0 + length (commits (script_of new_store (take after.count lines)).book) ≡ length (commits done.book) = omega (arith, ap (λ (p : Progress BookCall). length (commits p.book)) all) in
    subst (λ (x : Book BookCall × ℕ). StandFor journal pages (serial store_meaning (commits x.0) empty_tree).tree x.1) (λ i. ((all i).book, count i)) after.opens

-- what a run to the end of its script has, by a tree and a number
record Scripted (t : Tree) (n every : ℕ) (opening : Pair) (o : Outcome) : Type 0 where
  ran : ScriptRan t n tx_limit Done opening o
  made : IsTrue (is_positive every) → AreMade (Some run) every t n ran.script.book o.new.journal.now.reads o.new.pages.now.reads

-- a run to the end of its script from the empty tree on
done_from_empty : (every : ℕ) (o : Outcome) (opening : Pair) (script text : List ℕ) → o.read ≡ script → o.before ≡ Some [] → o.now ≡ Some text
    → Scripted empty_tree 0 every opening o → ScriptDone every script text o.new.journal o.new.pages
done_from_empty every o opening script text read before now did =
    let ran = did.ran in
    let lines : List (List ℕ) = take (ran.done + ran.further) ran.lines in
    let all : lines ≡ ran.lines = take_all (ran.done + ran.further) ran.lines (omega (arith, ran.exact.0)) in
    let lines_are : ran.lines ≡ lines_of script = ran.exact.1 ∙ ap lines_of read in
    let whole : length lines ≤ ran.done = omega (arith, ap length all, ran.exact.0) in
    record {
      done = ran.script;
      of_lines = ran.is ∙ ap (script_of new_store) (all ∙ lines_are);
      answered = same_Some _ _ (sym now ∙ ran.exact.2 ∙ ap (λ (held : Option (List ℕ)). option_map (λ bytes. bytes ++ replies_text ran.script.lines) held) before);
      sound = ran.sound;
      stored = all_commits ran.done lines ran.script o.new.journal.now.reads o.new.pages.now.reads whole ran.is ran.reads;
      durable = λ journal pages of_journal of_pages. all_commits ran.done lines ran.script journal pages whole ran.is (ran.left journal pages of_journal of_pages);
      in_pages = held_by_run every ran.script.book o.new.journal.now.reads o.new.pages.now.reads did.made;
    }

-- over two empty files
pub script_done : StandFor [] [] empty_tree 0 → (o : Outcome) (command : Option Command) (status : Status) (every : ℕ) (script text : List ℕ) (left_before : Option (List ℕ))
    → command ≡ Some run → status ≡ Done → Leaves tx_limit command every status o → left_before ≡ Some script → Gave left_before o.left o.read → IfSome o.left (λ rest. rest ≡ [])
    → o.before ≡ Some [] → o.now ≡ Some text → o.old.journal.now.reads ≡ [] → o.old.pages.now.reads ≡ []
    → ScriptDone every script text o.new.journal o.new.pages
script_done empty o command status every script text left_before named done leaves_so script_is gave_so whole before now journal pages =
    let leaves : OpenedStoreLeaves tx_limit (Some run) every Done o = subst (λ (x : Option Command × Status). Leaves tx_limit x.0 every x.1 o) (λ i. (named i, done i)) leaves_so in
    let gave : Gave (Some script) o.left o.read = subst (λ (l : Option (List ℕ)). Gave l o.left o.read) script_is gave_so in
    let stood : StandFor [] [] leaves.tree leaves.number =
    subst (λ (x : List ℕ × List ℕ). StandFor x.0 x.1 leaves.tree leaves.number) (λ i. (journal i, pages i)) leaves.stood in
    let is = alone empty leaves.tree leaves.number stood in
    let found : Scripted leaves.tree leaves.number every leaves.opening o = record { ran = leaves.ran; made = λ asked. leaves.made refl asked } in
    done_from_empty every o leaves.opening script text (all_read script o.read o.left gave whole) before now
    (subst (λ (x : Tree × ℕ). Scripted x.0 x.1 every leaves.opening o) (λ i. (is.0 i, is.1 i)) found)

-- ---- a script that was begun

abbrev nothing : List ℕ
nothing = []

-- no place of a new store is damaged
pub not_damaged : StandFor [] [] empty_tree 0 → (old new : Pair) (place : Place) → old.journal.now ≡ all_synced [] → old.pages.now ≡ all_synced [] → RefusesPages old new place → ⊥
not_damaged empty old new place journal pages found =
    let opened : Result Contents Place = Ok (record { entries = map_of empty_tree; number = 0 }) in
    let no : opened ≡ Err place = sym empty.opens ∙ (λ i. contents_of_files (sym journal i).reads (sym pages i).reads) ∙ found.broken in
    cc

-- at Usage what holds of a silent run holds
pub silent_at_usage : (command : Option Command) (lost : Bool) (status : Status) (P : Type 0) → status ≡ Usage → IsSilent command lost status P → P
silent_at_usage command lost status P is silent = subst (λ (s : Status). IsSilent command lost s P) is silent

-- the lines that ended in what was read are the first ones
ended_first : (script read : List ℕ) (left : Option (List ℕ)) (lines : List (List ℕ)) → Gave (Some script) left read → lines ≡ ended [] read
    → (behind : List (List ℕ)) × (lines_of script ≡ lines ++ behind)
ended_first script read None lines gave is = cc
ended_first script read (Some rest) lines gave is =
    let more : List (List ℕ) = ended (unended [] read) rest in
    let final : List (List ℕ) = last_line (unended [] script) in (
      more ++ final,
      ap (λ (ls : List (List ℕ)). ls ++ final) (ap (ended []) (same_Some _ _ gave) ∙ ended_on [] read rest) ∙ append_assoc (ended [] read) more final
          ∙ ap (λ (ls : List (List ℕ)). ls ++ (more ++ final)) (sym is),
    )

first_lines : (script read : List ℕ) (left : Option (List ℕ)) (lines : List (List ℕ)) → Gave (Some script) left read → AskedLines left read lines
    → (behind : List (List ℕ)) × (lines_of script ≡ lines ++ behind)
first_lines script read left lines gave (inl is) = ended_first script read left lines gave is
first_lines script read left lines gave (inr whole) = ([], ap lines_of (sym (all_read script read left gave whole.0)) ∙ sym whole.1 ∙ sym (append-nil lines))

-- over a sink that was empty
module _ (o : Outcome) (text : List ℕ) (before : o.before ≡ Some []) (now : o.now ≡ Some text) where
  pub took_all : (all : List ℕ) → Took o.before o.now all → text ≡ all
  took_all all took = same_Some _ _ (sym now ∙ took ∙ ap (λ (held : Option (List ℕ)). option_map (λ bytes. bytes ++ all) held) before)

  -- what of the text isn't written
  abbrev Unwritten : Status → List ℕ → Type 0
  Unwritten status all = (rest : List ℕ) × (text ++ rest ≡ all) × IfAnswered status (rest ≡ [])

  some_unwritten : (all : List ℕ) → TookPrefix o.before o.now all → (rest : List ℕ) × (text ++ rest ≡ all)
  some_unwritten all wrote = (wrote.0, ap (λ (bytes : List ℕ). bytes ++ wrote.0) (took_all wrote.1.prefix wrote.1.took) ∙ wrote.1.all)

  module _ (status : Status) (opening : Pair) (ran : ScriptRan empty_tree 0 tx_limit status opening o) where
    abbrev of_done : List ℕ
    of_done = replies_text (script_of new_store (take ran.done ran.lines)).lines

    -- where no line more counts, all that the script is answered
    none_unwritten : slack status ≡ 0 → Took o.before o.now (replies_text ran.script.lines) → (rest : List ℕ) × (text ++ rest ≡ of_done) × (rest ≡ [])
    none_unwritten none took =
        let sum : ran.done + ran.further ≡ ran.done = omega (arith, ran.at_most, none) in
        let same : ran.script ≡ script_of new_store (take ran.done ran.lines) = ran.is ∙ ap (λ (k : ℕ). script_of new_store (take k ran.lines)) sum in
        ([], append-nil text ∙ took_all _ took ∙ ap (λ (p : Progress BookCall). replies_text p.lines) same, refl)

  unwritten : (status : Status) (opening : Pair) (ran : ScriptRan empty_tree 0 tx_limit status opening o) → Unwritten status (of_done status opening ran)
  unwritten Done opening ran = none_unwritten Done opening ran refl ran.exact.2
  unwritten (LineTooLong n) opening ran = none_unwritten (LineTooLong n) opening ran refl ran.exact.2
  unwritten ReadFault opening ran = none_unwritten ReadFault opening ran refl ran.exact.2
  unwritten Usage opening ran = let some = some_unwritten _ ran.wrote in (some.0, some.1, tt)
  unwritten (Damaged place) opening ran = let some = some_unwritten _ ran.wrote in (some.0, some.1, tt)
  unwritten WriteFault opening ran = let some = some_unwritten _ ran.wrote in (some.0, some.1, tt)
  unwritten DiskFault opening ran = let some = some_unwritten _ ran.wrote in (some.0, some.1, tt)
  unwritten NoMemory opening ran = let some = some_unwritten _ ran.wrote in (some.0, some.1, tt)
  unwritten (NotJsonMl why) opening ran = absurd ran.exact
  unwritten (DocumentRefused why) opening ran = absurd ran.exact

  -- the store was opened
  ran_begun : (status : Status) (opening : Pair) (script : List ℕ) → Gave (Some script) o.left o.read
      → ScriptRan empty_tree 0 tx_limit status opening o → ScriptBegun status script text o.new.journal o.new.pages
  ran_begun status opening script gave ran =
      let count : ℕ = ran.done + ran.further in
      let lines : List (List ℕ) = take count ran.lines in
      let all = first_lines script o.read o.left ran.lines gave ran.asked_for in
      let rest = unwritten status opening ran in
      let first : take ran.done lines ≡ take ran.done ran.lines = take-take ran.done count ran.lines (omega arith) in
      record {
        lines = lines;
        behind = drop count ran.lines ++ all.0;
        of_script = all.1 ∙ ap (λ (ls : List (List ℕ)). ls ++ all.0) (sym (take-append-drop count ran.lines)) ∙ append_assoc lines (drop count ran.lines) all.0;
        done = ran.done;
        at_most = omega (arith, length-take count ran.lines, ran.at_most);
        unwritten = rest.0;
        answered = rest.1 ∙ ap (λ (ls : List (List ℕ)). replies_text (script_of new_store ls).lines) (sym first);
        all_written = rest.2;
        stored = ran.reads;
        durable = ran.left;
      }

  -- it wasn't, and stands for what it stood for
  unopened_begun : StandFor [] [] empty_tree 0 → (status : Status) (script : List ℕ) → IfAnswered status (nothing ≡ [])
      → o.old.journal.now ≡ all_synced [] → o.old.pages.now ≡ all_synced [] → IsImage o.new.journal.now o.new.journal.now.reads → IsImage o.new.pages.now o.new.pages.now.reads
      → UnopenedStoreLeaves o → ScriptBegun status script text o.new.journal o.new.pages
  unopened_begun empty status script none old_journal old_pages of_journal of_pages leaves =
      let held : (journal pages : List ℕ) → StoodFor o.old journal pages → OpenAfterLines empty_tree 0 tx_limit 0 [] journal pages
      = λ journal pages stood.
      let stands = stands_unopened empty o.old old_journal old_pages journal pages stood in
      record {
        count = 0;
        enough = omega arith;
        within = omega arith;
        opens = record { is_valid_tree = stands.is_valid_tree; opens = stands.opens };
      } in
      record {
        lines = [];
        behind = lines_of script;
        of_script = refl;
        done = 0;
        at_most = omega arith;
        unwritten = [];
        answered = append-nil text ∙ same_Some _ _ (sym now ∙ leaves.silent ∙ before);
        all_written = none;
        stored = held o.new.journal.now.reads o.new.pages.now.reads (leaves.left _ _ of_journal of_pages);
        durable = λ journal pages is_journal is_pages. held journal pages (leaves.left journal pages is_journal is_pages);
      }

-- over two empty files, whatever the end
module _ (empty : StandFor [] [] empty_tree 0) (every : ℕ) (o : Outcome) (script text : List ℕ) (left_before : Option (List ℕ)) (script_is : left_before ≡ Some script) (gave : Gave left_before o.left o.read)
    (before : o.before ≡ Some []) (now : o.now ≡ Some text) (old_journal : o.old.journal.now ≡ all_synced []) (old_pages : o.old.pages.now ≡ all_synced []) where
  opened_begun : (status : Status) → OpenedStoreLeaves tx_limit (Some run) every status o → ScriptBegun status script text o.new.journal o.new.pages
  opened_begun status leaves =
      let stood : StandFor [] [] leaves.tree leaves.number
      = subst (λ (x : DiskState × DiskState). StandFor x.0.reads x.1.reads leaves.tree leaves.number) (λ i. (old_journal i, old_pages i)) leaves.stood in
      let is = alone empty leaves.tree leaves.number stood in
      ran_begun o text before now status leaves.opening script (subst (λ (l : Option (List ℕ)). Gave l o.left o.read) script_is gave)
      (subst (λ (x : Tree × ℕ). ScriptRan x.0 x.1 tx_limit status leaves.opening o) (λ i. (is.0 i, is.1 i)) leaves.ran)

  module _ (of_journal : IsImage o.new.journal.now o.new.journal.now.reads) (of_pages : IsImage o.new.pages.now o.new.pages.now.reads) where
    either_begun : (status : Status) → IfAnswered status (nothing ≡ []) → UnopenedStoreLeaves o ⊎ OpenedStoreLeaves tx_limit (Some run) every status o → ScriptBegun status script text o.new.journal o.new.pages
    either_begun status none (inl leaves) = unopened_begun o text before now empty status script none old_journal old_pages of_journal of_pages leaves
    either_begun status none (inr leaves) = opened_begun status leaves

    run_begun : (status : Status) → (status ≡ Usage → ⊥) → ((place : Place) → status ≡ Damaged place → ⊥) → Leaves tx_limit (Some run) every status o
        → ScriptBegun status script text o.new.journal o.new.pages
    run_begun Usage not_usage not_place leaves = absurd (not_usage refl)
    run_begun (Damaged place) not_usage not_place leaves = absurd (not_place place refl)
    run_begun Done not_usage not_place leaves = opened_begun Done leaves
    run_begun (LineTooLong n) not_usage not_place leaves = opened_begun (LineTooLong n) leaves
    run_begun ReadFault not_usage not_place leaves = opened_begun ReadFault leaves
    run_begun WriteFault not_usage not_place leaves = opened_begun WriteFault leaves
    run_begun (NotJsonMl why) not_usage not_place leaves = opened_begun (NotJsonMl why) leaves
    run_begun (DocumentRefused why) not_usage not_place leaves = opened_begun (DocumentRefused why) leaves
    run_begun DiskFault not_usage not_place leaves = either_begun DiskFault tt leaves
    run_begun NoMemory not_usage not_place leaves = either_begun NoMemory tt leaves

    -- so it is where the words ask for a script
    pub script_begun : (command : Option Command) (status : Status) → command ≡ Some run → (status ≡ Usage → ⊥) → ((place : Place) → status ≡ Damaged place → ⊥) → Leaves tx_limit command every status o
        → ScriptBegun status script text o.new.journal o.new.pages
    script_begun command status named not_usage not_place leaves = run_begun status not_usage not_place (subst (λ (c : Option Command). Leaves tx_limit c every status o) named leaves)

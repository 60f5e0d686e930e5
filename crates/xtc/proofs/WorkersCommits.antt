-- What workers who write their commits, and a checkpoint behind them, leave of a store's files.
use Rattle.std.proofs.Common.{◌≡◌, ◌≤◌, ◌<◌, inl, inr, ℕ, zero, suc, ◌+◌, ◌==◌, Bool, true, false, not, ◌&&◌, IsTrue, nat_le, List, [], ◌∷◌, ◌++◌, length, map, take, refl, sym, ap, ◌∙◌, subst, arith}
use Rattle.std.specs.Prelude.{Option, None, Some, IfSome, Result, Ok, Err}
use Rattle.std.proofs.lemmas.Bool.{eqb-true}
use Rattle.std.proofs.lemmas.List.{length-take-le, take_all}
use Rattle.outside_traits.specs.CrashImages.{IsImage}
use Rattle.outside_traits.specs.DiskPairs.{Pair, PairsHave, PairsLeave, pair_of}
use Rattle.outside_traits.specs.Disks.{DiskState}
use Rattle.outside_traits.specs.Moments.{AllImages, History, IsAllSynced, IsImageOfOne, IsImageSince, LeavesOnly, Since}
use Rattle.outside_traits.proofs.PairLaws.{journal_phase, pairs_joined, pairs_weaker}
use Rattle.tree_model.specs.Entries.{Entries}
use Rattle.tree_model.specs.Tree.{Tree, map_of}
use Rattle.tree_model.specs.ValidTrees.{IsValidTree}
use Rattle.node_pages.specs.PageFiles.{contents_of_file}
use Rattle.node_records.specs.Pending.{FollowOn}
use Rattle.node_records.specs.declared.pending.Pending.{Pending}
use Rattle.node_records.specs.declared.open_error.OpenError.{OpenError}
use Rattle.node_records.specs.declared.open_error.OpenError.TheVariants as error
use Rattle.node_records.specs.declared.open_error.Place.{Place}
use Rattle.node_seq.specs.Trees.{StandsFor}
use Rattle.journal.specs.Appends.{groups_in}
use Rattle.journal.specs.Batches.{HasFirst, pairs_of}
use Rattle.journal.specs.declared.group.Groups.{Groups}
use Rattle.journal.specs.Journals.{read}
use Rattle.journal.specs.Views.{JournalView}
use Rattle.store_contents.specs.StoredTrees.{StandFor as StandForTree}
use Rattle.checkpoint.specs.Bases.{contents_of}
use Rattle.checkpoint.specs.Renewals.{MayRenew, pages_of as base_pages}
use Rattle.checkpoint.specs.declared.base.Base.{Base}
use Rattle.script_runs.specs.Counts.{Counts, DisksCountedWhere}
use Rattle.call_contract.specs.Books.{Book, HasValidCalls, IsBookFrom, commits}
use Rattle.call_contract.specs.SerialRuns.{Committed, serial}
use Rattle.call_contract.specs.Sessions.{commits_in}
use Rattle.call_contract.specs.States.{State}
use Rattle.session_driver.specs.Asking.{BookCall}
use Rattle.command_words.specs.Commands.{workers}
use Rattle.durable_sessions.specs.WrittenBooks.{StandAfter, StandAfterSome}
use Rattle.group_commit.specs.Written.{HoldsFirst}
use Rattle.shared_store.specs.Bodies.{bodies_of}
use Rattle.group_commit.specs.Journals.{WroteFirst}
use Rattle.durable_sessions.specs.Durable.{HoldState}
use Rattle.store_calls.specs.StoreCalls.{IsValidStoreCall, store_meaning}
use Rattle.tx_core.specs.Cores.{CoreView, state_from}
use Rattle.xtc.specs.Checkpoints.{AreMade, HoldFirst, fits, is_positive, last_made, made_or, may_lose, tree_after, tried_in}
use Rattle.xtc.specs.Statuses.{status_of}
use Rattle.xtc.specs.StoreMachine.{Stands, file_of}
use Rattle.xtc.specs.TopCall.{OpenAfterCommits}
use Rattle.xtc.specs.declared.checkpoints.Checkpoints.{Checkpoints}
use Rattle.xtc.specs.declared.status.Status.{Status}
use Rattle.xtc.specs.declared.status.Status.TheVariants.{DiskFault}
use Rattle.xtc.specs.inside.CommandRuns.{HasTree, StandSettled}
use Rattle.xtc.specs.inside.Renewing.{DamagedWhere, IsMadeAs, IsMadeWhere, LeftAsBefore, LeftStanding, ReadsGroups, StandFor, files_of, is_due_at_end, kept}
use Rattle.xtc.specs.inside.Working.{HasCommits, IsWorkersStop, LeavesCommits, MayEnd, files_beside}
use Rattle.xtc.proofs.CommandRunLaws.{as_error}
use Rattle.xtc.proofs.CheckpointLaws.{all_committed, committed_counted, last_number}
use Rattle.xtc.proofs.MadeLaws.{are_made}
use Rattle.xtc.proofs.SoundBooks.{sound_book}
use Rattle.xtc.proofs.StoreMachineLaws.{image_same, second_known}

-- ---- files

module _ (t : Tree) (n : ℕ) (book : Book BookCall) (pages : List ℕ) where
  abbrev done : List (Committed BookCall)
  done = commits book

  -- they stand for the opening
  pub opens_none : (journal : List ℕ) → StandForTree journal pages t n → OpenAfterCommits t n 0 book journal pages
  opens_none journal stands = record {
    count = 0;
    enough = omega arith;
    within = omega arith;
    opens = subst (StandForTree journal pages t) (let e : n ≡ n + 0 = omega arith in e) stands;
  }

  -- for the first commits
  pub opens_some : (least : ℕ) (journal : List ℕ) → StandAfterSome store_meaning t n done least journal pages → OpenAfterCommits t n least book journal pages
  opens_some least journal some = record {
    count = some.count;
    enough = some.enough;
    within = some.within;
    opens = subst (λ (k : ℕ). StandForTree journal pages (serial store_meaning (take some.count done) t).tree (n + k)) (length-take-le some.count done some.within) some.stands;
  }

  -- for all commits
  pub opens_all : (least : ℕ) → least ≤ length done → (journal : List ℕ) → StandAfter store_meaning t n done journal pages → OpenAfterCommits t n least book journal pages
  opens_all least few journal stands = record {
    count = length done;
    enough = few;
    within = omega arith;
    opens = subst (λ (ds : List (Committed BookCall)). StandForTree journal pages (serial store_meaning ds t).tree (n + length done)) (sym (take_all (length done) done (omega arith))) stands;
  }

  -- which are the first ones where these are as many
  pub all_of_some : (least : ℕ) → length done ≤ least → (journal : List ℕ) → StandAfterSome store_meaning t n done least journal pages → StandAfter store_meaning t n done journal pages
  all_of_some least many journal some =
      let enough = some.enough in
      subst (λ (ds : List (Committed BookCall)). StandAfter store_meaning t n ds journal pages) (take_all some.count done (omega (arith, many, enough))) some.stands

-- the images of two synced files have what these have
pub images_have : (Q : List ℕ → List ℕ → Type 0) (files : Pair) → IsAllSynced files.journal → IsAllSynced files.pages → Q files.journal.now.reads files.pages.now.reads → PairsHave Q files
images_have Q files of_journal of_pages holds journal pages is_journal is_pages =
    subst (λ (x : List ℕ × List ℕ). Q x.0 x.1) (λ i. (sym (image_same files.journal of_journal journal is_journal) i, sym (image_same files.pages of_pages pages is_pages) i)) holds

-- ---- the commits that workers wrote

all_from : (P : List ℕ → Type 0) (more rest : List DiskState) → ((image : List ℕ) → IsImageOfOne (more ++ rest) image → P image) → AllImages P more
all_from P [] rest holds = tt
all_from P (s ∷ more) rest holds = ((λ image is. holds image (inl is)), all_from P more rest (λ image is. holds image (inr is)))

-- what a crash leaves at each moment since, each call leaves
leaves_since : (P : List ℕ → Type 0) (old new : History) → Since old new → ((image : List ℕ) → IsImageSince old new image → P image) → LeavesOnly P old new
leaves_since P old new since holds = record { more = since.more; states = since.states; images = all_from P since.more (old.now ∷ []) (λ image is. holds image (record { since = since; left = is })) }

-- some first of a book's commits, written behind a journal's groups, stand for the tree after these
abbrev pub FirstsStand : Type 0
FirstsStand = (t : Tree) (n least : ℕ) (book : Book BookCall) (ps : List Pending) (later : List (List ℕ)) (groups : Groups) (before journal pages : List ℕ)
    → HasValidCalls IsValidStoreCall book → bodies_of store_meaning t book ≡ map (λ (p : Pending). p.body) ps ++ later → FollowOn n ps
    → read before ≡ Ok groups → groups.images ≡ None → StandForTree before pages t n → HasFirst groups (pairs_of ps) least journal
    → StandAfterSome store_meaning t n (commits book) least journal pages

module _ {B : Type 0} (told : B → Option Entries) (law : FirstsStand) (journal_known : Bool) (kj : IsTrue journal_known) (core : CoreView BookCall B) (t : Tree) (opened : StandsFor (told core.opening) t)
    (legal : IsBookFrom IsValidStoreCall store_meaning t core.number core.limit core.book) (first journal : JournalView) (reads : (read first.history.now.reads ≡ Ok (groups_in first.history)) × ((groups_in first.history).images ≡ None))
    (pages : History) (synced : IsAllSynced pages) (stand : StandForTree first.history.now.reads pages.now.reads t core.number) (least : ℕ) (wrote : WroteFirst store_meaning told journal_known first least core journal) where
  after_some : (k : ℕ) (image : List ℕ) → HoldsFirst first wrote.written.commits k image → StandAfterSome store_meaning t core.number (commits core.book) k image pages.now.reads
  after_some k image first_ones =
      let bodies = wrote.bodies t opened in
      law t core.number k core.book wrote.written.commits bodies.later (groups_in first.history) first.history.now.reads image pages.now.reads
      legal.valid_calls bodies.parts wrote.written.numbers reads.0 reads.1 stand first_ones

  -- a crash on the way leaves the first commits
  pub written_leaves : PairsLeave (OpenAfterCommits t core.number 0 core.book) (pair_of first.history pages) (pair_of journal.history pages)
  written_leaves = journal_phase (OpenAfterCommits t core.number 0 core.book) (pair_of first.history pages) (pair_of journal.history pages) (record {
    leaves = leaves_since (λ j. (p : List ℕ) → IsImage pages.now p → OpenAfterCommits t core.number 0 core.book j p) first.history journal.history (wrote.written.since kj)
        (λ j is p of_pages. subst (OpenAfterCommits t core.number 0 core.book j) (sym (image_same pages synced p of_pages))
        (opens_some t core.number core.book pages.now.reads 0 j (after_some 0 j (wrote.written.moments kj j is))));
    still = refl;
  })

  -- where all were written the files stand for the tree after them
  pub written_all : length (commits core.book) ≤ least → StandAfter store_meaning t core.number (commits core.book) journal.history.now.reads pages.now.reads
  written_all all = all_of_some t core.number core.book pages.now.reads least all journal.history.now.reads (after_some least journal.history.now.reads (wrote.written.read kj))

-- ---- the last checkpoint of a command that tries one behind its last commit

module _ (every : ℕ) (t : Tree) (n : ℕ) (book : Book BookCall) (all : ℕ) where
  abbrev tried : ℕ → Bool
  tried = tried_in (Some workers) every all

  abbrev fits_behind : ℕ → Bool
  fits_behind k = fits (tree_after t book k) (n + k)

  -- none is tried before that one
  untried_before : (k : ℕ) → k < all → last_made tried t n book k ≡ None
  untried_before zero less = refl
  untried_before (suc k) less = go (suc k == all) refl (untried_before k (omega (arith, less)))
    where
      go : (b : Bool) → (suc k == all) ≡ b → last_made tried t n book k ≡ None → last_made tried t n book (suc k) ≡ None
      go true is before = absurd (let same : suc k ≡ all = eqb-true (suc k) all is in omega (arith, same, less))
      go false is before = ap (λ (b : Bool). made_or ((b && nat_le every all) && fits_behind (suc k)) (suc k) (last_made tried t n book k)) is ∙ before

  -- so what holds of that one, where it was due and fits, holds of the last
  last_or_none : (Q : ℕ → Type 0) (k : ℕ) → k ≡ all → (IsTrue (nat_le every k && fits_behind k) → Q k) → IfSome (last_made tried t n book k) Q
  last_or_none Q zero is made = tt
  last_or_none Q (suc k) is made =
      go ((suc k == all) && nat_le every all) (fits_behind (suc k)) (λ due fit. made (both (nat_le every (suc k)) (fits_behind (suc k)) (subst (λ (a : ℕ). IsTrue (nat_le every a)) (sym is) (second_known (suc k == all) (nat_le every all) due)) fit))
    where
      both : (a b : Bool) → IsTrue a → IsTrue b → IsTrue (a && b)
      both true b p q = q
      both false b p q = p

      go : (a b : Bool) → (IsTrue a → IsTrue b → Q (suc k)) → IfSome (made_or (a && b) (suc k) (last_made tried t n book k)) Q
      go true true made = made refl refl
      go true false made = subst (λ (o : Option ℕ). IfSome o Q) (sym (untried_before k (omega (arith, is)))) tt
      go false b made = subst (λ (o : Option ℕ). IfSome o Q) (sym (untried_before k (omega (arith, is)))) tt

-- ---- the commits, and the checkpoint behind them

module _ {P : Type 0} (is_known : Bool) (history : P → History) (core : CoreView BookCall (Base P)) (t : Tree) (opened : StandsFor (contents_of is_known history core.opening) t)
    (legal : IsBookFrom IsValidStoreCall store_meaning t core.number core.limit core.book) (old : Pair) (files : StandSettled old t core.number) where
  abbrev at_end : State BookCall
  at_end = state_from store_meaning t core

  abbrev all : List (Committed BookCall)
  all = commits core.book

  abbrev Q : ℕ → List ℕ → List ℕ → Type 0
  Q least journal pages = OpenAfterCommits t core.number least core.book journal pages

  counted : length all ≡ commits_in core.book
  counted = committed_counted t core.number core.limit core.book legal

  tree_is : (serial store_meaning all t).tree ≡ at_end.tree
  tree_is = (sound_book t core.number core.limit core.book legal).serial.tree

  number_is : core.number + length all ≡ at_end.number
  number_is = ap (λ (k : ℕ). core.number + k) counted ∙ last_number t core.number core.limit core.book legal

  -- the files stand for the state that the book has led to, or for all its commits
  hold_end : (journal pages : List ℕ) → StandAfter store_meaning t core.number all journal pages → HoldState at_end journal pages
  hold_end journal pages after = after.opens ∙ (λ i. Ok (record { entries = map_of (tree_is i); number = number_is i }))

  all_of : IsValidTree (serial store_meaning all t).tree → (least : ℕ) → least ≤ length all → (journal pages : List ℕ) → HoldState at_end journal pages → Q least journal pages
  all_of valid least few journal pages holds =
      opens_all t core.number core.book pages least few journal (record { is_valid_tree = valid; opens = holds ∙ (λ i. Ok (record { entries = map_of (sym tree_is i); number = sym number_is i })) })

  -- the commits were written
  module _ (mid : Pair) (leaves : PairsLeave (Q 0) old mid) (journal_synced : IsAllSynced mid.journal) (pages_synced : IsAllSynced mid.pages) (after : StandAfter store_meaning t core.number all mid.journal.now.reads mid.pages.now.reads) where
    -- the files stand for what is committed
    pub standing : StandFor at_end mid
    standing = record { journal = journal_synced; pages = pages_synced; holds = hold_end mid.journal.now.reads mid.pages.now.reads after }

    module _ (new : Pair) (result : Result (Unit {0}) OpenError) (left : LeftStanding at_end mid new result) where
      pub renewed_leaves : PairsLeave (Q 0) old new
      renewed_leaves = pairs_joined (Q 0) old mid new leaves
          (pairs_weaker (HoldState at_end) (Q 0) (λ j p holds. all_of after.is_valid_tree 0 (omega arith) j p holds) mid new left.any_moment)

      pub all_durable : StandFor at_end new → PairsHave (Q (length all)) new
      all_durable stand = images_have (Q (length all)) new stand.journal stand.pages (all_of after.is_valid_tree (length all) (omega arith) new.journal.now.reads new.pages.now.reads stand.holds)

  -- where a checkpoint was due it is made, or its tree doesn't fit
  module _ (new : Pair) (stand : StandFor at_end new) (reads : read new.journal.now.reads ≡ Ok (groups_in new.journal)) (none : (groups_in new.journal).images ≡ None)
      (every : ℕ) (some : IsTrue (is_positive every)) (before : History) (made : IsMadeWhere (is_positive every && nat_le every (commits_in core.book)) at_end before new.pages) where
    held_last : IsTrue (nat_le every (length all) && fits (tree_after t core.book (length all)) (core.number + length all)) → HoldFirst t core.number core.book (length all) new.pages.now.reads
    held_last due =
        let tree_there : tree_after t core.book (length all) ≡ at_end.tree = ap (λ (k : ℕ). tree_after t core.book k) counted ∙ all_committed t core.number core.limit core.book legal in
        let yes : ((is_positive every && nat_le every (commits_in core.book)) && fits at_end.tree at_end.number) ≡ true =
        (λ i. (some i && nat_le every (sym counted i)) && fits (sym tree_there i) (sym number_is i)) ∙ due in
        let holds : contents_of_file new.pages.now.reads ≡ Ok (map_of at_end.tree, at_end.number) = subst (λ (b : Bool). IsMadeAs b at_end before new.pages) yes made in
        holds ∙ (λ i. Ok (map_of (sym tree_there i), sym number_is i))

    pub are_made_last : AreMade (Some workers) every t core.number core.book new.journal.now.reads new.pages.now.reads
    are_made_last = are_made workers every t core.number core.book new.journal.now.reads new.pages.now.reads (groups_in new.journal) reads none (map_of at_end.tree)
        (stand.holds ∙ (λ i. Ok (record { entries = map_of at_end.tree; number = sym number_is i })))
        (last_or_none every t core.number core.book (length all) (λ m. HoldFirst t core.number core.book m new.pages.now.reads) (length all) refl held_last)

-- ---- the checkpoint behind them

abbrev pub made_ok : Result (Unit {0}) OpenError
made_ok = Ok tt

module _ {P : Type 0} (journal_known is_known : Bool) (history : P → History) (first : JournalView) (core : CoreView BookCall (Base P)) (journal : JournalView) (checkpoints : Checkpoints P) (may : MayEnd journal_known is_known history first core journal checkpoints) where
  -- one may be made
  pub may_renew : MayRenew is_known history core journal
  may_renew = record { opened = may.opened; paged = may.begun.paged; synced = may.begun.synced; usable = may.wrote.takes; next = may.wrote.next }

  -- the core stands in the state that its book has led to
  pub stands_now : (t : Tree) → StandsFor (contents_of is_known history core.opening) t → Stands is_known history core (state_from store_meaning t core)
  stands_now t stands = record { tree = t; opened = stands; state = refl }

  pub stands_somewhere : IsTrue is_known → (s : State BookCall) × Stands is_known history core s
  stands_somewhere known = let has : HasTree (contents_of is_known history core.opening) = may.tree known in (state_from store_meaning has.tree core, stands_now has.tree has.stands)

  abbrev begin : Pair
  begin = files_beside history first core.base checkpoints

  abbrev mid : Pair
  mid = files_beside history journal core.base checkpoints

  module _ (law : FirstsStand) (kj : IsTrue journal_known) (reads : ReadsGroups journal_known first) (t : Tree) (opened : StandsFor (contents_of is_known history core.opening) t)
      (legal : IsBookFrom IsValidStoreCall store_meaning t core.number core.limit core.book) (files : StandSettled begin t core.number) (synced : IsAllSynced journal.history) where
    abbrev s : State BookCall
    s = state_from store_meaning t core

    leaves : PairsLeave (OpenAfterCommits t core.number 0 core.book) begin mid
    leaves = written_leaves (contents_of is_known history) law journal_known kj core t opened legal first journal (reads kj may.begun.takes.usable.unfailed may.begun.takes.usable.unheld) begin.pages files.pages files.stand (commits_in core.book) may.wrote.wrote

    after : StandAfter store_meaning t core.number (commits core.book) mid.journal.now.reads mid.pages.now.reads
    after =
        let counted : length (commits core.book) ≡ commits_in core.book = committed_counted t core.number core.limit core.book legal in
        written_all (contents_of is_known history) law journal_known kj core t opened legal first journal (reads kj may.begun.takes.usable.unfailed may.begun.takes.usable.unheld) begin.pages files.pages files.stand (commits_in core.book) may.wrote.wrote
        (omega (arith, counted))

    module _ (next : CoreView BookCall (Base P)) (last : JournalView) (later : Checkpoints P) (result : Result (Unit {0}) OpenError)
        (renewed : (s : State BookCall) → Stands is_known history core s → StandFor s (files_of history (kept core journal checkpoints))
        → LeftStanding s (files_of history (kept core journal checkpoints)) (files_of history (kept next last later)) result)
        (left : LeftAsBefore (is_due_at_end checkpoints (commits_in core.book)) core next journal last checkpoints.pages later.pages) where
      abbrev end : Pair
      end = files_beside history last next.base later

      left_end : LeftStanding s mid end result
      left_end = renewed s (stands_now t opened) (standing is_known history core t opened legal begin files mid leaves synced files.pages after)

      still_end : is_positive checkpoints.every ≡ false → end.pages ≡ begin.pages
      still_end undue =
          let same = left.none (ap (λ (b : Bool). b && nat_le checkpoints.every (commits_in core.book)) undue) in
          λ i. file_of history (same.0 i).base (same.2 i)

      pub commits_left : LeavesCommits t core.number checkpoints.every core.book begin end
      commits_left = record { moments = renewed_leaves is_known history core t opened legal begin files mid leaves synced files.pages after end result left_end; still = still_end }

    -- without an error
    module _ (next : CoreView BookCall (Base P)) (last : JournalView) (later : Checkpoints P)
        (renewed : (s : State BookCall) → Stands is_known history core s → StandFor s (files_of history (kept core journal checkpoints))
        → LeftStanding s (files_of history (kept core journal checkpoints)) (files_of history (kept next last later)) made_ok)
        (left : LeftAsBefore (is_due_at_end checkpoints (commits_in core.book)) core next journal last checkpoints.pages later.pages)
        (made : (s : State BookCall) → Stands is_known history core s → IsMadeWhere (is_due_at_end checkpoints (commits_in core.book)) s (base_pages history core.base) (base_pages history next.base))
        (inside : later.pages ≡ None) (reads_last : read last.history.now.reads ≡ Ok (groups_in last.history)) (none : (groups_in last.history).images ≡ None) where
      stand_end : StandFor s (files_beside history last next.base later)
      stand_end = (left_end next last later made_ok renewed left).at_end

      abbrev was_due : Bool
      was_due = is_positive checkpoints.every && nat_le checkpoints.every (commits_in core.book)

      made_end : IsMadeWhere was_due s (base_pages history core.base) (file_of history next.base later.pages)
      made_end = subst (λ (p : Option P). IsMadeWhere was_due s (base_pages history core.base) (file_of history next.base p)) (sym inside) (made s (stands_now t opened))

      pub commits_had : HasCommits t core.number checkpoints.every core.book (files_beside history last next.base later)
      commits_had = record {
        durable = all_durable is_known history core t opened legal begin files mid leaves synced files.pages after (files_beside history last next.base later) made_ok (left_end next last later made_ok renewed left) stand_end;
        made = λ some. are_made_last is_known history core t opened legal begin files (files_beside history last next.base later) stand_end reads_last none checkpoints.every some (base_pages history core.base) made_end;
      }

-- ---- why it stopped

abbrev pub not_made : OpenError → Result (Unit {0}) OpenError
not_made e = Err e

-- why a checkpoint isn't made
renew_stop : (lost : Bool) (why : OpenError) → ((place : Place) → why ≡ error.Damaged place → IsTrue lost) → IsWorkersStop lost (status_of why)
renew_stop lost (error.Damaged place) loses = loses place refl
renew_stop lost error.DiskFault loses = tt
renew_stop lost error.NoMemory loses = tt

-- a page file of which nothing is known may be lost where a checkpoint was due
may_be_lost : (some many is_known : Bool) → IsTrue (some && many) → (IsTrue is_known → ⊥) → IsTrue (some && not is_known)
may_be_lost true many true due unknown = absurd (unknown refl)
may_be_lost true many false due unknown = refl
may_be_lost false many is_known due unknown = due

pub checkpoint_stop : {P : Type 0} (is_known : Bool) (checkpoints : Checkpoints P) (commits : ℕ) (why : OpenError) (status : Status) → status ≡ status_of why
    → DamagedWhere (is_due_at_end checkpoints commits) is_known (not_made why) → IsWorkersStop (may_lose (Some workers) checkpoints.every is_known) status
checkpoint_stop is_known checkpoints commits why status is damaged = subst (IsWorkersStop (may_lose (Some workers) checkpoints.every is_known)) (sym is)
    (renew_stop (may_lose (Some workers) checkpoints.every is_known) why (λ place it.
    let lost = damaged place (ap not_made it) in
    may_be_lost (is_positive checkpoints.every) (nat_le checkpoints.every commits) is_known lost.0 lost.1))

-- ---- the counts

status_fault : (why : OpenError) → status_of why ≡ DiskFault → why ≡ error.DiskFault
status_fault (error.Damaged place) it = absurd cc
status_fault error.DiskFault it = refl
status_fault error.NoMemory it = absurd cc

stop_of : (T : Type 0) (e f : Status) → as_error T e ≡ as_error T f → e ≡ f
stop_of T e f it = cc

fault_of : (e f : OpenError) → not_made e ≡ not_made f → e ≡ f
fault_of e f it = cc

-- the checkpoint's answer is that of a disk exactly where its status is
pub checkpoint_counted : {T : Type 0} (r : Result T Status) (why : OpenError) (status : Status) (old new : Counts) → r ≡ Err status → status ≡ status_of why → DisksCountedWhere (not_made why ≡ not_made error.DiskFault) old new
    → DisksCountedWhere (r ≡ Err DiskFault) old new
checkpoint_counted {T} r why status old new is named counts = record {
  counted = λ it. counts.counted (ap not_made (status_fault why (sym named ∙ stop_of T status DiskFault (sym is ∙ it))));
  exact = λ never. counts.exact (λ it. never (is ∙ ap (as_error T) (named ∙ ap status_of (fault_of why error.DiskFault it))));
}

pub nothing_counted : {T : Type 0} (x : T) (old new : Counts) → DisksCountedWhere (Ok tt ≡ not_made error.DiskFault) old new → DisksCountedWhere (Ok x ≡ as_error T DiskFault) old new
nothing_counted x old new counts = record { counted = λ it. absurd cc; exact = λ never. counts.exact (λ it. absurd cc) }

-- What the clauses of `xtc` say of the generator's script over two empty files.
use Rattle.std.proofs.Common.{◌≡◌, IsTrue, ℕ, ◌+◌, ◌≤◌, List, [], length, take, Option, Some, None, Result, Ok, Err, refl, sym, ap, subst, ◌∙◌, arith}
use Rattle.std.proofs.lemmas.List.{take_all}
use Rattle.std.proofs.lemmas.Option.{same_Some}
use Rattle.outside_traits.specs.DiskPairs.{Pair}
use Rattle.tree_model.specs.Tree.{Tree, empty_tree}
use Rattle.store_contents.specs.StoredTrees.{StandFor}
use Rattle.call_contract.specs.Books.{Book, IsSerial, commits}
use Rattle.call_contract.specs.States.{start}
use Rattle.call_contract.specs.SerialRuns.{serial}
use Rattle.session_driver.specs.Asking.{BookCall}
use Rattle.command_words.specs.Commands.{Command, gen}
use Rattle.durable_sessions.specs.Reasons.{first_reason, limit_of}
use Rattle.durable_sessions.specs.declared.reasons.Reason.{Reason}
use Rattle.session_driver.specs.Lines.{Asked}
use Rattle.session_driver.specs.Progress.{Progress}
use Rattle.store_calls.specs.StoreCalls.{store_meaning}
use Rattle.workload_gen.specs.Scripts.{script}
use Rattle.xtc.specs.Book.{after_asked}
use Rattle.xtc.specs.Checkpoints.{AreMade, is_positive}
use Rattle.xtc.specs.Documents.{end_by}
use Rattle.xtc.specs.Generated.{generated}
use Rattle.xtc.specs.TopCall.{DocumentRan, Leaves, OpenAfterAsked, OpenedStoreLeaves, Outcome, tx_limit}
use Rattle.xtc.specs.declared.status.Status.{Status}
use Rattle.xtc.specs.declared.status.Status.TheVariants.{Done, DocumentRefused}
use Rattle.xtc_callers.specs.InPages.{HoldAllWhereDue}
use Rattle.xtc_callers.proofs.InPagesLaws.{held_by_gen}
use Rattle.xtc_callers.specs.NewGenerated.{GenDone, GenRefused, generated_new}
use Rattle.xtc_callers.specs.NewStores.{StandForCommits, new_store}
use Rattle.xtc_callers.proofs.NewStoreLaws.{alone, took_all}

-- what was asked
abbrev asks_in : Result (List (Asked BookCall)) Status → List (Asked BookCall)
asks_in (Ok asked) = asked
asks_in (Err why) = []

-- the reason for which it ended so
ended_for : (r : Option Reason) (why : Reason) → end_by r ≡ DocumentRefused why → r ≡ Some why
ended_for None why is = absurd cc
ended_for (Some other) why is = let same : other ≡ why = cc in ap Some same

-- files that stand for the tree after the commits of all that was asked
all_stand : (asked : List (Asked BookCall)) (least : ℕ) (journal pages : List ℕ) → length asked ≤ least → OpenAfterAsked empty_tree 0 tx_limit least asked journal pages
    → StandForCommits (after_asked new_store asked).book journal pages
all_stand asked least journal pages whole after =
    let all : after_asked new_store (take after.count asked) ≡ after_asked new_store asked = ap (after_asked new_store) (take_all after.count asked (omega (arith, whole, after.enough))) in
    let count : 0 + length (commits (after_asked new_store (take after.count asked)).book) ≡ length (commits (after_asked new_store asked).book)
    = omega (arith, ap (λ (p : Progress BookCall). length (commits p.book)) all) in
    subst (λ (x : Book BookCall × ℕ). StandFor journal pages (serial store_meaning (commits x.0) empty_tree).tree x.1) (λ i. ((all i).book, count i)) after.opens

-- ---- over two empty files

module _ (empty : StandFor [] [] empty_tree 0) (seed count : ℕ) (every : ℕ) (o : Outcome) (text : List ℕ) (before : o.before ≡ Some []) (now : o.now ≡ Some text)
    (journal : o.old.journal.now.reads ≡ []) (pages : o.old.pages.now.reads ≡ []) where
  -- it ran over the empty tree
  ran_new : (status : Status) (leaves : OpenedStoreLeaves tx_limit (Some (gen seed count)) every status o) → DocumentRan empty_tree 0 tx_limit (gen seed count) status leaves.opening o
  ran_new status leaves =
      let stood : StandFor [] [] leaves.tree leaves.number =
      subst (λ (x : List ℕ × List ℕ). StandFor x.0 x.1 leaves.tree leaves.number) (λ i. (journal i, pages i)) leaves.stood in
      let is = alone empty leaves.tree leaves.number stood in
      subst (λ (x : Tree × ℕ). DocumentRan x.0 x.1 tx_limit (gen seed count) status leaves.opening o) (λ i. (is.0 i, is.1 i)) leaves.ran

  -- what it has at its end, by a tree and a number
  record Generating (t : Tree) (n : ℕ) (opening : Pair) : Type 0 where
    ran : DocumentRan t n tx_limit (gen seed count) Done opening o
    made : IsTrue (is_positive every) → AreMade (Some (gen seed count)) every t n (after_asked (start t n tx_limit) ran.asked).book o.new.journal.now.reads o.new.pages.now.reads

  done_new : (leaves : OpenedStoreLeaves tx_limit (Some (gen seed count)) every Done o) → Generating empty_tree 0 leaves.opening
  done_new leaves =
      let stood : StandFor [] [] leaves.tree leaves.number =
      subst (λ (x : List ℕ × List ℕ). StandFor x.0 x.1 leaves.tree leaves.number) (λ i. (journal i, pages i)) leaves.stood in
      let is = alone empty leaves.tree leaves.number stood in
      let found : Generating leaves.tree leaves.number leaves.opening = record { ran = leaves.ran; made = λ asked. leaves.made refl asked } in
      subst (λ (x : Tree × ℕ). Generating x.0 x.1 leaves.opening) (λ i. (is.0 i, is.1 i)) found

  module _ (opening : Pair) (ran : DocumentRan empty_tree 0 tx_limit (gen seed count) Done opening o)
      (made : IsTrue (is_positive every) → AreMade (Some (gen seed count)) every empty_tree 0 (after_asked new_store ran.asked).book o.new.journal.now.reads o.new.pages.now.reads) where
    asked_all : ran.asked ≡ generated (script seed count)
    asked_all = sym (ap asks_in ran.end.0)

    did : after_asked new_store ran.asked ≡ generated_new seed count
    did = ap (after_asked new_store) asked_all

    stand : (j p : List ℕ) → OpenAfterAsked empty_tree 0 tx_limit ran.answered ran.asked j p → StandForCommits (generated_new seed count).book j p
    stand j p after = subst (λ (d : Progress BookCall). StandForCommits d.book j p) did (all_stand ran.asked ran.answered j p (omega (arith, ran.all_but)) after)

    all_done : GenDone every seed count text o.new.journal o.new.pages
    all_done = record {
      answered = took_all o text before now _ ran.wrote;
      serial = subst (λ (d : Progress BookCall). IsSerial store_meaning empty_tree 0 tx_limit d.book) did ran.sound.book.serial;
      stored = stand o.new.journal.now.reads o.new.pages.now.reads ran.reads;
      durable = λ j p of_journal of_pages. stand j p (ran.left j p of_journal of_pages);
      in_pages = subst (λ (d : Progress BookCall). HoldAllWhereDue every d.book o.new.pages.now.reads) did
          (held_by_gen every (after_asked new_store ran.asked).book o.new.journal.now.reads o.new.pages.now.reads seed count made);
    }

  pub gen_done : (command : Option Command) (status : Status) → command ≡ Some (gen seed count) → status ≡ Done → Leaves tx_limit command every status o → GenDone every seed count text o.new.journal o.new.pages
  gen_done command status named is leaves_so =
      let leaves : OpenedStoreLeaves tx_limit (Some (gen seed count)) every Done o = subst (λ (x : Option Command × Status). Leaves tx_limit x.0 every x.1 o) (λ i. (named i, is i)) leaves_so in
      let new = done_new leaves in
      all_done leaves.opening new.ran new.made

  pub gen_refused : (command : Option Command) (status : Status) (why : Reason) → command ≡ Some (gen seed count) → status ≡ DocumentRefused why → Leaves tx_limit command every status o
      → GenRefused seed count why text o.new.journal o.new.pages
  gen_refused command status why named is leaves_so =
      let leaves : OpenedStoreLeaves tx_limit (Some (gen seed count)) every (DocumentRefused why) o = subst (λ (x : Option Command × Status). Leaves tx_limit x.0 every x.1 o) (λ i. (named i, is i)) leaves_so in
      let ran = ran_new (DocumentRefused why) leaves in
      record {
        asked = ran.asked;
        behind = ran.first.0;
        of_script = ran.first.1;
        refused = ended_for (first_reason limit_of (after_asked new_store ran.asked).lines) why (ran.end.behind refl);
        stops = ran.stops;
        silent = same_Some _ _ (sym now ∙ ran.wrote ∙ before);
        stored = all_stand ran.asked ran.answered o.new.journal.now.reads o.new.pages.now.reads (omega (arith, ran.all_but)) ran.reads;
        durable = λ j p of_journal of_pages. all_stand ran.asked ran.answered j p (omega (arith, ran.all_but)) (ran.left j p of_journal of_pages);
      }

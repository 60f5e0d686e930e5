-- What the commits of a book, and the checkpoints behind them, leave of the pages.
use Rattle.std.proofs.Common.{◌≡◌, ℕ, zero, suc, ◌+◌, ◌≤◌, Bool, true, false, ◌&&◌, IsTrue, List, [], ◌∷◌, ◌++◌, length, take, refl, sym, ap, ◌∙◌, subst, arith, append_assoc}
use Rattle.std.specs.Prelude.{Option, None, Some, IfSome, Ok}
use Rattle.std.proofs.lemmas.List.{take-append-le, take_all}
use Rattle.outside_traits.specs.Moments.{History, IsAllSynced}
use Rattle.tree_model.specs.Tree.{Tree, map_of}
use Rattle.node_seq.specs.Trees.{StandsFor}
use Rattle.node_pages.specs.PageFiles.{contents_of_file}
use Rattle.checkpoint.specs.Bases.{IsUnchanged, contents_of, is_paged}
use Rattle.checkpoint.specs.Renewals.{pages_of as base_pages}
use Rattle.checkpoint.specs.declared.base.Base.{Base}
use Rattle.checkpoint.specs.declared.base.Base.TheVariants.{Paged, Copied}
use Rattle.call_contract.specs.Books.{Book, IsBookFrom, commit_of, commits, commits_after, last, open_after}
use Rattle.call_contract.specs.SerialRuns.{Committed, serial}
use Rattle.call_contract.specs.Sessions.{commits_in}
use Rattle.call_contract.specs.States.{Live, of_session, start}
use Rattle.call_contract.proofs.Appends.{commits_append}
use Rattle.call_contract.proofs.SessionBooks.{number_told}
use Rattle.session_driver.specs.Asking.{BookCall}
use Rattle.durable_sessions.specs.Asked.{GrowsByOne, TakesNext}
use Rattle.store_calls.specs.StoreCalls.{IsValidStoreCall, store_meaning}
use Rattle.tx_core.specs.Cores.{state_from}
use Rattle.xtc.specs.Checkpoints.{HoldFirst, fits, is_tried, last_made, made_or, tree_after}
use Rattle.xtc.specs.StoreMachine.{HasAnswered, HasRested, HoldMade, KeptStore, file_of}
use Rattle.xtc.proofs.CommitCounts.{commits_counted}
use Rattle.xtc.proofs.SoundBooks.{sound_book}

-- ---- books

module _ {C : Type 0} where
  open_behind : List (Live C) → Book C → List (Live C)
  open_behind ts [] = ts
  open_behind ts (n ∷ ns) = open_behind (open_after ts n) ns

  -- the committed transactions of a book are the first ones of what goes on from it
  commits_on : (ts : List (Live C)) (xs ys : Book C) → commits_after ts (xs ++ ys) ≡ commits_after ts xs ++ commits_after (open_behind ts xs) ys
  unfolding open_behind
  commits_on ts [] ys = refl
  commits_on ts (n ∷ ns) ys =
      let c : List (Committed C) = commit_of (of_session n.session ts) n.event in
      ap (λ (z : List (Committed C)). c ++ z) (commits_on (open_after ts n) ns ys) ∙ sym (append_assoc c (commits_after (open_after ts n) ns) (commits_after (open_behind (open_after ts n) ns) ys))

-- the tree after the first commits stays what it was
tree_on : (t : Tree) (xs ys : Book BookCall) (k : ℕ) → k ≤ length (commits xs) → tree_after t (xs ++ ys) k ≡ tree_after t xs k
tree_on t xs ys k le = ap (λ (cs : List (Committed BookCall)). (serial store_meaning cs t).tree) (ap (take k) (commits_on [] xs ys) ∙ take-append-le k (commits xs) (commits_after (open_behind [] xs) ys) le)

-- and so does which of them the last checkpoint was made behind
pub made_on : (tried : ℕ → Bool) (t : Tree) (n : ℕ) (xs ys : Book BookCall) (Q : ℕ → Tree → Type 0) (k : ℕ) → k ≤ length (commits xs)
    → IfSome (last_made tried t n xs k) (λ m. Q m (tree_after t xs m)) → IfSome (last_made tried t n (xs ++ ys) k) (λ m. Q m (tree_after t (xs ++ ys) m))
made_on tried t n xs ys Q zero le h = tt
made_on tried t n xs ys Q (suc k) le h =
    let same : tree_after t (xs ++ ys) (suc k) ≡ tree_after t xs (suc k) = tree_on t xs ys (suc k) le in
    let go : (b : Bool) → IfSome (made_or b (suc k) (last_made tried t n xs k)) (λ m. Q m (tree_after t xs m))
    → IfSome (made_or b (suc k) (last_made tried t n (xs ++ ys) k)) (λ m. Q m (tree_after t (xs ++ ys) m)) = λ b.
    elim b as (λ b. IfSome (made_or b (suc k) (last_made tried t n xs k)) (λ m. Q m (tree_after t xs m)) → IfSome (made_or b (suc k) (last_made tried t n (xs ++ ys) k)) (λ m. Q m (tree_after t (xs ++ ys) m))) [
      | true ↦ λ q. subst (Q (suc k)) (sym same) q
      | false ↦ λ q. made_on tried t n xs ys Q k (omega (arith, le)) q
    ] in
    subst (λ (x : Tree). IfSome (made_or (tried (suc k) && fits x (n + suc k)) (suc k) (last_made tried t n (xs ++ ys) k)) (λ m. Q m (tree_after t (xs ++ ys) m))) (sym same)
    (go (tried (suc k) && fits (tree_after t xs (suc k)) (n + suc k)) h)

module _ (t : Tree) (n limit : ℕ) (book : Book BookCall) (legal : IsBookFrom IsValidStoreCall store_meaning t n limit book) where
  -- there are as many committed transactions as commits
  pub committed_counted : length (commits book) ≡ commits_in book
  committed_counted = commits_counted store_meaning (start t n limit) book legal.legal.run

  -- the state after the book has their tree, and the number of the last of them
  pub all_committed : tree_after t book (commits_in book) ≡ (last store_meaning (start t n limit) book).tree
  all_committed =
      ap (λ (k : ℕ). tree_after t book k) (sym committed_counted)
      ∙ ap (λ (cs : List (Committed BookCall)). (serial store_meaning cs t).tree) (take_all (length (commits book)) (commits book) (omega arith))
      ∙ (sound_book t n limit book legal).serial.tree

  pub last_number : n + commits_in book ≡ (last store_meaning (start t n limit) book).number
  last_number = number_told store_meaning (start t n limit) book legal.legal.run

-- ---- bases

module _ {P : Type 0} (is_known : Bool) (history : P → History) (faults : P → ℕ) where
  -- reading leaves the file as it is
  pub file_still : (x y : Base P) (pages : Option P) → IsUnchanged is_known history faults x y → IsTrue is_known → file_of history y pages ≡ file_of history x pages
  file_still (Paged s) (Paged t) None same known = same.0.0 known
  file_still (Paged s) (Copied seq count) None same known = absurd same
  file_still (Copied seq count) (Paged t) None same known = absurd same
  file_still (Copied seq count) (Copied seq_now count_now) None same known = refl
  file_still x y (Some disk) same known = refl

  pub paged_still : (x y : Base P) → IsUnchanged is_known history faults x y → IsTrue (is_paged x) → IsTrue (is_paged y)
  paged_still (Paged s) (Paged t) same is = refl
  paged_still (Paged s) (Copied seq count) same is = absurd same
  paged_still (Copied seq count) y same is = absurd cc

-- ---- a line

module _ {P : Type 0} (is_known : Bool) (history : P → History) (faults : P → ℕ) (old new : KeptStore P) (rested : HasRested is_known history old)
    (grown : GrowsByOne old.core new.core) (takes : TakesNext new.core new.journal) (same : IsUnchanged is_known history faults old.core.base new.core.base) (checkpoints : new.checkpoints ≡ old.checkpoints)
    (legal : (t : Tree) → StandsFor (contents_of is_known history new.core.opening) t → IsBookFrom IsValidStoreCall store_meaning t new.core.number new.core.limit new.core.book) where
  abbrev before : HasAnswered is_known history old
  before = rested.answered

  opened_so : (t : Tree) → StandsFor (contents_of is_known history new.core.opening) t → StandsFor (contents_of is_known history old.core.opening) t
  opened_so t stands = subst (λ (b : Base P). StandsFor (contents_of is_known history b) t) grown.opening stands

  still : IsTrue is_known → base_pages history new.core.base ≡ base_pages history old.core.base
  still known = file_still is_known history faults old.core.base new.core.base None same known

  -- the pages hold what they held
  made_still : HoldMade is_known history new.core old.checkpoints.every old.checkpoints.seen
  made_still known some t stands =
      let then : StandsFor (contents_of is_known history old.core.opening) t = opened_so t stands in
      let count : length (commits old.core.book) ≡ commits_in old.core.book = committed_counted t old.core.number old.core.limit old.core.book (before.legal t then) in
      let held = before.made known some t then in
      let Q : ℕ → Tree → Type 0 = λ m u. contents_is m u (base_pages history old.core.base).now.reads in
      subst (λ (x : ℕ × Book BookCall × History). IfSome (last_made (is_tried old.checkpoints.every) t x.0 x.1 old.checkpoints.seen) (λ m. HoldFirst t x.0 x.1 m x.2.now.reads)) (λ i. (sym grown.number i, sym grown.book i, sym (still known) i))
      (made_on (is_tried old.checkpoints.every) t old.core.number old.core.book grown.more Q old.checkpoints.seen (omega (arith, count, rested.all)) held)
    where
      contents_is : ℕ → Tree → List ℕ → Type 0
      contents_is m u pages = contents_of_file pages ≡ Ok (map_of u, old.core.number + m)

  -- behind a line that was done
  pub answered_on : HasAnswered is_known history new
  answered_on = record {
    stands = λ known.
        let was = before.stands known in
        (state_from store_meaning was.1.tree new.core, record { tree = was.1.tree; opened = subst (λ (b : Base P). StandsFor (contents_of is_known history b) was.1.tree) (sym grown.opening) was.1.opened; state = refl });
    may = record {
      opened = subst (λ (b : Base P). IsTrue (is_paged b)) (sym grown.opening) before.may.opened;
      paged = paged_still is_known history faults old.core.base new.core.base same before.may.paged;
      synced = λ known. subst IsAllSynced (sym (still known)) (before.may.synced known);
      usable = takes.usable;
      next = takes.next;
    };
    inside = ap (λ c. c.pages) checkpoints ∙ before.inside;
    legal = legal;
    opened = ap (λ c. c.opened) checkpoints ∙ before.opened ∙ sym grown.number;
    seen = omega (arith, ap (λ c. c.seen) checkpoints, rested.all, counted);
    last = omega (arith, ap (λ c. c.seen) checkpoints, rested.all, counted, grown.one);
    made = subst (λ c. HoldMade is_known history new.core c.every c.seen) (sym checkpoints) made_still;
  }
    where
      counted : commits_in new.core.book ≡ commits_in old.core.book + commits_in grown.more
      counted = ap commits_in grown.book ∙ commits_append old.core.book grown.more

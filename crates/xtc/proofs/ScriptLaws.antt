-- What a script that ran over a store leaves, in the words of its book.
use Rattle.std.proofs.Common.{◌≡◌, ◌⊎◌, ℕ, zero, suc, ◌+◌, ◌≤◌, List, [], ◌∷◌, ◌++◌, Bool, true, false, length, take, drop, Option, Ok, inl, inr, refl, sym, ap, ◌∙◌, subst, append-nil, arith}
use Rattle.std.specs.Prelude.{nat_le}
use Rattle.std.specs.List.{AllByRecursion}
use Rattle.std.proofs.lemmas.Bool.Decides.{nat_tests}
use Rattle.std.proofs.lemmas.List.{take-take, length-take, take-append-drop}
use Rattle.std.proofs.Math.Seq.{take-length, take-append-add}
use Rattle.outside_traits.specs.Bytes.{Took, TookPrefix}
use Rattle.outside_traits.specs.CrashImages.{IsImage}
use Rattle.outside_traits.specs.DiskPairs.{Pair, PairsHave, PairsLeave, pair_of}
use Rattle.outside_traits.specs.Moments.{History}
use Rattle.outside_traits.proofs.PairLaws.{pairs_weaker}
use Rattle.tree_model.specs.Tree.{Tree, map_of}
use Rattle.tree_model.specs.ValidTrees.{IsValidTree}
use Rattle.script_runs.specs.Lines.{ended, lines_of, line_limit}
use Rattle.script_runs.specs.Machine.{IsSettled, Machine}
use Rattle.script_runs.specs.Runs.{Ran, HoldsFrom, slack_at, IsExact as IsExactRun, TookAtLeast}
use Rattle.script_runs.specs.Texts.{state_after, text_of}
use Rattle.script_runs.specs.declared.halt.Halt.TheVariants as halt
use Rattle.script_runs.specs.declared.running.End.{End}
use Rattle.script_runs.specs.declared.running.End.TheVariants as end
use Rattle.script_runs.proofs.FeedingLaws.{state_after_on}
use Rattle.call_contract.specs.States.{State, start}
use Rattle.session_driver.specs.Asking.{BookCall}
use Rattle.session_driver.specs.Committed.{SameCommitted}
use Rattle.session_driver.specs.Lines.{IsValidDoing, after_line}
use Rattle.session_driver.specs.Progress.{Progress}
use Rattle.session_driver.specs.declared.doing.Doing.{Doing}
use Rattle.session_driver.specs.declared.doing.Doing.TheVariants.{Begin, Commit, Abort, Call}
use Rattle.session_driver.proofs.OnlyCommits.{unless_commit}
use Rattle.store_calls.specs.StoreCalls.{store_meaning, IsValidStoreCall}
use Rattle.xtc.specs.Book.{IsValidLine, done_by, script_of, replies_text}
use Rattle.durable_sessions.specs.Durable.{HoldState}
use Rattle.xtc.specs.ScriptLine.{Line, nothing, bad, asked, line_of}
use Rattle.xtc.specs.Statuses.{status_of_end}
use Rattle.xtc.specs.StoreMachine.{Booked, KeptStore, begun_at, file_in, store_machine, with_done}
use Rattle.checkpoint.specs.declared.base.Base.{Base}
use Rattle.xtc.specs.TopCall.{OpenAfterLines, slack, IsExact, ScriptRan}
use Rattle.xtc.proofs.ScriptBooks.{AreValidLines, state_is, text_is, script_sound, opens_after}

slack_is : (e : End) → slack_at e ≡ slack (status_of_end e)
slack_is end.Done = refl
slack_is (end.LineTooLong n) = refl
slack_is end.ReadFault = refl
slack_is end.WriteFault = refl
slack_is (end.Halted halt.DiskFault) = refl
slack_is (end.Halted halt.NoMemory) = refl
slack_is (end.Halted (halt.Damaged place)) = refl

slack_small : (e : End) → slack_at e ≤ 1
slack_small end.Done = omega arith
slack_small (end.LineTooLong n) = omega arith
slack_small end.ReadFault = omega arith
slack_small end.WriteFault = omega arith
slack_small (end.Halted h) = omega arith

-- ---- lists

first_all : {A : Type 0} (P : A → Type 0) (k : ℕ) (xs : List A) → AllByRecursion P xs → AllByRecursion P (take k xs)
first_all P zero xs all = tt
first_all P (suc k) [] all = tt
first_all P (suc k) (x ∷ xs) all = (all.0, first_all P k xs all.1)

all_then : {A : Type 0} (P : A → Type 0) (xs ys : List A) → AllByRecursion P xs → AllByRecursion P ys → AllByRecursion P (xs ++ ys)
all_then P [] ys one two = two
all_then P (x ∷ xs) ys one two = (one.0, all_then P xs ys one.1 two)

-- the first lines, where these come behind the first of them
first_more : (done k : ℕ) (lines rest : List (List ℕ)) → done ≤ length lines → drop done lines ≡ rest → take (done + k) lines ≡ take done lines ++ take k rest
first_more done k lines rest within is =
    let count : length (take done lines) ≡ done = omega (arith, length-take done lines, within) in
    ap (λ (i : ℕ). take (i + k) lines) (sym count)
    ∙ ap (take (length (take done lines) + k)) (sym (take-append-drop done lines))
    ∙ take-append-add (take done lines) (drop done lines) k
    ∙ ap (λ (ls : List (List ℕ)). take done lines ++ take k ls) is

-- ---- a line that was begun

-- what is committed is as before, or the line is a valid one
kept_or_valid : (st : State BookCall) (n : ℕ) (line : Line) → SameCommitted st (done_by st n line).state ⊎ IsValidLine line
kept_or_valid st n nothing = inl (record { tree = refl; number = refl })
kept_or_valid st n (bad why) = inl (record { tree = refl; number = refl })
kept_or_valid st n (asked a) = go a.doing
  where
    go : (d : Doing BookCall) → SameCommitted st (after_line store_meaning st (record { session = a.session; doing = d })).state ⊎ IsValidDoing IsValidStoreCall d
    go Begin = inl (unless_commit store_meaning st a.session Begin (λ e. cc))
    go Abort = inl (unless_commit store_meaning st a.session Abort (λ e. cc))
    go (Call c) = inl (unless_commit store_meaning st a.session (Call c) (λ e. cc))
    go Commit = inr tt

held_still : (st u : State BookCall) (journal pages : List ℕ) → SameCommitted st u → HoldState u journal pages → HoldState st journal pages
held_still st u journal pages same holds = holds ∙ (λ i. Ok (record { entries = map_of (same.tree i); number = same.number i }))

module _ {P : Type 0} (journal_known pages_known makes : Bool) (history : P → History) (faults : P → ℕ) (t : Tree) (n limit : ℕ) (formed : IsValidTree t) (base : Base P) (every : ℕ) where
  abbrev s : State BookCall
  s = start t n limit

  abbrev b : Booked P
  b = begun_at s base n every

  abbrev machine : Machine (KeptStore P)
  machine = store_machine journal_known pages_known makes history faults

  -- what files hold after some of the lines, by the book
  opens_some : (least most : ℕ) (lines : List (List ℕ)) (journal pages : List ℕ) → AreValidLines (take most lines) → HoldsFrom machine least most b lines journal pages
      → OpenAfterLines t n limit least (take most lines) journal pages
  opens_some least most lines journal pages valid h =
      let first : take h.count (take most lines) ≡ take h.count lines = take-take h.count most lines h.bound in
      let held : HoldState (script_of s (take h.count (take most lines))).state journal pages
      = subst (λ (u : State BookCall). HoldState u journal pages) (ap (λ (c : Booked P). c.state) (state_is journal_known pages_known makes history faults b (take h.count lines)) ∙ ap (λ (ls : List (List ℕ)). (script_of s ls).state) (sym first)) h.holds in
      record {
        count = h.count;
        enough = h.enough;
        within = within_both h.count most lines h.bound h.within;
        opens = opens_after t n limit formed (take h.count (take most lines)) (first_all _ h.count (take most lines) valid) journal pages held;
      }
    where
      within_both : (k most : ℕ) (lines : List (List ℕ)) → k ≤ most → k ≤ length lines → k ≤ length (take most lines)
      within_both k most lines le within = omega (arith, le, within, length-take most lines)

  -- how many lines more count than those that were done: the next one only where it is valid, as a commit is
  record Counted (most done : ℕ) (lines : List (List ℕ)) : Type 0 where
    further : ℕ
    at_most : further ≤ most
    valid : AreValidLines (take (done + further) lines)
    opens : (least : ℕ) (journal pages : List ℕ) → least ≤ done → HoldsFrom machine least (done + most) b lines journal pages → OpenAfterLines t n limit least (take (done + further) lines) journal pages

  counted_done : (most done : ℕ) (lines : List (List ℕ)) → AreValidLines (take done lines)
      → ((least : ℕ) (journal pages : List ℕ) → least ≤ done → HoldsFrom machine least (done + most) b lines journal pages → HoldsFrom machine least done b lines journal pages)
      → Counted most done lines
  counted_done most done lines valid fewer =
      let none : take (done + 0) lines ≡ take done lines = ap (λ k. take k lines) (let sum : done + 0 ≡ done = omega arith in sum) in
      record {
        further = 0;
        at_most = omega arith;
        valid = subst AreValidLines (sym none) valid;
        opens = λ least journal pages le h. subst (λ ls. OpenAfterLines t n limit least ls journal pages) (sym none) (opens_some least done lines journal pages valid (fewer least journal pages le h));
      }

  -- the line behind those that were done leaves what is committed
  without_next : (most done : ℕ) (line : List ℕ) (lines rest : List (List ℕ)) → most ≤ 1 → done ≤ length lines → drop done lines ≡ line ∷ rest
      → SameCommitted (script_of s (take done lines)).state (done_by (script_of s (take done lines)).state 0 (line_of line)).state
      → (least : ℕ) (journal pages : List ℕ) → least ≤ done → HoldsFrom machine least (done + most) b lines journal pages → HoldsFrom machine least done b lines journal pages
  without_next most done line lines rest small within is same least journal pages le h = go (nat_le h.count done) refl
    where
      at_done : Booked P
      at_done = state_after machine b (take done lines)

      here : at_done.state ≡ (script_of s (take done lines)).state
      here = ap (λ (c : Booked P). c.state) (state_is journal_known pages_known makes history faults b (take done lines))

      one_more : h.count ≡ done + 1 → state_after machine b (take h.count lines) ≡ with_done at_done (done_by at_done.state 0 (line_of line))
      one_more count =
          ap (λ k. state_after machine b (take k lines)) count
          ∙ ap (state_after machine b) (first_more done 1 lines (line ∷ rest) within is)
          ∙ state_after_on machine b (take done lines) (line ∷ [])

      go : (is_few : Bool) → nat_le h.count done ≡ is_few → HoldsFrom machine least done b lines journal pages
      go true few = record { count = h.count; enough = h.enough; bound = below few; within = h.within; holds = h.holds }
        where
          below : nat_le h.count done ≡ true → h.count ≤ done
          below e = grind (arith, nat_tests, e)
      go false many = record {
        count = done;
        enough = le;
        bound = omega arith;
        within = within;
        holds = held_still at_done.state (done_by at_done.state 0 (line_of line)).state journal pages
            (subst (λ (u : State BookCall). SameCommitted u (done_by u 0 (line_of line)).state) (sym here) same)
            (subst (λ (c : Booked P). HoldState c.state journal pages) (one_more (above many h.bound)) h.holds);
      }
        where
          above : nat_le h.count done ≡ false → h.count ≤ done + most → h.count ≡ done + 1
          above e bound = grind (arith, nat_tests, e, bound, small)

  counted : (most done : ℕ) (lines rest : List (List ℕ)) → most ≤ 1 → done ≤ length lines → AreValidLines (take done lines) → drop done lines ≡ rest → Counted most done lines
  counted most done lines [] small within valid is = counted_done most done lines valid (λ least journal pages le h. record {
    count = h.count;
    enough = h.enough;
    bound = all_done h.count h.within;
    within = h.within;
    holds = h.holds;
  })
    where
      all_done : (k : ℕ) → k ≤ length lines → k ≤ done
      all_done k le = omega (arith, le, within, ap length (sym (take-append-drop done lines) ∙ ap (λ (ls : List (List ℕ)). take done lines ++ ls) is ∙ append-nil (take done lines)), length-take done lines)
  counted most done lines (line ∷ rest) small within valid is = go (kept_or_valid (script_of s (take done lines)).state 0 (line_of line))
    where
      next_valid : IsValidLine (line_of line) → (k : ℕ) → k ≤ 1 → AreValidLines (take k (line ∷ rest))
      next_valid v zero le = tt
      next_valid v (suc zero) le = (v, tt)
      next_valid v (suc (suc k)) le = absurd (omega (arith, le))

      go : SameCommitted (script_of s (take done lines)).state (done_by (script_of s (take done lines)).state 0 (line_of line)).state ⊎ IsValidLine (line_of line) → Counted most done lines
      go (inl same) = counted_done most done lines valid (without_next most done line lines rest small within is same)
      go (inr v) =
          let all : AreValidLines (take (done + most) lines) = subst AreValidLines (sym (first_more done most lines (line ∷ rest) within is)) (all_then _ (take done lines) (take most (line ∷ rest)) valid (next_valid v most small)) in
          record {
            further = most;
            at_most = omega arith;
            valid = all;
            opens = λ least journal pages le h. opens_some least (done + most) lines journal pages all h;
          }

  -- the text of all lines that were done, as the machine gives it, is that of their replies
  whole_text : (before now : Option (List ℕ)) (lines : List (List ℕ)) (script : Progress BookCall) → script ≡ script_of s lines → Took before now (text_of machine b lines) → Took before now (replies_text script.lines)
  whole_text before now lines script is took = subst (Took before now) (text_is journal_known pages_known makes history faults b lines ∙ ap (λ (p : Progress BookCall). replies_text p.lines) (sym is)) took

  exact_is : (e : End) (read : List ℕ) (before now : Option (List ℕ)) (lines : List (List ℕ)) (done : ℕ) (script : Progress BookCall) → (slack_at e ≡ 0 → script ≡ script_of s (take done lines))
      → IsExactRun machine line_limit b e read before now lines done → IsExact (status_of_end e) read lines done (Took before now (replies_text script.lines))
  exact_is end.Done read before now lines done script is x =
      let all : take done lines ≡ lines_of read = ap (λ k. take k lines) x.0 ∙ take-length lines ∙ x.1 in
      (x.0, x.1, whole_text before now (lines_of read) script (is refl ∙ ap (script_of s) all) x.2)
  exact_is (end.LineTooLong k) read before now lines done script is x = (x.0, x.1, whole_text before now (take done lines) script (is refl) x.2)
  exact_is end.ReadFault read before now lines done script is x =
      let all : take done lines ≡ lines = ap (λ k. take k lines) x.0 ∙ take-length lines in
      (x.0, x.1, whole_text before now lines script (is refl ∙ ap (script_of s) all) x.2, x.3)
  exact_is end.WriteFault read before now lines done script is x = tt
  exact_is (end.Halted halt.DiskFault) read before now lines done script is x = tt
  exact_is (end.Halted halt.NoMemory) read before now lines done script is x = tt
  exact_is (end.Halted (halt.Damaged place)) read before now lines done script is x = tt

  -- over a store that was opened
  pub script_ran : (e : End) (read : List ℕ) (before_read : ℕ) (rest before now : Option (List ℕ)) (k m : KeptStore P) (opening old new : Pair) → pair_of k.journal.history (file_in history k) ≡ opening → IsSettled machine k b → new ≡ pair_of m.journal.history (file_in history m)
      → IsImage new.journal.now new.journal.now.reads → IsImage new.pages.now new.pages.now.reads → (ran : Ran machine line_limit b e read before_read rest before now k m)
      → (sr : ScriptRan t n limit (status_of_end e) opening (record { read = read; asked = before_read; left = rest; before = before; now = now; old = old; new = new })) × (sr.lines ≡ ran.lines)
  script_ran e read before_read rest before now k m opening old new begun settled same of_journal of_pages ran =
      let here : Pair = pair_of k.journal.history (file_in history k) in
      let counts = counted (slack_at e) ran.done ran.lines (drop ran.done ran.lines) (slack_small e) ran.within ran.valid refl in
      let counting : List (List ℕ) = take (ran.done + counts.further) ran.lines in
      let script : Progress BookCall = script_of s counting in
      let only : slack_at e ≡ 0 → script ≡ script_of s (take ran.done ran.lines)
      = λ none. ap (λ x. script_of s (take x ran.lines)) (let sum : ran.done + counts.further ≡ ran.done = omega (arith, none, counts.at_most) in sum) in
      let left : PairsHave (OpenAfterLines t n limit ran.done counting) new = subst (PairsHave (OpenAfterLines t n limit ran.done counting)) (sym same) (λ journal pages is_journal is_pages.
      counts.opens ran.done journal pages (omega arith) (ran.left settled journal pages is_journal is_pages)) in (
        record {
          lines = ran.lines;
          asked_for = ran.asked_for;
          done = ran.done;
          within = ran.within;
          short = ran.short;
          further = counts.further;
          at_most = subst (λ x. counts.further ≤ x) (slack_is e) counts.at_most;
          script = script;
          is = refl;
          sound = script_sound t n limit formed counting counts.valid;
          wrote = subst (TookPrefix before now) (text_is journal_known pages_known makes history faults b (take ran.done ran.lines)) ran.wrote;
          exact = exact_is e read before now ran.lines ran.done script only ran.exact;
          prompt = subst (TookAtLeast before now) (text_is journal_known pages_known makes history faults b (ended [] (take before_read read))) ran.prompt.wrote;
          not_past = ran.prompt.short;
          any_moment = subst (λ (p : Pair × Pair). PairsLeave (OpenAfterLines t n limit 0 counting) p.0 p.1) (λ i. (begun i, sym same i)) (pairs_weaker _ _ (λ journal pages h. counts.opens 0 journal pages (omega arith) h) here _ (ran.any_moment settled));
          left = left;
          reads = left new.journal.now.reads new.pages.now.reads of_journal of_pages;
        },
        refl,
      )

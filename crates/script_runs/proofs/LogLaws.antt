-- How the steps of a script follow each other in what they leave of the disks, for any machine.
use Rattle.std.proofs.Common.{◌≡◌, ℕ, ◌+◌, ◌≤◌, List, [], ◌∷◌, ◌++◌, length, take, refl, sym, ap, ◌∙◌, subst, arith, inl, inr, append_assoc, append-nil, length-append}
use Rattle.std.specs.Prelude.{Option, Result, Ok, Err, OnOk, OnErr}
use Rattle.std.specs.List.{AllByRecursion}
use Rattle.std.proofs.lemmas.List.{take-append-le}
use Rattle.std.proofs.Math.Seq.{take-append-add, take-append_seam}
use Rattle.outside_traits.specs.Bytes.{TookAllBut, TookPrefix}
use Rattle.outside_traits.specs.DiskPairs.{PairsHave, PairsLeave}
use Rattle.outside_traits.proofs.Laws.{took_more, took_nothing}
use Rattle.outside_traits.proofs.PairLaws.{none, pairs_joined, pairs_weaker, pairs_now}
use Rattle.script_runs.specs.Lines.{ended, unended, last_line, AllShort}
use Rattle.script_runs.specs.Machine.{Machine, IsSettled, HoldsEither}
use Rattle.script_runs.specs.Runs.{HoldsFrom}
use Rattle.script_runs.specs.Texts.{answers, state_after}
use Rattle.script_runs.specs.inside.Feeding.{Script, Standing, with_state, IfGoesOn, slack_of, DoneFrom, LeavesFrom, Leaves, EndsFrom}
use Rattle.script_runs.specs.declared.halt.Halt.{Halt}
use Rattle.script_runs.specs.declared.feeding.Stop.{Stop}
use Rattle.script_runs.specs.declared.feeding.Stop.TheVariants.{LineTooLong, WriteFault, Halted}
use Rattle.script_runs.proofs.FeedingLaws.{fed_none, fed_written, ended_on, state_after_on, answers_on, short_on, comes_on, comes_more}

pub ok_map : (P Q : Type 0) (r : Result (Unit {0}) Stop) → (P → Q) → OnOk r P → OnOk r Q
ok_map P Q (Ok u) leads p = leads p
ok_map P Q (Err e) leads p = tt

pub goes_map : (P Q : Type 0) (r : Result (Unit {0}) Stop) → (P → Q) → IfGoesOn P r → IfGoesOn Q r
goes_map P Q (Ok u) leads p = leads p
goes_map P Q (Err LineTooLong) leads p = leads p
goes_map P Q (Err WriteFault) leads p = tt
goes_map P Q (Err (Halted halt)) leads p = tt

pub goes_on : (P : Type 0) (r : Result (Unit {0}) Stop) → P → IfGoesOn P r
goes_on P (Ok u) p = p
goes_on P (Err LineTooLong) p = p
goes_on P (Err WriteFault) p = tt
goes_on P (Err (Halted halt)) p = tt

take_all : (xs : List (List ℕ)) → take (length xs) xs ≡ xs
take_all xs = ap (take (length xs)) (sym (append-nil xs)) ∙ take-append_seam xs []

all_on : (P : List ℕ → Type 0) (xs ys : List (List ℕ)) → AllByRecursion P xs → AllByRecursion P ys → AllByRecursion P (xs ++ ys)
all_on P [] ys p q = q
all_on P (x ∷ xs) ys p q = (p.0, all_on P xs ys p.1 q)

module _ {M : Type 0} (m : Machine M) where
  -- ---- lines that are held

  pub holds_more : (least most over : ℕ) (s : m.State) (xs ys : List (List ℕ)) (journal pages : List ℕ) → most ≤ over → HoldsFrom m least most s xs journal pages → HoldsFrom m least over s (xs ++ ys) journal pages
  holds_more least most over s xs ys journal pages le h = record {
    count = h.count;
    enough = h.enough;
    bound = omega (arith, h.bound, le);
    within = omega (arith, h.within, length-append xs ys);
    holds = subst (λ (ls : List (List ℕ)). m.holds (state_after m s ls) journal pages) (sym (take-append-le h.count xs ys h.within)) h.holds;
  }

  -- what is committed after all of the first lines and some of the others
  pub holds_on : (least most under over : ℕ) (s : m.State) (xs ys : List (List ℕ)) (journal pages : List ℕ) → under ≤ length xs + least → length xs + most ≤ over → HoldsFrom m least most (state_after m s xs) ys journal pages → HoldsFrom m under over s (xs ++ ys) journal pages
  holds_on least most under over s xs ys journal pages low high h = record {
    count = length xs + h.count;
    enough = omega (arith, h.enough, low);
    bound = omega (arith, h.bound, high);
    within = omega (arith, h.within, length-append xs ys);
    holds = subst (λ (t : m.State). m.holds t journal pages) (sym (ap (state_after m s) (take-append-add xs ys h.count) ∙ state_after_on m s xs (take h.count ys))) h.holds;
  }

  -- all of the lines and no more
  holds_all : (least most : ℕ) (s : m.State) (xs : List (List ℕ)) (journal pages : List ℕ) → length xs ≤ least → HoldsFrom m least most s xs journal pages → m.holds (state_after m s xs) journal pages
  holds_all least most s xs journal pages le h =
      let all : h.count ≡ length xs = omega (arith, h.enough, h.within, le) in
      subst (λ (ls : List (List ℕ)). m.holds (state_after m s ls) journal pages) (ap (λ n. take n xs) all ∙ take_all xs) h.holds

  module _ (limit : ℕ) where
    -- a step that did none of its lines
    pub does_still : (a : Standing m) (h i : Option (List ℕ)) (k : M) (new : Script M) (lines : List (List ℕ)) (r : Result (Unit {0}) Stop) → new.machine ≡ k → new.lines ≡ a.lines → OnOk r (0 ≡ length lines) → TookPrefix h i a.pending → DoneFrom m limit a h i k new lines r
    does_still a h i k new lines r same count nothing wrote = record {
      done = 0;
      within = omega arith;
      whole = nothing;
      counted = goes_on _ r (omega (arith, count));
      fixed = ap m.fixed same;
      short = tt;
      valid = tt;
      wrote = subst (TookPrefix h i) (sym (append-nil a.pending)) wrote;
      any_moment = λ settled. subst (λ (n : M). PairsLeave (HoldsFrom m 0 (0 + slack_of r) a.state lines) (m.disks k) (m.disks n)) (sym same) (none _ (m.disks k));
      kept = λ settled. goes_on _ r (subst m.settled (sym same) settled.kept);
      left = λ settled. subst (λ (n : M). PairsHave (HoldsFrom m 0 (0 + slack_of r) a.state lines) (m.disks n)) (sym same)
          (λ journal pages of_journal of_pages. record { count = 0; enough = omega arith; bound = omega arith; within = omega arith; holds = settled.holds journal pages of_journal of_pages });
    }

    either_from : (a : Standing m) (line : List ℕ) (most : ℕ) → 1 ≤ most → (journal pages : List ℕ) → HoldsEither m a.state (m.next a.state line) journal pages → HoldsFrom m 0 most a.state (line ∷ []) journal pages
    either_from a line most le journal pages (inl holds) = record { count = 0; enough = omega arith; bound = omega arith; within = omega arith; holds = holds }
    either_from a line most le journal pages (inr holds) = record { count = 1; enough = omega arith; bound = le; within = omega arith; holds = holds }

    -- a line was done
    pub does_line : (a : Standing m) (held : Option (List ℕ)) (k : M) (new : Script M) (line : List ℕ) → length line ≤ limit → m.valid line → new.lines ≡ a.lines + 1 → m.fixed new.machine ≡ m.fixed k
        → (IsSettled m k a.state → IsSettled m new.machine (m.next a.state line)) → (IsSettled m k a.state → PairsLeave (HoldsEither m a.state (m.next a.state line)) (m.disks k) (m.disks new.machine))
        → DoneFrom m limit a held held k new (line ∷ []) (Ok tt)
    does_line a held k new line short valid count fixed after run = record {
      done = 1;
      within = omega arith;
      whole = refl;
      counted = count;
      fixed = fixed;
      short = (short, tt);
      valid = (valid, tt);
      wrote = (_, took_nothing held _);
      any_moment = λ settled. pairs_weaker _ _ (either_from a line 1 (omega arith)) (m.disks k) (m.disks new.machine) (run settled);
      kept = λ settled. (after settled).kept;
      left = λ settled journal pages of_journal of_pages. record { count = 1; enough = omega arith; bound = omega arith; within = omega arith; holds = (after settled).holds journal pages of_journal of_pages };
    }

    -- the machine stopped within a line
    pub does_halted : (a : Standing m) (held : Option (List ℕ)) (k : M) (new : Script M) (line : List ℕ) (halt : Halt) → m.fixed new.machine ≡ m.fixed k
        → (IsSettled m k a.state → PairsLeave (HoldsEither m a.state (m.next a.state line)) (m.disks k) (m.disks new.machine))
        → DoneFrom m limit a held held k new (line ∷ []) (Err (Halted halt))
    does_halted a held k new line halt fixed run =
        let moments : IsSettled m k a.state → PairsLeave (HoldsFrom m 0 (0 + 1) a.state (line ∷ [])) (m.disks k) (m.disks new.machine)
        = λ settled. pairs_weaker _ _ (either_from a line 1 (omega arith)) (m.disks k) (m.disks new.machine) (run settled) in
        record {
          done = 0;
          within = omega arith;
          whole = tt;
          counted = tt;
          fixed = fixed;
          short = tt;
          valid = tt;
          wrote = (_, took_nothing held _);
          any_moment = moments;
          kept = λ settled. tt;
          left = λ settled. pairs_now _ (m.disks k) (m.disks new.machine) (moments settled)
              (λ journal pages of_journal of_pages. record { count = 0; enough = omega arith; bound = omega arith; within = omega arith; holds = settled.holds journal pages of_journal of_pages });
        }

    -- what holds of a state holds of none of the lines behind it
    none_from : (a : Standing m) (most : ℕ) (journal pages : List ℕ) → m.holds a.state journal pages → HoldsFrom m 0 most a.state [] journal pages
    none_from a most journal pages holds = record { count = 0; enough = omega arith; bound = omega arith; within = omega arith; holds = holds }

    -- the machine rested between two lines
    pub does_rest : (a : Standing m) (held : Option (List ℕ)) (k : M) (new : Script M) → new.lines ≡ a.lines → m.fixed new.machine ≡ m.fixed k
        → (IsSettled m k a.state → IsSettled m new.machine a.state) → (IsSettled m k a.state → PairsLeave (m.holds a.state) (m.disks k) (m.disks new.machine))
        → DoneFrom m limit a held held k new [] (Ok tt)
    does_rest a held k new count fixed after run = record {
      done = 0;
      within = omega arith;
      whole = refl;
      counted = omega (arith, count);
      fixed = fixed;
      short = tt;
      valid = tt;
      wrote = (_, took_nothing held _);
      any_moment = λ settled. pairs_weaker _ _ (none_from a 0) (m.disks k) (m.disks new.machine) (run settled);
      kept = λ settled. (after settled).kept;
      left = λ settled journal pages of_journal of_pages. none_from a 0 journal pages ((after settled).holds journal pages of_journal of_pages);
    }

    -- it stopped there
    pub does_unrested : (a : Standing m) (held : Option (List ℕ)) (k : M) (new : Script M) (halt : Halt) → m.fixed new.machine ≡ m.fixed k
        → (IsSettled m k a.state → PairsLeave (m.holds a.state) (m.disks k) (m.disks new.machine))
        → DoneFrom m limit a held held k new [] (Err (Halted halt))
    does_unrested a held k new halt fixed run =
        let moments : IsSettled m k a.state → PairsLeave (HoldsFrom m 0 (0 + 1) a.state []) (m.disks k) (m.disks new.machine)
        = λ settled. pairs_weaker _ _ (none_from a 1) (m.disks k) (m.disks new.machine) (run settled) in
        record {
          done = 0;
          within = omega arith;
          whole = tt;
          counted = tt;
          fixed = fixed;
          short = tt;
          valid = tt;
          wrote = (_, took_nothing held _);
          any_moment = moments;
          kept = λ settled. tt;
          left = λ settled. pairs_now _ (m.disks k) (m.disks new.machine) (moments settled) (λ journal pages of_journal of_pages. none_from a 1 journal pages (settled.holds journal pages of_journal of_pages));
        }

    -- ---- one step after another

    -- what the first lines and then others are answered
    answers_of : (a b : Standing m) (xs ys : List (List ℕ)) → b.state ≡ state_after m a.state xs → b.lines ≡ a.lines + length xs → answers m a.state a.lines (xs ++ ys) ≡ answers m a.state a.lines xs ++ answers m b.state b.lines ys
    answers_of a b xs ys state lines = answers_on m a.state a.lines xs ys ∙ (λ i. answers m a.state a.lines xs ++ answers m (sym state i) (sym lines i) ys)

    -- the lines xs were done, and then a step did ys or stopped
    pub does_on : (a b : Standing m) (k : M) (mid new : Script M) (h i j : Option (List ℕ)) (xs ys : List (List ℕ)) (r : Result (Unit {0}) Stop) → b.state ≡ state_after m a.state xs → b.lines ≡ a.lines + length xs → AllShort limit xs → TookAllBut h i (a.pending ++ answers m a.state a.lines xs) b.pending
        → DoneFrom m limit a h i k mid xs (Ok tt) → DoneFrom m limit b i j mid.machine new ys r → DoneFrom m limit a h j k new (xs ++ ys) r
    does_on a b k mid new h i j xs ys r state lines short wrote p q =
        let prefix : List ℕ = a.pending ++ answers m a.state a.lines xs in
        let taken : take (length xs + q.done) (xs ++ ys) ≡ xs ++ take q.done ys = take-append-add xs ys q.done in
        let text : prefix ++ answers m b.state b.lines (take q.done ys) ≡ a.pending ++ answers m a.state a.lines (take (length xs + q.done) (xs ++ ys))
        = append_assoc a.pending (answers m a.state a.lines xs) _
        ∙ ap (λ (t : List ℕ). a.pending ++ t) (sym (answers_of a b xs (take q.done ys) state lines))
        ∙ ap (λ (ls : List (List ℕ)). a.pending ++ answers m a.state a.lines ls) (sym taken) in
        let now : IsSettled m k a.state → IsSettled m mid.machine b.state
        = λ settled. record {
          is_known = settled.is_known;
          kept = p.kept settled;
          holds = λ journal pages of_journal of_pages. subst (λ (t : m.State). m.holds t journal pages) (sym state) (holds_all _ _ a.state xs journal pages (omega (arith, p.whole)) (p.left settled journal pages of_journal of_pages));
        } in
        let all_done : take p.done xs ≡ xs = ap (λ n. take n xs) p.whole ∙ take_all xs in
        let most : ℕ = length xs + q.done + slack_of r in
        record {
          done = length xs + q.done;
          within = omega (arith, q.within, length-append xs ys);
          whole = ok_map _ _ r (λ (e : q.done ≡ length ys). omega (arith, e, length-append xs ys)) q.whole;
          counted = goes_map _ _ r (λ (e : new.lines ≡ b.lines + q.done). omega (arith, e, lines)) q.counted;
          fixed = q.fixed ∙ p.fixed;
          short = subst (AllShort limit) (sym taken) (short_on limit xs (take q.done ys) short (q.short));
          valid = subst (AllByRecursion m.valid) (sym taken) (all_on m.valid xs (take q.done ys) (subst (AllByRecursion m.valid) all_done p.valid) q.valid);
          wrote = (q.wrote.0, subst (λ (t : List ℕ). TookAllBut h j t q.wrote.0) text (took_more h i j prefix b.pending _ q.wrote.0 wrote q.wrote.1));
          any_moment = λ settled. pairs_joined (HoldsFrom m 0 most a.state (xs ++ ys)) (m.disks k) (m.disks mid.machine) (m.disks new.machine)
              (pairs_weaker _ _ (λ journal pages. holds_more 0 (p.done + 0) most a.state xs ys journal pages (omega (arith, p.within))) (m.disks k) (m.disks mid.machine) (p.any_moment settled))
              (pairs_weaker _ _ (λ journal pages (is : HoldsFrom m 0 (q.done + slack_of r) b.state ys journal pages). holds_on 0 (q.done + slack_of r) 0 most a.state xs ys journal pages (omega arith) (omega arith) (subst (λ (t : m.State). HoldsFrom m 0 (q.done + slack_of r) t ys journal pages) state is)) (m.disks mid.machine) (m.disks new.machine) (q.any_moment (now settled)));
          kept = λ settled. q.kept (now settled);
          left = λ settled journal pages of_journal of_pages.
              holds_on q.done (q.done + slack_of r) (length xs + q.done) most a.state xs ys journal pages (omega arith) (omega arith)
              (subst (λ (t : m.State). HoldsFrom m q.done (q.done + slack_of r) t ys journal pages) state (q.left (now settled) journal pages of_journal of_pages));
        }

    -- a step stopped within the lines xs, so it stopped within xs and ys
    pub does_more : (a : Standing m) (k : M) (new : Script M) (h i : Option (List ℕ)) (xs ys : List (List ℕ)) (e : Stop) → DoneFrom m limit a h i k new xs (Err e) → DoneFrom m limit a h i k new (xs ++ ys) (Err e)
    does_more a k new h i xs ys e p =
        let taken : take p.done (xs ++ ys) ≡ take p.done xs = take-append-le p.done xs ys p.within in
        record {
          done = p.done;
          within = omega (arith, p.within, length-append xs ys);
          whole = tt;
          counted = p.counted;
          fixed = p.fixed;
          short = subst (AllShort limit) (sym taken) p.short;
          valid = subst (AllByRecursion m.valid) (sym taken) p.valid;
          wrote = subst (λ (ls : List (List ℕ)). TookPrefix h i (a.pending ++ answers m a.state a.lines ls)) (sym taken) p.wrote;
          any_moment = λ settled. pairs_weaker _ _ (λ journal pages. holds_more 0 _ _ a.state xs ys journal pages (omega arith)) (m.disks k) (m.disks new.machine) (p.any_moment settled);
          kept = p.kept;
          left = λ settled journal pages of_journal of_pages. holds_more p.done _ _ a.state xs ys journal pages (omega arith) (p.left settled journal pages of_journal of_pages);
        }

    -- ---- the same of bytes

    -- the bytes x were taken, and then a step took y or stopped
    pub leaves_on : (s : m.State) (a b c : Script M) (h i j : Option (List ℕ)) (x y : List ℕ) (r : Result (Unit {0}) Stop) → LeavesFrom m limit s a b h i x (Ok tt) → Leaves m limit b c i j y r → LeavesFrom m limit s a c h j (x ++ y) r
    leaves_on s a b c h i j x y r p leaves =
        let fed = p.comes in
        let q = leaves fed.0 fed.1 in
        let lines : ended a.unended x ++ ended b.unended y ≡ ended a.unended (x ++ y) = ap (λ (l : List ℕ). ended a.unended x ++ ended l y) fed.2.unended ∙ sym (ended_on a.unended x y) in
        record {
          comes = comes_on m limit s a b c h i j x y r fed q.comes;
          does = subst (λ (ls : List (List ℕ)). DoneFrom m limit (with_state m a s) h j a.machine c ls r) lines
              (does_on (with_state m a s) (with_state m b fed.0) a.machine b c h i j (ended a.unended x) (ended b.unended y) r fed.2.state fed.2.lines fed.2.short fed.2.wrote p.does q.does);
        }

    -- the bytes x were taken, and a flush followed or stopped
    pub flushed_on : (s : m.State) (a b c : Script M) (h i j : Option (List ℕ)) (x : List ℕ) (r : Result (Unit {0}) Stop) → LeavesFrom m limit s a b h i x (Ok tt) → Leaves m limit b c i j [] r → LeavesFrom m limit s a c h j x r
    flushed_on s a b c h i j x r p q = subst (λ y. LeavesFrom m limit s a c h j y r) (append-nil x) (leaves_on s a b c h i j x [] r p q)

    -- a step stopped within x, so it stopped within x and y
    pub leaves_more : (s : m.State) (a b : Script M) (h i : Option (List ℕ)) (x y : List ℕ) (e : Stop) → LeavesFrom m limit s a b h i x (Err e) → LeavesFrom m limit s a b h i (x ++ y) (Err e)
    leaves_more s a b h i x y e p = record {
      comes = comes_more m limit s a b h i x y e p.comes;
      does = subst (λ (ls : List (List ℕ)). DoneFrom m limit (with_state m a s) h i a.machine b ls (Err e)) (sym (ended_on a.unended x y))
          (does_more (with_state m a s) a.machine b h i (ended a.unended x) (ended (unended a.unended x) y) e p.does);
    }

    -- the machine stopped within the line that came
    pub leaves_halted : (s : m.State) (a b : Script M) (held : Option (List ℕ)) (halt : Halt) → m.fixed b.machine ≡ m.fixed a.machine
        → (IsSettled m a.machine s → PairsLeave (HoldsEither m s (m.next s a.unended)) (m.disks a.machine) (m.disks b.machine)) → LeavesFrom m limit s a b held held (10 ∷ []) (Err (Halted halt))
    leaves_halted s a b held halt fixed run = record {
      comes = tt;
      does = does_halted (with_state m a s) held a.machine b a.unended halt fixed run;
    }

    -- the machine rested between two lines
    pub leaves_rest : (s : m.State) (a b : Script M) (held : Option (List ℕ)) → m.stands b.machine s → b.lines ≡ a.lines → b.unended ≡ a.unended → b.pending ≡ a.pending → m.fixed b.machine ≡ m.fixed a.machine
        → (IsSettled m a.machine s → IsSettled m b.machine s) → (IsSettled m a.machine s → PairsLeave (m.holds s) (m.disks a.machine) (m.disks b.machine)) → LeavesFrom m limit s a b held held [] (Ok tt)
    leaves_rest s a b held stands lines line pending fixed after run = record {
      comes = (s, stands, fed_written m limit (with_state m a s) (with_state m b s) held held refl lines line (subst (TookAllBut held held a.pending) (sym pending) (took_nothing held a.pending)));
      does = does_rest (with_state m a s) held a.machine b lines fixed after run;
    }

    -- it stopped there
    pub leaves_unrested : (s : m.State) (a b : Script M) (held : Option (List ℕ)) (halt : Halt) → m.fixed b.machine ≡ m.fixed a.machine
        → (IsSettled m a.machine s → PairsLeave (m.holds s) (m.disks a.machine) (m.disks b.machine)) → LeavesFrom m limit s a b held held [] (Err (Halted halt))
    leaves_unrested s a b held halt fixed run = record { comes = tt; does = does_unrested (with_state m a s) held a.machine b halt fixed run }

    -- nothing was taken
    pub leaves_none : (s : m.State) (k : Script M) (held : Option (List ℕ)) → m.stands k.machine s → LeavesFrom m limit s k k held held [] (Ok tt)
    leaves_none s k held stands = record {
      comes = (s, stands, fed_none m limit (with_state m k s) held);
      does = does_still (with_state m k s) held held k.machine k [] (Ok tt) refl refl refl (_, took_nothing held k.pending);
    }

    -- the input ended, and these bytes bring the answers of its last line
    pub ends_as : (s : m.State) (a b : Script M) (h i : Option (List ℕ)) (x : List ℕ) (r : Result (Unit {0}) Stop) → ended a.unended x ≡ last_line a.unended → LeavesFrom m limit s a b h i x r → OnOk r (b.pending ≡ []) → EndsFrom m limit s a b h i r
    ends_as s a b h i x (Ok u) lines p empty = record {
      wrote = subst (λ ls. TookAllBut h i (a.pending ++ answers m s a.lines ls) []) lines (subst (λ k. TookAllBut h i (a.pending ++ answers m s a.lines (ended a.unended x)) k) empty p.comes.2.wrote);
      stands = subst (m.stands b.machine) (p.comes.2.state ∙ ap (state_after m s) lines) p.comes.1;
      does = subst (λ ls. DoneFrom m limit (with_state m a s) h i a.machine b ls (Ok u)) lines p.does;
    }
    ends_as s a b h i x (Err e) lines p empty = record {
      wrote = tt;
      stands = tt;
      does = subst (λ ls. DoneFrom m limit (with_state m a s) h i a.machine b ls (Err e)) lines p.does;
    }

-- a step that only fails at a write doesn't find a long line
pub not_long : (r : Result (Unit {0}) Stop) → OnErr r (r ≡ Err WriteFault) → r ≡ Err LineTooLong → ⊥
not_long (Ok u) h e = cc
not_long (Err x) h e = cc

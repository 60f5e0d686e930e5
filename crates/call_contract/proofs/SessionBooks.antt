-- What a run's book tells of its sessions is what the machine's state has of them.
use Rattle.std.proofs.Common.{◌≡◌, ℕ, ◌+◌, Bool, true, false, ◌&&◌, ◌||◌, List, [], ◌∷◌, ◌++◌, filter, length, map, Option, Some, None, is_some, nat_lt, nat_le, ◌==◌, refl, sym, ap, subst, ◌∙◌, arith, if◌then◌else◌}
use Rattle.std.proofs.lemmas.Bool.Decides.{nat_tests}
use Rattle.lock_resources.specs.declared.request.Request.{Request}
use Rattle.call_contract.specs.declared.events.Event.{Event}
use Rattle.call_contract.specs.declared.events.Event.TheVariants.{Begin, Call, Retry, Fail, Commit, Abort}
use Rattle.call_contract.specs.declared.events.EventAnswer.{EventAnswer}
use Rattle.call_contract.specs.declared.events.EventAnswer.TheVariants as said
use Rattle.call_contract.specs.declared.events.Noted.{Noted}
use Rattle.call_contract.specs.Calls.{CallMeaning}
use Rattle.call_contract.specs.States.{Waiting, Live, State, of_session}
use Rattle.call_contract.specs.Attempts.{queued, granted, stopped_at, waits_with}
use Rattle.call_contract.specs.Waits.{cycle_through}
use Rattle.call_contract.specs.Steps.{Outcome, unless_cycle, settled, attempt, retried, failed, given_up, committed, begun_by, step_of}
use Rattle.call_contract.specs.Books.{Book, state_of, next, last, IsAnswer, IsRun, open_of}
use Rattle.call_contract.specs.Sessions.{live_after, without_grants, queued_by, queue_after, is_begin, is_commit, begins, begins_of, commits_in}
use Rattle.call_contract.proofs.Lists.{found_named}
use Rattle.call_contract.proofs.SerialRun.{told_found, open_matches}

-- one more, if it is so
abbrev more : Bool → ℕ → ℕ
more b n = if b then n + 1 else n

-- how an event with its answer moves the queue and the counts
record Moves {C : Type 0} (st : State C) (s : ℕ) (e : Event C) (a : EventAnswer) (after : State C) : Type 0 where
  pub queue : queued_by s e a st.waiting ≡ after.waiting
  pub begun : more (is_begin e) st.begun ≡ after.begun
  pub ordinals : (u : ℕ) → more ((s == u) && is_begin e) (st.ordinals u) ≡ after.ordinals u
  pub number : more (is_commit e) st.number ≡ after.number

module _ {C : Type 0} (m : CallMeaning C) where
  unless_so : (P : State C → Type 0) (st : State C) (b : Bool) (o : Outcome C) (a : EventAnswer) → IsAnswer a (if b then None else Some o) → (b ≡ false → a ≡ o.answer → P o.state) → P (state_of st (if b then None else Some o))
  unless_so P st true o a is h = absurd is
  unless_so P st false o a is h = h refl is

  where_so : (P : State C → Type 0) (st : State C) (b : Bool) (o : Outcome C) (a : EventAnswer) → IsAnswer a (if b then Some o else None) → (a ≡ o.answer → P o.state) → P (state_of st (if b then Some o else None))
  where_so P st true o a is h = h is
  where_so P st false o a is h = absurd is

  no_begin : (b : Bool) (n : ℕ) → more (b && false) n ≡ n
  no_begin true n = refl
  no_begin false n = refl

  -- where nothing is begun or committed only the queue may change
  queue_moves : (st : State C) (s : ℕ) (e : Event C) (a : EventAnswer) (after : State C) → is_begin e ≡ false → is_commit e ≡ false → after.begun ≡ st.begun → after.ordinals ≡ st.ordinals → after.number ≡ st.number
      → queued_by s e a st.waiting ≡ after.waiting → Moves st s e a after
  queue_moves st s e a after begins commits begun ordinals number queue = record {
    queue = queue;
    begun = ap (λ (b : Bool). more b st.begun) begins ∙ sym begun;
    ordinals = λ u. ap (λ (b : Bool). more ((s == u) && b) (st.ordinals u)) begins ∙ no_begin (s == u) (st.ordinals u) ∙ sym (ap (λ (f : ℕ → ℕ). f u) ordinals);
    number = ap (λ (b : Bool). more b st.number) commits ∙ sym number;
  }

  no_wait : (t : Live C) → is_some t.waits ≡ false → t.waits ≡ None
  no_wait t e = go t.waits e
    where
      go : (w : Option (Waiting C)) → is_some w ≡ false → w ≡ None
      go None e = refl
      go (Some w) e = cc

  -- a call of a transaction that doesn't wait
  call_moves : (st : State C) (t : Live C) (c : C) (a : EventAnswer) → t.waits ≡ None → a ≡ (attempt m st t c).answer → Moves st t.session (Call c) a (attempt m st t c).state
  call_moves st t c a ready e = subst (λ (x : EventAnswer). Moves st t.session (Call c) x (attempt m st t c).state) (sym e) (go (stopped_at m st t c))
    where
      cycled : (g : Request) (r : Option (List ℕ)) → Moves st t.session (Call c) (unless_cycle st (waits_with m st t c g) t.session g r).answer (unless_cycle st (waits_with m st t c g) t.session g r).state
      cycled g None = queue_moves st t.session (Call c) _ _ refl refl refl refl refl (sym (ap (λ (w : Option (Waiting C)). queued t.session w st.waiting) ready))
      cycled g (Some members) = queue_moves st t.session (Call c) _ _ refl refl refl refl refl refl

      go : (o : Option Request) → Moves st t.session (Call c) (settled m st t c o).answer (settled m st t c o).state
      go None = queue_moves st t.session (Call c) _ _ refl refl refl refl refl refl
      go (Some g) = cycled g (cycle_through (waits_with m st t c g).live t.session)

  retry_moves : (st : State C) (t : Live C) (w : Waiting C) (a : EventAnswer) → t.waits ≡ Some w → a ≡ (attempt m st t w.call).answer → Moves st t.session Retry a (attempt m st t w.call).state
  retry_moves st t w a waits e = subst (λ (x : EventAnswer). Moves st t.session Retry x (attempt m st t w.call).state) (sym e) (go (stopped_at m st t w.call))
    where
      cycled : (g : Request) (r : Option (List ℕ)) → Moves st t.session Retry (unless_cycle st (waits_with m st t w.call g) t.session g r).answer (unless_cycle st (waits_with m st t w.call g) t.session g r).state
      cycled g None = queue_moves st t.session Retry _ _ refl refl refl refl refl (sym (ap (λ (x : Option (Waiting C)). queued t.session x st.waiting) waits))
      cycled g (Some members) = queue_moves st t.session Retry _ _ refl refl refl refl refl refl

      go : (o : Option Request) → Moves st t.session Retry (settled m st t w.call o).answer (settled m st t w.call o).state
      go None = queue_moves st t.session Retry _ _ refl refl refl refl refl refl
      go (Some g) = cycled g (cycle_through (waits_with m st t w.call g).live t.session)

  again_moves : (st : State C) (t : Live C) (w : Option (Waiting C)) (a : EventAnswer) → t.waits ≡ w → IsAnswer a (retried m st t w) → Moves st t.session Retry a (state_of st (retried m st t w))
  again_moves st t None a e is = absurd is
  again_moves st t (Some w) a e is = retry_moves st t w a e is

  failed_moves : (st : State C) (t : Live C) (c : C) (k : ℕ) (call : Option C) (j : ℕ) (f : Option ℕ) (a : EventAnswer) → Moves st t.session (Fail call j f) a (failed m st t c k).state
  failed_moves st t c k call j f a = queue_moves st t.session (Fail call j f) a _ refl refl refl refl refl refl

  given_up_moves : (st : State C) (t : Live C) (c : Option C) (w : Option (Waiting C)) (k : ℕ) (f : Option ℕ) (a : EventAnswer) → IsAnswer a (given_up m st t c w k f)
      → Moves st t.session (Fail c k f) a (state_of st (given_up m st t c w k f))
  given_up_moves st t (Some c) None k f a is = where_so (Moves st t.session (Fail (Some c) k f) a) st ((is_some f || nat_lt 0 k) && nat_le k (length (granted m st t c))) (failed m st t c k) a is (λ _. failed_moves st t c k (Some c) k f a)
  given_up_moves st t None (Some w) k f a is = where_so (Moves st t.session (Fail None k f) a) st (nat_le k (length (granted m st t w.call))) (failed m st t w.call k) a is (λ _. failed_moves st t w.call k None k f a)
  given_up_moves st t (Some c) (Some w) k f a is = absurd is
  given_up_moves st t None None k f a is = absurd is

  begin_moves : (st : State C) (s : ℕ) (a : EventAnswer) → Moves st s Begin a (begun_by st s)
  begin_moves st s a = record { queue = refl; begun = refl; ordinals = λ u. one u; number = refl }
    where
      one : (u : ℕ) → more ((s == u) && true) (st.ordinals u) ≡ (if u == s then st.ordinals s + 1 else st.ordinals u)
      one u = go (s == u) refl (u == s) refl
        where
          go : (x : Bool) → (s == u) ≡ x → (y : Bool) → (u == s) ≡ y → more (x && true) (st.ordinals u) ≡ (if y then st.ordinals s + 1 else st.ordinals u)
          go true e true f = ap (λ (n : ℕ). st.ordinals n + 1) (same f)
            where
              same : (u == s) ≡ true → u ≡ s
              same f = grind (arith, nat_tests, f)
          go true e false f = absurd (differ e f)
            where
              differ : (s == u) ≡ true → (u == s) ≡ false → ⊥
              differ e f = grind (arith, nat_tests, e, f)
          go false e true f = absurd (differ e f)
            where
              differ : (s == u) ≡ false → (u == s) ≡ true → ⊥
              differ e f = grind (arith, nat_tests, e, f)
          go false e false f = refl

  commit_moves : (st : State C) (t : Live C) (a : EventAnswer) → Moves st t.session Commit a (committed m st t)
  commit_moves st t a = record { queue = refl; begun = refl; ordinals = λ u. no_begin (t.session == u) (st.ordinals u); number = refl }

  step_moves : (st : State C) (s : ℕ) (o : Option (Live C)) (e : Event C) (a : EventAnswer) → of_session s st.live ≡ o → IsAnswer a (step_of m st s o e) → Moves st s e a (state_of st (step_of m st s o e))
  step_moves st s None Begin a found is = unless_so (Moves st s Begin a) st (st.opening + st.begun == st.limit) (record { state = begun_by st s; answer = said.Number (st.ordinals s + 1) }) a is (λ _ _. begin_moves st s a)
  step_moves st s None (Call c) a found is = absurd is
  step_moves st s None Retry a found is = absurd is
  step_moves st s None (Fail c k f) a found is = absurd is
  step_moves st s None Commit a found is = absurd is
  step_moves st s None Abort a found is = absurd is
  step_moves st s (Some t) Begin a found is = absurd is
  step_moves st s (Some t) (Call c) a found is =
      unless_so (Moves st s (Call c) a) st (is_some t.waits) (attempt m st t c) a is
      (λ no e. subst (λ (u : ℕ). Moves st u (Call c) a (attempt m st t c).state) (found_named s st.live t found) (call_moves st t c a (no_wait t no) e))
  step_moves st s (Some t) Retry a found is = subst (λ (u : ℕ). Moves st u Retry a (state_of st (retried m st t t.waits))) (found_named s st.live t found) (again_moves st t t.waits a refl is)
  step_moves st s (Some t) (Fail c k f) a found is = subst (λ (u : ℕ). Moves st u (Fail c k f) a (state_of st (given_up m st t c t.waits k f))) (found_named s st.live t found) (given_up_moves st t c t.waits k f a is)
  step_moves st s (Some t) Commit a found is =
      unless_so (Moves st s Commit a) st (is_some t.waits) (record { state = committed m st t; answer = said.Number (st.number + 1) }) a is
      (λ _ _. subst (λ (u : ℕ). Moves st u Commit a (committed m st t)) (found_named s st.live t found) (commit_moves st t a))
  step_moves st s (Some t) Abort a found is = queue_moves st s Abort a _ refl refl refl refl refl refl

  -- ---- whole books

  pub live_told : (st : State C) (b : Book C) → IsRun m st b → live_after (map without_grants st.live) b ≡ map without_grants (last m st b).live
  live_told st [] run = refl
  live_told st (n ∷ ns) run =
      ap (λ (x : Option (Live C)). live_after (open_of n.session x n.event n.answer (map without_grants st.live)) ns) (told_found n.session st.live)
      ∙ ap (λ (x : List (Live C)). live_after x ns) (open_matches m st n.session (of_session n.session st.live) n.event n.answer refl run.0)
      ∙ live_told (next m st n) ns run.1

  pub queue_told : (st : State C) (b : Book C) → IsRun m st b → queue_after st.waiting b ≡ (last m st b).waiting
  queue_told st [] run = refl
  queue_told st (n ∷ ns) run =
      ap (λ (x : List ℕ). queue_after x ns) (step_moves st n.session (of_session n.session st.live) n.event n.answer refl run.0).queue
      ∙ queue_told (next m st n) ns run.1

  first_more : (b : Bool) (k : ℕ) (x : Noted C) (xs : Book C) → k + length (if b then x ∷ xs else xs) ≡ more b k + length xs
  first_more true k x xs = sum
    where
      sum : k + length (x ∷ xs) ≡ (k + 1) + length xs
      sum = grind (arith)
  first_more false k x xs = refl

  pub begun_told : (st : State C) (b : Book C) → IsRun m st b → st.begun + begins b ≡ (last m st b).begun
  begun_told st [] run = grind (arith)
  begun_told st (n ∷ ns) run =
      first_more (is_begin n.event) st.begun n (filter (λ x. is_begin x.event) ns)
      ∙ ap (λ (k : ℕ). k + begins ns) (step_moves st n.session (of_session n.session st.live) n.event n.answer refl run.0).begun
      ∙ begun_told (next m st n) ns run.1

  pub ordinals_told : (st : State C) (b : Book C) (s : ℕ) → IsRun m st b → st.ordinals s + begins_of b s ≡ (last m st b).ordinals s
  ordinals_told st [] s run = grind (arith)
  ordinals_told st (n ∷ ns) s run =
      first_more ((n.session == s) && is_begin n.event) (st.ordinals s) n (filter (λ x. (x.session == s) && is_begin x.event) ns)
      ∙ ap (λ (k : ℕ). k + begins_of ns s) ((step_moves st n.session (of_session n.session st.live) n.event n.answer refl run.0).ordinals s)
      ∙ ordinals_told (next m st n) ns s run.1

  pub number_told : (st : State C) (b : Book C) → IsRun m st b → st.number + commits_in b ≡ (last m st b).number
  number_told st [] run = grind (arith)
  number_told st (n ∷ ns) run =
      first_more (is_commit n.event) st.number n (filter (λ x. is_commit x.event) ns)
      ∙ ap (λ (k : ℕ). k + commits_in ns) (step_moves st n.session (of_session n.session st.live) n.event n.answer refl run.0).number
      ∙ number_told (next m st n) ns run.1

-- counts from the opening on
pub from_none : (n k : ℕ) → 0 + n ≡ k → n ≡ k
from_none n k e = grind (arith, e)

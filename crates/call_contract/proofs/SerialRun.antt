-- Every run is serial: what a book says of its commits is what the machine did.
use Rattle.std.proofs.Common.{◌≡◌, ℕ, ◌+◌, Bool, true, false, ◌&&◌, ◌||◌, List, [], ◌∷◌, ◌++◌, take, length, map, Option, Some, None, is_some, nat_lt, nat_le, ◌==◌, refl, sym, ap, ap₂, subst, ◌∙◌, arith, if◌then◌else◌}
use Rattle.std.proofs.lemmas.Bool.Decides.{nat_tests}
use Rattle.lock_resources.specs.declared.request.Request.{Request}
use Rattle.tree_model.specs.declared.reply.Reply.{Reply}
use Rattle.tree_model.specs.Tree.{Tree}
use Rattle.call_contract.specs.declared.events.Event.{Event}
use Rattle.call_contract.specs.declared.events.Event.TheVariants.{Begin, Call, Retry, Fail, Commit, Abort}
use Rattle.call_contract.specs.declared.events.EventAnswer.{EventAnswer}
use Rattle.call_contract.specs.declared.events.EventAnswer.TheVariants as said
use Rattle.call_contract.specs.Calls.{CallMeaning, CallLaws}
use Rattle.call_contract.specs.States.{Waiting, Live, State, of_session, put, others, view, replies, given}
use Rattle.call_contract.specs.Attempts.{granted, stopped_at, waits_with}
use Rattle.call_contract.specs.Waits.{cycle_through}
use Rattle.call_contract.specs.Steps.{Outcome, unless_cycle, settled, attempt, retried, failed, given_up, committed, begun_by, new_live, step_of}
use Rattle.call_contract.specs.SerialRuns.{Committed, serial, all_given}
use Rattle.call_contract.specs.Books.{Book, state_of, next, last, IsAnswer, IsRun, HasValidCalls, called, called_again, open_of, commit_of, commits_after}
use Rattle.call_contract.specs.Sessions.{without_grants}
use Rattle.call_contract.specs.inside.Soundness.{AllSound}
use Rattle.call_contract.proofs.Lists.{found_named}
use Rattle.call_contract.proofs.Replay.{kept_replies}
use Rattle.call_contract.proofs.Steps.{next_sound}

-- ---- what a book tells of live transactions

module _ {C : Type 0} where
  abbrev pub told_option : Option (Live C) → Option (Live C)
  told_option None = None
  told_option (Some t) = Some (without_grants t)

  pub told_found : (s : ℕ) (ts : List (Live C)) → of_session s (map without_grants ts) ≡ told_option (of_session s ts)
  told_found s [] = refl
  told_found s (t ∷ ts) = grind (arith, nat_tests, told_found s ts)

  pub told_put : (t : Live C) (ts : List (Live C)) → put (without_grants t) (map without_grants ts) ≡ map without_grants (put t ts)
  told_put t [] = refl
  told_put t (u ∷ us) = grind (arith, nat_tests, told_put t us)

  pub told_others : (s : ℕ) (ts : List (Live C)) → others s (map without_grants ts) ≡ map without_grants (others s ts)
  told_others s [] = refl
  told_others s (t ∷ ts) = grind (arith, nat_tests, told_others s ts)

-- ---- one list of transactions behind another

module _ {C : Type 0} (m : CallMeaning C) where
  serial_tree_append : (ds es : List (Committed C)) (t : Tree) → (serial m (ds ++ es) t).tree ≡ (serial m es (serial m ds t).tree).tree
  serial_tree_append [] es t = refl
  serial_tree_append (d ∷ ds) es t = serial_tree_append ds es (view m d.calls t)

  serial_replies_append : (ds es : List (Committed C)) (t : Tree) → (serial m (ds ++ es) t).replies ≡ (serial m ds t).replies ++ (serial m es (serial m ds t).tree).replies
  serial_replies_append [] es t = refl
  serial_replies_append (d ∷ ds) es t = ap (λ (xs : List (List Reply)). replies m d.calls t ∷ xs) (serial_replies_append ds es (view m d.calls t))

given_append : {C : Type 0} (ds es : List (Committed C)) → all_given (ds ++ es) ≡ all_given ds ++ all_given es
given_append [] es = refl
given_append (d ∷ ds) es = ap (λ (xs : List (List Reply)). given d.calls ∷ xs) (given_append ds es)

-- ---- the entries tell who is live

module _ {C : Type 0} (m : CallMeaning C) where
  -- a test before a step
  if_not : (st : State C) (b : Bool) (o : Outcome C) (a : EventAnswer) (ts : List (Live C)) → IsAnswer a (if b then None else Some o)
      → (a ≡ o.answer → ts ≡ map without_grants o.state.live) → ts ≡ map without_grants (state_of st (if b then None else Some o)).live
  if_not st true o a ts e h = absurd e
  if_not st false o a ts e h = h e

  if_so : (st : State C) (b : Bool) (o : Outcome C) (a : EventAnswer) (ts : List (Live C)) → IsAnswer a (if b then Some o else None)
      → ts ≡ map without_grants o.state.live → ts ≡ map without_grants (state_of st (if b then Some o else None)).live
  if_so st true o a ts e h = h
  if_so st false o a ts e h = absurd e

  called_matches : (st : State C) (t : Live C) (c : C) (a : EventAnswer) → a ≡ (attempt m st t c).answer → called (without_grants t) c a (map without_grants st.live) ≡ map without_grants (attempt m st t c).state.live
  called_matches st t c a e = subst (λ (x : EventAnswer). called (without_grants t) c x (map without_grants st.live) ≡ map without_grants (attempt m st t c).state.live) (sym e) (go (stopped_at m st t c))
    where
      cycled : (g : Request) (r : Option (List ℕ)) → called (without_grants t) c (unless_cycle st (waits_with m st t c g) t.session g r).answer (map without_grants st.live)
          ≡ map without_grants (unless_cycle st (waits_with m st t c g) t.session g r).state.live
      cycled g None = told_put (record t { grants = t.grants ++ granted m st t c; waits = Some (record { call = c; request = g }) }) st.live
      cycled g (Some members) = told_others t.session st.live

      go : (o : Option Request) → called (without_grants t) c (settled m st t c o).answer (map without_grants st.live) ≡ map without_grants (settled m st t c o).state.live
      go None = told_put (record t { calls = t.calls ++ record { call = c; reply = m.reply c (view m t.calls st.tree) } ∷ []; grants = t.grants ++ granted m st t c; waits = None }) st.live
      go (Some g) = cycled g (cycle_through (waits_with m st t c g).live t.session)

  again_matches : (st : State C) (t : Live C) (w : Option (Waiting C)) (a : EventAnswer) → IsAnswer a (retried m st t w) → called_again (without_grants t) w a (map without_grants st.live) ≡ map without_grants (state_of st (retried m st t w)).live
  again_matches st t None a e = absurd e
  again_matches st t (Some w) a e = called_matches st t w.call a e

  given_up_matches : (st : State C) (t : Live C) (c : Option C) (w : Option (Waiting C)) (k : ℕ) (f : Option ℕ) (a : EventAnswer) → IsAnswer a (given_up m st t c w k f)
      → put (record { session = t.session; ordinal = t.ordinal; calls = t.calls; grants = []; waits = None }) (map without_grants st.live) ≡ map without_grants (state_of st (given_up m st t c w k f)).live
  given_up_matches st t (Some c) None k f a e = if_so st ((is_some f || nat_lt 0 k) && nat_le k (length (granted m st t c))) (failed m st t c k) a _ e
      (told_put (record t { grants = t.grants ++ take k (granted m st t c); waits = None }) st.live)
  given_up_matches st t None (Some w) k f a e = if_so st (nat_le k (length (granted m st t w.call))) (failed m st t w.call k) a _ e
      (told_put (record t { grants = t.grants ++ take k (granted m st t w.call); waits = None }) st.live)
  given_up_matches st t (Some c) (Some w) k f a e = absurd e
  given_up_matches st t None None k f a e = absurd e

  pub open_matches : (st : State C) (s : ℕ) (o : Option (Live C)) (e : Event C) (a : EventAnswer) → of_session s st.live ≡ o → IsAnswer a (step_of m st s o e)
      → open_of s (told_option o) e a (map without_grants st.live) ≡ map without_grants (state_of st (step_of m st s o e)).live
  open_matches st s None Begin a found e = if_not st (st.opening + st.begun == st.limit) (record { state = begun_by st s; answer = said.Number (st.ordinals s + 1) }) a _ e
      (λ is. subst (λ (x : EventAnswer). open_of s None Begin x (map without_grants st.live) ≡ map without_grants (begun_by st s).live) (sym is) (told_put (new_live s (st.ordinals s + 1)) st.live))
  open_matches st s None (Call c) a found e = absurd e
  open_matches st s None Retry a found e = absurd e
  open_matches st s None (Fail c k f) a found e = absurd e
  open_matches st s None Commit a found e = absurd e
  open_matches st s None Abort a found e = absurd e
  open_matches st s (Some t) Begin a found e = absurd e
  open_matches st s (Some t) (Call c) a found e = if_not st (is_some t.waits) (attempt m st t c) a _ e (λ is. called_matches st t c a is)
  open_matches st s (Some t) Retry a found e = again_matches st t t.waits a e
  open_matches st s (Some t) (Fail c k f) a found e = given_up_matches st t c t.waits k f a e
  open_matches st s (Some t) Commit a found e = if_not st (is_some t.waits) (record { state = committed m st t; answer = said.Number (st.number + 1) }) a _ e
      (λ is. subst (λ x. others x (map without_grants st.live) ≡ map without_grants (others t.session st.live)) (found_named s st.live t found) (told_others t.session st.live))
  open_matches st s (Some t) Abort a found e = told_others s st.live

  -- ---- only a commit changes the committed tree

  same_if : (st : State C) (b : Bool) (o : Outcome C) → o.state.tree ≡ st.tree → st.tree ≡ (state_of st (if b then None else Some o)).tree
  same_if st true o e = refl
  same_if st false o e = sym e

  same_where : (st : State C) (b : Bool) (o : Outcome C) → o.state.tree ≡ st.tree → st.tree ≡ (state_of st (if b then Some o else None)).tree
  same_where st true o e = sym e
  same_where st false o e = refl

  same_attempt : (st : State C) (t : Live C) (c : C) → (attempt m st t c).state.tree ≡ st.tree
  same_attempt st t c = go (stopped_at m st t c)
    where
      cycled : (g : Request) (r : Option (List ℕ)) → (unless_cycle st (waits_with m st t c g) t.session g r).state.tree ≡ st.tree
      cycled g None = refl
      cycled g (Some members) = refl

      go : (o : Option Request) → (settled m st t c o).state.tree ≡ st.tree
      go None = refl
      go (Some g) = cycled g (cycle_through (waits_with m st t c g).live t.session)

  same_retried : (st : State C) (t : Live C) (w : Option (Waiting C)) → st.tree ≡ (state_of st (retried m st t w)).tree
  same_retried st t None = refl
  same_retried st t (Some w) = sym (same_attempt st t w.call)

  same_given_up : (st : State C) (t : Live C) (c : Option C) (w : Option (Waiting C)) (k : ℕ) (f : Option ℕ) → st.tree ≡ (state_of st (given_up m st t c w k f)).tree
  same_given_up st t (Some c) None k f = same_where st ((is_some f || nat_lt 0 k) && nat_le k (length (granted m st t c))) (failed m st t c k) refl
  same_given_up st t None (Some w) k f = same_where st (nat_le k (length (granted m st t w.call))) (failed m st t w.call k) refl
  same_given_up st t (Some c) (Some w) k f = refl
  same_given_up st t None None k f = refl

  committed_if : (st : State C) (b : Bool) (o : Outcome C) (a : EventAnswer) → IsAnswer a (if b then None else Some o) → o.state.tree ≡ (state_of st (if b then None else Some o)).tree
  committed_if st true o a e = absurd e
  committed_if st false o a e = refl

-- ---- the run

module _ {C : Type 0} (is_valid : C → Type 0) (m : CallMeaning C) (laws : CallLaws C is_valid m) where
  -- what an entry adds to the serial run
  record Adds (st : State C) (ds : List (Committed C)) (after : State C) : Type 0 where
    replies : (serial m ds st.tree).replies ≡ all_given ds
    tree : (serial m ds st.tree).tree ≡ after.tree

  commit_matches : (st : State C) (s : ℕ) (o : Option (Live C)) (e : Event C) (a : EventAnswer) → AllSound is_valid m st.tree st.live → of_session s st.live ≡ o → IsAnswer a (step_of m st s o e)
      → Adds st (commit_of (told_option o) e) (state_of st (step_of m st s o e))
  commit_matches st s None Begin a all found is = record { replies = refl; tree = same_if m st (st.opening + st.begun == st.limit) (record { state = begun_by st s; answer = said.Number (st.ordinals s + 1) }) refl }
  commit_matches st s None (Call c) a all found is = absurd is
  commit_matches st s None Retry a all found is = absurd is
  commit_matches st s None (Fail c k f) a all found is = absurd is
  commit_matches st s None Commit a all found is = absurd is
  commit_matches st s None Abort a all found is = absurd is
  commit_matches st s (Some t) Begin a all found is = absurd is
  commit_matches st s (Some t) (Call c) a all found is = record { replies = refl; tree = same_if m st (is_some t.waits) (attempt m st t c) (same_attempt m st t c) }
  commit_matches st s (Some t) Retry a all found is = record { replies = refl; tree = same_retried m st t t.waits }
  commit_matches st s (Some t) (Fail c k f) a all found is = record { replies = refl; tree = same_given_up m st t c t.waits k f }
  commit_matches st s (Some t) Commit a all found is = record {
    replies = ap (λ (xs : List Reply). xs ∷ []) (kept_replies is_valid m t.grants t.calls st.tree (all.each s t found).kept);
    tree = committed_if m st (is_some t.waits) (record { state = committed m st t; answer = said.Number (st.number + 1) }) a is;
  }
  commit_matches st s (Some t) Abort a all found is = record { replies = refl; tree = refl }

  pub run_serial : (st : State C) (book : Book C) → HasValidCalls is_valid book → AllSound is_valid m st.tree st.live → IsRun m st book
      → record {
        replies : (serial m (commits_after (map without_grants st.live) book) st.tree).replies ≡ all_given (commits_after (map without_grants st.live) book);
        tree : (serial m (commits_after (map without_grants st.live) book) st.tree).tree ≡ (last m st book).tree;
      }
  run_serial st [] valid all run = record { replies = refl; tree = refl }
  run_serial st (n ∷ ns) valid all run =
      let o = of_session n.session st.live in
      let ds = commit_of (told_option o) n.event in
      let es = commits_after (map without_grants (next m st n).live) ns in
      let rest = run_serial (next m st n) ns valid.1 (next_sound is_valid m laws st n valid.0 all) run.1 in
      let here = commit_matches st n.session o n.event n.answer all refl run.0 in
      let desk = open_matches m st n.session o n.event n.answer refl run.0 in
      let known : commits_after (map without_grants st.live) (n ∷ ns) ≡ ds ++ es =
      ap (λ (x : Option (Live C)). commit_of x n.event ++ commits_after (open_of n.session x n.event n.answer (map without_grants st.live)) ns) (told_found n.session st.live)
      ∙ ap (λ (x : List (Live C)). ds ++ commits_after x ns) desk in
      record {
        replies = rw known (serial_replies_append m ds es st.tree ∙ ap₂ (λ (x y : List (List Reply)). x ++ y) here.replies (ap (λ (x : Tree). (serial m es x).replies) here.tree ∙ rest.replies) ∙ sym (given_append ds es));
        tree = rw known (serial_tree_append m ds es st.tree ∙ ap (λ (x : Tree). (serial m es x).tree) here.tree ∙ rest.tree);
      }

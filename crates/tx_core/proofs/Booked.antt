-- How an entry moves what a book tells of its sessions.
use Rattle.std.proofs.Common.{◌≡◌, ◌≤◌, ℕ, ◌+◌, Bool, true, false, cond, ◌&&◌, zero, suc, List, [], ◌∷◌, ◌++◌, length, filter, Option, Some, None, ◌==◌, nat_lt, slice_get, refl, sym, ap, ◌∙◌, arith, if◌then◌else◌}
use Rattle.std.proofs.lemmas.Bool.Decides.{nat_tests}
use Rattle.std.proofs.lemmas.Option.{same_Some}
use Rattle.std.specs.List.{AllByRecursion, list_any}
use Rattle.wait_cycles.specs.Walks.{Rises}
use Rattle.call_contract.specs.Books.{Book, open_after, open_of, called, called_again}
use Rattle.call_contract.specs.Sessions.{live_after, begins, begins_of, commits_in, is_begin, is_commit}
use Rattle.call_contract.specs.States.{Live, Waiting, of_session, put, others, sessions, without}
use Rattle.call_contract.specs.declared.events.Answer.TheVariants as answer
use Rattle.call_contract.specs.declared.events.Event.{Event}
use Rattle.call_contract.specs.declared.events.Event.TheVariants.{Begin, Call, Retry, Fail, Commit, Abort}
use Rattle.call_contract.specs.declared.events.EventAnswer.{EventAnswer}
use Rattle.call_contract.specs.declared.events.EventAnswer.TheVariants as said
use Rattle.call_contract.specs.declared.events.Noted.{Noted}
use Rattle.call_contract.proofs.Rising.{rises_put, rises_others}
use Rattle.tx_core.specs.Queues.{times}
use Rattle.tx_core.specs.inside.Sessions.{HasCallAt, IsWait, IsToldSeat}

-- ---- lists

pub times_without : (s o : ℕ) (xs : List ℕ) → times o (without s xs) ≡ cond (s == o) 0 (times o xs)
times_without s o [] = go (s == o)
  where
    go : (b : Bool) → ◌≡◌ {A = ℕ} 0 (cond b 0 0)
    go true = refl
    go false = refl
times_without s o (x ∷ xs) = grind (arith, nat_tests, times_without s o xs)

pub times_behind : (s o : ℕ) (xs : List ℕ) → times o (xs ++ s ∷ []) ≡ times o xs + (if s == o then 1 else 0)
times_behind s o [] = go (s == o)
  where
    go : (b : Bool) → (if b then 0 + 1 else 0) ≡ 0 + (if b then 1 else 0)
    go true = refl
    go false = refl
times_behind s o (x ∷ xs) = go (x == o) (times_behind s o xs)
  where
    go : (b : Bool) → times o (xs ++ s ∷ []) ≡ times o xs + (if s == o then 1 else 0) → (if b then times o (xs ++ s ∷ []) + 1 else times o (xs ++ s ∷ [])) ≡ (if b then times o xs + 1 else times o xs) + (if s == o then 1 else 0)
    go true e = omega (arith, e)
    go false e = e

pub times_within : (s : ℕ) (xs : List ℕ) → times s xs ≤ length xs
times_within s [] = omega (arith)
times_within s (x ∷ xs) = go (x == s) (times_within s xs)
  where
    go : (b : Bool) → times s xs ≤ length xs → (if b then times s xs + 1 else times s xs) ≤ length (x ∷ xs)
    go true e = omega (arith, e)
    go false e = omega (arith, e)

pub length_without : (s : ℕ) (xs : List ℕ) → length (without s xs) ≤ length xs
length_without s [] = omega (arith)
length_without s (x ∷ xs) = go (x == s) (length_without s xs)
  where
    go : (b : Bool) → length (without s xs) ≤ length xs → length (if Rattle.std.specs.Prelude.not b then x ∷ without s xs else without s xs) ≤ length (x ∷ xs)
    go true e = omega (arith, e)
    go false e = omega (arith, e)

pub longer : {A : Type 0} (xs : List A) (x : A) → length (xs ++ x ∷ []) ≡ length xs + 1
longer [] x = omega (arith)
longer (y ∷ ys) x = omega (arith, longer ys x)

pub at_end : {A : Type 0} (xs : List A) (x : A) → slice_get (xs ++ x ∷ []) (length xs) ≡ Some x
at_end [] x = refl
at_end (y ∷ ys) x = at_end ys x

pub at_front : {A : Type 0} (xs ys : List A) (i : ℕ) (x : A) → slice_get xs i ≡ Some x → slice_get (xs ++ ys) i ≡ Some x
at_front [] ys i x e = absurd_of e
  where
    absurd_of : None ≡ Some x → slice_get ys i ≡ Some x
    absurd_of e = cc
at_front (z ∷ zs) ys zero x e = e
at_front (z ∷ zs) ys (suc i) x e = at_front zs ys i x e

-- ---- a book's live transactions

module _ {C : Type 0} where
  called_rises : (t : Live C) (c : C) (given : EventAnswer) (ts : List (Live C)) → Rises (sessions ts) → Rises (sessions (called t c given ts))
  called_rises t c (said.Call (answer.Answered r)) ts rise = rises_put _ ts rise
  called_rises t c (said.Call (answer.Waits r a holders)) ts rise = rises_put _ ts rise
  called_rises t c (said.Call (answer.Deadlock cycle)) ts rise = rises_others t.session ts rise
  called_rises t c said.Nothing ts rise = rise
  called_rises t c (said.Number k) ts rise = rise

  again_rises : (t : Live C) (w : Option (Waiting C)) (given : EventAnswer) (ts : List (Live C)) → Rises (sessions ts) → Rises (sessions (called_again t w given ts))
  again_rises t None given ts rise = rise
  again_rises t (Some w) given ts rise = called_rises t w.call given ts rise

  open_rises : (s : ℕ) (o : Option (Live C)) (e : Event C) (given : EventAnswer) (ts : List (Live C)) → Rises (sessions ts) → Rises (sessions (open_of s o e given ts))
  open_rises s None Begin given ts rise = rises_put _ ts rise
  open_rises s None (Call c) given ts rise = rise
  open_rises s None Retry given ts rise = rise
  open_rises s None (Fail c k f) given ts rise = rise
  open_rises s None Commit given ts rise = rise
  open_rises s None Abort given ts rise = rise
  open_rises s (Some t) Begin given ts rise = rise
  open_rises s (Some t) (Call c) given ts rise = called_rises t c given ts rise
  open_rises s (Some t) Retry given ts rise = again_rises t t.waits given ts rise
  open_rises s (Some t) (Fail c k f) given ts rise = rises_put _ ts rise
  open_rises s (Some t) Commit given ts rise = rises_others s ts rise
  open_rises s (Some t) Abort given ts rise = rises_others s ts rise

  pub live_rises : (ts : List (Live C)) (b : Book C) → Rises (sessions ts) → Rises (sessions (live_after ts b))
  live_rises ts [] rise = rise
  live_rises ts (n ∷ ns) rise = live_rises (open_after ts n) ns (open_rises n.session (of_session n.session ts) n.event n.answer ts rise)

  not_above : (c s : ℕ) (ts : List (Live C)) → AllByRecursion (λ d. nat_lt c d ≡ true) (sessions ts) → nat_lt c s ≡ false → of_session s ts ≡ None
  not_above c s [] all less = refl
  not_above c s (t ∷ ts) all less = go (t.session == s) refl (not_above c s ts all.1 less)
    where
      go : (b : Bool) → (t.session == s) ≡ b → of_session s ts ≡ None → (if b then Some t else of_session s ts) ≡ None
      go true e rest = absurd (apart e)
        where
          apart : (t.session == s) ≡ true → ⊥
          apart e = grind (arith, nat_tests, e, all.0, less)
      go false e rest = rest

  others_none : (s : ℕ) (ts : List (Live C)) → of_session s ts ≡ None → others s ts ≡ ts
  others_none s [] e = refl
  others_none s (t ∷ ts) e = go (t.session == s) e (others_none s ts)
    where
      go : (b : Bool) → (if b then Some t else of_session s ts) ≡ None → (of_session s ts ≡ None → others s ts ≡ ts) → (if b then others s ts else t ∷ others s ts) ≡ t ∷ ts
      go true e h = cc
      go false e h = ap (λ xs. t ∷ xs) (h e)

  pub length_put_new : (t : Live C) (ts : List (Live C)) → of_session t.session ts ≡ None → length (put t ts) ≡ length ts + 1
  length_put_new t [] e = grind (arith)
  length_put_new t (u ∷ us) e = go (u.session == t.session) (nat_lt t.session u.session) e (length_put_new t us)
    where
      go : (a b : Bool) → (if a then Some u else of_session t.session us) ≡ None → (of_session t.session us ≡ None → length (put t us) ≡ length us + 1)
          → length (if a then t ∷ us else if b then t ∷ u ∷ us else u ∷ put t us) ≡ length (u ∷ us) + 1
      go true b e h = cc
      go false true e h = grind (arith)
      go false false e h = grind (arith, h e)

  pub length_put_old : (t : Live C) (ts : List (Live C)) (u : Live C) → Rises (sessions ts) → of_session t.session ts ≡ Some u → length (put t ts) ≡ length ts
  length_put_old t [] u rise e = cc
  length_put_old t (v ∷ vs) u rise e = go (v.session == t.session) refl (nat_lt t.session v.session) refl e (length_put_old t vs u rise.1)
    where
      go : (a : Bool) → (v.session == t.session) ≡ a → (b : Bool) → nat_lt t.session v.session ≡ b → (if a then Some v else of_session t.session vs) ≡ Some u
          → (of_session t.session vs ≡ Some u → length (put t vs) ≡ length vs) → length (if a then t ∷ vs else if b then t ∷ v ∷ vs else v ∷ put t vs) ≡ length (v ∷ vs)
      go true at b less e h = refl
      go false at true less e h = absurd (apart (not_above v.session t.session vs rise.0 (behind less)) e)
        where
          behind : nat_lt t.session v.session ≡ true → nat_lt v.session t.session ≡ false
          behind less = grind (arith, nat_tests, less)

          apart : of_session t.session vs ≡ None → of_session t.session vs ≡ Some u → ⊥
          apart x y = cc
      go false at false less e h = grind (arith, h e)

  -- a transaction is put in its own place
  pub put_same : (t : Live C) (ts : List (Live C)) → Rises (sessions ts) → of_session t.session ts ≡ Some t → put t ts ≡ ts
  put_same t [] rise e = cc
  put_same t (v ∷ vs) rise e = go (v.session == t.session) refl (nat_lt t.session v.session) refl e (put_same t vs rise.1)
    where
      go : (a : Bool) → (v.session == t.session) ≡ a → (b : Bool) → nat_lt t.session v.session ≡ b → (if a then Some v else of_session t.session vs) ≡ Some t
          → (of_session t.session vs ≡ Some t → put t vs ≡ vs) → (if a then t ∷ vs else if b then t ∷ v ∷ vs else v ∷ put t vs) ≡ v ∷ vs
      go true at b less e h = ap (λ (x : Live C). x ∷ vs) (sym (same_Some v t e))
      go false at true less e h = absurd (apart (not_above v.session t.session vs rise.0 (behind less)) e)
        where
          behind : nat_lt t.session v.session ≡ true → nat_lt v.session t.session ≡ false
          behind less = grind (arith, nat_tests, less)

          apart : of_session t.session vs ≡ None → of_session t.session vs ≡ Some t → ⊥
          apart x y = cc
      go false at false less e h = ap (λ (xs : List (Live C)). v ∷ xs) (h e)

  pub length_others : (s : ℕ) (ts : List (Live C)) (u : Live C) → Rises (sessions ts) → of_session s ts ≡ Some u → length (others s ts) + 1 ≡ length ts
  length_others s [] u rise e = cc
  length_others s (v ∷ vs) u rise e = go (v.session == s) refl e (length_others s vs u rise.1)
    where
      go : (a : Bool) → (v.session == s) ≡ a → (if a then Some v else of_session s vs) ≡ Some u → (of_session s vs ≡ Some u → length (others s vs) + 1 ≡ length vs)
          → length (if a then others s vs else v ∷ others s vs) + 1 ≡ length (v ∷ vs)
      go true at e h = ap (λ (xs : List (Live C)). length xs + 1) (others_none s vs (not_above v.session s vs rise.0 (same at))) ∙ sum
        where
          same : (v.session == s) ≡ true → nat_lt v.session s ≡ false
          same at = grind (arith, nat_tests, at)

          sum : length vs + 1 ≡ length (v ∷ vs)
          sum = grind (arith)
      go false at e h = sum (h e)
        where
          sum : length (others s vs) + 1 ≡ length vs → length (v ∷ others s vs) + 1 ≡ length (v ∷ vs)
          sum e = grind (arith, e)

  -- ---- what is told of a seat stays where the book goes on

  pub call_stays : (b d : Book C) (i : ℕ) (c : C) → HasCallAt b i c → HasCallAt (b ++ d) i c
  call_stays b d i c is = record { entry = is.entry; there = at_front b d i is.entry is.there; call = is.call }

  pub told_stays : (b d : Book C) (w : Option (Option ℕ)) (t : Option (Live C)) → IsToldSeat b w t → IsToldSeat (b ++ d) w t
  told_stays b d None None is = tt
  told_stays b d None (Some t) is = absurd is
  told_stays b d (Some w) None is = absurd is
  told_stays b d (Some w) (Some t) is = go w t.waits is
    where
      go : (x : Option ℕ) (y : Option (Waiting C)) → IsWait b x y → IsWait (b ++ d) x y
      go None None is = tt
      go None (Some y) is = absurd is
      go (Some i) None is = absurd is
      go (Some i) (Some y) is = call_stays b d i y.call is

  -- ---- one entry's counts

  count_none : (b : Bool) (n : Noted C) → b ≡ false → length (if b then n ∷ [] else []) ≡ 0
  count_none true n e = grind (arith, e)
  count_none false n e = refl

  count_one : (b : Bool) (n : Noted C) → b ≡ true → length (if b then n ∷ [] else []) ≡ 1
  count_one true n e = refl
  count_one false n e = grind (arith, e)

  pub no_begin : (n : Noted C) → is_begin n.event ≡ false → begins (n ∷ []) ≡ 0
  no_begin n e = count_none (is_begin n.event) n e

  pub no_begin_of : (n : Noted C) (o : ℕ) → is_begin n.event ≡ false → begins_of (n ∷ []) o ≡ 0
  no_begin_of n o e = count_none ((n.session == o) && is_begin n.event) n (go (n.session == o) (is_begin n.event) e)
    where
      go : (a b : Bool) → b ≡ false → (a && b) ≡ false
      go true b e = e
      go false b e = refl

  pub no_commit : (n : Noted C) → is_commit n.event ≡ false → commits_in (n ∷ []) ≡ 0
  no_commit n e = count_none (is_commit n.event) n e

  -- one session begins no more than all do
  pub begins_of_all : (b : Book C) (s : ℕ) → begins_of b s ≤ begins b
  begins_of_all [] s = omega (arith)
  begins_of_all (n ∷ ns) s = go (n.session == s) (is_begin n.event) (begins_of_all ns s)
    where
      go : (x y : Bool) → begins_of ns s ≤ begins ns
          → length (if x && y then n ∷ filter (λ k. (k.session == s) && is_begin k.event) ns else filter (λ k. (k.session == s) && is_begin k.event) ns)
          ≤ length (if y then n ∷ filter (λ k. is_begin k.event) ns else filter (λ k. is_begin k.event) ns)
      go true true e = omega (arith, e)
      go true false e = e
      go false true e = omega (arith, e)
      go false false e = e

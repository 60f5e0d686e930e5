-- Members after their calls, and numbers that were given away and came back.
use Rattle.std.proofs.Common.{◌≡◌, ◌≢◌, ℕ, ◌<◌, ◌≤◌, ◌+◌, Bool, true, false, List, Result, sym, refl, ap, ◌∙◌, arith}
use Rattle.std.specs.Prelude.{slice_set}
use mathlib.Core.Logic.{dite}
use native.Mathlib.Decide.{ℕ_discrete}
use Rattle.turn_lock.specs.Turns.{HasAll, has_number, merged, only_number}
use Rattle.turn_lock.proofs.Numbers.{merged_at, or_left, or_right, still_there, there_alone}
use Rattle.shared_store.specs.Sessions.{having_seen, SessionView}
use Rattle.shared_store.specs.declared.errors.StoreError.{StoreError}
use Rattle.group_commit.specs.Members.{GroupView, HasMadeDurable, IsOf, MarksPass, MemberView}
use Rattle.group_callers.specs.Members.{HasGiven, HasSeenMore, HasTaken}
use Rattle.group_tests.specs.Members.{HasComeBack}

-- ---- numbers

-- what was there is there again once the number that was taken out comes back
come_back : (has cut rest after : List Bool) (k n : ℕ) → k < 65 → cut ≡ slice_set has k false → after ≡ merged rest (only_number k) → ((n : ℕ) → has_number cut n ≡ true → has_number rest n ≡ true) → has_number has n ≡ true → has_number after n ≡ true
come_back has cut rest after k n l out is back there =
    ap (λ (h : List Bool). has_number h n) is ∙ (merged_at rest (only_number k) n ∙ dite (ℕ_discrete n k)
    (λ e. or_right (has_number rest n) (has_number (only_number k) n) (ap (has_number (only_number k)) e ∙ there_alone k l))
    (λ ne. or_left (has_number rest n) (has_number (only_number k) n) (back n (ap (λ (b : List Bool). has_number b n) out ∙ still_there has k n ne there))))

-- all up to k are there, and those below it are once k is taken out
pub below_stay : (has cut : List Bool) (k m : ℕ) → k ≡ m + 1 → cut ≡ slice_set has k false → ((n : ℕ) → 0 < n → n ≤ k → has_number has n ≡ true) → (n : ℕ) → 0 < n → n ≤ m → has_number cut n ≡ true
below_stay has cut k m one out every n some l = ap (λ (b : List Bool). has_number b n) out ∙ still_there has k n (other n k m one l) (every n some (up n k m one l))
  where
    other : (n k m : ℕ) → k ≡ m + 1 → n ≤ m → n ≢ k
    other n k m one l e = omega (arith, one, l, e)

    up : (n k m : ℕ) → k ≡ m + 1 → n ≤ m → n ≤ k
    up n k m one l = omega (arith, one, l)

module _ {C B : Type 0} where
  pub unchanged : (v : MemberView C B) → HasSeenMore v v
  unchanged v = record { session = refl; pass = refl }

  -- asking for durable commits shows more of the journal's list
  pub asked : (v w : MemberView C B) (r : Result (Unit {0}) StoreError) → HasMadeDurable v w r → HasSeenMore v w
  asked v w r is = record { session = is.session ∙ ap (λ (s : SessionView C B). having_seen s.seen v.session) (sym is.session); pass = is.same }

  pub same_numbers : (v w : MemberView C B) → HasSeenMore v w → HasComeBack v w
  same_numbers v w is = record {
    store = ap (λ (x : SessionView C B). x.lock) is.session;
    lock = ap (λ (x : MarksPass C B). x.lock) is.pass;
    under = ap (λ (x : SessionView C B). x.under) is.session;
    session = λ n own. ap (λ (x : SessionView C B). has_number x.has n) is.session ∙ own;
    pass = λ n own. ap (λ (x : MarksPass C B). has_number x.has n) is.pass ∙ own;
  }

  -- a number was given to g, x is what became of the rest, y what became of g, and z is x joined with y
  pub came_back : (k : ℕ) (v w g x y z : MemberView C B) → k < 65 → HasGiven k v w g → HasComeBack w x → HasSeenMore g y → HasTaken x y z → HasComeBack v z
  came_back k v w g x y z small gave back more took = record {
    store = took.store ∙ (back.store ∙ gave.store.0);
    lock = took.lock ∙ (back.lock ∙ gave.lock.0);
    under = took.under ∙ (back.under ∙ gave.under.0);
    session = λ n own.
        let other : y.session.has ≡ only_number k = ap (λ (s : SessionView C B). s.has) more.session ∙ gave.session.1 in
        come_back v.session.has w.session.has x.session.has z.session.has k n small gave.session.0 (took.session ∙ ap (merged x.session.has) other) back.session own;
    pass = λ n own.
        let other : y.pass.has ≡ only_number k = ap (λ (p : MarksPass C B). p.has) more.pass ∙ gave.pass.1 in
        come_back v.pass.has w.pass.has x.pass.has z.pass.has k n small gave.pass.0 (took.pass ∙ ap (merged x.pass.has) other) back.pass own;
  }

  pub back_again : (v w x : MemberView C B) → HasComeBack v w → HasComeBack w x → HasComeBack v x
  back_again v w x one two = record {
    store = two.store ∙ one.store;
    lock = two.lock ∙ one.lock;
    under = two.under ∙ one.under;
    session = λ n own. two.session n (one.session n own);
    pass = λ n own. two.pass n (one.pass n own);
  }

module _ {C B : Type 0} (group : GroupView) (v w : MemberView C B) (back : HasComeBack v w) where
  -- a member that came back belongs to the same group commit, and closes it where it could before
  pub back_of : IsOf group v → IsOf group w
  back_of of = (back.store ∙ of.0, back.lock ∙ of.1)

  pub numbers_of : ((n : ℕ) → 0 < n → n < 65 → has_number v.session.has n ≡ true) → (n : ℕ) → 0 < n → n < 65 → has_number w.session.has n ≡ true
  numbers_of own n some l = back.session n (own n some l)

  pub all_of : HasAll v.pass.has → HasAll w.pass.has
  all_of own n l = back.pass n (own n l)

-- Two members were cut off, did something, and were taken back.
use Rattle.std.proofs.Common.{◌≡◌, ◌≢◌, ℕ, ◌+◌, ◌<◌, Bool, true, false, List, Result, sym, ap, ap₂, ◌∙◌, subst, lit<, arith}
use Rattle.std.specs.Prelude.{slice_set}
use Rattle.turn_lock.specs.Turns.{HasAll, has_number, merged, only_number}
use Rattle.turn_lock.proofs.Numbers.{still_there}
use Rattle.shared_store.specs.Sessions.{SessionView}
use Rattle.shared_store.specs.declared.errors.StoreError.{StoreError}
use Rattle.group_commit.specs.Members.{GroupView, IsOf, MarksPass, MemberView}
use Rattle.group_callers.specs.Members.{HasGiven, HasSeenDurable, HasSeenMore, HasTaken, IsDone, OpensEmpty}
use Rattle.group_callers.proofs.Members.{both_back, durable_on, opens_on}

module _ {C B : Type 0} (group : GroupView) (v w : MemberView C B) where
  -- what was given belongs to the same group commit, and what is left too
  pub given_of : (k : ℕ) (x : MemberView C B) → HasGiven k v w x → IsOf group v → IsOf group x
  given_of k x gave of = (gave.store.1 ∙ of.0, gave.lock.1 ∙ of.1)

  pub left_of : (k : ℕ) (x : MemberView C B) → HasGiven k v w x → IsOf group v → IsOf group w
  left_of k x gave of = (gave.store.0 ∙ of.0, gave.lock.0 ∙ of.1)

  pub more_of : HasSeenMore v w → IsOf group v → IsOf group w
  more_of more of = (ap (λ (s : SessionView C B). s.lock) more.session ∙ of.0, ap (λ (p : MarksPass C B). p.lock) more.pass ∙ of.1)

  -- a member that works under a number may commit
  pub may_commit : (k : ℕ) → IsOf group v → v.session.under ≡ k + 1 → IsOf group v × (v.session.under ≢ 0)
  may_commit k of under = (of, λ e. omega (arith, e, under))

  pub took_of : (x : MemberView C B) → HasTaken v x w → IsOf group v → IsOf group w
  took_of x took of = (took.store ∙ of.0, took.lock ∙ of.1)

  pub other_number : (k n : ℕ) (x : MemberView C B) → HasGiven k v w x → n ≢ k → has_number v.session.has n ≡ true → has_number w.session.has n ≡ true
  other_number k n x gave other own = ap (λ (h : List Bool). has_number h n) gave.session.0 ∙ still_there v.session.has k n other own

module _ {C B : Type 0} (v0 v1 v2 a b c d v3 v4 : MemberView C B) (r s : Result ℕ StoreError) (one : HasGiven 1 v0 v1 a) (two : HasGiven 2 v1 v2 b) (first : IsDone a c r) (second : IsDone b d s) (took : HasTaken v2 c v3) (took_other : HasTaken v3 d v4) where
  pub numbers_back : ((n : ℕ) → 0 < n → n < 65 → has_number v0.session.has n ≡ true) → (n : ℕ) → 0 < n → n < 65 → has_number v4.session.has n ≡ true
  numbers_back own n some l =
      let cut : v2.session.has ≡ slice_set (slice_set v0.session.has 1 false) 2 false = two.session.0 ∙ ap (λ (h : List Bool). slice_set h 2 false) one.session.0 in
      let mine : c.session.has ≡ only_number 1 = ap (λ (x : SessionView C B). x.has) first.more.session ∙ one.session.1 in
      let others : d.session.has ≡ only_number 2 = ap (λ (x : SessionView C B). x.has) second.more.session ∙ two.session.1 in
      ap (λ (h : List Bool). has_number h n) (took_other.session ∙ ap₂ merged (took.session ∙ ap₂ merged cut mine) others) ∙ both_back v0.session.has 1 2 n (lit< tt) (lit< tt) (own n some l)

  pub all_back : HasAll v0.pass.has → HasAll v4.pass.has
  all_back own n l =
      let cut : v2.pass.has ≡ slice_set (slice_set v0.pass.has 1 false) 2 false = two.pass.0 ∙ ap (λ (h : List Bool). slice_set h 2 false) one.pass.0 in
      let mine : c.pass.has ≡ only_number 1 = ap (λ (x : MarksPass C B). x.has) first.more.pass ∙ one.pass.1 in
      let others : d.pass.has ≡ only_number 2 = ap (λ (x : MarksPass C B). x.has) second.more.pass ∙ two.pass.1 in
      ap (λ (h : List Bool). has_number h n) (took_other.pass ∙ ap₂ merged (took.pass ∙ ap₂ merged cut mine) others) ∙ both_back v0.pass.has 1 2 n (lit< tt) (lit< tt) (own n l)

  pub still_opens : OpensEmpty v0.pass.seen → OpensEmpty v4.pass.seen
  still_opens opens = opens_on v3 v4 took_other.own (opens_on v2 v3 took.own (subst OpensEmpty (sym (two.seen ∙ one.seen)) opens))

  pub first_durable : HasSeenDurable v4 r
  first_durable = durable_on v3 v4 r took_other.own (durable_on c v3 r took.others first.durable)

  pub second_durable : HasSeenDurable v4 s
  second_durable = durable_on d v4 s took_other.others second.durable

-- Ports are split off one after another.
use Rattle.std.proofs.Common.{◌≡◌, ◌≢◌, ◌∙◌, ◌==◌, ◌<◌, ◌≤◌, ◌⊎◌, ◌+◌, ℕ, zero, suc, Bool, true, false, cond, refl, sym, ap, subst, arith, List, [], ◌∷◌, ◌++◌, length, take, true≢false, inl, inr, get_or-set_other, length-append}
use Rattle.std.specs.Prelude.{Option, filter, is_some, slice_set, slice_index_or}
use Rattle.std.specs.Cmp.{unsigned_Decides}
use Rattle.std.specs.List.{AllByRecursion}
use mathlib.Core.Logic.{dite}
use native.Mathlib.Decide.{ℕ_discrete}
use Rattle.tree_model.specs.Entries.{Entries}
use Rattle.call_contract.specs.Calls.{CallMeaning}
use Rattle.command_lines.specs.declared.command.Command.{Command}
use Rattle.command_lines.specs.declared.command.StoreCall.{StoreCall}
use Rattle.turn_lock.specs.Turns.{has_number, only_number}
use Rattle.turn_lock.proofs.Numbers.{bool_cases, taken_out, still_there}
use Rattle.shared_store.specs.Sessions.{SessionView}
use Rattle.group_commit.specs.Marks.{opening_in}
use Rattle.group_commit.specs.Members.{GroupView, IsOf, MemberView, without_number}
use Rattle.worker_run.specs.Workers.{ports_of}
use Rattle.group_commit.specs.StorePorts.{IsSessionNumber, PortView, store_ports}
use Rattle.group_commit.specs.inside.Joining.{HasGivenAway, IsFirst, IsFresh, IsServed, SplitSoFar, fresh_port, having_numbers}
use Rattle.group_commit.specs.inside.PortLaws.{all_append}
use Rattle.group_commit.proofs.Lines.{same_number}

pub not_same : (a b : ℕ) → a ≢ b → (a == b) ≡ false
not_same a b ne = go (a == b) refl
  where
    go : (x : Bool) → (a == b) ≡ x → (a == b) ≡ false
    go false e = e
    go true e = absurd (ne ((unsigned_Decides a b).0 e))

all_map : {X : Type 0} (P Q : X → Type 0) (xs : List X) → ((x : X) → P x → Q x) → AllByRecursion P xs → AllByRecursion Q xs
all_map P Q [] on a = tt
all_map P Q (x ∷ xs) on a = (on x a.0, all_map P Q xs on a.1)

pub take_one_more : {X : Type 0} (xs : List X) (i : ℕ) (x : X) → i < length xs → x ≡ slice_index_or xs i x → take (i + 1) xs ≡ take i xs ++ x ∷ []
take_one_more [] i x lt at = absurd (omega arith)
take_one_more (y ∷ ys) zero x lt at = ap (λ z. z ∷ []) (sym at)
take_one_more (y ∷ ys) (suc i) x lt at =
    let e : suc i + 1 ≡ suc (i + 1) = omega arith in
    ap (λ (k : ℕ). take k (y ∷ ys)) e ∙ ap (λ zs. y ∷ zs) (take_one_more ys i x (omega arith) at)

-- what holds of each line holds of this one
pub at_line : {X : Type 0} (P : X → Type 0) (xs : List X) (i : ℕ) (x : X) → i < length xs → x ≡ slice_index_or xs i x → AllByRecursion P xs → P x
at_line P [] i x lt at a = absurd (omega arith)
at_line P (y ∷ ys) zero x lt at a = subst P (sym at) a.0
at_line P (y ∷ ys) (suc i) x lt at a = at_line P ys i x (omega arith) at a.1

gone : (b : List Bool) (k : ℕ) → has_number (slice_set b k false) k ≡ false
gone [] zero = refl
gone [] (suc k) = refl
gone (x ∷ xs) zero = refl
gone (x ∷ xs) (suc k) = gone xs k

zero_apart : (s : ℕ) → 0 < s → 0 ≢ s
zero_apart s less is = let e = is in omega (arith, less, e)

filter_append : {X : Type 0} (f : X → Bool) (xs ys : List X) → filter f (xs ++ ys) ≡ filter f xs ++ filter f ys
filter_append f [] ys = refl
filter_append f (x ∷ xs) ys = go (f x) (filter_append f xs ys)
  where
    go : (b : Bool) → filter f (xs ++ ys) ≡ filter f xs ++ filter f ys → cond b (x ∷ filter f (xs ++ ys)) (filter f (xs ++ ys)) ≡ cond b (x ∷ filter f xs) (filter f xs) ++ filter f ys
    go true e = ap (λ zs. x ∷ zs) e
    go false e = e

-- a member that gave numbers away is still of its group commit, and its pass has seen the opening
module _ {C B : Type 0} (group : GroupView) (first now : MemberView C B) (is : IsFirst group first) (same : HasGivenAway first now) where
  pub split_of : IsOf group now
  split_of = (ap (λ (v : SessionView C B). v.lock) same.session ∙ is.group_is.0, same.lock ∙ is.group_is.1)

  pub split_opened : is_some (opening_in now.pass.seen) ≡ true
  split_opened = ap is_some (ap opening_in same.seen ∙ is.opening)

module _ {C B : Type 0} (told : B → Option Entries) (m : CallMeaning C) (made : StoreCall → C) where
  -- the ports of a session, with one more
  pub ports_append : (k : ℕ) (ports : List (PortView C B)) (p : PortView C B) (b : Bool) → (p.session.under == k) ≡ b
      → length (ports_of (store_ports told m made) k (ports ++ p ∷ [])) ≡ length (ports_of (store_ports told m made) k ports) + cond b 1 0
  ports_append k ports p b e =
      ap length (filter_append (λ (q : PortView C B). q.session.under == k) ports (p ∷ []))
      ∙ length-append (filter (λ (q : PortView C B). q.session.under == k) ports) (filter (λ (q : PortView C B). q.session.under == k) (p ∷ []))
      ∙ ap (λ (n : ℕ). length (ports_of (store_ports told m made) k ports) + n) (ap (λ (x : Bool). length (cond x (p ∷ []) [])) e ∙ count b)
    where
      count : (x : Bool) → length (cond x (p ∷ []) []) ≡ cond x 1 0
      count true = refl
      count false = refl

  pub split_nothing : (group : GroupView) (lines : List Command) (first : MemberView C B) → IsFirst group first → SplitSoFar (store_ports told m made) lines 0 first first []
  split_nothing group lines first is = record {
    same = record { session = refl; lock = refl; seen = refl; zero = is.zero };
    own = is.numbers first.session.under is.number.0 is.number.1;
    fresh = tt;
    given = λ k some l. sym (ap (λ (b : Bool). cond b 0 1) (is.numbers k some l));
    served = tt;
  }

  served_one_more : (lines : List Command) (i : ℕ) (now : SessionView C B) (c : Command) → i < length lines → c ≡ slice_index_or lines i c → AllByRecursion (IsServed now) (take i lines) → IsServed now c
      → AllByRecursion (IsServed now) (take (i + 1) lines)
  served_one_more lines i now c lt at all one = subst (AllByRecursion (IsServed now)) (sym (take_one_more lines i c lt at)) (all_append (IsServed now) (take i lines) (c ∷ []) all (one, tt))

  pub split_passed : (lines : List Command) (i : ℕ) (first now : MemberView C B) (ports : List (PortView C B)) (c : Command) → i < length lines → c ≡ slice_index_or lines i c
      → IsServed now.session c → SplitSoFar (store_ports told m made) lines i first now ports → SplitSoFar (store_ports told m made) lines (i + 1) first now ports
  split_passed lines i first now ports c lt at one far = record {
    same = far.same;
    own = far.own;
    fresh = far.fresh;
    given = far.given;
    served = served_one_more lines i now.session c lt at far.served one;
  }

  pub split_one_more : (lines : List Command) (i : ℕ) (first now : MemberView C B) (ports : List (PortView C B)) (c : Command) → i < length lines → c ≡ slice_index_or lines i c
      → has_number now.session.has c.session ≡ true → now.session.under ≢ c.session → IsSessionNumber c.session → SplitSoFar (store_ports told m made) lines i first now ports
      → SplitSoFar (store_ports told m made) lines (i + 1) first (without_number c.session now) (ports ++ fresh_port now c.session ∷ [])
  split_one_more lines i first now ports c lt at there other number far =
      let lock : now.session.lock ≡ first.session.lock = ap (λ (v : SessionView C B). v.lock) far.same.session in
      let seen : now.session.seen ≡ first.session.seen = ap (λ (v : SessionView C B). v.seen) far.same.session in
      record {
        same = record {
          session = ap (having_numbers left) far.same.session;
          lock = far.same.lock;
          seen = far.same.seen;
          zero = still_there now.pass.has s 0 (zero_apart s number.0) far.same.zero;
        };
        own = still_there had s now.session.under other far.own;
        fresh = all_append (IsFresh first) ports (fresh_port now s ∷ []) far.fresh (
          record {
            session = λ j. record { lock = lock j; seen = seen j; has = only_number s; under = s };
            pass = (far.same.lock, far.same.seen);
            number = number;
            fault = refl;
          },
          tt,
        );
        given = given;
        served = served_one_more lines i (without_number s now).session c lt at (all_map (IsServed now.session) (IsServed (without_number s now).session) (take i lines) served far.served) (inr (gone had s));
      }
    where
      s : ℕ
      s = c.session

      had : List Bool
      had = now.session.has

      left : List Bool
      left = slice_set had s false

      served : (d : Command) → IsServed now.session d → IsServed (without_number s now).session d
      served d (inl e) = inl e
      served d (inr e) = inr (go (bool_cases (has_number left d.session)))
        where
          go : (has_number left d.session ≡ true) ⊎ (has_number left d.session ≡ false) → has_number left d.session ≡ false
          go (inl t) = absurd (true≢false (sym (taken_out had s d.session t).1 ∙ e))
          go (inr f) = f

      given : (k : ℕ) → 0 < k → k < 65 → length (ports_of (store_ports told m made) k (ports ++ fresh_port now s ∷ [])) ≡ cond (has_number left k) 0 1
      given k some l = dite (ℕ_discrete s k)
          (λ e.
          let one = ports_append k ports (fresh_port now s) true (subst (λ (j : ℕ). (s == j) ≡ true) e (same_number s)) in
          let empty : length (ports_of (store_ports told m made) k ports) ≡ 0 = far.given k some l ∙ ap (λ (b : Bool). cond b 0 1) (subst (λ (j : ℕ). has_number had j ≡ true) e there) in
          let out : has_number left k ≡ false = subst (λ (j : ℕ). has_number left j ≡ false) e (gone had s) in
          one ∙ ap (λ (n : ℕ). n + 1) empty ∙ sym (ap (λ (b : Bool). cond b 0 1) out))
          (λ ne.
          let one = ports_append k ports (fresh_port now s) false (not_same s k ne) in
          let kept : has_number had k ≡ has_number left k = sym (get_or-set_other had s k false false (λ e. ne (sym e))) in
          one ∙ add_nothing (length (ports_of (store_ports told m made) k ports)) ∙ far.given k some l ∙ ap (λ (b : Bool). cond b 0 1) kept)
        where
          add_nothing : (n : ℕ) → n + 0 ≡ n
          add_nothing n = omega arith

  pub all_split : (lines : List Command) (i : ℕ) (first now : MemberView C B) (ports : List (PortView C B)) → length lines ≤ i → SplitSoFar (store_ports told m made) lines i first now ports → AllByRecursion (IsServed now.session) lines
  all_split lines i first now ports past far = subst (AllByRecursion (IsServed now.session)) (whole lines i past) far.served
    where
      whole : {X : Type 0} (xs : List X) (i : ℕ) → length xs ≤ i → take i xs ≡ xs
      whole [] zero l = refl
      whole [] (suc i) l = refl
      whole (x ∷ xs) zero l = absurd (omega arith)
      whole (x ∷ xs) (suc i) l = ap (λ zs. x ∷ zs) (whole xs i (omega arith))

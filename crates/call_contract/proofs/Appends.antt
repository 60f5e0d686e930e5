-- Books one behind another.
use Rattle.std.proofs.Common.{◌≡◌, ℕ, ◌+◌, Bool, true, false, ◌&&◌, ◌==◌, List, [], ◌∷◌, ◌++◌, filter, length, if◌then◌else◌, Option, refl, arith}
use Rattle.call_contract.specs.Calls.{CallMeaning}
use Rattle.call_contract.specs.States.{Live, State}
use Rattle.call_contract.specs.Books.{Book, next, last, IsRun, fault_in, latest, FaultsRise, last_fault, open_after}
use Rattle.call_contract.specs.Sessions.{live_after, queue_after, queued_by, begins, begins_of, commits_in, is_begin, is_commit}

module _ {C : Type 0} (m : CallMeaning C) where
  pub last_append : (st : State C) (xs ys : Book C) → last m st (xs ++ ys) ≡ last m (last m st xs) ys
  last_append st [] ys = refl
  last_append st (n ∷ ns) ys = last_append (next m st n) ns ys

  pub run_append : (st : State C) (xs ys : Book C) → IsRun m st xs → IsRun m (last m st xs) ys → IsRun m st (xs ++ ys)
  run_append st [] ys a b = b
  run_append st (n ∷ ns) ys a b = (a.0, run_append (next m st n) ns ys a.1 b)

  pub run_first : (st : State C) (xs ys : Book C) → IsRun m st (xs ++ ys) → IsRun m st xs
  run_first st [] ys a = tt
  run_first st (n ∷ ns) ys a = (a.0, run_first (next m st n) ns ys a.1)

  pub run_rest : (st : State C) (xs ys : Book C) → IsRun m st (xs ++ ys) → IsRun m (last m st xs) ys
  run_rest st [] ys a = a
  run_rest st (n ∷ ns) ys a = run_rest (next m st n) ns ys a.1

module _ {C : Type 0} where
  pub faults_append : (f : Option ℕ) (xs ys : Book C) → FaultsRise f xs → FaultsRise (last_fault f xs) ys → FaultsRise f (xs ++ ys)
  faults_append f [] ys a b = b
  faults_append f (n ∷ ns) ys a b = (a.0, faults_append (latest f (fault_in n.event)) ns ys a.1 b)

  pub faults_first : (f : Option ℕ) (xs ys : Book C) → FaultsRise f (xs ++ ys) → FaultsRise f xs
  faults_first f [] ys a = tt
  faults_first f (n ∷ ns) ys a = (a.0, faults_first (latest f (fault_in n.event)) ns ys a.1)

  pub faults_rest : (f : Option ℕ) (xs ys : Book C) → FaultsRise f (xs ++ ys) → FaultsRise (last_fault f xs) ys
  faults_rest f [] ys a = a
  faults_rest f (n ∷ ns) ys a = faults_rest (latest f (fault_in n.event)) ns ys a.1

-- ---- what books tell of sessions

length_filter : {A : Type 0} (f : A → Bool) (xs ys : List A) → length (filter f (xs ++ ys)) ≡ length (filter f xs) + length (filter f ys)
length_filter f [] ys = grind (arith)
length_filter f (x ∷ xs) ys = go (f x) (length_filter f xs ys)
  where
    go : (b : Bool) → length (filter f (xs ++ ys)) ≡ length (filter f xs) + length (filter f ys)
        → length (if b then x ∷ filter f (xs ++ ys) else filter f (xs ++ ys)) ≡ length (if b then x ∷ filter f xs else filter f xs) + length (filter f ys)
    go true e = grind (arith, e)
    go false e = e

module _ {C : Type 0} where
  pub live_append : (ts : List (Live C)) (xs ys : Book C) → live_after ts (xs ++ ys) ≡ live_after (live_after ts xs) ys
  live_append ts [] ys = refl
  live_append ts (n ∷ ns) ys = live_append (open_after ts n) ns ys

  pub queue_append : (ss : List ℕ) (xs ys : Book C) → queue_after ss (xs ++ ys) ≡ queue_after (queue_after ss xs) ys
  queue_append ss [] ys = refl
  queue_append ss (n ∷ ns) ys = queue_append (queued_by n.session n.event n.answer ss) ns ys

  pub begins_append : (xs ys : Book C) → begins (xs ++ ys) ≡ begins xs + begins ys
  begins_append xs ys = length_filter (λ n. is_begin n.event) xs ys

  pub begins_of_append : (xs ys : Book C) (s : ℕ) → begins_of (xs ++ ys) s ≡ begins_of xs s + begins_of ys s
  begins_of_append xs ys s = length_filter (λ n. (n.session == s) && is_begin n.event) xs ys

  pub commits_append : (xs ys : Book C) → commits_in (xs ++ ys) ≡ commits_in xs + commits_in ys
  commits_append xs ys = length_filter (λ n. is_commit n.event) xs ys

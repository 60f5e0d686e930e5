-- Retries one after another, up to a deadlock, and rounds of them.
use Rattle.std.proofs.Common.{◌≡◌, ◌≢◌, inl, inr, ◌≤◌, ◌<◌, ℕ, suc, zero, ◌+◌, Bool, true, false, List, [], ◌∷◌, length, get_or, take, drop, ◌-◌, Option, refl, sym, ap, subst, ⊎_elim, ◌∙◌, arith, true≢false, if◌then◌else◌}
use Rattle.std.proofs.lemmas.Bool.Decides.{nat_tests}
use Rattle.std.proofs.lemmas.List.{take_rest}
use Rattle.tree_model.specs.Entries.{Entries}
use Rattle.tree_model.specs.Tree.{Tree}
use Rattle.node_seq.specs.Trees.{StandsFor}
use Rattle.wait_cycles.proofs.Turned.{same_or_not}
use Rattle.call_contract.specs.Books.{Book}
use Rattle.call_contract.specs.Calls.{CallMeaning}
use Rattle.call_contract.specs.Sessions.{queue_after}
use Rattle.call_contract.specs.States.{without}
use Rattle.command_lines.specs.declared.line_reply.LineReply.{LineReply}
use Rattle.tx_core.specs.Cores.{CoreView, state_from}
use Rattle.tx_core.specs.Queues.{times}
use Rattle.session_driver.specs.Driving.{HasGrown, HasDone, HasBegun}
use Rattle.session_driver.specs.Retries.{round, rounds, retries}
use Rattle.session_driver.specs.inside.Steps.{Leaves, HasFailed, LeavesRetry, KeepsQueue, LeavesRound, BeginsRound, AreQueued, IsInRound, IsInRounds}
use Rattle.session_driver.proofs.Left.{entries_none, grown_none, grown_on, left_none, left_on, left_same, left_done, begun_after, begun_failed}
use Rattle.session_driver.proofs.Stopped.{no_longer}

-- ---- how often a session stands in a list

times_without : (s u : ℕ) (q : List ℕ) → u ≢ s → times u (without s q) ≡ times u q
times_without s u [] off = refl
times_without s u (x ∷ xs) off = grind (arith, nat_tests, times_without s u xs off)

shorter_without : (s : ℕ) (q : List ℕ) → 1 ≤ times s q → length (without s q) < length q
shorter_without s [] on = grind (arith)
shorter_without s (x ∷ xs) on = grind (arith, nat_tests, shorter_without s xs, no_longer s xs)

times_less : (s u : ℕ) (q : List ℕ) → times u (without s q) ≤ times u q
times_less s u [] = grind (arith)
times_less s u (x ∷ xs) = grind (arith, nat_tests, times_less s u xs)

times_first : (s : ℕ) (rest : List ℕ) → times s (s ∷ rest) ≡ times s rest + 1
times_first s rest = grind (arith, nat_tests)

times_behind : (s u : ℕ) (rest : List ℕ) → times u rest ≤ times u (s ∷ rest)
times_behind s u rest = grind (arith, nat_tests)

-- ---- the queue after a retry

module _ {C : Type 0} where
  pub queued_first : (s : ℕ) (rest : List ℕ) (book : Book C) → AreQueued (s ∷ rest) book → 1 ≤ times s (queue_after [] book)
  queued_first s rest book are = omega (arith, are s, times_first s rest)

  queued_on : (old new : Book C) (s : ℕ) (rest : List ℕ) (ended : Bool) → AreQueued (s ∷ rest) old → ((u : ℕ) → times u (queue_after [] old) ≤ 1) → KeepsQueue old s ended new → AreQueued rest new
  queued_on old new s rest ended are once (inr keeps) = λ u. subst (λ (q : List ℕ). times u rest ≤ times u q) (sym keeps.1) (omega (arith, times_behind s u rest, are u))
  queued_on old new s rest ended are once (inl keeps) = λ u. subst (λ (q : List ℕ). times u rest ≤ times u q) (sym keeps) (⊎_elim (same u) (other u) (same_or_not u s))
    where
      none_left : times s rest ≤ 0
      none_left = omega (arith, are s, times_first s rest, once s)

      same : (u : ℕ) → u ≡ s → times u rest ≤ times u (without s (queue_after [] old))
      same u e = subst (λ (x : ℕ). times x rest ≤ times x (without s (queue_after [] old))) (sym e) (omega (arith, none_left))

      other : (u : ℕ) → u ≢ s → times u rest ≤ times u (without s (queue_after [] old))
      other u off = omega (arith, times_without s u (queue_after [] old) off, are u, times_behind s u rest)

  once_on : (old new : Book C) (s : ℕ) (ended : Bool) → ((u : ℕ) → times u (queue_after [] old) ≤ 1) → KeepsQueue old s ended new → (u : ℕ) → times u (queue_after [] new) ≤ 1
  once_on old new s ended once (inr keeps) u = subst (λ (q : List ℕ). times u q ≤ 1) (sym keeps.1) (once u)
  once_on old new s ended once (inl keeps) u = subst (λ (q : List ℕ). times u q ≤ 1) (sym keeps) (omega (arith, times_less s u (queue_after [] old), once u))

  fewer_on : (old new : Book C) (s : ℕ) (ended : Bool) → KeepsQueue old s ended new → length (queue_after [] new) ≤ length (queue_after [] old)
  fewer_on old new s ended (inr keeps) = subst (λ (q : List ℕ). length q ≤ length (queue_after [] old)) (sym keeps.1) (omega arith)
  fewer_on old new s ended (inl keeps) = subst (λ (q : List ℕ). length q ≤ length (queue_after [] old)) (sym keeps) (no_longer s (queue_after [] old))

  ended_fewer : (old new : Book C) (s : ℕ) → 1 ≤ times s (queue_after [] old) → KeepsQueue old s true new → length (queue_after [] new) < length (queue_after [] old)
  ended_fewer old new s on (inr keeps) = absurd (true≢false keeps.0)
  ended_fewer old new s on (inl keeps) = subst (λ (q : List ℕ). length q < length (queue_after [] old)) (sym keeps) (shorter_without s (queue_after [] old) on)

pub at_most_one : (b : Bool) (n : ℕ) → n ≡ (if b then 1 else 0) → n ≤ 1
at_most_one true n e = omega (arith, e)
at_most_one false n e = omega (arith, e)

first_behind : (xs : List ℕ) → 1 ≤ length xs → xs ≡ get_or xs 0 0 ∷ take (length xs - 1) (drop 1 xs)
first_behind [] h = absurd (omega (arith, h))
first_behind (x ∷ xs) h = ap (λ v. x ∷ v) (sym (take_rest (x ∷ xs) 1))

module _ {C B : Type 0} (m : CallMeaning C) (told : B → Option Entries) (unchanged : B → B → Type 0) (count : B → ℕ) where
  pub stands_on : (v w : CoreView C B) (x y : List LineReply) → HasGrown v w x y → (t : Tree) → StandsFor (told v.opening) t → StandsFor (told w.opening) t
  stands_on v w x y grown t stands = subst (λ (b : B). StandsFor (told b) t) (sym (ap (λ (u : CoreView C B). u.opening) grown.core)) stands

  -- ---- a round

  pub round_starts : (v : CoreView C B) (xs : List LineReply) (rest : List ℕ) → rest ≡ queue_after [] v.book → ((u : ℕ) → times u (queue_after [] v.book) ≤ 1)
      → ((t : Tree) → StandsFor (told v.opening) t → queue_after [] v.book ≡ (state_from m t v).waiting) → unchanged v.base v.base → IsInRound m told unchanged count v v xs xs rest
  round_starts v xs rest is once same reads = record {
    queued = λ u. subst (λ (q : List ℕ). times u rest ≤ times u q) is (omega arith);
    once = once;
    fewer = omega arith;
    later = grown_none v v xs xs (entries_none v) refl;
    left = λ t stands f. left_same v v xs xs (round m f (state_from m t v).waiting (state_from m t v)) _ (round m f rest (state_from m t v))
        (ap (λ (q : List ℕ). round m f q (state_from m t v)) (sym (is ∙ same t stands))) (left_none v xs _);
    reads = reads;
    faults = refl;
  }

  pub in_round : (old now : CoreView C B) (x y : List LineReply) (rest : List ℕ) → 1 ≤ length rest → IsInRound m told unchanged count old now x y rest
      → IsInRound m told unchanged count old now x y (get_or rest 0 0 ∷ take (length rest - 1) (drop 1 rest))
  in_round old now x y rest some is = subst (λ (q : List ℕ). IsInRound m told unchanged count old now x y q) (first_behind rest some) is

  module _ (old now new : CoreView C B) (x y z : List LineReply) (s : ℕ) (rest : List ℕ) (is : IsInRound m told unchanged count old now x y (s ∷ rest)) where
    pub round_goes : LeavesRetry m told now s false new y z → KeepsQueue now.book s false new.book → HasGrown now new y z → unchanged old.base new.base → count new.base ≡ count old.base
        → IsInRound m told unchanged count old new x z rest
    round_goes retry keeps grown reads faults = record {
      queued = queued_on now.book new.book s rest false is.queued is.once keeps;
      once = once_on now.book new.book s false is.once keeps;
      fewer = omega (arith, fewer_on now.book new.book s false keeps, is.fewer);
      later = grown_on old now new x y z is.later grown;
      left = λ t stands f. left_on old now new x y z _ _ _ (is.left t stands f) (retry t (stands_on old now x y is.later t stands) f (round m f rest));
      reads = reads;
      faults = faults;
    }

    pub round_ends : LeavesRetry m told now s true new y z → LeavesRound m told old true new x z
    round_ends retry = λ t stands f. left_on old now new x y z _ _ _ (is.left t stands f) (retry t (stands_on old now x y is.later t stands) f (round m f rest))

    pub round_fewer : KeepsQueue now.book s true new.book → length (queue_after [] new.book) < length (queue_after [] old.book)
    round_fewer keeps = omega (arith, ended_fewer now.book new.book s (queued_first s rest now.book is.queued) keeps, is.fewer)

    pub round_fails : HasFailed now new → z ≡ y → BeginsRound m told old new x z
    round_fails failed e = λ t stands f. begun_failed old now new x y z _ (round m f (s ∷ rest) (state_from m t now)) (is.left t stands f) failed e

  pub none_left : (old now : CoreView C B) (x y : List LineReply) (rest : List ℕ) → length rest < 1 → IsInRound m told unchanged count old now x y rest → IsInRound m told unchanged count old now x y []
  none_left old now x y [] none is = is
  none_left old now x y (s ∷ rest) none is = absurd (omega (arith, none))

  pub round_over : (old now : CoreView C B) (x y : List LineReply) → IsInRound m told unchanged count old now x y [] → LeavesRound m told old false now x y
  round_over old now x y is = λ t stands f. is.left t stands f

  -- ---- rounds

  pub rounds_start : (v : CoreView C B) (xs : List LineReply) → ((t : Tree) → StandsFor (told v.opening) t → queue_after [] v.book ≡ (state_from m t v).waiting) → unchanged v.base v.base
      → IsInRounds m told unchanged count v v xs xs
  rounds_start v xs same reads = record {
    later = grown_none v v xs xs (entries_none v) refl;
    left = λ t stands. (suc (length (state_from m t v).waiting), omega (arith, ap (λ (q : List ℕ). length q) (same t stands)), left_none v xs _);
    reads = reads;
    faults = refl;
  }

  module _ (old now new : CoreView C B) (x y z : List LineReply) (is : IsInRounds m told unchanged count old now x y) where
    IsLeft : Tree → ℕ → Type 0
    IsLeft t k = (length (queue_after [] now.book) < k) × Leaves old now x y (retries m (state_from m t old)) (rounds m k (state_from m t now))

    pub rounds_go : LeavesRound m told now true new y z → length (queue_after [] new.book) < length (queue_after [] now.book) → HasGrown now new y z → unchanged old.base new.base → count new.base ≡ count old.base
        → IsInRounds m told unchanged count old new x z
    rounds_go one fewer grown reads faults = record {
      later = grown_on old now new x y z is.later grown;
      left = λ t stands. go t stands (is.left t stands).0 (is.left t stands).1 (is.left t stands).2;
      reads = reads;
      faults = faults;
    }
      where
        go : (t : Tree) → StandsFor (told old.opening) t → (k : ℕ) → length (queue_after [] now.book) < k → Leaves old now x y (retries m (state_from m t old)) (rounds m k (state_from m t now))
            → (j : ℕ) × (length (queue_after [] new.book) < j) × Leaves old new x z (retries m (state_from m t old)) (rounds m j (state_from m t new))
        go t stands zero less left = absurd (omega (arith, less))
        go t stands (suc j) less left = (j, omega (arith, less, fewer), left_on old now new x y z _ _ _ left (one t (stands_on old now x y is.later t stands) (rounds m j)))

    pub rounds_done : LeavesRound m told now false new y z → (t : Tree) → StandsFor (told old.opening) t → HasDone old new x z (retries m (state_from m t old))
    rounds_done one t stands = go (is.left t stands).0 (is.left t stands).1 (is.left t stands).2
      where
        go : (k : ℕ) → length (queue_after [] now.book) < k → Leaves old now x y (retries m (state_from m t old)) (rounds m k (state_from m t now)) → HasDone old new x z (retries m (state_from m t old))
        go zero less left = absurd (omega (arith, less))
        go (suc j) less left = left_done old new x z _ (state_from m t new) (left_on old now new x y z _ _ _ left (one t (stands_on old now x y is.later t stands) (rounds m j)))

    pub rounds_begun : BeginsRound m told now new y z → (t : Tree) → StandsFor (told old.opening) t → HasBegun old new x z (retries m (state_from m t old))
    rounds_begun one t stands = go (is.left t stands).0 (is.left t stands).1 (is.left t stands).2
      where
        go : (k : ℕ) → length (queue_after [] now.book) < k → Leaves old now x y (retries m (state_from m t old)) (rounds m k (state_from m t now)) → HasBegun old new x z (retries m (state_from m t old))
        go zero less left = absurd (omega (arith, less))
        go (suc j) less left = begun_after old now new x y z _ (rounds m (suc j) (state_from m t now)) left (one t (stands_on old now x y is.later t stands) (rounds m j))

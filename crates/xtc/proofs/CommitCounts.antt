-- A run's book has as many committed transactions as commits.
use Rattle.std.proofs.Common.{◌≡◌, ℕ, suc, Bool, false, filter, if◌then◌else◌, List, [], ◌∷◌, ◌++◌, length, map, Option, Some, None, refl, sym, ap, ◌∙◌}
use Rattle.call_contract.specs.Books.{Book, IsAnswer, IsRun, commit_of, commits_after, next, open_of}
use Rattle.call_contract.specs.Calls.{CallMeaning}
use Rattle.call_contract.specs.Sessions.{commits_in, is_commit, without_grants}
use Rattle.call_contract.specs.SerialRuns.{Committed}
use Rattle.call_contract.specs.States.{Live, State, of_session}
use Rattle.call_contract.specs.Steps.{step_of}
use Rattle.call_contract.specs.declared.events.Event.{Event}
use Rattle.call_contract.specs.declared.events.Event.TheVariants.{Begin, Call, Retry, Fail, Commit, Abort}
use Rattle.call_contract.specs.declared.events.Noted.{Noted}
use Rattle.call_contract.proofs.SerialRun.{told_option, told_found, open_matches}

abbrev commits_of : {C : Type 0} → Book C → Book C
commits_of book = filter (λ n. is_commit n.event) book

module _ {C : Type 0} (m : CallMeaning C) where
  -- a commit that may come is of a live transaction, and no other event commits one
  one_or_none : (st : State C) (s : ℕ) (x : Option (Live C)) (n : Noted C) (ds : List (Committed C)) (ns : Book C) → IsAnswer n.answer (step_of m st s x n.event) → length ds ≡ commits_in ns
      → length (commit_of (told_option x) n.event ++ ds) ≡ commits_in (n ∷ ns)
  one_or_none st s x n ds ns is same = go x n.event refl is
    where
      skip : (e : Event C) → n.event ≡ e → is_commit e ≡ false → length ds ≡ commits_in (n ∷ ns)
      skip e named other = same ∙ sym (ap (λ (b : Bool). length (if b then n ∷ commits_of ns else commits_of ns)) (ap is_commit named ∙ other))

      go : (x : Option (Live C)) (e : Event C) → n.event ≡ e → IsAnswer n.answer (step_of m st s x e) → length (commit_of (told_option x) e ++ ds) ≡ commits_in (n ∷ ns)
      go None Begin named is = skip Begin named refl
      go None (Call c) named is = absurd is
      go None Retry named is = absurd is
      go None (Fail c k f) named is = absurd is
      go None Commit named is = absurd is
      go None Abort named is = absurd is
      go (Some t) Begin named is = absurd is
      go (Some t) (Call c) named is = skip (Call c) named refl
      go (Some t) Retry named is = skip Retry named refl
      go (Some t) (Fail c k f) named is = skip (Fail c k f) named refl
      go (Some t) Commit named is = ap suc same ∙ sym (ap (λ (b : Bool). length (if b then n ∷ commits_of ns else commits_of ns)) (ap is_commit named))
      go (Some t) Abort named is = skip Abort named refl

  pub commits_counted : (st : State C) (b : Book C) → IsRun m st b → length (commits_after (map without_grants st.live) b) ≡ commits_in b
  commits_counted st [] run = refl
  commits_counted st (n ∷ ns) run =
      let x : Option (Live C) = of_session n.session st.live in
      ap (λ (o : Option (Live C)). length (commit_of o n.event ++ commits_after (open_of n.session o n.event n.answer (map without_grants st.live)) ns)) (told_found n.session st.live)
      ∙ ap (λ (ts : List (Live C)). length (commit_of (told_option x) n.event ++ commits_after ts ns)) (open_matches m st n.session x n.event n.answer refl run.0)
      ∙ one_or_none st n.session x n (commits_after (map without_grants (next m st n).live) ns) ns run.0 (commits_counted (next m st n) ns run.1)

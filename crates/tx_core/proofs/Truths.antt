-- What holds of the state that a core's book comes to.
use Rattle.std.proofs.Common.{◌≡◌, ℕ, Bool, true, false, [], ◌∷◌, ◌++◌, Option, Result, Ok, Err, IfOk, true≢false, sym, ap, subst, ◌∙◌}
use Rattle.tree_model.specs.Entries.{Entries}
use Rattle.tree_model.specs.Tree.{Tree}
use Rattle.node_seq.specs.Trees.{StandsFor}
use Rattle.call_contract.specs.Calls.{CallMeaning, CallLaws}
use Rattle.call_contract.specs.Books.{next, last, IsAnswer}
use Rattle.call_contract.specs.Ends.{LeavesAllElse}
use Rattle.call_contract.specs.Lives.{NoCellIsShared}
use Rattle.call_contract.specs.States.{State, start}
use Rattle.call_contract.specs.Steps.{step}
use Rattle.call_contract.specs.declared.events.Answer.{Answer}
use Rattle.call_contract.specs.declared.events.Answer.TheVariants.{Deadlock}
use Rattle.call_contract.specs.declared.events.Event.{Event}
use Rattle.call_contract.specs.declared.events.Event.TheVariants as event
use Rattle.call_contract.specs.declared.events.EventAnswer.TheVariants as said
use Rattle.call_contract.specs.declared.events.Noted.{Noted}
use Rattle.call_contract.proofs.Appends.{last_append}
use Rattle.call_contract.proofs.BookLaws.{abort_leaves_all_else, deadlock_shown, no_cycle, reached_apart, reached_replies, reached_writes}
use Rattle.tx_core.specs.Retries.{IsNotedRetry}
use Rattle.tx_core.specs.Truths.{LiveStand, ShowsCycle}
use Rattle.tx_core.specs.declared.errors.CallError.{CallError}
use Rattle.tx_core.specs.declared.parts.Parts.{Parts}
use Rattle.tx_core.specs.inside.Goes.{Goes, call_entry}
use Rattle.tx_core.specs.inside.Kept.{IsCore}
use Rattle.tx_core.specs.inside.Retrying.{HasMoved, IsAgain}
use Rattle.tx_core.proofs.Kept.{core_reached}
use Rattle.tx_core.proofs.KeptAgain.{WaitsIn}

module _ {C B : Type 0} (is_valid : C → Type 0) (m : CallMeaning C) (told : B → Option Entries) (laws : CallLaws C is_valid m) (count : B → ℕ) (opening : B) (number limit : ℕ) where
  pub core_live : (p : Parts C B) → IsCore is_valid m told count opening number limit p → (t : Tree) → StandsFor (told opening) t → LiveStand m (last m (start t number limit) p.book.items)
  core_live p core t opens =
      let reached = core_reached is_valid m told count opening number limit p core t opens in
      record {
        replies = reached_replies is_valid m laws (last m (start t number limit) p.book.items) reached;
        writes = reached_writes is_valid m laws (last m (start t number limit) p.book.items) reached;
        no_cycle = no_cycle m t number limit p.book.items;
      }

  pub core_apart : (p : Parts C B) → IsCore is_valid m told count opening number limit p → (t : Tree) → StandsFor (told opening) t → NoCellIsShared (last m (start t number limit) p.book.items)
  core_apart p core t opens = reached_apart is_valid m laws (last m (start t number limit) p.book.items) (core_reached is_valid m told count opening number limit p core t opens)

module _ {C B : Type 0} (is_valid : C → Type 0) (m : CallMeaning C) (told : B → Option Entries) (count : B → ℕ) (opening : B) (number limit : ℕ) where
  -- the state that a further entry leads to
  after : (p q : Parts C B) (n : Noted C) (t : Tree) → q.book.items ≡ p.book.items ++ n ∷ [] → last m (start t number limit) q.book.items ≡ next m (last m (start t number limit) p.book.items) n
  after p q n t book = ap (last m (start t number limit)) book ∙ last_append m (start t number limit) p.book.items (n ∷ [])

  pub core_aborts : (p : Parts C B) (s : ℕ) (q : Parts C B) → IsCore is_valid m told count opening number limit p → Goes is_valid m told p (record { session = s; event = event.Abort; answer = said.Nothing }) q
      → (t : Tree) → StandsFor (told opening) t → LeavesAllElse (last m (start t number limit) p.book.items) (last m (start t number limit) q.book.items) s
  core_aborts p s q core goes t opens =
      let st = last m (start t number limit) p.book.items in
      subst (λ (x : State C). LeavesAllElse st x s) (sym (after p q _ t goes.book)) (abort_leaves_all_else m st s said.Nothing (goes.entry st (core.run t opens).stands))

  -- a noted answer that is a cycle
  closes : (p q : Parts C B) (s : ℕ) (e : Event C) (a : Answer) (t : Tree) → q.book.items ≡ p.book.items ++ record { session = s; event = e; answer = said.Call a } ∷ []
      → IsAnswer (said.Call a) (step m (last m (start t number limit) p.book.items) s e) → ShowsCycle {E = CallError} m (last m (start t number limit) p.book.items) (last m (start t number limit) q.book.items) s e (Ok a)
  closes p q s e a t book answers cycle is =
      let st = last m (start t number limit) p.book.items in
      subst (λ (x : State C). Rattle.call_contract.specs.Deadlocks.ClosesCycle m st x s e cycle) (sym (after p q _ t book))
      (deadlock_shown m t number limit p.book.items (record { session = s; event = e; answer = said.Call a }) cycle answers (ap said.Call (same_ok is)))
    where
      ok_of : Result Answer CallError → Answer
      ok_of (Ok x) = x
      ok_of (Err y) = a

      same_ok : ◌≡◌ {A = Result Answer CallError} (Ok a) (Ok (Deadlock cycle)) → a ≡ Deadlock cycle
      same_ok e = ap ok_of e

  pub core_closes : (p : Parts C B) (s : ℕ) (c : C) (q : Parts C B) (r : Result Answer CallError) → IsCore is_valid m told count opening number limit p → IfOk r (λ a. Goes is_valid m told p (call_entry s c a) q)
      → (t : Tree) → StandsFor (told opening) t → ShowsCycle m (last m (start t number limit) p.book.items) (last m (start t number limit) q.book.items) s (event.Call c) r
  core_closes p s c q (Ok a) core goes t opens cycle is = closes p q s (event.Call c) a t goes.book (goes.entry (last m (start t number limit) p.book.items) (core.run t opens).stands) cycle is
  core_closes p s c q (Err e) core goes t opens cycle is = absurd (apart is)
    where
      apart : {x : Answer} → ◌≡◌ {A = Result Answer CallError} (Err e) (Ok x) → ⊥
      apart e = cc

  pub core_closes_again : (p : Parts C B) (s : ℕ) (c : C) (q : Parts C B) (r : Result Answer CallError) → IsCore is_valid m told count opening number limit p → WaitsIn is_valid m told opening number limit p.book.items s c
      → IfOk r (λ a. IsAgain is_valid m told p s c a q)
      → (t : Tree) → StandsFor (told opening) t → ShowsCycle m (last m (start t number limit) p.book.items) (last m (start t number limit) q.book.items) s event.Retry r
  core_closes_again p s c q (Ok a) core waits again t opens cycle is = go again.noted again.may_be again.moved
    where
      same : a ≡ Deadlock cycle
      same = ap ok_of is
        where
          ok_of : Result Answer CallError → Answer
          ok_of (Ok x) = x
          ok_of (Err y) = a

      go : (noted : Bool) → IsNotedRetry a noted → HasMoved is_valid m told p s c a noted q → Rattle.call_contract.specs.Deadlocks.ClosesCycle m (last m (start t number limit) p.book.items) (last m (start t number limit) q.book.items) s event.Retry cycle
      go true may goes = closes p q s event.Retry a t goes.book (goes.entry (last m (start t number limit) p.book.items) (core.run t opens).stands (waits t opens)) cycle is
      go false may stays = absurd (true≢false (sym (subst (λ x. IsNotedRetry x false) same may)))
  core_closes_again p s c q (Err e) core waits again t opens cycle is = absurd (apart is)
    where
      apart : {x : Answer} → ◌≡◌ {A = Result Answer CallError} (Err e) (Ok x) → ⊥
      apart e = cc

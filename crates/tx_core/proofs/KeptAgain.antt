-- What the type of a core keeps at a retry.
use Rattle.std.proofs.Common.{◌≡◌, ℕ, ◌≤◌, Bool, true, false, [], ◌∷◌, ◌++◌, Option, Some, None, sym, ap, ap₂, subst, ◌∙◌, refl}
use Rattle.tree_model.specs.Entries.{Entries}
use Rattle.tree_model.specs.Tree.{Tree}
use Rattle.node_seq.specs.Trees.{StandsFor}
use Rattle.call_contract.specs.Calls.{CallMeaning}
use Rattle.call_contract.specs.Sessions.{live_in}
use Rattle.call_contract.specs.States.{State, Live, Waiting, start, of_session}
use Rattle.call_contract.specs.Books.{Book, last, IsRun, HasValidCall, HasValidCalls, fault_in}
use Rattle.call_contract.specs.declared.events.Answer.{Answer}
use Rattle.call_contract.specs.declared.events.Noted.{Noted}
use Rattle.call_contract.proofs.Appends.{last_append, run_append}
use Rattle.call_contract.proofs.SerialRun.{told_found, told_option}
use Rattle.call_contract.proofs.SessionBooks.{live_told}
use Rattle.tx_core.specs.Cores.{CoreView, with_entry, over, waits_in, count_told}
use Rattle.tx_core.specs.Retries.{HasRetried, with_retry}
use Rattle.tx_core.specs.declared.parts.Parts.{Parts}
use Rattle.tx_core.specs.inside.Standing.{Stands}
use Rattle.tx_core.specs.inside.Retrying.{IsWaitingWith, GoesAgain, StaysWaiting, HasMoved, IsAgain, waiting_call, retry_entry, failed_retry}
use Rattle.tx_core.specs.inside.Sessions.{IsSeatedAs}
use Rattle.tx_core.specs.inside.Kept.{IsCore}
use Rattle.tx_core.specs.declared.errors.CallError.{CallError}
use Rattle.tx_core.specs.declared.errors.CallError.TheVariants as call_error
use Rattle.outside_traits.specs.Faults.{FaultCounted}
use Rattle.tx_core.proofs.Counted.{IsTold, counts_go, counts_stay}
use Rattle.tx_core.specs.inside.Goes.{Stays}
use Rattle.overlays.specs.Views.{contents_after}
use Rattle.tx_core.specs.Drains.{Undrained}
use Rattle.tx_core.proofs.Kept.{core_reached, shown, shown_so}
use Rattle.tx_core.proofs.Reached.{all_append, stands_same}
use Rattle.tx_core.proofs.ToldAgain.{seat_waits, told_waiting, waits_with}

module _ {C B : Type 0} (is_valid : C → Type 0) (m : CallMeaning C) (told : B → Option Entries) where
  -- the session waits with this call in the state after the book
  abbrev pub WaitsIn : B → ℕ → ℕ → Book C → ℕ → C → Type 0
  WaitsIn opening number limit book s c = (t : Tree) → StandsFor (told opening) t → IsWaitingWith (last m (start t number limit) book) s c

  pub core_goes_again : (count : B → ℕ) (opening : B) (number limit : ℕ) (p : Parts C B) (s : ℕ) (c : C) (n : Noted C) (q : Parts C B) → IsCore is_valid m told count opening number limit p → WaitsIn opening number limit p.book.items s c
      → HasValidCall is_valid n.event → GoesAgain is_valid m told p s c n q → IsSeatedAs p q → IsTold (fault_in n.event) (count p.base) (count q.base) → IsCore is_valid m told count opening number limit q
  core_goes_again count opening number limit p s c n q core waits valid goes same counted = record {
    valid = subst (HasValidCalls is_valid) (sym goes.book) (all_append (λ x. HasValidCall is_valid x.event) p.book.items (n ∷ []) core.valid (valid, tt));
    faults = counts_go count opening p q n goes.book counted core.faults;
    seated = same.seated;
    opened = same.opened ∙ core.opened;
    limited = same.limit ∙ core.limited;
    run = λ t stands.
        let at = core.run t stands in
        let st = last m (start t number limit) p.book.items in
        record {
          run = subst (IsRun m (start t number limit)) (sym goes.book) (run_append m (start t number limit) p.book.items (n ∷ []) at.run (goes.entry st at.stands (waits t stands), tt));
          stands = subst (λ (x : State C). Stands is_valid m told q x) (sym (ap (last m (start t number limit)) goes.book ∙ last_append m (start t number limit) p.book.items (n ∷ []))) (goes.state st at.stands (waits t stands));
        };
  }

  pub core_stays_waiting : (count : B → ℕ) (opening : B) (number limit : ℕ) (p : Parts C B) (s : ℕ) (c : C) (q : Parts C B) → IsCore is_valid m told count opening number limit p → WaitsIn opening number limit p.book.items s c
      → StaysWaiting is_valid m told p s c q → IsSeatedAs p q → count p.base ≤ count q.base → IsCore is_valid m told count opening number limit q
  core_stays_waiting count opening number limit p s c q core waits stays same later = record {
    valid = subst (HasValidCalls is_valid) (sym stays.book) core.valid;
    faults = counts_stay count opening p q stays.book later core.faults;
    seated = same.seated;
    opened = same.opened ∙ core.opened;
    limited = same.limit ∙ core.limited;
    run = λ t stands.
        let at = core.run t stands in
        record {
          run = subst (IsRun m (start t number limit)) (sym stays.book) at.run;
          stands = subst (λ (b : Book C). Stands is_valid m told q (last m (start t number limit) b)) (sym stays.book) (stays.state (last m (start t number limit) p.book.items) at.stands (waits t stands));
        };
  }

  -- a retry that was answered
  pub core_retries : (count : B → ℕ) (opening : B) (number limit : ℕ) (p : Parts C B) (s : ℕ) (c : C) (a : Answer) (q : Parts C B) → IsCore is_valid m told count opening number limit p → WaitsIn opening number limit p.book.items s c
      → IsAgain is_valid m told p s c a q → IsSeatedAs p q → count p.base ≤ count q.base → IsCore is_valid m told count opening number limit q
  core_retries count opening number limit p s c a q core waits is same later = go is.noted is.moved
    where
      go : (noted : Bool) → HasMoved is_valid m told p s c a noted q → IsCore is_valid m told count opening number limit q
      go true goes = core_goes_again count opening number limit p s c (retry_entry s a) q core waits tt goes same later
      go false stays = core_stays_waiting count opening number limit p s c q core waits stays same later

  -- one that failed
  pub core_retry_fails : (count : B → ℕ) (opening : B) (number limit : ℕ) (p : Parts C B) (s : ℕ) (c : C) (k : ℕ) (e : CallError) (q : Parts C B) → IsCore is_valid m told count opening number limit p → WaitsIn opening number limit p.book.items s c
      → GoesAgain is_valid m told p s c (failed_retry s k (count_told e (count q.base))) q → IsSeatedAs p q → count p.base ≤ count q.base → (e ≡ call_error.DiskFault → FaultCounted (count p.base) (count q.base)) → IsCore is_valid m told count opening number limit q
  core_retry_fails count opening number limit p s c k e q core waits goes same later cause =
      core_goes_again count opening number limit p s c (failed_retry s k (count_told e (count q.base))) q core waits tt goes same (tells e later cause)
    where
      tells : (e : CallError) → count p.base ≤ count q.base → (e ≡ call_error.DiskFault → FaultCounted (count p.base) (count q.base)) → IsTold (count_told e (count q.base)) (count p.base) (count q.base)
      tells call_error.DiskFault later cause = (refl, later, cause refl)
      tells call_error.NoMemory later cause = later
      tells (call_error.Session why) later cause = later

  -- ---- who waits by the book waits in the state after it

  waits_told : (o : Option (Live C)) (u : Live C) → told_option o ≡ Some u → (t : Live C) × (o ≡ Some t) × (u.waits ≡ t.waits)
  waits_told None u e = cc
  waits_told (Some t) u e = (t, refl, ap waits_of (sym e))
    where
      waits_of : Option (Live C) → Option (Waiting C)
      waits_of None = None
      waits_of (Some x) = x.waits

  waits_after : (t : Tree) (number limit : ℕ) (b : Book C) (s : ℕ) (u : Live C) (w : Waiting C) → IsRun m (start t number limit) b → live_in b s ≡ Some u → u.waits ≡ Some w
      → IsWaitingWith (last m (start t number limit) b) s w.call
  waits_after t number limit b s u w run found waits =
      let ts = (last m (start t number limit) b).live in
      let at = waits_told (of_session s ts) u (sym (told_found s ts) ∙ sym (ap (of_session s) (live_told m (start t number limit) b run)) ∙ found) in
      record { live = at.0; found = at.1; waiting = w; waits = sym at.2 ∙ waits; call = refl }

  -- the call with which a session waits that waits by the book
  pub core_waits : (count : B → ℕ) (opening : B) (number limit : ℕ) (p : Parts C B) (s : ℕ) → IsCore is_valid m told count opening number limit p → waits_in (live_in p.book.items s) ≡ true
      → (c : C) × (waiting_call p s ≡ Some c) × WaitsIn opening number limit p.book.items s c
  core_waits count opening number limit p s core waits =
      let there = seat_waits p s core.seated waits in
      let at = told_waiting p s there.0 core.seated there.1 in
      (at.1.call, waits_with p s there.0 at.1.call there.1 at.4, λ t opens. waits_after t number limit p.book.items s at.0 at.1 (core.run t opens).run at.2 at.3)

  -- ---- as contracts see it

  pub has_retried : (count : B → ℕ) (opening : B) (number limit : ℕ) (u : Undrained) (p : Parts C B) (s : ℕ) (c : C) (a : Answer) (q : Parts C B) (v w : CoreView C B) → v ≡ shown told opening number limit u p → w ≡ shown told opening number limit u q
      → contents_after q.layers.changes (told q.base) ≡ contents_after p.layers.changes (told p.base)
      → IsCore is_valid m told count opening number limit p → WaitsIn opening number limit p.book.items s c → IsAgain is_valid m told p s c a q → HasRetried m told v s a w
  has_retried count opening number limit u p s c a q v w old new committed core waits is = subst (λ (x : CoreView C B). HasRetried m told x s a w) (sym old) (subst (HasRetried m told (shown told opening number limit u p) s a) (sym new) (record {
    noted = is.noted;
    may_be = is.may_be;
    view = go is.noted is.moved;
    step = λ t opens. is.step (last m (start t number limit) p.book.items) (core_reached is_valid m told count opening number limit p core t opens) (core.run t opens).stands (waits t opens);
  }))
    where
      go : (noted : Bool) → HasMoved is_valid m told p s c a noted q → shown told opening number limit u q ≡ over (with_retry (shown told opening number limit u p) s a noted) q.base
      go true goes = shown_so is_valid m told opening number limit u p q (p.book.items ++ retry_entry s a ∷ []) None goes.book goes.prepared committed
      go false stays = shown_so is_valid m told opening number limit u p q p.book.items p.prepared stays.book stays.prepared committed

  pub has_failed : (opening : B) (number limit : ℕ) (u : Undrained) (p : Parts C B) (s : ℕ) (c : C) (n : Noted C) (q : Parts C B) (v w : CoreView C B) → v ≡ shown told opening number limit u p → w ≡ shown told opening number limit u q
      → contents_after q.layers.changes (told q.base) ≡ contents_after p.layers.changes (told p.base) → GoesAgain is_valid m told p s c n q → w ≡ over (with_entry v n) w.base
  has_failed opening number limit u p s c n q v w old new committed goes =
      new ∙ shown_so is_valid m told opening number limit u p q (p.book.items ++ n ∷ []) None goes.book goes.prepared committed ∙ sym (ap₂ (λ (x y : CoreView C B). over (with_entry x n) y.base) old new)

  -- where nothing but room was made before
  pub goes_after_room : (p p1 : Parts C B) (s : ℕ) (c : C) (n : Noted C) (q : Parts C B) → Stays is_valid m told p p1 → GoesAgain is_valid m told p1 s c n q → GoesAgain is_valid m told p s c n q
  goes_after_room p p1 s c n q stays goes = record {
    book = goes.book ∙ ap (λ (b : Book C). b ++ n ∷ []) stays.book;
    prepared = goes.prepared;
    entry = λ st stands. goes.entry st (stays.state st stands);
    state = λ st stands. goes.state st (stays.state st stands);
  }

  pub again_after_room : (p p1 : Parts C B) (s : ℕ) (c : C) (a : Answer) (q : Parts C B) → Stays is_valid m told p p1 → p1.places ≡ p.places → p1.waiting.items ≡ p.waiting.items
      → IsAgain is_valid m told p1 s c a q → IsAgain is_valid m told p s c a q
  again_after_room p p1 s c a q stays places queue is = record {
    noted = is.noted;
    may_be = is.may_be;
    moved = go is.noted is.moved;
    step = λ st reached stands. is.step st reached (stays.state st stands);
  }
    where
      go : (noted : Bool) → HasMoved is_valid m told p1 s c a noted q → HasMoved is_valid m told p s c a noted q
      go true goes = goes_after_room p p1 s c (retry_entry s a) q stays goes
      go false kept = record {
        book = kept.book ∙ stays.book;
        prepared = kept.prepared ∙ stays.prepared;
        places = kept.places ∙ places;
        queue = kept.queue ∙ queue;
        state = λ st stands. kept.state st (stays.state st stands);
      }

  -- room in the book
  pub roomy_stays : (p q : Parts C B) → q ≡ record p { book = q.book } → q.book.items ≡ p.book.items → Stays is_valid m told p q
  roomy_stays p q same items = record {
    book = items;
    prepared = ap (λ (x : Parts C B). x.prepared) same;
    state = λ st stands. subst (λ (x : Parts C B). Stands is_valid m told x st) (sym same) (stands_same is_valid m told p (record p { book = q.book }) (record { base = refl; layers = refl; opened = refl; limit = refl; number = refl }) refl refl (λ grants is. is) (λ o. refl) refl st stands);
  }

-- What the parts have of their sessions, where a retry is noted.
use Rattle.std.proofs.Common.{◌≡◌, ◌≤◌, ℕ, zero, suc, ◌+◌, Bool, true, false, cond, not, List, [], ◌∷◌, ◌++◌, length, Option, Some, None, ◌==◌, is_some, IsSome, vec_capacity, Result, Ok, Err, OnErr, refl, sym, ap, subst, ◌∙◌, arith, true≢false, if◌then◌else◌}
use Rattle.std.specs.Ordering.{nat_cmp}
use Rattle.std.specs.BTreeMap.{get}
use Rattle.lock_resources.specs.Intentions.{request}
use Rattle.lock_resources.specs.declared.request.Request.{Request}
use Rattle.tree_model.specs.declared.reply.Reply.{Reply}
use Rattle.call_contract.specs.Books.{Book, open_of, called_again}
use Rattle.call_contract.specs.Sessions.{live_after, live_in}
use Rattle.call_contract.specs.States.{Live, Waiting, others, without}
use Rattle.call_contract.specs.declared.events.Answer.TheVariants as answer
use Rattle.call_contract.specs.declared.events.Noted.{Noted}
use Rattle.call_contract.proofs.Lists.{found_named}
use Rattle.tx_core.specs.Cores.{waits_in}
use Rattle.tx_core.specs.Queues.{times}
use Rattle.tx_core.specs.declared.parts.Parts.{Parts}
use Rattle.tx_core.specs.declared.parts.Seat.{Seat}
use Rattle.tx_core.specs.inside.Standing.{seat_in}
use Rattle.tx_core.specs.inside.Sessions.{wait_of, wait_in, HasCallAt, IsWait, IsToldSeat, HasRoom, IsSeated, IsSeatedAs}
use Rattle.tx_core.specs.inside.Retrying.{call_of, call_at, call_by, call_in, waiting_call, retry_entry, failed_retry}
use Rattle.tx_core.proofs.Booked.{times_without, call_stays, length_without, longer}
use Rattle.tx_core.proofs.Seats.{is_self}
use Rattle.tx_core.proofs.Told.{SameCounts, at_self, live_one, once, plus_none, seated_ends, seated_goes_on, seated_with, told_live, told_waits}

-- one of them fewer
pub one_less : (s : ℕ) (xs : List ℕ) → 1 ≤ times s xs → length (without s xs) + 1 ≤ length xs
one_less s [] e = omega (arith, e)
one_less s (x ∷ xs) e = go (x == s) e (one_less s xs)
  where
    go : (b : Bool) → 1 ≤ (if b then times s xs + 1 else times s xs) → (1 ≤ times s xs → length (without s xs) + 1 ≤ length xs) → length (if not b then x ∷ without s xs else without s xs) + 1 ≤ length (x ∷ xs)
    go true e rest = omega (arith, length_without s xs)
    go false e rest = omega (arith, rest e)

-- what holds holds where there is an error
pub on_err : {T E P : Type 0} (r : Result T E) → P → OnErr r P
on_err (Ok x) p = tt
on_err (Err x) p = p

same_some : {A : Type 0} {x y : A} → Some x ≡ Some y → x ≡ y
same_some e = cc

none_some : {A : Type 0} {x : A} → None ≡ Some x → ⊥
none_some e = cc

module _ {C : Type 0} where
  at_call : (b : Book C) (i : ℕ) (c : C) → HasCallAt b i c → call_at b i ≡ Some c
  at_call [] i c is = absurd (none_some is.there)
  at_call (n ∷ ns) zero c is = ap (λ (x : Noted C). call_of x.event) (same_some is.there) ∙ ap call_of is.call
  at_call (n ∷ ns) (suc k) c is = at_call ns k c (record { entry = is.entry; there = is.there; call = is.call })

  -- the call by what is told of the seat
  abbrev call_waited : Book C → Option (Option ℕ) → Option C
  call_waited b None = None
  call_waited b (Some w) = call_by b w

  call_in_seat : (b : Book C) (x : Option Seat) → call_in b x ≡ call_waited b (wait_of x)
  call_in_seat b None = refl
  call_in_seat b (Some x) = refl

  entry_waited : (b : Book C) (x : Option Seat) → IsSome (call_in b x) → (i : ℕ) × (wait_of x ≡ Some (Some i))
  entry_waited b None e = absurd (true≢false (sym e))
  entry_waited b (Some x) e = go x.waiting e
    where
      go : (w : Option ℕ) → IsSome (call_by b w) → (i : ℕ) × (Some w ≡ Some (Some i))
      go None e = absurd (true≢false (sym e))
      go (Some i) e = (i, refl)

module _ {C B : Type 0} where
  -- who waits with a call has a seat that waits
  pub waits_at : (p : Parts C B) (s : ℕ) → IsSome (waiting_call p s) → (i : ℕ) × (wait_in (get nat_cmp p.places s) ≡ Some (Some i))
  waits_at p s e = entry_waited p.book.items (seat_in (get nat_cmp p.places s)) e

  -- where neither his seat nor the book moved he waits with the same call
  pub calls_same : (p q : Parts C B) (s : ℕ) → wait_in (get nat_cmp q.places s) ≡ wait_in (get nat_cmp p.places s) → q.book.items ≡ p.book.items → waiting_call q s ≡ waiting_call p s
  calls_same p q s seat book =
      call_in_seat q.book.items (seat_in (get nat_cmp q.places s))
      ∙ ap (λ (b : Book C). call_waited b (wait_in (get nat_cmp q.places s))) book
      ∙ ap (call_waited p.book.items) seat
      ∙ sym (call_in_seat p.book.items (seat_in (get nat_cmp p.places s)))

  pub waits_still : (p q : Parts C B) (s : ℕ) → wait_in (get nat_cmp q.places s) ≡ wait_in (get nat_cmp p.places s) → q.book.items ≡ p.book.items → IsSome (waiting_call p s) → IsSome (waiting_call q s)
  waits_still p q s seat book is = subst (λ (o : Option C). IsSome o) (sym (calls_same p q s seat book)) is

  -- a session whose seat waits has a live transaction that waits with the call of the entry
  pub told_waiting : (p : Parts C B) (s i : ℕ) → IsSeated p → wait_in (get nat_cmp p.places s) ≡ Some (Some i)
      → (t : Live C) × (w : Waiting C) × (live_in p.book.items s ≡ Some t) × (t.waits ≡ Some w) × HasCallAt p.book.items i w.call
  told_waiting p s i is there = let told = told_live p s (Some i) is there in go told.0 told.1 told.0.waits refl told.2
    where
      go : (t : Live C) → live_in p.book.items s ≡ Some t → (v : Option (Waiting C)) → t.waits ≡ v → IsWait p.book.items (Some i) v
          → (t : Live C) × (w : Waiting C) × (live_in p.book.items s ≡ Some t) × (t.waits ≡ Some w) × HasCallAt p.book.items i w.call
      go t e None f is = absurd is
      go t e (Some w) f is = (t, w, e, f, is)

  pub waits_with : (p : Parts C B) (s i : ℕ) (c : C) → wait_in (get nat_cmp p.places s) ≡ Some (Some i) → HasCallAt p.book.items i c → waiting_call p s ≡ Some c
  waits_with p s i c there is = call_in_seat p.book.items (seat_in (get nat_cmp p.places s)) ∙ ap (call_waited p.book.items) there ∙ at_call p.book.items i c is

  -- who waits by the book has a seat that waits
  pub seat_waits : (p : Parts C B) (s : ℕ) → IsSeated p → waits_in (live_in p.book.items s) ≡ true → (i : ℕ) × (wait_in (get nat_cmp p.places s) ≡ Some (Some i))
  seat_waits p s is waits = go (wait_in (get nat_cmp p.places s)) refl (live_in p.book.items s) waits (is.seats s)
    where
      go : (w : Option (Option ℕ)) → wait_in (get nat_cmp p.places s) ≡ w → (o : Option (Live C)) → waits_in o ≡ true → IsToldSeat p.book.items w o → (i : ℕ) × (wait_in (get nat_cmp p.places s) ≡ Some (Some i))
      go None e None f is = absurd (true≢false (sym f))
      go None e (Some t) f is = absurd is
      go (Some w) e None f is = absurd is
      go (Some None) e (Some t) f is = absurd (true≢false (sym f ∙ told_waits p.book.items None t.waits is))
      go (Some (Some i)) e (Some t) f is = (i, e)

  queued : (p : Parts C B) (s i : ℕ) → IsSeated p → wait_in (get nat_cmp p.places s) ≡ Some (Some i) → times s p.waiting.items ≡ 1
  queued p s i is there = let told = told_waiting p s i is there in is.waits s ∙ ap (λ (o : Option (Live C)). once (waits_in o)) told.2 ∙ ap (λ (w : Option (Waiting C)). once (is_some w)) told.3

  -- the book has a place for an entry of a session that waits
  pub entry_room : (p : Parts C B) (s i : ℕ) → IsSeated p → wait_in (get nat_cmp p.places s) ≡ Some (Some i) → length p.book.items + 1 ≤ vec_capacity p.book
  entry_room p s i is there = omega (arith, is.room, live_one p s (Some i) is there)

  -- that place is taken where the session waits no more
  pub rest_room : (p q : Parts C B) (s i : ℕ) (n : Noted C) → IsSeated p → wait_in (get nat_cmp p.places s) ≡ Some (Some i)
      → q.book.items ≡ p.book.items ++ n ∷ [] → q.waiting.items ≡ without s p.waiting.items → q.live ≡ p.live → vec_capacity p.book ≤ vec_capacity q.book → HasRoom 0 q
  rest_room p q s i n is there adds queue live capacity = omega (arith, is.room, ap length adds, longer p.book.items n, ap length queue, one_less s p.waiting.items (omega (arith, queued p s i is there)), live, capacity)

  -- a waiting call was answered
  pub seated_answers_again : (p q : Parts C B) (s i : ℕ) (r : Reply) → IsSeated p → wait_in (get nat_cmp p.places s) ≡ Some (Some i) → SameCounts p q
      → ((o : ℕ) → wait_in (get nat_cmp q.places o) ≡ cond (s == o) (Some None) (wait_in (get nat_cmp p.places o))) → q.waiting.items ≡ without s p.waiting.items → q.number ≡ p.number → q.live ≡ p.live
      → q.book.items ≡ p.book.items ++ retry_entry s (answer.Answered r) ∷ [] → vec_capacity p.book ≤ vec_capacity q.book → q.layers ≡ p.layers → IsSeatedAs p q
  seated_answers_again p q s i r is there same seats queue number live adds capacity layers =
      let n : Noted C = retry_entry s (answer.Answered r) in
      let ts = live_after [] p.book.items in
      let told = told_waiting p s i is there in
      let t : Live C = record told.0 { calls = told.0.calls ++ record { call = told.1.call; reply = r } ∷ []; waits = None } in
      let named : told.0.session ≡ s = found_named s ts told.0 told.2 in
      seated_goes_on p q n None t told.0 is same adds refl refl told.2 named
      (ap (λ (o : Option (Live C)). open_of s o n.event n.answer ts) told.2 ∙ ap (λ (w : Option (Waiting C)). called_again told.0 w n.answer ts) told.3)
      seats tt queue (λ o. times_without s o p.waiting.items) number live (rest_room p q s i n is there adds queue live capacity) layers

  -- it waits again
  pub seated_waits_again : (p q : Parts C B) (s i : ℕ) (g : Request) (hs : List ℕ) → IsSeated p → wait_in (get nat_cmp p.places s) ≡ Some (Some i) → SameCounts p q
      → q.places ≡ p.places → q.waiting.items ≡ p.waiting.items → q.number ≡ p.number → q.live ≡ p.live
      → q.book.items ≡ p.book.items ++ retry_entry s (answer.Waits g.resource g.ask hs) ∷ [] → HasRoom 0 q → q.layers ≡ p.layers → IsSeatedAs p q
  seated_waits_again p q s i g hs is there same places queue number live adds room layers =
      let n : Noted C = retry_entry s (answer.Waits g.resource g.ask hs) in
      let ts = live_after [] p.book.items in
      let told = told_waiting p s i is there in
      let t : Live C = record told.0 { waits = Some (record { call = told.1.call; request = request g.resource g.ask }) } in
      let named : told.0.session ≡ s = found_named s ts told.0 told.2 in
      seated_goes_on p q n (Some i) t told.0 is same adds refl refl told.2 named
      (ap (λ (o : Option (Live C)). open_of s o n.event n.answer ts) told.2 ∙ ap (λ (w : Option (Waiting C)). called_again told.0 w n.answer ts) told.3)
      (λ o. ap (λ x. wait_in (get nat_cmp x o)) places ∙ at_self p s (Some i) o there (s == o) refl)
      (call_stays p.book.items (n ∷ []) i told.1.call told.4) queue (λ o. in_queue o (s == o) refl) number live room layers
    where
      in_queue : (o : ℕ) (b : Bool) → (s == o) ≡ b → times o p.waiting.items ≡ cond b 1 (times o p.waiting.items)
      in_queue o true e = ap (λ (x : ℕ). times x p.waiting.items) (sym (is_self s o e)) ∙ queued p s i is there
      in_queue o false e = refl

  -- its retry was a deadlock
  pub seated_closes_again : (p q : Parts C B) (s i : ℕ) (cycle : List ℕ) → IsSeated p → wait_in (get nat_cmp p.places s) ≡ Some (Some i) → SameCounts p q
      → ((o : ℕ) → wait_in (get nat_cmp q.places o) ≡ cond (s == o) None (wait_in (get nat_cmp p.places o))) → q.waiting.items ≡ without s p.waiting.items → q.number ≡ p.number → q.live + 1 ≡ p.live
      → q.book.items ≡ p.book.items ++ retry_entry s (answer.Deadlock cycle) ∷ [] → vec_capacity p.book ≤ vec_capacity q.book → q.layers ≡ p.layers → IsSeatedAs p q
  seated_closes_again p q s i cycle is there same seats queue number live adds capacity layers =
      let n : Noted C = retry_entry s (answer.Deadlock cycle) in
      let ts = live_after [] p.book.items in
      let told = told_waiting p s i is there in
      let named : told.0.session ≡ s = found_named s ts told.0 told.2 in
      seated_with p q (
      seated_ends p q n told.0 is same adds refl told.2
      (ap (λ (o : Option (Live C)). open_of s o n.event n.answer ts) told.2 ∙ ap (λ (w : Option (Waiting C)). called_again told.0 w n.answer ts) told.3 ∙ ap (λ (x : ℕ). others x ts) named)
      seats refl queue (number ∙ plus_none p.number _ refl) (omega (arith)) live capacity) layers

  -- its retry failed
  pub seated_fails_again : (p q : Parts C B) (s i k : ℕ) (f : Option ℕ) → IsSeated p → wait_in (get nat_cmp p.places s) ≡ Some (Some i) → SameCounts p q
      → ((o : ℕ) → wait_in (get nat_cmp q.places o) ≡ cond (s == o) (Some None) (wait_in (get nat_cmp p.places o))) → q.waiting.items ≡ without s p.waiting.items → q.number ≡ p.number → q.live ≡ p.live
      → q.book.items ≡ p.book.items ++ failed_retry s k f ∷ [] → vec_capacity p.book ≤ vec_capacity q.book → q.layers ≡ p.layers → IsSeatedAs p q
  seated_fails_again p q s i k f is there same seats queue number live adds capacity layers =
      let n : Noted C = failed_retry s k f in
      let ts = live_after [] p.book.items in
      let told = told_waiting p s i is there in
      let t : Live C = record told.0 { waits = None } in
      let named : told.0.session ≡ s = found_named s ts told.0 told.2 in
      seated_goes_on p q n None t told.0 is same adds refl refl told.2 named
      (ap (λ (o : Option (Live C)). open_of s o n.event n.answer ts) told.2)
      seats tt queue (λ o. times_without s o p.waiting.items) number live (rest_room p q s i n is there adds queue live capacity) layers

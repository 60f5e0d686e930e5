-- What the parts have of their sessions, where an entry is noted.
use Rattle.std.proofs.Common.{◌≡◌, ◌≤◌, ◌<◌, ℕ, ◌+◌, Bool, true, false, cond, List, [], ◌∷◌, ◌++◌, length, Option, Some, None, ◌==◌, is_some, IsSome, Result, Ok, Err, OnOk, vec_capacity, refl, sym, ap, ap₂, subst, ◌∙◌, arith, if◌then◌else◌}
use Rattle.std.specs.Ordering.{nat_cmp}
use Rattle.std.specs.BTreeMap.{get}
use Rattle.outside_traits.specs.Faults.{HasCause, FaultCounted}
use Rattle.lock_resources.specs.Intentions.{request}
use Rattle.lock_resources.specs.declared.request.Request.{Request}
use Rattle.tree_model.specs.declared.reply.Reply.{Reply}
use Rattle.call_contract.specs.Books.{Book, open_after, entry, open_of}
use Rattle.call_contract.specs.Sessions.{live_after, live_in, queue_after, queued_by, begins, begins_of, commits_in, is_begin, is_commit}
use Rattle.call_contract.specs.States.{Live, Waiting, of_session, put, others, without}
use Rattle.call_contract.specs.Steps.{new_live}
use Rattle.call_contract.specs.declared.events.Answer.TheVariants as answer
use Rattle.call_contract.specs.declared.events.Event.TheVariants as event
use Rattle.call_contract.specs.declared.events.EventAnswer.TheVariants as said
use Rattle.call_contract.specs.declared.events.Noted.{Noted}
use Rattle.call_contract.proofs.Appends.{live_append, queue_append, begins_append, begins_of_append, commits_append}
use Rattle.call_contract.proofs.Lists.{found_named}
use Rattle.tx_core.specs.Cores.{waits_in}
use Rattle.tx_core.specs.Queues.{times}
use Rattle.tx_core.specs.inside.Committing.{IsReady, KeepsPrepared, commit_refused}
use Rattle.overlays.specs.Layered.{Layered}
use Rattle.tx_core.specs.Refusals.{refused_begin, refused_call}
use Rattle.tx_core.specs.declared.parts.Parts.{Parts}
use Rattle.tx_core.specs.declared.parts.Seat.{Seat}
use Rattle.tx_core.specs.inside.Standing.{seat_in, ordinal_in}
use Rattle.tx_core.specs.inside.Goes.{call_entry, fail_entry}
use Rattle.tx_core.specs.inside.Sessions.{wait_of, wait_in, IsWait, IsToldSeat, HasRoom, IsSeated, IsSeatedAs, IsSeatedFor}
use Rattle.tx_core.proofs.Booked.{times_without, times_behind, length_without, at_end, live_rises, length_put_new, length_put_old, length_others, told_stays, no_begin, no_begin_of, no_commit, begins_of_all}
use Rattle.tx_core.proofs.Seats.{told_put, told_out, is_self, not_equal}
use Rattle.tx_core.specs.declared.errors.SessionError.TheVariants.{IsWaiting, TxLimit}

abbrev pub once : Bool → ℕ
once b = if b then 1 else 0

-- ---- the session whose commit was prepared

pub is_ready : (x : Option Seat) → wait_of x ≡ Some None → IsReady x
is_ready None e = absurd (apart e)
  where
    apart : {A : Type 0} {w : A} → None ≡ Some w → ⊥
    apart e = cc
is_ready (Some seat) e = cc

pub ready_waits : (x : Option Seat) → IsReady x → wait_of x ≡ Some None
ready_waits None is = absurd is
ready_waits (Some seat) is = ap Some is

pub may_call : (x : Option Seat) → commit_refused x ≡ None → wait_of x ≡ Some None
may_call None e = cc
may_call (Some seat) e = ap Some (none_of seat.waiting e)
  where
    none_of : (w : Option ℕ) → cond (is_some w) (Some IsWaiting) None ≡ None → w ≡ None
    none_of None e = refl
    none_of (Some i) e = cc

pub none_prepared : {C B : Type 0} (q : Parts C B) → q.prepared ≡ None → KeepsPrepared q
none_prepared q none s some = absurd (apart (sym none ∙ some))
  where
    apart : {A : Type 0} {w : A} → None ≡ Some w → ⊥
    apart e = cc

pub has_seat : {w : Option ℕ} (x : Option Seat) → wait_of x ≡ Some w → IsSome x
has_seat None e = absurd (apart e)
  where
    apart : {A : Type 0} {w : A} → None ≡ Some w → ⊥
    apart e = cc
has_seat (Some x) e = refl

pub plus_none : (x k : ℕ) → k ≡ 0 → x ≡ x + k
plus_none x k e = omega (arith, e)

module _ {C : Type 0} where
  -- whether it waits
  pub told_waits : (b : Book C) (w : Option ℕ) (v : Option (Waiting C)) → IsWait b w v → is_some v ≡ is_some w
  told_waits b None None is = refl
  told_waits b None (Some v) is = absurd is
  told_waits b (Some i) None is = absurd is
  told_waits b (Some i) (Some v) is = refl

  -- the session's transaction goes on as this one
  told_next : (b : Book C) (n : Noted C) (t : Live C) → open_after (live_after [] b) n ≡ put t (live_after [] b) → t.session ≡ n.session
      → (o : ℕ) → of_session o (open_after (live_after [] b) n) ≡ cond (n.session == o) (Some t) (live_in b o)
  told_next b n t goes named o = ap (of_session o) goes ∙ sym (told_put (λ x. x) (live_after [] b) n.session t (Some t) named refl o)

  told_end : (b : Book C) (n : Noted C) → open_after (live_after [] b) n ≡ others n.session (live_after [] b)
      → (o : ℕ) → of_session o (open_after (live_after [] b) n) ≡ cond (n.session == o) None (live_in b o)
  told_end b n ends o = ap (of_session o) ends ∙ sym (told_out (λ x. x) (live_after [] b) n.session o)

  same_length : (b : Book C) (t u : Live C) → live_in b t.session ≡ Some u → length (put t (live_after [] b)) ≡ length (live_after [] b)
  same_length b t u found = length_put_old t (live_after [] b) u (live_rises [] b tt) found

-- ---- nothing of the sessions moved

-- what is told of the sessions is as it was
pub record SameSeats {C B : Type 0} (p q : Parts C B) : Type 0 where
  pub seats : (o : ℕ) → wait_in (get nat_cmp q.places o) ≡ wait_in (get nat_cmp p.places o)
  pub ordinals : (o : ℕ) → ordinal_in (get nat_cmp q.places o) ≡ ordinal_in (get nat_cmp p.places o)
  pub queue : q.waiting.items ≡ p.waiting.items
  pub book : q.book.items ≡ p.book.items
  pub opened : q.opened ≡ p.opened
  pub limit : q.limit ≡ p.limit
  pub number : q.number ≡ p.number
  pub begun : q.begun ≡ p.begun
  pub live : q.live ≡ p.live
  pub prepared : q.prepared ≡ p.prepared
  pub layers : q.layers ≡ p.layers

module _ {C B : Type 0} where
  pub seated_same : (p q : Parts C B) → IsSeated p → SameSeats p q → HasRoom 0 q → IsSeatedAs p q
  seated_same p q is same room = record {
    seated = record {
      seats = λ s. subst (λ (b : Book C). IsToldSeat b (wait_in (get nat_cmp q.places s)) (live_in b s)) (sym same.book)
          (subst (λ (w : Option (Option ℕ)). IsToldSeat p.book.items w (live_in p.book.items s)) (sym (same.seats s)) (is.seats s));
      ordinals = λ s. same.ordinals s ∙ is.ordinals s ∙ ap (λ (b : Book C). begins_of b s) (sym same.book);
      queue = same.queue ∙ is.queue ∙ ap (λ (b : Book C). queue_after [] b) (sym same.book);
      waits = λ s. ap (times s) same.queue ∙ is.waits s ∙ ap (λ (b : Book C). once (waits_in (live_in b s))) (sym same.book);
      begun = same.begun ∙ is.begun ∙ ap (λ (b : Book C). begins b) (sym same.book);
      number = same.number ∙ is.number ∙ ap₂ (λ (x : ℕ) (b : Book C). x + commits_in b) (sym same.opened) (sym same.book);
      live = same.live ∙ is.live ∙ ap (λ (b : Book C). length (live_after [] b)) (sym same.book);
      limited = omega (arith, is.limited, same.opened, same.begun, same.limit);
      fits = omega (arith, is.fits, same.limit);
      numbered = omega (arith, is.numbered, same.opened, same.begun, same.number, same.live);
      room = room;
      prepared = λ s some.
          let was = is.prepared s (sym same.prepared ∙ some) in
          (is_ready (seat_in (get nat_cmp q.places s)) (same.seats s ∙ ready_waits (seat_in (get nat_cmp p.places s)) was.0), subst (λ (l : Layered). 1 ≤ l.spare) (sym same.layers) was.1);
    };
    opened = same.opened;
    limit = same.limit;
    layers = same.layers;
  }

  -- room stays where the book does
  pub room_same : (k : ℕ) (p q : Parts C B) → SameSeats p q → vec_capacity p.book ≤ vec_capacity q.book → HasRoom k p → HasRoom k q
  room_same k p q same capacity room = omega (arith, room, capacity, same.live, ap length same.queue, ap length same.book)

  pub less_room : (k j : ℕ) (p : Parts C B) → j ≤ k → HasRoom k p → HasRoom j p
  less_room k j p less room = omega (arith, less, room)

  pub seated_on : (p q r : Parts C B) → IsSeatedAs p q → IsSeatedAs q r → IsSeatedAs p r
  seated_on p q r one two = record { seated = two.seated; opened = two.opened ∙ one.opened; limit = two.limit ∙ one.limit; layers = two.layers ∙ one.layers }

  pub seated_itself : (p : Parts C B) → IsSeated p → IsSeatedAs p p
  seated_itself p is = record { seated = is; opened = refl; limit = refl; layers = refl }

  -- whatever its layers are, and with those of before
  pub seated_for : (p q : Parts C B) → IsSeatedAs p q → IsSeatedFor p q
  seated_for p q is = record { seated = is.seated; opened = is.opened; limit = is.limit }

  pub seated_with : (p q : Parts C B) → IsSeatedFor p q → q.layers ≡ p.layers → IsSeatedAs p q
  seated_with p q is layers = record { seated = is.seated; opened = is.opened; limit = is.limit; layers = layers }

  -- ---- what is told of a seat

  -- a session that has a seat has a live transaction
  pub told_live : (p : Parts C B) (s : ℕ) (w : Option ℕ) → IsSeated p → wait_in (get nat_cmp p.places s) ≡ Some w → (t : Live C) × (live_in p.book.items s ≡ Some t) × IsWait p.book.items w t.waits
  told_live p s w is there = go (live_in p.book.items s) refl (subst (λ (x : Option (Option ℕ)). IsToldSeat p.book.items x (live_in p.book.items s)) there (is.seats s))
    where
      go : (o : Option (Live C)) → live_in p.book.items s ≡ o → IsToldSeat p.book.items (Some w) o → (t : Live C) × (live_in p.book.items s ≡ Some t) × IsWait p.book.items w t.waits
      go None e is = absurd is
      go (Some t) e is = (t, e, is)

  pub told_none : (p : Parts C B) (s : ℕ) → IsSeated p → wait_in (get nat_cmp p.places s) ≡ None → live_in p.book.items s ≡ None
  told_none p s is there = go (live_in p.book.items s) (subst (λ (x : Option (Option ℕ)). IsToldSeat p.book.items x (live_in p.book.items s)) there (is.seats s))
    where
      go : (o : Option (Live C)) → IsToldSeat p.book.items None o → o ≡ None
      go None is = refl
      go (Some t) is = absurd is

  -- ---- an entry is noted

  -- what an entry leaves, by the live transactions after it and what there is then of its session
  pub seated_after : (p q : Parts C B) (n : Noted C) (w : Option (Option ℕ)) (x : Option (Live C)) → IsSeated p
      → q.book.items ≡ p.book.items ++ n ∷ []
      → ((o : ℕ) → of_session o (open_after (live_after [] p.book.items) n) ≡ cond (n.session == o) x (live_in p.book.items o))
      → ((o : ℕ) → wait_in (get nat_cmp q.places o) ≡ cond (n.session == o) w (wait_in (get nat_cmp p.places o)))
      → IsToldSeat (p.book.items ++ n ∷ []) w x
      → ((o : ℕ) → ordinal_in (get nat_cmp q.places o) ≡ ordinal_in (get nat_cmp p.places o) + begins_of (n ∷ []) o)
      → q.waiting.items ≡ queued_by n.session n.event n.answer p.waiting.items
      → ((o : ℕ) → times o (queued_by n.session n.event n.answer p.waiting.items) ≡ cond (n.session == o) (once (waits_in x)) (times o p.waiting.items))
      → q.begun ≡ p.begun + begins (n ∷ []) → q.number ≡ p.number + commits_in (n ∷ []) → q.live ≡ length (open_after (live_after [] p.book.items) n)
      → q.opened ≡ p.opened → q.limit ≡ p.limit → q.opened + q.begun ≤ q.limit → q.number + q.live ≤ q.opened + q.begun → HasRoom 0 q → q.prepared ≡ None
      → IsSeatedFor p q
  seated_after p q n w x is adds found seats here ordinals queue waits begun number live opened limit limited numbered room free =
      let ts = live_after [] p.book.items in
      let told : live_after [] q.book.items ≡ open_after ts n = ap (λ (b : Book C). live_after [] b) adds ∙ live_append [] p.book.items (n ∷ []) in
      let one : (o : ℕ) → live_in q.book.items o ≡ cond (n.session == o) x (live_in p.book.items o) = λ o. ap (of_session o) told ∙ found o in
      record {
        seated = record {
          seats = λ o. subst (λ (b : Book C). IsToldSeat b (wait_in (get nat_cmp q.places o)) (live_in q.book.items o)) (sym adds) (seat o (n.session == o) (seats o) (one o));
          ordinals = λ o. ordinals o ∙ ap (λ k. k + begins_of (n ∷ []) o) (is.ordinals o) ∙ sym (ap (λ (b : Book C). begins_of b o) adds ∙ begins_of_append p.book.items (n ∷ []) o);
          queue = queue ∙ ap (queued_by n.session n.event n.answer) is.queue ∙ sym (ap (λ (b : Book C). queue_after [] b) adds ∙ queue_append [] p.book.items (n ∷ []));
          waits = λ o. ap (times o) queue ∙ waits o ∙ both o (n.session == o) (is.waits o) ∙ sym (ap (λ (y : Option (Live C)). once (waits_in y)) (one o));
          begun = begun ∙ ap (λ k. k + begins (n ∷ [])) is.begun ∙ sym (ap (λ (b : Book C). begins b) adds ∙ begins_append p.book.items (n ∷ []));
          number = count number is.number opened (ap (λ (b : Book C). commits_in b) adds ∙ commits_append p.book.items (n ∷ []));
          live = live ∙ sym (ap length told);
          limited = limited;
          fits = omega (arith, is.fits, limit);
          numbered = numbered;
          room = room;
          prepared = none_prepared q free;
        };
        opened = opened;
        limit = limit;
      }
    where
      seat : (o : ℕ) (b : Bool) → wait_in (get nat_cmp q.places o) ≡ cond b w (wait_in (get nat_cmp p.places o)) → live_in q.book.items o ≡ cond b x (live_in p.book.items o)
          → IsToldSeat (p.book.items ++ n ∷ []) (wait_in (get nat_cmp q.places o)) (live_in q.book.items o)
      seat o true e f = subst (λ (y : Option (Option ℕ)). IsToldSeat (p.book.items ++ n ∷ []) y (live_in q.book.items o)) (sym e) (subst (IsToldSeat (p.book.items ++ n ∷ []) w) (sym f) here)
      seat o false e f =
          subst (λ (y : Option (Option ℕ)). IsToldSeat (p.book.items ++ n ∷ []) y (live_in q.book.items o)) (sym e)
          (subst (IsToldSeat (p.book.items ++ n ∷ []) (wait_in (get nat_cmp p.places o))) (sym f) (told_stays p.book.items (n ∷ []) (wait_in (get nat_cmp p.places o)) (live_in p.book.items o) (is.seats o)))

      both : (o : ℕ) (b : Bool) → times o p.waiting.items ≡ once (waits_in (live_in p.book.items o)) → cond b (once (waits_in x)) (times o p.waiting.items) ≡ once (waits_in (cond b x (live_in p.book.items o)))
      both o true e = refl
      both o false e = e

      count : q.number ≡ p.number + commits_in (n ∷ []) → p.number ≡ p.opened + commits_in p.book.items → q.opened ≡ p.opened → commits_in q.book.items ≡ commits_in p.book.items + commits_in (n ∷ [])
          → q.number ≡ q.opened + commits_in q.book.items
      count e f g h = omega (arith, e, f, g, h)

  -- ---- by kinds of entries

  -- the parts that most entries leave
  pub record SameCounts (p q : Parts C B) : Type 0 where
    pub ordinals : (o : ℕ) → ordinal_in (get nat_cmp q.places o) ≡ ordinal_in (get nat_cmp p.places o)
    pub opened : q.opened ≡ p.opened
    pub limit : q.limit ≡ p.limit
    pub begun : q.begun ≡ p.begun
    pub prepared : q.prepared ≡ None

  -- a transaction goes on, and waits as is told or not at all
  pub seated_goes_on : (p q : Parts C B) (n : Noted C) (w : Option ℕ) (t u : Live C) → IsSeated p → SameCounts p q
      → q.book.items ≡ p.book.items ++ n ∷ [] → is_begin n.event ≡ false → is_commit n.event ≡ false
      → live_in p.book.items n.session ≡ Some u → t.session ≡ n.session → open_after (live_after [] p.book.items) n ≡ put t (live_after [] p.book.items)
      → ((o : ℕ) → wait_in (get nat_cmp q.places o) ≡ cond (n.session == o) (Some w) (wait_in (get nat_cmp p.places o)))
      → IsWait (p.book.items ++ n ∷ []) w t.waits
      → q.waiting.items ≡ queued_by n.session n.event n.answer p.waiting.items
      → ((o : ℕ) → times o (queued_by n.session n.event n.answer p.waiting.items) ≡ cond (n.session == o) (once (is_some t.waits)) (times o p.waiting.items))
      → q.number ≡ p.number → q.live ≡ p.live → HasRoom 0 q
      → q.layers ≡ p.layers → IsSeatedAs p q
  seated_goes_on p q n w t u is same adds begins commits found named goes seats here queue waits number live room layers =
      let kept : q.begun ≡ p.begun + Rattle.call_contract.specs.Sessions.begins (n ∷ []) = same.begun ∙ plus_none p.begun _ (no_begin n begins) in
      seated_with p q (
      seated_after p q n (Some w) (Some t) is adds (told_next p.book.items n t goes named) seats here
      (λ o. same.ordinals o ∙ plus_none (ordinal_in (get nat_cmp p.places o)) _ (no_begin_of n o begins)) queue waits kept
      (number ∙ plus_none p.number _ (no_commit n commits))
      (live ∙ is.live ∙ sym (ap length goes ∙ same_length p.book.items t u (ap (live_in p.book.items) named ∙ found)))
      same.opened same.limit (omega (arith, is.limited, same.opened, same.begun, same.limit)) (omega (arith, is.numbered, same.opened, same.begun, number, live)) room same.prepared) layers

  -- a transaction ends; by a commit the number rises
  pub seated_ends : (p q : Parts C B) (n : Noted C) (u : Live C) → IsSeated p → SameCounts p q
      → q.book.items ≡ p.book.items ++ n ∷ [] → is_begin n.event ≡ false
      → live_in p.book.items n.session ≡ Some u → open_after (live_after [] p.book.items) n ≡ others n.session (live_after [] p.book.items)
      → ((o : ℕ) → wait_in (get nat_cmp q.places o) ≡ cond (n.session == o) None (wait_in (get nat_cmp p.places o)))
      → queued_by n.session n.event n.answer p.waiting.items ≡ without n.session p.waiting.items
      → q.waiting.items ≡ without n.session p.waiting.items
      → q.number ≡ p.number + commits_in (n ∷ []) → commits_in (n ∷ []) ≤ 1 → q.live + 1 ≡ p.live → vec_capacity p.book ≤ vec_capacity q.book
      → IsSeatedFor p q
  seated_ends p q n u is same adds begins found ends seats by queue number once live capacity =
      let shorter = length_others n.session (live_after [] p.book.items) u (live_rises [] p.book.items tt) found in
      let kept : q.begun ≡ p.begun + Rattle.call_contract.specs.Sessions.begins (n ∷ []) = same.begun ∙ plus_none p.begun _ (no_begin n begins) in
      let fewer : length (without n.session p.waiting.items) ≤ length p.waiting.items = length_without n.session p.waiting.items in
      seated_after p q n None None is adds (told_end p.book.items n ends) seats tt
      (λ o. same.ordinals o ∙ plus_none (ordinal_in (get nat_cmp p.places o)) _ (no_begin_of n o begins)) (queue ∙ sym by)
      (λ o. ap (times o) by ∙ times_without n.session o p.waiting.items) kept number
      (count (length (others n.session (live_after [] p.book.items))) live is.live shorter ∙ sym (ap length ends))
      same.opened same.limit (omega (arith, is.limited, same.opened, same.begun, same.limit))
      (omega (arith, is.numbered, same.opened, same.begun, number, once, live))
      (full (is.room) capacity (ap length queue) fewer live (ap length adds ∙ longer p.book.items)) same.prepared
    where
      count : (k : ℕ) → q.live + 1 ≡ p.live → p.live ≡ length (live_after [] p.book.items) → k + 1 ≡ length (live_after [] p.book.items) → q.live ≡ k
      count k e f g = omega (arith, e, f, g)

      longer : (b : Book C) → length (b ++ n ∷ []) ≡ length b + 1
      longer [] = omega (arith)
      longer (x ∷ xs) = omega (arith, longer xs)

      full : HasRoom 0 p → vec_capacity p.book ≤ vec_capacity q.book → length q.waiting.items ≡ length (without n.session p.waiting.items) → length (without n.session p.waiting.items) ≤ length p.waiting.items
          → q.live + 1 ≡ p.live → length q.book.items ≡ length p.book.items + 1 → HasRoom 0 q
      full a b c d e f = omega (arith, a, b, c, d, e, f)

  pub live_one : (p : Parts C B) (s : ℕ) (w : Option ℕ) → IsSeated p → wait_in (get nat_cmp p.places s) ≡ Some w → 1 ≤ p.live
  live_one p s w is there =
      let live = told_live p s w is there in
      let shorter = length_others s (live_after [] p.book.items) live.0 (live_rises [] p.book.items tt) live.1 in
      omega (arith, is.live, shorter)

  ordinal_moves : (p q : Parts C B) (s ordinal : ℕ) → ordinal ≡ ordinal_in (get nat_cmp p.places s) + 1
      → ((o : ℕ) → ordinal_in (get nat_cmp q.places o) ≡ cond (s == o) ordinal (ordinal_in (get nat_cmp p.places o)))
      → (o : ℕ) → ordinal_in (get nat_cmp q.places o) ≡ ordinal_in (get nat_cmp p.places o) + begins_of (entry {C = C} s event.Begin (said.Number ordinal) ∷ []) o
  ordinal_moves p q s ordinal is ordinals o = go (s == o) refl (ordinals o)
    where
      count : Bool → ℕ
      count b = length (if b then entry {C = C} s event.Begin (said.Number ordinal) ∷ [] else [])

      and_true : (b : Bool) → (Rattle.std.specs.Prelude.◌&&◌ b true) ≡ b
      and_true true = refl
      and_true false = refl

      go : (b : Bool) → (s == o) ≡ b → ordinal_in (get nat_cmp q.places o) ≡ cond b ordinal (ordinal_in (get nat_cmp p.places o))
          → ordinal_in (get nat_cmp q.places o) ≡ ordinal_in (get nat_cmp p.places o) + begins_of (entry {C = C} s event.Begin (said.Number ordinal) ∷ []) o
      go true e f = f ∙ is ∙ ap₂ (λ (x y : ℕ). ordinal_in (get nat_cmp p.places x) + y) (is_self s o e) (sym (ap count (and_true (s == o) ∙ e)))
      go false e f = f ∙ plus_none (ordinal_in (get nat_cmp p.places o)) _ (ap count (and_true (s == o) ∙ e))

  -- a transaction begins
  pub seated_begins : (p q : Parts C B) (s ordinal : ℕ) → IsSeated p → wait_in (get nat_cmp p.places s) ≡ None → (p.opened + p.begun ≡ p.limit → ⊥) → ordinal ≡ ordinal_in (get nat_cmp p.places s) + 1
      → q.book.items ≡ p.book.items ++ entry s event.Begin (said.Number ordinal) ∷ []
      → ((o : ℕ) → wait_in (get nat_cmp q.places o) ≡ cond (s == o) (Some None) (wait_in (get nat_cmp p.places o)))
      → ((o : ℕ) → ordinal_in (get nat_cmp q.places o) ≡ cond (s == o) ordinal (ordinal_in (get nat_cmp p.places o)))
      → q.opened ≡ p.opened → q.limit ≡ p.limit → q.number ≡ p.number → q.begun ≡ p.begun + 1 → q.live ≡ p.live + 1 → q.waiting.items ≡ p.waiting.items → HasRoom 0 q → q.prepared ≡ None
      → q.layers ≡ p.layers → IsSeatedAs p q
  seated_begins p q s ordinal is free below rank adds seats ordinals opened limit number begun live queue room none_is layers =
      let n = entry {C = C} s event.Begin (said.Number ordinal) in
      let ts = live_after [] p.book.items in
      let none = told_none p s is free in
      let new : Live C = new_live s ordinal in
      let goes : open_after ts n ≡ put new ts = ap (λ (o : Option (Live C)). open_of s o event.Begin (said.Number ordinal) ts) none in
      seated_with p q (
      seated_after p q n (Some None) (Some new) is adds (told_next p.book.items n new goes refl) seats tt (ordinal_moves p q s ordinal rank ordinals) queue
      (λ o. not_in o (s == o) refl) begun (number ∙ plus_none p.number _ refl)
      (live ∙ ap (λ k. k + 1) is.live ∙ sym (ap length goes ∙ length_put_new new ts none))
      opened limit (fits is.limited below opened begun limit) (omega (arith, is.numbered, opened, begun, number, live)) room none_is) layers
    where
      not_in : (o : ℕ) (b : Bool) → (s == o) ≡ b → times o p.waiting.items ≡ cond b 0 (times o p.waiting.items)
      not_in o true e = ap (λ (x : ℕ). times x p.waiting.items) (sym (is_self s o e)) ∙ is.waits s ∙ ap (λ (y : Option (Live C)). once (waits_in y)) (told_none p s is free)
      not_in o false e = refl

      fits : p.opened + p.begun ≤ p.limit → (p.opened + p.begun ≡ p.limit → ⊥) → q.opened ≡ p.opened → q.begun ≡ p.begun + 1 → q.limit ≡ p.limit → q.opened + q.begun ≤ q.limit
      fits a b c d e = omega (arith, a, b, c, d, e)

-- ---- waits of seats that move

pub wait_put : (s : ℕ) (seat : Seat) (old new : ℕ → Option Seat) → ((o : ℕ) → new o ≡ cond (s == o) (Some seat) (old o)) → (o : ℕ) → wait_of (new o) ≡ cond (s == o) (Some seat.waiting) (wait_of (old o))
wait_put s seat old new is o = ap wait_of (is o) ∙ go (s == o)
  where
    go : (b : Bool) → wait_of (cond b (Some seat) (old o)) ≡ cond b (Some seat.waiting) (wait_of (old o))
    go true = refl
    go false = refl

pub wait_out : (s : ℕ) (old new : ℕ → Option Seat) → ((o : ℕ) → new o ≡ cond (s == o) None (old o)) → (o : ℕ) → wait_of (new o) ≡ cond (s == o) None (wait_of (old o))
wait_out s old new is o = ap wait_of (is o) ∙ go (s == o)
  where
    go : (b : Bool) → wait_of (cond b None (old o)) ≡ cond b None (wait_of (old o))
    go true = refl
    go false = refl

module _ {C B : Type 0} where
  pub at_self : (p : Parts C B) (s : ℕ) (w : Option ℕ) → (o : ℕ) → wait_in (get nat_cmp p.places s) ≡ Some w → (b : Bool) → (s == o) ≡ b → wait_in (get nat_cmp p.places o) ≡ cond b (Some w) (wait_in (get nat_cmp p.places o))
  at_self p s w o is true e = ap (λ (x : ℕ). wait_in (get nat_cmp p.places x)) (sym (is_self s o e)) ∙ is
  at_self p s w o is false e = refl

  -- an attempt of a transaction that doesn't wait failed
  pub seated_fails : (p q : Parts C B) (s : ℕ) (c : C) (k : ℕ) (f : Option ℕ) → IsSeated p → wait_in (get nat_cmp p.places s) ≡ Some None → SameCounts p q
      → q.places ≡ p.places → q.waiting.items ≡ without s p.waiting.items → q.number ≡ p.number → q.live ≡ p.live
      → q.book.items ≡ p.book.items ++ fail_entry s c k f ∷ [] → HasRoom 0 q → q.layers ≡ p.layers → IsSeatedAs p q
  seated_fails p q s c k f is ready same places queue number live adds room layers =
      let n = fail_entry s c k f in
      let ts = live_after [] p.book.items in
      let told = told_live p s None is ready in
      let t : Live C = record told.0 { waits = None } in
      let named : told.0.session ≡ s = found_named s ts told.0 told.1 in
      seated_goes_on p q n None t told.0 is same adds refl refl told.1 named
      (ap (λ (o : Option (Live C)). open_of s o n.event n.answer ts) told.1)
      (λ o. ap (λ x. wait_in (get nat_cmp x o)) places ∙ at_self p s None o ready (s == o) refl) tt queue (λ o. times_without s o p.waiting.items) number live room layers

  -- a call of a transaction that doesn't wait was answered
  pub seated_answers : (p q : Parts C B) (s : ℕ) (c : C) (r : Reply) → IsSeated p → wait_in (get nat_cmp p.places s) ≡ Some None → SameCounts p q
      → ((o : ℕ) → wait_in (get nat_cmp q.places o) ≡ cond (s == o) (Some None) (wait_in (get nat_cmp p.places o))) → q.waiting.items ≡ without s p.waiting.items → q.number ≡ p.number → q.live ≡ p.live
      → q.book.items ≡ p.book.items ++ call_entry s c (answer.Answered r) ∷ [] → HasRoom 0 q → q.layers ≡ p.layers → IsSeatedAs p q
  seated_answers p q s c r is ready same seats queue number live adds room layers =
      let n = call_entry s c (answer.Answered r) in
      let ts = live_after [] p.book.items in
      let told = told_live p s None is ready in
      let t : Live C = record told.0 { calls = told.0.calls ++ record { call = c; reply = r } ∷ []; waits = None } in
      let named : told.0.session ≡ s = found_named s ts told.0 told.1 in
      seated_goes_on p q n None t told.0 is same adds refl refl told.1 named
      (ap (λ (o : Option (Live C)). open_of s o n.event n.answer ts) told.1)
      seats tt queue (λ o. times_without s o p.waiting.items) number live room layers

  -- a transaction begins to wait with a call
  pub seated_waits : (p q : Parts C B) (s : ℕ) (c : C) (g : Request) (hs : List ℕ) → IsSeated p → wait_in (get nat_cmp p.places s) ≡ Some None → SameCounts p q
      → ((o : ℕ) → wait_in (get nat_cmp q.places o) ≡ cond (s == o) (Some (Some (length p.book.items))) (wait_in (get nat_cmp p.places o))) → q.waiting.items ≡ p.waiting.items ++ s ∷ [] → q.number ≡ p.number → q.live ≡ p.live
      → q.book.items ≡ p.book.items ++ call_entry s c (answer.Waits g.resource g.ask hs) ∷ [] → HasRoom 0 q → q.layers ≡ p.layers → IsSeatedAs p q
  seated_waits p q s c g hs is ready same seats queue number live adds room layers =
      let n = call_entry s c (answer.Waits g.resource g.ask hs) in
      let ts = live_after [] p.book.items in
      let told = told_live p s None is ready in
      let t : Live C = record told.0 { waits = Some (record { call = c; request = request g.resource g.ask }) } in
      let named : told.0.session ≡ s = found_named s ts told.0 told.1 in
      seated_goes_on p q n (Some (length p.book.items)) t told.0 is same adds refl refl told.1 named
      (ap (λ (o : Option (Live C)). open_of s o n.event n.answer ts) told.1)
      seats (record { entry = n; there = at_end p.book.items n; call = refl }) queue (λ o. last_in o (s == o) refl) number live room layers
    where
      not_yet : times s p.waiting.items ≡ 0
      not_yet =
          let told = told_live p s None is ready in
          is.waits s ∙ ap (λ (y : Option (Live C)). once (waits_in y)) told.1 ∙ ap once (told_waits p.book.items None told.0.waits told.2)

      last_in : (o : ℕ) (b : Bool) → (s == o) ≡ b → times o (p.waiting.items ++ s ∷ []) ≡ cond b 1 (times o p.waiting.items)
      last_in o true e =
          times_behind s o p.waiting.items ∙ ap₂ (λ (x : ℕ) (b : Bool). times x p.waiting.items + once b) (sym (is_self s o e)) e ∙ ap (λ (k : ℕ). k + 1) not_yet
      last_in o false e = times_behind s o p.waiting.items ∙ ap (λ (b : Bool). times o p.waiting.items + once b) e ∙ sym (plus_none (times o p.waiting.items) 0 refl)

  -- a deadlock
  pub seated_closes : (p q : Parts C B) (s : ℕ) (c : C) (cycle : List ℕ) (w : Option ℕ) → IsSeated p → wait_in (get nat_cmp p.places s) ≡ Some w → SameCounts p q
      → ((o : ℕ) → wait_in (get nat_cmp q.places o) ≡ cond (s == o) None (wait_in (get nat_cmp p.places o))) → q.waiting.items ≡ without s p.waiting.items → q.number ≡ p.number → q.live + 1 ≡ p.live
      → q.book.items ≡ p.book.items ++ call_entry s c (answer.Deadlock cycle) ∷ [] → vec_capacity p.book ≤ vec_capacity q.book → q.layers ≡ p.layers → IsSeatedAs p q
  seated_closes p q s c cycle w is there same seats queue number live adds capacity layers =
      let n = call_entry s c (answer.Deadlock cycle) in
      let ts = live_after [] p.book.items in
      let told = told_live p s w is there in
      let named : told.0.session ≡ s = found_named s ts told.0 told.1 in
      seated_with p q (
      seated_ends p q n told.0 is same adds refl told.1
      (ap (λ (o : Option (Live C)). open_of s o n.event n.answer ts) told.1 ∙ ap (λ (x : ℕ). others x ts) named)
      seats refl queue (number ∙ plus_none p.number _ refl) (omega (arith)) live capacity) layers

  -- an abort
  pub seated_aborts : (p q : Parts C B) (s : ℕ) (w : Option ℕ) → IsSeated p → wait_in (get nat_cmp p.places s) ≡ Some w → SameCounts p q
      → ((o : ℕ) → wait_in (get nat_cmp q.places o) ≡ cond (s == o) None (wait_in (get nat_cmp p.places o))) → q.waiting.items ≡ without s p.waiting.items → q.number ≡ p.number → q.live + 1 ≡ p.live
      → q.book.items ≡ p.book.items ++ entry s event.Abort said.Nothing ∷ [] → vec_capacity p.book ≤ vec_capacity q.book → q.layers ≡ p.layers → IsSeatedAs p q
  seated_aborts p q s w is there same seats queue number live adds capacity layers =
      let n = entry {C = C} s event.Abort said.Nothing in
      let ts = live_after [] p.book.items in
      let told = told_live p s w is there in
      seated_with p q (
      seated_ends p q n told.0 is same adds refl told.1
      (ap (λ (o : Option (Live C)). open_of s o n.event n.answer ts) told.1)
      seats refl queue (number ∙ plus_none p.number _ refl) (omega (arith)) live capacity) layers

  -- a commit
  pub seated_commits : (p q : Parts C B) (s k : ℕ) (w : Option ℕ) → IsSeated p → wait_in (get nat_cmp p.places s) ≡ Some w → SameCounts p q
      → ((o : ℕ) → wait_in (get nat_cmp q.places o) ≡ cond (s == o) None (wait_in (get nat_cmp p.places o))) → q.waiting.items ≡ without s p.waiting.items → q.number ≡ p.number + 1 → q.live + 1 ≡ p.live
      → q.book.items ≡ p.book.items ++ entry s event.Commit (said.Number k) ∷ [] → vec_capacity p.book ≤ vec_capacity q.book → IsSeatedFor p q
  seated_commits p q s k w is there same seats queue number live adds capacity =
      let n = entry {C = C} s event.Commit (said.Number k) in
      let ts = live_after [] p.book.items in
      let told = told_live p s w is there in
      seated_ends p q n told.0 is same adds refl told.1
      (ap (λ (o : Option (Live C)). open_of s o n.event n.answer ts) told.1)
      seats refl queue number (omega (arith)) live capacity

  -- the parts with more room in the book
  pub roomy_seated : (p q : Parts C B) → IsSeated p → q ≡ record p { book = q.book } → q.book.items ≡ p.book.items → HasRoom 0 q → IsSeatedAs p q
  roomy_seated p q is same items room = seated_same p q is (roomy q same items) room
    where
      roomy : (q : Parts C B) → q ≡ record p { book = q.book } → q.book.items ≡ p.book.items → SameSeats p q
      roomy q same items = record {
        seats = λ o. ap (λ (x : Parts C B). wait_in (get nat_cmp x.places o)) same;
        ordinals = λ o. ap (λ (x : Parts C B). ordinal_in (get nat_cmp x.places o)) same;
        queue = ap (λ (x : Parts C B). x.waiting.items) same;
        book = items;
        opened = ap (λ (x : Parts C B). x.opened) same;
        limit = ap (λ (x : Parts C B). x.limit) same;
        number = ap (λ (x : Parts C B). x.number) same;
        begun = ap (λ (x : Parts C B). x.begun) same;
        live = ap (λ (x : Parts C B). x.live) same;
        prepared = ap (λ (x : Parts C B). x.prepared) same;
        layers = ap (λ (x : Parts C B). x.layers) same;
      }

  -- one more ordinal fits the limit
  pub ordinal_fits : (p : Parts C B) (s : ℕ) → IsSeated p → (p.opened + p.begun ≡ p.limit → ⊥) → ordinal_in (get nat_cmp p.places s) + 1 < 4294967296
  ordinal_fits p s is below = omega (arith, is.ordinals s, begins_of_all p.book.items s, is.begun, is.limited, is.fits, below)

  -- who has a seat is refused where he waits, and else may call
  pub call_refused : (p : Parts C B) (s : ℕ) (w : Option ℕ) → IsSeated p → wait_in (get nat_cmp p.places s) ≡ Some w → refused_call (live_in p.book.items s) ≡ cond (is_some w) (Some IsWaiting) None
  call_refused p s w is there =
      let told = told_live p s w is there in
      ap refused_call told.1 ∙ ap (λ (b : Bool). cond b (Some IsWaiting) None) (told_waits p.book.items w told.0.waits told.2)

  -- a base that was read
  pub based_seated : (p q : Parts C B) → IsSeated p → q ≡ record p { base = q.base; passed = q.passed } → IsSeatedAs p q
  based_seated p q is same = seated_same p q is (based q same) (subst (λ (x : Parts C B). HasRoom 0 x) (sym same) is.room)
    where
      based : (q : Parts C B) → q ≡ record p { base = q.base; passed = q.passed } → SameSeats p q
      based q same = record {
        seats = λ o. ap (λ (x : Parts C B). wait_in (get nat_cmp x.places o)) same;
        ordinals = λ o. ap (λ (x : Parts C B). ordinal_in (get nat_cmp x.places o)) same;
        queue = ap (λ (x : Parts C B). x.waiting.items) same;
        book = ap (λ (x : Parts C B). x.book.items) same;
        opened = ap (λ (x : Parts C B). x.opened) same;
        limit = ap (λ (x : Parts C B). x.limit) same;
        number = ap (λ (x : Parts C B). x.number) same;
        begun = ap (λ (x : Parts C B). x.begun) same;
        live = ap (λ (x : Parts C B). x.live) same;
        prepared = ap (λ (x : Parts C B). x.prepared) same;
        layers = ap (λ (x : Parts C B). x.layers) same;
      }

  -- who has no seat may begin, up to the limit
  pub may_begin : (p : Parts C B) (s : ℕ) → IsSeated p → wait_in (get nat_cmp p.places s) ≡ None → (p.opened + p.begun ≡ p.limit → ⊥) → None ≡ refused_begin (p.opened + begins p.book.items) p.limit (live_in p.book.items s)
  may_begin p s is free below =
      sym (ap (refused_begin (p.opened + begins p.book.items) p.limit) (told_none p s is free)
      ∙ ap (λ (b : Bool). cond b (Some TxLimit) None) (ap (λ (k : ℕ). p.opened + k == p.limit) (sym is.begun) ∙ not_equal (p.opened + p.begun) p.limit below))

-- where nothing was read in vain
pub no_cause : {T E : Type 0} (fault : E) (before now : ℕ) (x : T) → now ≡ before → HasCause {T = T} {E = E} fault before now (Ok x)
no_cause {T = T} {E = E} fault before now x same = record { later = omega (arith, same); failed = λ e. absurd (apart e); exact = same }
  where
    apart : ◌≡◌ {A = Result T E} (Ok x) (Err fault) → ⊥
    apart e = cc

module _ {C B : Type 0} where
  pub queued_room : (k : ℕ) (p q : Parts C B) → q ≡ record p { waiting = q.waiting; graph = q.graph } → q.waiting.items ≡ p.waiting.items → HasRoom k p → HasRoom k q
  queued_room k p q same items room =
      omega (arith, room, ap length items, ap (λ (x : Parts C B). length x.book.items) same, ap (λ (x : Parts C B). x.live) same, ap (λ (x : Parts C B). vec_capacity x.book) same)

  pub asked_room : (k : ℕ) (p q : Parts C B) → q ≡ record p { table = q.table } → HasRoom k p → HasRoom k q
  asked_room k p q same room = subst (λ (x : Parts C B). HasRoom k x) (sym same) room

  -- room to wait was made
  pub queued_seated : (p q : Parts C B) → IsSeated p → q ≡ record p { waiting = q.waiting; graph = q.graph } → q.waiting.items ≡ p.waiting.items → IsSeatedAs p q
  queued_seated p q is same items = seated_same p q is seats (queued_room 0 p q same items is.room)
    where
      seats : SameSeats p q
      seats = record {
        seats = λ o. ap (λ (x : Parts C B). wait_in (get nat_cmp x.places o)) same;
        ordinals = λ o. ap (λ (x : Parts C B). ordinal_in (get nat_cmp x.places o)) same;
        queue = items;
        book = ap (λ (x : Parts C B). x.book.items) same;
        opened = ap (λ (x : Parts C B). x.opened) same;
        limit = ap (λ (x : Parts C B). x.limit) same;
        number = ap (λ (x : Parts C B). x.number) same;
        begun = ap (λ (x : Parts C B). x.begun) same;
        live = ap (λ (x : Parts C B). x.live) same;
        prepared = ap (λ (x : Parts C B). x.prepared) same;
        layers = ap (λ (x : Parts C B). x.layers) same;
      }

  -- requests were asked
  pub asked_seated : (p q : Parts C B) → IsSeated p → q ≡ record p { table = q.table } → IsSeatedAs p q
  asked_seated p q is same = seated_same p q is seats (asked_room 0 p q same is.room)
    where
      seats : SameSeats p q
      seats = record {
        seats = λ o. ap (λ (x : Parts C B). wait_in (get nat_cmp x.places o)) same;
        ordinals = λ o. ap (λ (x : Parts C B). ordinal_in (get nat_cmp x.places o)) same;
        queue = ap (λ (x : Parts C B). x.waiting.items) same;
        book = ap (λ (x : Parts C B). x.book.items) same;
        opened = ap (λ (x : Parts C B). x.opened) same;
        limit = ap (λ (x : Parts C B). x.limit) same;
        number = ap (λ (x : Parts C B). x.number) same;
        begun = ap (λ (x : Parts C B). x.begun) same;
        live = ap (λ (x : Parts C B). x.live) same;
        prepared = ap (λ (x : Parts C B). x.prepared) same;
        layers = ap (λ (x : Parts C B). x.layers) same;
      }

-- a cause stays one after what was read with success before
pub cause_on : {T U E F : Type 0} (fault : E) (other : F) (a b c : ℕ) (x : T) (r : Result U E) → HasCause {T = T} {E = F} other a b (Ok x) → HasCause fault b c r → HasCause fault a c r
cause_on {U = U} {E = E} fault other a b c x r one two = record {
  later = omega (arith, one.later, two.later);
  failed = λ e. subst (λ (k : ℕ). FaultCounted k c) one.exact (two.failed e);
  exact = go r two.exact;
}
  where
    go : (r : Result U E) → OnOk r (c ≡ b) → OnOk r (c ≡ a)
    go (Ok y) e = e ∙ one.exact
    go (Err y) e = tt

module _ {C B : Type 0} where
  -- a commit's number fits
  pub number_fits : (p : Parts C B) (s : ℕ) → IsSeated p → IsReady (seat_in (get nat_cmp p.places s)) → p.number < 4294967295
  number_fits p s is ready = omega (arith, is.numbered, is.limited, is.fits, live_one p s None is (ready_waits (seat_in (get nat_cmp p.places s)) ready))

  -- a seat and the book refuse a call alike
  pub seat_refused : (p : Parts C B) (s : ℕ) → IsSeated p → commit_refused (seat_in (get nat_cmp p.places s)) ≡ refused_call (live_in p.book.items s)
  seat_refused p s is = go (seat_in (get nat_cmp p.places s)) refl
    where
      go : (x : Option Seat) → seat_in (get nat_cmp p.places s) ≡ x → commit_refused x ≡ refused_call (live_in p.book.items s)
      go None e = sym (ap refused_call (told_none p s is (ap wait_of e)))
      go (Some seat) e = sym (call_refused p s seat.waiting is (ap wait_of e))

  -- the base and the layers say nothing of sessions
  pub layered_seated : (p q : Parts C B) (base : B) (layers : Layered) (prepared : Option ℕ) → IsSeated p → q ≡ record p { base = base; layers = layers; prepared = prepared } → KeepsPrepared q → IsSeatedFor p q
  layered_seated p q base layers prepared is same kept = subst (λ (x : Parts C B). KeepsPrepared x → IsSeatedFor p x) (sym same) one kept
    where
      one : KeepsPrepared (record p { base = base; layers = layers; prepared = prepared }) → IsSeatedFor p (record p { base = base; layers = layers; prepared = prepared })
      one kept = record {
        seated = record {
          seats = is.seats;
          ordinals = is.ordinals;
          queue = is.queue;
          waits = is.waits;
          begun = is.begun;
          number = is.number;
          live = is.live;
          limited = is.limited;
          fits = is.fits;
          numbered = is.numbered;
          room = is.room;
          prepared = kept;
        };
        opened = refl;
        limit = refl;
      }

  pub rebased_seated : (p q : Parts C B) (base : B) → IsSeated p → q ≡ record p { base = base; layers = q.layers; passed = q.passed } → 1 ≤ q.layers.spare → IsSeated q
  rebased_seated p q base is same spare = subst (λ (x : Parts C B). KeepsPrepared x → IsSeated x) (sym same) one kept
    where
      one : KeepsPrepared (record p { base = base; layers = q.layers; passed = q.passed }) → IsSeated (record p { base = base; layers = q.layers; passed = q.passed })
      one kept = record {
        seats = is.seats;
        ordinals = is.ordinals;
        queue = is.queue;
        waits = is.waits;
        begun = is.begun;
        number = is.number;
        live = is.live;
        limited = is.limited;
        fits = is.fits;
        numbered = is.numbered;
        room = is.room;
        prepared = kept;
      }

      kept : KeepsPrepared q
      kept s some =
          let was = is.prepared s (sym (ap (λ (x : Parts C B). x.prepared) same) ∙ some) in
          (subst (λ (x : Parts C B). IsReady (seat_in (get nat_cmp x.places s))) (sym same) was.0, spare)

  -- a seat moved, and what is told of it is as it was
  pub moved_seated : (p q : Parts C B) → IsSeated p → q ≡ record p { places = q.places; passed = q.passed; graph = q.graph } → ((o : ℕ) → wait_in (get nat_cmp q.places o) ≡ wait_in (get nat_cmp p.places o))
      → ((o : ℕ) → ordinal_in (get nat_cmp q.places o) ≡ ordinal_in (get nat_cmp p.places o)) → IsSeatedAs p q
  moved_seated p q is same seats ordinals = seated_same p q is one
      (omega (arith, is.room, ap (λ (x : Parts C B). length x.book.items) same, ap (λ (x : Parts C B). x.live) same, ap (λ (x : Parts C B). length x.waiting.items) same, ap (λ (x : Parts C B). vec_capacity x.book) same))
    where
      one : SameSeats p q
      one = record {
        seats = seats;
        ordinals = ordinals;
        queue = ap (λ (x : Parts C B). x.waiting.items) same;
        book = ap (λ (x : Parts C B). x.book.items) same;
        opened = ap (λ (x : Parts C B). x.opened) same;
        limit = ap (λ (x : Parts C B). x.limit) same;
        number = ap (λ (x : Parts C B). x.number) same;
        begun = ap (λ (x : Parts C B). x.begun) same;
        live = ap (λ (x : Parts C B). x.live) same;
        prepared = ap (λ (x : Parts C B). x.prepared) same;
        layers = ap (λ (x : Parts C B). x.layers) same;
      }

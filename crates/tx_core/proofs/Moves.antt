-- Begins and aborts: the machine's step, and that the core stands for the state after it.
use Rattle.std.proofs.Common.{◌≡◌, ℕ, ◌+◌, Bool, true, false, cond, List, [], ◌∷◌, ◌++◌, Option, Some, None, ◌==◌, refl, sym, ap, ap₂, subst, ◌∙◌, arith, if◌then◌else◌}
use Rattle.std.specs.Ordering.{nat_cmp}
use Rattle.std.specs.BTreeMap.{get}
use Rattle.tree_model.specs.Tree.{map_of}
use Rattle.tree_model.specs.Entries.{Entries, changed}
use Rattle.tree_model.specs.declared.change.Change.{Change}
use Rattle.lock_table.specs.Grants.{IsTableOf}
use Rattle.lock_table.specs.Tables.{Table, IsReleased}
use Rattle.lock_table.proofs.Granted.{released_table}
use Rattle.overlays.specs.Layered.{Layered}
use Rattle.overlays.specs.Views.{contents_after}
use Rattle.wait_graph.specs.Graphs.{Graph, waits, with_request}
use Rattle.call_contract.specs.Calls.{CallMeaning}
use Rattle.call_contract.specs.States.{Live, State, of_session, put, others, without, ended}
use Rattle.call_contract.specs.Steps as steps
use Rattle.call_contract.specs.Books.{state_of, IsAnswer, HasValidCall, entry}
use Rattle.call_contract.specs.declared.events.Event.TheVariants as event
use Rattle.call_contract.specs.declared.events.EventAnswer.TheVariants as said
use Rattle.call_contract.specs.declared.events.Noted.{Noted}
use Rattle.call_contract.proofs.Rising.{rises_put, rises_others}
use Rattle.tx_core.specs.declared.parts.Parts.{Parts}
use Rattle.tx_core.specs.declared.parts.Seat.{Seat}
use Rattle.tx_core.specs.Holding.{grants_of, request_of}
use Rattle.tx_core.specs.inside.Standing.{seat_in, ordinal_in, Stands, IsSeat}
use Rattle.tx_core.specs.inside.Goes.{Goes}
use Rattle.tx_core.proofs.Holding.{table_same}
use Rattle.tx_core.proofs.Seats.{seats_put, seats_out, told_kept, told_out, numbers_turned}

-- the base, what is laid over it, and the opening's numbers are as they were
pub record Alike {C B : Type 0} (p q : Parts C B) : Type 0 where
  pub base : q.base ≡ p.base
  pub layers : q.layers ≡ p.layers
  pub opened : q.opened ≡ p.opened
  pub limit : q.limit ≡ p.limit
  pub number : q.number ≡ p.number

module _ {C B : Type 0} (is_valid : C → Type 0) (m : CallMeaning C) (told : B → Option Entries) where
  pub committed_alike : (p q : Parts C B) (es : Option Entries) → Alike p q → contents_after p.layers.changes (told p.base) ≡ es → contents_after q.layers.changes (told q.base) ≡ es
  committed_alike p q es alike is = ap₂ (λ (x : Layered) (y : B). contents_after x.changes (told y)) alike.layers alike.base ∙ is

  -- who has no seat isn't live
  pub not_live : (p : Parts C B) (st : State C) (s : ℕ) → Stands is_valid m told p st → seat_in (get nat_cmp p.places s) ≡ None → of_session s st.live ≡ None
  not_live p st s stands none = go (of_session s st.live) (subst (λ (x : Option Seat). IsSeat is_valid m st.tree x (of_session s st.live)) none (stands.seats s))
    where
      go : (o : Option (Live C)) → IsSeat is_valid m st.tree None o → o ≡ None
      go None is = refl
      go (Some t) is = absurd is

  -- who has one is
  pub is_live : (p : Parts C B) (st : State C) (s : ℕ) (seat : Seat) → Stands is_valid m told p st → seat_in (get nat_cmp p.places s) ≡ Some seat → (t : Live C) × (of_session s st.live ≡ Some t)
  is_live p st s seat stands some = go (of_session s st.live) (subst (λ (x : Option Seat). IsSeat is_valid m st.tree x (of_session s st.live)) some (stands.seats s))
    where
      go : (o : Option (Live C)) → IsSeat is_valid m st.tree (Some seat) o → (t : Live C) × (o ≡ Some t)
      go None is = absurd is
      go (Some t) is = (t, refl)

  -- a step that the machine makes, and the state that it leaves
  pub goes_by : (p : Parts C B) (n : Noted C) (q : Parts C B)
      → q.book.items ≡ p.book.items ++ n ∷ [] → HasValidCall is_valid n.event → q.prepared ≡ None
      → ((st : State C) → Stands is_valid m told p st → (o : steps.Outcome C) × (steps.step m st n.session n.event ≡ Some o) × (n.answer ≡ o.answer) × Stands is_valid m told q o.state)
      → Goes is_valid m told p n q
  goes_by p n q book valid prepared moves = record {
    book = book;
    valid = valid;
    prepared = prepared;
    entry = λ st stands. subst (λ (o : Option (steps.Outcome C)). IsAnswer n.answer o) (sym (moves st stands).1) (moves st stands).2;
    state = λ st stands. subst (λ (x : State C). Stands is_valid m told q x) (sym (ap (state_of st) (moves st stands).1)) (moves st stands).3;
  }

  pub begin_goes : (p q : Parts C B) (s ordinal : ℕ) (own : List Change)
      → own ≡ []
      → seat_in (get nat_cmp p.places s) ≡ None
      → (p.opened + p.begun == p.limit) ≡ false
      → ordinal ≡ ordinal_in (get nat_cmp p.places s) + 1
      → ((o : ℕ) → seat_in (get nat_cmp q.places o) ≡ cond (s == o) (Some (record { own = own; waiting = None })) (seat_in (get nat_cmp p.places o)))
      → ((o : ℕ) → ordinal_in (get nat_cmp q.places o) ≡ cond (s == o) ordinal (ordinal_in (get nat_cmp p.places o)))
      → Alike p q → q.begun ≡ p.begun + 1 → q.table ≡ p.table → q.graph ≡ p.graph → q.waiting.items ≡ p.waiting.items → q.prepared ≡ None
      → q.book.items ≡ p.book.items ++ entry s event.Begin (said.Number ordinal) ∷ []
      → Goes is_valid m told p (entry s event.Begin (said.Number ordinal)) q
  begin_goes p q s ordinal own empty free room is seats ordinals alike begun table graph waiting prepared adds =
      goes_by p (entry s event.Begin (said.Number ordinal)) q adds tt prepared (λ st stands. (record { state = steps.begun_by st s; answer = said.Number (st.ordinals s + 1) }, steps_so st stands, ap said.Number (rank st stands), stands_then st stands))
    where
      test : (st : State C) → Stands is_valid m told p st → (st.opening + st.begun == st.limit) ≡ false
      test st stands = ap₂ (λ (x y : ℕ). x + y == st.limit) (sym stands.opened) (sym stands.begun) ∙ ap (λ x. p.opened + p.begun == x) (sym stands.limit) ∙ room

      steps_so : (st : State C) → Stands is_valid m told p st → steps.step m st s event.Begin ≡ Some (record { state = steps.begun_by st s; answer = said.Number (st.ordinals s + 1) })
      steps_so st stands =
          ap (λ (o : Option (Live C)). steps.step_of m st s o event.Begin) (not_live p st s stands free)
          ∙ ap (λ (b : Bool). if b then None else Some (record { state = steps.begun_by st s; answer = said.Number (st.ordinals s + 1) })) (test st stands)

      rank : (st : State C) → Stands is_valid m told p st → ordinal ≡ st.ordinals s + 1
      rank st stands = is ∙ ap (λ x. x + 1) (stands.ordinals s)

      one : State C → Live C
      one st = steps.new_live s (st.ordinals s + 1)

      stands_then : (st : State C) → Stands is_valid m told p st → Stands is_valid m told q (steps.begun_by st s)
      stands_then st stands =
          let none = not_live p st s stands free in
          record {
            committed = committed_alike p q (Some (map_of st.tree)) alike stands.committed;
            valid = stands.valid;
            seats = seats_put is_valid m st.tree st.live (λ u. seat_in (get nat_cmp p.places u)) (λ u. seat_in (get nat_cmp q.places u)) s (record { own = own; waiting = None }) (one st) stands.seats seats refl
                (record { changes = empty; own = ap (λ cs. changed cs (map_of st.tree)) empty; waits = refl; valid = tt });
            ordinals = λ o. ordinals o ∙ ranked st stands o;
            table = subst (λ (x : Table). IsTableOf x (λ u. grants_of (of_session u (put (one st) st.live)))) (sym table)
                (table_same p.table (λ u. grants_of (of_session u st.live)) (λ u. grants_of (of_session u (put (one st) st.live))) (told_kept grants_of st.live s (one st) refl (sym (ap grants_of none))) stands.table);
            graph = λ o. ap (λ (x : Graph). waits x o) graph ∙ stands.graph o ∙ told_kept request_of st.live s (one st) refl (sym (ap request_of none)) o;
            queue = waiting ∙ stands.queue;
            rise = rises_put (one st) st.live stands.rise;
            opened = alike.opened ∙ stands.opened;
            limit = alike.limit ∙ stands.limit;
            number = alike.number ∙ stands.number;
            begun = begun ∙ ap (λ x. x + 1) stands.begun;
          }
        where
          ranked : (st : State C) → Stands is_valid m told p st → (o : ℕ) → cond (s == o) ordinal (ordinal_in (get nat_cmp p.places o)) ≡ (if o == s then st.ordinals s + 1 else st.ordinals o)
          ranked st stands o = go (s == o) (o == s) (numbers_turned s o)
            where
              go : (a b : Bool) → a ≡ b → cond a ordinal (ordinal_in (get nat_cmp p.places o)) ≡ (if b then st.ordinals s + 1 else st.ordinals o)
              go true true e = rank st stands
              go false false e = stands.ordinals o
              go true false e = grind (arith, e)
              go false true e = grind (arith, e)

  -- a session's transaction has ended
  pub stands_ended : (p q : Parts C B) (s : ℕ)
      → ((o : ℕ) → seat_in (get nat_cmp q.places o) ≡ cond (s == o) None (seat_in (get nat_cmp p.places o)))
      → ((o : ℕ) → ordinal_in (get nat_cmp q.places o) ≡ ordinal_in (get nat_cmp p.places o))
      → Alike p q → q.begun ≡ p.begun → IsReleased p.table s q.table → ((o : ℕ) → waits q.graph o ≡ with_request (waits p.graph) s None o) → q.waiting.items ≡ without s p.waiting.items
      → (st : State C) → Stands is_valid m told p st → Stands is_valid m told q (ended st s)
  stands_ended p q s seats ordinals alike begun released stopped waiting st stands =
      record {
        committed = committed_alike p q (Some (map_of st.tree)) alike stands.committed;
        valid = stands.valid;
        seats = seats_out is_valid m st.tree st.live (λ u. seat_in (get nat_cmp p.places u)) (λ u. seat_in (get nat_cmp q.places u)) s stands.seats seats;
        ordinals = λ o. ordinals o ∙ stands.ordinals o;
        table = table_same q.table (λ o. cond (s == o) [] (grants_of (of_session o st.live))) (λ o. grants_of (of_session o (others s st.live))) (told_out grants_of st.live s)
            (released_table p.table q.table (λ u. grants_of (of_session u st.live)) s stands.table released);
        graph = λ o. stopped o ∙ ap (cond (s == o) None) (stands.graph o) ∙ told_out request_of st.live s o;
        queue = waiting ∙ ap (without s) stands.queue;
        rise = rises_others s st.live stands.rise;
        opened = alike.opened ∙ stands.opened;
        limit = alike.limit ∙ stands.limit;
        number = alike.number ∙ stands.number;
        begun = begun ∙ stands.begun;
      }

  pub abort_goes : (p q : Parts C B) (s : ℕ) (seat : Seat)
      → seat_in (get nat_cmp p.places s) ≡ Some seat
      → ((o : ℕ) → seat_in (get nat_cmp q.places o) ≡ cond (s == o) None (seat_in (get nat_cmp p.places o)))
      → ((o : ℕ) → ordinal_in (get nat_cmp q.places o) ≡ ordinal_in (get nat_cmp p.places o))
      → Alike p q → q.begun ≡ p.begun → IsReleased p.table s q.table → ((o : ℕ) → waits q.graph o ≡ with_request (waits p.graph) s None o) → q.waiting.items ≡ without s p.waiting.items
      → q.prepared ≡ None
      → q.book.items ≡ p.book.items ++ entry s event.Abort said.Nothing ∷ []
      → Goes is_valid m told p (entry s event.Abort said.Nothing) q
  abort_goes p q s seat some seats ordinals alike begun released stopped waiting prepared adds =
      goes_by p (entry s event.Abort said.Nothing) q adds tt prepared (λ st stands. (
        record { state = ended st s; answer = said.Nothing },
        ap (λ (o : Option (Live C)). steps.step_of m st s o event.Abort) (is_live p st s seat stands some).1,
        refl,
        stands_ended p q s seats ordinals alike begun released stopped waiting st stands,
      ))

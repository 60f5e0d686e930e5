-- A transaction that waits no more, or waits for something else.
use Rattle.std.proofs.Common.{◌≡◌, ℕ, cond, Option, Some, None, ◌==◌, is_some, refl, sym, ap, subst, ◌∙◌}
use Rattle.std.specs.Ordering.{nat_cmp}
use Rattle.std.specs.BTreeMap as tree
use Rattle.tree_model.specs.Tree.{map_of}
use Rattle.tree_model.specs.Entries.{Entries}
use Rattle.lock_resources.specs.declared.request.Request.{Request}
use Rattle.lock_table.specs.Grants.{IsTableOf}
use Rattle.lock_table.specs.Tables.{Table}
use Rattle.wait_graph.specs.Graphs.{Graph, waits, with_request}
use Rattle.call_contract.specs.Calls.{CallMeaning}
use Rattle.call_contract.specs.States.{Waiting, Live, State, of_session, put, without}
use Rattle.call_contract.proofs.Lists.{found_named}
use Rattle.call_contract.proofs.Rising as rising
use Rattle.tx_core.specs.declared.parts.Parts.{Parts}
use Rattle.tx_core.specs.declared.parts.Place.{Place}
use Rattle.tx_core.specs.declared.parts.Seat.{Seat}
use Rattle.tx_core.specs.Holding.{grants_of, request_of}
use Rattle.tx_core.specs.inside.Standing.{seat_in, ordinal_in, Stands, IsSeat, IsSeatOf}
use Rattle.tx_core.specs.inside.Goes.{with_wait, unqueued}
use Rattle.tx_core.specs.inside.Retrying.{at_rest}
use Rattle.tx_core.proofs.Holding.{table_same}
use Rattle.tx_core.proofs.Moves.{Alike, committed_alike}
use Rattle.tx_core.proofs.Reached.{seat_of, seats_kept}
use Rattle.tx_core.proofs.Seats.{seats_put, told_put, told_kept}

module _ {C B : Type 0} (is_valid : C → Type 0) (m : CallMeaning C) (told : B → Option Entries) where
  pub put_at_rest : (p q : Parts C B) (s : ℕ) (seat : Seat)
      → seat_in (tree.get nat_cmp p.places s) ≡ Some seat
      → ((o : ℕ) → seat_in (tree.get nat_cmp q.places o) ≡ cond (s == o) (Some (record { own = seat.own; waiting = None })) (seat_in (tree.get nat_cmp p.places o)))
      → ((o : ℕ) → ordinal_in (tree.get nat_cmp q.places o) ≡ ordinal_in (tree.get nat_cmp p.places o))
      → Alike p q → q.begun ≡ p.begun → q.table ≡ p.table → ((o : ℕ) → waits q.graph o ≡ with_request (waits p.graph) s None o) → q.waiting.items ≡ without s p.waiting.items
      → (st : State C) (t : Live C) → Stands is_valid m told p st → of_session s st.live ≡ Some t
      → Stands is_valid m told q (unqueued (at_rest st t) s)
  put_at_rest p q s seat there seats ordinals alike begun table stopped waiting st t stands found =
      record {
        committed = committed_alike is_valid m told p q (Some (map_of st.tree)) alike stands.committed;
        valid = stands.valid;
        seats = seats_put is_valid m st.tree st.live (λ u. seat_in (tree.get nat_cmp p.places u)) (λ u. seat_in (tree.get nat_cmp q.places u)) s (record { own = seat.own; waiting = None }) more stands.seats seats named
            (record { changes = was.changes; own = was.own; waits = refl; valid = was.valid });
        ordinals = λ o. ordinals o ∙ stands.ordinals o;
        table = subst (λ (x : Table). IsTableOf x (λ u. grants_of (of_session u (put more st.live)))) (sym table)
            (table_same p.table (λ u. grants_of (of_session u st.live)) (λ u. grants_of (of_session u (put more st.live))) (told_kept grants_of st.live s more named (sym (ap grants_of found))) stands.table);
        graph = λ o. stopped o ∙ ap (cond (s == o) None) (stands.graph o) ∙ told_put request_of st.live s more None named refl o;
        queue = waiting ∙ ap (without s) stands.queue;
        rise = rising.rises_put more st.live stands.rise;
        opened = alike.opened ∙ stands.opened;
        limit = alike.limit ∙ stands.limit;
        number = alike.number ∙ stands.number;
        begun = begun ∙ stands.begun;
      }
    where
      more : Live C
      more = record t { waits = None }

      named : t.session ≡ s
      named = found_named s st.live t found

      was : IsSeatOf is_valid m st.tree seat t
      was = seat_of is_valid m told p st s seat t stands there found

  -- one that waits goes on waiting, for this request
  pub put_again : (p q : Parts C B) (s : ℕ) (g : Request)
      → Alike p q → q.begun ≡ p.begun → q.places ≡ p.places → q.table ≡ p.table → ((o : ℕ) → waits q.graph o ≡ with_request (waits p.graph) s (Some g) o) → q.waiting.items ≡ p.waiting.items
      → (st : State C) (t : Live C) (w : Waiting C) (c : C) → Stands is_valid m told p st → of_session s st.live ≡ Some t → t.waits ≡ Some w
      → Stands is_valid m told q (with_wait st t c g)
  put_again p q s g alike begun places table stopped waiting st t w c stands found waiting_was =
      record {
        committed = committed_alike is_valid m told p q (Some (map_of st.tree)) alike stands.committed;
        valid = stands.valid;
        seats = λ o. subst (λ (x : tree.BTreeMap ℕ Place). IsSeat is_valid m st.tree (seat_in (tree.get nat_cmp x o)) (of_session o (put more st.live))) (sym places)
            (seats_kept is_valid m told st.tree st.live (λ u. seat_in (tree.get nat_cmp p.places u)) s more stands.seats named one o);
        ordinals = λ o. ap (λ x. ordinal_in (tree.get nat_cmp x o)) places ∙ stands.ordinals o;
        table = subst (λ (x : Table). IsTableOf x (λ u. grants_of (of_session u (put more st.live)))) (sym table)
            (table_same p.table (λ u. grants_of (of_session u st.live)) (λ u. grants_of (of_session u (put more st.live))) (told_kept grants_of st.live s more named (sym (ap grants_of found))) stands.table);
        graph = λ o. stopped o ∙ ap (cond (s == o) (Some g)) (stands.graph o) ∙ told_put request_of st.live s more (Some g) named refl o;
        queue = waiting ∙ stands.queue;
        rise = rising.rises_put more st.live stands.rise;
        opened = alike.opened ∙ stands.opened;
        limit = alike.limit ∙ stands.limit;
        number = alike.number ∙ stands.number;
        begun = begun ∙ stands.begun;
      }
    where
      more : Live C
      more = record t { waits = Some (record { call = c; request = g }) }

      named : t.session ≡ s
      named = found_named s st.live t found

      waits_on : (x : Option Seat) → IsSeat is_valid m st.tree x (Some t) → IsSeat is_valid m st.tree x (Some more)
      waits_on None is = absurd is
      waits_on (Some seat) is = record { changes = is.changes; own = is.own; waits = is.waits ∙ ap is_some waiting_was; valid = is.valid }

      one : IsSeat is_valid m st.tree (seat_in (tree.get nat_cmp p.places s)) (Some more)
      one = waits_on (seat_in (tree.get nat_cmp p.places s)) (subst (λ (o : Option (Live C)). IsSeat is_valid m st.tree (seat_in (tree.get nat_cmp p.places s)) o) found (stands.seats s))

  -- a session is taken off the queue
  pub stands_unqueued : (p q : Parts C B) (s : ℕ) → Alike p q → q.begun ≡ p.begun → q.places ≡ p.places → q.table ≡ p.table → q.graph ≡ p.graph → q.waiting.items ≡ without s p.waiting.items
      → (st : State C) → Stands is_valid m told p st → Stands is_valid m told q (unqueued st s)
  stands_unqueued p q s alike begun places table graph waiting st stands =
      record {
        committed = committed_alike is_valid m told p q (Some (map_of st.tree)) alike stands.committed;
        valid = stands.valid;
        seats = λ o. subst (λ (x : tree.BTreeMap ℕ Place). IsSeat is_valid m st.tree (seat_in (tree.get nat_cmp x o)) (of_session o st.live)) (sym places) (stands.seats o);
        ordinals = λ o. ap (λ x. ordinal_in (tree.get nat_cmp x o)) places ∙ stands.ordinals o;
        table = subst (λ (x : Table). IsTableOf x (λ u. grants_of (of_session u st.live))) (sym table) stands.table;
        graph = λ o. ap (λ (x : Graph). waits x o) graph ∙ stands.graph o;
        queue = waiting ∙ ap (without s) stands.queue;
        rise = stands.rise;
        opened = alike.opened ∙ stands.opened;
        limit = alike.limit ∙ stands.limit;
        number = alike.number ∙ stands.number;
        begun = begun ∙ stands.begun;
      }

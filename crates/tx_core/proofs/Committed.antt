-- A commit: the machine's step, and that the core stands for the state after it.
use Rattle.std.proofs.Common.{◌≡◌, ◌≢◌, ℕ, ◌+◌, Bool, true, false, cond, List, [], ◌∷◌, ◌++◌, Option, Some, None, ◌==◌, is_some, refl, sym, ap, subst, ◌∙◌, if◌then◌else◌}
use Rattle.std.proofs.lemmas.Option.{none-some, same_Some}
use Rattle.std.specs.Ordering.{nat_cmp}
use Rattle.std.specs.BTreeMap.{get}
use Rattle.tree_model.specs.Tree.{Tree, map_of}
use Rattle.tree_model.specs.ValidTrees.{IsValidTree}
use Rattle.tree_model.specs.Entries.{Entries, Sorted, changed}
use Rattle.tree_model.specs.declared.change.Change.{Change}
use Rattle.lock_table.specs.Tables.{IsReleased}
use Rattle.lock_table.proofs.Granted.{released_table}
use Rattle.overlays.specs.Views.{contents_after}
use Rattle.wait_graph.specs.Graphs.{waits, with_request}
use Rattle.call_contract.specs.Calls.{CallMeaning, CallLaws}
use Rattle.call_contract.specs.CallChanges.{changes_of_calls}
use Rattle.call_contract.specs.States.{Waiting, Live, State, view, of_session, others, without}
use Rattle.call_contract.specs.Steps as steps
use Rattle.call_contract.specs.Books.{state_of, IsAnswer, IsReached, entry}
use Rattle.call_contract.specs.declared.events.Event.TheVariants as event
use Rattle.call_contract.specs.declared.events.EventAnswer.TheVariants as said
use Rattle.call_contract.proofs.CallChanges.{calls_lead, reached_changes}
use Rattle.call_contract.proofs.Lists.{found_named, found_others, found_ended}
use Rattle.call_contract.proofs.Rising.{rises_others}
use Rattle.tx_core.specs.declared.parts.Parts.{Parts}
use Rattle.tx_core.specs.declared.parts.Seat.{Seat}
use Rattle.tx_core.specs.Holding.{grants_of, request_of}
use Rattle.tx_core.specs.inside.Standing.{seat_in, ordinal_in, Stands, IsSeat, IsSeatOf}
use Rattle.tx_core.specs.inside.Committing.{GoesOn}
use Rattle.tx_core.proofs.Holding.{table_same}
use Rattle.tx_core.proofs.Moves.{is_live}
use Rattle.tx_core.proofs.Reached.{view_valid, seat_of, ready}
use Rattle.tx_core.proofs.Seats.{told_out, is_self, isnt}

-- one more overlay lies over the layers
overlaid : (contents : Option Entries) (low high own : List Change) (es : Entries)
    → ((fs : Entries) → contents ≡ Some fs → Sorted fs) → ((fs : Entries) → Sorted fs → changed high fs ≡ changed own (changed low fs))
    → contents_after low contents ≡ Some es → contents_after high contents ≡ Some (changed own es)
overlaid None low high own es sorted effect is = absurd (none-some es is)
overlaid (Some fs) low high own es sorted effect is = ap Some (effect fs (sorted fs refl) ∙ ap (changed own) (same_Some (changed low fs) es is))

module _ {C B : Type 0} (is_valid : C → Type 0) (m : CallMeaning C) (told : B → Option Entries) where
  -- one session's transaction leaves its seat, and the others' are theirs on another tree as well
  seats_on : (t u : Tree) (live : List (Live C)) (old new : ℕ → Option Seat) (s : ℕ)
      → ((o : ℕ) → IsSeat is_valid m t (old o) (of_session o live))
      → ((o : ℕ) → new o ≡ cond (s == o) None (old o))
      → ((o : ℕ) (seat : Seat) (y : Live C) → of_session o live ≡ Some y → o ≢ s → IsSeatOf is_valid m t seat y → IsSeatOf is_valid m u seat y)
      → (o : ℕ) → IsSeat is_valid m u (new o) (of_session o (others s live))
  seats_on t u live old new s all is moves o = go (s == o) refl
    where
      moved : o ≢ s → (x : Option Seat) (y : Option (Live C)) → of_session o live ≡ y → IsSeat is_valid m t x y → IsSeat is_valid m u x y
      moved off None None e seat = tt
      moved off None (Some y) e seat = absurd seat
      moved off (Some x) None e seat = absurd seat
      moved off (Some x) (Some y) e seat = moves o x y e off seat

      go : (b : Bool) → (s == o) ≡ b → IsSeat is_valid m u (new o) (of_session o (others s live))
      go true e =
          let found : of_session o (others s live) ≡ None = ap (λ x. of_session x (others s live)) (sym (is_self s o e)) ∙ found_ended s live in
          subst (λ (x : Option Seat). IsSeat is_valid m u x (of_session o (others s live))) (sym (is o ∙ ap (λ b. cond b None (old o)) e))
          (subst (λ (x : Option (Live C)). IsSeat is_valid m u None x) (sym found) tt)
      go false e =
          subst (λ (x : Option Seat). IsSeat is_valid m u x (of_session o (others s live))) (sym (is o ∙ ap (λ b. cond b None (old o)) e))
          (subst (λ (x : Option (Live C)). IsSeat is_valid m u (old o) x) (sym (found_others s o live (isnt s o e))) (moved (isnt s o e) (old o) (of_session o live) refl (all o)))

  module _ (laws : CallLaws C is_valid m) where
    -- what a transaction has changed is, on the tree that another one commits, what its calls change there
    kept_on : (st : State C) (s : ℕ) (t : Live C) → IsReached is_valid m st → of_session s st.live ≡ Some t → IsValidTree (view m t.calls st.tree)
        → (o : ℕ) (seat : Seat) (y : Live C) → of_session o st.live ≡ Some y → o ≢ s → IsSeatOf is_valid m st.tree seat y → IsSeatOf is_valid m (view m t.calls st.tree) seat y
    kept_on st s t reached found valid o seat y other off is =
        let new = view m t.calls st.tree in
        let same : changes_of_calls m y.calls new ≡ changes_of_calls m y.calls st.tree = reached_changes is_valid m laws st reached s o t y found other off in
        let changes : seat.own ≡ changes_of_calls m y.calls new = is.changes ∙ sym same in
        record {
          changes = changes;
          own = ap (λ (cs : List Change). changed cs (map_of new)) changes ∙ (calls_lead is_valid m laws y.calls new valid is.valid).map;
          waits = is.waits;
          valid = is.valid;
        }

    -- a transaction was committed
    stands_committed : (p q : Parts C B) (s : ℕ) (seat : Seat)
        → seat_in (get nat_cmp p.places s) ≡ Some seat
        → ((o : ℕ) → seat_in (get nat_cmp q.places o) ≡ cond (s == o) None (seat_in (get nat_cmp p.places o)))
        → ((o : ℕ) → ordinal_in (get nat_cmp q.places o) ≡ ordinal_in (get nat_cmp p.places o))
        → q.base ≡ p.base → ((es : Entries) → told p.base ≡ Some es → Sorted es)
        → ((es : Entries) → Sorted es → changed q.layers.changes es ≡ changed seat.own (changed p.layers.changes es))
        → q.opened ≡ p.opened → q.limit ≡ p.limit → q.number ≡ p.number + 1 → q.begun ≡ p.begun
        → IsReleased p.table s q.table → ((o : ℕ) → waits q.graph o ≡ with_request (waits p.graph) s None o) → q.waiting.items ≡ without s p.waiting.items
        → (st : State C) (t : Live C) → IsReached is_valid m st → Stands is_valid m told p st → of_session s st.live ≡ Some t
        → Stands is_valid m told q (steps.committed m st t)
    stands_committed p q s seat there seats ordinals base sorted effect opened limit number begun released stopped waiting st t reached stands found =
        let named : t.session ≡ s = found_named s st.live t found in
        let was = seat_of is_valid m told p st s seat t stands there found in
        let new = view m t.calls st.tree in
        let valid : IsValidTree new = view_valid is_valid m told laws t.calls st.tree stands.valid was.valid in
        let after : Stands is_valid m told q (record st { tree = new; number = st.number + 1; live = others s st.live; waiting = without s st.waiting }) = record {
          committed = ap (λ (x : B). contents_after q.layers.changes (told x)) base
              ∙ overlaid (told p.base) p.layers.changes q.layers.changes seat.own (map_of st.tree) sorted effect stands.committed
              ∙ ap Some was.own;
          valid = valid;
          seats = seats_on st.tree new st.live (λ u. seat_in (get nat_cmp p.places u)) (λ u. seat_in (get nat_cmp q.places u)) s stands.seats seats (kept_on st s t reached found valid);
          ordinals = λ o. ordinals o ∙ stands.ordinals o;
          table = table_same q.table (λ o. cond (s == o) [] (grants_of (of_session o st.live))) (λ o. grants_of (of_session o (others s st.live))) (told_out grants_of st.live s)
              (released_table p.table q.table (λ u. grants_of (of_session u st.live)) s stands.table released);
          graph = λ o. stopped o ∙ ap (cond (s == o) None) (stands.graph o) ∙ told_out request_of st.live s o;
          queue = waiting ∙ ap (without s) stands.queue;
          rise = rises_others s st.live stands.rise;
          opened = opened ∙ stands.opened;
          limit = limit ∙ stands.limit;
          number = number ∙ ap (λ x. x + 1) stands.number;
          begun = begun ∙ stands.begun;
        } in
        subst (λ x. Stands is_valid m told q (record st { tree = new; number = st.number + 1; live = others x st.live; waiting = without x st.waiting })) (sym named) after

    pub commit_goes : (p q : Parts C B) (s n : ℕ) (seat : Seat)
        → seat_in (get nat_cmp p.places s) ≡ Some seat → seat.waiting ≡ None
        → ((o : ℕ) → seat_in (get nat_cmp q.places o) ≡ cond (s == o) None (seat_in (get nat_cmp p.places o)))
        → ((o : ℕ) → ordinal_in (get nat_cmp q.places o) ≡ ordinal_in (get nat_cmp p.places o))
        → q.base ≡ p.base → ((es : Entries) → told p.base ≡ Some es → Sorted es)
        → ((es : Entries) → Sorted es → changed q.layers.changes es ≡ changed seat.own (changed p.layers.changes es))
        → q.opened ≡ p.opened → q.limit ≡ p.limit → n ≡ p.number + 1 → q.number ≡ n → q.begun ≡ p.begun
        → IsReleased p.table s q.table → ((o : ℕ) → waits q.graph o ≡ with_request (waits p.graph) s None o) → q.waiting.items ≡ without s p.waiting.items
        → q.book.items ≡ p.book.items ++ entry s event.Commit (said.Number n) ∷ []
        → GoesOn is_valid m told p (entry s event.Commit (said.Number n)) q
    commit_goes p q s n seat there free seats ordinals base sorted effect opened limit numbered number begun released stopped waiting adds = record {
      book = adds;
      valid = tt;
      entry = λ st reached stands. subst (λ (o : Option (steps.Outcome C)). IsAnswer (said.Number n) o) (sym (moves st stands)) (ap said.Number (numbered ∙ ap (λ x. x + 1) stands.number));
      state = λ st reached stands. subst (λ (x : State C). Stands is_valid m told q x) (sym (ap (state_of st) (moves st stands)))
          (stands_committed p q s seat there seats ordinals base sorted effect opened limit (number ∙ numbered) begun released stopped waiting st (one st stands) reached stands (found st stands));
    }
      where
        one : (st : State C) → Stands is_valid m told p st → Live C
        one st stands = (is_live is_valid m told p st s seat stands there).0

        found : (st : State C) (stands : Stands is_valid m told p st) → of_session s st.live ≡ Some (one st stands)
        found st stands = (is_live is_valid m told p st s seat stands there).1

        moves : (st : State C) (stands : Stands is_valid m told p st) → steps.step m st s event.Commit ≡ Some (record { state = steps.committed m st (one st stands); answer = said.Number (st.number + 1) })
        moves st stands =
            ap (λ (o : Option (Live C)). steps.step_of m st s o event.Commit) (found st stands)
            ∙ ap (λ (w : Option (Waiting C)). if is_some w then None else Some (record { state = steps.committed m st (one st stands); answer = said.Number (st.number + 1) }))
            (ready is_valid m told p st s seat (one st stands) stands there (found st stands) (ap is_some free))

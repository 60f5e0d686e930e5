-- What a live transaction sees, asks and gets.
use Rattle.std.proofs.Common.{◌≡◌, ◌≢◌, ℕ, Bool, true, false, cond, not, ◌&&◌, List, [], ◌∷◌, ◌++◌, take, drop, length, length-take-le, take_all, nat_le, ◌≤◌, Option, Some, None, ◌==◌, is_some, refl, sym, ap, ap₂, subst, ◌∙◌, arith, if◌then◌else◌}
use Rattle.std.proofs.lemmas.List.{take-append-drop}
use Rattle.std.proofs.lemmas.Bool.Decides.{nat_tests}
use Rattle.std.proofs.Math.Nat.{le_refl}
use Rattle.std.specs.List.{AllByRecursion}
use Rattle.std.specs.List.Sorted.{IsStrictlySortedBy}
use Rattle.std.specs.Ordering.{nat_cmp}
use Rattle.std.specs.BTreeMap as tree
use Rattle.tree_model.specs.Tree.{Tree, map_of}
use Rattle.tree_model.specs.ValidTrees.{IsValidTree}
use Rattle.tree_model.specs.Entries.{Entries, Sorted, changed}
use Rattle.tree_model.specs.Changes.{laid}
use Rattle.tree_model.specs.declared.change.Change.{Change}
use Rattle.tree_model.specs.declared.reply.Reply.{Reply}
use Rattle.tree_model.proofs.Differences.{changed_differences}
use Rattle.tree_model.proofs.WholeTree.{map_sorted}
use Rattle.lock_resources.specs.declared.request.Request.{Request}
use Rattle.lock_table.specs.Grants.{IsTableOf}
use Rattle.lock_table.specs.Tables.{Table}
use Rattle.node_seq.specs.Trees.{StandsFor}
use Rattle.overlays.specs.Views.{contents_after}
use Rattle.wait_graph.specs.Graphs.{Graph, waits, with_request}
use Rattle.call_contract.specs.CallChanges.{changes_of_calls}
use Rattle.call_contract.specs.Calls.{CallMeaning, CallLaws, changes_of}
use Rattle.call_contract.specs.States.{Answered, Live, State, view, of_session, put, others}
use Rattle.call_contract.specs.Attempts.{holders, is_barred, free, barred}
use Rattle.call_contract.proofs.CallChanges.{one_more}
use Rattle.call_contract.proofs.Held.{held_bars}
use Rattle.call_contract.proofs.Lists.{found_named, found_put, found_put_other}
use Rattle.call_contract.proofs.Replay.{view_snoc}
use Rattle.call_contract.proofs.Rising as rising
use Rattle.tx_core.specs.declared.parts.Parts.{Parts}
use Rattle.tx_core.specs.declared.parts.Place.{Place}
use Rattle.tx_core.specs.declared.parts.Seat.{Seat}
use Rattle.tx_core.specs.declared.asking.Got.{Got}
use Rattle.tx_core.specs.declared.asking.Got.TheVariants.{All, Barred, NoMemory}
use Rattle.tx_core.specs.inside.Asking.{IsGot, granted_in, IsInside}
use Rattle.tx_core.specs.Holding.{grants_of, request_of}
use Rattle.tx_core.specs.inside.Standing.{seat_in, ordinal_in, Stands, IsSeat, IsSeatOf}
use Rattle.tx_core.specs.inside.Goes.{with_grants, Reaches, IsFreeFront, with_answer, with_wait}
use Rattle.tx_core.proofs.Granted.{untouched}
use Rattle.tx_core.proofs.Holding.{with_more, table_same, table_kept, granted_all, AreBarring, barring_of, barring_more, all_free}
use Rattle.tx_core.proofs.Holders.{rises_sorted, same_rising, holders_each, barred_none, barred_some, free_all, free_front}
use Rattle.tx_core.proofs.Seats.{seats_put, grants_put, told_put, told_kept, is_self, isnt}
use Rattle.tx_core.proofs.Moves.{Alike, committed_alike}

nothing : IsStrictlySortedBy nat_cmp []
unfolding IsStrictlySortedBy
nothing = tt

front_of : {A : Type 0} (k : ℕ) (xs ys : List A) → length xs ≡ k → take k (xs ++ ys) ≡ xs
front_of {A = A} k xs ys e = ap (λ n. take n (xs ++ ys)) (sym e) ∙ go xs
  where
    go : (zs : List A) → take (length zs) (zs ++ ys) ≡ zs
    go [] = refl
    go (z ∷ zs) = ap (λ ws. z ∷ ws) (go zs)

long_enough : {A : Type 0} (k : ℕ) (xs ys : List A) → length xs ≡ k → nat_le k (length (xs ++ ys)) ≡ true
long_enough {A = A} k xs ys e = ap (λ n. nat_le n (length (xs ++ ys))) (sym e) ∙ go xs
  where
    go : (zs : List A) → nat_le (length zs) (length (zs ++ ys)) ≡ true
    go [] = grind (arith, nat_tests)
    go (z ∷ zs) = grind (arith, nat_tests, go zs)

free_more : {C : Type 0} (ps rest : List Request) (ts : List (Live C)) → AllByRecursion (λ p. is_barred p ts ≡ false) ps → free (ps ++ rest) ts ≡ ps ++ free rest ts
free_more [] rest ts all = refl
free_more (p ∷ ps) rest ts all = ap (λ b. if b then [] else p ∷ free (ps ++ rest) ts) all.0 ∙ ap (λ xs. p ∷ xs) (free_more ps rest ts all.1)

pub all_append : {X : Type 0} (P : X → Type 0) (xs ys : List X) → AllByRecursion P xs → AllByRecursion P ys → AllByRecursion P (xs ++ ys)
all_append P [] ys a b = b
all_append P (x ∷ xs) ys a b = (a.0, all_append P xs ys a.1 b)

module _ {C B : Type 0} (is_valid : C → Type 0) (m : CallMeaning C) (told : B → Option Entries) where
  pub view_valid : (laws : CallLaws C is_valid m) (cs : List (Answered C)) (t : Tree) → IsValidTree t → AllByRecursion (λ a. is_valid a.call) cs → IsValidTree (view m cs t)
  view_valid laws [] t is all = is
  view_valid laws (a ∷ cs) t is all = view_valid laws cs (m.after a.call t) (laws.keeps_valid a.call t all.0 is) all.1

  -- the seat of a live transaction
  pub seat_of : (p : Parts C B) (st : State C) (s : ℕ) (seat : Seat) (t : Live C) → Stands is_valid m told p st → seat_in (tree.get nat_cmp p.places s) ≡ Some seat → of_session s st.live ≡ Some t → IsSeatOf is_valid m st.tree seat t
  seat_of p st s seat t stands there found =
      subst (λ (o : Option (Live C)). IsSeat is_valid m st.tree (Some seat) o) found
      (subst (λ (x : Option Seat). IsSeat is_valid m st.tree x (of_session s st.live)) there (stands.seats s))

  -- the map that a live transaction sees
  pub sees : (laws : CallLaws C is_valid m) (p : Parts C B) (st : State C) (s : ℕ) (seat : Seat) (t : Live C) → Stands is_valid m told p st → seat_in (tree.get nat_cmp p.places s) ≡ Some seat → of_session s st.live ≡ Some t
      → StandsFor (contents_after seat.own (contents_after p.layers.changes (told p.base))) (view m t.calls st.tree)
  sees laws p st s seat t stands there found =
      let is = seat_of p st s seat t stands there found in
      record { valid = view_valid laws t.calls st.tree stands.valid is.valid; map = ap (contents_after seat.own) stands.committed ∙ ap Some is.own }

  none_of : {A : Type 0} (o : Option A) → is_some o ≡ false → o ≡ None
  none_of None e = refl
  none_of (Some x) e = absurd_of e
    where
      absurd_of : {A : Type 0} → true ≡ false → A
      absurd_of e = grind (arith, e)

  pub ready : (p : Parts C B) (st : State C) (s : ℕ) (seat : Seat) (t : Live C) → Stands is_valid m told p st → seat_in (tree.get nat_cmp p.places s) ≡ Some seat → of_session s st.live ≡ Some t
      → is_some seat.waiting ≡ false → t.waits ≡ None
  ready p st s seat t stands there found none = none_of t.waits (sym (seat_of p st s seat t stands there found).waits ∙ none)

  -- who bars a request by what it holds is whom the machine names
  pub holders_are : (p : Parts C B) (st : State C) (s : ℕ) (q : Request) (hs : List ℕ) → Stands is_valid m told p st
      → IsStrictlySortedBy nat_cmp hs → AreBarring (λ u. grants_of (of_session u st.live)) s q hs → holders q (others s st.live) ≡ hs
  holders_are p st s q hs stands sorted are =
      same_rising (holders q (others s st.live)) hs (rises_sorted (holders q (others s st.live)) (rising.holders_rise q (others s st.live) (rising.rises_others s st.live stands.rise))) sorted
      (λ o. holders_each q s st.live o stands.rise ∙ ap (λ b. not (o == s) && b) (held_bars (grants_of (of_session o st.live)) q) ∙ sym (are.each o))

  none_bar : (p : Parts C B) (st : State C) (s : ℕ) (qs : List Request) → Stands is_valid m told p st
      → AllByRecursion (λ q. AreBarring (λ u. grants_of (of_session u st.live)) s q []) qs → AllByRecursion (λ q. is_barred q (others s st.live) ≡ false) qs
  none_bar p st s [] stands all = tt
  none_bar p st s (q ∷ qs) stands all = (barred_none q (others s st.live) (holders_are p st s q [] stands nothing all.0), none_bar p st s qs stands all.1)

  -- one session's transaction has other grants, and all else is as it was
  pub seats_kept : (tree : Tree) (live : List (Live C)) (old : ℕ → Option Seat) (s : ℕ) (t : Live C)
      → ((o : ℕ) → IsSeat is_valid m tree (old o) (of_session o live))
      → t.session ≡ s → IsSeat is_valid m tree (old s) (Some t)
      → (o : ℕ) → IsSeat is_valid m tree (old o) (of_session o (put t live))
  seats_kept tree live old s t all named one o = go (s == o) refl
    where
      go : (b : Bool) → (s == o) ≡ b → IsSeat is_valid m tree (old o) (of_session o (put t live))
      go true e =
          let at : s ≡ o = is_self s o e in
          let found : of_session o (put t live) ≡ Some t = ap (λ x. of_session x (put t live)) (sym at ∙ sym named) ∙ found_put t live in
          subst (λ (x : Option (Live C)). IsSeat is_valid m tree (old o) x) (sym found) (subst (λ x. IsSeat is_valid m tree (old x) (Some t)) at one)
      go false e =
          subst (λ (x : Option (Live C)). IsSeat is_valid m tree (old o) x) (sym (found_put_other o t live (subst (λ x. o ≢ x) (sym named) (isnt s o e)))) (all o)

  stands_granted : (p q : Parts C B) (st : State C) (s : ℕ) (t : Live C) (got : List Request) → Stands is_valid m told p st → of_session s st.live ≡ Some t
      → IsTableOf q.table (with_more (λ u. grants_of (of_session u st.live)) s got)
      → Alike p q → q.begun ≡ p.begun → q.places ≡ p.places → q.graph ≡ p.graph → q.waiting.items ≡ p.waiting.items
      → Stands is_valid m told q (with_grants st t got)
  stands_granted p q st s t got stands found table alike begun places graph waiting =
      record {
        committed = committed_alike is_valid m told p q (Some (map_of st.tree)) alike stands.committed;
        valid = stands.valid;
        seats = λ o. subst (λ (x : tree.BTreeMap ℕ Place). IsSeat is_valid m st.tree (seat_in (tree.get nat_cmp x o)) (of_session o (put more st.live))) (sym places)
            (seats_kept st.tree st.live (λ u. seat_in (tree.get nat_cmp p.places u)) s more stands.seats named one o);
        ordinals = λ o. ap (λ x. ordinal_in (tree.get nat_cmp x o)) places ∙ stands.ordinals o;
        table = table_same q.table (with_more (λ u. grants_of (of_session u st.live)) s got) (λ u. grants_of (of_session u (put more st.live)))
            (grants_put st.live s more got named (ap (λ gs. gs ++ got) (sym (ap grants_of found)))) table;
        graph = λ o. ap (λ (x : Graph). waits x o) graph ∙ stands.graph o ∙ told_kept request_of st.live s more named (sym (ap request_of found)) o;
        queue = waiting ∙ stands.queue;
        rise = rising.rises_put more st.live stands.rise;
        opened = alike.opened ∙ stands.opened;
        limit = alike.limit ∙ stands.limit;
        number = alike.number ∙ stands.number;
        begun = begun ∙ stands.begun;
      }
    where
      more : Live C
      more = record t { grants = t.grants ++ got }

      named : t.session ≡ s
      named = found_named s st.live t found

      grown : (x : Option Seat) → IsSeat is_valid m st.tree x (Some t) → IsSeat is_valid m st.tree x (Some more)
      grown None is = absurd is
      grown (Some seat) is = record { changes = is.changes; own = is.own; waits = is.waits; valid = is.valid }

      one : IsSeat is_valid m st.tree (seat_in (tree.get nat_cmp p.places s)) (Some more)
      one = grown (seat_in (tree.get nat_cmp p.places s)) (subst (λ (o : Option (Live C)). IsSeat is_valid m st.tree (seat_in (tree.get nat_cmp p.places s)) o) found (stands.seats s))

  front_free : (st : State C) (t : Live C) (qs : List Request) (k : ℕ) → k ≤ length qs → AllByRecursion (λ q. is_barred q (others t.session st.live) ≡ false) (take k qs) → IsFreeFront is_valid m told st t qs k
  front_free st t qs k within none =
      let ts = others t.session st.live in
      let split : free qs ts ≡ take k qs ++ free (drop k qs) ts = ap (λ xs. free xs ts) (sym (take-append-drop k qs)) ∙ free_more (take k qs) (drop k qs) ts none in
      let size : length (take k qs) ≡ k = length-take-le k qs within in
      record {
        part = ap (take k) split ∙ front_of k (take k qs) (free (drop k qs) ts) size;
        within = ap (λ xs. nat_le k (length xs)) split ∙ long_enough k (take k qs) (free (drop k qs) ts) size;
      }

  pub reaches : (p q : Parts C B) (s : ℕ) (qs : List Request) (got : Got) → IsGot p.table s qs q.table got
      → Alike p q → q.begun ≡ p.begun → q.places ≡ p.places → q.graph ≡ p.graph → q.waiting.items ≡ p.waiting.items
      → (st : State C) (t : Live C) → Stands is_valid m told p st → of_session s st.live ≡ Some t → Reaches is_valid m told st t qs q got
  reaches p q s qs All is alike begun places graph waiting st t stands found =
      let named = found_named s st.live t found in
      let grants : ℕ → List Request = λ u. grants_of (of_session u st.live) in
      let all = free_all qs (others s st.live) (none_bar p st s qs stands (all_free p.table q.table grants s qs stands.table is)) in (
        subst (λ x. free qs (others x st.live) ≡ qs) (sym named) all.0,
        subst (λ x. barred qs (others x st.live) ≡ None) (sym named) all.1,
        stands_granted p q st s t qs stands found (granted_all p.table q.table grants s qs stands.table is) alike begun places graph waiting,
      )
  reaches p q s qs (Barred k hs) (g, at) alike begun places graph waiting st t stands found =
      let named = found_named s st.live t found in
      let front = take k qs in
      let grants : ℕ → List Request = λ u. grants_of (of_session u st.live) in
      let table = granted_all p.table q.table grants s front stands.table at.granted in
      let bar = barring_more grants s front g hs (barring_of q.table (with_more grants s front) s g hs table at.holders) in
      let names = holders_are p st s g hs stands at.holders.rising bar in
      let one = barred_some g (others s st.live) (λ e. at.some (sym names ∙ e)) in
      let none = none_bar p st s front stands (all_free p.table q.table grants s front stands.table at.granted) in
      let all = free_front front g at.next.0 (others s st.live) none one in (
        g,
        record {
          within = at.within;
          here = at.here;
          free = subst (λ x. free qs (others x st.live) ≡ front) (sym named) (ap (λ xs. free xs (others s st.live)) at.next.1 ∙ all.0);
          barred = subst (λ x. barred qs (others x st.live) ≡ Some g) (sym named) (ap (λ xs. barred xs (others s st.live)) at.next.1 ∙ all.1);
          holders = subst (λ x. holders g (others x st.live) ≡ hs) (sym named) names;
        },
        stands_granted p q st s t front stands found table alike begun places graph waiting,
      )
  reaches p q s qs (NoMemory k) is alike begun places graph waiting st t stands found =
      let named = found_named s st.live t found in
      let grants : ℕ → List Request = λ u. grants_of (of_session u st.live) in
      let none = none_bar p st s (take k qs) stands (all_free p.table q.table grants s (take k qs) stands.table is.1) in (
        front_free st t qs k is.0 (subst (λ x. AllByRecursion (λ q. is_barred q (others x st.live) ≡ false) (take k qs)) (sym named) none),
        stands_granted p q st s t (take k qs) stands found (granted_all p.table q.table grants s (take k qs) stands.table is.1) alike begun places graph waiting,
      )

  -- the changes of a call are taken in
  pub accepted : (laws : CallLaws C is_valid m) (p q : Parts C B) (s : ℕ) (seat : Seat) (own changes : List Change)
      → seat_in (tree.get nat_cmp p.places s) ≡ Some seat
      → own ≡ laid changes seat.own
      → ((es : Entries) → Sorted es → changed own es ≡ changed changes (changed seat.own es))
      → ((o : ℕ) → seat_in (tree.get nat_cmp q.places o) ≡ cond (s == o) (Some (record { own = own; waiting = None })) (seat_in (tree.get nat_cmp p.places o)))
      → ((o : ℕ) → ordinal_in (tree.get nat_cmp q.places o) ≡ ordinal_in (tree.get nat_cmp p.places o))
      → Alike p q → q.begun ≡ p.begun → q.table ≡ p.table → ((o : ℕ) → waits q.graph o ≡ with_request (waits p.graph) s None o) → q.waiting.items ≡ p.waiting.items
      → (st : State C) (t : Live C) (c : C) (r : Reply) → Stands is_valid m told p st → of_session s st.live ≡ Some t → is_valid c
      → changes ≡ changes_of m c (view m t.calls st.tree) → Stands is_valid m told q (with_answer st t c r)
  accepted laws p q s seat own changes there lays adds seats ordinals alike begun table stopped waiting st t c r stands found valid are =
      record {
        committed = committed_alike is_valid m told p q (Some (map_of st.tree)) alike stands.committed;
        valid = stands.valid;
        seats = seats_put is_valid m st.tree st.live (λ u. seat_in (tree.get nat_cmp p.places u)) (λ u. seat_in (tree.get nat_cmp q.places u)) s (record { own = own; waiting = None }) more stands.seats seats named
            (record { changes = changes_more; own = sees_more; waits = refl; valid = all_append (λ a. is_valid a.call) t.calls (record { call = c; reply = r } ∷ []) was.valid (valid, tt) });
        ordinals = λ o. ordinals o ∙ stands.ordinals o;
        table = subst (λ (x : Table). IsTableOf x (λ u. grants_of (of_session u (put more st.live)))) (sym table)
            (table_same p.table (λ u. grants_of (of_session u st.live)) (λ u. grants_of (of_session u (put more st.live))) (told_kept grants_of st.live s more named (sym (ap grants_of found))) stands.table);
        graph = λ o. stopped o ∙ ap (cond (s == o) None) (stands.graph o) ∙ told_put request_of st.live s more None named refl o;
        queue = waiting ∙ stands.queue;
        rise = rising.rises_put more st.live stands.rise;
        opened = alike.opened ∙ stands.opened;
        limit = alike.limit ∙ stands.limit;
        number = alike.number ∙ stands.number;
        begun = begun ∙ stands.begun;
      }
    where
      more : Live C
      more = record t { calls = t.calls ++ record { call = c; reply = r } ∷ []; waits = None }

      named : t.session ≡ s
      named = found_named s st.live t found

      was : IsSeatOf is_valid m st.tree seat t
      was = seat_of p st s seat t stands there found

      before : Tree
      before = view m t.calls st.tree

      before_valid : IsValidTree before
      before_valid = view_valid laws t.calls st.tree stands.valid was.valid

      changes_more : own ≡ changes_of_calls m (t.calls ++ record { call = c; reply = r } ∷ []) st.tree
      changes_more = lays ∙ ap₂ laid are was.changes ∙ sym (one_more m t.calls (record { call = c; reply = r }) st.tree [])

      sees_more : changed own (map_of st.tree) ≡ map_of (view m (t.calls ++ record { call = c; reply = r } ∷ []) st.tree)
      sees_more =
          adds (map_of st.tree) (map_sorted st.tree stands.valid)
          ∙ ap₂ (λ (cs : List Change) (es : Entries). changed cs es) are was.own
          ∙ changed_differences (map_of before) (map_of (m.after c before)) (map_sorted before before_valid) (map_sorted (m.after c before) (laws.keeps_valid c before valid before_valid))
          ∙ ap map_of (sym (view_snoc is_valid m t.calls (record { call = c; reply = r }) st.tree))

  -- a transaction waits with a call for a request
  pub put_waiting : (p q : Parts C B) (s at : ℕ) (seat : Seat) (g : Request)
      → seat_in (tree.get nat_cmp p.places s) ≡ Some seat
      → ((o : ℕ) → seat_in (tree.get nat_cmp q.places o) ≡ cond (s == o) (Some (record { own = seat.own; waiting = Some at })) (seat_in (tree.get nat_cmp p.places o)))
      → ((o : ℕ) → ordinal_in (tree.get nat_cmp q.places o) ≡ ordinal_in (tree.get nat_cmp p.places o))
      → Alike p q → q.begun ≡ p.begun → q.table ≡ p.table → ((o : ℕ) → waits q.graph o ≡ with_request (waits p.graph) s (Some g) o) → q.waiting.items ≡ p.waiting.items ++ s ∷ []
      → (st : State C) (t : Live C) (c : C) → Stands is_valid m told p st → of_session s st.live ≡ Some t
      → Stands is_valid m told q (record (with_wait st t c g) { waiting = st.waiting ++ s ∷ [] })
  put_waiting p q s at seat g there seats ordinals alike begun table stopped waiting st t c stands found =
      record {
        committed = committed_alike is_valid m told p q (Some (map_of st.tree)) alike stands.committed;
        valid = stands.valid;
        seats = seats_put is_valid m st.tree st.live (λ u. seat_in (tree.get nat_cmp p.places u)) (λ u. seat_in (tree.get nat_cmp q.places u)) s (record { own = seat.own; waiting = Some at }) more stands.seats seats named
            (record { changes = was.changes; own = was.own; waits = refl; valid = was.valid });
        ordinals = λ o. ordinals o ∙ stands.ordinals o;
        table = subst (λ (x : Table). IsTableOf x (λ u. grants_of (of_session u (put more st.live)))) (sym table)
            (table_same p.table (λ u. grants_of (of_session u st.live)) (λ u. grants_of (of_session u (put more st.live))) (told_kept grants_of st.live s more named (sym (ap grants_of found))) stands.table);
        graph = λ o. stopped o ∙ ap (cond (s == o) (Some g)) (stands.graph o) ∙ told_put request_of st.live s more (Some g) named refl o;
        queue = waiting ∙ ap (λ xs. xs ++ s ∷ []) stands.queue;
        rise = rising.rises_put more st.live stands.rise;
        opened = alike.opened ∙ stands.opened;
        limit = alike.limit ∙ stands.limit;
        number = alike.number ∙ stands.number;
        begun = begun ∙ stands.begun;
      }
    where
      more : Live C
      more = record t { waits = Some (record { call = c; request = g }) }

      named : t.session ≡ s
      named = found_named s st.live t found

      was : IsSeatOf is_valid m st.tree seat t
      was = seat_of p st s seat t stands there found

  -- how far it came, whatever ended it
  pub front_in : (st : State C) (t : Live C) (qs : List Request) (q : Parts C B) (got : Got) → Reaches is_valid m told st t qs q got
      → IsFreeFront is_valid m told st t qs (granted_in qs got) × Stands is_valid m told q (with_grants st t (take (granted_in qs got) qs))
  front_in st t qs q All got = (
    record { part = ap (take (length qs)) got.0; within = ap (λ xs. nat_le (length qs) (length xs)) got.0 ∙ itself (length qs) },
    subst (λ xs. Stands is_valid m told q (with_grants st t xs)) (sym (take_all (length qs) qs (le_refl (length qs)))) got.2,
  )
    where
      itself : (n : ℕ) → nat_le n n ≡ true
      itself n = grind (arith, nat_tests)
  front_in st t qs q (Barred k hs) got =
      let size : length (take k qs) ≡ k = length-take-le k qs (omega (arith, got.1.within)) in (
        record {
          part = ap (take k) got.1.free ∙ take_all k (take k qs) (subst (λ n. n ≤ k) (sym size) (le_refl k));
          within = ap (λ xs. nat_le k (length xs)) got.1.free ∙ ap (nat_le k) size ∙ itself k;
        },
        got.2,
      )
    where
      itself : (n : ℕ) → nat_le n n ≡ true
      itself n = grind (arith, nat_tests)
  front_in st t qs q (NoMemory k) got = got

  -- parts that differ in the book and the table, which holds the same, stand for the same
  pub stands_same : (p q : Parts C B) → Alike p q → q.begun ≡ p.begun → q.places ≡ p.places
      → ((grants : ℕ → List Request) → IsTableOf p.table grants → IsTableOf q.table grants) → ((o : ℕ) → waits q.graph o ≡ waits p.graph o) → q.waiting.items ≡ p.waiting.items
      → (st : State C) → Stands is_valid m told p st → Stands is_valid m told q st
  stands_same p q alike begun places table graph waiting st stands =
      record {
        committed = committed_alike is_valid m told p q (Some (map_of st.tree)) alike stands.committed;
        valid = stands.valid;
        seats = λ o. subst (λ (x : tree.BTreeMap ℕ Place). IsSeat is_valid m st.tree (seat_in (tree.get nat_cmp x o)) (of_session o st.live)) (sym places) (stands.seats o);
        ordinals = λ o. ap (λ x. ordinal_in (tree.get nat_cmp x o)) places ∙ stands.ordinals o;
        table = table (λ u. grants_of (of_session u st.live)) stands.table;
        graph = λ o. graph o ∙ stands.graph o;
        queue = waiting ∙ stands.queue;
        rise = stands.rise;
        opened = alike.opened ∙ stands.opened;
        limit = alike.limit ∙ stands.limit;
        number = alike.number ∙ stands.number;
        begun = begun ∙ stands.begun;
      }

  -- where nothing was granted all is as it was
  pub stands_untouched : (p q : Parts C B) (s : ℕ) (qs : List Request) (got : Got) → IsGot p.table s qs q.table got → granted_in qs got ≡ 0
      → Alike p q → q.begun ≡ p.begun → q.places ≡ p.places → q.graph ≡ p.graph → q.waiting.items ≡ p.waiting.items
      → (st : State C) → Stands is_valid m told p st → Stands is_valid m told q st
  stands_untouched p q s qs got is none alike begun places graph waiting =
      stands_same p q alike begun places (λ grants. table_kept p.table q.table grants (untouched p.table s qs q.table got is none)) (λ o. ap (λ (x : Graph). waits x o) graph) waiting

-- a seat is left, and then taken again
pub taken_again : {A : Type 0} (s : ℕ) (x : A) (old mid new : ℕ → Option A) → ((o : ℕ) → mid o ≡ cond (s == o) None (old o)) → ((o : ℕ) → new o ≡ cond (s == o) (Some x) (mid o)) → (o : ℕ) → new o ≡ cond (s == o) (Some x) (old o)
taken_again s x old mid new left back o = back o ∙ ap (cond (s == o) (Some x)) (left o) ∙ go (s == o)
  where
    go : (b : Bool) → cond b (Some x) (cond b None (old o)) ≡ cond b (Some x) (old o)
    go true = refl
    go false = refl

pub got_within : (t : Table) (owner : ℕ) (qs : List Request) (u : Table) (got : Got) → IsGot t owner qs u got → granted_in qs got ≤ length qs
got_within t owner qs u All is = le_refl (length qs)
got_within t owner qs u (Barred k hs) (q, is) = omega (arith, is.within)
got_within t owner qs u (NoMemory k) is = is.0

pub got_inside : (t : Table) (owner : ℕ) (qs : List Request) (u : Table) (got : Got) → IsGot t owner qs u got → IsInside qs got
got_inside t owner qs u All is = tt
got_inside t owner qs u (Barred k hs) (q, is) = is.within
got_inside t owner qs u (NoMemory k) is = tt

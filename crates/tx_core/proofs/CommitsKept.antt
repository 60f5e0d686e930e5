-- What the type of a core keeps over a commit and over another base.
use Rattle.std.proofs.Common.{◌≡◌, ◌≤◌, ℕ, List, Option, Some, Result, Ok, Err, OnOk, OnErr, refl, sym, ap, subst, ◌∙◌}
use Rattle.std.proofs.lemmas.Option.{same_Some}
use Rattle.std.specs.Ordering.{nat_cmp}
use Rattle.std.specs.BTreeMap.{get, is_at}
use Rattle.std.specs.Map.{lookup}
use Rattle.tree_model.specs.declared.change.Change.{Change}
use Rattle.tree_model.specs.Entries.{Entries}
use Rattle.tree_model.specs.Tree.{Tree, map_of}
use Rattle.node_seq.specs.Trees.{StandsFor}
use Rattle.overlays.specs.Views.{contents_after}
use Rattle.call_contract.specs.Calls.{CallMeaning, CallLaws}
use Rattle.call_contract.specs.States.{State, of_session, start}
use Rattle.call_contract.specs.Books.{last, IsRun, HasValidCalls}
use Rattle.call_contract.proofs.BookLaws.{reached_commits}
use Rattle.tx_core.specs.Commits.{PreparedView, IsPrepared, ReplaysOthers}
use Rattle.tx_core.specs.Cores.{CoreView, next_number}
use Rattle.tx_core.specs.declared.parts.Parts.{Parts}
use Rattle.tx_core.specs.declared.parts.Place.{Place}
use Rattle.tx_core.specs.inside.Committing.{IsCommit, IsReady, KeepsPrepared}
use Rattle.tx_core.specs.inside.Kept.{IsCore}
use Rattle.tx_core.specs.inside.Standing.{IsSeat, Stands, ordinal_in, seat_in}
use Rattle.tx_core.specs.inside.Sessions.{IsSeated, IsSeatedFor, wait_in}
use Rattle.tx_core.proofs.Counted.{counts_stay}
use Rattle.tx_core.proofs.Kept.{core_reached}
use Rattle.tx_core.proofs.Told.{layered_seated, moved_seated}

-- what is prepared of this number is the next commit
pub prepared_next : {C B : Type 0} (v : CoreView C B) (n : ℕ) (p : PreparedView) → n ≡ next_number v → IsCommit n p → IsPrepared v p
prepared_next v n p is commit = record { number = commit.number ∙ is; list = commit.list; body = commit.body; read = commit.read; short = commit.short }

-- ---- the session whose commit was prepared

-- all that it speaks of is as it was
pub same_prepared : {C B : Type 0} (p q : Parts C B) → q.prepared ≡ p.prepared → q.places.entries ≡ p.places.entries → q.layers.spare ≡ p.layers.spare → KeepsPrepared p → KeepsPrepared q
same_prepared p q same places spare kept s some =
    let was = kept s (sym same ∙ some) in
    (subst (λ (es : List (ℕ × Place)). IsReady (seat_in (lookup (is_at (nat_cmp s)) es))) (sym places) was.0, subst (λ n. 1 ≤ n) (sym spare) was.1)

-- this one's was
pub now_prepared : {C B : Type 0} (q : Parts C B) (s : ℕ) → q.prepared ≡ Some s → IsReady (seat_in (get nat_cmp q.places s)) → 1 ≤ q.layers.spare → KeepsPrepared q
now_prepared q s is ready spare u some = (subst (λ x. IsReady (seat_in (get nat_cmp q.places x))) (same_Some s u (sym is ∙ some)) ready, spare)

-- after a commit was prepared, or wasn't
pub prepared_kept : {C B A E : Type 0} (p q : Parts C B) (s : ℕ) (r : Result A E) → KeepsPrepared p → q.places.entries ≡ p.places.entries
    → OnOk r (q.prepared ≡ Some s) → OnOk r (IsReady (seat_in (get nat_cmp q.places s))) → OnOk r (1 ≤ q.layers.spare)
    → OnErr r ((q.prepared ≡ p.prepared) × (q.layers.spare ≡ p.layers.spare)) → KeepsPrepared q
prepared_kept p q s (Ok x) kept places is ready spare err = now_prepared q s is ready spare
prepared_kept p q s (Err y) kept places is ready spare err = same_prepared p q err.0 places err.1 kept

-- the layers' room is another, and the map of the places has its entries
module _ {C B : Type 0} (p q : Parts C B) (same : q ≡ record p { places = q.places; layers = q.layers; prepared = q.prepared }) (places : q.places.entries ≡ p.places.entries) where
  -- the sessions are as they were
  pub prepared_seated : IsSeated p → KeepsPrepared q → IsSeatedFor p q
  prepared_seated is kept =
      let other : Parts C B = record p { places = q.places } in
      let moved = moved_seated p other is refl (λ o. ap (λ (es : List (ℕ × Place)). wait_in (lookup (is_at (nat_cmp o)) es)) places) (λ o. ap (λ (es : List (ℕ × Place)). ordinal_in (lookup (is_at (nat_cmp o)) es)) places) in
      let after = layered_seated other q p.base q.layers q.prepared moved.seated same kept in
      record { seated = after.seated; opened = after.opened; limit = after.limit }

  -- the parts stand for the same states
  pub prepared_stands : (is_valid : C → Type 0) (m : CallMeaning C) (told : B → Option Entries) (st : State C) → q.layers.changes ≡ p.layers.changes → Stands is_valid m told p st → Stands is_valid m told q st
  prepared_stands is_valid m told st layers stands = subst (λ (x : Parts C B). Stands is_valid m told x st) (sym same) (record {
    committed = ap (λ (cs : List Change). contents_after cs (told p.base)) layers ∙ stands.committed;
    valid = stands.valid;
    seats = λ s. subst (λ (es : List (ℕ × Place)). IsSeat is_valid m st.tree (seat_in (lookup (is_at (nat_cmp s)) es)) (of_session s st.live)) (sym places) (stands.seats s);
    ordinals = λ s. ap (λ (es : List (ℕ × Place)). ordinal_in (lookup (is_at (nat_cmp s)) es)) places ∙ stands.ordinals s;
    table = stands.table;
    graph = stands.graph;
    queue = stands.queue;
    rise = stands.rise;
    opened = stands.opened;
    limit = stands.limit;
    number = stands.number;
    begun = stands.begun;
  })

-- ---- the book and the state

module _ {C B : Type 0} (is_valid : C → Type 0) (m : CallMeaning C) (told : B → Option Entries) where
  pub core_rebased : (count : B → ℕ) (opening : B) (number limit : ℕ) (p q : Parts C B) (base : B) → q ≡ record p { base = base; layers = q.layers; passed = q.passed }
      → ((st : State C) → Stands is_valid m told p st → told base ≡ Some (map_of st.tree) → Stands is_valid m told q st)
      → ((t : Tree) → StandsFor (told opening) t → told base ≡ Some (map_of (last m (start t number limit) p.book.items).tree))
      → IsSeated q → count p.base ≤ count q.base → IsCore is_valid m told count opening number limit p → IsCore is_valid m told count opening number limit q
  core_rebased count opening number limit p q base is state committed rebased later core =
      let book : q.book ≡ p.book = ap (λ (x : Parts C B). x.book) is in
      record {
        valid = subst (λ b. HasValidCalls is_valid b.items) (sym book) core.valid;
        faults = counts_stay count opening p q (ap (λ b. b.items) book) later core.faults;
        seated = rebased;
        opened = ap (λ (x : Parts C B). x.opened) is ∙ core.opened;
        limited = ap (λ (x : Parts C B). x.limit) is ∙ core.limited;
        run = λ t opens.
            let at = core.run t opens in
            record {
              run = subst (λ b. IsRun m (start t number limit) b.items) (sym book) at.run;
              stands = subst (λ b. Stands is_valid m told q (last m (start t number limit) b.items)) (sym book) (state (last m (start t number limit) p.book.items) at.stands (committed t opens));
            };
      }

  -- the others' calls are the same on the tree that a session commits
  pub core_replays : (laws : CallLaws C is_valid m) (count : B → ℕ) (opening : B) (number limit : ℕ) (p : Parts C B) → IsCore is_valid m told count opening number limit p
      → (t : Tree) → StandsFor (told opening) t → (s : ℕ) → ReplaysOthers m (last m (start t number limit) p.book.items) s
  core_replays laws count opening number limit p core t opens s u x y one other off =
      reached_commits is_valid m laws (last m (start t number limit) p.book.items) (core_reached is_valid m told count opening number limit p core t opens) s u x y one other off

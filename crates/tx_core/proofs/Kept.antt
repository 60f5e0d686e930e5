-- What the type of a core keeps.
use Rattle.std.proofs.Common.{◌≡◌, ℕ, ◌+◌, ◌≤◌, ◌<◌, List, [], ◌∷◌, ◌++◌, length, arith, Option, None, Some, sym, ap, ap₂, subst, ◌∙◌, inl, inr, Result, Ok, Err, IfOk, IfErr, OnOk, OnErr, refl}
use Rattle.std.specs.Ordering.{nat_cmp}
use Rattle.std.specs.BTreeMap as tree
use Rattle.std.specs.Map.{lookup}
use Rattle.lock_resources.specs.declared.resource.Resource.{Resource}
use Rattle.lock_table.specs.Tables.{held}
use Rattle.tree_model.specs.Entries.{Entries}
use Rattle.tree_model.specs.declared.change.Change.{Change}
use Rattle.tree_model.specs.Tree.{Tree}
use Rattle.node_seq.specs.Trees.{StandsFor}
use Rattle.overlays.specs.Layered.{Layered}
use Rattle.overlays.specs.Views.{contents_after}
use Rattle.wait_graph.specs.Graphs.{waits}
use Rattle.call_contract.specs.Calls.{CallMeaning}
use Rattle.call_contract.specs.States.{State, start}
use Rattle.node_records.specs.declared.pending.Pending.{Pending}
use Rattle.tx_core.specs.Drains.{Undrained}
use Rattle.tx_core.specs.Cores.{CoreView, IsLeftBy, opened_over, over, waits_in, with_committed, with_entry, with_pending}
use Rattle.call_contract.specs.Sessions.{live_after, live_in, queue_after, begins, begins_of, commits_in}
use Rattle.tx_core.specs.inside.Sessions.{IsSeatedAs, IsSeatedFor, IsToldSeat, wait_in}
use Rattle.call_contract.specs.Books.{Book, IsBookFrom, last, IsRun, FaultsRise, last_fault, IsAtMost, HasValidCall, HasValidCalls, fault_in, IsReached}
use Rattle.call_contract.specs.declared.events.Noted.{Noted}
use Rattle.call_contract.proofs.Appends.{last_append, run_append}
use Rattle.tx_core.specs.declared.parts.Parts.{Parts}
use Rattle.tx_core.specs.declared.parts.Place.{Place}
use Rattle.tx_core.specs.inside.Standing.{Stands, IsSeat, seat_in, ordinal_in}
use Rattle.tx_core.specs.inside.Committing.{GoesOn}
use Rattle.tx_core.specs.inside.Goes.{Goes, Stays, IsUnanswered, fail_entry}
use Rattle.tx_core.specs.inside.Kept.{IsCore}
use Rattle.tx_core.specs.Queues.{times}
use Rattle.tx_core.specs.Refusals.{refusal_in, shown_call_refusal}
use Rattle.tx_core.specs.declared.errors.CallError.{CallError}
use Rattle.tx_core.specs.declared.errors.CallError.TheVariants as call_error
use Rattle.outside_traits.specs.Faults.{FaultCounted}
use Rattle.tx_core.proofs.Counted.{IsTold, counts_go, counts_stay, from_any}
use Rattle.tx_core.proofs.Told.{once, none_prepared, seated_for}
use Rattle.tx_core.proofs.Reached.{all_append}

-- a core with these parts, as contracts see it
abbrev pub shown : {C B : Type 0} → (B → Option Entries) → B → ℕ → ℕ → Undrained → Parts C B → CoreView C B
shown told opening number limit u p = record {
  opening = opening;
  number = number;
  limit = limit;
  base = p.base;
  committed = contents_after p.layers.changes (told p.base);
  book = p.book.items;
  prepared = p.prepared;
  undrained = u;
}

module _ {C B : Type 0} (is_valid : C → Type 0) (m : CallMeaning C) (told : B → Option Entries) where
  -- the state after the book is one that a legal book comes to
  pub core_reached : (count : B → ℕ) (opening : B) (number limit : ℕ) (p : Parts C B) → IsCore is_valid m told count opening number limit p
      → (t : Tree) → StandsFor (told opening) t → IsReached is_valid m (last m (start t number limit) p.book.items)
  core_reached count opening number limit p core t opens = record {
    tree = t;
    number = number;
    limit = limit;
    book = p.book.items;
    legal = record { valid_tree = opens.valid; valid_calls = core.valid; legal = record { run = (core.run t opens).run; faults = from_any (count opening) p.book.items core.faults.rise } };
    state = refl;
  }

  -- what goes on from each state goes on from those that a legal book comes to
  pub goes_on : (p : Parts C B) (n : Noted C) (q : Parts C B) → Goes is_valid m told p n q → GoesOn is_valid m told p n q
  goes_on p n q goes = record { book = goes.book; valid = goes.valid; entry = λ st _ stands. goes.entry st stands; state = λ st _ stands. goes.state st stands }

  pub core_commits : (count : B → ℕ) (opening : B) (number limit : ℕ) (p : Parts C B) (n : Noted C) (q : Parts C B) → IsCore is_valid m told count opening number limit p → GoesOn is_valid m told p n q → IsSeatedFor p q → IsTold (fault_in n.event) (count p.base) (count q.base) → IsCore is_valid m told count opening number limit q
  core_commits count opening number limit p n q core goes same counted = record {
    valid = subst (HasValidCalls is_valid) (sym goes.book) (all_append (λ x. HasValidCall is_valid x.event) p.book.items (n ∷ []) core.valid (goes.valid, tt));
    faults = counts_go count opening p q n goes.book counted core.faults;
    seated = same.seated;
    opened = same.opened ∙ core.opened;
    limited = same.limit ∙ core.limited;
    run = λ t opens.
        let at = core.run t opens in
        let st = last m (start t number limit) p.book.items in
        let reached = core_reached count opening number limit p core t opens in
        record {
          run = subst (IsRun m (start t number limit)) (sym goes.book) (run_append m (start t number limit) p.book.items (n ∷ []) at.run (goes.entry st reached at.stands, tt));
          stands = subst (λ (x : State C). Stands is_valid m told q x) (sym (ap (last m (start t number limit)) goes.book ∙ last_append m (start t number limit) p.book.items (n ∷ []))) (goes.state st reached at.stands);
        };
  }

  pub core_goes : (count : B → ℕ) (opening : B) (number limit : ℕ) (p : Parts C B) (n : Noted C) (q : Parts C B) → IsCore is_valid m told count opening number limit p → Goes is_valid m told p n q → IsSeatedAs p q → IsTold (fault_in n.event) (count p.base) (count q.base) → IsCore is_valid m told count opening number limit q
  core_goes count opening number limit p n q core goes same counted = core_commits count opening number limit p n q core (goes_on p n q goes) (seated_for p q same) counted

  -- nothing was noted
  pub core_still : (count : B → ℕ) (opening : B) (number limit : ℕ) (p q : Parts C B) → IsCore is_valid m told count opening number limit p → q.book.items ≡ p.book.items → count p.base ≤ count q.base
      → ((st : State C) → Stands is_valid m told p st → Stands is_valid m told q st) → IsSeatedFor p q → IsCore is_valid m told count opening number limit q
  core_still count opening number limit p q core book later state same = record {
    valid = subst (HasValidCalls is_valid) (sym book) core.valid;
    faults = counts_stay count opening p q book later core.faults;
    seated = same.seated;
    opened = same.opened ∙ core.opened;
    limited = same.limit ∙ core.limited;
    run = λ t opens.
        let at = core.run t opens in
        record {
          run = subst (IsRun m (start t number limit)) (sym book) at.run;
          stands = subst (λ (b : Book C). Stands is_valid m told q (last m (start t number limit) b)) (sym book) (state (last m (start t number limit) p.book.items) at.stands);
        };
  }

  pub core_stays : (count : B → ℕ) (opening : B) (number limit : ℕ) (p q : Parts C B) → IsCore is_valid m told count opening number limit p → Stays is_valid m told p q → IsSeatedAs p q → count p.base ≤ count q.base → IsCore is_valid m told count opening number limit q
  core_stays count opening number limit p q core stays same later = core_still count opening number limit p q core stays.book later stays.state (seated_for p q same)

  -- where only the room of the book and what is read of the base differ before
  pub goes_after : (p p1 : Parts C B) (n : Noted C) (q : Parts C B) → p1.book.items ≡ p.book.items → ((st : State C) → Stands is_valid m told p st → Stands is_valid m told p1 st)
      → Goes is_valid m told p1 n q → Goes is_valid m told p n q
  goes_after p p1 n q book stays goes = record {
    book = goes.book ∙ ap (λ (b : Book C). b ++ n ∷ []) book;
    valid = goes.valid;
    prepared = goes.prepared;
    entry = λ st stands. goes.entry st (stays st stands);
    state = λ st stands. goes.state st (stays st stands);
  }

  -- an attempt that isn't answered, by why
  pub core_unanswered : (count : B → ℕ) (opening : B) (number limit : ℕ) (p : Parts C B) (s : ℕ) (c : C) (e : CallError) (q : Parts C B) → IsCore is_valid m told count opening number limit p
      → IsUnanswered is_valid m told count p s c e q → IsSeatedAs p q → count p.base ≤ count q.base → (e ≡ call_error.DiskFault → FaultCounted (count p.base) (count q.base)) → IsCore is_valid m told count opening number limit q
  core_unanswered count opening number limit p s c (call_error.Session why) q core is same later cause = subst (IsCore is_valid m told count opening number limit) (sym is) core
  core_unanswered count opening number limit p s c call_error.NoMemory q core (inl stays) same later cause = core_stays count opening number limit p q core stays same later
  core_unanswered count opening number limit p s c call_error.NoMemory q core (inr (k, some, goes)) same later cause = core_goes count opening number limit p (fail_entry s c k None) q core goes same later
  core_unanswered count opening number limit p s c call_error.DiskFault q core (k, goes) same later cause =
      core_goes count opening number limit p (fail_entry s c k (Some (count q.base))) q core goes same (refl, later, cause refl)

  -- what was read or made room for before
  pub unanswered_after : (count : B → ℕ) (p p1 : Parts C B) (s : ℕ) (c : C) (e : CallError) (q : Parts C B) → Stays is_valid m told p p1 → refusal_in e ≡ None → IsUnanswered is_valid m told count p1 s c e q → IsUnanswered is_valid m told count p s c e q
  unanswered_after count p p1 s c (call_error.Session why) q stays none is = absurd (apart none)
    where
      apart : {A : Type 0} {x : A} → Some x ≡ None → ⊥
      apart e = cc
  unanswered_after count p p1 s c call_error.NoMemory q stays none (inl on) = inl (record { book = on.book ∙ stays.book; prepared = on.prepared ∙ stays.prepared; state = λ st stands. on.state st (stays.state st stands) })
  unanswered_after count p p1 s c call_error.NoMemory q stays none (inr (k, some, goes)) = inr (k, some, goes_after p p1 (fail_entry s c k None) q stays.book stays.state goes)
  unanswered_after count p p1 s c call_error.DiskFault q stays none (k, goes) = (k, goes_after p p1 (fail_entry s c k (Some (count q.base))) q stays.book stays.state goes)

  pub unanswered : {T : Type 0} (count : B → ℕ) (p p1 : Parts C B) (s : ℕ) (c : C) (q : Parts C B) → Stays is_valid m told p p1 → (r : Result T CallError) → shown_call_refusal r ≡ None
      → IfErr r (λ e. IsUnanswered is_valid m told count p1 s c e q) → IfErr r (λ e. IsUnanswered is_valid m told count p s c e q)
  unanswered count p p1 s c q stays (Ok x) none is = tt
  unanswered count p p1 s c q stays (Err e) none is = unanswered_after count p p1 s c e q stays none is

  -- a core that was just made
  pub core_new : (count : B → ℕ) (base : B) (number limit : ℕ) (p : Parts C B) → p.base ≡ base → p.layers.changes ≡ [] → p.opened ≡ number → p.limit ≡ limit → p.number ≡ number → p.begun ≡ 0
      → p.places.entries ≡ [] → ((o : ℕ) (r : Resource) → held p.table o r ≡ None) → ((o : ℕ) → waits p.graph o ≡ None) → p.waiting.items ≡ [] → p.book.items ≡ [] → p.live ≡ 0 → p.prepared ≡ None → number ≤ limit → limit < 4294967296
      → IsCore is_valid m told count base number limit p
  core_new count base number limit p is layers opening limited numbered begun places table graph waiting book live free most fits = record {
    valid = subst (HasValidCalls is_valid) (sym book) tt;
    faults = record { rise = subst (FaultsRise (Some (count base))) (sym book) tt; counted = subst (λ (b : Book C). IsAtMost (last_fault (Some (count base)) b) (count p.base)) (sym book) (omega (arith, ap count is)) };
    seated = record {
      seats = λ s. subst (λ (b : Book C). IsToldSeat b (wait_in (tree.get nat_cmp p.places s)) (live_in b s)) (sym book)
          (subst (λ (es : List (ℕ × Place)). IsToldSeat {C = C} [] (wait_in (lookup (tree.is_at (nat_cmp s)) es)) None) (sym places) tt);
      ordinals = λ s. ap (λ (es : List (ℕ × Place)). ordinal_in (lookup (tree.is_at (nat_cmp s)) es)) places ∙ sym (ap (λ (b : Book C). begins_of b s) book);
      queue = waiting ∙ sym (ap (λ (b : Book C). queue_after [] b) book);
      waits = λ s. ap (times s) waiting ∙ sym (ap (λ (b : Book C). once (waits_in (live_in b s))) book);
      begun = begun ∙ sym (ap (λ (b : Book C). begins b) book);
      number = numbers numbered opening (ap (λ (b : Book C). commits_in b) book);
      live = live ∙ sym (ap (λ (b : Book C). length (live_after [] b)) book);
      limited = omega (arith, opening, limited, begun, most);
      fits = omega (arith, limited, fits);
      numbered = omega (arith, opening, numbered, begun, live);
      room = omega (arith, live, ap length book, ap length waiting);
      prepared = none_prepared p free;
    };
    opened = opening;
    limited = limited;
    run = λ t opens.
        record {
          run = subst (IsRun m (start t number limit)) (sym book) tt;
          stands = subst (λ (b : Book C). Stands is_valid m told p (last m (start t number limit) b)) (sym book) (record {
            committed = ap₂ (λ (x : List _) (y : B). contents_after x (told y)) layers is ∙ ap (contents_after []) opens.map;
            valid = opens.valid;
            seats = λ s. subst (λ (es : List (ℕ × Place)). IsSeat is_valid m t (seat_in (lookup (tree.is_at (nat_cmp s)) es)) None) (sym places) tt;
            ordinals = λ s. ap (λ (es : List (ℕ × Place)). ordinal_in (lookup (tree.is_at (nat_cmp s)) es)) places;
            table = table;
            graph = graph;
            queue = waiting;
            rise = tt;
            opened = opening;
            limit = limited;
            number = numbered;
            begun = begun;
          });
        };
  }
    where
      numbers : p.number ≡ number → p.opened ≡ number → commits_in p.book.items ≡ 0 → p.number ≡ p.opened + commits_in p.book.items
      numbers e f g = omega (arith, e, f, g)

module _ {C B : Type 0} (is_valid : C → Type 0) (m : CallMeaning C) (told : B → Option Entries) where
  -- what is committed stays where the layers and the base's map do
  pub same_committed : (p q : Parts C B) → q.layers ≡ p.layers → told q.base ≡ told p.base → contents_after q.layers.changes (told q.base) ≡ contents_after p.layers.changes (told p.base)
  same_committed p q layers base = ap₂ (λ (l : Layered) (x : Option Entries). contents_after l.changes x) layers base

  -- what a core with these parts shows, by what it was
  pub shown_so : (opening : B) (number limit : ℕ) (u : Undrained) (p q : Parts C B) (b : Book C) (prepared : Option ℕ) → q.book.items ≡ b → q.prepared ≡ prepared → contents_after q.layers.changes (told q.base) ≡ contents_after p.layers.changes (told p.base)
      → shown told opening number limit u q ≡ record { opening = opening; number = number; limit = limit; base = q.base; committed = contents_after p.layers.changes (told p.base); book = b; prepared = prepared; undrained = u }
  shown_so opening number limit u p q b prepared book is committed =
      ap₂ (λ (x : Book C) (y : Option ℕ). so x y (contents_after q.layers.changes (told q.base))) book is ∙ ap (so b prepared) committed
    where
      so : Book C → Option ℕ → Option Entries → CoreView C B
      so b prepared committed = record { opening = opening; number = number; limit = limit; base = q.base; committed = committed; book = b; prepared = prepared; undrained = u }

  -- with one more entry, over the same base or one that was read
  pub shown_entry : (opening : B) (number limit : ℕ) (u : Undrained) (p q : Parts C B) (n : Noted C) (v : CoreView C B) → shown told opening number limit u p ≡ v → q.book.items ≡ p.book.items ++ n ∷ [] → q.prepared ≡ None → q.layers ≡ p.layers → q.base ≡ p.base
      → shown told opening number limit u q ≡ with_entry v n
  shown_entry opening number limit u p q n v old book none layers base =
      shown_so opening number limit u p q (p.book.items ++ n ∷ []) None book none (same_committed p q layers (ap told base)) ∙ ap so base ∙ ap (λ (x : CoreView C B). with_entry x n) old
    where
      so : B → CoreView C B
      so b = record { opening = opening; number = number; limit = limit; base = b; committed = contents_after p.layers.changes (told p.base); book = p.book.items ++ n ∷ []; prepared = None; undrained = u }

  pub shown_over : (opening : B) (number limit : ℕ) (u : Undrained) (p q : Parts C B) (n : Noted C) (v : CoreView C B) → shown told opening number limit u p ≡ v → q.book.items ≡ p.book.items ++ n ∷ [] → q.prepared ≡ None → q.layers ≡ p.layers → told q.base ≡ told p.base
      → shown told opening number limit u q ≡ over (with_entry v n) q.base
  shown_over opening number limit u p q n v old book none layers base =
      shown_so opening number limit u p q (p.book.items ++ n ∷ []) None book none (same_committed p q layers base) ∙ ap (λ (x : CoreView C B). over (with_entry x n) q.base) old

  -- with none, and with a commit prepared
  pub shown_kept : (opening : B) (number limit : ℕ) (u : Undrained) (p q : Parts C B) (v : CoreView C B) → shown told opening number limit u p ≡ v → q.book.items ≡ p.book.items → q.prepared ≡ p.prepared
      → contents_after q.layers.changes (told q.base) ≡ contents_after p.layers.changes (told p.base) → q.base ≡ p.base → shown told opening number limit u q ≡ v
  shown_kept opening number limit u p q v old book is committed base = shown_so opening number limit u p q p.book.items p.prepared book is committed ∙ ap so base ∙ old
    where
      so : B → CoreView C B
      so b = record { opening = opening; number = number; limit = limit; base = b; committed = contents_after p.layers.changes (told p.base); book = p.book.items; prepared = p.prepared; undrained = u }

  pub shown_prepared : (opening : B) (number limit : ℕ) (u : Undrained) (p q : Parts C B) (prepared : Option ℕ) (v : CoreView C B) → shown told opening number limit u p ≡ v → q.book.items ≡ p.book.items → q.prepared ≡ prepared
      → contents_after q.layers.changes (told q.base) ≡ contents_after p.layers.changes (told p.base) → q.base ≡ p.base → shown told opening number limit u q ≡ record v { prepared = prepared }
  shown_prepared opening number limit u p q prepared v old book is committed base =
      shown_so opening number limit u p q p.book.items prepared book is committed ∙ ap so base ∙ ap (λ (x : CoreView C B). record x { prepared = prepared }) old
    where
      so : B → CoreView C B
      so b = record { opening = opening; number = number; limit = limit; base = b; committed = contents_after p.layers.changes (told p.base); book = p.book.items; prepared = prepared; undrained = u }

  -- with a commit
  pub shown_commit : (opening : B) (number limit : ℕ) (u w : Undrained) (made : Pending) (p q : Parts C B) (n : Noted C) (v : CoreView C B) → shown told opening number limit u p ≡ v → q.book.items ≡ p.book.items ++ n ∷ [] → q.prepared ≡ None → q.base ≡ p.base
      → w ≡ record { after = u.after; waiting = u.waiting ++ made ∷ [] } → shown told opening number limit w q ≡ with_committed (with_pending (with_entry v n) made) (contents_after q.layers.changes (told q.base))
  shown_commit opening number limit u w made p q n v old book none base waits =
      ap (λ (x : Undrained). shown told opening number limit x q) waits ∙ ap₂ (λ (x : Book C) (y : Option ℕ). so x y q.base) book none ∙ ap (so (p.book.items ++ n ∷ []) None) base
      ∙ ap (λ (x : CoreView C B). with_committed (with_pending (with_entry x n) made) (contents_after q.layers.changes (told q.base))) old
    where
      so : Book C → Option ℕ → B → CoreView C B
      so b prepared base = record { opening = opening; number = number; limit = limit; base = base; committed = contents_after q.layers.changes (told q.base); book = b; prepared = prepared; undrained = record { after = u.after; waiting = u.waiting ++ made ∷ [] } }

  -- over another base and other layers
  pub shown_rebased : (opening : B) (number limit : ℕ) (u : Undrained) (p q : Parts C B) (base : B) (v : CoreView C B) → shown told opening number limit u p ≡ v → q ≡ record p { base = base; layers = q.layers; passed = q.passed }
      → shown told opening number limit u q ≡ with_committed (over v base) (contents_after q.layers.changes (told q.base))
  shown_rebased opening number limit u p q base v old same =
      ap (λ (x : Parts C B). so x (contents_after q.layers.changes (told q.base))) same ∙ ap (λ (x : CoreView C B). with_committed (over x base) (contents_after q.layers.changes (told q.base))) old
    where
      so : Parts C B → Option Entries → CoreView C B
      so x committed = record { opening = opening; number = number; limit = limit; base = x.base; committed = committed; book = x.book.items; prepared = x.prepared; undrained = u }

  -- .. which make the same
  pub shown_merged : (opening : B) (number limit : ℕ) (u : Undrained) (p q : Parts C B) (v : CoreView C B) → shown told opening number limit u p ≡ v → q ≡ record p { base = q.base; layers = q.layers }
      → contents_after q.layers.changes (told q.base) ≡ contents_after p.layers.changes (told p.base) → shown told opening number limit u q ≡ over v q.base
  shown_merged opening number limit u p q v old same committed =
      ap (λ (x : Parts C B). so x (contents_after q.layers.changes (told q.base))) same ∙ ap (so p) committed ∙ ap (λ (x : CoreView C B). over x q.base) old
    where
      so : Parts C B → Option Entries → CoreView C B
      so x committed = record { opening = opening; number = number; limit = limit; base = q.base; committed = committed; book = x.book.items; prepared = x.prepared; undrained = u }

  -- an attempt that isn't answered, as contracts see it
  pub left_by : (count : B → ℕ) (opening : B) (number limit : ℕ) (u : Undrained) (p : Parts C B) (s : ℕ) (c : C) (e : CallError) (q : Parts C B) (v w : CoreView C B) → v ≡ shown told opening number limit u p → w ≡ shown told opening number limit u q
      → contents_after q.layers.changes (told q.base) ≡ contents_after p.layers.changes (told p.base) → IsUnanswered is_valid m told count p s c e q → IsLeftBy count v s c e w
  left_by count opening number limit u p s c e q v w old new committed is =
      subst (λ (x : CoreView C B). IsLeftBy count x s c e w) (sym old) (subst (IsLeftBy count (shown told opening number limit u p) s c e) (sym new) (go e is))
    where
      go : (e : CallError) → IsUnanswered is_valid m told count p s c e q → IsLeftBy count (shown told opening number limit u p) s c e (shown told opening number limit u q)
      go (call_error.Session why) is = ap (shown told opening number limit u) is
      go call_error.NoMemory (inl stays) = inl (shown_so opening number limit u p q p.book.items p.prepared stays.book stays.prepared committed)
      go call_error.NoMemory (inr (k, some, goes)) = inr (k, some, shown_so opening number limit u p q (p.book.items ++ fail_entry s c k None ∷ []) None goes.book goes.prepared committed)
      go call_error.DiskFault (k, goes) = (k, shown_so opening number limit u p q (p.book.items ++ fail_entry s c k (Some (count q.base)) ∷ []) None goes.book goes.prepared committed)

-- a core that was just made, as contracts see it
pub shown_new : {C B : Type 0} (told : B → Option Entries) (opening base : B) (number limit : ℕ) (changes : List Change) (book : Book C) (waiting : List Pending) → opening ≡ base → changes ≡ [] → book ≡ [] → waiting ≡ []
    → ◌≡◌ {A = CoreView C B} (record { opening = opening; number = number; limit = limit; base = base; committed = contents_after changes (told base); book = book; prepared = None; undrained = record { after = number; waiting = waiting } })
    (opened_over base (told base) number limit)
shown_new {C = C} {B = B} told opening base number limit changes book waiting same none empty all =
    ap₂ (λ (x : B) (y : Book C). so x (contents_after changes (told base)) y waiting) same empty ∙ ap (λ (x : Option Entries). so base x [] waiting) (ap (λ (cs : List Change). contents_after cs (told base)) none ∙ nothing (told base)) ∙ ap (so base (told base) []) all
  where
    so : B → Option Entries → Book C → List Pending → CoreView C B
    so x committed book waiting = record { opening = x; number = number; limit = limit; base = base; committed = committed; book = book; prepared = None; undrained = record { after = number; waiting = waiting } }

    nothing : (x : Option Entries) → contents_after [] x ≡ x
    nothing None = refl
    nothing (Some es) = refl

pub of_both : {A E R Q : Type 0} {P : A → Type 0} (r : Result A E) → IfOk r P → OnErr r Q → ((x : A) → P x → R) → (Q → R) → R
of_both (Ok x) ok err f g = f x ok
of_both (Err y) ok err f g = g err

-- by the error, too
pub of_each : {A E R : Type 0} {P : A → Type 0} {Q : E → Type 0} (r : Result A E) → IfOk r P → IfErr r Q → ((x : A) → P x → R) → ((e : E) → r ≡ Err e → Q e → R) → R
of_each (Ok x) ok err f g = f x ok
of_each (Err e) ok err f g = g e refl err

pub as_ok : {A E P : Type 0} {Q : A → Type 0} (r : Result A E) → (P → (x : A) → Q x) → OnOk r P → IfOk r Q
as_ok (Ok x) f is = f is x
as_ok (Err y) f is = tt

pub both_ok : {A E : Type 0} {P Q R : A → Type 0} (r : Result A E) → ((x : A) → P x → Q x → R x) → IfOk r P → IfOk r Q → IfOk r R
both_ok (Ok x) f a b = f x a b
both_ok (Err y) f a b = tt

module _ {C B : Type 0} (is_valid : C → Type 0) (m : CallMeaning C) (told : B → Option Entries) where
  -- the book is legal
  pub core_legal : (count : B → ℕ) (opening : B) (number limit : ℕ) (u : Undrained) (p : Parts C B) (v : CoreView C B) → v ≡ shown told opening number limit u p → IsCore is_valid m told count opening number limit p
      → (t : Tree) → StandsFor (told v.opening) t → IsBookFrom is_valid m t v.number v.limit v.book
  core_legal count opening number limit u p v is core =
      subst (λ (x : CoreView C B). (t : Tree) → StandsFor (told x.opening) t → IsBookFrom is_valid m t x.number x.limit x.book) (sym is)
      (λ t opens. record {
        valid_tree = opens.valid;
        valid_calls = core.valid;
        legal = record { run = (core.run t opens).run; faults = from_any (count opening) p.book.items core.faults.rise };
      })

-- What a call that waits asks for, and what is granted of it.
use Rattle.std.proofs.Common.{◌≡◌, ℕ, zero, suc, ◌+◌, ◌<◌, drop, get_or, Decides, if◌then◌else◌, Bool, true, false, cond, not, ◌&&◌, ◌||◌, List, [], ◌∷◌, ◌++◌, take, length, ◌≤◌, nat_lt, Option, Some, None, Result, Ok, Err, IfOk, ◌==◌, refl, sym, ap, ap₂, subst, ◌∙◌, arith, unwrap_or, take_all, true≢false}
use Rattle.std.proofs.lemmas.Bool.Decides.{nat_tests}
use Rattle.std.proofs.lemmas.List.{drop_more}
use Rattle.std.proofs.Math.Nat.{le_refl}
use Rattle.std.specs.List.{list_any}
use Rattle.std.specs.Ordering.{nat_cmp}
use Rattle.std.specs.BTreeMap as tree
use Rattle.tree_model.specs.Entries.{Entries}
use Rattle.lock_modes.specs.declared.ask.Ask.{Ask}
use Rattle.lock_resources.specs.declared.request.Request.{Request}
use Rattle.lock_resources.specs.declared.resource.Resource.{Resource}
use Rattle.lock_table.specs.Asks.{join_with, Covers}
use Rattle.lock_table.specs.Grants.{join_of}
use Rattle.lock_table.specs.Resources.{same_resource}
use Rattle.lock_table.specs.Tables.{Table, held, IsGranted, IsSame}
use Rattle.lock_table.proofs.Maps.{exact_resources}
use Rattle.node_seq.specs.Trees.{OnTree}
use Rattle.node_seq.specs.declared.node_read.SeqError.{SeqError}
use Rattle.overlays.specs.Views.{contents_after}
use Rattle.wait_graph.specs.Graphs.{Graph, waits}
use Rattle.call_contract.specs.Books.{Book}
use Rattle.call_contract.specs.declared.events.Event.{Event}
use Rattle.call_contract.specs.declared.events.Event.TheVariants as event
use Rattle.call_contract.specs.declared.events.Noted.{Noted}
use Rattle.call_contract.specs.Calls.{CallMeaning, CallLaws, changes_of}
use Rattle.call_contract.specs.States.{Live, State, view, of_session}
use Rattle.call_contract.specs.Attempts as machine
use Rattle.tx_core.specs.Retries.{has_mode, hold_more}
use Rattle.tx_core.specs.declared.parts.Parts.{Parts}
use Rattle.tx_core.specs.declared.parts.Seat.{Seat}
use Rattle.tx_core.specs.declared.asking.Got.{Got}
use Rattle.tx_core.specs.declared.asking.Got.TheVariants.{All, Barred, NoMemory}
use Rattle.tx_core.specs.declared.asking.Outcome.{Outcome}
use Rattle.tx_core.specs.declared.asking.Wanted.{Wanted}
use Rattle.tx_core.specs.inside.Asking.{AreGranted, IsGot, granted_in}
use Rattle.tx_core.specs.Holding.{grants_of}
use Rattle.tx_core.specs.inside.Standing.{Stands, seat_in}
use Rattle.tx_core.specs.inside.Goes.{IsMade}
use Rattle.tx_core.specs.inside.Retrying.{call_of, call_at, call_in, waiting_call, first_at, granted_front, AreAsked}
use Rattle.tx_core.proofs.Holding.{table_kept}
use Rattle.tx_core.proofs.Moves.{Alike}
use Rattle.tx_core.proofs.Reached.{sees, stands_same}
use Rattle.tx_core.proofs.Repeated.{has_mode_decides, more_lack, passed_before}

or_off : (a b : Bool) → (a || b) ≡ false → (a ≡ false) × (b ≡ false)
or_off true b e = absurd (true≢false e)
or_off false b e = (refl, e)

turned : (b : Bool) → not b ≡ false → b ≡ true
turned true e = refl
turned false e = absurd (true≢false e)

both_on : (a b : Bool) → (a && b) ≡ true → (a ≡ true) × (b ≡ true)
both_on true b e = (refl, e)
both_on false b e = absurd (true≢false (sym e))

is_self : (o p : ℕ) → (o == p) ≡ true → o ≡ p
is_self o p e = grind (arith, nat_tests, e)

-- with a grant of what is held all is held as before
pub covered_then : (t : Table) (owner : ℕ) (q : Request) → Covers (held t owner q.resource) q.ask
    → (o : ℕ) (r : Resource) → cond ((owner == o) && same_resource q.resource r) (Some (join_with q.ask (held t owner q.resource))) (held t o r) ≡ held t o r
covered_then t owner q covers o r = go ((owner == o) && same_resource q.resource r) refl
  where
    go : (b : Bool) → ((owner == o) && same_resource q.resource r) ≡ b → cond b (Some (join_with q.ask (held t owner q.resource))) (held t o r) ≡ held t o r
    go true e =
        let both = both_on (owner == o) (same_resource q.resource r) e in
        sym covers ∙ ap₂ (λ (x : ℕ) (y : Resource). held t x y) (is_self owner o both.0) (exact_resources q.resource r both.1)
    go false e = refl

-- a grant of what is held changes nothing
covered_same : (t v : Table) (owner : ℕ) (q : Request) → IsGranted t owner q v → Covers (held t owner q.resource) q.ask → IsSame t v
covered_same t v owner q granted covers o r = granted o r ∙ covered_then t owner q covers o r

repeated : (t : Table) (owner : ℕ) (qs : List Request) (u : Table) → AreGranted t owner qs u → list_any (λ g. not (has_mode (held t owner g.resource) g.ask)) qs ≡ false → IsSame t u
repeated t owner [] u same none = same
repeated t owner (q ∷ qs) u (v, free, one, rest) none =
    let off = or_off (not (has_mode (held t owner q.resource) q.ask)) (list_any (λ g. not (has_mode (held t owner g.resource) g.ask)) qs) none in
    let first : IsSame t v = covered_same t v owner q one ((has_mode_decides (held t owner q.resource) q.ask).0 (turned (has_mode (held t owner q.resource) q.ask) off.0)) in
    let then_so : IsSame v u = repeated v owner qs u rest (ap (λ (f : Resource → Option Ask). list_any (λ g. not (has_mode (f g.resource) g.ask)) qs) (λ i r. first owner r i) ∙ off.1) in
    λ o r. then_so o r ∙ first o r

granted_of : (t : Table) (owner : ℕ) (qs : List Request) (u : Table) (got : Got) → IsGot t owner qs u got → AreGranted t owner (take (granted_in qs got) qs) u
granted_of t owner qs u All is = subst (λ xs. AreGranted t owner xs u) (sym (take_all (length qs) qs (le_refl (length qs)))) is
granted_of t owner qs u (Barred k hs) (q, is) = is.granted
granted_of t owner qs u (NoMemory k) is = is.1

module _ {C B : Type 0} (is_valid : C → Type 0) (m : CallMeaning C) (told : B → Option Entries) where
  -- the call that was looked up is the one that waits
  same_call : (p : Parts C B) (s : ℕ) (book : Book C) (x c : C) → book ≡ p.book.items → Some x ≡ call_in book (seat_in (tree.get nat_cmp p.places s)) → waiting_call p s ≡ Some c → x ≡ c
  same_call p s book x c same is waits = ap (λ (o : Option C). unwrap_or o x) (is ∙ ap (λ (b : Book C). call_in b (seat_in (tree.get nat_cmp p.places s))) same ∙ waits)

  -- what a call that waits asks for
  pub asked_again : (laws : CallLaws C is_valid m) (p : Parts C B) (s : ℕ) (seat : Seat) (book : Book C) (x : C) (r : Result Wanted SeqError)
      → seat_in (tree.get nat_cmp p.places s) ≡ Some seat → book ≡ p.book.items → Some x ≡ call_in book (seat_in (tree.get nat_cmp p.places s))
      → OnTree (contents_after seat.own (contents_after p.layers.changes (told p.base))) r (λ t wanted. wanted.requests ≡ m.requests x t)
      → IfOk r (λ wanted. (c : C) → waiting_call p s ≡ Some c → (st : State C) (t : Live C) → Stands is_valid m told p st → of_session s st.live ≡ Some t → wanted.requests ≡ machine.asked m st t c)
  asked_again laws p s seat book x (Err e) there same is value = tt
  asked_again laws p s seat book x (Ok wanted) there same is value = λ c waits st t stands found.
      value (view m t.calls st.tree) (sees is_valid m told laws p st s seat t stands there found) ∙ ap (λ y. m.requests y (view m t.calls st.tree)) (same_call p s book x c same is waits)

  pub made_again : (laws : CallLaws C is_valid m) (p : Parts C B) (s : ℕ) (seat : Seat) (book : Book C) (x : C) (r : Result Outcome SeqError)
      → seat_in (tree.get nat_cmp p.places s) ≡ Some seat → book ≡ p.book.items → Some x ≡ call_in book (seat_in (tree.get nat_cmp p.places s))
      → OnTree (contents_after seat.own (contents_after p.layers.changes (told p.base))) r (λ t made. made.reply ≡ m.reply x t)
      → OnTree (contents_after seat.own (contents_after p.layers.changes (told p.base))) r (λ t made. made.changes ≡ changes_of m x t)
      → IfOk r (λ outcome. (c : C) → waiting_call p s ≡ Some c → (st : State C) → Stands is_valid m told p st → IsMade m st s c outcome)
  made_again laws p s seat book x (Err e) there same is reply changes = tt
  made_again laws p s seat book x (Ok outcome) there same is reply changes = λ c waits st stands.
      let call = same_call p s book x c same is waits in
      record {
        reply = λ t found. reply (view m t.calls st.tree) (sees is_valid m told laws p st s seat t stands there found) ∙ ap (λ y. m.reply y (view m t.calls st.tree)) call;
        changes = λ t found. changes (view m t.calls st.tree) (sees is_valid m told laws p st s seat t stands there found) ∙ ap (λ y. changes_of m y (view m t.calls st.tree)) call;
      }

  pub valid_again : (p : Parts C B) (s : ℕ) (book : Book C) (x : C) → book ≡ p.book.items → Some x ≡ call_in book (seat_in (tree.get nat_cmp p.places s)) → is_valid x → (c : C) → waiting_call p s ≡ Some c → is_valid c
  valid_again p s book x same is valid c waits = subst is_valid (same_call p s book x c same is waits) valid

  -- what was asked for, as the table tells before it
  pub are_asked : (p q : Parts C B) (s : ℕ) (qs : List Request) (got : Got) (more : Bool) → granted_in qs got ≤ length qs
      → more ≡ nat_lt (first_at (λ g. not (has_mode (held p.table s g.resource) g.ask)) qs) (granted_in qs got)
      → IsGot p.table s qs q.table got → Alike p q → q.begun ≡ p.begun → q.places ≡ p.places → q.graph ≡ p.graph → q.waiting.items ≡ p.waiting.items
      → AreAsked is_valid m told p s qs got more q
  are_asked p q s qs got more within is asked alike begun places graph waiting = record {
    raised = λ st t stands found. raised st t stands found;
    kept = λ none. stands_same is_valid m told p q alike begun places
        (λ grants. table_kept p.table q.table grants (repeated p.table s (take (granted_in qs got) qs) q.table (granted_of p.table s qs q.table got asked)
        (passed_before (λ g. not (has_mode (held p.table s g.resource) g.ask)) qs (granted_in qs got) within ∙ sym is ∙ none)))
        (λ o. ap (λ (x : Graph). waits x o) graph) waiting;
  }
    where
      raised : (st : State C) (t : Live C) → Stands is_valid m told p st → of_session s st.live ≡ Some t → hold_more t.grants (t.grants ++ granted_front qs got) ≡ more
      raised st t stands found =
          let held_is : (r : Resource) → held p.table s r ≡ join_of t.grants r = λ r. stands.table s r ∙ ap (λ (o : Option (Live C)). join_of (grants_of o) r) found in
          more_lack t.grants (granted_front qs got)
          ∙ ap (λ xs. list_any (λ g. not (has_mode (join_of t.grants g.resource) g.ask)) xs) (front_is got within)
          ∙ ap (λ (f : Resource → Option Ask). list_any (λ g. not (has_mode (f g.resource) g.ask)) (take (granted_in qs got) qs)) (λ i r. sym (held_is r) i)
          ∙ passed_before (λ g. not (has_mode (held p.table s g.resource) g.ask)) qs (granted_in qs got) within
          ∙ sym is
        where
          front_is : (got : Got) → granted_in qs got ≤ length qs → granted_front qs got ≡ take (granted_in qs got) qs
          front_is All lt = sym (take_all (length qs) qs (le_refl (length qs)))
          front_is (Barred k hs) lt = refl
          front_is (NoMemory k) lt = refl

-- ---- the first requests that ask for no more than is held

has_tells : (h k : Option Ask) (a : Ask) (b : Bool) → h ≡ k → (b ≡ true → Covers h a) × (Covers h a → b ≡ true) → not (has_mode k a) ≡ not b
has_tells h k a b same tells = go (has_mode k a) b refl refl
  where
    decides : Decides (has_mode k a) (Covers h a)
    decides = subst (λ (x : Option Ask). Decides (has_mode k a) (Covers x a)) (sym same) (has_mode_decides k a)

    go : (x y : Bool) → has_mode k a ≡ x → b ≡ y → not (has_mode k a) ≡ not b
    go true y e f = ap not (e ∙ sym (tells.1 (decides.0 e)))
    go false true e f = ap not (decides.1 (tells.0 f) ∙ sym f)
    go false false e f = ap not (e ∙ sym f)

module _ {A : Type 0} (p : A → Bool) (xs : List A) (k : ℕ) (d : A) (lt : k < length xs) where
  front_then : (b : Bool) → p (get_or xs k d) ≡ b → first_at p (drop k xs) ≡ (if b then 0 else suc (first_at p (drop (k + 1) xs)))
  front_then b e = ap (first_at p) (drop_more xs k d lt) ∙ ap (λ x. if x then 0 else suc (first_at p (drop (k + 1) xs))) e

  pub first_here : first_at p xs ≡ k + first_at p (drop k xs) → p (get_or xs k d) ≡ true → k ≡ first_at p xs
  first_here is e = omega (arith, is, front_then true e)

  pub first_later : first_at p xs ≡ k + first_at p (drop k xs) → p (get_or xs k d) ≡ false → first_at p xs ≡ (k + 1) + first_at p (drop (k + 1) xs)
  first_later is e = omega (arith, is, front_then false e)

pub first_none : {A : Type 0} (p : A → Bool) (xs : List A) (k : ℕ) → length xs ≤ k → k ≤ length xs → first_at p xs ≡ k + first_at p (drop k xs) → k ≡ first_at p xs
first_none p xs k off within is = omega (arith, is, ap (first_at p) (drop_end xs k (λ lt. omega (arith, lt, off))))
  where
    drop_end : {A : Type 0} (ys : List A) (j : ℕ) → (j < length ys → ⊥) → drop j ys ≡ []
    drop_end [] zero off = refl
    drop_end [] (suc j) off = refl
    drop_end (y ∷ ys) zero off = absurd (off (omega arith))
    drop_end (y ∷ ys) (suc j) off = drop_end ys j (λ lt. off (omega (arith, lt)))

pub lacks_by : (h k : Option Ask) (a : Ask) (b : Bool) → h ≡ k → (b ≡ true → Covers h a) × (Covers h a → b ≡ true) → b ≡ false → not (has_mode k a) ≡ true
lacks_by h k a b same tells off = has_tells h k a b same tells ∙ ap not off

pub has_by : (h k : Option Ask) (a : Ask) (b : Bool) → h ≡ k → (b ≡ true → Covers h a) × (Covers h a → b ≡ true) → b ≡ true → not (has_mode k a) ≡ false
has_by h k a b same tells on = has_tells h k a b same tells ∙ ap not on

-- ---- the call of an entry

pub past_end : {C : Type 0} (book : Book C) (k : ℕ) → (k < length book → ⊥) → None ≡ call_at book k
past_end [] k off = refl
past_end (n ∷ ns) zero off = absurd (off (omega arith))
past_end (n ∷ ns) (suc k) off = past_end ns k (λ lt. off (omega (arith, lt)))

none_below : (k : ℕ) → k < 0 → ⊥
none_below k lt = omega (arith, lt)

pub entry_at : {C : Type 0} (book : Book C) (k : ℕ) (d : Noted C) → k < length book → call_of (get_or book k d).event ≡ call_at book k
entry_at [] k d lt = absurd (none_below k lt)
entry_at (x ∷ ns) zero d lt = refl
entry_at (x ∷ ns) (suc k) d lt = entry_at ns k d (omega (arith, lt))

pub no_call : {C : Type 0} (e : Event C) → ((c : C) → e ≡ event.Call c → ⊥) → None ≡ call_of e
no_call event.Begin off = refl
no_call (event.Call c) off = absurd (off c refl)
no_call event.Retry off = refl
no_call (event.Fail c k f) off = refl
no_call event.Commit off = refl
no_call event.Abort off = refl

pub asks_for : (g q : Request) (asks : Option Request) (b : Bool) → Some g ≡ asks → (b ≡ true → g ≡ q) × (g ≡ q → b ≡ true) → (b ≡ true → asks ≡ Some q) × (asks ≡ Some q → b ≡ true)
asks_for g q asks b is tells = (λ e. sym is ∙ ap Some (tells.0 e), λ e. tells.1 (ap (λ (o : Option Request). unwrap_or o g) (is ∙ e)))

-- The cycle that a transaction's waiting would close.
use Rattle.std.proofs.Common.{◌≡◌, ℕ, List, Option, Some, ◌==◌, cond, refl, sym, ap, ◌∙◌, ◌++◌, ◌∷◌, [], None, subst, inl, inr}
use Rattle.tree_model.specs.Entries.{Entries}
use Rattle.lock_resources.specs.declared.request.Request.{Request}
use Rattle.wait_graph.specs.Graphs.{waits, with_request, IsClosedCycle}
use Rattle.call_contract.specs.Calls.{CallMeaning}
use Rattle.call_contract.specs.States.{Live, State, of_session, put}
use Rattle.call_contract.specs.Waits.{cycle_through}
use Rattle.call_contract.proofs.Lists.{found_named}
use Rattle.call_contract.proofs.Rising.{rises_put}
use Rattle.tx_core.specs.declared.parts.Parts.{Parts}
use Rattle.tx_core.specs.Holding.{grants_of, request_of}
use Rattle.tx_core.specs.inside.Standing.{Stands}
use Rattle.call_contract.specs.Books.{Book}
use Rattle.tx_core.specs.inside.Goes.{Stays, IsPut, IsClosed, IsStopped, shown_wait, call_entry, with_wait}
use Rattle.call_contract.specs.declared.events.Answer.{Answer}
use Rattle.tx_core.proofs.Cycles.{machine_cycle}
use Rattle.tx_core.proofs.Holding.{table_same}
use Rattle.tx_core.proofs.Seats.{told_put, told_kept}

module _ {C B : Type 0} (is_valid : C → Type 0) (m : CallMeaning C) (told : B → Option Entries) where
  pub cycle_is : (p : Parts C B) (s : ℕ) (g : Request) (cycle : Option (List ℕ)) → IsClosedCycle p.graph s g p.table cycle
      → (st : State C) (t : Live C) (c : C) → Stands is_valid m told p st → of_session s st.live ≡ Some t → cycle_through (with_wait st t c g).live s ≡ cycle
  cycle_is p s g cycle is st t c stands found =
      machine_cycle (put more st.live) s (with_request (waits p.graph) s (Some g)) p.table cycle (rises_put more st.live stands.rise)
      (λ o. ap (cond (s == o) (Some g)) (stands.graph o) ∙ told_put request_of st.live s more (Some g) named refl o)
      (table_same p.table (λ u. grants_of (of_session u st.live)) (λ u. grants_of (of_session u (put more st.live))) (told_kept grants_of st.live s more named (sym (ap grants_of found))) stands.table)
      is
    where
      more : Live C
      more = record t { waits = Some (record { call = c; request = g }) }

      named : t.session ≡ s
      named = found_named s st.live t found

  -- a transaction that was set to wait with copies of these
  pub is_put : (p q : Parts C B) (s : ℕ) (c : C) (g waited noted shown : Request) (hs named : List ℕ) (a b : Answer)
      → waited ≡ g → noted ≡ g → shown ≡ g → named ≡ hs → b ≡ shown_wait noted named → a ≡ shown_wait shown hs
      → ((st : State C) (t : Live C) → Stands is_valid m told p st → of_session s st.live ≡ Some t → cycle_through (with_wait st t c g).live s ≡ None)
      → ((st : State C) (t : Live C) → Stands is_valid m told p st → of_session s st.live ≡ Some t → Stands is_valid m told q (record (with_wait st t c waited) { waiting = st.waiting ++ s ∷ [] }))
      → q.book.items ≡ p.book.items ++ call_entry s c b ∷ [] → q.prepared ≡ None
      → IsPut is_valid m told p s c g hs a q
  is_put p q s c g waited noted shown hs named a b waited_is noted_is shown_is named_is b_is a_is alone state book prepared = record {
    book = book ∙ ap (λ (x : Answer). p.book.items ++ call_entry s c x ∷ []) (b_is ∙ ap (λ (x : Request). shown_wait x named) noted_is ∙ ap (shown_wait g) named_is ∙ sym is_shown);
    prepared = prepared;
    is = is_shown;
    alone = alone;
    state = λ st t stands found. subst (λ (x : Request). Stands is_valid m told q (record (with_wait st t c x) { waiting = st.waiting ++ s ∷ [] })) waited_is (state st t stands found);
  }
    where
      is_shown : a ≡ shown_wait g hs
      is_shown = a_is ∙ ap (λ (x : Request). shown_wait x hs) shown_is

  -- what is stopped afterwards, where nothing but room was made before
  pub put_after : (p p1 q : Parts C B) (s : ℕ) (c : C) (g : Request) (hs : List ℕ) (a : Answer) → Stays is_valid m told p p1
      → IsPut is_valid m told p1 s c g hs a q → IsStopped is_valid m told p s c g hs a q
  put_after p p1 q s c g hs a stays is = inl (record {
    book = is.book ∙ ap (λ (b : Book C). b ++ call_entry s c a ∷ []) stays.book;
    prepared = is.prepared;
    is = is.is;
    alone = λ st t stands found. is.alone st t (stays.state st stands) found;
    state = λ st t stands found. is.state st t (stays.state st stands) found;
  })

  pub closed_after : (p p1 q : Parts C B) (s : ℕ) (c : C) (g : Request) (hs : List ℕ) (a : Answer) → Stays is_valid m told p p1
      → IsClosed is_valid m told p1 s c g a q → IsStopped is_valid m told p s c g hs a q
  closed_after p p1 q s c g hs a stays is = inr (record {
    book = is.book ∙ ap (λ (b : Book C). b ++ call_entry s c a ∷ []) stays.book;
    prepared = is.prepared;
    cycle = is.cycle;
    is = is.is;
    closes = λ st t stands found. is.closes st t (stays.state st stands) found;
    state = λ st stands. is.state st (stays.state st stands);
  })

  pub stays_on : (p p1 q : Parts C B) → Stays is_valid m told p p1 → Stays is_valid m told p1 q → Stays is_valid m told p q
  stays_on p p1 q one two = record {
    book = two.book ∙ one.book;
    prepared = two.prepared ∙ one.prepared;
    state = λ st stands. two.state st (one.state st stands);
  }

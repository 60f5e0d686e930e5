-- A reply that is known once a call's requests are is what the call would answer.
use Rattle.std.proofs.Common.{◌≡◌, ℕ, true, false, true≢false, [], Option, Some, None, IsSome, IfSome, refl, sym, ap, ap₂, subst, ◌∙◌}
use Rattle.std.specs.Ordering.{nat_cmp}
use Rattle.std.specs.BTreeMap.{get}
use Rattle.tree_model.specs.Entries.{Entries}
use Rattle.tree_model.specs.Tree.{Tree}
use Rattle.tree_model.specs.declared.reply.Reply.{Reply}
use Rattle.node_seq.specs.Trees.{StandsFor}
use Rattle.overlays.specs.Views.{contents_after}
use Rattle.call_contract.specs.Calls.{CallMeaning, CallLaws, OnlyAnswers}
use Rattle.call_contract.specs.States.{State, Live, of_session, view}
use Rattle.tx_core.specs.declared.parts.Parts.{Parts}
use Rattle.tx_core.specs.declared.parts.Seat.{Seat}
use Rattle.tx_core.specs.inside.Goes.{IsMade}
use Rattle.tx_core.specs.inside.Known.{IsKnown, seen_by, seen_from}
use Rattle.tx_core.specs.inside.Standing.{Stands, seat_in}
use Rattle.tx_core.proofs.Reached.{sees}

module _ {C B : Type 0} (is_valid : C → Type 0) (m : CallMeaning C) (told : B → Option Entries) where
  -- what is so of a reply, if there is one, on each tree that is seen is known of it
  each_seen : (seen : Option Entries) (c : C) (o : Option Reply) → is_valid c → ((t : Tree) → StandsFor seen t → IfSome o (OnlyAnswers m c t)) → IsKnown is_valid m seen c o
  each_seen seen c None valid all = tt
  each_seen seen c (Some answer) valid all = (valid, all)

  -- a reply that came with the requests is known, also over the base as it is after the reads
  pub known_then : (p q : Parts C B) (s : ℕ) (seat : Seat) (c : C) (o : Option Reply) → q ≡ record p { base = q.base; passed = q.passed } → told q.base ≡ told p.base
      → seat_in (get nat_cmp p.places s) ≡ Some seat → is_valid c
      → ((t : Tree) → StandsFor (contents_after seat.own (contents_after p.layers.changes (told p.base))) t → IfSome o (OnlyAnswers m c t))
      → IsKnown is_valid m (seen_by told q s) c o
  known_then p q s seat c o same base there valid all = each_seen (seen_by told q s) c o valid (λ t stands. all t (subst (λ (x : Option Entries). StandsFor x t) seen stands))
    where
      seen : seen_by told q s ≡ contents_after seat.own (contents_after p.layers.changes (told p.base))
      seen = ap (λ (x : Parts C B). seen_by told x s) same ∙ ap₂ seen_from there (ap (contents_after p.layers.changes) base)

  -- a known reply is what a transaction is answered, and nothing is changed
  pub known_made : (laws : CallLaws C is_valid m) (p : Parts C B) (s : ℕ) (c : C) (answer : Reply) → IsSome (seat_in (get nat_cmp p.places s))
      → IsKnown is_valid m (seen_by told p s) c (Some answer) → (st : State C) → Stands is_valid m told p st → IsMade m st s c (record { reply = answer; changes = [] })
  known_made laws p s c answer seated known st stands = record { reply = λ t found. (only t found).reply; changes = λ t found. sym (only t found).changes }
    where
      none : false ≡ true → ⊥
      none e = true≢false (sym e)

      committed : Option Entries
      committed = contents_after p.layers.changes (told p.base)

      seen : (o : Option Seat) → seat_in (get nat_cmp p.places s) ≡ o → IsSome o → (t : Live C) → of_session s st.live ≡ Some t → StandsFor (seen_from o committed) (view m t.calls st.tree)
      seen None e some t found = absurd (none some)
      seen (Some seat) e some t found = sees is_valid m told laws p st s seat t stands e found

      only : (t : Live C) → of_session s st.live ≡ Some t → OnlyAnswers m c (view m t.calls st.tree) answer
      only t found = known.1 (view m t.calls st.tree) (seen (seat_in (get nat_cmp p.places s)) refl seated t found)

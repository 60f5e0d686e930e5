-- The cycle that the wait graph shows is the machine's.
use Rattle.std.proofs.Common.{◌≡◌, ℕ, Bool, true, false, not, ◌&&◌, ◌==◌, List, Option, Some, None, refl, sym, ap, ap₂, subst, ◌∙◌, arith, true≢false}
use Rattle.std.proofs.lemmas.Bool.Decides.{nat_tests}
use Rattle.lock_resources.specs.declared.request.Request.{Request}
use Rattle.lock_table.specs.Asks.{is_barred_by}
use Rattle.lock_table.specs.Grants.{join_of, IsTableOf}
use Rattle.lock_table.specs.Tables.{Table}
use Rattle.wait_cycles.specs.Walks.{Rises}
use Rattle.wait_cycles.specs.Cycles.{IsCycleThrough}
use Rattle.wait_cycles.proofs.Shown.{shown}
use Rattle.wait_cycles.proofs.Unique.{one_first}
use Rattle.wait_graph.specs.Graphs as graph
use Rattle.call_contract.specs.States.{Waiting, Live, of_session, sessions}
use Rattle.call_contract.specs.Waits.{stops, waits_for, cycle_through}
use Rattle.call_contract.proofs.Held.{held_bars}
use Rattle.call_contract.proofs.Lists.{found_named}
use Rattle.call_contract.proofs.NoCycles.{nobody_for_himself, waiters_live}
use Rattle.tx_core.specs.Holding.{grants_of, waited_of, request_of}

and_false : (a : Bool) → (a && false) ≡ false
and_false true = refl
and_false false = refl

-- two answers of which each is right are one
one_cycle : (R : ℕ → ℕ → Bool) (s : ℕ) (r o : Option (List ℕ)) → IsCycleThrough R s r → IsCycleThrough R s o → o ≡ r
one_cycle R s None None a b = refl
one_cycle R s None (Some vs) a b = absurd (true≢false (sym b.cycle ∙ a vs))
one_cycle R s (Some us) None a b = absurd (true≢false (sym a.cycle ∙ b us))
one_cycle R s (Some us) (Some vs) a b = ap Some (one_first R s vs us b a)

module _ {C : Type 0} where
  -- who waits for whom by the requests and the table, and by the live transactions
  pub same_waits : (live : List (Live C)) (w : ℕ → Option Request) (t : Table) → ((s : ℕ) → w s ≡ request_of (of_session s live)) → IsTableOf t (λ s. grants_of (of_session s live))
      → (u v : ℕ) → graph.waits_for w t u v ≡ waits_for live u v
  same_waits live w t asked table u v = ap (λ r. graph.asks t u r v) (asked u) ∙ go (of_session u live) (of_session v live) refl refl
    where
      turned : (x y : ℕ) → x ≡ u → y ≡ v → (v == u) ≡ (x == y)
      turned x y e f = grind (arith, nat_tests, e, f)

      waiting : (x : Live C) (r : Option (Waiting C)) (b : Option (Live C)) → x.session ≡ u → of_session v live ≡ b
          → graph.asks t u (waited_of r) v ≡ stops (Some (record x { waits = r })) b
      waiting x None None named there = refl
      waiting x None (Some y) named there = sym (and_false (not (x.session == y.session)))
      waiting x (Some q) None named there =
          ap (λ h. not (v == u) && is_barred_by q.request.ask h) (table v q.request.resource ∙ ap (λ (o : Option (Live C)). join_of (grants_of o) q.request.resource) there)
          ∙ and_false (not (v == u))
      waiting x (Some q) (Some y) named there =
          ap (λ h. not (v == u) && is_barred_by q.request.ask h) (table v q.request.resource ∙ ap (λ (o : Option (Live C)). join_of (grants_of o) q.request.resource) there)
          ∙ ap₂ (λ (a b : Bool). not a && b) (turned x.session y.session named (found_named v live y there)) (sym (held_bars y.grants q.request))

      go : (a b : Option (Live C)) → of_session u live ≡ a → of_session v live ≡ b → graph.asks t u (request_of a) v ≡ stops a b
      go None b here there = refl
      go (Some x) b here there = waiting x x.waits b (found_named u live x here) there

  -- the graph's answer is the cycle that the machine shows
  pub machine_cycle : (live : List (Live C)) (s : ℕ) (w : ℕ → Option Request) (t : Table) (r : Option (List ℕ)) → Rises (sessions live)
      → ((u : ℕ) → w u ≡ request_of (of_session u live)) → IsTableOf t (λ u. grants_of (of_session u live))
      → IsCycleThrough (graph.waits_for w t) s r → cycle_through live s ≡ r
  machine_cycle live s w t r rise asked table is =
      let same : graph.waits_for w t ≡ waits_for live = λ i u v. same_waits live w t asked table u v i in
      one_cycle (waits_for live) s r (cycle_through live s) (subst (λ (R : ℕ → ℕ → Bool). IsCycleThrough R s r) same is)
      (shown (waits_for live) (sessions live) s rise (nobody_for_himself live) (waiters_live live))

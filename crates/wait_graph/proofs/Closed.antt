-- The search over graph and table answers the cycle that waiting would close.
use Rattle.std.proofs.Common.{◌≡◌, ℕ, zero, suc, ◌+◌, ◌<◌, Bool, true, false, not, ◌&&◌, ◌||◌, cond, List, [], ◌∷◌, length, Option, Some, None, is_some, ◌==◌, refl, sym, ap, ap₂, subst, ◌∙◌, arith}
use Rattle.std.proofs.lemmas.Bool.Decides.{nat_tests}
use Rattle.std.specs.List.{list_any}
use Rattle.lock_resources.specs.declared.request.Request.{Request}
use Rattle.lock_table.specs.Asks.{is_barred_by}
use Rattle.lock_table.specs.Tables.{Table, held, bars, AreHolders}
use Rattle.wait_graph.specs.declared.search.Waiter.{Waiter}
use Rattle.wait_graph.specs.Graphs.{Graph, waits, waits_for, asks, with_request}
use Rattle.wait_cycles.specs.Cycles.{is_cycle, IsFirst, HasNoneThrough}
use Rattle.wait_graph.specs.inside.Search.{the_end, reached, unreached, seek, owners_of, AreOf}
use Rattle.wait_graph.specs.inside.Waiters.{AreOwners}
use Rattle.wait_cycles.specs.Walks.{has, leads, is_distinct}
use Rattle.wait_cycles.proofs.Simple.{apart, and_left, and_right, and_both}
use Rattle.wait_graph.proofs.Searching.{before, layer_at, left_at, one_walk, first_reached, first_left, seek_some, seek_none}
use Rattle.wait_graph.proofs.Answered.{first_cycle, no_cycle}

has_any : (v : ℕ) (hs : List ℕ) → has v hs ≡ list_any (λ h. h == v) hs
has_any v [] = refl
has_any v (h ∷ hs) = ap (λ b. (h == v) || b) (has_any v hs)

-- the holders that a table names
pub held_by : (t : Table) (o : ℕ) (q : Request) (hs : List ℕ) → AreHolders t o q hs → (v : ℕ) → has v hs ≡ bars t o q v
held_by t o q hs are v = has_any v hs ∙ are.each v

same_self : (s : ℕ) → (s == s) ≡ true
same_self s = grind (arith, nat_tests)

turned : (u s : ℕ) → (u == s) ≡ false → (s == u) ≡ false
turned u s e = grind (arith, nat_tests, e)

not_true : (b : Bool) → not b ≡ true → b ≡ false
not_true true e = apart e
not_true false e = refl

module _ (g : Graph) (s : ℕ) (q : Request) (t : Table) where
  -- who waits for whom while s waits for the request
  abbrev R : ℕ → ℕ → Bool
  R = waits_for (with_request (waits g) s (Some q)) t

  by_s : (v : ℕ) → bars t s q v ≡ R s v
  by_s v = ap (λ b. asks t s (cond b (Some q) (waits g s)) v) (sym (same_self s))

  by_other : (u v : ℕ) → (s == u) ≡ false → waits_for (waits g) t u v ≡ R u v
  by_other u v diff = ap (λ b. asks t u (cond b (Some q) (waits g u)) v) (sym diff)

  of_other : (xs : List Waiter) → AreOf (waits_for (waits g) t) xs → ((u : ℕ) → has u (owners_of xs) ≡ true → (s == u) ≡ false) → AreOf R xs
  of_other [] all other = all
  of_other (x ∷ xs) all other = (
    λ v. all.0 v ∙ by_other x.owner v (other x.owner (ap (λ b. b || has x.owner (owners_of xs)) (same_self x.owner))),
    of_other xs all.1 (λ u on. other u (more (x.owner == u) (has u (owners_of xs)) on)),
  )
    where
      more : (a b : Bool) → b ≡ true → (a || b) ≡ true
      more true b e = refl
      more false b e = e

  self : R s s ≡ false
  self = sym (by_s s) ∙ ap (λ b. not b && is_barred_by q.ask (held t s q.resource)) (same_self s)

  waiting : (u v : ℕ) (w : Option Request) → asks t u w v ≡ true → is_some w ≡ true
  waiting u v None e = apart e
  waiting u v (Some p) e = refl

  out : (xs : List Waiter) → AreOwners g s xs → (u v : ℕ) → R u v ≡ true → (u == s) ≡ false → has u (owners_of xs) ≡ true
  out xs are u v on diff =
      are.each u ∙ and_both (not (u == s)) (is_some (waits g u)) (ap not diff) (waiting u v (waits g u) (by_other u v (turned u s diff) ∙ on))

  others : (xs : List Waiter) → AreOwners g s xs → (u : ℕ) → has u (owners_of xs) ≡ true → (s == u) ≡ false
  others xs are u on = turned u s (not_true (u == s) (and_left (not (u == s)) (is_some (waits g u)) (sym (are.each u) ∙ on)))

  -- the first layer, and those behind it
  first_at : (hs : List ℕ) (n : ℕ) (xs : List Waiter) → AreOf R xs → seek hs n (unreached (the_end s ∷ []) xs) (reached (the_end s ∷ []) xs)
      ≡ seek hs n (left_at R (owners_of xs) s (suc zero) xs) (layer_at R (owners_of xs) s zero (owners_of xs))
  first_at hs n xs all = ap₂ (seek hs n) (first_left R (owners_of xs) s xs all) (first_reached R (owners_of xs) s xs all)

  none_yet : (xs : List Waiter) → before R (owners_of xs) s (suc zero) s ≡ false
  none_yet xs = ap (λ b. is_some (one_walk b)) self

  pub closed_some : (hs : List ℕ) (xs : List Waiter) (rest : List ℕ) → AreHolders t s q hs → AreOf (waits_for (waits g) t) xs → AreOwners g s xs
      → seek hs (length xs) (unreached (the_end s ∷ []) xs) (reached (the_end s ∷ []) xs) ≡ Some rest → IsFirst (waits_for (with_request (waits g) s (Some q)) t) s (s ∷ rest)
  closed_some hs xs rest holders of are is =
      let all = of_other xs of (others xs are) in
      first_cycle R (owners_of xs) s rest are.rise self (out xs are)
      (seek_some R s hs (λ v. held_by t s q hs holders v ∙ by_s v) xs all (length xs) zero (none_yet xs) rest (sym (first_at hs (length xs) xs all) ∙ is))

  pub closed_none : (hs : List ℕ) (xs : List Waiter) → AreHolders t s q hs → AreOf (waits_for (waits g) t) xs → AreOwners g s xs
      → seek hs (length xs) (unreached (the_end s ∷ []) xs) (reached (the_end s ∷ []) xs) ≡ None → HasNoneThrough (waits_for (with_request (waits g) s (Some q)) t) s
  closed_none hs xs holders of are is =
      let all = of_other xs of (others xs are) in
      let none = seek_none R s hs (λ v. held_by t s q hs holders v ∙ by_s v) xs all (length xs) zero (none_yet xs) (sym (first_at hs (length xs) xs all) ∙ is) in
      no_cycle R (owners_of xs) s self (out xs are) (λ j less. none j (at_most j (subst (λ n. j < n) (size xs) less)))
    where
      at_most : (j : ℕ) → j < length xs → j < zero + length xs
      at_most j less = omega (arith, less)

      size : (ys : List Waiter) → length (owners_of ys) ≡ length ys
      size [] = refl
      size (y ∷ ys) = ap suc (size ys)

  -- where none that bars the request waits, waiting closes no cycle
  pub none_waits : ((v : ℕ) → bars t s q v ≡ true → waits g v ≡ None) → HasNoneThrough (waits_for (with_request (waits g) s (Some q)) t) s
  none_waits idle us = go (is_cycle R s us) refl
    where
      leads_off : (u : ℕ) (vs : List ℕ) → R s u ≡ true → leads R u vs s ≡ true → ⊥
      leads_off u vs on along =
          let one = first_step u vs along in
          let diff : (s == u) ≡ false = other u on in
          let nothing : waits g u ≡ None = idle u (by_s u ∙ on) in
          no_way (sym (ap (λ w. asks t u w one.0) nothing) ∙ by_other u one.0 diff ∙ one.1)
        where
          no_way : false ≡ true → ⊥
          no_way e = apart e

          first_step : (u : ℕ) (vs : List ℕ) → leads R u vs s ≡ true → (v : ℕ) × (R u v ≡ true)
          first_step u [] e = (s, e)
          first_step u (v ∷ vs) e = (v, and_left (R u v) (leads R v vs s) e)

          other : (u : ℕ) → R s u ≡ true → (s == u) ≡ false
          other u on = pick (s == u) refl
            where
              pick : (b : Bool) → (s == u) ≡ b → (s == u) ≡ false
              pick false e = e
              pick true e =
                  let same : s ≡ u = grind (arith, nat_tests, e) in
                  apart (sym self ∙ subst (λ w. R s w ≡ true) (sym same) on)

      opened : (xs : List ℕ) → is_cycle R s xs ≡ true → ⊥
      opened [] e = no_way e
        where
          no_way : false ≡ true → ⊥
          no_way e = apart e
      opened (x ∷ xs) e =
          let two = and_right (x == s) (is_distinct (x ∷ xs) && leads R x xs x) e in
          let at_s = and_left (x == s) (is_distinct (x ∷ xs) && leads R x xs x) e in
          let same : x ≡ s = grind (arith, nat_tests, at_s) in
          walked xs (subst (λ y. leads R y xs y ≡ true) same (and_right (is_distinct (x ∷ xs)) (leads R x xs x) two))
        where
          no_way : false ≡ true → ⊥
          no_way e = apart e

          walked : (vs : List ℕ) → leads R s vs s ≡ true → ⊥
          walked [] along = no_way (sym self ∙ along)
          walked (v ∷ vs) along = leads_off v vs (and_left (R s v) (leads R v vs s) along) (and_right (R s v) (leads R v vs s) along)

      go : (b : Bool) → is_cycle R s us ≡ b → is_cycle R s us ≡ false
      go false e = e
      go true e = absurd (opened us e)

-- the search is told of the same lists
pub seek_at : (s : ℕ) (bs hs : List ℕ) (xs : List Waiter) → bs ≡ hs
    → seek bs (length xs) (unreached (the_end s ∷ []) xs) (reached (the_end s ∷ []) xs) ≡ seek hs (length xs) (unreached (the_end s ∷ []) xs) (reached (the_end s ∷ []) xs)
seek_at s bs hs xs a = ap (λ cs. seek cs (length xs) (unreached (the_end s ∷ []) xs) (reached (the_end s ∷ []) xs)) a

-- none of the holders waits
pub idle_holders : (g : Graph) (s : ℕ) (q : Request) (t : Table) (hs : List ℕ) → AreHolders t s q hs → list_any (λ o. is_some (waits g o)) hs ≡ false
    → (v : ℕ) → bars t s q v ≡ true → waits g v ≡ None
idle_holders g s q t hs are none v on = at g v hs none (are.each v ∙ on)
  where
    nothing : (o : Option Request) → is_some o ≡ false → o ≡ None
    nothing None e = refl
    nothing (Some r) e = apart (sym e)

    at : (g : Graph) (v : ℕ) (xs : List ℕ) → list_any (λ o. is_some (waits g o)) xs ≡ false → list_any (λ h. h == v) xs ≡ true → waits g v ≡ None
    at g v [] off e = apart e
    at g v (x ∷ xs) off e = go (x == v) refl (is_some (waits g x)) refl (at g v xs)
      where
        go : (b : Bool) → (x == v) ≡ b → (w : Bool) → is_some (waits g x) ≡ w → (list_any (λ o. is_some (waits g o)) xs ≡ false → list_any (λ h. h == v) xs ≡ true → waits g v ≡ None) → waits g v ≡ None
        go b same true is rest = apart (sym off ∙ ap (λ a. a || list_any (λ o. is_some (waits g o)) xs) is)
        go true same false is rest =
            let one : x ≡ v = grind (arith, nat_tests, same) in
            nothing (waits g v) (ap (λ y. is_some (waits g y)) (sym one) ∙ is)
        go false same false is rest = rest (sym (ap (λ a. a || list_any (λ o. is_some (waits g o)) xs) is) ∙ off) (sym (ap (λ a. a || list_any (λ h. h == v) xs) same) ∙ e)

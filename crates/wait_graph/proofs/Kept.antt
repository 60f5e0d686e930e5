-- Where there is no cycle there is none after one owner's waiting or holding has changed.
use Rattle.std.proofs.Common.{◌≡◌, ◌≢◌, ℕ, Bool, true, false, not, ◌&&◌, cond, List, [], ◌∷◌, Option, Some, None, ◌==◌, refl, sym, ap, ◌∙◌, arith}
use Rattle.std.proofs.lemmas.Bool.Decides.{nat_tests}
use Rattle.lock_modes.specs.declared.ask.Ask.{Ask}
use Rattle.lock_resources.specs.declared.request.Request.{Request}
use Rattle.lock_table.specs.declared.table.Asked.{Asked}
use Rattle.lock_table.specs.declared.table.Asked.TheVariants.{Granted, Conflict}
use Rattle.lock_table.specs.Asks.{is_barred_by, join_with}
use Rattle.lock_table.specs.Resources.{same_resource}
use Rattle.lock_table.specs.Tables.{Table, held, IsReleased, IsGranted, IsSame, Answers}
use Rattle.wait_cycles.specs.Walks.{leads, is_distinct}
use Rattle.wait_cycles.specs.Cycles.{is_cycle, HasNone, IsIrreflexive}
use Rattle.wait_cycles.proofs.Simple.{apart, and_left, and_right, and_both}
use Rattle.wait_cycles.proofs.Turned.{no_new_cycle, idle}
use Rattle.wait_graph.specs.Graphs.{Graph, waits, waits_for, asks, with_request, ClosesNone, HasNoCycle}

-- a smaller relation has no more cycles
leads_less : (R Q : ℕ → ℕ → Bool) → ((u v : ℕ) → Q u v ≡ true → R u v ≡ true) → (x : ℕ) (us : List ℕ) (e : ℕ) → leads Q x us e ≡ true → leads R x us e ≡ true
leads_less R Q less x [] e on = less x e on
leads_less R Q less x (u ∷ us) e on = and_both (R x u) (leads R u us e) (less x u (and_left (Q x u) (leads Q u us e) on)) (leads_less R Q less u us e (and_right (Q x u) (leads Q u us e) on))

cycle_less : (R Q : ℕ → ℕ → Bool) → ((u v : ℕ) → Q u v ≡ true → R u v ≡ true) → (s : ℕ) (us : List ℕ) → is_cycle Q s us ≡ true → is_cycle R s us ≡ true
cycle_less R Q less s [] is = is
cycle_less R Q less s (x ∷ us) is =
    let two = and_right (x == s) (is_distinct (x ∷ us) && leads Q x us x) is in
    and_both (x == s) (is_distinct (x ∷ us) && leads R x us x) (and_left (x == s) (is_distinct (x ∷ us) && leads Q x us x) is)
    (and_both (is_distinct (x ∷ us)) (leads R x us x) (and_left (is_distinct (x ∷ us)) (leads Q x us x) two) (leads_less R Q less x us x (and_right (is_distinct (x ∷ us)) (leads Q x us x) two)))

pub smaller : (R Q : ℕ → ℕ → Bool) → ((u v : ℕ) → Q u v ≡ true → R u v ≡ true) → HasNone R → HasNone Q
smaller R Q less none s us = go (is_cycle Q s us) refl
  where
    go : (b : Bool) → is_cycle Q s us ≡ b → is_cycle Q s us ≡ false
    go false e = e
    go true e = apart (sym (none s us) ∙ cycle_less R Q less s us e)

-- the graph: who begins to wait, and who stops
pub wait_still : (g n : Graph) (owner : ℕ) (q : Request) (t : Table) → ((o : ℕ) → waits n o ≡ with_request (waits g) owner (Some q) o) → ClosesNone g owner q t → HasNoCycle g t → HasNoCycle n t
wait_still g n owner q t is closes none =
    smaller (waits_for w t) (waits_for (waits n) t) (λ u v on. ap (λ r. asks t u r v) (sym (is u)) ∙ on)
    (no_new_cycle (waits_for (waits g) t) (waits_for w t) owner none (λ u v a b. ap (λ r. asks t u r v) (ap (λ c. cond c (Some q) (waits g u)) (other u a))) closes)
  where
    w : ℕ → Option Request
    w = with_request (waits g) owner (Some q)

    other : (u : ℕ) → u ≢ owner → (owner == u) ≡ false
    other u e = grind (arith, nat_tests, e)

pub stop_still : (g n : Graph) (owner : ℕ) → ((o : ℕ) → waits n o ≡ with_request (waits g) owner None o) → (t : Table) → HasNoCycle g t → HasNoCycle n t
stop_still g n owner is t none = smaller (waits_for (waits g) t) (waits_for (waits n) t) (λ u v on. less u v (owner == u) (ap (λ r. asks t u r v) (sym (is u)) ∙ on)) none
  where
    less : (u v : ℕ) (b : Bool) → asks t u (cond b None (waits g u)) v ≡ true → asks t u (waits g u) v ≡ true
    less u v true e = apart e
    less u v false e = e

-- the table: what an owner holds is released
pub release_still : (g : Graph) (t n : Table) (owner : ℕ) → IsReleased t owner n → HasNoCycle g t → HasNoCycle g n
release_still g t n owner is none = smaller (waits_for (waits g) t) (waits_for (waits g) n) (λ u v on. less u v (waits g u) on) none
  where
    fewer : (a b : Bool) (q : Request) (h : Option Ask) → (a && is_barred_by q.ask (cond b None h)) ≡ true → (a && is_barred_by q.ask h) ≡ true
    fewer a true q h e = apart (sym (and_false a) ∙ e)
      where
        and_false : (b : Bool) → (b && false) ≡ false
        and_false true = refl
        and_false false = refl
    fewer a false q h e = e

    less : (u v : ℕ) (w : Option Request) → asks n u w v ≡ true → asks t u w v ≡ true
    less u v None e = e
    less u v (Some q) e = fewer (not (v == u)) (owner == v) q (held t v q.resource) (ap (λ h. not (v == u) && is_barred_by q.ask h) (sym (is v q.resource)) ∙ e)

pub same_still : (g : Graph) (t n : Table) → IsSame t n → HasNoCycle g t → HasNoCycle g n
same_still g t n is none = smaller (waits_for (waits g) t) (waits_for (waits g) n) (λ u v on. less u v (waits g u) on) none
  where
    less : (u v : ℕ) (w : Option Request) → asks n u w v ≡ true → asks t u w v ≡ true
    less u v None e = e
    less u v (Some q) e = ap (λ h. not (v == u) && is_barred_by q.ask h) (sym (is v q.resource)) ∙ e

-- the table: an owner that doesn't wait is granted a mode
pub grant_still : (g : Graph) (t n : Table) (owner : ℕ) (q : Request) → waits g owner ≡ None → IsGranted t owner q n → HasNoCycle g t → HasNoCycle g n
grant_still g t n owner q rests is none =
    no_new_cycle (waits_for (waits g) t) (waits_for (waits g) n) owner none (λ u v a b. alike u v (waits g u) (other v b))
    (idle (waits_for (waits g) n) owner (λ v. ap (λ w. asks n owner w v) rests))
  where
    other : (v : ℕ) → v ≢ owner → (owner == v) ≡ false
    other v e = grind (arith, nat_tests, e)

    alike : (u v : ℕ) (w : Option Request) → (owner == v) ≡ false → asks n u w v ≡ asks t u w v
    alike u v None e = refl
    alike u v (Some p) e =
        ap (λ h. not (v == u) && is_barred_by p.ask h) (is v p.resource ∙ ap (λ b. cond (b && same_resource q.resource p.resource) (Some (join_with q.ask (held t owner q.resource))) (held t v p.resource)) e)

pub ask_still : (g : Graph) (t n : Table) (owner : ℕ) (q : Request) (a : Asked) → waits g owner ≡ None → Answers t owner q n a → HasNoCycle g t → HasNoCycle g n
ask_still g t n owner q Granted rests is none = grant_still g t n owner q rests is.1 none
ask_still g t n owner q (Conflict hs) rests is none = same_still g t n is.2 none

-- all wait as before
pub alike_still : (g n : Graph) → ((o : ℕ) → waits n o ≡ waits g o) → (t : Table) → HasNoCycle g t → HasNoCycle n t
alike_still g n is t none = smaller (waits_for (waits g) t) (waits_for (waits n) t) (λ u v on. ap (λ r. asks t u r v) (sym (is u)) ∙ on) none

-- nobody waits for itself
pub not_for_itself : (g : Graph) (t : Table) → IsIrreflexive (waits_for (waits g) t)
not_for_itself g t s = go (waits g s)
  where
    itself : (s == s) ≡ true
    itself = grind (arith, nat_tests)

    go : (w : Option Request) → asks t s w s ≡ false
    go None = refl
    go (Some q) = ap (λ b. not b && is_barred_by q.ask (held t s q.resource)) itself

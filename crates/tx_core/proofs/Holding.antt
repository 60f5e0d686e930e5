-- What the table has after requests were granted, as the grants say it.
use Rattle.std.proofs.Common.{◌≡◌, ℕ, Bool, true, false, cond, not, ◌&&◌, List, [], ◌∷◌, ◌++◌, append_assoc, append-nil, ◌==◌, refl, sym, ap, ◌∙◌, arith}
use Rattle.std.proofs.lemmas.Bool.Decides.{nat_tests}
use Rattle.std.specs.List.{AllByRecursion, list_any}
use Rattle.lock_resources.specs.declared.request.Request.{Request}
use Rattle.lock_table.specs.Asks.{is_barred_by}
use Rattle.lock_table.specs.Grants.{join_of, IsTableOf}
use Rattle.lock_table.specs.Tables.{Table, AreHolders, IsGranted, IsSame}
use Rattle.lock_table.proofs.Granted.{granted_table}
use Rattle.tx_core.specs.inside.Asking.{AreGranted}

-- the grants with more for one session
abbrev pub with_more : (ℕ → List Request) → ℕ → List Request → ℕ → List Request
with_more grants s qs o = cond (s == o) (grants o ++ qs) (grants o)

pub granted_one : (t u : Table) (grants : ℕ → List Request) (s : ℕ) (q : Request) → IsTableOf t grants → IsGranted t s q u → IsTableOf u (with_more grants s (q ∷ []))
granted_one t u grants s q is got = granted_table t u grants s q is got

pub table_same : (t : Table) (grants others : ℕ → List Request) → ((o : ℕ) → grants o ≡ others o) → IsTableOf t grants → IsTableOf t others
table_same t grants others same is o r = is o r ∙ ap (λ gs. join_of gs r) (same o)

pub table_kept : (t u : Table) (grants : ℕ → List Request) → IsSame t u → IsTableOf t grants → IsTableOf u grants
table_kept t u grants same is o r = same o r ∙ is o r

no_more : (grants : ℕ → List Request) (s o : ℕ) → grants o ≡ with_more grants s [] o
no_more grants s o = go (s == o)
  where
    go : (b : Bool) → grants o ≡ cond b (grants o ++ []) (grants o)
    go true = sym (append-nil (grants o))
    go false = refl

more_twice : (grants : ℕ → List Request) (s : ℕ) (q : Request) (qs : List Request) (o : ℕ) → with_more (with_more grants s (q ∷ [])) s qs o ≡ with_more grants s (q ∷ qs) o
more_twice grants s q qs o = go (s == o)
  where
    go : (b : Bool) → cond b (cond b (grants o ++ q ∷ []) (grants o) ++ qs) (cond b (grants o ++ q ∷ []) (grants o)) ≡ cond b (grants o ++ q ∷ qs) (grants o)
    go true = append_assoc (grants o) (q ∷ []) qs
    go false = refl

pub granted_all : (t u : Table) (grants : ℕ → List Request) (s : ℕ) (qs : List Request) → IsTableOf t grants → AreGranted t s qs u → IsTableOf u (with_more grants s qs)
granted_all t u grants s [] is same = table_same u grants (with_more grants s []) (no_more grants s) (table_kept t u grants same is)
granted_all t u grants s (q ∷ qs) is (v, none, one, rest) =
    table_same u (with_more (with_more grants s (q ∷ [])) s qs) (with_more grants s (q ∷ qs)) (more_twice grants s q qs)
    (granted_all v u (with_more grants s (q ∷ [])) s qs (granted_one t v grants s q is one) rest)

-- these sessions, and no others, bar the request by their grants
pub record AreBarring (grants : ℕ → List Request) (s : ℕ) (q : Request) (hs : List ℕ) : Type 0 where
  pub each : (o : ℕ) → list_any (λ h. h == o) hs ≡ (not (o == s) && is_barred_by q.ask (join_of (grants o) q.resource))

pub barring_of : (t : Table) (grants : ℕ → List Request) (s : ℕ) (q : Request) (hs : List ℕ) → IsTableOf t grants → AreHolders t s q hs → AreBarring grants s q hs
barring_of t grants s q hs is are = record { each = λ o. are.each o ∙ ap (λ h. not (o == s) && is_barred_by q.ask h) (is o q.resource) }

-- more grants of the session itself change nothing there
pub barring_more : (grants : ℕ → List Request) (s : ℕ) (qs : List Request) (q : Request) (hs : List ℕ) → AreBarring (with_more grants s qs) s q hs → AreBarring grants s q hs
barring_more grants s qs q hs are = record { each = λ o. are.each o ∙ step o (s == o) refl }
  where
    turned : (o : ℕ) → (s == o) ≡ true → (o == s) ≡ true
    turned o e = grind (arith, nat_tests, e)

    step : (o : ℕ) (b : Bool) → (s == o) ≡ b → (not (o == s) && is_barred_by q.ask (join_of (with_more grants s qs o) q.resource)) ≡ (not (o == s) && is_barred_by q.ask (join_of (grants o) q.resource))
    step o false e = ap (λ b. not (o == s) && is_barred_by q.ask (join_of (cond b (grants o ++ qs) (grants o)) q.resource)) e
    step o true e =
        ap (λ b. not b && is_barred_by q.ask (join_of (with_more grants s qs o) q.resource)) (turned o e)
        ∙ sym (ap (λ b. not b && is_barred_by q.ask (join_of (grants o) q.resource)) (turned o e))

-- each of the requests that were granted in turn is barred by nobody
pub all_free : (t u : Table) (grants : ℕ → List Request) (s : ℕ) (qs : List Request) → IsTableOf t grants → AreGranted t s qs u → AllByRecursion (λ q. AreBarring grants s q []) qs
all_free t u grants s [] is same = tt
all_free t u grants s (q ∷ qs) is (v, none, one, rest) =
    (barring_of t grants s q [] is none, weaker qs (all_free v u (with_more grants s (q ∷ [])) s qs (granted_one t v grants s q is one) rest))
  where
    weaker : (ps : List Request) → AllByRecursion (λ p. AreBarring (with_more grants s (q ∷ [])) s p []) ps → AllByRecursion (λ p. AreBarring grants s p []) ps
    weaker [] all = tt
    weaker (p ∷ ps) all = (barring_more grants s (q ∷ []) p [] all.0, weaker ps all.1)

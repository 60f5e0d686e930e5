-- One more request that was granted.
use Rattle.std.proofs.lemmas.List.{take_more, take-append-drop}
use Rattle.std.proofs.Math.ListN.{get_or}
use Rattle.std.proofs.Common.{◌≡◌, ◌≢◌, ℕ, ◌+◌, ◌<◌, length, take, drop, append_assoc, cond, not, ◌&&◌, List, [], ◌∷◌, ◌++◌, Option, Some, ◌==◌, refl, sym, ap, ap₂, subst, ◌∙◌, arith}
use Rattle.lock_resources.specs.declared.request.Request.{Request}
use Rattle.lock_modes.specs.declared.ask.Ask.{Ask}
use Rattle.lock_table.specs.Asks.{join_with, is_barred_by}
use Rattle.lock_table.specs.Resources.{same_resource}
use Rattle.lock_table.specs.Tables.{Table, AreHolders, IsGranted, IsSame}
use Rattle.tx_core.specs.inside.Asking.{AreGranted, IsBarredAt, IsGot, granted_in}
use Rattle.tx_core.specs.declared.asking.Got.{Got}
use Rattle.tx_core.specs.declared.asking.Got.TheVariants.{All, Barred, NoMemory}

pub same_holders : (t u : Table) (owner : ℕ) (q : Request) (hs : List ℕ) → IsSame t u → AreHolders u owner q hs → AreHolders t owner q hs
same_holders t u owner q hs same are = record { rising = are.rising; each = λ o. are.each o ∙ ap (λ h. not (o == owner) && is_barred_by q.ask h) (same o q.resource) }

same_granted : (t u v : Table) (owner : ℕ) (q : Request) → IsSame t u → IsGranted u owner q v → IsGranted t owner q v
same_granted t u v owner q same is o r = is o r ∙ ap₂ (λ (h k : Option Ask). cond ((owner == o) && same_resource q.resource r) (Some (join_with q.ask h)) k) (same owner q.resource) (same o r)

pub granted_snoc : (t : Table) (owner : ℕ) (qs : List Request) (v : Table) (q : Request) (u : Table)
    → AreGranted t owner qs v → AreHolders v owner q [] → IsGranted v owner q u → AreGranted t owner (qs ++ q ∷ []) u
granted_snoc t owner [] v q u same none is = (u, same_holders t v owner q [] same none, same_granted t v u owner q same is, λ o r. refl)
granted_snoc t owner (p ∷ ps) v q u (w, first, got, rest) none is = (w, first, got, granted_snoc w owner ps v q u rest none is)

-- nothing was changed after that
pub granted_same : (t : Table) (owner : ℕ) (qs : List Request) (v u : Table) → AreGranted t owner qs v → IsSame v u → AreGranted t owner qs u
granted_same t owner [] v u is same = λ o r. same o r ∙ is o r
granted_same t owner (p ∷ ps) v u (w, first, got, rest) same = (w, first, got, granted_same w owner ps v u rest same)

same_back : (t u : Table) → IsSame t u → IsSame u t
same_back t u same = λ o r. sym (same o r)

pub barred_at : (t : Table) (owner : ℕ) (qs : List Request) (v u : Table) (k : ℕ) (q : Request) (hs : List ℕ)
    → AreGranted t owner (take k qs) v → k < length qs → q ≡ get_or qs k q → AreHolders v owner q hs → hs ≢ [] → IsSame v u → IsBarredAt t owner qs u k q hs
barred_at t owner qs v u k q hs got within here are some same =
    record {
      within = within;
      here = here;
      granted = granted_same t owner (take k qs) v u got same;
      next = (drop (k + 1) qs, sym (take-append-drop (k + 1) qs) ∙ ap (λ xs. xs ++ drop (k + 1) qs) (take_more qs k q within ∙ ap (λ x. take k qs ++ x ∷ []) (sym here)) ∙ append_assoc (take k qs) (q ∷ []) (drop (k + 1) qs));
      holders = same_holders u v owner q hs (same_back v u same) are;
      some = some;
    }

no_length_of : {A : Type 0} → ⊥ → A
no_length_of e = absurd e

no_length : {A : Type 0} (xs : List A) → length xs ≡ 0 → xs ≡ []
no_length [] e = refl
no_length (x ∷ xs) e = no_length_of (omega (arith, e))

-- where nothing was granted nothing is changed
pub untouched : (t : Table) (owner : ℕ) (qs : List Request) (u : Table) (got : Got) → IsGot t owner qs u got → granted_in qs got ≡ 0 → IsSame t u
untouched t owner qs u All is e = subst (λ xs. AreGranted t owner xs u) (no_length qs e) is
untouched t owner qs u (Barred k hs) (q, is) e = subst (λ n. AreGranted t owner (take n qs) u) e is.granted
untouched t owner qs u (NoMemory k) is e = subst (λ n. AreGranted t owner (take n qs) u) e is.1

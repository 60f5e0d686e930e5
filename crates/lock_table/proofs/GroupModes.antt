-- Group modes of resources: what makes one, and what leaves them such.
use Rattle.std.proofs.Common.{◌≡◌, ℕ, Bool, true, false, cond, not, ◌&&◌, ◌||◌, List, [], ◌∷◌, Option, Some, None, ◌==◌, IsSome, refl, sym, ap, ap₂, subst, ◌∙◌, arith}
use Rattle.std.specs.BTreeMap.{BTreeMap, is_at}
use Rattle.std.specs.Map.{lookup}
use Rattle.std.specs.Ordering.{nat_cmp}
use Rattle.lock_modes.specs.declared.ask.Ask.{Ask}
use Rattle.lock_resources.specs.declared.resource.Resource.{Resource}
use Rattle.lock_table.specs.Asks.{join_asks, join_with, are_compatible, is_barred_by, Covers}
use Rattle.lock_table.specs.Resources.{same_resource}
use Rattle.lock_table.specs.inside.Rows.{RowMap, held_in}
use Rattle.lock_table.specs.inside.GroupModes.{group_at, AreGroupModes, IsAbove, IsUnder, LetsIn}
use Rattle.lock_table.proofs.Maps.{exact_resources}
use Rattle.lock_table.proofs.Together.{compatible_joined, compatible_turned, barred_joined}

both_parts : (b c : Bool) → (b && c) ≡ true → (b ≡ true) × (c ≡ true)
both_parts true c e = (refl, e)
both_parts false c e = grind (arith, e)

none_some : {A : Type 0} {X : Type 0} {x : X} → None ≡ Some x → A
none_some e = grind (arith, e)

inside : {X : Type 0} {x y : X} → Some x ≡ Some y → x ≡ y
inside e = cc

-- what goes with a join goes with both of its parts
with_parts : (a g h : Ask) → are_compatible a (join_asks g h) ≡ true → (are_compatible a g ≡ true) × (are_compatible a h ≡ true)
with_parts a g h e =
    let both = both_parts (are_compatible g a) (are_compatible h a) (sym (compatible_turned a (join_asks g h) ∙ compatible_joined g h a) ∙ e) in
    (compatible_turned a g ∙ both.0, compatible_turned a h ∙ both.1)

pub above_itself : (t : Ask) → IsAbove t (Some t)
above_itself t a e = ap not e

pub above_joined : (g t : Ask) (x : Option Ask) → IsAbove t x → IsAbove (join_asks g t) x
above_joined g t x top a e = top a (with_parts a g t e).1

above_part : (g t : Ask) → IsAbove (join_asks g t) (Some g)
above_part g t a e = ap not (with_parts a g t e).0

-- the join of a mode and of those of a row
abbrev pub join_from : Ask → List (ℕ × Ask) → Ask
join_from t [] = t
join_from t (e ∷ es) = join_from (join_asks e.1 t) es

pub above_kept : (t : Ask) (es : List (ℕ × Ask)) (x : Option Ask) → IsAbove t x → IsAbove (join_from t es) x
above_kept t [] x top = top
above_kept t (e ∷ es) x top = above_kept (join_asks e.1 t) es x (above_joined e.1 t x top)

pub above_row : (t : Ask) (es : List (ℕ × Ask)) (o : ℕ) → IsAbove (join_from t es) (lookup (is_at (nat_cmp o)) es)
above_row t [] o = λ a e. refl
above_row t (e ∷ es) o = go (is_at (nat_cmp o) e.0) (above_row (join_asks e.1 t) es o)
  where
    go : (b : Bool) → IsAbove (join_from (join_asks e.1 t) es) (lookup (is_at (nat_cmp o)) es)
        → IsAbove (join_from (join_asks e.1 t) es) (cond b (Some e.1) (lookup (is_at (nat_cmp o)) es))
    go true rest = above_kept (join_asks e.1 t) es (Some e.1) (above_part e.1 t)
    go false rest = rest

-- a group mode that has the mode stays one
pub covered_under : (t a : Ask) → Covers (Some t) a → IsAbove t (Some a)
covered_under t a covers x e =
    let same : t ≡ join_asks a t = inside covers in
    ap not (with_parts x a t (sym (ap (are_compatible x) same) ∙ e)).0

-- ---- what keeps them

pub groups_put : (groups new : BTreeMap Resource Ask) (rows : RowMap) (k : Resource) (t : Ask) → AreGroupModes groups rows
    → ((o : ℕ) → IsAbove t (held_in rows o k)) → ((r : Resource) → group_at new r ≡ cond (same_resource k r) (Some t) (group_at groups r)) → AreGroupModes new rows
groups_put groups new rows k t all one is r u at = go (same_resource k r) refl
  where
    go : (b : Bool) → same_resource k r ≡ b → (o : ℕ) → IsAbove u (held_in rows o r)
    go true e o = subst (λ x. IsAbove x (held_in rows o r)) (inside (sym (ap (λ b. cond b (Some t) (group_at groups r)) e) ∙ sym (is r) ∙ at)) (subst (λ q. IsAbove t (held_in rows o q)) (exact_resources k r e) (one o))
    go false e o = all r u (sym (ap (λ b. cond b (Some t) (group_at groups r)) e) ∙ sym (is r) ∙ at) o

pub groups_same : (groups new : BTreeMap Resource Ask) (rows : RowMap) → AreGroupModes groups rows → ((r : Resource) → group_at new r ≡ group_at groups r) → AreGroupModes new rows
groups_same groups new rows all is r u at = all r u (sym (is r) ∙ at)

pub groups_dropped : (groups new : BTreeMap Resource Ask) (rows : RowMap) (k : Resource) → AreGroupModes groups rows
    → ((r : Resource) → group_at new r ≡ cond (same_resource k r) None (group_at groups r)) → AreGroupModes new rows
groups_dropped groups new rows k all is r u at = go (same_resource k r) refl
  where
    go : (b : Bool) → same_resource k r ≡ b → (o : ℕ) → IsAbove u (held_in rows o r)
    go true e = none_some (sym (ap (λ b. cond b None (group_at groups r)) e) ∙ sym (is r) ∙ at)
    go false e = all r u (sym (ap (λ b. cond b None (group_at groups r)) e) ∙ sym (is r) ∙ at)

-- rows in which the same is held
pub groups_of_same : (groups : BTreeMap Resource Ask) (rows new : RowMap) → AreGroupModes groups rows → ((o : ℕ) (r : Resource) → held_in new o r ≡ held_in rows o r) → AreGroupModes groups new
groups_of_same groups rows new all is r t at o = subst (IsAbove t) (sym (is o r)) (all r t at o)

-- rows in which some is held no more
pub groups_of_out : (groups : BTreeMap Resource Ask) (rows new : RowMap) (is_out : ℕ → Resource → Bool) → AreGroupModes groups rows
    → ((o : ℕ) (r : Resource) → held_in new o r ≡ cond (is_out o r) None (held_in rows o r)) → AreGroupModes groups new
groups_of_out groups rows new is_out all is r t at o = subst (IsAbove t) (sym (is o r)) (go (is_out o r))
  where
    go : (b : Bool) → IsAbove t (cond b None (held_in rows o r))
    go true = λ a e. refl
    go false = all r t at o

-- rows after a grant of a mode that the group mode, where there is one, stays above
pub groups_of_grant : (groups : BTreeMap Resource Ask) (rows new : RowMap) (owner : ℕ) (k : Resource) (a : Ask) (h : Option Ask)
    → AreGroupModes groups rows → IsUnder (group_at groups k) a → h ≡ held_in rows owner k
    → ((o : ℕ) (r : Resource) → held_in new o r ≡ cond ((owner == o) && same_resource k r) (Some (join_with a h)) (held_in rows o r)) → AreGroupModes groups new
groups_of_grant groups rows new owner k a h all under before is r t at o = subst (IsAbove t) (sym (is o r)) (go ((owner == o) && same_resource k r) refl)
  where
    joined : group_at groups k ≡ Some t → IsAbove t (Some (join_with a h))
    joined here x e =
        let first : is_barred_by x h ≡ false = ap (is_barred_by x) before ∙ all k t here owner x e in
        let second : not (are_compatible x a) ≡ false = subst (λ q. IsUnder q a) here under x e in
        barred_joined x a h ∙ ap₂ (λ (b c : Bool). b || c) first second

    go : (b : Bool) → ((owner == o) && same_resource k r) ≡ b → IsAbove t (cond b (Some (join_with a h)) (held_in rows o r))
    go true e = joined (ap (group_at groups) (exact_resources k r (both_parts (owner == o) (same_resource k r) e).1) ∙ at)
    go false e = all r t at o

-- nobody bars a mode that is let in
pub let_in_free : (groups : BTreeMap Resource Ask) (rows : RowMap) (k : Resource) (a : Ask) → AreGroupModes groups rows
    → LetsIn (group_at groups k) a → (o : ℕ) → is_barred_by a (held_in rows o k) ≡ false
let_in_free groups rows k a all lets o = go (group_at groups k) refl lets
  where
    go : (g : Option Ask) → group_at groups k ≡ g → LetsIn g a → is_barred_by a (held_in rows o k) ≡ false
    go None at lets = absurd lets
    go (Some u) at lets = all k u at o a lets.1

pub off_right : (b c : Bool) → c ≡ false → false ≡ (b && c)
off_right true c e = sym e
off_right false c e = refl

pub lets_under : (g : Option Ask) (a : Ask) → LetsIn g a → IsUnder g a
lets_under None a lets = tt
lets_under (Some t) a lets = covered_under t a lets.0

pub lets_noted : (g : Option Ask) (a : Ask) → LetsIn g a → IsSome g
lets_noted None a lets = absurd lets
lets_noted (Some t) a lets = refl

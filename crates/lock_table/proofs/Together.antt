-- Modes that go together, and a table in which all that owners hold does.
use Rattle.std.proofs.Common.{◌≡◌, ℕ, Bool, true, false, cond, not, ◌&&◌, ◌||◌, Option, Some, None, ◌==◌, refl, sym, ap, ap₂, ◌∙◌, arith}
use Rattle.std.proofs.lemmas.Bool.Decides.{nat_tests}
use Rattle.lock_modes.specs.declared.ask.Ask.{Ask}
use Rattle.lock_modes.specs.declared.ask.Ask.TheVariants as ask
use Rattle.lock_modes.specs.declared.mode.Mode.TheVariants.{SX}
use Rattle.lock_modes.specs.declared.edge_mode.EdgeMode.{EdgeMode}
use Rattle.lock_modes.specs.declared.edge_mode.EdgeMode.TheVariants.{ER, EX}
use Rattle.lock_modes.specs.Modes.{compatible, go_together, parts, Parts}
use Rattle.lock_modes.specs.Parts.{admits}
use Rattle.lock_modes.specs.EdgeModes.{edge_join, edge_compatible}
use Rattle.lock_modes.proofs.Joins.{compatible_join}
use Rattle.lock_resources.specs.declared.resource.Resource.{Resource}
use Rattle.lock_table.specs.Asks.{join_asks, are_compatible, join_with, is_barred_by, is_barred, Covers}
use Rattle.lock_table.specs.Resources.{same_resource}
use Rattle.lock_table.specs.inside.Rows.{RowMap, held_in, AreTogether}
use Rattle.lock_table.proofs.Maps.{exact_resources}

and_turned : (a b : Bool) → (a && b) ≡ (b && a)
and_turned true true = refl
and_turned true false = refl
and_turned false true = refl
and_turned false false = refl

and_false : (b : Bool) → (b && false) ≡ false
and_false true = refl
and_false false = refl

parts_turned : (p q : Option Parts) → go_together p q ≡ go_together q p
parts_turned None None = refl
parts_turned None (Some q) = refl
parts_turned (Some p) None = refl
parts_turned (Some p) (Some q) = and_turned (admits p.1 q.0) (admits q.1 p.0)

edge_turned : (e f : EdgeMode) → edge_compatible e f ≡ edge_compatible f e
edge_turned ER ER = refl
edge_turned ER EX = refl
edge_turned EX ER = refl
edge_turned EX EX = refl

edge_joined : (e f g : EdgeMode) → edge_compatible (edge_join e f) g ≡ (edge_compatible e g && edge_compatible f g)
edge_joined ER f ER = refl
edge_joined ER ER EX = refl
edge_joined ER EX EX = refl
edge_joined EX f g = refl

-- SX goes with nothing
exclusive : (a : Ask) → are_compatible (ask.Node SX) a ≡ false
exclusive (ask.Node m) = refl
exclusive (ask.Edge e) = refl

pub compatible_turned : (a b : Ask) → are_compatible a b ≡ are_compatible b a
compatible_turned (ask.Node m) (ask.Node n) = parts_turned (parts m) (parts n)
compatible_turned (ask.Node m) (ask.Edge f) = refl
compatible_turned (ask.Edge e) (ask.Node n) = refl
compatible_turned (ask.Edge e) (ask.Edge f) = edge_turned e f

-- a join goes with what both its parts go with
pub compatible_joined : (a b c : Ask) → are_compatible (join_asks a b) c ≡ (are_compatible a c && are_compatible b c)
compatible_joined (ask.Node m) (ask.Node n) (ask.Node k) = compatible_join m n k
compatible_joined (ask.Node m) (ask.Node n) (ask.Edge g) = refl
compatible_joined (ask.Node m) (ask.Edge f) (ask.Node k) = sym (and_false (compatible m k))
compatible_joined (ask.Node m) (ask.Edge f) (ask.Edge g) = refl
compatible_joined (ask.Edge e) (ask.Node n) (ask.Node k) = refl
compatible_joined (ask.Edge e) (ask.Node n) (ask.Edge g) = sym (and_false (edge_compatible e g))
compatible_joined (ask.Edge e) (ask.Edge f) (ask.Node k) = refl
compatible_joined (ask.Edge e) (ask.Edge f) (ask.Edge g) = edge_joined e f g

not_both : (a b : Bool) → not (a && b) ≡ (not a || not b)
not_both true b = refl
not_both false b = refl

-- a join is barred where one of its parts is
pub joined_barred : (a : Ask) (h x : Option Ask) → is_barred_by (join_with a h) x ≡ (is_barred_by a x || is_barred h x)
joined_barred a h None = no_one h
  where
    no_one : (h : Option Ask) → false ≡ is_barred h None
    no_one None = refl
    no_one (Some g) = refl
joined_barred a None (Some x) = or_false (not (are_compatible a x))
  where
    or_false : (b : Bool) → b ≡ (b || false)
    or_false true = refl
    or_false false = refl
joined_barred a (Some g) (Some x) = ap not (compatible_joined a g x) ∙ not_both (are_compatible a x) (are_compatible g x)

pub barred_turned : (h x : Option Ask) → is_barred h x ≡ is_barred x h
barred_turned None None = refl
barred_turned None (Some x) = refl
barred_turned (Some h) None = refl
barred_turned (Some h) (Some x) = ap not (compatible_turned h x)

-- a join bars where one of its parts does
pub barred_joined : (a g : Ask) (h : Option Ask) → is_barred_by a (Some (join_with g h)) ≡ (is_barred_by a h || not (are_compatible a g))
barred_joined a g h = barred_turned (Some a) (Some (join_with g h)) ∙ joined_barred g h (Some a)
    ∙ or_turned (not (are_compatible g a)) (is_barred h (Some a)) ∙ ap₂ (λ (x y : Bool). x || y) (barred_turned h (Some a)) (ap not (compatible_turned g a))
  where
    or_turned : (a b : Bool) → (a || b) ≡ (b || a)
    or_turned true true = refl
    or_turned true false = refl
    or_turned false true = refl
    or_turned false false = refl

or_left : (a b : Bool) → (a || b) ≡ false → a ≡ false
or_left false b e = refl
or_left true b e = grind (arith, e)

-- what is held already is barred by nobody who goes with what is held
pub covered_free : (a : Ask) (h x : Option Ask) → Covers h a → is_barred h x ≡ false → is_barred_by a x ≡ false
covered_free a h x covers off = or_left (is_barred_by a x) (is_barred h x) (sym (joined_barred a h x) ∙ sym (ap (λ g. is_barred g x) covers) ∙ off)

is_self : (o p : ℕ) → (o == p) ≡ true → o ≡ p
is_self o p e = grind (arith, nat_tests, e)

and_both : (a b : Bool) → (a && b) ≡ true → (a ≡ true) × (b ≡ true)
and_both true b e = (refl, e)
and_both false b e = grind (arith, e)

both_off : (a b : Bool) → a ≡ false → b ≡ false → (a || b) ≡ false
both_off a b e f = ap₂ (λ (x y : Bool). x || y) e f

itself : {A : Type 0} (o p : ℕ) → (owner : ℕ) → (owner == o) ≡ true → (owner == p) ≡ true → (p == o) ≡ false → A
itself o p owner e f g = grind (arith, nat_tests, e, f, g)

-- after a grant to an owner whom nobody bars
pub together_put : (rows new : RowMap) (owner : ℕ) (k : Resource) (a : Ask) (h : Option Ask)
    → AreTogether rows → h ≡ held_in rows owner k
    → ((p : ℕ) → (p == owner) ≡ false → is_barred_by a (held_in rows p k) ≡ false)
    → ((o : ℕ) (r : Resource) → held_in new o r ≡ cond ((owner == o) && same_resource k r) (Some (join_with a h)) (held_in rows o r))
    → AreTogether new
together_put rows new owner k a h all before free is o p r apart = ap₂ is_barred (is o r) (is p r) ∙ go ((owner == o) && same_resource k r) ((owner == p) && same_resource k r) refl refl
  where
    beside : (x : ℕ) → (x == owner) ≡ false → is_barred (Some (join_with a h)) (held_in rows x k) ≡ false
    beside x off = joined_barred a h (held_in rows x k) ∙ both_off _ _ (free x off) (ap (λ g. is_barred g (held_in rows x k)) before ∙ all owner x k off)

    other : (x y : ℕ) → (owner == x) ≡ true → (y == x) ≡ false → (y == owner) ≡ false
    other x y e f = grind (arith, nat_tests, e, f)

    turned : (x y : ℕ) → (y == x) ≡ false → (x == y) ≡ false
    turned x y f = grind (arith, nat_tests, f)

    go : (b c : Bool) → ((owner == o) && same_resource k r) ≡ b → ((owner == p) && same_resource k r) ≡ c
        → is_barred (cond b (Some (join_with a h)) (held_in rows o r)) (cond c (Some (join_with a h)) (held_in rows p r)) ≡ false
    go true true e f = itself o p owner (and_both _ _ e).0 (and_both _ _ f).0 apart
    go true false e f = ap (λ q. is_barred (Some (join_with a h)) (held_in rows p q)) (sym (exact_resources k r (and_both _ _ e).1)) ∙ beside p (other o p (and_both _ _ e).0 apart)
    go false true e f = barred_turned (held_in rows o r) (Some (join_with a h)) ∙ ap (λ q. is_barred (Some (join_with a h)) (held_in rows o q)) (sym (exact_resources k r (and_both _ _ f).1)) ∙ beside o (other p o (and_both _ _ f).0 (turned o p apart))
    go false false e f = all o p r apart

-- where all is held as before
pub together_same : (rows new : RowMap) → AreTogether rows → ((o : ℕ) (r : Resource) → held_in new o r ≡ held_in rows o r) → AreTogether new
together_same rows new all is o p r apart = ap₂ is_barred (is o r) (is p r) ∙ all o p r apart

-- where an owner holds nothing any more
pub together_out : (rows new : RowMap) (owner : ℕ) → AreTogether rows
    → ((o : ℕ) (r : Resource) → held_in new o r ≡ cond (owner == o) None (held_in rows o r)) → AreTogether new
together_out rows new owner all is o p r apart = ap₂ is_barred (is o r) (is p r) ∙ go (owner == o) (owner == p)
  where
    go : (b c : Bool) → is_barred (cond b None (held_in rows o r)) (cond c None (held_in rows p r)) ≡ false
    go true c = refl
    go false true = barred_turned (held_in rows o r) None
    go false false = all o p r apart

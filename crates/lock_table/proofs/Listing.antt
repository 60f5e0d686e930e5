-- What is listed for an owner.
use Rattle.std.proofs.Common.{◌≡◌, ℕ, Bool, true, false, cond, ◌&&◌, ◌||◌, List, [], ◌∷◌, ◌++◌, Option, Some, None, ◌==◌, refl, sym, ap, subst, ◌∙◌, arith, Result, Ok, Err, OnOk, OnErr, IsSome}
use Rattle.std.specs.Ordering.{is_eq, nat_cmp, ordering_then}
use Rattle.std.specs.Cmp.{tied_itself}
use Rattle.std.specs.Cmp.Lexicographic.{slice_cmp, nat_list_cmp_total}
use Rattle.std.specs.declared.cmp.Ordering.{Ordering}
use Rattle.std.specs.declared.cmp.Ordering.TheVariants.{Equal}
use Rattle.lock_resources.specs.declared.resource.Resource.TheVariants.{Node, AttrRoot, Attr, Edge}
use Rattle.lock_resources.specs.declared.resource.Side.TheVariants.{First, Last, Next, Prev}
use Rattle.lock_resources.specs.declared.resource.Resource.{Resource}
use Rattle.std.proofs.lemmas.Bool.Decides.{nat_tests}
use Rattle.std.specs.BTreeMap.{BTreeMap}
use Rattle.lock_modes.specs.declared.ask.Ask.{Ask}
use Rattle.lock_table.specs.inside.Rows.{RowMap, is_listed, held_in, owned_by, AreListed}
use Rattle.lock_table.specs.Resources.{same_resource}
use Rattle.lock_table.proofs.Maps.{exact_resources}

pub absurd : {A : Type 0} → false ≡ true → A
absurd e = grind (arith, e)

or_assoc : (a b c : Bool) → (a || (b || c)) ≡ ((a || b) || c)
or_assoc true b c = refl
or_assoc false b c = refl

pub listed_append : (r : Resource) (qs ps : List Resource) → is_listed r (qs ++ ps) ≡ (is_listed r qs || is_listed r ps)
listed_append r [] ps = refl
listed_append r (q ∷ qs) ps = ap (λ b. same_resource q r || b) (listed_append r qs ps) ∙ or_assoc (same_resource q r) (is_listed r qs) (is_listed r ps)

pub either : {T E P Q R : Type 0} (r : Result T E) → (P → R) → (Q → R) → OnOk r P → OnErr r Q → R
either (Ok x) f g ok err = f ok
either (Err y) f g ok err = g err

or_true : (b : Bool) → (b || true) ≡ true
or_true true = refl
or_true false = refl

or_left : (a b : Bool) → a ≡ true → (a || b) ≡ true
or_left true b e = refl
or_left false b e = grind (arith, e)

label_itself : (l : List ℕ) → slice_cmp nat_cmp l l ≡ Equal
label_itself l = tied_itself nat_list_cmp_total l

then_itself : (a b : Ordering) → a ≡ Equal → is_eq (ordering_then a b) ≡ is_eq b
then_itself a b e = ap (λ x. is_eq (ordering_then x b)) e

pub same_itself : (r : Resource) → same_resource r r ≡ true
same_itself (Node l) = ap is_eq (label_itself l)
same_itself (AttrRoot l) = ap is_eq (label_itself l)
same_itself (Attr l n) = then_itself (slice_cmp nat_cmp l l) (slice_cmp nat_cmp n n) (label_itself l) ∙ ap is_eq (label_itself n)
same_itself (Edge l First) = then_itself (slice_cmp nat_cmp l l) Equal (label_itself l)
same_itself (Edge l Last) = then_itself (slice_cmp nat_cmp l l) Equal (label_itself l)
same_itself (Edge l Next) = then_itself (slice_cmp nat_cmp l l) Equal (label_itself l)
same_itself (Edge l Prev) = then_itself (slice_cmp nat_cmp l l) Equal (label_itself l)

pub listed_last : (rs : List Resource) (r : Resource) → is_listed r (rs ++ r ∷ []) ≡ true
listed_last rs r = listed_append r rs (r ∷ []) ∙ ap (λ b. is_listed r rs || (b || false)) (same_itself r) ∙ or_true (is_listed r rs)

pub listed_more : (r : Resource) (rs : List Resource) (q : Resource) → is_listed r rs ≡ true → is_listed r (rs ++ q ∷ []) ≡ true
listed_more r rs q on = listed_append r rs (q ∷ []) ∙ or_left (is_listed r rs) (is_listed r (q ∷ [])) on

is_self : (o p : ℕ) → (o == p) ≡ true → o ≡ p
is_self o p e = grind (arith, nat_tests, e)

and_both : (a b : Bool) → (a && b) ≡ true → (a ≡ true) × (b ≡ true)
and_both true b e = (refl, e)
and_both false b e = grind (arith, e)

-- what is held is still listed after the owner got this
pub listed_put : (rows new : RowMap) (owned more : BTreeMap ℕ (List Resource)) (owner : ℕ) (k : Resource) (a : Ask)
    → AreListed rows owned
    → ((o : ℕ) (r : Resource) → is_listed r (owned_by owned o) ≡ true → is_listed r (owned_by more o) ≡ true)
    → is_listed k (owned_by more owner) ≡ true
    → ((o : ℕ) (r : Resource) → held_in new o r ≡ cond ((owner == o) && same_resource k r) (Some a) (held_in rows o r))
    → AreListed new more
listed_put rows new owned more owner k a all grows noted is o r some = go ((owner == o) && same_resource k r) refl
  where
    go : (b : Bool) → ((owner == o) && same_resource k r) ≡ b → is_listed r (owned_by more o) ≡ true
    go true e = subst (λ p. is_listed r (owned_by more p) ≡ true) (is_self owner o (and_both _ _ e).0) (subst (λ q. is_listed q (owned_by more owner) ≡ true) (exact_resources k r (and_both _ _ e).1) noted)
    go false e = grows o r (all o r (subst IsSome (is o r ∙ ap (λ b. cond b (Some a) (held_in rows o r)) e) some))

pub listed_same : (rows new : RowMap) (owned more : BTreeMap ℕ (List Resource))
    → AreListed rows owned
    → ((o : ℕ) (r : Resource) → is_listed r (owned_by owned o) ≡ true → is_listed r (owned_by more o) ≡ true)
    → ((o : ℕ) (r : Resource) → held_in new o r ≡ held_in rows o r)
    → AreListed new more
listed_same rows new owned more all grows is o r some = grows o r (all o r (subst IsSome (is o r) some))

-- taking an owner out of all that is listed for it leaves it nothing
pub all_out : (rows new : RowMap) (owned : BTreeMap ℕ (List Resource)) (owner : ℕ) (rs : List Resource)
    → AreListed rows owned → rs ≡ owned_by owned owner
    → ((o : ℕ) (r : Resource) → held_in new o r ≡ cond ((owner == o) && is_listed r rs) None (held_in rows o r))
    → (o : ℕ) (r : Resource) → held_in new o r ≡ cond (owner == o) None (held_in rows o r)
all_out rows new owned owner rs all same is o r = go (owner == o) refl (held_in rows o r) refl (is_listed r rs) refl
  where
    go : (b : Bool) → (owner == o) ≡ b → (h : Option Ask) → held_in rows o r ≡ h → (l : Bool) → is_listed r rs ≡ l → held_in new o r ≡ cond (owner == o) None (held_in rows o r)
    go false e h f l g = is o r ∙ ap (λ b. cond (b && is_listed r rs) None (held_in rows o r)) e ∙ sym (ap (λ b. cond b None (held_in rows o r)) e)
    go true e h f true g = is o r ∙ ap (λ b. cond (b && is_listed r rs) None (held_in rows o r)) e ∙ ap (λ b. cond b None (held_in rows o r)) g ∙ sym (ap (λ b. cond b None (held_in rows o r)) e)
    go true e None f false g = is o r ∙ ap (λ b. cond (b && is_listed r rs) None (held_in rows o r)) e ∙ ap (λ b. cond b None (held_in rows o r)) g ∙ f ∙ sym (ap (λ b. cond b None (held_in rows o r)) e)
    go true e (Some x) f false g =
        absurd (sym g ∙ ap (is_listed r) same ∙ subst (λ p. is_listed r (owned_by owned p) ≡ true) (sym (is_self owner o e)) (all o r (subst IsSome (sym f) refl)))

-- one more resource of a list
pub one_more : (rows now new : RowMap) (owner : ℕ) (rs : List Resource) (k : Resource)
    → ((o : ℕ) (r : Resource) → held_in now o r ≡ cond ((owner == o) && is_listed r rs) None (held_in rows o r))
    → ((o : ℕ) (r : Resource) → held_in new o r ≡ cond ((owner == o) && same_resource k r) None (held_in now o r))
    → (o : ℕ) (r : Resource) → held_in new o r ≡ cond ((owner == o) && is_listed r (rs ++ k ∷ [])) None (held_in rows o r)
one_more rows now new owner rs k before is o r = is o r ∙ ap (cond ((owner == o) && same_resource k r) None) (before o r) ∙ step (owner == o) (same_resource k r) (is_listed r rs) (held_in rows o r) ∙ ap (λ b. cond ((owner == o) && b) None (held_in rows o r)) (sym (listed_append r rs (k ∷ [])))
  where
    step : (a s l : Bool) (h : Option Ask) → cond (a && s) None (cond (a && l) None h) ≡ cond (a && (l || (s || false))) None h
    step true true true h = refl
    step true true false h = refl
    step true false true h = refl
    step true false false h = refl
    step false s l h = refl

-- Buckets, and the order of resources.
use Rattle.std.proofs.Common.{◌≡◌, ℕ, Bool, true, false, cond, ◌&&◌, Option, Some, None, ◌==◌, refl, sym, ap, subst, ◌∙◌}
use Rattle.std.specs.Ordering.{nat_cmp}
use Rattle.std.specs.BTreeMap.{BTreeMap}
use Rattle.std.specs.BTreeMap as tree
use Rattle.lock_modes.specs.declared.ask.Ask.{Ask}
use Rattle.lock_resources.specs.declared.resource.Resource.{Resource}
use Rattle.lock_resources.proofs.Same as same
use Rattle.lock_table.specs.inside.Buckets.{Bucket, row_there, in_row, held_there}
use Rattle.lock_table.specs.Resources.{same_resource}

and_true : (b : Bool) → (b && true) ≡ b
and_true true = refl
and_true false = refl

pub and_false : (b : Bool) → (b && false) ≡ false
and_false true = refl
and_false false = refl

pub exact_resources : (r q : Resource) → same_resource r q ≡ true → r ≡ q
exact_resources r q e = same.exact_resources r q e

-- what is written at one owner of one row
pub changed : (bucket new : Bucket) (k : Resource) (o : ℕ) (row : BTreeMap ℕ Ask) (w : Option Ask)
    → ((q : Resource) → row_there new q ≡ cond (same_resource k q) (Some row) (row_there bucket q))
    → ((p : ℕ) → tree.get nat_cmp row p ≡ cond (o == p) w (held_there bucket p k))
    → (p : ℕ) (q : Resource) → held_there new p q ≡ cond ((o == p) && same_resource k q) w (held_there bucket p q)
changed bucket new k o row w outer inner p q = go (same_resource k q) refl
  where
    here : same_resource k k ≡ true → held_there new p k ≡ cond ((o == p) && same_resource k k) w (held_there bucket p k)
    here e = ap (λ r. in_row r p) (outer k ∙ ap (λ b. cond b (Some row) (row_there bucket k)) e) ∙ inner p ∙ sym (ap (λ b. cond ((o == p) && b) w (held_there bucket p k)) e ∙ ap (λ b. cond b w (held_there bucket p k)) (and_true (o == p)))

    go : (b : Bool) → same_resource k q ≡ b → held_there new p q ≡ cond ((o == p) && same_resource k q) w (held_there bucket p q)
    go true e = subst (λ x. held_there new p x ≡ cond ((o == p) && same_resource k x) w (held_there bucket p x)) (exact_resources k q e) (here (subst (λ x. same_resource k x ≡ true) (sym (exact_resources k q e)) e))
    go false e = ap (λ r. in_row r p) (outer q ∙ ap (λ b. cond b (Some row) (row_there bucket q)) e) ∙ sym (ap (λ b. cond ((o == p) && b) w (held_there bucket p q)) e ∙ ap (λ b. cond b w (held_there bucket p q)) (and_false (o == p)))

-- a row that has what was there is written back
pub unchanged : (bucket new : Bucket) (k : Resource) (row : BTreeMap ℕ Ask)
    → ((q : Resource) → row_there new q ≡ cond (same_resource k q) (Some row) (row_there bucket q))
    → ((p : ℕ) → tree.get nat_cmp row p ≡ held_there bucket p k)
    → (p : ℕ) (q : Resource) → held_there new p q ≡ held_there bucket p q
unchanged bucket new k row outer inner p q = go (same_resource k q) refl
  where
    go : (b : Bool) → same_resource k q ≡ b → held_there new p q ≡ held_there bucket p q
    go true e = ap (λ r. in_row r p) (outer q ∙ ap (λ b. cond b (Some row) (row_there bucket q)) e) ∙ inner p ∙ ap (held_there bucket p) (exact_resources k q e)
    go false e = ap (λ r. in_row r p) (outer q ∙ ap (λ b. cond b (Some row) (row_there bucket q)) e)

-- a row without owners is taken out
pub dropped : (bucket new : Bucket) (k : Resource)
    → ((q : Resource) → row_there new q ≡ cond (same_resource k q) None (row_there bucket q))
    → ((p : ℕ) → held_there bucket p k ≡ None)
    → (p : ℕ) (q : Resource) → held_there new p q ≡ held_there bucket p q
dropped bucket new k outer inner p q = go (same_resource k q) refl
  where
    go : (b : Bool) → same_resource k q ≡ b → held_there new p q ≡ held_there bucket p q
    go true e = ap (λ r. in_row r p) (outer q ∙ ap (λ b. cond b None (row_there bucket q)) e) ∙ sym (inner p) ∙ ap (held_there bucket p) (exact_resources k q e)
    go false e = ap (λ r. in_row r p) (outer q ∙ ap (λ b. cond b None (row_there bucket q)) e)

-- nothing is taken out of a row that isn't there
pub write_none : (bucket new : Bucket) (k : Resource) (o : ℕ)
    → new ≡ bucket → row_there bucket k ≡ None
    → (p : ℕ) (q : Resource) → held_there new p q ≡ cond ((o == p) && same_resource k q) None (held_there bucket p q)
write_none bucket new k o same none p q = go (same_resource k q) refl
  where
    step : (b : Bool) → held_there bucket p q ≡ None → held_there new p q ≡ cond b None (held_there bucket p q)
    step true e = ap (λ x. held_there x p q) same ∙ e
    step false e = ap (λ x. held_there x p q) same

    go : (b : Bool) → same_resource k q ≡ b → held_there new p q ≡ cond ((o == p) && same_resource k q) None (held_there bucket p q)
    go true e = step ((o == p) && same_resource k q) (ap (held_there bucket p) (sym (exact_resources k q e)) ∙ ap (λ r. in_row r p) none)
    go false e = ap (λ x. held_there x p q) same ∙ sym (ap (λ b. cond ((o == p) && b) None (held_there bucket p q)) e ∙ ap (λ b. cond b None (held_there bucket p q)) (and_false (o == p)))

pub same_turned : (r q : Resource) → same_resource r q ≡ same_resource q r
same_turned r q = go (same_resource r q) (same_resource q r) refl refl
  where
    go : (a b : Bool) → same_resource r q ≡ a → same_resource q r ≡ b → same_resource r q ≡ same_resource q r
    go true b e f = ap (λ x. same_resource r x) (sym (exact_resources r q e)) ∙ ap (λ x. same_resource x r) (exact_resources r q e)
    go false true e f = ap (λ x. same_resource r x) (exact_resources q r f) ∙ ap (λ x. same_resource x r) (sym (exact_resources q r f))
    go false false e f = e ∙ sym f

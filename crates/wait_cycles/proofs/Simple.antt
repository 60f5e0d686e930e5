-- A shortest walk from a number to itself repeats no number.
use Rattle.std.proofs.Common.{◌≡◌, ℕ, ◌<◌, Bool, true, false, not, ◌&&◌, ◌||◌, List, [], ◌∷◌, ◌++◌, length, ◌==◌, refl, sym, ap, subst, ◌∙◌, arith}
use Rattle.std.proofs.lemmas.Bool.Decides.{nat_tests}
use Rattle.wait_cycles.specs.Walks.{leads, has, all_in, is_distinct}

pub apart : {A : Type 0} → false ≡ true → A
apart e = grind (arith, e)

pub and_left : (a b : Bool) → (a && b) ≡ true → a ≡ true
and_left true b e = refl
and_left false b e = e

pub and_right : (a b : Bool) → (a && b) ≡ true → b ≡ true
and_right true b e = e
and_right false b e = apart e

pub and_both : (a b : Bool) → a ≡ true → b ≡ true → (a && b) ≡ true
and_both true b e f = f
and_both false b e f = e

and_assoc : (a b c : Bool) → (a && (b && c)) ≡ ((a && b) && c)
and_assoc true b c = refl
and_assoc false b c = refl

pub leads_split : (R : ℕ → ℕ → Bool) (s : ℕ) (us : List ℕ) (x : ℕ) (vs : List ℕ) (e : ℕ) → leads R s (us ++ x ∷ vs) e ≡ (leads R s us x && leads R x vs e)
leads_split R s [] x vs e = refl
leads_split R s (u ∷ us) x vs e = ap (λ b. R s u && b) (leads_split R u us x vs e) ∙ and_assoc (R s u) (leads R u us x) (leads R x vs e)

all_split : (us : List ℕ) (x : ℕ) (vs cs : List ℕ) → all_in (us ++ x ∷ vs) cs ≡ true → (all_in us cs ≡ true) × (has x cs ≡ true) × (all_in vs cs ≡ true)
all_split [] x vs cs e = (refl, and_left (has x cs) (all_in vs cs) e, and_right (has x cs) (all_in vs cs) e)
all_split (u ∷ us) x vs cs e =
    let rest = all_split us x vs cs (and_right (has u cs) (all_in (us ++ x ∷ vs) cs) e) in
    (and_both (has u cs) (all_in us cs) (and_left (has u cs) (all_in (us ++ x ∷ vs) cs) e) rest.0, rest.1, rest.2)

pub all_join : (us : List ℕ) (x : ℕ) (vs cs : List ℕ) → all_in us cs ≡ true → has x cs ≡ true → all_in vs cs ≡ true → all_in (us ++ x ∷ vs) cs ≡ true
all_join [] x vs cs a b c = and_both (has x cs) (all_in vs cs) b c
all_join (u ∷ us) x vs cs a b c = and_both (has u cs) (all_in (us ++ x ∷ vs) cs) (and_left (has u cs) (all_in us cs) a) (all_join us x vs cs (and_right (has u cs) (all_in us cs) a) b c)

-- where a number stands in a list
pub record Split (x : ℕ) (us : List ℕ) : Type 0 where
  pub before : List ℕ
  pub back : List ℕ
  pub is : us ≡ before ++ x ∷ back

pub split_at : (x : ℕ) (us : List ℕ) → has x us ≡ true → Split x us
split_at x [] e = apart e
split_at x (u ∷ us) e = go (u == x) refl (split_at x us)
  where
    go : (b : Bool) → (u == x) ≡ b → (has x us ≡ true → Split x us) → Split x (u ∷ us)
    go true same rest = record { before = []; back = us; is = ap (λ y. y ∷ us) (the_same same) }
      where
        the_same : (u == x) ≡ true → u ≡ x
        the_same e = grind (arith, nat_tests, e)
    go false same rest =
        let more = rest (sym (ap (λ b. b || has x us) same) ∙ e) in
        record { before = u ∷ more.before; back = more.back; is = ap (λ ys. u ∷ ys) more.is }

-- a number that stands twice
pub record Twice (us : List ℕ) : Type 0 where
  pub before : List ℕ
  pub number : ℕ
  pub middle : List ℕ
  pub back : List ℕ
  pub is : us ≡ before ++ number ∷ (middle ++ number ∷ back)

twice_in : (us : List ℕ) → is_distinct us ≡ false → Twice us
twice_in [] e = apart (sym e)
twice_in (u ∷ us) e = go (has u us) refl (twice_in us)
  where
    go : (b : Bool) → has u us ≡ b → (is_distinct us ≡ false → Twice us) → Twice (u ∷ us)
    go true on rest =
        let at = split_at u us on in
        record { before = []; number = u; middle = at.before; back = at.back; is = ap (λ ys. u ∷ ys) at.is }
    go false off rest =
        let more = rest (sym (ap (λ b. not b && is_distinct us) off) ∙ e) in
        record { before = u ∷ more.before; number = more.number; middle = more.middle; back = more.back; is = ap (λ ys. u ∷ ys) more.is }

longer : (us vs : List ℕ) (x : ℕ) → length vs < length (us ++ x ∷ vs)
longer [] vs x = omega arith
longer (u ∷ us) vs x = let more = longer us vs x in omega (arith, more)

shorter : (us ms vs : List ℕ) (x : ℕ) → length (us ++ x ∷ vs) < length (us ++ x ∷ (ms ++ x ∷ vs))
shorter [] ms vs x = let more = longer ms vs x in omega (arith, more)
shorter (u ∷ us) ms vs x = let more = shorter us ms vs x in omega (arith, more)

-- a closed walk than which none is shorter repeats no number
pub simple : (R : ℕ → ℕ → Bool) (cs : List ℕ) (s : ℕ) (us : List ℕ) → leads R s us s ≡ true → all_in us cs ≡ true
    → ((vs : List ℕ) → length vs < length us → all_in vs cs ≡ true → leads R s vs s ≡ false) → is_distinct (s ∷ us) ≡ true
simple R cs s us on all none = and_both (not (has s us)) (is_distinct us) (ap not (out (has s us) refl)) (once (is_distinct us) refl)
  where
    out : (b : Bool) → has s us ≡ b → has s us ≡ false
    out false is = is
    out true is =
        let at = split_at s us is in
        let parts = subst (λ ys. leads R s ys s ≡ true) at.is on in
        let back = and_right (leads R s at.before s) (leads R s at.back s) (sym (leads_split R s at.before s at.back s) ∙ parts) in
        let size = subst (λ ys. length at.back < length ys) (sym at.is) (longer at.before at.back s) in
        apart (sym (none at.back size (all_split at.before s at.back cs (subst (λ ys. all_in ys cs ≡ true) at.is all)).2) ∙ back)

    once : (b : Bool) → is_distinct us ≡ b → is_distinct us ≡ true
    once true is = is
    once false is =
        let at = twice_in us is in
        let x = at.number in
        let inner = at.middle ++ x ∷ at.back in
        let parts = sym (leads_split R s at.before x inner s) ∙ subst (λ ys. leads R s ys s ≡ true) at.is on in
        let first = and_left (leads R s at.before x) (leads R x inner s) parts in
        let last = and_right (leads R x at.middle x) (leads R x at.back s) (sym (leads_split R x at.middle x at.back s) ∙ and_right (leads R s at.before x) (leads R x inner s) parts) in
        let all_parts = all_split at.before x inner cs (subst (λ ys. all_in ys cs ≡ true) at.is all) in
        let all_back = (all_split at.middle x at.back cs all_parts.2).2 in
        let size = subst (λ ys. length (at.before ++ x ∷ at.back) < length ys) (sym at.is) (shorter at.before at.middle at.back x) in
        apart (sym (none (at.before ++ x ∷ at.back) size (all_join at.before x at.back cs all_parts.0 all_parts.1 all_back))
        ∙ leads_split R s at.before x at.back s ∙ and_both (leads R s at.before x) (leads R x at.back s) first last)

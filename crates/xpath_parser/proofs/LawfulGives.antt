-- What a parser gives, wherever it gives something, rule after rule.
use Rattle.std.proofs.Common.{◌≡◌, ℕ, Bool, true, false, cond, List, [], ◌∷◌, ◌++◌, map, max, ◌≤◌, Ok, Err, refl, arith}
use Rattle.std.proofs.lemmas.Bool.{and_from}
use Rattle.std.specs.Prelude.{⊤}
use Rattle.std.specs.List.{AllByRecursion, list_all}
use Rattle.path_model.specs.Lawful.{deepest}
use Rattle.xpath_parser.specs.Input.{Outcome, Parser, and_then}
use Rattle.xpath_parser.specs.Lex.{Text}

abbrev pub Gives : {A : Type 0} → (A → Type 0) → Outcome A → Type 0
Gives P (Ok a) = P a.0
Gives P (Err e) = ⊤

pub then_gives : {A B : Type 0} (P : A → Type 0) (Q : B → Type 0) (o : Outcome A) (f : A → Parser B) → Gives P o → ((a : A) (i : Text) → P a → Gives Q (f a i)) → Gives Q (and_then o f)
then_gives P Q (Ok a) f h k = k a.0 a.1 h
then_gives P Q (Err e) f h k = tt

pub anything : {A : Type 0} (o : Outcome A) → Gives (λ _. ⊤) o
anything (Ok a) = tt
anything (Err e) = tt

-- behind what may be anything
pub after : {A B : Type 0} (Q : B → Type 0) (o : Outcome A) (f : A → Parser B) → ((a : A) (i : Text) → Gives Q (f a i)) → Gives Q (and_then o f)
after Q (Ok a) f k = k a.0 a.1
after Q (Err e) f k = tt

pub if_gives : {A : Type 0} (P : A → Type 0) (b : Bool) (x y : Outcome A) → (b ≡ true → Gives P x) → (b ≡ false → Gives P y) → Gives P (cond b x y)
if_gives P true x y f g = f refl
if_gives P false x y f g = g refl

-- ---- lists

pub all_snoc : {X : Type 0} (P : X → Type 0) (xs : List X) (x : X) → AllByRecursion P xs → P x → AllByRecursion P (xs ++ x ∷ [])
all_snoc P [] x h k = (k, tt)
all_snoc P (y ∷ ys) x h k = (h.0, all_snoc P ys x h.1 k)

pub all_true : {X Y : Type 0} (P : X → Type 0) (q : Y → Bool) (g : X → Y) → ((x : X) → P x → q (g x) ≡ true) → (xs : List X) → AllByRecursion P xs → list_all q (map g xs) ≡ true
all_true P q g each [] h = refl
all_true P q g each (x ∷ xs) h = and_from (q (g x)) _ (each x h.0) (all_true P q g each xs h.1)

max_most : (a b n : ℕ) → a ≤ n → b ≤ n → max a b ≤ n
max_most a b n h k = omega arith

pub all_most : {X : Type 0} (P : X → Type 0) (d : X → ℕ) (n : ℕ) → ((x : X) → P x → d x ≤ n) → (xs : List X) → AllByRecursion P xs → deepest (map d xs) ≤ n
all_most P d n each [] h = omega arith
all_most P d n each (x ∷ xs) h = max_most (d x) (deepest (map d xs)) n (each x h.0) (all_most P d n each xs h.1)

pub all_most_of : {X : Type 0} (P : X → Type 0) (f : ℕ → ℕ) (d : X → ℕ) (n : ℕ) → ((x : X) → P x → f (d x) ≤ n) → (xs : List X) → AllByRecursion P xs → deepest (map f (map d xs)) ≤ n
all_most_of P f d n each [] h = omega arith
all_most_of P f d n each (x ∷ xs) h = max_most (f (d x)) (deepest (map f (map d xs))) n (each x h.0) (all_most_of P f d n each xs h.1)

pub if_parser : {A : Type 0} (P : A → Type 0) (b : Bool) (p q : Parser A) (i : Text) → (b ≡ true → Gives P (p i)) → (b ≡ false → Gives P (q i)) → Gives P (cond b p q i)
if_parser P true p q i f g = f refl
if_parser P false p q i f g = g refl

pub weaker : {A : Type 0} (P Q : A → Type 0) (o : Outcome A) → ((a : A) → P a → Q a) → Gives P o → Gives Q o
weaker P Q (Ok a) f h = f a.0 h
weaker P Q (Err e) f h = tt

-- The cases of an order and of a test, with what is known in each.
use Rattle.std.proofs.Common.{◌≡◌, Bool, true, false, Ordering, Less, Equal, Greater, is_lt, is_eq, refl}
use Rattle.tree_model.specs.Orders.{by_order}

pub ordered : (P : Type 0) (o : Ordering) → (o ≡ Less → P) → (o ≡ Equal → P) → (o ≡ Greater → P) → P
ordered P Less f g h = f refl
ordered P Equal f g h = g refl
ordered P Greater f g h = h refl

pub tested : (P : Type 0) (b : Bool) → (b ≡ true → P) → (b ≡ false → P) → P
tested P true f g = f refl
tested P false f g = g refl

pub by_cases : {A : Type 0} (P : A → Type 0) (o : Ordering) (less equal greater : A) → (o ≡ Less → P less) → (o ≡ Equal → P equal) → (o ≡ Greater → P greater) → P (by_order o less equal greater)
by_cases P Less less equal greater f g h = f refl
by_cases P Equal less equal greater f g h = g refl
by_cases P Greater less equal greater f g h = h refl

pub lt_is : (o : Ordering) → is_lt o ≡ true → o ≡ Less
lt_is Less h = refl
lt_is Equal h = cc
lt_is Greater h = cc

pub eq_is : (o : Ordering) → is_eq o ≡ true → o ≡ Equal
eq_is Less h = cc
eq_is Equal h = refl
eq_is Greater h = cc

-- Sorting by keys and leaving out doubles gives a list as a set in document order.
use Rattle.std.proofs.Common.{◌≡◌, ◌≤◌, ◌<◌, ℕ, zero, suc, Bool, true, false, cond, not, ◌&&◌, if◌then◌else◌, List, [], ◌∷◌, ◌++◌, length, map, reverse, get_or, Ordering, Less, Equal, Greater, is_eq, refl, sym, ap, subst, ◌∙◌, true≢false, arith}
use Rattle.std.specs.List.{AllByRecursion, filter}
use Rattle.std.specs.List.Sorted.{ties}
use Rattle.std.specs.Ordering.{is_lt, ordering_reverse}
use Rattle.std.proofs.lemmas.Grind.{reverse_onto}
use Rattle.std.proofs.lemmas.List.{map-append}
use Rattle.tree_model.specs.Keys.{key_cmp}
use Rattle.tree_model.specs.Orders.{by_order}
use Rattle.tree_model.proofs.Keys.{key_itself, key_turned_back, key_tied, key_total}
use Rattle.path_model.specs.Evaluation.{put_in, in_order}
use Rattle.path_model.specs.Positions.{Position, a_node, an_attribute, key_of, is_same}
use Rattle.path_model.specs.Sets.{Precedes, Rises}
use Rattle.xpath_axes.specs.declared.position.Position as declared
use Rattle.xpath_axes.specs.declared.position.Position.TheVariants.{Node, Attribute}
use Rattle.xpath_axes.specs.Positions.{plain, all_plain}
use Rattle.xpath_eval.specs.inside.Orders.{put_before, thinned, is_first_same}

abbrev K : Position → Position → Ordering
K n m = key_cmp (key_of n) (key_of m)

-- ---- positions that rise are in order

put_low : (x : Position) (ms : List Position) → AllByRecursion (Precedes x) ms → put_in x ms ≡ x ∷ ms
put_low x [] h = refl
put_low x (m ∷ ms) h = ap (λ o. by_order o (x ∷ m ∷ ms) (m ∷ ms) (m ∷ put_in x ms)) h.0

pub rising_is_ordered : (ns : List Position) → Rises ns → ns ≡ in_order ns
rising_is_ordered [] h = refl
rising_is_ordered (n ∷ ns) h = ap (λ (ms : List Position). n ∷ ms) (rising_is_ordered ns h.1) ∙ sym (put_low n (in_order ns) (subst (AllByRecursion (Precedes n)) (rising_is_ordered ns h.1) h.0))

-- ---- what holds of each position holds of each that is put in

all_put : (P : Position → Type 0) (n : Position) (ms : List Position) → P n → AllByRecursion P ms → AllByRecursion P (put_in n ms)
all_put P n [] h g = (h, tt)
all_put P n (m ∷ ms) h g = by (K n m) (all_put P n ms h g.1)
  where
    by : (o : Ordering) → AllByRecursion P (put_in n ms) → AllByRecursion P (by_order o (n ∷ m ∷ ms) (m ∷ ms) (m ∷ put_in n ms))
    by Less w = (h, g)
    by Equal w = g
    by Greater w = (g.0, w)

pub all_ordered : (P : Position → Type 0) (ns : List Position) → AllByRecursion P ns → AllByRecursion P (in_order ns)
all_ordered P [] h = tt
all_ordered P (n ∷ ns) h = all_put P n (in_order ns) h.0 (all_ordered P ns h.1)

-- ---- sorted positions

-- the second position's key doesn't lie below the first one's
abbrev pub NotBelow : Position → Position → Type 0
NotBelow n m = is_lt (K m n) ≡ false

abbrev pub IsSortedRow : List Position → Type 0
IsSortedRow [] = Unit {0}
IsSortedRow (n ∷ ns) = AllByRecursion (NotBelow n) ns × IsSortedRow ns

put_first : (n : Position) (ms : List Position) → AllByRecursion (NotBelow n) ms → put_before n ms ≡ put_in n ms
put_first n [] h = refl
put_first n (m ∷ ms) h = by (K n m) refl
  where
    below : K n m ≡ Greater → is_lt (K m n) ≡ true
    below e = ap is_lt (key_turned_back (key_of n) (key_of m) e)

    by : (o : Ordering) → K n m ≡ o → (if is_eq (K n m) then m ∷ ms else n ∷ m ∷ ms) ≡ by_order (K n m) (n ∷ m ∷ ms) (m ∷ ms) (m ∷ put_in n ms)
    by Less e = ap (λ o. if is_eq o then m ∷ ms else n ∷ m ∷ ms) e ∙ ap (λ o. by_order o (n ∷ m ∷ ms) (m ∷ ms) (m ∷ put_in n ms)) (sym e)
    by Equal e = ap (λ o. if is_eq o then m ∷ ms else n ∷ m ∷ ms) e ∙ ap (λ o. by_order o (n ∷ m ∷ ms) (m ∷ ms) (m ∷ put_in n ms)) (sym e)
    by Greater e = absurd (true≢false (sym (below e) ∙ h.0))

pub thinned_is_ordered : (ns : List Position) → IsSortedRow ns → thinned ns ≡ in_order ns
thinned_is_ordered [] h = refl
thinned_is_ordered (n ∷ ns) h = ap (put_before n) (thinned_is_ordered ns h.1) ∙ put_first n (in_order ns) (all_ordered (NotBelow n) ns h.0)

all_by : (P : Position → Type 0) (ns : List Position) → ((j : ℕ) (d : Position) → j < length ns → P (get_or ns j d)) → AllByRecursion P ns
all_by P [] h = tt
all_by P (n ∷ ns) h = (h 0 n (omega arith), all_by P ns (λ j d l. h (suc j) d (omega (arith, l))))

pub row_sorted : (ns : List Position) → ((i j : ℕ) (d : Position) → i ≤ j → j < length ns → is_lt (K (get_or ns j d) (get_or ns i d)) ≡ false) → IsSortedRow ns
row_sorted [] h = tt
row_sorted (n ∷ ns) h = (all_by (NotBelow n) ns (λ j d l. h 0 (suc j) d (omega arith) (omega (arith, l))), row_sorted ns (λ i j d s l. h (suc i) (suc j) d (omega (arith, s)) (omega (arith, l))))

-- ---- the same set in document order, whatever the order of those with different keys

above_put : (k n : Position) (ms : List Position) → Precedes k n → AllByRecursion (Precedes k) ms → AllByRecursion (Precedes k) (put_in n ms)
above_put k n ms h g = all_put (Precedes k) n ms h g

rises_put : (n : Position) (ms : List Position) → Rises ms → Rises (put_in n ms)
rises_put n [] h = (tt, tt)
rises_put n (m ∷ ms) h = by (K n m) refl (rises_put n ms h.1)
  where
    higher : (xs : List Position) → K n m ≡ Less → AllByRecursion (Precedes m) xs → AllByRecursion (Precedes n) xs
    higher [] e g = tt
    higher (x ∷ xs) e g = (key_total.trans (key_of n) (key_of m) (key_of x) e g.0, higher xs e g.1)

    by : (o : Ordering) → K n m ≡ o → Rises (put_in n ms) → Rises (by_order o (n ∷ m ∷ ms) (m ∷ ms) (m ∷ put_in n ms))
    by Less e w = ((e, higher ms e h.0), h)
    by Equal e w = h
    by Greater e w = (above_put m n ms (key_turned_back (key_of n) (key_of m) e) h.0, w)

pub ordered_rises : (ns : List Position) → Rises (in_order ns)
ordered_rises [] = tt
ordered_rises (n ∷ ns) = rises_put n (in_order ns) (ordered_rises ns)

-- a position before others of its key, which go before it
abbrev or_first : Position → List Position → List Position
or_first n [] = n ∷ []
or_first n (m ∷ ms) = m ∷ ms

-- those that have the key of a position
abbrev at_key : Position → List Position → List Position
at_key x ns = filter (is_same x) ns

equal_of : (o : Ordering) → is_eq o ≡ true → o ≡ Equal
equal_of Less e = absurd (true≢false (sym e))
equal_of Equal e = refl
equal_of Greater e = absurd (true≢false (sym e))

same_key : (x n : Position) → is_same x n ≡ true → key_of x ≡ key_of n
same_key x n e = key_tied (key_of x) (key_of n) (equal_of (K x n) e)

same_itself : (x : Position) → is_same x x ≡ true
same_itself x = ap is_eq (key_itself (key_of x))

none_above : (x : Position) (ms : List Position) → AllByRecursion (Precedes x) ms → at_key x ms ≡ []
none_above x [] h = refl
none_above x (m ∷ ms) h = ap (λ o. cond (is_eq o) (m ∷ at_key x ms) (at_key x ms)) h.0 ∙ none_above x ms h.1

above_too : (x n : Position) (ms : List Position) → key_of x ≡ key_of n → AllByRecursion (Precedes n) ms → AllByRecursion (Precedes x) ms
above_too x n [] e h = tt
above_too x n (m ∷ ms) e h = (ap (λ k. key_cmp k (key_of m)) e ∙ h.0, above_too x n ms e h.1)

above_on : (x m : Position) (ms : List Position) → Precedes x m → AllByRecursion (Precedes m) ms → AllByRecursion (Precedes x) ms
above_on x m [] e h = tt
above_on x m (y ∷ ms) e h = (key_total.trans (key_of x) (key_of m) (key_of y) e h.0, above_on x m ms e h.1)

put_at : (x n : Position) (ms : List Position) → Rises ms → at_key x (put_in n ms) ≡ cond (is_same x n) (or_first n (at_key x ms)) (at_key x ms)
put_at x n [] h = refl
put_at x n (m ∷ ms) h = by (K n m) refl (put_at x n ms h.1)
  where
    less : K n m ≡ Less → (b : Bool) → is_same x n ≡ b → cond b (n ∷ at_key x (m ∷ ms)) (at_key x (m ∷ ms)) ≡ cond b (or_first n (at_key x (m ∷ ms))) (at_key x (m ∷ ms))
    less e false s = refl
    less e true s =
        let low : Precedes x m = ap (λ k. key_cmp k (key_of m)) (same_key x n s) ∙ e in
        let none : at_key x (m ∷ ms) ≡ [] = none_above x (m ∷ ms) (low, above_on x m ms low h.0) in
        ap (λ (ys : List Position). n ∷ ys) none ∙ ap (or_first n) (sym none)

    equal : K n m ≡ Equal → (b : Bool) → is_same x n ≡ b → at_key x (m ∷ ms) ≡ cond b (or_first n (at_key x (m ∷ ms))) (at_key x (m ∷ ms))
    equal e false s = refl
    equal e true s =
        let there : is_same x m ≡ true = ap is_eq (ap (λ k. key_cmp k (key_of m)) (same_key x n s) ∙ e) in
        let first : at_key x (m ∷ ms) ≡ m ∷ at_key x ms = ap (λ b. cond b (m ∷ at_key x ms) (at_key x ms)) there in
        first ∙ ap (or_first n) (sym first)

    greater : K n m ≡ Greater → (b d : Bool) → is_same x n ≡ b → is_same x m ≡ d
        → cond d (m ∷ cond b (or_first n (at_key x ms)) (at_key x ms)) (cond b (or_first n (at_key x ms)) (at_key x ms)) ≡ cond b (or_first n (cond d (m ∷ at_key x ms) (at_key x ms))) (cond d (m ∷ at_key x ms) (at_key x ms))
    greater e true true s z =
        let itself : K n m ≡ Equal = ap (λ k. key_cmp k (key_of m)) (sym (same_key x n s) ∙ same_key x m z) ∙ key_itself (key_of m) in
        absurd (true≢false (sym (ap is_eq itself) ∙ ap is_eq e))
    greater e true false s z = refl
    greater e false true s z = refl
    greater e false false s z = refl

    by : (o : Ordering) → K n m ≡ o → at_key x (put_in n ms) ≡ cond (is_same x n) (or_first n (at_key x ms)) (at_key x ms)
        → at_key x (by_order (K n m) (n ∷ m ∷ ms) (m ∷ ms) (m ∷ put_in n ms)) ≡ cond (is_same x n) (or_first n (at_key x (m ∷ ms))) (at_key x (m ∷ ms))
    by Less e w = ap (λ o. at_key x (by_order o (n ∷ m ∷ ms) (m ∷ ms) (m ∷ put_in n ms))) e ∙ less e (is_same x n) refl
    by Equal e w = ap (λ o. at_key x (by_order o (n ∷ m ∷ ms) (m ∷ ms) (m ∷ put_in n ms))) e ∙ equal e (is_same x n) refl
    by Greater e w =
        ap (λ o. at_key x (by_order o (n ∷ m ∷ ms) (m ∷ ms) (m ∷ put_in n ms))) e
        ∙ ap (λ (ys : List Position). cond (is_same x m) (m ∷ ys) ys) w
        ∙ greater e (is_same x n) (is_same x m) refl refl

-- of those with one key the last
abbrev lasts : List Position → List Position
lasts [] = []
lasts (n ∷ ns) = or_first n (lasts ns)

at_ordered : (x : Position) (ns : List Position) → at_key x (in_order ns) ≡ lasts (at_key x ns)
at_ordered x [] = refl
at_ordered x (n ∷ ns) =
    put_at x n (in_order ns) (ordered_rises ns)
    ∙ ap (λ (ys : List Position). cond (is_same x n) (or_first n ys) ys) (at_ordered x ns)
    ∙ by (is_same x n)
  where
    by : (b : Bool) → cond b (or_first n (lasts (at_key x ns))) (lasts (at_key x ns)) ≡ lasts (cond b (n ∷ at_key x ns) (at_key x ns))
    by true = refl
    by false = refl

abbrev head_or : Position → List Position → Position
head_or d [] = d
head_or d (n ∷ ns) = n

some_at : (n : Position) (ns : List Position) → at_key n (n ∷ ns) ≡ n ∷ at_key n ns
some_at n ns = ap (λ b. cond b (n ∷ at_key n ns) (at_key n ns)) (same_itself n)

-- lists that rise are the same where they have the same at each key
unique : (ns ms : List Position) → Rises ns → Rises ms → ((x : Position) → at_key x ns ≡ at_key x ms) → ns ≡ ms
unique [] [] h g e = refl
unique [] (m ∷ ms) h g e = let z = e m ∙ some_at m ms in cc
unique (n ∷ ns) [] h g e = let z = sym (some_at n ns) ∙ e n in cc
unique (n ∷ ns) (m ∷ ms) h g e = by (K n m) refl (λ z. unique ns ms h.1 g.1 z)
  where
    tails : key_of n ≡ key_of m → (x : Position) (b : Bool) → is_same x n ≡ b → at_key x ns ≡ at_key x ms
    tails k x true s =
        none_above x ns (above_too x n ns (same_key x n s) h.0) ∙ sym (none_above x ms (above_too x m ms (same_key x n s ∙ k) g.0))
    tails k x false s =
        sym (ap (λ b. cond b (n ∷ at_key x ns) (at_key x ns)) s) ∙ e x ∙ ap (λ b. cond b (m ∷ at_key x ms) (at_key x ms)) (sym (ap (λ z. is_eq (key_cmp (key_of x) z)) k) ∙ s)

    by : (o : Ordering) → K n m ≡ o → (((x : Position) → at_key x ns ≡ at_key x ms) → ns ≡ ms) → n ∷ ns ≡ m ∷ ms
    by Less l again = let z = sym (some_at n ns) ∙ e n ∙ none_above n (m ∷ ms) (l, above_on n m ms l g.0) in cc
    by Greater l again =
        let low : Precedes m n = key_turned_back (key_of n) (key_of m) l in
        let z = sym (some_at m ms) ∙ sym (e m) ∙ none_above m (n ∷ ns) (low, above_on m n ns low h.0) in cc
    by Equal l again =
        let k : key_of n ≡ key_of m = key_tied (key_of n) (key_of m) l in
        let firsts : n ∷ at_key n ns ≡ m ∷ at_key n ms = sym (some_at n ns) ∙ e n ∙ ap (λ b. cond b (m ∷ at_key n ms) (at_key n ms)) (ap is_eq l) in
        let first : n ≡ m = ap (head_or n) firsts in
        let rest : ns ≡ ms = again (λ x. tails k x (is_same x n) refl) in
        λ i. first i ∷ rest i

pub same_ordered : (ns ms : List Position) → ((x : Position) → at_key x ns ≡ at_key x ms) → in_order ns ≡ in_order ms
same_ordered ns ms h = unique (in_order ns) (in_order ms) (ordered_rises ns) (ordered_rises ms) (λ x. at_ordered x ns ∙ ap lasts (h x) ∙ sym (at_ordered x ms))

pub ties_same : (x y : Position) → ties (λ a b. is_lt (K a b)) x y ≡ is_same x y
ties_same x y = by (K x y) refl
  where
    by : (o : Ordering) → K x y ≡ o → (not (is_lt (K x y)) && not (is_lt (K y x))) ≡ is_eq (K x y)
    by Less e = ap (λ o. not (is_lt o) && not (is_lt (K y x))) e ∙ ap is_eq (sym e)
    by Equal e = ap (λ o. not (is_lt o) && not (is_lt (K y x))) e ∙ ap (λ o. not (is_lt o)) (key_total.antisymm (key_of y) (key_of x) ∙ ap ordering_reverse e) ∙ ap is_eq (sym e)
    by Greater e = ap (λ o. not (is_lt o) && not (is_lt (K y x))) e ∙ ap (λ o. not (is_lt o)) (key_turned_back (key_of x) (key_of y) e) ∙ ap is_eq (sym e)

-- ---- positions of the program

abbrev unplain : Position → declared.Position
unplain (a_node l r) = Node l r
unplain (an_attribute l n v) = Attribute l n v

plain_again : (n : Position) → plain (unplain n) ≡ n
plain_again (a_node l r) = refl
plain_again (an_attribute l n v) = refl

filter_plain : (p : Position → Bool) (q : declared.Position → Bool) → ((a : declared.Position) → q a ≡ p (plain a)) → (ps : List declared.Position) → filter p (all_plain ps) ≡ all_plain (filter q ps)
filter_plain p q h [] = refl
filter_plain p q h (a ∷ ps) =
    ap (λ (ns : List Position). cond (p (plain a)) (plain a ∷ ns) ns) (filter_plain p q h ps) ∙ ap (λ b. cond b (plain a ∷ all_plain (filter q ps)) (all_plain (filter q ps))) (sym (h a)) ∙ by (q a)
  where
    by : (b : Bool) → cond b (plain a ∷ all_plain (filter q ps)) (all_plain (filter q ps)) ≡ all_plain (cond b (a ∷ filter q ps) (filter q ps))
    by true = refl
    by false = refl

-- by their keys
abbrev pub below : declared.Position → declared.Position → Bool
below a b = is_lt (key_cmp (key_of (plain a)) (key_of (plain b)))

pub stable_ordered : (ps qs : List declared.Position) → ((x : declared.Position) → filter (ties below x) qs ≡ filter (ties below x) ps) → in_order (all_plain qs) ≡ in_order (all_plain ps)
stable_ordered ps qs h = same_ordered (all_plain qs) (all_plain ps) by
  where
    at_plain : (x : Position) (rs : List declared.Position) → at_key x (all_plain rs) ≡ all_plain (filter (ties below (unplain x)) rs)
    at_plain x rs = filter_plain (is_same x) (ties below (unplain x)) (λ a. ties_same (plain (unplain x)) (plain a) ∙ ap (λ n. is_same n (plain a)) (plain_again x)) rs

    by : (x : Position) → at_key x (all_plain qs) ≡ at_key x (all_plain ps)
    by x = at_plain x qs ∙ ap all_plain (h (unplain x)) ∙ sym (at_plain x ps)

get_plain : (ps : List declared.Position) (i : ℕ) (a : declared.Position) → i < length ps → plain (get_or ps i a) ≡ get_or (all_plain ps) i (plain a)
get_plain [] i a h = absurd (omega (arith, h))
get_plain (p ∷ ps) zero a h = refl
get_plain (p ∷ ps) (suc i) a h = get_plain ps i a (omega (arith, h))

plain_length : (ps : List declared.Position) → length (all_plain ps) ≡ length ps
plain_length [] = refl
plain_length (p ∷ ps) = ap suc (plain_length ps)

-- sorted by the program, they are sorted as they are meant
pub plain_sorted : (ps : List declared.Position) → ((i j : ℕ) (d : declared.Position) → i ≤ j → j < length ps → below (get_or ps j d) (get_or ps i d) ≡ false) → IsSortedRow (all_plain ps)
plain_sorted ps h = row_sorted (all_plain ps) (λ i j d s l.
    let n = plain_length ps in
    let here : j < length ps = omega (arith, l, n) in
    ap (λ z. is_lt (K (get_or (all_plain ps) j z) (get_or (all_plain ps) i z))) (sym (plain_again d))
    ∙ ap (λ z. is_lt (K z (get_or (all_plain ps) i (plain (unplain d))))) (sym (get_plain ps j (unplain d) here))
    ∙ ap (λ z. is_lt (K (plain (get_or ps j (unplain d))) z)) (sym (get_plain ps i (unplain d) (omega (arith, here, s))))
    ∙ h i j (unplain d) s here)

-- ---- from the last one on

pub put_reversed : (rs : List Position) (n : Position) → put_before n rs ≡ (if is_first_same rs n then rs else n ∷ rs)
put_reversed [] n = refl
put_reversed (m ∷ ms) n = refl

pub rises_on : (n m : Position) (ms : List Position) → Precedes n m → Rises (m ∷ ms) → Rises (n ∷ (m ∷ ms))
rises_on n m ms e h = ((e, above_on n m ms e h.0), h)

pub map_reversed : {A B : Type 0} (f : A → B) (xs : List A) → map f (reverse xs) ≡ reverse (map f xs)
map_reversed f [] = refl
map_reversed f (x ∷ xs) =
    ap (map f) (reverse_onto xs x []) ∙ map-append f (reverse xs) (x ∷ []) ∙ ap (λ ys. ys ++ (f x ∷ [])) (map_reversed f xs) ∙ sym (reverse_onto (map f xs) (f x) [])

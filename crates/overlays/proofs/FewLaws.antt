-- Laws of runs that fall by four: what keeps them so, and that they are few.
use Rattle.std.proofs.Common.{◌≡◌, ◌/◌, ℕ, suc, true, false, nat_lt, take, get_or, ◌+◌, ◌-◌, ◌*◌, ◌^◌, ◌≤◌, length, arith, List, [], ◌∷◌, ◌++◌, Less, Equal, Greater, refl, sym, ap, subst, ◌∙◌, append-nil}
use Rattle.std.proofs.Math.Nat.{pow-succ'}
use Rattle.std.proofs.lemmas.Bool.Decides.{nat_tests}
use Rattle.std.proofs.lemmas.List.{take_more, take_all}
use Rattle.std.specs.List.{AllByRecursion}
use Rattle.std.specs.Option.{option_or}
use Rattle.tree_model.specs.declared.change.Change.{Change}
use Rattle.tree_model.specs.Keys.{key_cmp}
use Rattle.tree_model.specs.Orders.{by_order}
use Rattle.tree_model.specs.declared.key.Key.{Key}
use Rattle.tree_model.specs.Changes.{Rising, with_change, laid, now_at}
use Rattle.tree_model.proofs.ChangeLists.{laid_none}
use Rattle.tree_model.proofs.Lists.{all_append, all_before, all_behind}
use Rattle.node_seq.specs.ChangeLists.{IsChangeList}
use Rattle.overlays.specs.inside.Runs.{all_laid, joint}
use Rattle.overlays.proofs.Laying.{at_newest}
use Rattle.overlays.specs.Layered.{IsFewFor}
use Rattle.overlays.specs.inside.FewRuns.{IsFilled, FallByFour, but_newest, AreFew}

-- ---- lengths of what is laid over what

with_longer : (c : Change) (low : List Change) → length low ≤ length (with_change c low)
with_longer c [] = omega arith
with_longer c (d ∷ low) = elim (key_cmp c.key d.key) as (λ o. length (d ∷ low) ≤ length (by_order o (c ∷ d ∷ low) (c ∷ low) (d ∷ with_change c low))) [
  | Less ↦ omega arith
  | Equal ↦ omega arith
  | Greater ↦ let rest = with_longer c low in omega (arith, rest)
]

pub laid_longer : (up low : List Change) → length low ≤ length (laid up low)
laid_longer [] low = omega arith
laid_longer (c ∷ up) low = let one = with_longer c low in let rest = laid_longer up (with_change c low) in omega (arith, one, rest)

all_longer : (low : List Change) (runs : List (List Change)) → length low ≤ length (all_laid low runs)
all_longer low [] = omega arith
all_longer low (r ∷ runs) = let one = laid_longer r low in let rest = all_longer (laid r low) runs in omega (arith, one, rest)

-- ---- runs at the end

pub newest_last : (rs : List (List Change)) (r : List Change) → but_newest (rs ++ (r ∷ [])) ≡ rs
newest_last [] r = refl
newest_last (a ∷ []) r = refl
newest_last (a ∷ (b ∷ rs)) r = ap (λ v. a ∷ v) (newest_last (b ∷ rs) r)

pub falls_front : (rs : List (List Change)) → FallByFour rs → FallByFour (but_newest rs)
falls_front [] h = tt
falls_front (a ∷ []) h = tt
falls_front (a ∷ (b ∷ [])) h = tt
falls_front (a ∷ (b ∷ (c ∷ rs))) h = (h.0, falls_front (b ∷ (c ∷ rs)) h.1)

pub falls_more : (rest : List (List Change)) (low up : List Change) → FallByFour (rest ++ (low ∷ [])) → 4 * length up ≤ length low → FallByFour ((rest ++ (low ∷ [])) ++ (up ∷ []))
falls_more [] low up h e = (e, tt)
falls_more (a ∷ []) low up h e = (h.0, (e, tt))
falls_more (a ∷ (b ∷ rest)) low up h e = (h.0, falls_more (b ∷ rest) low up h.1 e)

pub falls_last : (rest : List (List Change)) (low up : List Change) → FallByFour ((rest ++ (low ∷ [])) ++ (up ∷ [])) → 4 * length up ≤ length low
falls_last [] low up h = h.0
falls_last (a ∷ []) low up h = h.1.0
falls_last (a ∷ (b ∷ rest)) low up h = falls_last (b ∷ rest) low up h.1

-- the two at the end, by their places
pub last_two : (rs : List (List Change)) (n : ℕ) (low up : List Change) → n + 2 ≡ length rs → low ≡ get_or rs n low → up ≡ get_or rs (n + 1) up → rs ≡ (take n rs ++ (low ∷ [])) ++ (up ∷ [])
last_two rs n low up two at_low at_up =
    sym (take_all (n + 1 + 1) rs (omega (arith, two)))
    ∙ take_more rs (n + 1) up (omega (arith, two))
    ∙ ap (λ y. take (n + 1) rs ++ (y ∷ [])) (sym at_up)
    ∙ ap (λ v. v ++ (up ∷ [])) (take_more rs n low (omega (arith, two)) ∙ ap (λ y. take n rs ++ (y ∷ [])) (sym at_low))

-- the one at the end decides
pub at_last : (k : Key) (rs : List (List Change)) (n : ℕ) (x : List Change) → n + 1 ≡ length rs → x ≡ get_or rs n x → Rising x
    → now_at k (joint rs) ≡ option_or (now_at k x) (now_at k (joint (take n rs)))
at_last k rs n x one at s =
    ap (λ v. now_at k (joint v)) (sym (take_all (n + 1) rs (omega (arith, one))) ∙ take_more rs n x (omega (arith, one)) ∙ ap (λ y. take n rs ++ (y ∷ [])) (sym at))
    ∙ at_newest k (take n rs) x s

quarter : (a b : ℕ) → nat_lt (a / 4) b ≡ false → 4 * b ≤ a
quarter a b e = grind (arith, nat_tests, e)

no_quarter : {A : Type 0} (a b : ℕ) → nat_lt (a / 4) b ≡ true → 4 * b ≤ a → A
no_quarter a b e h = grind (arith, nat_tests, e, h)

-- where the last is at most a quarter of the one before it, all fall; and only there
pub all_fall : (rs : List (List Change)) (n : ℕ) (low up : List Change) → n + 2 ≡ length rs → low ≡ get_or rs n low → up ≡ get_or rs (n + 1) up
    → nat_lt (length low / 4) (length up) ≡ false → FallByFour (but_newest rs) → FallByFour rs
all_fall rs n low up two at_low at_up even falls =
    let whole = last_two rs n low up two at_low at_up in
    let before : FallByFour (take n rs ++ (low ∷ [])) = subst FallByFour (ap but_newest whole ∙ newest_last (take n rs ++ (low ∷ [])) up) falls in
    subst FallByFour (sym whole) (falls_more (take n rs) low up before (quarter (length low) (length up) even))

pub not_all_fall : {A : Type 0} (rs : List (List Change)) (n : ℕ) (low up : List Change) → n + 2 ≡ length rs → low ≡ get_or rs n low → up ≡ get_or rs (n + 1) up
    → nat_lt (length low / 4) (length up) ≡ true → FallByFour rs → A
not_all_fall rs n low up two at_low at_up uneven falls =
    no_quarter (length low) (length up) uneven (falls_last (take n rs) low up (subst FallByFour (last_two rs n low up two at_low at_up) falls))

-- ---- what keeps runs few

pub few_none : AreFew []
few_none = record { filled = tt; fall = tt }

-- a newest run
pub few_more : (rs : List (List Change)) (r : List Change) → AllByRecursion IsFilled rs → FallByFour rs → 1 ≤ length r → AreFew (rs ++ (r ∷ []))
few_more rs r filled falls one = record {
  filled = all_append IsFilled rs (r ∷ []) filled (one, tt);
  fall = subst FallByFour (sym (newest_last rs r)) falls;
}

-- the two newest made one
pub few_merged : (rest : List (List Change)) (low up : List Change) → AreFew ((rest ++ (low ∷ [])) ++ (up ∷ [])) → AreFew (rest ++ (laid up low ∷ []))
few_merged rest low up few =
    let filled = all_before IsFilled (rest ++ (low ∷ [])) (up ∷ []) few.filled in
    let falls = subst FallByFour (newest_last (rest ++ (low ∷ [])) up) few.fall in
    let one : 1 ≤ length low = (all_behind IsFilled rest (low ∷ []) filled).0 in
    let longer = laid_longer up low in
    few_more rest (laid up low) (all_before IsFilled rest (low ∷ []) filled) (subst FallByFour (newest_last rest low) (falls_front (rest ++ (low ∷ [])) falls)) (omega (arith, one, longer))

pub filled_unless : (cs : List Change) → (cs ≡ [] → false ≡ true) → 1 ≤ length cs
filled_unless [] h = let e = h refl in grind (arith, e)
filled_unless (c ∷ cs) h = omega arith

pub falls_one : (rs : List (List Change)) → length rs ≤ 1 → FallByFour rs
falls_one [] h = tt
falls_one (r ∷ []) h = tt
falls_one (r ∷ (s ∷ rs)) h = absurd (omega (arith, h))

-- one more run, or none, behind runs of which each falls
pub few_joined : (ps qs : List (List Change)) → AreFew ps → FallByFour ps → AreFew qs → length qs ≤ 1 → AreFew (ps ++ qs)
few_joined ps [] few falls one short = subst AreFew (sym (append-nil ps)) few
few_joined ps (q ∷ []) few falls one short = few_more ps q few.filled falls one.filled.0
few_joined ps (q ∷ (r ∷ qs)) few falls one short = absurd (omega (arith, short))

-- ---- that they are few

power : (r : List Change) (rs : List (List Change)) → AllByRecursion IsFilled (r ∷ rs) → FallByFour (r ∷ rs) → 4 ^ length rs ≤ length r
power r [] filled falls = filled.0
power r (s ∷ rs) filled falls =
    let rest = power s rs filled.1 falls.1 in
    let four = falls.0 in
    let step = pow-succ' 4 (length rs) in
    omega (arith, rest, four, step)

length_front : (r : List Change) (rs : List (List Change)) → length (but_newest (r ∷ rs)) ≡ length rs
length_front r [] = refl
length_front r (s ∷ rs) = ap suc (length_front s rs)

filled_front : (rs : List (List Change)) → AllByRecursion IsFilled rs → AllByRecursion IsFilled (but_newest rs)
filled_front [] h = tt
filled_front (a ∷ []) h = tt
filled_front (a ∷ (b ∷ rs)) h = (h.0, filled_front (b ∷ rs) h.1)

pub few_runs : (rs : List (List Change)) → AreFew rs → AllByRecursion IsChangeList rs → IsFewFor (length rs) (joint rs)
few_runs [] few lists = omega arith
few_runs (r ∷ []) few lists = omega arith
few_runs (r ∷ (s ∷ rs)) few lists =
    let high : 4 ^ length rs ≤ length r = subst (λ n. 4 ^ n ≤ length r) (length_front s rs) (power r (but_newest (s ∷ rs)) (filled_front (r ∷ (s ∷ rs)) few.filled) few.fall) in
    let longer : length (laid r []) ≤ length (joint (r ∷ (s ∷ rs))) = all_longer (laid r []) (s ∷ rs) in
    let same : length (laid r []) ≡ length r = ap length (laid_none r lists.0.rise) in
    let two : length (r ∷ (s ∷ rs)) - 2 ≡ length rs = omega arith in
    let power_of : 4 ^ (length (r ∷ (s ∷ rs)) - 2) ≡ 4 ^ length rs = ap (λ n. 4 ^ n) two in
    omega (arith, high, longer, same, power_of)

-- How many runs two lists of few runs are together.
use Rattle.std.proofs.Common.{◌≡◌, ◌/◌, ℕ, zero, suc, ◌+◌, ◌-◌, ◌≤◌, ◌⊎◌, inl, inr, length, arith, List, [], ◌∷◌, ◌++◌, Ordering, Less, Equal, Greater, refl, sym, ap, ◌∙◌}
use Rattle.std.proofs.Math.Nat.{pow-le-pow_right}
use Rattle.std.specs.List.{AllByRecursion}
use Rattle.tree_model.specs.declared.change.Change.{Change}
use Rattle.tree_model.specs.declared.key.Key.{Key}
use Rattle.tree_model.specs.Keys.{key_cmp}
use Rattle.tree_model.specs.Orders.{by_order}
use Rattle.tree_model.specs.Changes.{Rising, with_change, laid}
use Rattle.tree_model.proofs.Keys.{key_total, key_itself, key_tied}
use Rattle.node_seq.specs.ChangeLists.{IsChangeList}
use Rattle.overlays.specs.Layered.{IsFewFor}
use Rattle.overlays.specs.inside.FewRuns.{AreFew}
use Rattle.overlays.specs.inside.Runs.{joint}
use Rattle.overlays.proofs.FewLaws.{few_runs, laid_longer}
use Rattle.overlays.proofs.Laying.{joint_append, list_joint}

-- ---- what is laid over changes is no longer than both

-- one where the first of two is the lesser
abbrev lesser : Ordering → ℕ
lesser Less = 1
lesser Equal = 0
lesser Greater = 0

-- how many of the changes are of earlier keys
abbrev earlier_in : Key → List Change → ℕ
earlier_in k [] = 0
earlier_in k (c ∷ cs) = lesser (key_cmp c.key k) + earlier_in k cs

is_earlier : (a b : Key) → key_cmp a b ≡ Less → lesser (key_cmp a b) ≡ 1
is_earlier a b h = ap lesser h

earlier_one : (c k l : Key) → key_cmp k l ≡ Less → lesser (key_cmp c k) ≤ lesser (key_cmp c l)
earlier_one c k l h =
    elim (key_cmp c k) as (λ o. key_cmp c k ≡ o → lesser o ≤ lesser (key_cmp c l)) [
      | Less ↦ λ q. let one = is_earlier c l (key_total.trans c k l q h) in omega (arith, one)
      | Equal ↦ λ _. omega arith
      | Greater ↦ λ _. omega arith
    ] refl

at_most_one : (a b : Key) → lesser (key_cmp a b) ≤ 1
at_most_one a b = elim (key_cmp a b) as (λ o. lesser o ≤ 1) [
  | Less ↦ omega arith
  | Equal ↦ omega arith
  | Greater ↦ omega arith
]

not_earlier : (a b : Key) → key_cmp a b ≡ Equal → lesser (key_cmp b a) ≡ 0
not_earlier a b h = ap (λ v. lesser (key_cmp v a)) (sym (key_tied a b h)) ∙ ap lesser (key_itself a)

earlier_more : (k l : Key) → key_cmp k l ≡ Less → (cs : List Change) → earlier_in k cs ≤ earlier_in l cs
earlier_more k l h [] = omega arith
earlier_more k l h (c ∷ cs) = let one = earlier_one c.key k l h in let rest = earlier_more k l h cs in omega (arith, one, rest)

earlier_short : (k : Key) (cs : List Change) → earlier_in k cs ≤ length cs
earlier_short k [] = omega arith
earlier_short k (c ∷ cs) = let one = at_most_one c.key k in let rest = earlier_short k cs in omega (arith, one, rest)

with_earlier : (c : Change) (l : Key) (low : List Change) → key_cmp c.key l ≡ Less → earlier_in c.key low + 1 ≤ earlier_in l (with_change c low)
with_earlier c l [] h = let one = is_earlier c.key l h in omega (arith, one)
with_earlier c l (d ∷ ds) h =
    let one = is_earlier c.key l h in
    let more = earlier_more c.key l h ds in
    let here = earlier_one d.key c.key l h in
    let rest = with_earlier c l ds h in
    elim (key_cmp c.key d.key) as (λ o. key_cmp c.key d.key ≡ o → earlier_in c.key (d ∷ ds) + 1 ≤ earlier_in l (by_order o (c ∷ d ∷ ds) (c ∷ ds) (d ∷ with_change c ds))) [
      | Less ↦ λ _. omega (arith, one, more, here)
      | Equal ↦ λ q. let none = not_earlier c.key d.key q in omega (arith, one, more, none)
      | Greater ↦ λ _. omega (arith, rest, here)
    ] refl

with_longer : (c : Change) (low : List Change) → earlier_in c.key low + 1 ≤ length (with_change c low)
with_longer c [] = omega arith
with_longer c (d ∷ ds) =
    let short = earlier_short c.key ds in
    let here = at_most_one d.key c.key in
    let rest = with_longer c ds in
    elim (key_cmp c.key d.key) as (λ o. key_cmp c.key d.key ≡ o → earlier_in c.key (d ∷ ds) + 1 ≤ length (by_order o (c ∷ d ∷ ds) (c ∷ ds) (d ∷ with_change c ds))) [
      | Less ↦ λ _. omega (arith, short, here)
      | Equal ↦ λ q. let none = not_earlier c.key d.key q in omega (arith, short, none)
      | Greater ↦ λ _. omega (arith, rest, here)
    ] refl

over_longer : (c : Change) (up low : List Change) → Rising (c ∷ up) → length (c ∷ up) + earlier_in c.key low ≤ length (laid (c ∷ up) low)
over_longer c [] low s = let one = with_longer c low in omega (arith, one)
over_longer c (d ∷ up) low s =
    let one = with_earlier c d.key low s.0.0 in
    let rest = over_longer d up (with_change c low) s.1 in
    omega (arith, one, rest)

upper_longer : (up low : List Change) → Rising up → length up ≤ length (laid up low)
upper_longer [] low s = omega arith
upper_longer (c ∷ up) low s = let all = over_longer c up low s in omega (arith, all)

-- ---- two lists of few runs

-- fewer runs for more changes
fewer : (n m : ℕ) (cs ds : List Change) → n ≤ m → length cs ≤ length ds → IsFewFor m cs → IsFewFor n ds
fewer n m cs ds l longer few = let power = pow-le-pow_right {n = 4} (omega arith) {i = n - 2} {j = m - 2} (omega (arith, l)) in omega (arith, power, longer, few)

-- half of two numbers is at most one of them
half : (a b : ℕ) → ((a + b) / 2 ≤ a) ⊎ ((a + b) / 2 ≤ b)
half zero b = inr (omega arith)
half (suc a) zero = inl (omega arith)
half (suc a) (suc b) = up (half a b)
  where
    up : ((a + b) / 2 ≤ a) ⊎ ((a + b) / 2 ≤ b) → ((suc a + suc b) / 2 ≤ suc a) ⊎ ((suc a + suc b) / 2 ≤ suc b)
    up (inl l) = inl (omega (arith, l))
    up (inr l) = inr (omega (arith, l))

-- half of their runs are few for what both change
pub few_both : (ps qs : List (List Change)) → AreFew ps → AreFew qs → AllByRecursion IsChangeList ps → AllByRecursion IsChangeList qs → IsFewFor ((length ps + length qs) / 2) (joint (ps ++ qs))
few_both ps qs fp fq lp lq = by (half (length ps) (length qs))
  where
    whole : length (joint (ps ++ qs)) ≡ length (laid (joint qs) (joint ps))
    whole = ap length (joint_append ps qs lq)

    by : ((length ps + length qs) / 2 ≤ length ps) ⊎ ((length ps + length qs) / 2 ≤ length qs) → IsFewFor ((length ps + length qs) / 2) (joint (ps ++ qs))
    by (inl l) = let longer = laid_longer (joint qs) (joint ps) in fewer ((length ps + length qs) / 2) (length ps) (joint ps) (joint (ps ++ qs)) l (omega (arith, whole, longer)) (few_runs ps fp lp)
    by (inr l) = let longer = upper_longer (joint qs) (joint ps) (list_joint qs lq).rise in fewer ((length ps + length qs) / 2) (length qs) (joint qs) (joint (ps ++ qs)) l (omega (arith, whole, longer)) (few_runs qs fq lq)

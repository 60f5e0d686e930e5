-- Runs of changes: one that grows, and the map after some.
use Rattle.std.proofs.Common.{◌≡◌, ◌-◌, suc, List, [], ◌∷◌, ◌++◌, length, slice_get, Some, Less, refl, subst, ap, sym, ◌∙◌, arith}
use Rattle.std.specs.List.{AllByRecursion}
use Rattle.tree_model.specs.Changes.{IsBehind, IsEarlier, Rising}
use Rattle.tree_model.specs.Entries.{Entries, Sorted, changed}
use Rattle.tree_model.specs.Keys.{key_cmp}
use Rattle.tree_model.specs.declared.change.Change.{Change}
use Rattle.tree_model.specs.declared.key.Key.{Key}
use Rattle.tree_model.proofs.ChangeLists.{all_behind_lower}
use Rattle.tree_model.proofs.Entries.{sorted_changed}
use Rattle.tree_model.proofs.Keys.{key_total}
use Rattle.tree_model.proofs.Lists.{all_append}
use Rattle.tree_model.proofs.SameEntries.{value_is}
use Rattle.recovery.specs.inside.Nets.{after_runs}

-- ---- one run behind another

-- the last change of a run
abbrev pub IsLast : List Change → Change → Type 0
IsLast xs x = Some x ≡ slice_get xs (length xs - 1)

-- all of a run lies below what its last change lies below
all_below : (xs : List Change) (x : Change) (k : Key) → Rising xs → IsLast xs x → key_cmp x.key k ≡ Less → AllByRecursion (IsEarlier k) xs
all_below [] x k r h l = tt
all_below (y ∷ []) x k r h l = (subst (λ (c : Change). key_cmp c.key k ≡ Less) (value_is x y h) l, tt)
all_below (y ∷ z ∷ zs) x k r h l =
    let one_less : length (y ∷ z ∷ zs) - 1 ≡ suc (length (z ∷ zs) - 1) = omega arith in
    let behind = all_below (z ∷ zs) x k r.1 (h ∙ ap (slice_get (y ∷ z ∷ zs)) one_less) l in
    (key_total.trans y.key z.key k r.0.0 behind.0, behind)

rises_before : (xs : List Change) (y : Change) (ys : List Change) → Rising xs → AllByRecursion (IsEarlier y.key) xs → Rising (y ∷ ys) → Rising (xs ++ y ∷ ys)
rises_before [] y ys r e s = s
rises_before (x ∷ xs) y ys r e s = (all_append (IsBehind x.key) xs (y ∷ ys) r.0 (e.0, all_behind_lower x.key y.key e.0 ys s.0), rises_before xs y ys r.1 e.1 s)

-- the last key of the first list lies below the first of the second
pub joined_rise : (xs ys : List Change) (x y : Change) → Rising xs → Rising ys → IsLast xs x → Some y ≡ slice_get ys 0 → key_cmp x.key y.key ≡ Less → Rising (xs ++ ys)
joined_rise xs [] x y r s last first less = cc
joined_rise xs (z ∷ zs) x y r s last first less =
    let lower : key_cmp x.key z.key ≡ Less = subst (λ (c : Change). key_cmp x.key c.key ≡ Less) (value_is y z first) less in
    rises_before xs z zs r (all_below xs x z.key r last lower) s

-- ---- the map after runs

pub runs_more : (runs : List (List Change)) (run : List Change) (es : Entries) → after_runs (runs ++ run ∷ []) es ≡ changed run (after_runs runs es)
runs_more [] run es = refl
runs_more (r ∷ runs) run es = runs_more runs run (changed r es)

pub runs_sorted : (runs : List (List Change)) (es : Entries) → Sorted es → Sorted (after_runs runs es)
runs_sorted [] es s = s
runs_sorted (r ∷ runs) es s = runs_sorted runs (changed r es) (sorted_changed r es s)

-- a run that lay under another is part of it now
pub laid_over : (whole rest : List (List Change)) (upper lower laid : List Change) (es : Entries) → Sorted es → whole ≡ rest ++ lower ∷ []
    → ((fs : Entries) → Sorted fs → changed laid fs ≡ changed upper (changed lower fs)) → changed laid (after_runs rest es) ≡ changed upper (after_runs whole es)
laid_over whole rest upper lower laid es s is both =
    both (after_runs rest es) (runs_sorted rest es s) ∙ ap (changed upper) (sym (runs_more rest lower es)) ∙ ap (λ v. changed upper (after_runs v es)) (sym is)

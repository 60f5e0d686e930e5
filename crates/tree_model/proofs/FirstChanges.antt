-- What is taken off the fronts of two lists of changes, of which one is laid over the other.
use Rattle.std.proofs.Common.{◌≡◌, ◌≤◌, ◌<◌, List, [], ◌∷◌, ◌++◌, length, drop, slice_index_or, Option, Some, MatchOption, option_to_list, Less, Equal, Greater, refl, sym, ap, subst, ◌∙◌, arith}
use Rattle.std.specs.List.{AllByRecursion}
use Rattle.tree_model.specs.declared.change.Change.{Change}
use Rattle.tree_model.specs.Keys.{key_cmp}
use Rattle.tree_model.specs.Orders.{by_order}
use Rattle.tree_model.specs.Changes.{IsBehind, Rising, with_change, laid}
use Rattle.tree_model.proofs.Keys.{key_turned, key_turned_back}
use Rattle.tree_model.proofs.ChangeLists.{all_behind_lower}

with_behind : (c u : Change) (low : List Change) → IsBehind u.key c → with_change c (u ∷ low) ≡ u ∷ with_change c low
with_behind c u low h = ap (λ o. by_order o (c ∷ u ∷ low) (c ∷ low) (u ∷ with_change c low)) (key_turned u.key c.key h)

-- a lower change that all upper ones are behind comes first
laid_behind : (us : List Change) (u : Change) (low : List Change) → AllByRecursion (IsBehind u.key) us → laid us (u ∷ low) ≡ u ∷ laid us low
laid_behind [] u low h = refl
laid_behind (c ∷ us) u low h = ap (laid us) (with_behind c u low h.0) ∙ laid_behind us u (with_change c low) h.1

-- what remains after the first change of both is taken
abbrev pub Remains : List Change → List Change → Option Change → Type 0
Remains whole rest r = MatchOption r (whole ≡ []) (λ c. whole ≡ c ∷ rest)

remains : (whole rest : List Change) (r : Option Change) (x : Change) → r ≡ Some x → whole ≡ x ∷ rest → Remains whole rest r
remains whole rest r x p h = subst (λ (o : Option Change). Remains whole rest o) (sym p) h

-- a list before and after a pop, and what was popped
pub record IsPopped (xs ys : List Change) (r : Option Change) (x : Change) : Type 0 where
  pub popped : r ≡ Some x
  pub parts : xs ≡ x ∷ ys

pub popped_first : (xs ys : List Change) (r : Option Change) (x : Change) → xs ≡ option_to_list r ++ ys → r ≡ Some (slice_index_or xs 0 x) → x ≡ slice_index_or xs 0 x → IsPopped xs ys r x
popped_first xs ys r x h p q =
    let is : r ≡ Some x = p ∙ ap Some (sym q) in
    record { popped = is; parts = h ∙ ap (λ o. option_to_list o ++ ys) is }

-- what stands first in a list, and behind it
pub first_parts : (xs : List Change) (x : Change) → 0 < length xs → x ≡ slice_index_or xs 0 x → xs ≡ x ∷ drop 1 xs
first_parts [] x l h = absurd (omega (arith, l))
first_parts (y ∷ ys) x l h = λ i. sym h i ∷ ys

pub none_first : (xs : List Change) → length xs ≤ 0 → xs ≡ []
none_first [] l = refl
none_first (x ∷ xs) l = absurd (omega (arith, l))

module _ (up low up' low' : List Change) (u l : Change) (s : Rising up) (r : Option Change) where
  -- the upper list's first change comes before the lower's
  pub over_taken : IsPopped up up' r u → low ≡ l ∷ low' → key_cmp u.key l.key ≡ Less → Remains (laid up low) (laid up' low) r
  over_taken p g q = remains (laid up low) (laid up' low) r u p.popped
      ((λ i. laid (p.parts i) (g i))
      ∙ ap (λ o. laid up' (by_order o (u ∷ l ∷ low') (u ∷ low') (l ∷ with_change u low'))) q
      ∙ laid_behind up' u (l ∷ low') (subst Rising p.parts s).0
      ∙ ap (λ v. u ∷ laid up' v) (sym g))

  -- the lower list's comes before the upper's
  pub under_taken : up ≡ u ∷ up' → IsPopped low low' r l → key_cmp u.key l.key ≡ Greater → Remains (laid up low) (laid up low') r
  under_taken g p q =
      let less : key_cmp l.key u.key ≡ Less = key_turned_back u.key l.key q in
      remains (laid up low) (laid up low') r l p.popped
      ((λ i. laid (g i) (p.parts i))
      ∙ laid_behind (u ∷ up') l low' (less, all_behind_lower l.key u.key less up' (subst Rising g s).0)
      ∙ ap (λ v. l ∷ laid v low') (sym g))

  -- both are of one key
  pub both_taken : {o : Option Change} → IsPopped up up' r u → IsPopped low low' o l → key_cmp u.key l.key ≡ Equal → Remains (laid up low) (laid up' low') r
  both_taken p g q = remains (laid up low) (laid up' low') r u p.popped
      ((λ i. laid (p.parts i) (g.parts i))
      ∙ ap (λ o. laid up' (by_order o (u ∷ l ∷ low') (u ∷ low') (l ∷ with_change u low'))) q
      ∙ laid_behind up' u low' (subst Rising p.parts s).0)

  -- there is no lower change
  pub taken_over_none : IsPopped up up' r u → low ≡ [] → Remains (laid up low) (laid up' low) r
  taken_over_none p e = remains (laid up low) (laid up' low) r u p.popped
      ((λ i. laid (p.parts i) (e i))
      ∙ laid_behind up' u [] (subst Rising p.parts s).0
      ∙ ap (λ v. u ∷ laid up' v) (sym e))

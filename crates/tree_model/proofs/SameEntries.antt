-- Sorted maps are one where each key has the same record in both.
use Rattle.std.proofs.Common.{◌≡◌, false, [], ◌∷◌, Some, None, unwrap_or, Less, is_eq, sym, ap, subst, ◌∙◌, refl}
use Rattle.std.specs.List.{AllByRecursion}
use Rattle.tree_model.specs.declared.key.Key.{Key}
use Rattle.tree_model.specs.Keys.{key_cmp}
use Rattle.tree_model.specs.Entries.{Entries, Above, Sorted, get}
use Rattle.tree_model.proofs.Entries.{all_above_lower, get_none, get_here, get_skip}
use Rattle.tree_model.proofs.Keys.{key_turned_back, key_tied}
use Rattle.tree_model.proofs.Orders.{ordered, tested, eq_is}

pub value_is : {V : Type 0} (a b : V) → Some a ≡ Some b → a ≡ b
value_is a b e = ap (λ o. unwrap_or o a) e

-- sorted entries with the same record at each key are the same
pub same_entries : (es fs : Entries) → Sorted es → Sorted fs → ((k : Key) → get k es ≡ get k fs) → es ≡ fs
same_entries [] [] s t h = refl
same_entries [] (f ∷ fs) s t h = let none : None ≡ Some f.1 = h f.0 ∙ get_here f fs in cc
same_entries (e ∷ es) [] s t h = let none : Some e.1 ≡ None = sym (get_here e es) ∙ h e.0 in cc
same_entries (e ∷ es) (f ∷ fs) s t h = ordered (e ∷ es ≡ f ∷ fs) (key_cmp e.0 f.0)
    (λ less. let none : Some e.1 ≡ None = sym (get_here e es) ∙ h e.0 ∙ get_none e.0 (f ∷ fs) (less, all_above_lower e.0 f.0 less fs t.0) in cc)
    (λ equal.
    let keys : e.0 ≡ f.0 = key_tied e.0 f.0 equal in
    let values : e.1 ≡ f.1 = value_is e.1 f.1 (sym (get_here e es) ∙ h e.0 ∙ ap (λ k. get k (f ∷ fs)) keys ∙ get_here f fs) in
    let rest : es ≡ fs = same_entries es fs s.1 t.1 (λ k. tested (get k es ≡ get k fs) (is_eq (key_cmp k e.0))
    (λ here.
    let same : k ≡ e.0 = key_tied k e.0 (eq_is _ here) in
    get_none k es (subst (λ j. AllByRecursion (Above j) es) (sym same) s.0) ∙ sym (get_none k fs (subst (λ j. AllByRecursion (Above j) fs) (sym (same ∙ keys)) t.0)))
    (λ apart. sym (get_skip k e es apart) ∙ h k ∙ get_skip k f fs (subst (λ j. is_eq (key_cmp k j) ≡ false) keys apart))) in
    λ i. (keys i, values i) ∷ rest i)
    (λ more.
    let less : key_cmp f.0 e.0 ≡ Less = key_turned_back e.0 f.0 more in
    let none : None ≡ Some f.1 = sym (get_none f.0 (e ∷ es) (less, all_above_lower f.0 e.0 less es s.0)) ∙ h f.0 ∙ get_here f fs in cc)

-- A fragment that is placed, child by child: what stands of its entries, limits and levels before each child.
use Rattle.std.proofs.Common.{◌≡◌, ◌≤◌, ℕ, ◌+◌, ◌%◌, cond, true≢false, true, false, ◌&&◌, nat_le, nat_lt, List, [], ◌∷◌, ◌++◌, refl, sym, ap, ◌∙◌, append-nil, arith}
use Rattle.std.proofs.lemmas.Bool.Decides.{nat_tests}
use Rattle.std.proofs.lemmas.List.{map-append}
use Rattle.dewey_labels.specs.Labels.{Label, IsLabel, greatest, is_code, is_odd, most_divisions, is_within}
use Rattle.dewey_labels.proofs.Labels.{child_label}
use Rattle.dewey_labels.proofs.Limits.{within_of_test}
use Rattle.dewey_labels.specs.NewLabels.{first_division}
use Rattle.dewey_labels.proofs.Codes.{code_cases, eq_is, first_of_both, is_child_append, second_of_both}
use Rattle.tree_model.specs.declared.fragment.Fragment.{Fragment}
use Rattle.tree_model.specs.declared.fragment.Fragment.TheVariants as fragment
use Rattle.tree_model.specs.declared.fragment.Fragment.TheOpen.{Fragment-F}
use Rattle.tree_model.specs.declared.record.Record.{Record}
use Rattle.tree_model.specs.declared.record.Record.TheVariants.{Element}
use Rattle.tree_model.specs.Fragments.{Fragments, no_more, in_a_row, put_before, before_row, plain, plain_row}
use Rattle.tree_model.specs.Graft.{all_within, graft, graft_below}
use Rattle.tree_model.specs.Names.{Name}
use Rattle.tree_model.specs.Tree.{Attributes, none, attr_entry, own, entries_of}
use Rattle.tree_model.specs.GraftLimits.{fit_at, fit_below}
use Rattle.tree_model.proofs.Lists.{all_behind}
use Rattle.tree_model.proofs.PlainFragments.{by_put, plain-Element}

-- ---- entries

-- those of the first child's tree, and those of the others
pub child_entries : (p : Label) (c : ℕ) (f : Fragment) (nx : Fragments)
    → entries_of (graft_below p c (before_row f nx)) ≡ entries_of (graft (p ++ (c ∷ [])) (plain f) none) ++ entries_of (graft_below p (c + 2) nx)
child_entries p c f nx = by_put (λ g. entries_of (graft_below p c (g nx)) ≡ entries_of (graft (p ++ (c ∷ [])) (g no_more) none) ++ entries_of (graft_below p (c + 2) nx)) one f
  where
    one : (x : Fragment-F (Fragments → Fragments)) → entries_of (graft_below p c (put_before x nx)) ≡ entries_of (graft (p ++ (c ∷ [])) (put_before x no_more) none) ++ entries_of (graft_below p (c + 2) nx)
    one (Fragment-F.Element n ats ch) =
        let l = p ++ (c ∷ []) in
        ap (λ v. v ++ entries_of (graft_below p (c + 2) nx)) (sym (append-nil (own l (Element n) ats ++ entries_of (graft_below l first_division (in_a_row ch)))))
    one (Fragment-F.Text t) = refl

-- those of a node with one attribute more
pub own_more : (l : Label) (r : Record) (ats : Attributes) (a : Name × List ℕ) → own l r (ats ++ (a ∷ [])) ≡ own l r ats ++ (attr_entry l a ∷ [])
own_more l r ats a = ap (λ v. own l r [] ++ v) (map-append (attr_entry l) ats (a ∷ []))

-- those of an element, and of its children's trees
pub element_entries : (l : Label) (n : Name) (ats : Attributes) (ch : List Fragment)
    → entries_of (graft l (plain (fragment.Element n ats ch)) none) ≡ own l (Element n) ats ++ entries_of (graft_below l first_division (plain_row ch))
element_entries l n ats ch = ap (λ f. entries_of (graft l f none)) (plain-Element n ats ch) ∙ append-nil (own l (Element n) ats ++ entries_of (graft_below l first_division (plain_row ch)))

-- ---- codes of one division

pub code_after : (c : ℕ) → is_code (c ∷ []) ≡ true → is_code ((c + 2) ∷ []) ≡ true
code_after c h = code_cases c [] h (λ o t _. both (odd_step o) (three t)) (λ _ _ e. absurd (true≢false (sym e)))
  where
    odd_step : is_odd c ≡ true → is_odd (c + 2) ≡ true
    odd_step o = let m : c % 2 ≡ 1 = eq_is _ _ o in let e : (c + 2) % 2 ≡ 1 = omega arith in grind (arith, nat_tests)

    three : nat_le 3 c ≡ true → nat_le 3 (c + 2) ≡ true
    three t = grind (arith, nat_tests)

    both : is_odd (c + 2) ≡ true → nat_le 3 (c + 2) ≡ true → is_code ((c + 2) ∷ []) ≡ true
    both o t = (λ i. cond (o i) (t i && true) (nat_le 2 (c + 2) && false))

-- the child with such a code has a label where its divisions keep the limits
pub child_is_label : (p : Label) (c : ℕ) → IsLabel p → is_code (c ∷ []) ≡ true → is_within (p ++ (c ∷ [])) ≡ true → IsLabel (p ++ (c ∷ []))
child_is_label p c h o w = (child_label p (p ++ (c ∷ [])) h.0 (is_child_append p (c ∷ []) o), within_of_test (p ++ (c ∷ [])) w)

-- then the division does
pub division_within : (p : Label) (c : ℕ) → is_within (p ++ (c ∷ [])) ≡ true → c ≤ greatest
division_within p c w = (all_behind (λ d. d ≤ greatest) p (c ∷ []) (within_of_test (p ++ (c ∷ [])) w).1).0

-- ---- limits on divisions

-- the first child's label, its tree, and the others
pub record ChildWithin (p : Label) (c : ℕ) (f : Fragment) (nx : Fragments) : Type 0 where
  pub label : is_within (p ++ (c ∷ [])) ≡ true
  pub tree : all_within (graft (p ++ (c ∷ [])) (plain f) none) ≡ true
  pub others : all_within (graft_below p (c + 2) nx) ≡ true

pub child_within : (p : Label) (c : ℕ) (f : Fragment) (nx : Fragments) → all_within (graft_below p c (before_row f nx)) ≡ true → ChildWithin p c f nx
child_within p c f nx h = let s = split f h in record { label = s.0; tree = s.1; others = s.2 }
  where
    Parts : (Fragments → Fragments) → Type 0
    Parts g = all_within (graft_below p c (g nx)) ≡ true
        → (is_within (p ++ (c ∷ [])) ≡ true) × (all_within (graft (p ++ (c ∷ [])) (g no_more) none) ≡ true) × (all_within (graft_below p (c + 2) nx) ≡ true)

    one : (x : Fragment-F (Fragments → Fragments)) → Parts (put_before x)
    one (Fragment-F.Element n ats ch) h =
        let l = p ++ (c ∷ []) in
        let children = all_within (graft_below l first_division (in_a_row ch)) in
        let label = first_of_both (is_within l) _ h in
        let below = first_of_both children (all_within (graft_below p (c + 2) nx)) (second_of_both (is_within l) _ h) in
        (label, (λ i. label i && (below i && true)), second_of_both children (all_within (graft_below p (c + 2) nx)) (second_of_both (is_within l) _ h))
    one (Fragment-F.Text t) h =
        let label = first_of_both (is_within (p ++ (c ∷ []))) _ h in
        (label, ap (λ b. b && true) label, second_of_both (is_within (p ++ (c ∷ []))) _ h)

    split : (f : Fragment) → Parts (before_row f)
    split = by_put Parts one

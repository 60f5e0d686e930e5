-- The value that a fragment is written as, level by level.
use Rattle.std.proofs.Common.{◌≡◌, ◌≤◌, ℕ, suc, max, false, ◌||◌, List, [], ◌∷◌, ◌++◌, map, Less, Equal, Greater, nat_cmp, rules, arith, refl, ap, ap₂, ◌∙◌}
use Rattle.std.proofs.lemmas.Bool.{or_parts}
use Rattle.std.specs.List.{AllByRecursion}
use Rattle.std.specs.Cmp.Lexicographic.{slice_cmp}
use Rattle.std.specs.Ordering.{match_ordering}
use Rattle.serde_json.specs.Data.{Data, string, array, Members, no_members, member, put, depth as nesting, items_depth, members_depth}
use Rattle.serde_json.specs.View.{items_of}
use Rattle.serde_json.specs.Written.{has_float, items_have_float, members_have_float}
use Rattle.tree_model.specs.declared.fragment.Fragment.{Fragment, the_lemmas}
use Rattle.tree_model.specs.declared.fragment.Fragment.TheVariants.{Element, Text}
use Rattle.tree_model.specs.Fragments.{Fragments, no_more, before_row, in_a_row, plain, depth}
use Rattle.tree_model.specs.Names.{Name}
use Rattle.tree_model.specs.Tree.{Attributes}
use Rattle.tree_model.proofs.PlainFragments.{before_row-Element, before_row-Text}
use Rattle.jsonml_io.specs.Written.{with_members, opening, json_of}
use Rattle.jsonml_io.proofs.Levels.{by_level}

pub json_of-Element : (n : Name) (ats : Attributes) (ch : List Fragment) → json_of (Element n ats ch) ≡ array (items_of (opening n ats ++ map json_of ch))
json_of-Element n ats ch = search (rules, the_lemmas)

pub json_of-Text : (t : List ℕ) → json_of (Text t) ≡ string t
json_of-Text t = search (rules, the_lemmas)

-- ---- no number is written

no_float_put : (k t : List ℕ) (ms : Members) → members_have_float ms ≡ false → members_have_float (put k (string t) ms) ≡ false
no_float_put k t no_members h = refl
no_float_put k t (member l e ms) h = elim (slice_cmp nat_cmp k l) as (λ o. members_have_float (match_ordering o (member k (string t) (member l e ms)) (member l (string t) ms) (member l e (put k (string t) ms))) ≡ false) [
  | Less ↦ h
  | Equal ↦ (or_parts (has_float e) _ h).1
  | Greater ↦ let p = or_parts (has_float e) _ h in ap₂ (λ a b. a || b) p.0 (no_float_put k t ms p.1)
]

no_float_members : (ats : Attributes) (ms : Members) → members_have_float ms ≡ false → members_have_float (with_members ms ats) ≡ false
no_float_members [] ms h = h
no_float_members (a ∷ ats) ms h = no_float_members ats (put a.0 (string a.1) ms) (no_float_put a.0 a.1 ms h)

no_float_row : (ch : List Fragment) → AllByRecursion (λ f. has_float (json_of f) ≡ false) ch → items_have_float (items_of (map json_of ch)) ≡ false
no_float_row [] h = refl
no_float_row (f ∷ ch) h = ap₂ (λ a b. a || b) h.0 (no_float_row ch h.1)

no_float_element : (n : Name) (ats : Attributes) (ds : List Data) → items_have_float (items_of ds) ≡ false → items_have_float (items_of (opening n ats ++ ds)) ≡ false
no_float_element n [] ds h = h
no_float_element n (a ∷ ats) ds h = ap₂ (λ x y. x || y) (no_float_members (a ∷ ats) no_members refl) h

pub no_float : (f : Fragment) → has_float (json_of f) ≡ false
no_float = by_level (λ f. has_float (json_of f) ≡ false)
    (λ n ats ch h. ap has_float (json_of-Element n ats ch) ∙ no_float_element n ats (map json_of ch) (no_float_row ch h))
    (λ t. ap has_float (json_of-Text t))

-- ---- how deep the value nests

flat_put : (k t : List ℕ) (ms : Members) → members_depth ms ≡ 0 → members_depth (put k (string t) ms) ≡ 0
flat_put k t no_members h = refl
flat_put k t (member l e ms) h = elim (slice_cmp nat_cmp k l) as (λ o. members_depth (match_ordering o (member k (string t) (member l e ms)) (member l (string t) ms) (member l e (put k (string t) ms))) ≡ 0) [
  | Less ↦ omega (arith, h)
  | Equal ↦ omega (arith, h)
  | Greater ↦ omega (arith, h, flat_put k t ms (omega (arith, h)))
]

flat_members : (ats : Attributes) (ms : Members) → members_depth ms ≡ 0 → members_depth (with_members ms ats) ≡ 0
flat_members [] ms h = h
flat_members (a ∷ ats) ms h = flat_members ats (put a.0 (string a.1) ms) (flat_put a.0 a.1 ms h)

-- a fragment before others is as deep as the deeper of the two
pub depth_before : (f : Fragment) (nx : Fragments) → depth (before_row f nx) ≡ max (depth (plain f)) (depth nx)
depth_before f nx = by_level (λ g. depth (before_row g nx) ≡ max (depth (plain g)) (depth nx))
    (λ n ats ch _. omega (arith, ap depth (before_row-Element n ats ch nx), ap depth (before_row-Element n ats ch no_more)))
    (λ t. omega (arith, ap depth (before_row-Text t nx), ap depth (before_row-Text t no_more))) f

nests_row : (ch : List Fragment) → AllByRecursion (λ f. nesting (json_of f) ≤ suc (depth (plain f))) ch → items_depth (items_of (map json_of ch)) ≤ suc (depth (in_a_row (map before_row ch)))
nests_row [] h = omega arith
nests_row (f ∷ ch) h = omega (arith, h.0, nests_row ch h.1, depth_before f (in_a_row (map before_row ch)))

nests_element : (n : Name) (ats : Attributes) (ds : List Data) (k : ℕ) → items_depth (items_of ds) ≤ suc k → items_depth (items_of (opening n ats ++ ds)) ≤ suc k
nests_element n [] ds k h = omega (arith, h)
nests_element n (a ∷ ats) ds k h = omega (arith, h, flat_members (a ∷ ats) no_members refl)

pub nests : (f : Fragment) → nesting (json_of f) ≤ suc (depth (plain f))
nests = by_level (λ f. nesting (json_of f) ≤ suc (depth (plain f)))
    (λ n ats ch h. omega (arith, ap nesting (json_of-Element n ats ch), nests_element n ats (map json_of ch) (depth (in_a_row (map before_row ch))) (nests_row ch h), ap depth (before_row-Element n ats ch no_more)))
    (λ t. omega (arith, ap nesting (json_of-Text t)))

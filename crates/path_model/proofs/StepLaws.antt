-- A step without predicates leads to the positions that its axis relates to one of a set.
use Rattle.std.proofs.Common.{◌≡◌, Bool, true, false, cond, if◌then◌else◌, ◌&&◌, ◌||◌, List, [], ◌∷◌, reverse, inl, inr, is_eq, refl, sym, ap, ◌∙◌}
use Rattle.std.specs.List.{AllByRecursion, filter, list_any}
use Rattle.std.proofs.lemmas.Grind.{reverse_onto}
use Rattle.std.proofs.lemmas.List.Folds.{list_any-append}
use Rattle.tree_model.specs.Tree.{Tree}
use Rattle.tree_model.specs.ValidTrees.{IsValidTree}
use Rattle.path_model.specs.declared.path.Axis.{Axis}
use Rattle.path_model.specs.declared.path.NodeTest.{NodeTest}
use Rattle.path_model.specs.Axes.{relates, is_reverse, on_axis}
use Rattle.path_model.specs.Meaning.{is_among, reached}
use Rattle.path_model.specs.Paths.{no_more, no_steps, step}
use Rattle.path_model.specs.Positions.{Position, positions, is_same, passes}
use Rattle.path_model.specs.Sets.{Among, Precedes, Rises}
use Rattle.path_model.proofs.Filters.{filter_there}
use Rattle.path_model.proofs.OrderLaws.{higher_member, not_same_higher, same_itself, positions_rise}

-- ---- among what a test leaves

-- nothing that stands behind a position is the same
none_among : (m : Position) (q : Position → Bool) (ps : List Position) → AllByRecursion (Precedes m) ps → is_among m (filter q ps) ≡ false
none_among m q [] h = refl
none_among m q (p ∷ ps) h = elim (q p) as (λ b. is_among m (cond b (p ∷ filter q ps) (filter q ps)) ≡ false) [
  | true ↦ ap (λ b. is_eq b || is_among m (filter q ps)) h.0 ∙ none_among m q ps h.1
  | false ↦ none_among m q ps h.1
]

-- a position of a rising list is left where it passes the test
left_where_passes : (m : Position) (q : Position → Bool) (ps : List Position) → Rises ps → Among m ps → is_among m (filter q ps) ≡ q m
left_where_passes m q [] r i = absurd i
left_where_passes m q (p ∷ ps) r (inl e) = elim (q p) as (λ b. q p ≡ b → is_among m (cond b (p ∷ filter q ps) (filter q ps)) ≡ q m) [
  | true ↦ λ g. ap (λ b. b || is_among m (filter q ps)) (ap (is_same m) (sym e) ∙ same_itself m) ∙ sym (ap q e ∙ g)
  | false ↦ λ g. ap (λ k. is_among k (filter q ps)) e ∙ none_among p q ps r.0 ∙ sym (ap q e ∙ g)
] refl
left_where_passes m q (p ∷ ps) r (inr i) = elim (q p) as (λ b. is_among m (cond b (p ∷ filter q ps) (filter q ps)) ≡ q m) [
  | true ↦ ap (λ b. b || is_among m (filter q ps)) (not_same_higher p m (higher_member p m ps r.0 i)) ∙ left_where_passes m q ps r.1 i
  | false ↦ left_where_passes m q ps r.1 i
]

turned : (a b : Bool) → (a || (b || false)) ≡ (b || a)
turned true true = refl
turned true false = refl
turned false true = refl
turned false false = refl

among_reversed : (m : Position) (ps : List Position) → is_among m (reverse ps) ≡ is_among m ps
among_reversed m [] = refl
among_reversed m (p ∷ ps) =
    ap (is_among m) (reverse_onto ps p [])
    ∙ list_any-append (λ n. is_same m n) (reverse ps) (p ∷ [])
    ∙ ap (λ b. b || (is_same m p || false)) (among_reversed m ps)
    ∙ turned (is_among m ps) (is_same m p)

-- ---- one step

among_axis : (t : Tree) → IsValidTree t → (a : Axis) (test : NodeTest) (n m : Position) → Among m (positions t) → is_among m (on_axis t a test n) ≡ (relates a n m && passes a test m)
among_axis t valid a test n m i = by (is_reverse a)
  where
    by : (b : Bool) → is_among m (if b then reverse (filter (λ k. relates a n k && passes a test k) (positions t)) else filter (λ k. relates a n k && passes a test k) (positions t)) ≡ (relates a n m && passes a test m)
    by true = among_reversed m (filter (λ k. relates a n k && passes a test k) (positions t)) ∙ left_where_passes m (λ k. relates a n k && passes a test k) (positions t) (positions_rise t valid) i
    by false = left_where_passes m (λ k. relates a n k && passes a test k) (positions t) (positions_rise t valid) i

either : (a b c : Bool) → ((a && c) || (b && c)) ≡ ((a || b) && c)
either true true true = refl
either true true false = refl
either true false true = refl
either true false false = refl
either false true true = refl
either false true false = refl
either false false true = refl
either false false false = refl

any_both : (p q : Position → Bool) (c : Bool) → ((n : Position) → q n ≡ (p n && c)) → (ns : List Position) → list_any q ns ≡ (list_any p ns && c)
any_both p q c h [] = refl
any_both p q c h (n ∷ ns) = (λ i. h n i || any_both p q c h ns i) ∙ either (p n) (list_any p ns) c

pub step_leads : (t : Tree) (a : Axis) (test : NodeTest) (ns : List Position) → IsValidTree t
    → reached t (step a test no_more no_steps) ns ≡ filter (λ m. list_any (λ n. relates a n m) ns && passes a test m) (positions t)
step_leads t a test ns valid =
    filter_there t (λ m. list_any (λ n. is_among m (on_axis t a test n)) ns) (λ m. list_any (λ n. relates a n m) ns && passes a test m) (λ m i.
    any_both (λ n. relates a n m) (λ n. is_among m (on_axis t a test n)) (passes a test m) (λ n. among_axis t valid a test n m i) ns)

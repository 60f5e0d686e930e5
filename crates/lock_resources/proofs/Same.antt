-- Resources that compare as equal are the same.
use Rattle.std.proofs.Common.{◌≡◌, true, false, refl, ap, ◌∙◌, arith}
use Rattle.std.specs.declared.cmp.Ordering.{Ordering}
use Rattle.std.specs.declared.cmp.Ordering.TheVariants.{Equal, Less, Greater}
use Rattle.std.specs.Ordering.{nat_cmp, is_eq, ordering_then}
use Rattle.std.specs.Cmp.Lexicographic.{slice_cmp}
use Rattle.std.proofs.lemmas.Map.Lookups.{exact_bytes}
use Rattle.lock_resources.specs.declared.resource.Resource.{Resource}
use Rattle.lock_resources.specs.declared.resource.Resource.TheVariants.{Node, AttrRoot, Attr, Edge}
use Rattle.lock_resources.specs.declared.resource.Side.TheVariants.{First, Last, Next, Prev}
use Rattle.lock_resources.specs.contracts.resource.ResourceOrd.TheImpl as resource_ord
use Rattle.lock_resources.specs.contracts.resource.ResourceOrd.TheImpl.Laws.{matches_eq-law}
use Rattle.lock_resources.specs.contracts.resource.ResourcePartialEq.TheImpl as resource_equal

equal_from : (o : Ordering) → is_eq o ≡ true → o ≡ Equal
equal_from Less e = grind (arith, e)
equal_from Equal e = refl
equal_from Greater e = grind (arith, e)

then_left : (a b : Ordering) → is_eq (ordering_then a b) ≡ true → is_eq a ≡ true
then_left Less b e = e
then_left Equal b e = refl
then_left Greater b e = e

then_right : (a b : Ordering) → is_eq (ordering_then a b) ≡ true → is_eq b ≡ true
then_right Less b e = grind (arith, e)
then_right Equal b e = e
then_right Greater b e = grind (arith, e)

apart : {A : Type 0} → false ≡ true → A
apart e = grind (arith, e)

pub exact_resources : (r q : Resource) → is_eq ((resource_ord.ghosts).cmp r q) ≡ true → r ≡ q
exact_resources (Node l) (Node m) e = ap Node (exact_bytes l m (equal_from _ e))
exact_resources (Node l) (AttrRoot m) e = grind (arith, e)
exact_resources (Node l) (Attr m n) e = grind (arith, e)
exact_resources (Node l) (Edge m s) e = grind (arith, e)
exact_resources (AttrRoot l) (Node m) e = grind (arith, e)
exact_resources (AttrRoot l) (AttrRoot m) e = ap AttrRoot (exact_bytes l m (equal_from _ e))
exact_resources (AttrRoot l) (Attr m n) e = grind (arith, e)
exact_resources (AttrRoot l) (Edge m s) e = grind (arith, e)
exact_resources (Attr l k) (Node m) e = grind (arith, e)
exact_resources (Attr l k) (AttrRoot m) e = grind (arith, e)
exact_resources (Attr l k) (Attr m n) e = ap (λ x. Attr x k) (exact_bytes l m (equal_from _ (then_left _ _ e))) ∙ ap (Attr m) (exact_bytes k n (equal_from _ (then_right _ _ e)))
exact_resources (Attr l k) (Edge m s) e = grind (arith, e)
exact_resources (Edge l s) (Node m) e = grind (arith, e)
exact_resources (Edge l s) (AttrRoot m) e = grind (arith, e)
exact_resources (Edge l s) (Attr m n) e = grind (arith, e)
exact_resources (Edge l First) (Edge m First) e = ap (λ x. Edge x First) (exact_bytes l m (equal_from _ (then_left _ _ e)))
exact_resources (Edge l First) (Edge m Last) e = apart (then_right (slice_cmp nat_cmp l m) Less e)
exact_resources (Edge l First) (Edge m Next) e = apart (then_right (slice_cmp nat_cmp l m) Less e)
exact_resources (Edge l First) (Edge m Prev) e = apart (then_right (slice_cmp nat_cmp l m) Less e)
exact_resources (Edge l Last) (Edge m First) e = apart (then_right (slice_cmp nat_cmp l m) Greater e)
exact_resources (Edge l Last) (Edge m Last) e = ap (λ x. Edge x Last) (exact_bytes l m (equal_from _ (then_left _ _ e)))
exact_resources (Edge l Last) (Edge m Next) e = apart (then_right (slice_cmp nat_cmp l m) Less e)
exact_resources (Edge l Last) (Edge m Prev) e = apart (then_right (slice_cmp nat_cmp l m) Less e)
exact_resources (Edge l Next) (Edge m First) e = apart (then_right (slice_cmp nat_cmp l m) Greater e)
exact_resources (Edge l Next) (Edge m Last) e = apart (then_right (slice_cmp nat_cmp l m) Greater e)
exact_resources (Edge l Next) (Edge m Next) e = ap (λ x. Edge x Next) (exact_bytes l m (equal_from _ (then_left _ _ e)))
exact_resources (Edge l Next) (Edge m Prev) e = apart (then_right (slice_cmp nat_cmp l m) Less e)
exact_resources (Edge l Prev) (Edge m First) e = apart (then_right (slice_cmp nat_cmp l m) Greater e)
exact_resources (Edge l Prev) (Edge m Last) e = apart (then_right (slice_cmp nat_cmp l m) Greater e)
exact_resources (Edge l Prev) (Edge m Next) e = apart (then_right (slice_cmp nat_cmp l m) Greater e)
exact_resources (Edge l Prev) (Edge m Prev) e = ap (λ x. Edge x Prev) (exact_bytes l m (equal_from _ (then_left _ _ e)))

-- what `==` finds equal compares as equal
pub equal_tied : (r q : Resource) → (resource_equal.ghosts).eq r q ≡ is_eq ((resource_ord.ghosts).cmp r q)
equal_tied r q = matches_eq-law r q

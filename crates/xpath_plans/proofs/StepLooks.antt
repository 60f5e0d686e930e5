-- What programs look at, one behind another; a step looks at the same whatever passes its node test.
use Rattle.std.proofs.Common.{◌≡◌, ◌≢◌, List, [], ◌∷◌, ◌++◌, append-nil, refl, sym, ap, ◌∙◌}
use Rattle.std.specs.List.{filter}
use Rattle.tree_model.specs.Tree.{Tree}
use Rattle.path_model.specs.declared.path.Axis.{Axis}
use Rattle.path_model.specs.declared.path.Axis.TheVariants as axis
use Rattle.path_model.specs.declared.path.NodeTest.{NodeTest}
use Rattle.path_model.specs.AxisPrograms.{along}
use Rattle.path_model.specs.Evaluation.{taken, in_order}
use Rattle.path_model.specs.Paths.{no_more, no_steps, step}
use Rattle.path_model.specs.Positions.{Position, passes}
use Rattle.path_model.specs.Programs.{Look, Program, ends, looks, and_then, gathered, answer, looked, seen}
use Rattle.xpath_plans.specs.LookRequests.{requests, requests_of}

pub looked-and_then : {A B : Type 0} (t : Tree) (p : Program A) (f : A → Program B) → looked t (and_then p f) ≡ looked t p ++ looked t (f (answer t p))
looked-and_then t (ends a) f = refl
looked-and_then t (looks o k) f = ap (λ (os : List Look). o ∷ os) (looked-and_then t (k (seen t o)) f)

looked_alone : {A B : Type 0} (t : Tree) (p : Program A) (f : A → B) → looked t (and_then p (λ x. ends (f x))) ≡ looked t p
looked_alone t p f = looked-and_then t p (λ x. ends (f x)) ∙ append-nil (looked t p)

-- each in turn
looked_each : {A B : Type 0} (t : Tree) (f g : A → Program (List B)) → ((x : A) → looked t (f x) ≡ looked t (g x)) → (xs : List A) → looked t (gathered f xs) ≡ looked t (gathered g xs)
looked_each t f g h [] = refl
looked_each {A = A} {B = B} t f g h (x ∷ xs) =
    by f ∙ (λ i. h x i ++ looked_each t f g h xs i) ∙ sym (by g)
  where
    by : (e : A → Program (List B)) → looked t (gathered e (x ∷ xs)) ≡ looked t (e x) ++ looked t (gathered e xs)
    by e = looked-and_then t (e x) (λ ys. and_then (gathered e xs) (λ zs. ends (ys ++ zs))) ∙ ap (λ os. looked t (e x) ++ os) (looked_alone t (gathered e xs) (λ zs. answer t (e x) ++ zs))

same_along : (a : Axis) (one other : NodeTest) (n : Position) → a ≢ axis.Attribute → along a one n ≡ along a other n
same_along axis.Child one other n h = refl
same_along axis.Descendant one other n h = refl
same_along axis.Parent one other n h = refl
same_along axis.Ancestor one other n h = refl
same_along axis.FollowingSibling one other n h = refl
same_along axis.PrecedingSibling one other n h = refl
same_along axis.Following one other n h = refl
same_along axis.Preceding one other n h = refl
same_along axis.Attribute one other n h = absurd (h refl)
same_along axis.SelfNode one other n h = refl
same_along axis.DescendantOrSelf one other n h = refl
same_along axis.AncestorOrSelf one other n h = refl

pub step_asks : (t : Tree) (a : Axis) (one other : NodeTest) (ns : List Position) → a ≢ axis.Attribute
    → requests t (taken (step a one no_more no_steps) ns) ≡ requests t (taken (step a other no_more no_steps) ns)
step_asks t a one other ns h =
    ap requests_of (looked_alone t (gathered (leads one) ns) in_order ∙ looked_each t (leads one) (leads other) (λ n. by one n ∙ ap (looked t) (same_along a one other n h) ∙ sym (by other n)) ns ∙ sym (looked_alone t (gathered (leads other) ns) in_order))
  where
    leads : NodeTest → Position → Program (List Position)
    leads test n = and_then (along a test n) (λ ms. ends (filter (passes a test) ms))

    by : (test : NodeTest) (n : Position) → looked t (leads test n) ≡ looked t (along a test n)
    by test n = looked_alone t (along a test n) (filter (passes a test))

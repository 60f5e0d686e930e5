use Rattle.std.proofs.Common.{◌≡◌, ◌↔◌, Bool, true, sym, subst, rules, arith, ltb-false}
use Rattle.dewey_labels.specs.Labels.{Label, IsLabel, IsAncestor, is_ancestor}
use Rattle.dewey_labels.proofs.Labels.{is_ancestor_starts, no_ancestor, is_ancestor_is}
use Rattle.dewey_labels.proofs.label.Label.is_ancestor_of.Goals as goal

-- a test that answers what `is_ancestor` does tells the ancestors
decides : (b : Bool) (a l : Label) → IsLabel a → IsLabel l → b ≡ is_ancestor a l → (b ≡ true) ↔ IsAncestor a l
decides b a l i j h = subst (λ t. (t ≡ true) ↔ IsAncestor a l) (sym h) (is_ancestor_is a l i.0 j.0)

pub returns-then-above-below-clause-prefix : goal.returns-then-above-below-clause-prefix
returns-then-above-below-clause-prefix c = search (rules, is_ancestor_starts)

pub returns-then-above-below-clause-ancestor : goal.returns-then-above-below-clause-ancestor
returns-then-above-below-clause-ancestor c = decides _ _ _ c.divisions-above.ensures.label c.divisions-below.ensures.label (returns-then-above-below-clause-prefix c)

pub returns-else-above-below-clause-prefix : goal.returns-else-above-below-clause-prefix
returns-else-above-below-clause-prefix c = grind (arith, no_ancestor c.args.self.now c.args.other.now, ltb-false)

pub returns-else-above-below-clause-ancestor : goal.returns-else-above-below-clause-ancestor
returns-else-above-below-clause-ancestor c = decides _ _ _ c.divisions-above.ensures.label c.divisions-below.ensures.label (returns-else-above-below-clause-prefix c)

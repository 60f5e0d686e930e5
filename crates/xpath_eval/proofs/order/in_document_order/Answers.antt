use Rattle.std.proofs.Common.{◌≡◌, List, IsTrue, IfOk, Result, Ok, Err, ap, subst, ◌∙◌, rules}
use Rattle.std.specs.Cmp.{IsStrictWeakOrder}
use Rattle.std.specs.Ordering.{is_lt}
use Rattle.std.proofs.lemmas.List.Sorted.{ranks_by, answers_always, sorted_far}
use Rattle.tree_model.specs.Keys.{key_cmp}
use Rattle.tree_model.proofs.Keys.{key_total}
use Rattle.path_model.specs.Evaluation.{in_order}
use Rattle.path_model.specs.Positions.{key_of}
use Rattle.path_model.specs.Sets.{Rises}
use Rattle.xpath_axes.specs.declared.position.Position.{Position}
use Rattle.xpath_axes.specs.Positions.{plain, all_plain}
use Rattle.xpath_eval.specs.inside.Orders.{thinned}
use Rattle.xpath_eval.proofs.Orders.{below, rising_is_ordered, thinned_is_ordered, plain_sorted, stable_ordered}
use Rattle.xpath_eval.proofs.order.in_document_order.Goals as goal

pub returns-then-rise : goal.returns-then-rise
returns-then-rise c =
    let h : IsTrue c.rise.result = search rules in
    rising_is_ordered (all_plain c.args.found) (subst (λ (ps : List Position). Rises (all_plain ps)) c.as_slice.ensures (c.rise.ensures h))

if_ok : {A E : Type 0} (P Q : A → Type 0) (r : Result A E) → ((a : A) → P a → Q a) → IfOk r P → IfOk r Q
if_ok P Q (Ok a) f h = f a h
if_ok P Q (Err e) f h = tt

pub returns : goal.returns
returns c =
    let order : IsStrictWeakOrder below = ranks_by key_total (λ p. key_of (plain p)) in
    let ys : List Position = c.sort_by.new.self.items in
    let sorted = plain_sorted ys (sorted_far below order ys (c.in_ok-sort_by.ensures.sorted below order (answers_always _ _ _ (λ k a r k' called. let e : r ≡ key_cmp (key_of (plain a.0.now)) (key_of (plain a.1.0.now)) = search rules in ap is_lt e)))) in
    let same = stable_ordered c.into_vec-positions.result.items ys (c.in_ok-sort_by.ensures.stable below order (answers_always _ _ _ (λ k a r k' called. let e : r ≡ key_cmp (key_of (plain a.0.now)) (key_of (plain a.1.0.now)) = search rules in ap is_lt e))) in
    if_ok _ _ c.without_doubles.result
    (λ a h. h ∙ ap (λ ps. thinned (all_plain ps)) c.from_vec.ensures ∙ thinned_is_ordered (all_plain ys) sorted ∙ same ∙ ap (λ ps. in_order (all_plain ps)) c.into_vec-positions.ensures) c.without_doubles.ensures

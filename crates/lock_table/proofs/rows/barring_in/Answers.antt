use Rattle.std.proofs.Common.{◌≡◌, ◌++◌, [], sym, subst, ap, ◌∙◌, append-nil, ◌==◌}
use Rattle.std.specs.Ordering.{nat_cmp}
use Rattle.std.specs.List.Sorted.{IsStrictlySortedBy}
use Rattle.std.specs.List.{list_any}
use Rattle.std.specs.Map.Iter.{deref_pair}
use Rattle.std.proofs.lemmas.Map.Iter.{rest_all}
use Rattle.lock_table.specs.inside.Barring.{barring}
use Rattle.lock_table.proofs.Holders.{rising, each}
use Rattle.lock_table.proofs.rows.barring_in.Goals as goal

pub returns-clause-rising : goal.returns-clause-rising
returns-clause-rising c =
    let es = c.args.row.now.entries in
    let none : c.loop-other.other-iterator ≡ [] = rest_all deref_pair _ c.next.new.self c.next.result c.in-None.is c.next.ensures.steps in
    let all : c.loop-other.holders ≡ barring c.args.owner c.args.ask es =
    sym (append-nil c.loop-other.holders) ∙ ap (λ xs. c.loop-other.holders ++ barring c.args.owner c.args.ask xs) (sym none) ∙ c.loop-other.invariant in
    subst (IsStrictlySortedBy nat_cmp) (sym all) (rising c.args.owner c.args.ask es c.iter-other-items.ensures.ordered)

pub returns-clause-each : goal.returns-clause-each
returns-clause-each c =
    let es = c.args.row.now.entries in
    let none : c.loop-other.other-iterator ≡ [] = rest_all deref_pair _ c.next.new.self c.next.result c.in-None.is c.next.ensures.steps in
    let all : c.loop-other.holders ≡ barring c.args.owner c.args.ask es =
    sym (append-nil c.loop-other.holders) ∙ ap (λ xs. c.loop-other.holders ++ barring c.args.owner c.args.ask xs) (sym none) ∙ c.loop-other.invariant in
    λ o. ap (list_any (λ h. h == o)) all ∙ each c.args.owner c.args.ask es o c.iter-other-items.ensures.ordered

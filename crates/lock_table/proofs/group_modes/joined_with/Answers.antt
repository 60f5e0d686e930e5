use Rattle.std.proofs.Common.{◌≡◌, [], Some, sym, ap, subst, ◌∙◌}
use Rattle.std.specs.Ordering.{nat_cmp}
use Rattle.std.specs.BTreeMap.{get}
use Rattle.std.specs.Map.Iter.{deref_pair}
use Rattle.std.proofs.lemmas.Map.Iter.{rest_all}
use Rattle.lock_table.specs.inside.GroupModes.{IsAbove}
use Rattle.lock_table.proofs.GroupModes.{join_from, above_itself, above_kept, above_row}
use Rattle.lock_table.proofs.group_modes.joined_with.Goals as goal

pub returns-clause-row : goal.returns-clause-row
returns-clause-row c =
    let es = c.args.row.now.entries in
    let none : c.loop-other._other-iterator ≡ [] = rest_all deref_pair _ c.next.new.self c.next.result c.in-None.is c.next.ensures.steps in
    let all : join_from c.args.ask es ≡ c.loop-other.group = sym c.loop-other.invariant ∙ ap (join_from c.loop-other.group) none in
    λ o. subst (λ g. IsAbove g (get nat_cmp c.args.row.now o)) all (above_row c.args.ask es o)

pub returns-clause-ask : goal.returns-clause-ask
returns-clause-ask c =
    let es = c.args.row.now.entries in
    let none : c.loop-other._other-iterator ≡ [] = rest_all deref_pair _ c.next.new.self c.next.result c.in-None.is c.next.ensures.steps in
    let all : join_from c.args.ask es ≡ c.loop-other.group = sym c.loop-other.invariant ∙ ap (join_from c.loop-other.group) none in
    subst (λ g. IsAbove g (Some c.args.ask)) all (above_kept c.args.ask es (Some c.args.ask) (above_itself c.args.ask))

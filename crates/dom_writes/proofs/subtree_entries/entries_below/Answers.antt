use Rattle.std.proofs.Common.{sym, ap, subst, ◌∙◌}
use Rattle.tree_model.specs.Entries.{Sorted}
use Rattle.dom_writes.specs.inside.EntriesBelow.{is_other, without_own}
use Rattle.dom_writes.proofs.EntriesBelow.{below_left, sorted_left}
use Rattle.dom_writes.proofs.subtree_entries.entries_below.Goals as goal

pub returns-clause-entries : goal.returns-clause-entries
returns-clause-entries g c t stands =
    let at = c.args.at.now in
    c.in_ok-without_own.ensures ∙ ap (without_own at) (c.in_ok-entries.ensures.entries t stands) ∙ below_left at t stands.valid

pub returns-clause-rise : goal.returns-clause-rise
returns-clause-rise g c = subst Sorted (sym c.in_ok-without_own.ensures) (sorted_left (is_other c.args.at.now) c.in_ok-entries.entries c.in_ok-entries.ensures.rise)

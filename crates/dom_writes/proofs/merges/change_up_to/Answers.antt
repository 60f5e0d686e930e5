use Rattle.std.proofs.Common.{◌≡◌, option_copied, sym, ap, subst, ◌∙◌}
use Rattle.tree_model.specs.Changes.{stands}
use Rattle.tree_model.specs.Entries.{Sorted, entries_above, get}
use Rattle.tree_model.specs.declared.key.Key.{Key}
use Rattle.tree_model.specs.declared.record.Record.{Record}
use Rattle.dom_writes.specs.inside.Merges.{BeginsAt}
use Rattle.dom_writes.proofs.MergeLaws.{begins_at, sorted_from, get_from, above_from, left_out, put_at_end}
use Rattle.dom_writes.proofs.merges.change_up_to.Goals.{then-not-stands+in_ok-push, else-not-stands}
use Rattle.dom_writes.proofs.merges.change_up_to.Goals as goal

pub first_at-requires-clause-sorted : goal.first_at-requires-clause-sorted
first_at-requires-clause-sorted c = subst Sorted (sym c.in_ok-rest.ensures.rest) (sorted_from c.args.entry.0 c.args.old.now c.requires.sorted)

pub first_at-requires-clause-none_below : goal.first_at-requires-clause-none_below
first_at-requires-clause-none_below c = subst (BeginsAt c.args.entry.0) (sym c.in_ok-rest.ensures.rest) (begins_at c.args.entry.0 c.args.old.now)

pub returns-clause-rest : goal.returns-clause-rest
returns-clause-rest c =
    c.first_at.ensures.above ∙ ap (entries_above c.args.entry.0) c.in_ok-rest.ensures.rest ∙ above_from c.args.entry.0 c.args.old.now

pub returns-clause-changes : goal.returns-clause-changes
returns-clause-changes c =
    let x : Key × Record = c.args.entry in
    let stood : option_copied c.first_at.result.0 ≡ get x.0 c.args.old.now = c.first_at.ensures.at ∙ ap (get x.0) c.in_ok-rest.ensures.rest ∙ get_from x.0 c.args.old.now in
    let test : c.stands.result ≡ stands x.1 (get x.0 c.args.old.now) = c.stands.ensures ∙ ap (stands x.1) stood in
    elim c.if-not-stands.branch [
      | then-not-stands+in_ok-push w ↦ put_at_end x c.args.old.now c.args.changes.now c.drop_below.new.changes c.if-not-stands.changes c.stands.result test w.if-not-stands.true
          c.in_ok-rest.ensures.changes (w.changes-is ∙ w.in_ok-push.ensures.ok)
      | else-not-stands w ↦ left_out x c.args.old.now c.args.changes.now c.if-not-stands.changes c.stands.result test w.if-not-stands.false (w.changes-is ∙ c.in_ok-rest.ensures.changes)
    ]

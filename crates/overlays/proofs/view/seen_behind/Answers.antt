use Rattle.std.proofs.Common.{Option, option_copied, sym, ap, subst, ◌∙◌}
use Rattle.tree_model.specs.declared.key.Key.{Key}
use Rattle.tree_model.specs.declared.record.Record.{Record}
use Rattle.tree_model.specs.Changes.{now_at}
use Rattle.node_seq.specs.Reads.{IsEntryOfTrees}
use Rattle.overlays.specs.inside.Nearest.{LiesAhead}
use Rattle.overlays.specs.inside.Passing.{first_seen, Sees}
use Rattle.overlays.proofs.StretchLaws.{seen_valid}
use Rattle.overlays.proofs.PassLaws.{first_ahead, sees}
use Rattle.overlays.proofs.view.seen_behind.Goals as goal

pub returns-clause-value : goal.returns-clause-value
returns-clause-value g c = λ cs es near t settled.
    let w = c.args.toward in
    let at = c.args.at.now in
    let change = option_copied c.args.next in
    subst (Sees w at cs es) (sym (c.in_ok-first_of.ensures ∙ ap (λ (o : Option (Key × Record)). first_seen w o change) (c.in_ok-found.ensures.value es t)))
    (sees w at cs es change (c.faults-faults.ensures.in_order es t) near settled)

pub returns-clause-valid : goal.returns-clause-valid
returns-clause-valid g c = λ cs near list u.
    subst IsEntryOfTrees (sym c.in_ok-first_of.ensures)
    (seen_valid c.args.toward c.args.at.now cs c.in_ok-found.found (option_copied c.args.next)
    list.puts near (c.in_ok-found.ensures.valid u))

pub returns-clause-ahead : goal.returns-clause-ahead
returns-clause-ahead g c = λ cs near.
    subst (LiesAhead c.args.toward c.args.at.now) (sym c.in_ok-first_of.ensures)
    (first_ahead c.args.toward c.args.at.now (λ j. now_at j cs) c.in_ok-found.found (option_copied c.args.next) near c.in_ok-found.ensures.ahead)

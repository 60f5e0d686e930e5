use Rattle.std.proofs.Common.{Option, option_copied, sym, ap, subst, ◌∙◌}
use Rattle.tree_model.specs.declared.key.Key.{Key}
use Rattle.tree_model.specs.Changes.{now_at}
use Rattle.node_seq.specs.Reads.{IsKeyOfTrees}
use Rattle.overlays.specs.inside.Nearest.{KeyLiesAhead}
use Rattle.overlays.specs.inside.Passing.{first_key_seen, SeesKey}
use Rattle.overlays.proofs.PassLaws.{first_key_ahead, sees_key, key_seen_valid}
use Rattle.overlays.proofs.view.key_behind.Goals as goal

pub returns-clause-value : goal.returns-clause-value
returns-clause-value g c = λ cs es near t settled.
    let w = c.args.toward in
    let at = c.args.at.now in
    let change = option_copied c.args.next in
    subst (SeesKey w at cs es) (sym (c.in_ok-first_key.ensures ∙ ap (λ (o : Option Key). first_key_seen w o change) (c.in_ok-found.ensures.value es t)))
    (sees_key w at cs es change (c.faults-faults.ensures.in_order es t) near settled)

pub returns-clause-valid : goal.returns-clause-valid
returns-clause-valid g c = λ cs near list u.
    subst IsKeyOfTrees (sym c.in_ok-first_key.ensures)
    (key_seen_valid c.args.toward c.args.at.now cs c.in_ok-found.found (option_copied c.args.next)
    list.puts near (c.in_ok-found.ensures.valid u))

pub returns-clause-ahead : goal.returns-clause-ahead
returns-clause-ahead g c = λ cs near.
    subst (KeyLiesAhead c.args.toward c.args.at.now) (sym c.in_ok-first_key.ensures)
    (first_key_ahead c.args.toward c.args.at.now (λ j. now_at j cs) c.in_ok-found.found (option_copied c.args.next) near c.in_ok-found.ensures.ahead)

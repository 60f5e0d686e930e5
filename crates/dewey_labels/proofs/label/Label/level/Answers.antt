use Rattle.std.proofs.Common.{◌≡◌, count_by, arith, rules, sym, subst}
use Rattle.dewey_labels.specs.Labels.{IsLabel, is_odd}
use Rattle.dewey_labels.proofs.Labels.{odd_of_label}
use Rattle.dewey_labels.proofs.label.Label.level.Goals as goal

pub overflow_sub-result : goal.overflow_sub-result
overflow_sub-result c =
    let own = c.divisions.result.now in
    let counted : c.count.result ≡ count_by is_odd own = search rules in
    omega (arith, counted, odd_of_label own (subst IsLabel (sym c.divisions.ensures.divisions) c.divisions.ensures.label).0)

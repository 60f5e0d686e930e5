use Rattle.std.proofs.Common.{rules, sym, ap, subst, ◌∙◌}
use Rattle.dewey_labels.specs.Labels.{IsLabel}
use Rattle.dewey_labels.specs.Sides.{fill}
use Rattle.dewey_labels.proofs.Filled.{fill_is_label, filled_is}
use Rattle.dewey_labels.proofs.label.Label.filled.Goals as goal

pub returns : goal.returns
returns c =
    let own = c.divisions.result.now in
    let is_label : IsLabel own = subst IsLabel (sym c.divisions.ensures.divisions) c.divisions.ensures.label in
    c.of_vec.ensures ∙ filled_is c.extend_from_slice.new.self.items own _ _ c.in_ok-resize.ensures.items (search rules) (search rules) is_label.1.0
    ∙ ap fill c.divisions.ensures.divisions

pub invariant_of-result : goal.invariant_of-result
invariant_of-result c = subst IsLabel (sym (returns c)) (fill_is_label c.args.self.now c.divisions.ensures.label)

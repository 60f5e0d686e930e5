use Rattle.std.proofs.Common.{◌||◌, sym, ap, ◌∙◌}
use Rattle.dewey_labels.specs.Labels.{is_ancestor}
use Rattle.dom_reads.proofs.SubtreeLabels.{same_or_under}
use Rattle.dom_reads.proofs.subtree_walk.is_in_subtree.Goals as goal

pub returns-then-eq : goal.returns-then-eq
returns-then-eq c =
    let at = c.args.at.now in
    let l = c.args.label.now in
    c.if-eq.true ∙ sym (ap (λ b. b || is_ancestor at l) (sym c.eq.ensures ∙ c.if-eq.true)) ∙ same_or_under at l

pub returns-else-eq : goal.returns-else-eq
returns-else-eq c =
    let at = c.args.at.now in
    let l = c.args.label.now in
    c.is_ancestor_of.ensures.prefix ∙ sym (ap (λ b. b || is_ancestor at l) (sym c.eq.ensures ∙ c.if-eq.false)) ∙ same_or_under at l

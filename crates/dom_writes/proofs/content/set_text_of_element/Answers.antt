use Rattle.std.proofs.Common.{sym, subst}
use Rattle.tree_model.specs.Entries.{Sorted}
use Rattle.dom_writes.proofs.TextsSet.{not_past, text_rises}
use Rattle.dom_writes.specs.inside.TextsSet.{past_limits}
use Rattle.dom_writes.proofs.content.set_text_of_element.Goals as goal

pub returns-clause-rise : goal.returns-clause-rise
returns-clause-rise g c =
    let at = c.args.at.now in
    let d = c.args.data.now in
    let rises : Sorted c.in-Ok.new = subst Sorted (sym c.in-Ok.ensures.entries) (text_rises at d) in
    c.in_ok-differences_between.ensures.rise rises (c.in-Ok.ensures.valid (not_past (past_limits at d) c.in_default.ensures))

use Rattle.std.proofs.Common.{cond, Some, None, sym, ap, ◌∙◌}
use Rattle.tree_model.specs.declared.key.Key.{Key}
use Rattle.tree_model.specs.declared.record.Record.{Record}
use Rattle.dom_reads.specs.inside.InSubtrees.{if_in}
use Rattle.dom_reads.proofs.subtree_walk.in_subtree.Goals as goal

pub returns-then-is_in_subtree : goal.returns-then-is_in_subtree
returns-then-is_in_subtree c =
    let e : Key × Record = (c.in_ok-key.key, c.in_ok-key.record) in
    sym (ap (λ b. cond b (Some e) None) (sym c.is_in_subtree.ensures ∙ c.if-is_in_subtree.true)) ∙ ap (if_in c.args.at.now) (sym c.in_ok-key.was)

pub returns-else-is_in_subtree : goal.returns-else-is_in_subtree
returns-else-is_in_subtree c =
    let e : Key × Record = (c.in_ok-key.key, c.in_ok-key.record) in
    sym (ap (λ b. cond b (Some e) None) (sym c.is_in_subtree.ensures ∙ c.if-is_in_subtree.false)) ∙ ap (if_in c.args.at.now) (sym c.in_ok-key.was)

use Rattle.std.proofs.Common.{◌∙◌, Option, IfSome, sym, subst}
use Rattle.dewey_labels.specs.Labels.{IsLabel}
use Rattle.tree_model.specs.declared.key.Key.{Key}
use Rattle.tree_model.specs.declared.record.Record.{Record}
use Rattle.node_seq.specs.Reads.{LiesBelow}
use Rattle.recovery.proofs.WalkLaws.{never_below}
use Rattle.recovery.proofs.walking.none_below.Goals as goal

pub unreachable-requires : goal.unreachable-requires
unreachable-requires c =
    let none = never_below c.args.found.now (subst (λ (k : Key). LiesBelow k c.args.found.now) c.requires.root c.requires.below)
    (subst (λ (o : Option (Key × Record)). IfSome o (λ e. IsLabel e.0.label)) (sym c.in-Some.is) c.divisions-divisions.ensures.label) in
    let clash = sym none ∙ c.in-Some.is in cc

use Rattle.std.proofs.Common.{◌≡◌, Option, sym, ap, subst, ◌∙◌}
use Rattle.dewey_labels.specs.Labels.{Label}
use Rattle.tree_model.specs.declared.key.Key.{Key}
use Rattle.tree_model.specs.declared.record.Record.{Record}
use Rattle.tree_model.specs.Entries.{first_above}
use Rattle.tree_model.specs.Keys.{node_key}
use Rattle.node_seq.specs.Reads.{IsEntryOfTrees, LiesAbove}
use Rattle.node_seq.specs.WalkSteps.{from_entry}
use Rattle.dom_reads.specs.SubtreeWalks.{as_long, lies_in}
use Rattle.dom_reads.proofs.SubtreeEntries.{kept_in, walk_begins}
use Rattle.dom_reads.proofs.subtree_walk.SubtreeWalk.below.Goals as goal

pub returns-clause-rest : goal.returns-clause-rest
returns-clause-rest g c es t =
    let l : Label = c.args.at.now in
    let o : Option (Key × Record) = c.in_ok-found.found in
    let label : c.in_ok-key.key.label ≡ l = ap (λ (k : Key). k.label) c.in_ok-key.ensures in
    ap (λ (v : Label). as_long (lies_in v) (from_entry c.in_subtree-next.result es)) label
    ∙ ap (λ (v : Option (Key × Record)). as_long (lies_in l) (from_entry v es)) c.in_subtree-next.ensures
    ∙ walk_begins l (node_key l) o es (c.faults-faults.ensures.in_order es t) (c.in_ok-found.ensures.value es t ∙ ap (λ (k : Key). first_above k es) c.in_ok-key.ensures)

pub returns-clause-above : goal.returns-clause-above
returns-clause-above g c =
    let l : Label = c.args.at.now in
    let o : Option (Key × Record) = c.in_ok-found.found in
    subst (LiesAbove (node_key l)) (sym c.in_subtree-next.ensures) (kept_in (LiesAbove (node_key l)) tt l o (subst (λ (k : Key). LiesAbove k o) c.in_ok-key.ensures c.in_ok-found.ensures.above))

pub returns-clause-valid : goal.returns-clause-valid
returns-clause-valid g c unknown =
    subst IsEntryOfTrees (sym c.in_subtree-next.ensures) (kept_in IsEntryOfTrees tt c.args.at.now c.in_ok-found.found (c.in_ok-found.ensures.valid unknown))

use Rattle.std.proofs.Common.{◌∙◌, ap, sym}
use Rattle.tree_model.specs.Changes.{with_change}
use Rattle.recovery.specs.inside.Nets.{as_changes}
use Rattle.recovery.proofs.NetLaws.{laid_more, noted}
use Rattle.recovery.proofs.netting.note.Goals as goal

-- once for each way in which what stood there is let go
pub loop-change-preserved-in_ok-_before : goal.loop-change-preserved-in_ok-_before
loop-change-preserved-in_ok-_before c =
    let change = c.in-Some.change in
    ap as_changes c.in_ok-_before.ensures.entries ∙ noted change.key change.now c.loop-change.net.entries
    ∙ ap (with_change change) c.loop-change.invariant ∙ sym (laid_more c.loop-change.yielded (as_changes c.args.net.now.entries) change)

pub loop-change-preserved : goal.loop-change-preserved
loop-change-preserved c =
    let change = c.in-Some.change in
    ap as_changes c.in_ok-_before.ensures.entries ∙ noted change.key change.now c.loop-change.net.entries
    ∙ ap (with_change change) c.loop-change.invariant ∙ sym (laid_more c.loop-change.yielded (as_changes c.args.net.now.entries) change)

pub loop-change-preserved-in_ok-_before-2 : goal.loop-change-preserved-in_ok-_before-2
loop-change-preserved-in_ok-_before-2 c =
    let change = c.in-Some.change in
    ap as_changes c.in_ok-_before.ensures.entries ∙ noted change.key change.now c.loop-change.net.entries
    ∙ ap (with_change change) c.loop-change.invariant ∙ sym (laid_more c.loop-change.yielded (as_changes c.args.net.now.entries) change)

pub loop-change-preserved-in_ok-_before-3 : goal.loop-change-preserved-in_ok-_before-3
loop-change-preserved-in_ok-_before-3 c =
    let change = c.in-Some.change in
    ap as_changes c.in_ok-_before.ensures.entries ∙ noted change.key change.now c.loop-change.net.entries
    ∙ ap (with_change change) c.loop-change.invariant ∙ sym (laid_more c.loop-change.yielded (as_changes c.args.net.now.entries) change)

pub loop-change-preserved-in_ok-_before-4 : goal.loop-change-preserved-in_ok-_before-4
loop-change-preserved-in_ok-_before-4 c =
    let change = c.in-Some.change in
    ap as_changes c.in_ok-_before.ensures.entries ∙ noted change.key change.now c.loop-change.net.entries
    ∙ ap (with_change change) c.loop-change.invariant ∙ sym (laid_more c.loop-change.yielded (as_changes c.args.net.now.entries) change)

pub loop-change-preserved-in_ok-_before-5 : goal.loop-change-preserved-in_ok-_before-5
loop-change-preserved-in_ok-_before-5 c =
    let change = c.in-Some.change in
    ap as_changes c.in_ok-_before.ensures.entries ∙ noted change.key change.now c.loop-change.net.entries
    ∙ ap (with_change change) c.loop-change.invariant ∙ sym (laid_more c.loop-change.yielded (as_changes c.args.net.now.entries) change)

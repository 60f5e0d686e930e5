use Rattle.std.proofs.Common.{◌≡◌, ◌<◌, Option, Some, sym, ap, subst, ◌∙◌}
use Rattle.std.specs.List.{AllByRecursion}
use Rattle.tree_model.specs.declared.key.Key.{Key}
use Rattle.tree_model.specs.declared.record.Record.{Record}
use Rattle.tree_model.specs.Entries.{Entries}
use Rattle.tree_model.specs.Keys.{node_key}
use Rattle.tree_model.specs.Tree.{map_of}
use Rattle.node_seq.specs.WalkSteps.{HasStepped, from_entry, steps_left}
use Rattle.node_pages.specs.Chunks.{all_chunks}
use Rattle.node_pages.specs.Cutting.{IsStored, nothing_cut, with_entries}
use Rattle.node_pages.proofs.CutLaws.{from_root}
use Rattle.node_pages.proofs.CutSteps.{all_cut, rest_stored, step_record}
use Rattle.node_pages.proofs.StoredLaws.{tree_stored}
use Rattle.node_pages.proofs.cutter.cut_pages.Goals as goal

pub loop-walk-init : goal.loop-walk-init
loop-walk-init g c =
    let found = c.in_ok-walk.ensures in
    let whole : (es : Entries) → g.S.NodeRead.contents c.args.seq.now ≡ Some es → AllByRecursion IsStored es → from_entry c.in_ok-walk.walk es ≡ es =
    λ es t stored. from_root c.in_ok-root.root (from_entry c.in_ok-walk.walk es) es (c.in_ok-root.ensures ∙ ap node_key c.in_ok-label.ensures) (found.rest es t) stored in
    record {
      same = found.unchanged;
      counted = found.cause.exact;
      valid = found.valid;
      sized = c.new-cutter.ensures.sized;
      stored = λ es t stored. subst (AllByRecursion IsStored) (sym (whole es t stored)) stored;
      cut = λ es t stored. λ i. with_entries (c.new-cutter.ensures.empty i) (all_chunks (whole es t stored i));
    }

pub loop-walk-preserved : goal.loop-walk-preserved
loop-walk-preserved g c =
    let law = g.met.S.NodeRead in
    let contents = g.S.NodeRead.contents in
    let inv = c.loop-walk.invariant in
    let e : Key × Record = c.in-Some.entry in
    let new : Option (Key × Record) = c.step.new.self in
    let known : contents c.loop-walk.seq ≡ contents c.args.seq.now = law.unchanged_contents _ _ inv.same in
    let stepped : HasStepped (contents c.loop-walk.seq) c.loop-walk.walk new (Some e) =
    subst (λ (o : Option (Key × Record)). HasStepped (contents c.loop-walk.seq) c.loop-walk.walk new o) c.in-Some.is c.in_ok-entry.ensures.stepped in
    record {
      same = law.unchanged_onward _ _ _ inv.same c.in_ok-entry.ensures.unchanged;
      counted = c.in_ok-entry.ensures.cause.exact ∙ inv.counted;
      valid = λ unknown. stepped.valid (known ∙ unknown);
      sized = c.in_ok-put_record.ensures.sized;
      stored = λ es t stored. rest_stored e (from_entry c.loop-walk.walk es) (from_entry new es) (stepped.rest es (known ∙ t)) (inv.stored es t stored);
      cut = λ es t stored. step_record c.loop-walk.cutter c.put_record.new.self (with_entries nothing_cut (all_chunks es)) e (from_entry c.loop-walk.walk es) (from_entry new es)
          (stepped.rest es (known ∙ t)) (inv.stored es t stored) c.in_ok-put_record.ensures.ok (inv.cut es t stored);
    }

pub returns-clause-tree : goal.returns-clause-tree
returns-clause-tree g c t stands =
    let es = map_of t in
    let stored = tree_stored t stands.valid in
    c.in_ok-finish.ensures ∙ all_cut c.args.number c.loop-walk.cutter c.in_ok-entry.field-0 c.loop-walk.walk es c.in_default.not-Some c.in_ok-entry.ensures.stepped.entry stored (c.loop-walk.invariant.cut es stands.map stored)

pub returns-clause-cut : goal.returns-clause-cut
returns-clause-cut g c es t stored =
    c.in_ok-finish.ensures ∙ all_cut c.args.number c.loop-walk.cutter c.in_ok-entry.field-0 c.loop-walk.walk es c.in_default.not-Some c.in_ok-entry.ensures.stepped.entry stored (c.loop-walk.invariant.cut es t stored)

pub loop-walk-smaller : goal.loop-walk-smaller
loop-walk-smaller g c =
    let contents = g.S.NodeRead.contents in
    let new : Option (Key × Record) = c.step.new.self in
    let known : contents c.loop-walk.seq ≡ contents c.args.seq.now = g.met.S.NodeRead.unchanged_contents _ _ c.loop-walk.invariant.same in
    let stepped : HasStepped (contents c.loop-walk.seq) c.loop-walk.walk new (Some c.in-Some.entry) =
    subst (λ (o : Option (Key × Record)). HasStepped (contents c.loop-walk.seq) c.loop-walk.walk new o) c.in-Some.is c.in_ok-entry.ensures.stepped in
    subst (λ (o : Option Entries). steps_left o new < steps_left o c.loop-walk.walk) known stepped.shorter

pub returns-in_err-finish-clause-unchanged : goal.returns-in_err-finish-clause-unchanged
returns-in_err-finish-clause-unchanged g c = g.met.S.NodeRead.unchanged_onward _ _ _ c.loop-walk.invariant.same c.in_ok-entry.ensures.unchanged

pub returns-clause-unchanged : goal.returns-clause-unchanged
returns-clause-unchanged g c = g.met.S.NodeRead.unchanged_onward _ _ _ c.loop-walk.invariant.same c.in_ok-entry.ensures.unchanged

pub returns-in_err-put_record-clause-unchanged : goal.returns-in_err-put_record-clause-unchanged
returns-in_err-put_record-clause-unchanged g c = g.met.S.NodeRead.unchanged_onward _ _ _ c.loop-walk.invariant.same c.in_ok-entry.ensures.unchanged

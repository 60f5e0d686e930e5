use Rattle.std.proofs.Common.{◌≡◌, Option, Some, sym, ap, subst, ◌∙◌}
use Rattle.tree_model.specs.declared.key.Key.{Key}
use Rattle.tree_model.specs.declared.record.Record.{Record}
use Rattle.tree_model.specs.Entries.{Entries}
use Rattle.dom_reads.specs.SubtreeWalks.{HasStepped, Stand, still_to_come}
use Rattle.dom_reads.specs.inside.FragmentBuilders.{Making, add_all, making_of}
use Rattle.dom_reads.proofs.WalkReads.{reads_on, reads_so_far}
use Rattle.dom_reads.proofs.subtrees.add_rest.Goals as goal

pub loop-entry-preserved : goal.loop-entry-preserved
loop-entry-preserved g c =
    let law = g.met.S.NodeRead in
    let contents = g.S.NodeRead.contents in
    let inv = c.loop-entry.invariant in
    let new : Stand = c.step.new.self in
    let e : Key × Record = c.in-Some.entry in
    let known : contents c.loop-entry.seq ≡ contents c.args.seq.now = law.unchanged_contents _ _ inv.same in
    let stepped : HasStepped (contents c.loop-entry.seq) c.loop-entry.walk new (Some e) =
    subst (λ (o : Option (Key × Record)). HasStepped (contents c.loop-entry.seq) c.loop-entry.walk new o) c.in-Some.is c.in_ok-entry.ensures.stepped in
    record {
      same = law.unchanged_onward _ _ _ inv.same c.in_ok-entry.ensures.unchanged;
      counted = c.in_ok-entry.ensures.cause.exact ∙ inv.counted;
      read = λ es t. reads_on _ _ _ _ _ _ e (inv.read es t) c.in_ok-entry.ensures.reads (stepped.rest es (known ∙ t));
      valid = λ unknown. stepped.valid (known ∙ unknown);
      added = λ es t.
          subst (λ (v : Making). add_all (still_to_come new es) v ≡ add_all (still_to_come c.args.walk.now es) (making_of c.args.builder.now)) (sym c.in_ok-add.ensures)
          (ap (λ (v : Entries). add_all v (making_of c.loop-entry.builder)) (sym (stepped.rest es (known ∙ t))) ∙ inv.added es t);
    }

pub returns-in_err-entry-clause-reads : goal.returns-in_err-entry-clause-reads
returns-in_err-entry-clause-reads g c es t =
    let known = g.met.S.NodeRead.unchanged_contents _ _ c.loop-entry.invariant.same in
    reads_so_far _ _ _ (still_to_come c.args.walk.now es) (still_to_come c.loop-entry.walk es) (c.loop-entry.invariant.read es t) (c.in_err-entry.ensures.within es (known ∙ t))

pub returns-in_err-add-clause-reads : goal.returns-in_err-add-clause-reads
returns-in_err-add-clause-reads g c es t =
    let known = g.met.S.NodeRead.unchanged_contents _ _ c.loop-entry.invariant.same in
    reads_so_far _ _ _ (still_to_come c.args.walk.now es) (still_to_come c.loop-entry.walk es) (c.loop-entry.invariant.read es t) (c.in_ok-entry.ensures.within es (known ∙ t))

pub returns-clause-reads : goal.returns-clause-reads
returns-clause-reads g c es t =
    let known = g.met.S.NodeRead.unchanged_contents _ _ c.loop-entry.invariant.same in
    reads_so_far _ _ _ (still_to_come c.args.walk.now es) (still_to_come c.loop-entry.walk es) (c.loop-entry.invariant.read es t) (c.in_ok-entry.ensures.within es (known ∙ t))

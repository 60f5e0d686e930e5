use Rattle.std.proofs.Common.{◌≡◌, ◌++◌, [], ◌∷◌, if◌then◌else◌, List, Option, Some, sym, ap, subst, ◌∙◌, append_assoc}
use Rattle.tree_model.specs.declared.key.Key.{Key}
use Rattle.tree_model.specs.declared.record.Record.{Record}
use Rattle.tree_model.specs.Entries.{Entries}
use Rattle.dom_reads.specs.SubtreeWalks.{HasStepped, Stand, still_to_come}
use Rattle.dewey_labels.specs.Labels.{Label}
use Rattle.dom_reads.specs.inside.Gathered.{has_tag, labels_in}
use Rattle.dom_reads.proofs.WalkReads.{reads_on, reads_so_far}
use Rattle.dom_reads.proofs.subtrees.tagged.Goals as goal

pub loop-labels-preserved : goal.loop-labels-preserved
loop-labels-preserved g c =
    let law = g.met.S.NodeRead in
    let contents = g.S.NodeRead.contents in
    let inv = c.loop-labels.invariant in
    let new : Stand = c.step.new.self in
    let e : Key × Record = c.in-Some.entry in
    let known : contents c.loop-labels.seq ≡ contents c.args.seq.now = law.unchanged_contents _ _ inv.same in
    let stepped : HasStepped (contents c.loop-labels.seq) c.loop-labels.walk new (Some e) =
    subst (λ (o : Option (Key × Record)). HasStepped (contents c.loop-labels.seq) c.loop-labels.walk new o) c.in-Some.is c.in_ok-entry.ensures.stepped in
    record {
      same = law.unchanged_onward _ _ _ inv.same c.in_ok-entry.ensures.unchanged;
      counted = c.in_ok-entry.ensures.cause.exact ∙ inv.counted;
      read = λ es t. reads_on _ _ _ _ _ _ e (inv.read es t) c.in_ok-entry.ensures.reads (stepped.rest es (known ∙ t));
      valid = λ unknown. stepped.valid (known ∙ unknown);
      labels = λ es t.
          let n = c.args.name.now in
          let so_far : List Label = c.loop-labels.labels in
          subst (λ (v : List Label). v ++ labels_in n (still_to_come new es) ≡ labels_in n (still_to_come c.args.walk.now es)) (sym c.in_ok-push_tagged.ensures)
          (append_assoc so_far (if has_tag n e.1 then e.0.label ∷ [] else []) (labels_in n (still_to_come new es)) ∙ ap (λ (v : Entries). so_far ++ labels_in n v) (sym (stepped.rest es (known ∙ t))) ∙ inv.labels es t);
    }

pub returns-in_err-entry-clause-reads : goal.returns-in_err-entry-clause-reads
returns-in_err-entry-clause-reads g c es t =
    let known = g.met.S.NodeRead.unchanged_contents _ _ c.loop-labels.invariant.same in
    reads_so_far _ _ _ (still_to_come c.args.walk.now es) (still_to_come c.loop-labels.walk es) (c.loop-labels.invariant.read es t) (c.in_err-entry.ensures.within es (known ∙ t))

pub returns-in_err-push_tagged-clause-reads : goal.returns-in_err-push_tagged-clause-reads
returns-in_err-push_tagged-clause-reads g c es t =
    let known = g.met.S.NodeRead.unchanged_contents _ _ c.loop-labels.invariant.same in
    reads_so_far _ _ _ (still_to_come c.args.walk.now es) (still_to_come c.loop-labels.walk es) (c.loop-labels.invariant.read es t) (c.in_ok-entry.ensures.within es (known ∙ t))

pub returns-clause-reads : goal.returns-clause-reads
returns-clause-reads g c es t =
    let known = g.met.S.NodeRead.unchanged_contents _ _ c.loop-labels.invariant.same in
    reads_so_far _ _ _ (still_to_come c.args.walk.now es) (still_to_come c.loop-labels.walk es) (c.loop-labels.invariant.read es t) (c.in_ok-entry.ensures.within es (known ∙ t))

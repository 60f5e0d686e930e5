use Rattle.std.proofs.Common.{◌≡◌, ◌++◌, ℕ, List, Option, Some, string_bytes, sym, ap, subst, ◌∙◌, append_assoc}
use Rattle.tree_model.specs.declared.key.Key.{Key}
use Rattle.tree_model.specs.declared.record.Record.{Record}
use Rattle.tree_model.specs.Entries.{Entries}
use Rattle.dom_reads.specs.SubtreeWalks.{HasStepped, Stand, still_to_come}
use Rattle.dom_reads.specs.inside.Gathered.{data_of, texts_in}
use Rattle.dom_reads.proofs.WalkReads.{reads_on, reads_so_far}
use Rattle.dom_reads.proofs.subtrees.join_texts.Goals as goal

pub loop-joined-preserved : goal.loop-joined-preserved
loop-joined-preserved g c =
    let law = g.met.S.NodeRead in
    let contents = g.S.NodeRead.contents in
    let inv = c.loop-joined.invariant in
    let new : Stand = c.step.new.self in
    let e : Key × Record = c.in-Some.entry in
    let known : contents c.loop-joined.seq ≡ contents c.args.seq.now = law.unchanged_contents _ _ inv.same in
    let stepped : HasStepped (contents c.loop-joined.seq) c.loop-joined.walk new (Some e) =
    subst (λ (o : Option (Key × Record)). HasStepped (contents c.loop-joined.seq) c.loop-joined.walk new o) c.in-Some.is c.in_ok-entry.ensures.stepped in
    record {
      same = law.unchanged_onward _ _ _ inv.same c.in_ok-entry.ensures.unchanged;
      counted = c.in_ok-entry.ensures.cause.exact ∙ inv.counted;
      read = λ es t. reads_on _ _ _ _ _ _ e (inv.read es t) c.in_ok-entry.ensures.reads (stepped.rest es (known ∙ t));
      valid = λ unknown. stepped.valid (known ∙ unknown);
      texts = λ es t.
          let so_far : List ℕ = string_bytes c.loop-joined.joined in
          subst (λ (v : List ℕ). v ++ texts_in (still_to_come new es) ≡ texts_in (still_to_come c.args.walk.now es)) (sym c.in_ok-push_text.ensures)
          (append_assoc so_far (data_of e.1) (texts_in (still_to_come new es)) ∙ ap (λ (v : Entries). so_far ++ texts_in v) (sym (stepped.rest es (known ∙ t))) ∙ inv.texts es t);
    }

pub returns-in_err-entry-clause-reads : goal.returns-in_err-entry-clause-reads
returns-in_err-entry-clause-reads g c es t =
    let known = g.met.S.NodeRead.unchanged_contents _ _ c.loop-joined.invariant.same in
    reads_so_far _ _ _ (still_to_come c.args.walk.now es) (still_to_come c.loop-joined.walk es) (c.loop-joined.invariant.read es t) (c.in_err-entry.ensures.within es (known ∙ t))

pub returns-in_err-push_text-clause-reads : goal.returns-in_err-push_text-clause-reads
returns-in_err-push_text-clause-reads g c es t =
    let known = g.met.S.NodeRead.unchanged_contents _ _ c.loop-joined.invariant.same in
    reads_so_far _ _ _ (still_to_come c.args.walk.now es) (still_to_come c.loop-joined.walk es) (c.loop-joined.invariant.read es t) (c.in_ok-entry.ensures.within es (known ∙ t))

pub returns-clause-reads : goal.returns-clause-reads
returns-clause-reads g c es t =
    let known = g.met.S.NodeRead.unchanged_contents _ _ c.loop-joined.invariant.same in
    reads_so_far _ _ _ (still_to_come c.args.walk.now es) (still_to_come c.loop-joined.walk es) (c.loop-joined.invariant.read es t) (c.in_ok-entry.ensures.within es (known ∙ t))

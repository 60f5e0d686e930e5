use Rattle.std.proofs.Common.{◌≡◌, ◌++◌, [], ◌∷◌, Option, Some, sym, ap, subst, ◌∙◌, append_assoc, ◌+◌, length, ℕ, arith}
use Rattle.tree_model.specs.declared.key.Key.{Key}
use Rattle.tree_model.specs.declared.record.Record.{Record}
use Rattle.tree_model.specs.Entries.{Entries}
use Rattle.dom_reads.specs.SubtreeWalks.{HasStepped, Stand, still_to_come}
use Rattle.dom_reads.specs.inside.InSubtrees.{RisesTo}
use Rattle.dom_reads.proofs.SubtreeEntries.{rises_on}
use Rattle.dom_reads.proofs.WalkReads.{one_longer, reads_on, reads_so_far}
use Rattle.dom_reads.proofs.subtree_walk.gather.Goals as goal

pub loop-entry-preserved : goal.loop-entry-preserved
loop-entry-preserved g c =
    let law = g.met.S.NodeRead in
    let contents = g.S.NodeRead.contents in
    let inv = c.loop-entry.invariant in
    let entries = c.loop-entry.entries in
    let old : Stand = c.loop-entry.walk in
    let new : Stand = c.step.new.self in
    let e : Key × Record = c.in-Some.entry in
    let known : contents c.loop-entry.seq ≡ contents c.args.seq.now = law.unchanged_contents _ _ inv.same in
    let stepped : HasStepped (contents c.loop-entry.seq) old new (Some e) =
    subst (λ (o : Option (Key × Record)). HasStepped (contents c.loop-entry.seq) old new o) c.in-Some.is c.in_ok-entry.ensures.stepped in
    record {
      same = law.unchanged_onward _ _ _ inv.same c.in_ok-entry.ensures.unchanged;
      counted = c.in_ok-entry.ensures.cause.exact ∙ inv.counted;
      read =
          let longer : length c.push.new.self ≡ length entries + 1 = ap length c.in_ok-push.ensures.ok ∙ one_longer entries e in
          let so_far = inv.read in
          let step = c.in_ok-entry.ensures.reads in
          omega (arith, longer, so_far, step);
      left = λ es t. reads_on _ _ _ _ _ _ e (inv.left es t) c.in_ok-entry.ensures.reads (stepped.rest es (known ∙ t));
      valid = λ unknown. stepped.valid (known ∙ unknown);
      rise = subst (λ (es : Entries). RisesTo new.next es) (sym c.in_ok-push.ensures.ok) (rises_on e new.next entries (subst (λ (o : Option (Key × Record)). RisesTo o entries) (sym stepped.entry) inv.rise) stepped.above);
      gathered = λ es t.
          subst (λ (v : Entries). v ++ still_to_come new es ≡ c.args.entries.now ++ still_to_come c.args.walk.now es) (sym c.in_ok-push.ensures.ok)
          (append_assoc entries (e ∷ []) (still_to_come new es) ∙ ap (λ v. entries ++ v) (sym (stepped.rest es (known ∙ t))) ∙ inv.gathered es t);
    }

pub returns-clause-reads : goal.returns-clause-reads
returns-clause-reads g c =
    let so_far = c.loop-entry.invariant.read in
    let step = c.in_ok-entry.ensures.at_end (sym c.in_ok-entry.ensures.stepped.entry ∙ c.in_default.is) in
    omega (arith, so_far, step)

pub returns-in_err-entry-clause-within : goal.returns-in_err-entry-clause-within
returns-in_err-entry-clause-within g c es t =
    let known = g.met.S.NodeRead.unchanged_contents _ _ c.loop-entry.invariant.same in
    reads_so_far _ _ _ (still_to_come c.args.walk.now es) (still_to_come c.loop-entry.walk es) (c.loop-entry.invariant.left es t) (c.in_err-entry.ensures.within es (known ∙ t))

pub returns-in_err-push-clause-within : goal.returns-in_err-push-clause-within
returns-in_err-push-clause-within g c es t =
    let known = g.met.S.NodeRead.unchanged_contents _ _ c.loop-entry.invariant.same in
    reads_so_far _ _ _ (still_to_come c.args.walk.now es) (still_to_come c.loop-entry.walk es) (c.loop-entry.invariant.left es t) (c.in_ok-entry.ensures.within es (known ∙ t))

pub returns-clause-within : goal.returns-clause-within
returns-clause-within g c es t =
    let known = g.met.S.NodeRead.unchanged_contents _ _ c.loop-entry.invariant.same in
    reads_so_far _ _ _ (still_to_come c.args.walk.now es) (still_to_come c.loop-entry.walk es) (c.loop-entry.invariant.left es t) (c.in_ok-entry.ensures.within es (known ∙ t))

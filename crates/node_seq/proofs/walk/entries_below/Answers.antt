use Rattle.std.proofs.Common.{◌≡◌, ℕ, ◌+◌, ◌<◌, ◌≤◌, ◌++◌, ◌∷◌, [], length, length-append, arith, reverse, Option, Some, None, sym, ap, subst, ◌∙◌}
use Rattle.tree_model.specs.declared.key.Key.{Key}
use Rattle.tree_model.specs.declared.record.Record.{Record}
use Rattle.tree_model.specs.Entries.{Entries, entries_below}
use Rattle.node_seq.specs.Reads.{IsEntryOfTrees}
use Rattle.node_seq.proofs.Walks.{left_downwards, falls_downwards, back_from_found, back_found, back_step, back_ended}
use Rattle.node_seq.proofs.walk.entries_below.Goals as goal

more_read : (a b c : ℕ) (out : Entries) (e : Key × Record) (new : Entries) → new ≡ out ++ e ∷ [] → b ≤ a + (length out + 1) → c ≤ b + 1 → c ≤ a + (length new + 1)
more_read a b c out e new is h g = subst (λ (v : Entries). c ≤ a + (length v + 1)) (sym is) (let len = length-append out (e ∷ []) in omega (arith, len, h, g))

pub loop-found-init : goal.loop-found-init
loop-found-init g c =
    let law = g.met.S.NodeRead in
    let found = c.in_ok-found.found in
    record {
      same = c.in_ok-found.ensures.unchanged;
      counted = c.in_ok-found.ensures.cause.exact;
      reads = let r = c.prev_from.ensures.reads in subst (λ (v : Entries). g.S.NodeRead.reads c.prev_from.new.self ≤ g.S.NodeRead.reads c.args.seq.now + (length v + 1)) (sym c.new-out.ensures) (omega (arith, r));
      valid = c.in_ok-found.ensures.valid;
      walked = λ es t. ap (λ v. v ++ back_from_found found es) c.new-out.ensures ∙ back_found c.args.key.now found es (c.faults-faults.ensures.in_order es t) (c.in_ok-found.ensures.value es t);
    }

pub loop-found-smaller : goal.loop-found-smaller
loop-found-smaller g c =
    let law = g.met.S.NodeRead in
    let contents = g.S.NodeRead.contents in
    let inv = c.loop-found.invariant in
    let entry : Key × Record = (c.in-Some.at, c.in-Some.record) in
    let found = c.in_ok-found-2.ensures in
    let valid : contents c.args.seq.now ≡ None → IsEntryOfTrees (Some entry) = subst (λ (o : Option (Key × Record)). contents c.args.seq.now ≡ None → IsEntryOfTrees o) c.in-Some.is inv.valid in
    subst (λ (o : Option (Key × Record)). left_downwards (contents c.args.seq.now) c.in_ok-found-2.found < left_downwards (contents c.args.seq.now) o) (sym c.in-Some.is)
    (falls_downwards _ _ entry c.in-Some.at c.in_ok-found-2.found (law.unchanged_contents _ _ inv.same) valid found.value found.below found.valid)

pub loop-found-preserved : goal.loop-found-preserved
loop-found-preserved g c =
    let law = g.met.S.NodeRead in
    let inv = c.loop-found.invariant in
    let out = c.loop-found.out in
    let entry : Key × Record = (c.in-Some.at, c.in-Some.record) in
    let found = c.in_ok-found-2.found in
    record {
      same = law.unchanged_onward _ _ _ inv.same c.in_ok-found-2.ensures.unchanged;
      counted = c.in_ok-found-2.ensures.cause.exact ∙ inv.counted;
      reads = more_read (g.S.NodeRead.reads c.args.seq.now) (g.S.NodeRead.reads c.loop-found.seq) (g.S.NodeRead.reads c.prev_from-in-Some.new.self) out entry _ c.in_ok-push.ensures.ok inv.reads c.prev_from-in-Some.ensures.reads;
      valid = λ unknown. c.in_ok-found-2.ensures.valid (law.unchanged_contents _ _ inv.same ∙ unknown);
      walked = λ es t.
          let so_far : out ++ back_from_found (Some entry) es ≡ reverse (entries_below c.args.key.now es) = subst (λ (o : Option (Key × Record)). out ++ back_from_found o es ≡ reverse (entries_below c.args.key.now es)) c.in-Some.is (inv.walked es t) in
          let contents = law.unchanged_contents _ _ inv.same ∙ t in
          subst (λ (v : Entries). v ++ back_from_found found es ≡ reverse (entries_below c.args.key.now es)) (sym c.in_ok-push.ensures.ok) (back_step out (reverse (entries_below c.args.key.now es)) entry found es (c.faults-faults.ensures.in_order es t) so_far (c.in_ok-found-2.ensures.value es contents));
    }

pub returns-clause-value : goal.returns-clause-value
returns-clause-value g c es t = back_ended c.loop-found.out (reverse (entries_below c.args.key.now es)) c.loop-found.found es c.in_default.not-Some (c.loop-found.invariant.walked es t)

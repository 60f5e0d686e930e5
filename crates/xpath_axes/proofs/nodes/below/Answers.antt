use Rattle.std.proofs.Common.{◌≡◌, ◌<◌, ◌++◌, List, [], ◌∷◌, Option, Some, None, Less, length, length-append, append-nil, append_assoc, sym, ap, subst, ◌∙◌, arith}
use Rattle.dewey_labels.specs.Labels.{Label}
use Rattle.tree_model.specs.declared.key.Key.{Key}
use Rattle.tree_model.specs.declared.record.Record.{Record}
use Rattle.tree_model.specs.Keys.{key_cmp, node_key}
use Rattle.tree_model.specs.Entries.{first_above}
use Rattle.tree_model.specs.Tree.{map_of, at as node_at}
use Rattle.node_seq.specs.Reads.{IsEntryOfTrees}
use Rattle.node_seq.specs.WalkSteps.{steps_left}
use Rattle.node_seq.proofs.Walks.{falls_upwards, above_earlier}
use Rattle.path_model.specs.Positions as path
use Rattle.xpath_axes.specs.declared.position.Position.TheVariants.{Node}
use Rattle.xpath_axes.specs.Positions.{all_plain}
use Rattle.xpath_axes.specs.inside.Walks.{node_under, nodes_below}
use Rattle.xpath_axes.proofs.NodeWalks.{Left, left_begins, left_goes, one_left, entry_of, kept_under, before_behind}
use Rattle.xpath_axes.proofs.ReadCounts.{plain_pushed, reads_on, reads_at_end}
use Rattle.xpath_axes.proofs.nodes.below.Goals as goal

pub loop-next-init : goal.loop-next-init
loop-next-init g c =
    let l = c.args.at.now in
    let found = c.in_ok-next_from.field-0 in
    record {
      same = c.in_ok-next_from.ensures.unchanged;
      counted = c.in_ok-next_from.ensures.cause.exact;
      read = let step = c.in_ok-next_from.ensures.reads in omega (arith, step);
      valid = λ unknown. subst (λ o. IsEntryOfTrees (entry_of o)) (sym c.node_under-next.ensures) (kept_under IsEntryOfTrees tt l found (c.in_ok-next_from.ensures.valid unknown));
      walked = λ t stands r.
          let value = c.in_ok-next_from.ensures.value (map_of t) stands.map ∙ ap (λ k. first_above k (map_of t)) c.in_ok-key.ensures in (
            [],
            sym (append-nil (all_plain c.args.before)),
            subst (Left c.args.reach l t []) (sym c.node_under-next.ensures) (left_begins c.args.reach l t found stands.valid c.divisions-divisions.ensures.label.0 r value),
          );
    }

pub loop-next-smaller : goal.loop-next-smaller
loop-next-smaller g c =
    let law = g.met.S.NodeRead in
    let contents = g.S.NodeRead.contents c.args.seq.now in
    let inv = c.loop-next.invariant in
    let node : Label × Record = (c.in-Some.label, c.in-Some.record) in
    let entry : Key × Record = (node_key c.in-Some.label, c.in-Some.record) in
    let found = c.in_ok-next_from-2.field-0 in
    let key = c.in_ok-key-2.key in
    let valid : contents ≡ None → IsEntryOfTrees (Some entry) = subst (λ (o : Option (Label × Record)). contents ≡ None → IsEntryOfTrees (entry_of o)) c.in-Some.is inv.valid in
    let behind : key_cmp entry.0 key ≡ Less = subst (λ k. key_cmp entry.0 k ≡ Less) (sym c.in_ok-key-2.ensures) (before_behind c.args.reach c.in-Some.label c.in-Some.record c.divisions-divisions-in-Some.ensures.label.1) in
    let falls : steps_left contents found < steps_left contents (Some entry) =
    falls_upwards contents (g.S.NodeRead.contents c.loop-next.seq) entry key found (law.unchanged_contents _ _ inv.same) valid c.in_ok-next_from-2.ensures.value
    (above_earlier entry.0 key found behind c.in_ok-next_from-2.ensures.above) c.in_ok-next_from-2.ensures.valid in
    let smaller : steps_left contents (entry_of (node_under c.args.at.now found)) < steps_left contents (Some entry) =
    kept_under (λ o. steps_left contents o < steps_left contents (Some entry)) (omega (arith, falls)) c.args.at.now found falls in
    subst (λ (o : Option (Label × Record)). steps_left contents (entry_of c.node_under-next-in-Some.result) < steps_left contents (entry_of o)) (sym c.in-Some.is)
    (subst (λ (o : Option (Label × Record)). steps_left contents (entry_of o) < steps_left contents (Some entry)) (sym c.node_under-next-in-Some.ensures) smaller)

pub loop-next-preserved : goal.loop-next-preserved
loop-next-preserved g c =
    let law = g.met.S.NodeRead in
    let inv = c.loop-next.invariant in
    let l = c.args.at.now in
    let reach = c.args.reach in
    let label = c.in-Some.label in
    let met = c.loop-next.found in
    let found = c.in_ok-next_from-2.field-0 in
    record {
      same = law.unchanged_onward _ _ _ inv.same c.in_ok-next_from-2.ensures.unchanged;
      counted = c.in_ok-next_from-2.ensures.cause.exact ∙ inv.counted;
      read =
          let longer = ap length c.in_ok-push.ensures.ok ∙ length-append met (Node label c.in-Some.record ∷ []) in
          let so_far = inv.read in
          let step = c.in_ok-next_from-2.ensures.reads in
          omega (arith, longer, so_far, step);
      valid = λ unknown. subst (λ o. IsEntryOfTrees (entry_of o)) (sym c.node_under-next-in-Some.ensures)
          (kept_under IsEntryOfTrees tt l found (c.in_ok-next_from-2.ensures.valid (law.unchanged_contents _ _ inv.same ∙ unknown)));
      walked = λ t stands r.
          let w = inv.walked t stands r in
          let was : Left reach l t w.0 (Some (label, c.in-Some.record)) = subst (Left reach l t w.0) c.in-Some.is w.2 in
          let value = c.in_ok-next_from-2.ensures.value (map_of t) (law.unchanged_contents _ _ inv.same ∙ stands.map) ∙ ap (λ k. first_above k (map_of t)) c.in_ok-key-2.ensures in
          let more : List path.Position = path.a_node label c.in-Some.record ∷ [] in (
            w.0 ++ more,
            ap all_plain c.in_ok-push.ensures.ok ∙ plain_pushed met (Node label c.in-Some.record) ∙ ap (λ ps. ps ++ more) w.1 ∙ append_assoc (all_plain c.args.before) w.0 more,
            subst (Left reach l t (w.0 ++ more)) (sym c.node_under-next-in-Some.ensures) (left_goes reach l t w.0 label c.in-Some.record found stands.valid c.divisions-divisions.ensures.label.0 was value),
          );
    }

pub returns-clause-seen : goal.returns-clause-seen
returns-clause-seen g c = λ t stands r.
    let w = c.loop-next.invariant.walked t stands r in
    w.1 ∙ ap (λ o. all_plain c.args.before ++ o) (subst (Left c.args.reach c.args.at.now t w.0) c.in_default.is w.2)

pub returns-clause-reads_of_tree : goal.returns-clause-reads_of_tree
returns-clause-reads_of_tree g c t stands r =
    let w = c.loop-next.invariant.walked t stands r in
    reads_at_end _ _ c.args.before c.loop-next.found w.0 (nodes_below c.args.reach (node_at c.args.at.now t.documents)) c.loop-next.invariant.read w.1
    (subst (Left c.args.reach c.args.at.now t w.0) c.in_default.is w.2)

pub returns-in_err-key-2-clause-reads_of_tree : goal.returns-in_err-key-2-clause-reads_of_tree
returns-in_err-key-2-clause-reads_of_tree g c t stands r =
    let w = c.loop-next.invariant.walked t stands r in
    let was : Left c.args.reach c.args.at.now t w.0 (Some (c.in-Some.label, c.in-Some.record)) = subst (Left c.args.reach c.args.at.now t w.0) c.in-Some.is w.2 in
    let more = one_left c.args.reach c.args.at.now t w.0 c.in-Some.label c.in-Some.record stands.valid c.divisions-divisions.ensures.label.0 was in
    reads_on _ _ _ c.args.before c.loop-next.found w.0 (length (nodes_below c.args.reach (node_at c.args.at.now t.documents))) c.loop-next.invariant.read w.1 more (omega arith)

pub returns-in_err-next_from-2-clause-reads_of_tree : goal.returns-in_err-next_from-2-clause-reads_of_tree
returns-in_err-next_from-2-clause-reads_of_tree g c t stands r =
    let w = c.loop-next.invariant.walked t stands r in
    let was : Left c.args.reach c.args.at.now t w.0 (Some (c.in-Some.label, c.in-Some.record)) = subst (Left c.args.reach c.args.at.now t w.0) c.in-Some.is w.2 in
    let more = one_left c.args.reach c.args.at.now t w.0 c.in-Some.label c.in-Some.record stands.valid c.divisions-divisions.ensures.label.0 was in
    reads_on _ _ _ c.args.before c.loop-next.found w.0 (length (nodes_below c.args.reach (node_at c.args.at.now t.documents))) c.loop-next.invariant.read w.1 more c.in_err-next_from-2.ensures.reads

pub returns-in_err-push-clause-reads_of_tree : goal.returns-in_err-push-clause-reads_of_tree
returns-in_err-push-clause-reads_of_tree g c t stands r =
    let w = c.loop-next.invariant.walked t stands r in
    let was : Left c.args.reach c.args.at.now t w.0 (Some (c.in-Some.label, c.in-Some.record)) = subst (Left c.args.reach c.args.at.now t w.0) c.in-Some.is w.2 in
    let more = one_left c.args.reach c.args.at.now t w.0 c.in-Some.label c.in-Some.record stands.valid c.divisions-divisions.ensures.label.0 was in
    reads_on _ _ _ c.args.before c.loop-next.found w.0 (length (nodes_below c.args.reach (node_at c.args.at.now t.documents))) c.loop-next.invariant.read w.1 more c.in_ok-next_from-2.ensures.reads

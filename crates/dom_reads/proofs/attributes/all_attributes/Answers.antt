use Rattle.std.proofs.Common.{◌≡◌, ◌<◌, ◌++◌, ℕ, List, Option, Some, None, sym, ap, subst, ◌∙◌, arith, append-nil, ◌+◌, [], ◌∷◌, length}
use Rattle.tree_model.specs.declared.key.Key.{Key}
use Rattle.tree_model.specs.declared.record.Record.{Record}
use Rattle.tree_model.specs.declared.record.Record.TheVariants.{Attr}
use Rattle.tree_model.specs.Entries.{first_above}
use Rattle.tree_model.specs.Places.{attributes_at}
use Rattle.tree_model.specs.Tree.{map_of}
use Rattle.node_seq.specs.Reads.{IsEntryOfTrees}
use Rattle.node_seq.specs.WalkSteps.{steps_left}
use Rattle.node_seq.proofs.Walks.{falls_upwards}
use Rattle.dom_reads.specs.inside.AttributeWalks.{attribute_of}
use Rattle.dom_reads.proofs.AttributeWalks.{attributes_from, attributes_begin, attributes_go_on, entry_of, no_more_steps, valid_attribute}
use Rattle.dom_reads.proofs.WalkReads.{met_before, one_longer}
use Rattle.dom_reads.proofs.attributes.all_attributes.Goals as goal

pub loop-next-init : goal.loop-next-init
loop-next-init g c =
    let l = c.args.at.now in
    let found = c.in_ok-next_from.field-0 in
    record {
      same = c.in_ok-next_from.ensures.unchanged;
      counted = c.in_ok-next_from.ensures.cause.exact;
      read =
          let none : length c.new-attributes.result ≡ 0 = ap length c.new-attributes.ensures in
          let step = c.in_ok-next_from.ensures.reads in
          omega (arith, none, step);
      valid = λ unknown. subst (λ o. IsEntryOfTrees (entry_of o)) (sym c.attribute_of-next.ensures) (valid_attribute l found (c.in_ok-next_from.ensures.valid unknown));
      walked = λ t stands.
          let value = c.in_ok-next_from.ensures.value (map_of t) stands.map ∙ ap (λ k. first_above k (map_of t)) c.in_ok-key.ensures in
          (λ i. c.new-attributes.ensures i ++ attributes_from l (map_of t) (c.attribute_of-next.ensures i)) ∙ attributes_begin l t found stands.valid value;
    }

pub loop-next-smaller : goal.loop-next-smaller
loop-next-smaller g c =
    let law = g.met.S.NodeRead in
    let contents = g.S.NodeRead.contents c.args.seq.now in
    let inv = c.loop-next.invariant in
    let entry : Key × Record = (c.in-Some.key, Attr c.in-Some.value) in
    let found = c.in_ok-next_from-2.field-0 in
    let valid : contents ≡ None → IsEntryOfTrees (Some entry) = subst (λ (o : Option (Key × List ℕ)). contents ≡ None → IsEntryOfTrees (entry_of o)) c.in-Some.is inv.valid in
    let falls = falls_upwards contents (g.S.NodeRead.contents c.loop-next.seq) entry c.in-Some.key found (law.unchanged_contents _ _ inv.same) valid c.in_ok-next_from-2.ensures.value c.in_ok-next_from-2.ensures.above c.in_ok-next_from-2.ensures.valid in
    let no_more = no_more_steps contents c.args.at.now found in
    let smaller : steps_left contents (entry_of (attribute_of c.args.at.now found)) < steps_left contents (Some entry) = omega (arith, falls, no_more) in
    subst (λ (o : Option (Key × List ℕ)). steps_left contents (entry_of c.attribute_of-next-in-Some.result) < steps_left contents (entry_of o)) (sym c.in-Some.is)
    (subst (λ (o : Option (Key × List ℕ)). steps_left contents (entry_of o) < steps_left contents (Some entry)) (sym c.attribute_of-next-in-Some.ensures) smaller)

pub loop-next-preserved : goal.loop-next-preserved
loop-next-preserved g c =
    let law = g.met.S.NodeRead in
    let inv = c.loop-next.invariant in
    let l = c.args.at.now in
    let met = c.loop-next.attributes in
    let read : Key × List ℕ = (c.in-Some.key, c.in-Some.value) in
    let found = c.in_ok-next_from-2.field-0 in
    record {
      same = law.unchanged_onward _ _ _ inv.same c.in_ok-next_from-2.ensures.unchanged;
      counted = c.in_ok-next_from-2.ensures.cause.exact ∙ inv.counted;
      read =
          let longer : length c.push.new.self ≡ length met + 1 = ap length c.in_ok-push.ensures.ok ∙ one_longer met (c.in-Some.key.name, c.in-Some.value) in
          let so_far = inv.read in
          let step = c.in_ok-next_from-2.ensures.reads in
          omega (arith, longer, so_far, step);
      valid = λ unknown. subst (λ o. IsEntryOfTrees (entry_of o)) (sym c.attribute_of-next-in-Some.ensures) (valid_attribute l found (c.in_ok-next_from-2.ensures.valid (law.unchanged_contents _ _ inv.same ∙ unknown)));
      walked = λ t stands.
          let so_far : met ++ attributes_from l (map_of t) (Some read) ≡ attributes_at l t = subst (λ (o : Option (Key × List ℕ)). met ++ attributes_from l (map_of t) o ≡ attributes_at l t) c.in-Some.is (inv.walked t stands) in
          let value = c.in_ok-next_from-2.ensures.value (map_of t) (law.unchanged_contents _ _ inv.same ∙ stands.map) in
          (λ i. c.in_ok-push.ensures.ok i ++ attributes_from l (map_of t) (c.attribute_of-next-in-Some.ensures i)) ∙ attributes_go_on l t met read found stands.valid so_far value;
    }

pub returns-clause-found : goal.returns-clause-found
returns-clause-found g c = λ t stands.
    let l = c.args.at.now in
    let met = c.loop-next.attributes in
    sym (append-nil met) ∙ subst (λ (o : Option (Key × List ℕ)). met ++ attributes_from l (map_of t) o ≡ attributes_at l t) c.in_default.is (c.loop-next.invariant.walked t stands)

pub returns-clause-reads : goal.returns-clause-reads
returns-clause-reads g c = c.loop-next.invariant.read

pub returns-in_err-next_from-2-clause-reads_of_tree : goal.returns-in_err-next_from-2-clause-reads_of_tree
returns-in_err-next_from-2-clause-reads_of_tree g c t stands =
    let l = c.args.at.now in
    let met = c.loop-next.attributes in
    let read : Key × List ℕ = (c.in-Some.key, c.in-Some.value) in
    let inv = c.loop-next.invariant in
    let so_far : met ++ attributes_from l (map_of t) (Some read) ≡ attributes_at l t = subst (λ (o : Option (Key × List ℕ)). met ++ attributes_from l (map_of t) o ≡ attributes_at l t) c.in-Some.is (inv.walked t stands) in
    let more = met_before met _ (attributes_at l t) (c.in-Some.key.name, c.in-Some.value) so_far in
    let before = inv.read in
    let step = c.in_err-next_from-2.ensures.reads in
    omega (arith, more, before, step)

pub returns-in_err-push-clause-reads_of_tree : goal.returns-in_err-push-clause-reads_of_tree
returns-in_err-push-clause-reads_of_tree g c t stands =
    let l = c.args.at.now in
    let met = c.loop-next.attributes in
    let read : Key × List ℕ = (c.in-Some.key, c.in-Some.value) in
    let inv = c.loop-next.invariant in
    let so_far : met ++ attributes_from l (map_of t) (Some read) ≡ attributes_at l t = subst (λ (o : Option (Key × List ℕ)). met ++ attributes_from l (map_of t) o ≡ attributes_at l t) c.in-Some.is (inv.walked t stands) in
    let more = met_before met _ (attributes_at l t) (c.in-Some.key.name, c.in-Some.value) so_far in
    let before = inv.read in
    let step = c.in_ok-next_from-2.ensures.reads in
    omega (arith, more, before, step)

pub returns-clause-reads_of_tree : goal.returns-clause-reads_of_tree
returns-clause-reads_of_tree g c t stands =
    let l = c.args.at.now in
    let met = c.loop-next.attributes in
    let all : length met ≡ length (attributes_at l t) = ap length
    (sym (append-nil met) ∙ subst (λ (o : Option (Key × List ℕ)). met ++ attributes_from l (map_of t) o ≡ attributes_at l t) c.in_default.is (c.loop-next.invariant.walked t stands)) in
    let read = c.loop-next.invariant.read in
    omega (arith, all, read)

use Rattle.std.proofs.Common.{◌≡◌, ◌<◌, ◌++◌, ℕ, List, [], ◌∷◌, Option, Some, None, IfSome, length, length-append, append-nil, sym, ap, subst, ◌∙◌, arith}
use Rattle.tree_model.specs.declared.key.Key.{Key}
use Rattle.tree_model.specs.declared.record.Record.{Record}
use Rattle.tree_model.specs.declared.record.Record.TheVariants.{Attr}
use Rattle.tree_model.specs.Entries.{first_above}
use Rattle.tree_model.specs.Tree.{map_of, attributes_of}
use Rattle.node_seq.specs.Reads.{IsEntryOfTrees}
use Rattle.node_seq.specs.WalkSteps.{steps_left}
use Rattle.node_seq.proofs.Walks.{falls_upwards}
use Rattle.path_model.specs.Positions as path
use Rattle.xpath_axes.specs.declared.position.Position.TheVariants.{Attribute}
use Rattle.xpath_axes.specs.Positions.{all_plain}
use Rattle.xpath_axes.specs.inside.Walks.{attribute_of}
use Rattle.xpath_axes.proofs.AttributeWalks.{MetOf, attributes_begin, attributes_go_on, its_label, entry_of, no_more_steps, valid_attribute}
use Rattle.xpath_axes.proofs.ReadCounts.{plain_pushed}
use Rattle.xpath_axes.proofs.SingleLooks.{root_is_none}
use Rattle.xpath_axes.proofs.attributes.at_attributes.Goals as goal

pub returns-then-is_root-clause-seen : goal.returns-then-is_root-clause-seen
returns-then-is_root-clause-seen g c = λ t stands.
    let l = c.args.at.now in
    ap all_plain c.new-found.ensures ∙ ap (λ f. path.attributes_at l (attributes_of f)) (sym (root_is_none l t stands.valid (sym c.is_root.ensures ∙ c.if-is_root.true)))

pub loop-next-init : goal.loop-next-init
loop-next-init g c =
    let l = c.args.at.now in
    let found = c.in_ok-next_from.field-0 in
    record {
      same = c.in_ok-next_from.ensures.unchanged;
      counted = c.in_ok-next_from.ensures.cause.exact;
      read =
          let none : length c.new-found.result ≡ 0 = ap length c.new-found.ensures in
          let step = c.in_ok-next_from.ensures.reads in
          omega (arith, none, step);
      label = subst (λ (o : Option (Key × List ℕ)). IfSome o (λ a. a.0.label ≡ l)) (sym c.attribute_of-next.ensures) (its_label l found);
      valid = λ unknown. subst (λ o. IsEntryOfTrees (entry_of o)) (sym c.attribute_of-next.ensures) (valid_attribute l found (c.in_ok-next_from.ensures.valid unknown));
      walked = λ t stands.
          let value = c.in_ok-next_from.ensures.value (map_of t) stands.map ∙ ap (λ k. first_above k (map_of t)) c.in_ok-key.ensures in
          subst (λ (ps : List path.Position). MetOf l t ps c.attribute_of-next.result) (sym (ap all_plain c.new-found.ensures))
          (subst (MetOf l t []) (sym c.attribute_of-next.ensures) (attributes_begin l t found stands.valid (sym c.is_root.ensures ∙ c.if-is_root.false) value));
    }

pub loop-next-smaller : goal.loop-next-smaller
loop-next-smaller g c =
    let law = g.met.S.NodeRead in
    let contents = g.S.NodeRead.contents c.args.seq.now in
    let inv = c.loop-next.invariant in
    let entry : Key × Record = (c.in-Some.key, Attr c.in-Some.value) in
    let found = c.in_ok-next_from-2.field-0 in
    let valid : contents ≡ None → IsEntryOfTrees (Some entry) = subst (λ (o : Option (Key × List ℕ)). contents ≡ None → IsEntryOfTrees (entry_of o)) c.in-Some.is inv.valid in
    let falls = falls_upwards contents (g.S.NodeRead.contents c.loop-next.seq) entry c.in-Some.key found (law.unchanged_contents _ _ inv.same) valid c.in_ok-next_from-2.ensures.value c.in_ok-next_from-2.ensures.above c.in_ok-next_from-2.ensures.valid in
    let no_more = no_more_steps contents c.args.at.now found in
    let smaller : steps_left contents (entry_of (attribute_of c.args.at.now found)) < steps_left contents (Some entry) = omega (arith, falls, no_more) in
    subst (λ (o : Option (Key × List ℕ)). steps_left contents (entry_of c.attribute_of-next-in-Some.result) < steps_left contents (entry_of o)) (sym c.in-Some.is)
    (subst (λ (o : Option (Key × List ℕ)). steps_left contents (entry_of o) < steps_left contents (Some entry)) (sym c.attribute_of-next-in-Some.ensures) smaller)

pub loop-next-preserved : goal.loop-next-preserved
loop-next-preserved g c =
    let law = g.met.S.NodeRead in
    let inv = c.loop-next.invariant in
    let l = c.args.at.now in
    let met = c.loop-next.found in
    let read : Key × List ℕ = (c.in-Some.key, c.in-Some.value) in
    let label : c.in-Some.key.label ≡ l = subst (λ (o : Option (Key × List ℕ)). IfSome o (λ a. a.0.label ≡ l)) c.in-Some.is inv.label in
    let pushed = Attribute c.in-Some.key.label c.in-Some.key.name c.in-Some.value in
    let found = c.in_ok-next_from-2.field-0 in
    record {
      same = law.unchanged_onward _ _ _ inv.same c.in_ok-next_from-2.ensures.unchanged;
      counted = c.in_ok-next_from-2.ensures.cause.exact ∙ inv.counted;
      read =
          let longer = ap length c.in_ok-push.ensures.ok ∙ length-append met (pushed ∷ []) in
          let so_far = inv.read in
          let step = c.in_ok-next_from-2.ensures.reads in
          omega (arith, longer, so_far, step);
      label = subst (λ (o : Option (Key × List ℕ)). IfSome o (λ a. a.0.label ≡ l)) (sym c.attribute_of-next-in-Some.ensures) (its_label l found);
      valid = λ unknown. subst (λ o. IsEntryOfTrees (entry_of o)) (sym c.attribute_of-next-in-Some.ensures) (valid_attribute l found (c.in_ok-next_from-2.ensures.valid (law.unchanged_contents _ _ inv.same ∙ unknown)));
      walked = λ t stands.
          let so_far : MetOf l t (all_plain met) (Some read) = subst (MetOf l t (all_plain met)) c.in-Some.is (inv.walked t stands) in
          let value = c.in_ok-next_from-2.ensures.value (map_of t) (law.unchanged_contents _ _ inv.same ∙ stands.map) in
          let all : all_plain c.push.new.self ≡ all_plain met ++ path.an_attribute l c.in-Some.key.name c.in-Some.value ∷ [] =
          ap all_plain c.in_ok-push.ensures.ok ∙ plain_pushed met pushed ∙ ap (λ k. all_plain met ++ path.an_attribute k c.in-Some.key.name c.in-Some.value ∷ []) label in
          subst (λ (ps : List path.Position). MetOf l t ps c.attribute_of-next-in-Some.result) (sym all)
          (subst (MetOf l t (all_plain met ++ path.an_attribute l c.in-Some.key.name c.in-Some.value ∷ [])) (sym c.attribute_of-next-in-Some.ensures)
          (attributes_go_on l t (all_plain met) read found stands.valid so_far value));
    }

pub returns-clause-seen : goal.returns-clause-seen
returns-clause-seen g c = λ t stands.
    let l = c.args.at.now in
    let met = all_plain c.loop-next.found in
    sym (append-nil met) ∙ subst (MetOf l t met) c.in_default.is (c.loop-next.invariant.walked t stands)

pub returns-clause-reads : goal.returns-clause-reads
returns-clause-reads g c = c.loop-next.invariant.read

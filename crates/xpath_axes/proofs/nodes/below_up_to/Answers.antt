use Rattle.std.proofs.Common.{◌≡◌, ◌<◌, ◌≤◌, ◌++◌, ℕ, zero, suc, Bool, [], ◌∷◌, Option, Some, None, Less, length, refl, sym, ap, subst, ◌∙◌, arith}
use Rattle.dewey_labels.specs.Labels.{Label}
use Rattle.tree_model.specs.declared.key.Key.{Key}
use Rattle.tree_model.specs.declared.record.Record.{Record}
use Rattle.tree_model.specs.Keys.{key_cmp, node_key}
use Rattle.tree_model.specs.Entries.{first_above}
use Rattle.tree_model.specs.Tree.{map_of}
use Rattle.node_seq.specs.Reads.{IsEntryOfTrees}
use Rattle.node_seq.specs.WalkSteps.{steps_left}
use Rattle.node_seq.proofs.Walks.{falls_upwards, above_earlier}
use Rattle.path_model.specs.Positions as path
use Rattle.xpath_axes.specs.Positions.{all_plain}
use Rattle.xpath_axes.specs.inside.Walks.{node_under}
use Rattle.xpath_axes.proofs.NodeWalks.{Left, left_begins, left_goes, coming, entry_of, kept_under, before_behind}
use Rattle.xpath_axes.proofs.RowLimits.{longer, one_put, all_met, all_read, next_read, enough_met}
use Rattle.xpath_axes.proofs.nodes.below_up_to.Goals as goal

less_unless : (m n : ℕ) → m ≤ n → (m ≡ n → ⊥) → m < n
less_unless zero zero l h = absurd (h refl)
less_unless zero (suc n) l h = omega arith
less_unless (suc m) zero l h = absurd (omega (arith, l))
less_unless (suc m) (suc n) l h = let e = less_unless m n (omega (arith, l)) (λ e. h (ap suc e)) in omega (arith, e)

some_room : (n : ℕ) → (n ≡ 0 → ⊥) → 0 < n
some_room n h = less_unless 0 n (omega arith) (λ e. h (sym e))

pub loop-next-init : goal.loop-next-init
loop-next-init g c =
    let l = c.args.at.now in
    let q : path.Position → Bool = path.passes c.args.axis c.args.test.now in
    let found = c.in_ok-next_from.field-0 in
    record {
      same = c.in_ok-next_from.ensures.unchanged;
      counted = c.in_ok-next_from.ensures.cause.exact;
      room_left = let none = ap length c.new-found.ensures in let some = some_room c.args.room c.if-room-eq0.false in omega (arith, none, some);
      valid = λ unknown. subst (λ o. IsEntryOfTrees (entry_of o)) (sym c.node_under-next.ensures) (kept_under IsEntryOfTrees tt l found (c.in_ok-next_from.ensures.valid unknown));
      walked = λ t stands r.
          let value = c.in_ok-next_from.ensures.value (map_of t) stands.map ∙ ap (λ k. first_above k (map_of t)) c.in_ok-key.ensures in
          let step = c.in_ok-next_from.ensures.reads in (
            [],
            ap all_plain c.new-found.ensures,
            omega (arith, step),
            subst (Left c.args.reach l t []) (sym c.node_under-next.ensures) (left_begins c.args.reach l t found stands.valid c.divisions-divisions.ensures.label.0 r value),
          );
    }

pub loop-next-smaller : goal.loop-next-smaller
loop-next-smaller g c =
    let law = g.met.S.NodeRead in
    let contents = g.S.NodeRead.contents c.args.seq.now in
    let inv = c.loop-next.invariant in
    let entry : Key × Record = (node_key c.in-Some.label, c.in-Some.record) in
    let found = c.in_ok-next_from-2.field-0 in
    let key = c.in_ok-key-2.key in
    let valid : contents ≡ None → IsEntryOfTrees (Some entry) = subst (λ (o : Option (Label × Record)). contents ≡ None → IsEntryOfTrees (entry_of o)) c.in-Some.is inv.valid in
    let behind : key_cmp entry.0 key ≡ Less = subst (λ k. key_cmp entry.0 k ≡ Less) (sym c.in_ok-key-2.ensures) (before_behind c.args.reach c.in-Some.label c.in-Some.record c.divisions-divisions-in-Some.ensures.label.1) in
    let falls : steps_left contents found < steps_left contents (Some entry) =
    falls_upwards contents (g.S.NodeRead.contents c.loop-next.seq) entry key found (law.unchanged_contents _ _ inv.same) valid c.in_ok-next_from-2.ensures.value
    (above_earlier entry.0 key found behind c.in_ok-next_from-2.ensures.above) c.in_ok-next_from-2.ensures.valid in
    let smaller : steps_left contents (entry_of (node_under c.args.at.now found)) < steps_left contents (Some entry) =
    kept_under (λ o. steps_left contents o < steps_left contents (Some entry)) (omega (arith, falls)) c.args.at.now found falls in
    subst (λ (o : Option (Label × Record)). steps_left contents (entry_of c.node_under-next-in-Some.result) < steps_left contents (entry_of o)) (sym c.in-Some.is)
    (subst (λ (o : Option (Label × Record)). steps_left contents (entry_of o) < steps_left contents (Some entry)) (sym c.node_under-next-in-Some.ensures) smaller)

pub loop-next-preserved : goal.loop-next-preserved
loop-next-preserved g c =
    let law = g.met.S.NodeRead in
    let inv = c.loop-next.invariant in
    let l = c.args.at.now in
    let q : path.Position → Bool = path.passes c.args.axis c.args.test.now in
    let n : path.Position = path.a_node c.in-Some.label c.in-Some.record in
    let found = c.in_ok-next_from-2.field-0 in
    record {
      same = law.unchanged_onward _ _ _ inv.same c.in_ok-next_from-2.ensures.unchanged;
      counted = c.in_ok-next_from-2.ensures.cause.exact ∙ inv.counted;
      room_left =
          let most = longer q c.loop-next.found n _ c.in_ok-put_passing.ensures in
          let before = inv.room_left in
          less_unless _ c.args.room (omega (arith, most, before)) (λ e. c.if-len-room.false (c.len.ensures ∙ e));
      valid = λ unknown. subst (λ o. IsEntryOfTrees (entry_of o)) (sym c.node_under-next-in-Some.ensures)
          (kept_under IsEntryOfTrees tt l found (c.in_ok-next_from-2.ensures.valid (law.unchanged_contents _ _ inv.same ∙ unknown)));
      walked = λ t stands r.
          let w = inv.walked t stands r in
          let was : Left c.args.reach l t w.0 (Some (c.in-Some.label, c.in-Some.record)) = subst (Left c.args.reach l t w.0) c.in-Some.is w.3 in
          let value = c.in_ok-next_from-2.ensures.value (map_of t) (law.unchanged_contents _ _ inv.same ∙ stands.map) ∙ ap (λ k. first_above k (map_of t)) c.in_ok-key-2.ensures in
          let so_far = w.2 in
          let step = c.in_ok-next_from-2.ensures.reads in
          let total = Rattle.std.proofs.lemmas.List.length-append w.0 (n ∷ []) in (
            w.0 ++ n ∷ [],
            one_put q c.loop-next.found w.0 n _ w.1 c.in_ok-put_passing.ensures,
            omega (arith, so_far, step, total),
            subst (Left c.args.reach l t (w.0 ++ n ∷ [])) (sym c.node_under-next-in-Some.ensures) (left_goes c.args.reach l t w.0 c.in-Some.label c.in-Some.record found stands.valid c.divisions-divisions.ensures.label.0 was value),
          );
    }

pub returns-then-len-room-clause-seen : goal.returns-then-len-room-clause-seen
returns-then-len-room-clause-seen g c = λ t stands r.
    let q : path.Position → Bool = path.passes c.args.axis c.args.test.now in
    let n : path.Position = path.a_node c.in-Some.label c.in-Some.record in
    let w = c.loop-next.invariant.walked t stands r in
    let was : Left c.args.reach c.args.at.now t w.0 (Some (c.in-Some.label, c.in-Some.record)) = subst (Left c.args.reach c.args.at.now t w.0) c.in-Some.is w.3 in
    let rest = coming c.args.reach c.args.at.now t w.0 c.in-Some.label c.in-Some.record stands.valid c.divisions-divisions.ensures.label.0 was in
    enough_met q _ (w.0 ++ n ∷ []) rest.0 _ c.args.room (one_put q c.loop-next.found w.0 n _ w.1 c.in_ok-put_passing.ensures) (sym c.len.ensures ∙ c.if-len-room.true) rest.1

pub returns-clause-seen : goal.returns-clause-seen
returns-clause-seen g c = λ t stands r.
    let w = c.loop-next.invariant.walked t stands r in
    all_met (path.passes c.args.axis c.args.test.now) c.loop-next.found w.0 w.1 c.args.room _ c.loop-next.invariant.room_left (subst (Left c.args.reach c.args.at.now t w.0) c.in_default.is w.3)

pub returns-clause-reads : goal.returns-clause-reads
returns-clause-reads g c t stands r =
    let w = c.loop-next.invariant.walked t stands r in
    all_read (path.passes c.args.axis c.args.test.now) c.loop-next.found w.0 w.1 _ _ c.args.room _ w.2 c.loop-next.invariant.room_left (subst (Left c.args.reach c.args.at.now t w.0) c.in_default.is w.3)

pub returns-in_err-key-2-clause-reads : goal.returns-in_err-key-2-clause-reads
returns-in_err-key-2-clause-reads g c t stands r =
    let w = c.loop-next.invariant.walked t stands r in
    let was : Left c.args.reach c.args.at.now t w.0 (Some (c.in-Some.label, c.in-Some.record)) = subst (Left c.args.reach c.args.at.now t w.0) c.in-Some.is w.3 in
    let rest = coming c.args.reach c.args.at.now t w.0 c.in-Some.label c.in-Some.record stands.valid c.divisions-divisions.ensures.label.0 was in
    next_read (path.passes c.args.axis c.args.test.now) c.loop-next.found w.0 w.1 _ _ _ c.args.room _ rest.0 _ w.2 c.loop-next.invariant.room_left rest.1 (omega arith)

pub returns-in_err-put_passing-clause-reads : goal.returns-in_err-put_passing-clause-reads
returns-in_err-put_passing-clause-reads g c t stands r =
    let w = c.loop-next.invariant.walked t stands r in
    let was : Left c.args.reach c.args.at.now t w.0 (Some (c.in-Some.label, c.in-Some.record)) = subst (Left c.args.reach c.args.at.now t w.0) c.in-Some.is w.3 in
    let rest = coming c.args.reach c.args.at.now t w.0 c.in-Some.label c.in-Some.record stands.valid c.divisions-divisions.ensures.label.0 was in
    next_read (path.passes c.args.axis c.args.test.now) c.loop-next.found w.0 w.1 _ _ _ c.args.room _ rest.0 _ w.2 c.loop-next.invariant.room_left rest.1 (omega arith)

pub returns-then-len-room-clause-reads : goal.returns-then-len-room-clause-reads
returns-then-len-room-clause-reads g c t stands r =
    let w = c.loop-next.invariant.walked t stands r in
    let was : Left c.args.reach c.args.at.now t w.0 (Some (c.in-Some.label, c.in-Some.record)) = subst (Left c.args.reach c.args.at.now t w.0) c.in-Some.is w.3 in
    let rest = coming c.args.reach c.args.at.now t w.0 c.in-Some.label c.in-Some.record stands.valid c.divisions-divisions.ensures.label.0 was in
    next_read (path.passes c.args.axis c.args.test.now) c.loop-next.found w.0 w.1 _ _ _ c.args.room _ rest.0 _ w.2 c.loop-next.invariant.room_left rest.1 (omega arith)

pub returns-in_err-next_from-2-clause-reads : goal.returns-in_err-next_from-2-clause-reads
returns-in_err-next_from-2-clause-reads g c t stands r =
    let w = c.loop-next.invariant.walked t stands r in
    let was : Left c.args.reach c.args.at.now t w.0 (Some (c.in-Some.label, c.in-Some.record)) = subst (Left c.args.reach c.args.at.now t w.0) c.in-Some.is w.3 in
    let rest = coming c.args.reach c.args.at.now t w.0 c.in-Some.label c.in-Some.record stands.valid c.divisions-divisions.ensures.label.0 was in
    next_read (path.passes c.args.axis c.args.test.now) c.loop-next.found w.0 w.1 _ _ _ c.args.room _ rest.0 _ w.2 c.loop-next.invariant.room_left rest.1 c.in_err-next_from-2.ensures.reads

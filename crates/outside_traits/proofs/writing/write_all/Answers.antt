use Rattle.std.proofs.Common.{arith, rules, take, sym, ap, subst, ◌∙◌, ◌++◌}
use Rattle.std.proofs.Math.Seq.{take-add}
use Rattle.outside_traits.specs.Bytes.{Took}
use Rattle.outside_traits.proofs.Laws.{took_on}
use Rattle.outside_traits.proofs.writing.write_all.Goals as goal

pub loop-written-preserved : goal.loop-written-preserved
loop-written-preserved g c =
    let e = c.in_ok-written.ensures in
    record {
      took = subst (Took (g.K.Sink.held c.args.sink.now) (g.K.Sink.held c.write.new.self)) (ap (λ t. take c.loop-written.written c.args.text.now ++ take c.in_ok-written.field-0 t) c.split_at.ensures.back ∙ sym (take-add c.loop-written.written c.in_ok-written.field-0 c.args.text.now)) (took_on _ _ _ _ _ c.loop-written.invariant.took e.bytes);
      within = omega (arith, e.bound.1, c.split_at.ensures.back_len);
      same = search rules;
    }

use Rattle.std.proofs.Common.{◌≡◌, ◌<◌, ◌==◌, true, false, length, take, get_or, sym, ap, subst, ◌∙◌, arith, add-one}
use Rattle.overlays.specs.Stretches.{is_covered}
use Rattle.tx_core.specs.declared.parts.Passed.{Passed}
use Rattle.tx_core.specs.inside.Passed.{stretches_of}
use Rattle.tx_core.proofs.PassedOn.{front_out, front_same, item_within, removed_fewer, same_passed}
use Rattle.tx_core.proofs.passed.end_passed.Goals as goal

pub loop-place-preserved-then-is_of : goal.loop-place-preserved-then-is_of
loop-place-preserved-then-is_of c =
    let ps = c.loop-place.passed.items in
    let i = c.loop-place.place in
    let s = c.args.session in
    let l : i < length ps = omega (arith, c.loop-place-test.true, c.len.ensures) in
    let here : c.index.result.now ≡ get_or ps i c.remove.result = c.index.ensures ∙ same_passed ps i c.index.result.now c.remove.result l in
    record {
      fewer = λ o j h. c.loop-place.invariant.fewer o j (removed_fewer ps i o j (subst (λ v. is_covered (stretches_of v o) j ≡ true) c.remove.ensures.items h));
      out = λ j. ap (λ v. is_covered (stretches_of (take i v) s) j) c.remove.ensures.items ∙ ap (λ v. is_covered (stretches_of v s) j) (front_same ps i) ∙ c.loop-place.invariant.out j;
      taken = λ j h. c.loop-place.invariant.fewer s j (item_within ps i s c.remove.result l (subst (λ (p : Passed). (p.session == s) ≡ true) here (sym c.is_of.ensures ∙ c.if-is_of.true)) j
          (subst (λ (p : Passed). is_covered p.gaps j ≡ true) c.remove.ensures.value h));
    }

pub loop-place-preserved : goal.loop-place-preserved
loop-place-preserved c =
    let ps = c.loop-place.passed.items in
    let i = c.loop-place.place in
    let s = c.args.session in
    let l : i < length ps = omega (arith, c.loop-place-test.true, c.len.ensures) in
    let other : ((get_or ps i c.index.result.now).session == s) ≡ false = subst (λ (p : Passed). (p.session == s) ≡ false) c.index.ensures (sym c.is_of.ensures ∙ c.if-is_of.false) in
    record {
      fewer = c.loop-place.invariant.fewer;
      out = λ j. ap (λ n. is_covered (stretches_of (take n ps) s) j) (add-one i) ∙ front_out j ps i s c.index.result.now l (c.loop-place.invariant.out j) other;
      taken = c.loop-place.invariant.taken;
    }

use Rattle.std.proofs.Common.{◌≡◌, ◌<◌, true, length, take, take_all, slice_set, sym, ap, subst, ◌∙◌, arith, add-one}
use Rattle.std.specs.List.{AllByRecursion}
use Rattle.overlays.specs.Stretches.{is_covered, IsOut}
use Rattle.tx_core.specs.declared.parts.Passed.{Passed}
use Rattle.tx_core.specs.inside.Passed.{stretches_of}
use Rattle.tx_core.proofs.PassedOn.{all_out, all_set, set_within}
use Rattle.tx_core.proofs.passed.forget_puts.Goals as goal

pub loop-place-preserved : goal.loop-place-preserved
loop-place-preserved c =
    let ps = c.loop-place.passed.items in
    let i = c.loop-place.place in
    let one = c.index_mut-one.result.now in
    let l : i < length ps = omega (arith, c.loop-place-test.true, c.len.ensures) in
    let cut : Passed = record { session = one.session; gaps = c.forget_puts.new.self } in
    record {
      fewer = λ o j h. c.loop-place.invariant.fewer o j (set_within ps i cut one l (ap (λ (p : Passed). p.session) c.index_mut-one.ensures.value)
          (λ k a. subst (λ (p : Passed). is_covered p.gaps k ≡ true) c.index_mut-one.ensures.value (c.forget_puts.ensures.within k a)) o j h);
      out = subst (λ n. AllByRecursion (λ (p : Passed). AllByRecursion (IsOut p.gaps) c.args.overlay.now) (take n (slice_set ps i cut))) (sym (add-one i))
          (all_set (λ (p : Passed). AllByRecursion (IsOut p.gaps) c.args.overlay.now) ps i cut l c.loop-place.invariant.out c.forget_puts.ensures.out);
      list = λ o j h. c.forget_puts.ensures.list;
    }

pub returns-clause-out : goal.returns-clause-out
returns-clause-out c =
    let ps = c.loop-place.passed.items in
    let whole : take c.loop-place.place ps ≡ ps = take_all c.loop-place.place ps (omega (arith, c.loop-place-test.false, c.len.ensures)) in
    all_out c.args.overlay.now ps (subst (AllByRecursion (λ (p : Passed). AllByRecursion (IsOut p.gaps) c.args.overlay.now)) whole c.loop-place.invariant.out)

pub returns-clause-list : goal.returns-clause-list
returns-clause-list c =
    let ps = c.loop-place.passed.items in
    let whole : take c.loop-place.place ps ≡ ps = take_all c.loop-place.place ps (omega (arith, c.loop-place-test.false, c.len.ensures)) in
    λ o j h. c.loop-place.invariant.list o j (ap (λ v. is_covered (stretches_of v o) j) whole ∙ h)

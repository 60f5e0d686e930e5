use Rattle.std.proofs.Common.{◌≡◌, ◌∙◌, ◌-◌, ◌+◌, ◌∷◌, ◌++◌, [], sym, ap, ℕ, List, length, take, drop, arith, length-drop}
use Rattle.std.proofs.lemmas.Bool.{eqb-true, eqb-false}
use Rattle.std.proofs.lemmas.List.{drop-drop}
use Rattle.node_records.specs.Labels.{divisions_in}
use Rattle.node_records.proofs.LabelReads.{with_prefix, begins, goes_on, stops, closes, cut_short, too_many, rest_is}
use Rattle.node_records.proofs.labels.read_divisions.Goals as goal

pub loop-init : goal.loop-init
loop-init c = record {
  within = omega arith;
  so_far = begins c.new-divisions.result (divisions_in 256 c.args.bytes.now) c.new-divisions.ensures;
}

pub returns-then-is_empty-clause-exact : goal.returns-then-is_empty-clause-exact
returns-then-is_empty-clause-exact c =
    let rest : List ℕ = take (length c.args.bytes.now - c.loop.taken) (drop c.loop.taken c.args.bytes.now) in
    let so_far = ap (λ r. with_prefix c.loop.divisions c.loop.taken (divisions_in (256 - c.loop.counter) r)) (rest_is c.args.bytes.now c.loop.taken) ∙ c.loop.invariant.so_far in
    sym (cut_short c.loop.divisions c.loop.taken (256 - c.loop.counter) (255 - c.loop.counter) rest (omega (arith, c.loop-test.true)) (eqb-true _ _ (sym c.if-is_empty.ensures))) ∙ so_far

pub returns-then-rest-eq-END-clause-exact : goal.returns-then-rest-eq-END-clause-exact
returns-then-rest-eq-END-clause-exact c =
    let rest : List ℕ = take (length c.args.bytes.now - c.loop.taken) (drop c.loop.taken c.args.bytes.now) in
    let so_far = ap (λ r. with_prefix c.loop.divisions c.loop.taken (divisions_in (256 - c.loop.counter) r)) (rest_is c.args.bytes.now c.loop.taken) ∙ c.loop.invariant.so_far in
    let nonempty = eqb-false _ _ (sym c.if-is_empty.ensures) in
    sym (closes c.loop.divisions c.loop.taken (256 - c.loop.counter) (255 - c.loop.counter) rest (omega (arith, c.loop-test.true)) (omega (arith, nonempty)) c.if-rest-eq-END.true) ∙ so_far

pub returns-in_default-clause-exact : goal.returns-in_default-clause-exact
returns-in_default-clause-exact c =
    let rest : List ℕ = take (length c.args.bytes.now - c.loop.taken) (drop c.loop.taken c.args.bytes.now) in
    let so_far = ap (λ r. with_prefix c.loop.divisions c.loop.taken (divisions_in (256 - c.loop.counter) r)) (rest_is c.args.bytes.now c.loop.taken) ∙ c.loop.invariant.so_far in
    let nonempty = eqb-false _ _ (sym c.if-is_empty.ensures) in
    sym (stops c.loop.divisions c.loop.taken (256 - c.loop.counter) (255 - c.loop.counter) rest (omega (arith, c.loop-test.true)) (omega (arith, nonempty)) c.if-rest-eq-END.false (sym c.in_default.ensures.exact)) ∙ so_far

pub loop-preserved : goal.loop-preserved
loop-preserved c =
    let rest : List ℕ = take (length c.args.bytes.now - c.loop.taken) (drop c.loop.taken c.args.bytes.now) in
    let so_far = ap (λ r. with_prefix c.loop.divisions c.loop.taken (divisions_in (256 - c.loop.counter) r)) (rest_is c.args.bytes.now c.loop.taken) ∙ c.loop.invariant.so_far in
    let nonempty = eqb-false _ _ (sym c.if-is_empty.ensures) in
    let left : length rest ≡ length c.args.bytes.now - c.loop.taken = ap (λ (r : List ℕ). length r) (rest_is c.args.bytes.now c.loop.taken) ∙ length-drop c.loop.taken c.args.bytes.now in
    let behind : drop c.in-Some.length rest ≡ drop (c.loop.taken + c.in-Some.length) c.args.bytes.now = ap (λ (r : List ℕ). drop c.in-Some.length r) (rest_is c.args.bytes.now c.loop.taken) ∙ drop-drop c.in-Some.length c.loop.taken c.args.bytes.now in
    record {
      within = omega (arith, left, c.in-Some.ensures.within, c.loop.invariant.within);
      so_far =
          ap (λ (prefix : List ℕ). with_prefix prefix (c.loop.taken + c.in-Some.length) (divisions_in (256 - (c.loop.counter + 1)) (drop (c.loop.taken + c.in-Some.length) c.args.bytes.now))) c.in_ok-push.ensures.ok
          ∙ ap (λ (r : List ℕ). with_prefix (c.loop.divisions ++ c.in-Some.division ∷ []) (c.loop.taken + c.in-Some.length) (divisions_in (256 - (c.loop.counter + 1)) r)) (sym behind)
          ∙ sym (goes_on c.loop.divisions c.loop.taken (256 - c.loop.counter) (256 - (c.loop.counter + 1)) rest (c.in-Some.division, c.in-Some.length) (omega (arith, c.loop-test.true)) (omega (arith, nonempty)) c.if-rest-eq-END.false (sym c.in-Some.ensures.exact))
          ∙ so_far;
    }

pub returns-clause-exact : goal.returns-clause-exact
returns-clause-exact c = sym (too_many c.loop.divisions c.loop.taken (256 - c.loop.counter) (drop c.loop.taken c.args.bytes.now) (omega (arith, c.loop-test.false))) ∙ c.loop.invariant.so_far

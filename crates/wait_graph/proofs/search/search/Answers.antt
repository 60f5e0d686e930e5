use Rattle.std.proofs.Common.{rules, ◌≡◌, ℕ, ◌+◌, ◌-◌, suc, zero, List, Option, [], Some, None, sym, ap, ap₂, ◌∙◌, arith}
use Rattle.wait_graph.specs.inside.Search.{found, reached, seek, seek_on, unreached}
use Rattle.wait_graph.proofs.Searching.{at_round, nobody_leads}
use Rattle.wait_graph.proofs.search.search.Goals as goal

pub returns-in-Some : goal.returns-in-Some
returns-in-Some c =
    let bs = c.args.holders.now in
    let layer = c.loop-round.layer in
    let left = c.len-rounds.result - (c.loop-round._round + 1) in
    let fewer : c.len-rounds.result - c.loop-round._round ≡ suc left = omega (arith, c.loop-round-test.true) in
    let rest : Option (List ℕ) = seek bs left (unreached layer.walks layer.farther) (reached layer.walks layer.farther) in
    let here : found bs layer.walks ≡ Some c.in-Some.walk = ap (found bs) (sym c.as_slice-in-loop-round.ensures) ∙ sym c.in_ok-walk.ensures ∙ c.in-Some.is in
    sym (at_round bs (c.len-rounds.result - c.loop-round._round) left layer.farther layer.walks fewer ∙ ap (λ o. seek_on o rest) here) ∙ c.loop-round.invariant

pub returns-then-is_empty : goal.returns-then-is_empty
returns-then-is_empty c =
    let bs = c.args.holders.now in
    let layer = c.loop-round.layer in
    let nobody : layer.walks ≡ [] = search rules in
    sym (ap (seek bs (c.len-rounds.result - c.loop-round._round) layer.farther) nobody ∙ nobody_leads bs (c.len-rounds.result - c.loop-round._round) layer.farther) ∙ c.loop-round.invariant

pub loop-round-preserved : goal.loop-round-preserved
loop-round-preserved c =
    let bs = c.args.holders.now in
    let layer = c.loop-round.layer in
    let left = c.len-rounds.result - (c.loop-round._round + 1) in
    let fewer : c.len-rounds.result - c.loop-round._round ≡ suc left = omega (arith, c.loop-round-test.true) in
    let rest : Option (List ℕ) = seek bs left (unreached layer.walks layer.farther) (reached layer.walks layer.farther) in
    let nothing : c.in_ok-walk.field-0 ≡ None = search rules in
    let here : found bs layer.walks ≡ None = ap (found bs) (sym c.as_slice-in-loop-round.ensures) ∙ sym c.in_ok-walk.ensures ∙ nothing in
    let one : layer.walks ≡ c.as_slice-in-loop-round-2.result.now = sym c.as_slice-in-loop-round-2.ensures in
    ap₂ (seek bs left)
    (c.in_ok-layer-2.ensures.farther ∙ ap (λ ws. unreached ws layer.farther) (sym one))
    (c.in_ok-layer-2.ensures.walks ∙ ap (λ ws. reached ws layer.farther) (sym one))
    ∙ sym (at_round bs (c.len-rounds.result - c.loop-round._round) left layer.farther layer.walks fewer ∙ ap (λ o. seek_on o rest) here) ∙ c.loop-round.invariant

pub returns : goal.returns
returns c =
    let none_left : c.len-rounds.result - c.loop-round._round ≡ zero = omega (arith, c.loop-round-test.false) in
    sym (ap (λ n. seek c.args.holders.now n c.loop-round.layer.farther c.loop-round.layer.walks) none_left) ∙ c.loop-round.invariant

use Rattle.std.proofs.Common.{◌-◌, length, take, sym, ◌∙◌, arith}
use Rattle.std.specs.Option.{option_or}
use Rattle.tree_model.specs.Changes.{now_at}
use Rattle.overlays.specs.inside.Runs.{joint}
use Rattle.overlays.proofs.FewLaws.{at_last}
use Rattle.overlays.proofs.runs.+change_at.Goals as goal

pub returns-in-Some : goal.returns-in-Some
returns-in-Some t c =
    let runs = c.args.runs.now in
    let n = length runs - 1 in
    let enough = c.in-len1-up.len_at_least in
    let k = c.args.key.now in
    record {
      value = (λ i. option_or (c.in-Some.ensures.value i) (now_at k (joint (take n runs)))) ∙ sym (at_last k runs n c.newest-item.result (omega (arith, enough)) c.newest-item.is c.at.ensures.list.rise);
    }

pub returns-in-None : goal.returns-in-None
returns-in-None t c =
    let runs = c.args.runs.now in
    let n = length runs - 1 in
    let enough = c.in-len1-up.len_at_least in
    let k = c.args.key.now in
    record {
      value = c.change_at.ensures.value ∙ (λ i. option_or (c.in-None.ensures.value i) (now_at k (joint (take n runs)))) ∙ sym (at_last k runs n c.newest-item.result (omega (arith, enough)) c.newest-item.is c.at.ensures.list.rise);
    }

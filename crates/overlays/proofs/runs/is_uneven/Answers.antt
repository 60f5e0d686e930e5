use Rattle.std.proofs.Common.{◌-◌, ◌/◌, nat_lt, length, get_or, sym, ap, ◌∙◌, arith}
use Rattle.overlays.proofs.FewLaws.{falls_one, all_fall, not_all_fall}
use Rattle.overlays.proofs.runs.is_uneven.Goals as goal

pub returns-in_default-clause-even : goal.returns-in_default-clause-even
returns-in_default-clause-even c = λ _ _. let few = c.in_default.len_below in falls_one c.args.runs.now (omega (arith, few))

pub returns-in-len2-up-clause-even : goal.returns-in-len2-up-clause-even
returns-in-len2-up-clause-even c = λ even falls.
    let runs = c.args.runs.now in
    let enough = c.in-len2-up.len_at_least in
    all_fall runs (length runs - 2) c.lower-item.result c.upper-item.result (omega (arith, enough)) c.lower-item.is
    (c.upper-item.is ∙ ap (λ n. get_or runs n c.upper-item.result) (omega (arith, enough)))
    ((λ i. nat_lt (sym c.len.ensures.value i / 4) (sym c.len-in-len2-up.ensures.value i)) ∙ even) falls

pub returns-in-len2-up-clause-uneven : goal.returns-in-len2-up-clause-uneven
returns-in-len2-up-clause-uneven c = λ uneven falls.
    let runs = c.args.runs.now in
    let enough = c.in-len2-up.len_at_least in
    not_all_fall runs (length runs - 2) c.lower-item.result c.upper-item.result (omega (arith, enough)) c.lower-item.is
    (c.upper-item.is ∙ ap (λ n. get_or runs n c.upper-item.result) (omega (arith, enough)))
    ((λ i. nat_lt (sym c.len.ensures.value i / 4) (sym c.len-in-len2-up.ensures.value i)) ∙ uneven) falls

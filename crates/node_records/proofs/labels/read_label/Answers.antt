use Rattle.std.proofs.Common.{◌∙◌, sym, ap, ℕ, List, Some, refl}
use Rattle.node_records.proofs.LabelReads.{label_is, label_is_not}
use Rattle.node_records.proofs.labels.read_label.Goals as goal

pub returns-in-Some-of-clause-exact : goal.returns-in-Some-of-clause-exact
returns-in-Some-of-clause-exact c =
    let history = sym c.in-Some.is ∙ c.in_ok-divisions.ensures.exact in
    let label = c.in-Some-of.ensures in
    ap (λ (l : List ℕ). Some (l, c.in-Some.taken)) label.divisions ∙ label_is c.args.bytes.now (c.in-Some.divisions, c.in-Some.taken) history (label.label.0 refl)

pub returns-in-None-clause-exact : goal.returns-in-None-clause-exact
returns-in-None-clause-exact c =
    let history = sym c.in-Some.is ∙ c.in_ok-divisions.ensures.exact in
    label_is_not c.args.bytes.now (c.in-Some.divisions, c.in-Some.taken) history (λ l. absurd (let e = c.in-None.ensures.label.1 l in cc))

use Rattle.std.proofs.Common.{◌∙◌, ap, sym}
use Rattle.std.proofs.lemmas.Bool.{eq-eqb, ne_eqb}
use Rattle.node_pages.specs.PageZero.{Header}
use Rattle.recovery.specs.inside.Finishing.{judged}
use Rattle.recovery.proofs.PagedSteps.{reason_at, reason_leads}
use Rattle.recovery.proofs.TestLaws.{judged_on, judged_same}
use Rattle.recovery.proofs.finishing.judged.Goals as goal

pub returns-in-None-clause-damage : goal.returns-in-None-clause-damage
returns-in-None-clause-damage c = reason_at _ _ c.at.result _ c.at.ensures (ap (judged c.args.number) c.in-None.is)

pub returns-then-other-clause-damage : goal.returns-then-other-clause-damage
returns-then-other-clause-damage c =
    reason_at _ _ c.at-then-other.result _ c.at-then-other.ensures (ap (judged c.args.number) c.in-Some.is ∙ judged_same c.args.number c.in-Some.found (ne_eqb c.in-Some.found.0.base c.args.number (λ e. c.if-other.true (ap (λ (h : Header). h.base) c.header.view_is ∙ e))))

pub returns-in-Ok-clause-sound : goal.returns-in-Ok-clause-sound
returns-in-Ok-clause-sound c =
    let found = c.in-Some.found in
    record {
      contents = c.in-Ok.ensures.tree.0;
      is = ap (judged c.args.number) c.in-Some.is ∙ judged_on c.args.number found (eq-eqb found.0.base c.args.number (sym (ap (λ (h : Header). h.base) c.header.view_is) ∙ c.if-other.false)) ∙ c.in-Ok.ensures.tree.1;
      header = found.0;
      bytes = found.1;
      has = c.in-Some.is;
      counted = c.count.ensures;
    }

pub returns-in-Err-clause-damage : goal.returns-in-Err-clause-damage
returns-in-Err-clause-damage c = reason_leads _ _ _ _ c.in-Err.fault
    (λ place is. ap (judged c.args.number) c.in-Some.is ∙ judged_on c.args.number c.in-Some.found (eq-eqb c.in-Some.found.0.base c.args.number (sym (ap (λ (h : Header). h.base) c.header.view_is) ∙ c.if-other.false)) ∙ is) (λ never. never) c.in-Err.ensures.damage

use Rattle.std.proofs.Common.{◌∙◌}
use Rattle.dom_writes.proofs.PlacedCalls.{append_changes}
use Rattle.dom_writes.proofs.placing.append.Goals as goal

pub returns-clause-changes : goal.returns-clause-changes
returns-clause-changes g c = λ t stands.
    c.in_ok-put_fragment.ensures.changes
    ∙ append_changes c.args.at.now c.args.fragment.now t c.in_ok-place.place stands.valid c.requires.may_bring.fragment c.in_ok-place.ensures.suits (c.in_ok-place.ensures.place t stands)

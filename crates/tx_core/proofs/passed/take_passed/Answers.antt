use Rattle.std.proofs.Common.{◌≡◌, true, false, sym, ap, ◌∙◌}
use Rattle.overlays.specs.Stretches.{is_covered}
use Rattle.tx_core.proofs.passed.take_passed.Goals as goal

pub returns-in-None-clause-taken : goal.returns-in-None-clause-taken
returns-in-None-clause-taken c = λ j h. let no : false ≡ true = sym (ap (λ ss. is_covered ss j) c.new.ensures) ∙ h in cc

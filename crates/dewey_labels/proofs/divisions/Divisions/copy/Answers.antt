use Rattle.std.proofs.Common.{sym, ap, ◌∙◌}
use Rattle.dewey_labels.specs.inside.Divisions.{divisions_held}
use Rattle.dewey_labels.proofs.divisions.Divisions.copy.Goals as goal

pub returns-in_ok-from_slice-in-Many : goal.returns-in_ok-from_slice-in-Many
returns-in_ok-from_slice-in-Many c =
    c.many.ensures ∙ c.in_ok-from_slice-in-Many.ensures.items ∙ c.deref.ensures.value ∙ sym (ap divisions_held c.in-Many.is) ∙ c.self.view_is

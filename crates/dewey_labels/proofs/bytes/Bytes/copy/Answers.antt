use Rattle.std.proofs.Common.{sym, ap, ◌∙◌}
use Rattle.dewey_labels.specs.inside.Bytes.{bytes_held}
use Rattle.dewey_labels.proofs.bytes.Bytes.copy.Goals as goal

pub returns-in_ok-from_slice-in-Many : goal.returns-in_ok-from_slice-in-Many
returns-in_ok-from_slice-in-Many c =
    c.many.ensures ∙ c.in_ok-from_slice-in-Many.ensures.items ∙ c.deref.ensures.value ∙ sym (ap bytes_held c.in-Many.is) ∙ c.self.view_is

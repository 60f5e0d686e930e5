use Rattle.std.proofs.Common.{sym, ap, subst, ◌≤◌, ◌∙◌, take}
use Rattle.dewey_labels.specs.inside.Bytes.{bytes_held, AreHeld}
use Rattle.dewey_labels.proofs.bytes.Bytes.as_slice.Goals as goal

pub shared_ref_as_front-result : goal.shared_ref_as_front-result
shared_ref_as_front-result c = subst (λ n. n ≤ 30) (sym c.from.ensures) (subst AreHeld c.in-Few.is c.self.invariant)

pub returns-in-Few : goal.returns-in-Few
returns-in-Few c = ap (λ n. take n c.in-Few.places) c.from.ensures ∙ sym (ap bytes_held c.in-Few.is) ∙ c.self.view_is

pub returns-in-Many : goal.returns-in-Many
returns-in-Many c = c.as_slice.ensures.value ∙ sym (ap bytes_held c.in-Many.is) ∙ c.self.view_is

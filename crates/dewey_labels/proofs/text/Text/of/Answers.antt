use Rattle.std.proofs.Common.{◌≡◌, true, sym, subst}
use Rattle.std.specs.Str.{is_utf8}
use Rattle.std.proofs.lemmas.Str.{is_utf8-from_IsUtf8}
use Rattle.dewey_labels.proofs.text.Text.of.Goals as goal

pub invariant_of-result : goal.invariant_of-result
invariant_of-result c = subst (λ t. is_utf8 t ≡ true) (sym c.in_ok-bytes.ensures) (is_utf8-from_IsUtf8 _ c.as_bytes.ensures.utf8)

use Rattle.std.proofs.Common.{◌≡◌, true, subst, sym, ◌∙◌}
use Rattle.std.specs.Str.{is_utf8}
use Rattle.std.proofs.lemmas.Str.{is_utf8-from_IsUtf8}
use Rattle.dewey_labels.proofs.text.Text.from_string.Goals as goal

pub invariant_of-result : goal.invariant_of-result
invariant_of-result c =
    subst (λ t. is_utf8 t ≡ true) (c.as_str-str.ensures.value ∙ sym (c.of_vec-bytes.ensures ∙ (λ i. (c.into_bytes.ensures.value i).items))) (is_utf8-from_IsUtf8 _ c.as_str-str.utf8)

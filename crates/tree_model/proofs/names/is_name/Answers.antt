use Rattle.std.proofs.Common.{◌≡◌, subst}
use Rattle.std.proofs.lemmas.Str.{is_utf8-from_IsUtf8}
use Rattle.tree_model.specs.Names.{is_name}
use Rattle.tree_model.proofs.NameLaws.{name_is}
use Rattle.tree_model.proofs.names.is_name.Goals as goal

pub returns-then-text-le-MOST_NAME_BYTES : goal.returns-then-text-le-MOST_NAME_BYTES
returns-then-text-le-MOST_NAME_BYTES c =
    let text = c.as_str-text.ensures.bytes in
    record { exact = subst (λ n. c.are_name_chars.result ≡ is_name n) text (name_is c.as_str-text.result.now _ c.if-text-le-MOST_NAME_BYTES.true (is_utf8-from_IsUtf8 _ c.as_str-text.utf8) c.are_name_chars.ensures) }

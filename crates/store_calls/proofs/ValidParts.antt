-- A call is valid where its labels, its fragment and its text are.
use Rattle.std.specs.Prelude.{[], IsTrue, refl}
use Rattle.std.specs.List.{AllByRecursion}
use Rattle.std.specs.Str.{chars, is_utf8}
use Rattle.dewey_labels.specs.Labels.{IsLabel}
use Rattle.tree_model.specs.Fragments.{IsValid}
use Rattle.tree_model.specs.declared.dom_call.DomCall.{DomCall}
use Rattle.tree_changes.specs.ValidCalls.{IsValidCall, labels_named, fragment_brought, text_brought}

-- no bytes are UTF-8
pub no_text_is_utf8 : IsTrue (is_utf8 [])
unfolding is_utf8 chars
no_text_is_utf8 = refl

pub valid_by_parts : (c : DomCall) → AllByRecursion IsLabel (labels_named c) → IsTrue (is_utf8 (text_brought c)) → IsValid (fragment_brought c) → IsValidCall c
valid_by_parts c labels text fragment = record { labels = labels; fragment = fragment; text = text }

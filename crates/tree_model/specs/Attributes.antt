-- The calls on an element's attributes and name (DOM Level 3 Core, interface Element, and `renameNode`; docs/PROFILE.md, "Calls").
use Rattle.dewey_labels.specs.Labels.{Label}
use Rattle.std.specs.Prelude.{List, None, Some, [], false, if◌then◌else◌, is_some, not, unwrap_or, ℕ}
use Rattle.tree_model.specs.Edits.{edited, with_attributes, with_entry, with_record, without_entry}
use Rattle.tree_model.specs.Limits.{is_too_long}
use Rattle.tree_model.specs.Names.{Name, is_name}
use Rattle.tree_model.specs.NodeKinds.{is_element}
use Rattle.tree_model.specs.Outcomes.{Outcome, invalid_character_err, not_supported_err, refused, see, see_in}
use Rattle.tree_model.specs.Tree.{Attributes, Forest, Tree, at, attributes_of, beside, found, node}
use Rattle.tree_model.specs.declared.record.Record.TheVariants.{Element}
use Rattle.tree_model.specs.declared.refusal.Refusal.TheVariants.{Dom, TextLimit}
use Rattle.tree_model.specs.declared.reply.Reply.{Reply}
use Rattle.tree_model.specs.declared.reply.Reply.TheVariants.{Nothing, Refused}
use Rattle.tree_model.specs.declared.reply.Reply.TheVariants as reply

-- ---- reading

-- of elements alone
abbrev pub of_element : Reply → Forest → Reply
of_element answer found = if is_element found then answer else Refused (Dom not_supported_err)

-- getAttribute: the value, empty where the attribute is missing
abbrev pub attr : Label → Name → Tree → Reply
attr l n t = see (λ found. of_element (reply.Chars (if is_name n then unwrap_or (beside n (attributes_of found)) [] else [])) found) (at l t.documents)

-- hasAttribute
abbrev pub has_attr : Label → Name → Tree → Reply
has_attr l n t = see (λ found. of_element (reply.Flag (if is_name n then is_some (beside n (attributes_of found)) else false)) found) (at l t.documents)

-- attributes: of an element alone
abbrev pub attrs : Label → Tree → Reply
attrs l t = see (λ found. reply.Attrs (if is_element found then Some (attributes_of found) else None)) (at l t.documents)

-- ---- changing

-- the attributes of an element
abbrev pub in_element : Tree → (Attributes → Outcome) → Forest → Outcome
in_element t change (node l (Element n) ats ch nx) = change ats
in_element t change found = refused (Dom not_supported_err) t

-- the tests of `set_attr` at an element
abbrev pub set_attr_in : Label → Name → List ℕ → Tree → Attributes → Outcome
set_attr_in l n v t ats =
    if not (is_name n) then refused (Dom invalid_character_err) t
    else if is_too_long v then refused TextLimit t
    else (Nothing, edited l (with_attributes (with_entry n v ats)) t)

-- setAttribute
abbrev pub set_attr : Label → Name → List ℕ → Tree → Outcome
set_attr l n v t = see_in t (in_element t (set_attr_in l n v t)) (at l t.documents)

-- the tests of `remove_attr` at an element: what is no Name isn't there
abbrev pub remove_attr_in : Label → Name → Tree → Attributes → Outcome
remove_attr_in l n t ats =
    if not (is_name n) then (Nothing, t)
    else (Nothing, edited l (with_attributes (without_entry n ats)) t)

-- removeAttribute: a missing one is no fault
abbrev pub remove_attr : Label → Name → Tree → Outcome
remove_attr l n t = see_in t (in_element t (remove_attr_in l n t)) (at l t.documents)

-- the tests of `rename` at an element
abbrev pub rename_in : Label → Name → Tree → Attributes → Outcome
rename_in l n t ats =
    if not (is_name n) then refused (Dom invalid_character_err) t
    else (Nothing, edited l (with_record (Element n)) t)

-- renameNode
abbrev pub rename : Label → Name → Tree → Outcome
rename l n t = see_in t (in_element t (rename_in l n t)) (at l t.documents)

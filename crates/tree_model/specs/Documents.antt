-- The calls on whole documents: which there are, a new one, one taken out (docs/PROFILE.md, "Calls").
use Rattle.dewey_labels.specs.Labels.{Label, root}
use Rattle.dewey_labels.specs.NewLabels.{new_label, first_division}
use Rattle.std.specs.Prelude.{None, Option, Some, [], if◌then◌else◌, is_some, nat_lt, not, ◌++◌, ◌+◌, ◌∷◌}
use Rattle.tree_model.specs.Edits.{with_entry, without_entry}
use Rattle.tree_model.specs.Fragments.{Fragments, depth, is_text_fragment}
use Rattle.tree_model.specs.Graft.{all_within, graft}
use Rattle.tree_model.specs.Limits.{deepest_level}
use Rattle.tree_model.specs.Names.{Name, is_name}
use Rattle.tree_model.specs.Outcomes.{Outcome, hierarchy_request_err, invalid_character_err, not_found_err, refused}
use Rattle.tree_model.specs.Places.{last_in}
use Rattle.tree_model.specs.Tree.{Forest, Tree, behind, beside, edit, node, none, then_trees}
use Rattle.tree_model.specs.declared.record.Record.TheVariants.{Document}
use Rattle.tree_model.specs.declared.refusal.Refusal.TheVariants.{DocumentExists, Dom, LabelLimit, TooDeep}
use Rattle.tree_model.specs.declared.reply.Reply.{Reply}
use Rattle.tree_model.specs.declared.reply.Reply.TheVariants.{Nothing, Place, Refused}
use Rattle.tree_model.specs.declared.reply.Reply.TheVariants as reply

-- ---- reading

-- every document's name with its label, by name
abbrev pub docs : Tree → Reply
docs t = reply.Names t.catalogue

-- a label that was looked for
abbrev pub label_or_not_found : Option Label → Reply
label_or_not_found None = Refused (Dom not_found_err)
label_or_not_found (Some l) = Place (Some l)

-- the document with a name
abbrev pub doc : Name → Tree → Reply
doc n t = label_or_not_found (beside n t.catalogue)

-- ---- a new document

-- a document at l: its element, where there is one, is its first child
abbrev pub document_at : Label → Fragments → Forest
document_at l f = node l Document [] (graft (l ++ (first_division ∷ [])) f none) none

-- a new document stands behind the last one
abbrev pub with_document : Name → Label → Fragments → Tree → Tree
with_document n l f t = record { catalogue = with_entry n l t.catalogue; documents = then_trees t.documents (document_at l f) }

-- the label of a new document, unless that passes a limit
abbrev pub document_label : Tree → Option Label
document_label t = new_label root (last_in root t) None

-- the document at its new label, unless one of its labels passes a limit
abbrev pub place_document : Name → Fragments → Tree → Option Label → Outcome
place_document n f t None = refused LabelLimit t
place_document n f t (Some l) = if all_within (document_at l f) then (Place (Some l), with_document n l f t) else refused LabelLimit t

-- a document with a name, empty where no fragment is given
abbrev pub create : Name → Fragments → Tree → Outcome
create n f t =
    if not (is_name n) then refused (Dom invalid_character_err) t
    else if is_text_fragment f then refused (Dom hierarchy_request_err) t
    else if is_some (beside n t.catalogue) then refused DocumentExists t
    else if nat_lt deepest_level (1 + depth f) then refused TooDeep t
    else place_document n f t (document_label t)

-- ---- a document taken out

-- the document with its name goes
abbrev pub without_document : Name → Label → Tree → Tree
without_document n l t = record { catalogue = without_entry n t.catalogue; documents = edit l behind t.documents }

-- the document that was looked for goes
abbrev pub drop_found : Name → Tree → Option Label → Outcome
drop_found n t None = refused (Dom not_found_err) t
drop_found n t (Some l) = (Nothing, without_document n l t)

-- the document with a name goes, with its catalogue entry
abbrev pub drop_document : Name → Tree → Outcome
drop_document n t = drop_found n t (beside n t.catalogue)

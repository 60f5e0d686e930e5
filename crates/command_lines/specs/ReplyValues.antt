-- The values of the replies of calls (docs/MANUAL.md, "Replies").
use Rattle.std.specs.Prelude.{ℕ, List, [], ◌++◌, map, codes, ◌==◌, if◌then◌else◌, Option, Some, None}
use Rattle.serde_json.specs.Data.{Data, null, boolean, number, unsigned, string, array, object, no_items, item, Members, member, no_members}
use Rattle.serde_json.specs.View.{items_of}
use Rattle.dewey_labels.specs.Labels.{Label}
use Rattle.dewey_labels.specs.LabelText.{label_text}
use Rattle.tree_model.specs.Tree.{Attributes}
use Rattle.tree_model.specs.declared.fragment.Fragment.{Fragment}
use Rattle.tree_model.specs.declared.refusal.Refusal.{Refusal}
use Rattle.tree_model.specs.declared.refusal.Refusal.TheVariants.{Dom, DocumentExists, TooDeep, TextLimit, LabelLimit}
use Rattle.tree_model.specs.declared.reply.Hit.{Hit}
use Rattle.tree_model.specs.declared.reply.Reply.{Reply}
use Rattle.tree_model.specs.declared.reply.Reply.TheVariants as reply
use Rattle.jsonml_io.specs.Written.{with_members, json_of}

-- ---- refusals

-- the names of DOM's codes (DOM Level 3 Core, DOMException)
abbrev pub dom_error_name : ℕ → List ℕ
dom_error_name code =
    if code == 1 then codes "INDEX_SIZE_ERR"
    else if code == 3 then codes "HIERARCHY_REQUEST_ERR"
    else if code == 5 then codes "INVALID_CHARACTER_ERR"
    else if code == 8 then codes "NOT_FOUND_ERR"
    else codes "NOT_SUPPORTED_ERR"

abbrev pub refusal_name : Refusal → List ℕ
refusal_name (Dom code) = dom_error_name code
refusal_name DocumentExists = codes "DocumentExists"
refusal_name TooDeep = codes "TooDeep"
refusal_name TextLimit = codes "TextLimit"
refusal_name LabelLimit = codes "LabelLimit"

-- `{"name":N}`
abbrev pub named : List ℕ → Members
named name = member (codes "name") (string name) no_members

-- `{"code":C,"name":N}` for a code of DOM, otherwise `{"name":N}`
abbrev pub refusal_value : Refusal → Data
refusal_value (Dom code) = object (member (codes "code") (number (unsigned code)) (named (dom_error_name code)))
refusal_value why = object (named (refusal_name why))

-- ---- items of lists

abbrev pub number_value : ℕ → Data
number_value n = number (unsigned n)

abbrev pub label_value : Label → Data
label_value l = string (label_text l)

-- a document: `[NAME,LABEL]`
abbrev pub document_value : List ℕ × Label → Data
document_value d = array (item (string d.0) (item (label_value d.1) no_items))

-- the attribute with a name, behind its element's label
abbrev pub attribute_step : Option (List ℕ) → List ℕ
attribute_step None = []
attribute_step (Some name) = codes "/@" ++ name

-- a node by its label, an attribute as `L/@NAME`
abbrev pub hit_value : Hit → Data
hit_value h = string (label_text h.label ++ attribute_step h.attr)

-- a commit: `[SESSION,ORDINAL]`
abbrev pub commit_value : ℕ × ℕ → Data
commit_value c = array (item (number_value c.0) (item (number_value c.1) no_items))

-- the array of values
abbrev pub array_of : {A : Type 0} → (A → Data) → List A → Data
array_of value xs = array (items_of (map value xs))

-- ---- replies

abbrev pub or_null : {A : Type 0} → (A → Data) → Option A → Data
or_null value None = null
or_null value (Some x) = value x

abbrev pub attributes_value : Attributes → Data
attributes_value ats = object (with_members no_members ats)

-- `{"name":N,"type":K,"value":V}`
abbrev pub node_value : ℕ → List ℕ → Option (List ℕ) → Data
node_value kind name value =
    object (member (codes "name") (string name) (member (codes "type") (number_value kind) (member (codes "value") (or_null string value) no_members)))

-- `{"new":LABEL,"old":JSONML}`
abbrev pub replaced_value : Label → Fragment → Data
replaced_value new old = object (member (codes "new") (label_value new) (member (codes "old") (json_of old) no_members))

abbrev pub reply_value : Reply → Data
reply_value reply.Nothing = null
reply_value (reply.Flag b) = boolean b
reply_value (reply.Number n) = number_value n
reply_value (reply.Chars t) = string t
reply_value (reply.Place l) = or_null label_value l
reply_value (reply.Places ls) = array_of label_value ls
reply_value (reply.Names ds) = array_of document_value ds
reply_value (reply.Attrs ats) = or_null attributes_value ats
reply_value (reply.Node kind name value) = node_value kind name value
reply_value (reply.Tree f) = or_null json_of f
reply_value (reply.Replaced new old) = replaced_value new old
reply_value (reply.Found hits) = array_of hit_value hits
reply_value (reply.Refused why) = refusal_value why

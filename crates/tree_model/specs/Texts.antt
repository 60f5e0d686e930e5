-- The calls on texts (DOM Level 3 Core, interfaces CharacterData and Text, and `textContent` and `normalize` of Node; docs/PROFILE.md, "Calls").
use Rattle.dewey_labels.specs.Labels.{Label, parent}
use Rattle.dewey_labels.specs.Lists.{is_empty}
use Rattle.dewey_labels.specs.NewLabels.{new_label, first_division}
use Rattle.std.specs.Prelude.{Bool, List, None, Option, Some, [], drop, encode_utf8_all, if◌then◌else◌, length, nat_lt, not, take, true, ℕ, ◌&&◌, ◌++◌, ◌+◌, ◌∷◌}
use Rattle.std.specs.Str.{chars}
use Rattle.tree_model.specs.Edits.{edited, with_children, with_record}
use Rattle.tree_model.specs.Fragments.{Fragments, no_more, text}
use Rattle.tree_model.specs.Graft.{all_within, graft}
use Rattle.tree_model.specs.Limits.{is_too_long}
use Rattle.tree_model.specs.NodeKinds.{is_text_node}
use Rattle.tree_model.specs.Outcomes.{Outcome, index_size_err, not_supported_err, refused, see, see_in}
use Rattle.tree_model.specs.Placing.{is_too_deep}
use Rattle.tree_model.specs.Tree.{Forest, Tree, at, below, found, next_of, node, none}
use Rattle.tree_model.specs.declared.record.Record.TheVariants.{Document, Element, Text}
use Rattle.tree_model.specs.declared.refusal.Refusal.TheVariants.{Dom, LabelLimit, TextLimit, TooDeep}
use Rattle.tree_model.specs.declared.reply.Reply.{Reply}
use Rattle.tree_model.specs.declared.reply.Reply.TheVariants.{Nothing, Place, Refused}
use Rattle.tree_model.specs.declared.reply.Reply.TheVariants as reply

-- ---- the text of a subtree

-- the texts of a forest, joined in document order
abbrev pub texts_of : Forest → List ℕ
texts_of none = []
texts_of (node l (Text d) ats ch nx) = d ++ texts_of nx
texts_of (node l r ats ch nx) = texts_of ch ++ texts_of nx

-- textContent
abbrev pub content : Forest → Reply
content (node l (Element n) ats ch nx) = reply.Chars (texts_of ch)
content (node l (Text d) ats ch nx) = reply.Chars d
content found = reply.Nothing

-- textContent of a node
abbrev pub text_content : Label → Tree → Reply
text_content l t = see content (at l t.documents)

-- ---- characters of a text

-- of texts alone
abbrev pub of_text : (List ℕ → Reply) → Forest → Reply
of_text answer (node l (Text d) ats ch nx) = answer d
of_text answer found = Refused (Dom not_supported_err)

-- length, in characters
abbrev pub text_length : Label → Tree → Reply
text_length l t = see (of_text (λ d. reply.Number (length (chars d)))) (at l t.documents)

-- the offset lies past the end of the data
abbrev pub is_past : ℕ → List ℕ → Bool
is_past offset d = nat_lt (length (chars d)) offset

-- substringData, in characters
abbrev pub substring : Label → ℕ → ℕ → Tree → Reply
substring l offset count t = see (of_text (λ d. if is_past offset d then Refused (Dom index_size_err) else reply.Chars (encode_utf8_all (take count (drop offset (chars d)))))) (at l t.documents)

-- ---- data set and changed

-- the data of a text
abbrev pub in_text : Tree → (List ℕ → Outcome) → Forest → Outcome
in_text t change (node l (Text d) ats ch nx) = change d
in_text t change found = refused (Dom not_supported_err) t

-- new data, unless it is too long
abbrev pub with_data : Label → Tree → List ℕ → Outcome
with_data l t d = if is_too_long d then refused TextLimit t else (Nothing, edited l (with_record (Text d)) t)

-- `set_data` at a text
abbrev pub set_data_in : Label → List ℕ → Tree → List ℕ → Outcome
set_data_in l d t old = with_data l t d

-- the data set anew
abbrev pub set_data : Label → List ℕ → Tree → Outcome
set_data l d t = see_in t (in_text t (set_data_in l d t)) (at l t.documents)

-- `append_data` at a text
abbrev pub append_data_in : Label → List ℕ → Tree → List ℕ → Outcome
append_data_in l d t old = with_data l t (old ++ d)

-- appendData
abbrev pub append_data : Label → List ℕ → Tree → Outcome
append_data l d t = see_in t (in_text t (append_data_in l d t)) (at l t.documents)

-- the data before a character
abbrev pub data_before : ℕ → List ℕ → List ℕ
data_before offset d = encode_utf8_all (take offset (chars d))

-- the data from a character on
abbrev pub data_from : ℕ → List ℕ → List ℕ
data_from offset d = encode_utf8_all (drop offset (chars d))

-- the tests of `replace_data` at a text
abbrev pub replace_data_in : Label → ℕ → ℕ → List ℕ → Tree → List ℕ → Outcome
replace_data_in l offset count d t old =
    if is_past offset old then refused (Dom index_size_err) t
    else with_data l t (data_before offset old ++ (d ++ data_from (offset + count) old))

-- replaceData; with count 0 insertData, and with no new data deleteData
abbrev pub replace_data : Label → ℕ → ℕ → List ℕ → Tree → Outcome
replace_data l offset count d t = see_in t (in_text t (replace_data_in l offset count d t)) (at l t.documents)

-- ---- a text split

-- the text before the offset, and behind it a new one with the rest
abbrev pub split_at : ℕ → Label → Forest → Forest
split_at offset new (node l (Text d) ats ch nx) = node l (Text (data_before offset d)) ats ch (node new (Text (data_from offset d)) [] none nx)
split_at offset new found = found

-- the right part at its new label
abbrev pub place_rest : Label → ℕ → Tree → Option Label → Outcome
place_rest l offset t None = refused LabelLimit t
place_rest l offset t (Some new) = (Place (Some new), edited l (split_at offset new) t)

-- the tests of `split_text` at a text
abbrev pub split_text_in : Label → ℕ → Tree → List ℕ → Outcome
split_text_in l offset t d =
    if is_past offset d then refused (Dom index_size_err) t
    else place_rest l offset t (new_label (parent l) (Some l) (next_of (at l t.documents)))

-- splitText
abbrev pub split_text : Label → ℕ → Tree → Outcome
split_text l offset t = see_in t (in_text t (split_text_in l offset t)) (at l t.documents)

-- ---- texts joined

-- a text before trees: joined to a text that heads them, and gone where it is empty
abbrev pub join_text : Label → List ℕ → Forest → Forest
join_text l d (node m (Text e) ats ch nx) = node l (Text (d ++ e)) [] none nx
join_text l [] trees = trees
join_text l (b ∷ d) trees = node l (Text (b ∷ d)) [] none trees

-- runs of adjacent texts joined into their first nodes, at every level; an empty run goes
abbrev pub normal : Forest → Forest
normal none = none
normal (node l (Text d) ats ch nx) = join_text l d (normal nx)
normal (node l r ats ch nx) = node l r ats (normal ch) (normal nx)

-- every text keeps the limit
abbrev pub texts_fit : Forest → Bool
texts_fit none = true
texts_fit (node l (Text d) ats ch nx) = not (is_too_long d) && texts_fit nx
texts_fit (node l r ats ch nx) = texts_fit ch && texts_fit nx

-- `normalize` at the node that was found: a text has nothing to join
abbrev pub normalize_in : Label → Tree → Forest → Outcome
normalize_in l t found =
    if is_text_node found then (Nothing, t)
    else if texts_fit (normal (below found)) then (Nothing, edited l (with_children (normal (below found))) t)
    else refused TextLimit t

-- normalize of DOM: adjacent texts are joined
abbrev pub normalize : Label → Tree → Outcome
normalize l t = see_in t (normalize_in l t) (at l t.documents)

-- ---- the text of a node set

-- the one text that an element then has, if the data isn't empty
abbrev pub text_below : List ℕ → Fragments
text_below [] = no_more
text_below (b ∷ d) = text (b ∷ d) no_more

-- `set_text` by the node's kind
abbrev pub set_text_of : Label → List ℕ → Tree → Forest → Outcome
set_text_of l d t (node m Document ats ch nx) = (Nothing, t)
set_text_of l d t (node m (Text old) ats ch nx) = with_data l t d
set_text_of l d t found =
    if not (is_empty d) && is_too_deep l (text_below d) then refused TooDeep t
    else if is_too_long d then refused TextLimit t
    else if all_within (graft (l ++ (first_division ∷ [])) (text_below d) none) then (Nothing, edited l (with_children (graft (l ++ (first_division ∷ [])) (text_below d) none)) t)
    else refused LabelLimit t

-- textContent set
abbrev pub set_text : Label → List ℕ → Tree → Outcome
set_text l d t = see_in t (set_text_of l d t) (at l t.documents)

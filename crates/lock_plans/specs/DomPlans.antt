-- The steps of each DOM call (docs/PROFILE.md, "Requests of calls").
use Rattle.std.specs.Prelude.{ℕ, ◌+◌, ◌&&◌, ◌++◌, Bool, false, not, nat_lt, List, [], ◌∷◌, Option, None, Some, is_some}
use Rattle.dewey_labels.specs.Labels.{Label, root, parent}
use Rattle.dewey_labels.specs.NewLabels.{new_label, first_division}
use Rattle.lock_resources.specs.declared.resource.Side.TheVariants.{First, Last, Next, Prev}
use Rattle.lock_resources.specs.declared.request.Request.{Request}
use Rattle.tree_model.specs.declared.dom_call.DomCall.{DomCall}
use Rattle.tree_model.specs.declared.dom_call.DomCall.TheVariants as call
use Rattle.tree_model.specs.declared.reply.Reply.TheVariants as reply
use Rattle.tree_model.specs.declared.refusal.Refusal.TheVariants.{Dom, DocumentExists, TooDeep, TextLimit, LabelLimit}
use Rattle.tree_model.specs.declared.record.Record.TheVariants.{Text}
use Rattle.tree_model.specs.Limits.{deepest_level, is_too_long}
use Rattle.tree_model.specs.Names.{Name, is_name}
use Rattle.tree_model.specs.NodeKinds.{is_document, is_element, is_text_node}
use Rattle.tree_model.specs.Graft.{graft, all_within}
use Rattle.tree_model.specs.Tree.{Forest, none, node, below, attributes_of, Tree, at, beside, last_label, first_of, last_child_of, next_of, prev_of}
use Rattle.tree_model.specs.Fragments.{Fragments, depth, plain, plain_or_none, is_text_fragment}
use Rattle.tree_model.specs.Outcomes.{index_size_err, hierarchy_request_err, invalid_character_err, not_found_err}
use Rattle.tree_model.specs.Documents.{document_at, document_label}
use Rattle.tree_model.specs.Placing.{is_too_deep}
use Rattle.tree_model.specs.Texts.{is_past, data_before, data_from, normal, texts_fit, text_below}
use Rattle.tree_model.specs.ValidTrees.{same_label}
use Rattle.tree_model.specs.DomCalls.{dom}
use Rattle.lock_plans.specs.Plans.{Run, Step, ends, in_turn, read_node, read_level, read_tree, take_tree, read_attributes, read_attribute, take_attribute}
use Rattle.lock_plans.specs.Plans.{read_edge, read_found, answers, refuses, where_so, see, element}
use Rattle.lock_plans.specs.Plans.{a_text, take_edge, take_right, end_of, before, take_out, place, grafted}

-- a document takes one element alone
abbrev pub one_element_steps : Label → Fragments → Tree → List Step
one_element_steps p f t =
    refuses (is_text_fragment f) (Dom hierarchy_request_err) t ∷
    read_edge p First ∷
    refuses (is_some (first_of (at p t.documents))) (Dom hierarchy_request_err) t ∷ []

-- a document has room for it
abbrev pub room_in_document : Label → Fragments → Tree → Step
room_in_document p f t = where_so (is_document (at p t.documents)) (one_element_steps p f t)

-- `append`
abbrev pub append_steps : Label → Fragments → Tree → List Step
append_steps p f t =
    see p t ∷
    refuses (is_text_node (at p t.documents)) (Dom hierarchy_request_err) t ∷
    room_in_document p f t ∷
    refuses (is_too_deep p f) TooDeep t ∷
    end_of p (last_child_of (at p t.documents)) ∷
    place (grafted f) (new_label p (last_child_of (at p t.documents)) None) t ∷ []

-- `create`
abbrev pub create_steps : Name → Fragments → Tree → List Step
create_steps n f t =
    refuses (not (is_name n)) (Dom invalid_character_err) t ∷
    refuses (is_text_fragment f) (Dom hierarchy_request_err) t ∷
    read_attribute root n ∷
    refuses (is_some (beside n t.catalogue)) DocumentExists t ∷
    refuses (nat_lt deepest_level (1 + depth f)) TooDeep t ∷
    take_attribute root n ∷
    end_of root (last_label t.documents) ∷
    place (λ new. document_at new f) (document_label t) t ∷ []

-- the child c of p
abbrev pub child : Label → Label → Tree → Step
child p c t rest = refuses (not (same_label (parent c) p)) (Dom not_found_err) t (see c t rest)

-- `insert` before a child
abbrev pub insert_steps : Label → Label → Fragments → Tree → List Step
insert_steps p c f t =
    see p t ∷
    refuses (is_text_node (at p t.documents)) (Dom hierarchy_request_err) t ∷
    child p c t ∷
    refuses (is_document (at p t.documents)) (Dom hierarchy_request_err) t ∷
    refuses (is_too_deep p f) TooDeep t ∷
    before p c (prev_of None c t.documents) ∷
    place (grafted f) (new_label p (prev_of None c t.documents) (Some c)) t ∷ []

-- `replace`
abbrev pub replace_steps : Label → Label → Fragments → Tree → List Step
replace_steps p old f t =
    see p t ∷
    child p old t ∷
    refuses (is_document (at p t.documents) && is_text_fragment f) (Dom hierarchy_request_err) t ∷
    refuses (is_too_deep p f) TooDeep t ∷
    take_out p old (prev_of None old t.documents) (next_of (at old t.documents)) ∷
    place (grafted f) (new_label p (prev_of None old t.documents) (next_of (at old t.documents))) t ∷ []

-- the document that was found, with its gap
abbrev pub take_document : Option Label → Tree → Step
take_document None t rest = rest
take_document (Some l) t rest = take_out root l (prev_of None l t.documents) (next_of (at l t.documents)) rest

-- the data of a found text
abbrev pub data_of : Forest → List ℕ
data_of (node l (Text d) ats ch nx) = d
data_of found = []

-- calls that are refused where `past` holds of a text's data, and else make new data of them
abbrev pub data_steps : Label → (List ℕ → Bool) → (List ℕ → List ℕ) → Tree → List Step
data_steps l past make t =
    see l t ∷
    a_text l t ∷
    refuses (past (data_of (at l t.documents))) (Dom index_size_err) t ∷
    refuses (is_too_long (make (data_of (at l t.documents)))) TextLimit t ∷
    take_tree l ∷ []

-- `split_text`
abbrev pub split_steps : Label → ℕ → Tree → List Step
split_steps l offset t =
    see l t ∷
    a_text l t ∷
    refuses (is_past offset (data_of (at l t.documents))) (Dom index_size_err) t ∷
    take_tree l ∷
    take_edge l Next ∷
    take_right (parent l) (next_of (at l t.documents)) ∷
    place (λ new. node new (Text []) [] none none) (new_label (parent l) (Some l) (next_of (at l t.documents))) t ∷ []

-- `set_text`: of a text as `set_data`; an element's children go, and one text comes if the data isn't empty
abbrev pub set_text_steps : Label → List ℕ → Tree → List Step
set_text_steps l d t =
    see l t ∷
    answers (is_document (at l t.documents)) reply.Nothing t ∷
    refuses (not (is_text_node (at l t.documents)) && is_too_deep l (text_below d)) TooDeep t ∷
    refuses (is_too_long d) TextLimit t ∷
    take_tree l ∷
    refuses (not (is_text_node (at l t.documents)) && not (all_within (graft (l ++ (first_division ∷ [])) (text_below d) none))) LabelLimit t ∷ []

-- the steps of a call
abbrev pub steps : DomCall → Tree → List Step
steps call.Docs t = read_attributes root ∷ []
steps (call.Doc n) t = read_attribute root n ∷ []
steps (call.Node l) t = see l t ∷ []
steps (call.Parent l) t = see l t ∷ read_node (parent l) ∷ []
steps (call.First l) t = see l t ∷ read_edge l First ∷ read_found (first_of (at l t.documents)) ∷ []
steps (call.Last l) t = see l t ∷ read_edge l Last ∷ read_found (last_child_of (at l t.documents)) ∷ []
steps (call.Next l) t =
    see l t ∷
    answers (is_document (at l t.documents)) (reply.Place None) t ∷
    read_edge l Next ∷
    read_found (next_of (at l t.documents)) ∷ []
steps (call.Prev l) t =
    see l t ∷
    answers (is_document (at l t.documents)) (reply.Place None) t ∷
    read_edge l Prev ∷
    read_found (prev_of None l t.documents) ∷ []
steps (call.Children l) t = see l t ∷ read_level l ∷ []
steps (call.Attr l n) t = see l t ∷ element l t ∷ answers (not (is_name n)) (reply.Chars []) t ∷ read_attribute l n ∷ []
steps (call.HasAttr l n) t = see l t ∷ element l t ∷ answers (not (is_name n)) (reply.Flag false) t ∷ read_attribute l n ∷ []
steps (call.Attrs l) t = see l t ∷ answers (not (is_element (at l t.documents))) (reply.Attrs None) t ∷ read_attributes l ∷ []
steps (call.TextContent l) t = see l t ∷ answers (is_document (at l t.documents)) reply.Nothing t ∷ read_tree l ∷ []
steps (call.Tags l n) t = see l t ∷ read_tree l ∷ []
steps (call.Dump l) t = see l t ∷ read_tree l ∷ []
steps (call.Length l) t = see l t ∷ a_text l t ∷ []
steps (call.Substring l offset count) t = see l t ∷ a_text l t ∷ refuses (is_past offset (data_of (at l t.documents))) (Dom index_size_err) t ∷ []
steps (call.Append p f) t = append_steps p (plain f) t
steps (call.Insert p None f) t = append_steps p (plain f) t
steps (call.Insert p (Some c) f) t = insert_steps p c (plain f) t
steps (call.SetAttr l n v) t =
    see l t ∷
    element l t ∷
    refuses (not (is_name n)) (Dom invalid_character_err) t ∷
    refuses (is_too_long v) TextLimit t ∷
    take_attribute l n ∷ []
steps (call.SetData l d) t = see l t ∷ a_text l t ∷ refuses (is_too_long d) TextLimit t ∷ take_tree l ∷ []
steps (call.Remove p old) t = see p t ∷ child p old t ∷ take_out p old (prev_of None old t.documents) (next_of (at old t.documents)) ∷ []
steps (call.Create n f) t = create_steps n (plain_or_none f) t
steps (call.Drop n) t =
    read_attribute root n ∷
    refuses (not (is_some (beside n t.catalogue))) (Dom not_found_err) t ∷
    take_attribute root n ∷
    take_document (beside n t.catalogue) t ∷ []
steps (call.Replace p old f) t = replace_steps p old (plain f) t
steps (call.RemoveAttr l n) t =
    see l t ∷
    element l t ∷
    answers (not (is_name n)) reply.Nothing t ∷
    read_attribute l n ∷
    answers (not (is_some (beside n (attributes_of (at l t.documents))))) reply.Nothing t ∷
    take_attribute l n ∷ []
steps (call.Rename l n) t = see l t ∷ element l t ∷ refuses (not (is_name n)) (Dom invalid_character_err) t ∷ take_tree l ∷ []
steps (call.AppendData l d) t = data_steps l (λ old. false) (λ old. old ++ d) t
steps (call.InsertData l offset d) t = data_steps l (is_past offset) (λ old. data_before offset old ++ (d ++ data_from (offset + 0) old)) t
steps (call.DeleteData l offset count) t = data_steps l (is_past offset) (λ old. data_before offset old ++ ([] ++ data_from (offset + count) old)) t
steps (call.ReplaceData l offset count d) t = data_steps l (is_past offset) (λ old. data_before offset old ++ (d ++ data_from (offset + count) old)) t
steps (call.SplitText l offset) t = split_steps l offset t
steps (call.Normalize l) t =
    see l t ∷
    answers (is_text_node (at l t.documents)) reply.Nothing t ∷
    take_tree l ∷
    refuses (not (texts_fit (normal (below (at l t.documents))))) TextLimit t ∷ []
steps (call.SetText l d) t = set_text_steps l d t

-- a call on a tree
abbrev pub run : DomCall → Tree → Run
run c t = in_turn (steps c t) (ends (dom c t))

-- the requests of a call on a tree
abbrev pub requests : DomCall → Tree → List Request
requests c t = (run c t).requests

-- A refused call gives the same tree.
use Rattle.std.proofs.Common.{◌≡◌, ℕ, ◌+◌, Bool, true, false, cond, not, ◌&&◌, ◌||◌, List, [], ◌∷◌, ◌++◌, Option, Some, None, refl}
use Rattle.dewey_labels.specs.Labels.{Label}
use Rattle.dewey_labels.specs.Lists.{is_empty}
use Rattle.tree_model.specs.declared.dom_call.DomCall.{DomCall}
use Rattle.tree_model.specs.declared.dom_call.DomCall.TheVariants as call
use Rattle.tree_model.specs.declared.record.Record.TheVariants.{Document, Element, Text, Attr}
use Rattle.tree_model.specs.declared.reply.Reply.{Reply}
use Rattle.tree_model.specs.declared.refusal.Refusal.{Refusal}
use Rattle.tree_model.specs.Names.{is_name}
use Rattle.tree_model.specs.Tree.{Attributes, Forest, none, node, Tree, at, below, beside}
use Rattle.tree_model.specs.Fragments.{Fragments, plain}
use Rattle.dewey_labels.specs.NewLabels.{first_division}
use Rattle.tree_model.specs.Graft.{graft, all_within}
use Rattle.tree_model.specs.Outcomes.{Outcome, refused, is_refused, see_in}
use Rattle.tree_model.specs.NodeKinds.{is_document, is_text_node}
use Rattle.tree_model.specs.Texts.{is_past}
use Rattle.tree_model.specs.Attributes as attributes
use Rattle.tree_model.specs.Texts as texts
use Rattle.tree_model.specs.Limits as limits
use Rattle.tree_model.specs.Placing as placing
use Rattle.tree_model.specs.Fragments as fragments
use Rattle.tree_model.specs.Documents as documents
use Rattle.tree_model.specs.DomCalls.{dom}
use Rattle.tree_model.proofs.Creates.{create_refused}

-- a refusal comes with this tree
pub record LeavesIt (t : Tree) (o : Outcome) : Type 0 where
  pub same : is_refused o.0 ≡ true → o.1 ≡ t

of_test : (t : Tree) (b : Bool) (x y : Outcome) → LeavesIt t x → LeavesIt t y → LeavesIt t (cond b x y)
of_test t true x y h g = h
of_test t false x y h g = g

of_refusal : (t : Tree) (why : Refusal) → LeavesIt t (refused why t)
of_refusal t why = record { same = λ _. refl }

-- of a reply that is no refusal
of_reply : (t : Tree) (o : Outcome) → is_refused o.0 ≡ false → LeavesIt t o
of_reply t o h = record { same = λ g. cc }

of_see : (t : Tree) (change : Forest → Outcome) (f : Forest) → ((found : Forest) → LeavesIt t (change found)) → LeavesIt t (see_in t change f)
of_see t change none h = of_refusal t _
of_see t change (node l r ats ch nx) h = h (node l r ats ch nx)

of_element : (t : Tree) (change : Attributes → Outcome) (f : Forest) → ((ats : Attributes) → LeavesIt t (change ats)) → LeavesIt t (attributes.in_element t change f)
of_element t change none h = of_refusal t _
of_element t change (node l Document ats ch nx) h = of_refusal t _
of_element t change (node l (Element n) ats ch nx) h = h ats
of_element t change (node l (Text d) ats ch nx) h = of_refusal t _
of_element t change (node l (Attr v) ats ch nx) h = of_refusal t _

of_text : (t : Tree) (change : List ℕ → Outcome) (f : Forest) → ((d : List ℕ) → LeavesIt t (change d)) → LeavesIt t (texts.in_text t change f)
of_text t change none h = of_refusal t _
of_text t change (node l Document ats ch nx) h = of_refusal t _
of_text t change (node l (Element n) ats ch nx) h = of_refusal t _
of_text t change (node l (Text d) ats ch nx) h = h d
of_text t change (node l (Attr v) ats ch nx) h = of_refusal t _

of_data : (l : Label) (t : Tree) (d : List ℕ) → LeavesIt t (texts.with_data l t d)
of_data l t d = of_test t (limits.is_too_long d) _ _ (of_refusal t _) (of_reply t _ refl)

of_place : (f : Fragments) (o : Option Label) (change : Label → Forest → Forest) (answer : Label → Reply) (l : Label) (t : Tree) → ((new : Label) → is_refused (answer new) ≡ false) → LeavesIt t (placing.place f o change answer l t)
of_place f None change answer l t h = of_refusal t _
of_place f (Some new) change answer l t h = of_test t (all_within (graft new f none)) _ _ (of_reply t _ (h new)) (of_refusal t _)

of_rest : (l : Label) (offset : ℕ) (t : Tree) (o : Option Label) → LeavesIt t (texts.place_rest l offset t o)
of_rest l offset t None = of_refusal t _
of_rest l offset t (Some new) = of_reply t _ refl

of_replaced : (l : Label) (offset count : ℕ) (d : List ℕ) (t : Tree) → LeavesIt t (texts.replace_data l offset count d t)
of_replaced l offset count d t = of_see t (texts.in_text t (texts.replace_data_in l offset count d t)) (at l t.documents) (λ found. of_text t (texts.replace_data_in l offset count d t) found (λ old. of_test t (is_past offset old) _ _ (of_refusal t _) (of_data l t (texts.data_before offset old ++ (d ++ texts.data_from (offset + count) old)))))

of_append : (p : Label) (f : Fragments) (t : Tree) → LeavesIt t (placing.append p f t)
of_append p f t = of_see t (placing.append_to p f t) (at p t.documents) (λ found. of_test t (is_text_node found || placing.is_full f found) _ _ (of_refusal t _) (of_test t (placing.is_too_deep p f) _ _ (of_refusal t _) (of_place f _ (placing.with_last f) placing.as_place p t (λ _. refl))))

-- of every call
pub dom_refused : (c : DomCall) (t : Tree) → LeavesIt t (dom c t)
dom_refused call.Docs t = record { same = λ _. refl }
dom_refused (call.Doc n) t = record { same = λ _. refl }
dom_refused (call.Node l) t = record { same = λ _. refl }
dom_refused (call.Parent l) t = record { same = λ _. refl }
dom_refused (call.First l) t = record { same = λ _. refl }
dom_refused (call.Last l) t = record { same = λ _. refl }
dom_refused (call.Next l) t = record { same = λ _. refl }
dom_refused (call.Prev l) t = record { same = λ _. refl }
dom_refused (call.Children l) t = record { same = λ _. refl }
dom_refused (call.Attr l n) t = record { same = λ _. refl }
dom_refused (call.HasAttr l n) t = record { same = λ _. refl }
dom_refused (call.Attrs l) t = record { same = λ _. refl }
dom_refused (call.TextContent l) t = record { same = λ _. refl }
dom_refused (call.Tags l n) t = record { same = λ _. refl }
dom_refused (call.Dump l) t = record { same = λ _. refl }
dom_refused (call.Length l) t = record { same = λ _. refl }
dom_refused (call.Substring l offset count) t = record { same = λ _. refl }
dom_refused (call.Create n f) t = record { same = create_refused n (fragments.plain_or_none f) t }
dom_refused (call.Drop n) t = by (beside n t.catalogue)
  where
    by : (o : Option Label) → LeavesIt t (documents.drop_found n t o)
    by None = of_refusal t _
    by (Some l) = of_reply t _ refl
dom_refused (call.Append p f) t = of_append p (plain f) t
dom_refused (call.Insert p None f) t = of_append p (plain f) t
dom_refused (call.Insert p (Some c) f) t = of_see t (placing.insert_into p c (plain f) t) (at p t.documents) (λ found. of_test t (is_text_node found) _ _ (of_refusal t _) (of_test t (not (placing.has_child p c t)) _ _ (of_refusal t _) (of_test t (is_document found) _ _ (of_refusal t _) (of_test t (placing.is_too_deep p (plain f)) _ _ (of_refusal t _) (of_place (plain f) _ _ placing.as_place c t (λ _. refl))))))
dom_refused (call.Replace p old f) t = of_see t (placing.replace_in p old (plain f) t) (at p t.documents) (λ found. of_test t (not (placing.has_child p old t)) _ _ (of_refusal t _) (of_test t (is_document found && fragments.is_text_fragment (plain f)) _ _ (of_refusal t _) (of_test t (placing.is_too_deep p (plain f)) _ _ (of_refusal t _) (of_place (plain f) _ _ _ old t (λ _. refl)))))
dom_refused (call.Remove p old) t = of_see t (placing.remove_from p old t) (at p t.documents) (λ found. of_test t (not (placing.has_child p old t)) _ _ (of_refusal t _) (of_reply t _ refl))
dom_refused (call.SetAttr l n v) t = of_see t (attributes.in_element t (attributes.set_attr_in l n v t)) (at l t.documents) (λ found. of_element t (attributes.set_attr_in l n v t) found (λ ats. of_test t (not (is_name n)) _ _ (of_refusal t _) (of_test t (limits.is_too_long v) _ _ (of_refusal t _) (of_reply t _ refl))))
dom_refused (call.RemoveAttr l n) t = of_see t (attributes.in_element t (attributes.remove_attr_in l n t)) (at l t.documents) (λ found. of_element t (attributes.remove_attr_in l n t) found (λ ats. of_test t (not (is_name n)) _ _ (of_reply t _ refl) (of_reply t _ refl)))
dom_refused (call.Rename l n) t = of_see t (attributes.in_element t (attributes.rename_in l n t)) (at l t.documents) (λ found. of_element t (attributes.rename_in l n t) found (λ ats. of_test t (not (is_name n)) _ _ (of_refusal t _) (of_reply t _ refl)))
dom_refused (call.SetData l d) t = of_see t (texts.in_text t (texts.set_data_in l d t)) (at l t.documents) (λ found. of_text t (texts.set_data_in l d t) found (λ old. of_data l t d))
dom_refused (call.AppendData l d) t = of_see t (texts.in_text t (texts.append_data_in l d t)) (at l t.documents) (λ found. of_text t (texts.append_data_in l d t) found (λ old. of_data l t (old ++ d)))
dom_refused (call.InsertData l offset d) t = of_replaced l offset 0 d t
dom_refused (call.DeleteData l offset count) t = of_replaced l offset count [] t
dom_refused (call.ReplaceData l offset count d) t = of_replaced l offset count d t
dom_refused (call.SplitText l offset) t = of_see t (texts.in_text t (texts.split_text_in l offset t)) (at l t.documents) (λ found. of_text t (texts.split_text_in l offset t) found (λ d. of_test t (is_past offset d) _ _ (of_refusal t _) (of_rest l offset t _)))
dom_refused (call.Normalize l) t = of_see t (texts.normalize_in l t) (at l t.documents) (λ found. of_test t (is_text_node found) _ _ (of_reply t _ refl) (of_test t (texts.texts_fit (texts.normal (below found))) _ _ (of_reply t _ refl) (of_refusal t _)))
dom_refused (call.SetText l d) t = of_see t (texts.set_text_of l d t) (at l t.documents) set
  where
    cleared : (l : Label) → LeavesIt t (texts.set_text_of l d t none)
    cleared l = of_test t (not (is_empty d) && placing.is_too_deep l (texts.text_below d)) _ _ (of_refusal t _) (of_test t (limits.is_too_long d) _ _ (of_refusal t _) (of_test t (all_within (graft (l ++ (first_division ∷ [])) (texts.text_below d) none)) _ _ (of_reply t _ refl) (of_refusal t _)))

    set : (found : Forest) → LeavesIt t (texts.set_text_of l d t found)
    set none = cleared l
    set (node m Document ats ch nx) = of_reply t _ refl
    set (node m (Element n) ats ch nx) = cleared l
    set (node m (Text old) ats ch nx) = of_data l t d
    set (node m (Attr v) ats ch nx) = cleared l

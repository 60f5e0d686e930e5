-- The texts and the labels that a walk gathers below a node are those of its subtree.
use Rattle.std.proofs.Common.{◌≡◌, true, ℕ, List, [], ◌∷◌, ◌++◌, map, if◌then◌else◌, Option, Some, None, refl, sym, ap, ◌∙◌, append_assoc, append-nil}
use Rattle.dewey_labels.specs.Labels.{Label}
use Rattle.tree_model.specs.declared.record.Record.{Record}
use Rattle.tree_model.specs.declared.record.Record.TheVariants.{Attr, Document, Element, Text}
use Rattle.tree_model.specs.declared.refusal.Refusal.TheVariants.{Dom}
use Rattle.tree_model.specs.declared.reply.Reply.{Reply}
use Rattle.tree_model.specs.declared.reply.Reply.TheVariants.{Chars, Nothing, Places, Refused}
use Rattle.tree_model.specs.Entries.{Entries, get}
use Rattle.tree_model.specs.Keys.{node_key}
use Rattle.tree_model.specs.Names.{Name}
use Rattle.tree_model.specs.Navigation.{tagged, tags}
use Rattle.tree_model.specs.Outcomes.{not_found_err, see}
use Rattle.tree_model.specs.Texts.{content, text_content, texts_of}
use Rattle.tree_model.specs.Tree.{Attributes, Forest, none, node, Tree, attr_entry, own, entries_of, map_of, at, below, record_of}
use Rattle.tree_model.specs.ValidTrees.{IsValidTree, KindsAllowed}
use Rattle.tree_model.proofs.Edits.{over}
use Rattle.tree_model.proofs.Found.{some_is}
use Rattle.tree_model.proofs.FoundRecords.{at_kinds}
use Rattle.tree_model.proofs.WholeTree.{get_node}
use Rattle.dom_reads.specs.inside.Gathered.{data_of, has_tag, labels_in, texts_in}
use Rattle.dom_reads.proofs.SubtreeEntries.{below_found, met_below}

-- ---- texts

pub texts_in-append : (xs ys : Entries) → texts_in (xs ++ ys) ≡ texts_in xs ++ texts_in ys
texts_in-append [] ys = refl
texts_in-append (x ∷ xs) ys = ap (λ v. data_of x.1 ++ v) (texts_in-append xs ys) ∙ sym (append_assoc (data_of x.1) (texts_in xs) (texts_in ys))

-- attributes have none
texts_in-attributes : (l : Label) (ats : Attributes) → texts_in (map (attr_entry l) ats) ≡ []
texts_in-attributes l [] = refl
texts_in-attributes l (a ∷ ats) = texts_in-attributes l ats

-- those of what lies below a node
texts_in-below : (l : Label) (ats : Attributes) (es : Entries) → texts_in (map (attr_entry l) ats ++ es) ≡ texts_in es
texts_in-below l ats es = texts_in-append (map (attr_entry l) ats) es ∙ ap (λ v. v ++ texts_in es) (texts_in-attributes l ats)

-- a text has no children
nothing_below_text : (d : List ℕ) (ch : Forest) → KindsAllowed (Some (Text d)) ch → ch ≡ none
nothing_below_text d none w = refl
nothing_below_text d (node l r ats ch nx) w = let no : Rattle.std.proofs.Common.false ≡ true = w.0 in cc

-- among the entries of a forest are its texts
pub texts_in-forest : (p : Option Record) (f : Forest) → KindsAllowed p f → texts_in (entries_of f) ≡ texts_of f
texts_in-forest p none w = refl
texts_in-forest p (node l r ats ch nx) w =
    texts_in-append (own l r ats ++ entries_of ch) (entries_of nx)
    ∙ (λ i. (ap (λ v. data_of r ++ v) (texts_in-below l ats (entries_of ch))) i ++ texts_in-forest p nx w.4 i)
    ∙ by r w.3 (texts_in-forest (Some r) ch w.3)
  where
    by : (r : Record) → KindsAllowed (Some r) ch → texts_in (entries_of ch) ≡ texts_of ch
        → (data_of r ++ texts_in (entries_of ch)) ++ texts_of nx ≡ texts_of (node l r ats ch nx)
    by (Text d) k h = ap (λ v. (d ++ texts_in (entries_of v)) ++ texts_of nx) (nothing_below_text d ch k) ∙ ap (λ v. v ++ texts_of nx) (append-nil d)
    by (Element n) k h = ap (λ v. v ++ texts_of nx) h
    by Document k h = ap (λ v. v ++ texts_of nx) h
    by (Attr v) k h = ap (λ v. v ++ texts_of nx) h

-- ---- labels

pub labels_in-append : (n : Name) (xs ys : Entries) → labels_in n (xs ++ ys) ≡ labels_in n xs ++ labels_in n ys
labels_in-append n [] ys = refl
labels_in-append n (x ∷ xs) ys =
    let own_label : List Label = if has_tag n x.1 then x.0.label ∷ [] else [] in
    ap (λ v. own_label ++ v) (labels_in-append n xs ys) ∙ sym (append_assoc own_label (labels_in n xs) (labels_in n ys))

labels_in-attributes : (n : Name) (l : Label) (ats : Attributes) → labels_in n (map (attr_entry l) ats) ≡ []
labels_in-attributes n l [] = refl
labels_in-attributes n l (a ∷ ats) = labels_in-attributes n l ats

labels_in-below : (n : Name) (l : Label) (ats : Attributes) (es : Entries) → labels_in n (map (attr_entry l) ats ++ es) ≡ labels_in n es
labels_in-below n l ats es = labels_in-append n (map (attr_entry l) ats) es ∙ ap (λ v. v ++ labels_in n es) (labels_in-attributes n l ats)

-- among the entries of a forest are its elements with the name
pub labels_in-forest : (n : Name) (f : Forest) → labels_in n (entries_of f) ≡ tagged n f
labels_in-forest n none = refl
labels_in-forest n (node l r ats ch nx) =
    let own_label : List Label = if has_tag n r then l ∷ [] else [] in
    labels_in-append n (own l r ats ++ entries_of ch) (entries_of nx)
    ∙ (λ i. (ap (λ v. own_label ++ v) (labels_in-below n l ats (entries_of ch) ∙ labels_in-forest n ch)) i ++ labels_in-forest n nx i)
    ∙ append_assoc own_label (tagged n ch) (tagged n nx)
    ∙ by r
  where
    by : (r : Record) → (if has_tag n r then l ∷ [] else []) ++ (tagged n ch ++ tagged n nx) ≡ tagged n (node l r ats ch nx)
    by (Text d) = refl
    by (Element m) = refl
    by Document = refl
    by (Attr v) = refl

-- ---- the calls, by what they read

-- no node has the label
pub see_missing : (answer : Forest → Reply) (l : Label) (t : Tree) → IsValidTree t → None ≡ get (node_key l) (map_of t)
    → Refused (Dom not_found_err) ≡ see answer (at l t.documents)
see_missing answer l t w h = by (at l t.documents) (h ∙ get_node l t w)
  where
    by : (g : Forest) → None ≡ record_of g → Refused (Dom not_found_err) ≡ see answer g
    by none q = refl
    by (node m r ats ch nx) q = cc

-- what a node with the record has as its text, by what lies below it
abbrev pub text_met : Record → Entries → Reply
text_met (Element n) es = Chars (texts_in es)
text_met (Text d) es = Chars d
text_met r es = Nothing

-- the text of a node
pub text_content_found : (l : Label) (r : Record) (t : Tree) → IsValidTree t → Some r ≡ get (node_key l) (map_of t)
    → text_met r (met_below l t) ≡ text_content l t
text_content_found l r t w h = by (at l t.documents) refl (h ∙ get_node l t w) (at_kinds None l t.documents w.kinds)
  where
    of_kind : (m : Label) (s : Record) (ats : Attributes) (ch nx : Forest) → at l t.documents ≡ node m s ats ch nx → KindsAllowed (Some s) ch
        → text_met s (met_below l t) ≡ content (node m s ats ch nx)
    of_kind m (Element n) ats ch nx e k = ap Chars (ap texts_in (below_found l m (Element n) ats ch nx t w e) ∙ texts_in-below l ats (entries_of ch) ∙ texts_in-forest (Some (Element n)) ch k)
    of_kind m (Text d) ats ch nx e k = refl
    of_kind m Document ats ch nx e k = refl
    of_kind m (Attr v) ats ch nx e k = refl

    by : (g : Forest) → at l t.documents ≡ g → Some r ≡ record_of g → KindsAllowed (over l None t.documents) g → text_met r (met_below l t) ≡ see content g
    by none e q k = cc
    by (node m s ats ch nx) e q k = ap (λ v. text_met v (met_below l t)) (some_is r s q) ∙ of_kind m s ats ch nx e k.3

-- the elements with the name below a node
pub tags_found : (l : Label) (n : Name) (r : Record) (t : Tree) → IsValidTree t → Some r ≡ get (node_key l) (map_of t)
    → Places (labels_in n (met_below l t)) ≡ tags l n t
tags_found l n r t w h = by (at l t.documents) refl (h ∙ get_node l t w)
  where
    by : (g : Forest) → at l t.documents ≡ g → Some r ≡ record_of g → Places (labels_in n (met_below l t)) ≡ see (λ found. Places (tagged n (below found))) g
    by none e q = cc
    by (node m s ats ch nx) e q = ap Places (ap (labels_in n) (below_found l m s ats ch nx t w e) ∙ labels_in-below n l ats (entries_of ch) ∙ labels_in-forest n ch)

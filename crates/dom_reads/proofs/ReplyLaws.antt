-- What the reading calls reply to, by the record of the node that was looked for.
use Rattle.std.proofs.Common.{◌≡◌, ◌≢◌, true≢false, IsSome, ◌≤◌, ◌-◌, ◌^◌, ℕ, Bool, true, false, cond, nat_le, nat_lt, [], ◌∷◌, ◌++◌, length, if◌then◌else◌, List, Option, Some, None, IfSome, is_some, option_map, unwrap_or, nat_cmp, is_eq, refl, sym, ap, subst, ◌∙◌, arith}
use Rattle.std.proofs.lemmas.Bool.Decides.{nat_tests}
use Rattle.std.proofs.lemmas.Str.{encodes-chars, IsUtf8-from_is_utf8, length-le-encodes}
use Rattle.std.specs.Str.{chars, is_utf8}
use Rattle.std.specs.Cmp.Lexicographic.{slice_cmp}
use Rattle.std.specs.List.{AllByRecursion}
use Rattle.dewey_labels.specs.Labels.{Label, IsLabel, root, parent}
use Rattle.dewey_labels.specs.LabelText.{label_text, label_of}
use Rattle.dewey_labels.proofs.Codes.{first_of_both, second_of_both}
use Rattle.dewey_labels.proofs.LabelOf.{label_of-label_text}
use Rattle.tree_model.specs.declared.record.Record.{Record}
use Rattle.tree_model.specs.declared.record.Record.TheVariants.{Document, Element, Text, Attr}
use Rattle.tree_model.specs.declared.reply.Reply.{Reply}
use Rattle.tree_model.specs.declared.reply.Reply.TheVariants.{Place, Refused}
use Rattle.tree_model.specs.declared.reply.Reply.TheVariants as reply
use Rattle.tree_model.specs.declared.refusal.Refusal.TheVariants.{Dom}
use Rattle.tree_model.specs.Attributes as attributes
use Rattle.tree_model.specs.Entries.{Entries}
use Rattle.tree_model.specs.Documents as documents
use Rattle.tree_model.specs.Limits.{most_text_bytes}
use Rattle.tree_model.specs.Records.{record_fits}
use Rattle.tree_model.specs.Texts as texts
use Rattle.tree_model.specs.Names.{Name, is_name}
use Rattle.tree_model.specs.Navigation as navigation
use Rattle.tree_model.specs.NodeKinds.{is_document, is_element}
use Rattle.tree_model.specs.Outcomes.{see, not_found_err, not_supported_err}
use Rattle.tree_model.specs.Places.{attributes_at}
use Rattle.tree_model.specs.StoredTree.{is_document_record, is_element_record, with_label}
use Rattle.tree_model.specs.Tree.{Attributes, Catalogue, Forest, none, node, Tree, at, found, record_of, attributes_of, root_attributes, beside}
use Rattle.tree_model.specs.ValidTrees.{LimitsKept, IsValidTree}
use Rattle.tree_model.proofs.Found.{some_is}
use Rattle.tree_model.proofs.FoundRecords.{at_limits}
use Rattle.tree_model.proofs.PlaceLaws.{not_root}
use Rattle.tree_model.proofs.UnbrokenTrees.{catalogue_labels}
use Rattle.tree_model.proofs.WholeTree.{beside_root}
use Rattle.node_seq.specs.Trees.{StandsFor}
use Rattle.dom_reads.specs.inside.Catalogues.{catalogue_of}
use Rattle.dom_reads.specs.ReadCounts.{child_reads}
use Rattle.dom_reads.specs.inside.Counts.{at_most}
use Rattle.dom_reads.proofs.StepLaws.{attributes_there, root_not_found}

-- a map stands for the tree also after reads, which leave it as it was
pub later : (before now : Option Entries) (t : Tree) → now ≡ before → StandsFor before t → StandsFor now t
later before now t e stands = record { valid = stands.valid; map = e ∙ stands.map }

-- ---- the node that was looked for

-- what holds of each node with the record holds of the one that was found
pub on_found : (P : Forest → Type 0) (g : Forest) (r : Record) → Some r ≡ record_of g → ((l : Label) (ats : Attributes) (ch nx : Forest) → P (node l r ats ch nx)) → P g
on_found P none r e f = cc
on_found P (node l s ats ch nx) r e f = subst (λ v. P (node l v ats ch nx)) (some_is r s e) (f l ats ch nx)

pub there : (g : Forest) (r : Record) → Some r ≡ record_of g → found g ≡ true
there g r e = on_found (λ h. found h ≡ true) g r e (λ l ats ch nx. refl)

-- a record is there where the node is
pub is_there : (g : Forest) (o : Option Record) → o ≡ record_of g → is_some o ≡ true → found g ≡ true
is_there g None e h = cc
is_there g (Some r) e h = there g r e

pub nothing_seen : (answer : Forest → Reply) (g : Forest) → None ≡ record_of g → Refused (Dom not_found_err) ≡ see answer g
nothing_seen answer none e = refl
nothing_seen answer (node l r ats ch nx) e = cc

pub seen : (answer : Forest → Reply) (g : Forest) → found g ≡ true → answer g ≡ see answer g
seen answer none y = cc
seen answer (node l r ats ch nx) y = refl

-- ---- navigation

-- the kind of the found node, by its record
document_is : (g : Forest) (r : Record) → Some r ≡ record_of g → is_document g ≡ is_document_record (Some r)
document_is g r e = on_found (λ h. is_document h ≡ is_document_record (Some r)) g r e (λ l ats ch nx. by l ats ch nx r)
  where
    by : (l : Label) (ats : Attributes) (ch nx : Forest) (r : Record) → is_document (node l r ats ch nx) ≡ is_document_record (Some r)
    by l ats ch nx Document = refl
    by l ats ch nx (Element n) = refl
    by l ats ch nx (Text d) = refl
    by l ats ch nx (Attr v) = refl

pub element_is : (g : Forest) (r : Record) → Some r ≡ record_of g → is_element g ≡ is_element_record (Some r)
element_is g r e = on_found (λ h. is_element h ≡ is_element_record (Some r)) g r e (λ l ats ch nx. by l ats ch nx r)
  where
    by : (l : Label) (ats : Attributes) (ch nx : Forest) (r : Record) → is_element (node l r ats ch nx) ≡ is_element_record (Some r)
    by l ats ch nx Document = refl
    by l ats ch nx (Element n) = refl
    by l ats ch nx (Text d) = refl
    by l ats ch nx (Attr v) = refl

-- a document has no place beside it, any other node has
pub document_reply : (p : Forest → Option Label) (g : Forest) (r : Record) → Some r ≡ record_of g → is_document_record (Some r) ≡ true → Place None ≡ see (λ h. navigation.unless_document (p h) h) g
document_reply p g r e h = ap (λ b. if b then Place None else Place (p g)) (sym (document_is g r e ∙ h)) ∙ seen (λ h. navigation.unless_document (p h) h) g (there g r e)

pub beside_reply : (p : Forest → Option Label) (g : Forest) (r : Record) → Some r ≡ record_of g → is_document_record (Some r) ≡ false → Place (p g) ≡ see (λ h. navigation.unless_document (p h) h) g
beside_reply p g r e h = ap (λ b. if b then Place None else Place (p g)) (sym (document_is g r e ∙ h)) ∙ seen (λ h. navigation.unless_document (p h) h) g (there g r e)

-- where a child doesn't show its parent, none stands below it
pub two_reads : (l : Label) (t : Tree) (o : Option Label) (b : Bool) (child : Forest → Option Label) → IsValidTree t → child none ≡ None → (found (at l t.documents) ≡ true → o ≡ child (at l t.documents))
    → (IsSome o → l ≢ root → b ≡ true) → b ≡ false → child_reads (child (at l t.documents)) ≡ 2
two_reads l t o b child w n is shown hidden = by (at l t.documents) refl
  where
    by_child : (p : Option Label) → found (at l t.documents) ≡ true → o ≡ p → child_reads p ≡ 2
    by_child None y q = refl
    by_child (Some c) y q = absurd (true≢false (sym (shown (ap is_some q) (λ h. root_not_found l t w y h)) ∙ hidden))

    by : (g : Forest) → at l t.documents ≡ g → child_reads (child g) ≡ 2
    by none e = ap child_reads n
    by (node m r ats ch nx) e = let y : found (at l t.documents) ≡ true = ap found e in by_child (child (node m r ats ch nx)) y (is y ∙ ap child e)

pub one_at_least : (o : Option Label) → 1 ≤ child_reads o
one_at_least None = omega arith
one_at_least (Some c) = omega arith

-- ---- attributes

-- a node that is no element has no attributes to ask for
pub unsupported : (answer : Forest → Reply) (g : Forest) (r : Record) → Some r ≡ record_of g → is_element_record (Some r) ≡ false → Refused (Dom not_supported_err) ≡ see (λ h. attributes.of_element (answer h) h) g
unsupported answer g r e h = ap (λ b. if b then answer g else Refused (Dom not_supported_err)) (sym (element_is g r e ∙ h)) ∙ seen (λ h. attributes.of_element (answer h) h) g (there g r e)

supported : (answer : Forest → Reply) (g : Forest) (r : Record) → Some r ≡ record_of g → is_element_record (Some r) ≡ true → answer g ≡ see (λ h. attributes.of_element (answer h) h) g
supported answer g r e h = ap (λ b. if b then answer g else Refused (Dom not_supported_err)) (sym (element_is g r e ∙ h)) ∙ seen (λ h. attributes.of_element (answer h) h) g (there g r e)

-- the attribute with a name, if that is a Name
abbrev pub named : Name → Attributes → Option (List ℕ)
named n ats = if is_name n then beside n ats else None

pub attr_reply : (l : Label) (n : Name) (t : Tree) (r : Record) → IsValidTree t → Some r ≡ record_of (at l t.documents) → is_element_record (Some r) ≡ true → reply.Chars (unwrap_or (named n (attributes_at l t)) []) ≡ attributes.attr l n t
attr_reply l n t r w e h =
    let g = at l t.documents in
    ap (λ ats. reply.Chars (unwrap_or (named n ats) [])) (attributes_there l t (not_root l t w (there g r e)))
    ∙ ap reply.Chars (value_or_empty (is_name n))
    ∙ supported (λ h. reply.Chars (if is_name n then unwrap_or (beside n (attributes_of h)) [] else [])) g r e h
  where
    value_or_empty : (b : Bool) → unwrap_or (if b then beside n (attributes_of (at l t.documents)) else None) [] ≡ (if b then unwrap_or (beside n (attributes_of (at l t.documents))) [] else [])
    value_or_empty true = refl
    value_or_empty false = refl

pub has_attr_reply : (l : Label) (n : Name) (t : Tree) (r : Record) → IsValidTree t → Some r ≡ record_of (at l t.documents) → is_element_record (Some r) ≡ true → reply.Flag (is_some (named n (attributes_at l t))) ≡ attributes.has_attr l n t
has_attr_reply l n t r w e h =
    let g = at l t.documents in
    ap (λ ats. reply.Flag (is_some (named n ats))) (attributes_there l t (not_root l t w (there g r e)))
    ∙ ap reply.Flag (some_or_false (is_name n))
    ∙ supported (λ h. reply.Flag (if is_name n then is_some (beside n (attributes_of h)) else false)) g r e h
  where
    some_or_false : (b : Bool) → is_some (if b then beside n (attributes_of (at l t.documents)) else None) ≡ (if b then is_some (beside n (attributes_of (at l t.documents))) else false)
    some_or_false true = refl
    some_or_false false = refl

pub found_attributes : (l : Label) (t : Tree) (r : Record) → IsValidTree t → Some r ≡ record_of (at l t.documents) → attributes_at l t ≡ attributes_of (at l t.documents)
found_attributes l t r w e = attributes_there l t (not_root l t w (there (at l t.documents) r e))

pub attrs_reply : (l : Label) (t : Tree) (r : Record) → IsValidTree t → Some r ≡ record_of (at l t.documents) → is_element_record (Some r) ≡ true → reply.Attrs (Some (attributes_at l t)) ≡ attributes.attrs l t
attrs_reply l t r w e h =
    let g = at l t.documents in
    ap (λ ats. reply.Attrs (Some ats)) (attributes_there l t (not_root l t w (there g r e)))
    ∙ ap (λ b. reply.Attrs (if b then Some (attributes_of g) else None)) (sym (element_is g r e ∙ h))
    ∙ seen (λ h. reply.Attrs (if is_element h then Some (attributes_of h) else None)) g (there g r e)

pub no_attrs_reply : (l : Label) (t : Tree) (r : Record) → Some r ≡ record_of (at l t.documents) → is_element_record (Some r) ≡ false → reply.Attrs None ≡ attributes.attrs l t
no_attrs_reply l t r e h =
    let g = at l t.documents in
    ap (λ b. reply.Attrs (if b then Some (attributes_of g) else None)) (sym (element_is g r e ∙ h))
    ∙ seen (λ h. reply.Attrs (if is_element h then Some (attributes_of h) else None)) g (there g r e)

-- ---- the catalogue

-- the catalogue's entry of a name, as an attribute of the root has it
entry_of : (n : Name) (t : Tree) → beside n (attributes_at root t) ≡ option_map label_text (beside n t.catalogue)
entry_of n t = beside_root n t.catalogue

pub no_doc_reply : (n : Name) (t : Tree) → None ≡ beside n (attributes_at root t) → Refused (Dom not_found_err) ≡ documents.doc n t
no_doc_reply n t e = by (beside n t.catalogue) (e ∙ entry_of n t)
  where
    by : (o : Option Label) → ◌≡◌ {A = Option (List ℕ)} None (option_map label_text o) → Refused (Dom not_found_err) ≡ documents.label_or_not_found o
    by None q = refl
    by (Some l) q = cc

-- the value of an entry is the text of its label
pub doc_reply : (n : Name) (t : Tree) (v : List ℕ) → IsValidTree t → Some v ≡ beside n (attributes_at root t) → documents.label_or_not_found (label_of v) ≡ documents.doc n t
doc_reply n t v w e = by t.catalogue (catalogue_labels t w) (e ∙ entry_of n t)
  where
    by : (cat : Catalogue) → AllByRecursion (λ c. IsLabel c.1) cat → Some v ≡ option_map label_text (beside n cat) → documents.label_or_not_found (label_of v) ≡ documents.label_or_not_found (beside n cat)
    by [] h q = cc
    by (c ∷ cat) h q = elim (is_eq (slice_cmp nat_cmp n c.0)) as (λ b. Some v ≡ option_map label_text (cond b (Some c.1) (beside n cat)) → documents.label_or_not_found (label_of v) ≡ documents.label_or_not_found (cond b (Some c.1) (beside n cat))) [
      | true ↦ λ q. ap documents.label_or_not_found (ap label_of (some_is v (label_text c.1) q) ∙ label_of-label_text c.1 h.0)
      | false ↦ λ q. by cat h.1 q
    ] q

-- the root's attributes make the catalogue
pub catalogue_is : (t : Tree) → IsValidTree t → catalogue_of (attributes_at root t) ≡ t.catalogue
catalogue_is t w = by t.catalogue (catalogue_labels t w)
  where
    by : (cat : Catalogue) → AllByRecursion (λ c. IsLabel c.1) cat → catalogue_of (root_attributes cat) ≡ cat
    by [] h = refl
    by (c ∷ cat) h = λ i. with_label c.0 (label_of-label_text c.1 h.0 i) (by cat h.1 i)

-- a catalogue's entry before others
joined : (n : Name) (o : Option Label) (cat rest whole : Catalogue) → whole ≡ cat ++ rest → with_label n o whole ≡ with_label n o cat ++ rest
joined n None cat rest whole h = h
joined n (Some l) cat rest whole h = ap (λ v. (n, l) ∷ v) h

-- one attribute more
pub catalogue_goes_on : (xs : Attributes) (a : Name × List ℕ) → catalogue_of (xs ++ (a ∷ [])) ≡ catalogue_of xs ++ with_label a.0 (label_of a.1) []
catalogue_goes_on [] a = refl
catalogue_goes_on (x ∷ xs) a = joined x.0 (label_of x.1) (catalogue_of xs) (with_label a.0 (label_of a.1) []) (catalogue_of (xs ++ (a ∷ []))) (catalogue_goes_on xs a)

-- the catalogue of the attributes so far, and of one more
pub catalogue_more : (met : Attributes) (a : Name × List ℕ) (o : Option Label) (names : Catalogue) → names ≡ catalogue_of met → o ≡ label_of a.1 → names ++ with_label a.0 o [] ≡ catalogue_of (met ++ (a ∷ []))
catalogue_more met a o names e h = (λ i. e i ++ with_label a.0 (h i) []) ∙ sym (catalogue_goes_on met a)

-- ---- texts

-- of a text that was found
pub text_reply : (answer : List ℕ → Reply) (g : Forest) (d : List ℕ) → Some (Text d) ≡ record_of g → answer d ≡ see (texts.of_text answer) g
text_reply answer g d e = on_found (λ h. answer d ≡ see (texts.of_text answer) h) g (Text d) e (λ l ats ch nx. refl)

-- of any other node
pub no_text_reply : (answer : List ℕ → Reply) (g : Forest) (r : Record) → Some r ≡ record_of g → ((d : List ℕ) → r ≡ Text d → ⊥) → Refused (Dom not_supported_err) ≡ see (texts.of_text answer) g
no_text_reply answer g r e h = on_found (λ f. Refused (Dom not_supported_err) ≡ see (texts.of_text answer) f) g r e (λ l ats ch nx. by l ats ch nx r h)
  where
    by : (l : Label) (ats : Attributes) (ch nx : Forest) (r : Record) → ((d : List ℕ) → r ≡ Text d → ⊥) → Refused (Dom not_supported_err) ≡ texts.of_text answer (node l r ats ch nx)
    by l ats ch nx Document h = refl
    by l ats ch nx (Element n) h = refl
    by l ats ch nx (Text d) h = absurd (h d refl)
    by l ats ch nx (Attr v) h = refl

-- a text that was found keeps the limits
text_fits : (g : Forest) (d : List ℕ) → Some (Text d) ≡ record_of g → LimitsKept g → record_fits (Text d) ≡ true
text_fits none d e h = cc
text_fits (node m r ats ch nx) d e h = subst (λ v. record_fits v ≡ true) (sym (some_is (Text d) r e)) h.1

fewer_than_bytes : (d : List ℕ) → is_utf8 d ≡ true → length (chars d) ≤ length d
fewer_than_bytes d u = subst (λ bs. length (chars d) ≤ length bs) (encodes-chars d (IsUtf8-from_is_utf8 d u)) (length-le-encodes (chars d))

-- a count within the bound stays
stays : (most n : ℕ) → n ≤ most → at_most most n ≡ n
stays most n h = let below : nat_lt most n ≡ false = grind (arith, nat_tests) in ap (λ b. if b then most else n) below

-- the data of a text in a valid tree has no more characters than a number of 32 bits counts
pub few_characters : (l : Label) (t : Tree) (d : List ℕ) → IsValidTree t → Some (Text d) ≡ record_of (at l t.documents) → at_most (2 ^ 32 - 1) (length (chars d)) ≡ length (chars d)
few_characters l t d w e =
    let fits = text_fits (at l t.documents) d e (at_limits l t.documents w.limits) in
    let bytes : length d ≤ most_text_bytes = le_of (length d) most_text_bytes (first_of_both (nat_le (length d) most_text_bytes) (is_utf8 d) fits) in
    let count = fewer_than_bytes d (second_of_both (nat_le (length d) most_text_bytes) (is_utf8 d) fits) in
    stays (2 ^ 32 - 1) (length (chars d)) (omega (arith, bytes, count))
  where
    le_of : (n m : ℕ) → nat_le n m ≡ true → n ≤ m
    le_of n m h = grind (arith, nat_tests)

-- ---- the parent

-- each found node has the parent that its label says
pub parent_reply : (l : Label) (t : Tree) (r : Record) (o : Option Label) → IsValidTree t → Some r ≡ record_of (at l t.documents) → is_document_record (Some r) ≡ false → IfSome o (λ p. p ≡ parent l) → (is_some o ≡ false → l ≡ root) → Place o ≡ navigation.parent_of l t
parent_reply l t r o w e h some root_only = ap Place (is o some root_only) ∙ beside_reply (λ _. Some (parent l)) (at l t.documents) r e h
  where
    is : (o : Option Label) → IfSome o (λ p. p ≡ parent l) → (is_some o ≡ false → l ≡ root) → o ≡ Some (parent l)
    is (Some p) some root_only = ap Some some
    is None some root_only = absurd (root_not_found l t w (there (at l t.documents) r e) (root_only refl))

-- The kind of a found node, by its record.
use Rattle.std.proofs.Common.{◌≡◌, [], Option, None, Some, refl, sym, ap, ◌∙◌}
use Rattle.tree_model.specs.declared.record.Record.{Record}
use Rattle.tree_model.specs.declared.record.Record.TheVariants.{Document, Element, Text, Attr}
use Rattle.tree_model.specs.Tree.{Forest, none, node, record_of}
use Rattle.tree_model.specs.NodeKinds.{is_document, is_element, is_text_node}
use Rattle.lock_plans.specs.DomPlans.{data_of}

-- a node with this record and nothing else
abbrev pub lone : Option Record → Forest
lone None = none
lone (Some r) = node [] r [] none none

-- what depends on the record alone is the same where the records are
pub by_record : {A : Type 0} (p : Forest → A) → ((f : Forest) → p f ≡ p (lone (record_of f))) → (f g : Forest) → record_of f ≡ record_of g → p f ≡ p g
by_record p h f g e = h f ∙ ap (λ r. p (lone r)) e ∙ sym (h g)

pub document_same_kind : (f g : Forest) → record_of f ≡ record_of g → is_document f ≡ is_document g
document_same_kind = by_record is_document by
  where
    by : (f : Forest) → is_document f ≡ is_document (lone (record_of f))
    by none = refl
    by (node l Document ats ch nx) = refl
    by (node l (Element n) ats ch nx) = refl
    by (node l (Text d) ats ch nx) = refl
    by (node l (Attr v) ats ch nx) = refl

pub element_same_kind : (f g : Forest) → record_of f ≡ record_of g → is_element f ≡ is_element g
element_same_kind = by_record is_element by
  where
    by : (f : Forest) → is_element f ≡ is_element (lone (record_of f))
    by none = refl
    by (node l Document ats ch nx) = refl
    by (node l (Element n) ats ch nx) = refl
    by (node l (Text d) ats ch nx) = refl
    by (node l (Attr v) ats ch nx) = refl

pub text_same_kind : (f g : Forest) → record_of f ≡ record_of g → is_text_node f ≡ is_text_node g
text_same_kind = by_record is_text_node by
  where
    by : (f : Forest) → is_text_node f ≡ is_text_node (lone (record_of f))
    by none = refl
    by (node l Document ats ch nx) = refl
    by (node l (Element n) ats ch nx) = refl
    by (node l (Text d) ats ch nx) = refl
    by (node l (Attr v) ats ch nx) = refl

pub data_same : (f g : Forest) → record_of f ≡ record_of g → data_of f ≡ data_of g
data_same = by_record data_of by
  where
    by : (f : Forest) → data_of f ≡ data_of (lone (record_of f))
    by none = refl
    by (node l Document ats ch nx) = refl
    by (node l (Element n) ats ch nx) = refl
    by (node l (Text d) ats ch nx) = refl
    by (node l (Attr v) ats ch nx) = refl

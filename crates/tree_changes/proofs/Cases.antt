-- What a call does, case by case: what is shown of each way that it may end holds of its outcome.
use Rattle.std.proofs.Common.{◌≡◌, ℕ, Bool, true, false, not, if◌then◌else◌, List, refl, sym, ap, subst, ◌∙◌, true≢false}
use Rattle.dewey_labels.specs.Labels.{Label}
use Rattle.tree_model.specs.declared.record.Record.{Record}
use Rattle.tree_model.specs.declared.record.Record.TheVariants.{Document, Element, Text, Attr}
use Rattle.tree_model.specs.declared.refusal.Refusal.TheVariants.{Dom}
use Rattle.tree_model.specs.Names.{Name}
use Rattle.tree_model.specs.Tree.{Attributes, Forest, none, node, Tree, at, found, head_label}
use Rattle.tree_model.specs.Outcomes.{Outcome, refused, see_in, not_found_err, not_supported_err}
use Rattle.tree_model.specs.Attributes.{in_element}
use Rattle.tree_model.specs.Texts.{in_text}
use Rattle.tree_model.proofs.Found.{some_is, at_label}

-- a test
pub on_test : {A : Type 0} (P : A → Type 0) (b : Bool) (x y : A) → (b ≡ true → P x) → (b ≡ false → P y) → P (if b then x else y)
on_test P true x y h g = h refl
on_test P false x y h g = g refl

-- the node with a label, or none
pub on_node : (P : Outcome → Type 0) (l : Label) (t : Tree) (change : Forest → Outcome) → P (refused (Dom not_found_err) t)
    → ((r : Record) (ats : Attributes) (ch nx : Forest) → at l t.documents ≡ node l r ats ch nx → P (change (node l r ats ch nx)))
    → P (see_in t change (at l t.documents))
on_node P l t change none_there there = by (at l t.documents) refl
  where
    by : (f : Forest) → at l t.documents ≡ f → P (see_in t change f)
    by none e = none_there
    by (node m r ats ch nx) e =
        let is : m ≡ l = some_is m l (ap head_label (sym e) ∙ at_label l t.documents (ap found e)) in
        subst (λ z. P (change (node z r ats ch nx))) (sym is) (there r ats ch nx (subst (λ z. at l t.documents ≡ node z r ats ch nx) is e))

-- the element with a label, another node, or none
pub on_element : (P : Outcome → Type 0) (l : Label) (t : Tree) (change : Attributes → Outcome) → P (refused (Dom not_found_err) t)
    → P (refused (Dom not_supported_err) t)
    → ((n : Name) (ats : Attributes) (ch nx : Forest) → at l t.documents ≡ node l (Element n) ats ch nx → P (change ats))
    → P (see_in t (in_element t change) (at l t.documents))
on_element P l t change none_there another there = on_node P l t (in_element t change) none_there by
  where
    by : (r : Record) (ats : Attributes) (ch nx : Forest) → at l t.documents ≡ node l r ats ch nx → P (in_element t change (node l r ats ch nx))
    by Document ats ch nx e = another
    by (Element n) ats ch nx e = there n ats ch nx e
    by (Text d) ats ch nx e = another
    by (Attr v) ats ch nx e = another

-- the text with a label, another node, or none
pub on_text : (P : Outcome → Type 0) (l : Label) (t : Tree) (change : List ℕ → Outcome) → P (refused (Dom not_found_err) t)
    → P (refused (Dom not_supported_err) t)
    → ((d : List ℕ) (ats : Attributes) (ch nx : Forest) → at l t.documents ≡ node l (Text d) ats ch nx → P (change d))
    → P (see_in t (in_text t change) (at l t.documents))
on_text P l t change none_there another there = on_node P l t (in_text t change) none_there by
  where
    by : (r : Record) (ats : Attributes) (ch nx : Forest) → at l t.documents ≡ node l r ats ch nx → P (in_text t change (node l r ats ch nx))
    by Document ats ch nx e = another
    by (Element n) ats ch nx e = another
    by (Text d) ats ch nx e = there d ats ch nx e
    by (Attr v) ats ch nx e = another

-- ---- of negated tests

pub not_false : (b : Bool) → not b ≡ false → b ≡ true
not_false true h = refl
not_false false h = absurd (true≢false h)

pub not_true : (b : Bool) → not b ≡ true → b ≡ false
not_true true h = absurd (true≢false (sym h))
not_true false h = refl

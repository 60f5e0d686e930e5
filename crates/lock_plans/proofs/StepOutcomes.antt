-- What a step leaves of the outcome that comes after it.
use Rattle.std.proofs.Common.{◌≡◌, ℕ, List, Bool, true, false, not, if◌then◌else◌, Option, None, Some, refl}
use Rattle.dewey_labels.specs.Labels.{Label}
use Rattle.tree_model.specs.declared.record.Record.{Record}
use Rattle.tree_model.specs.declared.record.Record.TheVariants.{Document, Element, Text, Attr}
use Rattle.tree_model.specs.declared.refusal.Refusal.TheVariants.{Dom}
use Rattle.tree_model.specs.declared.reply.Reply.{Reply}
use Rattle.tree_model.specs.declared.reply.Reply.TheVariants.{Refused}
use Rattle.tree_model.specs.Tree.{Attributes, Forest, none, node, Tree, found}
use Rattle.tree_model.specs.NodeKinds.{is_element, is_text_node}
use Rattle.tree_model.specs.Outcomes.{Outcome, see, see_in, not_found_err, not_supported_err}
use Rattle.tree_model.specs.Attributes.{in_element}
use Rattle.tree_model.specs.Texts.{in_text}
use Rattle.lock_plans.specs.Plans.{Run, read_found, take_left, take_right}

-- a test that is passed or not, each of which leads to the same
pub stepped : {A : Type 0} (b : Bool) (x y z : A) → (b ≡ true → x ≡ z) → (b ≡ false → y ≡ z) → (if b then x else y) ≡ z
stepped true x y z h g = h refl
stepped false x y z h g = g refl

pub found_outcome : (o : Option Label) (rest : Run) → (read_found o rest).outcome ≡ rest.outcome
found_outcome None rest = refl
found_outcome (Some m) rest = refl

pub left_outcome : (p : Label) (o : Option Label) (rest : Run) → (take_left p o rest).outcome ≡ rest.outcome
left_outcome p None rest = refl
left_outcome p (Some l) rest = refl

pub right_outcome : (p : Label) (o : Option Label) (rest : Run) → (take_right p o rest).outcome ≡ rest.outcome
right_outcome p None rest = refl
right_outcome p (Some l) rest = refl

-- a reading call ends as it does on each node that may be found
pub outcome_by : (t : Tree) (answer : Forest → Reply) (rest : Forest → Outcome)
    → ((m : Label) (r : Record) (ats : Attributes) (ch nx : Forest) → rest (node m r ats ch nx) ≡ (answer (node m r ats ch nx), t)) → (f : Forest)
    → (if not (found f) then (Refused (Dom not_found_err), t) else rest f) ≡ (see answer f, t)
outcome_by t answer rest h none = refl
outcome_by t answer rest h (node m r ats ch nx) = h m r ats ch nx

-- so does a changing call
pub change_by : (t : Tree) (change rest : Forest → Outcome)
    → ((m : Label) (r : Record) (ats : Attributes) (ch nx : Forest) → rest (node m r ats ch nx) ≡ change (node m r ats ch nx)) → (f : Forest)
    → (if not (found f) then (Refused (Dom not_found_err), t) else rest f) ≡ see_in t change f
change_by t change rest h none = refl
change_by t change rest h (node m r ats ch nx) = h m r ats ch nx

-- a call on elements, and one on texts
pub element_by : (t : Tree) (change : Attributes → Outcome) (rest : Forest → Outcome)
    → ((m : Label) (n : List ℕ) (ats : Attributes) (ch nx : Forest) → rest (node m (Element n) ats ch nx) ≡ change ats) → (f : Forest)
    → (if not (found f) then (Refused (Dom not_found_err), t) else if not (is_element f) then (Refused (Dom not_supported_err), t) else rest f) ≡ see_in t
    (in_element t change) f
element_by t change rest h none = refl
element_by t change rest h (node m Document ats ch nx) = refl
element_by t change rest h (node m (Element n) ats ch nx) = h m n ats ch nx
element_by t change rest h (node m (Text d) ats ch nx) = refl
element_by t change rest h (node m (Attr v) ats ch nx) = refl

pub text_by : (t : Tree) (change : List ℕ → Outcome) (rest : Forest → Outcome)
    → ((m : Label) (d : List ℕ) (ats : Attributes) (ch nx : Forest) → rest (node m (Text d) ats ch nx) ≡ change d) → (f : Forest)
    → (if not (found f) then (Refused (Dom not_found_err), t) else if not (is_text_node f) then (Refused (Dom not_supported_err), t) else rest f) ≡ see_in t
    (in_text t change) f
text_by t change rest h none = refl
text_by t change rest h (node m Document ats ch nx) = refl
text_by t change rest h (node m (Element n) ats ch nx) = refl
text_by t change rest h (node m (Text d) ats ch nx) = h m d ats ch nx
text_by t change rest h (node m (Attr v) ats ch nx) = refl

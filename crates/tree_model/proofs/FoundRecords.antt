-- A found node keeps what all nodes keep, and is no attribute.
use Rattle.std.proofs.Common.{◌≡◌, ℕ, List, Option, None, Some, subst}
use Rattle.dewey_labels.specs.Labels.{Label}
use Rattle.dewey_labels.specs.Sides.{above, left, same, under, right, side}
use Rattle.tree_model.specs.declared.record.Record.{Record}
use Rattle.tree_model.specs.declared.record.Record.TheVariants.{Attr}
use Rattle.tree_model.specs.Tree.{Attributes, Forest, none, node, Tree, choose, at}
use Rattle.tree_model.specs.ValidTrees.{KindsAllowed, LimitsKept, IsValidTree}
use Rattle.tree_model.proofs.Edits.{over}
use Rattle.tree_model.proofs.Appends.{no_attribute}

-- where its kind may stand below the record over it
pub at_kinds : (p : Option Record) (l : Label) (f : Forest) → KindsAllowed p f → KindsAllowed (over l p f) (at l f)
at_kinds p l none w = tt
at_kinds p l (node m r ats ch nx) w = elim (side m l) as (λ s. KindsAllowed (choose s p p (over l (Some r) ch) (over l p nx)) (choose s none (node m r ats ch nx) (at l ch) (at l nx))) [
  | above ↦ tt
  | left ↦ tt
  | same ↦ w
  | under ↦ at_kinds (Some r) l ch w.3
  | right ↦ at_kinds p l nx w.4
]

-- its limits
pub at_limits : (l : Label) (f : Forest) → LimitsKept f → LimitsKept (at l f)
at_limits l none h = tt
at_limits l (node m r ats ch nx) h = elim (side m l) as (λ s. LimitsKept (choose s none (node m r ats ch nx) (at l ch) (at l nx))) [
  | above ↦ tt
  | left ↦ tt
  | same ↦ h
  | under ↦ at_limits l ch h.3
  | right ↦ at_limits l nx h.4
]

-- no found node has an attribute's record
pub no_attr_node : (l m : Label) (v : List ℕ) (ats : Attributes) (ch nx : Forest) (t : Tree) → IsValidTree t → at l t.documents ≡ node m (Attr v) ats ch nx → ⊥
no_attr_node l m v ats ch nx t w e = no_attribute (over l None t.documents) v (subst (KindsAllowed (over l None t.documents)) e (at_kinds None l t.documents w.kinds)).0

-- The entries of a subtree, and a walk over those below its node, one after another.
use Rattle.std.specs.Prelude.{◌≡◌, ◌<◌, ◌≤◌, ◌+◌, ℕ, Bool, cond, List, [], ◌∷◌, length, Option, Some, None, IfSome}
use Rattle.std.specs.List.{cons_option}
use Rattle.dewey_labels.specs.Labels.{Label}
use Rattle.dewey_labels.specs.Sides.{side, is_in}
use Rattle.tree_model.specs.declared.key.Key.{Key}
use Rattle.tree_model.specs.declared.record.Record.{Record}
use Rattle.tree_model.specs.Entries.{Entries, entries_above}
use Rattle.tree_model.specs.Keys.{node_key}
use Rattle.tree_model.specs.Tree.{Forest, none, node, Tree, entries_of, at}
use Rattle.node_seq.specs.Reads.{IsEntryOfTrees, LiesAbove}
use Rattle.node_seq.specs.WalkSteps.{from_entry, steps_left}

-- ---- the subtree in the tree

-- the first tree of a forest, without the trees behind it
abbrev pub alone : Forest → Forest
alone none = none
alone (node l r ats ch nx) = node l r ats ch none

-- the entries of the subtree of a label: the node's own, and those of all that lies under it; none where no node has the label
abbrev pub subtree_of : Label → Tree → Entries
subtree_of l t = entries_of (alone (at l t.documents))

-- ---- a walk

-- the entry lies in the subtree of the label
abbrev pub lies_in : Label → Key × Record → Bool
lies_in l e = is_in (side l e.0.label)

-- the items from the start as long as they pass
abbrev pub as_long : {A : Type 0} → (A → Bool) → List A → List A
as_long q [] = []
as_long q (x ∷ xs) = cond (q x) (x ∷ as_long q xs) []

-- the entries of a map in the subtree of a label that come behind its node's own: those of attributes, and of all that lies under it
abbrev pub entries_under : Label → Entries → Entries
entries_under l es = as_long (lies_in l) (entries_above (node_key l) es)

-- a walk below the node with a label, and the entry that it stands before; none at its end
pub record Stand : Type 0 where
  pub at : Label
  pub next : Option (Key × Record)

-- the entries that the walk is still to answer
abbrev pub still_to_come : Stand → Entries → Entries
still_to_come walk es = as_long (lies_in walk.at) (from_entry walk.next es)

-- of a known map: this holds of the entries that the walk is still to answer
abbrev pub OnWalk : Option Entries → Stand → (Entries → Type 0) → Type 0
OnWalk contents walk P = (es : Entries) → contents ≡ Some es → P (still_to_come walk es)

-- a walk has answered the entry that it stood before, and stands before the next one of its subtree
pub record HasStepped (contents : Option Entries) (old new : Stand) (found : Option (Key × Record)) : Type 0 where
  pub entry : found ≡ old.next
  pub rest : (es : Entries) → contents ≡ Some es → still_to_come old es ≡ cons_option found (still_to_come new es)
  pub above : IfSome found (λ e. LiesAbove e.0 new.next)
  pub valid : contents ≡ None → IsEntryOfTrees new.next
  pub shorter : IfSome found (λ e. steps_left contents new.next < steps_left contents old.next)

-- of a known map the count of reads rises by at most one for each entry that the walk was still to answer, however it ends
abbrev pub WalksWithin : Option Entries → Stand → ℕ → ℕ → Type 0
WalksWithin contents walk before after = OnWalk contents walk (λ met. after ≤ before + length met)

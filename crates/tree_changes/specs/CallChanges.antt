-- What a call on a valid tree changes in its map.
use Rattle.std.specs.Prelude.{◌≡◌, ℕ, false, true, List, [], ◌∷◌, ◌++◌, ◌+◌, map, Option, Some}
use Rattle.dewey_labels.specs.Labels.{Label}
use Rattle.tree_model.specs.Changes.{differences, put_change, drop_change}
use Rattle.tree_model.specs.Edits.{edited}
use Rattle.tree_model.specs.Entries.{Entries, get}
use Rattle.tree_model.specs.Keys.{node_key}
use Rattle.tree_model.specs.Names.{Name}
use Rattle.tree_model.specs.Outcomes.{Outcome, is_refused}
use Rattle.tree_model.specs.Texts.{data_before, data_from, split_text}
use Rattle.tree_model.specs.Tree.{Forest, Tree, map_of, entries_of, at, found, below, record_of}
use Rattle.tree_model.specs.ValidTrees.{IsValidTree}
use Rattle.tree_model.specs.declared.change.Change.{Change}
use Rattle.tree_model.specs.declared.fragment.Fragment.{Fragment}
use Rattle.tree_model.specs.declared.key.Key.{Key}
use Rattle.tree_model.specs.declared.record.Record.{Record}
use Rattle.tree_model.specs.declared.record.Record.TheVariants.{Element, Text}
use Rattle.tree_model.specs.declared.reply.Reply.TheVariants.{Place, Replaced}
use Rattle.tree_changes.specs.KeyChanges.{change_at}
use Rattle.tree_changes.specs.SubtreeEntries.{entries_within}

-- ---- the tree that it meets

-- of every valid tree
abbrev pub OnValidTrees : (Tree → Type 0) → Type 0
OnValidTrees fact = (t : Tree) → IsValidTree t → fact t

-- the tree has a node with the label
abbrev pub HasNode : Label → Tree → Type 0
HasNode l t = found (at l t.documents) ≡ true

-- the label's node has this record
abbrev pub HasRecord : Label → Record → Tree → Type 0
HasRecord l r t = record_of (at l t.documents) ≡ Some r

-- ---- the call

-- the call isn't refused
abbrev pub IsDone : (Tree → Outcome) → Tree → Type 0
IsDone call t = is_refused (call t).0 ≡ false

-- the changes from the tree's map to that of the tree after the call
abbrev pub changes_by : (Tree → Outcome) → Tree → List Change
changes_by call t = differences (map_of t) (map_of (call t).1)

-- ---- its changes, each time all that there are

-- at one place: those of the entries of the trees that were changed
abbrev pub ChangesPlace : Label → (Forest → Forest) → Tree → Type 0
ChangesPlace l change t =
    differences (map_of t) (map_of (edited l change t)) ≡ differences (entries_of (at l t.documents)) (entries_of (change (at l t.documents)))

-- of a key, once the call is done: none where the same stood there before
abbrev pub ChangesKey : (Tree → Outcome) → Key → Option Record → Tree → Type 0
ChangesKey call k now t = IsDone call t → changes_by call t ≡ change_at k (get k (map_of t)) now

-- of a text's data
abbrev pub ChangesData : (Tree → Outcome) → Label → (List ℕ → List ℕ) → Tree → Type 0
ChangesData call l change t =
    (old : List ℕ) → HasRecord l (Text old) t → ChangesKey call (node_key l) (Some (Text (change old))) t

-- the data with so many characters, from an offset on, replaced by others
abbrev pub replaced : ℕ → ℕ → List ℕ → List ℕ → List ℕ
replaced offset count new old = data_before offset old ++ (new ++ data_from (offset + count) old)

-- of what stands under a node, once the call is done
abbrev pub ChangesBelow : (Tree → Outcome) → Label → (Forest → Forest) → Tree → Type 0
ChangesBelow call l change t =
    IsDone call t → changes_by call t ≡ differences (entries_of (below (at l t.documents))) (entries_of (change (below (at l t.documents))))

-- of what stands under an element
abbrev pub ChangesElement : (Tree → Outcome) → Label → (Forest → Forest) → Tree → Type 0
ChangesElement call l change t = (n : Name) → HasRecord l (Element n) t → ChangesBelow call l change t

-- of entries that are put for the label that the call answers
abbrev pub PutsAtNew : (Tree → Outcome) → (Label → Entries) → Tree → Type 0
PutsAtNew call entries t = (new : Label) → (call t).0 ≡ Place (Some new) → changes_by call t ≡ map put_change (entries new)

-- of entries that are put for the label that the call answers, in place of an old node's
abbrev pub PutsInstead : (Tree → Outcome) → Label → (Label → Entries) → Tree → Type 0
PutsInstead call old entries t =
    (new : Label) (gone : Fragment) → (call t).0 ≡ Replaced new gone
    → changes_by call t ≡ differences (entries_within (at old t.documents)) (entries new)

-- of entries that are deleted
abbrev pub Deletes : (Tree → Outcome) → Entries → Tree → Type 0
Deletes call entries t = changes_by call t ≡ map drop_change entries

-- of a text that is split, and of the new one behind it
abbrev pub SplitsData : Label → ℕ → List ℕ → Label → Tree → Type 0
SplitsData l offset d new t =
    (split_text l offset t).0 ≡ Place (Some new)
    → changes_by (split_text l offset) t
    ≡ change_at (node_key l) (Some (Text d)) (Some (Text (data_before offset d))) ++ (put_change (node_key new, Text (data_from offset d)) ∷ [])

-- The node that a call speaks of, and the change of one key.
use Rattle.std.proofs.Common.{◌≡◌, ◌<◌, ◌≤◌, true, false, cond, Option, Some, None, IfSome, Result, Ok, Err, IfOk, inl, inr, refl, subst, arith}
use Rattle.dewey_labels.specs.Labels.{Label, IsLabel, level}
use Rattle.tree_model.specs.declared.key.Key.{Key}
use Rattle.tree_model.specs.declared.record.Record.{Record}
use Rattle.tree_model.specs.Changes.{same_record}
use Rattle.tree_model.specs.Keys.{IsValidKey, key_at, node_key}
use Rattle.tree_model.specs.Limits.{deepest_level}
use Rattle.tree_model.specs.Names.{Name, is_name}
use Rattle.tree_model.specs.Tree.{Forest, none, node, Tree, at, found, head_label, record_of}
use Rattle.tree_model.specs.ValidTrees.{LimitsKept, IsValidTree}
use Rattle.tree_model.proofs.Found.{some_is, at_label}
use Rattle.tree_model.proofs.FoundRecords.{at_limits}
use Rattle.tree_changes.specs.KeyChanges.{as_change, change_at}
use Rattle.node_seq.specs.ChangeLists.{IsChangeList}
use Rattle.node_seq.specs.Reads.{IsValidEntry}

-- no node stands below the deepest level
pub none_too_deep : (l : Label) (t : Tree) → IsValidTree t → deepest_level < level l → None ≡ record_of (at l t.documents)
none_too_deep l t w deep = by (at l t.documents) (at_limits l t.documents w.limits) (at_label l t.documents)
  where
    by : (g : Forest) → LimitsKept g → (found g ≡ true → head_label g ≡ Some l) → None ≡ record_of g
    by none k h = refl
    by (node m r ats ch nx) k h = let kept : level l ≤ deepest_level = subst (λ z. level z ≤ deepest_level) (some_is m l (h refl)) k.0 in absurd (omega (arith, kept, deep))

-- what holds without the record holds where one is found
pub if_found : {A E : Type 0} (K : Type 0) (result : Result (Option A) E) → K → IfOk result (λ found. IfSome found (λ _. K))
if_found K (Ok None) k = tt
if_found K (Ok (Some x)) k = k
if_found K (Err e) k = tt

-- the key of a node, and that of an attribute of it
pub valid_node_key : (l : Label) → IsLabel l → level l ≤ deepest_level → IsValidKey (node_key l)
valid_node_key l h d = record { label = h; level = d; name = inl refl }

pub attribute_key : (l : Label) (n : Name) → IsValidKey (node_key l) → is_name n ≡ true → IsValidKey (key_at l n)
attribute_key l n k h = record { label = k.label; level = k.level; name = inr h }

-- the change of one key may be laid over a map, where what it puts may stand there
pub one_change : (k : Key) (before now : Option Record) → IfSome now (λ r. IsValidEntry (k, r)) → IsChangeList (change_at k before now)
one_change k None None h = record { rise = tt; puts = tt }
one_change k (Some q) None h = record { rise = (tt, tt); puts = (tt, tt) }
one_change k None (Some r) h = record { rise = (tt, tt); puts = (h, tt) }
one_change k (Some q) (Some r) h = elim (same_record r q) as (λ b. IsChangeList (as_change k (cond b None (Some (Some r))))) [
  | true ↦ record { rise = tt; puts = tt }
  | false ↦ record { rise = (tt, tt); puts = (h, tt) }
]

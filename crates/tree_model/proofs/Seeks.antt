-- Where a tree's entries lie from the keys that a read seeks from.
use Rattle.std.proofs.Common.{◌≡◌, true, [], ◌++◌, Ordering, Less, Equal, nat_cmp, ap, subst, ◌∙◌, append-nil, inl, inr, ◌⊎◌}
use Rattle.std.specs.Ordering.{ordering_then}
use Rattle.std.specs.Cmp.Lexicographic.{slice_cmp}
use Rattle.dewey_labels.specs.Labels.{Label}
use Rattle.dewey_labels.specs.Sides.{right, side, ahead}
use Rattle.dewey_labels.proofs.Sides.{ahead_before}
use Rattle.dewey_labels.proofs.Fill.{in_before_fill, fill_before_right}
use Rattle.tree_model.specs.declared.key.Key.{Key}
use Rattle.tree_model.specs.declared.record.Record.{Record}
use Rattle.tree_model.specs.Names.{Name}
use Rattle.tree_model.specs.Keys.{key_at, top_name}
use Rattle.tree_model.specs.Entries.{Below, Above}
use Rattle.tree_model.specs.inside.Seeks.{behind_tree}
use Rattle.tree_model.proofs.Split.{SideIs, SideIn, Later}
use Rattle.tree_model.proofs.EntryLimits.{Fits}

-- a subtree lies below the key behind it
pub in_below_tree : (l : Label) (e : Key × Record) → SideIn l e.0.label → Fits e → Below (behind_tree l) e
in_below_tree l e i f = closed _ (in_before_fill l e.0.label i f.0)
  where
    closed : (o : Ordering) → (o ≡ Less) ⊎ (o ≡ Equal) → ordering_then o (slice_cmp nat_cmp e.0.name top_name) ≡ Less
    closed o (inl q) = ap (λ v. ordering_then v (slice_cmp nat_cmp e.0.name top_name)) q
    closed o (inr q) = ap (λ v. ordering_then v (slice_cmp nat_cmp e.0.name top_name)) q ∙ f.1

-- what lies ahead of a label lies below each key that begins with it
pub ahead_below : (l w : Label) (n : Name) (e : Key × Record) → ahead (side l e.0.label) ≡ true → Below (key_at (l ++ w) n) e
ahead_below l w n e h = ap (λ o. ordering_then o (slice_cmp nat_cmp e.0.name n)) (ahead_before l e.0.label w h)

-- so below the node's own keys
pub ahead_below_node : (l : Label) (n : Name) (e : Key × Record) → ahead (side l e.0.label) ≡ true → Below (key_at l n) e
ahead_below_node l n e h = subst (λ v. Below (key_at v n) e) (append-nil l) (ahead_below l [] n e h)

-- what lies to the right lies above the key behind the subtree
pub right_above_tree : (l : Label) (e : Key × Record) → SideIs l right e.0.label → Above (behind_tree l) e
right_above_tree l e h = ap (λ o. ordering_then o (slice_cmp nat_cmp top_name e.0.name)) (fill_before_right l e.0.label h)

-- behind a node's key, and those of its attributes, lies what has a later label
pub later_above : (l : Label) (n : Name) (e : Key × Record) → Later l e.0.label → Above (key_at l n) e
later_above l n e h = ap (λ o. ordering_then o (slice_cmp nat_cmp n e.0.name)) h

-- Trees behind other trees.
use Rattle.std.proofs.Common.{◌≡◌, true, ◌∷◌, ◌++◌, Option, Some, None, refl, sym, ap, ◌∙◌, append_assoc}
use Rattle.dewey_labels.specs.Labels.{Label}
use Rattle.tree_model.specs.declared.record.Record.{Record}
use Rattle.std.specs.Option.{option_or}
use Rattle.tree_model.specs.Tree.{Forest, none, node, own, entries_of, labels, last_label, then_trees}
use Rattle.tree_model.specs.ValidTrees.{KeysRise, KindsAllowed, LimitsKept, may_follow}
use Rattle.tree_model.proofs.Found.{some_is}

-- their entries
pub entries-then_trees : (f g : Forest) → entries_of (then_trees f g) ≡ entries_of f ++ entries_of g
entries-then_trees none g = refl
entries-then_trees (node l r ats ch nx) g = ap (λ v. (own l r ats ++ entries_of ch) ++ v) (entries-then_trees nx g) ∙ sym (append_assoc (own l r ats ++ entries_of ch) (entries_of nx) (entries_of g))

-- their labels
pub labels-then_trees : (f g : Forest) → labels (then_trees f g) ≡ labels f ++ labels g
labels-then_trees none g = refl
labels-then_trees (node l r ats ch nx) g = ap (λ v. l ∷ v) (labels-then_trees nx g)

-- the label behind which trees stand that are put behind these: the last one's, or the forest's own bound
abbrev pub end_of : Label → Forest → Label
end_of b none = b
end_of b (node l r ats ch nx) = end_of l nx

-- of no trees it is the bound itself
pub end_of_empty : (b : Label) (f : Forest) → last_label f ≡ None → end_of b f ≡ b
end_of_empty b none h = refl
end_of_empty b (node l r ats ch nx) h = absurd (no_node (last_label nx) h)
  where
    no_node : (o : Option Label) → option_or o (Some l) ≡ None → ⊥
    no_node None e = cc
    no_node (Some m) e = cc

-- of some it is the last one's label
pub end_of_last : (b m : Label) (f : Forest) → last_label f ≡ Some m → end_of b f ≡ m
end_of_last b m none h = cc
end_of_last b m (node l r ats ch nx) h =
    elim (last_label nx) as (λ o. last_label nx ≡ o → option_or o (Some l) ≡ Some m → end_of l nx ≡ m) [
      | None ↦ λ e g. end_of_empty l nx e ∙ some_is l m g
      | Some k ↦ λ e g. end_of_last l m nx (e ∙ g)
    ] refl h

-- keys keep their rules
pub keys-then_trees : (p b : Label) (f g : Forest) → KeysRise p b f → KeysRise p (end_of b f) g → KeysRise p b (then_trees f g)
keys-then_trees p b none g w v = v
keys-then_trees p b (node l r ats ch nx) g w v = (w.0, w.1, w.2, w.3, w.4, keys-then_trees p l nx g w.5 v)

-- where a row may have any number of nodes
pub kinds-then_trees : (p : Option Record) (f g : Forest) → ((h : Forest) → may_follow p h ≡ true) → KindsAllowed p f → KindsAllowed p g → KindsAllowed p (then_trees f g)
kinds-then_trees p none g m w v = v
kinds-then_trees p (node l r ats ch nx) g m w v = (w.0, m (then_trees nx g), w.2, w.3, kinds-then_trees p nx g m w.4 v)

-- limits are kept
pub limits-then_trees : (f g : Forest) → LimitsKept f → LimitsKept g → LimitsKept (then_trees f g)
limits-then_trees none g w v = v
limits-then_trees (node l r ats ch nx) g w v = (w.0, w.1, w.2, w.3, limits-then_trees nx g w.4 v)

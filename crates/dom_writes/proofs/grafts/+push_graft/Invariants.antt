use Rattle.std.proofs.Common.{◌≡◌, ◌++◌, [], ◌∷◌, true, drop}
use Rattle.dewey_labels.specs.Labels.{is_code}
use Rattle.dewey_labels.specs.NewLabels.{first_division}
use Rattle.tree_model.specs.Fragments.{plain_row}
use Rattle.tree_model.specs.Graft.{all_within, graft_below}
use Rattle.tree_model.specs.Tree.{entries_of}
use Rattle.dom_writes.proofs.grafts.+push_graft.Given as goal

-- the children left keep the limits, and their entries behind those so far are all entries
abbrev pub invariant-loop-child : goal.invariant-loop-child
invariant-loop-child l = record {
  code : is_code (l.division ∷ []) ≡ true;
  within : all_within (graft_below l.at l.division (plain_row (drop l.child-index l.child-items))) ≡ true;
  entries : l.entries ++ entries_of (graft_below l.at l.division (plain_row (drop l.child-index l.child-items))) ≡ l.initial.entries ++ entries_of (graft_below l.at first_division (plain_row l.child-items));
}

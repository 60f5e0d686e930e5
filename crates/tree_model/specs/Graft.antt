-- A fragment as a tree at a label (docs/PROFILE.md, "New labels").
use Rattle.std.specs.Prelude.{ℕ, ◌+◌, Bool, true, ◌&&◌, [], ◌∷◌, ◌++◌}
use Rattle.dewey_labels.specs.Labels.{Label, is_within}
use Rattle.dewey_labels.specs.NewLabels.{first_division}
use Rattle.tree_model.specs.declared.record.Record.TheVariants.{Element, Text}
use Rattle.tree_model.specs.Tree.{Forest, none, node}
use Rattle.tree_model.specs.Fragments.{Fragments, no_more, element, text}

-- fragments as the children of p, with the codes c, c + 2 and so on; an element's children begin at 1001 again
abbrev pub graft_below : Label → ℕ → Fragments → Forest
graft_below p c no_more = none
graft_below p c (element n ats ch nx) = node (p ++ (c ∷ [])) (Element n) ats (graft_below (p ++ (c ∷ [])) first_division ch) (graft_below p (c + 2) nx)
graft_below p c (text t nx) = node (p ++ (c ∷ [])) (Text t) [] none (graft_below p (c + 2) nx)

-- the first fragment as a tree at l, with these trees behind it
abbrev pub graft : Label → Fragments → Forest → Forest
graft l no_more behind = behind
graft l (element n ats ch nx) behind = node l (Element n) ats (graft_below l first_division ch) behind
graft l (text t nx) behind = node l (Text t) [] none behind

-- ---- the limits on divisions

-- every label of the forest keeps them
abbrev pub all_within : Forest → Bool
all_within none = true
all_within (node l r ats ch nx) = is_within l && (all_within ch && all_within nx)

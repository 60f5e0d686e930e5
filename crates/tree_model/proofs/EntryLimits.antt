-- Every entry of a tree keeps the limits on divisions, and each of its names lies below the top name.
use Rattle.std.proofs.Common.{◌≡◌, ℕ, List, [], ◌∷◌, ◌++◌, map, Less, Equal, nat_cmp, refl, ap, ◌∙◌}
use Rattle.std.specs.Ordering.{ordering_then}
use Rattle.std.specs.Cmp.{tied_itself}
use Rattle.std.specs.Cmp.Lexicographic.{slice_cmp, nat_list_cmp_total}
use Rattle.std.specs.List.{AllByRecursion}
use Rattle.dewey_labels.specs.Labels.{Label, Within}
use Rattle.tree_model.specs.declared.key.Key.{Key}
use Rattle.tree_model.specs.declared.record.Record.{Record}
use Rattle.tree_model.specs.Names.{Name}
use Rattle.tree_model.specs.Keys.{top_name}
use Rattle.tree_model.specs.Entries.{Below}
use Rattle.tree_model.specs.inside.Seeks.{behind_attributes}
use Rattle.tree_model.specs.Tree.{Attributes, Forest, none, node, attr_entry, own, entries_of}
use Rattle.tree_model.specs.ValidTrees.{NamesRise, KeysRise}
use Rattle.tree_model.proofs.NameLaws.{name_below_top}
use Rattle.tree_model.proofs.Lists.{all_append}

-- a list ties with itself
pub list_itself : (l : List ℕ) → slice_cmp nat_cmp l l ≡ Equal
list_itself l = tied_itself nat_list_cmp_total l

-- its label is within the limits on divisions, and its name below the top name
abbrev pub Fits : Key × Record → Type 0
Fits e = Within e.0.label × (slice_cmp nat_cmp e.0.name top_name ≡ Less)

-- so with attributes
pub attrs_fit : (lo : Name) (l : Label) (ats : Attributes) → Within l → NamesRise lo ats → AllByRecursion Fits (map (attr_entry l) ats)
attrs_fit lo l [] h w = tt
attrs_fit lo l (a ∷ ats) h w = ((h, name_below_top a.0 w.1), attrs_fit a.0 l ats h w.2)

-- so with a node's own entries
pub own_fit : (l : Label) (r : Record) (ats : Attributes) → Within l → NamesRise [] ats → AllByRecursion Fits (own l r ats)
own_fit l r ats h w = ((h, refl), attrs_fit [] l ats h w)

-- so with all entries of a forest
pub all_fit : (p lo : Label) (f : Forest) → KeysRise p lo f → AllByRecursion Fits (entries_of f)
all_fit p lo none w = tt
all_fit p lo (node l r ats ch nx) w = all_append Fits (own l r ats ++ entries_of ch) (entries_of nx) (all_append Fits (own l r ats) (entries_of ch) (own_fit l r ats w.2 w.3) (all_fit l l ch w.4)) (all_fit p l nx w.5)

-- the entries of a node and its attributes lie below the key behind them
attrs_below_top : (lo : Name) (l : Label) (ats : Attributes) → NamesRise lo ats → AllByRecursion (Below (behind_attributes l)) (map (attr_entry l) ats)
attrs_below_top lo l [] w = tt
attrs_below_top lo l (a ∷ ats) w = (ap (λ o. ordering_then o (slice_cmp nat_cmp a.0 top_name)) (list_itself l) ∙ name_below_top a.0 w.1, attrs_below_top a.0 l ats w.2)

-- a node and its attributes lie below the key behind them
pub own_below_top : (l : Label) (r : Record) (ats : Attributes) → NamesRise [] ats → AllByRecursion (Below (behind_attributes l)) (own l r ats)
own_below_top l r ats w = (ap (λ o. ordering_then o Less) (list_itself l), attrs_below_top [] l ats w)

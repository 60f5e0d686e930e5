-- The entries of a fragment that is placed are entries that a valid tree may have, and so the changes that put them may be laid over any map.
use Rattle.std.proofs.Common.{◌≡◌, ◌≤◌, ◌+◌, true, false, nat_lt, [], ◌∷◌, ◌++◌, map, inl, inr, refl, arith}
use Rattle.std.proofs.lemmas.Bool.Decides.{nat_tests}
use Rattle.std.specs.List.{AllByRecursion}
use Rattle.dewey_labels.specs.Labels.{Label, IsLabel, is_label, level}
use Rattle.dewey_labels.proofs.Codes.{child_under}
use Rattle.dewey_labels.proofs.Labels.{child_label, level_of_child}
use Rattle.dewey_labels.proofs.Sides.{under_before}
use Rattle.tree_model.specs.Changes.{IsBehind, Rising, put_change}
use Rattle.tree_model.specs.Entries.{Above, Entries, Sorted}
use Rattle.tree_model.specs.Fragments.{Fragments, IsValid, depth}
use Rattle.tree_model.specs.Graft.{graft}
use Rattle.tree_model.specs.Keys.{IsValidKey, key_at}
use Rattle.tree_model.specs.Limits.{deepest_level}
use Rattle.tree_model.specs.Names.{Name}
use Rattle.tree_model.specs.Tree.{Attributes, Forest, none, node, attr_entry, own, entries_of}
use Rattle.tree_model.specs.ValidTrees.{KeysRise, LimitsKept, NamesRise, ValuesFit}
use Rattle.tree_model.specs.declared.key.Key.{Key}
use Rattle.tree_model.proofs.Grafts.{keys-graft, limits-graft}
use Rattle.tree_model.proofs.Lists.{all_append}
use Rattle.tree_model.proofs.Sorted.{entries_sorted}
use Rattle.node_seq.specs.ChangeLists.{IsChangeList, PutsValidEntry}
use Rattle.node_seq.specs.Reads.{IsValidEntry}
use Rattle.dom_writes.specs.inside.NewPlaces.{Suits}

-- ---- puts

behind_puts : (k : Key) (es : Entries) → AllByRecursion (Above k) es → AllByRecursion (IsBehind k) (map put_change es)
behind_puts k [] h = tt
behind_puts k (e ∷ es) h = (h.0, behind_puts k es h.1)

rising_puts : (es : Entries) → Sorted es → Rising (map put_change es)
rising_puts [] h = tt
rising_puts (e ∷ es) h = (behind_puts e.0 es h.0, rising_puts es h.1)

valid_puts : (es : Entries) → AllByRecursion IsValidEntry es → AllByRecursion PutsValidEntry (map put_change es)
valid_puts [] h = tt
valid_puts (e ∷ es) h = (h.0, valid_puts es h.1)

-- puts of entries that a tree may have, by rising keys
pub puts_are_changes : (es : Entries) → Sorted es → AllByRecursion IsValidEntry es → IsChangeList (map put_change es)
puts_are_changes es h v = record { rise = rising_puts es h; puts = valid_puts es v }

-- ---- entries that a tree may have

attributes_valid : (lo : Name) (l : Label) (ats : Attributes) → IsLabel l → level l ≤ deepest_level → NamesRise lo ats → ValuesFit ats → AllByRecursion IsValidEntry (map (attr_entry l) ats)
attributes_valid lo l [] h d w v = tt
attributes_valid lo l (a ∷ ats) h d w v = ((key, v.0), attributes_valid a.0 l ats h d w.2 v.1)
  where
    key : IsValidKey (key_at l a.0)
    key = record { label = h; level = d; name = inr w.1 }

-- those of a forest whose keys rise and that keeps the limits
pub forest_valid : (p b : Label) (f : Forest) → is_label p ≡ true → KeysRise p b f → LimitsKept f → AllByRecursion IsValidEntry (entries_of f)
forest_valid p b none h w v = tt
forest_valid p b (node l r ats ch nx) h w v =
    let labelled = child_label p l h w.0 in
    let at_l : IsLabel l = (labelled, w.2) in
    let key : IsValidKey (key_at l []) = record { label = at_l; level = v.0; name = inl refl } in
    all_append IsValidEntry (own l r ats ++ entries_of ch) (entries_of nx)
    (all_append IsValidEntry (own l r ats) (entries_of ch) ((key, v.1), attributes_valid [] l ats at_l v.0 w.3 v.2) (forest_valid l l ch labelled w.4 v.3))
    (forest_valid p l nx h w.5 v.4)

-- the changes that put a forest
pub forest_changes : (p b : Label) (f : Forest) → is_label p ≡ true → KeysRise p b f → LimitsKept f → IsChangeList (map put_change (entries_of f))
forest_changes p b f h w v = puts_are_changes (entries_of f) (entries_sorted p b f w) (forest_valid p b f h w v)

-- ---- a fragment at its place

-- the changes that put it
pub graft_changes : (p new : Label) (f : Fragments) → IsLabel p → IsValid f → Suits p f new → IsChangeList (map put_change (entries_of (graft new f none)))
graft_changes p new f label valid s = forest_changes p p (graft new f none) label.0
    (keys-graft p p new f none s.child (under_before p new (child_under p new s.child)) s.within valid tt tt)
    (limits-graft p new f none (level_of_child p new label.0 s.child) (child_label p new label.0 s.child) fits valid tt)
  where
    fits : level p + depth f ≤ deepest_level
    fits = let e : nat_lt deepest_level (level p + depth f) ≡ false = s.shallow in grind (arith, nat_tests)

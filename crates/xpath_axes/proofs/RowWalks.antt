-- A walk over a row, one read a child: what is found behind the attributes of a node, and then behind the tree of each child, is the next child's own entry.
use Rattle.std.proofs.Common.{◌≡◌, Bool, true, false, List, [], ◌∷◌, ◌++◌, Option, None, Some, refl, sym, ap, subst, ◌∙◌, append_assoc, true≢false, inr}
use Rattle.std.specs.List.{AllByRecursion}
use Rattle.dewey_labels.specs.Labels.{Label, root, is_child}
use Rattle.dewey_labels.specs.Sides.{side, under, right, is_under, ahead}
use Rattle.dewey_labels.proofs.Sides.{under_before, right_before}
use Rattle.dewey_labels.proofs.Codes.{child_under}
use Rattle.tree_model.specs.declared.key.Key.{Key}
use Rattle.tree_model.specs.declared.record.Record.{Record}
use Rattle.tree_model.specs.Keys.{node_key, top_name}
use Rattle.tree_model.specs.Entries.{Entries, Below, Above, first_above}
use Rattle.tree_model.specs.inside.Seeks.{behind_attributes, behind_tree}
use Rattle.tree_model.specs.Tree.{Attributes, Forest, none, node, Tree, own, entries_of, map_of, at, found, below, choose}
use Rattle.tree_model.specs.inside.FoundNodes.{up}
use Rattle.tree_model.specs.ValidTrees.{IsValidTree, KeysRise}
use Rattle.tree_model.proofs.Lists.{all_append, all_on}
use Rattle.tree_model.proofs.Entries.{head_of, first_above_past, first_above_head}
use Rattle.tree_model.proofs.Split.{Labelled, SideIs, all_under}
use Rattle.tree_model.proofs.Found.{Lies, some_is, up_parent}
use Rattle.tree_model.proofs.FoundParents.{found_right}
use Rattle.tree_model.proofs.PlaceLaws.{at_below}
use Rattle.tree_model.proofs.WholeTree.{lies_in_tree}
use Rattle.dewey_labels.specs.Labels.{is_label}
use Rattle.dewey_labels.proofs.Labels.{parent_of_child}
use Rattle.dewey_labels.proofs.Sides.{side_itself}
use Rattle.tree_model.proofs.EntryLimits.{own_below_top}
use Rattle.tree_model.proofs.ForwardReads.{behind_right, prefix_below, back_above}
use Rattle.tree_model.proofs.Seeks.{ahead_below_node, later_above}
use Rattle.path_model.specs.Positions.{Position, a_node}
use Rattle.path_model.specs.Programs.{row_seen}

module _ (p l : Label) (r : Record) (ats : Attributes) (ch nx : Forest) (es : Entries) (z : Lies p l r ats ch nx es) where
  -- behind the attributes: the first child's entry, or what follows the tree
  pub first_entry : first_above (behind_attributes l) es ≡ head_of (entries_of ch ++ (entries_of nx ++ z.after))
  first_entry =
      let k = behind_attributes l in
      let prefix = z.before ++ own l r ats in
      let back = entries_of ch ++ (entries_of nx ++ z.after) in
      let cut : es ≡ prefix ++ back = z.whole ∙ append_assoc prefix (entries_of ch) _ in
      let lows : AllByRecursion (Below k) prefix = all_append (Below k) z.before (own l r ats) (all_on (Labelled (λ v. ahead (side l v) ≡ true)) (Below k) (ahead_below_node l top_name) z.before z.before_ahead) (own_below_top l r ats z.names) in
      let highs : AllByRecursion (Above k) back = all_append (Above k) (entries_of ch) _
      (all_on (Labelled (SideIs l under)) (Above k) (λ e h. later_above l top_name e (under_before l e.0.label h)) (entries_of ch) (all_under l l ch z.children))
      (all_on (Labelled (SideIs l right)) (Above k) (λ e h. later_above l top_name e (right_before l e.0.label h)) _ (behind_right p l r ats ch nx es z)) in
      ap (first_above k) cut ∙ first_above_past k prefix back lows ∙ first_above_head k back highs

  -- behind the tree: the next sibling's entry, or what follows the row
  pub next_entry : first_above (behind_tree l) es ≡ head_of (entries_of nx ++ z.after)
  next_entry =
      let k = behind_tree l in
      ap (first_above k) z.whole ∙ first_above_past k _ (entries_of nx ++ z.after) (prefix_below p l r ats ch nx es z) ∙ first_above_head k (entries_of nx ++ z.after) (back_above p l r ats ch nx es z)

-- so many of a row were found, and this entry comes next: the rest of the row, and what lies behind it
pub record Walking (l : Label) (f : Forest) (whole out : List Position) (next : Option (Key × Record)) : Type 0 where
  pub rest : Forest
  pub tail : Entries
  pub gathered : out ++ row_seen rest ≡ whole
  pub comes : next ≡ head_of (entries_of rest ++ tail)
  pub children : (b : Label) × KeysRise l b rest
  pub right : AllByRecursion (Labelled (SideIs l right)) tail
  pub sits : (m : Label) → is_child l m ≡ true → found (at m rest) ≡ true → at m f ≡ at m rest

-- whether it lies under the node decides whether it is a child
abbrev pub is_below : Label → Option (Key × Record) → Bool
is_below l None = false
is_below l (Some e) = is_under (side l e.0.label)

pub none_below : (l : Label) (es : Entries) → AllByRecursion (Labelled (SideIs l right)) es → is_below l (head_of es) ≡ false
none_below l [] h = refl
none_below l (e ∷ es) h = ap is_under h.0

-- what comes next and doesn't lie under the node ends the walk
pub walk_ends : (l : Label) (all : Forest) (whole out : List Position) (next : Option (Key × Record)) → Walking l all whole out next → is_below l next ≡ false → out ≡ whole
walk_ends l all whole out next w h = by w.rest w.gathered w.children.0 w.children.1 (ap (is_below l) (sym w.comes) ∙ h)
  where
    by : (f : Forest) → out ++ row_seen f ≡ whole → (b : Label) → KeysRise l b f → is_below l (head_of (entries_of f ++ w.tail)) ≡ false → out ≡ whole
    by none g b k q = sym (Rattle.std.proofs.Common.append-nil out) ∙ g
    by (node c r ats ch nx) g b k q = absurd (true≢false (sym (ap is_under (child_under l c k.0)) ∙ q))

-- it begins behind the attributes
pub walk_begins : (l m : Label) (r : Record) (ats : Attributes) (ch nx : Forest) (t : Tree) → IsValidTree t → at l t.documents ≡ node m r ats ch nx
    → Walking l t.documents (row_seen ch) [] (first_above (behind_attributes l) (map_of t))
walk_begins l m r ats ch nx t w e =
    let z = lies_in_tree l m r ats ch nx t w e in
    record {
      rest = ch;
      tail = entries_of nx ++ z.after;
      gathered = refl;
      comes = first_entry (up l root t.documents) l r ats ch nx (map_of t) z;
      children = (l, z.children);
      right = behind_right (up l root t.documents) l r ats ch nx (map_of t) z;
      sits = λ k c y. at_below root root l k t.documents w.keys (ap found e) c ∙ ap (λ g. at k (below g)) e;
    }

-- what comes next and lies under the node is the next child's own entry; the walk goes on behind that child's tree
pub record GoesOn (l : Label) (t : Tree) (whole out : List Position) (e : Key × Record) : Type 0 where
  pub label : Label
  pub record_there : Record
  pub entry : e ≡ (node_key label, record_there)
  pub on : Walking l t.documents whole (out ++ a_node label record_there ∷ []) (first_above (behind_tree label) (map_of t))

pub walk_goes : (l : Label) (t : Tree) (whole out : List Position) (next : Option (Key × Record)) → IsValidTree t → is_label l ≡ true → Walking l t.documents whole out next
    → (e : Key × Record) → next ≡ Some e → is_under (side l e.0.label) ≡ true → GoesOn l t whole out e
walk_goes l t whole out next v i w e is y = by w.rest w.gathered w.children.0 w.children.1 w.sits (sym is ∙ w.comes)
  where
    by : (f : Forest) → out ++ row_seen f ≡ whole → (b : Label) → KeysRise l b f → ((m : Label) → is_child l m ≡ true → found (at m f) ≡ true → at m t.documents ≡ at m f)
        → Some e ≡ head_of (entries_of f ++ w.tail) → GoesOn l t whole out e
    by none g b k sits q = absurd (true≢false (sym y ∙ ap (is_below l) q ∙ none_below l w.tail w.right))
    by (node c r ats ch nx) g b k sits q =
        let self : at c (node c r ats ch nx) ≡ node c r ats ch nx = ap (λ s. choose s none (node c r ats ch nx) (at c ch) (at c nx)) (side_itself c) in
        let there : at c t.documents ≡ node c r ats ch nx = sits c k.0 (ap found self) ∙ self in
        let z = lies_in_tree c c r ats ch nx t v there in
        let parent_is_l : up c root t.documents ≡ l = up_parent c t.documents v.keys (ap found there) ∙ parent_of_child l c i k.0 in
        record {
          label = c;
          record_there = r;
          entry = some_is e (node_key c, r) q;
          on = record {
            rest = nx;
            tail = z.after;
            gathered = append_assoc out (a_node c r ∷ []) (row_seen nx) ∙ g;
            comes = next_entry (up c root t.documents) c r ats ch nx (map_of t) z;
            children = (c, k.5);
            right = subst (λ p. AllByRecursion (Labelled (SideIs p right)) z.after) parent_is_l z.after_right;
            sits = λ m d y.
                let behind : at m (node c r ats ch nx) ≡ at m nx = ap (λ s. choose s none (node c r ats ch nx) (at m ch) (at m nx)) (found_right l c m c nx k.5 k.0 (inr refl) y) in
                sits m d (ap found behind ∙ y) ∙ behind;
          };
        }

-- A walk over the part of a row on the right of a label: it begins behind the tree of that label.
use Rattle.std.proofs.Common.{◌≡◌, true, false, cond, if◌then◌else◌, List, [], ◌∷◌, ◌++◌, Ordering, Less, Equal, Greater, nat_cmp, inr, refl, sym, ap, subst, ◌∙◌, append_assoc, true≢false}
use Rattle.std.specs.Cmp.Lexicographic.{slice_cmp, nat_list_cmp_total}
use Rattle.std.specs.List.{AllByRecursion, filter}
use Rattle.std.specs.Ordering.{ordering_reverse}
use Rattle.dewey_labels.specs.Labels.{Label, root, is_child}
use Rattle.dewey_labels.specs.Sides.{Side, above, left, same, under, right, side, is_in, is_right, ahead}
use Rattle.dewey_labels.proofs.Sides.{side_itself, left_within, right_before, right_within, under_above}
use Rattle.dewey_labels.proofs.Codes.{child_under, children_right}
use Rattle.tree_model.specs.declared.record.Record.{Record}
use Rattle.tree_model.specs.Entries.{Entries, Below, Above, first_above}
use Rattle.tree_model.specs.inside.FoundNodes.{up}
use Rattle.tree_model.specs.inside.Seeks.{behind_tree}
use Rattle.tree_model.specs.Keys.{node_key, top_name}
use Rattle.tree_model.specs.Tree.{Attributes, Forest, none, node, Tree, own, entries_of, map_of, at, found, below, choose}
use Rattle.tree_model.specs.ValidTrees.{IsValidTree, KeysRise}
use Rattle.tree_model.proofs.Entries.{head_of, first_above_past, first_above_head}
use Rattle.tree_model.proofs.EntryLimits.{Fits, own_fit, all_fit}
use Rattle.tree_model.proofs.ForwardReads.{behind_right}
use Rattle.tree_model.proofs.Found.{Lies}
use Rattle.tree_model.proofs.FoundParents.{found_right}
use Rattle.tree_model.proofs.Keys.{key_total, list_tied}
use Rattle.tree_model.proofs.Lists.{all_append, all_on, all_by}
use Rattle.tree_model.proofs.PlaceLaws.{at_below}
use Rattle.tree_model.proofs.Seeks.{in_below_tree, ahead_below, ahead_below_node, right_above_tree}
use Rattle.tree_model.proofs.Split.{Labelled, SideIs, SideIn, own_all, under_in, lower, all_right, tree_in}
use Rattle.tree_model.proofs.WholeTree.{lies_in_tree}
use Rattle.path_model.specs.AxisPrograms.{on_right}
use Rattle.path_model.specs.Positions.{Position, a_node}
use Rattle.path_model.specs.Programs.{row_seen}
use Rattle.xpath_axes.proofs.RowWalks.{Walking}

-- ---- a row cut at a label

-- the part on its right
abbrev right_of : Label → Forest → Forest
right_of m none = none
right_of m (node c r ats ch nx) = if is_right (side m c) then node c r ats ch nx else right_of m nx

-- the entries of the part before
abbrev before_right : Label → Forest → Entries
before_right m none = []
before_right m (node c r ats ch nx) = if is_right (side m c) then [] else (own c r ats ++ entries_of ch) ++ before_right m nx

cut_at : (m : Label) (f : Forest) → entries_of f ≡ before_right m f ++ entries_of (right_of m f)
cut_at m none = refl
cut_at m (node c r ats ch nx) =
    elim (is_right (side m c)) as (λ b. entries_of (node c r ats ch nx) ≡ (if b then [] else (own c r ats ++ entries_of ch) ++ before_right m nx) ++ entries_of (if b then node c r ats ch nx else right_of m nx)) [
      | true ↦ refl
      | false ↦ ap (λ es. (own c r ats ++ entries_of ch) ++ es) (cut_at m nx) ∙ sym (append_assoc (own c r ats ++ entries_of ch) (before_right m nx) (entries_of (right_of m nx)))
    ]

-- a side that is the right one
right_is : (s : Side) → is_right s ≡ true → s ≡ right
right_is above h = cc
right_is left h = cc
right_is same h = cc
right_is under h = cc
right_is right h = refl

-- ---- the labels of the part

-- it rises as the whole row does
part_rises : (p b m : Label) (f : Forest) → KeysRise p b f → KeysRise p b (right_of m f)
part_rises p b m none w = tt
part_rises p b m (node c r ats ch nx) w =
    elim (is_right (side m c)) as (λ d. KeysRise p b (if d then node c r ats ch nx else right_of m nx)) [
      | true ↦ w
      | false ↦ lower p b c (right_of m nx) w.1 (part_rises p c m nx w.5)
    ]

-- and behind the label
behind_label : (p b m : Label) (f : Forest) → KeysRise p b f → KeysRise p m (right_of m f)
behind_label p b m none w = tt
behind_label p b m (node c r ats ch nx) w =
    elim (is_right (side m c)) as (λ d. is_right (side m c) ≡ d → KeysRise p m (if d then node c r ats ch nx else right_of m nx)) [
      | true ↦ λ q. (w.0, right_before m c (right_is (side m c) q), w.2, w.3, w.4, w.5)
      | false ↦ λ _. behind_label p c m nx w.5
    ] refl

-- where all lie on its right, all are kept
all_kept : (p m : Label) (f : Forest) → is_child p m ≡ true → KeysRise p m f → row_seen f ≡ filter (on_right m) (row_seen f)
all_kept p m none i w = refl
all_kept p m (node c r ats ch nx) i w =
    let here : is_right (side m c) ≡ true = ap is_right (children_right p m c i w.0 w.1) in
    ap (λ (ps : List Position). a_node c r ∷ ps) (all_kept p m nx i (lower p m c nx w.1 w.5))
    ∙ ap (λ b. cond b (a_node c r ∷ filter (on_right m) (row_seen nx)) (filter (on_right m) (row_seen nx))) (sym here)

part_seen : (p b m : Label) (f : Forest) → is_child p m ≡ true → KeysRise p b f → row_seen (right_of m f) ≡ filter (on_right m) (row_seen f)
part_seen p b m none i w = refl
part_seen p b m (node c r ats ch nx) i w =
    elim (is_right (side m c)) as (λ d. is_right (side m c) ≡ d → row_seen (if d then node c r ats ch nx else right_of m nx) ≡ cond d (a_node c r ∷ filter (on_right m) (row_seen nx)) (filter (on_right m) (row_seen nx))) [
      | true ↦ λ q. ap (λ (ps : List Position). a_node c r ∷ ps) (all_kept p m nx i (lower p m c nx (right_before m c (right_is (side m c) q)) w.5))
      | false ↦ λ _. part_seen p c m nx i w.5
    ] refl

-- what is found in the part is what is found in the row
part_has : (p b m k : Label) (f : Forest) → KeysRise p b f → found (at k (right_of m f)) ≡ true → at k f ≡ at k (right_of m f)
part_has p b m k none w y = refl
part_has p b m k (node c r ats ch nx) w y =
    elim (is_right (side m c)) as (λ d. found (at k (if d then node c r ats ch nx else right_of m nx)) ≡ true → at k (node c r ats ch nx) ≡ at k (if d then node c r ats ch nx else right_of m nx)) [
      | true ↦ λ _. refl
      | false ↦ λ z.
          ap (λ s. choose s none (node c r ats ch nx) (at k ch) (at k nx)) (found_right p c k c (right_of m nx) (part_rises p c m nx w.5) w.0 (inr refl) z)
          ∙ part_has p c m k nx w.5 z
    ] y

-- ---- the entries of the part before lie below the key behind the label's tree

module _ (p m : Label) (i : is_child p m ≡ true) where
  tree_below : (b c : Label) (r : Record) (ats : Attributes) (ch nx : Forest) → KeysRise p b (node c r ats ch nx) → is_right (side m c) ≡ false
      → AllByRecursion (Below (behind_tree m)) (own c r ats ++ entries_of ch)
  tree_below b c r ats ch nx w h = by (slice_cmp nat_cmp c m) refl
    where
      tree : Entries
      tree = own c r ats ++ entries_of ch

      inside : AllByRecursion (Labelled (SideIn c)) tree
      inside = tree_in p b c r ats ch nx w

      fits : AllByRecursion Fits tree
      fits = all_append Fits (own c r ats) (entries_of ch) (own_fit c r ats w.2 w.3) (all_fit c c ch w.4)

      by : (o : Ordering) → slice_cmp nat_cmp c m ≡ o → AllByRecursion (Below (behind_tree m)) tree
      by Less q =
          let apart = children_right p c m w.0 i q in
          all_on (Labelled (SideIn c)) (Below (behind_tree m))
          (λ e g. ahead_below m _ top_name e (ap ahead (left_within c m e.0.label m apart g (ap is_in (side_itself m))))) tree inside
      by Equal q =
          let is : c ≡ m = list_tied c m q in
          all_by (Labelled (SideIn c)) Fits (Below (behind_tree m)) (λ e g f. in_below_tree m e (subst (λ z. SideIn z e.0.label) is g) f) tree inside fits
      by Greater q =
          let less : slice_cmp nat_cmp m c ≡ Less = nat_list_cmp_total.antisymm m c ∙ ap ordering_reverse q in
          absurd (true≢false (sym (ap is_right (children_right p m c i w.0 less)) ∙ h))

  before_below : (b : Label) (f : Forest) → KeysRise p b f → AllByRecursion (Below (behind_tree m)) (before_right m f)
  before_below b none w = tt
  before_below b (node c r ats ch nx) w =
      elim (is_right (side m c)) as (λ d. is_right (side m c) ≡ d → AllByRecursion (Below (behind_tree m)) (if d then [] else (own c r ats ++ entries_of ch) ++ before_right m nx)) [
        | true ↦ λ _. tt
        | false ↦ λ q. all_append (Below (behind_tree m)) (own c r ats ++ entries_of ch) (before_right m nx) (tree_below b c r ats ch nx w q) (before_below c nx w.5)
      ] refl

  -- ---- what a read from that key finds

  module _ (o : Label) (r : Record) (ats : Attributes) (ch nx : Forest) (es : Entries) (z : Lies o p r ats ch nx es) where
    upper_ahead : ahead (side m p) ≡ true
    upper_ahead = ap ahead (under_above p m (child_under p m i))

    lows : AllByRecursion (Below (behind_tree m)) ((z.before ++ own p r ats) ++ before_right m ch)
    lows =
        let k = behind_tree m in
        all_append (Below k) (z.before ++ own p r ats) (before_right m ch)
        (all_append (Below k) z.before (own p r ats)
        (all_on (Labelled (λ v. ahead (side p v) ≡ true)) (Below k)
        (λ e h. key_total.trans e.0 (node_key p) k (ahead_below_node p [] e h) (ahead_below m _ top_name (node_key p, r) upper_ahead)) z.before z.before_ahead)
        (all_on (Labelled (λ v. ahead (side m v) ≡ true)) (Below k) (λ e h. ahead_below m _ top_name e h) (own p r ats) (own_all (λ v. ahead (side m v) ≡ true) p r ats upper_ahead)))
        (before_below p ch z.children)

    behind_row : AllByRecursion (Labelled (SideIs p right)) (entries_of nx ++ z.after)
    behind_row = behind_right o p r ats ch nx es z

    highs : AllByRecursion (Above (behind_tree m)) (entries_of (right_of m ch) ++ (entries_of nx ++ z.after))
    highs =
        let k = behind_tree m in
        all_append (Above k) (entries_of (right_of m ch)) (entries_of nx ++ z.after)
        (all_on (Labelled (SideIs m right)) (Above k) (λ e h. right_above_tree m e h) (entries_of (right_of m ch)) (all_right p m (right_of m ch) i (behind_label p p m ch z.children)))
        (all_on (Labelled (SideIs p right)) (Above k)
        (λ e h. right_above_tree m e (right_within p e.0.label m e.0.label h (under_in p m (child_under p m i)) (ap is_in (side_itself e.0.label)))) (entries_of nx ++ z.after) behind_row)

    part_entry : first_above (behind_tree m) es ≡ head_of (entries_of (right_of m ch) ++ (entries_of nx ++ z.after))
    part_entry =
        let k = behind_tree m in
        let prefix = (z.before ++ own p r ats) ++ before_right m ch in
        let back = entries_of (right_of m ch) ++ (entries_of nx ++ z.after) in
        let cut : es ≡ prefix ++ back =
        z.whole ∙ ap (λ xs. ((z.before ++ own p r ats) ++ xs) ++ (entries_of nx ++ z.after)) (cut_at m ch) ∙ simp append_assoc refl in
        ap (first_above k) cut ∙ first_above_past k prefix back lows ∙ first_above_head k back highs

-- so the walk begins
pub walk_begins_behind : (p l m : Label) (r : Record) (ats : Attributes) (ch nx : Forest) (t : Tree) → IsValidTree t → at p t.documents ≡ node l r ats ch nx → is_child p m ≡ true
    → Walking p t.documents (filter (on_right m) (row_seen ch)) [] (first_above (behind_tree m) (map_of t))
walk_begins_behind p l m r ats ch nx t w e i =
    let o = up p root t.documents in
    let z = lies_in_tree p l r ats ch nx t w e in
    record {
      rest = right_of m ch;
      tail = entries_of nx ++ z.after;
      gathered = part_seen p p m ch i z.children;
      comes = part_entry p m i o r ats ch nx (map_of t) z;
      children = (m, behind_label p p m ch z.children);
      right = behind_right o p r ats ch nx (map_of t) z;
      sits = λ k c y. at_below root root p k t.documents w.keys (ap found e) c ∙ ap (λ g. at k (below g)) e ∙ part_has p p m k ch z.children y;
    }

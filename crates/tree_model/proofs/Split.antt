-- A label cuts the entries of a forest into what comes before it, its tree with the trees behind it, and the rest.
use Rattle.std.proofs.Common.{◌≡◌, true, [], ◌∷◌, ◌++◌, map, Less, nat_cmp, refl, sym, ap, subst, ◌∙◌, append_assoc, append-nil}
use Rattle.std.specs.Cmp.Lexicographic.{slice_cmp, nat_list_cmp_total}
use Rattle.std.specs.List.{AllByRecursion}
use Rattle.dewey_labels.specs.Labels.{Label, is_child}
use Rattle.dewey_labels.specs.Sides.{Side, above, left, same, under, right, side, is_in, ahead, rest}
use Rattle.dewey_labels.proofs.Sides.{side_itself, in_under, right_within, left_within, under_above, right_before, ahead_before, in_is}
use Rattle.dewey_labels.proofs.Codes.{child_under, children_right}
use Rattle.tree_model.specs.declared.key.Key.{Key}
use Rattle.tree_model.specs.declared.record.Record.{Record}
use Rattle.tree_model.specs.Entries.{Entries}
use Rattle.tree_model.specs.Tree.{Attributes, Forest, none, node, attr_entry, own, entries_of, choose, at}
use Rattle.tree_model.specs.ValidTrees.{KeysRise}
use Rattle.tree_model.proofs.Lists.{all_append, all_on}

-- ---- what lies where

-- a property of the entry's label
abbrev pub Labelled : (Label → Type 0) → Key × Record → Type 0
Labelled P e = P e.0.label

-- of a node's own entries, a property of its label
pub own_all : (P : Label → Type 0) (l : Label) (r : Record) (ats : Attributes) → P l → AllByRecursion (Labelled P) (own l r ats)
own_all P l r ats h = (h, attrs ats)
  where
    attrs : (ats : Attributes) → AllByRecursion (Labelled P) (map (attr_entry l) ats)
    attrs [] = tt
    attrs (a ∷ ats) = (h, attrs ats)

-- the label lies on this side of l
abbrev pub SideIs : Label → Side → Label → Type 0
SideIs l s k = side l k ≡ s

-- the label lies at l or under it
abbrev pub SideIn : Label → Label → Type 0
SideIn l k = is_in (side l k) ≡ true

-- what lies under a label lies in its subtree
pub under_in : (l k : Label) → side l k ≡ under → SideIn l k
under_in l k h = ap is_in h

-- trees behind a label are behind an earlier one
pub lower : (p a b : Label) (f : Forest) → slice_cmp nat_cmp a b ≡ Less → KeysRise p b f → KeysRise p a f
lower p a b none lt w = tt
lower p a b (node l r ats ch nx) lt w = (w.0, nat_list_cmp_total.trans a b l lt w.1, w.2, w.3, w.4, w.5)

-- all of a forest lies under the label of its parent
pub all_under : (p lo : Label) (f : Forest) → KeysRise p lo f → AllByRecursion (Labelled (SideIs p under)) (entries_of f)
all_under p lo none w = tt
all_under p lo (node l r ats ch nx) w =
    let u = child_under p l w.0 in
    let S = Labelled (SideIs p under) in
    all_append S (own l r ats ++ entries_of ch) (entries_of nx) (all_append S (own l r ats) (entries_of ch) (own_all (SideIs p under) l r ats u) (all_on (Labelled (SideIs l under)) S (λ e h. in_under p l e.0.label u (under_in l e.0.label h)) (entries_of ch) (all_under l l ch w.4))) (all_under p l nx w.5)

-- a tree's entries lie at or under its label
pub tree_in : (p lo l : Label) (r : Record) (ats : Attributes) (ch nx : Forest) → KeysRise p lo (node l r ats ch nx) → AllByRecursion (Labelled (SideIn l)) (own l r ats ++ entries_of ch)
tree_in p lo l r ats ch nx w = all_append (Labelled (SideIn l)) (own l r ats) (entries_of ch) (own_all (SideIn l) l r ats (ap is_in (side_itself l))) (all_on (Labelled (SideIs l under)) (Labelled (SideIn l)) (λ e h. under_in l e.0.label h) (entries_of ch) (all_under l l ch w.4))

-- trees behind a sibling lie to its right
pub all_right : (p m : Label) (f : Forest) → is_child p m ≡ true → KeysRise p m f → AllByRecursion (Labelled (SideIs m right)) (entries_of f)
all_right p m none c w = tt
all_right p m (node l r ats ch nx) c w =
    let s = children_right p m l c w.0 w.1 in
    let in_m : is_in (side m m) ≡ true = ap is_in (side_itself m) in
    let S = Labelled (SideIs m right) in
    all_append S (own l r ats ++ entries_of ch) (entries_of nx) (all_on (Labelled (SideIn l)) S (λ e h. right_within m l m e.0.label s in_m h) (own l r ats ++ entries_of ch) (tree_in p m l r ats ch nx w)) (all_right p m nx c (lower p m l nx w.1 w.5))

-- ---- a label cuts the map into what comes before, its tree with those behind it, and the rest

-- the entries before the tree of a label
abbrev pub before_of : Label → Forest → Entries
before_of l none = []
before_of l (node m r ats ch nx) = choose (side m l) [] [] (own m r ats ++ before_of l ch) ((own m r ats ++ entries_of ch) ++ before_of l nx)

-- the entries behind its tree and the trees that follow it
abbrev pub after_of : Label → Forest → Entries
after_of l none = []
after_of l (node m r ats ch nx) = choose (side m l) (entries_of (node m r ats ch nx)) [] (after_of l ch ++ entries_of nx) (after_of l nx)

-- ((a ++ (b ++ (c ++ d))) ++ e) in the two ways that are met
pub regroup_down : (a b c d e f : Entries) → f ≡ b ++ (c ++ d) → (a ++ f) ++ e ≡ (a ++ b) ++ (c ++ (d ++ e))
regroup_down a b c d e f q = ap (λ x. (a ++ x) ++ e) q ∙ simp append_assoc refl

pub regroup_along : (a b c d f : Entries) → f ≡ b ++ (c ++ d) → a ++ f ≡ (a ++ b) ++ (c ++ d)
regroup_along a b c d f q = ap (λ x. a ++ x) q ∙ simp append_assoc refl

-- the three parts are the whole, also where no node has the label
pub split : (l : Label) (f : Forest) → entries_of f ≡ before_of l f ++ (entries_of (at l f) ++ after_of l f)
split l none = refl
split l (node m r ats ch nx) =
    let whole = node m r ats ch nx in
    elim (side m l) as (λ s. entries_of whole ≡ choose s [] [] (own m r ats ++ before_of l ch) ((own m r ats ++ entries_of ch) ++ before_of l nx) ++ (entries_of (choose s none whole (at l ch) (at l nx)) ++ choose s (entries_of whole) [] (after_of l ch ++ entries_of nx) (after_of l nx))) [
      | above ↦ refl
      | left ↦ refl
      | same ↦ sym (append-nil (entries_of whole))
      | under ↦ regroup_down (own m r ats) _ _ _ (entries_of nx) _ (split l ch)
      | right ↦ regroup_along (own m r ats ++ entries_of ch) _ (entries_of (at l nx)) (after_of l nx) _ (split l nx)
    ]

-- what comes before a label lies to its left or above
pub all_ahead : (p lo l : Label) (f : Forest) → KeysRise p lo f → AllByRecursion (Labelled (λ k. ahead (side l k) ≡ true)) (before_of l f)
all_ahead p lo l none w = tt
all_ahead p lo l (node m r ats ch nx) w =
    let S = Labelled (λ k. ahead (side l k) ≡ true) in
    let from_left : (k : Label) → side m l ≡ right → is_in (side m k) ≡ true → ahead (side l k) ≡ true = λ k s h. ap ahead (left_within m l k l s h (ap is_in (side_itself l))) in
    elim (side m l) as (λ s. side m l ≡ s → AllByRecursion S (choose s [] [] (own m r ats ++ before_of l ch) ((own m r ats ++ entries_of ch) ++ before_of l nx))) [
      | above ↦ λ _. tt
      | left ↦ λ _. tt
      | same ↦ λ _. tt
      | under ↦ λ s. all_append S (own m r ats) _ (own_all (λ k. ahead (side l k) ≡ true) m r ats (ap ahead (under_above m l s))) (all_ahead m m l ch w.4)
      | right ↦ λ s. all_append S (own m r ats ++ entries_of ch) _ (all_on (Labelled (SideIn m)) S (λ e h. from_left e.0.label s h) (own m r ats ++ entries_of ch) (tree_in p lo m r ats ch nx w)) (all_ahead p m l nx w.5)
    ] refl

-- what comes after has a later label
abbrev pub Later : Label → Label → Type 0
Later l k = slice_cmp nat_cmp l k ≡ Less

later_in : (m l k : Label) → ahead (side m l) ≡ true → is_in (side m k) ≡ true → Later l k
later_in m l k a h = subst (λ v. slice_cmp nat_cmp l v ≡ Less) (sym (in_is m k h)) (ahead_before m l (rest m k) a)

stopped : (p lo l m : Label) (r : Record) (ats : Attributes) (ch nx : Forest) → KeysRise p lo (node m r ats ch nx) → ahead (side m l) ≡ true → AllByRecursion (Labelled (Later l)) (entries_of (node m r ats ch nx))
stopped p lo l m r ats ch nx w a =
    let S = Labelled (Later l) in
    let l_m : Later l m = later_in m l m a (ap is_in (side_itself m)) in
    all_append S (own m r ats ++ entries_of ch) (entries_of nx) (all_on (Labelled (SideIn m)) S (λ e h. later_in m l e.0.label a h) (own m r ats ++ entries_of ch) (tree_in p lo m r ats ch nx w)) (all_on (Labelled (SideIs m right)) S (λ e h. nat_list_cmp_total.trans l m e.0.label l_m (right_before m e.0.label h)) (entries_of nx) (all_right p m nx w.0 w.5))

-- what comes after has a later label
pub all_later : (p lo l : Label) (f : Forest) → KeysRise p lo f → AllByRecursion (Labelled (Later l)) (after_of l f)
all_later p lo l none w = tt
all_later p lo l (node m r ats ch nx) w =
    let S = Labelled (Later l) in
    elim (side m l) as (λ s. side m l ≡ s → AllByRecursion S (choose s (entries_of (node m r ats ch nx)) [] (after_of l ch ++ entries_of nx) (after_of l nx))) [
      | above ↦ λ s. stopped p lo l m r ats ch nx w (ap ahead s)
      | left ↦ λ s. stopped p lo l m r ats ch nx w (ap ahead s)
      | same ↦ λ _. tt
      | under ↦ λ s. all_append S (after_of l ch) (entries_of nx) (all_later m m l ch w.4) (all_on (Labelled (SideIs m right)) S (λ e h. right_before l e.0.label (right_within m e.0.label l e.0.label h (ap is_in s) (ap is_in (side_itself e.0.label)))) (entries_of nx) (all_right p m nx w.0 w.5))
      | right ↦ λ s. all_later p m l nx w.5
    ] refl

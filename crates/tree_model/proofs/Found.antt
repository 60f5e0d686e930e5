-- What is known of the node that `at` finds: its label, its parent, and how it lies among the entries.
use Rattle.std.proofs.Common.{◌≡◌, true, false, [], ◌++◌, Some, unwrap_or, refl, sym, ap, subst, ◌∙◌, append_assoc}
use Rattle.std.specs.List.{AllByRecursion}
use Rattle.dewey_labels.specs.Labels.{Label, root, is_child, parent, Within}
use Rattle.dewey_labels.specs.Sides.{above, left, same, under, right, side, is_in, ahead}
use Rattle.dewey_labels.proofs.Sides.{same_is, side_itself, in_under, right_within, right_on}
use Rattle.dewey_labels.proofs.Codes.{child_under, OddEnd, child_odd, parent_is}
use Rattle.tree_model.specs.declared.record.Record.{Record}
use Rattle.tree_model.specs.Entries.{Entries}
use Rattle.tree_model.specs.Tree.{Attributes, Forest, none, node, own, entries_of, choose, at, found, head_label}
use Rattle.tree_model.specs.inside.FoundNodes.{up}
use Rattle.tree_model.specs.ValidTrees.{NamesRise, KeysRise}
use Rattle.tree_model.proofs.Lists.{all_append, all_on}
use Rattle.tree_model.proofs.Split.{Labelled, SideIs, all_right, before_of, after_of, split, all_ahead}

-- two values are one where they are so as `Some`
pub some_is : {A : Type 0} (a b : A) → Some a ≡ Some b → a ≡ b
some_is a b e = ap (λ o. unwrap_or o a) e

-- ---- the node's parent

-- a node's parent lies in the subtree of the forest's parent
pub up_in : (p lo l : Label) (f : Forest) → KeysRise p lo f → is_in (side p (up l p f)) ≡ true
up_in p lo l none w = ap is_in (side_itself p)
up_in p lo l (node m r ats ch nx) w =
    let here : is_in (side p p) ≡ true = ap is_in (side_itself p) in
    elim (side m l) as (λ s. is_in (side p (choose s p p (up l m ch) (up l p nx))) ≡ true) [
      | above ↦ here
      | left ↦ here
      | same ↦ here
      | under ↦ ap is_in (in_under p m (up l m ch) (child_under p m w.0) (up_in m m l ch w.4))
      | right ↦ up_in p m l nx w.5
    ]

-- what comes after a node and its following siblings lies to the right of its parent
pub all_right_of_up : (p lo l : Label) (f : Forest) → KeysRise p lo f → found (at l f) ≡ true → AllByRecursion (Labelled (SideIs (up l p f) right)) (after_of l f)
all_right_of_up p lo l none w y = tt
all_right_of_up p lo l (node m r ats ch nx) w y =
    elim (side m l) as (λ s. side m l ≡ s → found (choose s none (node m r ats ch nx) (at l ch) (at l nx)) ≡ true → AllByRecursion (Labelled (SideIs (choose s p p (up l m ch) (up l p nx)) right)) (choose s (entries_of (node m r ats ch nx)) [] (after_of l ch ++ entries_of nx) (after_of l nx))) [
      | above ↦ λ _ e. cc
      | left ↦ λ _ e. cc
      | same ↦ λ _ _. tt
      | under ↦ λ s e. all_append (Labelled (SideIs (up l m ch) right)) (after_of l ch) (entries_of nx) (all_right_of_up m m l ch w.4 e) (all_on (Labelled (SideIs m right)) (Labelled (SideIs (up l m ch) right)) (λ e h. right_within m e.0.label (up l m ch) e.0.label h (up_in m m l ch w.4) (ap is_in (side_itself e.0.label))) (entries_of nx) (all_right p m nx w.0 w.5))
      | right ↦ λ s e. all_right_of_up p m l nx w.5 e
    ] refl y

-- the tree found is valid, with the trees behind it
pub at_keys : (p lo l : Label) (f : Forest) → KeysRise p lo f → (b : Label) × KeysRise (up l p f) b (at l f)
at_keys p lo l none w = (lo, tt)
at_keys p lo l (node m r ats ch nx) w =
    elim (side m l) as (λ s. (b : Label) × KeysRise (choose s p p (up l m ch) (up l p nx)) b (choose s none (node m r ats ch nx) (at l ch) (at l nx))) [
      | above ↦ (lo, tt)
      | left ↦ (lo, tt)
      | same ↦ (lo, w)
      | under ↦ at_keys m m l ch w.4
      | right ↦ at_keys p m l nx w.5
    ]

-- the node that is found has the label
pub at_label : (l : Label) (f : Forest) → found (at l f) ≡ true → head_label (at l f) ≡ Some l
at_label l none y = cc
at_label l (node m r ats ch nx) y =
    elim (side m l) as (λ s. side m l ≡ s → found (choose s none (node m r ats ch nx) (at l ch) (at l nx)) ≡ true → head_label (choose s none (node m r ats ch nx) (at l ch) (at l nx)) ≡ Some l) [
      | above ↦ λ _ e. cc
      | left ↦ λ _ e. cc
      | same ↦ λ s _. ap Some (sym (same_is m l s))
      | under ↦ λ _ e. at_label l ch e
      | right ↦ λ _ e. at_label l nx e
    ] refl y

-- ---- the parent is the one that the label says

-- a parent's label ends in an odd division
pub up_odd : (p lo l : Label) (f : Forest) → OddEnd p → KeysRise p lo f → OddEnd (up l p f)
up_odd p lo l none o w = o
up_odd p lo l (node m r ats ch nx) o w =
    elim (side m l) as (λ s. OddEnd (choose s p p (up l m ch) (up l p nx))) [ above ↦ o | left ↦ o | same ↦ o | under ↦ up_odd m m l ch (child_odd p m w.0) w.4 | right ↦ up_odd p m l nx o w.5 ]

-- a found node's parent is its label without the last code
pub up_parent : (l : Label) (f : Forest) → KeysRise root root f → found (at l f) ≡ true → up l root f ≡ parent l
up_parent l f w y =
    let there = at_keys root root l f w in
    let o = up_odd root root l f refl w in
    elim (at l f) as (λ g. KeysRise (up l root f) there.0 g → head_label g ≡ Some l → found g ≡ true → up l root f ≡ parent l) [
      | none ↦ λ _ _ q. cc
      | node m r ats ch nx ↦ λ v h _. subst (λ k. up l root f ≡ parent k) (some_is m l h) (sym (parent_is (up l root f) m o v.0))
    ] there.1 (at_label l f y) y

-- ---- what lies at or behind a found node is found from there

-- what lies under the same parent and not ahead of a found node is found from it
pub at_from : (p lo l n : Label) (f : Forest) → KeysRise p lo f → found (at l f) ≡ true → side (up l p f) n ≡ under → ahead (side l n) ≡ false → at n f ≡ at n (at l f)
at_from p lo l n none w y u a = refl
at_from p lo l n (node m r ats ch nx) w y u a =
    let whole = node m r ats ch nx in
    elim (side m l) as (λ s. side m l ≡ s → found (choose s none whole (at l ch) (at l nx)) ≡ true → side (choose s p p (up l m ch) (up l p nx)) n ≡ under → at n whole ≡ at n (choose s none whole (at l ch) (at l nx))) [
      | above ↦ λ _ e. cc
      | left ↦ λ _ e. cc
      | same ↦ λ _ _ _. refl
      | under ↦ λ s e v. ap (λ t. choose t none whole (at n ch) (at n nx)) (down m (up l m ch) (up_in m m l ch w.4) v) ∙ at_from m m l n ch w.4 e v a
      | right ↦ λ s e v. ap (λ t. choose t none whole (at n ch) (at n nx)) (along s) ∙ at_from p m l n nx w.5 e v a
    ] refl y u
  where
    down : (m q : Label) → is_in (side m q) ≡ true → side q n ≡ under → side m n ≡ under
    down m q i v = elim (side m q) as (λ s. side m q ≡ s → is_in s ≡ true → side m n ≡ under) [
      | above ↦ λ _ e. cc
      | left ↦ λ _ e. cc
      | same ↦ λ s _. subst (λ z. side z n ≡ under) (same_is m q s) v
      | under ↦ λ s _. in_under m q n s (ap is_in v)
      | right ↦ λ _ e. cc
    ] refl i

    along : side m l ≡ right → side m n ≡ right
    along s = elim (side l n) as (λ t. side l n ≡ t → ahead t ≡ false → side m n ≡ right) [
      | above ↦ λ _ e. cc
      | left ↦ λ _ e. cc
      | same ↦ λ t _. subst (λ z. side m z ≡ right) (sym (same_is l n t)) s
      | under ↦ λ t _. right_within m l m n s (ap is_in (side_itself m)) (ap is_in t)
      | right ↦ λ t _. right_on m l n s t
    ] refl a

-- ---- the node among the entries

-- a found node as it lies in the map of its forest
pub record Lies (p l : Label) (r : Record) (ats : Attributes) (ch nx : Forest) (es : Entries) : Type 0 where
  pub before : Entries
  pub after : Entries
  pub whole : es ≡ ((before ++ own l r ats) ++ entries_of ch) ++ (entries_of nx ++ after)
  pub before_ahead : AllByRecursion (Labelled (λ k. ahead (side l k) ≡ true)) before
  pub after_right : AllByRecursion (Labelled (SideIs p right)) after
  pub is_child_of : is_child p l ≡ true
  pub within : Within l
  pub names : NamesRise [] ats
  pub children : KeysRise l l ch
  pub siblings : KeysRise p l nx

-- a found node among the entries, in two groupings
pub regroup : (b o c n a : Entries) → b ++ (((o ++ c) ++ n) ++ a) ≡ ((b ++ o) ++ c) ++ (n ++ a)
regroup b o c n a = simp append_assoc refl

-- what holds of a node that `at` finds
abbrev pub lies : (p lo l m : Label) (r : Record) (ats : Attributes) (ch nx f : Forest) → KeysRise p lo f → at l f ≡ node m r ats ch nx → Lies (up l p f) l r ats ch nx (entries_of f)
lies p lo l m r ats ch nx f w e =
    let is_found : found (at l f) ≡ true = ap found e in
    let m_is : m ≡ l = some_is m l (sym (ap head_label e) ∙ at_label l f is_found) in
    let at_is : at l f ≡ node l r ats ch nx = subst (λ v. at l f ≡ node v r ats ch nx) m_is e in
    let there = at_keys p lo l f w in
    let v : KeysRise (up l p f) there.0 (node l r ats ch nx) = subst (KeysRise (up l p f) there.0) at_is there.1 in
    record {
      before = before_of l f;
      after = after_of l f;
      whole = split l f ∙ ap (λ g. before_of l f ++ (entries_of g ++ after_of l f)) at_is ∙ regroup (before_of l f) (own l r ats) (entries_of ch) (entries_of nx) (after_of l f);
      before_ahead = all_ahead p lo l f w;
      after_right = all_right_of_up p lo l f w is_found;
      is_child_of = v.0;
      within = v.2;
      names = v.3;
      children = v.4;
      siblings = v.5;
    }

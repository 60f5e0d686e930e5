-- What an edit of a forest does to its entries and keeps of its keys.
use Rattle.std.proofs.Common.{◌≡◌, true, [], ◌++◌, Option, None, Some, Less, nat_cmp, refl, sym, subst, ◌∙◌, append-nil}
use Rattle.std.specs.Cmp.Lexicographic.{slice_cmp}
use Rattle.dewey_labels.specs.Labels.{Label, is_child, Within}
use Rattle.dewey_labels.specs.Sides.{above, left, same, under, right, side}
use Rattle.tree_model.specs.declared.record.Record.{Record}
use Rattle.tree_model.specs.declared.record.Record.TheVariants.{Document, Element, Text, Attr}
use Rattle.tree_model.specs.Tree.{Attributes, Forest, none, node, own, entries_of, choose, at, found, head_label, edit}
use Rattle.tree_model.specs.inside.FoundNodes.{up, low}
use Rattle.tree_model.specs.ValidTrees.{NamesRise, KeysRise, KindsAllowed, LimitsKept, may_follow}
use Rattle.tree_model.proofs.Split.{before_of, after_of, regroup_down, regroup_along}
use Rattle.tree_model.proofs.Found.{some_is, at_label}

-- the entries of the changed tree stand in the place of the old ones
pub edit_entries : (l : Label) (h : Forest → Forest) (f : Forest) → found (at l f) ≡ true → entries_of (edit l h f) ≡ before_of l f ++ (entries_of (h (at l f)) ++ after_of l f)
edit_entries l h none y = cc
edit_entries l h (node m r ats ch nx) y =
    let whole = node m r ats ch nx in
    elim (side m l) as (λ s. found (choose s none whole (at l ch) (at l nx)) ≡ true → entries_of (choose s whole (h whole) (node m r ats (edit l h ch) nx) (node m r ats ch (edit l h nx))) ≡ choose s [] [] (own m r ats ++ before_of l ch) ((own m r ats ++ entries_of ch) ++ before_of l nx) ++ (entries_of (h (choose s none whole (at l ch) (at l nx))) ++ choose s (entries_of whole) [] (after_of l ch ++ entries_of nx) (after_of l nx))) [
      | above ↦ λ e. cc
      | left ↦ λ e. cc
      | same ↦ λ _. sym (append-nil (entries_of (h whole)))
      | under ↦ λ e. regroup_down (own m r ats) _ _ _ (entries_of nx) _ (edit_entries l h ch e)
      | right ↦ λ e. regroup_along (own m r ats ++ entries_of ch) _ (entries_of (h (at l nx))) (after_of l nx) _ (edit_entries l h nx e)
    ] y

-- a change that keeps the keys of its place keeps all
pub edit_keys : (p lo l : Label) (h : Forest → Forest) (f : Forest) → KeysRise p lo f → (KeysRise (up l p f) (low l lo f) (at l f) → KeysRise (up l p f) (low l lo f) (h (at l f))) → KeysRise p lo (edit l h f)
edit_keys p lo l h none w k = tt
edit_keys p lo l h (node m r ats ch nx) w k =
    let whole = node m r ats ch nx in
    elim (side m l) as (λ s. (let q = choose s p p (up l m ch) (up l p nx) in let b = choose s lo lo (low l m ch) (low l m nx) in let g = choose s none whole (at l ch) (at l nx) in KeysRise q b g → KeysRise q b (h g)) → KeysRise p lo (choose s whole (h whole) (node m r ats (edit l h ch) nx) (node m r ats ch (edit l h nx)))) [
      | above ↦ λ _. w
      | left ↦ λ _. w
      | same ↦ λ j. j w
      | under ↦ λ j. (w.0, w.1, w.2, w.3, edit_keys m m l h ch w.4 j, w.5)
      | right ↦ λ j. (w.0, w.1, w.2, w.3, w.4, edit_keys p m l h nx w.5 j)
    ] k

-- a forest under another bound
pub raise : (p a b : Label) (f : Forest) → KeysRise p b f → ((m : Label) → head_label f ≡ Some m → slice_cmp nat_cmp a m ≡ Less) → KeysRise p a f
raise p a b none w h = tt
raise p a b (node m r ats ch nx) w h = (w.0, h m refl, w.2, w.3, w.4, w.5)

-- a new node before l
pub insert_before_keys : (p lo l n : Label) (r : Record) (ats : Attributes) (ch f : Forest) → KeysRise p lo f → found (at l f) ≡ true
    → is_child (up l p f) n ≡ true → slice_cmp nat_cmp (low l lo f) n ≡ Less → slice_cmp nat_cmp n l ≡ Less → Within n → NamesRise [] ats → KeysRise n n ch
    → KeysRise p lo (edit l (node n r ats ch) f)
insert_before_keys p lo l n r ats ch f w y c a b i names v =
    edit_keys p lo l (node n r ats ch) f w (λ g. (c, a, i, names, v, raise (up l p f) n (low l lo f) (at l f) g (λ m h. subst (λ z. slice_cmp nat_cmp n z ≡ Less) (some_is l m (sym (at_label l f y) ∙ h)) b)))

-- ---- kinds and limits

-- the record of the parent of the node with a label, p being that of the forest's parent
abbrev pub over : Label → Option Record → Forest → Option Record
over l p none = p
over l p (node m r ats ch nx) = choose (side m l) p p (over l (Some r) ch) (over l p nx)

-- an edit adds no sibling to a row that has none there
follows_edited : (l : Label) (h : Forest → Forest) (p : Option Record) (nx : Forest) → may_follow p nx ≡ true → may_follow p (edit l h nx) ≡ true
follows_edited l h p none e = e
follows_edited l h None (node m r ats ch nx) e = refl
follows_edited l h (Some Document) (node m r ats ch nx) e = cc
follows_edited l h (Some (Element n)) (node m r ats ch nx) e = refl
follows_edited l h (Some (Text t)) (node m r ats ch nx) e = refl
follows_edited l h (Some (Attr v)) (node m r ats ch nx) e = refl

-- likewise the kinds
pub edit_kinds : (p : Option Record) (l : Label) (h : Forest → Forest) (f : Forest) → KindsAllowed p f → (KindsAllowed (over l p f) (at l f) → KindsAllowed (over l p f) (h (at l f))) → KindsAllowed p (edit l h f)
edit_kinds p l h none w k = tt
edit_kinds p l h (node m r ats ch nx) w k =
    let whole = node m r ats ch nx in
    elim (side m l) as (λ s. (let q = choose s p p (over l (Some r) ch) (over l p nx) in let g = choose s none whole (at l ch) (at l nx) in KindsAllowed q g → KindsAllowed q (h g)) → KindsAllowed p (choose s whole (h whole) (node m r ats (edit l h ch) nx) (node m r ats ch (edit l h nx)))) [
      | above ↦ λ _. w
      | left ↦ λ _. w
      | same ↦ λ j. j w
      | under ↦ λ j. (w.0, w.1, w.2, edit_kinds (Some r) l h ch w.3 j, w.4)
      | right ↦ λ j. (w.0, follows_edited l h p nx w.1, w.2, w.3, edit_kinds p l h nx w.4 j)
    ] k

-- likewise the limits
pub edit_limits : (l : Label) (h : Forest → Forest) (f : Forest) → LimitsKept f → (LimitsKept (at l f) → LimitsKept (h (at l f))) → LimitsKept (edit l h f)
edit_limits l h none w k = tt
edit_limits l h (node m r ats ch nx) w k =
    let whole = node m r ats ch nx in
    elim (side m l) as (λ s. (let g = choose s none whole (at l ch) (at l nx) in LimitsKept g → LimitsKept (h g)) → LimitsKept (choose s whole (h whole) (node m r ats (edit l h ch) nx) (node m r ats ch (edit l h nx)))) [
      | above ↦ λ _. w
      | left ↦ λ _. w
      | same ↦ λ j. j w
      | under ↦ λ j. (w.0, w.1, w.2, edit_limits l h ch w.3 j, w.4)
      | right ↦ λ j. (w.0, w.1, w.2, w.3, edit_limits l h nx w.4 j)
    ] k

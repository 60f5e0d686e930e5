-- The positions of a valid tree are found: each one's label is that of a node, whose record or attribute it is.
use Rattle.std.proofs.Common.{◌≡◌, true, false, List, [], ◌∷◌, ◌++◌, ◌⊎◌, inl, inr, ⊎_elim, None, refl, sym, ap, subst, ◌∙◌, true≢false}
use Rattle.dewey_labels.specs.Labels.{Label, root, parent}
use Rattle.dewey_labels.specs.Sides.{Side, side, under, right}
use Rattle.dewey_labels.proofs.Sides.{side_itself}
use Rattle.dewey_labels.proofs.Codes.{OddEnd, child_odd}
use Rattle.tree_model.specs.declared.record.Record.{Record}
use Rattle.tree_model.specs.declared.record.Record.TheVariants.{Document, Element, Text, Attr}
use Rattle.tree_model.specs.Tree.{Attributes, Forest, none, node, Tree, choose, at, found, record_of, entries_of}
use Rattle.tree_model.specs.inside.FoundNodes.{up}
use Rattle.tree_model.specs.ValidTrees.{IsValidTree, KeysRise, KindsAllowed, may_stand, may_have}
use Rattle.tree_model.proofs.Edits.{over}
use Rattle.tree_model.proofs.Found.{Lies, lies, up_parent}
use Rattle.tree_model.proofs.FoundParents.{found_right, over_is}
use Rattle.tree_model.proofs.FoundRecords.{at_kinds}
use Rattle.tree_model.proofs.WholeTree.{found_under}
use Rattle.path_model.specs.Positions.{Position, a_node, an_attribute, attributes_at, positions_in, positions, label_of, is_node}
use Rattle.path_model.specs.Sets.{Among}

-- ---- nodes

-- the forest has a node with the label and the record
pub record HasNode (f : Forest) (l : Label) (r : Record) : Type 0 where
  pub attributes : Attributes
  pub children : Forest
  pub behind : Forest
  pub is : at l f ≡ node l r attributes children behind

-- what a position says of its node
abbrev pub SaysOf : Position → Record → Attributes → Type 0
SaysOf (a_node l r) s ats = s ≡ r
SaysOf (an_attribute l n v) s ats = Among (an_attribute l n v) (attributes_at l ats)

-- the forest has the node of a position
pub record Stands (f : Forest) (n : Position) : Type 0 where
  pub holds : Record
  pub attributes : Attributes
  pub children : Forest
  pub behind : Forest
  pub is : at (label_of n) f ≡ node (label_of n) holds attributes children behind
  pub says : SaysOf n holds attributes

-- ---- members of joined lists

pub among_joined : (n : Position) (ns ms : List Position) → Among n (ns ++ ms) → Among n ns ⊎ Among n ms
among_joined n [] ms h = inr h
among_joined n (m ∷ ns) ms (inl e) = inl (inl e)
among_joined n (m ∷ ns) ms (inr h) = ⊎_elim (λ i. inl (inr i)) (λ i. inr i) (among_joined n ns ms h)

-- attributes are no nodes, and have their element's label
no_node_there : (k l : Label) (r : Record) (ats : Attributes) → Among (a_node k r) (attributes_at l ats) → ⊥
no_node_there k l r [] h = h
no_node_there k l r (a ∷ ats) (inl e) = absurd (true≢false (ap is_node e))
no_node_there k l r (a ∷ ats) (inr h) = no_node_there k l r ats h

label_there : (n : Position) (l : Label) (ats : Attributes) → Among n (attributes_at l ats) → label_of n ≡ l
label_there n l [] h = absurd h
label_there n l (a ∷ ats) (inl e) = ap label_of e
label_there n l (a ∷ ats) (inr h) = label_there n l ats h

-- ---- a position's node is found

module _ (l : Label) (r : Record) (ats : Attributes) (ch nx : Forest) where
  abbrev Whole : Forest
  Whole = node l r ats ch nx

  here : (k : Label) → k ≡ l → at k Whole ≡ node k r ats ch nx
  here k e = subst (λ z. at z Whole ≡ node z r ats ch nx) (sym e) (ap (λ s. choose s none Whole (at l ch) (at l nx)) (side_itself l))

  own_stands : (n : Position) → Among n (a_node l r ∷ attributes_at l ats) → Stands Whole n
  own_stands n (inl e) = subst (Stands Whole) (sym e) (record { holds = r; attributes = ats; children = ch; behind = nx; is = here l refl; says = refl })
  own_stands (a_node k s) (inr h) = absurd (no_node_there k l s ats h)
  own_stands (an_attribute k m v) (inr h) =
      let e : k ≡ l = label_there (an_attribute k m v) l ats h in
      record { holds = r; attributes = ats; children = ch; behind = nx; is = here k e; says = subst (λ z. Among (an_attribute k m v) (attributes_at z ats)) (sym e) h }

  moved : (f : Forest) (n : Position) (s : Side) → side l (label_of n) ≡ s → choose s none Whole (at (label_of n) ch) (at (label_of n) nx) ≡ at (label_of n) f → Stands f n → Stands Whole n
  moved f n s e g w = record {
    holds = w.holds;
    attributes = w.attributes;
    children = w.children;
    behind = w.behind;
    is = ap (λ s. choose s none Whole (at (label_of n) ch) (at (label_of n) nx)) e ∙ g ∙ w.is;
    says = w.says;
  }

pub stands_in : (p b : Label) (f : Forest) (n : Position) → KeysRise p b f → Among n (positions_in f) → Stands f n
stands_in p b none n w h = absurd h
stands_in p b (node l r ats ch nx) n w h =
    ⊎_elim
    (λ i. ⊎_elim
    (λ j. own_stands l r ats ch nx n j)
    (λ j. let s : Stands ch n = stands_in l l ch n w.4 j in moved l r ats ch nx ch n under (found_under l l (label_of n) ch w.4 (ap found s.is)) refl s)
    (among_joined n (a_node l r ∷ attributes_at l ats) (positions_in ch) i))
    (λ i. let s : Stands nx n = stands_in p l nx n w.5 i in moved l r ats ch nx nx n right (found_right p l (label_of n) l nx w.5 w.0 (inr refl) (ap found s.is)) refl s)
    (among_joined n ((a_node l r ∷ attributes_at l ats) ++ positions_in ch) (positions_in nx) h)

module _ (t : Tree) (valid : IsValidTree t) where
  pub stands : (n : Position) → Among n (positions t) → Stands t.documents n
  stands n h = stands_in root root t.documents n valid.keys h

  pub has_node : (l : Label) (r : Record) → Among (a_node l r) (positions t) → HasNode t.documents l r
  has_node l r h =
      let s : Stands t.documents (a_node l r) = stands (a_node l r) h in
      record { attributes = s.attributes; children = s.children; behind = s.behind; is = s.is ∙ ap (λ q. node l q s.attributes s.children s.behind) s.says }

  pub node_lies : (l : Label) (r : Record) (h : HasNode t.documents l r) → Lies (up l root t.documents) l r h.attributes h.children h.behind (entries_of t.documents)
  node_lies l r h = lies root root l l r h.attributes h.children h.behind t.documents valid.keys h.is

  -- ---- parents

  pub up_is_parent : (l : Label) (r : Record) → HasNode t.documents l r → up l root t.documents ≡ parent l
  up_is_parent l r h = up_parent l t.documents valid.keys (ap found h.is)

  kinds : (l : Label) (r : Record) (h : HasNode t.documents l r) → KindsAllowed (over l None t.documents) (node l r h.attributes h.children h.behind)
  kinds l r h = subst (KindsAllowed (over l None t.documents)) h.is (at_kinds None l t.documents valid.kinds)

  -- nothing stands over a document, and a node over each other one
  not_below : (g : Forest) → found g ≡ true → may_stand (record_of g) Document ≡ true → ⊥
  not_below none y h = absurd (true≢false (sym y))
  not_below (node m Document ats ch nx) y h = absurd (true≢false (sym h))
  not_below (node m (Element n) ats ch nx) y h = absurd (true≢false (sym h))
  not_below (node m (Text d) ats ch nx) y h = absurd (true≢false (sym h))
  not_below (node m (Attr v) ats ch nx) y h = absurd (true≢false (sym h))

  pub document_below_root : (l : Label) → HasNode t.documents l Document → parent l ≡ root
  document_below_root l h =
      ⊎_elim
      (λ e. sym (up_is_parent l Document h) ∙ e.0)
      (λ e. absurd (not_below (at (up l root t.documents) t.documents) e.0 (subst (λ o. may_stand o Document ≡ true) e.1 (kinds l Document h).0)))
      (over_is None root root l t.documents valid.keys (ap found h.is))

  pub parent_there : (l : Label) (r : Record) → may_stand None r ≡ false → HasNode t.documents l r → found (at (parent l) t.documents) ≡ true
  parent_there l r below h =
      ⊎_elim
      (λ e. absurd (true≢false (sym (subst (λ o. may_stand o r ≡ true) e.1 (kinds l r h).0) ∙ below)))
      (λ e. subst (λ p. found (at p t.documents) ≡ true) (up_is_parent l r h) e.0)
      (over_is None root root l t.documents valid.keys (ap found h.is))

  -- only an element has attributes
  pub no_attributes : (l : Label) (r : Record) (h : HasNode t.documents l r) → may_have r (([], []) ∷ []) ≡ false → h.attributes ≡ []
  no_attributes l r h none_allowed = none_had r h.attributes none_allowed (kinds l r h).2
    where
      none_had : (r : Record) (ats : Attributes) → may_have r (([], []) ∷ []) ≡ false → may_have r ats ≡ true → ats ≡ []
      none_had r [] z g = refl
      none_had Document (a ∷ ats) z g = absurd (true≢false (sym g))
      none_had (Element n) (a ∷ ats) z g = absurd (true≢false z)
      none_had (Text d) (a ∷ ats) z g = absurd (true≢false (sym g))
      none_had (Attr v) (a ∷ ats) z g = absurd (true≢false (sym g))

  -- every label ends in an odd division
  pub odd_end : (l : Label) (r : Record) → HasNode t.documents l r → OddEnd l
  odd_end l r h = child_odd (up l root t.documents) l (node_lies l r h).is_child_of

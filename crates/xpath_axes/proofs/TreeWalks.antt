-- A walk over all that lies under a node, one read a node: what is found behind the attributes of each node is the next one's own entry, in document order.
use Rattle.std.proofs.Common.{◌≡◌, true, false, List, [], ◌∷◌, ◌++◌, map, Option, Some, Equal, Less, nat_cmp, refl, sym, ap, subst, ◌∙◌, append_assoc, append-nil, true≢false, Ordering, Greater}
use Rattle.std.specs.Ordering.{ordering_then}
use Rattle.std.specs.Cmp.Lexicographic.{slice_cmp}
use Rattle.std.specs.List.{AllByRecursion}
use Rattle.dewey_labels.specs.Labels.{Label, root}
use Rattle.dewey_labels.specs.Sides.{side, under, right, is_in, is_under}
use Rattle.dewey_labels.proofs.Sides.{side_itself, right_before, right_within}
use Rattle.tree_model.specs.declared.key.Key.{Key}
use Rattle.tree_model.specs.declared.record.Record.{Record}
use Rattle.tree_model.specs.Keys.{key_cmp, node_key, top_name}
use Rattle.tree_model.specs.Entries.{Entries, Below, Above, Sorted, first_above}
use Rattle.tree_model.specs.inside.Seeks.{behind_attributes}
use Rattle.tree_model.specs.Tree.{Attributes, Forest, none, node, Tree, own, attr_entry, entries_of, map_of, at}
use Rattle.tree_model.specs.inside.FoundNodes.{up}
use Rattle.tree_model.specs.ValidTrees.{IsValidTree, KeysRise, NamesRise}
use Rattle.tree_model.proofs.Lists.{all_append, all_behind, all_before, all_on}
use Rattle.tree_model.proofs.Entries.{head_of, first_above_past, first_above_head, sorted_below, sorted_behind}
use Rattle.tree_model.proofs.EntryLimits.{own_below_top}
use Rattle.tree_model.proofs.Keys.{key_total}
use Rattle.tree_model.proofs.Seeks.{later_above}
use Rattle.tree_model.proofs.Split.{Labelled, SideIs, Later, all_under, own_all, under_in}
use Rattle.tree_model.proofs.Found.{some_is}
use Rattle.tree_model.proofs.ForwardReads.{behind_right}
use Rattle.tree_model.proofs.WholeTree.{lies_in_tree}
use Rattle.path_model.specs.Positions.{Position, a_node}
use Rattle.path_model.specs.Programs.{all_seen}
use Rattle.xpath_axes.proofs.RowWalks.{first_entry, is_below, none_below}

-- ---- nodes in document order

-- a node with its record and attributes
abbrev pub Block : Type 0
Block = Label × Record × Attributes

-- those of a forest
abbrev pub blocks : Forest → List Block
blocks none = []
blocks (node l r ats ch nx) = (l, r, ats) ∷ (blocks ch ++ blocks nx)

-- their entries
abbrev pub flat : List Block → Entries
flat [] = []
flat (b ∷ bs) = own b.0 b.1 b.2 ++ flat bs

-- the nodes alone
abbrev pub nodes_in : List Block → List Position
nodes_in [] = []
nodes_in (b ∷ bs) = a_node b.0 b.1 ∷ nodes_in bs

abbrev pub Named : Block → Type 0
Named b = NamesRise [] b.2

flat_joined : (bs cs : List Block) → flat (bs ++ cs) ≡ flat bs ++ flat cs
flat_joined [] cs = refl
flat_joined (b ∷ bs) cs = ap (λ es. own b.0 b.1 b.2 ++ es) (flat_joined bs cs) ∙ sym (append_assoc (own b.0 b.1 b.2) (flat bs) (flat cs))

nodes_joined : (bs cs : List Block) → nodes_in (bs ++ cs) ≡ nodes_in bs ++ nodes_in cs
nodes_joined [] cs = refl
nodes_joined (b ∷ bs) cs = ap (λ (ps : List Position). a_node b.0 b.1 ∷ ps) (nodes_joined bs cs)

pub blocks_flat : (f : Forest) → entries_of f ≡ flat (blocks f)
blocks_flat none = refl
blocks_flat (node l r ats ch nx) =
    append_assoc (own l r ats) (entries_of ch) (entries_of nx)
    ∙ (λ i. own l r ats ++ (blocks_flat ch i ++ blocks_flat nx i))
    ∙ ap (λ es. own l r ats ++ es) (sym (flat_joined (blocks ch) (blocks nx)))

pub blocks_seen : (f : Forest) → all_seen f ≡ nodes_in (blocks f)
blocks_seen none = refl
blocks_seen (node l r ats ch nx) =
    ap (λ (ps : List Position). a_node l r ∷ ps) ((λ i. blocks_seen ch i ++ blocks_seen nx i) ∙ sym (nodes_joined (blocks ch) (blocks nx)))

pub blocks_named : (p b : Label) (f : Forest) → KeysRise p b f → AllByRecursion Named (blocks f)
blocks_named p b none w = tt
blocks_named p b (node l r ats ch nx) w = (w.3, all_append Named (blocks ch) (blocks nx) (blocks_named l l ch w.4) (blocks_named p l nx w.5))

-- ---- what lies behind a node's attributes

-- a node that lies above another one by its key does so by its label
label_later : (c d : Label) → key_cmp (node_key c) (node_key d) ≡ Less → Later c d
label_later c d h = elim (slice_cmp nat_cmp c d) as (λ (o : Ordering). ordering_then o Equal ≡ Less → o ≡ Less) [
  | Less ↦ λ _. refl
  | Equal ↦ λ g. g
  | Greater ↦ λ g. g
] h

blocks_later : (c : Label) (bs : List Block) → AllByRecursion (Above (node_key c)) (flat bs) → AllByRecursion (Labelled (Later c)) (flat bs)
blocks_later c [] h = tt
blocks_later c (b ∷ bs) h =
    all_append (Labelled (Later c)) (own b.0 b.1 b.2) (flat bs)
    (own_all (Later c) b.0 b.1 b.2 (label_later c b.0 h.0))
    (blocks_later c bs (all_behind (Above (node_key c)) (own b.0 b.1 b.2) (flat bs) h))

-- ---- the walk

-- so many of what lies under a node were met, and this entry comes next: the nodes that are left, and what lies behind them
pub record Descent (l : Label) (es : Entries) (whole out : List Position) (next : Option (Key × Record)) : Type 0 where
  pub left : List Block
  pub before : Entries
  pub tail : Entries
  pub split : es ≡ before ++ (flat left ++ tail)
  pub gathered : out ++ nodes_in left ≡ whole
  pub comes : next ≡ head_of (flat left ++ tail)
  pub named : AllByRecursion Named left
  pub inside : AllByRecursion (Labelled (SideIs l under)) (flat left)
  pub outside : AllByRecursion (Labelled (SideIs l right)) tail

pub descent_begins : (l m : Label) (r : Record) (ats : Attributes) (ch nx : Forest) (t : Tree) → IsValidTree t → at l t.documents ≡ node m r ats ch nx
    → Descent l (map_of t) (all_seen ch) [] (first_above (behind_attributes l) (map_of t))
descent_begins l m r ats ch nx t w e =
    let p = up l root t.documents in
    let z = lies_in_tree l m r ats ch nx t w e in
    let tail = entries_of nx ++ z.after in
    let prefix = z.before ++ own l r ats in
    record {
      left = blocks ch;
      before = prefix;
      tail = tail;
      split = z.whole ∙ append_assoc prefix (entries_of ch) tail ∙ ap (λ es. prefix ++ (es ++ tail)) (blocks_flat ch);
      gathered = sym (blocks_seen ch);
      comes = first_entry p l r ats ch nx (map_of t) z ∙ ap (λ es. head_of (es ++ tail)) (blocks_flat ch);
      named = blocks_named l l ch z.children;
      inside = subst (AllByRecursion (Labelled (SideIs l under))) (blocks_flat ch) (all_under l l ch z.children);
      outside = behind_right p l r ats ch nx (map_of t) z;
    }

-- what comes next and doesn't lie under the node ends the walk
pub descent_ends : (l : Label) (es : Entries) (whole out : List Position) (next : Option (Key × Record)) → Descent l es whole out next → is_below l next ≡ false → out ≡ whole
descent_ends l es whole out next w h = by w.left w.gathered w.inside (ap (is_below l) (sym w.comes) ∙ h)
  where
    by : (bs : List Block) → out ++ nodes_in bs ≡ whole → AllByRecursion (Labelled (SideIs l under)) (flat bs) → is_below l (head_of (flat bs ++ w.tail)) ≡ false → out ≡ whole
    by [] g k q = sym (append-nil out) ∙ g
    by (b ∷ bs) g k q = absurd (true≢false (sym (ap is_under k.0) ∙ q))

-- what comes next and lies under the node is the next node's own entry; the walk goes on behind that node's attributes
pub record GoesDown (l : Label) (es : Entries) (whole out : List Position) (e : Key × Record) : Type 0 where
  pub label : Label
  pub record_there : Record
  pub entry : e ≡ (node_key label, record_there)
  pub on : Descent l es whole (out ++ a_node label record_there ∷ []) (first_above (behind_attributes label) es)

module _ (c : Label) (r : Record) (ats : Attributes) (l : Label) (before : Entries) (bs : List Block) (tail es : Entries) (sorted : Sorted es) (split : es ≡ before ++ ((own c r ats ++ flat bs) ++ tail))
    (named : NamesRise [] ats) (within : side l c ≡ under) (outside : AllByRecursion (Labelled (SideIs l right)) tail) where
  cut : es ≡ (before ++ own c r ats) ++ (flat bs ++ tail)
  cut = split ∙ simp append_assoc refl

  abbrev rest : Entries
  rest = (map (attr_entry c) ats ++ flat bs) ++ tail

  in_order : Sorted (before ++ ((node_key c, r) ∷ rest))
  in_order = subst Sorted split sorted

  lows : AllByRecursion (Below (behind_attributes c)) (before ++ own c r ats)
  lows = all_append (Below (behind_attributes c)) before (own c r ats)
      (all_on (Below (node_key c)) (Below (behind_attributes c)) (λ x h. key_total.trans x.0 (node_key c) (behind_attributes c) h (own_below_top c r ats named).0) before
      (sorted_below before rest (node_key c, r) in_order))
      (own_below_top c r ats named)

  above_all : AllByRecursion (Above (node_key c)) rest
  above_all = (sorted_behind before ((node_key c, r) ∷ rest) in_order).0

  above_left : AllByRecursion (Above (node_key c)) (flat bs)
  above_left = all_behind (Above (node_key c)) (map (attr_entry c) ats) (flat bs) (all_before (Above (node_key c)) (map (attr_entry c) ats ++ flat bs) tail above_all)

  highs : AllByRecursion (Above (behind_attributes c)) (flat bs ++ tail)
  highs = all_append (Above (behind_attributes c)) (flat bs) tail
      (all_on (Labelled (Later c)) (Above (behind_attributes c)) (λ x h. later_above c top_name x h) (flat bs) (blocks_later c bs above_left))
      (all_on (Labelled (SideIs l right)) (Above (behind_attributes c))
      (λ x h. later_above c top_name x (right_before c x.0.label (right_within l x.0.label c x.0.label h (under_in l c within) (ap is_in (side_itself x.0.label))))) tail outside)

  pub next_node : first_above (behind_attributes c) es ≡ head_of (flat bs ++ tail)
  next_node =
      ap (first_above (behind_attributes c)) cut
      ∙ first_above_past (behind_attributes c) (before ++ own c r ats) (flat bs ++ tail) lows
      ∙ first_above_head (behind_attributes c) (flat bs ++ tail) highs

pub descent_goes : (l : Label) (es : Entries) (whole out : List Position) (next : Option (Key × Record)) → Sorted es → Descent l es whole out next
    → (e : Key × Record) → next ≡ Some e → is_under (side l e.0.label) ≡ true → GoesDown l es whole out e
descent_goes l es whole out next s w e is y = by w.left w.split w.gathered w.named w.inside (sym is ∙ w.comes)
  where
    by : (bs : List Block) → es ≡ w.before ++ (flat bs ++ w.tail) → out ++ nodes_in bs ≡ whole → AllByRecursion Named bs → AllByRecursion (Labelled (SideIs l under)) (flat bs)
        → Some e ≡ head_of (flat bs ++ w.tail) → GoesDown l es whole out e
    by [] d g n k q = absurd (true≢false (sym y ∙ ap (is_below l) q ∙ none_below l w.tail w.outside))
    by (b ∷ bs) d g n k q = record {
      label = b.0;
      record_there = b.1;
      entry = some_is e (node_key b.0, b.1) q;
      on = record {
        left = bs;
        before = w.before ++ own b.0 b.1 b.2;
        tail = w.tail;
        split = cut b.0 b.1 b.2 l w.before bs w.tail es s d n.0 k.0 w.outside;
        gathered = append_assoc out (a_node b.0 b.1 ∷ []) (nodes_in bs) ∙ g;
        comes = next_node b.0 b.1 b.2 l w.before bs w.tail es s d n.0 k.0 w.outside;
        named = n.1;
        inside = all_behind (Labelled (SideIs l under)) (own b.0 b.1 b.2) (flat bs) k;
        outside = w.outside;
      };
    }

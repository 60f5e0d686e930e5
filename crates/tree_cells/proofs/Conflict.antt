-- Where one covers a cell for reading and another one covers it for writing, they bar each other.
use Rattle.std.proofs.Common.{◌≡◌, ℕ, Bool, true, false, not, ◌&&◌, ◌||◌, nat_le, List, [], ◌∷◌, ◌++◌, Option, None, Some, Less, Equal, Greater, nat_cmp, is_eq, refl, sym, ap, subst, ◌∙◌, append_assoc, true≢false, ◌⊎◌, inl, inr, ⊎_elim}
use Rattle.dewey_labels.specs.Labels.{Label, is_child}
use Rattle.dewey_labels.specs.Sides.{Side as Place, turn, side, is_in, is_under}
use Rattle.dewey_labels.proofs.Sides.{same_is, side_itself}
use Rattle.dewey_labels.proofs.Labels.{parent_of_child}
use Rattle.lock_modes.specs.declared.part.ReadPart.{ReadPart}
use Rattle.lock_modes.specs.declared.part.ReadPart.TheVariants as read
use Rattle.lock_modes.specs.declared.part.WritePart.{WritePart}
use Rattle.lock_modes.specs.declared.part.WritePart.TheVariants as write
use Rattle.lock_modes.specs.declared.ask.Ask.{Ask}
use Rattle.lock_modes.specs.declared.ask.Ask.TheVariants as ask
use Rattle.lock_modes.specs.declared.edge_mode.EdgeMode.TheVariants.{ER, EX}
use Rattle.lock_modes.specs.Parts.{read_rank, write_rank, admits}
use Rattle.lock_modes.specs.Modes.{Parts, parts, compatible}
use Rattle.lock_modes.specs.Modes as modes
use Rattle.lock_resources.specs.declared.resource.Side.{Side}
use Rattle.lock_resources.specs.declared.resource.Side.TheVariants.{First, Last, Next, Prev}
use Rattle.lock_resources.specs.declared.resource.Resource.{Resource}
use Rattle.lock_resources.specs.declared.resource.Resource.TheVariants.{Node, AttrRoot, Attr, Edge}
use Rattle.lock_resources.specs.declared.request.Request.{Request}
use Rattle.lock_resources.specs.Resources.{asks_node}
use Rattle.lock_resources.specs.Intentions.{request}
use Rattle.tree_model.specs.ValidTrees.{same_label}
use Rattle.tree_model.proofs.EntryLimits.{list_itself}
use Rattle.tree_model.proofs.StoredCatalogues.{same_label_is}
use Rattle.tree_cells.specs.Cells.{Cell, node_cell, attr_cell, edge_cell}
use Rattle.tree_cells.specs.Covers
use Rattle.tree_cells.specs.Covers.{some_of, reads, writes}
use Rattle.tree_cells.specs.ModeParts.{part_reads, reads_node, reads_level, reads_subtree, reads_edge, is_none, is_exclusive, part_changes_child, changes_child, part_changes_below, changes_below, changes_edge}
use Rattle.tree_cells.specs.Places.{same_side, has_row_of}
use Rattle.tree_cells.specs.Forms.{at_node, at_attributes, is_intention, HeldDownTo, HasIntentions, IsFormed, FormedBehind, HasForm}
use Rattle.tree_cells.specs.Clashes.{same_resource, are_compatible, bar_each_other}
use Rattle.tree_cells.specs.Clashes.{clash}
use Rattle.tree_cells.proofs.Coverage.{either, both, and_both, or_first, some_left, some_right, some_more}
use Rattle.tree_cells.proofs.Insertions.{parent_in, under_is_in}

-- ---- the tables of modes

go_none : (p : Option Parts) → modes.go_together p None ≡ false
go_none None = refl
go_none (Some p) = refl

exclusive_bars : (a b : Ask) → is_exclusive b ≡ true → are_compatible a b ≡ false
exclusive_bars (ask.Node m) (ask.Node n) e = by (parts n) e
  where
    by : (o : Option Parts) → is_none o ≡ true → modes.go_together (parts m) o ≡ false
    by None e = go_none (parts m)
    by (Some p) e = absurd (true≢false (sym e))
exclusive_bars (ask.Node m) (ask.Edge n) e = refl
exclusive_bars (ask.Edge m) (ask.Node n) e = refl
exclusive_bars (ask.Edge m) (ask.Edge n) e = absurd (true≢false (sym e))

exclusive_bars_too : (a b : Ask) → is_exclusive a ≡ true → are_compatible a b ≡ false
exclusive_bars_too (ask.Node m) (ask.Node n) e = by (parts m) e
  where
    by : (o : Option Parts) → is_none o ≡ true → modes.go_together o (parts n) ≡ false
    by None e = refl
    by (Some p) e = absurd (true≢false (sym e))
exclusive_bars_too (ask.Node m) (ask.Edge n) e = refl
exclusive_bars_too (ask.Edge m) b e = absurd (true≢false (sym e))

-- parts that read a level, or a subtree, beside parts that change a child, or something below
level_parts : (p q : Option Parts) → part_reads read.L p ≡ true → part_changes_child q ≡ true → modes.go_together p q ≡ false
level_parts None q e h = refl
level_parts (Some p) None e h = refl
level_parts (Some p) (Some q) e h = by p.0 p.1 q.0 q.1 e h
  where
    by : (r : ReadPart) (w : WritePart) (s : ReadPart) (x : WritePart) → nat_le (read_rank read.L) (read_rank r) ≡ true → nat_le (write_rank write.CX) (write_rank x) ≡ true → (admits w s && admits x r) ≡ false
    by read.I w s x e h = absurd (true≢false (sym e))
    by read.N w s x e h = absurd (true≢false (sym e))
    by r w s write.NoWrite e h = absurd (true≢false (sym h))
    by r w s write.IX e h = absurd (true≢false (sym h))
    by read.L w s write.CX e h = no_and (admits w s)
      where
        no_and : (b : Bool) → (b && false) ≡ false
        no_and true = refl
        no_and false = refl
    by read.S w s write.CX e h = no_and (admits w s)
      where
        no_and : (b : Bool) → (b && false) ≡ false
        no_and true = refl
        no_and false = refl

subtree_parts : (p q : Option Parts) → part_reads read.S p ≡ true → part_changes_below q ≡ true → modes.go_together p q ≡ false
subtree_parts None q e h = refl
subtree_parts (Some p) None e h = refl
subtree_parts (Some p) (Some q) e h = by p.0 p.1 q.0 q.1 e h
  where
    no_and : (b : Bool) → (b && false) ≡ false
    no_and true = refl
    no_and false = refl

    by : (r : ReadPart) (w : WritePart) (s : ReadPart) (x : WritePart) → nat_le (read_rank read.S) (read_rank r) ≡ true → nat_le (write_rank write.IX) (write_rank x) ≡ true → (admits w s && admits x r) ≡ false
    by read.I w s x e h = absurd (true≢false (sym e))
    by read.N w s x e h = absurd (true≢false (sym e))
    by read.L w s x e h = absurd (true≢false (sym e))
    by read.S w s write.NoWrite e h = absurd (true≢false (sym h))
    by read.S w s write.IX e h = no_and (admits w s)
    by read.S w s write.CX e h = no_and (admits w s)

level_bars : (a b : Ask) → reads_level a ≡ true → changes_child b ≡ true → are_compatible a b ≡ false
level_bars (ask.Node m) (ask.Node n) e h = level_parts (parts m) (parts n) e h
level_bars (ask.Node m) (ask.Edge n) e h = refl
level_bars (ask.Edge m) b e h = absurd (true≢false (sym e))

subtree_bars : (a b : Ask) → reads_subtree a ≡ true → changes_below b ≡ true → are_compatible a b ≡ false
subtree_bars (ask.Node m) (ask.Node n) e h = subtree_parts (parts m) (parts n) e h
subtree_bars (ask.Node m) (ask.Edge n) e h = refl
subtree_bars (ask.Edge m) b e h = absurd (true≢false (sym e))

edge_bars : (a b : Ask) → reads_edge a ≡ true → changes_edge b ≡ true → are_compatible a b ≡ false
edge_bars (ask.Node m) b e h = absurd (true≢false (sym e))
edge_bars (ask.Edge m) (ask.Node n) e h = refl
edge_bars (ask.Edge m) (ask.Edge ER) e h = absurd (true≢false (sym h))
edge_bars (ask.Edge ER) (ask.Edge EX) e h = refl
edge_bars (ask.Edge EX) (ask.Edge EX) e h = refl

part_level : (r : ReadPart) → nat_le (read_rank read.S) (read_rank r) ≡ true → nat_le (read_rank read.L) (read_rank r) ≡ true
part_level read.I e = absurd (true≢false (sym e))
part_level read.N e = absurd (true≢false (sym e))
part_level read.L e = refl
part_level read.S e = refl

subtree_is_level : (a : Ask) → reads_subtree a ≡ true → reads_level a ≡ true
subtree_is_level (ask.Node m) e = by (parts m) e
  where
    by : (o : Option Parts) → part_reads read.S o ≡ true → part_reads read.L o ≡ true
    by None e = refl
    by (Some p) e = part_level p.0 e
subtree_is_level (ask.Edge m) e = absurd (true≢false (sym e))

exclusive_is_below : (a : Ask) → is_exclusive a ≡ true → changes_below a ≡ true
exclusive_is_below (ask.Node m) e = by (parts m) e
  where
    by : (o : Option Parts) → is_none o ≡ true → part_changes_below o ≡ true
    by None e = refl
    by (Some p) e = absurd (true≢false (sym e))
exclusive_is_below (ask.Edge m) e = absurd (true≢false (sym e))

pub child_is_below : (a : Ask) → changes_child a ≡ true → changes_below a ≡ true
child_is_below (ask.Node m) e = by (parts m) e
  where
    part : (x : WritePart) → nat_le (write_rank write.CX) (write_rank x) ≡ true → nat_le (write_rank write.IX) (write_rank x) ≡ true
    part write.NoWrite e = absurd (true≢false (sym e))
    part write.IX e = refl
    part write.CX e = refl

    by : (o : Option Parts) → part_changes_child o ≡ true → part_changes_below o ≡ true
    by None e = refl
    by (Some p) e = part p.1 e
child_is_below (ask.Edge m) e = absurd (true≢false (sym e))

pub below_is_node : (a : Ask) → changes_below a ≡ true → asks_node a ≡ true
below_is_node (ask.Node m) e = refl
below_is_node (ask.Edge m) e = absurd (true≢false (sym e))

intended : (b : Bool) (a : Ask) → is_intention b a ≡ true → asks_node a ≡ true
intended true a e = below_is_node a e
intended false a e = e

-- ---- where labels lie

comparable : (a b l : Label) → is_in (side a l) ≡ true → is_in (side b l) ≡ true → (is_in (side b a) ≡ true) ⊎ (is_under (side a b) ≡ true)
comparable [] [] l e h = inl refl
comparable [] (y ∷ b) l e h = inr refl
comparable (x ∷ a) [] l e h = inl refl
comparable (x ∷ a) (y ∷ b) [] e h = absurd (true≢false (sym e))
comparable (x ∷ a) (y ∷ b) (z ∷ l) e h = by (nat_cmp z x) (nat_cmp z y) refl refl e h (comparable a b l)
  where
    equal : (u v : ℕ) → nat_cmp u v ≡ Equal → u ≡ v
    equal = Rattle.dewey_labels.proofs.Sides.equal_is

    here : (i j : ℕ) → i ≡ j → nat_cmp i j ≡ Equal
    here i j q = subst (λ k. nat_cmp i k ≡ Equal) q (Rattle.dewey_labels.proofs.Sides.cmp_itself i)

    by : (o p : Rattle.std.specs.declared.cmp.Ordering.Ordering) → nat_cmp z x ≡ o → nat_cmp z y ≡ p → is_in (turn o (side a l)) ≡ true → is_in (turn p (side b l)) ≡ true
        → (is_in (side a l) ≡ true → is_in (side b l) ≡ true → (is_in (side b a) ≡ true) ⊎ (is_under (side a b) ≡ true))
        → (is_in (turn (nat_cmp x y) (side b a)) ≡ true) ⊎ (is_under (turn (nat_cmp y x) (side a b)) ≡ true)
    by Less p q r e h rec = absurd (true≢false (sym e))
    by Greater p q r e h rec = absurd (true≢false (sym e))
    by Equal Less q r e h rec = absurd (true≢false (sym h))
    by Equal Greater q r e h rec = absurd (true≢false (sym h))
    by Equal Equal q r e h rec = ⊎_elim
        (λ k. inl (ap (λ o. is_in (turn o (side b a))) (here x y (sym (equal z x q) ∙ equal z y r)) ∙ k))
        (λ k. inr (ap (λ o. is_under (turn o (side a b))) (here y x (sym (equal z y r) ∙ equal z x q)) ∙ k))
        (rec e h)

-- in a label: it, or above it
pub in_cases : (a l : Label) → is_in (side a l) ≡ true → (a ≡ l) ⊎ (is_under (side a l) ≡ true)
in_cases a l e = elim (side a l) as (λ s. side a l ≡ s → is_in s ≡ true → (a ≡ l) ⊎ (is_under s ≡ true)) [
  | Place.above ↦ λ _ h. absurd (true≢false (sym h))
  | Place.left ↦ λ _ h. absurd (true≢false (sym h))
  | Place.same ↦ λ q _. inl (sym (same_is a l q))
  | Place.under ↦ λ _ _. inr refl
  | Place.right ↦ λ _ h. absurd (true≢false (sym h))
] refl e

pub under_is : (s : Place) → is_under s ≡ true → s ≡ Place.under
under_is Place.above e = absurd (true≢false (sym e))
under_is Place.left e = absurd (true≢false (sym e))
under_is Place.same e = absurd (true≢false (sym e))
under_is Place.under e = refl
under_is Place.right e = absurd (true≢false (sym e))

-- ---- a request of a list, with what stands before it

pub intentions_grow : (gs hs : List Request) → ((p : Resource → Ask → Bool) → some_of p gs ≡ true → some_of p hs ≡ true) → (r : Resource) (a : Ask) → HasIntentions gs r a → HasIntentions hs r a
intentions_grow gs hs grow (Node l) a s = record { above = λ b i u. grow _ (s.above b i u); parent = λ e b i c. grow _ (s.parent e b i c) }
intentions_grow gs hs grow (AttrRoot l) a s = λ b i u. grow _ (s b i u)
intentions_grow gs hs grow (Attr l n) a s = record { above = λ b i u. grow _ (s.above b i u); attributes = λ e. grow _ (s.attributes e) }
intentions_grow gs hs grow (Edge l r) a s = λ b i u. grow _ (s b i u)

pub formed_under : (gs hs : List Request) → ((p : Resource → Ask → Bool) → some_of p gs ≡ true → some_of p hs ≡ true) → (r : Resource) (a : Ask) → IsFormed gs r a → IsFormed hs r a
formed_under gs hs grow r a s = record { label = s.label; fits = s.fits; intentions = intentions_grow gs hs grow r a s.intentions }

record Picked (p : Resource → Ask → Bool) (gs : List Request) : Type 0 where
  resource : Resource
  ask : Ask
  is : p resource ask ≡ true
  within : (q : Resource → Ask → Bool) → q resource ask ≡ true → some_of q gs ≡ true
  formed : IsFormed gs resource ask

pick_behind : (p : Resource → Ask → Bool) (before gs : List Request) → FormedBehind before gs → some_of p gs ≡ true → Picked p (before ++ gs)
pick_behind p before [] f e = absurd (true≢false (sym e))
pick_behind p before (g ∷ gs) f e = ⊎_elim
    (λ h. record { resource = g.resource; ask = g.ask; is = h; within = λ q k. some_right q before (g ∷ gs) (or_first (q g.resource g.ask) (some_of q gs) k); formed = formed_under before (before ++ g ∷ gs) (λ q k. some_left q before (g ∷ gs) k) g.resource g.ask f.0 })
    (λ h. subst (Picked p) (append_assoc before (g ∷ []) gs) (pick_behind p (before ++ g ∷ []) gs f.1 h))
    (either (p g.resource g.ask) (some_of p gs) e)

pick : (p : Resource → Ask → Bool) (gs : List Request) → HasForm gs → some_of p gs ≡ true → Picked p gs
pick p gs f e = pick_behind p [] gs f e

-- two requests of which one clashes with the other
abbrev clashes : Resource → Ask → Resource → Ask → Bool
clashes r a s b = clash (request r a) (request s b)

-- some request of the one list clashes with one of the other
meets : (p q : Resource → Ask → Bool) (gs hs : List Request) → ((r : Resource) (a : Ask) (s : Resource) (b : Ask) → p r a ≡ true → q s b ≡ true → clashes r a s b ≡ true) → some_of p gs ≡ true → some_of q hs ≡ true → bar_each_other gs hs ≡ true
meets p q gs hs off e h = some_more p (λ r a. some_of (clashes r a) hs) gs (λ r a k. some_more q (clashes r a) hs (λ s b m. off r a s b k m) h) e

-- at one node
at_one_node : (l : Label) (p q : Ask → Bool) → ((a b : Ask) → p a ≡ true → q b ≡ true → are_compatible a b ≡ false) → (r : Resource) (a : Ask) (s : Resource) (b : Ask) → at_node l p r a ≡ true → at_node l q s b ≡ true → clashes r a s b ≡ true
at_one_node l p q off (Node x) a (Node y) b e h =
    let k = both (same_label x l) (p a) e in
    let m = both (same_label y l) (q b) h in
    and_both (same_label x y) (not (are_compatible a b)) (subst (λ z. same_label x z ≡ true) (same_label_is x l k.0 ∙ sym (same_label_is y l m.0)) (ap is_eq (list_itself x))) (ap not (off a b k.1 m.1))
at_one_node l p q off (Node x) a (AttrRoot y) b e h = absurd (true≢false (sym h))
at_one_node l p q off (Node x) a (Attr y n) b e h = absurd (true≢false (sym h))
at_one_node l p q off (Node x) a (Edge y n) b e h = absurd (true≢false (sym h))
at_one_node l p q off (AttrRoot x) a s b e h = absurd (true≢false (sym e))
at_one_node l p q off (Attr x n) a s b e h = absurd (true≢false (sym e))
at_one_node l p q off (Edge x n) a s b e h = absurd (true≢false (sym e))

at_one_root : (l : Label) (p q : Ask → Bool) → ((a b : Ask) → p a ≡ true → q b ≡ true → are_compatible a b ≡ false) → (r : Resource) (a : Ask) (s : Resource) (b : Ask) → at_attributes l p r a ≡ true → at_attributes l q s b ≡ true → clashes r a s b ≡ true
at_one_root l p q off (AttrRoot x) a (AttrRoot y) b e h =
    let k = both (same_label x l) (p a) e in
    let m = both (same_label y l) (q b) h in
    and_both (same_label x y) (not (are_compatible a b)) (subst (λ z. same_label x z ≡ true) (same_label_is x l k.0 ∙ sym (same_label_is y l m.0)) (ap is_eq (list_itself x))) (ap not (off a b k.1 m.1))
at_one_root l p q off (AttrRoot x) a (Node y) b e h = absurd (true≢false (sym h))
at_one_root l p q off (AttrRoot x) a (Attr y n) b e h = absurd (true≢false (sym h))
at_one_root l p q off (AttrRoot x) a (Edge y n) b e h = absurd (true≢false (sym h))
at_one_root l p q off (Node x) a s b e h = absurd (true≢false (sym e))
at_one_root l p q off (Attr x n) a s b e h = absurd (true≢false (sym e))
at_one_root l p q off (Edge x n) a s b e h = absurd (true≢false (sym e))

-- a request that stands in a list, with its intentions
record Grant (gs : List Request) (r : Resource) (a : Ask) : Type 0 where
  within : (q : Resource → Ask → Bool) → q r a ≡ true → some_of q gs ≡ true
  formed : IsFormed gs r a

self : (l : Label) → same_label l l ≡ true
self l = ap is_eq (list_itself l)

held : (gs : List Request) (a : Label) (m : Ask) (q : Ask → Bool) → Grant gs (Node a) m → q m ≡ true → some_of (at_node a q) gs ≡ true
held gs a m q g e = g.within (at_node a q) (and_both (same_label a a) (q m) (self a) e)

-- gs reads and hs writes
module _ (gs hs : List Request) where
  -- two modes at one node
  clash_at : (a : Label) (p q : Ask → Bool) → ((x y : Ask) → p x ≡ true → q y ≡ true → are_compatible x y ≡ false) → some_of (at_node a p) gs ≡ true → some_of (at_node a q) hs ≡ true → bar_each_other gs hs ≡ true
  clash_at a p q off = meets (at_node a p) (at_node a q) gs hs (at_one_node a p q off)

  -- a subtree is taken over a node that is read in any way
  touch : (a b : Label) (m n : Ask) → Grant gs (Node a) m → Grant hs (Node b) n → is_exclusive n ≡ true → is_in (side b a) ≡ true → bar_each_other gs hs ≡ true
  touch a b m n g h e i = ⊎_elim
      (λ same. clash_at b (λ x. true) is_exclusive (λ x y _ k. exclusive_bars x y k) (subst (λ z. some_of (at_node z (λ x. true)) gs ≡ true) (sym same) (held gs a m (λ x. true) g refl)) (held hs b n is_exclusive h e))
      (λ under. clash_at b (is_intention (changes_below m)) is_exclusive (λ x y _ k. exclusive_bars x y k) (g.formed.intentions.above b h.formed.label under) (held hs b n is_exclusive h e))
      (in_cases b a i)

  -- a subtree is read, and one below it is taken
  over : (a b : Label) (m n : Ask) → Grant gs (Node a) m → reads_subtree m ≡ true → Grant hs (Node b) n → is_exclusive n ≡ true → is_under (side a b) ≡ true → bar_each_other gs hs ≡ true
  over a b m n g r h e u = clash_at a reads_subtree changes_below subtree_bars (held gs a m reads_subtree g r) (subst (λ z. some_of (at_node a (is_intention z)) hs ≡ true) (exclusive_is_below n e) (h.formed.intentions.above a g.formed.label u))

  subtrees : (l a b : Label) (m n : Ask) → Grant gs (Node a) m → reads_subtree m ≡ true → Grant hs (Node b) n → is_exclusive n ≡ true → is_in (side a l) ≡ true → is_in (side b l) ≡ true → bar_each_other gs hs ≡ true
  subtrees l a b m n g r h e i j = ⊎_elim (λ k. touch a b m n g h e k) (λ k. over a b m n g r h e k) (comparable a b l i j)

  -- a level is read, and the subtree of one of its nodes, or one above, is taken
  level : (l a b : Label) (m n : Ask) → Grant gs (Node a) m → reads_level m ≡ true → is_child a l ≡ true → Grant hs (Node b) n → is_exclusive n ≡ true → is_in (side b l) ≡ true → bar_each_other gs hs ≡ true
  level l a b m n g r c h e i = ⊎_elim
      (λ same. clash_at a reads_level changes_child level_bars (held gs a m reads_level g r) (h.formed.intentions.parent e a g.formed.label (subst (λ z. is_child a z ≡ true) (sym same) c)))
      (λ under. touch a b m n g h e (parent_in b a l h.formed.label g.formed.label c (under_is (side b l) under)))
      (in_cases b l i)

  -- a child of a node whose level, or subtree above it, is read may be changed
  row_level : (a : Label) (m n : Ask) → Grant gs (Node a) m → reads_level m ≡ true → Grant hs (Node a) n → changes_child n ≡ true → bar_each_other gs hs ≡ true
  row_level a m n g r h e = clash_at a reads_level changes_child level_bars (held gs a m reads_level g r) (held hs a n changes_child h e)

  row_subtree : (a c : Label) (m n : Ask) → Grant gs (Node a) m → reads_subtree m ≡ true → Grant hs (Node c) n → changes_child n ≡ true → is_in (side a c) ≡ true → bar_each_other gs hs ≡ true
  row_subtree a c m n g r h e i = ⊎_elim
      (λ same. row_level a m n g (subtree_is_level m r) (subst (λ z. Grant hs (Node z) n) (sym same) h) e)
      (λ under. clash_at a reads_subtree changes_below subtree_bars (held gs a m reads_subtree g r) (subst (λ z. some_of (at_node a (is_intention z)) hs ≡ true) (child_is_below n e) (h.formed.intentions.above a g.formed.label under)))
      (in_cases a c i)

  -- below a node whose subtree is taken something is read
  reach : (l b : Label) (n : Ask) (p : Ask → Bool) → HeldDownTo gs l p → Grant hs (Node b) n → is_exclusive n ≡ true → is_in (side b l) ≡ true → bar_each_other gs hs ≡ true
  reach l b n p down h e i = clash_at b p is_exclusive (λ x y _ k. exclusive_bars x y k) (down b h.formed.label i) (held hs b n is_exclusive h e)

  -- the writer's subtree against who reads an edge from a node
  inner_tree : (l a : Label) (m : Ask) (b : Label) (n : Ask) → Grant gs (Node a) m → ((same_label a l && reads_level m) || (is_in (side a l) && reads_subtree m)) ≡ true → Grant hs (Node b) n → is_exclusive n ≡ true → is_in (side b l) ≡ true → bar_each_other gs hs ≡ true
  inner_tree l a m b n g e h k i = ⊎_elim
      (λ s. let q = both (same_label a l) (reads_level m) s in touch a b m n g h k (subst (λ z. is_in (side b z) ≡ true) (sym (same_label_is a l q.0)) i))
      (λ s. let q = both (is_in (side a l)) (reads_subtree m) s in subtrees l a b m n g q.1 h k q.0 i)
      (either (same_label a l && reads_level m) (is_in (side a l) && reads_subtree m) e)

  outer_tree : (l a : Label) (m : Ask) (b : Label) (n : Ask) → Grant gs (Node a) m → ((same_label a l && is_exclusive m) || ((is_child a l && reads_level m) || (is_under (side a l) && reads_subtree m))) ≡ true → Grant hs (Node b) n → is_exclusive n ≡ true → is_in (side b l) ≡ true → bar_each_other gs hs ≡ true
  outer_tree l a m b n g e h k i = ⊎_elim
      (λ s. let q = both (same_label a l) (is_exclusive m) s in touch a b m n g h k (subst (λ z. is_in (side b z) ≡ true) (sym (same_label_is a l q.0)) i))
      (λ o. ⊎_elim
      (λ s. let q = both (is_child a l) (reads_level m) s in level l a b m n g q.1 q.0 h k i)
      (λ s. let q = both (is_under (side a l)) (reads_subtree m) s in subtrees l a b m n g q.1 h k (under_is_in (side a l) q.0) i)
      (either (is_child a l && reads_level m) (is_under (side a l) && reads_subtree m) o))
      (either (same_label a l && is_exclusive m) ((is_child a l && reads_level m) || (is_under (side a l) && reads_subtree m)) e)

  -- the writer's subtree against each reader
  against_tree : (x : Cell) (r : Resource) (m : Ask) (b : Label) (n : Ask) → Grant gs r m → Covers.reads_from r m x ≡ true → Grant hs (Node b) n → is_exclusive n ≡ true → is_in (side b (Covers.label_of x)) ≡ true → bar_each_other gs hs ≡ true
  against_tree (node_cell l) (Node a) m b n g e h k i = ⊎_elim
      (λ s. let q = both (same_label a l) (reads_node m) s in touch a b m n g h k (subst (λ z. is_in (side b z) ≡ true) (sym (same_label_is a l q.0)) i))
      (λ o. ⊎_elim
      (λ s. let q = both (is_child a l) (reads_level m) s in level l a b m n g q.1 q.0 h k i)
      (λ s. let q = both (is_in (side a l)) (reads_subtree m) s in subtrees l a b m n g q.1 h k q.0 i)
      (either (is_child a l && reads_level m) (is_in (side a l) && reads_subtree m) o))
      (either (same_label a l && reads_node m) ((is_child a l && reads_level m) || (is_in (side a l) && reads_subtree m)) e)
  against_tree (attr_cell l k) (Node a) m b n g e h x i = let q = both (is_in (side a l)) (reads_subtree m) e in subtrees l a b m n g q.1 h x q.0 i
  against_tree (edge_cell l First) (Node a) m b n g e h x i = inner_tree l a m b n g e h x i
  against_tree (edge_cell l Last) (Node a) m b n g e h x i = inner_tree l a m b n g e h x i
  against_tree (edge_cell l Next) (Node a) m b n g e h x i = outer_tree l a m b n g e h x i
  against_tree (edge_cell l Prev) (Node a) m b n g e h x i = outer_tree l a m b n g e h x i
  against_tree (attr_cell l k) (AttrRoot a) m b n g e h x i = let q = both (same_label a l) (reads_level m) e in reach a b n asks_node g.formed.intentions h x (subst (λ z. is_in (side b z) ≡ true) (sym (same_label_is a l q.0)) i)
  against_tree (node_cell l) (AttrRoot a) m b n g e h x i = absurd (true≢false (sym e))
  against_tree (edge_cell l s) (AttrRoot a) m b n g e h x i = absurd (true≢false (sym e))
  against_tree (attr_cell l k) (Attr a j) m b n g e h x i = let q = both (same_label a l && same_label j k) (reads_node m) e in reach a b n (is_intention (is_exclusive m)) g.formed.intentions.above h x (subst (λ z. is_in (side b z) ≡ true) (sym (same_label_is a l (both (same_label a l) (same_label j k) q.0).0)) i)
  against_tree (node_cell l) (Attr a j) m b n g e h x i = absurd (true≢false (sym e))
  against_tree (edge_cell l s) (Attr a j) m b n g e h x i = absurd (true≢false (sym e))
  against_tree (edge_cell l s) (Edge a r) m b n g e h x i = let q = both (same_label a l && same_side r s) (reads_edge m) e in reach a b n asks_node g.formed.intentions h x (subst (λ z. is_in (side b z) ≡ true) (sym (same_label_is a l (both (same_label a l) (same_side r s) q.0).0)) i)
  against_tree (node_cell l) (Edge a r) m b n g e h x i = absurd (true≢false (sym e))
  against_tree (attr_cell l k) (Edge a r) m b n g e h x i = absurd (true≢false (sym e))

  -- an attribute that is written by itself
  against_attribute : (l k : List ℕ) (r : Resource) (m : Ask) (b j : List ℕ) (n : Ask) → Grant gs r m → Covers.reads_from r m (attr_cell l k) ≡ true → Grant hs (Attr b j) n → is_exclusive n ≡ true → same_label b l ≡ true → same_label j k ≡ true → bar_each_other gs hs ≡ true
  against_attribute l k (Node a) m b j n g e h x s t =
      let q = both (is_in (side a l)) (reads_subtree m) e in
      clash_at a reads_subtree changes_below subtree_bars (held gs a m reads_subtree g q.1) (subst (λ z. some_of (at_node a (is_intention z)) hs ≡ true) x (h.formed.intentions.above a g.formed.label (subst (λ z. is_in (side a z) ≡ true) (sym (same_label_is b l s)) q.0)))
  against_attribute l k (AttrRoot a) m b j n g e h x s t =
      let q = both (same_label a l) (reads_level m) e in
      meets (at_attributes a reads_level) (at_attributes a changes_child) gs hs (at_one_root a reads_level changes_child level_bars)
      (g.within (at_attributes a reads_level) (and_both (same_label a a) (reads_level m) (self a) q.1))
      (subst (λ z. some_of (at_attributes z changes_child) hs ≡ true) (same_label_is b l s ∙ sym (same_label_is a l q.0)) (h.formed.intentions.attributes x))
  against_attribute l k (Attr a i) m b j n g e h x s t =
      let q = both (same_label a l && same_label i k) (reads_node m) e in
      let u = both (same_label a l) (same_label i k) q.0 in
      let a_is : a ≡ b = same_label_is a l u.0 ∙ sym (same_label_is b l s) in
      let i_is : i ≡ j = same_label_is i k u.1 ∙ sym (same_label_is j k t) in
      let one : same_resource (Attr a i) (Attr b j) ≡ true = and_both (same_label a b) (same_label i j) (subst (λ z. same_label a z ≡ true) a_is (self a)) (subst (λ z. same_label i z ≡ true) i_is (self i)) in
      g.within (λ r a. some_of (clashes r a) hs) (h.within (clashes (Attr a i) m) (and_both (same_resource (Attr a i) (Attr b j)) (not (are_compatible m n)) one (ap not (exclusive_bars m n x))))
  against_attribute l k (Edge a r) m b j n g e h x s t = absurd (true≢false (sym e))

  -- an edge that is written together with a change of a child, against who reads it from a node
  inner_row : (l a : Label) (m : Ask) (c : Label) (z : Ask) → Grant gs (Node a) m → ((same_label a l && reads_level m) || (is_in (side a l) && reads_subtree m)) ≡ true → Grant hs (Node c) z → changes_child z ≡ true → same_label c l ≡ true → bar_each_other gs hs ≡ true
  inner_row l a m c z g e i j o = ⊎_elim
      (λ s. let q = both (same_label a l) (reads_level m) s in row_level a m z g q.1 (subst (λ w. Grant hs (Node w) z) (same_label_is c l o ∙ sym (same_label_is a l q.0)) i) j)
      (λ s. let q = both (is_in (side a l)) (reads_subtree m) s in row_subtree a c m z g q.1 i j (subst (λ w. is_in (side a w) ≡ true) (sym (same_label_is c l o)) q.0))
      (either (same_label a l && reads_level m) (is_in (side a l) && reads_subtree m) e)

  outer_row : (l a : Label) (m : Ask) (c : Label) (s : Side) (y z : Ask) → Grant gs (Node a) m → ((same_label a l && is_exclusive m) || ((is_child a l && reads_level m) || (is_under (side a l) && reads_subtree m))) ≡ true → Grant hs (Edge l s) y → Grant hs (Node c) z → changes_child z ≡ true → is_child c l ≡ true → bar_each_other gs hs ≡ true
  outer_row l a m c s y z g e h i j o = ⊎_elim
      (λ s. let q = both (same_label a l) (is_exclusive m) s in clash_at a is_exclusive asks_node (λ x y k _. exclusive_bars_too x y k) (held gs a m is_exclusive g q.1) (h.formed.intentions a g.formed.label (subst (λ w. is_in (side a w) ≡ true) (same_label_is a l q.0) (ap is_in (side_itself a)))))
      (λ w. ⊎_elim
      (λ s. let q = both (is_child a l) (reads_level m) s in row_level a m z g q.1 (subst (λ w. Grant hs (Node w) z) (sym (parent_of_child c l i.formed.label o) ∙ parent_of_child a l g.formed.label q.0) i) j)
      (λ s. let q = both (is_under (side a l)) (reads_subtree m) s in row_subtree a c m z g q.1 i j (parent_in a c l g.formed.label i.formed.label o (under_is (side a l) q.0)))
      (either (is_child a l && reads_level m) (is_under (side a l) && reads_subtree m) w))
      (either (same_label a l && is_exclusive m) ((is_child a l && reads_level m) || (is_under (side a l) && reads_subtree m)) e)

  -- and against each reader
  against_edge : (l : Label) (s : Side) (r : Resource) (m : Ask) (c : Label) (y z : Ask) → Grant gs r m → Covers.reads_from r m (edge_cell l s) ≡ true
      → Grant hs (Edge l s) y → changes_edge y ≡ true → Grant hs (Node c) z → changes_child z ≡ true → has_row_of s l c ≡ true → bar_each_other gs hs ≡ true
  against_edge l s (AttrRoot a) m c y z g e h k i j o = absurd (true≢false (sym e))
  against_edge l s (Attr a n) m c y z g e h k i j o = absurd (true≢false (sym e))
  against_edge l s (Edge a r) m c y z g e h k i j o =
      let q = both (same_label a l && same_side r s) (reads_edge m) e in
      g.within (λ r a. some_of (clashes r a) hs) (h.within (clashes (Edge a r) m) (and_both (same_resource (Edge a r) (Edge l s)) (not (are_compatible m y)) q.0 (ap not (edge_bars m y q.1 k))))
  against_edge l First (Node a) m c y z g e h k i j o = inner_row l a m c z g e i j o
  against_edge l Last (Node a) m c y z g e h k i j o = inner_row l a m c z g e i j o
  against_edge l Next (Node a) m c y z g e h k i j o = outer_row l a m c Next y z g e h i j o
  against_edge l Prev (Node a) m c y z g e h k i j o = outer_row l a m c Prev y z g e h i j o

-- ---- the conflict

granted : (p : Resource → Ask → Bool) (gs : List Request) (it : Picked p gs) → Grant gs it.resource it.ask
granted p gs it = record { within = it.within; formed = it.formed }

module _ (gs hs : List Request) (fg : HasForm gs) (fh : HasForm hs) where
  -- one request that writes by itself
  by_one : (x : Cell) (r : Resource) (m : Ask) → Grant gs r m → Covers.reads_from r m x ≡ true → (s : Resource) (n : Ask) → Grant hs s n → Covers.writes_from s n x ≡ true → bar_each_other gs hs ≡ true
  by_one x r m g e (Node b) n h w = let q = both (is_in (side b (Covers.label_of x))) (is_exclusive n) w in against_tree gs hs x r m b n g e h q.1 q.0
  by_one (attr_cell l k) r m g e (Attr b j) n h w = let q = both (same_label b l && same_label j k) (is_exclusive n) w in let u = both (same_label b l) (same_label j k) q.0 in against_attribute gs hs l k r m b j n g e h q.1 u.0 u.1
  by_one (node_cell l) r m g e (Attr b j) n h w = absurd (true≢false (sym w))
  by_one (edge_cell l s) r m g e (Attr b j) n h w = absurd (true≢false (sym w))
  by_one x r m g e (AttrRoot b) n h w = absurd (true≢false (sym w))
  by_one x r m g e (Edge b s) n h w = absurd (true≢false (sym w))

  same_side_is : (r s : Side) → same_side r s ≡ true → r ≡ s
  same_side_is First First e = refl
  same_side_is Last Last e = refl
  same_side_is Next Next e = refl
  same_side_is Prev Prev e = refl
  same_side_is _ _ e = absurd (true≢false (sym e))

  by_row : (l : Label) (s : Side) (r : Resource) (m : Ask) (y : Ask) → Grant gs r m → Covers.reads_from r m (edge_cell l s) ≡ true → Grant hs (Edge l s) y → changes_edge y ≡ true → (c : Resource) (z : Ask) → Grant hs c z → Covers.changes_row l s c z ≡ true → bar_each_other gs hs ≡ true
  by_row l s r m y g e h k (Node c) z i w = let q = both (has_row_of s l c) (changes_child z) w in against_edge gs hs l s r m c y z g e h k i q.1 q.0
  by_row l s r m y g e h k (AttrRoot c) z i w = absurd (true≢false (sym w))
  by_row l s r m y g e h k (Attr c n) z i w = absurd (true≢false (sym w))
  by_row l s r m y g e h k (Edge c n) z i w = absurd (true≢false (sym w))

  by_edge : (l : Label) (s : Side) (r : Resource) (m : Ask) → Grant gs r m → Covers.reads_from r m (edge_cell l s) ≡ true → (d : Resource) (y : Ask) → Grant hs d y → Covers.changes_edge_at l s d y ≡ true → some_of (Covers.changes_row l s) hs ≡ true → bar_each_other gs hs ≡ true
  by_edge l s r m g e (Edge b t) y h w row =
      let q = both (same_label b l && same_side t s) (changes_edge y) w in
      let u = both (same_label b l) (same_side t s) q.0 in
      let h2 : Grant hs (Edge l s) y = subst (λ z. Grant hs (Edge l z) y) (same_side_is t s u.1) (subst (λ z. Grant hs (Edge z t) y) (same_label_is b l u.0) h) in
      let it = pick (Covers.changes_row l s) hs fh row in
      by_row l s r m y g e h2 q.1 it.resource it.ask (granted (Covers.changes_row l s) hs it) it.is
  by_edge l s r m g e (Node b) y h w row = absurd (true≢false (sym w))
  by_edge l s r m g e (AttrRoot b) y h w row = absurd (true≢false (sym w))
  by_edge l s r m g e (Attr b n) y h w row = absurd (true≢false (sym w))

  pair : (x : Cell) (r : Resource) (m : Ask) → Grant gs r m → Covers.reads_from r m x ≡ true → Covers.writes_edge hs x ≡ true → bar_each_other gs hs ≡ true
  pair (node_cell l) r m g e w = absurd (true≢false (sym w))
  pair (attr_cell l k) r m g e w = absurd (true≢false (sym w))
  pair (edge_cell l s) r m g e w =
      let q = both (some_of (Covers.changes_edge_at l s) hs) (some_of (Covers.changes_row l s) hs) w in
      let it = pick (Covers.changes_edge_at l s) hs fh q.0 in
      by_edge l s r m g e it.resource it.ask (granted (Covers.changes_edge_at l s) hs it) it.is q.1

  pub conflict : (x : Cell) → reads gs x ≡ true → writes hs x ≡ true → bar_each_other gs hs ≡ true
  conflict x e w =
      let it = pick (λ r a. Covers.reads_from r a x) gs fg e in
      let g = granted (λ r a. Covers.reads_from r a x) gs it in
      ⊎_elim
      (λ one. let jt = pick (λ r a. Covers.writes_from r a x) hs fh one in by_one x it.resource it.ask g it.is jt.resource jt.ask (granted (λ r a. Covers.writes_from r a x) hs jt) jt.is)
      (λ two. pair x it.resource it.ask g it.is two)
      (either (some_of (λ r a. Covers.writes_from r a x) hs) (Covers.writes_edge hs x) w)

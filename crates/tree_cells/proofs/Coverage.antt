-- Coverage grows with each request, and what is covered for writing is covered for reading.
use Rattle.std.proofs.Common.{◌≡◌, Bool, true, false, ◌&&◌, ◌||◌, List, [], ◌∷◌, ◌++◌, Option, None, Some, refl, sym, ap, subst, true≢false, ◌⊎◌, inl, inr, ⊎_elim}
use Rattle.dewey_labels.specs.Labels.{Label, is_child}
use Rattle.dewey_labels.specs.Sides.{Side as Place, side, is_in, is_under}
use Rattle.lock_modes.specs.declared.ask.Ask.{Ask}
use Rattle.lock_modes.specs.declared.ask.Ask.TheVariants as ask
use Rattle.lock_modes.specs.declared.part.ReadPart.{ReadPart}
use Rattle.lock_modes.specs.Modes.{Parts, parts}
use Rattle.lock_resources.specs.declared.resource.Side.{Side}
use Rattle.lock_resources.specs.declared.resource.Side.TheVariants.{First, Last, Next, Prev}
use Rattle.lock_resources.specs.declared.resource.Resource.{Resource}
use Rattle.lock_resources.specs.declared.resource.Resource.TheVariants.{Node, AttrRoot, Attr, Edge}
use Rattle.lock_resources.specs.declared.request.Request.{Request}
use Rattle.tree_model.specs.ValidTrees.{same_label}
use Rattle.tree_cells.specs.Cells.{Cell, node_cell, attr_cell, edge_cell}
use Rattle.tree_cells.specs.ModeParts.{part_reads, reads_part, reads_node, reads_level, reads_subtree, reads_edge, is_none, is_exclusive, changes_edge}
use Rattle.tree_cells.specs.Places.{same_side}
use Rattle.tree_cells.specs.Covers
use Rattle.std.proofs.Common.{is_eq}
use Rattle.dewey_labels.proofs.Sides.{same_is}
use Rattle.tree_model.proofs.EntryLimits.{list_itself}
use Rattle.lock_modes.specs.declared.part.ReadPart.TheVariants as read

-- ---- tests

pub either : (a b : Bool) → (a || b) ≡ true → (a ≡ true) ⊎ (b ≡ true)
either true b e = inl refl
either false b e = inr e

pub or_first : (a b : Bool) → a ≡ true → (a || b) ≡ true
or_first true b e = refl
or_first false b e = absurd (true≢false (sym e))

pub or_second : (a b : Bool) → b ≡ true → (a || b) ≡ true
or_second true b e = refl
or_second false b e = e

pub both : (a b : Bool) → (a && b) ≡ true → (a ≡ true) × (b ≡ true)
both true b e = (refl, e)
both false b e = absurd (true≢false (sym e))

pub and_both : (a b : Bool) → a ≡ true → b ≡ true → (a && b) ≡ true
and_both true b e h = h
and_both false b e h = e

-- ---- coverage grows

pub some_left : (p : Resource → Ask → Bool) (gs hs : List Request) → Covers.some_of p gs ≡ true → Covers.some_of p (gs ++ hs) ≡ true
some_left p [] hs e = absurd (true≢false (sym e))
some_left p (g ∷ gs) hs e = ⊎_elim (λ h. or_first (p g.resource g.ask) (Covers.some_of p (gs ++ hs)) h) (λ h. or_second (p g.resource g.ask) (Covers.some_of p (gs ++ hs)) (some_left p gs hs h)) (either (p g.resource g.ask) (Covers.some_of p gs) e)

pub some_right : (p : Resource → Ask → Bool) (gs hs : List Request) → Covers.some_of p hs ≡ true → Covers.some_of p (gs ++ hs) ≡ true
some_right p [] hs e = e
some_right p (g ∷ gs) hs e = or_second (p g.resource g.ask) (Covers.some_of p (gs ++ hs)) (some_right p gs hs e)

pub some_more : (p q : Resource → Ask → Bool) (gs : List Request) → ((r : Resource) (a : Ask) → p r a ≡ true → q r a ≡ true) → Covers.some_of p gs ≡ true → Covers.some_of q gs ≡ true
some_more p q [] more e = e
some_more p q (g ∷ gs) more e = ⊎_elim (λ h. or_first (q g.resource g.ask) (Covers.some_of q gs) (more g.resource g.ask h)) (λ h. or_second (q g.resource g.ask) (Covers.some_of q gs) (some_more p q gs more h)) (either (p g.resource g.ask) (Covers.some_of p gs) e)

pub reads_left : (gs hs : List Request) (x : Cell) → Covers.reads gs x ≡ true → Covers.reads (gs ++ hs) x ≡ true
reads_left gs hs x = some_left (λ r a. Covers.reads_from r a x) gs hs

pub reads_right : (gs hs : List Request) (x : Cell) → Covers.reads hs x ≡ true → Covers.reads (gs ++ hs) x ≡ true
reads_right gs hs x = some_right (λ r a. Covers.reads_from r a x) gs hs

-- both or none
or_grows : (a b c d : Bool) → (a ≡ true → c ≡ true) → (b ≡ true → d ≡ true) → (a || b) ≡ true → (c || d) ≡ true
or_grows a b c d f g e = ⊎_elim (λ h. or_first c d (f h)) (λ h. or_second c d (g h)) (either a b e)

and_grows : (a b c d : Bool) → (a ≡ true → c ≡ true) → (b ≡ true → d ≡ true) → (a && b) ≡ true → (c && d) ≡ true
and_grows a b c d f g e = let h = both a b e in and_both c d (f h.0) (g h.1)

edge_grows : (gs hs : List Request) → ((p : Resource → Ask → Bool) → Covers.some_of p gs ≡ true → Covers.some_of p hs ≡ true) → (x : Cell) → Covers.writes_edge gs x ≡ true → Covers.writes_edge hs x ≡ true
edge_grows gs hs grows (node_cell l) e = e
edge_grows gs hs grows (attr_cell l n) e = e
edge_grows gs hs grows (edge_cell l s) e = and_grows (Covers.some_of (Covers.changes_edge_at l s) gs) (Covers.some_of (Covers.changes_row l s) gs) (Covers.some_of (Covers.changes_edge_at l s) hs) (Covers.some_of (Covers.changes_row l s) hs) (grows (Covers.changes_edge_at l s)) (grows (Covers.changes_row l s)) e

writes_grow : (gs hs : List Request) → ((p : Resource → Ask → Bool) → Covers.some_of p gs ≡ true → Covers.some_of p hs ≡ true) → (x : Cell) → Covers.writes gs x ≡ true → Covers.writes hs x ≡ true
writes_grow gs hs grows x e = or_grows (Covers.some_of (λ r a. Covers.writes_from r a x) gs) (Covers.writes_edge gs x) (Covers.some_of (λ r a. Covers.writes_from r a x) hs) (Covers.writes_edge hs x) (grows (λ r a. Covers.writes_from r a x)) (edge_grows gs hs grows x) e

pub writes_left : (gs hs : List Request) (x : Cell) → Covers.writes gs x ≡ true → Covers.writes (gs ++ hs) x ≡ true
writes_left gs hs x = writes_grow gs (gs ++ hs) (λ p. some_left p gs hs) x

pub writes_right : (gs hs : List Request) (x : Cell) → Covers.writes hs x ≡ true → Covers.writes (gs ++ hs) x ≡ true
writes_right gs hs x = writes_grow hs (gs ++ hs) (λ p. some_right p gs hs) x

-- ---- what is above all reads all

above_all_reads : (r : ReadPart) (o : Option Parts) → is_none o ≡ true → part_reads r o ≡ true
above_all_reads r None e = refl
above_all_reads r (Some p) e = absurd (true≢false (sym e))

pub exclusive_reads : (r : ReadPart) (a : Ask) → is_exclusive a ≡ true → reads_part r a ≡ true
exclusive_reads r (ask.Node m) e = above_all_reads r (parts m) e
exclusive_reads r (ask.Edge m) e = absurd (true≢false (sym e))

changed_is_read : (a : Ask) → changes_edge a ≡ true → reads_edge a ≡ true
changed_is_read (ask.Node m) e = absurd (true≢false (sym e))
changed_is_read (ask.Edge m) e = refl

-- in a label: at it or under it
same_or_under : (s : Place) → is_in s ≡ true → (s ≡ Place.same) ⊎ (is_under s ≡ true)
same_or_under Place.above e = absurd (true≢false (sym e))
same_or_under Place.left e = absurd (true≢false (sym e))
same_or_under Place.same e = inl refl
same_or_under Place.under e = inr refl
same_or_under Place.right e = absurd (true≢false (sym e))

same_of_side : (a l : Label) → side a l ≡ Place.same → same_label a l ≡ true
same_of_side a l e = subst (λ v. same_label a v ≡ true) (sym (same_is a l e)) (ap is_eq (list_itself a))

-- the edges of a label that a mode which is above all covers
exclusive_edge : (a l : Label) (m : Ask) (s : Side) → is_in (side a l) ≡ true → is_exclusive m ≡ true → Covers.reads_edge_from a m l s ≡ true
exclusive_edge a l m s i e =
    let sub = exclusive_reads read.S m e in
    inner a l m s i e sub
  where
    outer : (a l : Label) (m : Ask) → is_in (side a l) ≡ true → is_exclusive m ≡ true → reads_subtree m ≡ true → ((same_label a l && is_exclusive m) || ((is_child a l && reads_level m) || (is_under (side a l) && reads_subtree m))) ≡ true
    outer a l m i e sub = ⊎_elim
        (λ same. or_first (same_label a l && is_exclusive m) _ (and_both (same_label a l) (is_exclusive m) (same_of_side a l same) e))
        (λ u. or_second (same_label a l && is_exclusive m) _ (or_second (is_child a l && reads_level m) _ (and_both (is_under (side a l)) (reads_subtree m) u sub)))
        (same_or_under (side a l) i)

    inner : (a l : Label) (m : Ask) (s : Side) → is_in (side a l) ≡ true → is_exclusive m ≡ true → reads_subtree m ≡ true → Covers.reads_edge_from a m l s ≡ true
    inner a l m First i e sub = or_second (same_label a l && reads_level m) _ (and_both (is_in (side a l)) (reads_subtree m) i sub)
    inner a l m Last i e sub = or_second (same_label a l && reads_level m) _ (and_both (is_in (side a l)) (reads_subtree m) i sub)
    inner a l m Next i e sub = outer a l m i e sub
    inner a l m Prev i e sub = outer a l m i e sub

one_is_read : (x : Cell) (r : Resource) (a : Ask) → Covers.writes_from r a x ≡ true → Covers.reads_from r a x ≡ true
one_is_read (node_cell l) (Node b) a e = let h = both (is_in (side b l)) (is_exclusive a) e in or_second (same_label b l && reads_node a) _ (or_second (is_child b l && reads_level a) _ (and_both (is_in (side b l)) (reads_subtree a) h.0 (exclusive_reads read.S a h.1)))
one_is_read (attr_cell l n) (Node b) a e = let h = both (is_in (side b l)) (is_exclusive a) e in and_both (is_in (side b l)) (reads_subtree a) h.0 (exclusive_reads read.S a h.1)
one_is_read (edge_cell l s) (Node b) a e = let h = both (is_in (side b l)) (is_exclusive a) e in exclusive_edge b l a s h.0 h.1
one_is_read (node_cell l) (Attr b k) a e = e
one_is_read (attr_cell l n) (Attr b k) a e = let h = both (same_label b l && same_label k n) (is_exclusive a) e in and_both (same_label b l && same_label k n) (reads_node a) h.0 (exclusive_reads read.N a h.1)
one_is_read (edge_cell l s) (Attr b k) a e = e
one_is_read x (AttrRoot b) a e = absurd (true≢false (sym e))
one_is_read x (Edge b s) a e = absurd (true≢false (sym e))

edge_is_read : (l : Label) (s : Side) (r : Resource) (a : Ask) → Covers.changes_edge_at l s r a ≡ true → Covers.reads_from r a (edge_cell l s) ≡ true
edge_is_read l s (Edge b k) a e = let h = both (same_label b l && same_side k s) (changes_edge a) e in and_both (same_label b l && same_side k s) (reads_edge a) h.0 (changed_is_read a h.1)
edge_is_read l s (Node b) a e = absurd (true≢false (sym e))
edge_is_read l s (AttrRoot b) a e = absurd (true≢false (sym e))
edge_is_read l s (Attr b k) a e = absurd (true≢false (sym e))

pair_is_read : (gs : List Request) (x : Cell) → Covers.writes_edge gs x ≡ true → Covers.reads gs x ≡ true
pair_is_read gs (node_cell l) e = absurd (true≢false (sym e))
pair_is_read gs (attr_cell l n) e = absurd (true≢false (sym e))
pair_is_read gs (edge_cell l s) e = some_more (Covers.changes_edge_at l s) (λ r a. Covers.reads_from r a (edge_cell l s)) gs (edge_is_read l s) (both (Covers.some_of (Covers.changes_edge_at l s) gs) (Covers.some_of (Covers.changes_row l s) gs) e).0

pub written_is_read : (gs : List Request) (x : Cell) → Covers.writes gs x ≡ true → Covers.reads gs x ≡ true
written_is_read gs x e = ⊎_elim (some_more (λ r a. Covers.writes_from r a x) (λ r a. Covers.reads_from r a x) gs (one_is_read x)) (pair_is_read gs x) (either (Covers.some_of (λ r a. Covers.writes_from r a x) gs) (Covers.writes_edge gs x) e)

-- ---- as inclusions

pub covered_left : (gs hs : List Request) → Covers.IsCoveredBy gs (gs ++ hs)
covered_left gs hs = record { reading = reads_left gs hs; writing = writes_left gs hs }

pub covered_right : (gs hs : List Request) → Covers.IsCoveredBy hs (gs ++ hs)
covered_right gs hs = record { reading = reads_right gs hs; writing = writes_right gs hs }

-- Requests with wider modes stay in the form, and cover at least what they did.
use Rattle.std.proofs.Common.{◌≡◌, Bool, true, false, ◌&&◌, ◌||◌, List, [], ◌∷◌, ◌++◌, refl, sym, ap, subst, true≢false}
use Rattle.dewey_labels.specs.Labels.{Label}
use Rattle.lock_modes.specs.declared.ask.Ask.{Ask}
use Rattle.lock_modes.specs.declared.ask.Ask.TheVariants as ask
use Rattle.lock_modes.specs.declared.mode.Mode.TheVariants.{IR, NR, SR}
use Rattle.lock_resources.specs.declared.resource.Side.{Side}
use Rattle.lock_resources.specs.declared.resource.Side.TheVariants.{First, Last, Next, Prev}
use Rattle.lock_resources.specs.declared.resource.Resource.{Resource}
use Rattle.lock_resources.specs.declared.resource.Resource.TheVariants.{Node, AttrRoot, Attr, Edge}
use Rattle.lock_resources.specs.declared.request.Request.{Request}
use Rattle.lock_resources.specs.Resources.{asks_node}
use Rattle.lock_resources.specs.Intentions.{on_node, on_each, with_intentions}
use Rattle.dewey_labels.specs.Ancestors.{ancestors}
use Rattle.tree_cells.specs.Cells.{Cell, node_cell, attr_cell, edge_cell}
use Rattle.tree_cells.specs.ModeParts.{is_exclusive, changes_child, changes_below}
use Rattle.tree_cells.specs.Places.{is_at, is_above, is_at_or_above, is_parent}
use Rattle.tree_cells.specs.Covers.{some_of, reads_from, reads_edge_from, writes_from, writes_edge, changes_edge_at, changes_row}
use Rattle.tree_cells.specs.Forms.{at_node, at_attributes, is_intention, HasIntentions, IsFormed, FormedBehind}
use Rattle.tree_cells.proofs.Coverage.{or_first, or_second, and_both}
use Rattle.call_contract.specs.CallsOfCalls.{replaced, IsReplacement}
use Rattle.call_contract.proofs.NextRequests.{replaced_last}
use Rattle.call_rows.specs.MadeToys.{wider, widened}

-- ---- tests

or_grows : (a b c d : Bool) → (a ≡ true → c ≡ true) → (b ≡ true → d ≡ true) → (a || b) ≡ true → (c || d) ≡ true
or_grows true b c d f g e = or_first c d (f refl)
or_grows false b c d f g e = or_second c d (g e)

and_grows : (a b c d : Bool) → (a ≡ true → c ≡ true) → (b ≡ true → d ≡ true) → (a && b) ≡ true → (c && d) ≡ true
and_grows true b c d f g e = and_both c d (f refl) (g e)
and_grows false b c d f g e = absurd (true≢false (sym e))

-- ---- one request

-- NR at a node is the only mode that changes
by_mode : (P : Resource → Ask → Ask → Type 0) → ((l : Label) → P (Node l) (ask.Node NR) (ask.Node SR)) → ((r : Resource) (a : Ask) → P r a a)
    → (r : Resource) (a : Ask) → P r a (wider r a)
by_mode P grows same (Node l) (ask.Node NR) = grows l
by_mode P grows same r a = same r a

-- what a request covers for reading, its wider one does
one_reads : (x : Cell) (r : Resource) (a : Ask) → reads_from r a x ≡ true → reads_from r (wider r a) x ≡ true
one_reads x r a = by_mode (λ r a b. reads_from r a x ≡ true → reads_from r b x ≡ true) (λ l. at x l) (λ r a e. e) r a
  where
    either_row : (p q : Bool) → ((p && false) || (q && false)) ≡ true → ((p && true) || (q && true)) ≡ true
    either_row p q e = or_grows (p && false) (q && false) (p && true) (q && true) (λ h. and_grows p false p true (λ z. z) (λ z. refl) h) (λ h. and_grows q false q true (λ z. z) (λ z. refl) h) e

    at_edge : (s : Side) (l k : Label) → reads_edge_from l (ask.Node NR) k s ≡ true → reads_edge_from l (ask.Node SR) k s ≡ true
    at_edge First l k e = either_row (is_at l k) (is_at_or_above l k) e
    at_edge Last l k e = either_row (is_at l k) (is_at_or_above l k) e
    at_edge Next l k e = or_grows (is_at l k && false) _ (is_at l k && false) _ (λ h. h) (λ h. either_row (is_parent l k) (is_above l k) h) e
    at_edge Prev l k e = or_grows (is_at l k && false) _ (is_at l k && false) _ (λ h. h) (λ h. either_row (is_parent l k) (is_above l k) h) e

    at : (x : Cell) (l : Label) → reads_from (Node l) (ask.Node NR) x ≡ true → reads_from (Node l) (ask.Node SR) x ≡ true
    at (node_cell k) l e = or_grows (is_at l k && true) _ (is_at l k && true) _ (λ h. h) (λ h. either_row (is_parent l k) (is_at_or_above l k) h) e
    at (attr_cell k n) l e = and_grows (is_at_or_above l k) false (is_at_or_above l k) true (λ z. z) (λ z. refl) e
    at (edge_cell k s) l e = at_edge s l k e

one_writes : (x : Cell) (r : Resource) (a : Ask) → writes_from r a x ≡ true → writes_from r (wider r a) x ≡ true
one_writes x r a = by_mode (λ r a b. writes_from r a x ≡ true → writes_from r b x ≡ true) (λ l e. e) (λ r a e. e) r a

one_edge : (k : Label) (s : Side) (r : Resource) (a : Ask) → changes_edge_at k s r a ≡ true → changes_edge_at k s r (wider r a) ≡ true
one_edge k s r a = by_mode (λ r a b. changes_edge_at k s r a ≡ true → changes_edge_at k s r b ≡ true) (λ l e. e) (λ r a e. e) r a

one_row : (k : Label) (s : Side) (r : Resource) (a : Ask) → changes_row k s r a ≡ true → changes_row k s r (wider r a) ≡ true
one_row k s r a = by_mode (λ r a b. changes_row k s r a ≡ true → changes_row k s r b ≡ true) (λ l e. e) (λ r a e. e) r a

-- ---- lists

some_wider : (p : Resource → Ask → Bool) → ((r : Resource) (a : Ask) → p r a ≡ true → p r (wider r a) ≡ true) → (gs : List Request) → some_of p gs ≡ true → some_of p (replaced widened gs) ≡ true
some_wider p one [] e = e
some_wider p one (g ∷ gs) e = or_grows (p g.resource g.ask) (some_of p gs) (p g.resource (wider g.resource g.ask)) (some_of p (replaced widened gs)) (one g.resource g.ask) (some_wider p one gs) e

edge_wider : (gs : List Request) (x : Cell) → writes_edge gs x ≡ true → writes_edge (replaced widened gs) x ≡ true
edge_wider gs (node_cell k) e = e
edge_wider gs (attr_cell k n) e = e
edge_wider gs (edge_cell k s) e = and_grows (some_of (changes_edge_at k s) gs) (some_of (changes_row k s) gs) (some_of (changes_edge_at k s) (replaced widened gs)) (some_of (changes_row k s) (replaced widened gs))
    (some_wider (changes_edge_at k s) (one_edge k s) gs) (some_wider (changes_row k s) (one_row k s) gs) e

-- ---- the form

-- a mode of nodes that is held is held as a wider one
held_wider : (l : Label) (p : Ask → Bool) → (p (ask.Node NR) ≡ true → p (ask.Node SR) ≡ true) → (gs : List Request) → some_of (at_node l p) gs ≡ true → some_of (at_node l p) (replaced widened gs) ≡ true
held_wider l p keeps gs e = some_wider (at_node l p)
    (by_mode (λ r a b. at_node l p r a ≡ true → at_node l p r b ≡ true) (λ k h. and_grows (is_at k l) (p (ask.Node NR)) (is_at k l) (p (ask.Node SR)) (λ z. z) keeps h) (λ r a h. h)) gs e

attributes_wider : (l : Label) (p : Ask → Bool) (gs : List Request) → some_of (at_attributes l p) gs ≡ true → some_of (at_attributes l p) (replaced widened gs) ≡ true
attributes_wider l p gs e = some_wider (at_attributes l p) (by_mode (λ r a b. at_attributes l p r a ≡ true → at_attributes l p r b ≡ true) (λ k h. h) (λ r a h. h)) gs e

kept_intention : (w : Bool) → is_intention w (ask.Node NR) ≡ true → is_intention w (ask.Node SR) ≡ true
kept_intention true e = e
kept_intention false e = e

intentions_wider : (before : List Request) (r : Resource) (a : Ask) → HasIntentions before r a → HasIntentions (replaced widened before) r a
intentions_wider before (Node l) a h = record {
  above = λ b j u. held_wider b (is_intention (changes_below a)) (kept_intention (changes_below a)) before (h.above b j u);
  parent = λ e b j u. held_wider b changes_child (λ z. z) before (h.parent e b j u);
}
intentions_wider before (AttrRoot l) a h = λ b j u. held_wider b asks_node (λ z. z) before (h b j u)
intentions_wider before (Attr l n) a h = record {
  above = λ b j u. held_wider b (is_intention (is_exclusive a)) (kept_intention (is_exclusive a)) before (h.above b j u);
  attributes = λ e. attributes_wider l changes_child before (h.attributes e);
}
intentions_wider before (Edge l s) a h = λ b j u. held_wider b asks_node (λ z. z) before (h b j u)

formed_one : (before : List Request) (r : Resource) (a : Ask) → IsFormed before r a → IsFormed (replaced widened before) r (wider r a)
formed_one before r a = by_mode (λ r a b. IsFormed before r a → IsFormed (replaced widened before) r b)
    (λ l f. record { label = f.label; fits = f.fits; intentions = record { above = λ b j u. held_wider b asks_node (λ z. z) before (f.intentions.above b j u); parent = λ e. absurd (true≢false (sym e)) } })
    (λ r a f. record { label = f.label; fits = f.fits; intentions = intentions_wider before r a f.intentions }) r a

formed_wider : (before gs : List Request) → FormedBehind before gs → FormedBehind (replaced widened before) (replaced widened gs)
formed_wider before [] f = tt
formed_wider before (g ∷ gs) f = (formed_one before g.resource g.ask f.0, subst (λ (b : List Request). FormedBehind b (replaced widened gs)) (replaced_last widened before g) (formed_wider (before ++ g ∷ []) gs f.1))

pub is_replacement : IsReplacement widened
is_replacement = record {
  form = λ gs f. formed_wider [] gs f;
  covers = λ gs f. record {
    reading = λ x e. some_wider (λ r a. reads_from r a x) (one_reads x) gs e;
    writing = λ x e. or_grows (some_of (λ r a. writes_from r a x) gs) (writes_edge gs x) (some_of (λ r a. writes_from r a x) (replaced widened gs)) (writes_edge (replaced widened gs) x)
        (some_wider (λ r a. writes_from r a x) (one_writes x) gs) (edge_wider gs x) e;
  };
}

-- ---- what is asked at a node

way_stays : (ls : List Label) (gs : List Request) → replaced widened (on_each IR IR ls ++ gs) ≡ on_each IR IR ls ++ replaced widened gs
way_stays [] gs = refl
way_stays (l ∷ []) gs = refl
way_stays (l ∷ k ∷ ls) gs = ap (λ (hs : List Request). on_node l IR ∷ hs) (way_stays (k ∷ ls) gs)

pub wide_request : (l : Label) → replaced widened (with_intentions (Node l) (ask.Node NR)) ≡ with_intentions (Node l) (ask.Node SR)
wide_request l = way_stays (ancestors l) (on_node l NR ∷ [])

-- Requests with their intentions before them have the form that the conflict asks for.
use Rattle.std.proofs.Common.{◌≡◌, ℕ, zero, suc, ◌+◌, ◌≤◌, ◌<◌, Bool, true, false, List, [], ◌∷◌, ◌++◌, take, refl, sym, ap, subst, ◌∙◌, append_assoc, append-nil, true≢false, ◌⊎◌, ⊎_elim, arith, is_eq}
use Rattle.dewey_labels.specs.Labels.{Label, is_label, is_child, parent, level, cut}
use Rattle.dewey_labels.specs.Sides.{side, is_in, is_under}
use Rattle.dewey_labels.proofs.Labels.{parent_of_child}
use Rattle.lock_modes.specs.declared.ask.Ask.{Ask}
use Rattle.lock_modes.specs.declared.ask.Ask.TheVariants as ask
use Rattle.lock_modes.specs.declared.mode.Mode.{Mode}
use Rattle.lock_modes.specs.declared.mode.Mode.TheVariants.{IR, NR, LR, SR, IX, CX, SX}
use Rattle.lock_resources.specs.declared.resource.Resource.{Resource}
use Rattle.lock_resources.specs.declared.resource.Resource.TheVariants.{Node, AttrRoot, Attr, Edge}
use Rattle.lock_resources.specs.declared.request.Request.{Request}
use Rattle.lock_resources.specs.Resources.{label_of, asks_node, Fits}
use Rattle.std.specs.List.{AllByRecursion}
use Rattle.dewey_labels.specs.Ancestors.{cuts}
use Rattle.lock_resources.specs.Intentions.{has_row, request, on_node, on_attr_root, on_each, on_ancestors, with_intentions}
use Rattle.dewey_labels.proofs.Ancestors.{is_label-cut, child-cut, cut_all}
use Rattle.tree_model.specs.ValidTrees.{same_label}
use Rattle.tree_model.proofs.EntryLimits.{list_itself}
use Rattle.tree_cells.specs.Covers.{some_of}
use Rattle.tree_cells.specs.ModeParts.{is_exclusive, changes_child, changes_below}
use Rattle.tree_cells.specs.Forms.{at_node, at_attributes, is_intention, HeldAbove, HeldDownTo, IsFormed, FormedBehind, HasForm, IsRow, AreRows, all_with_intentions}
use Rattle.tree_cells.proofs.Coverage.{either, both, some_more, and_both, or_first, or_second, some_left, some_right}
use Rattle.tree_cells.proofs.Insertions.{parent_in}
use Rattle.tree_cells.proofs.Conflict.{formed_under, in_cases, under_is, below_is_node}

-- ---- more before, a part, and one list behind another

pub formed_grows : (before more gs : List Request) → ((p : Resource → Ask → Bool) → some_of p before ≡ true → some_of p more ≡ true) → FormedBehind before gs → FormedBehind more gs
formed_grows before more [] grow f = tt
formed_grows before more (g ∷ gs) grow f = (formed_under before more grow g.resource g.ask f.0, formed_grows (before ++ g ∷ []) (more ++ g ∷ []) gs (λ p e. ⊎_elim (λ h. some_left p more (g ∷ []) (grow p h)) (λ h. some_right p more (g ∷ []) h) (split p before (g ∷ []) e)) f.1)
  where
    split : (p : Resource → Ask → Bool) (xs ys : List Request) → some_of p (xs ++ ys) ≡ true → (some_of p xs ≡ true) ⊎ (some_of p ys ≡ true)
    split p [] ys e = Rattle.std.proofs.Common.inr e
    split p (x ∷ xs) ys e = ⊎_elim (λ h. Rattle.std.proofs.Common.inl (or_first (p x.resource x.ask) (some_of p xs) h)) (λ h. ⊎_elim (λ k. Rattle.std.proofs.Common.inl (or_second (p x.resource x.ask) (some_of p xs) k)) (λ k. Rattle.std.proofs.Common.inr k) (split p xs ys h)) (either (p x.resource x.ask) (some_of p (xs ++ ys)) e)

pub formed_behind : (before gs hs : List Request) → FormedBehind before gs → FormedBehind (before ++ gs) hs → FormedBehind before (gs ++ hs)
formed_behind before [] hs f k = subst (λ (b : List Request). FormedBehind b hs) (append-nil before) k
formed_behind before (g ∷ gs) hs f k = (f.0, formed_behind (before ++ g ∷ []) gs hs f.1 (subst (λ (b : List Request). FormedBehind b hs) (sym (append_assoc before (g ∷ []) gs)) k))

pub formed_append : (gs hs : List Request) → HasForm gs → HasForm hs → HasForm (gs ++ hs)
formed_append gs hs f k = formed_behind [] gs hs f (formed_grows [] gs hs (λ p e. absurd (true≢false (sym e))) k)

pub formed_take : (k : ℕ) (before gs : List Request) → FormedBehind before gs → FormedBehind before (take k gs)
formed_take zero before gs f = tt
formed_take (suc k) before [] f = tt
formed_take (suc k) before (g ∷ gs) f = (f.0, formed_take k (before ++ g ∷ []) gs f.1)

-- ---- the way down to a node

here : (a : Label) (p : Ask → Bool) (m : Ask) → p m ≡ true → at_node a p (Node a) m ≡ true
here a p m e = and_both (same_label a a) (p m) (ap is_eq (list_itself a)) e

-- a node on the way is held, and those above it were
on_the_way : (before : List Request) (a l : Label) (m : Mode) (p : Ask → Bool) → is_label a ≡ true → is_child a l ≡ true → HeldAbove before a p → p (ask.Node m) ≡ true → HeldAbove (before ++ on_node a m ∷ []) l p
on_the_way before a l m p i c held e b j u = ⊎_elim
    (λ same. some_right (at_node b p) before (on_node a m ∷ []) (or_first _ false (subst (λ z. at_node z p (Node a) (ask.Node m) ≡ true) (sym same) (here a p (ask.Node m) e))))
    (λ under. some_left (at_node b p) before (on_node a m ∷ []) (held b j under))
    (in_cases b a (parent_in b a l j i c (under_is (side b l) u)))

-- the modes on the way let what stands below be, or be changed
module _ (w : Bool) (above last : Mode) (a_is : changes_below (ask.Node above) ≡ w) (l_is : changes_below (ask.Node last) ≡ w) (a_held : is_intention w (ask.Node above) ≡ true) (l_held : is_intention w (ask.Node last) ≡ true)
    (a_free : is_exclusive (ask.Node above) ≡ false) (l_free : is_exclusive (ask.Node last) ≡ false) where
  formed_way : (before : List Request) (a : Label) (m : Mode) → is_label a ≡ true → changes_below (ask.Node m) ≡ w → is_exclusive (ask.Node m) ≡ false → HeldAbove before a (is_intention w) → IsFormed before (Node a) (ask.Node m)
  formed_way before a m i e free held = record { label = i; fits = refl; intentions = record { above = λ b j u. subst (λ z. some_of (at_node b (is_intention z)) before ≡ true) (sym e) (held b j u); parent = λ x. absurd (true≢false (sym x ∙ free)) } }

  way : (n : ℕ) (l : Label) (before : List Request) → is_label l ≡ true → n ≤ level l → HeldAbove before (cut n l) (is_intention w) → FormedBehind before (on_each above last (cuts n l)) × HeldAbove (before ++ on_each above last (cuts n l)) l (is_intention w)
  way zero l before i n held = (tt, subst (λ (b : List Request). HeldAbove b l (is_intention w)) (sym (append-nil before)) held)
  way (suc zero) l before i n held =
      let a = cut 1 l in
      let j = is_label-cut 1 l i in
      let c = child-cut zero l i (omega arith) in
      ((formed_way before a last j l_is l_free held, tt), on_the_way before a l last (is_intention w) j c held l_held)
  way (suc (suc k)) l before i n held =
      let a = cut (suc (suc k)) l in
      let j = is_label-cut (suc (suc k)) l i in
      let c = child-cut (suc k) l i (omega arith) in
      let next = on_the_way before a (cut (suc k) l) above (is_intention w) j c held a_held in
      let rest = way (suc k) l (before ++ on_node a above ∷ []) i (omega arith) next in
      ((formed_way before a above j a_is a_free held, rest.0), subst (λ (b : List Request). HeldAbove b l (is_intention w)) (append_assoc before (on_node a above ∷ []) (on_each above last (cuts (suc k) l))) rest.1)

  -- nothing stands above the root
  whole_way : (l : Label) → is_label l ≡ true → HasForm (on_ancestors above last l) × HeldAbove (on_ancestors above last l) l (is_intention w)
  whole_way l i = way (level l) l [] i (omega arith) (λ b j u. absurd (no_above b (subst (λ z. is_under (side b z) ≡ true) (cut_all l i) u) j))
    where
      no_above : (b : Label) → is_under (side b Rattle.dewey_labels.specs.Labels.root) ≡ true → is_label b ≡ true → ⊥
      no_above [] u j = true≢false (sym j)
      no_above (x ∷ []) u j = by (Rattle.std.proofs.Common.nat_cmp 1 x) u
        where
          by : (o : Rattle.std.specs.declared.cmp.Ordering.Ordering) → is_under (Rattle.dewey_labels.specs.Sides.turn o (side [] [])) ≡ true → ⊥
          by Rattle.std.proofs.Common.Less u = true≢false (sym u)
          by Rattle.std.proofs.Common.Equal u = true≢false (sym u)
          by Rattle.std.proofs.Common.Greater u = true≢false (sym u)
      no_above (x ∷ y ∷ b) u j = by (Rattle.std.proofs.Common.nat_cmp 1 x) u
        where
          by : (o : Rattle.std.specs.declared.cmp.Ordering.Ordering) → is_under (Rattle.dewey_labels.specs.Sides.turn o (side (y ∷ b) [])) ≡ true → ⊥
          by Rattle.std.proofs.Common.Less u = true≢false (sym u)
          by Rattle.std.proofs.Common.Equal u = true≢false (sym u)
          by Rattle.std.proofs.Common.Greater u = true≢false (sym u)

  -- and the node itself
  whole_way_to : (l : Label) (m : Mode) → is_label l ≡ true → changes_below (ask.Node m) ≡ w → is_intention w (ask.Node m) ≡ true → is_exclusive (ask.Node m) ≡ false → HasForm (on_ancestors above last l ++ on_node l m ∷ []) × HeldDownTo (on_ancestors above last l ++ on_node l m ∷ []) l (is_intention w)
  whole_way_to l m i e h free =
      let up = whole_way l i in (
        formed_behind [] (on_ancestors above last l) (on_node l m ∷ []) up.0 (formed_way (on_ancestors above last l) l m i e free up.1, tt),
        λ b j k. ⊎_elim
            (λ same. some_right (at_node b (is_intention w)) (on_ancestors above last l) (on_node l m ∷ []) (or_first _ false (subst (λ z. at_node z (is_intention w) (Node l) (ask.Node m) ≡ true) (sym same) (here l (is_intention w) (ask.Node m) h))))
            (λ under. some_left (at_node b (is_intention w)) (on_ancestors above last l) (on_node l m ∷ []) (up.1 b j under))
            (in_cases b l k),
      )

-- ---- each row

-- the last node on the way is the parent
parent_on_way : (q : Resource → Ask → Bool) (above last : Mode) (n : ℕ) (l : Label) → q (Node (parent l)) (ask.Node last) ≡ true → some_of q (on_each above last (cuts (suc n) l)) ≡ true
parent_on_way q above last zero l h = or_first (q (Node (parent l)) (ask.Node last)) false h
parent_on_way q above last (suc n) l h = or_second (q (Node (cut (suc (suc n)) l)) (ask.Node above)) _ (parent_on_way q above last n l h)

reading_row : (l : Label) (m : Mode) → is_label l ≡ true → changes_below (ask.Node m) ≡ false → is_exclusive (ask.Node m) ≡ false → HasForm (on_ancestors IR IR l ++ on_node l m ∷ [])
reading_row l m i e free =
    let up = whole_way false IR IR refl refl refl refl refl refl l i in
    formed_behind [] (on_ancestors IR IR l) (on_node l m ∷ []) up.0 (record { label = i; fits = refl; intentions = record { above = λ b j u. subst (λ z. some_of (at_node b (is_intention z)) (on_ancestors IR IR l) ≡ true) (sym e) (up.1 b j u); parent = λ x. absurd (true≢false (sym x ∙ free)) } }, tt)

taking_row : (l : Label) → is_label l ≡ true → HasForm (on_ancestors IX CX l ++ on_node l SX ∷ [])
taking_row l i =
    let up = whole_way true IX CX refl refl refl refl refl refl l i in
    formed_behind [] (on_ancestors IX CX l) (on_node l SX ∷ []) up.0 (record { label = i; fits = refl; intentions = record { above = λ b j u. up.1 b j u; parent = λ _ b j c. by b j c (level l) refl } }, tt)
  where
    by : (b : Label) → is_label b ≡ true → is_child b l ≡ true → (n : ℕ) → level l ≡ n → some_of (at_node b changes_child) (on_each IX CX (cuts n l)) ≡ true
    by b j c zero e = absurd (omega (arith, Rattle.dewey_labels.proofs.Labels.level_of_child b l j c))
    by b j c (suc n) e = parent_on_way (at_node b changes_child) IX CX n l (subst (λ z. at_node b changes_child (Node z) (ask.Node CX) ≡ true) (sym (parent_of_child b l j c)) (here b changes_child (ask.Node CX) refl))

-- an intention to change is a mode of nodes
lowered_one : (b : Label) (r : Resource) (a : Ask) → at_node b changes_below r a ≡ true → at_node b asks_node r a ≡ true
lowered_one b (Node c) a e = let q = both (same_label c b) (changes_below a) e in and_both (same_label c b) (asks_node a) q.0 (below_is_node a q.1)
lowered_one b (AttrRoot c) a e = absurd (true≢false (sym e))
lowered_one b (Attr c n) a e = absurd (true≢false (sym e))
lowered_one b (Edge c s) a e = absurd (true≢false (sym e))

lowered : (b : Label) (gs : List Request) → some_of (at_node b changes_below) gs ≡ true → some_of (at_node b asks_node) gs ≡ true
lowered b gs e = some_more (at_node b changes_below) (at_node b asks_node) gs (lowered_one b) e

pub row_formed : (r : Resource) (a : Ask) → has_row r a ≡ true → is_label (label_of r) ≡ true → HasForm (with_intentions r a)
row_formed (Node l) (ask.Node IR) h i = reading_row l IR i refl refl
row_formed (Node l) (ask.Node NR) h i = reading_row l NR i refl refl
row_formed (Node l) (ask.Node LR) h i = reading_row l LR i refl refl
row_formed (Node l) (ask.Node SR) h i = reading_row l SR i refl refl
row_formed (Node l) (ask.Node SX) h i = taking_row l i
row_formed (AttrRoot l) (ask.Node LR) h i =
    let down = whole_way_to false IR IR refl refl refl refl refl refl l IR i refl refl refl in
    formed_behind [] (on_ancestors IR IR l ++ on_node l IR ∷ []) (request (AttrRoot l) (ask.Node LR) ∷ []) down.0 (record { label = i; fits = refl; intentions = down.1 }, tt)
row_formed (Attr l n) (ask.Node NR) h i =
    let down = whole_way_to false IR IR refl refl refl refl refl refl l IR i refl refl refl in
    let two = formed_behind [] (on_ancestors IR IR l ++ on_node l IR ∷ []) (on_attr_root l IR ∷ []) down.0 (record { label = i; fits = refl; intentions = down.1 }, tt) in
    subst (λ (gs : List Request). HasForm gs) (ap (λ (gs : List Request). gs ++ request (Attr l n) (ask.Node NR) ∷ []) (append_assoc (on_ancestors IR IR l) (on_node l IR ∷ []) (on_attr_root l IR ∷ [])))
    (formed_behind [] ((on_ancestors IR IR l ++ on_node l IR ∷ []) ++ on_attr_root l IR ∷ []) (request (Attr l n) (ask.Node NR) ∷ []) two (record { label = i; fits = refl; intentions = record { above = λ b j k. some_left (at_node b asks_node) (on_ancestors IR IR l ++ on_node l IR ∷ []) (on_attr_root l IR ∷ []) (down.1 b j k); attributes = λ e. absurd (true≢false (sym e)) } }, tt))
row_formed (Attr l n) (ask.Node SX) h i =
    let down = whole_way_to true IX IX refl refl refl refl refl refl l IX i refl refl refl in
    let two = formed_behind [] (on_ancestors IX IX l ++ on_node l IX ∷ []) (on_attr_root l CX ∷ []) down.0 (record { label = i; fits = refl; intentions = λ b j k. lowered b (on_ancestors IX IX l ++ on_node l IX ∷ []) (down.1 b j k) }, tt) in
    subst (λ (gs : List Request). HasForm gs) (ap (λ (gs : List Request). gs ++ request (Attr l n) (ask.Node SX) ∷ []) (append_assoc (on_ancestors IX IX l) (on_node l IX ∷ []) (on_attr_root l CX ∷ [])))
    (formed_behind [] ((on_ancestors IX IX l ++ on_node l IX ∷ []) ++ on_attr_root l CX ∷ []) (request (Attr l n) (ask.Node SX) ∷ []) two (
      record {
        label = i;
        fits = refl;
        intentions = record {
          above = λ b j k. some_left (at_node b changes_below) (on_ancestors IX IX l ++ on_node l IX ∷ []) (on_attr_root l CX ∷ []) (down.1 b j k);
          attributes = λ _. some_right (at_attributes l changes_child) (on_ancestors IX IX l ++ on_node l IX ∷ []) (on_attr_root l CX ∷ []) (or_first _ false (and_both (same_label l l) true (ap is_eq (list_itself l)) refl));
        };
      },
      tt,
    ))
row_formed (Edge l s) (ask.Edge m) h i =
    let down = whole_way_to false IR IR refl refl refl refl refl refl l NR i refl refl refl in
    formed_behind [] (on_ancestors IR IR l ++ on_node l NR ∷ []) (request (Edge l s) (ask.Edge m) ∷ []) down.0 (record { label = i; fits = refl; intentions = down.1 }, tt)
row_formed _ _ h i = absurd (true≢false (sym h))

-- ---- lists of rows, and what a list in the form gives

pub rows_formed : (gs : List Request) → AreRows gs → HasForm gs
rows_formed gs h = subst (λ (v : List Request). HasForm v) (sym h.whole) (by h.rows h.each)
  where
    by : (rows : List Request) → AllByRecursion IsRow rows → HasForm (all_with_intentions rows)
    by [] e = tt
    by (r ∷ rs) e = formed_append (with_intentions r.resource r.ask) (all_with_intentions rs) (row_formed r.resource r.ask e.0.row e.0.label) (by rs e.1)

fit_behind : (before gs : List Request) → FormedBehind before gs → AllByRecursion Fits gs
fit_behind before [] f = tt
fit_behind before (g ∷ gs) f = (f.0.fits, fit_behind (before ++ g ∷ []) gs f.1)

pub formed_fit : (gs : List Request) → HasForm gs → AllByRecursion Fits gs
formed_fit gs f = fit_behind [] gs f

pub form_of_prefix : (k : ℕ) (gs : List Request) → HasForm gs → HasForm (take k gs)
form_of_prefix k gs f = formed_take k [] gs f

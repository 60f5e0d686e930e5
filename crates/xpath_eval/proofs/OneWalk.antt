-- A path that begins with `//`, and the path with one step to the descendants in place of its first two.
use Rattle.std.proofs.Common.{◌≡◌, ◌≤◌, ◌+◌, ℕ, Bool, true, false, cond, ◌&&◌, ◌||◌, if◌then◌else◌, List, [], ◌∷◌, ◌++◌, inr, length, drop, refl, sym, ap, subst, ◌∙◌, append_assoc, append-nil, true≢false, arith}
use Rattle.std.specs.List.{AllByRecursion, filter}
use Rattle.std.proofs.lemmas.List.Folds.{list_any-append}
use Rattle.dewey_labels.specs.Labels.{Label, root}
use Rattle.dewey_labels.specs.Sides.{Side, side, above, left, same, under, right}
use Rattle.dewey_labels.proofs.Sides.{side_itself}
use Rattle.tree_model.specs.declared.record.Record.{Record}
use Rattle.tree_model.specs.Tree.{Attributes, Forest, none, node, Tree, choose, at, found, head_label, below}
use Rattle.tree_model.specs.ValidTrees.{IsValidTree, KeysRise}
use Rattle.tree_model.proofs.Found.{some_is, at_label}
use Rattle.tree_model.proofs.FoundParents.{found_right}
use Rattle.tree_model.proofs.WholeTree.{found_under}
use Rattle.path_model.specs.declared.path.Axis.TheVariants.{Child, Descendant, DescendantOrSelf}
use Rattle.path_model.specs.declared.path.NodeTest.{NodeTest}
use Rattle.path_model.specs.declared.path.NodeTest.TheVariants as test
use Rattle.path_model.specs.Axes.{document_of}
use Rattle.path_model.specs.AxisPrograms.{along, children}
use Rattle.path_model.specs.Evaluation.{in_order, value, kept_by, filtered, taken, start, find_from}
use Rattle.path_model.specs.Finds.{hits, find, found_by}
use Rattle.path_model.specs.Functions.{Context, keeps}
use Rattle.path_model.specs.Meaning.{is_among}
use Rattle.path_model.specs.Paths.{Expr, Exprs, no_more, then_expr, Steps, step}
use Rattle.path_model.specs.Positions.{Position, a_node, an_attribute, positions, label_of, is_same, passes}
use Rattle.path_model.specs.Programs.{Program, ends, and_then, answer, looked, gathered, head_seen, row_seen, all_seen, tree_seen}
use Rattle.path_model.specs.Sets.{At}
use Rattle.path_model.specs.Values.{truth}
use Rattle.path_model.proofs.AxisLooks.{node_at}
use Rattle.path_model.proofs.Filters.{filter_both}
use Rattle.path_model.proofs.Members.{AllAmong, all_filtered, all_joined, filtered_among}
use Rattle.path_model.proofs.NodeLooks.{NodeIn, all_are, children_rise}
use Rattle.path_model.proofs.OrderLaws.{filter_on, in_order_is, positions_rise}
use Rattle.path_model.proofs.ProgramAnswers.{answer-and_then, answer-gathered, flat}
use Rattle.path_model.proofs.Standing.{HasNode, has_node}
use Rattle.path_model.proofs.SubtreeLaws.{filter_joined}
use Rattle.xpath_axes.specs.Runs.{reads_of}
use Rattle.xpath_axes.proofs.RowsAhead.{whole_rises}
use Rattle.xpath_axes.proofs.Running.{looked-and_then, reads-append}
use Rattle.xpath_eval.specs.inside.Walks.{alone, IsFree, AreFree, FindsTheSame}
use Rattle.xpath_eval.proofs.DownSteps.{all_pass}
use Rattle.xpath_eval.proofs.Orders.{rising_is_ordered}

-- ---- sums and reads

abbrev total : {A : Type 0} → (A → ℕ) → List A → ℕ
total c [] = 0
total c (x ∷ xs) = c x + total c xs

total_joined : {A : Type 0} (c : A → ℕ) (xs ys : List A) → total c (xs ++ ys) ≡ total c xs + total c ys
total_joined c [] ys = omega arith
total_joined c (x ∷ xs) ys = let e = total_joined c xs ys in omega (arith, e)

total_where : {A : Type 0} (c d : A → ℕ) (q : A → Bool) (xs : List A) → total c xs + total d (filter q xs) ≡ total (λ x. c x + (if q x then d x else 0)) xs
total_where c d q [] = refl
total_where c d q (x ∷ xs) = elim (q x) as (λ b. (c x + total c xs) + total d (cond b (x ∷ filter q xs) (filter q xs)) ≡ (c x + (if b then d x else 0)) + total (λ y. c y + (if q y then d y else 0)) xs) [
  | true ↦ let e = total_where c d q xs in omega (arith, e)
  | false ↦ let e = total_where c d q xs in omega (arith, e)
]

abbrev reads : {A : Type 0} → Tree → Program A → ℕ
reads t p = reads_of t (looked t p)

reads_then : {A B : Type 0} (t : Tree) (p : Program A) (f : A → Program B) → reads t (and_then p f) ≡ reads t p + reads t (f (answer t p))
reads_then t p f = ap (reads_of t) (looked-and_then t p f) ∙ reads-append t (looked t p) (looked t (f (answer t p)))

reads_each : {A B : Type 0} (t : Tree) (f : A → Program (List B)) (xs : List A) → reads t (gathered f xs) ≡ total (λ x. reads t (f x)) xs
reads_each t f [] = refl
reads_each t f (x ∷ xs) =
    let one = reads_then t (f x) (λ ys. and_then (gathered f xs) (λ zs. ends (ys ++ zs))) in
    let two = reads_then t (gathered f xs) (λ zs. ends (answer t (f x) ++ zs)) in
    let more = reads_each t f xs in
    omega (arith, one, two, more)

-- ---- predicates that hang on no position

-- at which nodes they hold, and how many reads they make at each
record Holding (t : Tree) (es : Exprs) : Type 0 where
  holds : Position → Bool
  cost : Position → ℕ
  keeps_these : (ns : List Position) → answer t (filtered es ns) ≡ filter holds ns
  costs_these : (ns : List Position) → reads t (filtered es ns) ≡ total cost ns

all_kept : (ns : List Position) → ns ≡ filter (λ m. true) ns
all_kept [] = refl
all_kept (n ∷ ns) = ap (λ (ms : List Position). n ∷ ms) (all_kept ns)

none_costs : (ns : List Position) → 0 ≡ total (λ m. 0) ns
none_costs [] = refl
none_costs (n ∷ ns) = let e = none_costs ns in omega (arith, e)

module _ (t : Tree) (e : Expr) (f : IsFree e) where
  abbrev holds_at : Position → Bool
  holds_at n = truth (answer t (value e (alone n)))

  one_kept : (size p : ℕ) (ns : List Position) → answer t (kept_by (λ c. value e c) size p ns) ≡ filter holds_at ns
  one_kept size p [] = refl
  one_kept size p (n ∷ ns) =
      let c : Context = record { at = n; proximity = p; size = size } in
      answer-and_then t (value e c) (λ v. and_then (kept_by (λ c. value e c) size (p + 1) ns) (λ kept. ends (if keeps v p then n ∷ kept else kept)))
      ∙ answer-and_then t (kept_by (λ c. value e c) size (p + 1) ns) (λ kept. ends (if keeps (answer t (value e c)) p then n ∷ kept else kept))
      ∙ ap (λ b. if b then n ∷ answer t (kept_by (λ c. value e c) size (p + 1) ns) else answer t (kept_by (λ c. value e c) size (p + 1) ns)) (f.whole t c p ∙ ap (λ q. truth (answer t q)) (f.same c))
      ∙ ap (λ (ms : List Position). if holds_at n then n ∷ ms else ms) (one_kept size (p + 1) ns)

  one_costs : (size p : ℕ) (ns : List Position) → reads t (kept_by (λ c. value e c) size p ns) ≡ total (λ n. reads t (value e (alone n))) ns
  one_costs size p [] = refl
  one_costs size p (n ∷ ns) =
      let c : Context = record { at = n; proximity = p; size = size } in
      let one = reads_then t (value e c) (λ v. and_then (kept_by (λ c. value e c) size (p + 1) ns) (λ kept. ends (if keeps v p then n ∷ kept else kept))) in
      let two = reads_then t (kept_by (λ c. value e c) size (p + 1) ns) (λ kept. ends (if keeps (answer t (value e c)) p then n ∷ kept else kept)) in
      let here = ap (reads t) (f.same c) in
      let more = one_costs size (p + 1) ns in
      omega (arith, one, two, here, more)

holding : (t : Tree) (es : Exprs) → AreFree es → Holding t es
holding t no_more f = record { holds = λ m. true; cost = λ m. 0; keeps_these = all_kept; costs_these = none_costs }
holding t (then_expr e es) f =
    let rest : Holding t es = holding t es f.1 in
    let kept : List Position → Program (List Position) = λ ns. kept_by (λ c. value e c) (length ns) 1 ns in
    record {
      holds = λ n. holds_at t e f.0 n && rest.holds n;
      cost = λ n. reads t (value e (alone n)) + (if holds_at t e f.0 n then rest.cost n else 0);
      keeps_these = λ ns.
          answer-and_then t (kept ns) (λ ms. filtered es ms)
          ∙ rest.keeps_these (answer t (kept ns))
          ∙ ap (filter rest.holds) (one_kept t e f.0 (length ns) 1 ns)
          ∙ sym (filter_both (holds_at t e f.0) rest.holds ns);
      costs_these = λ ns.
          reads_then t (kept ns) (λ ms. filtered es ms)
          ∙ (λ i. one_costs t e f.0 (length ns) 1 ns i + (rest.costs_these (answer t (kept ns)) ∙ ap (total rest.cost) (one_kept t e f.0 (length ns) 1 ns)) i)
          ∙ total_where (λ n. reads t (value e (alone n))) rest.cost (holds_at t e f.0) ns;
    }

-- ---- the rows of a tree

flat_joined : {A B : Type 0} (f : A → List B) (xs ys : List A) → flat f (xs ++ ys) ≡ flat f xs ++ flat f ys
flat_joined f [] ys = refl
flat_joined f (x ∷ xs) ys = ap (λ zs. f x ++ zs) (flat_joined f xs ys) ∙ sym (append_assoc (f x) (flat f xs) (flat f ys))

both_parts : {A : Type 0} (P : A → Type 0) (xs ys : List A) → AllByRecursion P (xs ++ ys) → AllByRecursion P xs × AllByRecursion P ys
both_parts P [] ys h = (tt, h)
both_parts P (x ∷ xs) ys h = let more = both_parts P xs ys h.1 in ((h.0, more.0), more.1)

mixed : (s r x f : Bool) → ((s || r) || (x || f)) ≡ ((s || x) || (r || f))
mixed true r x f = refl
mixed false true true f = refl
mixed false true false f = refl
mixed false false true f = refl
mixed false false false f = refl

module _ (t : Tree) where
  -- what a forest finds the tree finds
  abbrev Reached : Forest → Type 0
  Reached f = (k : Label) → found (at k f) ≡ true → at k t.documents ≡ at k f

  module _ (p b l : Label) (r : Record) (ats : Attributes) (ch nx : Forest) (w : KeysRise p b (node l r ats ch nx)) (h : Reached (node l r ats ch nx)) where
    abbrev Whole : Forest
    Whole = node l r ats ch nx

    reached_here : at l t.documents ≡ Whole
    reached_here = let e : at l Whole ≡ Whole = ap (λ s. choose s none Whole (at l ch) (at l nx)) (side_itself l) in h l (ap found e) ∙ e

    reached_below : Reached ch
    reached_below k y =
        let e : at k Whole ≡ at k ch = ap (λ s. choose s none Whole (at k ch) (at k nx)) (found_under l l k ch w.4 y) in
        h k (ap found e ∙ y) ∙ e

    reached_behind : Reached nx
    reached_behind k y =
        let e : at k Whole ≡ at k nx = ap (λ s. choose s none Whole (at k ch) (at k nx)) (found_right p l k l nx w.5 w.0 (inr refl) y) in
        h k (ap found e ∙ y) ∙ e

  -- the children of a node that is found
  reached_children : (l p b : Label) (f : Forest) (m : Label) (r : Record) (ats : Attributes) (ch nx : Forest) → KeysRise p b f → Reached f → at l f ≡ node m r ats ch nx → Reached ch
  reached_children l p b none m r ats ch nx w h e = absurd (true≢false (sym (ap found e)))
  reached_children l p b (node k q bs dh mx) m r ats ch nx w h e =
      by (side k l) refl
      (λ g. reached_children l k k dh m r ats ch nx w.4 (reached_below p b k q bs dh mx w h) g)
      (λ g. reached_children l p k mx m r ats ch nx w.5 (reached_behind p b k q bs dh mx w h) g)
    where
      chosen : (s : Side) → side k l ≡ s → choose s none (node k q bs dh mx) (at l dh) (at l mx) ≡ node m r ats ch nx
      chosen s g = sym (ap (λ s. choose s none (node k q bs dh mx) (at l dh) (at l mx)) g) ∙ e

      by : (s : Side) → side k l ≡ s → (at l dh ≡ node m r ats ch nx → Reached ch) → (at l mx ≡ node m r ats ch nx → Reached ch) → Reached ch
      by above g down on = absurd (true≢false (sym (ap found (chosen above g))))
      by left g down on = absurd (true≢false (sym (ap found (chosen left g))))
      by same g down on = subst Reached (ap below (chosen same g)) (reached_below p b k q bs dh mx w h)
      by under g down on = down (chosen under g)
      by right g down on = on (chosen right g)

  -- ---- the rows of all nodes make up what lies below

  module _ (q : Position → Bool) where
    abbrev row_of : Position → List Position
    row_of k = filter q (answer t (children k))

    first_among : (m a : Position) (xs : List Position) → is_among m (filter q (a ∷ xs)) ≡ ((q a && is_same m a) || is_among m (filter q xs))
    first_among m a xs = elim (q a) as (λ b. is_among m (cond b (a ∷ filter q xs) (filter q xs)) ≡ ((b && is_same m a) || is_among m (filter q xs))) [ true ↦ refl | false ↦ refl ]

    rows_among : (m : Position) (p b : Label) (f : Forest) → KeysRise p b f → Reached f
        → (is_among m (filter q (row_seen f)) || is_among m (flat row_of (all_seen f))) ≡ is_among m (filter q (all_seen f))
    rows_among m p b none w h = refl
    rows_among m p b (node l r ats ch nx) w h =
        let a : Position = a_node l r in
        let own : row_of a ≡ filter q (row_seen ch) = ap (λ g. filter q (row_seen (below g))) (reached_here p b l r ats ch nx w h) in
        let s : Bool = q a && is_same m a in
        let one = rows_among m l l ch w.4 (reached_below p b l r ats ch nx w h) in
        let two = rows_among m p l nx w.5 (reached_behind p b l r ats ch nx w h) in
        let flats : is_among m (flat row_of (all_seen (node l r ats ch nx))) ≡ (is_among m (filter q (all_seen ch)) || is_among m (flat row_of (all_seen nx))) =
        ap (is_among m) (flat_joined row_of (a ∷ all_seen ch) (all_seen nx))
        ∙ list_any-append (λ n. is_same m n) (row_of a ++ flat row_of (all_seen ch)) (flat row_of (all_seen nx))
        ∙ ap (λ x. x || is_among m (flat row_of (all_seen nx))) (list_any-append (λ n. is_same m n) (row_of a) (flat row_of (all_seen ch)) ∙ ap (λ (ns : List Position). is_among m ns || is_among m (flat row_of (all_seen ch))) own ∙ one) in
        let alls : is_among m (filter q (all_seen (node l r ats ch nx))) ≡ ((s || is_among m (filter q (all_seen ch))) || is_among m (filter q (all_seen nx))) =
        ap (is_among m) (filter_joined q (a ∷ all_seen ch) (all_seen nx))
        ∙ list_any-append (λ n. is_same m n) (filter q (a ∷ all_seen ch)) (filter q (all_seen nx))
        ∙ ap (λ x. x || is_among m (filter q (all_seen nx))) (first_among m a (all_seen ch)) in
        (λ i. first_among m a (row_seen nx) i || flats i)
        ∙ mixed s (is_among m (filter q (row_seen nx))) (is_among m (filter q (all_seen ch))) (is_among m (flat row_of (all_seen nx)))
        ∙ ap (λ x. (s || is_among m (filter q (all_seen ch))) || x) two
        ∙ sym alls

    rows_hold : (P : Position → Type 0) (p b : Label) (f : Forest) → KeysRise p b f → Reached f → AllByRecursion P (all_seen f)
        → AllByRecursion P (row_seen f) × AllByRecursion P (flat row_of (all_seen f))
    rows_hold P p b none w h all = (tt, tt)
    rows_hold P p b (node l r ats ch nx) w h all =
        let a : Position = a_node l r in
        let own : row_of a ≡ filter q (row_seen ch) = ap (λ g. filter q (row_seen (below g))) (reached_here p b l r ats ch nx w h) in
        let parts = both_parts P (a ∷ all_seen ch) (all_seen nx) all in
        let one = rows_hold P l l ch w.4 (reached_below p b l r ats ch nx w h) parts.0.1 in
        let two = rows_hold P p l nx w.5 (reached_behind p b l r ats ch nx w h) parts.1 in (
          (all.0, two.0),
          subst (AllByRecursion P) (sym (flat_joined row_of (a ∷ all_seen ch) (all_seen nx)))
              (all_joined P (row_of a ++ flat row_of (all_seen ch)) (flat row_of (all_seen nx))
              (all_joined P (row_of a) (flat row_of (all_seen ch)) (subst (AllByRecursion P) (sym own) (all_filtered P q (row_seen ch) one.0)) one.1) two.1),
        )

    -- and so do their sums
    module _ (c : Position → ℕ) where
      abbrev sum : List Position → ℕ
      sum ns = total c (filter q ns)

      sum_joined : (ns ms : List Position) → sum (ns ++ ms) ≡ sum ns + sum ms
      sum_joined ns ms = ap (total c) (filter_joined q ns ms) ∙ total_joined c (filter q ns) (filter q ms)

      abbrev row_sum : Position → ℕ
      row_sum k = sum (answer t (children k))

      rows_total : (p b : Label) (f : Forest) → KeysRise p b f → Reached f → sum (row_seen f) + total row_sum (all_seen f) ≡ sum (all_seen f)
      rows_total p b none w h = refl
      rows_total p b (node l r ats ch nx) w h =
          let a : Position = a_node l r in
          let own : row_sum a ≡ sum (row_seen ch) = ap (λ g. sum (row_seen (below g))) (reached_here p b l r ats ch nx w h) in
          let one = rows_total l l ch w.4 (reached_below p b l r ats ch nx w h) in
          let two = rows_total p l nx w.5 (reached_behind p b l r ats ch nx w h) in
          let row = sum_joined (a ∷ []) (row_seen nx) in
          let flats = total_joined row_sum (a ∷ all_seen ch) (all_seen nx) in
          let alls = sum_joined (a ∷ all_seen ch) (all_seen nx) in
          let first = sum_joined (a ∷ []) (all_seen ch) in
          omega (arith, own, one, two, row, flats, alls, first)

-- ---- programs that answer the same, the second one with no more reads

record Shorter {A : Type 0} (t : Tree) (p q : Program A) : Type 0 where
  same : answer t q ≡ answer t p
  fewer : reads t q ≤ reads t p

as_short : {A : Type 0} (t : Tree) (p : Program A) → Shorter t p p
as_short t p = record { same = refl; fewer = omega arith }

shorter_then : {A B : Type 0} (t : Tree) (p q : Program A) (f : A → Program B) → Shorter t p q → Shorter t (and_then p f) (and_then q f)
shorter_then t p q f h = record {
  same = answer-and_then t q f ∙ ap (λ a. answer t (f a)) h.same ∙ sym (answer-and_then t p f);
  fewer =
      let one = reads_then t p f in
      let two = reads_then t q f in
      let less = h.fewer in
      let rest = ap (λ a. reads t (f a)) h.same in
      omega (arith, one, two, less, rest);
}

then_shorter : {A B : Type 0} (t : Tree) (p : Program A) (f g : A → Program B) → Shorter t (f (answer t p)) (g (answer t p)) → Shorter t (and_then p f) (and_then p g)
then_shorter t p f g h = record {
  same = answer-and_then t p g ∙ h.same ∙ sym (answer-and_then t p f);
  fewer =
      let one = reads_then t p f in
      let two = reads_then t p g in
      let less = h.fewer in
      omega (arith, one, two, less);
}

-- ---- the first two steps, from a node

module _ (z : NodeTest) (es : Exprs) (ss : Steps) where
  abbrev pub two_steps : Steps
  two_steps = step DescendantOrSelf test.Node no_more (step Child z es ss)

  abbrev pub one_step : Steps
  one_step = step Descendant z es ss

  -- the second step from a node
  abbrev from_each : Position → Program (List Position)
  from_each k = and_then (along Child z k) (λ ms. filtered es (filter (passes Child z) ms))

  tests_alike : (m : Position) → passes Descendant z m ≡ passes Child z m
  tests_alike (a_node l r) = refl
  tests_alike (an_attribute l n v) = by z
    where
      by : (z : NodeTest) → passes Descendant z (an_attribute l n v) ≡ passes Child z (an_attribute l n v)
      by (test.Name m) = refl
      by test.Any = refl
      by test.Text = refl
      by test.Node = refl

  module _ (t : Tree) (valid : IsValidTree t) (free : AreFree es) where
    abbrev kept_here : Holding t es
    kept_here = holding t es free

    abbrev is_kept : Position → Bool
    is_kept m = passes Child z m && kept_here.holds m

    module _ (l : Label) (r : Record) (i : At t (a_node l r)) where
      abbrev it : HasNode t.documents l r
      it = has_node t valid l r i

      abbrev below_it : List Position
      below_it = drop 1 (tree_seen (at l t.documents))

      below_is : below_it ≡ all_seen it.children
      below_is = ap (λ g. drop 1 (tree_seen g)) it.is

      rises : KeysRise l l it.children
      rises = children_rise t valid l r it

      reached : Reached t it.children
      reached = reached_children t l root root t.documents l r it.attributes it.children it.behind valid.keys (λ k y. refl) it.is

      all_there : AllAmong (positions t) (all_seen it.children)
      all_there = (subst (AllAmong (positions t)) (all_are t valid l r it ∙ ap tree_seen it.is) (filtered_among (NodeIn l) (positions t))).1

      -- all from the node down, in order
      whole_is : in_order (filter (passes DescendantOrSelf test.Node) (a_node l r ∷ below_it) ++ []) ≡ a_node l r ∷ all_seen it.children
      whole_is =
          ap in_order (append-nil (filter (passes DescendantOrSelf test.Node) (a_node l r ∷ below_it)) ∙ all_pass (a_node l r ∷ below_it))
          ∙ sym (rising_is_ordered (a_node l r ∷ below_it) (whole_rises t valid (a_node l r)))
          ∙ ap (λ (ns : List Position). a_node l r ∷ ns) below_is

      own_row : (q : Position → Bool) → row_of t q (a_node l r) ≡ filter q (row_seen it.children)
      own_row q = ap (λ g. filter q (row_seen (below g))) it.is

      abbrev gathered_here : List Position
      gathered_here = flat (row_of t is_kept) (a_node l r ∷ all_seen it.children)

      each_row : (k : Position) → answer t (from_each k) ≡ row_of t is_kept k
      each_row k =
          answer-and_then t (children k) (λ ms. filtered es (filter (passes Child z) ms))
          ∙ kept_here.keeps_these (filter (passes Child z) (answer t (children k)))
          ∙ sym (filter_both (passes Child z) kept_here.holds (answer t (children k)))

      all_alike : (f g : Position → List Position) → ((k : Position) → f k ≡ g k) → (ns : List Position) → flat f ns ≡ flat g ns
      all_alike f g h [] = refl
      all_alike f g h (n ∷ ns) = λ j. h n j ++ all_alike f g h ns j

      rows_are : answer t (gathered from_each (a_node l r ∷ all_seen it.children)) ≡ gathered_here
      rows_are =
          answer-gathered t from_each (a_node l r ∷ all_seen it.children)
          ∙ all_alike (λ k. answer t (from_each k)) (row_of t is_kept) each_row (a_node l r ∷ all_seen it.children)

      walk_is : answer t (filtered es (filter (passes Descendant z) below_it)) ≡ filter is_kept (all_seen it.children)
      walk_is =
          ap (λ (ns : List Position). answer t (filtered es ns)) (filter_on (passes Descendant z) (passes Child z) tests_alike below_it ∙ ap (filter (passes Child z)) below_is)
          ∙ kept_here.keeps_these (filter (passes Child z) (all_seen it.children))
          ∙ sym (filter_both (passes Child z) kept_here.holds (all_seen it.children))

      among_alike : (m : Position) → is_among m gathered_here ≡ is_among m (filter is_kept (all_seen it.children))
      among_alike m =
          list_any-append (λ n. is_same m n) (row_of t is_kept (a_node l r)) (flat (row_of t is_kept) (all_seen it.children))
          ∙ ap (λ (ns : List Position). is_among m ns || is_among m (flat (row_of t is_kept) (all_seen it.children))) (own_row is_kept)
          ∙ rows_among t is_kept m l l it.children rises reached

      gathered_there : AllAmong (positions t) gathered_here
      gathered_there =
          let parts = rows_hold t is_kept (λ n. At t n) l l it.children rises reached all_there in
          all_joined (λ n. At t n) (row_of t is_kept (a_node l r)) (flat (row_of t is_kept) (all_seen it.children))
          (subst (AllByRecursion (λ n. At t n)) (sym (own_row is_kept)) (all_filtered (λ n. At t n) is_kept (row_seen it.children) parts.0)) parts.1

      sets_alike : in_order (answer t (filtered es (filter (passes Descendant z) below_it)) ++ []) ≡ in_order (answer t (gathered from_each (a_node l r ∷ all_seen it.children)))
      sets_alike =
          ap in_order (append-nil (answer t (filtered es (filter (passes Descendant z) below_it))) ∙ walk_is)
          ∙ in_order_is (positions t) (positions_rise t valid) (filter is_kept (all_seen it.children)) (all_filtered (λ n. At t n) is_kept (all_seen it.children) all_there)
          ∙ filter_on (λ m. is_among m (filter is_kept (all_seen it.children))) (λ m. is_among m gathered_here) (λ m. sym (among_alike m)) (positions t)
          ∙ sym (in_order_is (positions t) (positions_rise t valid) gathered_here gathered_there)
          ∙ ap in_order (sym rows_are)

      -- ---- reads

      abbrev sum_of : List Position → ℕ
      sum_of = sum t (passes Child z) kept_here.cost

      walk_costs : reads t (filtered es (filter (passes Descendant z) below_it)) ≡ sum_of (all_seen it.children)
      walk_costs =
          ap (λ (ns : List Position). reads t (filtered es ns)) (filter_on (passes Descendant z) (passes Child z) tests_alike below_it ∙ ap (filter (passes Child z)) below_is)
          ∙ kept_here.costs_these (filter (passes Child z) (all_seen it.children))

      one_row_costs : (k : Position) → row_sum t (passes Child z) kept_here.cost k ≤ reads t (from_each k)
      one_row_costs k =
          let both = reads_then t (children k) (λ ms. filtered es (filter (passes Child z) ms)) in
          let here = kept_here.costs_these (filter (passes Child z) (answer t (children k))) in
          omega (arith, both, here)

      rows_cost : (ns : List Position) → total (row_sum t (passes Child z) kept_here.cost) ns ≤ total (λ k. reads t (from_each k)) ns
      rows_cost [] = omega arith
      rows_cost (n ∷ ns) = let one = one_row_costs n in let more = rows_cost ns in omega (arith, one, more)

      fewer_here : reads t (filtered es (filter (passes Descendant z) below_it)) ≤ reads t (gathered from_each (a_node l r ∷ all_seen it.children))
      fewer_here =
          let own : row_sum t (passes Child z) kept_here.cost (a_node l r) ≡ sum_of (row_seen it.children) = ap (λ g. sum_of (row_seen (below g))) it.is in
          let walk = walk_costs in
          let rows = rows_total t (passes Child z) kept_here.cost l l it.children rises reached in
          let each = reads_each t from_each (a_node l r ∷ all_seen it.children) in
          let all = rows_cost (a_node l r ∷ all_seen it.children) in
          omega (arith, own, walk, rows, each, all)

      -- ---- the programs

      abbrev then_all : List Position → Program (List Position)
      then_all all = taken ss (in_order all)

      abbrev walk : Program (List Position)
      walk = and_then (filtered es (filter (passes Descendant z) below_it)) (λ ys. ends (ys ++ []))

      walk_answers : answer t walk ≡ answer t (filtered es (filter (passes Descendant z) below_it)) ++ []
      walk_answers = answer-and_then t (filtered es (filter (passes Descendant z) below_it)) (λ ys. ends (ys ++ []))

      rest_shorter : Shorter t (taken (step Child z es ss) (a_node l r ∷ all_seen it.children)) (and_then walk then_all)
      rest_shorter =
          let each : Program (List Position) = gathered from_each (a_node l r ∷ all_seen it.children) in
          let sets : in_order (answer t walk) ≡ in_order (answer t each) = ap in_order walk_answers ∙ sets_alike in
          record {
            same = answer-and_then t walk then_all ∙ ap (λ (ns : List Position). answer t (taken ss ns)) sets ∙ sym (answer-and_then t each then_all);
            fewer =
                let one = reads_then t walk then_all in
                let two = reads_then t each then_all in
                let inner = reads_then t (filtered es (filter (passes Descendant z) below_it)) (λ ys. ends (ys ++ [])) in
                let less = fewer_here in
                let rest = ap (λ (ns : List Position). reads t (taken ss ns)) sets in
                omega (arith, one, two, inner, less, rest);
          }

      node_shorter : Shorter t (taken two_steps (a_node l r ∷ [])) (taken one_step (a_node l r ∷ []))
      node_shorter =
          let two : Shorter t (taken (step Child z es ss) (in_order (filter (passes DescendantOrSelf test.Node) (a_node l r ∷ below_it) ++ []))) (and_then walk then_all) =
          subst (λ (ns : List Position). Shorter t (taken (step Child z es ss) ns) (and_then walk then_all)) (sym whole_is) rest_shorter in
          record { same = two.same; fewer = let less = two.fewer in omega (arith, less) }

    attribute_alike : (l : Label) (n v : List ℕ) → taken one_step (an_attribute l n v ∷ []) ≡ taken two_steps (an_attribute l n v ∷ [])
    attribute_alike l n v = refl

    one_shorter : (n : Position) → At t n → Shorter t (taken two_steps (n ∷ [])) (taken one_step (n ∷ []))
    one_shorter (a_node l r) i = node_shorter l r i
    one_shorter (an_attribute l n v) i = subst (λ p. Shorter t (taken two_steps (an_attribute l n v ∷ [])) p) (sym (attribute_alike l n v)) (as_short t (taken two_steps (an_attribute l n v ∷ [])))

    -- ---- the call

    node_there : (l m : Label) (r : Record) (ats : Attributes) (ch nx : Forest) → at l t.documents ≡ node m r ats ch nx → At t (a_node m r)
    node_there l m r ats ch nx e =
        let is : m ≡ l = some_is m l (sym (ap head_label e) ∙ at_label l t.documents (ap found e)) in
        node_at t valid m r (record { attributes = ats; children = ch; behind = nx; is = ap (λ k. at k t.documents) is ∙ e })

    from_start : (b : Bool) (n : Position) → At t n → Shorter t (find_from b two_steps n) (find_from b one_step n)
    from_start false n i = one_shorter n i
    from_start true n i =
        let document : Label = document_of (label_of n) in
        then_shorter t (start true n) (λ ns. taken two_steps ns) (λ ns. taken one_step ns) (by document (at document t.documents) refl)
      where
        by : (d : Label) (g : Forest) → at d t.documents ≡ g → Shorter t (taken two_steps (head_seen g)) (taken one_step (head_seen g))
        by d none e = as_short t (taken two_steps [])
        by d (node m r ats ch nx) e = one_shorter (a_node m r) (node_there d m r ats ch nx e)

    find_shorter : (b : Bool) (l : Label) → Shorter t (find l (record { is_absolute = b; steps = two_steps })) (find l (record { is_absolute = b; steps = one_step }))
    find_shorter b l =
        let one : Shorter t (found_by (record { is_absolute = b; steps = two_steps }) (head_seen (at l t.documents))) (found_by (record { is_absolute = b; steps = one_step }) (head_seen (at l t.documents))) =
        by (at l t.documents) refl in
        record { same = one.same; fewer = let less = one.fewer in omega (arith, less) }
      where
        by : (g : Forest) → at l t.documents ≡ g
            → Shorter t (found_by (record { is_absolute = b; steps = two_steps }) (head_seen g)) (found_by (record { is_absolute = b; steps = one_step }) (head_seen g))
        by none e = as_short t (found_by (record { is_absolute = b; steps = two_steps }) [])
        by (node m r ats ch nx) e = shorter_then t (find_from b two_steps (a_node m r)) (find_from b one_step (a_node m r)) (λ ms. ends (hits ms)) (from_start b (a_node m r) (node_there l m r ats ch nx e))

  pub walk_finds : (b : Bool) → AreFree es → FindsTheSame (record { is_absolute = b; steps = two_steps }) (record { is_absolute = b; steps = one_step })
  walk_finds b free = record {
    same = λ t l valid. (find_shorter t valid free b l).same;
    fewer = λ t l valid. (find_shorter t valid free b l).fewer;
  }

-- The answer of a path's program is the set that the path means, where the looks of axes show what the axes relate.
use Rattle.std.proofs.Common.{◌≡◌, ℕ, ◌+◌, Bool, true, false, not, ◌&&◌, ◌||◌, if◌then◌else◌, List, [], ◌∷◌, ◌++◌, map, drop, length, reverse, refl, sym, ap, ◌∙◌}
use Rattle.std.specs.List.{AllByRecursion, filter}
use Rattle.std.specs.Str.{chars}
use Rattle.tree_model.specs.Tree.{Tree}
use Rattle.tree_model.specs.ValidTrees.{IsValidTree}
use Rattle.path_model.specs.declared.path.Axis.{Axis}
use Rattle.path_model.specs.declared.path.NodeTest.{NodeTest}
use Rattle.path_model.specs.declared.path.CompareOp.{CompareOp}
use Rattle.path_model.specs.declared.path.CompareOp.TheVariants as by
use Rattle.path_model.specs.declared.path.Op.{Op}
use Rattle.path_model.specs.declared.path.Op.TheVariants as op
use Rattle.path_model.specs.Paths.{Expr, path, literal, apply, Exprs, no_more, then_expr, Steps, no_steps, step}
use Rattle.path_model.specs.Paths as paths
use Rattle.path_model.specs.Positions.{Position, positions, label_of, passes}
use Rattle.path_model.specs.Axes.{document_of, relates, is_reverse, on_axis}
use Rattle.path_model.specs.AxisPrograms.{along}
use Rattle.path_model.specs.Numbers.{Num, plus, minus, times}
use Rattle.path_model.specs.Values.{ValueOf, nodes, text, flag, Strings, truth, text_in, number_in, compare, same_flag}
use Rattle.path_model.specs.Values as values
use Rattle.path_model.specs.Texts.{joined, begins_with, contains_text, cut_at, before_part, behind_part, normal_from}
use Rattle.path_model.specs.Functions.{Value, Context, first_of, second_of, first_or_context, nodes_in, whole, zero_number, added_up, part_of, strings_of, text_of, number_of, computed, keeps}
use Rattle.path_model.specs.Functions as functions
use Rattle.path_model.specs.Meaning as meaning
use Rattle.path_model.specs.Meaning.{union, own_document, begun, holding, value_in, some_hold, all_hold, values_in, kept, reached, found_from}
use Rattle.path_model.specs.Programs.{at_node, Program, ends, looks, answer, and_then, gathered}
use Rattle.path_model.specs.Evaluation.{in_order, string_value, string_values, with_strings, with_first, compared, in_number, in_numbers, in_text, in_texts, texts_of, numbers_of, by_strings, part, applied, kept_by, start, value, settled, operands, filtered, taken, find_from}
use Rattle.path_model.proofs.ProgramAnswers.{answer-and_then, answer-gathered, flat, flat_on}
use Rattle.path_model.proofs.OrderLaws.{union_is}
use Rattle.path_model.specs.Sets.{At, AllAt}
use Rattle.path_model.proofs.Members.{all_joined, all_reversed, filtered_among}

-- ---- what looks show of a tree

-- the looks of the axes, of string-values and of the document show what these mean
pub record LooksTrue (t : Tree) : Type 0 where
  pub axes : (a : Axis) (test : NodeTest) (n : Position) → At t n → filter (passes a test) (answer t (along a test n)) ≡ on_axis t a test n
  pub documents : (n : Position) → At t n → answer t (looks (at_node (document_of (label_of n))) ends) ≡ own_document t n
  pub strings : (n : Position) → At t n → answer t (string_value n) ≡ meaning.string_value t n

-- ---- what stays among the positions of the tree

-- the nodes of a value are positions
abbrev pub FitsIn : Tree → Value → Type 0
FitsIn t (nodes ns) = AllAt t ns
FitsIn t (values.number n) = Unit {0}
FitsIn t (text s) = Unit {0}
FitsIn t (flag b) = Unit {0}

module _ (t : Tree) where
  axis_at : (a : Axis) (test : NodeTest) (n : Position) → AllAt t (on_axis t a test n)
  axis_at a test n =
      let found : List Position = filter (λ m. relates a n m && passes a test m) (positions t) in
      elim (is_reverse a) as (λ b. AllAt t (if b then reverse found else found)) [
        | true ↦ all_reversed (At t) found (filtered_among (λ m. relates a n m && passes a test m) (positions t))
        | false ↦ filtered_among (λ m. relates a n m && passes a test m) (positions t)
      ]

  holding_at : (test : Context → Value) (size p : ℕ) (ns : List Position) → AllAt t ns → AllAt t (holding test size p ns)
  holding_at test size p [] h = tt
  holding_at test size p (n ∷ ns) h =
      elim (keeps (test (record { at = n; proximity = p; size = size })) p) as (λ b. AllAt t (if b then n ∷ holding test size (p + 1) ns else holding test size (p + 1) ns)) [
        | true ↦ (h.0, holding_at test size (p + 1) ns h.1)
        | false ↦ holding_at test size (p + 1) ns h.1
      ]

  kept_at : (es : Exprs) (ns : List Position) → AllAt t ns → AllAt t (kept t es ns)
  kept_at no_more ns h = h
  kept_at (then_expr e es) ns h = kept_at es (holding (λ c. value_in t e c) (length ns) 1 ns) (holding_at (λ c. value_in t e c) (length ns) 1 ns h)

  union_at : (leads : Position → List Position) (ns : List Position) → AllAt t (union t leads ns)
  union_at leads ns = filtered_among _ (positions t)

  flat_at : (leads : Position → List Position) → ((n : Position) → AllAt t (leads n)) → (ns : List Position) → AllAt t (flat leads ns)
  flat_at leads h [] = tt
  flat_at leads h (n ∷ ns) = all_joined (At t) (leads n) (flat leads ns) (h n) (flat_at leads h ns)

  pub begun_at : (b : Bool) (n : Position) → At t n → AllAt t (begun t b n)
  begun_at true n h = filtered_among _ (positions t)
  begun_at false n h = (h, tt)

  pub reached_at : (ss : Steps) (ns : List Position) → AllAt t ns → AllAt t (reached t ss ns)
  reached_at no_steps ns h = h
  reached_at (step a test es ss) ns h = reached_at ss (union t (λ n. kept t es (on_axis t a test n)) ns) (union_at (λ n. kept t es (on_axis t a test n)) ns)

  computed_fits : (o : Op) (vs : List Value) (c : Context) → FitsIn t (computed (meaning.string_value t) o vs c)
  computed_fits op.Or vs c = tt
  computed_fits op.And vs c = tt
  computed_fits op.Eq vs c = tt
  computed_fits op.Ne vs c = tt
  computed_fits op.Lt vs c = tt
  computed_fits op.Le vs c = tt
  computed_fits op.Gt vs c = tt
  computed_fits op.Ge vs c = tt
  computed_fits op.Add vs c = tt
  computed_fits op.Sub vs c = tt
  computed_fits op.Mul vs c = tt
  computed_fits op.Negate vs c = tt
  computed_fits op.Position vs c = tt
  computed_fits op.Last vs c = tt
  computed_fits op.Count vs c = tt
  computed_fits op.Sum vs c = tt
  computed_fits op.NameOf vs c = tt
  computed_fits op.StringOf vs c = tt
  computed_fits op.Concat vs c = tt
  computed_fits op.StartsWith vs c = tt
  computed_fits op.Contains vs c = tt
  computed_fits op.SubstringBefore vs c = tt
  computed_fits op.SubstringAfter vs c = tt
  computed_fits op.Substring vs c = tt
  computed_fits op.StringLength vs c = tt
  computed_fits op.NormalizeSpace vs c = tt
  computed_fits op.BooleanOf vs c = tt
  computed_fits op.Not vs c = tt
  computed_fits op.TrueOf vs c = tt
  computed_fits op.FalseOf vs c = tt
  computed_fits op.NumberOf vs c = tt

  value_fits : (e : Expr) (c : Context) → At t c.at → FitsIn t (value_in t e c)
  value_fits (path b ss) c h = reached_at ss (begun t b c.at) (begun_at b c.at h)
  value_fits (paths.number z) c h = tt
  value_fits (literal s) c h = tt
  value_fits (apply op.Or es) c h = tt
  value_fits (apply op.And es) c h = tt
  value_fits (apply o es) c h = computed_fits o (values_in t es c) c

  values_fit : (es : Exprs) (c : Context) → At t c.at → AllByRecursion (FitsIn t) (values_in t es c)
  values_fit no_more c h = tt
  values_fit (then_expr e es) c h = (value_fits e c h, values_fit es c h)

-- ---- string-values

module _ (t : Tree) (valid : IsValidTree t) (w : LooksTrue t) where
  abbrev σ : Position → List ℕ
  σ = meaning.string_value t

  strings_are : (ns : List Position) → AllAt t ns → answer t (string_values ns) ≡ map σ ns
  strings_are [] h = refl
  strings_are (n ∷ ns) h =
      answer-gathered t (λ m. and_then (string_value m) (λ s. ends (s ∷ []))) (n ∷ ns)
      ∙ ap (λ ss. ss ++ flat (λ m. answer t (and_then (string_value m) (λ s. ends (s ∷ [])))) ns) (answer-and_then t (string_value n) (λ s. ends (s ∷ [])) ∙ ap (λ s. s ∷ []) (w.strings n h.0))
      ∙ ap (λ ss. σ n ∷ ss) (sym (answer-gathered t (λ m. and_then (string_value m) (λ s. ends (s ∷ []))) ns) ∙ strings_are ns h.1)

  with_strings_are : (v : Value) → FitsIn t v → answer t (with_strings v) ≡ strings_of σ v
  with_strings_are (nodes ns) h = answer-and_then t (string_values ns) (λ ss. ends (nodes ss)) ∙ ap nodes (strings_are ns h)
  with_strings_are (values.number n) h = refl
  with_strings_are (text s) h = refl
  with_strings_are (flag b) h = refl

  -- what needs the string-value of the first node alone
  first_number : (v : Value) → FitsIn t v → number_in (answer t (with_first v)) ≡ number_of σ v
  first_number (nodes []) h = refl
  first_number (nodes (n ∷ ns)) h = ap number_in (first_is n ns h)
    where
      first_is : (n : Position) (ns : List Position) → AllAt t (n ∷ ns) → answer t (with_first (nodes (n ∷ ns))) ≡ nodes (σ n ∷ [])
      first_is n ns h = answer-and_then t (and_then (string_value n) (λ s. ends (s ∷ []))) (λ ss. ends (nodes ss)) ∙ ap nodes (answer-and_then t (string_value n) (λ s. ends (s ∷ [])) ∙ ap (λ s. s ∷ []) (w.strings n h.0))
  first_number (values.number n) h = refl
  first_number (text s) h = refl
  first_number (flag b) h = refl

  first_text_is : (v : Value) → FitsIn t v → text_in (answer t (with_first v)) ≡ text_of σ v
  first_text_is (nodes []) h = refl
  first_text_is (nodes (n ∷ ns)) h = ap text_in (answer-and_then t (and_then (string_value n) (λ s. ends (s ∷ []))) (λ ss. ends (nodes ss)) ∙ ap nodes (answer-and_then t (string_value n) (λ s. ends (s ∷ [])) ∙ ap (λ s. s ∷ []) (w.strings n h.0)))
  first_text_is (values.number n) h = refl
  first_text_is (text s) h = refl
  first_text_is (flag b) h = refl

  -- ---- operators and functions

  both_are : (o : CompareOp) (v u : Value) → FitsIn t v → FitsIn t u
      → answer t (by_strings o v u) ≡ flag (compare o (strings_of σ v) (strings_of σ u))
  both_are o v u h g =
      answer-and_then {B = Value} t (with_strings v) (λ x. and_then (with_strings u) (λ y. ends (flag (compare o x y))))
      ∙ answer-and_then {B = Value} t (with_strings u) (λ y. ends (flag (compare o (answer t (with_strings v)) y)))
      ∙ ap (λ x. flag (compare o x (answer t (with_strings u)))) (with_strings_are v h)
      ∙ ap (λ y. flag (compare o (strings_of σ v) y)) (with_strings_are u g)

  filled_strings : (ns : List Position) → values.is_filled ns ≡ values.is_filled (map σ ns)
  filled_strings [] = refl
  filled_strings (n ∷ ns) = refl

  compared_are : (o : CompareOp) (v u : Value) → FitsIn t v → FitsIn t u → answer t (compared o v u) ≡ flag (compare o (strings_of σ v) (strings_of σ u))
  compared_are o (nodes ns) (nodes ms) h g = both_are o (nodes ns) (nodes ms) h g
  compared_are o (nodes ns) (values.number n) h g = both_are o (nodes ns) (values.number n) h g
  compared_are o (nodes ns) (text s) h g = both_are o (nodes ns) (text s) h g
  compared_are o (nodes ns) (flag b) h g = ap (λ x. flag (values.compare_single o (flag x) (flag b))) (filled_strings ns)
  compared_are o (flag b) (nodes ms) h g = ap (λ x. flag (values.compare_single o (flag b) (flag x))) (filled_strings ms)
  compared_are o (values.number n) u h g = both_are o (values.number n) u h g
  compared_are o (text s) u h g = both_are o (text s) u h g
  compared_are o (flag b) (values.number n) h g = both_are o (flag b) (values.number n) h g
  compared_are o (flag b) (text s) h g = both_are o (flag b) (text s) h g
  compared_are o (flag b) (flag d) h g = both_are o (flag b) (flag d) h g

  numbers_are : (f : Num → Num → Num) (v u : Value) → FitsIn t v → FitsIn t u → answer t (in_numbers f v u) ≡ values.number (f (number_of σ v) (number_of σ u))
  numbers_are f v u h g =
      answer-and_then t (with_first v) (λ x. and_then (with_first u) (λ y. ends (values.number (f (number_in x) (number_in y)))))
      ∙ answer-and_then t (with_first u) (λ y. ends (values.number (f (number_in (answer t (with_first v))) (number_in y))))
      ∙ ap (λ x. values.number (f x (number_in (answer t (with_first u))))) (first_number v h)
      ∙ ap (λ y. values.number (f (number_of σ v) y)) (first_number u g)

  number_is : (f : Num → Value) (v : Value) → FitsIn t v → answer t (in_number f v) ≡ f (number_of σ v)
  number_is f v h = answer-and_then t (with_first v) (λ x. ends (f (number_in x))) ∙ ap f (first_number v h)

  text_is : (f : List ℕ → Value) (v : Value) → FitsIn t v → answer t (in_text f v) ≡ f (text_of σ v)
  text_is f v h = answer-and_then t (with_first v) (λ x. ends (f (text_in x))) ∙ ap f (first_text_is v h)

  texts_are : (f : List ℕ → List ℕ → Value) (v u : Value) → FitsIn t v → FitsIn t u → answer t (in_texts f v u) ≡ f (text_of σ v) (text_of σ u)
  texts_are f v u h g =
      answer-and_then t (with_first v) (λ x. and_then (with_first u) (λ y. ends (f (text_in x) (text_in y))))
      ∙ answer-and_then t (with_first u) (λ y. ends (f (text_in (answer t (with_first v))) (text_in y)))
      ∙ ap (λ x. f x (text_in (answer t (with_first u)))) (first_text_is v h)
      ∙ ap (λ y. f (text_of σ v) y) (first_text_is u g)

  all_texts : (vs : List Value) → AllByRecursion (FitsIn t) vs → answer t (texts_of vs) ≡ map (text_of σ) vs
  all_texts [] h = refl
  all_texts (v ∷ vs) h =
      answer-gathered t (λ u. and_then (with_first u) (λ x. ends (text_in x ∷ []))) (v ∷ vs)
      ∙ ap (λ ss. ss ++ flat (λ u. answer t (and_then (with_first u) (λ x. ends (text_in x ∷ [])))) vs) (answer-and_then t (with_first v) (λ x. ends (text_in x ∷ [])) ∙ ap (λ s. s ∷ []) (first_text_is v h.0))
      ∙ ap (λ ss. text_of σ v ∷ ss) (sym (answer-gathered t (λ u. and_then (with_first u) (λ x. ends (text_in x ∷ []))) vs) ∙ all_texts vs h.1)

  all_numbers : (vs : List Value) → AllByRecursion (FitsIn t) vs → answer t (numbers_of vs) ≡ map (number_of σ) vs
  all_numbers [] h = refl
  all_numbers (v ∷ vs) h =
      answer-gathered t (λ u. and_then (with_first u) (λ x. ends (number_in x ∷ []))) (v ∷ vs)
      ∙ ap (λ ss. ss ++ flat (λ u. answer t (and_then (with_first u) (λ x. ends (number_in x ∷ [])))) vs) (answer-and_then t (with_first v) (λ x. ends (number_in x ∷ [])) ∙ ap (λ s. s ∷ []) (first_number v h.0))
      ∙ ap (λ ss. number_of σ v ∷ ss) (sym (answer-gathered t (λ u. and_then (with_first u) (λ x. ends (number_in x ∷ []))) vs) ∙ all_numbers vs h.1)

  first_fits : (vs : List Value) → AllByRecursion (FitsIn t) vs → FitsIn t (first_of vs)
  first_fits [] h = tt
  first_fits (v ∷ vs) h = h.0

  second_fits : (vs : List Value) → AllByRecursion (FitsIn t) vs → FitsIn t (second_of vs)
  second_fits [] h = tt
  second_fits (v ∷ []) h = tt
  second_fits (v ∷ u ∷ vs) h = h.1.0

  third_fit : (vs : List Value) → AllByRecursion (FitsIn t) vs → AllByRecursion (FitsIn t) (drop 2 vs)
  third_fit [] h = tt
  third_fit (v ∷ []) h = tt
  third_fit (v ∷ u ∷ vs) h = h.1.1

  context_fits : (vs : List Value) (c : Context) → At t c.at → AllByRecursion (FitsIn t) vs → FitsIn t (first_or_context vs c)
  context_fits [] c i h = (i, tt)
  context_fits (v ∷ vs) c i h = h.0

  nodes_at : (v : Value) → FitsIn t v → AllAt t (nodes_in v)
  nodes_at (nodes ns) h = h
  nodes_at (values.number n) h = tt
  nodes_at (text s) h = tt
  nodes_at (flag b) h = tt

  part_is : (vs : List Value) → AllByRecursion (FitsIn t) vs
      → answer t (part vs) ≡ text (part_of (text_of σ (first_of vs)) (number_of σ (second_of vs)) (map (number_of σ) (drop 2 vs)))
  part_is vs h =
      let x = answer t (with_first (first_of vs)) in
      let y = answer t (with_first (second_of vs)) in
      answer-and_then {B = Value} t (with_first (first_of vs)) (λ x. and_then (with_first (second_of vs)) (λ y. and_then (numbers_of (drop 2 vs)) (λ zs. ends (text (part_of (text_in x) (number_in y) zs)))))
      ∙ answer-and_then {B = Value} t (with_first (second_of vs)) (λ y. and_then (numbers_of (drop 2 vs)) (λ zs. ends (text (part_of (text_in x) (number_in y) zs))))
      ∙ answer-and_then {B = Value} t (numbers_of (drop 2 vs)) (λ zs. ends (text (part_of (text_in x) (number_in y) zs)))
      ∙ ap (λ s. text (part_of s (number_in y) (answer t (numbers_of (drop 2 vs))))) (first_text_is (first_of vs) (first_fits vs h))
      ∙ ap (λ n. text (part_of (text_of σ (first_of vs)) n (answer t (numbers_of (drop 2 vs))))) (first_number (second_of vs) (second_fits vs h))
      ∙ ap (λ zs. text (part_of (text_of σ (first_of vs)) (number_of σ (second_of vs)) zs)) (all_numbers (drop 2 vs) (third_fit vs h))

  compared_operands : (o : CompareOp) (vs : List Value) → AllByRecursion (FitsIn t) vs → answer t (compared o (first_of vs) (second_of vs)) ≡ functions.compared σ o vs
  compared_operands o vs h = compared_are o (first_of vs) (second_of vs) (first_fits vs h) (second_fits vs h)

  applied_is : (o : Op) (vs : List Value) (c : Context) → At t c.at → AllByRecursion (FitsIn t) vs → answer t (applied o vs c) ≡ computed σ o vs c
  applied_is op.Or vs c i h = refl
  applied_is op.And vs c i h = refl
  applied_is op.Eq vs c i h = compared_operands by.Eq vs h
  applied_is op.Ne vs c i h = compared_operands by.Ne vs h
  applied_is op.Lt vs c i h = compared_operands by.Lt vs h
  applied_is op.Le vs c i h = compared_operands by.Le vs h
  applied_is op.Gt vs c i h = compared_operands by.Gt vs h
  applied_is op.Ge vs c i h = compared_operands by.Ge vs h
  applied_is op.Add vs c i h = numbers_are plus (first_of vs) (second_of vs) (first_fits vs h) (second_fits vs h)
  applied_is op.Sub vs c i h = numbers_are minus (first_of vs) (second_of vs) (first_fits vs h) (second_fits vs h)
  applied_is op.Mul vs c i h = numbers_are times (first_of vs) (second_of vs) (first_fits vs h) (second_fits vs h)
  applied_is op.Negate vs c i h = number_is (λ x. values.number (minus zero_number x)) (first_of vs) (first_fits vs h)
  applied_is op.Position vs c i h = refl
  applied_is op.Last vs c i h = refl
  applied_is op.Count vs c i h = refl
  applied_is op.Sum vs c i h =
      answer-and_then t (string_values (nodes_in (first_of vs))) (λ ss. ends (values.number (added_up zero_number ss)))
      ∙ ap (λ ss. values.number (added_up zero_number ss)) (strings_are (nodes_in (first_of vs)) (nodes_at (first_of vs) (first_fits vs h)))
  applied_is op.NameOf vs c i h = refl
  applied_is op.StringOf vs c i h = text_is text (first_or_context vs c) (context_fits vs c i h)
  applied_is op.Concat vs c i h = answer-and_then t (texts_of vs) (λ ss. ends (text (joined ss))) ∙ ap (λ ss. text (joined ss)) (all_texts vs h)
  applied_is op.StartsWith vs c i h = texts_are (λ s p. flag (begins_with p s)) (first_of vs) (second_of vs) (first_fits vs h) (second_fits vs h)
  applied_is op.Contains vs c i h = texts_are (λ s p. flag (contains_text s p)) (first_of vs) (second_of vs) (first_fits vs h) (second_fits vs h)
  applied_is op.SubstringBefore vs c i h = texts_are (λ s p. text (before_part (cut_at p s))) (first_of vs) (second_of vs) (first_fits vs h) (second_fits vs h)
  applied_is op.SubstringAfter vs c i h = texts_are (λ s p. text (behind_part (cut_at p s))) (first_of vs) (second_of vs) (first_fits vs h) (second_fits vs h)
  applied_is op.Substring vs c i h = part_is vs h
  applied_is op.StringLength vs c i h = text_is (λ s. whole (length (chars s))) (first_or_context vs c) (context_fits vs c i h)
  applied_is op.NormalizeSpace vs c i h = text_is (λ s. text (normal_from false s)) (first_or_context vs c) (context_fits vs c i h)
  applied_is op.BooleanOf vs c i h = refl
  applied_is op.Not vs c i h = refl
  applied_is op.TrueOf vs c i h = refl
  applied_is op.FalseOf vs c i h = refl
  applied_is op.NumberOf vs c i h = number_is (λ x. values.number x) (first_or_context vs c) (context_fits vs c i h)

  -- ---- predicates and steps

  kept_by_is : (f : Context → Program Value) (g : Context → Value) → ((c : Context) → At t c.at → answer t (f c) ≡ g c) → (size p : ℕ) (ns : List Position) → AllAt t ns
      → answer t (kept_by f size p ns) ≡ holding g size p ns
  kept_by_is f g z size p [] h = refl
  kept_by_is f g z size p (n ∷ ns) h =
      let c : Context = record { at = n; proximity = p; size = size } in
      answer-and_then t (f c) (λ v. and_then (kept_by f size (p + 1) ns) (λ kept. ends (if keeps v p then n ∷ kept else kept)))
      ∙ answer-and_then t (kept_by f size (p + 1) ns) (λ kept. ends (if keeps (answer t (f c)) p then n ∷ kept else kept))
      ∙ ap (λ v. if keeps v p then n ∷ answer t (kept_by f size (p + 1) ns) else answer t (kept_by f size (p + 1) ns)) (z c h.0)
      ∙ ap (λ ms. if keeps (g c) p then n ∷ ms else ms) (kept_by_is f g z size (p + 1) ns h.1)

  pub start_is : (b : Bool) (n : Position) → At t n → answer t (start b n) ≡ begun t b n
  start_is true n h = w.documents n h
  start_is false n h = refl

  mutual
    pub value_is : (e : Expr) (c : Context) → At t c.at → answer t (value e c) ≡ value_in t e c
    value_is (path b ss) c h =
        answer-and_then t (and_then (start b c.at) (λ ns. taken ss ns)) (λ ns. ends (nodes ns))
        ∙ ap nodes (answer-and_then t (start b c.at) (λ ns. taken ss ns) ∙ ap (λ ns. answer t (taken ss ns)) (start_is b c.at h) ∙ taken_is ss (begun t b c.at) (begun_at t b c.at h))
    value_is (paths.number z) c h = refl
    value_is (literal s) c h = refl
    value_is (apply op.Or es) c h = some_is es c h
    value_is (apply op.And es) c h = all_is es c h
    value_is (apply o es) c h =
        answer-and_then t (operands es c) (λ vs. applied o vs c)
        ∙ ap (λ vs. answer t (applied o vs c)) (operands_are es c h)
        ∙ applied_is o (values_in t es c) c h (values_fit t es c h)

    some_is : (es : Exprs) (c : Context) → At t c.at → answer t (settled true es c) ≡ flag (some_hold t es c)
    some_is no_more c h = refl
    some_is (then_expr e es) c h =
        answer-and_then t (value e c) (λ v. if same_flag true (truth v) then ends (flag true) else settled true es c)
        ∙ ap (λ v. answer t (if same_flag true (truth v) then ends (flag true) else settled true es c)) (value_is e c h)
        ∙ elim (truth (value_in t e c)) as (λ b. answer t (if b then ends (flag true) else settled true es c) ≡ flag (b || some_hold t es c)) [ true ↦ refl | false ↦ some_is es c h ]

    all_is : (es : Exprs) (c : Context) → At t c.at → answer t (settled false es c) ≡ flag (all_hold t es c)
    all_is no_more c h = refl
    all_is (then_expr e es) c h =
        answer-and_then t (value e c) (λ v. if same_flag false (truth v) then ends (flag false) else settled false es c)
        ∙ ap (λ v. answer t (if same_flag false (truth v) then ends (flag false) else settled false es c)) (value_is e c h)
        ∙ elim (truth (value_in t e c)) as (λ b. answer t (if not b then ends (flag false) else settled false es c) ≡ flag (b && all_hold t es c)) [ true ↦ all_is es c h | false ↦ refl ]

    operands_are : (es : Exprs) (c : Context) → At t c.at → answer t (operands es c) ≡ values_in t es c
    operands_are no_more c h = refl
    operands_are (then_expr e es) c h =
        answer-and_then t (value e c) (λ v. and_then (operands es c) (λ vs. ends (v ∷ vs)))
        ∙ answer-and_then t (operands es c) (λ vs. ends (answer t (value e c) ∷ vs))
        ∙ ap (λ v. v ∷ answer t (operands es c)) (value_is e c h)
        ∙ ap (λ vs. value_in t e c ∷ vs) (operands_are es c h)

    filtered_is : (es : Exprs) (ns : List Position) → AllAt t ns → answer t (filtered es ns) ≡ kept t es ns
    filtered_is no_more ns h = refl
    filtered_is (then_expr e es) ns h =
        answer-and_then t (kept_by (λ c. value e c) (length ns) 1 ns) (λ kept. filtered es kept)
        ∙ ap (λ ms. answer t (filtered es ms)) (kept_by_is (λ c. value e c) (λ c. value_in t e c) (λ c i. value_is e c i) (length ns) 1 ns h)
        ∙ filtered_is es (holding (λ c. value_in t e c) (length ns) 1 ns) (holding_at t (λ c. value_in t e c) (length ns) 1 ns h)

    taken_is : (ss : Steps) (ns : List Position) → AllAt t ns → answer t (taken ss ns) ≡ reached t ss ns
    taken_is no_steps ns h = refl
    taken_is (step a test es ss) ns h =
        let from : Position → Program (List Position) = λ n. and_then (along a test n) (λ ms. filtered es (filter (passes a test) ms)) in
        let leads : Position → List Position = λ n. kept t es (on_axis t a test n) in
        answer-and_then t (gathered from ns) (λ all. taken ss (in_order all))
        ∙ ap (λ all. answer t (taken ss (in_order all))) (answer-gathered t from ns ∙ flat_on (At t) (λ n. answer t (from n)) leads (λ n i.
        answer-and_then t (along a test n) (λ ms. filtered es (filter (passes a test) ms))
        ∙ ap (λ ms. answer t (filtered es ms)) (w.axes a test n i)
        ∙ filtered_is es (on_axis t a test n) (axis_at t a test n)) ns h)
        ∙ ap (λ ms. answer t (taken ss ms)) (union_is t valid leads ns (flat_at t leads (λ n. kept_at t es (on_axis t a test n) (axis_at t a test n)) ns))
        ∙ taken_is ss (union t leads ns) (union_at t leads ns)

  -- for all paths
  pub find_is : (b : Bool) (ss : Steps) (n : Position) → At t n → answer t (find_from b ss n) ≡ found_from t b ss n
  find_is b ss n h = answer-and_then t (start b n) (λ ns. taken ss ns) ∙ ap (λ ns. answer t (taken ss ns)) (start_is b n h) ∙ taken_is ss (begun t b n) (begun_at t b n h)

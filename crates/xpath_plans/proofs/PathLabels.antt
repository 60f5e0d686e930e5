-- The evaluation of any path from a label looks at labels alone.
use Rattle.std.proofs.Common.{ℕ, Bool, true, false, List, [], ◌∷◌, drop, if◌then◌else◌, length, ◌+◌}
use Rattle.std.specs.List.{AllByRecursion, filter}
use Rattle.std.specs.Str.{chars}
use Rattle.std.specs.declared.cmp.Ordering.TheVariants.{Less, Equal, Greater}
use Rattle.tree_model.specs.declared.record.Record.TheVariants.{Document, Element, Text, Attr}
use Rattle.tree_model.specs.Keys.{key_cmp}
use Rattle.tree_model.specs.Orders.{by_order}
use Rattle.path_model.specs.declared.path.CompareOp.{CompareOp}
use Rattle.path_model.specs.declared.path.CompareOp.TheVariants as compared_by
use Rattle.path_model.specs.declared.path.Op.{Op}
use Rattle.path_model.specs.declared.path.Op.TheVariants as op
use Rattle.path_model.specs.AxisPrograms.{along}
use Rattle.path_model.specs.Evaluation.{put_in, in_order, string_value, string_values, first_value, with_strings, with_first, by_strings, compared, in_number, in_numbers, in_text, in_texts, texts_of, numbers_of, part, applied, kept_by, start, value, settled, operands, filtered, taken, find_from}
use Rattle.path_model.specs.Functions.{Value, Context, first_of, second_of, first_or_context, nodes_in, whole, zero_number, keeps}
use Rattle.path_model.specs.Numbers.{Num, plus, minus, times}
use Rattle.path_model.specs.Paths.{Expr, path, literal, apply, Exprs, no_more, then_expr, Steps, no_steps, step}
use Rattle.path_model.specs.Paths as paths
use Rattle.path_model.specs.Positions.{Position, a_node, an_attribute, key_of, label_of, passes}
use Rattle.path_model.specs.Programs.{Program, ends, and_then, gathered}
use Rattle.path_model.specs.Texts.{begins_with, contains_text, cut_at, before_part, behind_part, normal_from}
use Rattle.path_model.specs.Values.{nodes, text, flag, Strings, truth, text_in, number_in, compare, same_flag}
use Rattle.path_model.specs.Values as values
use Rattle.path_model.proofs.Members.{all_filtered}
use Rattle.xpath_plans.proofs.AxisLabels.{axis_labelled, document_label}
use Rattle.xpath_plans.proofs.LabelLists.{HasLabel, HaveLabels, AtLabels, labelled_then, labelled_each, all_dropped}

-- whatever it is
abbrev Any : {A : Type 0} → A → Type 0
Any a = Unit {0}

-- a value whose nodes have labels
abbrev IsGood : Value → Type 0
IsGood (nodes ns) = HaveLabels ns
IsGood (values.number n) = Unit {0}
IsGood (text s) = Unit {0}
IsGood (flag b) = Unit {0}

abbrev AreGood : List Value → Type 0
AreGood vs = AllByRecursion IsGood vs

-- ---- document order

put_in_labels : (n : Position) (ms : List Position) → HasLabel n → HaveLabels ms → HaveLabels (put_in n ms)
put_in_labels n [] i h = (i, tt)
put_in_labels n (m ∷ ms) i h = elim (key_cmp (key_of n) (key_of m)) as (λ o. HaveLabels (by_order o (n ∷ m ∷ ms) (m ∷ ms) (m ∷ put_in n ms))) [
  | Less ↦ (i, h)
  | Equal ↦ h
  | Greater ↦ (h.0, put_in_labels n ms i h.1)
]

in_order_labels : (ns : List Position) → HaveLabels ns → HaveLabels (in_order ns)
in_order_labels [] h = tt
in_order_labels (n ∷ ns) h = put_in_labels n (in_order ns) h.0 (in_order_labels ns h.1)

-- ---- string-values

string_labelled : (n : Position) → HasLabel n → AtLabels Any (string_value n)
string_labelled (a_node l Document) i = (i, λ s j. tt)
string_labelled (a_node l (Element m)) i = (i, λ s j. tt)
string_labelled (a_node l (Text d)) i = tt
string_labelled (a_node l (Attr v)) i = (i, λ s j. tt)
string_labelled (an_attribute l n v) i = tt

strings_labelled : (ns : List Position) → HaveLabels ns → AtLabels Any (string_values ns)
strings_labelled [] h = tt
strings_labelled (n ∷ ns) h =
    labelled_then Any Any (and_then (string_value n) (λ s. ends (s ∷ []))) _ (labelled_then Any Any (string_value n) _ (string_labelled n h.0) (λ s j. tt)) (λ ys j.
    labelled_then Any Any (string_values ns) _ (strings_labelled ns h.1) (λ zs k. tt))

with_strings_labelled : (v : Value) → IsGood v → AtLabels Any (with_strings v)
with_strings_labelled (nodes ns) h = labelled_then Any Any (string_values ns) _ (strings_labelled ns h) (λ ss j. tt)
with_strings_labelled (values.number n) h = tt
with_strings_labelled (text s) h = tt
with_strings_labelled (flag b) h = tt

first_labelled : (ns : List Position) → HaveLabels ns → AtLabels Any (first_value ns)
first_labelled [] h = tt
first_labelled (n ∷ ns) h = labelled_then Any Any (string_value n) _ (string_labelled n h.0) (λ s j. tt)

with_first_labelled : (v : Value) → IsGood v → AtLabels Any (with_first v)
with_first_labelled (nodes ns) h = labelled_then Any Any (first_value ns) _ (first_labelled ns h) (λ ss j. tt)
with_first_labelled (values.number n) h = tt
with_first_labelled (text s) h = tt
with_first_labelled (flag b) h = tt

-- a program that goes on by a value's text or number
by_first : {B : Type 0} (fine : B → Type 0) (v : Value) (f : Strings → Program B) → IsGood v → ((x : Strings) → AtLabels fine (f x)) → AtLabels fine (and_then (with_first v) f)
by_first fine v f h g = labelled_then Any fine (with_first v) f (with_first_labelled v h) (λ x j. g x)

-- ---- operators and functions

first_good : (vs : List Value) → AreGood vs → IsGood (first_of vs)
first_good [] h = tt
first_good (v ∷ vs) h = h.0

second_good : (vs : List Value) → AreGood vs → IsGood (second_of vs)
second_good vs h = first_good (drop 1 vs) (all_dropped IsGood 1 vs h)

context_good : (vs : List Value) (c : Context) → HasLabel c.at → AreGood vs → IsGood (first_or_context vs c)
context_good [] c i h = (i, tt)
context_good (v ∷ vs) c i h = h.0

nodes_labels : (v : Value) → IsGood v → HaveLabels (nodes_in v)
nodes_labels (nodes ns) h = h
nodes_labels (values.number n) h = tt
nodes_labels (text s) h = tt
nodes_labels (flag b) h = tt

-- with the string-values of both
both_labelled : (by : CompareOp) (v w : Value) → IsGood v → IsGood w → AtLabels IsGood (by_strings by v w)
both_labelled by v w h g = labelled_then Any IsGood (with_strings v) _ (with_strings_labelled v h) (λ x j. labelled_then Any IsGood (with_strings w) _ (with_strings_labelled w g) (λ y k. tt))

compared_labelled : (by : CompareOp) (v w : Value) → IsGood v → IsGood w → AtLabels IsGood (compared by v w)
compared_labelled by (nodes ns) (nodes ms) h g = both_labelled by (nodes ns) (nodes ms) h g
compared_labelled by (nodes ns) (values.number n) h g = both_labelled by (nodes ns) (values.number n) h g
compared_labelled by (nodes ns) (text s) h g = both_labelled by (nodes ns) (text s) h g
compared_labelled by (nodes ns) (flag b) h g = tt
compared_labelled by (flag b) (nodes ms) h g = tt
compared_labelled by (values.number n) w h g = both_labelled by (values.number n) w h g
compared_labelled by (text s) w h g = both_labelled by (text s) w h g
compared_labelled by (flag b) (values.number n) h g = tt
compared_labelled by (flag b) (text s) h g = tt
compared_labelled by (flag b) (flag d) h g = tt

in_numbers_labelled : (f : Num → Num → Num) (vs : List Value) → AreGood vs → AtLabels IsGood (in_numbers f (first_of vs) (second_of vs))
in_numbers_labelled f vs h = by_first IsGood (first_of vs) _ (first_good vs h) (λ x. by_first IsGood (second_of vs) _ (second_good vs h) (λ y. tt))

in_number_labelled : (f : Num → Value) (v : Value) → ((x : Num) → IsGood (f x)) → IsGood v → AtLabels IsGood (in_number f v)
in_number_labelled f v g h = by_first IsGood v _ h (λ x. g (number_in x))

in_text_labelled : (f : List ℕ → Value) (v : Value) → ((s : List ℕ) → IsGood (f s)) → IsGood v → AtLabels IsGood (in_text f v)
in_text_labelled f v g h = by_first IsGood v _ h (λ x. g (text_in x))

in_texts_labelled : (f : List ℕ → List ℕ → Value) (vs : List Value) → ((s p : List ℕ) → IsGood (f s p)) → AreGood vs → AtLabels IsGood (in_texts f (first_of vs) (second_of vs))
in_texts_labelled f vs g h = by_first IsGood (first_of vs) _ (first_good vs h) (λ x. by_first IsGood (second_of vs) _ (second_good vs h) (λ y. g (text_in x) (text_in y)))

texts_labelled : (vs : List Value) → AreGood vs → AtLabels Any (texts_of vs)
texts_labelled [] h = tt
texts_labelled (v ∷ vs) h =
    labelled_then Any Any (and_then (with_first v) (λ x. ends (text_in x ∷ []))) _ (by_first Any v _ h.0 (λ x. tt)) (λ ys j.
    labelled_then Any Any (texts_of vs) _ (texts_labelled vs h.1) (λ zs k. tt))

numbers_labelled : (vs : List Value) → AreGood vs → AtLabels Any (numbers_of vs)
numbers_labelled [] h = tt
numbers_labelled (v ∷ vs) h =
    labelled_then Any Any (and_then (with_first v) (λ x. ends (number_in x ∷ []))) _ (by_first Any v _ h.0 (λ x. tt)) (λ ys j.
    labelled_then Any Any (numbers_of vs) _ (numbers_labelled vs h.1) (λ zs k. tt))

part_labelled : (vs : List Value) → AreGood vs → AtLabels IsGood (part vs)
part_labelled vs h =
    by_first IsGood (first_of vs) _ (first_good vs h) (λ x. by_first IsGood (second_of vs) _ (second_good vs h) (λ y.
    labelled_then Any IsGood (numbers_of (drop 2 vs)) _ (numbers_labelled (drop 2 vs) (all_dropped IsGood 2 vs h)) (λ zs j. tt)))

sum_labelled : (vs : List Value) (f : List (List ℕ) → Num) → AreGood vs → AtLabels IsGood (and_then (string_values (nodes_in (first_of vs))) (λ ss. ends (values.number (f ss))))
sum_labelled vs f h = labelled_then Any IsGood (string_values (nodes_in (first_of vs))) _ (strings_labelled (nodes_in (first_of vs)) (nodes_labels (first_of vs) (first_good vs h))) (λ ss j. tt)

compared_pair : (by : CompareOp) (vs : List Value) → AreGood vs → AtLabels IsGood (compared by (first_of vs) (second_of vs))
compared_pair by vs h = compared_labelled by (first_of vs) (second_of vs) (first_good vs h) (second_good vs h)

applied_labelled : (o : Op) (vs : List Value) (c : Context) → HasLabel c.at → AreGood vs → AtLabels IsGood (applied o vs c)
applied_labelled op.Or vs c i h = tt
applied_labelled op.And vs c i h = tt
applied_labelled op.Eq vs c i h = compared_pair compared_by.Eq vs h
applied_labelled op.Ne vs c i h = compared_pair compared_by.Ne vs h
applied_labelled op.Lt vs c i h = compared_pair compared_by.Lt vs h
applied_labelled op.Le vs c i h = compared_pair compared_by.Le vs h
applied_labelled op.Gt vs c i h = compared_pair compared_by.Gt vs h
applied_labelled op.Ge vs c i h = compared_pair compared_by.Ge vs h
applied_labelled op.Add vs c i h = in_numbers_labelled plus vs h
applied_labelled op.Sub vs c i h = in_numbers_labelled minus vs h
applied_labelled op.Mul vs c i h = in_numbers_labelled times vs h
applied_labelled op.Negate vs c i h = in_number_labelled (λ x. values.number (minus zero_number x)) (first_of vs) (λ x. tt) (first_good vs h)
applied_labelled op.Position vs c i h = tt
applied_labelled op.Last vs c i h = tt
applied_labelled op.Count vs c i h = tt
applied_labelled op.Sum vs c i h = sum_labelled vs _ h
applied_labelled op.NameOf vs c i h = tt
applied_labelled op.StringOf vs c i h = in_text_labelled text (first_or_context vs c) (λ s. tt) (context_good vs c i h)
applied_labelled op.Concat vs c i h = labelled_then Any IsGood (texts_of vs) _ (texts_labelled vs h) (λ ss j. tt)
applied_labelled op.StartsWith vs c i h = in_texts_labelled (λ s p. flag (begins_with p s)) vs (λ s p. tt) h
applied_labelled op.Contains vs c i h = in_texts_labelled (λ s p. flag (contains_text s p)) vs (λ s p. tt) h
applied_labelled op.SubstringBefore vs c i h = in_texts_labelled (λ s p. text (before_part (cut_at p s))) vs (λ s p. tt) h
applied_labelled op.SubstringAfter vs c i h = in_texts_labelled (λ s p. text (behind_part (cut_at p s))) vs (λ s p. tt) h
applied_labelled op.Substring vs c i h = part_labelled vs h
applied_labelled op.StringLength vs c i h = in_text_labelled (λ s. whole (length (chars s))) (first_or_context vs c) (λ s. tt) (context_good vs c i h)
applied_labelled op.NormalizeSpace vs c i h = in_text_labelled (λ s. text (normal_from false s)) (first_or_context vs c) (λ s. tt) (context_good vs c i h)
applied_labelled op.BooleanOf vs c i h = tt
applied_labelled op.Not vs c i h = tt
applied_labelled op.TrueOf vs c i h = tt
applied_labelled op.FalseOf vs c i h = tt
applied_labelled op.NumberOf vs c i h = in_number_labelled (λ x. values.number x) (first_or_context vs c) (λ x. tt) (context_good vs c i h)

-- ---- predicates

kept_labelled : (test : Context → Program Value) (size p : ℕ) (ns : List Position) → ((c : Context) → HasLabel c.at → AtLabels IsGood (test c)) → HaveLabels ns
    → AtLabels HaveLabels (kept_by test size p ns)
kept_labelled test size p [] g h = tt
kept_labelled test size p (n ∷ ns) g h =
    labelled_then IsGood HaveLabels (test (record { at = n; proximity = p; size = size })) _ (g _ h.0) (λ v j.
    labelled_then HaveLabels HaveLabels (kept_by test size (p + 1) ns) (λ kept. ends (if keeps v p then n ∷ kept else kept)) (kept_labelled test size (p + 1) ns g h.1) (λ kept k.
    elim (keeps v p) as (λ b. HaveLabels (if b then n ∷ kept else kept)) [ true ↦ (h.0, k) | false ↦ k ]))

-- ---- paths

start_labelled : (b : Bool) (n : Position) → HasLabel n → AtLabels HaveLabels (start b n)
start_labelled true n i = (document_label (label_of n) i, λ s j. j)
start_labelled false n i = (i, tt)

mutual
  value_labelled : (e : Expr) (c : Context) → HasLabel c.at → AtLabels IsGood (value e c)
  value_labelled (path b ss) c i = labelled_then HaveLabels IsGood (and_then (start b c.at) (λ ns. taken ss ns)) _
      (labelled_then HaveLabels HaveLabels (start b c.at) _ (start_labelled b c.at i) (λ ns j. taken_labelled ss ns j)) (λ ns j. j)
  value_labelled (paths.number z) c i = tt
  value_labelled (literal s) c i = tt
  value_labelled (apply op.Or es) c i = settled_labelled true es c i
  value_labelled (apply op.And es) c i = settled_labelled false es c i
  value_labelled (apply o es) c i = labelled_then AreGood IsGood (operands es c) (λ vs. applied o vs c) (operands_labelled es c i) (λ vs h. applied_labelled o vs c i h)

  settled_labelled : (by : Bool) (es : Exprs) (c : Context) → HasLabel c.at → AtLabels IsGood (settled by es c)
  settled_labelled by no_more c i = tt
  settled_labelled by (then_expr e es) c i = labelled_then IsGood IsGood (value e c) (λ v. if same_flag by (truth v) then ends (flag by) else settled by es c) (value_labelled e c i) (λ v j.
      elim (same_flag by (truth v)) as (λ b. AtLabels IsGood (if b then ends (flag by) else settled by es c)) [ true ↦ tt | false ↦ settled_labelled by es c i ])

  operands_labelled : (es : Exprs) (c : Context) → HasLabel c.at → AtLabels AreGood (operands es c)
  operands_labelled no_more c i = tt
  operands_labelled (then_expr e es) c i = labelled_then IsGood AreGood (value e c) _ (value_labelled e c i) (λ v j.
      labelled_then AreGood AreGood (operands es c) (λ vs. ends (v ∷ vs)) (operands_labelled es c i) (λ vs k. (j, k)))

  filtered_labelled : (es : Exprs) (ns : List Position) → HaveLabels ns → AtLabels HaveLabels (filtered es ns)
  filtered_labelled no_more ns h = h
  filtered_labelled (then_expr e es) ns h = labelled_then HaveLabels HaveLabels (kept_by (λ c. value e c) (length ns) 1 ns) (λ kept. filtered es kept)
      (kept_labelled (λ c. value e c) (length ns) 1 ns (λ c i. value_labelled e c i) h) (λ kept j. filtered_labelled es kept j)

  taken_labelled : (ss : Steps) (ns : List Position) → HaveLabels ns → AtLabels HaveLabels (taken ss ns)
  taken_labelled no_steps ns h = h
  taken_labelled (step axis test es ss) ns h =
      labelled_then HaveLabels HaveLabels (gathered (λ n. and_then (along axis test n) (λ ms. filtered es (filter (passes axis test) ms))) ns) (λ all. taken ss (in_order all))
      (labelled_each HasLabel HasLabel (λ n. and_then (along axis test n) (λ ms. filtered es (filter (passes axis test) ms))) ns (λ n i.
      labelled_then HaveLabels HaveLabels (along axis test n) (λ ms. filtered es (filter (passes axis test) ms)) (axis_labelled axis test n i) (λ ms j.
      filtered_labelled es (filter (passes axis test) ms) (all_filtered HasLabel (passes axis test) ms j))) h) (λ all j. taken_labelled ss (in_order all) (in_order_labels all j))

pub find_labelled : (b : Bool) (ss : Steps) (n : Position) → HasLabel n → AtLabels HaveLabels (find_from b ss n)
find_labelled b ss n i = labelled_then HaveLabels HaveLabels (start b n) (λ ns. taken ss ns) (start_labelled b n i) (λ ns h. taken_labelled ss ns h)

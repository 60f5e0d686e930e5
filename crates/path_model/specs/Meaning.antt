-- The set of positions that a path means on a tree (XPath 1.0, sections 2 and 3), in document order.
use Rattle.std.specs.Prelude.{ℕ, ◌+◌, Bool, true, false, ◌&&◌, ◌||◌, if◌then◌else◌, List, [], ◌∷◌, ◌++◌, length, Some}
use Rattle.std.specs.List.{filter, list_any}
use Rattle.tree_model.specs.declared.record.Record.TheVariants.{Text}
use Rattle.tree_model.specs.Tree.{Tree}
use Rattle.tree_model.specs.ValidTrees.{same_label}
use Rattle.path_model.specs.declared.path.Op.TheVariants as op
use Rattle.path_model.specs.Axes.{document_of, lies_under, on_axis}
use Rattle.path_model.specs.Functions.{Value, Context, computed, keeps}
use Rattle.path_model.specs.Paths.{Expr, path, literal, apply, Exprs, no_more, then_expr, Steps, no_steps, step}
use Rattle.path_model.specs.Paths as paths
use Rattle.path_model.specs.Positions.{Position, a_node, an_attribute, positions, label_of, is_node, is_same}
use Rattle.path_model.specs.Values.{nodes, text, flag, truth}
use Rattle.path_model.specs.Values as values

-- ---- string-values (XPath 1.0, section 5)

-- the data of the texts among positions, joined
abbrev pub joined_texts : List Position → List ℕ
joined_texts [] = []
joined_texts (a_node l (Text d) ∷ ns) = d ++ joined_texts ns
joined_texts (n ∷ ns) = joined_texts ns

-- of an element or a document its text descendants joined
abbrev pub string_value : Tree → Position → List ℕ
string_value t (a_node l (Text d)) = d
string_value t (an_attribute l n v) = v
string_value t n = joined_texts (filter (lies_under n) (positions t))

-- ---- sets

abbrev pub is_among : Position → List Position → Bool
is_among m ns = list_any (λ n. is_same m n) ns

-- the positions that some node of a set leads to
abbrev pub union : Tree → (Position → List Position) → List Position → List Position
union t leads ns = filter (λ m. list_any (λ n. is_among m (leads n)) ns) (positions t)

-- the document in which a position lies
abbrev pub own_document : Tree → Position → List Position
own_document t n = filter (λ m. is_node m && same_label (document_of (label_of n)) (label_of m)) (positions t)

-- where a path begins
abbrev pub begun : Tree → Bool → Position → List Position
begun t is_absolute n = if is_absolute then own_document t n else n ∷ []

-- the nodes at which a predicate holds, by their places and their number
abbrev pub holding : (Context → Value) → ℕ → ℕ → List Position → List Position
holding test size p [] = []
holding test size p (n ∷ ns) =
    if keeps (test (record { at = n; proximity = p; size = size })) p then n ∷ holding test size (p + 1) ns else holding test size (p + 1) ns

-- ---- expressions and paths

abbrev mutual
  -- the value of an expression
  pub value_in : Tree → Expr → Context → Value
  value_in t (path is_absolute ss) c = nodes (reached t ss (begun t is_absolute c.at))
  value_in t (paths.number z) c = values.number (Some z)
  value_in t (literal s) c = text s
  value_in t (apply op.Or es) c = flag (some_hold t es c)
  value_in t (apply op.And es) c = flag (all_hold t es c)
  value_in t (apply o es) c = computed (string_value t) o (values_in t es c) c

  pub some_hold : Tree → Exprs → Context → Bool
  some_hold t no_more c = false
  some_hold t (then_expr e es) c = truth (value_in t e c) || some_hold t es c

  pub all_hold : Tree → Exprs → Context → Bool
  all_hold t no_more c = true
  all_hold t (then_expr e es) c = truth (value_in t e c) && all_hold t es c

  pub values_in : Tree → Exprs → Context → List Value
  values_in t no_more c = []
  values_in t (then_expr e es) c = value_in t e c ∷ values_in t es c

  -- the nodes that each predicate in turn keeps
  pub kept : Tree → Exprs → List Position → List Position
  kept t no_more ns = ns
  kept t (then_expr e es) ns = kept t es (holding (λ c. value_in t e c) (length ns) 1 ns)

  -- the set that steps lead to from a set
  pub reached : Tree → Steps → List Position → List Position
  reached t no_steps ns = ns
  reached t (step a test es ss) ns = reached t ss (union t (λ n. kept t es (on_axis t a test n)) ns)

-- the set that a path means from a position
abbrev pub found_from : Tree → Bool → Steps → Position → List Position
found_from t is_absolute ss n = reached t ss (begun t is_absolute n)

-- this holds of each tree, path and position from which it is taken
abbrev pub OfEachPath : (Tree → Bool → Steps → Position → Type 0) → Type 0
OfEachPath holds = (t : Tree) (is_absolute : Bool) (ss : Steps) (n : Position) → holds t is_absolute ss n

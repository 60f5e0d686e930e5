-- Each rule of the grammar keeps what lawful paths keep.
use Rattle.std.proofs.Common.{◌≡◌, ℕ, zero, suc, ◌+◌, ◌≤◌, ◌<◌, true, false, cond, not, ◌&&◌, ◌||◌, ◌==◌, List, [], ◌∷◌, ◌++◌, length, Option, None, Some, Ok, Err, pos, is_some, refl, sym, ap, arith}
use Rattle.std.proofs.lemmas.Bool.{and_parts, eqb-true, eqb-false, leb-true, ltb-true, true≢false}
use Rattle.std.specs.List.{AllByRecursion}
use Rattle.std.specs.Prelude.{nat_lt, nat_le, codes, encode_utf8_all}
use Rattle.std.specs.Str.{bytes_eq}
use Rattle.path_model.specs.Lawful.{precedence, most_nested}
use Rattle.path_model.specs.Numbers.{in_range}
use Rattle.path_model.specs.declared.path.Axis.{Axis}
use Rattle.path_model.specs.declared.path.Axis.TheVariants as axis
use Rattle.path_model.specs.declared.path.Expr.{Expr}
use Rattle.path_model.specs.declared.path.Expr.TheVariants as e
use Rattle.path_model.specs.declared.path.NodeTest.TheVariants as test
use Rattle.path_model.specs.declared.path.Op.{Op}
use Rattle.path_model.specs.declared.path.Op.TheVariants as op
use Rattle.path_model.specs.declared.path.Step.{Step}
use Rattle.xpath_parser.specs.declared.lex.Kind.{Kind}
use Rattle.xpath_parser.specs.declared.lex.Kind.TheVariants as k
use Rattle.xpath_parser.specs.declared.refusal.Refusal.TheVariants.{Syntax}
use Rattle.xpath_parser.specs.declared.refusal.What.{What}
use Rattle.xpath_parser.specs.declared.refusal.What.TheVariants as what
use Rattle.xpath_parser.specs.declared.words.Function.{Function}
use Rattle.xpath_parser.specs.Grammar.{is_foreign, operator, of_level, is_operator, begins_expression, begins_step, close, unfiltered, number_of, numbered_by, numbered, literal_of, quoted, node_test, named_test, any_below, make_path, on_operator, links_from, argument_level, open_part, predicates_from, predicates, step_along, step_on_axis, step_on, named_step, step_by, step, steps_from, steps, steps_on, from_document, from_anywhere, path_by, path, lone_path, argument_path, arguments_from, some_arguments, arguments, call_of, call, named_operand, parenthesized, operand_by, operand, unary, chain, expression_of, expression, inside, whole}
use Rattle.xpath_parser.specs.Input.{Parser, and_then, kind, next, sees, spelling}
use Rattle.xpath_parser.specs.Lex.{Text}
use Rattle.xpath_parser.specs.Words.{axis_named, function_named, is_node_type}
use Rattle.xpath_parser.proofs.LawfulForms.{Within, Inner, StepWithin, PathWithin, Linked, step_within, path_within, of_path, of_number, of_literal, inner_path, inner_not_path, inner_within, begun, linked_more, chain_within, applied}
use Rattle.xpath_parser.proofs.LawfulGives.{Gives, then_gives, after, weaker, if_gives, if_parser, all_snoc}
use Rattle.xpath_parser.proofs.LawfulWords.{IfFound, IsOfLevel, Sound, operator_of_level, function_sound, number_in_range}

some_room : (n : ℕ) → (n == 0) ≡ false → 0 < n
some_room zero e = absurd (true≢false e)
some_room (suc n) e = omega arith

unfiltered_keeps : (P : Expr → Type 0) (x : Expr) (i : Text) → P x → Gives P (unfiltered x i)
unfolding unfiltered
unfiltered_keeps P x i h = if_gives P (sees k.OpenBracket i || (sees k.Slash i || sees k.DoubleSlash i)) _ _ (λ _. tt) (λ _. h)

numbered_by_keeps : (room : ℕ) (m : Option ℕ) (i : Text) → IfFound (λ n. is_some (in_range (pos n)) ≡ true) m → Gives (Within room) (numbered_by m i)
numbered_by_keeps room None i h = tt
numbered_by_keeps room (Some n) i h = unfiltered_keeps (Within room) (e.Number (pos n)) (next i) (of_number room (pos n) h)

-- ---- chains

on_operator_keeps : (P : Expr → Type 0) (level : ℕ) (m : Option Op) (more : Op → Parser Expr) (done : Parser Expr) (i : Text) → IsOfLevel level m → ((o : Op) → precedence o ≡ level → Gives P (more o i)) → Gives P (done i) → Gives P (on_operator m more done i)
on_operator_keeps P level None more done i h f g = g
on_operator_keeps P level (Some o) more done i h f g = f o h

links_keep : (room : ℕ) (tighter : Parser Expr) (level n : ℕ) (es : List Expr) (ops : List Op) (x : Expr) (i : Text) → ((i : Text) → Gives (Within room) (tighter i)) → 0 < level
    → Linked level es ops → AllByRecursion (Within room) es → Within room x → Gives (Within room) (links_from tighter level n es ops x i)
unfolding links_from
links_keep room tighter level zero es ops x i t some h all one = chain_within room level es ops x some h all one
links_keep room tighter level (suc n) es ops x i t some h all one =
    on_operator_keeps (Within room) level (of_level level (operator i)) _ _ i (operator_of_level level i)
    (λ o is. then_gives (Within room) (Within room) (tighter (next i)) _ (t (next i))
    (λ y j two. links_keep room tighter level n (es ++ x ∷ []) (ops ++ o ∷ []) y j t some (linked_more level es ops x o h is) (all_snoc (Within room) es x all one) two))
    (chain_within room level es ops x some h all one)

-- ---- calls

-- arguments of a function: as many as it takes, each at its level
record Given (room : ℕ) (f : Function) (xs : List Expr) : Type 0 where
  some : 0 < room
  least : f.least ≤ length xs
  most : length xs ≤ f.most
  each : AllByRecursion (Inner room (argument_level f)) xs

level_of_nodes : (f : Function) → f.takes_nodes ≡ true → argument_level f ≡ 7
level_of_nodes f h = ap (λ b. cond b 7 6) h

one_longer : (xs : List Expr) (x : Expr) → length (xs ++ x ∷ []) ≡ length xs + 1
one_longer [] x = refl
one_longer (y ∷ xs) x = let h = one_longer xs x in omega (arith, h)

with_one : (room : ℕ) (f : Function) (xs : List Expr) (x : Expr) → 0 < room → f.least ≤ length xs + 1 → length xs + 1 ≤ f.most → AllByRecursion (Inner room (argument_level f)) xs → Inner room (argument_level f) x → Given room f (xs ++ x ∷ [])
with_one room f xs x some few many all one =
    let l = one_longer xs x in
    record { some = some; least = omega (arith, l, few); most = omega (arith, l, many); each = all_snoc (Inner room (argument_level f)) xs x all one }

call_within : (room : ℕ) (f : Function) (xs : List Expr) → Sound f → Given room f xs → Within room (e.Apply f.op xs)
call_within room f xs s g = applied room (argument_level f) f.op xs g.some s.unary (s.many (length xs) g.least g.most) (λ are. level_of_nodes f (s.paths are)) g.each

-- ---- what holds nested parts

module _ (room : ℕ) (inner : ℕ → Parser Expr) (keeps : (level : ℕ) (i : Text) → Gives (Inner room level) (inner level i)) where
  open_part_keeps : (i : Text) → Gives (λ _. 0 < room) (open_part room inner i)
  unfolding open_part
  open_part_keeps i = if_gives (λ _. 0 < room) (room == 0) _ _ (λ _. tt) (some_room room)

  predicates_from_keeps : (n : ℕ) (found : List Expr) (i : Text) → AllByRecursion (Inner room 6) found → Gives (AllByRecursion (Inner room 6)) (predicates_from room inner n found i)
  unfolding predicates_from
  predicates_from_keeps zero found i h = h
  predicates_from_keeps (suc n) found i h = if_gives (AllByRecursion (Inner room 6)) (sees k.OpenBracket i) _ _
      (λ _. then_gives (Inner room 6) (AllByRecursion (Inner room 6)) (and_then (open_part room inner i) (λ _. inner 6)) _ (after (Inner room 6) (open_part room inner i) _ (λ _ j. keeps 6 j))
      (λ x j one. after (AllByRecursion (Inner room 6)) (close k.CloseBracket j) _ (λ _ l. predicates_from_keeps n (found ++ x ∷ []) l (all_snoc (Inner room 6) found x h one))))
      (λ _. h)

  predicates_keep : (i : Text) → Gives (AllByRecursion (Inner room 6)) (predicates room inner i)
  unfolding predicates
  predicates_keep i = predicates_from_keeps (length i) [] i tt

  step_along_keeps : (a : Axis) (i : Text) → Gives (StepWithin room) (step_along room inner a i)
  unfolding step_along
  step_along_keeps a i = after (StepWithin room) (node_test i) _
      (λ t j. then_gives (AllByRecursion (Inner room 6)) (StepWithin room) (predicates room inner j) _ (predicates_keep j) (λ es l h. step_within room a t es h))

  step_on_axis_keeps : (name : List ℕ) (m : Option Axis) (i : Text) → Gives (StepWithin room) (step_on_axis room inner name m i)
  step_on_axis_keeps name (Some a) i = step_along_keeps a (next i)
  step_on_axis_keeps name None i = if_parser (StepWithin room) (bytes_eq name (codes "namespace")) _ _ i (λ _. tt) (λ _. tt)

  step_on_keeps : (name : List ℕ) (i : Text) → Gives (StepWithin room) (step_on room inner name i)
  unfolding step_on
  step_on_keeps name i = step_on_axis_keeps name (axis_named name) i

  named_step_keeps : (call : Option What) (name : List ℕ) (i : Text) → Gives (StepWithin room) (named_step room inner call name i)
  unfolding named_step
  named_step_keeps call name i = if_gives (StepWithin room) (sees k.DoubleColon i) _ _ (λ _. step_on_keeps name i)
      (λ _. after (StepWithin room) (named_test call name i) _
      (λ t j. then_gives (AllByRecursion (Inner room 6)) (StepWithin room) (predicates room inner j) _ (predicates_keep j) (λ es l h. step_within room axis.Child t es h)))

  step_by_keeps : (call : Option What) (kind : Kind) (i : Text) → Gives (StepWithin room) (step_by room inner call kind i)
  step_by_keeps call k.End i = step_along_keeps axis.Child i
  step_by_keeps call k.Bad i = step_along_keeps axis.Child i
  step_by_keeps call k.Name i = named_step_keeps call (encode_utf8_all (spelling i)) (next i)
  step_by_keeps call k.Prefix i = step_along_keeps axis.Child i
  step_by_keeps call k.Number i = step_along_keeps axis.Child i
  step_by_keeps call k.Fraction i = step_along_keeps axis.Child i
  step_by_keeps call k.Literal i = step_along_keeps axis.Child i
  step_by_keeps call k.Variable i = step_along_keeps axis.Child i
  step_by_keeps call k.Open i = step_along_keeps axis.Child i
  step_by_keeps call k.Close i = step_along_keeps axis.Child i
  step_by_keeps call k.OpenBracket i = step_along_keeps axis.Child i
  step_by_keeps call k.CloseBracket i = step_along_keeps axis.Child i
  step_by_keeps call k.Comma i = step_along_keeps axis.Child i
  step_by_keeps call k.At i = step_along_keeps axis.Attribute (next i)
  step_by_keeps call k.DoubleColon i = step_along_keeps axis.Child i
  step_by_keeps call k.Slash i = step_along_keeps axis.Child i
  step_by_keeps call k.DoubleSlash i = step_along_keeps axis.Child i
  step_by_keeps call k.Dot i = step_within room axis.SelfNode test.Node [] tt
  step_by_keeps call k.DoubleDot i = step_within room axis.Parent test.Node [] tt
  step_by_keeps call k.Star i = step_along_keeps axis.Child i
  step_by_keeps call k.Bar i = step_along_keeps axis.Child i
  step_by_keeps call k.Plus i = step_along_keeps axis.Child i
  step_by_keeps call k.Minus i = step_along_keeps axis.Child i
  step_by_keeps call k.Equal i = step_along_keeps axis.Child i
  step_by_keeps call k.NotEqual i = step_along_keeps axis.Child i
  step_by_keeps call k.Less i = step_along_keeps axis.Child i
  step_by_keeps call k.LessEqual i = step_along_keeps axis.Child i
  step_by_keeps call k.Greater i = step_along_keeps axis.Child i
  step_by_keeps call k.GreaterEqual i = step_along_keeps axis.Child i

  step_keeps : (call : Option What) (i : Text) → Gives (StepWithin room) (step room inner call i)
  unfolding step
  step_keeps call i = step_by_keeps call (kind i) i

  -- ---- paths

  any_below_within : StepWithin room any_below
  any_below_within = step_within room axis.DescendantOrSelf test.Node [] tt

  steps_from_keeps : (n : ℕ) (found : List Step) (i : Text) → AllByRecursion (StepWithin room) found → Gives (AllByRecursion (StepWithin room)) (steps_from room inner n found i)
  unfolding steps_from
  steps_from_keeps zero found i h = h
  steps_from_keeps (suc n) found i h = if_gives (AllByRecursion (StepWithin room)) (sees k.Slash i) _ _
      (λ _. then_gives (StepWithin room) (AllByRecursion (StepWithin room)) (step room inner None (next i)) _ (step_keeps None (next i))
      (λ s j one. steps_from_keeps n (found ++ s ∷ []) j (all_snoc (StepWithin room) found s h one)))
      (λ _. if_gives (AllByRecursion (StepWithin room)) (sees k.DoubleSlash i) _ _
      (λ _. then_gives (StepWithin room) (AllByRecursion (StepWithin room)) (step room inner None (next i)) _ (step_keeps None (next i))
      (λ s j one. steps_from_keeps n ((found ++ any_below ∷ []) ++ s ∷ []) j
      (all_snoc (StepWithin room) (found ++ any_below ∷ []) s (all_snoc (StepWithin room) found any_below h any_below_within) one)))
      (λ _. h))

  steps_keep : (found : List Step) (i : Text) → AllByRecursion (StepWithin room) found → Gives (AllByRecursion (StepWithin room)) (steps room inner found i)
  unfolding steps
  steps_keep found i h = steps_from_keeps (length i) found i h

  steps_on_keep : (call : Option What) (found : List Step) (i : Text) → AllByRecursion (StepWithin room) found → Gives (AllByRecursion (StepWithin room)) (steps_on room inner call found i)
  unfolding steps_on
  steps_on_keep call found i h = then_gives (StepWithin room) (AllByRecursion (StepWithin room)) (step room inner call i) _ (step_keeps call i)
      (λ s j one. steps_keep (found ++ s ∷ []) j (all_snoc (StepWithin room) found s h one))

  from_document_keeps : (i : Text) → Gives (PathWithin room) (from_document room inner i)
  unfolding from_document
  from_document_keeps i = if_gives (PathWithin room) (begins_step (kind i)) _ _
      (λ _. then_gives (AllByRecursion (StepWithin room)) (PathWithin room) (steps_on room inner None [] i) _ (steps_on_keep None [] i tt) (λ ss j h. path_within room true ss h))
      (λ _. path_within room true [] tt)

  from_anywhere_keeps : (i : Text) → Gives (PathWithin room) (from_anywhere room inner i)
  unfolding from_anywhere
  from_anywhere_keeps i = then_gives (AllByRecursion (StepWithin room)) (PathWithin room) (steps_on room inner None (any_below ∷ []) i) _ (steps_on_keep None (any_below ∷ []) i (any_below_within, tt)) (λ ss j h. path_within room true ss h)

  relative_keeps : (call : Option What) (i : Text) → Gives (PathWithin room) (and_then (steps_on room inner call [] i) (λ ss j. Ok (make_path false ss, j)))
  relative_keeps call i = then_gives (AllByRecursion (StepWithin room)) (PathWithin room) (steps_on room inner call [] i) _ (steps_on_keep call [] i tt) (λ ss j h. path_within room false ss h)

  path_by_keeps : (call : Option What) (kind : Kind) (i : Text) → Gives (PathWithin room) (path_by room inner call kind i)
  path_by_keeps call k.End i = relative_keeps call i
  path_by_keeps call k.Bad i = relative_keeps call i
  path_by_keeps call k.Name i = relative_keeps call i
  path_by_keeps call k.Prefix i = relative_keeps call i
  path_by_keeps call k.Number i = relative_keeps call i
  path_by_keeps call k.Fraction i = relative_keeps call i
  path_by_keeps call k.Literal i = relative_keeps call i
  path_by_keeps call k.Variable i = relative_keeps call i
  path_by_keeps call k.Open i = relative_keeps call i
  path_by_keeps call k.Close i = relative_keeps call i
  path_by_keeps call k.OpenBracket i = relative_keeps call i
  path_by_keeps call k.CloseBracket i = relative_keeps call i
  path_by_keeps call k.Comma i = relative_keeps call i
  path_by_keeps call k.At i = relative_keeps call i
  path_by_keeps call k.DoubleColon i = relative_keeps call i
  path_by_keeps call k.Slash i = from_document_keeps (next i)
  path_by_keeps call k.DoubleSlash i = from_anywhere_keeps (next i)
  path_by_keeps call k.Dot i = relative_keeps call i
  path_by_keeps call k.DoubleDot i = relative_keeps call i
  path_by_keeps call k.Star i = relative_keeps call i
  path_by_keeps call k.Bar i = relative_keeps call i
  path_by_keeps call k.Plus i = relative_keeps call i
  path_by_keeps call k.Minus i = relative_keeps call i
  path_by_keeps call k.Equal i = relative_keeps call i
  path_by_keeps call k.NotEqual i = relative_keeps call i
  path_by_keeps call k.Less i = relative_keeps call i
  path_by_keeps call k.LessEqual i = relative_keeps call i
  path_by_keeps call k.Greater i = relative_keeps call i
  path_by_keeps call k.GreaterEqual i = relative_keeps call i

  path_keeps : (call : Option What) (i : Text) → Gives (PathWithin room) (path room inner call i)
  unfolding path
  path_keeps call i = path_by_keeps call (kind i) i

  pub lone_path_keeps : (w : What) (i : Text) → Gives (PathWithin room) (lone_path room inner w i)
  unfolding lone_path
  lone_path_keeps w i = if_gives (PathWithin room) (begins_expression (kind i)) _ _ (λ _. tt) (λ _. path_keeps (Some w) i)

  -- ---- expressions

  argument_path_keeps : (level : ℕ) (i : Text) → Gives (Inner (suc room) level) (argument_path room inner i)
  unfolding argument_path
  argument_path_keeps level i = then_gives (PathWithin room) (Inner (suc room) level) (lone_path room inner what.Argument i) _ (lone_path_keeps what.Argument i)
      (λ p j h. if_gives (Inner (suc room) level) (is_foreign j) _ _ (λ _. tt) (λ _. if_gives (Inner (suc room) level) (is_operator j) _ _ (λ _. tt) (λ _. inner_path room level p h)))

  arguments_from_keep : (f : Function) (n : ℕ) (found : List Expr) (i : Text) → 0 < room → length found + 1 ≤ f.most → AllByRecursion (Inner room (argument_level f)) found → Gives (Given room f) (arguments_from room inner f n found i)
  unfolding arguments_from
  arguments_from_keep f zero found i some many all = tt
  arguments_from_keep f (suc n) found i some many all =
      then_gives (Inner room (argument_level f)) (Given room f) (inner (argument_level f) i) _ (keeps (argument_level f) i)
      (λ x j one. if_gives (Given room f) (nat_le f.least (length found + 1) && sees k.Close j) _ _
      (λ last. with_one room f found x some (leb-true f.least (length found + 1) (and_parts (nat_le f.least (length found + 1)) _ last).0) many all one)
      (λ _. if_gives (Given room f) (nat_lt (length found + 1) f.most && sees k.Comma j) _ _
      (λ further. arguments_from_keep f n (found ++ x ∷ []) (next j) some
      (let l = one_longer found x in let m = ltb-true (length found + 1) f.most (and_parts (nat_lt (length found + 1) f.most) _ further).0 in omega (arith, l, m))
      (all_snoc (Inner room (argument_level f)) found x all one))
      (λ _. tt)))

  some_arguments_keep : (f : Function) (i : Text) → 0 < room → 1 ≤ f.most → Gives (Given room f) (some_arguments room inner f i)
  unfolding some_arguments
  some_arguments_keep f i some most = arguments_from_keep f (length i) [] i some most tt

  arguments_keep : (f : Function) (i : Text) → 0 < room → Gives (Given room f) (arguments room inner f i)
  unfolding arguments
  arguments_keep f i some = if_gives (Given room f) (f.least == 0 && sees k.Close i) _ _
      (λ no. record { some = some; least = (let l = eqb-true f.least 0 (and_parts (f.least == 0) _ no).0 in omega (arith, l)); most = omega arith; each = tt })
      (λ _. if_gives (Given room f) (f.most == 0) _ _ (λ _. tt) (λ more. some_arguments_keep f i some (some_room f.most more)))

  call_of_keeps : (m : Option Function) (i : Text) → IfFound Sound m → Gives (Within room) (call_of room inner m i)
  call_of_keeps None i h = tt
  call_of_keeps (Some f) i h = then_gives (Given room f) (Within room) (and_then (open_part room inner i) (λ _. arguments room inner f)) _
      (then_gives (λ _. 0 < room) (Given room f) (open_part room inner i) _ (open_part_keeps i) (λ _ j some. arguments_keep f j some))
      (λ xs j given. unfiltered_keeps (Within room) (e.Apply f.op xs) j (call_within room f xs h given))

  call_keeps : (name : List ℕ) (i : Text) → Gives (Within room) (call room inner name i)
  unfolding call
  call_keeps name i = call_of_keeps (function_named name) i (function_sound name)

  named_operand_keeps : (name : List ℕ) (i : Text) → Gives (Within room) (named_operand room inner name i)
  unfolding named_operand
  named_operand_keeps name i = if_gives (Within room) (sees k.Open i && not (is_node_type name)) _ _ (λ _. call_keeps name i)
      (λ _. then_gives (StepWithin room) (Within room) (named_step room inner None name i) _ (named_step_keeps None name i)
      (λ s j one. then_gives (AllByRecursion (StepWithin room)) (Within room) (steps room inner (s ∷ []) j) _ (steps_keep (s ∷ []) j (one, tt))
      (λ ss l h. of_path room (make_path false ss) (path_within room false ss h))))

  parenthesized_keeps : (i : Text) → Gives (Within room) (parenthesized room inner i)
  unfolding parenthesized
  parenthesized_keeps i = after (Within room) (open_part room inner i) _
      (λ _ j. then_gives (Inner room 6) (Within room) (inner 6 j) _ (keeps 6 j)
      (λ x l one. after (Within room) (close k.Close l) _ (λ _ m. unfiltered_keeps (Within room) x m (inner_within room 6 x one))))

  numbered_keeps : (i : Text) → Gives (Within room) (numbered i)
  unfolding numbered
  numbered_keeps i = numbered_by_keeps room (number_of (spelling i)) i (number_in_range (spelling i))

  quoted_keeps : (i : Text) → Gives (Within room) (quoted i)
  unfolding quoted
  quoted_keeps i = unfiltered_keeps (Within room) (e.Literal (literal_of (spelling i))) (next i) (of_literal room (literal_of (spelling i)))

  path_operand_keeps : (i : Text) → Gives (Within room) (and_then (path room inner None i) (λ p j. Ok (e.Path p, j)))
  path_operand_keeps i = then_gives (PathWithin room) (Within room) (path room inner None i) _ (path_keeps None i) (λ p j h. of_path room p h)

  operand_by_keeps : (kind : Kind) (i : Text) → Gives (Within room) (operand_by room inner kind i)
  operand_by_keeps k.End i = path_operand_keeps i
  operand_by_keeps k.Bad i = path_operand_keeps i
  operand_by_keeps k.Name i = named_operand_keeps (encode_utf8_all (spelling i)) (next i)
  operand_by_keeps k.Prefix i = path_operand_keeps i
  operand_by_keeps k.Number i = numbered_keeps i
  operand_by_keeps k.Fraction i = tt
  operand_by_keeps k.Literal i = quoted_keeps i
  operand_by_keeps k.Variable i = tt
  operand_by_keeps k.Open i = parenthesized_keeps i
  operand_by_keeps k.Close i = path_operand_keeps i
  operand_by_keeps k.OpenBracket i = path_operand_keeps i
  operand_by_keeps k.CloseBracket i = path_operand_keeps i
  operand_by_keeps k.Comma i = path_operand_keeps i
  operand_by_keeps k.At i = path_operand_keeps i
  operand_by_keeps k.DoubleColon i = path_operand_keeps i
  operand_by_keeps k.Slash i = path_operand_keeps i
  operand_by_keeps k.DoubleSlash i = path_operand_keeps i
  operand_by_keeps k.Dot i = path_operand_keeps i
  operand_by_keeps k.DoubleDot i = path_operand_keeps i
  operand_by_keeps k.Star i = path_operand_keeps i
  operand_by_keeps k.Bar i = path_operand_keeps i
  operand_by_keeps k.Plus i = path_operand_keeps i
  operand_by_keeps k.Minus i = path_operand_keeps i
  operand_by_keeps k.Equal i = path_operand_keeps i
  operand_by_keeps k.NotEqual i = path_operand_keeps i
  operand_by_keeps k.Less i = path_operand_keeps i
  operand_by_keeps k.LessEqual i = path_operand_keeps i
  operand_by_keeps k.Greater i = path_operand_keeps i
  operand_by_keeps k.GreaterEqual i = path_operand_keeps i

  operand_keeps : (i : Text) → Gives (Within room) (operand room inner i)
  unfolding operand
  operand_keeps i = operand_by_keeps (kind i) i

  unary_keeps : (i : Text) → Gives (Within room) (unary room inner i)
  unfolding unary
  unary_keeps i = if_gives (Within room) (sees k.Minus i) _ _
      (λ _. then_gives (λ x. (0 < room) × Inner room 0 x) (Within room) (and_then (open_part room inner i) (λ _. inner 0)) _
      (then_gives (λ _. 0 < room) (λ x. (0 < room) × Inner room 0 x) (open_part room inner i) _ (open_part_keeps i)
      (λ _ j some. weaker (Inner room 0) (λ x. (0 < room) × Inner room 0 x) (inner 0 j) (λ x one. (some, one)) (keeps 0 j)))
      (λ x j one. applied room 0 op.Negate (x ∷ []) one.0 refl refl (λ paths. absurd (true≢false (sym paths))) (one.1, tt)))
      (λ _. operand_keeps i)

  chain_keeps : (level : ℕ) (i : Text) → Gives (Within room) (chain room inner level i)
  unfolding chain
  chain_keeps zero i = unary_keeps i
  chain_keeps (suc n) i = then_gives (Within room) (Within room) (chain room inner n i) _ (chain_keeps n i)
      (λ x j one. links_keep room (chain room inner n) (suc n) (length j) [] [] x j (chain_keeps n) (omega arith) (begun (suc n)) tt one)

  pub expression_of_keeps : (level : ℕ) (i : Text) → Gives (Inner (suc room) level) (expression_of room inner level i)
  unfolding expression_of
  expression_of_keeps level i = if_parser (Inner (suc room) level) (level == 7) _ _ i (λ _. argument_path_keeps level i)
      (λ other. weaker (Within room) (Inner (suc room) level) (chain room inner level i) (λ x h. inner_not_path room level x (eqb-false level 7 other) h) (chain_keeps level i))

-- ---- nested parts

expression_keeps : (room level : ℕ) (i : Text) → Gives (Inner (suc room) level) (expression room level i)
unfolding expression
expression_keeps zero level i = expression_of_keeps zero (λ _ j. Err (Syntax (length j))) (λ _ _. tt) level i
expression_keeps (suc room) level i = expression_of_keeps (suc room) (expression room) (expression_keeps room) level i

inside_keeps : (room level : ℕ) (i : Text) → Gives (Inner room level) (inside room level i)
inside_keeps zero level i = tt
inside_keeps (suc room) level i = expression_keeps room level i

pub whole_keeps : (i : Text) → Gives (PathWithin most_nested) (whole i)
whole_keeps i = then_gives (PathWithin most_nested) (PathWithin most_nested) (lone_path most_nested (inside most_nested) what.Expression i) _
    (lone_path_keeps most_nested (inside most_nested) (inside_keeps most_nested) what.Expression i)
    (λ p j h. if_gives (PathWithin most_nested) (sees k.End j) _ _ (λ _. h) (λ _. if_gives (PathWithin most_nested) (is_foreign j || is_operator j) _ _ (λ _. tt) (λ _. tt)))

-- Each rule of the grammar reads what is written for its part of a path.
use Rattle.std.proofs.Common.{◌≡◌, ℕ, zero, suc, ◌+◌, ◌≤◌, ◌<◌, Bool, true, false, cond, ◌==◌, List, [], ◌∷◌, ◌++◌, map, length, Option, None, Ok, Err, refl, ap, ap₂, sym, ◌∙◌, append_assoc, append-nil, arith}
use Rattle.std.proofs.lemmas.Bool.{and_parts, and_from, ne_eqb}
use Rattle.std.proofs.lemmas.List.{length-append}
use Rattle.std.proofs.lemmas.Str.{encodes-chars, IsUtf8-from_is_utf8, scalars-chars}
use Rattle.std.specs.List.{AllByRecursion}
use Rattle.std.specs.Prelude.{codes, encode_utf8_all}
use Rattle.std.specs.Str.{chars, is_utf8}
use lib.Utf8.{encode, scalar, scalars}
use Rattle.path_model.specs.Lawful.{deepest, form}
use Rattle.path_model.specs.declared.path.Axis.{Axis}
use Rattle.path_model.specs.declared.path.Axis.TheVariants as axis
use Rattle.path_model.specs.declared.path.Expr.{Expr}
use Rattle.path_model.specs.declared.path.Expr.TheVariants as e
use Rattle.path_model.specs.declared.path.NodeTest.{NodeTest}
use Rattle.path_model.specs.declared.path.NodeTest.TheVariants as test
use Rattle.path_model.specs.declared.path.Step.{Step}
use Rattle.path_model.specs.declared.path.XPath.{XPath}
use Rattle.xpath_parser.specs.declared.lex.Kind.{Kind}
use Rattle.xpath_parser.specs.declared.lex.Kind.TheVariants as k
use Rattle.xpath_parser.specs.declared.refusal.Refusal.TheVariants.{Syntax, Deep}
use Rattle.xpath_parser.specs.declared.refusal.What.{What}
use Rattle.xpath_parser.specs.Grammar.{begins_expression, begins_step, stray, close, node_type, named_test, node_test_by, node_test, make_step, open_part, predicates_from, predicates, step_along, step_on_axis, step_on, named_step, step_by, step, path, argument_path, chain, unary, expression_of, inside}
use Rattle.xpath_parser.specs.Input.{Parser, and_then, expect, kind, next, sees, same_kind, pure}
use Rattle.xpath_parser.specs.Lex.{Text, skip}
use Rattle.xpath_parser.proofs.Levels.{expression_is}
use Rattle.xpath_parser.proofs.Rules.{goes_on}
use Rattle.xpath_parser.specs.PathText.{Written, word, axis_word, test_before, is_sayable_test, bracketed, written, step_written}
use Rattle.xpath_parser.proofs.TextTokens.{IsToken, Stands, stands, open_token, close_token, open_bracket_token, close_bracket_token, colons_token, star_token, text_token, node_token, axis_token, name_is_token}
use Rattle.xpath_parser.proofs.TextFacts.{saw, axis_found, Stops, Closed, closed_close_bracket}

-- ---- one token

pub seen : (token : Kind) (w i z : Text) (wanted : Kind) → Stands token w i z → sees wanted i ≡ same_kind token wanted
seen token w i z wanted s = saw i token wanted s.kind_is

expects : (z : Text) → skip z ≡ z → expect k.Close (word (codes ")") z) ≡ Ok (tt, z)
unfolding expect
expects z start =
    let i = word (codes ")") z in
    let s = stands k.Close (codes ")") z close_token start in
    ap (λ b. cond b (Ok (tt, next i)) (Err (Syntax (length i)))) (seen k.Close (codes ")") i z k.Close s) ∙ ap (λ j. Ok (tt, j)) s.next_is

pub closes : (token : Kind) (w z : Text) → IsToken token w → same_kind token token ≡ true → skip z ≡ z → close token (word w z) ≡ Ok (tt, z)
unfolding close
closes token w z t same start =
    let s = stands token w z t start in
    ap (λ b. cond b (Ok (tt, next (word w z))) (Err (stray (word w z)))) (seen token w (word w z) z token s ∙ same) ∙ ap (λ j. Ok (tt, j)) s.next_is

some : (n : ℕ) → 0 < n → (n == 0) ≡ false
some n h = ne_eqb n 0 (λ same. omega (arith, h, same))

pub opens : (room : ℕ) (inner : ℕ → Parser Expr) (i z : Text) → 0 < room → next i ≡ z → open_part room inner i ≡ Ok (tt, z)
unfolding open_part
opens room inner i z h is = ap (λ b. cond b (Err (Deep (length i))) (Ok (tt, next i))) (some room h) ∙ ap (λ j. Ok (tt, j)) is

-- ---- node tests

pub test_start : (t : NodeTest) (z : Text) → is_sayable_test t ≡ true → skip (test_before t z) ≡ test_before t z
test_start (test.Name name) z h = (name_is_token (chars name) (and_parts (is_utf8 name) _ h).1).begins z
test_start test.Any z h = star_token.begins z
test_start test.Text z h = text_token.begins _
test_start test.Node z h = node_token.begins _

not_called : (name : List ℕ) (z : Text) → sees k.Open z ≡ false → named_test None name z ≡ Ok (test.Name name, z)
unfolding named_test
not_called name z call = ap (λ b. cond b (node_type None name z) (Ok (test.Name name, z))) call

called : (name : List ℕ) (z : Text) → sees k.Open z ≡ true → named_test None name z ≡ node_type None name z
unfolding named_test
called name z call = ap (λ b. cond b (node_type None name z) (Ok (test.Name name, z))) call

in_parentheses : (t : NodeTest) (z : Text) → skip z ≡ z → and_then (expect k.Close (next (word (codes "(") (word (codes ")") z)))) (λ _. pure t) ≡ Ok (t, z)
in_parentheses t z start =
    let s = stands k.Open (codes "(") (word (codes ")") z) open_token (close_token.begins z) in
    ap (λ j. and_then (expect k.Close j) (λ _. pure t)) s.next_is ∙ goes_on (λ _. pure t) tt z (expects z start)

text_type : (i : Text) → node_type None (codes "text") i ≡ and_then (expect k.Close (next i)) (λ _. pure test.Text)
unfolding node_type
text_type i = refl

node_type_is : (i : Text) → node_type None (codes "node") i ≡ and_then (expect k.Close (next i)) (λ _. pure test.Node)
unfolding node_type
node_type_is i = refl

text_name : encode_utf8_all (codes "text") ≡ codes "text"
unfolding encode
text_name = refl

node_name : encode_utf8_all (codes "node") ≡ codes "node"
unfolding encode
node_name = refl

pub test_reads : (t : NodeTest) (z : Text) → is_sayable_test t ≡ true → skip z ≡ z → sees k.Open z ≡ false → node_test (test_before t z) ≡ Ok (t, z)
unfolding node_test
test_reads (test.Name name) z h start call =
    let p = and_parts (is_utf8 name) _ h in
    let i = word (chars name) z in
    let s = stands k.Name (chars name) z (name_is_token (chars name) p.1) start in
    ap (λ kind. node_test_by kind i) s.kind_is
    ∙ (ap₂ (named_test None) (ap encode_utf8_all s.spelling_is ∙ encodes-chars name (IsUtf8-from_is_utf8 name p.0)) s.next_is ∙ not_called name z call)
test_reads test.Any z h start call =
    let s = stands k.Star (codes "*") z star_token start in
    ap (λ kind. node_test_by kind (word (codes "*") z)) s.kind_is ∙ ap (λ j. Ok (test.Any, j)) s.next_is
test_reads test.Text z h start call =
    let j = word (codes "(") (word (codes ")") z) in
    let i = word (codes "text") j in
    let s = stands k.Name (codes "text") j text_token (open_token.begins _) in
    let o = stands k.Open (codes "(") (word (codes ")") z) open_token (close_token.begins z) in
    ap (λ kind. node_test_by kind i) s.kind_is
    ∙ (ap₂ (named_test None) (ap encode_utf8_all s.spelling_is ∙ text_name) s.next_is
    ∙ (called (codes "text") j (seen k.Open (codes "(") j (word (codes ")") z) k.Open o) ∙ (text_type j ∙ in_parentheses test.Text z start)))
test_reads test.Node z h start call =
    let j = word (codes "(") (word (codes ")") z) in
    let i = word (codes "node") j in
    let s = stands k.Name (codes "node") j node_token (open_token.begins _) in
    let o = stands k.Open (codes "(") (word (codes ")") z) open_token (close_token.begins z) in
    ap (λ kind. node_test_by kind i) s.kind_is
    ∙ (ap₂ (named_test None) (ap encode_utf8_all s.spelling_is ∙ node_name) s.next_is
    ∙ (called (codes "node") j (seen k.Open (codes "(") j (word (codes ")") z) k.Open o) ∙ (node_type_is j ∙ in_parentheses test.Node z start)))

-- ---- what is read back

-- behind a step
pub record Ends (z : Text) : Type 0 where
  pub start : skip z ≡ z
  pub call : sees k.Open z ≡ false
  pub bracket : sees k.OpenBracket z ≡ false

pub ends_of : (n : ℕ) (z : Text) → Stops n z → Ends z
ends_of n z s = record { start = s.start; call = s.call; bracket = s.bracket }

-- of what is written for any part
pub record Text_of (w : Written) : Type 0 where
  pub start : (z : Text) → skip (w.before z) ≡ w.before z
  pub long : (z : Text) → length z ≤ length (w.before z)
  pub scalar : (z : Text) → scalars z ≡ true → scalars (w.before z) ≡ true

pub record ReadsBack (x : Expr) (is_path : Bool) (w : Written) : Type 0 where
  pub text : Text_of w
  pub small : w.level ≤ 6
  pub close : (z : Text) → sees k.Close (w.before z) ≡ false
  pub reads : (room n : ℕ) (z : Text) → w.parts ≤ room → w.level ≤ n → Stops n z → (w.is_root ≡ true → begins_step (kind z) ≡ false) → chain room (inside room) n (w.before z) ≡ Ok (x, z)
  pub nodes : (room : ℕ) (z : Text) → is_path ≡ true → w.parts ≤ room → Closed z → argument_path room (inside room) (w.before z) ≡ Ok (x, z)

pub record StepBack (s : Step) (w : Written) : Type 0 where
  pub text : Text_of w
  pub name : (z : Text) → kind (w.before z) ≡ k.Name
  pub call : (z : Text) → sees k.Open (next (w.before z)) ≡ false
  pub reads : (room : ℕ) (call : Option What) (z : Text) → w.parts ≤ room → Ends z → step room (inside room) call (w.before z) ≡ Ok (s, z)

pub record PathBack (p : XPath) (w : Written) : Type 0 where
  pub text : Text_of w
  pub begins : (z : Text) → begins_expression (kind (w.before z)) ≡ false
  pub close : (z : Text) → sees k.Close (w.before z) ≡ false
  pub level : w.level ≡ 0
  pub reads : (room : ℕ) (call : Option What) (z : Text) → w.parts ≤ room → Stops 0 z → (w.is_root ≡ true → begins_step (kind z) ≡ false) → path room (inside room) call (w.before z) ≡ Ok (p, z)
  pub operand : (room : ℕ) (z : Text) → w.parts ≤ room → Stops 0 z → (w.is_root ≡ true → begins_step (kind z) ≡ false) → unary room (inside room) (w.before z) ≡ Ok (e.Path p, z)

-- in a nested part
pub inner_reads : (x : Expr) (is_path : Bool) (w : Written) → ReadsBack x is_path w → (room : ℕ) (z : Text) → w.parts < room → Closed z → inside room 6 (w.before z) ≡ Ok (x, z)
unfolding expression_of
inner_reads x is_path w b zero z h c = absurd (omega (arith, h))
inner_reads x is_path w b (suc room) z h c = ap (λ (f : Parser Expr). f (w.before z)) (expression_is room 6) ∙ b.reads room 6 z (omega (arith, h)) b.small (c.stops 6) (λ _. c.step)

-- ---- predicates

-- an expression is read back as it was written
abbrev pub Back : Expr → Type 0
Back x = ReadsBack x (form x).is_path (written x)

pub bracketed_start : (es : List Expr) (z : Text) → skip z ≡ z → skip (bracketed (map written es) z) ≡ bracketed (map written es) z
bracketed_start [] z start = start
bracketed_start (x ∷ es) z start = open_bracket_token.begins _

pub bracketed_ends : (es : List Expr) (z : Text) → AllByRecursion Back es → Ends z → sees k.Open (bracketed (map written es) z) ≡ false
bracketed_ends [] z all h = h.call
bracketed_ends (x ∷ es) z all h = seen k.OpenBracket (codes "[") _ _ k.Open (stands k.OpenBracket (codes "[") _ open_bracket_token (all.0.text.start _))

pub longer_word : (w z : Text) → length z < length (word w z)
longer_word w z = let e = length-append w (32 ∷ z) in omega (arith, e)

pub bracketed_long : (es : List Expr) (z : Text) → AllByRecursion Back es → length es + length z ≤ length (bracketed (map written es) z)
bracketed_long [] z all = omega arith
bracketed_long (x ∷ es) z all =
    let y = bracketed (map written es) z in
    let rest = bracketed_long es z all.1 in
    let close = longer_word (codes "]") y in
    let own = all.0.text.long (word (codes "]") y) in
    let front = longer_word (codes "[") ((written x).before (word (codes "]") y)) in
    omega (arith, rest, close, own, front)

pub bracketed_scalar : (es : List Expr) (z : Text) → AllByRecursion Back es → scalars z ≡ true → scalars (bracketed (map written es) z) ≡ true
bracketed_scalar [] z all h = h
bracketed_scalar (x ∷ es) z all h = all.0.text.scalar (word (codes "]") (bracketed (map written es) z)) (bracketed_scalar es z all.1 h)

pub predicates_from_read : (room n : ℕ) (es found : List Expr) (z : Text) → AllByRecursion Back es → deepest (map suc (map (λ x. x.parts) (map written es))) ≤ room → length es ≤ n → Ends z
    → predicates_from room (inside room) n found (bracketed (map written es) z) ≡ Ok (found ++ es, z)
unfolding predicates_from
predicates_from_read room zero [] found z all deep many h = ap (λ l. Ok (l, z)) (sym (append-nil found))
predicates_from_read room zero (x ∷ es) found z all deep many h = absurd (omega (arith, many))
predicates_from_read room (suc n) [] found z all deep many h =
    ap (λ b. cond b (and_then (and_then (open_part room (inside room) z) (λ _. inside room 6)) after) (Ok (found, z))) h.bracket ∙ ap (λ l. Ok (l, z)) (sym (append-nil found))
  where
    after : Expr → Parser (List Expr)
    after x = λ j. and_then (close k.CloseBracket j) (λ _. predicates_from room (inside room) n (found ++ x ∷ []))
predicates_from_read room (suc n) (x ∷ es) found z all deep many h =
    let w = written x in
    let j3 = bracketed (map written es) z in
    let j2 = word (codes "]") j3 in
    let j1 = w.before j2 in
    let i = word (codes "[") j1 in
    let start3 : skip j3 ≡ j3 = bracketed_start es z h.start in
    let s : Stands k.OpenBracket (codes "[") i j1 = stands k.OpenBracket (codes "[") j1 open_bracket_token (all.0.text.start j2) in
    let opened : and_then (open_part room (inside room) i) (λ _. inside room 6) ≡ Ok (x, j2) =
    goes_on (λ _. inside room 6) tt j1 (opens room (inside room) i j1 (omega (arith, deep)) s.next_is)
    ∙ inner_reads x (form x).is_path w all.0 room j2 (omega (arith, deep)) (closed_close_bracket j3 start3) in
    ap (λ b. cond b (and_then (and_then (open_part room (inside room) i) (λ _. inside room 6)) after) (Ok (found, i))) (seen k.OpenBracket (codes "[") i j1 k.OpenBracket s)
    ∙ (goes_on after x j2 opened
    ∙ (goes_on (λ _. predicates_from room (inside room) n (found ++ x ∷ [])) tt j3 (closes k.CloseBracket (codes "]") j3 close_bracket_token refl start3)
    ∙ (predicates_from_read room n es (found ++ x ∷ []) z all.1 (omega (arith, deep)) (omega (arith, many)) h
    ∙ ap (λ l. Ok (l, z)) (append_assoc found (x ∷ []) es))))
  where
    after : Expr → Parser (List Expr)
    after x = λ j. and_then (close k.CloseBracket j) (λ _. predicates_from room (inside room) n (found ++ x ∷ []))

predicates_read : (room : ℕ) (es : List Expr) (z : Text) → AllByRecursion Back es → deepest (map suc (map (λ x. x.parts) (map written es))) ≤ room → Ends z
    → predicates room (inside room) (bracketed (map written es) z) ≡ Ok (es, z)
unfolding predicates
predicates_read room es z all deep h = let long = bracketed_long es z all in predicates_from_read room _ es [] z all deep (omega (arith, long)) h

-- ---- steps

axis_scalar : (a : Axis) (z : Text) → scalars z ≡ true → scalars (word (axis_word a) z) ≡ true
axis_scalar axis.Child z h = h
axis_scalar axis.Descendant z h = h
axis_scalar axis.Parent z h = h
axis_scalar axis.Ancestor z h = h
axis_scalar axis.FollowingSibling z h = h
axis_scalar axis.PrecedingSibling z h = h
axis_scalar axis.Following z h = h
axis_scalar axis.Preceding z h = h
axis_scalar axis.Attribute z h = h
axis_scalar axis.SelfNode z h = h
axis_scalar axis.DescendantOrSelf z h = h
axis_scalar axis.AncestorOrSelf z h = h

pub scalars_both : (w z : Text) → scalars w ≡ true → scalars z ≡ true → scalars (w ++ z) ≡ true
scalars_both [] z h k = k
scalars_both (c ∷ w) z h k = let p = and_parts (scalar c) _ h in and_from (scalar c) _ p.0 (scalars_both w z p.1 k)

test_scalar : (t : NodeTest) (z : Text) → is_sayable_test t ≡ true → scalars z ≡ true → scalars (test_before t z) ≡ true
test_scalar (test.Name name) z h k = scalars_both (chars name) (32 ∷ z) (scalars-chars name (IsUtf8-from_is_utf8 name (and_parts (is_utf8 name) _ h).0)) k
test_scalar test.Any z h k = k
test_scalar test.Text z h k = k
test_scalar test.Node z h k = k

test_long : (t : NodeTest) (z : Text) → length z ≤ length (test_before t z)
test_long (test.Name name) z = let e = longer_word (chars name) z in omega (arith, e)
test_long test.Any z = let e = longer_word (codes "*") z in omega (arith, e)
test_long test.Text z = omega arith
test_long test.Node z = omega arith

behind_colons : (room : ℕ) (call : Option What) (name : List ℕ) (i : Text) → sees k.DoubleColon i ≡ true → named_step room (inside room) call name i ≡ step_on room (inside room) name i
unfolding named_step
behind_colons room call name i is = ap (λ b. cond b (step_on room (inside room) name i) (and_then (named_test call name i) (λ t j. and_then (predicates room (inside room) j) (λ es. pure (make_step axis.Child t es))))) is

pub step_is_read : (a : Axis) (t : NodeTest) (es : List Expr) → is_sayable_test t ≡ true → AllByRecursion Back es → StepBack (make_step a t es) (step_written (record { axis = a; test = t; tests = map written es }))
unfolding step step_on step_along
step_is_read a t es h all = record {
  text = record {
    start = λ z. (axis_token a).begins _;
    long = λ z. (let b = bracketed_long es z all in let c = test_long t (bracketed (map written es) z) in let d = longer_word (codes "::") (test_before t (bracketed (map written es) z)) in
        let f = longer_word (axis_word a) (word (codes "::") (test_before t (bracketed (map written es) z))) in omega (arith, b, c, d, f));
    scalar = λ z k. axis_scalar a _ (test_scalar t (bracketed (map written es) z) h (bracketed_scalar es z all k));
  };
  name = λ z. (named z).kind_is;
  call = λ z. ap (sees k.Open) (named z).next_is ∙ seen k.DoubleColon (codes "::") _ _ k.Open (stands k.DoubleColon (codes "::") _ colons_token (test_start t _ h));
  reads = reads;
} where
  named : (z : Text) → Stands k.Name (axis_word a) (word (axis_word a) (word (codes "::") (test_before t (bracketed (map written es) z)))) (word (codes "::") (test_before t (bracketed (map written es) z)))
  named z = stands k.Name (axis_word a) _ (axis_token a) (colons_token.begins _)

  reads : (room : ℕ) (call : Option What) (z : Text) → deepest (map suc (map (λ x. x.parts) (map written es))) ≤ room → Ends z
      → step room (inside room) call (word (axis_word a) (word (codes "::") (test_before t (bracketed (map written es) z)))) ≡ Ok (make_step a t es, z)
  reads room call z deep ends =
      let j3 = bracketed (map written es) z in
      let j2 = test_before t j3 in
      let j1 = word (codes "::") j2 in
      let i = word (axis_word a) j1 in
      let colons : Stands k.DoubleColon (codes "::") j1 j2 = stands k.DoubleColon (codes "::") j2 colons_token (test_start t j3 h) in
      let along : step_along room (inside room) a j2 ≡ Ok (make_step a t es, z) =
      goes_on (λ t. λ i. and_then (predicates room (inside room) i) (λ es. pure (make_step a t es))) t j3 (test_reads t j3 h (bracketed_start es z ends.start) (bracketed_ends es z all ends))
      ∙ goes_on (λ es. pure (make_step a t es)) es z (predicates_read room es z all deep ends) in
      ap (λ kind. step_by room (inside room) call kind i) (named z).kind_is
      ∙ (ap₂ (named_step room (inside room) call) (ap encode_utf8_all (named z).spelling_is) (named z).next_is
      ∙ (behind_colons room call (encode_utf8_all (axis_word a)) j1 (seen k.DoubleColon (codes "::") j1 j2 k.DoubleColon colons)
      ∙ (ap (λ m. step_on_axis room (inside room) (encode_utf8_all (axis_word a)) m j1) (axis_found a)
      ∙ (ap (step_along room (inside room) a) colons.next_is ∙ along))))

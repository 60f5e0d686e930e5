-- Expressions are read back: words, operands in parentheses where they need them, chains and calls.
use Rattle.std.proofs.Common.{◌≡◌, ℕ, zero, suc, ◌+◌, ◌^◌, ◌≤◌, ◌<◌, Bool, true, false, cond, not, ◌&&◌, ◌||◌, ◌==◌, List, [], ◌∷◌, ◌++◌, map, length, None, Some, Ok, Err, refl, ap, ap₂, sym, ◌∙◌, subst, append_assoc, append-nil, arith}
use Rattle.std.proofs.lemmas.Bool.{and_parts, or_parts, ne_eqb, eq-eqb, eqb-true, leb-true, leb-false, le-leb, lt-ltb, ltb-true, true≢false}
use Rattle.std.proofs.lemmas.List.{length-append, length-map}
use Rattle.std.specs.List.{AllByRecursion, list_all}
use Rattle.std.specs.Prelude.{nat_le, nat_lt, codes, encode_utf8_all}
use lib.Utf8.{scalars}
use Rattle.path_model.specs.Lawful.{deepest, form, precedence, applies, admits, at_most, takes}
use Rattle.path_model.specs.declared.path.Expr.{Expr}
use Rattle.path_model.specs.declared.path.Expr.TheVariants as e
use Rattle.path_model.specs.declared.path.Op.{Op}
use Rattle.path_model.specs.declared.path.Op.TheVariants as op
use Rattle.path_model.specs.declared.path.XPath.{XPath}
use Rattle.xpath_parser.specs.declared.lex.Kind.{Kind}
use Rattle.xpath_parser.specs.declared.lex.Kind.TheVariants as k
use Rattle.xpath_parser.specs.declared.refusal.Refusal.TheVariants.{Syntax, Unsupported}
use Rattle.xpath_parser.specs.declared.refusal.What.TheVariants as what
use Rattle.xpath_parser.specs.declared.words.Function.{Function}
use Rattle.xpath_parser.specs.Grammar.{of_level, operator, stray, unfiltered, close, open_part, argument_level, arguments_from, some_arguments, arguments, call, named_operand, named_step, steps, make_path, chain, chain_of, links_from, operand_by, operand, unary, parenthesized, expression_of, inside}
use Rattle.xpath_parser.specs.Input.{Parser, and_then, next, sees, same_kind, pure}
use Rattle.xpath_parser.specs.Lex.{Text, skip}
use Rattle.xpath_parser.specs.Words.{is_node_type}
use Rattle.xpath_parser.proofs.Levels.{expression_is}
use Rattle.xpath_parser.proofs.Rules.{goes_on, last_link, no_turns, more_links, known_call}
use Rattle.xpath_parser.specs.PathText.{Written, word, function_word, operator_word, between, behind, written, written_word, needs_parentheses, operand_before, operand_parts, further, all_sayable, chain_written, minus_written, call_written, apply_written}
use Rattle.xpath_parser.proofs.TextTokens.{IsToken, Stands, stands, kind_of, open_token, close_token, comma_token, minus_token}
use Rattle.xpath_parser.proofs.TextFacts.{saw, Stops, stops_below, Closed, closed_close, closed_comma, OperatorNext, operator_next, IsFunction, Position_is, Last_is, Count_is, Sum_is, NameOf_is, StringOf_is, Concat_is, StartsWith_is, Contains_is, SubstringBefore_is, SubstringAfter_is, Substring_is, StringLength_is, NormalizeSpace_is, BooleanOf_is, Not_is, TrueOf_is, FalseOf_is, NumberOf_is}
use Rattle.xpath_parser.proofs.StepBacks.{Text_of, ReadsBack, PathBack, Back, seen, opens, closes, inner_reads, longer_word, scalars_both}
use Rattle.xpath_parser.proofs.PathBacks.{no_minus, argument_reads}

-- ---- up through the levels

no_more_links : (tighter : Parser Expr) (level n : ℕ) (es : List Expr) (ops : List Op) (x : Expr) (i : Text) → of_level level (operator i) ≡ None → links_from tighter level n es ops x i ≡ Ok (chain_of es ops x, i)
no_more_links tighter level zero es ops x i h = no_turns tighter level es ops x i
no_more_links tighter level (suc n) es ops x i h = last_link tighter level n es ops x i h

-- what a level reads is read by each one above that stops behind it
lift : (room n m : ℕ) (x : Expr) (i z : Text) → Stops n z → m ≤ n → chain room (inside room) m i ≡ Ok (x, z) → chain room (inside room) n i ≡ Ok (x, z)
unfolding chain
lift room zero m x i z s within h = let same : m ≡ 0 = omega (arith, within) in subst (λ l. chain room (inside room) l i ≡ Ok (x, z)) same h
lift room (suc n) m x i z s within h = elim (nat_le m n) as (λ b. nat_le m n ≡ b → chain room (inside room) (suc n) i ≡ Ok (x, z)) [
  | true ↦ λ below. goes_on (λ x j. links_from (chain room (inside room) n) (suc n) (length j) [] [] x j) x z (lift room n m x i z (stops_below n (suc n) z (omega arith) s) (leb-true m n below) h)
      ∙ no_more_links (chain room (inside room) n) (suc n) (length z) [] [] x z (s.none (suc n) (omega arith))
  | false ↦ λ above. (let over = leb-false m n above in let same : m ≡ suc n = omega (arith, over, within) in subst (λ l. chain room (inside room) l i ≡ Ok (x, z)) same h)
] refl

-- from a unary expression
from_unary : (room n : ℕ) (x : Expr) (i z : Text) → Stops n z → unary room (inside room) i ≡ Ok (x, z) → chain room (inside room) n i ≡ Ok (x, z)
unfolding chain
from_unary room n x i z s h = lift room n 0 x i z s (omega arith) h

pub unfiltered_is : (n : ℕ) (x : Expr) (z : Text) → Stops n z → unfiltered x z ≡ Ok (x, z)
unfolding unfiltered
unfiltered_is n x z s =
    ap (λ b. cond (b || (sees k.Slash z || sees k.DoubleSlash z)) (Err (Unsupported what.Filter (length z))) (Ok (x, z))) s.bracket
    ∙ (ap (λ b. cond (b || sees k.DoubleSlash z) (Err (Unsupported what.Filter (length z))) (Ok (x, z))) s.slash
    ∙ ap (λ b. cond b (Err (Unsupported what.Filter (length z))) (Ok (x, z))) s.double)

-- ---- words and paths

pub word_back : (x : Expr) (token : Kind) (w : Text) (is_sayable : Bool) → IsToken token w → same_kind token k.Minus ≡ false → same_kind token k.Close ≡ false → scalars w ≡ true
    → ((room : ℕ) (z : Text) → Stops 0 z → operand_by room (inside room) token (word w z) ≡ Ok (x, z)) → ReadsBack x false (written_word w is_sayable)
word_back x token w is_sayable t minus close scalar reads = record {
  text = record { start = t.begins; long = λ z. (let h = longer_word w z in omega (arith, h)); scalar = λ z h. scalars_both w (32 ∷ z) scalar h };
  small = omega arith;
  close = λ z. saw (word w z) token k.Close (kind_of token w z t) ∙ close;
  reads = λ room n z deep level s root. from_unary room n x (word w z) z s (no_minus room (word w z) token (kind_of token w z t) minus ∙ reads room z (stops_below 0 n z (omega arith) s));
  nodes = λ room z is deep c. absurd (true≢false (sym is));
}

pub path_back : (p : XPath) (w : Written) → PathBack p w → ReadsBack (e.Path p) true w
path_back p w b = record {
  text = b.text;
  small = (let l = b.level in omega (arith, l));
  close = b.close;
  reads = λ room n z deep level s root. from_unary room n (e.Path p) (w.before z) z s (b.operand room z deep (stops_below 0 n z (omega arith) s) root);
  nodes = λ room z is deep c. argument_reads p w b room z deep c;
}

-- ---- operands

parenthesized_reads : (x : Expr) (is_path : Bool) (w : Written) → ReadsBack x is_path w → (room n : ℕ) (z : Text) → w.parts < room → Stops n z → unary room (inside room) (word (codes "(") (w.before (word (codes ")") z))) ≡ Ok (x, z)
unfolding parenthesized
parenthesized_reads x is_path w b room n z deep s =
    let j2 = word (codes ")") z in
    let j1 = w.before j2 in
    let i = word (codes "(") j1 in
    let stand : Stands k.Open (codes "(") i j1 = stands k.Open (codes "(") j1 open_token (b.text.start j2) in
    no_minus room i k.Open stand.kind_is refl
    ∙ (goes_on (λ _ j. and_then (inside room 6 j) (λ x j. and_then (close k.Close j) (λ _. unfiltered x))) tt j1 (opens room (inside room) i j1 (omega (arith, deep)) stand.next_is)
    ∙ (goes_on (λ x j. and_then (close k.Close j) (λ _. unfiltered x)) x j2 (inner_reads x is_path w b room j2 deep (closed_close z s.start))
    ∙ (goes_on (λ _. unfiltered x) tt z (closes k.Close (codes ")") z close_token refl s.start) ∙ unfiltered_is n x z s)))

operand_start : (n : ℕ) (w : Written) (z : Text) → Text_of w → skip (operand_before n w z) ≡ operand_before n w z
operand_start n w z t = elim (needs_parentheses n w) as (λ b. skip (cond b (word (codes "(") (w.before (word (codes ")") z))) (w.before z)) ≡ cond b (word (codes "(") (w.before (word (codes ")") z))) (w.before z))
    [ true ↦ open_token.begins _ | false ↦ t.start z ]

operand_long : (n : ℕ) (w : Written) (z : Text) → Text_of w → length z ≤ length (operand_before n w z)
operand_long n w z t = elim (needs_parentheses n w) as (λ b. length z ≤ length (cond b (word (codes "(") (w.before (word (codes ")") z))) (w.before z))) [
  | true ↦ (let a = longer_word (codes ")") z in let b = t.long (word (codes ")") z) in let c = longer_word (codes "(") (w.before (word (codes ")") z)) in omega (arith, a, b, c))
  | false ↦ t.long z
]

operand_scalar : (n : ℕ) (w : Written) (z : Text) → Text_of w → scalars z ≡ true → scalars (operand_before n w z) ≡ true
operand_scalar n w z t h = elim (needs_parentheses n w) as (λ b. scalars (cond b (word (codes "(") (w.before (word (codes ")") z))) (w.before z)) ≡ true)
    [ true ↦ t.scalar (word (codes ")") z) h | false ↦ t.scalar z h ]

operand_close : (x : Expr) (is_path : Bool) (n : ℕ) (w : Written) (z : Text) → ReadsBack x is_path w → sees k.Close (operand_before n w z) ≡ false
operand_close x is_path n w z b = elim (needs_parentheses n w) as (λ c. sees k.Close (cond c (word (codes "(") (w.before (word (codes ")") z))) (w.before z)) ≡ false)
    [ true ↦ saw _ k.Open k.Close (kind_of k.Open (codes "(") _ open_token) | false ↦ b.close z ]

-- at the level below that of its operator
operand_reads : (x : Expr) (is_path : Bool) (w : Written) → ReadsBack x is_path w → (room n : ℕ) (z : Text) → operand_parts (suc n) w ≤ room → Stops n z → chain room (inside room) n (operand_before (suc n) w z) ≡ Ok (x, z)
operand_reads x is_path w b room n z deep s = elim (needs_parentheses (suc n) w)
    as (λ c. needs_parentheses (suc n) w ≡ c → cond c (suc w.parts) w.parts ≤ room → chain room (inside room) n (cond c (word (codes "(") (w.before (word (codes ")") z))) (w.before z)) ≡ Ok (x, z)) [
      | true ↦ λ is deep. from_unary room n x _ z s (parenthesized_reads x is_path w b room n z (omega (arith, deep)) s)
      | false ↦ λ is deep. (let p = or_parts w.is_root (nat_le (suc n) w.level) is in let below = leb-false (suc n) w.level p.1 in b.reads room n z deep (omega (arith, below)) s (λ root. absurd (true≢false (sym root ∙ p.0))))
    ] refl deep

-- ---- chains

AreOf : ℕ → List Op → Type 0
AreOf n ops = AllByRecursion (λ o. precedence o ≡ n) ops

further_start : (n : ℕ) (es : List Expr) (ops : List Op) (z : Text) → AllByRecursion Back es → AllByRecursion (λ o. precedence o ≡ n) ops → 0 < n → skip z ≡ z → skip (further n (map written es) ops z) ≡ further n (map written es) ops z
further_start n [] ops z all of some start = start
further_start n (x ∷ es) [] z all of some start = start
further_start n (x ∷ es) (o ∷ ops) z all of some start =
    ((operator_next o (operand_before n (written x) (further n (map written es) ops z)) (let same = of.0 in omega (arith, same, some)) (operand_start n (written x) _ all.0.text)).stops 0 (let same = of.0 in omega (arith, same, some))).start

further_stops : (n : ℕ) (es : List Expr) (ops : List Op) (z : Text) → AllByRecursion Back es → AllByRecursion (λ o. precedence o ≡ suc n) ops → Stops (suc n) z → Stops n (further (suc n) (map written es) ops z)
further_stops n [] ops z all of s = stops_below n (suc n) z (omega arith) s
further_stops n (x ∷ es) [] z all of s = stops_below n (suc n) z (omega arith) s
further_stops n (x ∷ es) (o ∷ ops) z all of s =
    (operator_next o (operand_before (suc n) (written x) (further (suc n) (map written es) ops z)) (let same = of.0 in omega (arith, same)) (operand_start (suc n) (written x) _ all.0.text)).stops n (let same = of.0 in omega (arith, same))

further_long : (n : ℕ) (es : List Expr) (ops : List Op) (z : Text) → AllByRecursion Back es → length es ≡ length ops → length ops + length z ≤ length (further n (map written es) ops z)
further_long n [] [] z all same = omega arith
further_long n [] (o ∷ ops) z all same = absurd (omega (arith, same))
further_long n (x ∷ es) [] z all same = absurd (omega (arith, same))
further_long n (x ∷ es) (o ∷ ops) z all same =
    let y = further n (map written es) ops z in
    let rest = further_long n es ops z all.1 (omega (arith, same)) in
    let own = operand_long n (written x) y all.0.text in
    let front = longer_word (operator_word o) (operand_before n (written x) y) in
    omega (arith, rest, own, front)

operator_scalar : (o : Op) (z : Text) → scalars z ≡ true → scalars (word (operator_word o) z) ≡ true
operator_scalar op.Or z h = h
operator_scalar op.And z h = h
operator_scalar op.Eq z h = h
operator_scalar op.Ne z h = h
operator_scalar op.Lt z h = h
operator_scalar op.Le z h = h
operator_scalar op.Gt z h = h
operator_scalar op.Ge z h = h
operator_scalar op.Add z h = h
operator_scalar op.Sub z h = h
operator_scalar op.Mul z h = h
operator_scalar op.Negate z h = h
operator_scalar op.Position z h = h
operator_scalar op.Last z h = h
operator_scalar op.Count z h = h
operator_scalar op.Sum z h = h
operator_scalar op.NameOf z h = h
operator_scalar op.StringOf z h = h
operator_scalar op.Concat z h = h
operator_scalar op.StartsWith z h = h
operator_scalar op.Contains z h = h
operator_scalar op.SubstringBefore z h = h
operator_scalar op.SubstringAfter z h = h
operator_scalar op.Substring z h = h
operator_scalar op.StringLength z h = h
operator_scalar op.NormalizeSpace z h = h
operator_scalar op.BooleanOf z h = h
operator_scalar op.Not z h = h
operator_scalar op.TrueOf z h = h
operator_scalar op.FalseOf z h = h
operator_scalar op.NumberOf z h = h

further_scalar : (n : ℕ) (es : List Expr) (ops : List Op) (z : Text) → AllByRecursion Back es → scalars z ≡ true → scalars (further n (map written es) ops z) ≡ true
further_scalar n [] ops z all h = h
further_scalar n (x ∷ es) [] z all h = h
further_scalar n (x ∷ es) (o ∷ ops) z all h = operator_scalar o _ (operand_scalar n (written x) _ all.0.text (further_scalar n es ops z all.1 h))

-- the chain that these links make, behind some
abbrev chained : List Expr → List Op → Expr → List Expr → List Op → Expr
chained fes fops x [] ops = chain_of fes fops x
chained fes fops x (y ∷ ys) [] = chain_of fes fops x
chained fes fops x (y ∷ ys) (o ∷ ops) = chained (fes ++ x ∷ []) (fops ++ o ∷ []) y ys ops

chained_is : (fes : List Expr) (p : Op) (ps : List Op) (x : Expr) (ys : List Expr) (ops : List Op) → length ys ≡ length ops → chained fes (p ∷ ps) x ys ops ≡ e.Chain (fes ++ x ∷ ys) (p ∷ (ps ++ ops))
chained_is fes p ps x [] [] same = ap (λ l. e.Chain (fes ++ x ∷ []) (p ∷ l)) (sym (append-nil ps))
chained_is fes p ps x [] (o ∷ ops) same = absurd (omega (arith, same))
chained_is fes p ps x (y ∷ ys) [] same = absurd (omega (arith, same))
chained_is fes p ps x (y ∷ ys) (o ∷ ops) same =
    chained_is (fes ++ x ∷ []) p (ps ++ o ∷ []) y ys ops (omega (arith, same)) ∙ ap₂ (λ a b. e.Chain a (p ∷ b)) (append_assoc fes (x ∷ []) (y ∷ ys)) (append_assoc ps (o ∷ []) ops)

links_read : (room n m : ℕ) (es : List Expr) (ops : List Op) (fes : List Expr) (fops : List Op) (x : Expr) (z : Text) → AllByRecursion Back es → deepest (map (operand_parts (suc m)) (map written es)) ≤ room
    → AllByRecursion (λ o. precedence o ≡ suc m) ops → length es ≡ length ops → length ops ≤ n → Stops (suc m) z
    → links_from (chain room (inside room) m) (suc m) n fes fops x (further (suc m) (map written es) ops z) ≡ Ok (chained fes fops x es ops, z)
links_read room n m [] ops fes fops x z all deep of same many s = no_more_links (chain room (inside room) m) (suc m) n fes fops x z (s.none (suc m) (omega arith))
links_read room n m (y ∷ es) [] fes fops x z all deep of same many s = absurd (omega (arith, same))
links_read room zero m (y ∷ es) (o ∷ ops) fes fops x z all deep of same many s = absurd (omega (arith, many))
links_read room (suc n) m (y ∷ es) (o ∷ ops) fes fops x z all deep of same many s =
    let j2 = further (suc m) (map written es) ops z in
    let j1 = operand_before (suc m) (written y) j2 in
    let i = word (operator_word o) j1 in
    let level = of.0 in
    let sign : OperatorNext o i j1 = operator_next o j1 (omega (arith, level)) (operand_start (suc m) (written y) j2 all.0.text) in
    let found : of_level (suc m) (operator i) ≡ Some o = ap (of_level (suc m)) sign.means ∙ ap (λ b. cond b (Some o) None) (eq-eqb (precedence o) (suc m) level) in
    more_links (chain room (inside room) m) (suc m) n fes fops x i o found
    ∙ (goes_on (λ y. links_from (chain room (inside room) m) (suc m) n (fes ++ x ∷ []) (fops ++ o ∷ []) y) y j2
    (ap (chain room (inside room) m) sign.next_is ∙ operand_reads y (form y).is_path (written y) all.0 room m j2 (omega (arith, deep)) (further_stops m es ops z all.1 of.1 s))
    ∙ links_read room n m es ops (fes ++ x ∷ []) (fops ++ o ∷ []) y z all.1 (omega (arith, deep)) of.1 (omega (arith, same)) (omega (arith, many)) s)

chain_reads : (room m : ℕ) (x : Expr) (es : List Expr) (ops : List Op) (z : Text) → Back x → AllByRecursion Back es → deepest (map (operand_parts (suc m)) (map written (x ∷ es))) ≤ room
    → AllByRecursion (λ o. precedence o ≡ suc m) ops → length es ≡ length ops → Stops (suc m) z
    → chain room (inside room) (suc m) (operand_before (suc m) (written x) (further (suc m) (map written es) ops z)) ≡ Ok (chained [] [] x es ops, z)
unfolding chain
chain_reads room m x es ops z one all deep of same s =
    let j = further (suc m) (map written es) ops z in
    let long = further_long (suc m) es ops z all same in
    goes_on (λ x j. links_from (chain room (inside room) m) (suc m) (length j) [] [] x j) x j (operand_reads x (form x).is_path (written x) one room m j (omega (arith, deep)) (further_stops m es ops z all of s))
    ∙ links_read room (length j) m es ops [] [] x z all (omega (arith, deep)) of same (omega (arith, long)) s

precedence_small : (o : Op) → precedence o ≤ 6
precedence_small op.Or = omega arith
precedence_small op.And = omega arith
precedence_small op.Eq = omega arith
precedence_small op.Ne = omega arith
precedence_small op.Lt = omega arith
precedence_small op.Le = omega arith
precedence_small op.Gt = omega arith
precedence_small op.Ge = omega arith
precedence_small op.Add = omega arith
precedence_small op.Sub = omega arith
precedence_small op.Mul = omega arith
precedence_small op.Negate = omega arith
precedence_small op.Position = omega arith
precedence_small op.Last = omega arith
precedence_small op.Count = omega arith
precedence_small op.Sum = omega arith
precedence_small op.NameOf = omega arith
precedence_small op.StringOf = omega arith
precedence_small op.Concat = omega arith
precedence_small op.StartsWith = omega arith
precedence_small op.Contains = omega arith
precedence_small op.SubstringBefore = omega arith
precedence_small op.SubstringAfter = omega arith
precedence_small op.Substring = omega arith
precedence_small op.StringLength = omega arith
precedence_small op.NormalizeSpace = omega arith
precedence_small op.BooleanOf = omega arith
precedence_small op.Not = omega arith
precedence_small op.TrueOf = omega arith
precedence_small op.FalseOf = omega arith
precedence_small op.NumberOf = omega arith

-- with the level by itself
abbrev chain_at : ℕ → Expr → List Expr → List Op → Written
chain_at n x es ops = record {
  before = λ z. operand_before n (written x) (further n (map written es) ops z);
  level = n;
  is_root = false;
  parts = deepest (map (operand_parts n) (map written (x ∷ es)));
  is_sayable = all_sayable (map written (x ∷ es));
}

pub chain_back : (x y : Expr) (es : List Expr) (o : Op) (ops : List Op) (m : ℕ) → precedence o ≡ suc m → AllByRecursion (λ p. precedence p ≡ suc m) (o ∷ ops) → length es ≡ length ops → Back x → Back y → AllByRecursion Back es
    → ReadsBack (e.Chain (x ∷ y ∷ es) (o ∷ ops)) false (chain_written (map written (x ∷ y ∷ es)) (o ∷ ops))
chain_back x y es o ops m is of same one two all = subst (λ n. ReadsBack (e.Chain (x ∷ y ∷ es) (o ∷ ops)) false (chain_at n x (y ∷ es) (o ∷ ops))) (sym is) (record {
  text = record {
    start = λ z. operand_start (suc m) (written x) _ one.text;
    long = λ z. (let a = further_long (suc m) (y ∷ es) (o ∷ ops) z (two, all) (ap suc same) in let b = operand_long (suc m) (written x) (further (suc m) (map written (y ∷ es)) (o ∷ ops) z) one.text in omega (arith, a, b));
    scalar = λ z h. operand_scalar (suc m) (written x) _ one.text (further_scalar (suc m) (y ∷ es) (o ∷ ops) z (two, all) h);
  };
  small = (let p = precedence_small o in omega (arith, p, is));
  close = λ z. operand_close x (form x).is_path (suc m) (written x) _ one;
  reads = λ room n z deep level s root. lift room n (suc m) (e.Chain (x ∷ y ∷ es) (o ∷ ops)) _ z s level
      (chain_reads room m x (y ∷ es) (o ∷ ops) z one (two, all) deep of (ap suc same) (stops_below (suc m) n z level s) ∙ ap (λ c. Ok (c, z)) (chained_is (x ∷ []) o [] y es ops same));
  nodes = λ room z is deep c. absurd (true≢false (sym is));
})

-- ---- unary minus

negated : (room n : ℕ) (x : Expr) (z : Text) → Back x → suc (operand_parts 1 (written x)) ≤ room → Stops n z → unary room (inside room) (word (codes "-") (operand_before 1 (written x) z)) ≡ Ok (e.Apply op.Negate (x ∷ []), z)
unfolding unary expression_of
negated zero n x z b deep s = absurd (omega (arith, deep))
negated (suc room) n x z b deep s =
    let j = operand_before 1 (written x) z in
    let i = word (codes "-") j in
    let stand : Stands k.Minus (codes "-") i j = stands k.Minus (codes "-") j minus_token (operand_start 1 (written x) z b.text) in
    let inner : inside (suc room) 0 j ≡ Ok (x, z) =
    ap (λ (f : Parser Expr). f j) (expression_is room 0) ∙ operand_reads x (form x).is_path (written x) b room 0 z (omega (arith, deep)) (stops_below 0 n z (omega arith) s) in
    ap (λ b. cond b (and_then (and_then (open_part (suc room) (inside (suc room)) i) (λ _. inside (suc room) 0)) (λ x. pure (e.Apply op.Negate (x ∷ [])))) (operand (suc room) (inside (suc room)) i)) (seen k.Minus (codes "-") i j k.Minus stand)
    ∙ goes_on (λ x. pure (e.Apply op.Negate (x ∷ []))) x z (goes_on (λ _. inside (suc room) 0) tt j (opens (suc room) (inside (suc room)) i j (omega arith) stand.next_is) ∙ inner)

minus_back : (x : Expr) → Back x → ReadsBack (e.Apply op.Negate (x ∷ [])) false (minus_written (written x ∷ []))
minus_back x b = record {
  text = record {
    start = λ z. minus_token.begins _;
    long = λ z. (let a = operand_long 1 (written x) z b.text in let c = longer_word (codes "-") (operand_before 1 (written x) z) in omega (arith, a, c));
    scalar = λ z h. operand_scalar 1 (written x) z b.text h;
  };
  small = omega arith;
  close = λ z. saw _ k.Minus k.Close (kind_of k.Minus (codes "-") _ minus_token);
  reads = λ room n z deep level s root. from_unary room n (e.Apply op.Negate (x ∷ [])) _ z s (negated room n x z b (omega (arith, deep)) s);
  nodes = λ room z is deep c. absurd (true≢false (sym is));
}

-- ---- arguments

-- an argument at the level that its function has
argument_is_read : (f : Function) (x : Expr) → Back x → (f.takes_nodes ≡ true → (form x).is_path ≡ true) → (room : ℕ) (z : Text) → (written x).parts < room → Closed z → inside room (argument_level f) ((written x).before z) ≡ Ok (x, z)
unfolding expression_of
argument_is_read f x b is zero z deep c = absurd (omega (arith, deep))
argument_is_read f x b is (suc room) z deep c = elim f.takes_nodes as (λ t. f.takes_nodes ≡ t → inside (suc room) (cond t 7 6) ((written x).before z) ≡ Ok (x, z)) [
  | true ↦ λ nodes. ap (λ (g : Parser Expr). g ((written x).before z)) (expression_is room 7) ∙ b.nodes room z (is nodes) (omega (arith, deep)) c
  | false ↦ λ other. inner_reads x (form x).is_path (written x) b (suc room) z deep c
] refl

and_false : (b : Bool) → (b && false) ≡ false
and_false true = refl
and_false false = refl

-- the rest of the arguments, and the `)`
abbrev rest_of : List Expr → Text → Text
rest_of es z = behind (codes ",") (map written es) (word (codes ")") z)

rest_start : (es : List Expr) (z : Text) → skip (rest_of es z) ≡ rest_of es z
rest_start [] z = close_token.begins z
rest_start (x ∷ es) z = comma_token.begins _

rest_closed : (es : List Expr) (z : Text) → AllByRecursion Back es → skip z ≡ z → Closed (rest_of es z)
rest_closed [] z all start = closed_close z start
rest_closed (x ∷ es) z all start = closed_comma ((written x).before (rest_of es z)) (all.0.text.start _)

rest_long : (es : List Expr) (z : Text) → AllByRecursion Back es → length es + length z < length (rest_of es z)
rest_long [] z all = (let h = longer_word (codes ")") z in omega (arith, h))
rest_long (x ∷ es) z all =
    let rest = rest_long es z all.1 in
    let own = all.0.text.long (rest_of es z) in
    let front = longer_word (codes ",") ((written x).before (rest_of es z)) in
    omega (arith, rest, own, front)

rest_scalar : (es : List Expr) (z : Text) → AllByRecursion Back es → scalars z ≡ true → scalars (rest_of es z) ≡ true
rest_scalar [] z all h = h
rest_scalar (x ∷ es) z all h = all.0.text.scalar (rest_of es z) (rest_scalar es z all.1 h)

longer_by_one : (xs : List Expr) (x : Expr) → length (xs ++ x ∷ []) ≡ length xs + 1
longer_by_one xs x = length-append xs (x ∷ [])

arguments_from_read : (room : ℕ) (f : Function) (n : ℕ) (x : Expr) (es found : List Expr) (z : Text) → Back x → AllByRecursion Back es
    → (f.takes_nodes ≡ true → list_all (λ f. f.is_path) (map form (x ∷ es)) ≡ true) → deepest (map (λ x. x.parts) (map written (x ∷ es))) < room
    → f.least ≤ length found + (length es + 1) → length found + (length es + 1) ≤ f.most → length es < n → skip z ≡ z
    → arguments_from room (inside room) f n found ((written x).before (rest_of es z)) ≡ Ok (found ++ x ∷ es, z)
unfolding arguments_from
arguments_from_read room f zero x es found z one all are deep few enough many start = absurd (omega (arith, many))
arguments_from_read room f (suc n) x [] found z one all are deep few enough many start =
    let j = word (codes ")") z in
    let stand : Stands k.Close (codes ")") j z = stands k.Close (codes ")") z close_token start in
    let least : nat_le f.least (length found + 1) ≡ true = le-leb f.least (length found + 1) (omega (arith, few)) in
    goes_on (λ x i. cond (nat_le f.least (length found + 1) && sees k.Close i) (Ok (found ++ x ∷ [], next i))
    (cond (nat_lt (length found + 1) f.most && sees k.Comma i) (arguments_from room (inside room) f n (found ++ x ∷ []) (next i)) (Err (stray i))))
    x j (argument_is_read f x one (λ nodes. (and_parts (form x).is_path _ (are nodes)).0) room j (omega (arith, deep)) (closed_close z start))
    ∙ (ap (λ b. cond (b && sees k.Close j) (Ok (found ++ x ∷ [], next j)) (cond (nat_lt (length found + 1) f.most && sees k.Comma j) (arguments_from room (inside room) f n (found ++ x ∷ []) (next j)) (Err (stray j)))) least
    ∙ (ap (λ b. cond b (Ok (found ++ x ∷ [], next j)) (cond (nat_lt (length found + 1) f.most && sees k.Comma j) (arguments_from room (inside room) f n (found ++ x ∷ []) (next j)) (Err (stray j)))) (seen k.Close (codes ")") j z k.Close stand)
    ∙ ap (λ t. Ok (found ++ x ∷ [], t)) stand.next_is))
arguments_from_read room f (suc n) x (y ∷ es) found z one all are deep few enough many start =
    let j1 = (written y).before (rest_of es z) in
    let j = word (codes ",") j1 in
    let stand : Stands k.Comma (codes ",") j j1 = stands k.Comma (codes ",") j1 comma_token (all.0.text.start _) in
    let more : nat_lt (length found + 1) f.most ≡ true = lt-ltb (length found + 1) f.most (omega (arith, enough)) in
    let grown = longer_by_one found x in
    let no_close : (nat_le f.least (length found + 1) && sees k.Close j) ≡ false =
    ap (λ b. nat_le f.least (length found + 1) && b) (seen k.Comma (codes ",") j j1 k.Close stand) ∙ and_false (nat_le f.least (length found + 1)) in
    goes_on (λ x i. cond (nat_le f.least (length found + 1) && sees k.Close i) (Ok (found ++ x ∷ [], next i))
    (cond (nat_lt (length found + 1) f.most && sees k.Comma i) (arguments_from room (inside room) f n (found ++ x ∷ []) (next i)) (Err (stray i))))
    x j (argument_is_read f x one (λ nodes. (and_parts (form x).is_path _ (are nodes)).0) room j (omega (arith, deep)) (closed_comma j1 (all.0.text.start _)))
    ∙ (ap (λ b. cond b (Ok (found ++ x ∷ [], next j)) (cond (nat_lt (length found + 1) f.most && sees k.Comma j) (arguments_from room (inside room) f n (found ++ x ∷ []) (next j)) (Err (stray j)))) no_close
    ∙ (ap (λ b. cond (b && sees k.Comma j) (arguments_from room (inside room) f n (found ++ x ∷ []) (next j)) (Err (stray j))) more
    ∙ (ap (λ b. cond b (arguments_from room (inside room) f n (found ++ x ∷ []) (next j)) (Err (stray j))) (seen k.Comma (codes ",") j j1 k.Comma stand)
    ∙ (ap (arguments_from room (inside room) f n (found ++ x ∷ [])) stand.next_is
    ∙ (arguments_from_read room f n y es (found ++ x ∷ []) z all.0 all.1 (λ nodes. (and_parts (form x).is_path _ (are nodes)).1) (omega (arith, deep)) (omega (arith, few, grown)) (omega (arith, enough, grown)) (omega (arith, many)) start
    ∙ ap (λ l. Ok (l, z)) (append_assoc found (x ∷ []) (y ∷ es)))))))

-- what stands between the parentheses of a call, and the `)`
abbrev arguments_before : List Expr → Text → Text
arguments_before es z = between (codes ",") (map written es) (word (codes ")") z)

arguments_start : (es : List Expr) (z : Text) → AllByRecursion Back es → skip (arguments_before es z) ≡ arguments_before es z
arguments_start [] z all = close_token.begins z
arguments_start (x ∷ es) z all = all.0.text.start _

arguments_long : (es : List Expr) (z : Text) → AllByRecursion Back es → length z ≤ length (arguments_before es z)
arguments_long [] z all = (let h = longer_word (codes ")") z in omega (arith, h))
arguments_long (x ∷ es) z all = (let rest = rest_long es z all.1 in let own = all.0.text.long (rest_of es z) in omega (arith, rest, own))

arguments_scalar : (es : List Expr) (z : Text) → AllByRecursion Back es → scalars z ≡ true → scalars (arguments_before es z) ≡ true
arguments_scalar [] z all h = h
arguments_scalar (x ∷ es) z all h = all.0.text.scalar (rest_of es z) (rest_scalar es z all.1 h)

arguments_read : (room : ℕ) (f : Function) (es : List Expr) (z : Text) → AllByRecursion Back es → (f.takes_nodes ≡ true → list_all (λ f. f.is_path) (map form es) ≡ true)
    → deepest (map (λ x. x.parts) (map written es)) < room → f.least ≤ length es → length es ≤ f.most → skip z ≡ z → arguments room (inside room) f (arguments_before es z) ≡ Ok (es, z)
unfolding arguments some_arguments
arguments_read room f [] z all are deep few enough start =
    let i = word (codes ")") z in
    let stand : Stands k.Close (codes ")") i z = stands k.Close (codes ")") z close_token start in
    let none : (f.least == 0) ≡ true = eq-eqb f.least 0 (omega (arith, few)) in
    ap (λ b. cond (b && sees k.Close i) (Ok ([], next i)) (cond (f.most == 0) (Err (Syntax (length i))) (some_arguments room (inside room) f i))) none
    ∙ (ap (λ b. cond b (Ok ([], next i)) (cond (f.most == 0) (Err (Syntax (length i))) (some_arguments room (inside room) f i))) (seen k.Close (codes ")") i z k.Close stand)
    ∙ ap (λ t. Ok ([], t)) stand.next_is)
arguments_read room f (x ∷ es) z all are deep few enough start =
    let i = (written x).before (rest_of es z) in
    let no_close : (f.least == 0 && sees k.Close i) ≡ false = ap (λ b. f.least == 0 && b) (all.0.close (rest_of es z)) ∙ and_false (f.least == 0) in
    let more : (f.most == 0) ≡ false = ne_eqb f.most 0 (λ none. omega (arith, enough, none)) in
    let long = rest_long es z all.1 in
    let own = all.0.text.long (rest_of es z) in
    ap (λ b. cond b (Ok ([], next i)) (cond (f.most == 0) (Err (Syntax (length i))) (some_arguments room (inside room) f i))) no_close
    ∙ (ap (λ b. cond b (Err (Syntax (length i))) (some_arguments room (inside room) f i)) more
    ∙ arguments_from_read room f (length i) x es [] z all.0 all.1 are deep (omega (arith, few)) (omega (arith, enough)) (omega (arith, long, own)) start)

-- ---- calls

function_scalar : (o : Op) (z : Text) → scalars z ≡ true → scalars (word (function_word o) z) ≡ true
function_scalar op.Or z h = h
function_scalar op.And z h = h
function_scalar op.Eq z h = h
function_scalar op.Ne z h = h
function_scalar op.Lt z h = h
function_scalar op.Le z h = h
function_scalar op.Gt z h = h
function_scalar op.Ge z h = h
function_scalar op.Add z h = h
function_scalar op.Sub z h = h
function_scalar op.Mul z h = h
function_scalar op.Negate z h = h
function_scalar op.Position z h = h
function_scalar op.Last z h = h
function_scalar op.Count z h = h
function_scalar op.Sum z h = h
function_scalar op.NameOf z h = h
function_scalar op.StringOf z h = h
function_scalar op.Concat z h = h
function_scalar op.StartsWith z h = h
function_scalar op.Contains z h = h
function_scalar op.SubstringBefore z h = h
function_scalar op.SubstringAfter z h = h
function_scalar op.Substring z h = h
function_scalar op.StringLength z h = h
function_scalar op.NormalizeSpace z h = h
function_scalar op.BooleanOf z h = h
function_scalar op.Not z h = h
function_scalar op.TrueOf z h = h
function_scalar op.FalseOf z h = h
function_scalar op.NumberOf z h = h

named_call : (room : ℕ) (name : List ℕ) (i : Text) → sees k.Open i ≡ true → is_node_type name ≡ false → named_operand room (inside room) name i ≡ call room (inside room) name i
unfolding named_operand
named_call room name i call_of_it other =
    ap (λ b. cond (b && not (is_node_type name)) (call room (inside room) name i) (and_then (named_step room (inside room) None name i) (λ s j. and_then (steps room (inside room) (s ∷ []) j) (λ ss. pure (e.Path (make_path false ss)))))) call_of_it
    ∙ ap (λ b. cond (not b) (call room (inside room) name i) (and_then (named_step room (inside room) None name i) (λ s j. and_then (steps room (inside room) (s ∷ []) j) (λ ss. pure (e.Path (make_path false ss)))))) other

called : (room n : ℕ) (o : Op) (f : Function) (es : List Expr) (z : Text) → IsFunction o f → AllByRecursion Back es → (f.takes_nodes ≡ true → list_all (λ f. f.is_path) (map form es) ≡ true)
    → suc (deepest (map (λ x. x.parts) (map written es))) ≤ room → f.least ≤ length es → length es ≤ f.most → Stops n z → unary room (inside room) (word (function_word o) (word (codes "(") (arguments_before es z))) ≡ Ok (e.Apply o es, z)
called room n o f es z it all are deep few enough s =
    let j2 = arguments_before es z in
    let j1 = word (codes "(") j2 in
    let i = word (function_word o) j1 in
    let name = encode_utf8_all (function_word o) in
    let stand : Stands k.Name (function_word o) i j1 = stands k.Name (function_word o) j1 it.word_is (open_token.begins j2) in
    let bracket : Stands k.Open (codes "(") j1 j2 = stands k.Open (codes "(") j2 open_token (arguments_start es z all) in
    no_minus room i k.Name stand.kind_is refl
    ∙ (ap₂ (named_operand room (inside room)) (ap encode_utf8_all stand.spelling_is) stand.next_is
    ∙ (named_call room name j1 (seen k.Open (codes "(") j1 j2 k.Open bracket) it.other
    ∙ (known_call room (inside room) name f j1 it.named
    ∙ (goes_on (λ xs. unfiltered (e.Apply f.op xs)) es z
    (goes_on (λ _. arguments room (inside room) f) tt j2 (opens room (inside room) j1 j2 (omega (arith, deep)) bracket.next_is) ∙ arguments_read room f es z all are (omega (arith, deep)) few enough s.start)
    ∙ (unfiltered_is n (e.Apply f.op es) z s ∙ ap (λ o. Ok (e.Apply o es, z)) it.same)))))

call_back : (o : Op) (f : Function) (es : List Expr) → IsFunction o f → AllByRecursion Back es → (f.takes_nodes ≡ true → list_all (λ f. f.is_path) (map form es) ≡ true) → f.least ≤ length es → length es ≤ f.most
    → ReadsBack (e.Apply o es) false (call_written o (map written es))
call_back o f es it all are few enough = record {
  text = record {
    start = λ z. it.word_is.begins _;
    long = λ z. (let a = arguments_long es z all in let b = longer_word (codes "(") (arguments_before es z) in let c = longer_word (function_word o) (word (codes "(") (arguments_before es z)) in omega (arith, a, b, c));
    scalar = λ z h. function_scalar o _ (arguments_scalar es z all h);
  };
  small = omega arith;
  close = λ z. saw _ k.Name k.Close (kind_of k.Name (function_word o) _ it.word_is);
  reads = λ room n z deep level s root. from_unary room n (e.Apply o es) _ z s (called room n o f es z it all are deep few enough s);
  nodes = λ room z is deep c. absurd (true≢false (sym is));
}

-- ---- operators and functions with their operands

record Applies (o : Op) (es : List Expr) : Type 0 where
  least : (takes o).least ≤ length es
  most : at_most (takes o).most (length es) ≡ true
  paths : (takes o).are_paths ≡ true → list_all (λ f. f.is_path) (map form es) ≡ true

implied : (a b : Bool) → (not a || b) ≡ true → a ≡ true → b ≡ true
implied true b h k = h
implied false b h k = absurd (true≢false (sym k))

applied_parts : (o : Op) (es : List Expr) → applies o (map form es) ≡ true → Applies o es
applied_parts o es h =
    let p = and_parts (precedence o == 0) _ h in
    let q = and_parts (admits (takes o) (length (map form es))) _ p.1 in
    let r = and_parts (nat_le (takes o).least (length (map form es))) _ q.0 in
    let same = length-map es form in
    record {
      least = (let l = leb-true (takes o).least (length (map form es)) r.0 in omega (arith, l, same));
      most = sym (ap (at_most (takes o).most) same) ∙ r.1;
      paths = implied (takes o).are_paths _ q.1;
    }

function_back : (o : Op) (f : Function) (es : List Expr) → IsFunction o f → applies o (map form es) ≡ true → (call_written o (map written es)).is_sayable ≡ true → AllByRecursion Back es → ReadsBack (e.Apply o es) false (call_written o (map written es))
function_back o f es it h sayable all =
    let a = applied_parts o es h in
    let least = it.least in
    let few = a.least in
    let same = length-map es written in
    let below = ltb-true (length (map written es)) (2 ^ 64) (and_parts (nat_lt (length (map written es)) (2 ^ 64)) _ sayable).0 in
    call_back o f es it all (λ nodes. a.paths (it.nodes ∙ nodes)) (omega (arith, least, few)) (it.most (length es) a.most (omega (arith, below, same)))

negate_back : (es : List Expr) → applies op.Negate (map form es) ≡ true → AllByRecursion Back es → ReadsBack (e.Apply op.Negate es) false (minus_written (map written es))
negate_back [] h all = absurd (let a = (applied_parts op.Negate [] h).least in omega (arith, a))
negate_back (x ∷ []) h all = minus_back x all.0
negate_back (x ∷ y ∷ es) h all = absurd (let a = leb-true (length (x ∷ y ∷ es)) 1 (applied_parts op.Negate (x ∷ y ∷ es) h).most in omega (arith, a))

binary_alone : {P : Type 0} (o : Op) (es : List Expr) → 0 < precedence o → applies o (map form es) ≡ true → P
binary_alone o es some h = absurd (let e = eqb-true (precedence o) 0 (and_parts (precedence o == 0) _ h).0 in omega (arith, e, some))

pub apply_back : (o : Op) (es : List Expr) → applies o (map form es) ≡ true → (apply_written o (map written es)).is_sayable ≡ true → AllByRecursion Back es → ReadsBack (e.Apply o es) false (apply_written o (map written es))
apply_back op.Or es h sayable all = binary_alone op.Or es (omega arith) h
apply_back op.And es h sayable all = binary_alone op.And es (omega arith) h
apply_back op.Eq es h sayable all = binary_alone op.Eq es (omega arith) h
apply_back op.Ne es h sayable all = binary_alone op.Ne es (omega arith) h
apply_back op.Lt es h sayable all = binary_alone op.Lt es (omega arith) h
apply_back op.Le es h sayable all = binary_alone op.Le es (omega arith) h
apply_back op.Gt es h sayable all = binary_alone op.Gt es (omega arith) h
apply_back op.Ge es h sayable all = binary_alone op.Ge es (omega arith) h
apply_back op.Add es h sayable all = binary_alone op.Add es (omega arith) h
apply_back op.Sub es h sayable all = binary_alone op.Sub es (omega arith) h
apply_back op.Mul es h sayable all = binary_alone op.Mul es (omega arith) h
apply_back op.Negate es h sayable all = negate_back es h all
apply_back op.Position es h sayable all = function_back op.Position _ es Position_is h sayable all
apply_back op.Last es h sayable all = function_back op.Last _ es Last_is h sayable all
apply_back op.Count es h sayable all = function_back op.Count _ es Count_is h sayable all
apply_back op.Sum es h sayable all = function_back op.Sum _ es Sum_is h sayable all
apply_back op.NameOf es h sayable all = function_back op.NameOf _ es NameOf_is h sayable all
apply_back op.StringOf es h sayable all = function_back op.StringOf _ es StringOf_is h sayable all
apply_back op.Concat es h sayable all = function_back op.Concat _ es Concat_is h sayable all
apply_back op.StartsWith es h sayable all = function_back op.StartsWith _ es StartsWith_is h sayable all
apply_back op.Contains es h sayable all = function_back op.Contains _ es Contains_is h sayable all
apply_back op.SubstringBefore es h sayable all = function_back op.SubstringBefore _ es SubstringBefore_is h sayable all
apply_back op.SubstringAfter es h sayable all = function_back op.SubstringAfter _ es SubstringAfter_is h sayable all
apply_back op.Substring es h sayable all = function_back op.Substring _ es Substring_is h sayable all
apply_back op.StringLength es h sayable all = function_back op.StringLength _ es StringLength_is h sayable all
apply_back op.NormalizeSpace es h sayable all = function_back op.NormalizeSpace _ es NormalizeSpace_is h sayable all
apply_back op.BooleanOf es h sayable all = function_back op.BooleanOf _ es BooleanOf_is h sayable all
apply_back op.Not es h sayable all = function_back op.Not _ es Not_is h sayable all
apply_back op.TrueOf es h sayable all = function_back op.TrueOf _ es TrueOf_is h sayable all
apply_back op.FalseOf es h sayable all = function_back op.FalseOf _ es FalseOf_is h sayable all
apply_back op.NumberOf es h sayable all = function_back op.NumberOf _ es NumberOf_is h sayable all

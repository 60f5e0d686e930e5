-- What the grammar sees of the tokens of a path's text.
use Rattle.std.proofs.Common.{◌≡◌, ℕ, ◌^◌, ◌≤◌, ◌<◌, Bool, true, false, cond, ◌&&◌, ◌||◌, ◌==◌, [], Option, None, Some, is_some, refl, ap, ◌∙◌, arith}
use Rattle.std.proofs.lemmas.Bool.{leb-true, ne_eqb}
use Rattle.std.specs.Prelude.{codes, encode_utf8_all}
use Rattle.std.specs.Str.{bytes_eq}
use lib.Utf8.{encode}
use Rattle.path_model.specs.Lawful.{takes, precedence, at_most}
use Rattle.path_model.specs.declared.path.Axis.{Axis}
use Rattle.path_model.specs.declared.path.Axis.TheVariants as axis
use Rattle.path_model.specs.declared.path.Op.{Op}
use Rattle.path_model.specs.declared.path.Op.TheVariants as op
use Rattle.tree_model.specs.Names.{is_start_char, is_name_char}
use Rattle.xpath_parser.specs.declared.lex.Kind.{Kind}
use Rattle.xpath_parser.specs.declared.lex.Kind.TheVariants as k
use Rattle.xpath_parser.specs.declared.words.Function.{Function}
use Rattle.xpath_parser.specs.Grammar.{begins_step, is_foreign, is_operator, operator, sign_operator, of_level}
use Rattle.xpath_parser.specs.Input.{kind, spelling, next, sees, sees_word, same_kind}
use Rattle.xpath_parser.specs.Lex.{Text, token, token_at, sign_token, behind_run, skip}
use Rattle.xpath_parser.specs.Words.{axis_named, function_named, function_row, is_node_type}
use Rattle.xpath_parser.specs.PathText.{word, axis_word, operator_word, function_word}
use Rattle.xpath_parser.proofs.TextTokens.{IsToken, Stands, stands}

-- ---- axes

pub axis_found : (a : Axis) → axis_named (encode_utf8_all (axis_word a)) ≡ Some a
unfolding encode
axis_found axis.Child = refl
axis_found axis.Descendant = refl
axis_found axis.Parent = refl
axis_found axis.Ancestor = refl
axis_found axis.FollowingSibling = refl
axis_found axis.PrecedingSibling = refl
axis_found axis.Following = refl
axis_found axis.Preceding = refl
axis_found axis.Attribute = refl
axis_found axis.SelfNode = refl
axis_found axis.DescendantOrSelf = refl
axis_found axis.AncestorOrSelf = refl

-- ---- functions

pub record IsFunction (o : Op) (f : Function) : Type 0 where
  pub word_is : IsToken k.Name (function_word o)
  pub named : function_named (encode_utf8_all (function_word o)) ≡ Some f
  pub same : f.op ≡ o
  pub other : is_node_type (encode_utf8_all (function_word o)) ≡ false
  pub least : (takes o).least ≡ f.least
  pub most : (n : ℕ) → at_most (takes o).most n ≡ true → n < 2 ^ 64 → n ≤ f.most
  pub nodes : (takes o).are_paths ≡ f.takes_nodes

abbrev pub function_of : Op → ℕ → ℕ → Bool → Function
function_of o least most takes_nodes = (function_row [] o least most takes_nodes).1

pub Position_is : IsFunction op.Position (function_of op.Position 0 0 false)
unfolding encode token behind_run is_start_char is_name_char
Position_is = record { word_is = record { lexes = λ z. refl; begins = λ z. refl }; named = refl; same = refl; other = refl; least = refl; most = λ n h below. leb-true n 0 h; nodes = refl }

pub Last_is : IsFunction op.Last (function_of op.Last 0 0 false)
unfolding encode token behind_run is_start_char is_name_char
Last_is = record { word_is = record { lexes = λ z. refl; begins = λ z. refl }; named = refl; same = refl; other = refl; least = refl; most = λ n h below. leb-true n 0 h; nodes = refl }

pub Count_is : IsFunction op.Count (function_of op.Count 1 1 true)
unfolding encode token behind_run is_start_char is_name_char
Count_is = record { word_is = record { lexes = λ z. refl; begins = λ z. refl }; named = refl; same = refl; other = refl; least = refl; most = λ n h below. leb-true n 1 h; nodes = refl }

pub Sum_is : IsFunction op.Sum (function_of op.Sum 1 1 true)
unfolding encode token behind_run is_start_char is_name_char
Sum_is = record { word_is = record { lexes = λ z. refl; begins = λ z. refl }; named = refl; same = refl; other = refl; least = refl; most = λ n h below. leb-true n 1 h; nodes = refl }

pub NameOf_is : IsFunction op.NameOf (function_of op.NameOf 0 1 true)
unfolding encode token behind_run is_start_char is_name_char
NameOf_is = record { word_is = record { lexes = λ z. refl; begins = λ z. refl }; named = refl; same = refl; other = refl; least = refl; most = λ n h below. leb-true n 1 h; nodes = refl }

pub StringOf_is : IsFunction op.StringOf (function_of op.StringOf 0 1 false)
unfolding encode token behind_run is_start_char is_name_char
StringOf_is = record { word_is = record { lexes = λ z. refl; begins = λ z. refl }; named = refl; same = refl; other = refl; least = refl; most = λ n h below. leb-true n 1 h; nodes = refl }

pub Concat_is : IsFunction op.Concat (function_of op.Concat 2 18446744073709551615 false)
unfolding encode token behind_run is_start_char is_name_char
Concat_is = record { word_is = record { lexes = λ z. refl; begins = λ z. refl }; named = refl; same = refl; other = refl; least = refl; most = λ n h below. omega (arith, below); nodes = refl }

pub StartsWith_is : IsFunction op.StartsWith (function_of op.StartsWith 2 2 false)
unfolding encode token behind_run is_start_char is_name_char
StartsWith_is = record { word_is = record { lexes = λ z. refl; begins = λ z. refl }; named = refl; same = refl; other = refl; least = refl; most = λ n h below. leb-true n 2 h; nodes = refl }

pub Contains_is : IsFunction op.Contains (function_of op.Contains 2 2 false)
unfolding encode token behind_run is_start_char is_name_char
Contains_is = record { word_is = record { lexes = λ z. refl; begins = λ z. refl }; named = refl; same = refl; other = refl; least = refl; most = λ n h below. leb-true n 2 h; nodes = refl }

pub SubstringBefore_is : IsFunction op.SubstringBefore (function_of op.SubstringBefore 2 2 false)
unfolding encode token behind_run is_start_char is_name_char
SubstringBefore_is = record { word_is = record { lexes = λ z. refl; begins = λ z. refl }; named = refl; same = refl; other = refl; least = refl; most = λ n h below. leb-true n 2 h; nodes = refl }

pub SubstringAfter_is : IsFunction op.SubstringAfter (function_of op.SubstringAfter 2 2 false)
unfolding encode token behind_run is_start_char is_name_char
SubstringAfter_is = record { word_is = record { lexes = λ z. refl; begins = λ z. refl }; named = refl; same = refl; other = refl; least = refl; most = λ n h below. leb-true n 2 h; nodes = refl }

pub Substring_is : IsFunction op.Substring (function_of op.Substring 2 3 false)
unfolding encode token behind_run is_start_char is_name_char
Substring_is = record { word_is = record { lexes = λ z. refl; begins = λ z. refl }; named = refl; same = refl; other = refl; least = refl; most = λ n h below. leb-true n 3 h; nodes = refl }

pub StringLength_is : IsFunction op.StringLength (function_of op.StringLength 0 1 false)
unfolding encode token behind_run is_start_char is_name_char
StringLength_is = record { word_is = record { lexes = λ z. refl; begins = λ z. refl }; named = refl; same = refl; other = refl; least = refl; most = λ n h below. leb-true n 1 h; nodes = refl }

pub NormalizeSpace_is : IsFunction op.NormalizeSpace (function_of op.NormalizeSpace 0 1 false)
unfolding encode token behind_run is_start_char is_name_char
NormalizeSpace_is = record { word_is = record { lexes = λ z. refl; begins = λ z. refl }; named = refl; same = refl; other = refl; least = refl; most = λ n h below. leb-true n 1 h; nodes = refl }

pub BooleanOf_is : IsFunction op.BooleanOf (function_of op.BooleanOf 1 1 false)
unfolding encode token behind_run is_start_char is_name_char
BooleanOf_is = record { word_is = record { lexes = λ z. refl; begins = λ z. refl }; named = refl; same = refl; other = refl; least = refl; most = λ n h below. leb-true n 1 h; nodes = refl }

pub Not_is : IsFunction op.Not (function_of op.Not 1 1 false)
unfolding encode token behind_run is_start_char is_name_char
Not_is = record { word_is = record { lexes = λ z. refl; begins = λ z. refl }; named = refl; same = refl; other = refl; least = refl; most = λ n h below. leb-true n 1 h; nodes = refl }

pub TrueOf_is : IsFunction op.TrueOf (function_of op.TrueOf 0 0 false)
unfolding encode token behind_run is_start_char is_name_char
TrueOf_is = record { word_is = record { lexes = λ z. refl; begins = λ z. refl }; named = refl; same = refl; other = refl; least = refl; most = λ n h below. leb-true n 0 h; nodes = refl }

pub FalseOf_is : IsFunction op.FalseOf (function_of op.FalseOf 0 0 false)
unfolding encode token behind_run is_start_char is_name_char
FalseOf_is = record { word_is = record { lexes = λ z. refl; begins = λ z. refl }; named = refl; same = refl; other = refl; least = refl; most = λ n h below. leb-true n 0 h; nodes = refl }

pub NumberOf_is : IsFunction op.NumberOf (function_of op.NumberOf 0 1 false)
unfolding encode token behind_run is_start_char is_name_char
NumberOf_is = record { word_is = record { lexes = λ z. refl; begins = λ z. refl }; named = refl; same = refl; other = refl; least = refl; most = λ n h below. leb-true n 1 h; nodes = refl }

-- ---- operators

abbrev pub operator_kind : Op → Kind
operator_kind op.Mul = k.Star
operator_kind op.Add = k.Plus
operator_kind op.Sub = k.Minus
operator_kind op.Lt = k.Less
operator_kind op.Le = k.LessEqual
operator_kind op.Gt = k.Greater
operator_kind op.Ge = k.GreaterEqual
operator_kind op.Eq = k.Equal
operator_kind op.Ne = k.NotEqual
operator_kind op.And = k.Name
operator_kind op.Or = k.Name
operator_kind o = k.Bad

-- the operator that a token is
abbrev pub operator_by : Kind → Text → Option (ℕ × Op)
operator_by kind w =
    cond (same_kind kind k.Name && bytes_eq w (codes "and")) (Some (5, op.And)) (cond (same_kind kind k.Name && bytes_eq w (codes "or")) (Some (6, op.Or)) (sign_operator kind))

operator_seen : (i : Text) → operator i ≡ operator_by (kind i) (spelling i)
unfolding operator sees_word sees
operator_seen i = refl

abbrev foreign_by : Kind → Text → Bool
foreign_by kind w = same_kind kind k.Bar || ((same_kind kind k.Name && bytes_eq w (codes "div")) || (same_kind kind k.Name && bytes_eq w (codes "mod")))

foreign_seen : (i : Text) → is_foreign i ≡ foreign_by (kind i) (spelling i)
unfolding is_foreign sees_word sees
foreign_seen i = refl

pub saw : (i : Text) (found wanted : Kind) → kind i ≡ found → sees wanted i ≡ same_kind found wanted
unfolding sees
saw i found wanted is = ap (λ kind. same_kind kind wanted) is

-- a token of this kind goes on with no step
pub record GoesOnNoStep (kind : Kind) : Type 0 where
  pub call : same_kind kind k.Open ≡ false
  pub bracket : same_kind kind k.OpenBracket ≡ false
  pub slash : same_kind kind k.Slash ≡ false
  pub double : same_kind kind k.DoubleSlash ≡ false

-- behind an expression without operators above this level
pub record Stops (n : ℕ) (z : Text) : Type 0 where
  pub start : skip z ≡ z
  pub call : sees k.Open z ≡ false
  pub bracket : sees k.OpenBracket z ≡ false
  pub slash : sees k.Slash z ≡ false
  pub double : sees k.DoubleSlash z ≡ false
  pub none : (m : ℕ) → m ≤ n → of_level m (operator z) ≡ None

pub stops_below : (m n : ℕ) (z : Text) → m ≤ n → Stops n z → Stops m z
stops_below m n z within s = record { start = s.start; call = s.call; bracket = s.bracket; slash = s.slash; double = s.double; none = λ l below. s.none l (omega (arith, within, below)) }

-- behind all of an expression
pub record Closed (z : Text) : Type 0 where
  pub stops : (n : ℕ) → Stops n z
  pub step : begins_step (kind z) ≡ false
  pub foreign : is_foreign z ≡ false
  pub operator : is_operator z ≡ false

record Closes (kind : Kind) : Type 0 where
  goes : GoesOnNoStep kind
  step : begins_step kind ≡ false
  foreign : (w : Text) → foreign_by kind w ≡ false
  operator : (w : Text) → operator_by kind w ≡ None

closed : (found : Kind) (z : Text) → Closes found → skip z ≡ z → kind z ≡ found → Closed z
unfolding is_operator
closed found z c start is =
    let none : operator z ≡ None = operator_seen z ∙ (ap (λ kind. operator_by kind (spelling z)) is ∙ c.operator (spelling z)) in
    record {
      stops = λ n. record {
        start = start;
        call = saw z found k.Open is ∙ c.goes.call;
        bracket = saw z found k.OpenBracket is ∙ c.goes.bracket;
        slash = saw z found k.Slash is ∙ c.goes.slash;
        double = saw z found k.DoubleSlash is ∙ c.goes.double;
        none = λ m below. ap (of_level m) none;
      };
      step = ap begins_step is ∙ c.step;
      foreign = foreign_seen z ∙ (ap (λ kind. foreign_by kind (spelling z)) is ∙ c.foreign (spelling z));
      operator = ap is_some none;
    }

pub closed_close : (z : Text) → skip z ≡ z → Closed (word (codes ")") z)
unfolding token token_at sign_token is_start_char
closed_close z start =
    let t : IsToken k.Close (codes ")") = record { lexes = λ z. refl; begins = λ z. refl } in
    closed k.Close (word (codes ")") z) (record { goes = record { call = refl; bracket = refl; slash = refl; double = refl }; step = refl; foreign = λ w. refl; operator = λ w. refl }) (t.begins z) (stands k.Close (codes ")") z t start).kind_is

pub closed_close_bracket : (z : Text) → skip z ≡ z → Closed (word (codes "]") z)
unfolding token token_at sign_token is_start_char
closed_close_bracket z start =
    let t : IsToken k.CloseBracket (codes "]") = record { lexes = λ z. refl; begins = λ z. refl } in
    closed k.CloseBracket (word (codes "]") z) (record { goes = record { call = refl; bracket = refl; slash = refl; double = refl }; step = refl; foreign = λ w. refl; operator = λ w. refl }) (t.begins z) (stands k.CloseBracket (codes "]") z t start).kind_is

pub closed_comma : (z : Text) → skip z ≡ z → Closed (word (codes ",") z)
unfolding token token_at sign_token is_start_char
closed_comma z start =
    let t : IsToken k.Comma (codes ",") = record { lexes = λ z. refl; begins = λ z. refl } in
    closed k.Comma (word (codes ",") z) (record { goes = record { call = refl; bracket = refl; slash = refl; double = refl }; step = refl; foreign = λ w. refl; operator = λ w. refl }) (t.begins z) (stands k.Comma (codes ",") z t start).kind_is

pub closed_end : Closed []
unfolding kind token
closed_end = closed k.End [] (record { goes = record { call = refl; bracket = refl; slash = refl; double = refl }; step = refl; foreign = λ w. refl; operator = λ w. refl }) refl refl

-- ---- behind an operand

at_level : (n m : ℕ) (o : Op) → n < m → (l : ℕ) → l ≤ n → of_level l (Some (m, o)) ≡ None
at_level n m o below l within = ap (λ b. cond b (Some o) None) (other m l (omega (arith, below, within))) where
  other : (a b : ℕ) → b < a → (a == b) ≡ false
  other a b h = ne_eqb a b (λ e. omega (arith, h, e))

pub record IsOperator (o : Op) : Type 0 where
  pub word_is : IsToken (operator_kind o) (operator_word o)
  pub goes : GoesOnNoStep (operator_kind o)
  pub means : operator_by (operator_kind o) (operator_word o) ≡ Some (precedence o, o)

pub operator_is : (o : Op) → 0 < precedence o → IsOperator o
unfolding token token_at sign_token behind_run is_start_char is_name_char
operator_is op.Or some = record { word_is = record { lexes = λ z. refl; begins = λ z. refl }; goes = record { call = refl; bracket = refl; slash = refl; double = refl }; means = refl }
operator_is op.And some = record { word_is = record { lexes = λ z. refl; begins = λ z. refl }; goes = record { call = refl; bracket = refl; slash = refl; double = refl }; means = refl }
operator_is op.Eq some = record { word_is = record { lexes = λ z. refl; begins = λ z. refl }; goes = record { call = refl; bracket = refl; slash = refl; double = refl }; means = refl }
operator_is op.Ne some = record { word_is = record { lexes = λ z. refl; begins = λ z. refl }; goes = record { call = refl; bracket = refl; slash = refl; double = refl }; means = refl }
operator_is op.Lt some = record { word_is = record { lexes = λ z. refl; begins = λ z. refl }; goes = record { call = refl; bracket = refl; slash = refl; double = refl }; means = refl }
operator_is op.Le some = record { word_is = record { lexes = λ z. refl; begins = λ z. refl }; goes = record { call = refl; bracket = refl; slash = refl; double = refl }; means = refl }
operator_is op.Gt some = record { word_is = record { lexes = λ z. refl; begins = λ z. refl }; goes = record { call = refl; bracket = refl; slash = refl; double = refl }; means = refl }
operator_is op.Ge some = record { word_is = record { lexes = λ z. refl; begins = λ z. refl }; goes = record { call = refl; bracket = refl; slash = refl; double = refl }; means = refl }
operator_is op.Add some = record { word_is = record { lexes = λ z. refl; begins = λ z. refl }; goes = record { call = refl; bracket = refl; slash = refl; double = refl }; means = refl }
operator_is op.Sub some = record { word_is = record { lexes = λ z. refl; begins = λ z. refl }; goes = record { call = refl; bracket = refl; slash = refl; double = refl }; means = refl }
operator_is op.Mul some = record { word_is = record { lexes = λ z. refl; begins = λ z. refl }; goes = record { call = refl; bracket = refl; slash = refl; double = refl }; means = refl }
operator_is op.Negate some = absurd (omega (arith, some))
operator_is op.Position some = absurd (omega (arith, some))
operator_is op.Last some = absurd (omega (arith, some))
operator_is op.Count some = absurd (omega (arith, some))
operator_is op.Sum some = absurd (omega (arith, some))
operator_is op.NameOf some = absurd (omega (arith, some))
operator_is op.StringOf some = absurd (omega (arith, some))
operator_is op.Concat some = absurd (omega (arith, some))
operator_is op.StartsWith some = absurd (omega (arith, some))
operator_is op.Contains some = absurd (omega (arith, some))
operator_is op.SubstringBefore some = absurd (omega (arith, some))
operator_is op.SubstringAfter some = absurd (omega (arith, some))
operator_is op.Substring some = absurd (omega (arith, some))
operator_is op.StringLength some = absurd (omega (arith, some))
operator_is op.NormalizeSpace some = absurd (omega (arith, some))
operator_is op.BooleanOf some = absurd (omega (arith, some))
operator_is op.Not some = absurd (omega (arith, some))
operator_is op.TrueOf some = absurd (omega (arith, some))
operator_is op.FalseOf some = absurd (omega (arith, some))
operator_is op.NumberOf some = absurd (omega (arith, some))

-- what stands next is this operator
pub record OperatorNext (o : Op) (i z : Text) : Type 0 where
  pub means : operator i ≡ Some (precedence o, o)
  pub next_is : next i ≡ z
  pub stops : (n : ℕ) → n < precedence o → Stops n i

pub operator_next : (o : Op) (z : Text) → 0 < precedence o → skip z ≡ z → OperatorNext o (word (operator_word o) z) z
operator_next o z some start =
    let it = operator_is o some in
    let i = word (operator_word o) z in
    let s : Stands (operator_kind o) (operator_word o) i z = stands (operator_kind o) (operator_word o) z it.word_is start in
    let means : operator i ≡ Some (precedence o, o) = operator_seen i ∙ (ap (λ kind. operator_by kind (spelling i)) s.kind_is ∙ (ap (operator_by (operator_kind o)) s.spelling_is ∙ it.means)) in
    record {
      means = means;
      next_is = s.next_is;
      stops = λ n below. record {
        start = it.word_is.begins z;
        call = saw i (operator_kind o) k.Open s.kind_is ∙ it.goes.call;
        bracket = saw i (operator_kind o) k.OpenBracket s.kind_is ∙ it.goes.bracket;
        slash = saw i (operator_kind o) k.Slash s.kind_is ∙ it.goes.slash;
        double = saw i (operator_kind o) k.DoubleSlash s.kind_is ∙ it.goes.double;
        none = λ m within. ap (of_level m) means ∙ at_level n (precedence o) o below m within;
      };
    }

-- The tokens of a path's text, each with a space behind it.
use Rattle.std.proofs.Common.{◌≡◌, ℕ, suc, ◌+◌, ◌≤◌, Bool, true, false, cond, ◌||◌, ◌==◌, [], ◌∷◌, ◌++◌, length, take, drop, refl, ap, ap₂, sym, ◌∙◌, arith}
use Rattle.std.proofs.Math.Seq.{take-append_seam}
use Rattle.std.proofs.lemmas.Bool.{and_parts, eqb-true, true≢false}
use Rattle.std.proofs.lemmas.List.{drop-append-le}
use Rattle.std.specs.List.{prefix_len}
use Rattle.std.specs.Prelude.{codes}
use Rattle.path_model.specs.Numbers.{is_space, is_digit}
use Rattle.path_model.specs.declared.path.Axis.{Axis}
use Rattle.path_model.specs.declared.path.Axis.TheVariants as axis
use Rattle.tree_model.specs.Names.{is_start_char, is_name_char}
use Rattle.xpath_parser.specs.declared.lex.Kind.{Kind}
use Rattle.xpath_parser.specs.declared.lex.Kind.TheVariants as k
use Rattle.xpath_parser.specs.Input.{kind, spelling, next, same_kind}
use Rattle.xpath_parser.specs.Lex.{Text, token, token_at, sign_token, behind_run, behind_colon, begins_run, is_in_run, run, name_token, number_token, skip}
use Rattle.xpath_parser.specs.PathText.{word, axis_word, is_name}

pub record IsToken (kind : Kind) (w : Text) : Type 0 where
  pub lexes : (z : Text) → token (word w z) ≡ (kind, length w)
  pub begins : (z : Text) → skip (word w z) ≡ word w z

-- the token that stands next, and what stands behind it
pub record Stands (token : Kind) (w i z : Text) : Type 0 where
  pub kind_is : kind i ≡ token
  pub spelling_is : spelling i ≡ w
  pub next_is : next i ≡ z

skip_space : (z : Text) → skip (32 ∷ z) ≡ skip z
skip_space z = let e : 1 + prefix_len is_space z ≡ suc (prefix_len is_space z) = omega arith in ap (λ n. drop n (32 ∷ z)) e

pub drop_seam : (w z : Text) → drop (length w) (w ++ z) ≡ z
drop_seam [] z = refl
drop_seam (c ∷ w) z = drop_seam w z

pub stands : (token : Kind) (w z : Text) → IsToken token w → skip z ≡ z → Stands token w (word w z) z
unfolding kind spelling next
stands token w z t start = record {
  kind_is = ap (λ p. p.0) (t.lexes z);
  spelling_is = ap (λ p. take p.1 (word w z)) (t.lexes z) ∙ take-append_seam w (32 ∷ z);
  next_is = ap (λ p. skip (drop p.1 (word w z))) (t.lexes z) ∙ ap skip (drop_seam w (32 ∷ z)) ∙ (skip_space z ∙ start);
}

pub kind_of : (token : Kind) (w z : Text) → IsToken token w → kind (word w z) ≡ token
unfolding kind
kind_of token w z t = ap (λ p. p.0) (t.lexes z)

-- ---- signs

pub open_token : IsToken k.Open (codes "(")
unfolding token token_at sign_token is_start_char
open_token = record { lexes = λ z. refl; begins = λ z. refl }

pub close_token : IsToken k.Close (codes ")")
unfolding token token_at sign_token is_start_char
close_token = record { lexes = λ z. refl; begins = λ z. refl }

pub open_bracket_token : IsToken k.OpenBracket (codes "[")
unfolding token token_at sign_token is_start_char
open_bracket_token = record { lexes = λ z. refl; begins = λ z. refl }

pub close_bracket_token : IsToken k.CloseBracket (codes "]")
unfolding token token_at sign_token is_start_char
close_bracket_token = record { lexes = λ z. refl; begins = λ z. refl }

pub comma_token : IsToken k.Comma (codes ",")
unfolding token token_at sign_token is_start_char
comma_token = record { lexes = λ z. refl; begins = λ z. refl }

pub colons_token : IsToken k.DoubleColon (codes "::")
unfolding token token_at sign_token is_start_char
colons_token = record { lexes = λ z. refl; begins = λ z. refl }

pub slash_token : IsToken k.Slash (codes "/")
unfolding token token_at sign_token is_start_char
slash_token = record { lexes = λ z. refl; begins = λ z. refl }

pub star_token : IsToken k.Star (codes "*")
unfolding token token_at sign_token is_start_char
star_token = record { lexes = λ z. refl; begins = λ z. refl }

pub minus_token : IsToken k.Minus (codes "-")
unfolding token token_at sign_token is_start_char
minus_token = record { lexes = λ z. refl; begins = λ z. refl }

-- ---- fixed names

pub text_token : IsToken k.Name (codes "text")
unfolding token behind_run is_start_char is_name_char
text_token = record { lexes = λ z. refl; begins = λ z. refl }

pub node_token : IsToken k.Name (codes "node")
unfolding token behind_run is_start_char is_name_char
node_token = record { lexes = λ z. refl; begins = λ z. refl }

pub axis_token : (a : Axis) → IsToken k.Name (axis_word a)
unfolding token behind_run is_start_char is_name_char
axis_token axis.Child = record { lexes = λ z. refl; begins = λ z. refl }
axis_token axis.Descendant = record { lexes = λ z. refl; begins = λ z. refl }
axis_token axis.Parent = record { lexes = λ z. refl; begins = λ z. refl }
axis_token axis.Ancestor = record { lexes = λ z. refl; begins = λ z. refl }
axis_token axis.FollowingSibling = record { lexes = λ z. refl; begins = λ z. refl }
axis_token axis.PrecedingSibling = record { lexes = λ z. refl; begins = λ z. refl }
axis_token axis.Following = record { lexes = λ z. refl; begins = λ z. refl }
axis_token axis.Preceding = record { lexes = λ z. refl; begins = λ z. refl }
axis_token axis.Attribute = record { lexes = λ z. refl; begins = λ z. refl }
axis_token axis.SelfNode = record { lexes = λ z. refl; begins = λ z. refl }
axis_token axis.DescendantOrSelf = record { lexes = λ z. refl; begins = λ z. refl }
axis_token axis.AncestorOrSelf = record { lexes = λ z. refl; begins = λ z. refl }

-- ---- names

stops : (p : ℕ → Bool) → p 32 ≡ false → (w z : Text) → prefix_len p (word w z) ≡ prefix_len p w
stops p other [] z = ap (λ b. cond b (1 + prefix_len p z) 0) other
stops p other (c ∷ w) z = ap (λ n. cond (p c) (1 + n) 0) (stops p other w z)

run_stops : (w z : Text) → run (word w z) ≡ run w
unfolding is_start_char is_name_char
run_stops w z = stops is_in_run refl w z

either_at_most : (b : Bool) (m n : ℕ) → m ≤ n → cond b (1 + m) 0 ≤ suc n
either_at_most true m n h = omega arith
either_at_most false m n h = omega arith

run_within : (p : ℕ → Bool) (w : Text) → prefix_len p w ≤ length w
run_within p [] = omega arith
run_within p (c ∷ w) = either_at_most (p c) (prefix_len p w) (length w) (run_within p w)

colon_extends : (n : ℕ) (v z : Text) → behind_colon n (word v z) ≡ behind_colon n v
unfolding behind_colon is_start_char
colon_extends n [] z = refl
colon_extends n (d ∷ v) z = ap (λ m. cond (begins_run d) (k.Name, n + 1 + m) (cond (d == 42) (k.Prefix, n + 2) (k.Name, n))) (run_stops (d ∷ v) z)

run_extends : (n : ℕ) (v z : Text) → behind_run n (word v z) ≡ behind_run n v
unfolding behind_run
run_extends n [] z = refl
run_extends n (c ∷ v) z = ap (λ p. cond (c == 58) p (k.Name, n)) (colon_extends n v z)

name_extends : (w z : Text) → name_token (word w z) ≡ name_token w
name_extends w z =
    ap (λ n. behind_run n (drop n (word w z))) (run_stops w z)
    ∙ ap (behind_run (run w)) (drop-append-le (run w) w (32 ∷ z) (run_within is_in_run w)) ∙ run_extends (run w) (drop (run w) w) z

not_space : (c : ℕ) → (a b d e : Bool) → (c == 32) ≡ a → (c == 9) ≡ b → (c == 13) ≡ d → (c == 10) ≡ e → begins_run c ≡ true → (a || (b || (d || e))) ≡ false
unfolding is_start_char
not_space c true b d e h i j l begins = absurd (true≢false (sym begins ∙ ap begins_run (eqb-true c 32 h)))
not_space c false true d e h i j l begins = absurd (true≢false (sym begins ∙ ap begins_run (eqb-true c 9 i)))
not_space c false false true e h i j l begins = absurd (true≢false (sym begins ∙ ap begins_run (eqb-true c 13 j)))
not_space c false false false true h i j l begins = absurd (true≢false (sym begins ∙ ap begins_run (eqb-true c 10 l)))
not_space c false false false false h i j l begins = refl

pub kept : (c : ℕ) (z : Text) → is_space c ≡ false → skip (c ∷ z) ≡ c ∷ z
kept c z other = ap (λ b. drop (cond b (1 + prefix_len is_space z) 0) (c ∷ z)) other

pub name_is_token : (w : Text) → is_name w ≡ true → IsToken k.Name w
unfolding token
name_is_token [] h = absurd (true≢false (sym h))
name_is_token (c ∷ w) h =
    let p = and_parts (begins_run c) _ h in
    let q = and_parts (same_kind (token (c ∷ w)).0 k.Name) _ p.1 in
    let own : token (c ∷ w) ≡ name_token (c ∷ w) = ap (λ b. cond b (name_token (c ∷ w)) (cond (is_digit c) (number_token (c ∷ w)) (token_at c w))) p.0 in
    let named : (token (c ∷ w)).0 ≡ k.Name = is_kind (token (c ∷ w)).0 q.0 in
    record {
      lexes = λ z. ap (λ b. cond b (name_token (c ∷ word w z)) (cond (is_digit c) (number_token (c ∷ word w z)) (token_at c (word w z)))) p.0
          ∙ name_extends (c ∷ w) z ∙ sym own ∙ ap₂ (λ a b. (a, b)) named (eqb-true (token (c ∷ w)).1 (length (c ∷ w)) q.1);
      begins = λ z. kept c (word w z) (not_space c (c == 32) (c == 9) (c == 13) (c == 10) refl refl refl refl p.0);
    }
  where
    is_kind : (found : Kind) → same_kind found k.Name ≡ true → found ≡ k.Name
    is_kind k.End h = absurd (true≢false (sym h))
    is_kind k.Bad h = absurd (true≢false (sym h))
    is_kind k.Name h = refl
    is_kind k.Prefix h = absurd (true≢false (sym h))
    is_kind k.Number h = absurd (true≢false (sym h))
    is_kind k.Fraction h = absurd (true≢false (sym h))
    is_kind k.Literal h = absurd (true≢false (sym h))
    is_kind k.Variable h = absurd (true≢false (sym h))
    is_kind k.Open h = absurd (true≢false (sym h))
    is_kind k.Close h = absurd (true≢false (sym h))
    is_kind k.OpenBracket h = absurd (true≢false (sym h))
    is_kind k.CloseBracket h = absurd (true≢false (sym h))
    is_kind k.Comma h = absurd (true≢false (sym h))
    is_kind k.At h = absurd (true≢false (sym h))
    is_kind k.DoubleColon h = absurd (true≢false (sym h))
    is_kind k.Slash h = absurd (true≢false (sym h))
    is_kind k.DoubleSlash h = absurd (true≢false (sym h))
    is_kind k.Dot h = absurd (true≢false (sym h))
    is_kind k.DoubleDot h = absurd (true≢false (sym h))
    is_kind k.Star h = absurd (true≢false (sym h))
    is_kind k.Bar h = absurd (true≢false (sym h))
    is_kind k.Plus h = absurd (true≢false (sym h))
    is_kind k.Minus h = absurd (true≢false (sym h))
    is_kind k.Equal h = absurd (true≢false (sym h))
    is_kind k.NotEqual h = absurd (true≢false (sym h))
    is_kind k.Less h = absurd (true≢false (sym h))
    is_kind k.LessEqual h = absurd (true≢false (sym h))
    is_kind k.Greater h = absurd (true≢false (sym h))
    is_kind k.GreaterEqual h = absurd (true≢false (sym h))

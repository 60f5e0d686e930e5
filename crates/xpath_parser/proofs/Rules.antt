-- One rule after another, where the outcome of the first is known.
use Rattle.std.proofs.Common.{◌≡◌, ℕ, zero, suc, ◌-◌, ◌<◌, List, [], ◌∷◌, ◌++◌, length, Option, None, Some, Ok, Result, refl, ap, sym, subst, arith}
use Rattle.path_model.specs.declared.path.Expr.{Expr}
use Rattle.path_model.specs.declared.path.Op.{Op}
use Rattle.xpath_parser.specs.Grammar.{chain, unary, links_from, chain_of, of_level, operator, on_operator, call, call_of, open_part, arguments, unfiltered}
use Rattle.path_model.specs.declared.path.Expr.TheVariants as e
use Rattle.xpath_parser.specs.Input.{Outcome, Parser, Reads, and_then, ◌>>=◌, ◌>>◌, pure, take_token, next}
use Rattle.xpath_parser.specs.Lex.{Text}
use Rattle.xpath_parser.specs.Words.{function_named}
use Rattle.xpath_parser.specs.declared.refusal.Refusal.{Refusal}
use Rattle.xpath_parser.specs.declared.words.Function.{Function}

pub goes_on : {A B : Type 0} {p : Outcome A} (f : A → Parser B) (a : A) (i : Text) → p ≡ Ok (a, i) → and_then p f ≡ f a i
goes_on f a i e = ap (λ q. and_then q f) e

-- what reads one outcome reads an equal one
pub read_as : {A : Type 0} {o p : Outcome A} (r : Result A Refusal) (new : Text) → o ≡ p → Reads p r new → Reads o r new
read_as {A} {o} {p} r new e h = subst (λ (q : Outcome A). Reads q r new) (sym e) h

-- ---- chains

pub chain_ends : (room : ℕ) (inner : ℕ → Parser Expr) (level : ℕ) (i : Text) → level ≡ 0 → chain room inner level i ≡ unary room inner i
unfolding chain
chain_ends room inner level i none = ap (λ n. chain room inner n i) none

pub chain_goes_on : (room : ℕ) (inner : ℕ → Parser Expr) (level : ℕ) (i : Text) → 0 < level
    → chain room inner level i ≡ and_then (chain room inner (level - 1) i) (λ x j. links_from (chain room inner (level - 1)) level (length j) [] [] x j)
unfolding chain
chain_goes_on room inner zero i h = absurd (omega arith)
chain_goes_on room inner (suc n) i h =
    let e : n ≡ suc n - 1 = omega arith in
    ap (λ m. and_then (chain room inner m i) (λ x j. links_from (chain room inner m) (suc n) (length j) [] [] x j)) e

-- where an operator of the level comes next
pub more_links : (tighter : Parser Expr) (level n : ℕ) (es : List Expr) (ops : List Op) (x : Expr) (i : Text) (o : Op) → of_level level (operator i) ≡ Some o
    → links_from tighter level (suc n) es ops x i ≡ and_then (tighter (next i)) (λ y. links_from tighter level n (es ++ x ∷ []) (ops ++ o ∷ []) y)
unfolding links_from
more_links tighter level n es ops x i o found =
    ap (λ f. on_operator f (λ o. take_token >> tighter >>= (λ y. links_from tighter level n (es ++ x ∷ []) (ops ++ o ∷ []) y)) (pure (chain_of es ops x)) i) found

-- where none does
pub last_link : (tighter : Parser Expr) (level n : ℕ) (es : List Expr) (ops : List Op) (x : Expr) (i : Text) → of_level level (operator i) ≡ None
    → links_from tighter level (suc n) es ops x i ≡ Ok (chain_of es ops x, i)
unfolding links_from
last_link tighter level n es ops x i none =
    ap (λ f. on_operator f (λ o. take_token >> tighter >>= (λ y. links_from tighter level n (es ++ x ∷ []) (ops ++ o ∷ []) y)) (pure (chain_of es ops x)) i) none

pub no_turns : (tighter : Parser Expr) (level : ℕ) (es : List Expr) (ops : List Op) (x : Expr) (i : Text) → links_from tighter level 0 es ops x i ≡ Ok (chain_of es ops x, i)
unfolding links_from
no_turns tighter level es ops x i = refl

pub missing : {A : Type 0} (o : Option A) → ((x : A) → o ≡ Some x → ⊥) → o ≡ None
missing None never = refl
missing (Some x) never = absurd (never x refl)

-- ---- calls

pub known_call : (room : ℕ) (inner : ℕ → Parser Expr) (name : List ℕ) (f : Function) (i : Text) → function_named name ≡ Some f
    → call room inner name i ≡ and_then (and_then (open_part room inner i) (λ _. arguments room inner f)) (λ xs. unfiltered (e.Apply f.op xs))
unfolding call
known_call room inner name f i is = ap (λ g. call_of room inner g i) is

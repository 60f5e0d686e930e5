-- What is written for the parts of a path, level by level, and induction over these.
use Rattle.std.proofs.Common.{◌≡◌, ℤ, ℕ, zero, suc, ◌<◌, Bool, List, [], ◌∷◌, map, rules, arith, subst, sym, ap, ◌∙◌}
use Rattle.std.specs.List.{AllByRecursion}
use Rattle.path_model.specs.Lawful.{deepest}
use Rattle.path_model.specs.declared.path.Axis.{Axis}
use Rattle.path_model.specs.declared.path.Expr.{Expr, fold-Expr, out-Expr, roll-Expr, the_lemmas}
use Rattle.path_model.specs.declared.path.Expr.TheOpen.{Expr-F, Step-F, XPath-F}
use Rattle.path_model.specs.declared.path.Expr.TheVariants as e
use Rattle.path_model.specs.declared.path.Expr.TheVariants.{rolls-Path, rolls-Number, rolls-Literal, rolls-Chain, rolls-Apply}
use Rattle.path_model.specs.declared.path.NodeTest.{NodeTest}
use Rattle.path_model.specs.declared.path.Op.{Op}
use Rattle.path_model.specs.declared.path.Step.{Step, roll-Step, out-Step, fold-Step}
use Rattle.path_model.specs.declared.path.XPath.{XPath, roll-XPath, out-XPath, fold-XPath}
use Rattle.xpath_parser.specs.Grammar.{make_step, make_path}
use Rattle.xpath_parser.specs.PathText.{written, written_step, written_path, step_written, path_written, number_written, literal_written, chain_written, apply_written}

pub written-Path : (p : XPath) → written (e.Path p) ≡ written_path p
written-Path p = search (rules, the_lemmas)

pub written-Number : (z : ℤ) → written (e.Number z) ≡ number_written z
written-Number z = search (rules, the_lemmas)

pub written-Literal : (s : List ℕ) → written (e.Literal s) ≡ literal_written s
written-Literal s = search (rules, the_lemmas)

pub written-Chain : (es : List Expr) (ops : List Op) → written (e.Chain es ops) ≡ chain_written (map written es) ops
written-Chain es ops = search (rules, the_lemmas)

pub written-Apply : (o : Op) (es : List Expr) → written (e.Apply o es) ≡ apply_written o (map written es)
written-Apply o es = search (rules, the_lemmas)

pub written-step : (a : Axis) (t : NodeTest) (es : List Expr) → written_step (make_step a t es) ≡ step_written (record { axis = a; test = t; tests = map written es })
written-step a t es = search (rules, the_lemmas)

pub written-path : (b : Bool) (ss : List Step) → written_path (make_path b ss) ≡ path_written (record { absolute = b; steps = map written_step ss })
written-path b ss = search (rules, the_lemmas)

-- ---- induction

abbrev height_of_expr : Expr-F ℕ ℕ ℕ → ℕ
height_of_expr (Expr-F.Path p) = suc p
height_of_expr (Expr-F.Number z) = 0
height_of_expr (Expr-F.Literal s) = 0
height_of_expr (Expr-F.Chain es ops) = suc (deepest es)
height_of_expr (Expr-F.Apply op es) = suc (deepest es)

abbrev height_of_step : Step-F ℕ ℕ ℕ → ℕ
height_of_step s = suc (deepest s.tests)

abbrev height_of_path : XPath-F ℕ ℕ ℕ → ℕ
height_of_path p = suc (deepest p.steps)

abbrev height : Expr → ℕ
height = fold-Expr ℕ ℕ ℕ height_of_expr height_of_step height_of_path

abbrev step_height : Step → ℕ
step_height = fold-Step ℕ ℕ ℕ height_of_expr height_of_step height_of_path

abbrev path_height : XPath → ℕ
path_height = fold-XPath ℕ ℕ ℕ height_of_expr height_of_step height_of_path

height-Path : (p : XPath) → height (e.Path p) ≡ suc (path_height p)
height-Path p = search (rules, the_lemmas)

height-Chain : (es : List Expr) (ops : List Op) → height (e.Chain es ops) ≡ suc (deepest (map height es))
height-Chain es ops = search (rules, the_lemmas)

height-Apply : (o : Op) (es : List Expr) → height (e.Apply o es) ≡ suc (deepest (map height es))
height-Apply o es = search (rules, the_lemmas)

height-step : (a : Axis) (t : NodeTest) (es : List Expr) → step_height (make_step a t es) ≡ suc (deepest (map height es))
height-step a t es = search (rules, the_lemmas)

height-path : (b : Bool) (ss : List Step) → path_height (make_path b ss) ≡ suc (deepest (map step_height ss))
height-path b ss = search (rules, the_lemmas)

rolled : (x : Expr) → roll-Expr (out-Expr x) ≡ x
rolled x = search (rules, the_lemmas)

rolled_step : (s : Step) → roll-Step (out-Step s) ≡ s
rolled_step s = search (rules, the_lemmas)

rolled_path : (p : XPath) → roll-XPath (out-XPath p) ≡ p
rolled_path p = search (rules, the_lemmas)

each_below : {X : Type 0} (P : X → Type 0) (h : X → ℕ) (n : ℕ) → ((x : X) → h x < n → P x) → (xs : List X) → deepest (map h xs) < n → AllByRecursion P xs
each_below P h n f [] below = tt
each_below P h n f (x ∷ xs) below = (f x (omega (arith, below)), each_below P h n f xs (omega (arith, below)))

module _ (P : Expr → Type 0) (Q : Step → Type 0) (R : XPath → Type 0)
    (path : (p : XPath) → R p → P (e.Path p)) (number : (z : ℤ) → P (e.Number z)) (literal : (s : List ℕ) → P (e.Literal s))
    (chain : (es : List Expr) (ops : List Op) → AllByRecursion P es → P (e.Chain es ops)) (apply : (o : Op) (es : List Expr) → AllByRecursion P es → P (e.Apply o es))
    (step : (a : Axis) (t : NodeTest) (es : List Expr) → AllByRecursion P es → Q (make_step a t es)) (way : (b : Bool) (ss : List Step) → AllByRecursion Q ss → R (make_path b ss)) where
  record Below (n : ℕ) : Type 0 where
    exprs : (x : Expr) → height x < n → P x
    steps : (s : Step) → step_height s < n → Q s
    paths : (p : XPath) → path_height p < n → R p

  layer : (n : ℕ) → Below n → (y : Expr-F Expr Step XPath) → height (roll-Expr y) < suc n → P (roll-Expr y)
  layer n b (Expr-F.Path p) h = subst P (sym (rolls-Path p)) (path p (b.paths p (let same = ap height (rolls-Path p) ∙ height-Path p in omega (arith, h, same))))
  layer n b (Expr-F.Number z) h = subst P (sym (rolls-Number z)) (number z)
  layer n b (Expr-F.Literal s) h = subst P (sym (rolls-Literal s)) (literal s)
  layer n b (Expr-F.Chain es ops) h = subst P (sym (rolls-Chain es ops)) (chain es ops (each_below P height n b.exprs es (let same = ap height (rolls-Chain es ops) ∙ height-Chain es ops in omega (arith, h, same))))
  layer n b (Expr-F.Apply o es) h = subst P (sym (rolls-Apply o es)) (apply o es (each_below P height n b.exprs es (let same = ap height (rolls-Apply o es) ∙ height-Apply o es in omega (arith, h, same))))

  step_layer : (n : ℕ) → Below n → (y : Step-F Expr Step XPath) → step_height (roll-Step y) < suc n → Q (roll-Step y)
  step_layer n b y h = step y.axis y.test y.tests (each_below P height n b.exprs y.tests (let same = height-step y.axis y.test y.tests in omega (arith, h, same)))

  path_layer : (n : ℕ) → Below n → (y : XPath-F Expr Step XPath) → path_height (roll-XPath y) < suc n → R (roll-XPath y)
  path_layer n b y h = way y.absolute y.steps (each_below Q step_height n b.steps y.steps (let same = height-path y.absolute y.steps in omega (arith, h, same)))

  below : (n : ℕ) → Below n
  below zero = record { exprs = λ x h. absurd (omega (arith, h)); steps = λ s h. absurd (omega (arith, h)); paths = λ p h. absurd (omega (arith, h)) }
  below (suc n) = record {
    exprs = λ x h. subst P (rolled x) (layer n (below n) (out-Expr x) (subst (λ y. height y < suc n) (sym (rolled x)) h));
    steps = λ s h. subst Q (rolled_step s) (step_layer n (below n) (out-Step s) (subst (λ y. step_height y < suc n) (sym (rolled_step s)) h));
    paths = λ p h. subst R (rolled_path p) (path_layer n (below n) (out-XPath p) (subst (λ y. path_height y < suc n) (sym (rolled_path p)) h));
  }

  pub by_parts : (p : XPath) → R p
  by_parts p = (below (suc (path_height p))).paths p (omega arith)

-- Expressions that are compared piece by piece.
use Rattle.std.proofs.Common.{◌≡◌, ◌≤◌, ℕ, ◌+◌, List, ◌∷◌, length, drop, map, sym, ap, ◌∙◌}
use Rattle.path_model.specs.declared.path.Expr.{Expr}
use Rattle.path_model.specs.declared.path.Expr.TheVariants.{Chain, Apply, Path}
use Rattle.path_model.specs.declared.path.Op.{Op}
use Rattle.path_model.specs.declared.path.Step.{Step, out-Step}
use Rattle.path_model.specs.declared.path.XPath.{XPath, out-XPath}
use Rattle.path_model.specs.Paths as paths
use Rattle.path_model.specs.PlainPaths.{chained, plain, plain_path, plain_step, row, way}
use Rattle.xpath_eval.proofs.FreeTests.{chain_opened}
use Rattle.xpath_eval.proofs.Opened.{apply_opened, drop_all, path_is, step_is, whole_path}

-- two lists were the same so far
pub same_next : {A B G : Type 0} (f : A → B) (xs ys : List A) (i : ℕ) (x y : A) → drop i xs ≡ x ∷ drop (i + 1) xs → drop i ys ≡ y ∷ drop (i + 1) ys → f x ≡ f y
    → (map f (drop i xs) ≡ map f (drop i ys) → G) → map f (drop (i + 1) xs) ≡ map f (drop (i + 1) ys) → G
same_next f xs ys i x y here there is so_far rest = so_far (ap (map f) here ∙ (λ j. is j ∷ rest j) ∙ sym (ap (map f) there))

pub same_end : {A B G : Type 0} (f : A → B) (xs ys : List A) (i : ℕ) → length xs ≤ i → length ys ≤ i → (map f (drop i xs) ≡ map f (drop i ys) → G) → G
same_end f xs ys i short small so_far = so_far (ap (map f) (drop_all i xs short) ∙ sym (ap (map f) (drop_all i ys small)))

pub same_paths : (p q : XPath) → (out-XPath p).absolute ≡ (out-XPath q).absolute → map plain_step (out-XPath p).steps ≡ map plain_step (out-XPath q).steps → plain_path p ≡ plain_path q
same_paths p q a s = whole_path p ∙ (λ i. record { is_absolute = a i; steps = way (s i) }) ∙ sym (whole_path q)

pub same_steps : (s z : Step) → (out-Step s).axis ≡ (out-Step z).axis → (out-Step s).test ≡ (out-Step z).test → map plain (out-Step s).tests ≡ map plain (out-Step z).tests → plain_step s ≡ plain_step z
same_steps s z a n h = λ i. λ ss. (step_is s ss ∙ (λ j. paths.step (a j) (n j) (row (h j)) ss) ∙ sym (step_is z ss)) i

path_means : (p : XPath) → plain (Path p) ≡ paths.path (plain_path p).is_absolute (plain_path p).steps
path_means p = path_is p ∙ sym (ap (λ (z : paths.Path). paths.path z.is_absolute z.steps) (whole_path p))

pub path_same : (e f : Expr) (p q : XPath) → e ≡ Path p → f ≡ Path q → plain_path p ≡ plain_path q → plain e ≡ plain f
path_same e f p q one other same = ap plain one ∙ path_means p ∙ ap (λ (z : paths.Path). paths.path z.is_absolute z.steps) same ∙ sym (path_means q) ∙ sym (ap plain other)

pub chain_same : (e f : Expr) (es fs : List Expr) (os ps : List Op) → e ≡ Chain es os → f ≡ Chain fs ps → os ≡ ps → map plain es ≡ map plain fs → plain e ≡ plain f
chain_same e f es fs os ps one other ops same = ap plain one ∙ chain_opened es os ∙ (λ i. chained (same i) (ops i)) ∙ sym (chain_opened fs ps) ∙ sym (ap plain other)

pub apply_same : (e f : Expr) (o u : Op) (es fs : List Expr) → e ≡ Apply o es → f ≡ Apply u fs → o ≡ u → map plain es ≡ map plain fs → plain e ≡ plain f
apply_same e f o u es fs one other op same = ap plain one ∙ apply_opened o es ∙ (λ i. paths.apply (op i) (row (same i))) ∙ sym (apply_opened u fs) ∙ sym (ap plain other)

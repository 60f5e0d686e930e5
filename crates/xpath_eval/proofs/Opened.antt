-- Paths as they are meant, level by level, and the pieces of the loops over them.
use Rattle.std.proofs.Common.{◌≡◌, ◌≤◌, ◌+◌, ◌-◌, ℕ, zero, suc, Bool, true, false, if◌then◌else◌, List, [], ◌∷◌, ◌++◌, length, take, drop, get_or, refl, sym, ap, ◌∙◌, append_assoc, append-nil, arith, rules}
use Rattle.std.proofs.lemmas.List.{map-append}
use Rattle.path_model.specs.declared.path.Expr.{Expr, the_lemmas}
use Rattle.path_model.specs.declared.path.Expr.TheVariants.{Path, Apply}
use Rattle.path_model.specs.declared.path.Op.{Op}
use Rattle.path_model.specs.declared.path.Step.{Step, out-Step}
use Rattle.path_model.specs.declared.path.XPath.{XPath, out-XPath}
use Rattle.path_model.specs.Evaluation.{operands, kept_by}
use Rattle.path_model.specs.Evaluation as program
use Rattle.path_model.specs.Functions.{Value, Context, keeps}
use Rattle.path_model.specs.Paths as paths
use Rattle.path_model.specs.PlainPaths.{plain, plain_path, plain_row, plain_step, plain_way}
use Rattle.path_model.specs.Positions.{Position}
use Rattle.path_model.specs.Programs.{Program, ends, and_then}
use Rattle.xpath_axes.specs.declared.position.Position as declared
use Rattle.xpath_axes.specs.Positions as position
use Rattle.xpath_axes.specs.Positions.{all_plain}
use Rattle.xpath_axes.proofs.Running.{and_then-and_then}
use Rattle.xpath_eval.specs.Values.{meant, all_meant}
use Rattle.xpath_eval.specs.declared.value.XValue.{XValue}
use Rattle.xpath_eval.specs.inside.Chains.{chain_from}

pub step_is : (s : Step) (ss : paths.Steps) → plain_step s ss ≡ paths.step (out-Step s).axis (out-Step s).test (plain_row (out-Step s).tests) ss
step_is s ss = search (rules, the_lemmas)

pub path_is : (p : XPath) → plain (Path p) ≡ paths.path (out-XPath p).absolute (plain_way (out-XPath p).steps)
path_is p = search (rules, the_lemmas)

pub apply_opened : (o : Op) (es : List Expr) → plain (Apply o es) ≡ paths.apply o (plain_row es)
apply_opened o es = search (rules, the_lemmas)

-- ---- lists

pub take_all : {A : Type 0} (xs : List A) (n : ℕ) → n ≡ length xs → take n xs ≡ xs
take_all [] zero h = refl
take_all [] (suc n) h = refl
take_all (x ∷ xs) zero h = absurd (omega (arith, h))
take_all (x ∷ xs) (suc n) h = ap (λ (ys : List _). x ∷ ys) (take_all xs n (omega (arith, h)))

pub first_is : {A : Type 0} (xs : List A) (x : A) → 1 ≤ length xs → x ≡ get_or xs 0 x → xs ≡ x ∷ take (length xs - 1) (drop 1 xs)
first_is [] x h e = absurd (omega (arith, h))
first_is (y ∷ xs) x h e = (λ i. sym e i ∷ xs) ∙ ap (λ (ys : List _). x ∷ ys) (sym (take_all xs (length (y ∷ xs) - 1) (omega arith)))

pub drop_all : {A : Type 0} (n : ℕ) (xs : List A) → length xs ≤ n → drop n xs ≡ []
drop_all zero [] h = refl
drop_all (suc n) [] h = refl
drop_all zero (x ∷ xs) h = absurd (omega (arith, h))
drop_all (suc n) (x ∷ xs) h = drop_all n xs (omega (arith, h))

pub chain_done : (v : Value) (ops : List Op) (c : Context) → chain_from v ops [] c ≡ ends v
chain_done v [] c = refl
chain_done v (o ∷ ops) c = refl

pub meant_pushed : (vs : List XValue) (v : XValue) → all_meant (vs ++ v ∷ []) ≡ all_meant vs ++ meant v ∷ []
meant_pushed vs v = map-append meant vs (v ∷ [])

-- ---- operands and predicates, with what is there so far

pub operands_next : (e : paths.Expr) (es : paths.Exprs) (c : Context) (so_far : List Value)
    → and_then (operands (paths.then_expr e es) c) (λ more. ends (so_far ++ more)) ≡ and_then (program.value e c) (λ v. and_then (operands es c) (λ more. ends ((so_far ++ v ∷ []) ++ more)))
operands_next e es c so_far =
    and_then-and_then (program.value e c) (λ v. and_then (operands es c) (λ vs. ends (v ∷ vs))) (λ more. ends (so_far ++ more))
    ∙ (λ i. and_then (program.value e c) (λ v. and_then-and_then (operands es c) (λ vs. ends (v ∷ vs)) (λ more. ends (so_far ++ more)) i))
    ∙ (λ i. and_then (program.value e c) (λ v. and_then (operands es c) (λ vs. ends (sym (append_assoc so_far (v ∷ []) vs) i))))

kept_more : (b : Bool) (n : Position) (so_far zs : List Position) → so_far ++ (if b then n ∷ zs else zs) ≡ (so_far ++ (if b then n ∷ [] else [])) ++ zs
kept_more true n so_far zs = sym (append_assoc so_far (n ∷ []) zs)
kept_more false n so_far zs = ap (λ (xs : List Position). xs ++ zs) (sym (append-nil so_far))

pub kept_next : (test : Context → Program Value) (size p : ℕ) (n : Position) (ns so_far : List Position)
    → and_then (kept_by test size p (n ∷ ns)) (λ more. ends (so_far ++ more))
    ≡ and_then (test (record { at = n; proximity = p; size = size })) (λ v. and_then (kept_by test size (p + 1) ns) (λ more. ends ((so_far ++ (if keeps v p then n ∷ [] else [])) ++ more)))
kept_next test size p n ns so_far =
    let one : Program Value = test (record { at = n; proximity = p; size = size }) in
    and_then-and_then one (λ v. and_then (kept_by test size (p + 1) ns) (λ kept. ends (if keeps v p then n ∷ kept else kept))) (λ more. ends (so_far ++ more))
    ∙ (λ i. and_then one (λ v. and_then-and_then (kept_by test size (p + 1) ns) (λ kept. ends (if keeps v p then n ∷ kept else kept)) (λ more. ends (so_far ++ more)) i))
    ∙ (λ i. and_then one (λ v. and_then (kept_by test size (p + 1) ns) (λ kept. ends (kept_more (keeps v p) n so_far kept i))))

pub plain_append : (ps qs : List declared.Position) → all_plain (ps ++ qs) ≡ all_plain ps ++ all_plain qs
plain_append ps qs = map-append position.plain ps qs

pub plain_length : (ps : List declared.Position) → length (all_plain ps) ≡ length ps
plain_length [] = refl
plain_length (p ∷ ps) = ap suc (plain_length ps)

pub whole_path : (p : XPath) → plain_path p ≡ record { is_absolute = (out-XPath p).absolute; steps = plain_way (out-XPath p).steps }
whole_path p = search (rules, the_lemmas)

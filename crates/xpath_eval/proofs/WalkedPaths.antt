-- The paths of the program that begin with `//`, and their walks.
use Rattle.std.proofs.Common.{◌≡◌, ◌≤◌, ◌-◌, Bool, List, [], ◌∷◌, length, take, drop, get_or, refl, sym, ap, subst, ◌∙◌, arith, rules}
use Rattle.path_model.specs.declared.path.Axis.TheVariants.{DescendantOrSelf}
use Rattle.path_model.specs.declared.path.Expr.{the_lemmas}
use Rattle.path_model.specs.declared.path.NodeTest.TheVariants as test
use Rattle.path_model.specs.declared.path.Step.{Step, out-Step}
use Rattle.path_model.specs.declared.path.XPath.{XPath, out-XPath, roll-XPath}
use Rattle.path_model.specs.Paths.{Path, Steps, no_more, step}
use Rattle.path_model.specs.PlainPaths.{plain_path, plain_row, plain_step, plain_way}
use Rattle.xpath_eval.specs.inside.Walks.{FindsTheSame, IsWalkFor, LeadsToAll, LeadsToChildren}
use Rattle.xpath_eval.proofs.Opened.{step_is, take_all, whole_path}
use Rattle.xpath_eval.proofs.OneWalk.{one_step, two_steps, walk_finds}

abbrev path_of : Bool → Steps → Path
path_of b ss = record { is_absolute = b; steps = ss }

two_opened : (down child : Step) (rest : List Step) → LeadsToAll down → LeadsToChildren child
    → plain_way (down ∷ child ∷ rest) ≡ two_steps (out-Step child).test (plain_row (out-Step child).tests) (plain_way rest)
two_opened down child rest all others =
    step_is down (plain_step child (plain_way rest))
    ∙ (λ i. step (all.axis i) (all.test i) (all.tests i) (plain_step child (plain_way rest)))
    ∙ ap (step DescendantOrSelf test.Node no_more) (step_is child (plain_way rest) ∙ (λ i. step (others.axis i) (out-Step child).test (plain_row (out-Step child).tests) (plain_way rest)))

one_opened : (child walk : Step) (rest : List Step) → IsWalkFor child walk → plain_way (walk ∷ rest) ≡ one_step (out-Step child).test (plain_row (out-Step child).tests) (plain_way rest)
one_opened child walk rest for_it = step_is walk (plain_way rest) ∙ (λ i. step (for_it.axis i) (for_it.test i) (plain_row (for_it.tests i)) (plain_way rest))

pub path_walked : (p q : XPath) (down child walk : Step) (rest : List Step) → (out-XPath p).steps ≡ down ∷ child ∷ rest → LeadsToAll down → LeadsToChildren child → IsWalkFor child walk
    → (out-XPath q).absolute ≡ (out-XPath p).absolute → (out-XPath q).steps ≡ walk ∷ rest → FindsTheSame (plain_path p) (plain_path q)
path_walked p q down child walk rest first all others for_it same_start second =
    let b = (out-XPath p).absolute in
    let was : plain_path p ≡ path_of b (two_steps (out-Step child).test (plain_row (out-Step child).tests) (plain_way rest)) =
    whole_path p ∙ ap (λ xs. path_of b (plain_way xs)) first ∙ ap (path_of b) (two_opened down child rest all others) in
    let now : plain_path q ≡ path_of b (one_step (out-Step child).test (plain_row (out-Step child).tests) (plain_way rest)) =
    whole_path q ∙ (λ i. path_of (same_start i) (plain_way (second i))) ∙ ap (path_of b) (one_opened child walk rest for_it) in
    subst (λ z. FindsTheSame z (plain_path q)) (sym was)
    (subst (FindsTheSame (path_of b (two_steps (out-Step child).test (plain_row (out-Step child).tests) (plain_way rest)))) (sym now)
    (walk_finds (out-Step child).test (plain_row (out-Step child).tests) (plain_way rest) b others.tests))

pub first_two : {A : Type 0} (xs : List A) (x y : A) → 2 ≤ length xs → x ≡ get_or xs 0 x → y ≡ get_or xs 1 y → xs ≡ x ∷ (y ∷ take (length xs - 2) (drop 2 xs))
first_two [] x y h e f = absurd (omega (arith, h))
first_two (a ∷ []) x y h e f = absurd (omega (arith, h))
first_two (a ∷ b ∷ xs) x y h e f = (λ i. sym e i ∷ (sym f i ∷ xs)) ∙ ap (λ (ys : List _). x ∷ (y ∷ ys)) (sym (take_all xs (length (a ∷ (b ∷ xs)) - 2) (omega arith)))

pub finds_itself : (p : Path) → FindsTheSame p p
finds_itself p = record { same = λ t l valid. refl; fewer = λ t l valid. omega arith }

pub rolled : (b : Bool) (ss : List Step) → out-XPath (roll-XPath (record { absolute = b; steps = ss })) ≡ record { absolute = b; steps = ss }
rolled b ss = search (rules, the_lemmas)

-- What the parts of a lawful path keep, where there is room for so many nested parts, and of what they are made.
use Rattle.std.proofs.Common.{◌≡◌, ℕ, suc, ◌+◌, ◌-◌, ◌≤◌, ◌<◌, Bool, true, false, not, ◌||◌, ◌==◌, List, [], ◌∷◌, ◌++◌, map, length, is_some, ℤ, le_of_lt, refl, sym, ap, ◌∙◌, subst, arith}
use Rattle.std.proofs.lemmas.Bool.{and_from, eq-eqb, lt-ltb}
use Rattle.std.proofs.lemmas.List.{length-map}
use Rattle.std.specs.List.{AllByRecursion, list_all}
use Rattle.std.specs.Prelude.{nat_lt}
use Rattle.path_model.specs.Lawful.{form, depth, is_formed_step, step_depth, is_formed_path, path_depth, links, applies, takes, precedence, admits}
use Rattle.path_model.proofs.LawfulParts.{form-Path, form-Number, form-Literal, form-Chain, form-Apply, formed-step, formed-path, depth-Path, depth-Number, depth-Literal, depth-Chain, depth-Apply, depth-step, depth-path}
use Rattle.path_model.specs.Numbers.{in_range}
use Rattle.path_model.specs.declared.path.Axis.{Axis}
use Rattle.path_model.specs.declared.path.Expr.{Expr}
use Rattle.path_model.specs.declared.path.Expr.TheVariants as e
use Rattle.path_model.specs.declared.path.NodeTest.{NodeTest}
use Rattle.path_model.specs.declared.path.Op.{Op}
use Rattle.path_model.specs.declared.path.Step.{Step}
use Rattle.path_model.specs.declared.path.XPath.{XPath}
use Rattle.xpath_parser.specs.Grammar.{make_step, make_path, chain_of}
use Rattle.xpath_parser.proofs.LawfulGives.{all_snoc, all_true, all_most, all_most_of}

pub record Within (room : ℕ) (x : Expr) : Type 0 where
  pub formed : (form x).is_formed ≡ true
  pub shallow : depth x ≤ room

-- in a nested part, at a level of precedence or as a node set alone
pub record Inner (room level : ℕ) (x : Expr) : Type 0 where
  pub formed : (form x).is_formed ≡ true
  pub shallow : depth x < room
  pub path : level ≡ 7 → (form x).is_path ≡ true

pub record StepWithin (room : ℕ) (s : Step) : Type 0 where
  pub formed : is_formed_step s ≡ true
  pub shallow : step_depth s ≤ room

pub record PathWithin (room : ℕ) (p : XPath) : Type 0 where
  pub formed : is_formed_path p ≡ true
  pub shallow : path_depth p ≤ room

-- ---- steps and paths

pub step_within : (room : ℕ) (a : Axis) (t : NodeTest) (es : List Expr) → AllByRecursion (Inner room 6) es → StepWithin room (make_step a t es)
step_within room a t es h = record {
  formed = formed-step a t es ∙ all_true (Inner room 6) (λ f. f.is_formed) form (λ x k. k.formed) es h;
  shallow = subst (λ n. n ≤ room) (sym (depth-step a t es)) (all_most_of (Inner room 6) suc depth room (λ x k. k.shallow) es h);
}

pub path_within : (room : ℕ) (b : Bool) (ss : List Step) → AllByRecursion (StepWithin room) ss → PathWithin room (make_path b ss)
path_within room b ss h = record {
  formed = formed-path b ss ∙ all_true (StepWithin room) (λ s. s) is_formed_step (λ x k. k.formed) ss h;
  shallow = subst (λ n. n ≤ room) (sym (depth-path b ss)) (all_most (StepWithin room) step_depth room (λ x k. k.shallow) ss h);
}

pub of_path : (room : ℕ) (p : XPath) → PathWithin room p → Within room (e.Path p)
of_path room p h = record {
  formed = ap (λ f. f.is_formed) (form-Path p) ∙ h.formed;
  shallow = subst (λ n. n ≤ room) (sym (depth-Path p)) h.shallow;
}

pub of_literal : (room : ℕ) (s : List ℕ) → Within room (e.Literal s)
of_literal room s = record {
  formed = ap (λ f. f.is_formed) (form-Literal s);
  shallow = subst (λ n. n ≤ room) (sym (depth-Literal s)) (omega arith);
}

pub of_number : (room : ℕ) (z : ℤ) → is_some (in_range z) ≡ true → Within room (e.Number z)
of_number room z h = record {
  formed = ap (λ f. f.is_formed) (form-Number z) ∙ h;
  shallow = subst (λ n. n ≤ room) (sym (depth-Number z)) (omega arith);
}

-- ---- nested parts

pub inner_within : (room level : ℕ) (x : Expr) → Inner room level x → Within room x
inner_within room level x h = record { formed = h.formed; shallow = le_of_lt h.shallow }

pub inner_path : (room level : ℕ) (p : XPath) → PathWithin room p → Inner (suc room) level (e.Path p)
inner_path room level p h =
    let w = of_path room p h in
    record { formed = w.formed; shallow = (let s = w.shallow in omega (arith, s)); path = λ _. ap (λ f. f.is_path) (form-Path p) }

pub inner_not_path : (room level : ℕ) (x : Expr) → (level ≡ 7 → ⊥) → Within room x → Inner (suc room) level x
inner_not_path room level x other w = record { formed = w.formed; shallow = (let s = w.shallow in omega (arith, s)); path = λ same. absurd (other same) }

-- ---- chains

-- operators of a level, each with an operand before it
pub record Linked (level : ℕ) (es : List Expr) (ops : List Op) : Type 0 where
  pub as_many : length es ≡ length ops
  pub level_of : AllByRecursion (λ o. precedence o ≡ level) ops

same_levels : (level : ℕ) (o : Op) (ops : List Op) → precedence o ≡ level → AllByRecursion (λ p. precedence p ≡ level) ops → list_all (λ p. precedence p == precedence o) ops ≡ true
same_levels level o [] h k = refl
same_levels level o (p ∷ ops) h k = and_from (precedence p == precedence o) _ (eq-eqb (precedence p) (precedence o) (k.0 ∙ sym h)) (same_levels level o ops h k.1)

one_more : (es : List Expr) (x : Expr) → length (map form (es ++ x ∷ [])) ≡ length es + 1
one_more [] x = refl
one_more (y ∷ es) x = let h = one_more es x in omega (arith, h)

linked : (level : ℕ) (es : List Expr) (o : Op) (ops : List Op) (x : Expr) → 0 < level → Linked level es (o ∷ ops) → links (length (map form (es ++ x ∷ []))) (o ∷ ops) ≡ true
linked level es o ops x some h =
    let many = one_more es x in
    let same = h.as_many in
    let l = h.level_of.0 in
    and_from (length (map form (es ++ x ∷ [])) == length ops + 2) _ (eq-eqb _ _ (omega (arith, many, same)))
    (and_from (nat_lt 0 (precedence o)) _ (lt-ltb 0 (precedence o) (omega (arith, some, l))) (same_levels level o ops l h.level_of.1))

longer : {X : Type 0} (xs : List X) (x : X) → length (xs ++ x ∷ []) ≡ length xs + 1
longer [] x = refl
longer (y ∷ xs) x = let h = longer xs x in omega (arith, h)

pub begun : (level : ℕ) → Linked level [] []
begun level = record { as_many = refl; level_of = tt }

pub linked_more : (level : ℕ) (es : List Expr) (ops : List Op) (x : Expr) (o : Op) → Linked level es ops → precedence o ≡ level → Linked level (es ++ x ∷ []) (ops ++ o ∷ [])
linked_more level es ops x o h is = record { as_many = longer es x ∙ (ap (λ n. n + 1) h.as_many ∙ sym (longer ops o)); level_of = all_snoc (λ o. precedence o ≡ level) ops o h.level_of is }

pub chain_within : (room level : ℕ) (es : List Expr) (ops : List Op) (x : Expr) → 0 < level → Linked level es ops → AllByRecursion (Within room) es → Within room x → Within room (chain_of es ops x)
chain_within room level es [] x some h all k = k
chain_within room level es (o ∷ ops) x some h all k =
    let each = all_snoc (Within room) es x all k in
    record {
      formed = ap (λ f. f.is_formed) (form-Chain (es ++ x ∷ []) (o ∷ ops)) ∙ and_from (links (length (map form (es ++ x ∷ []))) (o ∷ ops)) _ (linked level es o ops x some h) (all_true (Within room) (λ f. f.is_formed) form (λ x k. k.formed) (es ++ x ∷ []) each);
      shallow = subst (λ n. n ≤ room) (sym (depth-Chain (es ++ x ∷ []) (o ∷ ops))) (all_most (Within room) depth room (λ x k. k.shallow) (es ++ x ∷ []) each);
    }

-- ---- calls

-- an operator or function with operands of their number and kind
pub applied : (room level : ℕ) (o : Op) (es : List Expr) → 0 < room → precedence o ≡ 0 → admits (takes o) (length es) ≡ true → ((takes o).are_paths ≡ true → level ≡ 7) → AllByRecursion (Inner room level) es → Within room (e.Apply o es)
applied room level o es some unary many paths all = record {
  formed = ap (λ f. f.is_formed) (form-Apply o es) ∙ and_from (applies o (map form es)) _
      (and_from (precedence o == 0) _ (eq-eqb (precedence o) 0 unary) (and_from (admits (takes o) (length (map form es))) _ (ap (admits (takes o)) (length-map es form) ∙ many) (of_paths (takes o).are_paths paths)))
      (all_true (Inner room level) (λ f. f.is_formed) form (λ x k. k.formed) es all);
  shallow = subst (λ n. n ≤ room) (sym (depth-Apply o es)) (let h = all_most (Inner room level) depth (room - 1) (λ x k. let s = k.shallow in omega (arith, s)) es all in omega (arith, h, some));
} where
  of_paths : (b : Bool) → (b ≡ true → level ≡ 7) → (not b || list_all (λ f. f.is_path) (map form es)) ≡ true
  of_paths false h = refl
  of_paths true h = all_true (Inner room level) (λ f. f.is_path) form (λ x k. k.path (h refl)) es all

-- Of what a path is made, level by level: how it is formed, and how deep it nests.
use Rattle.std.proofs.Common.{◌≡◌, ℤ, ℕ, suc, Bool, true, false, ◌&&◌, List, length, map, rules}
use Rattle.std.specs.Prelude.{is_some}
use Rattle.std.specs.List.{list_all}
use Rattle.path_model.specs.Lawful.{deepest, form, depth, is_formed_step, step_depth, is_formed_path, path_depth, links, applies}
use Rattle.path_model.specs.Numbers.{in_range}
use Rattle.path_model.specs.declared.path.Axis.{Axis}
use Rattle.path_model.specs.declared.path.Expr.{Expr, the_lemmas}
use Rattle.path_model.specs.declared.path.Expr.TheVariants as e
use Rattle.path_model.specs.declared.path.NodeTest.{NodeTest}
use Rattle.path_model.specs.declared.path.Op.{Op}
use Rattle.path_model.specs.declared.path.Step.{Step, roll-Step}
use Rattle.path_model.specs.declared.path.XPath.{XPath, roll-XPath}

-- ---- how it is formed

pub form-Path : (p : XPath) → form (e.Path p) ≡ record { is_path = true; is_formed = is_formed_path p }
form-Path p = search (rules, the_lemmas)

pub form-Number : (z : ℤ) → form (e.Number z) ≡ record { is_path = false; is_formed = is_some (in_range z) }
form-Number z = search (rules, the_lemmas)

pub form-Literal : (s : List ℕ) → form (e.Literal s) ≡ record { is_path = false; is_formed = true }
form-Literal s = search (rules, the_lemmas)

pub form-Chain : (es : List Expr) (ops : List Op) → form (e.Chain es ops) ≡ record { is_path = false; is_formed = links (length (map form es)) ops && list_all (λ f. f.is_formed) (map form es) }
form-Chain es ops = search (rules, the_lemmas)

pub form-Apply : (o : Op) (es : List Expr) → form (e.Apply o es) ≡ record { is_path = false; is_formed = applies o (map form es) && list_all (λ f. f.is_formed) (map form es) }
form-Apply o es = search (rules, the_lemmas)

pub formed-step : (a : Axis) (t : NodeTest) (es : List Expr) → is_formed_step (roll-Step (record { axis = a; test = t; tests = es })) ≡ list_all (λ f. f.is_formed) (map form es)
formed-step a t es = search (rules, the_lemmas)

pub formed-path : (b : Bool) (ss : List Step) → is_formed_path (roll-XPath (record { absolute = b; steps = ss })) ≡ list_all (λ s. s) (map is_formed_step ss)
formed-path b ss = search (rules, the_lemmas)

-- ---- how deep it nests

pub depth-Path : (p : XPath) → depth (e.Path p) ≡ path_depth p
depth-Path p = search (rules, the_lemmas)

pub depth-Number : (z : ℤ) → depth (e.Number z) ≡ 0
depth-Number z = search (rules, the_lemmas)

pub depth-Literal : (s : List ℕ) → depth (e.Literal s) ≡ 0
depth-Literal s = search (rules, the_lemmas)

pub depth-Chain : (es : List Expr) (ops : List Op) → depth (e.Chain es ops) ≡ deepest (map depth es)
depth-Chain es ops = search (rules, the_lemmas)

pub depth-Apply : (o : Op) (es : List Expr) → depth (e.Apply o es) ≡ suc (deepest (map depth es))
depth-Apply o es = search (rules, the_lemmas)

pub depth-step : (a : Axis) (t : NodeTest) (es : List Expr) → step_depth (roll-Step (record { axis = a; test = t; tests = es })) ≡ deepest (map suc (map depth es))
depth-step a t es = search (rules, the_lemmas)

pub depth-path : (b : Bool) (ss : List Step) → path_depth (roll-XPath (record { absolute = b; steps = ss })) ≡ deepest (map step_depth ss)
depth-path b ss = search (rules, the_lemmas)

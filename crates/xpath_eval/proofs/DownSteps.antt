-- Steps to all from one position down, and from there to the children of each.
use Rattle.std.proofs.Common.{◌≡◌, ◌+◌, ℕ, List, [], ◌∷◌, ◌++◌, take, drop, refl, sym, ap, subst, ◌∙◌, append-nil, arith}
use Rattle.std.specs.List.{filter}
use Rattle.std.proofs.lemmas.List.{take-append-drop}
use Rattle.tree_model.specs.Tree.{Tree}
use Rattle.tree_model.specs.ValidTrees.{IsValidTree}
use Rattle.path_model.specs.declared.path.Axis.{Axis}
use Rattle.path_model.specs.declared.path.Axis.TheVariants.{Child, DescendantOrSelf}
use Rattle.path_model.specs.declared.path.NodeTest.{NodeTest}
use Rattle.path_model.specs.declared.path.NodeTest.TheVariants.{Node}
use Rattle.path_model.specs.declared.path.Step.{Step, out-Step}
use Rattle.path_model.specs.AxisPrograms.{along, children}
use Rattle.path_model.specs.Evaluation.{in_order, filtered}
use Rattle.path_model.specs.Paths.{Exprs}
use Rattle.path_model.specs.PlainPaths.{plain_row}
use Rattle.path_model.specs.Positions.{Position, a_node, an_attribute, passes}
use Rattle.path_model.specs.Programs.{Look, Program, ends, and_then, answer, looked, gathered}
use Rattle.path_model.proofs.ProgramAnswers.{answer-and_then}
use Rattle.xpath_axes.specs.Runs.{HasRun}
use Rattle.xpath_axes.specs.Wholes.{IsWhole}
use Rattle.xpath_axes.proofs.RowsAhead.{whole_rises}
use Rattle.xpath_axes.proofs.Running.{looked-and_then}
use Rattle.xpath_eval.specs.inside.Steps.{from_node, LeadsDown}
use Rattle.xpath_eval.proofs.Orders.{rising_is_ordered}

pub all_pass : (ns : List Position) → filter (passes DescendantOrSelf Node) ns ≡ ns
all_pass [] = refl
all_pass (a_node l r ∷ ns) = ap (λ (ms : List Position). a_node l r ∷ ms) (all_pass ns)
all_pass (an_attribute l n v ∷ ns) = ap (λ (ms : List Position). an_attribute l n v ∷ ms) (all_pass ns)

module _ (t : Tree) (valid : IsValidTree t) where
  -- what a step along an axis from one position gives
  abbrev stepped : Position → Axis → NodeTest → Exprs → List Position
  stepped n a z es = answer t (filtered es (filter (passes a z) (answer t (along a z n))))

  pub whole_after : (s : Step) (ns : List Position) → LeadsDown s ns → IsWhole t (in_order (answer t (gathered (from_node s) ns)))
  whole_after s [] h = let e = h.alone in absurd (omega (arith, e))
  whole_after s (n ∷ m ∷ ns) h = let e = h.alone in absurd (omega (arith, e))
  whole_after s (n ∷ []) h =
      let z = out-Step s in
      let whole : List Position = answer t (along DescendantOrSelf Node n) in
      let keep : List Position → Program (List Position) = λ ms. filtered (plain_row z.tests) (filter (passes z.axis z.test) ms) in
      let all : answer t (gathered (from_node s) (n ∷ [])) ≡ whole =
      answer-and_then t (from_node s n) (λ ys. and_then (ends []) (λ zs. ends (ys ++ zs)))
      ∙ append-nil (answer t (from_node s n))
      ∙ answer-and_then t (along z.axis z.test n) keep
      ∙ (λ i. stepped n (h.axis i) (h.test i) (h.tests i))
      ∙ all_pass whole in
      (n, ap in_order all ∙ sym (rising_is_ordered whole (whole_rises t valid n)))

  -- the children of a node, taken from what was seen
  pub row_taken : {S W : Type 0} (reads : S → ℕ) (saw : Tree → W → List Look → W → Type 0) (z : NodeTest) (n : Position) (found : List Position) (s : S) (w w' : W)
      → found ≡ filter (passes Child z) (answer t (children n)) → (saw t w [] w → saw t w (looked t (children n)) w')
      → HasRun reads saw t (and_then (along Child z n) (λ ms. ends (filter (passes Child z) ms))) found s w s w'
  row_taken reads saw z n found s w w' e seen = record {
    run = λ known. record {
      is = e ∙ sym (answer-and_then t (children n) (λ ms. ends (filter (passes Child z) ms)));
      went = record {
        noted = subst (λ os. saw t w os w') (sym (append-nil (looked t (children n))) ∙ sym (looked-and_then t (children n) (λ ms. ends (filter (passes Child z) ms)))) (seen known);
        read = omega arith;
      };
    };
  }

-- an item of a list, with those before and behind it
pub in_its_place : {A : Type 0} (xs : List A) (i : ℕ) (x : A) → drop i xs ≡ x ∷ drop (i + 1) xs → xs ≡ take i xs ++ x ∷ drop (i + 1) xs
in_its_place xs i x e = sym (take-append-drop i xs) ∙ ap (λ ys. take i xs ++ ys) e

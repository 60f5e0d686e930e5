-- Predicates that hang on no position.
use Rattle.std.proofs.Common.{◌≡◌, Bool, true, List, [], ◌∷◌, map, refl, sym, ap, subst, ◌∙◌, true≢false, rules}
use Rattle.tree_model.specs.Tree.{Tree}
use Rattle.path_model.specs.declared.path.CompareOp.{CompareOp}
use Rattle.path_model.specs.declared.path.CompareOp.TheVariants as by
use Rattle.path_model.specs.declared.path.Expr as declared
use Rattle.path_model.specs.declared.path.Expr.{the_lemmas}
use Rattle.path_model.specs.declared.path.Expr.TheVariants.{Chain}
use Rattle.path_model.specs.declared.path.Op.{Op}
use Rattle.path_model.specs.declared.path.Op.TheVariants as op
use Rattle.path_model.specs.Evaluation.{by_strings, compared, start, taken, value, with_strings}
use Rattle.path_model.specs.Functions.{Value, Context, first_of, keeps, second_of}
use Rattle.path_model.specs.Paths.{Expr, path, Steps, binary}
use Rattle.path_model.specs.PlainPaths.{plain, chained}
use Rattle.path_model.specs.Programs.{Program, ends, and_then, answer}
use Rattle.path_model.specs.Values.{nodes, text, flag, truth, compare}
use Rattle.path_model.specs.Values as values
use Rattle.path_model.proofs.ProgramAnswers.{answer-and_then}
use Rattle.xpath_eval.specs.inside.Walks.{alone, is_comparison, IsFree, IsSimple}

pub free_path : (b : Bool) (ss : Steps) → IsFree (path b ss)
free_path b ss = record {
  same = λ c. refl;
  whole = λ t c p.
      let found : Program (List _) = and_then (start b c.at) (λ ns. taken ss ns) in
      let e : answer t (value (path b ss) c) ≡ nodes (answer t found) = answer-and_then t found (λ ns. ends (nodes ns)) in
      ap (λ v. keeps v p) e ∙ sym (ap truth e);
}

-- ---- comparisons

-- what is answered is a flag
record IsFlag (t : Tree) (p : Program Value) : Type 0 where
  flagged : Bool
  is : answer t p ≡ flag flagged

module _ (t : Tree) (o : CompareOp) where
  by_texts : (v u : Value) → IsFlag t (by_strings o v u)
  by_texts v u = record {
    flagged = compare o (answer t (with_strings v)) (answer t (with_strings u));
    is =
        answer-and_then t (with_strings v) (λ x. and_then (with_strings u) (λ y. ends (flag (compare o x y))))
        ∙ answer-and_then t (with_strings u) (λ y. ends (flag (compare o (answer t (with_strings v)) y)));
  }

  flag_of : (v u : Value) → IsFlag t (compared o v u)
  flag_of (nodes ns) (nodes ms) = by_texts (nodes ns) (nodes ms)
  flag_of (nodes ns) (values.number n) = by_texts (nodes ns) (values.number n)
  flag_of (nodes ns) (text s) = by_texts (nodes ns) (text s)
  flag_of (nodes ns) (flag b) = record { flagged = _; is = refl }
  flag_of (flag b) (nodes ms) = record { flagged = _; is = refl }
  flag_of (values.number n) u = by_texts (values.number n) u
  flag_of (text s) u = by_texts (text s) u
  flag_of (flag b) (values.number n) = by_texts (flag b) (values.number n)
  flag_of (flag b) (text s) = by_texts (flag b) (text s)
  flag_of (flag b) (flag d) = by_texts (flag b) (flag d)

-- the values of two operands
abbrev pair : Program Value → Program Value → Program (List Value)
pair p q = and_then p (λ v. and_then (and_then q (λ u. and_then (ends []) (λ vs. ends (u ∷ vs)))) (λ vs. ends (v ∷ vs)))

abbrev comparing : CompareOp → Expr → Expr → Context → Program Value
comparing o a b c = and_then (pair (value a c) (value b c)) (λ vs. compared o (first_of vs) (second_of vs))

free_by : (o : CompareOp) (a b e : Expr) → IsSimple a → IsSimple b → ((c : Context) → value e c ≡ comparing o a b c) → IsFree e
free_by o a b e ha hb is = record {
  same = λ c. is c ∙ (λ i. and_then (pair (ha c i) (hb c i)) (λ vs. compared o (first_of vs) (second_of vs))) ∙ sym (is (alone c.at));
  whole = λ t c p.
      let both : Program (List Value) = pair (value a c) (value b c) in
      let vs = answer t both in
      let f : IsFlag t (compared o (first_of vs) (second_of vs)) = flag_of t o (first_of vs) (second_of vs) in
      let e : answer t (value e c) ≡ flag f.flagged = ap (answer t) (is c) ∙ answer-and_then t both (λ vs. compared o (first_of vs) (second_of vs)) ∙ f.is in
      ap (λ v. keeps v p) e ∙ sym (ap truth e);
}

pub free_comparison : (o : Op) (a b : Expr) → is_comparison o ≡ true → IsSimple a → IsSimple b → IsFree (binary o a b)
free_comparison op.Eq a b e ha hb = free_by by.Eq a b (binary op.Eq a b) ha hb (λ c. refl)
free_comparison op.Ne a b e ha hb = free_by by.Ne a b (binary op.Ne a b) ha hb (λ c. refl)
free_comparison op.Lt a b e ha hb = free_by by.Lt a b (binary op.Lt a b) ha hb (λ c. refl)
free_comparison op.Le a b e ha hb = free_by by.Le a b (binary op.Le a b) ha hb (λ c. refl)
free_comparison op.Gt a b e ha hb = free_by by.Gt a b (binary op.Gt a b) ha hb (λ c. refl)
free_comparison op.Ge a b e ha hb = free_by by.Ge a b (binary op.Ge a b) ha hb (λ c. refl)
free_comparison op.Or a b e ha hb = absurd (true≢false (sym e))
free_comparison op.And a b e ha hb = absurd (true≢false (sym e))
free_comparison op.Add a b e ha hb = absurd (true≢false (sym e))
free_comparison op.Sub a b e ha hb = absurd (true≢false (sym e))
free_comparison op.Mul a b e ha hb = absurd (true≢false (sym e))
free_comparison op.Negate a b e ha hb = absurd (true≢false (sym e))
free_comparison op.Position a b e ha hb = absurd (true≢false (sym e))
free_comparison op.Last a b e ha hb = absurd (true≢false (sym e))
free_comparison op.Count a b e ha hb = absurd (true≢false (sym e))
free_comparison op.Sum a b e ha hb = absurd (true≢false (sym e))
free_comparison op.NameOf a b e ha hb = absurd (true≢false (sym e))
free_comparison op.StringOf a b e ha hb = absurd (true≢false (sym e))
free_comparison op.Concat a b e ha hb = absurd (true≢false (sym e))
free_comparison op.StartsWith a b e ha hb = absurd (true≢false (sym e))
free_comparison op.Contains a b e ha hb = absurd (true≢false (sym e))
free_comparison op.SubstringBefore a b e ha hb = absurd (true≢false (sym e))
free_comparison op.SubstringAfter a b e ha hb = absurd (true≢false (sym e))
free_comparison op.Substring a b e ha hb = absurd (true≢false (sym e))
free_comparison op.StringLength a b e ha hb = absurd (true≢false (sym e))
free_comparison op.NormalizeSpace a b e ha hb = absurd (true≢false (sym e))
free_comparison op.BooleanOf a b e ha hb = absurd (true≢false (sym e))
free_comparison op.Not a b e ha hb = absurd (true≢false (sym e))
free_comparison op.TrueOf a b e ha hb = absurd (true≢false (sym e))
free_comparison op.FalseOf a b e ha hb = absurd (true≢false (sym e))
free_comparison op.NumberOf a b e ha hb = absurd (true≢false (sym e))

-- ---- as the program has them

pub chain_opened : (es : List declared.Expr) (os : List Op) → plain (Chain es os) ≡ chained (map plain es) os
chain_opened es os = search (rules, the_lemmas)

pub chain_free : (e : declared.Expr) (es xs : List declared.Expr) (os ys : List Op) → e ≡ Chain es os → xs ≡ es → ys ≡ os → IsFree (chained (map plain xs) ys) → IsFree (plain e)
chain_free e es xs os ys is a b free = subst IsFree (sym (ap plain is ∙ chain_opened es os ∙ (λ i. chained (map plain (sym a i)) (sym b i)))) free

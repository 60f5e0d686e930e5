-- What is kept of an evaluation, and where it is answered.
use Rattle.std.proofs.Common.{◌≡◌, ℕ, Bool, true, List, [], ◌∷◌, ◌++◌, append-nil, sym, ap, subst, ◌∙◌, arith}
use Rattle.std.specs.List.{All, IsAmong}
use Rattle.std.proofs.lemmas.List.Elements.{All-weaker}
use Rattle.tree_model.specs.Tree.{Tree}
use Rattle.path_model.specs.declared.path.Expr as declared
use Rattle.path_model.specs.Evaluation.{taken, value}
use Rattle.path_model.specs.Functions.{Context, keeps}
use Rattle.path_model.specs.Paths.{Expr, path, Steps}
use Rattle.path_model.specs.PlainPaths.{plain}
use Rattle.path_model.specs.Positions.{Position}
use Rattle.path_model.specs.Programs.{at_node, Look, Program, ends, looks, and_then, answer, looked}
use Rattle.path_model.specs.Values.{nodes, truth}
use Rattle.path_model.proofs.ProgramAnswers.{answer-and_then}
use Rattle.xpath_axes.specs.Kept.{holds_at, IsKept}
use Rattle.xpath_axes.specs.Runs.{HasRun}
use Rattle.xpath_axes.proofs.Running.{looked-and_then}
use Rattle.xpath_axes.specs.Positions as position
use Rattle.xpath_eval.specs.declared.memo.Kept.{Kept}
use Rattle.xpath_eval.specs.inside.Memos.{AreAlike, HangsOnDocument, IsAt, IsNoted, IsRightAt}
use Rattle.xpath_eval.specs.inside.Walks.{alone, IsFree}
use Rattle.xpath_eval.proofs.FreeTests.{free_path}

-- ---- on what a predicate hangs

looked_alone : {A B : Type 0} (t : Tree) (p : Program A) (f : A → B) → looked t (and_then p (λ x. ends (f x))) ≡ looked t p
looked_alone t p f = looked-and_then t p (λ x. ends (f x)) ∙ append-nil (looked t p)

-- a context
abbrev there : Position → ℕ → ℕ → Context
there n p size = record { at = n; proximity = p; size = size }

alike_by : (e : Expr) (n m : Position) (p size q most : ℕ) → value e (there n p size) ≡ value e (there m q most)
    → ((t : Tree) → keeps (answer t (value e (there n p size))) p ≡ keeps (answer t (value e (there m q most))) q) → AreAlike e n p size m q most
alike_by e n m p size q most same keep = record {
  answers = λ t. answer-and_then t (value e (there n p size)) (λ v. ends (keeps v p)) ∙ keep t ∙ sym (answer-and_then t (value e (there m q most)) (λ v. ends (keeps v q)));
  looks = λ t. looked_alone t (value e (there n p size)) (λ v. keeps v p) ∙ ap (looked t) same ∙ sym (looked_alone t (value e (there m q most)) (λ v. keeps v q));
}

-- a test without position at one node
pub free_alike : (e : Expr) → IsFree e → (n m : Position) (p size q most : ℕ) → n ≡ m → AreAlike e n p size m q most
free_alike e f n m p size q most is =
    let same : value e (there n p size) ≡ value e (there m q most) = f.same (there n p size) ∙ ap (λ k. value e (alone k)) is ∙ sym (f.same (there m q most)) in
    alike_by e n m p size q most same (λ t. f.whole t (there n p size) p ∙ ap (λ v. truth (answer t v)) same ∙ sym (f.whole t (there m q most) q))

-- any test at one place of one node
pub same_alike : (e : Expr) (n m : Position) (p size q most : ℕ) → n ≡ m → p ≡ q → size ≡ most → AreAlike e n p size m q most
same_alike e n m p size q most is one all =
    let same : holds_at e n p size ≡ holds_at e m q most = λ i. holds_at e (is i) (one i) (all i) in
    record { answers = λ t. ap (answer t) same; looks = λ t. ap (looked t) same }

-- a path from the document
pub document_alike : (ss : Steps) → HangsOnDocument (path true ss)
document_alike ss n m p size q most is =
    let f = free_path true ss in
    let same : value (path true ss) (there n p size) ≡ value (path true ss) (there m q most) =
    ap (λ l. and_then (and_then (looks (at_node l) ends) (λ ns. taken ss ns)) (λ ns. ends (nodes ns))) is in
    alike_by (path true ss) n m p size q most same (λ t. f.whole t (there n p size) p ∙ ap (λ v. truth (answer t v)) same ∙ sym (f.whole t (there m q most) q))

-- ---- places in a list

head_is : {A : Type 0} {x y : A} {xs ys : List A} → x ∷ xs ≡ y ∷ ys → x ≡ y
head_is {x = x} e = ap (λ zs. first_or x zs) e
  where
    first_or : {A : Type 0} → A → List A → A
    first_or x [] = x
    first_or x (y ∷ ys) = y

-- one predicate stands at a place
pub one_there : (tests : List declared.Expr) (i : ℕ) (e f : Expr) → IsAt tests i e → IsAt tests i f → e ≡ f
one_there tests i e f a b = sym a.2 ∙ ap plain (head_is (sym a.1 ∙ b.1)) ∙ b.2

pub none_kept : {A : Type 0} (P : A → Type 0) (xs : List A) → xs ≡ [] → All P xs
none_kept P xs e = subst (All P) (sym e) (λ k d h. absurd (omega (arith, h)))

-- ---- what is kept is right

module _ {W : Type 0} (saw : W → List Look → W → Type 0) (t : Tree) where
  -- with more looks noted
  pub rights_stay : ((x y z : W) (os ps : List Look) → saw x os y → saw y ps z → saw z os z) → (tests : List declared.Expr) (ks : List Kept) (w w' : W) (ps : List Look)
      → saw w ps w' → All (IsRightAt saw t tests w) ks → All (IsRightAt saw t tests w') ks
  rights_stay again tests ks w w' ps seen all =
      All-weaker (IsRightAt saw t tests w) (IsRightAt saw t tests w') (λ k h e stands.
      let it = h e stands in
      record { right = it.right; noted = again w w w' (looked t (holds_at e (position.plain k.at) k.proximity k.size)) ps it.noted seen }) ks all

  -- with one more kept
  pub one_right : (tests : List declared.Expr) (w : W) (k : Kept) (e : Expr) → IsAt tests k.test e → IsNoted saw t (holds_at e (position.plain k.at) k.proximity k.size) k.holds w
      → IsRightAt saw t tests w k
  one_right tests w k e stands it f there = subst (λ z. IsNoted saw t (holds_at z (position.plain k.at) k.proximity k.size) k.holds w) (one_there tests k.test e f stands there) it

  -- what is kept of a node that is alike
  pub is_recalled : (tests : List declared.Expr) (ks : List Kept) (w : W) (k : Kept) (e : Expr) (m : Position) (q most : ℕ)
      → All (IsRightAt saw t tests w) ks → IsAmong ks k → IsAt tests k.test e → AreAlike e (position.plain k.at) k.proximity k.size m q most
      → IsNoted saw t (holds_at e m q most) k.holds w
  is_recalled tests ks w k e m q most all among stands alike =
      let it = subst (IsRightAt saw t tests w) (sym among.1.1) (all among.0 k among.1.0) e stands in
      record { right = it.right ∙ alike.answers t; noted = subst (λ os. saw w os w) (alike.looks t) it.noted }

-- ---- runs

module _ {S W : Type 0} (reads : S → ℕ) (saw : Tree → W → List Look → W → Type 0) (t : Tree) where
  module _ (nothing : (t : Tree) (x y : W) (os : List Look) → saw t x os y → saw t y [] y)
      (further : (t : Tree) (x y z : W) (os ps : List Look) → saw t x os y → saw t y ps z → saw t x (os ++ ps) z)
      (again : (t : Tree) (x y : W) (os : List Look) → saw t x os y → saw t y os y) where
    -- what was found is kept
    pub then_kept : (p : Program Bool) (b : Bool) {s s' : S} {w w' w'' : W} → HasRun reads saw t p b s w s' w' → (saw t w' [] w' → IsKept saw t w' p b → saw t w' [] w'')
        → HasRun reads saw t p b s w s' w''
    then_kept p b {w = w} {w' = w'} {w'' = w''} h keep = record {
      run = λ known.
          let it = h.run known in
          let seen = it.went.noted in
          let now = keep (nothing t w w' (looked t p) seen) (record { right = it.is; noted = again t w w' (looked t p) seen }) in
          record { is = it.is; went = record { noted = subst (λ os. saw t w os w'') (append-nil (looked t p)) (further t w w' w'' (looked t p) [] seen now); read = it.went.read } };
    }

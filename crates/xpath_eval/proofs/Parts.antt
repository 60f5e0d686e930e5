-- Parts of programs that are run one after another.
use Rattle.std.proofs.Common.{◌≡◌, ℕ, List, [], ◌∷◌, ◌++◌, drop, Option, Result, Ok, Err, refl, sym, subst, ◌∙◌}
use Rattle.tree_model.specs.Entries.{Entries}
use Rattle.tree_model.specs.Tree.{Tree}
use Rattle.node_seq.specs.Trees.{OnTree, StandsFor}
use Rattle.tree_model.specs.declared.record.Record.TheVariants.{Document, Element, Text, Attr}
use Rattle.path_model.specs.Evaluation.{with_first, numbers_of, part}
use Rattle.path_model.specs.Functions.{Value, first_of, second_of, part_of}
use Rattle.path_model.specs.Meaning.{joined_texts}
use Rattle.path_model.specs.Numbers.{Num}
use Rattle.path_model.specs.Positions.{Position, a_node, an_attribute}
use Rattle.path_model.specs.Programs.{Look, Program, ends, and_then, gathered}
use Rattle.path_model.specs.Values.{text, text_in, number_in}
use Rattle.xpath_axes.specs.Runs.{HasRun}
use Rattle.xpath_axes.proofs.Running.{and_then-and_then, each_begins, left_is, IsLeft, begins, goes, ended, last}
use Rattle.xpath_eval.specs.inside.Texts.{data_of, as_text, as_number}

-- a map that is unchanged stands for the same tree
pub later : (was now : Option Entries) (t : Tree) → now ≡ was → StandsFor was t → StandsFor now t
later was now t e s = record { valid = s.valid; map = e ∙ s.map }

-- ---- texts

pub joined_next : (n : Position) (ns : List Position) → joined_texts (n ∷ ns) ≡ data_of n ++ joined_texts ns
joined_next (a_node l Document) ns = refl
joined_next (a_node l (Element m)) ns = refl
joined_next (a_node l (Text d)) ns = refl
joined_next (a_node l (Attr v)) ns = refl
joined_next (an_attribute l n v) ns = refl

pub one_text : (v : Value) → and_then (as_text v) (λ s. ends (s ∷ [])) ≡ and_then (with_first v) (λ x. ends (text_in x ∷ []))
one_text v = and_then-and_then (with_first v) (λ x. ends (text_in x)) (λ s. ends (s ∷ []))

pub one_number : (v : Value) → and_then (as_number v) (λ n. ends (n ∷ [])) ≡ and_then (with_first v) (λ x. ends (number_in x ∷ []))
one_number v = and_then-and_then (with_first v) (λ x. ends (number_in x)) (λ n. ends (n ∷ []))

pub two_numbers : {A : Type 0} (g : Num → Num → A) (a b : Value)
    → and_then (as_number a) (λ m. and_then (as_number b) (λ n. ends (g m n))) ≡ and_then (with_first a) (λ x. and_then (with_first b) (λ y. ends (g (number_in x) (number_in y))))
two_numbers g a b =
    and_then-and_then (with_first a) (λ x. ends (number_in x)) (λ m. and_then (as_number b) (λ n. ends (g m n)))
    ∙ (λ i. and_then (with_first a) (λ x. and_then-and_then (with_first b) (λ y. ends (number_in y)) (λ n. ends (g (number_in x) n)) i))

pub two_texts : {A : Type 0} (g : List ℕ → List ℕ → A) (a b : Value)
    → and_then (as_text a) (λ s. and_then (as_text b) (λ p. ends (g s p))) ≡ and_then (with_first a) (λ x. and_then (with_first b) (λ y. ends (g (text_in x) (text_in y))))
two_texts g a b =
    and_then-and_then (with_first a) (λ x. ends (text_in x)) (λ s. and_then (as_text b) (λ p. ends (g s p)))
    ∙ (λ i. and_then (with_first a) (λ x. and_then-and_then (with_first b) (λ y. ends (text_in y)) (λ p. ends (g (text_in x) p)) i))

pub one_in_number : {A : Type 0} (g : Num → A) (a : Value) → and_then (as_number a) (λ n. ends (g n)) ≡ and_then (with_first a) (λ x. ends (g (number_in x)))
one_in_number g a = and_then-and_then (with_first a) (λ x. ends (number_in x)) (λ n. ends (g n))

-- `substring`, by the string and the numbers of its operands
pub part_is : (vs : List Value)
    → and_then (as_text (first_of vs)) (λ s. and_then (as_number (second_of vs)) (λ n. and_then (numbers_of (drop 2 vs)) (λ zs. ends (text (part_of s n zs))))) ≡ part vs
part_is vs =
    and_then-and_then (with_first (first_of vs)) (λ x. ends (text_in x)) (λ s. and_then (as_number (second_of vs)) (λ n. and_then (numbers_of (drop 2 vs)) (λ zs. ends (text (part_of s n zs)))))
    ∙ (λ i. and_then (with_first (first_of vs)) (λ x. and_then-and_then (with_first (second_of vs)) (λ y. ends (number_in y)) (λ n. and_then (numbers_of (drop 2 vs)) (λ zs. ends (text (part_of (text_in x) n zs)))) i))

-- ---- runs

module _ {S W : Type 0} (reads : S → ℕ) (saw : Tree → W → List Look → W → Type 0) (t : Tree) where
  pub run_is : {A : Type 0} {p q : Program A} {a : A} {s s' : S} {w w' : W} → p ≡ q → HasRun reads saw t p a s w s' w' → HasRun reads saw t q a s w s' w'
  run_is {a = a} {s = s} {s' = s'} {w = w} {w' = w'} e h = subst (λ p. HasRun reads saw t p a s w s' w') e h

  pub answer_is : {A : Type 0} {p : Program A} {a b : A} {s s' : S} {w w' : W} → a ≡ b → HasRun reads saw t p a s w s' w' → HasRun reads saw t p b s w s' w'
  answer_is {p = p} {s = s} {s' = s'} {w = w} {w' = w'} e h = subst (λ a. HasRun reads saw t p a s w s' w') e h

  module _ (nothing : (t : Tree) (x y : W) (os : List Look) → saw t x os y → saw t y [] y)
      (further : (t : Tree) (x y z : W) (os ps : List Look) → saw t x os y → saw t y ps z → saw t x (os ++ ps) z) where
    -- a program, and what is made of its answer
    pub made_of : {A B : Type 0} (p : Program A) (g : A → B) {a : A} {s s' : S} {w w' : W} → HasRun reads saw t p a s w s' w' → HasRun reads saw t (and_then p (λ x. ends (g x))) (g a) s w s' w'
    made_of p g {s = s} {w = w} h = ended reads saw t nothing further (goes reads saw t nothing further p (λ x. ends (g x)) (begins reads saw t nothing further (and_then p (λ x. ends (g x))) s w) h)

    -- a program, and then one by its answer
    pub one_by_one : {A B : Type 0} (p : Program A) (f : A → Program B) {a : A} {b : B} {s s' s'' : S} {w w' w'' : W}
        → HasRun reads saw t p a s w s' w' → HasRun reads saw t (f a) b s' w' s'' w'' → HasRun reads saw t (and_then p f) b s w s'' w''
    one_by_one p f {s = s} {w = w} h g = last reads saw t nothing further (goes reads saw t nothing further p f (begins reads saw t nothing further (and_then p f) s w) h) g

    -- of a program for each item none was run yet
    pub each_starts : {A B : Type 0} (f : A → Program (List B)) (xs : List A) {so_far : List B} (s : S) (w : W) → so_far ≡ [] → IsLeft reads saw t (gathered f xs) (and_then (gathered f xs) (λ more. ends (so_far ++ more))) s w s w
    each_starts f xs s w e = left_is reads saw t (each_begins f xs ∙ (λ i. and_then (gathered f xs) (λ more. ends (sym e i ++ more)))) (begins reads saw t nothing further (gathered f xs) s w)

-- ---- results

module _ {A E : Type 0} where
  pub on_tree : (P Q : Tree → A → Type 0) (was now : Option Entries) (r : Result A E) → ((t : Tree) (a : A) → StandsFor was t → (StandsFor now t → P t a) → Q t a) → OnTree now r P → OnTree was r Q
  on_tree P Q was now (Ok a) f h = λ t s. f t a s (h t)
  on_tree P Q was now (Err e) f h = tt

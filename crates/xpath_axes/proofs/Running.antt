-- How a program is run piece by piece.
use Rattle.std.proofs.Common.{◌≡◌, ◌≤◌, ◌<◌, ◌+◌, ℕ, List, [], ◌∷◌, ◌++◌, length, drop, get_or, Option, Result, refl, sym, ap, subst, ◌∙◌, append_assoc, arith}
use Rattle.std.proofs.lemmas.List.{drop_more}
use Rattle.tree_model.specs.Entries.{Entries}
use Rattle.tree_model.specs.Tree.{Tree}
use Rattle.path_model.specs.Positions.{Position}
use Rattle.path_model.specs.Programs.{Look, seen, Program, ends, looks, and_then, answer, looked, gathered}
use Rattle.path_model.proofs.ProgramAnswers.{answer-and_then}
use Rattle.xpath_axes.specs.Runs.{reads_of, Went, IsRun, HasRun, Runs}

-- ---- programs

pub looked-and_then : {A B : Type 0} (t : Tree) (p : Program A) (f : A → Program B) → looked t (and_then p f) ≡ looked t p ++ looked t (f (answer t p))
looked-and_then t (ends a) f = refl
looked-and_then t (looks o k) f = ap (λ (os : List Look). o ∷ os) (looked-and_then t (k (seen t o)) f)

pub and_then-ends : {A : Type 0} (p : Program A) → and_then p ends ≡ p
and_then-ends (ends a) = refl
and_then-ends (looks o k) = λ i. looks o (λ s. and_then-ends (k s) i)

pub and_then-and_then : {A B C : Type 0} (p : Program A) (f : A → Program B) (g : B → Program C) → and_then (and_then p f) g ≡ and_then p (λ a. and_then (f a) g)
and_then-and_then (ends a) f g = refl
and_then-and_then (looks o k) f g = λ i. looks o (λ s. and_then-and_then (k s) f g i)

-- a program for each item, with what is there so far
pub each_begins : {A B : Type 0} (f : A → Program (List B)) (xs : List A) → gathered f xs ≡ and_then (gathered f xs) (λ more. ends ([] ++ more))
each_begins f xs = sym (and_then-ends (gathered f xs))

pub each_next : {A B : Type 0} (f : A → Program (List B)) (x : A) (xs : List A) (so_far : List B)
    → and_then (gathered f (x ∷ xs)) (λ more. ends (so_far ++ more)) ≡ and_then (f x) (λ ys. and_then (gathered f xs) (λ more. ends ((so_far ++ ys) ++ more)))
each_next f x xs so_far =
    and_then-and_then (f x) (λ ys. and_then (gathered f xs) (λ zs. ends (ys ++ zs))) (λ more. ends (so_far ++ more))
    ∙ (λ i. and_then (f x) (λ ys. and_then-and_then (gathered f xs) (λ zs. ends (ys ++ zs)) (λ more. ends (so_far ++ more)) i))
    ∙ (λ i. and_then (f x) (λ ys. and_then (gathered f xs) (λ zs. ends (sym (append_assoc so_far ys zs) i))))

-- ---- reads

pub reads-append : (t : Tree) (os ps : List Look) → reads_of t (os ++ ps) ≡ reads_of t os + reads_of t ps
reads-append t [] ps = omega arith
reads-append t (o ∷ os) ps = let more = reads-append t os ps in omega (arith, more)

-- ---- runs

module _ {S W : Type 0} (reads : S → ℕ) (saw : Tree → W → List Look → W → Type 0) (t : Tree) where
  -- the rest of a whole program is left: these looks were made
  pub record IsAhead {A : Type 0} (whole rest : Program A) (s : S) (w : W) (s' : S) (w' : W) : Type 0 where
    pub made : List Look
    pub answers : answer t whole ≡ answer t rest
    pub looks_at : looked t whole ≡ made ++ looked t rest
    pub went : Went reads saw t made s w s' w'

  -- a whole program has come so far that the rest of it is left, where what had been kept is right of the tree
  pub record IsLeft {A : Type 0} (whole rest : Program A) (s : S) (w : W) (s' : S) (w' : W) : Type 0 where
    pub so_far : saw t w [] w → IsAhead whole rest s w s' w'

  -- what is left is this
  pub left_is : {A : Type 0} {whole rest more : Program A} {s s' : S} {w w' : W} → rest ≡ more → IsLeft whole rest s w s' w' → IsLeft whole more s w s' w'
  left_is {whole = whole} {s = s} {s' = s'} {w = w} {w' = w'} e h = subst (λ p. IsLeft whole p s w s' w') e h

  -- a look was made
  pub look_run : (o : Look) (found : List Position) (s s' : S) (w w' : W) → found ≡ seen t o → (saw t w [] w → saw t w (o ∷ []) w') → reads s' ≤ reads s + (length (seen t o) + 1)
      → HasRun reads saw t (looks o ends) found s w s' w'
  look_run o found s s' w w' e n r = record { run = λ known. record { is = e; went = record { noted = n known; read = omega (arith, r) } } }

  module _ (nothing : (t : Tree) (x y : W) (os : List Look) → saw t x os y → saw t y [] y)
      (further : (t : Tree) (x y z : W) (os ps : List Look) → saw t x os y → saw t y ps z → saw t x (os ++ ps) z) where
    still : (s : S) (w : W) → saw t w [] w → Went reads saw t [] s w s w
    still s w known = record { noted = known; read = omega arith }

    -- what was kept is still right
    then_right : {os : List Look} {s s' : S} {w w' : W} → Went reads saw t os s w s' w' → saw t w' [] w'
    then_right {os} {w = w} {w' = w'} h = nothing t w w' os h.noted

    joins : {os ps : List Look} {s s' s'' : S} {w w' w'' : W} → Went reads saw t os s w s' w' → Went reads saw t ps s' w' s'' w'' → Went reads saw t (os ++ ps) s w s'' w''
    joins {os} {ps} {s} {s'} {s''} {w} {w'} {w''} h g = record {
      noted = further t w w' w'' os ps h.noted g.noted;
      read = let one = h.read in let two = g.read in let all = reads-append t os ps in omega (arith, one, two, all);
    }

    -- nothing was run yet
    pub begins : {A : Type 0} (p : Program A) (s : S) (w : W) → IsLeft p p s w s w
    begins p s w = record { so_far = λ known. record { made = []; answers = refl; looks_at = refl; went = still s w known } }

    -- nothing was to be run
    pub no_run : {A : Type 0} (a : A) (s : S) (w : W) → HasRun reads saw t (ends a) a s w s w
    no_run a s w = record { run = λ known. record { is = refl; went = still s w known } }

    goes_ahead : {A B : Type 0} {whole : Program B} (p : Program A) (f : A → Program B) {a : A} {s s' s'' : S} {w w' w'' : W}
        → IsAhead whole (and_then p f) s w s' w' → IsRun reads saw t p a s' w' s'' w'' → IsAhead whole (f a) s w s'' w''
    goes_ahead p f {a} h r = record {
      made = h.made ++ looked t p;
      answers = h.answers ∙ answer-and_then t p f ∙ ap (λ x. answer t (f x)) (sym r.is);
      looks_at = h.looks_at ∙ ap (λ (os : List Look). h.made ++ os) (looked-and_then t p f) ∙ sym (append_assoc h.made (looked t p) (looked t (f (answer t p))))
          ∙ ap (λ x. (h.made ++ looked t p) ++ looked t (f x)) (sym r.is);
      went = joins h.went r.went;
    }

    -- the first part of what is left was run
    pub goes : {A B : Type 0} {whole : Program B} (p : Program A) (f : A → Program B) {a : A} {s s' s'' : S} {w w' w'' : W}
        → IsLeft whole (and_then p f) s w s' w' → HasRun reads saw t p a s' w' s'' w'' → IsLeft whole (f a) s w s'' w''
    goes p f h r = record { so_far = λ known. let come = h.so_far known in goes_ahead p f come (r.run (then_right come.went)) }

    -- of a program for each item, that of the next one was run
    pub each_goes : {A B : Type 0} {whole : Program (List B)} (f : A → Program (List B)) (x : A) (rest : List A) (so_far : List B) {left : List A} {ys all : List B} {s s' s'' : S} {w w' w'' : W}
        → left ≡ x ∷ rest → all ≡ so_far ++ ys → IsLeft whole (and_then (gathered f left) (λ more. ends (so_far ++ more))) s w s' w' → HasRun reads saw t (f x) ys s' w' s'' w''
        → IsLeft whole (and_then (gathered f rest) (λ more. ends (all ++ more))) s w s'' w''
    each_goes f x rest so_far {left} {ys} {all} e z h r =
        left_is (λ i. and_then (gathered f rest) (λ more. ends (sym z i ++ more)))
        (goes (f x) (λ ys. and_then (gathered f rest) (λ more. ends ((so_far ++ ys) ++ more)))
        (left_is (ap (λ xs. and_then (gathered f xs) (λ more. ends (so_far ++ more))) e ∙ each_next f x rest so_far) h) r)

    ends_ahead : {A : Type 0} {whole p : Program A} {a : A} {s s' s'' : S} {w w' w'' : W} → IsAhead whole p s w s' w' → IsRun reads saw t p a s' w' s'' w'' → IsRun reads saw t whole a s w s'' w''
    ends_ahead {s = s} {s'' = s''} {w = w} {w'' = w''} h r =
        record { is = r.is ∙ sym h.answers; went = subst (λ os. Went reads saw t os s w s'' w'') (sym h.looks_at) (joins h.went r.went) }

    -- all that is left was run
    pub last : {A : Type 0} {whole p : Program A} {a : A} {s s' s'' : S} {w w' w'' : W}
        → IsLeft whole p s w s' w' → HasRun reads saw t p a s' w' s'' w'' → HasRun reads saw t whole a s w s'' w''
    last h r = record { run = λ known. let come = h.so_far known in ends_ahead come (r.run (then_right come.went)) }

    -- nothing is left
    pub ended : {A : Type 0} {whole : Program A} {a : A} {s s' : S} {w w' : W} → IsLeft whole (ends a) s w s' w' → HasRun reads saw t whole a s w s' w'
    ended {a = a} {s' = s'} {w' = w'} h = last h (no_run a s' w')

-- the same function of another spelling of its program
pub runs_as : {S W A R E : Type 0} (reads : S → ℕ) (saw : Tree → W → List Look → W → Type 0) (contents : S → Option Entries) {p q : Program A} (means : R → A) (s : S) (w : W) (result : Result R E) (s' : S) (w' : W)
    → p ≡ q → Runs reads saw contents p means s w result s' w' → Runs reads saw contents q means s w result s' w'
runs_as reads saw contents means s w result s' w' e h = subst (λ p. Runs reads saw contents p means s w result s' w') e h

-- of what is left of a list, the item that comes next
pub item_next : {A : Type 0} (xs : List A) (i : ℕ) (x : A) → i < length xs → x ≡ get_or xs i x → drop i xs ≡ x ∷ drop (i + 1) xs
item_next xs i x h e = drop_more xs i x h ∙ ap (λ y. y ∷ drop (i + 1) xs) (sym e)

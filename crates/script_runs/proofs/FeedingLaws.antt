-- How pieces of a script follow each other, for any machine.
use Rattle.std.proofs.Common.{◌≡◌, ℕ, suc, ◌+◌, true, false, cond, eqb, List, [], ◌∷◌, ◌++◌, length, refl, sym, ap, ◌∙◌, subst, arith, append_assoc, append-nil, length-append, add-zero}
use Rattle.std.specs.Prelude.{Option, Result, Ok, Err}
use Rattle.std.proofs.lemmas.Bool.{ne_eqb}
use Rattle.std.proofs.Math.Dec.{eqb-suc-zero}
use Rattle.outside_traits.specs.Bytes.{TookAllBut}
use Rattle.script_runs.specs.Lines.{ended, unended, last_line, AllShort}
use Rattle.script_runs.specs.Machine.{Machine}
use Rattle.script_runs.specs.Texts.{answers, state_after}
use Rattle.script_runs.specs.inside.Feeding.{Script, with_state, FedFrom, ComesFrom, Standing, IsInLine, brought, Fed, Overran}
use Rattle.script_runs.specs.declared.feeding.Stop.{Stop}
use Rattle.script_runs.specs.declared.feeding.Stop.TheVariants.{LineTooLong, WriteFault, Halted}
use Rattle.outside_traits.proofs.Laws.{took_nothing, took_more}

pub ended_on : (line a b : List ℕ) → ended line (a ++ b) ≡ ended line a ++ ended (unended line a) b
ended_on line [] b = refl
ended_on line (x ∷ a) b =
    elim (eqb x 10) as (λ v. cond v (line ∷ ended [] (a ++ b)) (ended (line ++ x ∷ []) (a ++ b)) ≡ cond v (line ∷ ended [] a) (ended (line ++ x ∷ []) a) ++ ended (cond v (unended [] a) (unended (line ++ x ∷ []) a)) b)
    [ true ↦ ap (λ t. line ∷ t) (ended_on [] a b) | false ↦ ended_on (line ++ x ∷ []) a b ]

pub unended_on : (line a b : List ℕ) → unended line (a ++ b) ≡ unended (unended line a) b
unended_on line [] b = refl
unended_on line (x ∷ a) b =
    elim (eqb x 10) as (λ v. cond v (unended [] (a ++ b)) (unended (line ++ x ∷ []) (a ++ b)) ≡ unended (cond v (unended [] a) (unended (line ++ x ∷ []) a)) b)
    [ true ↦ unended_on [] a b | false ↦ unended_on (line ++ x ∷ []) a b ]

pub short_on : (limit : ℕ) (xs ys : List (List ℕ)) → AllShort limit xs → AllShort limit ys → AllShort limit (xs ++ ys)
short_on limit [] ys p q = q
short_on limit (x ∷ xs) ys p q = (p.0, short_on limit xs ys p.1 q)

-- no line ends in bytes of one line
pub ended_in_line : (line bytes : List ℕ) → IsInLine bytes → ended line bytes ≡ []
ended_in_line line [] h = refl
ended_in_line line (x ∷ bytes) h = ap (λ v. cond v (line ∷ ended [] bytes) (ended (line ++ x ∷ []) bytes)) (ne_eqb x 10 h.0) ∙ ended_in_line (line ++ x ∷ []) bytes h.1

pub unended_in_line : (line bytes : List ℕ) → IsInLine bytes → unended line bytes ≡ line ++ bytes
unended_in_line line [] h = sym (append-nil line)
unended_in_line line (x ∷ bytes) h = ap (λ v. cond v (unended [] bytes) (unended (line ++ x ∷ []) bytes)) (ne_eqb x 10 h.0) ∙ unended_in_line (line ++ x ∷ []) bytes h.1 ∙ append_assoc line (x ∷ []) bytes

pub state_after_on : {M : Type 0} (m : Machine M) (s : m.State) (xs ys : List (List ℕ)) → state_after m s (xs ++ ys) ≡ state_after m (state_after m s xs) ys
state_after_on m s [] ys = refl
state_after_on m s (x ∷ xs) ys = state_after_on m (m.next s x) xs ys

pub answers_on : {M : Type 0} (m : Machine M) (s : m.State) (n : ℕ) (xs ys : List (List ℕ)) → answers m s n (xs ++ ys) ≡ answers m s n xs ++ answers m (state_after m s xs) (n + length xs) ys
answers_on m s n [] ys = ap (λ k. answers m s k ys) (sym (add-zero n))
answers_on m s n (x ∷ xs) ys =
    let count : n + 1 + length xs ≡ n + suc (length xs) = omega arith in
    ap (λ t. m.text s (n + 1) x ++ t) (answers_on m (m.next s x) (n + 1) xs ys ∙ ap (λ k. answers m (m.next s x) (n + 1) xs ++ answers m (state_after m (m.next s x) xs) k ys) count)
    ∙ sym (append_assoc (m.text s (n + 1) x) (answers m (m.next s x) (n + 1) xs) _)

module _ {M : Type 0} (m : Machine M) (limit : ℕ) where
  pub fed_none : (s : Standing m) (held : Option (List ℕ)) → Fed m limit s s held held []
  fed_none s held = record {
    state = refl;
    lines = sym (add-zero s.lines);
    unended = refl;
    short = tt;
    wrote = subst (λ t. TookAllBut held held t s.pending) (sym (append-nil s.pending)) (took_nothing held s.pending);
  }

  -- what the bytes `x` and then `y` bring
  pub brought_on : (a b : Standing m) (x y : List ℕ) → b.state ≡ state_after m a.state (ended a.unended x) → b.lines ≡ a.lines + length (ended a.unended x) → b.unended ≡ unended a.unended x → brought m a (x ++ y) ≡ brought m a x ++ brought m b y
  brought_on a b x y state lines line =
      ap (answers m a.state a.lines) (ended_on a.unended x y) ∙ answers_on m a.state a.lines (ended a.unended x) (ended (unended a.unended x) y) ∙ (λ i. brought m a x ++ answers m (sym state i) (sym lines i) (ended (sym line i) y))

  pub fed_on : (a b c : Standing m) (h i j : Option (List ℕ)) (x y : List ℕ) → Fed m limit a b h i x → Fed m limit b c i j y → Fed m limit a c h j (x ++ y)
  fed_on a b c h i j x y p q =
      let lines_are : ended a.unended x ++ ended b.unended y ≡ ended a.unended (x ++ y) = ap (λ l. ended a.unended x ++ ended l y) p.unended ∙ sym (ended_on a.unended x y) in
      record {
        state = q.state ∙ ap (λ s. state_after m s (ended b.unended y)) p.state ∙ sym (state_after_on m a.state (ended a.unended x) (ended b.unended y)) ∙ ap (state_after m a.state) lines_are;
        lines = omega (arith, p.lines, q.lines, length-append (ended a.unended x) (ended b.unended y), ap length lines_are);
        unended = q.unended ∙ ap (λ l. unended l y) p.unended ∙ sym (unended_on a.unended x y);
        short = subst (AllShort limit) lines_are (short_on limit _ _ p.short q.short);
        wrote = subst (λ t. TookAllBut h j t c.pending) (append_assoc a.pending (brought m a x) (brought m b y) ∙ ap (λ t. a.pending ++ t) (sym (brought_on a b x y p.state p.lines p.unended))) (took_more h i j _ b.pending (brought m b y) c.pending p.wrote q.wrote);
      }

  -- bytes of one line came
  pub fed_in_line : (old new : Standing m) (held : Option (List ℕ)) (part : List ℕ) → IsInLine part → new.state ≡ old.state → new.lines ≡ old.lines → new.unended ≡ old.unended ++ part → new.pending ≡ old.pending → Fed m limit old new held held part
  fed_in_line old new held part in_line state lines line pending =
      let none : ended old.unended part ≡ [] = ended_in_line old.unended part in_line in
      record {
        state = state ∙ ap (state_after m old.state) (sym none);
        lines = omega (arith, lines, ap length none);
        unended = line ∙ sym (unended_in_line old.unended part in_line);
        short = subst (AllShort limit) (sym none) tt;
        wrote = subst (λ t. TookAllBut held held t new.pending) (pending ∙ sym (append-nil old.pending) ∙ ap (λ ls. old.pending ++ answers m old.state old.lines ls) (sym none)) (took_nothing held new.pending);
      }

  -- the sink took what was pending
  pub fed_written : (old new : Standing m) (h i : Option (List ℕ)) → new.state ≡ old.state → new.lines ≡ old.lines → new.unended ≡ old.unended → TookAllBut h i old.pending new.pending → Fed m limit old new h i []
  fed_written old new h i state lines line wrote = record {
    state = state;
    lines = lines ∙ sym (add-zero old.lines);
    unended = line;
    short = tt;
    wrote = subst (λ t. TookAllBut h i t new.pending) (sym (append-nil old.pending)) wrote;
  }

  overran_on : (a b c : Standing m) (h i j : Option (List ℕ)) (x y : List ℕ) → Fed m limit a b h i x → Overran m limit b c i j y → Overran m limit a c h j (x ++ y)
  overran_on a b c h i j x y p q = record {
    done = x ++ q.done;
    part = q.part;
    more = q.more;
    cut = ap (λ t. x ++ t) q.cut ∙ sym (append_assoc x (q.done ++ q.part) q.more) ∙ ap (λ t. t ++ q.more) (sym (append_assoc x q.done q.part));
    fed = fed_on a b c h i j x q.done p q.fed;
    in_line = q.in_line;
    long = q.long;
  }

  overran_more : (a b : Standing m) (h i : Option (List ℕ)) (x y : List ℕ) → Overran m limit a b h i x → Overran m limit a b h i (x ++ y)
  overran_more a b h i x y q = record {
    done = q.done;
    part = q.part;
    more = q.more ++ y;
    cut = ap (λ t. t ++ y) q.cut ∙ append_assoc (q.done ++ q.part) q.more y;
    fed = q.fed;
    in_line = q.in_line;
    long = q.long;
  }

  -- the bytes x were taken, and then a step took y or stopped
  pub comes_on : (s : m.State) (a b c : Script M) (h i j : Option (List ℕ)) (x y : List ℕ) (r : Result (Unit {0}) Stop) (p : FedFrom m limit s a b h i x) → ComesFrom m limit p.0 b c i j y r → ComesFrom m limit s a c h j (x ++ y) r
  comes_on s a b c h i j x y (Ok u) p r = (r.0, r.1, fed_on (with_state m a s) (with_state m b p.0) (with_state m c r.0) h i j x y p.2 r.2)
  comes_on s a b c h i j x y (Err LineTooLong) p r = (r.0, r.1, overran_on (with_state m a s) (with_state m b p.0) (with_state m c r.0) h i j x y p.2 r.2)
  comes_on s a b c h i j x y (Err WriteFault) p r = tt
  comes_on s a b c h i j x y (Err (Halted halt)) p r = tt

  -- a step stopped within x, so it stopped within x and y
  pub comes_more : (s : m.State) (a b : Script M) (h i : Option (List ℕ)) (x y : List ℕ) (e : Stop) → ComesFrom m limit s a b h i x (Err e) → ComesFrom m limit s a b h i (x ++ y) (Err e)
  comes_more s a b h i x y LineTooLong q = (q.0, q.1, overran_more (with_state m a s) (with_state m b q.0) h i x y q.2)
  comes_more s a b h i x y WriteFault q = tt
  comes_more s a b h i x y (Halted halt) q = tt

pub ended_at_end : (line : List ℕ) → (line ≡ [] → ⊥) → ended line (10 ∷ []) ≡ last_line line
ended_at_end [] h = absurd (h refl)
ended_at_end (x ∷ line) h = refl

pub ended_at_once : (line : List ℕ) → line ≡ [] → ended line [] ≡ last_line line
ended_at_once line h = ap last_line (sym h)

pub empty_is : (line : List ℕ) → eqb (length line) 0 ≡ true → line ≡ []
empty_is [] h = refl
empty_is (x ∷ line) h = cc (eqb-suc-zero (length line))

pub empty_is_not : (line : List ℕ) → eqb (length line) 0 ≡ false → line ≡ [] → ⊥
empty_is_not [] h e = cc
empty_is_not (x ∷ line) h e = cc

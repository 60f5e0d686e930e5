-- What a pass keeps through its calls.
use Rattle.std.proofs.Common.{zero, suc, ◌≡◌, ℕ, Bool, true, false, ◌<◌, List, [], ◌∷◌, ◌||◌, length, replicate, set, sym, refl, ap, ◌∙◌, subst, arith, length-set, get_or-set_other, nat_lt}
use Rattle.std.specs.Prelude.{Option, Some, None, if◌then◌else◌}
use mathlib.Core.Logic.{dite}
use mathlib.Core.Option.{some, none}
use native.Mathlib.Decide.{ℕ_discrete}
use lib.ListN.{get_elem?}
use Rattle.std.proofs.lemmas.Bool.{true≢false}
use Rattle.std.proofs.lemmas.List.{length-replicate}
use Rattle.atomic_table.specs.Table.{Me, step, rest, opening, Allows, Final, Seen}
use Rattle.turn_lock.specs.declared.rule.Known.{Known}
use Rattle.turn_lock.specs.Turns.{has_number, HasSome, HasAll, no_numbers, only_number, longer, GoesOn, PassView}
use Rattle.turn_lock.specs.Steps.{Kept, founder, with_seen, without_turn, with_picked, left_over, cut_off, echo, joined, went_back, IsPass, freed}
use Rattle.turn_lock.proofs.Numbers.{within, merged_at, merged_none, merged_length, there_alone, all_there, or_left}
use Rattle.turn_lock.proofs.Passes.{same_there, longer_again}
use Rattle.turn_lock.proofs.StepsKept.{freeing, closing, beginning}

same_without : (a b : List Bool) (k : ℕ) → ((n : ℕ) → has_number a n ≡ has_number b n) → (n : ℕ) → has_number (set a k false) n ≡ has_number (set b k false) n
same_without a b k e n = dite (ℕ_discrete n k)
    (λ is. ap (has_number (set a k false)) is ∙ (gone a k ∙ sym (ap (has_number (set b k false)) is ∙ gone b k)))
    (λ ne. get_or-set_other a k n false false ne ∙ (e n ∙ sym (get_or-set_other b k n false false ne)))
  where
    gone : (b : List Bool) (k : ℕ) → has_number (set b k false) k ≡ false
    gone [] zero = refl
    gone [] (suc k) = refl
    gone (x ∷ xs) zero = refl
    gone (x ∷ xs) (suc k) = gone xs k

abbrev pub M : Type 0 → Type 0 → Type 0
M V E = Me (Option V) (Known E)

abbrev of_slot : {V : Type 0} → V → Option V → V
of_slot d (Some x) = x
of_slot d None = d

module _ {V E : Type 0} where
  pub number_fits : (numbers : List Bool) (m : M V E) (n : ℕ) → IsPass numbers m → has_number m.0.has n ≡ true → n < 65
  number_fits numbers m n p h = let l = within m.0.has n h in let e : length m.0.has ≡ 65 = p.1 in omega arith

  pub pass_cut : (numbers : List Bool) (m m' : M V E) (k : ℕ) → IsPass numbers m → m.0.turn ≡ false → HasSome (set m.0.has k false) → m' ≡ (left_over (with_picked k m.0), m.1) → IsPass (set numbers k false) m'
  pass_cut numbers m m' k p free some_left is = subst (IsPass (set numbers k false)) (sym is)
      (same_without numbers m.0.has k p.0, length-set m.0.has k false ∙ p.1, some_left, p.3, p.4)

  pub new_pass : (v : Known E) (m : M V E) (k : ℕ) → k < 65 → m ≡ (cut_off (with_picked k v), []) → IsPass (only_number k) m
  new_pass v m k l is = subst (IsPass (only_number k)) (sym is)
      ((λ n. refl), length-set no_numbers k true ∙ length-replicate 65 false, (k, there_alone k l), (λ _. refl), (λ t. absurd (true≢false (sym t))))

  pub pass_joined : (a b : List Bool) (c : List Bool) (m n m' : M V E) → IsPass a m → IsPass b n → ((k : ℕ) → has_number c k ≡ (has_number a k || has_number b k)) → m' ≡ (joined m.0 n.0, m.1) → IsPass c m'
  pass_joined a b c m n m' p q is e = let some_number = p.2 in subst (IsPass c) (sym e) (
    (λ k. is k ∙ (ap (λ x. x || has_number b k) (p.0 k) ∙ (ap (λ x. has_number m.0.has k || x) (q.0 k) ∙ sym (merged_at m.0.has n.0.has k)))),
    merged_length m.0.has n.0.has p.1 q.1,
    (some_number.0, merged_at m.0.has n.0.has some_number.0 ∙ or_left (has_number m.0.has some_number.0) (has_number n.0.has some_number.0) some_number.1),
    p.3,
    p.4,
  )

  pub pass_met : (numbers : List Bool) (m m' : M V E) (w : Known E) → IsPass numbers m → m' ≡ (joined m.0 (echo w), m.1) → IsPass numbers m'
  pass_met numbers m m' w p is = let e = merged_none m.0.has p.1 in subst (IsPass numbers) (sym is) (
    (λ n. p.0 n ∙ ap (λ b. has_number b n) (sym e)),
    ap length e ∙ p.1,
    subst HasSome (sym e) p.2,
    p.3,
    p.4,
  )

  pub pass_back : (numbers : List Bool) (m m' : M V E) (w : Known E) → IsPass numbers m → m' ≡ (went_back (joined m.0 (echo w)), m.1) → IsPass numbers m'
  pass_back numbers m m' w p is = subst (IsPass numbers) (sym is) p

  -- each was told of the other
  pub both_told : (p p' p2 q q' : M V E) → p' ≡ p → q' ≡ (joined q.0 (echo p.0), q.1) → p2 ≡ (joined p'.0 (echo q'.0), p'.1) → p2 ≡ (joined p.0 (echo (joined q.0 (echo p.0))), p.1)
  both_told p p' p2 q q' a b c = c ∙ (λ i. (joined (a i).0 (echo (b i).0), (a i).1))

  pub then_joined : (p p' p2 q q' : M V E) → p' ≡ p → q' ≡ (joined q.0 (echo p.0), q.1) → p2 ≡ (joined p'.0 q'.0, p'.1) → p2 ≡ (joined p.0 (joined q.0 (echo p.0)), p.1)
  then_joined p p' p2 q q' a b c = c ∙ (λ i. (joined (a i).0 (b i).0, (a i).1))

  pub had_all : (numbers : List Bool) (m m' : M V E) (w : Known E) → IsPass numbers m → m' ≡ (joined m.0 (echo w), m.1) → m'.0.has ≡ m'.0.had
  had_all numbers m m' w p is = ap (λ (x : M V E). x.0.has) is ∙ (merged_none m.0.has p.1 ∙ sym (ap (λ (x : M V E). x.0.had) is))

  pub founding : (m : M V E) (seen : List E) → m ≡ (founder (replicate 65 true) seen, []) → IsPass (replicate 65 true) m
  founding m seen is = subst (IsPass (replicate 65 true)) (sym is)
      ((λ n. refl), length-replicate 65 true, (0, all_there 0 (omega arith)), (λ _. refl), (λ t. absurd (true≢false (sym t))))

module _ {V E : Type 0} (entries : V → List E) (number : E → Option ℕ) where
  pub freeing_after : (slots : ℕ) → slots ≡ 1 → (id : ℕ) (after marked m : M V E) (y : V) → after ≡ (marked.0, (0, Some y) ∷ rest marked.1)
      → marked ≡ (with_seen (entries y) m.0, m.1) → m.1 ≡ (0, None) ∷ [] → m.0.turn ≡ true
      → Allows (Kept entries number) slots id after 0 (λ _. 0) (λ _. freed entries number (step slots 0 0 0 none) after 0)
  freeing_after slots single id after marked m y e1 e2 e3 t =
      let pair : List (ℕ × Option V) → List (ℕ × Option V) = λ l. (0, Some y) ∷ rest l in
      let whole : after ≡ (with_seen (entries y) m.0, (0, Some y) ∷ []) = e1 ∙ ((λ i. ((e2 i).0, pair (e2 i).1)) ∙ (λ i. (with_seen (entries y) m.0, pair (e3 i)))) in
      subst (λ (x : M V E). Allows (Kept entries number) slots id x 0 (λ _. 0) (λ _. freed entries number (step slots 0 0 0 none) x 0)) (sym whole)
      (freeing entries number slots single id (with_seen (entries y) m.0) y t refl)

  pub pass_given : (numbers : List Bool) (m marked back after : M V E) (y : V) (count : ℕ) → IsPass numbers m → m.0.turn ≡ true → marked ≡ (with_seen (entries y) m.0, m.1)
      → back ≡ (marked.0, (0, Some y) ∷ rest marked.1) → after ≡ (without_turn back.0, rest back.1) → count ≡ length (entries y) → IsPass numbers after × (count ≡ length after.0.seen)
  pass_given numbers m marked back after y count p t e1 e2 e3 is =
      let whole : after ≡ (without_turn (with_seen (entries y) m.0), rest m.1) = e3 ∙ ((λ i. (without_turn (e2 i).0, rest (e2 i).1)) ∙ (λ i. (without_turn (e1 i).0, rest (e1 i).1))) in
      subst (λ (x : M V E). IsPass numbers x × (count ≡ length x.0.seen)) (sym whole) ((p.0, p.1, p.2, (λ _. ap rest (p.4 t)), (λ u. absurd (true≢false (sym u)))), is)

  pub closes : (id : ℕ) (v : Known E) (ws : List ℕ) (xs : List (Option V)) (slot : Option V) → HasAll v.has → v.turn ≡ false → Final (Seen (Kept entries number) id v) ws xs
      → get_elem? xs 0 ≡ some slot → (x : V) × (slot ≡ Some x) × GoesOn number v.has v.seen (entries x)
  closes id v ws xs slot every free f at = let c = closing entries number f.0 f.1.0 id v f.1.1 every free in
      let there = f.4 0 (Some c.0) (ap (λ (l : List (mathlib.Core.Option.Option (Option V))). get_elem? l 0) c.1) in
      (c.0, same_there xs 0 slot (Some c.0) at there, c.2)

  pub closed_value : (x y : V) (seen : List E) (has : List Bool) → Some x ≡ Some y → GoesOn number has seen (entries x) → GoesOn number has seen (entries y)
  closed_value x y seen has e g = subst (λ (z : V). GoesOn number has seen (entries z)) (ap (of_slot x) e) g

  pub opens : (x : V) (count : ℕ) (slots : List (Option V)) (has : List Bool) (seen : List E) → slots ≡ Some x ∷ [] → has ≡ replicate 65 true → seen ≡ entries x → count ≡ length (entries x)
      → Kept entries number (opening (0 ∷ count ∷ 0 ∷ 0 ∷ 0 ∷ []) slots (founder has seen))
  opens x count slots has seen e f h is = subst (λ (z : List (Option V) × (List Bool × List E)). Kept entries number (opening (0 ∷ count ∷ 0 ∷ 0 ∷ 0 ∷ []) z.0 (founder z.1.0 z.1.1))) (λ i. (sym e i, (sym f i, sym h i)))
      (beginning entries number (replicate 65 true) x count (length-replicate 65 true) all_there is)

  -- what either had seen goes on to what the one has seen at the end
  pub either_goes : (p q p' q' after : M V E) (w : Known E) → w.seen ≡ longer p.0.seen q.0.seen → p' ≡ (joined p.0 w, p.1) → q' ≡ (joined q.0 (echo p.0), q.1) → after ≡ p'
      → GoesOn number p'.0.had p'.0.before p'.0.seen → GoesOn number q'.0.had q'.0.before q'.0.seen
      → (after.0.seen ≡ longer p.0.seen q.0.seen) × GoesOn number p.0.has p.0.seen (longer p.0.seen q.0.seen) × GoesOn number q.0.has q.0.seen (longer p.0.seen q.0.seen)
  either_goes p q p' q' after w both is is' last g h =
      let seen : p'.0.seen ≡ longer p.0.seen q.0.seen = ap (λ (x : M V E). x.0.seen) is ∙ (ap (λ (l : List E). longer l p.0.seen) both ∙ longer_again p.0.seen q.0.seen) in (
        ap (λ (x : M V E). x.0.seen) last ∙ seen,
        subst (λ (z : List Bool × (List E × List E)). GoesOn number z.0 z.1.0 z.1.1) (λ i. ((is i).0.had, ((is i).0.before, seen i))) g,
        subst (λ (z : List Bool × (List E × List E)). GoesOn number z.0 z.1.0 z.1.1) (λ i. ((is' i).0.had, ((is' i).0.before, (is' i).0.seen))) h,
      )

-- the clauses of a pass speak of views, and the steps of what the passes are
module _ {E : Type 0} (number : E → Option ℕ) (p p' q q' : PassView E) (is : p ≡ p') (is' : q ≡ q') where
  pub goes_on_seen : GoesOn number p.has p.seen (longer p.seen q.seen) → GoesOn number p'.has p'.seen (longer p'.seen q'.seen)
  goes_on_seen g = subst (λ (z : PassView E × PassView E). GoesOn number z.0.has z.0.seen (longer z.0.seen z.1.seen)) (λ i. (is i, is' i)) g

  pub other_goes_on_seen : GoesOn number q.has q.seen (longer p.seen q.seen) → GoesOn number q'.has q'.seen (longer p'.seen q'.seen)
  other_goes_on_seen g = subst (λ (z : PassView E × PassView E). GoesOn number z.1.has z.1.seen (longer z.0.seen z.1.seen)) (λ i. (is i, is' i)) g

module _ {E : Type 0} where
  longer_length_by : (b : Bool) (xs ys : List E) → (if b then length ys else length xs) ≡ length (if b then ys else xs)
  longer_length_by true xs ys = refl
  longer_length_by false xs ys = refl

  -- the count of the longer list, where each count is its list's
  pub counts_longer : (xs ys after : List E) (m n k : ℕ) → m ≡ length xs → n ≡ length ys → k ≡ (if nat_lt m n then n else m) → after ≡ longer xs ys → k ≡ length after
  counts_longer xs ys after m n k a b c is = c ∙ ((λ i. if nat_lt (a i) (b i) then b i else a i) ∙ (longer_length_by (nat_lt (length xs) (length ys)) xs ys ∙ ap length (sym is)))

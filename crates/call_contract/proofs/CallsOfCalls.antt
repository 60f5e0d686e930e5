-- Calls made of calls that keep the laws keep them.
use Rattle.std.proofs.Common.{◌≡◌, suc, Bool, true, false, if◌then◌else◌, List, [], ◌++◌, take, refl, sym, ap, subst, ◌∙◌, true≢false}
use Rattle.lock_resources.specs.declared.request.Request.{Request}
use Rattle.tree_model.specs.declared.reply.Reply.{Reply}
use Rattle.tree_model.specs.Tree.{Tree}
use Rattle.tree_model.specs.ValidTrees.{IsValidTree}
use Rattle.tree_model.specs.Outcomes.{is_refused}
use Rattle.tree_cells.specs.Cells.{Cell, value_at}
use Rattle.tree_cells.specs.Covers.{reads, writes, Agree, IsCoveredBy}
use Rattle.tree_cells.specs.Forms.{HasForm}
use Rattle.tree_cells.proofs.Agreement.{agree_left}
use Rattle.tree_cells.proofs.Coverage.{reads_right, written_is_read, covered_left, covered_right}
use Rattle.tree_cells.proofs.FormedRows.{formed_append}
use Rattle.call_contract.specs.Calls.{CallMeaning, CallLaws}
use Rattle.call_contract.specs.CallsOfCalls.{AreAskable, CoverOwn, asking, replaced, IsReplacement, replaced_meaning, FollowInForm, followed_meaning, TwoCalls, in_a_row, GoesOn, AreValid, CoverBoth, in_turn, FirstTellsSecond}
use Rattle.call_contract.proofs.NextRequests.{NextFrom, next_behind, next_replaced}
use Rattle.call_contract.proofs.Replay.{step_agrees}

-- trees that agree on what covers a list agree on it
agree_within : (gs hs : List Request) (t u : Tree) → IsCoveredBy gs hs → Agree hs t u → Agree gs t u
agree_within gs hs t u covers agree x on = agree x (covers.reading x on)

-- a cell that isn't covered for writing isn't by less
unwritten_within : (gs hs : List Request) → IsCoveredBy gs hs → (x : Cell) → writes hs x ≡ false → writes gs x ≡ false
unwritten_within gs hs covers x out = by (writes gs x) refl
  where
    by : (b : Bool) → writes gs x ≡ b → b ≡ false
    by false e = refl
    by true e = absurd (true≢false (sym (covers.writing x e) ∙ out))

module _ {C : Type 0} (is_valid : C → Type 0) (m : CallMeaning C) (laws : CallLaws C is_valid m) where
  -- under requests that cover its own
  pub asking_laws : (asks : C → Tree → List Request) → AreAskable is_valid asks → CoverOwn is_valid m asks → CallLaws C is_valid (asking asks m)
  asking_laws asks askable covers = record {
    form = askable.form;
    same_reply = λ c t u v w x agree. laws.same_reply c t u v w x (agree_within (m.requests c t) (asks c t) t u (covers c t v w) agree);
    same_written = λ c t u v w x agree y on. step_agrees is_valid m laws (asks c t) c t u v w x agree (covers c t v w) y (written_is_read (asks c t) y on);
    keeps_rest = λ c t v w y out. laws.keeps_rest c t v w y (unwritten_within (m.requests c t) (asks c t) (covers c t v w) y out);
    same_next = askable.same_next;
    keeps_valid = laws.keeps_valid;
    refused_keeps = laws.refused_keeps;
  }

  -- with each request replaced
  pub replaced_laws : (f : C → Request → List Request) → ((c : C) → is_valid c → IsReplacement (f c)) → CallLaws C is_valid (replaced_meaning f m)
  replaced_laws f is = asking_laws (λ c t. replaced (f c) (m.requests c t))
      (record {
        form = λ c t v w. (is c v).form (m.requests c t) (laws.form c t v w);
        same_next = λ c t u k v w x agree. next_replaced t u (f c) (is c v) [] (m.requests c t) (m.requests c u) (laws.form c t v w) (λ j near. laws.same_next c t u j v w x near) k agree;
      })
      (λ c t v w. (is c v).covers (m.requests c t) (laws.form c t v w))

  -- with requests behind its own
  pub followed_laws : (more : C → Reply → List Request) → FollowInForm is_valid m more → CallLaws C is_valid (followed_meaning more m)
  followed_laws more formed = asking_laws (λ c t. m.requests c t ++ more c (m.reply c t))
      (record {
        form = λ c t v w. formed_append (m.requests c t) (more c (m.reply c t)) (laws.form c t v w) (formed c t v w);
        same_next = λ c t u k v w x agree. next_behind t u [] (m.requests c t) (m.requests c u) (more c (m.reply c t)) (more c (m.reply c u))
            (λ j near. laws.same_next c t u j v w x near) (λ near j _. ap (λ (r : Reply). take (suc j) (more c r)) (laws.same_reply c t u v w x near)) k agree;
      })
      (λ c t v w. covered_left (m.requests c t) (more c (m.reply c t)))

-- ---- two in a row

module _ {A C D : Type 0} (is_valid : A → Type 0) (first_valid : C → Type 0) (second_valid : D → Type 0) (m : CallMeaning C) (n : CallMeaning D) (p : TwoCalls A C D)
    (first_laws : CallLaws C first_valid m) (second_laws : CallLaws D second_valid n) (valid : (a : A) → is_valid a → AreValid first_valid second_valid p m a)
    (askable : AreAskable is_valid p.requests) (covers : CoverBoth is_valid p m n) where
  abbrev both : CallMeaning A
  both = in_a_row p m n

  between : A → Tree → Tree
  between a t = m.after (p.first a) t

  -- ---- what both are answered, and the tree after them

  first_answers : (a : A) (t : Tree) → is_refused (m.reply (p.first a) t) ≡ true → both.reply a t ≡ m.reply (p.first a) t
  first_answers a t e = ap (λ (b : Bool). if b then m.reply (p.first a) t else n.reply (p.second a t) (m.after (p.first a) t)) e

  second_answers : (a : A) (t : Tree) → GoesOn p m a t → both.reply a t ≡ n.reply (p.second a t) (m.after (p.first a) t)
  second_answers a t e = ap (λ (b : Bool). if b then m.reply (p.first a) t else n.reply (p.second a t) (m.after (p.first a) t)) e

  stays : (a : A) (t : Tree) → is_refused (both.reply a t) ≡ true → both.after a t ≡ t
  stays a t e = ap (λ (b : Bool). if b then t else n.after (p.second a t) (m.after (p.first a) t)) e

  goes : (a : A) (t : Tree) → is_refused (both.reply a t) ≡ false → both.after a t ≡ n.after (p.second a t) (m.after (p.first a) t)
  goes a t e = ap (λ (b : Bool). if b then t else n.after (p.second a t) (m.after (p.first a) t)) e

  goes_on : (a : A) (t : Tree) → is_refused (both.reply a t) ≡ false → GoesOn p m a t
  goes_on a t e = by (is_refused (m.reply (p.first a) t)) refl
    where
      by : (b : Bool) → is_refused (m.reply (p.first a) t) ≡ b → b ≡ false
      by false h = refl
      by true h = absurd (true≢false (sym (ap is_refused (first_answers a t h) ∙ h) ∙ e))

  -- ---- on trees that agree

  module _ (a : A) (t u : Tree) (v : is_valid a) (w : IsValidTree t) (x : IsValidTree u) (agree : Agree (p.requests a t) t u) where
    first_same : m.reply (p.first a) t ≡ m.reply (p.first a) u
    first_same = first_laws.same_reply (p.first a) t u (valid a v).first w x (agree_within (m.requests (p.first a) t) (p.requests a t) t u (covers.first a t v w) agree)

    between_agree : Agree (p.requests a t) (m.after (p.first a) t) (m.after (p.first a) u)
    between_agree = step_agrees first_valid m first_laws (p.requests a t) (p.first a) t u (valid a v).first w x agree (covers.first a t v w)

    valid_between : (s : Tree) → IsValidTree s → IsValidTree (m.after (p.first a) s)
    valid_between s is = first_laws.keeps_valid (p.first a) s (valid a v).first is

    second_same : GoesOn p m a t → n.reply (p.second a t) (m.after (p.first a) t) ≡ n.reply (p.second a u) (m.after (p.first a) u)
    second_same on =
        second_laws.same_reply (p.second a t) (m.after (p.first a) t) (m.after (p.first a) u) ((valid a v).second t w on) (valid_between t w) (valid_between u x)
        (agree_within (n.requests (p.second a t) (m.after (p.first a) t)) (p.requests a t) (m.after (p.first a) t) (m.after (p.first a) u) (covers.second a t v w on) between_agree)
        ∙ ap (λ (d : D). n.reply d (m.after (p.first a) u)) (covers.same_second a t u v w x on agree)

    replies_same : both.reply a t ≡ both.reply a u
    replies_same = by (is_refused (m.reply (p.first a) t)) refl
      where
        by : (b : Bool) → is_refused (m.reply (p.first a) t) ≡ b → both.reply a t ≡ both.reply a u
        by true e = first_answers a t e ∙ first_same ∙ sym (first_answers a u (sym (ap is_refused first_same) ∙ e))
        by false e = second_answers a t e ∙ second_same e ∙ sym (second_answers a u (sym (ap is_refused first_same) ∙ e))

    after_agree : Agree (p.requests a t) (both.after a t) (both.after a u)
    after_agree y on = by (is_refused (both.reply a t)) refl
      where
        by : (b : Bool) → is_refused (both.reply a t) ≡ b → value_at (both.after a t) y ≡ value_at (both.after a u) y
        by true e = ap (λ (s : Tree). value_at s y) (stays a t e) ∙ agree y on ∙ sym (ap (λ (s : Tree). value_at s y) (stays a u (sym (ap is_refused replies_same) ∙ e)))
        by false e =
            let step = goes_on a t e in
            ap (λ (s : Tree). value_at s y) (goes a t e)
            ∙ step_agrees second_valid n second_laws (p.requests a t) (p.second a t) (m.after (p.first a) t) (m.after (p.first a) u) ((valid a v).second t w step) (valid_between t w) (valid_between u x) between_agree (covers.second a t v w step) y on
            ∙ ap (λ (d : D). value_at (n.after d (m.after (p.first a) u)) y) (covers.same_second a t u v w x step agree)
            ∙ sym (ap (λ (s : Tree). value_at s y) (goes a u (sym (ap is_refused replies_same) ∙ e)))

  -- ---- on one tree

  rest_kept : (a : A) (t : Tree) → is_valid a → IsValidTree t → (y : Cell) → writes (p.requests a t) y ≡ false → value_at (both.after a t) y ≡ value_at t y
  rest_kept a t v w y out = by (is_refused (both.reply a t)) refl
    where
      by : (b : Bool) → is_refused (both.reply a t) ≡ b → value_at (both.after a t) y ≡ value_at t y
      by true e = ap (λ (s : Tree). value_at s y) (stays a t e)
      by false e =
          let step = goes_on a t e in
          ap (λ (s : Tree). value_at s y) (goes a t e)
          ∙ second_laws.keeps_rest (p.second a t) (m.after (p.first a) t) ((valid a v).second t w step) (first_laws.keeps_valid (p.first a) t (valid a v).first w) y
          (unwritten_within (n.requests (p.second a t) (m.after (p.first a) t)) (p.requests a t) (covers.second a t v w step) y out)
          ∙ first_laws.keeps_rest (p.first a) t (valid a v).first w y (unwritten_within (m.requests (p.first a) t) (p.requests a t) (covers.first a t v w) y out)

  valid_after : (a : A) (t : Tree) → is_valid a → IsValidTree t → IsValidTree (both.after a t)
  valid_after a t v w = by (is_refused (both.reply a t)) refl
    where
      by : (b : Bool) → is_refused (both.reply a t) ≡ b → IsValidTree (both.after a t)
      by true e = subst IsValidTree (sym (stays a t e)) w
      by false e =
          subst IsValidTree (sym (goes a t e))
          (second_laws.keeps_valid (p.second a t) (m.after (p.first a) t) ((valid a v).second t w (goes_on a t e)) (first_laws.keeps_valid (p.first a) t (valid a v).first w))

  pub in_a_row_laws : CallLaws A is_valid (in_a_row p m n)
  in_a_row_laws = record {
    form = askable.form;
    same_reply = λ a t u v w x agree. replies_same a t u v w x agree;
    same_written = λ a t u v w x agree y on. after_agree a t u v w x agree y (written_is_read (p.requests a t) y on);
    keeps_rest = λ a t v w y out. rest_kept a t v w y out;
    same_next = askable.same_next;
    keeps_valid = λ a t v w. valid_after a t v w;
    refused_keeps = λ a t v w e. stays a t e;
  }

-- ---- each under its own requests

module _ {A C D : Type 0} (is_valid : A → Type 0) (first_valid : C → Type 0) (second_valid : D → Type 0) (m : CallMeaning C) (n : CallMeaning D) (p : TwoCalls A C D)
    (first_laws : CallLaws C first_valid m) (second_laws : CallLaws D second_valid n) (valid : (a : A) → is_valid a → AreValid first_valid second_valid p m a)
    (told : FirstTellsSecond is_valid p m) where
  abbrev own : A → Tree → List Request
  own a t = m.requests (p.first a) t

  abbrev others : A → Tree → List Request
  others a t = n.requests (p.second a t) (m.after (p.first a) t)

  abbrev unless : Bool → List Request → List Request
  unless b gs = if b then [] else gs

  abbrev rest : A → Tree → List Request
  rest a t = unless (is_refused (m.reply (p.first a) t)) (others a t)

  rest_is : (a : A) (t : Tree) → GoesOn p m a t → rest a t ≡ others a t
  rest_is a t on = ap (λ (b : Bool). unless b (others a t)) on

  valid_after_first : (a : A) (t : Tree) → is_valid a → IsValidTree t → IsValidTree (m.after (p.first a) t)
  valid_after_first a t v w = first_laws.keeps_valid (p.first a) t (valid a v).first w

  rest_formed : (a : A) (t : Tree) → is_valid a → IsValidTree t → HasForm (rest a t)
  rest_formed a t v w = by (is_refused (m.reply (p.first a) t)) refl
    where
      by : (b : Bool) → is_refused (m.reply (p.first a) t) ≡ b → HasForm (unless b (others a t))
      by true e = tt
      by false e = second_laws.form (p.second a t) (m.after (p.first a) t) ((valid a v).second t w e) (valid_after_first a t v w)

  rest_next : (a : A) (t u : Tree) → is_valid a → IsValidTree t → IsValidTree u → Agree (own a t) t u → NextFrom t u (own a t) (rest a t) (rest a u)
  rest_next a t u v w x near = by (is_refused (m.reply (p.first a) t)) refl
    where
      same : m.reply (p.first a) t ≡ m.reply (p.first a) u
      same = first_laws.same_reply (p.first a) t u (valid a v).first w x near

      by : (b : Bool) → is_refused (m.reply (p.first a) t) ≡ b → NextFrom t u (own a t) (rest a t) (rest a u)
      by true e k agree =
          ap (λ (b : Bool). take (suc k) (unless b (others a t))) e
          ∙ sym (ap (λ (b : Bool). take (suc k) (unless b (others a u))) (sym (ap is_refused same) ∙ e))
      by false e k agree =
          ap (λ (gs : List Request). take (suc k) gs) (rest_is a t e)
          ∙ second_laws.same_next (p.second a t) (m.after (p.first a) t) (m.after (p.first a) u) k ((valid a v).second t w e) (valid_after_first a t v w) (valid_after_first a u v x)
          (λ y on. step_agrees first_valid m first_laws (own a t ++ take k (rest a t)) (p.first a) t u (valid a v).first w x agree (covered_left (own a t) (take k (rest a t))) y
          (reads_right (own a t) (take k (rest a t)) y (subst (λ (gs : List Request). reads (take k gs) y ≡ true) (sym (rest_is a t e)) on)))
          ∙ ap (λ (d : D). take (suc k) (n.requests d (m.after (p.first a) u))) (told a t u v w x e near)
          ∙ sym (ap (λ (gs : List Request). take (suc k) gs) (rest_is a u (sym (ap is_refused same) ∙ e)))

  pub in_turn_laws : CallLaws A is_valid (in_a_row (in_turn p m n) m n)
  in_turn_laws = in_a_row_laws is_valid first_valid second_valid m n (in_turn p m n) first_laws second_laws
      (λ a v. record { first = (valid a v).first; second = (valid a v).second })
      (record {
        form = λ a t v w. formed_append (own a t) (rest a t) (first_laws.form (p.first a) t (valid a v).first w) (rest_formed a t v w);
        same_next = λ a t u k v w x agree. next_behind t u [] (own a t) (own a u) (rest a t) (rest a u)
            (λ j near. first_laws.same_next (p.first a) t u j (valid a v).first w x near) (λ near. rest_next a t u v w x near) k agree;
      })
      (record {
        first = λ a t v w. covered_left (own a t) (rest a t);
        second = λ a t v w on. subst (λ (gs : List Request). IsCoveredBy gs (own a t ++ rest a t)) (rest_is a t on) (covered_right (own a t) (rest a t));
        same_second = λ a t u v w x on agree. told a t u v w x on (agree_left (own a t) (rest a t) t u agree);
      })

-- The pass of the journal's turn that a member has: what stays of it.
use Rattle.std.proofs.Common.{◌≡◌, ◌∙◌, ℕ, true, refl, sym, ap, subst, List, [], ◌∷◌, ◌++◌, append-nil, append_assoc, is_some, true≢false}
use Rattle.std.specs.Prelude.{Result, Ok, Err}
use Rattle.turn_lock.specs.Turns.{having_seen, PassView}
use Rattle.shared_store.specs.declared.errors.StoreError.{StoreError}
use Rattle.shared_store.specs.declared.errors.StoreError.TheVariants as store_error
use Rattle.group_commit.specs.Marks.{last_commit, opening_in}
use Rattle.group_commit.specs.Members.{HasMadeDurable, HasTurned, IsAnswered, IsMadeDurable, Marks, MarksPass, MemberView}
use Rattle.group_commit.specs.declared.mark.Mark.{Mark}
use Rattle.group_commit.specs.declared.mark.Mark.TheVariants as mark
use Rattle.group_commit.specs.StorePorts.{IsSamePass}

-- a list that goes on has the opening that it had
pub opening_longer : {S J : Type 0} (xs ys : List (Mark S J)) → is_some (opening_in xs) ≡ true → opening_in (xs ++ ys) ≡ opening_in xs
opening_longer [] ys is = absurd (true≢false (sym is))
opening_longer (mark.Opening s j ∷ xs) ys is = refl
opening_longer (mark.Durable n ∷ xs) ys is = absurd (true≢false (sym is))
opening_longer (mark.Failure by f ∷ xs) ys is = absurd (true≢false (sym is))

module _ {C B : Type 0} where
  pub same_pass : (p q : MarksPass C B) → q ≡ p → IsSamePass p q
  same_pass p q e = record {
    lock = ap (λ (v : MarksPass C B). v.lock) e;
    has = ap (λ (v : MarksPass C B). v.has) e;
    opening = ap (λ (v : MarksPass C B). opening_in v.seen) e;
  }

  -- the list of a pass goes on
  abbrev pub GoesLonger : MarksPass C B → MarksPass C B → Type 0
  GoesLonger p q = (added : Marks C B) × (q.seen ≡ p.seen ++ added)

  -- it has seen more of the list, and has kept all else
  pub longer_pass : (p q : MarksPass C B) → is_some (opening_in p.seen) ≡ true → q ≡ having_seen q.seen p → GoesLonger p q → IsSamePass p q
  longer_pass p q is same more = record {
    lock = ap (λ (v : MarksPass C B). v.lock) same;
    has = ap (λ (v : MarksPass C B). v.has) same;
    opening = ap opening_in more.1 ∙ opening_longer p.seen more.0 is;
  }

  -- a list that was found, and has more now
  found_longer : (seen found after rest more : Marks C B) → found ≡ seen ++ rest → after ≡ found ++ more → (added : Marks C B) × (after ≡ seen ++ added)
  found_longer seen found after rest more is now = (rest ++ more, now ∙ ap (λ (l : Marks C B). l ++ more) is ∙ append_assoc seen rest more)

  -- ---- the journal's turn was taken and given

  answered_more : (found : Marks C B) (under number : ℕ) (r : Result ℕ StoreError) (after : Marks C B) → IsAnswered found under number r after → (more : Marks C B) × (after ≡ found ++ more)
  answered_more found under number (Ok k) after a = (a.3, a.4)
  answered_more found under number (Err store_error.DiskFault) after a = (mark.Failure under a.2 ∷ [], a.3)
  answered_more found under number (Err (store_error.Halted f)) after a = ([], a.2 ∙ sym (append-nil found))
  answered_more found under number (Err store_error.NoMemory) after a = absurd a
  answered_more found under number (Err (store_error.Session e)) after a = absurd a

  pub turned_pass : (p q : MarksPass C B) (under number : ℕ) (r : Result ℕ StoreError) → is_some (opening_in p.seen) ≡ true → HasTurned p q under number r → IsSamePass p q
  turned_pass p q under number r is h =
      let more = answered_more h.found under number r q.seen h.answered in
      longer_pass p q is h.same (found_longer p.seen h.found q.seen h.goes_on.0 more.0 h.goes_on.1 more.1)

  made_more : (found : Marks C B) (under number : ℕ) (r : Result (Unit {0}) StoreError) (after : Marks C B) → IsMadeDurable found under number r after → (more : Marks C B) × (after ≡ found ++ more)
  made_more found under number (Ok x) after a = (a.2, a.3)
  made_more found under number (Err store_error.DiskFault) after a = (mark.Failure under a.1 ∷ [], a.2)
  made_more found under number (Err (store_error.Halted f)) after a = ([], a.1 ∙ sym (append-nil found))
  made_more found under number (Err store_error.NoMemory) after a = absurd a
  made_more found under number (Err (store_error.Session e)) after a = absurd a

  pub made_pass : (p q : MemberView C B) (r : Result (Unit {0}) StoreError) → is_some (opening_in p.pass.seen) ≡ true → HasMadeDurable p q r → IsSamePass p.pass q.pass
  made_pass p q r is h =
      let more = made_more h.found p.session.under (last_commit p.session.seen) r q.pass.seen h.answered in
      longer_pass p.pass q.pass is h.same (found_longer p.pass.seen h.found q.pass.seen h.goes_on.0 more.0 h.goes_on.1 more.1)

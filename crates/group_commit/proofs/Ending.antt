-- A group commit is closed: what the member's lists tell of the core and of the journal.
use Rattle.std.proofs.Common.{◌≡◌, ℕ, zero, suc, ◌<◌, Bool, true, false, List, [], ◌∷◌, ◌++◌, length, Option, None, refl, sym, ap, ◌∙◌, subst, arith, true≢false, lit<}
use Rattle.std.specs.Prelude.{IfSome, nat_lt, if◌then◌else◌}
use Rattle.std.proofs.lemmas.Bool.{false_from_ne_true}
use Rattle.std.proofs.lemmas.List.{append_assoc, append-nil}
use mathlib.Core.Logic.{dite}
use native.Mathlib.Decide.{ℕ_discrete}
use Rattle.call_contract.specs.Books.{Book}
use Rattle.call_contract.specs.Sessions.{live_in}
use Rattle.turn_lock.specs.Turns.{AreForeign, GoesOn, HasAll, has_number, longer, merged, only_number}
use Rattle.turn_lock.proofs.Numbers.{merged_at, only_there, or_left, or_right, there_alone}
use Rattle.shared_store.specs.Lists.{base_in, book_of, is_opened, limit_in, noted, number_in, number_of, opening_in, SessionsFit}
use Rattle.shared_store.specs.Sessions.{IsOpenedAs, SessionView}
use Rattle.shared_store.specs.declared.desk.Entry.{Entry}
use Rattle.shared_store.specs.declared.desk.Entry.TheVariants as kind
use Rattle.shared_store.proofs.Done.{book_append}
use Rattle.shared_store.proofs.Waiting.{live_goes_on}
use Rattle.tx_core.specs.Cores.{CoreView}
use Rattle.group_commit.specs.Closings.{AreOthers}
use Rattle.group_commit.specs.inside.Scribes.{GoesOnWithout, IsDrainer}

-- all numbers are together
pub all_together : (has drains : List Bool) → ((n : ℕ) → 0 < n → n < 65 → has_number has n ≡ true) → drains ≡ only_number 0 → HasAll (merged has drains)
all_together has drains own is zero l = merged_at has drains 0 ∙ or_right (has_number has 0) (has_number drains 0) (ap (λ (b : List Bool). has_number b 0) is ∙ there_alone 0 (lit< tt))
all_together has drains own is (suc n) l = merged_at has drains (suc n) ∙ or_left (has_number has (suc n)) (has_number drains (suc n)) (own (suc n) (omega arith) l)

module _ {C : Type 0} where
  fit_rest : (xs ys : Book C) → SessionsFit (xs ++ ys) → SessionsFit ys
  fit_rest [] ys f = f
  fit_rest (x ∷ xs) ys f = fit_rest xs ys f.1

  others_rest : (xs ys : Book C) → AreOthers 0 (xs ++ ys) → AreOthers 0 ys
  others_rest [] ys o = o
  others_rest (x ∷ xs) ys o = others_rest xs ys o.1

module _ (C B : Type 0) where
  book_noted : (ns : Book C) → book_of (noted {C = C} {B = B} ns) ≡ ns
  book_noted [] = refl
  book_noted (n ∷ ns) = ap (λ (l : Book C). n ∷ l) (book_noted ns)

  others_foreign : (ns : Book C) → AreOthers 0 ns → AreForeign number_of (only_number 0) (noted {C = C} {B = B} ns)
  others_foreign [] o = tt
  others_foreign (n ∷ ns) o = (false_from_ne_true (has_number (only_number 0) n.session) (λ own. o.0 (only_there 0 n.session own)), others_foreign ns o.1)

module _ {C B : Type 0} where
  -- ---- the session that drains has no transaction

  pub idle_on : (first d : SessionView C B) → IsDrainer first d → live_in (book_of d.seen) d.under ≡ None
  idle_on first d is =
      let more = is.grown.0 in
      let ns = book_of more in
      let listed : List (Entry C B) = first.seen ++ noted ns in
      let same : book_of d.seen ≡ book_of listed =
      ap book_of is.grown.1 ∙ (book_append first.seen more ∙ (ap (λ (l : Book C). book_of first.seen ++ l) (sym (book_noted C B ns)) ∙ sym (book_append first.seen (noted ns)))) in
      let still = live_goes_on (only_number 0) 0 first.seen listed (there_alone 0 (lit< tt)) (noted ns, refl, others_foreign C B ns is.grown.2) in
      ap (λ (u : ℕ). live_in (book_of d.seen) u) is.under ∙ (ap (λ (b : Book C). live_in b 0) same ∙ (still ∙ is.idle))

  -- ---- the book is what the member has seen of it

  -- an entry of none of the sessions from 0 to 64 isn't there
  no_book : (has : List Bool) → ((n : ℕ) → 0 < n → n < 65 → has_number has n ≡ true) → (es : List (Entry C B)) → SessionsFit (book_of es) → AreForeign number_of has es → AreOthers 0 (book_of es) → book_of es ≡ []
  no_book has own [] f a o = refl
  no_book has own (kind.Opening p n l b d ∷ es) f a o = no_book has own es f a.1 o
  no_book has own (kind.Noted n ∷ es) f a o = absurd (dite (ℕ_discrete n.session 0)
      (λ e. o.0 e)
      (λ ne. let l = f.0 in true≢false (sym (own n.session (omega (arith, ne)) (omega (arith, l))) ∙ a.0)))
  no_book has own (kind.Drained k ∷ es) f a o = no_book has own es f a.1 o

  cancel : (xs ys zs : List (Entry C B)) → xs ++ ys ≡ xs ++ zs → ys ≡ zs
  cancel [] ys zs e = e
  cancel (x ∷ xs) ys zs e = cancel xs ys zs (ap tail e)
    where
      tail : List (Entry C B) → List (Entry C B)
      tail [] = []
      tail (y ∷ l) = l

  -- m is what the member has seen and d what the drainer has, both from the opening on
  pub book_seen : (has : List Bool) (first m d more : List (Entry C B)) (book : Book C) → ((n : ℕ) → 0 < n → n < 65 → has_number has n ≡ true) → m ≡ first ++ more → GoesOnWithout first d → GoesOn number_of has m (longer m d)
      → book ≡ book_of (longer m d) → SessionsFit book → book ≡ book_of m
  book_seen has first m d more book own seen drained goes is fit = go (nat_lt (length m) (length d)) refl
    where
      go : (c : Bool) → nat_lt (length m) (length d) ≡ c → book ≡ book_of m
      go false e = is ∙ ap book_of (ap (λ (c : Bool). if c then d else m) e)
      go true e =
          let rest = goes.0 in
          let same : longer m d ≡ d = ap (λ (c : Bool). if c then d else m) e in
          let parts : book_of (longer m d) ≡ book_of m ++ book_of rest = ap book_of goes.1 ∙ book_append m rest in
          let both : first ++ drained.0 ≡ first ++ (more ++ rest) =
          sym drained.1 ∙ (sym same ∙ (goes.1 ∙ (ap (λ (l : List (Entry C B)). l ++ rest) seen ∙ append_assoc first more rest))) in
          let added : drained.0 ≡ more ++ rest = cancel first drained.0 (more ++ rest) both in
          let others : AreOthers 0 (book_of rest) =
          others_rest (book_of more) (book_of rest) (subst (AreOthers 0) (book_append more rest) (subst (λ (l : List (Entry C B)). AreOthers 0 (book_of l)) added drained.2)) in
          let none : book_of rest ≡ [] = no_book has own rest (fit_rest (book_of m) (book_of rest) (subst SessionsFit (is ∙ parts) fit)) goes.2 others in
          is ∙ (parts ∙ (ap (λ (l : Book C). book_of m ++ l) none ∙ append-nil (book_of m)))

  -- ---- what a longer list tells of the opening

  told_same : {T : Type 0} (f : List (Entry C B) → T) → ((xs ys : List (Entry C B)) → is_opened xs ≡ true → f (xs ++ ys) ≡ f xs) → (has : List Bool) (m l : List (Entry C B)) → is_opened m ≡ true → GoesOn number_of has m l → f l ≡ f m
  told_same f on has m l o g = ap f g.1 ∙ on m g.0 o

  opening_on : (xs ys : List (Entry C B)) → is_opened xs ≡ true → (opening_in (xs ++ ys) ≡ opening_in xs) × (number_in (xs ++ ys) ≡ number_in xs) × (limit_in (xs ++ ys) ≡ limit_in xs) × (base_in (xs ++ ys) ≡ base_in xs)
  opening_on [] ys o = absurd (true≢false (sym o))
  opening_on (kind.Opening o n l b d ∷ xs) ys is = (refl, refl, refl, refl)
  opening_on (kind.Noted n ∷ xs) ys o = absurd (true≢false (sym o))
  opening_on (kind.Drained k ∷ xs) ys o = absurd (true≢false (sym o))

  pub opened_as_seen : (unchanged : B → B → Type 0) (has : List Bool) (m l : List (Entry C B)) (core : CoreView C B) → is_opened m ≡ true → GoesOn number_of has m l → IsOpenedAs unchanged l core → IsOpenedAs unchanged m core
  opened_as_seen unchanged has m l core o g is = record {
    opening = sym (told_same opening_in (λ xs ys q. (opening_on xs ys q).0) has m l o g) ∙ is.opening;
    number = sym (told_same number_in (λ xs ys q. (opening_on xs ys q).1) has m l o g) ∙ is.number;
    limit = sym (told_same limit_in (λ xs ys q. (opening_on xs ys q).2) has m l o g) ∙ is.limit;
    base = subst (λ (b : Option B). IfSome b (λ x. unchanged x core.base)) (told_same base_in (λ xs ys q. (opening_on xs ys q).3) has m l o g) is.base;
  }

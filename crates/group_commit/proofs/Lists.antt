-- What a store's list tells as it goes on.
use Rattle.std.proofs.Common.{◌≡◌, ℕ, ◌+◌, ◌<◌, ◌≤◌, Bool, true, false, List, [], ◌∷◌, ◌++◌, length, IsTrue, refl, sym, ap, ◌∙◌, arith, true≢false, append_assoc}
use Rattle.call_contract.specs.Sessions.{commits_in}
use Rattle.call_contract.proofs.Appends.{commits_append}
use Rattle.turn_lock.specs.Turns.{AreForeign, GoesOn, has_number}
use Rattle.shared_store.specs.Lists.{book_of, drained_from, drained_in, is_opened, number_in, number_of, opening_in}
use Rattle.shared_store.specs.declared.desk.Entry.{Entry}
use Rattle.shared_store.specs.declared.desk.Entry.TheVariants as kind
use Rattle.shared_store.proofs.Done.{book_append}
use Rattle.group_commit.specs.Closings.{AreOthers}
use Rattle.group_commit.specs.Marks.{last_commit}
use Rattle.group_commit.specs.inside.Scribes.{GoesOnWithout}

-- where a list isn't empty
pub some_in : {A : Type 0} (xs : List A) (none : Bool) → none ≡ false → (xs ≡ [] → IsTrue none) → 0 < length xs
some_in [] none is all = absurd (true≢false (sym (all refl) ∙ is))
some_in (x ∷ xs) none is all = omega arith

module _ {C B : Type 0} where
  pub opened_on : (xs ys : List (Entry C B)) → is_opened xs ≡ true → is_opened (xs ++ ys) ≡ true
  opened_on [] ys o = absurd (true≢false (sym o))
  opened_on (kind.Opening o n l b d ∷ xs) ys is = refl
  opened_on (kind.Noted n ∷ xs) ys o = absurd (true≢false (sym o))
  opened_on (kind.Drained k ∷ xs) ys o = absurd (true≢false (sym o))

  number_on : (xs ys : List (Entry C B)) → is_opened xs ≡ true → number_in (xs ++ ys) ≡ number_in xs
  number_on [] ys o = absurd (true≢false (sym o))
  number_on (kind.Opening o n l b d ∷ xs) ys is = refl
  number_on (kind.Noted n ∷ xs) ys o = absurd (true≢false (sym o))
  number_on (kind.Drained k ∷ xs) ys o = absurd (true≢false (sym o))

  pub opening_on : (xs ys : List (Entry C B)) → is_opened xs ≡ true → opening_in (xs ++ ys) ≡ opening_in xs
  opening_on [] ys o = absurd (true≢false (sym o))
  opening_on (kind.Opening o n l b d ∷ xs) ys is = refl
  opening_on (kind.Noted n ∷ xs) ys o = absurd (true≢false (sym o))
  opening_on (kind.Drained k ∷ xs) ys o = absurd (true≢false (sym o))

  -- the last commit's number, as the list goes on
  pub last_on : (xs ys : List (Entry C B)) → is_opened xs ≡ true → last_commit (xs ++ ys) ≡ last_commit xs + commits_in (book_of ys)
  last_on xs ys o =
      let n : number_in (xs ++ ys) ≡ number_in xs = number_on xs ys o in
      let k : commits_in (book_of (xs ++ ys)) ≡ commits_in (book_of xs) + commits_in (book_of ys) = ap commits_in (book_append xs ys) ∙ commits_append (book_of xs) (book_of ys) in
      omega (arith, n, k)

  pub last_grows : (xs ys zs : List (Entry C B)) → is_opened xs ≡ true → zs ≡ xs ++ ys → last_commit xs ≤ last_commit zs
  last_grows xs ys zs o is = let e : last_commit zs ≡ last_commit xs + commits_in (book_of ys) = ap last_commit is ∙ last_on xs ys o in omega (arith, e)

  from_append : (k : ℕ) (xs ys : List (Entry C B)) → drained_from k (xs ++ ys) ≡ drained_from (drained_from k xs) ys
  from_append k [] ys = refl
  from_append k (kind.Opening o n l b d ∷ xs) ys = from_append k xs ys
  from_append k (kind.Noted n ∷ xs) ys = from_append k xs ys
  from_append k (kind.Drained j ∷ xs) ys = from_append j xs ys

  pub drained_on : (xs ys : List (Entry C B)) → is_opened xs ≡ true → drained_in (xs ++ ys) ≡ drained_from (drained_in xs) ys
  drained_on [] ys o = absurd (true≢false (sym o))
  drained_on (kind.Opening o n l b d ∷ xs) ys is = from_append d xs ys
  drained_on (kind.Noted n ∷ xs) ys o = absurd (true≢false (sym o))
  drained_on (kind.Drained k ∷ xs) ys o = absurd (true≢false (sym o))

  -- ---- what others add, where the number 0 is one's own

  module _ (has : List Bool) (zero_own : has_number has 0 ≡ true) where
    from_others : (k : ℕ) (es : List (Entry C B)) → AreForeign number_of has es → drained_from k es ≡ k
    from_others k [] f = refl
    from_others k (kind.Opening o n l b d ∷ es) f = from_others k es f.1
    from_others k (kind.Noted n ∷ es) f = from_others k es f.1
    from_others k (kind.Drained d ∷ es) f = absurd (true≢false (sym zero_own ∙ f.0))

    none_of_zero : (es : List (Entry C B)) → AreForeign number_of has es → AreOthers 0 (book_of es)
    none_of_zero [] f = tt
    none_of_zero (kind.Opening o n l b d ∷ es) f = none_of_zero es f.1
    none_of_zero (kind.Noted n ∷ es) f = (λ e. true≢false (sym zero_own ∙ (ap (has_number has) (sym e) ∙ f.0)), none_of_zero es f.1)
    none_of_zero (kind.Drained d ∷ es) f = none_of_zero es f.1

    pub drained_goes_on : (seen list : List (Entry C B)) → is_opened seen ≡ true → GoesOn number_of has seen list → drained_in list ≡ drained_in seen
    drained_goes_on seen list o g = ap drained_in g.1 ∙ (drained_on seen g.0 o ∙ from_others (drained_in seen) g.0 g.2)

    pub goes_on_without : (seen list : List (Entry C B)) → GoesOn number_of has seen list → GoesOnWithout seen list
    goes_on_without seen list g = (g.0, g.1, none_of_zero g.0 g.2)

  others_append : (xs ys : List (Entry C B)) → AreOthers 0 (book_of xs) → AreOthers 0 (book_of ys) → AreOthers 0 (book_of (xs ++ ys))
  others_append [] ys a b = b
  others_append (kind.Opening o n l base d ∷ xs) ys a b = others_append xs ys a b
  others_append (kind.Noted n ∷ xs) ys a b = (a.0, others_append xs ys a.1 b)
  others_append (kind.Drained d ∷ xs) ys a b = others_append xs ys a b

  pub without_on : (a b c : List (Entry C B)) → GoesOnWithout a b → GoesOnWithout b c → GoesOnWithout a c
  without_on a b c p q = (p.0 ++ q.0, q.1 ∙ (ap (λ (x : List (Entry C B)). x ++ q.0) p.1 ∙ append_assoc a p.0 q.0), others_append p.0 q.0 p.2 q.2)

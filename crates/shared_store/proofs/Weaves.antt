-- How the list behind the turn grows with the book and the drains.
use Rattle.std.proofs.Common.{◌≡◌, ℕ, zero, suc, List, [], ◌∷◌, ◌++◌, ◌+◌, ◌-◌, ◌≤◌, length, take, drop, sym, refl, ap, ◌∙◌, arith}
use Rattle.std.proofs.lemmas.List.{map-append, append_assoc, take-append-drop, take_all, length-drop, length-append, length-take-le}
use Rattle.std.proofs.Math.Seq.{drop-length, drop-nil}
use Rattle.call_contract.specs.Books.{Book}
use Rattle.call_contract.specs.declared.events.Noted.{Noted}
use Rattle.tx_core.specs.Cores.{CoreView}
use Rattle.shared_store.specs.Calls.{with_noted}
use Rattle.shared_store.specs.Lists.{woven, noted, book_of, drained_from, drained_in, list_of}
use Rattle.shared_store.specs.declared.desk.Drain.{Drain}
use Rattle.shared_store.specs.declared.desk.Entry.{Entry}
use Rattle.shared_store.specs.declared.desk.Entry.TheVariants as kind
use Rattle.shared_store.specs.inside.Desks.{RiseTo, last_drained}

module _ {A : Type 0} where
  drop_left : (n : ℕ) (xs ys : List A) → n ≤ length xs → drop n (xs ++ ys) ≡ drop n xs ++ ys
  drop_left zero xs ys l = refl
  drop_left (suc n) [] ys l = absurd (omega arith)
  drop_left (suc n) (x ∷ xs) ys l = drop_left n xs ys (omega arith)

  take_left : (n : ℕ) (xs ys : List A) → n ≤ length xs → take n (xs ++ ys) ≡ take n xs
  take_left zero xs ys l = refl
  take_left (suc n) [] ys l = absurd (omega arith)
  take_left (suc n) (x ∷ xs) ys l = λ i. x ∷ take_left n xs ys (omega arith) i

  drop_twice : (n m : ℕ) (xs : List A) → drop m (drop n xs) ≡ drop (n + m) xs
  drop_twice zero m xs = let e : m ≡ zero + m = omega arith in ap (λ (k : ℕ). drop k xs) e
  drop_twice (suc n) m [] = drop-nil m ∙ sym (drop-nil (suc n + m))
  drop_twice (suc n) m (x ∷ xs) = let e : suc (n + m) ≡ suc n + m = omega arith in drop_twice n m xs ∙ ap (λ (k : ℕ). drop k (x ∷ xs)) e

  -- from a place to a later one, and from there on
  split_at : (a b : ℕ) (xs : List A) → a ≤ b → take (b - a) (drop a xs) ++ drop b xs ≡ drop a xs
  split_at a b xs l =
      let e : a + (b - a) ≡ b = omega arith in
      ap (λ r. take (b - a) (drop a xs) ++ r) (ap (λ (k : ℕ). drop k xs) (sym e) ∙ sym (drop_twice a (b - a) xs)) ∙ take-append-drop (b - a) (drop a xs)

pub rise_le : (from to : ℕ) (ds : List Drain) → RiseTo from to ds → from ≤ to
rise_le from to [] r = r
rise_le from to (d ∷ ds) r = let a = r.0 in let b = rise_le d.at to ds r.1 in omega arith

pub rise_more : (from to further : ℕ) (ds : List Drain) → to ≤ further → RiseTo from to ds → RiseTo from further ds
rise_more from to further [] l r = let a : from ≤ to = r in omega arith
rise_more from to further (d ∷ ds) l r = (r.0, rise_more d.at to further ds l r.1)

pub rise_snoc : (from to : ℕ) (ds : List Drain) (d : Drain) → d.at ≡ to → RiseTo from to ds → RiseTo from to (ds ++ d ∷ [])
rise_snoc from to [] d e r = let a : from ≤ to = r in (omega arith, omega arith)
rise_snoc from to (x ∷ xs) d e r = (r.0, rise_snoc x.at to xs d e r.1)

pub last_snoc : (k : ℕ) (ds : List Drain) (d : Drain) → last_drained k (ds ++ d ∷ []) ≡ d.number
last_snoc k [] d = refl
last_snoc k (x ∷ xs) d = last_snoc x.number xs d

module _ (C B : Type 0) where
  woven_more : (from : ℕ) (book added : Book C) (ds : List Drain) → RiseTo from (length book) ds → woven {C = C} {B = B} from (book ++ added) ds ≡ woven from book ds ++ noted added
  woven_more from book added [] r = ap noted (drop_left from book added r) ∙ map-append kind.Noted (drop from book) added
  woven_more from book added (d ∷ ds) r =
      let below = rise_le from (length book) (d ∷ ds) r in
      let later = rise_le d.at (length book) ds r.1 in
      let rest = length-drop from book in
      let front : take (d.at - from) (drop from (book ++ added)) ≡ take (d.at - from) (drop from book) =
      ap (take (d.at - from)) (drop_left from book added below) ∙ take_left (d.at - from) (drop from book) added (omega arith) in
      (λ i. noted (front i) ++ kind.Drained d.number ∷ woven_more d.at book added ds r.1 i)
      ∙ sym (append_assoc (noted (take (d.at - from) (drop from book))) (kind.Drained d.number ∷ woven d.at book ds) (noted added))

  woven_drained : (from : ℕ) (book : Book C) (ds : List Drain) (d : Drain) → d.at ≡ length book → RiseTo from (length book) ds
      → woven {C = C} {B = B} from book (ds ++ d ∷ []) ≡ woven from book ds ++ kind.Drained d.number ∷ []
  woven_drained from book [] d e r =
      let rest = length-drop from book in
      let all : take (d.at - from) (drop from book) ≡ drop from book = take_all (d.at - from) (drop from book) (omega arith) in
      let none_left : drop d.at book ≡ [] = ap (λ (k : ℕ). drop k book) e ∙ drop-length book in
      λ i. noted (all i) ++ kind.Drained d.number ∷ noted (none_left i)
  woven_drained from book (x ∷ xs) d e r =
      (λ i. noted (take (x.at - from) (drop from book)) ++ kind.Drained x.number ∷ woven_drained x.at book xs d e r.1 i)
      ∙ sym (append_assoc (noted (take (x.at - from) (drop from book))) (kind.Drained x.number ∷ woven x.at book xs) (kind.Drained d.number ∷ []))

  book_append : (ns : Book C) (es : List (Entry C B)) → book_of (noted ns ++ es) ≡ ns ++ book_of es
  book_append [] es = refl
  book_append (n ∷ ns) es = λ i. n ∷ book_append ns es i

  book_noted : (ns : Book C) → book_of (noted {C = C} {B = B} ns) ≡ ns
  book_noted [] = refl
  book_noted (n ∷ ns) = λ i. n ∷ book_noted ns i

  book_woven : (from : ℕ) (book : Book C) (ds : List Drain) → RiseTo from (length book) ds → book_of (woven {C = C} {B = B} from book ds) ≡ drop from book
  book_woven from book [] r = book_noted (drop from book)
  book_woven from book (d ∷ ds) r =
      book_append (take (d.at - from) (drop from book)) (kind.Drained d.number ∷ woven d.at book ds)
      ∙ (ap (λ b. take (d.at - from) (drop from book) ++ b) (book_woven d.at book ds r.1) ∙ split_at from d.at book r.0)

  drained_append : (k : ℕ) (ns : Book C) (es : List (Entry C B)) → drained_from k (noted ns ++ es) ≡ drained_from k es
  drained_append k [] es = refl
  drained_append k (n ∷ ns) es = drained_append k ns es

  drained_noted : (k : ℕ) (ns : Book C) → drained_from k (noted {C = C} {B = B} ns) ≡ k
  drained_noted k [] = refl
  drained_noted k (n ∷ ns) = drained_noted k ns

  drained_woven : (k from : ℕ) (book : Book C) (ds : List Drain) → drained_from k (woven {C = C} {B = B} from book ds) ≡ last_drained k ds
  drained_woven k from book [] = drained_noted k (drop from book)
  drained_woven k from book (d ∷ ds) = drained_append k (take (d.at - from) (drop from book)) (kind.Drained d.number ∷ woven d.at book ds) ∙ drained_woven d.number d.at book ds

  noted_length : (ns : Book C) → length (noted {C = C} {B = B} ns) ≡ length ns
  noted_length [] = refl
  noted_length (n ∷ ns) = ap suc (noted_length ns)

  woven_length : (from : ℕ) (book : Book C) (ds : List Drain) → RiseTo from (length book) ds → length (woven {C = C} {B = B} from book ds) + from ≡ length book + length ds
  woven_length from book [] r = let l : from ≤ length book = r in omega (arith, noted_length (drop from book), length-drop from book)
  woven_length from book (d ∷ ds) r =
      let below = r.0 in
      let later = rise_le d.at (length book) ds r.1 in
      let rest = length-drop from book in
      let part : List (Noted C) = take (d.at - from) (drop from book) in
      let short : length part ≡ d.at - from = length-take-le (d.at - from) (drop from book) (omega arith) in
      omega (arith, length-append (noted {C = C} {B = B} part) (kind.Drained d.number ∷ woven d.at book ds), noted_length part, woven_length d.at book ds r.1)

-- ---- the whole list

module _ {C B : Type 0} (first : CoreView C B) (book : Book C) (ds : List Drain) (rise : RiseTo 0 (length book) ds) where
  pub list_more : (b added : Book C) → b ≡ book ++ added → list_of first b ds ≡ list_of first book ds ++ noted added
  list_more b added e = ap (λ (x : Book C). list_of first x ds) e ∙ (λ i. kind.Opening first.opening first.number first.limit first.base first.undrained.after ∷ woven_more C B 0 book added ds rise i)

  pub list_one : (b : Book C) (n : Noted C) → b ≡ book ++ n ∷ [] → list_of first b ds ≡ with_noted (list_of first book ds) n
  list_one b n e = list_more b (n ∷ []) e

  pub list_drained : (d : Drain) → d.at ≡ length book → list_of first book (ds ++ d ∷ []) ≡ list_of first book ds ++ kind.Drained d.number ∷ []
  list_drained d e = λ i. kind.Opening first.opening first.number first.limit first.base first.undrained.after ∷ woven_drained C B 0 book ds d e rise i

  pub list_book : book_of (list_of first book ds) ≡ book
  list_book = book_woven C B 0 book ds rise

  pub list_length : length (list_of first book ds) ≡ length book + length ds + 1
  list_length = omega (arith, woven_length C B 0 book ds rise)

  pub list_last : drained_in (list_of first book ds) ≡ last_drained first.undrained.after ds
  list_last = drained_woven C B first.undrained.after 0 book ds

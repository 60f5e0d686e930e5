-- A call of a session: the turn is taken, something is done to the list, and the turn is given.
use Rattle.std.proofs.Common.{◌≡◌, ℕ, Bool, true, false, List, [], ◌∷◌, ◌++◌, length, sym, refl, ap, ◌∙◌, subst, arith}
use Rattle.std.specs.Prelude.{Option, Some, IfSome, nat_lt, if◌then◌else◌}
use Rattle.std.proofs.lemmas.Bool.{true≢false}
use Rattle.std.proofs.lemmas.List.{append-nil}
use Rattle.std.specs.declared.alloc.Global.{Global}
use Rattle.std.specs.declared.vec.Vec.{Vec}
use Rattle.tree_model.specs.Entries.{Entries}
use Rattle.tree_model.specs.Tree.{Tree}
use Rattle.node_seq.specs.Trees.{StandsFor}
use Rattle.call_contract.specs.Books.{Book, IsBookFrom}
use Rattle.call_contract.specs.Calls.{CallMeaning}
use Rattle.tx_core.specs.Cores.{CoreView}
use Rattle.turn_lock.specs.Turns.{AreForeign, GoesOn, GrewBy, HasAll, having_seen, having_turn, longer, PassView, has_number}
use Rattle.shared_store.specs.Lists.{base_in, book_of, drained_from, drained_in, HasLegalBook, is_opened, limit_in, list_of, number_in, number_of, opening_in, SessionsFit}
use Rattle.shared_store.specs.Sessions.{HasDone, IsOpenedAs, SessionView}
use Rattle.shared_store.specs.declared.desk.Drain.{Drain}
use Rattle.shared_store.specs.declared.desk.Entry.{Entry}
use Rattle.shared_store.specs.declared.desk.Entry.TheVariants as kind
use Rattle.shared_store.specs.inside.Desks.{AddsUnder, IsDesk, IsSession}
use Rattle.shared_store.proofs.Desks.{grew}
use Rattle.shared_store.proofs.Weaves.{list_book}

module _ {C B : Type 0} where
  abbrev pub seen_as : PassView (Entry C B) → ℕ → SessionView C B
  seen_as p under = record { lock = p.lock; seen = p.seen; has = p.has; under = under }

  -- what was added under the session's number may be given back
  pub grew_at : (a b : PassView (Entry C B)) (s : ℕ) (before after : List (Entry C B)) → b ≡ having_turn true (having_seen before a) → has_number a.has s ≡ true → AddsUnder s before after → GrewBy number_of b.has b.seen after
  grew_at a b s before after took own adds = subst (λ (p : PassView (Entry C B)). GrewBy number_of p.has p.seen after) (sym took) (grew a.has s before after own adds)

  pub done : (does : ℕ → List (Entry C B) → List (Entry C B) → Type 0) (p : SessionView C B) (a b c : PassView (Entry C B)) (under : ℕ) (before after : List (Entry C B)) → seen_as a under ≡ p
      → b ≡ having_turn true (having_seen before a) → GoesOn number_of a.has a.seen before → c ≡ having_turn false (having_seen after b) → does under before after → HasDone p (seen_as c under) (does p.under)
  done does p a b c under before after view took goes_on gave did =
      let all : c ≡ having_turn false (having_seen after (having_turn true (having_seen before a))) = gave ∙ ap (λ (x : PassView (Entry C B)). having_turn false (having_seen after x)) took in
      let seen : c.seen ≡ after = ap (λ (x : PassView (Entry C B)). x.seen) all in
      record {
        same = (λ i. record { lock = (all i).lock; seen = c.seen; has = (all i).has; under = under }) ∙ ap (λ (x : SessionView C B). record { lock = x.lock; seen = c.seen; has = x.has; under = x.under }) view;
        before = before;
        goes_on = subst (λ (x : SessionView C B). GoesOn number_of x.has x.seen before) view goes_on;
        did = subst (λ (z : ℕ × List (Entry C B)). does z.0 before z.1) (λ i. ((view i).under, sym seen i)) did;
      }

  pub session_stays : {is_valid : C → Type 0} {m : CallMeaning C} {told : B → Option Entries} (a b c : PassView (Entry C B)) (under : ℕ) (before after : List (Entry C B)) → IsSession is_valid m told a under → b ≡ having_turn true (having_seen before a)
      → c ≡ having_turn false (having_seen after b) → is_opened after ≡ true → HasLegalBook is_valid m told after → IsSession is_valid m told c under
  session_stays {is_valid} {m} {told} a b c under before after is took gave opened legal =
      let all : c ≡ having_turn false (having_seen after (having_turn true (having_seen before a))) = gave ∙ ap (λ (x : PassView (Entry C B)). having_turn false (having_seen after x)) took in
      subst (λ (x : PassView (Entry C B)). IsSession is_valid m told x under) (sym all) (record { turn = refl; own = is.own; small = is.small; opened = opened; legal = legal })

  -- what holds of two lists holds of the longer one
  pub of_longer : (P : List (Entry C B) → Type 0) (xs ys : List (Entry C B)) → P xs → P ys → P (longer xs ys)
  of_longer P xs ys a b = go (nat_lt (length xs) (length ys))
    where
      go : (x : Bool) → P (if x then ys else xs)
      go true = b
      go false = a

  -- the list of a core with a legal book tells one
  pub legal_list : (is_valid : C → Type 0) (m : CallMeaning C) (told : B → Option Entries) (unchanged : B → B → Type 0) (core first : CoreView C B) (drains : Vec Drain Global) → IsDesk unchanged core first drains
      → ((t : Tree) → StandsFor (told core.opening) t → IsBookFrom is_valid m t core.number core.limit core.book) → HasLegalBook is_valid m told (list_of first core.book drains.items)
  legal_list is_valid m told unchanged core first drains desk legal t opens =
      subst (λ (b : Book C). IsBookFrom is_valid m t first.number first.limit b) (sym (list_book first core.book drains.items desk.rise))
      (subst (λ (z : ℕ × ℕ). IsBookFrom is_valid m t z.0 z.1 core.book) (λ i. (desk.number i, desk.limit i)) (legal t (subst (λ (o : B). StandsFor (told o) t) (sym desk.opening) opens)))

  -- ---- closing

  no_book : (has : List Bool) → HasAll has → (es : List (Entry C B)) → SessionsFit (book_of es) → AreForeign number_of has es → book_of es ≡ []
  no_book has all [] f a = refl
  no_book has all (kind.Opening o n l b d ∷ es) f a = no_book has all es f a.1
  no_book has all (kind.Noted n ∷ es) f a = let l = f.0 in absurd (true≢false (sym (all n.session (omega arith)) ∙ a.0))
  no_book has all (kind.Drained k ∷ es) f a = no_book has all es f a.1

  pub book_append : (xs ys : List (Entry C B)) → book_of (xs ++ ys) ≡ book_of xs ++ book_of ys
  book_append [] ys = refl
  book_append (kind.Opening o n l b d ∷ xs) ys = book_append xs ys
  book_append (kind.Noted n ∷ xs) ys = λ i. n ∷ book_append xs ys i
  book_append (kind.Drained k ∷ xs) ys = book_append xs ys

  -- a list that a session with all numbers has seen has the whole book
  pub closed_book : (has : List Bool) (seen list : List (Entry C B)) (book : Book C) → HasAll has → SessionsFit book → book_of list ≡ book → GoesOn number_of has seen list → book ≡ book_of seen
  closed_book has seen list book all fit is g =
      let parts : book_of list ≡ book_of seen ++ book_of g.0 = ap book_of g.1 ∙ book_append seen g.0 in
      let none_left : book_of g.0 ≡ [] = no_book has all g.0 (fit_rest (book_of seen) (book_of g.0) (subst SessionsFit (sym is ∙ parts) fit)) g.2 in
      sym is ∙ parts ∙ (ap (λ (b : Book C). book_of seen ++ b) none_left ∙ append-nil (book_of seen))
    where
      fit_rest : (xs ys : Book C) → SessionsFit (xs ++ ys) → SessionsFit ys
      fit_rest [] ys f = f
      fit_rest (x ∷ xs) ys f = fit_rest xs ys f.1

  no_drain : (has : List Bool) → HasAll has → (k : ℕ) (es : List (Entry C B)) → AreForeign number_of has es → drained_from k es ≡ k
  no_drain has all k [] a = refl
  no_drain has all k (kind.Opening o n l b d ∷ es) a = no_drain has all k es a.1
  no_drain has all k (kind.Noted n ∷ es) a = no_drain has all k es a.1
  no_drain has all k (kind.Drained d ∷ es) a = absurd (true≢false (sym (all 0 (omega arith)) ∙ a.0))

  drained_on : (k : ℕ) (xs ys : List (Entry C B)) → drained_from k (xs ++ ys) ≡ drained_from (drained_from k xs) ys
  drained_on k [] ys = refl
  drained_on k (kind.Opening o n l b d ∷ xs) ys = drained_on k xs ys
  drained_on k (kind.Noted n ∷ xs) ys = drained_on k xs ys
  drained_on k (kind.Drained d ∷ xs) ys = drained_on d xs ys

  pub drained_more : (xs ys : List (Entry C B)) → is_opened xs ≡ true → drained_in (xs ++ ys) ≡ drained_from (drained_in xs) ys
  drained_more [] ys is = cc
  drained_more (kind.Noted n ∷ xs) ys is = cc
  drained_more (kind.Drained k ∷ xs) ys is = cc
  drained_more (kind.Opening o n l b d ∷ xs) ys is = drained_on d xs ys

  -- .. and tells the last commit that was handed out
  pub closed_drained : (has : List Bool) (seen list : List (Entry C B)) → HasAll has → is_opened seen ≡ true → GoesOn number_of has seen list → drained_in list ≡ drained_in seen
  closed_drained has seen list all is g = ap drained_in g.1 ∙ drained_more seen g.0 is ∙ no_drain has all (drained_in seen) g.0 g.2

  -- what a list tells of the opening, that goes on from one which begins with an opening
  pub opened_as : (unchanged : B → B → Type 0) (has : List Bool) (seen : List (Entry C B)) (first core : CoreView C B) (book : Book C) (ds : List Drain) → is_opened seen ≡ true → GoesOn number_of has seen (list_of first book ds)
      → core.opening ≡ first.opening → core.number ≡ first.number → core.limit ≡ first.limit → unchanged first.base core.base → IsOpenedAs unchanged seen core
  opened_as unchanged has [] first core book ds is g a b c d = cc
  opened_as unchanged has (kind.Noted n ∷ es) first core book ds is g a b c d = cc
  opened_as unchanged has (kind.Drained k ∷ es) first core book ds is g a b c d = cc
  opened_as unchanged has (kind.Opening o n l base k ∷ es) first core book ds is g a b c d =
      let opening : Some first.opening ≡ Some o = ap opening_in g.1 in
      let told : Some first.base ≡ Some base = ap base_in g.1 in
      record {
        opening = sym opening ∙ ap Some (sym a);
        number = sym (ap number_in g.1) ∙ sym b;
        limit = sym (ap limit_in g.1) ∙ sym c;
        base = subst (λ x. IfSome x (λ y. unchanged y core.base)) told d;
      }

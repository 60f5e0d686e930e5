-- Members that are made, split, met and joined.
use Rattle.std.proofs.Common.{◌≡◌, ◌≢◌, ⊎_elim, ℕ, zero, suc, ◌<◌, Bool, true, false, List, [], ◌∷◌, ◌++◌, ◌||◌, length, replicate, refl, sym, ap, ◌∙◌, subst, arith, true≢false, lit<}
use Rattle.std.specs.Prelude.{nat_lt, if◌then◌else◌, max, slice_set}
use Rattle.std.proofs.lemmas.List.{append_assoc, append-nil}
use Rattle.atomic_table.specs.Seated.{TableId}
use Rattle.journal.specs.Views.{JournalView}
use Rattle.turn_lock.specs.Turns.{all_numbers, first_pass, GoesOn, HasAll, has_number, having_numbers, having_seen as having_marks, HasSome, longer, merged, only_number}
use Rattle.turn_lock.proofs.Numbers.{all_there, merged_at, or_left, or_right, or_true, still_there, taken_out, there_alone}
use Rattle.shared_store.specs.Lists.{is_opened, number_of}
use Rattle.shared_store.specs.Sessions.{having_seen, SessionView}
use Rattle.shared_store.specs.declared.desk.Entry.{Entry}
use Rattle.group_commit.specs.Marks.{durable_in, marked_by}
use Rattle.group_commit.specs.Members.{GoesOnIn, Marks, MarksPass, MemberView}
use Rattle.group_commit.specs.declared.mark.Mark.TheVariants as mark
use Rattle.group_commit.specs.inside.Scribes.{IsMember}
use Rattle.group_commit.proofs.Belonging.{durable_longer, member}

pub longer_self : {E : Type 0} (xs : List E) → longer xs xs ≡ xs
longer_self xs = go (nat_lt (length xs) (length xs))
  where
    go : (b : Bool) → (if b then xs else xs) ≡ xs
    go true = refl
    go false = refl

-- the number 0 was taken out, and comes back
pub zero_back : (has : List Bool) → HasAll has → merged (slice_set has 0 false) (only_number 0) ≡ has
zero_back [] all = absurd (true≢false (sym (all 0 (lit< tt))))
zero_back (x ∷ xs) all = λ i. first (all 0 (lit< tt)) i ∷ rest 64 xs (λ n l. all (suc n) (omega (arith, l))) i
  where
    first : x ≡ true → true ≡ x
    first e = sym e

    or_false : (y : Bool) → (y || false) ≡ y
    or_false true = refl
    or_false false = refl

    rest : (k : ℕ) (ys : List Bool) → ((n : ℕ) → n < k → has_number ys n ≡ true) → merged ys (replicate k false) ≡ ys
    rest zero [] some = refl
    rest zero (y ∷ ys) some = refl
    rest (suc k) [] some = absurd (true≢false (sym (some 0 (omega arith))))
    rest (suc k) (y ∷ ys) some = λ i. or_false y i ∷ rest k ys (λ n l. some (suc n) (omega (arith, l))) i

pub merged_numbers : (s t p q : List Bool) → ((n : ℕ) → n < 65 → has_number s n ≡ true → has_number p n ≡ true) → ((n : ℕ) → n < 65 → has_number t n ≡ true → has_number q n ≡ true) → (n : ℕ) → n < 65 → has_number (merged s t) n ≡ true → has_number (merged p q) n ≡ true
merged_numbers s t p q one two n l own =
    merged_at p q n ∙ ⊎_elim
    (λ a. or_left (has_number p n) (has_number q n) (one n l a))
    (λ b. or_right (has_number p n) (has_number q n) (two n l b))
    (or_true (has_number s n) (has_number t n) (sym (merged_at s t n) ∙ own))

module _ {C B : Type 0} where
  -- the first member
  pub first_member : (first q : SessionView C B) (p : MarksPass C B) (l : TableId) (j : JournalView) → is_opened first.seen ≡ true → first.under < 65 → q ≡ record { lock = first.lock; seen = first.seen; has = slice_set first.has 0 false; under = first.under } → p ≡ first_pass l (mark.Opening first j ∷ [])
      → IsMember (member q p) 0
  first_member first q p l j opened small same made = record {
    turn = ap (λ (x : MarksPass C B). x.turn) made;
    own = ap (λ (x : MarksPass C B). has_number x.has q.under) made ∙ (ap (λ (v : SessionView C B). has_number all_numbers v.under) same ∙ all_there first.under small);
    numbers = λ n l own. ap (λ (x : MarksPass C B). has_number x.has n) made ∙ all_there n l;
    opening = record {
      first = first;
      journal = j;
      marks = [];
      seen = ap (λ (x : MarksPass C B). x.seen) made;
      lock = sym (ap (λ (v : SessionView C B). v.lock) same);
      opened = opened;
      more = [];
      grown = ap (λ (v : SessionView C B). v.seen) same ∙ sym (append-nil first.seen);
    };
    known = sym (ap (λ (x : MarksPass C B). durable_in x.seen) made);
  }

  -- ---- split

  module _ (s : SessionView C B) (p : MarksPass C B) (k : ℕ) (is : IsMember (member s p) k) (number : ℕ) (small : number < 65) where
    pub another_left : s.under ≢ number → HasSome (slice_set p.has number false)
    another_left other = (s.under, still_there p.has number s.under other is.own)

    pub kept_member : (t : SessionView C B) (q : MarksPass C B) → s.under ≢ number → t ≡ record { lock = s.lock; seen = s.seen; has = slice_set s.has number false; under = s.under } → q ≡ having_numbers (slice_set p.has number false) p → IsMember (member t q) k
    kept_member t q other st pq = record {
      turn = ap (λ (x : MarksPass C B). x.turn) pq ∙ is.turn;
      own = ap (λ (x : MarksPass C B). has_number x.has t.under) pq ∙ (ap (λ (v : SessionView C B). has_number (slice_set p.has number false) v.under) st ∙ still_there p.has number s.under other is.own);
      numbers = λ n l own.
          let was = taken_out s.has number n (sym (ap (λ (v : SessionView C B). has_number v.has n) st) ∙ own) in
          ap (λ (x : MarksPass C B). has_number x.has n) pq ∙ still_there p.has number n was.0 (is.numbers n l was.1);
      opening = record {
        first = is.opening.first;
        journal = is.opening.journal;
        marks = is.opening.marks;
        seen = ap (λ (x : MarksPass C B). x.seen) pq ∙ is.opening.seen;
        lock = is.opening.lock ∙ sym (ap (λ (v : SessionView C B). v.lock) st);
        opened = is.opening.opened;
        more = is.opening.more;
        grown = ap (λ (v : SessionView C B). v.seen) st ∙ is.opening.grown;
      };
      known = is.known ∙ sym (ap (λ (x : MarksPass C B). durable_in x.seen) pq);
    }

    pub given_member : (t : SessionView C B) (q : MarksPass C B) → t ≡ record { lock = s.lock; seen = s.seen; has = only_number number; under = number } → q ≡ having_numbers (only_number number) p → IsMember (member t q) k
    given_member t q st pq = record {
      turn = ap (λ (x : MarksPass C B). x.turn) pq ∙ is.turn;
      own = ap (λ (x : MarksPass C B). has_number x.has t.under) pq ∙ (ap (λ (v : SessionView C B). has_number (only_number number) v.under) st ∙ there_alone number small);
      numbers = λ n l own. ap (λ (x : MarksPass C B). has_number x.has n) pq ∙ (sym (ap (λ (v : SessionView C B). has_number v.has n) st) ∙ own);
      opening = record {
        first = is.opening.first;
        journal = is.opening.journal;
        marks = is.opening.marks;
        seen = ap (λ (x : MarksPass C B). x.seen) pq ∙ is.opening.seen;
        lock = is.opening.lock ∙ sym (ap (λ (v : SessionView C B). v.lock) st);
        opened = is.opening.opened;
        more = is.opening.more;
        grown = ap (λ (v : SessionView C B). v.seen) st ∙ is.opening.grown;
      };
      known = is.known ∙ sym (ap (λ (x : MarksPass C B). durable_in x.seen) pq);
    }

  -- ---- meet and join

  -- it saw more of both lists, and may have more numbers
  pub met_member : (s t : SessionView C B) (p q : MarksPass C B) (k l : ℕ) (hs : List Bool) (hp : List Bool) → IsMember (member s p) k → GoesOn number_of hs s.seen t.seen → GoesOn marked_by hp p.seen q.seen → t.lock ≡ s.lock → t.under ≡ s.under → q.turn ≡ false
      → ((n : ℕ) → has_number p.has n ≡ true → has_number q.has n ≡ true) → ((n : ℕ) → n < 65 → has_number t.has n ≡ true → has_number q.has n ≡ true) → l ≡ durable_in q.seen → IsMember (member t q) l
  met_member s t p q k l hs hp is gs gp lock under turn more numbers durable = record {
    turn = turn;
    own = ap (has_number q.has) under ∙ more s.under is.own;
    numbers = numbers;
    opening = record {
      first = is.opening.first;
      journal = is.opening.journal;
      marks = is.opening.marks ++ gp.0;
      seen = gp.1 ∙ ap (λ (x : Marks C B). x ++ gp.0) is.opening.seen;
      lock = is.opening.lock ∙ sym lock;
      opened = is.opening.opened;
      more = is.opening.more ++ gs.0;
      grown = gs.1 ∙ (ap (λ (x : List (Entry C B)). x ++ gs.0) is.opening.grown ∙ append_assoc is.opening.first.seen is.opening.more gs.0);
    };
    known = durable;
  }

module _ {C B : Type 0} where
  -- nothing changed
  pub same_member : (s t : SessionView C B) (p q : MarksPass C B) (k : ℕ) → IsMember (member s p) k → t ≡ s → q ≡ p → IsMember (member t q) k
  same_member s t p q k is st pq = subst (λ (v : MemberView C B). IsMember v k) (λ i. member (sym st i) (sym pq i)) is

  module _ (s o t : SessionView C B) (p r q : MarksPass C B) (k l n : ℕ) (is : IsMember (member s p) k) (other : IsMember (member o r) l) (goes : GoesOn number_of s.has s.seen t.seen) (gp : GoesOn marked_by p.has p.seen (longer p.seen r.seen))
      (gr : GoesOn marked_by r.has r.seen (longer p.seen r.seen)) (greater : n ≡ max k l) where
    known_longer : (seen : Marks C B) → seen ≡ longer p.seen r.seen → n ≡ durable_in seen
    known_longer seen e = greater ∙ (durable_longer p.seen r.seen k l p.has r.has is.known other.known gp gr ∙ sym (ap durable_in e))

    -- it met another
    pub member_met : t ≡ having_seen (longer s.seen o.seen) s → q ≡ having_marks (longer p.seen r.seen) p → IsMember (member t q) n
    member_met ts qs =
        let seen : q.seen ≡ longer p.seen r.seen = ap (λ (x : MarksPass C B). x.seen) qs in
        met_member s t p q k n s.has p.has is goes (subst (GoesOn marked_by p.has p.seen) (sym seen) gp) (ap (λ (v : SessionView C B). v.lock) ts) (ap (λ (v : SessionView C B). v.under) ts) (ap (λ (x : MarksPass C B). x.turn) qs ∙ is.turn)
        (λ m own. ap (λ (x : MarksPass C B). has_number x.has m) qs ∙ own)
        (λ m small own. ap (λ (x : MarksPass C B). has_number x.has m) qs ∙ is.numbers m small (sym (ap (λ (v : SessionView C B). has_number v.has m) ts) ∙ own))
        (known_longer q.seen seen)

    -- another was joined to it
    pub member_joined : t ≡ record { lock = s.lock; seen = longer s.seen o.seen; has = merged s.has o.has; under = s.under } → q ≡ having_numbers (merged p.has r.has) (having_marks (longer p.seen r.seen) p) → IsMember (member t q) n
    member_joined ts qs =
        let seen : q.seen ≡ longer p.seen r.seen = ap (λ (x : MarksPass C B). x.seen) qs in
        met_member s t p q k n s.has p.has is goes (subst (GoesOn marked_by p.has p.seen) (sym seen) gp) (ap (λ (v : SessionView C B). v.lock) ts) (ap (λ (v : SessionView C B). v.under) ts) (ap (λ (x : MarksPass C B). x.turn) qs ∙ is.turn)
        (λ m own. ap (λ (x : MarksPass C B). has_number x.has m) qs ∙ (merged_at p.has r.has m ∙ or_left (has_number p.has m) (has_number r.has m) own))
        (λ m small own. ap (λ (x : MarksPass C B). has_number x.has m) qs ∙ merged_numbers s.has o.has p.has r.has is.numbers other.numbers m small (sym (ap (λ (v : SessionView C B). has_number v.has m) ts) ∙ own))
        (known_longer q.seen seen)

  -- both lists of one of them go on
  pub goes_on_in : (s t : SessionView C B) (p q : MarksPass C B) (seen : Marks C B) → q.seen ≡ seen → GoesOn number_of s.has s.seen t.seen → GoesOn marked_by p.has p.seen seen → GoesOnIn (member s p) (member t q)
  goes_on_in s t p q seen same goes marks = record { session = goes; pass = subst (GoesOn marked_by p.has p.seen) (sym same) marks }

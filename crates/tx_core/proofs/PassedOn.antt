-- What transactions have passed is empty in the maps that they see.
use Rattle.std.proofs.Common.{◌≡◌, ℕ, zero, suc, ◌<◌, Bool, true, false, cond, List, [], ◌∷◌, ◌++◌, length, take, get_or, remove, slice_set, if◌then◌else◌, Result, Ok, Err, OnOk, Option, Some, None, ◌==◌, refl, sym, ap, ap₂, subst, ◌∙◌, arith}
use Rattle.std.specs.Prelude.{◌&&◌, ◌||◌, IfSome, is_none}
use Rattle.std.specs.List.{AllByRecursion}
use Rattle.std.specs.Ordering.{nat_cmp}
use Rattle.std.specs.BTreeMap.{get, is_at}
use Rattle.std.specs.Map.{lookup}
use Rattle.std.proofs.lemmas.Option.{none-some, same_Some}
use Rattle.tree_model.specs.Changes.{Rising}
use Rattle.tree_model.specs.Entries as entries
use Rattle.tree_model.specs.Entries.{Entries, Sorted, changed}
use Rattle.tree_model.specs.declared.change.Change.{Change}
use Rattle.tree_model.specs.declared.key.Key.{Key}
use Rattle.tree_model.specs.declared.record.Record.{Record}
use Rattle.tree_model.proofs.Entries.{sorted_changed}
use Rattle.node_seq.specs.ChangeLists.{IsChangeList}
use Rattle.overlays.specs.Layered.{Layered}
use Rattle.overlays.specs.Stretches.{is_in, is_covered, AreEmpty, AreWithin, IsOut}
use Rattle.overlays.specs.Views.{AreEmptyIn, contents_after}
use Rattle.overlays.specs.declared.gaps.Stretch.{Stretch}
use Rattle.overlays.proofs.StretchLaws.{either, or_left, or_right, both_true, covered_more, uncovered_more, own_kept, commit_kept}
use Rattle.tx_core.specs.declared.parts.Parts.{Parts}
use Rattle.tx_core.specs.declared.parts.Passed.{Passed}
use Rattle.tx_core.specs.declared.parts.Seat.{Seat}
use Rattle.tx_core.specs.inside.Passed.{stretches_of, KeepFewer, own_in, seen_at, ArePassed}
use Rattle.tx_core.specs.inside.Standing.{seat_in}
use Rattle.tx_core.proofs.Seats.{is_self}

-- ---- lists

or_assoc : (a b c : Bool) → (a || (b || c)) ≡ ((a || b) || c)
or_assoc true b c = refl
or_assoc false b c = refl

or_turn : (a b c : Bool) → (a || (b || c)) ≡ (b || (a || c))
or_turn true true c = refl
or_turn true false c = refl
or_turn false b c = refl

append_is : (j : Key) (ss rs : List Stretch) → is_covered (ss ++ rs) j ≡ (is_covered ss j || is_covered rs j)
append_is j [] rs = refl
append_is j (s ∷ ss) rs = ap (λ b. is_in s j || b) (append_is j ss rs) ∙ or_assoc (is_in s j) (is_covered ss j) (is_covered rs j)

-- one more session's, or none
more_is : (b : Bool) (j : Key) (ss rs : List Stretch) → is_covered (cond b (ss ++ rs) rs) j ≡ ((b && is_covered ss j) || is_covered rs j)
more_is true j ss rs = append_is j ss rs
more_is false j ss rs = refl

more_within : (b : Bool) (ss rs qs : List Stretch) → AreWithin rs qs → AreWithin (cond b (ss ++ rs) rs) (cond b (ss ++ qs) qs)
more_within b ss rs qs f j h = more_is b j ss qs ∙ either (b && is_covered ss j) (is_covered rs j) (sym (more_is b j ss rs) ∙ h)
    (λ a. or_left (b && is_covered ss j) (is_covered qs j) a)
    (λ a. or_right (b && is_covered ss j) (is_covered qs j) (f j a))

less_within : (b : Bool) (ss rs qs : List Stretch) → AreWithin ss rs → AreWithin (cond b (ss ++ qs) qs) (cond b (rs ++ qs) qs)
less_within true ss rs qs f j h = append_is j rs qs ∙ either (is_covered ss j) (is_covered qs j) (sym (append_is j ss qs) ∙ h)
    (λ a. or_left (is_covered rs j) (is_covered qs j) (f j a))
    (λ a. or_right (is_covered rs j) (is_covered qs j) a)
less_within false ss rs qs f j h = h

pub removed_fewer : (ps : List Passed) (i s : ℕ) → AreWithin (stretches_of (remove ps i) s) (stretches_of ps s)
removed_fewer [] zero s j h = h
removed_fewer [] (suc i) s j h = h
removed_fewer (p ∷ ps) zero s j h = more_is (p.session == s) j p.gaps (stretches_of ps s) ∙ or_right ((p.session == s) && is_covered p.gaps j) (is_covered (stretches_of ps s) j) h
removed_fewer (p ∷ ps) (suc i) s j h = more_within (p.session == s) p.gaps (stretches_of (remove ps i) s) (stretches_of ps s) (removed_fewer ps i s) j h

pub item_within : (ps : List Passed) (i s : ℕ) (d : Passed) → i < length ps → ((get_or ps i d).session == s) ≡ true → AreWithin (get_or ps i d).gaps (stretches_of ps s)
item_within [] i s d l e j h = absurd (omega arith)
item_within (p ∷ ps) zero s d l e j h = more_is (p.session == s) j p.gaps (stretches_of ps s) ∙ or_left ((p.session == s) && is_covered p.gaps j) (is_covered (stretches_of ps s) j) (both_true (p.session == s) (is_covered p.gaps j) e h)
item_within (p ∷ ps) (suc i) s d l e j h =
    more_is (p.session == s) j p.gaps (stretches_of ps s) ∙ or_right ((p.session == s) && is_covered p.gaps j) (is_covered (stretches_of ps s) j) (item_within ps i s d (omega arith) e j h)

skipped : (b : Bool) (j : Key) (ss rs : List Stretch) → b ≡ false → is_covered rs j ≡ false → is_covered (cond b (ss ++ rs) rs) j ≡ false
skipped b j ss rs e h = ap (λ x. is_covered (cond x (ss ++ rs) rs) j) e ∙ h

-- none of the first i is the session's
pub front_out : (j : Key) (ps : List Passed) (i s : ℕ) (d : Passed) → i < length ps → is_covered (stretches_of (take i ps) s) j ≡ false → ((get_or ps i d).session == s) ≡ false
    → is_covered (stretches_of (take (suc i) ps) s) j ≡ false
front_out j [] i s d l h e = absurd (omega arith)
front_out j (p ∷ ps) zero s d l h e = skipped (p.session == s) j p.gaps [] e refl
front_out j (p ∷ ps) (suc i) s d l h e = go (p.session == s) h (λ g. front_out j ps i s d (omega arith) g e)
  where
    go : (b : Bool) → is_covered (cond b (p.gaps ++ stretches_of (take i ps) s) (stretches_of (take i ps) s)) j ≡ false
        → (is_covered (stretches_of (take i ps) s) j ≡ false → is_covered (stretches_of (take (suc i) ps) s) j ≡ false)
        → is_covered (cond b (p.gaps ++ stretches_of (take (suc i) ps) s) (stretches_of (take (suc i) ps) s)) j ≡ false
    go false h f = f h
    go true h f = uncovered_more j p.gaps (stretches_of (take (suc i) ps) s) (left h) (f (right h))
      where
        left : is_covered (p.gaps ++ stretches_of (take i ps) s) j ≡ false → is_covered p.gaps j ≡ false
        left h = none_left (is_covered p.gaps j) (is_covered (stretches_of (take i ps) s) j) (sym (append_is j p.gaps (stretches_of (take i ps) s)) ∙ h)
          where
            none_left : (a b : Bool) → (a || b) ≡ false → a ≡ false
            none_left true b q = q
            none_left false b q = refl

        right : is_covered (p.gaps ++ stretches_of (take i ps) s) j ≡ false → is_covered (stretches_of (take i ps) s) j ≡ false
        right h = none_right (is_covered p.gaps j) (is_covered (stretches_of (take i ps) s) j) (sym (append_is j p.gaps (stretches_of (take i ps) s)) ∙ h)
          where
            none_right : (a b : Bool) → (a || b) ≡ false → b ≡ false
            none_right true b q = cc
            none_right false b q = q

pub same_passed : (ps : List Passed) (i : ℕ) (c d : Passed) → i < length ps → get_or ps i c ≡ get_or ps i d
same_passed [] i c d l = absurd (omega arith)
same_passed (p ∷ ps) zero c d l = refl
same_passed (p ∷ ps) (suc i) c d l = same_passed ps i c d (omega arith)

pub front_same : (ps : List Passed) (i : ℕ) → take i (remove ps i) ≡ take i ps
front_same [] zero = refl
front_same [] (suc i) = refl
front_same (p ∷ ps) zero = refl
front_same (p ∷ ps) (suc i) = ap (λ v. p ∷ v) (front_same ps i)

pushed_is : (j : Key) (ps : List Passed) (p : Passed) (s : ℕ) → is_covered (stretches_of (ps ++ p ∷ []) s) j ≡ (((p.session == s) && is_covered p.gaps j) || is_covered (stretches_of ps s) j)
pushed_is j [] p s = more_is (p.session == s) j p.gaps []
pushed_is j (q ∷ qs) p s =
    more_is (q.session == s) j q.gaps (stretches_of (qs ++ p ∷ []) s)
    ∙ ap (λ b. ((q.session == s) && is_covered q.gaps j) || b) (pushed_is j qs p s)
    ∙ or_turn ((q.session == s) && is_covered q.gaps j) ((p.session == s) && is_covered p.gaps j) (is_covered (stretches_of qs s) j)
    ∙ ap (λ b. ((p.session == s) && is_covered p.gaps j) || b) (sym (more_is (q.session == s) j q.gaps (stretches_of qs s)))

pub pushed_within : (ps : List Passed) (p : Passed) (s : ℕ) → AreWithin (stretches_of (ps ++ p ∷ []) s) (cond (p.session == s) (p.gaps ++ stretches_of ps s) (stretches_of ps s))
pushed_within ps p s j h = more_is (p.session == s) j p.gaps (stretches_of ps s) ∙ sym (pushed_is j ps p s) ∙ h

-- where nothing is added
pub less_than_more : (b : Bool) (ss rs : List Stretch) → AreWithin rs (cond b (ss ++ rs) rs)
less_than_more b ss rs j h = more_is b j ss rs ∙ or_right (b && is_covered ss j) (is_covered rs j) h

-- what is kept again is some of what was taken
pub again_within : (s : ℕ) (old mid new : List Passed) (ss : List Stretch) → KeepFewer mid old → AreWithin ss (stretches_of old s)
    → ((o : ℕ) → AreWithin (stretches_of new o) (cond (s == o) (ss ++ stretches_of mid o) (stretches_of mid o))) → KeepFewer new old
again_within s old mid new ss fewer within kept o j h = go (s == o) refl (kept o j h)
  where
    go : (b : Bool) → (s == o) ≡ b → is_covered (cond b (ss ++ stretches_of mid o) (stretches_of mid o)) j ≡ true → is_covered (stretches_of old o) j ≡ true
    go false e h = fewer o j h
    go true e h = either (is_covered ss j) (is_covered (stretches_of mid o) j) (covered_more j ss (stretches_of mid o) h)
        (λ a. subst (λ u. is_covered (stretches_of old u) j ≡ true) (is_self s o e) (within j a))
        (λ a. fewer o j a)

-- .. and of the session nothing else
pub own_within : (s : ℕ) (mid new : List Passed) (ss : List Stretch) → ((j : Key) → is_covered (stretches_of mid s) j ≡ false)
    → ((o : ℕ) → AreWithin (stretches_of new o) (cond (s == o) (ss ++ stretches_of mid o) (stretches_of mid o))) → AreWithin (stretches_of new s) ss
own_within s mid new ss out kept j h = go (s == s) (kept s j h)
  where
    none : is_covered (stretches_of mid s) j ≡ true → is_covered ss j ≡ true
    none a = let no : false ≡ true = sym (out j) ∙ a in cc

    go : (b : Bool) → is_covered (cond b (ss ++ stretches_of mid s) (stretches_of mid s)) j ≡ true → is_covered ss j ≡ true
    go false h = none h
    go true h = either (is_covered ss j) (is_covered (stretches_of mid s) j) (covered_more j ss (stretches_of mid s) h) (λ a. a) none

-- pushed, or not
pub kept_if : (b : Bool) (new old : List Passed) (p : Passed) → new ≡ (if b then old ++ p ∷ [] else old) → (o : ℕ) → AreWithin (stretches_of new o) (cond (p.session == o) (p.gaps ++ stretches_of old o) (stretches_of old o))
kept_if true new old p is o j h = pushed_within old p o j (ap (λ ps. is_covered (stretches_of ps o) j) (sym is) ∙ h)
kept_if false new old p is o j h = less_than_more (p.session == o) p.gaps (stretches_of old o) j (ap (λ ps. is_covered (stretches_of ps o) j) (sym is) ∙ h)

pub on_ok : {A E P : Type 0} (r : Result A E) → P → OnOk r P
on_ok (Ok x) p = p
on_ok (Err e) p = tt

-- ---- what commits put

both_out : (cs : List Change) (ss rs : List Stretch) → AllByRecursion (IsOut ss) cs → AllByRecursion (IsOut rs) cs → AllByRecursion (IsOut (ss ++ rs)) cs
both_out [] ss rs a b = tt
both_out (c ∷ cs) ss rs a b = (one c.now a.0 b.0, both_out cs ss rs a.1 b.1)
  where
    one : (o : Option Record) → IfSome o (λ r. is_covered ss c.key ≡ false) → IfSome o (λ r. is_covered rs c.key ≡ false) → IfSome o (λ r. is_covered (ss ++ rs) c.key ≡ false)
    one None a b = tt
    one (Some r) a b = uncovered_more c.key ss rs a b

none_out : (cs : List Change) → AllByRecursion (IsOut []) cs
none_out [] = tt
none_out (c ∷ cs) = (one c.now, none_out cs)
  where
    one : (o : Option Record) → IfSome o (λ r. false ≡ false)
    one None = tt
    one (Some r) = refl

pub all_out : (cs : List Change) (ps : List Passed) → AllByRecursion (λ p. AllByRecursion (IsOut p.gaps) cs) ps → (o : ℕ) → AllByRecursion (IsOut (stretches_of ps o)) cs
all_out cs [] h o = none_out cs
all_out cs (p ∷ ps) h o = go (p.session == o) (all_out cs ps h.1 o)
  where
    go : (b : Bool) → AllByRecursion (IsOut (stretches_of ps o)) cs → AllByRecursion (IsOut (cond b (p.gaps ++ stretches_of ps o) (stretches_of ps o))) cs
    go true rest = both_out cs p.gaps (stretches_of ps o) h.0 rest
    go false rest = rest

pub set_within : (ps : List Passed) (i : ℕ) (p d : Passed) → i < length ps → p.session ≡ (get_or ps i d).session → AreWithin p.gaps (get_or ps i d).gaps → KeepFewer (slice_set ps i p) ps
set_within [] i p d l e f o j h = absurd (omega arith)
set_within (q ∷ qs) zero p d l e f o j h =
    less_within (q.session == o) p.gaps q.gaps (stretches_of qs o) f j (subst (λ u. is_covered (cond (u == o) (p.gaps ++ stretches_of qs o) (stretches_of qs o)) j ≡ true) e h)
set_within (q ∷ qs) (suc i) p d l e f o j h = more_within (q.session == o) q.gaps (stretches_of (slice_set qs i p) o) (stretches_of qs o) (set_within qs i p d (omega arith) e f o) j h

pub all_set : (P : Passed → Type 0) (ps : List Passed) (i : ℕ) (p : Passed) → i < length ps → AllByRecursion P (take i ps) → P p → AllByRecursion P (take (suc i) (slice_set ps i p))
all_set P [] i p l h x = absurd (omega arith)
all_set P (q ∷ qs) zero p l h x = (x, tt)
all_set P (q ∷ qs) (suc i) p l h x = (h.0, all_set P qs i p (omega arith) h.1 x)

-- ---- what transactions have changed

pub own_again : (s : ℕ) (seat new : Seat) (old now : ℕ → Option Seat) → old s ≡ Some seat → ((o : ℕ) → now o ≡ cond (s == o) (Some new) (old o)) → new.own ≡ seat.own → (o : ℕ) → own_in (now o) ≡ own_in (old o)
own_again s seat new old now there seats same o = go (s == o) refl
  where
    go : (b : Bool) → (s == o) ≡ b → own_in (now o) ≡ own_in (old o)
    go true e = ap own_in (seats o ∙ ap (λ b. cond b (Some new) (old o)) e) ∙ same ∙ sym (ap own_in (sym (ap old (is_self s o e)) ∙ there))
    go false e = ap own_in (seats o ∙ ap (λ b. cond b (Some new) (old o)) e)

pub own_begun : (s : ℕ) (new : Seat) (old now : ℕ → Option Seat) → old s ≡ None → ((o : ℕ) → now o ≡ cond (s == o) (Some new) (old o)) → new.own ≡ [] → (o : ℕ) → own_in (now o) ≡ own_in (old o)
own_begun s new old now none seats empty o = go (s == o) refl
  where
    go : (b : Bool) → (s == o) ≡ b → own_in (now o) ≡ own_in (old o)
    go true e = ap own_in (seats o ∙ ap (λ b. cond b (Some new) (old o)) e) ∙ empty ∙ sym (ap own_in (sym (ap old (is_self s o e)) ∙ none))
    go false e = ap own_in (seats o ∙ ap (λ b. cond b (Some new) (old o)) e)

-- ---- the core's parts

module _ {C B : Type 0} (told : B → Option Entries) where
  pub seen_same : (p q : Parts C B) → ((o : ℕ) → own_in (seat_in (get nat_cmp q.places o)) ≡ own_in (seat_in (get nat_cmp p.places o)))
      → contents_after q.layers.changes (told q.base) ≡ contents_after p.layers.changes (told p.base) → (o : ℕ) → seen_at told q o ≡ seen_at told p o
  seen_same p q own committed o = ap₂ contents_after (own o) committed

  -- no session sees another map, and of none more is kept
  pub passed_on : (p q : Parts C B) → ((o : ℕ) → seen_at told q o ≡ seen_at told p o) → KeepFewer q.passed.items p.passed.items → ArePassed told p → ArePassed told q
  passed_on p q seen fewer old o es is j h = old o es (sym (seen o) ∙ is) j (fewer o j h)

  pub kept_passed : (p q : Parts C B) → q.places.entries ≡ p.places.entries → q.passed ≡ p.passed → contents_after q.layers.changes (told q.base) ≡ contents_after p.layers.changes (told p.base) → ArePassed told p → ArePassed told q
  kept_passed p q places passed committed =
      passed_on p q (seen_same p q (λ o. ap (λ es. own_in (seat_in (lookup (is_at (nat_cmp o)) es))) places) committed) (λ o j h. ap (λ v. is_covered (stretches_of v.items o) j) (sym passed) ∙ h)

  -- what was taken out is empty in what the transaction sees
  pub taken_empty : (p : Parts C B) (s : ℕ) (seat : Seat) (ss : List Stretch) → seat_in (get nat_cmp p.places s) ≡ Some seat → AreWithin ss (stretches_of p.passed.items s) → ArePassed told p
      → AreEmptyIn ss (contents_after seat.own (contents_after p.layers.changes (told p.base)))
  taken_empty p s seat ss there within old es is j h = old s es (ap (λ x. contents_after (own_in x) (contents_after p.layers.changes (told p.base))) there ∙ is) j (within j h)

  -- a transaction has read
  pub read_passed : (p q : Parts C B) (s : ℕ) (seat : Seat) (mid : List Passed) (ss : List Stretch) → seat_in (get nat_cmp p.places s) ≡ Some seat
      → q.places ≡ p.places → q.layers ≡ p.layers → told q.base ≡ told p.base
      → KeepFewer mid p.passed.items → ((j : Key) → is_covered (stretches_of mid s) j ≡ false)
      → AreEmptyIn ss (contents_after seat.own (contents_after p.layers.changes (told q.base)))
      → ((o : ℕ) → AreWithin (stretches_of q.passed.items o) (cond (s == o) (ss ++ stretches_of mid o) (stretches_of mid o)))
      → ArePassed told p → ArePassed told q
  read_passed p q s seat mid ss there places layers base fewer out empty kept old o es is j h = go (s == o) refl (kept o j h)
    where
      seen : seen_at told q o ≡ seen_at told p o
      seen = seen_same p q (λ u. ap (λ x. own_in (seat_in (get nat_cmp x u))) places) (ap₂ (λ (l : Layered) (c : Option Entries). contents_after l.changes c) layers base) o

      before : is_covered (stretches_of mid o) j ≡ true → is_none (entries.get j es) ≡ true
      before a = old o es (sym seen ∙ is) j (fewer o j a)

      go : (b : Bool) → (s == o) ≡ b → is_covered (cond b (ss ++ stretches_of mid o) (stretches_of mid o)) j ≡ true → is_none (entries.get j es) ≡ true
      go false e a = before a
      go true e a = either (is_covered ss j) (is_covered (stretches_of mid o) j) (covered_more j ss (stretches_of mid o) a)
          (λ x. empty es (ap₂ (λ (cs : List Change) (c : Option Entries). contents_after cs (contents_after p.layers.changes c)) (sym (ap own_in (sym (ap (λ u. seat_in (get nat_cmp p.places u)) (is_self s o e)) ∙ there))) base ∙ sym seen ∙ is) j x)
          before

  -- a transaction has ended
  pub ended_passed : (p q : Parts C B) (s : ℕ) → ((o : ℕ) → seat_in (get nat_cmp q.places o) ≡ cond (s == o) None (seat_in (get nat_cmp p.places o)))
      → q.layers ≡ p.layers → q.base ≡ p.base → KeepFewer q.passed.items p.passed.items → ((j : Key) → is_covered (stretches_of q.passed.items s) j ≡ false)
      → ArePassed told p → ArePassed told q
  ended_passed p q s seats layers base fewer out old o es is j h = go (s == o) refl
    where
      go : (b : Bool) → (s == o) ≡ b → is_none (entries.get j es) ≡ true
      go true e = let no : false ≡ true = sym (out j) ∙ ap (λ u. is_covered (stretches_of q.passed.items u) j) (is_self s o e) ∙ h in cc
      go false e = old o es (sym (ap₂ contents_after (ap own_in (seats o ∙ ap (λ b. cond b None (seat_in (get nat_cmp p.places o))) e)) (ap₂ (λ (l : Layered) (x : B). contents_after l.changes (told x)) layers base)) ∙ is) j (fewer o j h)

  -- a transaction has changed more
  pub laid_passed : (p q : Parts C B) (s : ℕ) (seat new : Seat) (cs : List Change) → seat_in (get nat_cmp p.places s) ≡ Some seat
      → ((o : ℕ) → seat_in (get nat_cmp q.places o) ≡ cond (s == o) (Some new) (seat_in (get nat_cmp p.places o)))
      → q.layers ≡ p.layers → q.base ≡ p.base → ((es : Entries) → told p.base ≡ Some es → Sorted es)
      → Rising cs → ((es : Entries) → Sorted es → changed new.own es ≡ changed cs (changed seat.own es))
      → KeepFewer q.passed.items p.passed.items → AllByRecursion (IsOut (stretches_of q.passed.items s)) cs
      → ArePassed told p → ArePassed told q
  laid_passed p q s seat new cs there seats layers base sorted rise effect fewer out old o es is j h = go (s == o) refl
    where
      committed : contents_after q.layers.changes (told q.base) ≡ contents_after p.layers.changes (told p.base)
      committed = ap₂ (λ (l : Layered) (x : B). contents_after l.changes (told x)) layers base

      on : (c : Option Entries) → told p.base ≡ c → contents_after new.own (contents_after p.layers.changes c) ≡ Some es → (s ≡ o) → is_none (entries.get j es) ≡ true
      on None e f same = absurd (none-some es f)
      on (Some fs) e f same =
          let low : Entries = changed p.layers.changes fs in
          let order : Sorted low = sorted_changed p.layers.changes fs (sorted fs e) in
          let is_after : changed cs (changed seat.own low) ≡ es = sym (effect low order) ∙ same_Some (changed new.own low) es f in
          let was : AreEmpty (stretches_of p.passed.items s) (changed seat.own low) =
          old s (changed seat.own low) (ap₂ (λ (x : Option Seat) (c : Option Entries). contents_after (own_in x) (contents_after p.layers.changes c)) there e) in
          subst (λ (v : Entries). is_none (entries.get j v) ≡ true) is_after
          (own_kept (stretches_of q.passed.items s) (stretches_of p.passed.items s) cs (changed seat.own low) rise (sorted_changed seat.own low order) (fewer s) out was j
          (subst (λ u. is_covered (stretches_of q.passed.items u) j ≡ true) (sym same) h))

      go : (b : Bool) → (s == o) ≡ b → is_none (entries.get j es) ≡ true
      go true e = on (told p.base) refl (sym (ap₂ contents_after (ap own_in (seats o ∙ ap (λ b. cond b (Some new) (seat_in (get nat_cmp p.places o))) e)) committed) ∙ is) (is_self s o e)
      go false e = old o es (sym (ap₂ contents_after (ap own_in (seats o ∙ ap (λ b. cond b (Some new) (seat_in (get nat_cmp p.places o))) e)) committed) ∙ is) j (fewer o j h)

  -- a transaction was committed
  pub committed_passed : (p q : Parts C B) (s : ℕ) (seat : Seat) (mid : List Passed)
      → ((o : ℕ) → seat_in (get nat_cmp q.places o) ≡ cond (s == o) None (seat_in (get nat_cmp p.places o)))
      → q.base ≡ p.base → ((es : Entries) → told p.base ≡ Some es → Sorted es)
      → ((es : Entries) → Sorted es → changed q.layers.changes es ≡ changed seat.own (changed p.layers.changes es)) → ((o : ℕ) (j : Key) → is_covered (stretches_of q.passed.items o) j ≡ true → IsChangeList seat.own)
      → KeepFewer mid p.passed.items → ((j : Key) → is_covered (stretches_of mid s) j ≡ false)
      → KeepFewer q.passed.items mid → ((o : ℕ) → AllByRecursion (IsOut (stretches_of q.passed.items o)) seat.own)
      → ArePassed told p → ArePassed told q
  committed_passed p q s seat mid seats base sorted effect rise taken ended fewer out old o es is j h = go (s == o) refl
    where
      own : List Change
      own = own_in (seat_in (get nat_cmp p.places o))

      on : (c : Option Entries) → told p.base ≡ c → contents_after own (contents_after q.layers.changes c) ≡ Some es → is_none (entries.get j es) ≡ true
      on None e f = absurd (none-some es f)
      on (Some fs) e f =
          let low : Entries = changed p.layers.changes fs in
          let order : Sorted low = sorted_changed p.layers.changes fs (sorted fs e) in
          let is_after : changed own (changed seat.own low) ≡ es = ap (changed own) (sym (effect fs (sorted fs e))) ∙ same_Some (changed own (changed q.layers.changes fs)) es f in
          let was : AreEmpty (stretches_of p.passed.items o) (changed own low) = old o (changed own low) (ap (λ (c : Option Entries). contents_after own (contents_after p.layers.changes c)) e) in
          subst (λ (v : Entries). is_none (entries.get j v) ≡ true) is_after
          (commit_kept (stretches_of q.passed.items o) (stretches_of p.passed.items o) own seat.own low (rise o j h).rise order (λ k a. taken o k (fewer o k a)) (out o) was j h)

      go : (b : Bool) → (s == o) ≡ b → is_none (entries.get j es) ≡ true
      go true e = let no : false ≡ true = sym (ended j) ∙ ap (λ u. is_covered (stretches_of mid u) j) (is_self s o e) ∙ fewer o j h in cc
      go false e = on (told p.base) refl (sym (ap₂ contents_after (ap own_in (seats o ∙ ap (λ b. cond b None (seat_in (get nat_cmp p.places o))) e)) (ap (λ (x : B). contents_after q.layers.changes (told x)) base)) ∙ is)

  -- nothing is kept
  pub none_passed : (q : Parts C B) → q.passed.items ≡ [] → ArePassed told q
  none_passed q empty o es is j h = let no : false ≡ true = sym (ap (λ ps. is_covered (stretches_of ps o) j) empty) ∙ h in cc

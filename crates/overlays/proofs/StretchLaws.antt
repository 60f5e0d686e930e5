-- Laws of stretches of keys.
use Rattle.std.proofs.Common.{◌≡◌, ℕ, zero, suc, ◌+◌, ◌<◌, ◌≤◌, Bool, true, false, cond, List, [], ◌∷◌, ◌++◌, length, take, get_or, remove, Option, Some, None, Ordering, Less, Equal, Greater, is_lt, is_eq, refl, sym, ap, subst, ◌∙◌, arith}
use Rattle.std.specs.Prelude.{◌&&◌, ◌||◌, not, is_none, IfSome}
use Rattle.std.specs.Ordering.{is_le}
use Rattle.tree_model.specs.declared.key.Key.{Key}
use Rattle.tree_model.specs.declared.record.Record.{Record}
use Rattle.tree_model.specs.Keys.{key_cmp}
use Rattle.tree_model.specs.Orders.{by_order}
use Rattle.tree_model.specs.Entries.{Entries, get}
use Rattle.tree_model.proofs.Keys.{key_total, key_itself, key_turned, key_turned_back, key_tied}
use Rattle.tree_model.proofs.Orders.{ordered, tested, lt_is, eq_is}
use Rattle.overlays.specs.declared.direction.Direction.{Direction}
use Rattle.overlays.specs.declared.direction.Direction.TheVariants.{Up, Down}
use Rattle.overlays.specs.declared.gaps.Stretch.{Stretch}
use Rattle.overlays.specs.Stretches.{is_in, is_covered, AreEmpty, IsEmpty, AreWithin, IsOut}
use Rattle.overlays.specs.Directions.{cmp_toward, Ahead}
use Rattle.overlays.specs.inside.Nearest.{IsNearest}
use Rattle.tree_model.specs.declared.change.Change.{Change}
use Rattle.tree_model.specs.Changes.{Rising, now_at, laid, seen}
use Rattle.tree_model.specs.Entries.{Sorted, set, changed}
use Rattle.tree_model.proofs.ChangeLists.{get_changed_twice, get_changed}
use Rattle.overlays.specs.inside.Nearest.{as_pair, comes_before, LiesAhead}
use Rattle.overlays.specs.Steps.{end_toward, open_ahead, ends_ahead, most_steps}
use Rattle.overlays.specs.inside.Passing.{Skips, meets, with_piece, gone_key, first_gone, entry_put, first_seen, Spans, IsEndOf}
use Rattle.overlays.proofs.Directions.{toward_trans, toward_itself}
use Rattle.overlays.proofs.SeenLaws.{only_base, base_first, put_first, put_validly, left_from, left_falls}
use Rattle.tree_model.proofs.Entries.{get_set, get_set_other, sorted_changed, sorted_set}
use Rattle.tree_model.proofs.SameEntries.{value_is}
use Rattle.std.specs.Option.{option_or}
use Rattle.std.proofs.Common.{Bor, option_copied, inl, inr}
use Rattle.node_seq.specs.ChangeLists.{PutsValidEntry}
use Rattle.node_seq.specs.Reads.{IsEntryOfTrees}
use Rattle.std.specs.List.{AllByRecursion}

-- ---- tests

pub either : {P : Type 0} (a b : Bool) → (a || b) ≡ true → (a ≡ true → P) → (b ≡ true → P) → P
either true b h f g = f refl
either false b h f g = g h

pub or_left : (a b : Bool) → a ≡ true → (a || b) ≡ true
or_left true b h = refl
or_left false b h = cc

pub or_right : (a b : Bool) → b ≡ true → (a || b) ≡ true
or_right true b h = refl
or_right false b h = h

pub or_none : (a b : Bool) → a ≡ false → b ≡ false → (a || b) ≡ false
or_none true b h g = h
or_none false b h g = g

pub first_true : (a b : Bool) → (a && b) ≡ true → a ≡ true
first_true true b h = refl
first_true false b h = h

pub second_true : (a b : Bool) → (a && b) ≡ true → b ≡ true
second_true true b h = h
second_true false b h = cc

pub both_true : (a b : Bool) → a ≡ true → b ≡ true → (a && b) ≡ true
both_true true b h g = g
both_true false b h g = h

pub none_is_none : {A : Type 0} (o : Option A) → is_none o ≡ true → o ≡ None
none_is_none None h = refl
none_is_none (Some x) h = cc

pub is_none_of : {A : Type 0} (o : Option A) → o ≡ None → is_none o ≡ true
is_none_of o h = ap is_none h

-- ---- at most

abbrev pub AtMost : Key → Key → Type 0
AtMost a b = is_le (key_cmp a b) ≡ true

pub less_at_most : (a b : Key) → key_cmp a b ≡ Less → AtMost a b
less_at_most a b h = ap is_le h

pub at_most_self : (a : Key) → AtMost a a
at_most_self a = ap is_le (key_itself a)

-- at most, or greater
pub at_most_or : (P : Type 0) (a b : Key) → (AtMost a b → P) → (key_cmp b a ≡ Less → P) → P
at_most_or P a b f g = ordered P (key_cmp a b) (λ q. f (ap is_le q)) (λ q. f (ap is_le q)) (λ q. g (key_turned_back a b q))

pub at_most_cases : (P : Type 0) (a b : Key) → AtMost a b → (key_cmp a b ≡ Less → P) → (a ≡ b → P) → P
at_most_cases P a b h f g = ordered P (key_cmp a b) f (λ q. g (key_tied a b q)) (λ q. let no : false ≡ true = sym (ap is_le q) ∙ h in cc)

pub at_most_less : (a b c : Key) → AtMost a b → key_cmp b c ≡ Less → key_cmp a c ≡ Less
at_most_less a b c h g = at_most_cases (key_cmp a c ≡ Less) a b h (λ l. key_total.trans a b c l g) (λ e. subst (λ v. key_cmp v c ≡ Less) (sym e) g)

pub less_at_most_less : (a b c : Key) → key_cmp a b ≡ Less → AtMost b c → key_cmp a c ≡ Less
less_at_most_less a b c g h = at_most_cases (key_cmp a c ≡ Less) b c h (λ l. key_total.trans a b c g l) (λ e. subst (λ v. key_cmp a v ≡ Less) e g)

pub at_most_trans : (a b c : Key) → AtMost a b → AtMost b c → AtMost a c
at_most_trans a b c h g = at_most_cases (AtMost a c) a b h (λ l. less_at_most a c (less_at_most_less a b c l g)) (λ e. subst (λ v. AtMost v c) (sym e) g)

pub not_less : (a b : Key) → AtMost a b → is_lt (key_cmp b a) ≡ false
not_less a b h = ordered (is_lt (key_cmp b a) ≡ false) (key_cmp b a)
    (λ q. let no : Greater ≡ key_cmp a b = sym (key_turned b a q) in let f : false ≡ true = ap is_le no ∙ h in cc)
    (λ q. ap is_lt q)
    (λ q. ap is_lt q)

pub at_most_of : (a b : Key) → is_lt (key_cmp b a) ≡ false → AtMost a b
at_most_of a b h = at_most_or (AtMost a b) a b (λ x. x) (λ l. let no : true ≡ false = sym (ap is_lt l) ∙ h in cc)

-- ---- one stretch

pub in_of : (s : Stretch) (k : Key) → AtMost s.first k → AtMost k s.last → is_in s k ≡ true
in_of s k h g = both_true (is_le (key_cmp s.first k)) (is_le (key_cmp k s.last)) h g

pub in_first : (s : Stretch) (k : Key) → is_in s k ≡ true → AtMost s.first k
in_first s k h = first_true (is_le (key_cmp s.first k)) (is_le (key_cmp k s.last)) h

pub in_last : (s : Stretch) (k : Key) → is_in s k ≡ true → AtMost k s.last
in_last s k h = second_true (is_le (key_cmp s.first k)) (is_le (key_cmp k s.last)) h

not_le : (a b : Key) → key_cmp b a ≡ Less → is_le (key_cmp a b) ≡ false
not_le a b h = ap is_le (key_turned b a h)

and_false_left : (a b : Bool) → a ≡ false → (a && b) ≡ false
and_false_left true b h = cc
and_false_left false b h = refl

and_false_right : (a b : Bool) → b ≡ false → (a && b) ≡ false
and_false_right true b h = h
and_false_right false b h = refl

-- what ends before a key, or begins behind it, doesn't have it
pub ends_before : (s : Stretch) (k : Key) → key_cmp s.last k ≡ Less → is_in s k ≡ false
ends_before s k h = and_false_right (is_le (key_cmp s.first k)) (is_le (key_cmp k s.last)) (not_le k s.last h)

pub begins_behind : (s : Stretch) (k : Key) → key_cmp k s.first ≡ Less → is_in s k ≡ false
begins_behind s k h = and_false_left (is_le (key_cmp s.first k)) (is_le (key_cmp k s.last)) (not_le s.first k h)

-- ---- two stretches as one

least_or : (P : Type 0) (a b j : Key) → AtMost (by_order (key_cmp a b) a a b) j → (AtMost a j → P) → (AtMost b j → P) → P
least_or P a b j h f g = by (key_cmp a b) h
  where
    by : (o : Ordering) → AtMost (by_order o a a b) j → P
    by Less m = f m
    by Equal m = f m
    by Greater m = g m

greatest_or : (P : Type 0) (a b j : Key) → AtMost j (by_order (key_cmp a b) b b a) → (AtMost j a → P) → (AtMost j b → P) → P
greatest_or P a b j h f g = by (key_cmp a b) h
  where
    by : (o : Ordering) → AtMost j (by_order o b b a) → P
    by Less m = g m
    by Equal m = g m
    by Greater m = f m

pub whole_within : (a b s : Stretch) → meets a b ≡ true → s.first ≡ by_order (key_cmp a.first b.first) a.first a.first b.first
    → s.last ≡ by_order (key_cmp a.last b.last) b.last b.last a.last → (j : Key) → is_in s j ≡ true → (is_in a j || (is_in b j || false)) ≡ true
whole_within a b s m p q j h =
    let afbl : AtMost a.first b.last = first_true (is_le (key_cmp a.first b.last)) (is_le (key_cmp b.first a.last)) m in
    let bfal : AtMost b.first a.last = second_true (is_le (key_cmp a.first b.last)) (is_le (key_cmp b.first a.last)) m in
    let lo : AtMost (by_order (key_cmp a.first b.first) a.first a.first b.first) j = subst (λ v. AtMost v j) p (in_first s j h) in
    let hi : AtMost j (by_order (key_cmp a.last b.last) b.last b.last a.last) = subst (AtMost j) q (in_last s j h) in
    let Goal = (is_in a j || (is_in b j || false)) ≡ true in
    let in_a : AtMost a.first j → AtMost j a.last → Goal = λ x y. or_left (is_in a j) (is_in b j || false) (in_of a j x y) in
    let in_b : AtMost b.first j → AtMost j b.last → Goal = λ x y. or_right (is_in a j) (is_in b j || false) (or_left (is_in b j) false (in_of b j x y)) in
    at_most_or Goal j a.last
    (λ up. at_most_or Goal a.first j
    (λ low. in_a low up)
    (λ under. least_or Goal a.first b.first j lo (λ low. in_a low up) (λ low. in_b low (less_at_most j b.last (less_at_most_less j a.first b.last under afbl)))))
    (λ over. greatest_or Goal a.last b.last j hi
    (λ up. least_or Goal a.first b.first j lo (λ low. in_a low up) (λ low. let no : is_lt (key_cmp a.last j) ≡ false = not_less j a.last up in let t : true ≡ false = sym (ap is_lt over) ∙ no in cc))
    (λ up. in_b (less_at_most b.first j (at_most_less b.first a.last j bfal over)) up))

-- ---- lists of stretches

pub covered_removed : (j : Key) (ss : List Stretch) (i : ℕ) → is_covered (remove ss i) j ≡ true → is_covered ss j ≡ true
covered_removed j [] zero h = h
covered_removed j [] (suc i) h = h
covered_removed j (s ∷ ss) zero h = or_right (is_in s j) (is_covered ss j) h
covered_removed j (s ∷ ss) (suc i) h = either (is_in s j) (is_covered (remove ss i) j) h
    (λ a. or_left (is_in s j) (is_covered ss j) a)
    (λ b. or_right (is_in s j) (is_covered ss j) (covered_removed j ss i b))

pub covered_item : (j : Key) (ss : List Stretch) (i : ℕ) (d : Stretch) → i < length ss → is_in (get_or ss i d) j ≡ true → is_covered ss j ≡ true
covered_item j [] i d l h = absurd (omega arith)
covered_item j (s ∷ ss) zero d l h = or_left (is_in s j) (is_covered ss j) h
covered_item j (s ∷ ss) (suc i) d l h = or_right (is_in s j) (is_covered ss j) (covered_item j ss i d (omega arith) h)

pub covered_more : (j : Key) (ss rs : List Stretch) → is_covered (ss ++ rs) j ≡ true → (is_covered ss j || is_covered rs j) ≡ true
covered_more j [] rs h = h
covered_more j (s ∷ ss) rs h = either (is_in s j) (is_covered (ss ++ rs) j) h
    (λ a. or_left (is_in s j || is_covered ss j) (is_covered rs j) (or_left (is_in s j) (is_covered ss j) a))
    (λ b. either (is_covered ss j) (is_covered rs j) (covered_more j ss rs b)
    (λ c. or_left (is_in s j || is_covered ss j) (is_covered rs j) (or_right (is_in s j) (is_covered ss j) c))
    (λ c. or_right (is_in s j || is_covered ss j) (is_covered rs j) c))

pub uncovered_more : (j : Key) (ss rs : List Stretch) → is_covered ss j ≡ false → is_covered rs j ≡ false → is_covered (ss ++ rs) j ≡ false
uncovered_more j [] rs h g = g
uncovered_more j (s ∷ ss) rs h g = tested ((is_in s j || is_covered (ss ++ rs) j) ≡ false) (is_in s j)
    (λ q. let no : true ≡ false = sym (or_left (is_in s j) (is_covered ss j) q) ∙ h in cc)
    (λ q. or_none (is_in s j) (is_covered (ss ++ rs) j) q (uncovered_more j ss rs (sym (ap (λ v. v || is_covered ss j) q) ∙ h) g))

-- none of the first i has the key
pub uncovered_front : (j : Key) (ss : List Stretch) (i : ℕ) (d : Stretch) → i < length ss → is_covered (take i ss) j ≡ false → is_in (get_or ss i d) j ≡ false → is_covered (take (suc i) ss) j ≡ false
uncovered_front j [] i d l h g = absurd (omega arith)
uncovered_front j (s ∷ ss) zero d l h g = or_none (is_in s j) false g refl
uncovered_front j (s ∷ ss) (suc i) d l h g = tested ((is_in s j || is_covered (take (suc i) ss) j) ≡ false) (is_in s j)
    (λ q. let no : true ≡ false = sym (or_left (is_in s j) (is_covered (take i ss) j) q) ∙ h in cc)
    (λ q. or_none (is_in s j) (is_covered (take (suc i) ss) j) q (uncovered_front j ss i d (omega arith) (sym (ap (λ v. v || is_covered (take i ss) j) q) ∙ h) g))

pub same_item : (ss : List Stretch) (i : ℕ) (c d : Stretch) → i < length ss → get_or ss i c ≡ get_or ss i d
same_item [] i c d l = absurd (omega arith)
same_item (s ∷ ss) zero c d l = refl
same_item (s ∷ ss) (suc i) c d l = same_item ss i c d (omega arith)

pub front_removed : (ss : List Stretch) (i : ℕ) → take i (remove ss i) ≡ take i ss
front_removed [] zero = refl
front_removed [] (suc i) = refl
front_removed (s ∷ ss) zero = refl
front_removed (s ∷ ss) (suc i) = ap (λ v. s ∷ v) (front_removed ss i)

pub take_whole : (ss : List Stretch) (n : ℕ) → length ss ≤ n → take n ss ≡ ss
take_whole [] zero l = refl
take_whole [] (suc n) l = refl
take_whole (s ∷ ss) zero l = absurd (omega arith)
take_whole (s ∷ ss) (suc n) l = ap (λ v. s ∷ v) (take_whole ss n (omega arith))

-- ---- the walk

pub skips_none : (w : Direction) (k : Key) (ss : List Stretch) → Skips w k ss k
skips_none w k ss = record { covered = λ j a n. let no : true ≡ false = sym (ap is_lt a) ∙ n in cc; beyond = λ j a. a; before = λ j a. a }

pub skips_to : (w : Direction) (k : Key) (ss : List Stretch) (s : Stretch) → is_in s k ≡ true → ((j : Key) → is_in s j ≡ true → is_covered ss j ≡ true) → Skips w k ss (end_toward w s)
skips_to Up k ss s h one = record {
  covered = λ j a n. one j (in_of s j (at_most_trans s.first k j (in_first s k h) (less_at_most k j a)) (at_most_of j s.last n));
  beyond = λ j a. at_most_less k s.last j (in_last s k h) a;
  before = λ j a. less_at_most_less j k s.last a (in_last s k h);
}
skips_to Down k ss s h one = record {
  covered = λ j a n. one j (in_of s j (at_most_of s.first j n) (at_most_trans j k s.last (less_at_most j k a) (in_last s k h)));
  beyond = λ j a. less_at_most_less j s.first k a (in_first s k h);
  before = λ j a. at_most_less s.first k j (in_first s k h) a;
}

-- what is nearest from the end of a stretch is nearest from its keys
pub nearest_skipped : (w : Direction) (k r : Key) (ss : List Stretch) (f : Key → Option Record) → Skips w k ss r → ((j : Key) → is_covered ss j ≡ true → f j ≡ None)
    → (o : Option (Key × Record)) → IsNearest w r f o → IsNearest w k f o
nearest_skipped w k r ss f z empty None n = λ j a. tested (f j ≡ None) (is_lt (cmp_toward w r j)) (λ t. n j (lt_is _ t)) (λ q. empty j (z.covered j a q))
nearest_skipped w k r ss f z empty (Some e) n =
    (z.beyond e.0 n.0, n.1, λ j a b. tested (f j ≡ None) (is_lt (cmp_toward w r j)) (λ t. n.2 j (lt_is _ t) b) (λ q. empty j (z.covered j a q)))

-- ---- what takes out, adds and joins

-- a stretch that was joined with others, and what is left of these
pub joined_within : (whole a b : Stretch) (ss rs : List Stretch) (i : ℕ) → i < length ss → a ≡ get_or ss i a → rs ≡ remove ss i
    → ((j : Key) → is_in whole j ≡ true → (is_in a j || (is_in b j || false)) ≡ true) → AreWithin (whole ∷ rs) (b ∷ ss)
joined_within whole a b ss rs i l at is h j g = either (is_in whole j) (is_covered rs j) g
    (λ t. either (is_in a j) (is_in b j || false) (h j t)
    (λ x. or_right (is_in b j) (is_covered ss j) (covered_item j ss i a l (subst (λ v. is_in v j ≡ true) at x)))
    (λ x. either (is_in b j) false x (λ y. or_left (is_in b j) (is_covered ss j) y) (λ y. cc)))
    (λ t. or_right (is_in b j) (is_covered ss j) (covered_removed j ss i (subst (λ v. is_covered v j ≡ true) is t)))

pub within_trans : (ss rs qs : List Stretch) → AreWithin ss rs → AreWithin rs qs → AreWithin ss qs
within_trans ss rs qs f g j h = g j (f j h)

pub removed_within : (ss : List Stretch) (i : ℕ) → AreWithin (remove ss i) ss
removed_within ss i j h = covered_removed j ss i h

-- one that is added at the end
pub added_within : (s : Stretch) (ss rs : List Stretch) → rs ≡ ss ++ s ∷ [] → AreWithin rs (s ∷ ss)
added_within s ss rs is j h = either (is_covered ss j) (is_in s j || false) (covered_more j ss (s ∷ []) (subst (λ v. is_covered v j ≡ true) is h))
    (λ t. or_right (is_in s j) (is_covered ss j) t)
    (λ t. either (is_in s j) false t (λ u. or_left (is_in s j) (is_covered ss j) u) (λ u. cc))

-- fewer of the others
pub under_within : (s : Stretch) (ss rs : List Stretch) → AreWithin ss rs → AreWithin (s ∷ ss) (s ∷ rs)
under_within s ss rs f j h = either (is_in s j) (is_covered ss j) h (λ t. or_left (is_in s j) (is_covered rs j) t) (λ t. or_right (is_in s j) (is_covered rs j) (f j t))

-- ---- emptiness

pub empty_within : (ss rs : List Stretch) (es : Entries) → AreWithin ss rs → AreEmpty rs es → AreEmpty ss es
empty_within ss rs es f h j g = h j (f j g)

pub empty_more : (s : Stretch) (ss : List Stretch) (es : Entries) → IsEmpty s es → AreEmpty ss es → AreEmpty (s ∷ ss) es
empty_more s ss es f h j g = either (is_in s j) (is_covered ss j) g (f j) (h j)

pub uncovered_within : (j : Key) (ss rs : List Stretch) → AreWithin ss rs → is_covered rs j ≡ false → is_covered ss j ≡ false
uncovered_within j ss rs f h = tested (is_covered ss j ≡ false) (is_covered ss j) (λ t. let no : true ≡ false = sym (f j t) ∙ h in cc) (λ q. q)

-- ---- a stretch that is cut

abbrev pub IsLow : Stretch → Key → Stretch → Type 0
IsLow s k p = (p.first ≡ s.first) × (key_cmp p.last k ≡ Less)

abbrev pub IsHigh : Stretch → Key → Stretch → Type 0
IsHigh s k p = (p.last ≡ s.last) × (key_cmp k p.first ≡ Less)

low_in : (s p : Stretch) (k : Key) → is_in s k ≡ true → IsLow s k p → (j : Key) → is_in p j ≡ true → is_in s j ≡ true
low_in s p k h z j g = in_of s j (subst (λ v. AtMost v j) z.0 (in_first p j g)) (less_at_most j s.last (less_at_most_less j k s.last (at_most_less j p.last k (in_last p j g) z.1) (in_last s k h)))

high_in : (s p : Stretch) (k : Key) → is_in s k ≡ true → IsHigh s k p → (j : Key) → is_in p j ≡ true → is_in s j ≡ true
high_in s p k h z j g = in_of s j (less_at_most s.first j (less_at_most_less s.first p.first j (at_most_less s.first k p.first (in_first s k h) z.1) (in_first p j g))) (subst (AtMost j) z.0 (in_last p j g))

module _ (s : Stretch) (k : Key) (old base : List Stretch) (here : is_in s k ≡ true) (one : (j : Key) → is_in s j ≡ true → is_covered old j ≡ true) where
  pub low_within : (low : Option Stretch) → IfSome low (IsLow s k) → AreWithin base old → AreWithin (with_piece low base) old
  low_within None z f j h = f j h
  low_within (Some p) z f j h = either (is_in p j) (is_covered base j) h (λ t. one j (low_in s p k here z j t)) (λ t. f j t)

  pub high_within : (high : Option Stretch) → IfSome high (IsHigh s k) → AreWithin base old → AreWithin (with_piece high base) old
  high_within None z f j h = f j h
  high_within (Some p) z f j h = either (is_in p j) (is_covered base j) h (λ t. one j (high_in s p k here z j t)) (λ t. f j t)

pub low_out : (s : Stretch) (k : Key) (base : List Stretch) (low : Option Stretch) → IfSome low (IsLow s k) → is_covered base k ≡ false → is_covered (with_piece low base) k ≡ false
low_out s k base None z h = h
low_out s k base (Some p) z h = or_none (is_in p k) (is_covered base k) (ends_before p k z.1) h

pub high_out : (s : Stretch) (k : Key) (base : List Stretch) (high : Option Stretch) → IfSome high (IsHigh s k) → is_covered base k ≡ false → is_covered (with_piece high base) k ≡ false
high_out s k base None z h = h
high_out s k base (Some p) z h = or_none (is_in p k) (is_covered base k) (begins_behind p k z.1) h

-- ---- what a walk finds

-- what is covered isn't seen
pub seen_empty : (ss : List Stretch) (own low : List Change) (es : Entries) → Rising own → Rising low → Sorted es → AreEmpty ss (changed own (changed low es))
    → (j : Key) → is_covered ss j ≡ true → seen (now_at j (laid own low)) (get j es) ≡ None
seen_empty ss own low es r t s h j c = sym (get_changed_twice j own low es r t s) ∙ none_is_none (get j (changed own (changed low es))) (h j c)

some_is : {A : Type 0} (x y : A) → Some x ≡ Some y → x ≡ y
some_is x y e = value_is x y e

pub gone_same : (c : Change) (v : Option Record) (k : Key) → gone_key c v ≡ Some k → c.key ≡ k
gone_same c None k e = some_is c.key k e
gone_same c (Some r) k e = cc

pub gone_none : (c : Change) (v : Option Record) (k : Key) → gone_key c v ≡ Some k → v ≡ None
gone_none c None k e = refl
gone_none c (Some r) k e = cc

gone_now : (w : Direction) (o : Option (Key × Record)) (c : Change) (k : Key) → first_gone w o (Some c) ≡ Some k → (comes_before w o c.key ≡ false) × (gone_key c c.now ≡ Some k)
gone_now w o c k h = tested ((comes_before w o c.key ≡ false) × (gone_key c c.now ≡ Some k)) (comes_before w o c.key)
    (λ t. let no : None ≡ Some k = sym (ap (λ b. cond b None (gone_key c c.now)) t) ∙ h in cc)
    (λ q. (q, sym (ap (λ b. cond b None (gone_key c c.now)) q) ∙ h))

-- the key of the deletion that comes first
pub gone_is : (w : Direction) (at : Key) (m : Key → Option (Option Record)) (o : Option (Key × Record)) (c : Option Change) (k : Key) → IsNearest w at m (as_pair c) → first_gone w o c ≡ Some k
    → IsNearest w at m (Some (k, None)) × (comes_before w o k ≡ false)
gone_is w at m o None k a h = cc
gone_is w at m o (Some c) k a h =
    let now = gone_now w o c k h in
    let same : c.key ≡ k = gone_same c c.now k now.1 in
    let none : c.now ≡ None = gone_none c c.now k now.1 in
    (subst (λ v. IsNearest w at m (Some (v, None))) same (subst (λ (v : Option Record). IsNearest w at m (Some (c.key, v))) none a), subst (λ v. comes_before w o v ≡ false) same now.0)

-- what comes first where that is no deletion
seen_put : (w : Direction) (at : Key) (m : Key → Option (Option Record)) (g : Key → Option Record) (o : Option (Key × Record)) → IsNearest w at g o → (c : Change) (v : Option Record)
    → IsNearest w at m (Some (c.key, v)) → gone_key c v ≡ None → comes_before w o c.key ≡ false → IsNearest w at (λ j. seen (m j) (g j)) (entry_put c v)
seen_put w at m g o n c None a e q = cc
seen_put w at m g o n c (Some r) a e q = put_first w at m g o n c.key r a q

pub seen_is : (w : Direction) (at : Key) (m : Key → Option (Option Record)) (g : Key → Option Record) (o : Option (Key × Record)) → IsNearest w at g o → (c : Option Change) → IsNearest w at m (as_pair c)
    → first_gone w o c ≡ None → IsNearest w at (λ j. seen (m j) (g j)) (first_seen w o c)
seen_is w at m g o n None a h = only_base w at m g o n a
seen_is w at m g o n (Some c) a h = tested (IsNearest w at (λ j. seen (m j) (g j)) (cond (comes_before w o c.key) o (entry_put c c.now))) (comes_before w o c.key)
    (λ t. subst (λ b. IsNearest w at (λ j. seen (m j) (g j)) (cond b o (entry_put c c.now))) (sym t) (base_first w at m g o n (c.key, c.now) a t))
    (λ q. subst (λ b. IsNearest w at (λ j. seen (m j) (g j)) (cond b o (entry_put c c.now))) (sym q) (seen_put w at m g o n c c.now a (sym (ap (λ b. cond b None (gone_key c c.now)) q) ∙ h) q))

valid_put : (at : Key) (cs : List Change) (w : Direction) (c : Change) (v : Option Record) → AllByRecursion PutsValidEntry cs → IsNearest w at (λ j. now_at j cs) (Some (c.key, v)) → IsEntryOfTrees (entry_put c v)
valid_put at cs w c None h a = tt
valid_put at cs w c (Some r) h a = put_validly c.key r cs h a.1

pub seen_valid : (w : Direction) (at : Key) (cs : List Change) (o : Option (Key × Record)) (c : Option Change) → AllByRecursion PutsValidEntry cs → IsNearest w at (λ j. now_at j cs) (as_pair c) → IsEntryOfTrees o → IsEntryOfTrees (first_seen w o c)
seen_valid w at cs o None h a v = v
seen_valid w at cs o (Some c) h a v = tested (IsEntryOfTrees (cond (comes_before w o c.key) o (entry_put c c.now))) (comes_before w o c.key)
    (λ t. subst (λ b. IsEntryOfTrees (cond b o (entry_put c c.now))) (sym t) v)
    (λ q. subst (λ b. IsEntryOfTrees (cond b o (entry_put c c.now))) (sym q) (valid_put at cs w c c.now h a))

put_ahead : (w : Direction) (at : Key) (c : Change) (v : Option Record) → Ahead w at c.key → LiesAhead w at (entry_put c v)
put_ahead w at c None a = tt
put_ahead w at c (Some r) a = a

pub seen_ahead : (w : Direction) (at : Key) (m : Key → Option (Option Record)) (o : Option (Key × Record)) (c : Option Change) → IsNearest w at m (as_pair c) → LiesAhead w at o → LiesAhead w at (first_seen w o c)
seen_ahead w at m o None a v = v
seen_ahead w at m o (Some c) a v = tested (LiesAhead w at (cond (comes_before w o c.key) o (entry_put c c.now))) (comes_before w o c.key)
    (λ t. subst (λ b. LiesAhead w at (cond b o (entry_put c c.now))) (sym t) v)
    (λ q. subst (λ b. LiesAhead w at (cond b o (entry_put c c.now))) (sym q) (put_ahead w at c c.now a.0))

-- each step passes a change
pub step_falls : (w : Direction) (cs : List Change) (o : Option (Key × Record)) (c : Option Change) (k r : Key) (d : Option Change) → first_gone w o c ≡ Some k → ((j : Key) → Ahead w r j → Ahead w k j)
    → IsNearest w r (λ j. now_at j cs) (as_pair d) → left_from w cs d < left_from w cs c
step_falls w cs o None k r d h f n = cc
step_falls w cs o (Some c) k r None h f n = omega arith
step_falls w cs o (Some c) k r (Some d) h f n =
    let same : c.key ≡ k = gone_same c c.now k (gone_now w o c k h).1 in
    let falls = left_falls w c.key d.key d.now cs (subst (λ v. Ahead w v d.key) (sym same) (f d.key n.0)) n.1 in
    omega (arith, falls)

pub or_near : (P : Key → Type 0) (a b : Option (Bor Key)) → IfSome (option_copied a) P → IfSome (option_copied b) P → IfSome (option_copied (option_or a b)) P
or_near P None b h g = g
or_near P (Some x) b h g = h

pub some_on : {A : Type 0} (P Q : A → Type 0) (o : Option A) → ((x : A) → P x → Q x) → IfSome o P → IfSome o Q
some_on P Q None f h = tt
some_on P Q (Some x) f h = f x h

pub nearest_ahead : {V : Type 0} (w : Direction) (at : Key) (f : Key → Option V) (o : Option (Key × V)) → IsNearest w at f o → IfSome o (λ e. Ahead w at e.0)
nearest_ahead w at f None n = tt
nearest_ahead w at f (Some e) n = n.0

-- what was passed before what is found next is empty
pub span_empty : (w : Direction) (k at : Key) (es : Entries) (near : Option Key) (s : Stretch) (o : Option (Key × Record)) → IfSome near (Ahead w k) → Spans w near at s
    → IsNearest w k (λ j. get j es) o → LiesAhead w at o → IsEmpty s es
span_empty w k at es None s o a z n l = absurd z
span_empty Up k at es (Some near) s None a z n l = λ j h. is_none_of (get j es) (n j (less_at_most_less k near j a (subst (λ v. AtMost v j) z.0 (in_first s j h))))
span_empty Down k at es (Some near) s None a z n l = λ j h. is_none_of (get j es) (n j (at_most_less j near k (subst (AtMost j) z.0 (in_last s j h)) a))
span_empty Up k at es (Some near) s (Some e) a z n l = λ j h.
    is_none_of (get j es) (n.2 j (less_at_most_less k near j a (subst (λ v. AtMost v j) z.0 (in_first s j h))) (at_most_less j at e.0 (subst (AtMost j) z.1 (in_last s j h)) l))
span_empty Down k at es (Some near) s (Some e) a z n l = λ j h.
    is_none_of (get j es) (n.2 j (at_most_less j near k (subst (AtMost j) z.0 (in_last s j h)) a) (less_at_most_less e.0 at j l (subst (λ v. AtMost v j) z.1 (in_first s j h))))

-- ---- what puts take out

pub out_within : (c : Change) (ss rs : List Stretch) → AreWithin ss rs → IsOut rs c → IsOut ss c
out_within c ss rs f h = some_on (λ r. is_covered rs c.key ≡ false) (λ r. is_covered ss c.key ≡ false) c.now (λ r. uncovered_within c.key ss rs f) h

pub all_out_within : (cs : List Change) (ss rs : List Stretch) → AreWithin ss rs → AllByRecursion (IsOut rs) cs → AllByRecursion (IsOut ss) cs
all_out_within [] ss rs f h = tt
all_out_within (c ∷ cs) ss rs f h = (out_within c ss rs f h.0, all_out_within cs ss rs f h.1)

pub all_next : (P : Change → Type 0) (c : Change) (cs : List Change) (i : ℕ) → i < length cs → c ≡ get_or cs i c → P c → AllByRecursion P (take i cs) → AllByRecursion P (take (suc i) cs)
all_next P c [] i l is p h = tt
all_next P c (d ∷ ds) zero l is p h = (subst P is p, tt)
all_next P c (d ∷ ds) (suc i) l is p h = (h.0, all_next P c ds i (omega arith) is p h.1)

out_at : (ss : List Stretch) (k : Key) (r : Record) (cs : List Change) → AllByRecursion (IsOut ss) cs → now_at k cs ≡ Some (Some r) → is_covered ss k ≡ false
out_at ss k r [] h q = cc
out_at ss k r (c ∷ cs) h q = tested (is_covered ss k ≡ false) (is_eq (key_cmp k c.key))
    (λ here.
    let now : c.now ≡ Some r = value_is c.now (Some r) (sym (ap (λ b. cond b (Some c.now) (now_at k cs)) here) ∙ q) in
    let out : is_covered ss c.key ≡ false = subst (λ (o : Option Record). IfSome o (λ r. is_covered ss c.key ≡ false)) now h.0 in
    subst (λ j. is_covered ss j ≡ false) (sym (key_tied k c.key (eq_is _ here))) out)
    (λ apart. out_at ss k r cs h.1 (sym (ap (λ b. cond b (Some c.now) (now_at k cs)) apart) ∙ q))

still_none_at : (ss : List Stretch) (j : Key) (cs : List Change) (v : Option (Option Record)) (b : Option Record) → AllByRecursion (IsOut ss) cs → is_covered ss j ≡ true → now_at j cs ≡ v → b ≡ None → seen v b ≡ None
still_none_at ss j cs None b h c q n = n
still_none_at ss j cs (Some None) b h c q n = refl
still_none_at ss j cs (Some (Some r)) b h c q n = let no : true ≡ false = sym c ∙ out_at ss j r cs h q in cc

pub own_kept : (new old : List Stretch) (cs : List Change) (es : Entries) → Rising cs → Sorted es → AreWithin new old → AllByRecursion (IsOut new) cs → AreEmpty old es → AreEmpty new (changed cs es)
own_kept new old cs es r s f h e j c =
    is_none_of (get j (changed cs es)) (get_changed j cs es r s ∙ still_none_at new j cs (now_at j cs) (get j es) h c refl (none_is_none (get j es) (e j (f j c))))

-- where a map has nothing at a key as another has nothing there, so it is after changes of both
still_none_on : (own : List Change) (j : Key) (x y : Entries) → Sorted x → Sorted y → (get j x ≡ None → get j y ≡ None) → get j (changed own x) ≡ None → get j (changed own y) ≡ None
still_none_on [] j x y s t f n = f n
still_none_on (c ∷ cs) j x y s t f n = still_none_on cs j (set c.key c.now x) (set c.key c.now y) (sorted_set c.key c.now x s) (sorted_set c.key c.now y t) one n
  where
    one : get j (set c.key c.now x) ≡ None → get j (set c.key c.now y) ≡ None
    one n = tested (get j (set c.key c.now y) ≡ None) (is_eq (key_cmp j c.key))
        (λ here.
        let same : j ≡ c.key = key_tied j c.key (eq_is _ here) in
        ap (λ k. get k (set c.key c.now y)) same ∙ get_set c.key c.now y t ∙ sym (ap (λ k. get k (set c.key c.now x)) same ∙ get_set c.key c.now x s) ∙ n)
        (λ apart. get_set_other j c.key c.now y apart ∙ f (sym (get_set_other j c.key c.now x apart) ∙ n))

pub commit_kept : (new old : List Stretch) (own cs : List Change) (es : Entries) → Rising cs → Sorted es → AreWithin new old → AllByRecursion (IsOut new) cs
    → AreEmpty old (changed own es) → AreEmpty new (changed own (changed cs es))
commit_kept new old own cs es r s f h e j c =
    is_none_of (get j (changed own (changed cs es)))
    (still_none_on own j es (changed cs es) s (sorted_changed cs es s)
    (λ n. get_changed j cs es r s ∙ still_none_at new j cs (now_at j cs) (get j es) h c refl n)
    (none_is_none (get j (changed own es)) (e j (f j c))))

-- ---- how many steps a walk makes

fewer_if : (b x y z : Bool) → (x ≡ true → z ≡ true) → cond (b && (x && y)) 1 0 ≤ cond (b && (z && y)) 1 0
fewer_if false x y z f = omega arith
fewer_if true false y z f = omega arith
fewer_if true true y z f = subst (λ v. cond y 1 0 ≤ cond (v && y) 1 0) (sym (f refl)) (same (cond y 1 0))
  where
    same : (n : ℕ) → n ≤ n
    same n = omega arith

one_if : (x z : Bool) → (x ≡ true → z ≡ true) → cond x 1 0 ≤ cond z 1 0
one_if false z f = omega arith
one_if true z f = subst (λ v. 1 ≤ cond v 1 0) (sym (f refl)) (omega arith)

lt_on : (w : Direction) (k r j : Key) → ((j : Key) → Ahead w r j → Ahead w k j) → is_lt (cmp_toward w r j) ≡ true → is_lt (cmp_toward w k j) ≡ true
lt_on w k r j f t = ap is_lt (f j (lt_is _ t))

open_less : (w : Direction) (k r : Key) (ss : List Stretch) (cs : List Change) → ((j : Key) → Ahead w r j → Ahead w k j) → open_ahead w r ss cs ≤ open_ahead w k ss cs
open_less w k r ss [] f = omega arith
open_less w k r ss (c ∷ cs) f =
    let rest = open_less w k r ss cs f in
    let one = fewer_if (is_none c.now) (is_lt (cmp_toward w r c.key)) (not (is_covered ss c.key)) (is_lt (cmp_toward w k c.key)) (lt_on w k r c.key f) in
    omega (arith, rest, one)

ends_less : (w : Direction) (k r : Key) (ss : List Stretch) → ((j : Key) → Ahead w r j → Ahead w k j) → ends_ahead w r ss ≤ ends_ahead w k ss
ends_less w k r [] f = omega arith
ends_less w k r (s ∷ ss) f =
    let rest = ends_less w k r ss f in
    let one = one_if (is_lt (cmp_toward w r (end_toward w s))) (is_lt (cmp_toward w k (end_toward w s))) (lt_on w k r (end_toward w s) f) in
    omega (arith, rest, one)

pub steps_less : (w : Direction) (k r : Key) (ss : List Stretch) (cs : List Change) → ((j : Key) → Ahead w r j → Ahead w k j) → most_steps w r ss cs ≤ most_steps w k ss cs
steps_less w k r ss cs f = let o = open_less w k r ss cs f in let e = ends_less w k r ss f in omega (arith, o, e)

counts_one : (a b c : Bool) → a ≡ true → b ≡ true → c ≡ true → 1 ≤ cond (a && (b && c)) 1 0
counts_one a b c h g i = one_if true (a && (b && c)) (λ _. both_true a (b && c) h (both_true b c g i))

one_none : (x : Bool) → x ≡ false → cond x 1 0 ≤ 0
one_none true h = cc
one_none false h = omega arith

counts_none : (a b c : Bool) → b ≡ false → cond (a && (b && c)) 1 0 ≤ 0
counts_none a b c h = one_none (a && (b && c)) (and_false_right a (b && c) (and_false_left b c h))

pub open_falls : (w : Direction) (k r gone : Key) (ss : List Stretch) (cs : List Change) → ((j : Key) → Ahead w r j → Ahead w k j) → now_at gone cs ≡ Some None → is_covered ss gone ≡ false
    → Ahead w k gone → is_lt (cmp_toward w r gone) ≡ false → open_ahead w r ss cs + 1 ≤ open_ahead w k ss cs
open_falls w k r gone ss [] f h o a n = cc
open_falls w k r gone ss (c ∷ cs) f h o a n = tested (open_ahead w r ss (c ∷ cs) + 1 ≤ open_ahead w k ss (c ∷ cs)) (is_eq (key_cmp gone c.key))
    (λ e.
    let same : gone ≡ c.key = key_tied gone c.key (eq_is _ e) in
    let now : c.now ≡ None = value_is c.now None (sym (ap (λ b. cond b (Some c.now) (now_at gone cs)) e) ∙ h) in
    let rest = open_less w k r ss cs f in
    let there = counts_one (is_none c.now) (is_lt (cmp_toward w k c.key)) (not (is_covered ss c.key)) (ap is_none now) (ap is_lt (subst (Ahead w k) same a)) (ap (λ v. not (is_covered ss v)) (sym same) ∙ ap not o) in
    let here = counts_none (is_none c.now) (is_lt (cmp_toward w r c.key)) (not (is_covered ss c.key)) (ap (λ v. is_lt (cmp_toward w r v)) (sym same) ∙ n) in
    omega (arith, rest, there, here))
    (λ e.
    let rest = open_falls w k r gone ss cs f (sym (ap (λ b. cond b (Some c.now) (now_at gone cs)) e) ∙ h) o a n in
    let one = fewer_if (is_none c.now) (is_lt (cmp_toward w r c.key)) (not (is_covered ss c.key)) (is_lt (cmp_toward w k c.key)) (lt_on w k r c.key f) in
    omega (arith, rest, one))

ends_fall : (w : Direction) (k r : Key) (ss : List Stretch) → ((j : Key) → Ahead w r j → Ahead w k j) → IsEndOf w r ss → Ahead w k r → ends_ahead w r ss + 1 ≤ ends_ahead w k ss
ends_fall w k r [] f e a = absurd e
ends_fall w k r (s ∷ ss) f (inl q) a =
    let rest = ends_less w k r ss f in
    let there = one_if true (is_lt (cmp_toward w k (end_toward w s))) (λ _. ap is_lt (subst (Ahead w k) (sym q) a)) in
    let here = one_none (is_lt (cmp_toward w r (end_toward w s))) (ap is_lt (ap (cmp_toward w r) q ∙ toward_itself w r)) in
    omega (arith, rest, there, here)
ends_fall w k r (s ∷ ss) f (inr e) a =
    let rest = ends_fall w k r ss f e a in
    let one = one_if (is_lt (cmp_toward w r (end_toward w s))) (is_lt (cmp_toward w k (end_toward w s))) (lt_on w k r (end_toward w s) f) in
    omega (arith, rest, one)

-- each step passes an open deletion, or to the end of a stretch
pub steps_fall : (w : Direction) (k gone r : Key) (ss : List Stretch) (cs : List Change) → Ahead w k gone → now_at gone cs ≡ Some None → ((j : Key) → Ahead w r j → Ahead w gone j)
    → ((j : Key) → Ahead w j gone → Ahead w j r) → (is_covered ss gone ≡ true → IsEndOf w r ss) → most_steps w r ss cs + 1 ≤ most_steps w k ss cs
steps_fall w k gone r ss cs a h f before end =
    let on : (j : Key) → Ahead w r j → Ahead w k j = λ j b. toward_trans w k gone j a (f j b) in
    tested (most_steps w r ss cs + 1 ≤ most_steps w k ss cs) (is_covered ss gone)
    (λ t. let o = open_less w k r ss cs on in let e = ends_fall w k r ss on (end t) (before k a) in omega (arith, o, e))
    (λ q.
    let past : is_lt (cmp_toward w r gone) ≡ false = tested (is_lt (cmp_toward w r gone) ≡ false) (is_lt (cmp_toward w r gone)) (λ t. let no : true ≡ false = sym (ap is_lt (f gone (lt_is _ t))) ∙ ap is_lt (toward_itself w gone) in cc) (λ x. x) in
    let o = open_falls w k r gone ss cs on h q a past in let e = ends_less w k r ss on in omega (arith, o, e))

pub end_of_item : (w : Direction) (ss : List Stretch) (i : ℕ) (s : Stretch) → i < length ss → s ≡ get_or ss i s → IsEndOf w (end_toward w s) ss
end_of_item w [] i s l h = absurd (omega arith)
end_of_item w (r ∷ ss) zero s l h = inl (ap (end_toward w) (sym h))
end_of_item w (r ∷ ss) (suc i) s l h = inr (end_of_item w ss i s (omega arith) h)

-- ---- nothing is lost

least_first : (a b : Key) → AtMost (by_order (key_cmp a b) a a b) a
least_first a b = elim (key_cmp a b) as (λ o. key_cmp a b ≡ o → AtMost (by_order o a a b) a) [ Less ↦ λ _. at_most_self a | Equal ↦ λ _. at_most_self a | Greater ↦ λ q. less_at_most b a (key_turned_back a b q) ] refl

least_second : (a b : Key) → AtMost (by_order (key_cmp a b) a a b) b
least_second a b = elim (key_cmp a b) as (λ o. key_cmp a b ≡ o → AtMost (by_order o a a b) b) [ Less ↦ λ q. less_at_most a b q | Equal ↦ λ q. ap is_le q | Greater ↦ λ _. at_most_self b ] refl

greatest_first : (a b : Key) → AtMost a (by_order (key_cmp a b) b b a)
greatest_first a b = elim (key_cmp a b) as (λ o. key_cmp a b ≡ o → AtMost a (by_order o b b a)) [ Less ↦ λ q. less_at_most a b q | Equal ↦ λ q. ap is_le q | Greater ↦ λ _. at_most_self a ] refl

greatest_second : (a b : Key) → AtMost b (by_order (key_cmp a b) b b a)
greatest_second a b = elim (key_cmp a b) as (λ o. key_cmp a b ≡ o → AtMost b (by_order o b b a)) [ Less ↦ λ _. at_most_self b | Equal ↦ λ _. at_most_self b | Greater ↦ λ q. less_at_most b a (key_turned_back a b q) ] refl

pub whole_has : (a b s : Stretch) → s.first ≡ by_order (key_cmp a.first b.first) a.first a.first b.first → s.last ≡ by_order (key_cmp a.last b.last) b.last b.last a.last
    → (j : Key) → (is_in a j || (is_in b j || false)) ≡ true → is_in s j ≡ true
whole_has a b s p q j h = either (is_in a j) (is_in b j || false) h
    (λ t. in_of s j (at_most_trans s.first a.first j (subst (λ v. AtMost v a.first) (sym p) (least_first a.first b.first)) (in_first a j t))
    (at_most_trans j a.last s.last (in_last a j t) (subst (AtMost a.last) (sym q) (greatest_first a.last b.last))))
    (λ u. either (is_in b j) false u
    (λ t. in_of s j (at_most_trans s.first b.first j (subst (λ v. AtMost v b.first) (sym p) (least_second a.first b.first)) (in_first b j t))
    (at_most_trans j b.last s.last (in_last b j t) (subst (AtMost b.last) (sym q) (greatest_second a.last b.last))))
    (λ t. cc))

pub covered_parted : (j : Key) (ss : List Stretch) (i : ℕ) (d : Stretch) → i < length ss → is_covered ss j ≡ true → (is_in (get_or ss i d) j || is_covered (remove ss i) j) ≡ true
covered_parted j [] i d l h = cc
covered_parted j (s ∷ ss) zero d l h = h
covered_parted j (s ∷ ss) (suc i) d l h = either (is_in s j) (is_covered ss j) h
    (λ a. or_right (is_in (get_or ss i d) j) (is_in s j || is_covered (remove ss i) j) (or_left (is_in s j) (is_covered (remove ss i) j) a))
    (λ b. either (is_in (get_or ss i d) j) (is_covered (remove ss i) j) (covered_parted j ss i d (omega arith) b)
    (λ c. or_left (is_in (get_or ss i d) j) (is_in s j || is_covered (remove ss i) j) c)
    (λ c. or_right (is_in (get_or ss i d) j) (is_in s j || is_covered (remove ss i) j) (or_right (is_in s j) (is_covered (remove ss i) j) c)))

pub joined_whole : (whole a b : Stretch) (ss rs : List Stretch) (i : ℕ) → i < length ss → a ≡ get_or ss i a → rs ≡ remove ss i
    → ((j : Key) → (is_in a j || (is_in b j || false)) ≡ true → is_in whole j ≡ true) → AreWithin (b ∷ ss) (whole ∷ rs)
joined_whole whole a b ss rs i l at is h j g = either (is_in b j) (is_covered ss j) g
    (λ t. or_left (is_in whole j) (is_covered rs j) (h j (or_right (is_in a j) (is_in b j || false) (or_left (is_in b j) false t))))
    (λ t. either (is_in (get_or ss i a) j) (is_covered (remove ss i) j) (covered_parted j ss i a l t)
    (λ x. or_left (is_in whole j) (is_covered rs j) (h j (or_left (is_in a j) (is_in b j || false) (subst (λ v. is_in v j ≡ true) (sym at) x))))
    (λ x. or_right (is_in whole j) (is_covered rs j) (subst (λ v. is_covered v j ≡ true) (sym is) x)))

covered_left : (j : Key) (ss rs : List Stretch) → is_covered ss j ≡ true → is_covered (ss ++ rs) j ≡ true
covered_left j [] rs h = cc
covered_left j (s ∷ ss) rs h = either (is_in s j) (is_covered ss j) h (λ a. or_left (is_in s j) (is_covered (ss ++ rs) j) a) (λ b. or_right (is_in s j) (is_covered (ss ++ rs) j) (covered_left j ss rs b))

covered_last : (j : Key) (ss : List Stretch) (s : Stretch) → is_in s j ≡ true → is_covered (ss ++ s ∷ []) j ≡ true
covered_last j [] s h = or_left (is_in s j) false h
covered_last j (r ∷ ss) s h = or_right (is_in r j) (is_covered (ss ++ s ∷ []) j) (covered_last j ss s h)

pub added_whole : (s : Stretch) (ss rs : List Stretch) → rs ≡ ss ++ s ∷ [] → AreWithin (s ∷ ss) rs
added_whole s ss rs is j h = subst (λ v. is_covered v j ≡ true) (sym is) (either (is_in s j) (is_covered ss j) h (covered_last j ss s) (covered_left j ss (s ∷ [])))

pub in_piece : (gone : Option Stretch) (j : Key) (ss : List Stretch) → is_covered ss j ≡ true → is_covered (with_piece gone ss) j ≡ true
in_piece None j ss h = h
in_piece (Some p) j ss h = or_right (is_in p j) (is_covered ss j) h

pub piece_on : (gone : Option Stretch) (ss rs : List Stretch) → AreWithin ss rs → AreWithin (with_piece gone ss) (with_piece gone rs)
piece_on None ss rs f = f
piece_on (Some p) ss rs f = under_within p ss rs f

-- what a note keeps of the others
pub note_kept : (whole stretch : Stretch) (gone : Option Stretch) (old joined made new : List Stretch) → AreWithin (stretch ∷ old) (whole ∷ joined) → AreWithin joined (with_piece gone made) → AreWithin (whole ∷ made) new
    → AreWithin old (with_piece gone new)
note_kept whole stretch gone old joined made new f g h j c = either (is_in whole j) (is_covered joined j) (f j (or_right (is_in stretch j) (is_covered old j) c))
    (λ t. in_piece gone j new (h j (or_left (is_in whole j) (is_covered made j) t)))
    (λ t. piece_on gone made new (λ i u. h i (or_right (is_in whole i) (is_covered made i) u)) j (g j t))

-- what is taken out, and the others
pub removed_parts : (ss : List Stretch) (i : ℕ) (s : Stretch) → i < length ss → s ≡ get_or ss i s → AreWithin ss (s ∷ remove ss i)
removed_parts ss i s l at j h = subst (λ (v : Stretch). (is_in v j || is_covered (remove ss i) j) ≡ true) (sym at) (covered_parted j ss i s l h)

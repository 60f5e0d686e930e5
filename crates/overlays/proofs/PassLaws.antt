-- Laws of a walk over deletions: what it passes, what it notes, and how many reads it makes.
use Rattle.std.proofs.Common.{◌≡◌, ℕ, ◌+◌, ◌<◌, ◌≤◌, ◌⊎◌, inl, inr, Bool, true, false, cond, List, [], ◌∷◌, Option, Some, None, is_lt, refl, sym, ap, subst, ◌∙◌, arith}
use Rattle.std.specs.Prelude.{◌||◌, not, IfSome, option_map}
use Rattle.std.specs.Option.{option_or}
use Rattle.tree_model.specs.declared.change.Change.{Change}
use Rattle.tree_model.specs.declared.key.Key.{Key}
use Rattle.tree_model.specs.declared.record.Record.{Record}
use Rattle.tree_model.specs.Keys.{key_cmp}
use Rattle.tree_model.specs.Changes.{Rising, now_at, laid, seen}
use Rattle.tree_model.specs.Entries.{Entries, Sorted, get, changed}
use Rattle.tree_model.proofs.ChangeLists.{get_changed_twice}
use Rattle.tree_model.proofs.Entries.{sorted_changed}
use Rattle.tree_model.proofs.Orders.{tested, lt_is}
use Rattle.tree_model.proofs.SameEntries.{value_is}
use Rattle.overlays.specs.Directions.{cmp_toward, Ahead}
use Rattle.overlays.specs.Stretches.{is_in, is_covered, AreEmpty, IsEmpty, AreWithin}
use Rattle.std.specs.List.{AllByRecursion}
use Rattle.node_seq.specs.ChangeLists.{PutsValidEntry}
use Rattle.node_seq.specs.Reads.{IsKeyOfTrees}
use Rattle.overlays.specs.Steps.{end_toward, ends_ahead, most_steps, NoneOpen}
use Rattle.overlays.specs.declared.direction.Direction.{Direction}
use Rattle.overlays.specs.declared.direction.Direction.TheVariants.{Up, Down}
use Rattle.overlays.specs.declared.gaps.Stretch.{Stretch}
use Rattle.overlays.specs.inside.Nearest.{IsNearest, LiesAhead, KeyLiesAhead, as_pair, entry_beside, comes_before, key_before}
use Rattle.overlays.specs.inside.Passing.{Spans, gone_key, key_gone, key_put, entry_put, first_gone, first_seen, first_key_seen, is_past, with_piece, AllCovered, NoneGone, IsSettled, Sees, SeesKey}
use Rattle.overlays.proofs.Directions.{toward_trans, toward_itself}
use Rattle.overlays.proofs.NearestLaws.{nearest_on, nearest_same, entry_found}
use Rattle.overlays.proofs.SeenLaws.{left_from, left_falls, put_validly}
use Rattle.overlays.proofs.StretchLaws.{AtMost, either, or_left, or_right, at_most_of, less_at_most_less, at_most_less, in_last, in_first, in_of, open_falls, gone_same, gone_none, seen_is, span_empty, nearest_ahead, empty_within, empty_more}

-- ---- directions

not_ahead_itself : (w : Direction) (a : Key) → is_lt (cmp_toward w a a) ≡ false
not_ahead_itself w a = ap is_lt (toward_itself w a)

-- what lies before one that isn't ahead isn't ahead
pub not_ahead : (w : Direction) (a b n : Key) → ((j : Key) → Ahead w b j → Ahead w a j) → is_lt (cmp_toward w a n) ≡ false → is_lt (cmp_toward w b n) ≡ false
not_ahead w a b n f h = tested (is_lt (cmp_toward w b n) ≡ false) (is_lt (cmp_toward w b n)) (λ t. let no : true ≡ false = sym (ap is_lt (f n (lt_is _ t))) ∙ h in cc) (λ q. q)

not_true : (b : Bool) → b ≡ false → not b ≡ true
not_true b h = ap not h

not_false : (b : Bool) → not b ≡ true → b ≡ false
not_false true h = cc
not_false false h = refl

-- ---- the deletion that comes next

pub gone_nearest : (w : Direction) (at : Key) (m : Key → Option (Option Record)) (c : Option Change) (k : Key) → IsNearest w at m (as_pair c) → key_gone c ≡ Some k → IsNearest w at m (Some (k, None))
gone_nearest w at m None k n h = cc
gone_nearest w at m (Some c) k n h =
    subst (λ v. IsNearest w at m (Some (v, None))) (gone_same c c.now k h) (subst (λ (v : Option Record). IsNearest w at m (Some (c.key, v))) (gone_none c c.now k h) n)

pub gone_falls : (w : Direction) (cs : List Change) (c : Option Change) (k r : Key) (d : Option Change) → key_gone c ≡ Some k → ((j : Key) → Ahead w r j → Ahead w k j)
    → IsNearest w r (λ j. now_at j cs) (as_pair d) → left_from w cs d < left_from w cs c
gone_falls w cs None k r d h f n = cc
gone_falls w cs (Some c) k r None h f n = omega arith
gone_falls w cs (Some c) k r (Some d) h f n =
    let falls = left_falls w c.key d.key d.now cs (subst (λ v. Ahead w v d.key) (sym (gone_same c c.now k h)) (f d.key n.0)) n.1 in
    omega (arith, falls)

-- ---- how many reads

pub covered_ends : (w : Direction) (k gone : Key) (ss : List Stretch) → is_covered ss gone ≡ true → Ahead w k gone → 1 ≤ ends_ahead w k ss
covered_ends w k gone [] h a = cc
covered_ends w k gone (s ∷ ss) h a = either (is_in s gone) (is_covered ss gone) h
    (λ t. let one : 1 ≤ cond (is_lt (cmp_toward w k (end_toward w s))) 1 0 = subst (λ v. 1 ≤ cond v 1 0) (sym (ap is_lt (past w s t a))) (omega arith) in omega (arith, one))
    (λ t. let rest = covered_ends w k gone ss t a in omega (arith, rest))
  where
    past : (w : Direction) (s : Stretch) → is_in s gone ≡ true → Ahead w k gone → Ahead w k (end_toward w s)
    past Up s t a = less_at_most_less k gone s.last a (in_last s gone t)
    past Down s t a = at_most_less s.first gone k (in_first s gone t) a

-- where a deletion lies ahead there is a step to make
pub some_steps : (w : Direction) (k gone : Key) (ss : List Stretch) (cs : List Change) → Ahead w k gone → now_at gone cs ≡ Some None → 1 ≤ most_steps w k ss cs
some_steps w k gone ss cs a h = tested (1 ≤ most_steps w k ss cs) (is_covered ss gone)
    (λ t. let e = covered_ends w k gone ss t a in omega (arith, e))
    (λ q. let o = open_falls w k gone gone ss cs (λ j b. toward_trans w k gone j a b) h q a (not_ahead_itself w gone) in omega (arith, o))

-- the last test of the walk reads only where there is a step to make
pub last_reads : (w : Direction) (at : Key) (ss : List Stretch) (cs : List Change) (c : Option Change) (a b : ℕ) → IsNearest w at (λ j. now_at j cs) (as_pair c) → (key_gone c ≡ None → b ≤ a) → b ≤ a + 1 → b ≤ a + most_steps w at ss cs
last_reads w at ss cs None a b n f h = let l = f refl in omega (arith, l)
last_reads w at ss cs (Some c) a b n f h = elim c.now as (λ v. c.now ≡ v → b ≤ a + most_steps w at ss cs) [
  | None ↦ λ q. let one = some_steps w at c.key ss cs n.0 (n.1 ∙ ap Some q) in omega (arith, one, h)
  | Some r ↦ λ q. let l = f (ap (gone_key c) q) in omega (arith, l)
] refl

-- ---- what is noted

pub span_has : (w : Direction) (near : Option Key) (at : Key) (s : Stretch) → Spans w near at s → (j : Key) → is_past w near j ≡ true → is_lt (cmp_toward w at j) ≡ false → is_in s j ≡ true
span_has w None at s z j p q = absurd z
span_has Up (Some n) at s z j p q = in_of s j (subst (λ v. AtMost v j) (sym z.0) (at_most_of n j (not_false (is_lt (key_cmp j n)) p))) (subst (AtMost j) (sym z.1) (at_most_of j at q))
span_has Down (Some n) at s z j p q = in_of s j (subst (λ v. AtMost v j) (sym z.1) (at_most_of at j q)) (subst (AtMost j) (sym z.0) (at_most_of j n (not_false (is_lt (key_cmp n j)) p)))

pub noted_come : (w : Direction) (k at : Key) (near : Option Key) (cs : List Change) (ss : List Stretch) (s : Option Stretch) (steps a b : ℕ) → IfSome s (Spans w near at)
    → (s ≡ None → (near ≡ None) ⊎ (steps ≤ 4)) → (near ≡ None → steps ≡ 0) → (steps ≤ 4 → b ≤ a + (steps + 1))
    → ((j : Key) → Ahead w k j → is_lt (cmp_toward w at j) ≡ false → now_at j cs ≡ Some None → (is_covered ss j || is_past w near j) ≡ true)
    → (b ≤ a + 5) ⊎ AllCovered w k at cs ss (with_piece s [])
noted_come w k at near cs ss None steps a b z few start reads covers = inl (by (few refl))
  where
    by : (near ≡ None) ⊎ (steps ≤ 4) → b ≤ a + 5
    by (inl n) = let none = start n in let r = reads (omega (arith, none)) in omega (arith, none, r)
    by (inr l) = let r = reads l in omega (arith, l, r)
noted_come w k at near cs ss (Some s) steps a b z few start reads covers = inr (λ j x y h o. either (is_covered ss j) (is_past w near j) (covers j x y h)
    (λ t. let no : true ≡ false = sym t ∙ o in cc)
    (λ t. or_left (is_in s j) false (span_has w near at s z j t y)))

pub noted_on : (w : Direction) (k at : Key) (cs : List Change) (ss part new : List Stretch) (a b : ℕ) → (b ≤ a + 5) ⊎ AllCovered w k at cs ss part → AreWithin part new → (b ≤ a + 5) ⊎ AllCovered w k at cs ss new
noted_on w k at cs ss part new a b (inl l) f = inl l
noted_on w k at cs ss part new a b (inr h) f = inr (λ j x y z o. f j (h j x y z o))

pub none_within : (new : List Stretch) → AreWithin [] new
none_within new j h = cc

-- one step further
pub covers_on : (w : Direction) (k at gone r : Key) (near : Option Key) (cs : List Change) (ss : List Stretch)
    → ((j : Key) → Ahead w k j → is_lt (cmp_toward w at j) ≡ false → now_at j cs ≡ Some None → (is_covered ss j || is_past w near j) ≡ true)
    → IfSome near (λ n. is_lt (cmp_toward w at n) ≡ false) → IsNearest w at (λ j. now_at j cs) (Some (gone, None))
    → (j : Key) → Ahead w k j → is_lt (cmp_toward w r j) ≡ false → now_at j cs ≡ Some None → (is_covered ss j || is_past w (option_or near (Some gone)) j) ≡ true
covers_on w k at gone r near cs ss covers reached n j x y h = tested ((is_covered ss j || is_past w (option_or near (Some gone)) j) ≡ true) (is_lt (cmp_toward w at j))
    (λ t. or_right (is_covered ss j) (is_past w (option_or near (Some gone)) j) (behind near reached (lt_is _ t)))
    (λ q. either (is_covered ss j) (is_past w near j) (covers j x q h)
    (λ t. or_left (is_covered ss j) (is_past w (option_or near (Some gone)) j) t)
    (λ t. or_right (is_covered ss j) (is_past w (option_or near (Some gone)) j) (past_on near t)))
  where
    past_on : (near : Option Key) → is_past w near j ≡ true → is_past w (option_or near (Some gone)) j ≡ true
    past_on None t = cc
    past_on (Some m) t = t

    behind : (near : Option Key) → IfSome near (λ n. is_lt (cmp_toward w at n) ≡ false) → Ahead w at j → is_past w (option_or near (Some gone)) j ≡ true
    behind None z b = not_true (is_lt (cmp_toward w j gone)) (tested (is_lt (cmp_toward w j gone) ≡ false) (is_lt (cmp_toward w j gone)) (λ t. let no : None ≡ Some None = sym (n.2 j b (lt_is _ t)) ∙ h in cc) (λ q. q))
    behind (Some m) z b = not_true (is_lt (cmp_toward w j m)) (tested (is_lt (cmp_toward w j m) ≡ false) (is_lt (cmp_toward w j m)) (λ t. let no : true ≡ false = sym (ap is_lt (toward_trans w at j m b (lt_is _ t))) ∙ z in cc) (λ q. q))

pub reached_on : (w : Direction) (at gone r : Key) (near : Option Key) → IfSome near (λ n. is_lt (cmp_toward w at n) ≡ false) → Ahead w at gone → ((j : Key) → Ahead w r j → Ahead w gone j)
    → IfSome (option_or near (Some gone)) (λ n. is_lt (cmp_toward w r n) ≡ false)
reached_on w at gone r None z a f = not_ahead w gone r gone f (not_ahead_itself w gone)
reached_on w at gone r (Some n) z a f = not_ahead w at r n (λ j b. toward_trans w at gone j a (f j b)) z

pub ahead_or : (P : Key → Type 0) (near : Option Key) (gone : Key) → IfSome near P → P gone → IfSome (option_or near (Some gone)) P
ahead_or P None gone h g = g
ahead_or P (Some n) gone h g = h

pub some_near : (near : Option Key) (gone : Key) → option_or near (Some gone) ≡ None → ⊥
some_near None gone h = cc
some_near (Some n) gone h = cc

-- ---- what is found behind

same_pair : (a b : Option Change) → as_pair a ≡ as_pair b → a ≡ b
same_pair None None h = refl
same_pair None (Some d) h = cc
same_pair (Some c) None h = cc
same_pair (Some c) (Some d) h =
    let both = value_is (c.key, c.now) (d.key, d.now) h in
    λ i. Some (record { key = (both i).0; now = (both i).1 })

-- behind the key comes no deletion: by the nearest change
pub settled_at : (w : Direction) (k : Key) (cs : List Change) (es : Entries) (c : Option Change) → IsNearest w k (λ j. now_at j cs) (as_pair c) → first_gone w (entry_beside w k es) c ≡ None → IsSettled w k cs es
settled_at w k cs es c n h d m = ap (first_gone w (entry_beside w k es)) (same_pair d c (nearest_same w k (λ j. now_at j cs) (as_pair d) (as_pair c) m n)) ∙ h

pub none_gone : (w : Direction) (k : Key) (cs : List Change) (o : Option (Key × Record)) (c : Option Change) → IsNearest w k (λ j. now_at j cs) (as_pair c) → first_gone w o c ≡ None
    → NoneGone w k (option_map (λ e. e.0) (first_seen w o c)) cs
none_gone w k cs o None n h = λ j a b g. let no : None ≡ Some None = sym (n j a) ∙ g in cc
none_gone w k cs o (Some c) n h = tested (NoneGone w k (option_map (λ e. e.0) (cond (comes_before w o c.key) o (entry_put c c.now))) cs) (comes_before w o c.key)
    (λ t. subst (λ b. NoneGone w k (option_map (λ e. e.0) (cond b o (entry_put c c.now))) cs) (sym t) (base o t))
    (λ q. subst (λ b. NoneGone w k (option_map (λ e. e.0) (cond b o (entry_put c c.now))) cs) (sym q) (change c.now refl (sym (ap (λ b. cond b None (gone_key c c.now)) q) ∙ h)))
  where
    base : (o : Option (Key × Record)) → comes_before w o c.key ≡ true → NoneGone w k (option_map (λ e. e.0) o) cs
    base None t = cc
    base (Some e) t = λ j a b g. let no : None ≡ Some None = sym (n.2 j a (toward_trans w j e.0 c.key b (lt_is _ t))) ∙ g in cc

    change : (v : Option Record) → c.now ≡ v → gone_key c v ≡ None → NoneGone w k (option_map (λ e. e.0) (entry_put c v)) cs
    change None q g = cc
    change (Some r) q g = λ j a b h. let no : None ≡ Some None = sym (n.2 j a b) ∙ h in cc

pub sees : (w : Direction) (k : Key) (cs : List Change) (es : Entries) (c : Option Change) → Sorted es → IsNearest w k (λ j. now_at j cs) (as_pair c) → IsSettled w k cs es → Sees w k cs es (first_seen w (entry_beside w k es) c)
sees w k cs es c s n h = record {
  nearest = seen_is w k (λ j. now_at j cs) (λ j. get j es) (entry_beside w k es) (entry_found w k es s) c n (h c n);
  none_gone = none_gone w k cs (entry_beside w k es) c n (h c n);
}

-- the same of keys

pub before_same : (w : Direction) (o : Option (Key × Record)) (k : Key) → key_before w (option_map (λ e. e.0) o) k ≡ comes_before w o k
before_same w None k = refl
before_same w (Some e) k = refl

put_same : (c : Change) (v : Option Record) → key_put c v ≡ option_map (λ e. e.0) (entry_put c v)
put_same c None = refl
put_same c (Some r) = refl

pub key_same : (w : Direction) (o : Option (Key × Record)) (c : Option Change) → first_key_seen w (option_map (λ e. e.0) o) c ≡ option_map (λ e. e.0) (first_seen w o c)
key_same w o None = refl
key_same w o (Some c) = elim (comes_before w o c.key) as (λ b. comes_before w o c.key ≡ b → cond (key_before w (option_map (λ e. e.0) o) c.key) (option_map (λ e. e.0) o) (key_put c c.now) ≡ option_map (λ e. e.0) (cond b o (entry_put c c.now))) [
  | true ↦ λ q. ap (λ b. cond b (option_map (λ e. e.0) o) (key_put c c.now)) (before_same w o c.key ∙ q)
  | false ↦ λ q. ap (λ b. cond b (option_map (λ e. e.0) o) (key_put c c.now)) (before_same w o c.key ∙ q) ∙ put_same c c.now
] refl

pub sees_key : (w : Direction) (k : Key) (cs : List Change) (es : Entries) (c : Option Change) → Sorted es → IsNearest w k (λ j. now_at j cs) (as_pair c) → IsSettled w k cs es → SeesKey w k cs es (first_key_seen w (option_map (λ e. e.0) (entry_beside w k es)) c)
sees_key w k cs es c s n h =
    let all = sees w k cs es c s n h in
    record {
      nearest = λ o m. key_same w (entry_beside w k es) c ∙ ap (option_map (λ e. e.0)) (nearest_same w k (λ j. seen (now_at j cs) (get j es)) (first_seen w (entry_beside w k es) c) o all.nearest m);
      none_gone = subst (λ v. NoneGone w k v cs) (sym (key_same w (entry_beside w k es) c)) all.none_gone;
    }

-- ---- what was passed is empty

module _ (w : Direction) (k at : Key) (own low : List Change) (es : Entries) (r : Rising own) (t : Rising low) (s : Sorted es) where
  -- what the map after the changes has beside a key is what is seen there
  pub nearest_seen : IsNearest w at (λ j. seen (now_at j (laid own low)) (get j es)) (entry_beside w at (changed own (changed low es)))
  nearest_seen = nearest_on w at (λ j. get j (changed own (changed low es))) (λ j. seen (now_at j (laid own low)) (get j es)) (entry_beside w at (changed own (changed low es)))
      (λ j _. get_changed_twice j own low es r t s) (entry_found w at (changed own (changed low es)) (sorted_changed own (changed low es) (sorted_changed low es s)))

  pub passed_empty : (near : Option Key) (p : Stretch) → IfSome near (Ahead w k) → Spans w near at p
      → ((o : Option (Key × Record)) → IsNearest w at (λ j. seen (now_at j (laid own low)) (get j es)) o → IsNearest w k (λ j. seen (now_at j (laid own low)) (get j es)) o)
      → IsEmpty p (changed own (changed low es))
  passed_empty near p a z on =
      let o = entry_beside w at (changed own (changed low es)) in
      span_empty w k at (changed own (changed low es)) near p o a z
      (nearest_on w k (λ j. seen (now_at j (laid own low)) (get j es)) (λ j. get j (changed own (changed low es))) o (λ j _. sym (get_changed_twice j own low es r t s)) (on o nearest_seen))
      (nearest_ahead w at (λ j. seen (now_at j (laid own low)) (get j es)) o nearest_seen)

-- ---- all together

pub none_open : (w : Direction) (k at : Key) (found : Option Key) (cs : List Change) (ss new : List Stretch) (a b c : ℕ) → (b ≤ a + 5) ⊎ AllCovered w k at cs ss new → c ≤ b + 1 → NoneGone w at found cs
    → (c ≤ a + 6) ⊎ NoneOpen w k found cs ss new
none_open w k at found cs ss new a b c (inl l) r g = inl (omega (arith, l, r))
none_open w k at found cs ss new a b c (inr h) r g = inr (λ j x y z o. tested (is_covered new j ≡ true) (is_lt (cmp_toward w at j)) (λ t. absurd (g j (lt_is _ t) y z)) (λ q. h j x q z o))

-- a key that is found is one that a valid tree may have

valid_key : (w : Direction) (at : Key) (cs : List Change) (c : Change) (v : Option Record) → AllByRecursion PutsValidEntry cs → IsNearest w at (λ j. now_at j cs) (Some (c.key, v)) → IsKeyOfTrees (key_put c v)
valid_key w at cs c None h a = tt
valid_key w at cs c (Some r) h a = (put_validly c.key r cs h a.1).0

pub key_seen_valid : (w : Direction) (at : Key) (cs : List Change) (o : Option Key) (c : Option Change) → AllByRecursion PutsValidEntry cs → IsNearest w at (λ j. now_at j cs) (as_pair c) → IsKeyOfTrees o → IsKeyOfTrees (first_key_seen w o c)
key_seen_valid w at cs o None h a v = v
key_seen_valid w at cs o (Some c) h a v = tested (IsKeyOfTrees (cond (key_before w o c.key) o (key_put c c.now))) (key_before w o c.key)
    (λ t. subst (λ b. IsKeyOfTrees (cond b o (key_put c c.now))) (sym t) v)
    (λ q. subst (λ b. IsKeyOfTrees (cond b o (key_put c c.now))) (sym q) (valid_key w at cs c c.now h a))

pub empty_with : (p : Option Stretch) (ss new : List Stretch) (es : Entries) → IfSome p (λ s. IsEmpty s es) → AreEmpty ss es → AreWithin new (with_piece p ss) → AreEmpty new es
empty_with None ss new es i e f = empty_within new ss es f e
empty_with (Some s) ss new es i e f = empty_within new (s ∷ ss) es f (empty_more s ss es i e)

-- ---- what comes first lies ahead

entry_ahead : (w : Direction) (k : Key) (c : Change) (r : Option Record) → Ahead w k c.key → LiesAhead w k (entry_put c r)
entry_ahead w k c None h = tt
entry_ahead w k c (Some r) h = h

pub first_ahead : (w : Direction) (k : Key) (f : Key → Option (Option Record)) (o : Option (Key × Record)) (c : Option Change) → IsNearest w k f (as_pair c) → LiesAhead w k o → LiesAhead w k (first_seen w o c)
first_ahead w k f o None n h = h
first_ahead w k f o (Some c) n h = elim (comes_before w o c.key) as (λ b. LiesAhead w k (cond b o (entry_put c c.now))) [
  | true ↦ h
  | false ↦ entry_ahead w k c c.now n.0
]

key_ahead : (w : Direction) (k : Key) (c : Change) (r : Option Record) → Ahead w k c.key → KeyLiesAhead w k (key_put c r)
key_ahead w k c None h = tt
key_ahead w k c (Some r) h = h

pub first_key_ahead : (w : Direction) (k : Key) (f : Key → Option (Option Record)) (o : Option Key) (c : Option Change) → IsNearest w k f (as_pair c) → KeyLiesAhead w k o → KeyLiesAhead w k (first_key_seen w o c)
first_key_ahead w k f o None n h = h
first_key_ahead w k f o (Some c) n h = elim (key_before w o c.key) as (λ b. KeyLiesAhead w k (cond b o (key_put c c.now))) [
  | true ↦ h
  | false ↦ key_ahead w k c c.now n.0
]

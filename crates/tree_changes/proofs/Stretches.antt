-- Maps that differ in one stretch: their differences are those of the stretch.
use Rattle.std.specs.List.{AllByRecursion}
use Rattle.std.specs.Option.{option_or}
use Rattle.std.proofs.Common.{◌≡◌, Less, Equal, List, true, false, cond, [], ◌∷◌, ◌++◌, Option, None, Some, is_eq, refl, sym, ap, subst, ◌∙◌}
use Rattle.tree_model.specs.declared.key.Key.{Key}
use Rattle.tree_model.specs.declared.record.Record.{Record}
use Rattle.tree_model.specs.Keys.{key_cmp}
use Rattle.tree_model.specs.Entries.{Entries, Above, Sorted, get}
use Rattle.tree_model.specs.declared.change.Change.{Change}
use Rattle.tree_model.specs.Changes.{IsBehind, Rising, now_at, difference, differences}
use Rattle.tree_model.proofs.Lists.{all_append, all_behind, all_before, all_on}
use Rattle.tree_model.proofs.Keys.{key_tied, key_itself}
use Rattle.tree_model.proofs.Orders.{eq_is}
use Rattle.tree_model.proofs.Entries.{get_none, sorted_behind}
use Rattle.tree_model.proofs.Differences.{all_differences, at_differences, rising_differences}
use Rattle.tree_model.proofs.ChangeLists.{same_changes}
use Rattle.tree_changes.proofs.ChangeLists.{difference_itself}

-- a key is looked for in one part, and then in the next
pub get_append : (k : Key) (xs ys : Entries) → get k (xs ++ ys) ≡ option_or (get k xs) (get k ys)
get_append k [] ys = refl
get_append k (x ∷ xs) ys = elim (is_eq (key_cmp k x.0)) as (λ b. cond b (Some x.1) (get k (xs ++ ys)) ≡ option_or (cond b (Some x.1) (get k xs))
    (get k ys)) [ true ↦ refl | false ↦ get_append k xs ys ]

-- what stands in the first part of a sorted map doesn't in the second
pub get_apart : (k : Key) (r : Record) (xs ys : Entries) → Sorted (xs ++ ys) → get k xs ≡ Some r → get k ys ≡ None
get_apart k r [] ys s h = cc
get_apart k r (x ∷ xs) ys s h = elim (is_eq (key_cmp k x.0)) as (λ b. is_eq (key_cmp k x.0) ≡ b → cond b (Some x.1) (get k xs) ≡ Some r → get k ys ≡ None) [
  | true ↦ λ e _. get_none k ys (subst (λ j. AllByRecursion (Above j) ys) (sym (key_tied k x.0 (eq_is _ e))) (all_behind (Above x.0) xs ys s.0))
  | false ↦ λ _ g. get_apart k r xs ys s.1 g
] refl h

-- the parts of a sorted map
pub sorted_before : (xs ys : Entries) → Sorted (xs ++ ys) → Sorted xs
sorted_before [] ys s = tt
sorted_before (x ∷ xs) ys s = (all_before (Above x.0) xs ys s.0, sorted_before xs ys s.1)

-- three answers, of which the outer two are the same in both maps
middle : (a m n b : Option Record) → ((r : Record) → a ≡ Some r → (m ≡ None)) → ((r : Record) → a ≡ Some r → n ≡ None) → ((r : Record) → m ≡ Some r → b ≡ None)
    → ((r : Record) → n ≡ Some r → b ≡ None) → difference (option_or a (option_or m b)) (option_or a (option_or n b)) ≡ difference m n
middle (Some r) m n b hm hn om on = difference_itself (Some r) ∙ sym (λ i. difference (hm r refl i) (hn r refl i))
middle None (Some q) None b hm hn om on = ap (λ o. difference (Some q) o) (om q refl)
middle None None (Some q) b hm hn om on = ap (λ o. difference o (Some q)) (on q refl)
middle None (Some q) (Some r) b hm hn om on = refl
middle None None None b hm hn om on = difference_itself b

none_of : (m b : Option Record) → option_or m b ≡ None → m ≡ None
none_of None b h = refl
none_of (Some r) b h = cc

pub differences_between : (a old new b : Entries) → Sorted (a ++ (old ++ b)) → Sorted (a ++ (new ++ b))
    → differences (a ++ (old ++ b)) (a ++ (new ++ b)) ≡ differences old new
differences_between a old new b s t =
    let so : Sorted old = sorted_before old b (sorted_behind a (old ++ b) s) in
    let sn : Sorted new = sorted_before new b (sorted_behind a (new ++ b) t) in
    same_changes (differences (a ++ (old ++ b)) (a ++ (new ++ b))) (differences old new) (rising_differences (a ++ (old ++ b)) (a ++ (new ++ b)) s t)
    (rising_differences old new so sn)
    (λ k. at_differences k (a ++ (old ++ b)) (a ++ (new ++ b)) t
    ∙ (λ i. difference (found k old i) (found k new i))
    ∙ middle (get k a) (get k old) (get k new) (get k b) (λ r h. out k r old s h) (λ r h. out k r new t h)
    (λ r h. get_apart k r old b (sorted_behind a (old ++ b) s) h) (λ r h. get_apart k r new b (sorted_behind a (new ++ b) t) h)
    ∙ sym (at_differences k old new sn))
  where
    found : (k : Key) (m : Entries) → get k (a ++ (m ++ b)) ≡ option_or (get k a) (option_or (get k m) (get k b))
    found k m = get_append k a (m ++ b) ∙ ap (option_or (get k a)) (get_append k m b)

    out : (k : Key) (r : Record) (m : Entries) → Sorted (a ++ (m ++ b)) → get k a ≡ Some r → get k m ≡ None
    out k r m s h = none_of (get k m) (get k b) (sym (get_append k m b) ∙ get_apart k r a (m ++ b) s h)

or_none : {A : Type 0} (o : Option A) → option_or o None ≡ o
or_none None = refl
or_none (Some x) = refl

-- ---- maps in two parts, the keys of the first below those of the second

-- the key of what stands in a map is one of its entries'
pub key_of : (P : Key → Type 0) (k : Key) (r : Record) (es : Entries) → AllByRecursion (λ e. P e.0) es → get k es ≡ Some r → P k
key_of P k r [] h g = cc
key_of P k r (e ∷ es) h g = elim (is_eq (key_cmp k e.0)) as (λ b. is_eq (key_cmp k e.0) ≡ b → cond b (Some e.1) (get k es) ≡ Some r → P k) [
  | true ↦ λ q _. subst P (sym (key_tied k e.0 (eq_is _ q))) h.0
  | false ↦ λ _ q. key_of P k r es h.1 q
] refl g

now_append : (k : Key) (cs ds : List Change) → now_at k (cs ++ ds) ≡ option_or (now_at k cs) (now_at k ds)
now_append k [] ds = refl
now_append k (c ∷ cs) ds = elim (is_eq (key_cmp k c.key)) as (λ b. cond b (Some c.now) (now_at k (cs ++ ds)) ≡ option_or (cond b (Some c.now) (now_at k cs))
    (now_at k ds)) [ true ↦ refl | false ↦ now_append k cs ds ]

rising_both : (cs ds : List Change) → Rising cs → Rising ds → AllByRecursion (λ c. AllByRecursion (IsBehind c.key) ds) cs → Rising (cs ++ ds)
rising_both [] ds s t h = t
rising_both (c ∷ cs) ds s t h = (all_append (IsBehind c.key) cs ds s.0 h.0, rising_both cs ds s.1 t h.1)

module _ (P Q : Key → Type 0) (apart : (j k : Key) → P j → Q k → key_cmp j k ≡ Less) where
  -- no key is one of both parts
  not_both : (k : Key) → P k → Q k → ⊥
  not_both k p q = let less : Less ≡ Equal = sym (apart k k p q) ∙ key_itself k in cc

  pub none_behind : (k : Key) → P k → (b : Entries) → AllByRecursion (λ e. Q e.0) b → get k b ≡ None
  none_behind k p b h = elim (get k b) as (λ o. get k b ≡ o → o ≡ None) [ None ↦ λ _. refl | Some r ↦ λ e. absurd (not_both k p (key_of Q k r b h e)) ] refl

  -- the differences are those of the first parts, and then those of the second
  pub differences_apart : (a c b d : Entries) → AllByRecursion (λ e. P e.0) a → AllByRecursion (λ e. P e.0) c → AllByRecursion (λ e. Q e.0) b
      → AllByRecursion (λ e. Q e.0) d → Sorted a → Sorted c → Sorted b → Sorted d → Sorted (a ++ b) → Sorted (c ++ d)
      → differences (a ++ b) (c ++ d) ≡ differences a c ++ differences b d
  differences_apart a c b d pa pc qb qd sa sc sb sd s t =
      same_changes (differences (a ++ b) (c ++ d)) (differences a c ++ differences b d) (rising_differences (a ++ b) (c ++ d) s t)
      (rising_both (differences a c) (differences b d) (rising_differences a c sa sc) (rising_differences b d sb sd)
      (all_on (λ x. P x.key) (λ x. AllByRecursion (IsBehind x.key) (differences b d))
      (λ x p. all_on (λ y. Q y.key) (IsBehind x.key) (λ y q. apart x.key y.key p q) (differences b d) (all_differences Q b d qb qd)) (differences a c)
      (all_differences P a c pa pc)))
      (λ k. at_differences k (a ++ b) (c ++ d) t
      ∙ (λ i. difference (get_append k a b i) (get_append k c d i))
      ∙ parts k (get k a) (get k c) (get k b) (get k d) refl refl refl refl
      ∙ sym (λ i. option_or (at_differences k a c sc i) (at_differences k b d sd i))
      ∙ sym (now_append k (differences a c) (differences b d)))
    where
      parts : (k : Key) (x y u v : Option Record) → get k a ≡ x → get k c ≡ y → get k b ≡ u → get k d ≡ v
          → difference (option_or x u) (option_or y v) ≡ option_or (difference x y) (difference u v)
      parts k None None u v ex ey eu ev = refl
      parts k (Some r) y u v ex ey eu ev = in_first k (key_of P k r a pa ex) (Some r) y u v eu ev
        where
          in_first : (k : Key) → P k → (x y u v : Option Record) → get k b ≡ u → get k d ≡ v
              → difference (option_or x u) (option_or y v) ≡ option_or (difference x y) (difference u v)
          in_first k p x y u v eu ev = (λ i. difference (option_or x (none_u i)) (option_or y (none_v i))) ∙ (λ i. difference (or_none x i) (or_none y i))
              ∙ sym (or_none (difference x y)) ∙ sym (λ i. option_or (difference x y) (difference (none_u i) (none_v i)))
            where
              none_u : u ≡ None
              none_u = sym eu ∙ none_behind k p b qb

              none_v : v ≡ None
              none_v = sym ev ∙ none_behind k p d qd
      parts k None (Some r) u v ex ey eu ev = in_second k (key_of P k r c pc ey) u v eu ev
        where
          in_second : (k : Key) → P k → (u v : Option Record) → get k b ≡ u → get k d ≡ v
              → difference u (Some r) ≡ option_or (difference None (Some r)) (difference u v)
          in_second k p u v eu ev = ap (λ o. difference o (Some r)) (sym eu ∙ none_behind k p b qb)

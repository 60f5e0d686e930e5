-- Each step of the turn keeps the rule.
use Rattle.std.proofs.Common.{◌≡◌, ◌≢◌, ℕ, Bool, true, false, ◌<◌, ◌≤◌, ◌⊎◌, ⊎_elim, List, [], ◌∷◌, ◌++◌, length, get_or, set, eqb, sym, refl, ap, ◌∙◌, subst, inl, inr, arith, length-set, get_or-set_same, get_or-set_other, eq-eqb, ne_eqb}
use Rattle.std.specs.Prelude.{Option, Some, ◌+◌, ◌-◌, ◌%◌, ◌^◌}
use mathlib.Core.Logic.{dite}
use mathlib.Core.Option.{some, none, some-injective, some-ne-none}
use native.Mathlib.Decide.{ℕ_discrete}
use lib.ListN.{get_elem?}
use lib.Seq.{set-get_or}
use prog.Atomic.{either}
use Rattle.std.proofs.lemmas.Bool.{false_from_ne_true, true≢false}
use Rattle.atomic_table.specs.Table.{State, Me, Step, step, keeps, takes, gives, stepped, opening, Allows, Splits, Joins}
use Rattle.atomic_table.proofs.Lists.{set_again, set_here, set_else, at_longer, at_last}
use Rattle.turn_lock.specs.declared.rule.Known.{Known}
use Rattle.turn_lock.specs.Turns.{has_number, HasSome, HasAll, no_numbers, only_number, GoesOn, GrewBy}
use Rattle.turn_lock.specs.Steps.{Knows, Kept, with_turn, with_seen, without_turn, with_picked, founder, left_over, cut_off, echo, joined, went_back, spent, took, idles, marked, freed, picks, recalled, returned}
use Rattle.turn_lock.proofs.Entries.{foreign_none}
use Rattle.turn_lock.proofs.Numbers.{bool_cases, within, taken_out, still_there, none_there, only_there, there_alone, merged_at, or_true, or_left, or_right}
use Rattle.turn_lock.proofs.Passes.{at_or_last, all_after, there, same_there, whole, goes_on_more, goes_on_less, goes_on_both, goes_to_longer, goes_on_on}

module _ {V E : Type 0} (entries : V → List E) (number : E → Option ℕ) where
  abbrev S : Type 0
  S = Option V

  abbrev St : Type 0
  St = State (Option V) (Known E)

  abbrev Rule : St → Type 0
  Rule = Kept entries number

  abbrev M : Type 0
  M = Me (Option V) (Known E)

  abbrev taken : St → ℕ
  taken s = get_or s.words 0 0

  -- the numbers are had as before
  had : (vs : List (Known E)) (owner : ℕ → ℕ) (id : ℕ) (v w : Known E) → get_elem? vs id ≡ some v
      → ((n : ℕ) → has_number v.has n ≡ true → has_number w.has n ≡ true)
      → ((n : ℕ) → n < 65 → (x : Known E) × (get_elem? vs (owner n) ≡ some x) × (has_number x.has n ≡ true))
      → (n : ℕ) → n < 65 → (x : Known E) × (get_elem? (set vs id w) (owner n) ≡ some x) × (has_number x.has n ≡ true)
  had vs owner id v w at keep all n l = let h = all n l in dite (ℕ_discrete (owner n) id)
      (λ e. (
        w,
        subst (λ (k : ℕ). get_elem? (set vs id w) k ≡ some w) (sym e) (set_here vs id w (there vs id v at)),
        keep n (subst (λ (x : Known E). has_number x.has n ≡ true) (same_there vs id h.0 v (subst (λ (k : ℕ). get_elem? vs k ≡ some h.0) e h.1) at) h.2),
      ))
      (λ ne. (h.0, set_else vs id (owner n) w ne ∙ h.1, h.2))

  -- the turn isn't held by another pass than its holder
  nobody_else : (s : St) (r : Rule s) (id : ℕ) (v : Known E) → get_elem? s.views id ≡ some v → v.turn ≡ true
      → (j : ℕ) (w : Known E) → j ≢ id → get_elem? s.views j ≡ some w → w.turn ≡ true → ⊥
  nobody_else s r id v at t j w ne p q = ne (((r.each j w p).holds q).0 ∙ sym (((r.each id v at).holds t).0))

  -- two passes share no number
  apart_at : (s : St) (r : Rule s) (id : ℕ) (v : Known E) → get_elem? s.views id ≡ some v
      → (j : ℕ) (w : Known E) → j ≢ id → get_elem? s.views j ≡ some w → (n : ℕ) → has_number v.has n ≡ true → has_number w.has n ≡ true → ⊥
  apart_at s r id v at j w ne p n a b = ne (sym (((r.each j w p).owns n b).1) ∙ ((r.each id v at).owns n a).1)

  -- the view of one pass changes, but for its numbers and its turn
  replaced : (s : St) (r : Rule s) (id : ℕ) (v w : Known E) → get_elem? s.views id ≡ some v → w.has ≡ v.has → w.turn ≡ v.turn → Knows number r.list r.owner r.holder (taken s) id w
      → Rule record { words = s.words; homes = s.homes; views = set s.views id w }
  replaced s r id v w at same_has same_turn mine = record {
    list = r.list;
    owner = r.owner;
    holder = r.holder;
    five = r.five;
    counted = r.counted;
    is_bit = r.is_bit;
    home = r.home;
    out = λ one. let o = r.out one in dite (ℕ_discrete r.holder id)
        (λ e. (
          w,
          subst (λ (k : ℕ). get_elem? (set s.views id w) k ≡ some w) (sym e) (set_here s.views id w (there s.views id v at)),
          same_turn ∙ (ap (λ (x : Known E). x.turn) (same_there s.views id v o.0 at (subst (λ (k : ℕ). get_elem? s.views k ≡ some o.0) e o.1)) ∙ o.2),
        ))
        (λ ne. (o.0, set_else s.views id r.holder w ne ∙ o.1, o.2));
    each = all_after (Knows number r.list r.owner r.holder (taken s)) s.views id w mine (λ j d _ p. r.each j d p);
    all = had s.views r.owner id v w at (λ n h. ap (λ (b : List Bool). has_number b n) same_has ∙ h) r.all;
  }

  -- a step on a word of which the rule says nothing
  idling : (slots id word : ℕ) (st : Step S) (f : ℕ → ℕ) (me : M) → 2 ≤ word → word < 5 → Allows Rule slots id me word f (idles entries number st me)
  idling slots id word st f me from to s r wide at small = let n : ℕ = f (get_or s.words word 0) in
      let first : get_or (set s.words word n) 0 0 ≡ taken s = get_or-set_other s.words word 0 n 0 (λ e. omega arith) in
      let second : get_or (set s.words word n) 1 0 ≡ get_or s.words 1 0 = get_or-set_other s.words word 1 n 0 (λ e. omega arith) in (
        me.0,
        keeps,
        tt,
        subst (λ (l : List (Known E)). Rule record { words = set s.words word n; homes = s.homes; views = l }) (sym (set_again s.views id me.0 at)) record {
          list = r.list;
          owner = r.owner;
          holder = r.holder;
          five = length-set s.words word n ∙ r.five;
          counted = second ∙ r.counted;
          is_bit = subst (λ (x : ℕ). x ≤ 1) (sym first) r.is_bit;
          home = λ z. r.home (sym first ∙ z);
          out = λ z. r.out (sym first ∙ z);
          each = subst (λ (x : ℕ). (j : ℕ) (v : Known E) → get_elem? s.views j ≡ some v → Knows number r.list r.owner r.holder x j v) (sym first) r.each;
          all = r.all;
        },
        refl,
      )

  pub counting_up : (slots id word k : ℕ) (me : M) → 2 ≤ word → word < 5 → Allows Rule slots id me word (λ n. (n + k) % 2 ^ 64) (idles entries number (step slots word k 0 none) me)
  counting_up slots id word k me from to = idling slots id word (step slots word k 0 none) (λ n. (n + k) % 2 ^ 64) me from to

  pub counting_down : (slots id word k : ℕ) (me : M) → 2 ≤ word → word < 5 → Allows Rule slots id me word (λ n. (n + (2 ^ 64 - k)) % 2 ^ 64) (idles entries number (step slots word k 0 none) me)
  counting_down slots id word k me from to = idling slots id word (step slots word k 0 none) (λ n. (n + (2 ^ 64 - k)) % 2 ^ 64) me from to

  pub picking : (slots : ℕ) (id n : ℕ) (me : M) → Allows Rule slots id me 0 (λ x. either (eqb x n) n x) (picks entries number (step slots 0 n n none) me)
  picking slots id n me s r wide at small = let x : ℕ = taken s in
      let same : either (eqb x n) n x ≡ x = dite (ℕ_discrete x n) (λ e. ap (λ b. either b n x) (eq-eqb x n e) ∙ sym e) (λ ne. ap (λ b. either b n x) (ne_eqb x n ne)) in (
        with_picked n me.0,
        keeps,
        tt,
        subst (λ (l : List ℕ). Rule record { words = l; homes = s.homes; views = set s.views id (with_picked n me.0) }) (sym (ap (λ (z : ℕ). set s.words 0 z) same ∙ set-get_or s.words 0 0))
            (replaced s r id me.0 (with_picked n me.0) at refl refl
            (let k = r.each id me.0 at in record { goes_on = k.goes_on; owns = k.owns; holds = k.holds; went_on = whole number me.0.has me.0.seen })),
        refl,
      )

  pub recalling : (slots : ℕ) (id : ℕ) (me : M) → Allows Rule slots id me 0 (λ x. x) (recalled entries number (step slots 0 0 0 none) me)
  recalling slots id me s r wide at small = (
    me.0,
    keeps,
    tt,
    subst Rule (λ i. record { words = sym (set-get_or s.words 0 0) i; homes = s.homes; views = sym (set_again s.views id me.0 at) i }) r,
    (refl, (r.each id me.0 at).went_on),
  )

  pub returning : (slots : ℕ) (id : ℕ) (me : M) → me.0.turn ≡ false → me.0.has ≡ me.0.had → Allows Rule slots id me 0 (λ x. x) (returned entries number (step slots 0 0 0 none) me)
  returning slots id me free same s r wide at small = let v : Known E = me.0 in let k = r.each id v at in (
    went_back v,
    keeps,
    tt,
    subst (λ (l : List ℕ). Rule record { words = l; homes = s.homes; views = set s.views id (went_back v) }) (sym (set-get_or s.words 0 0)) (replaced s r id v (went_back v) at (sym same) refl record {
      goes_on = goes_on_on number v.had v.before v.seen r.list k.went_on (subst (λ (b : List Bool). GoesOn number b v.seen r.list) same k.goes_on);
      owns = λ n h. k.owns n (ap (λ (b : List Bool). has_number b n) same ∙ h);
      holds = λ t. absurd (true≢false (sym t ∙ free));
      went_on = whole number v.had v.before;
    }),
    (refl, k.went_on),
  )

  pub taking : (slots : ℕ) (id : ℕ) (me : M) → HasSome me.0.has → Allows Rule slots id me 0 (λ x. either (eqb x 0) 1 x) (took entries number (step slots 0 0 1 none) me)
  taking slots id me some_number s r wide at small = let v : Known E = me.0 in let x : ℕ = taken s in dite (ℕ_discrete x 0)
      (λ free. let h = r.home free in let k = r.each id v at in let five = r.five in let w : Known E = with_turn r.list v in
      let still : get_or (set s.words 0 1) 1 0 ≡ get_or s.words 1 0 = get_or-set_other s.words 0 1 1 0 (λ e. omega arith) in
      let now : get_or (set s.words 0 1) 0 0 ≡ 1 = get_or-set_same s.words 0 1 0 (omega arith) in
      let out_of : (j : ℕ) (u : Known E) → get_elem? s.views j ≡ some u → u.turn ≡ true → ⊥ = λ j u p q. let one = ((r.each j u p).holds q).1 in absurd (omega arith) in (
        w,
        takes 0 (Some h.0),
        ap (λ (l : List (mathlib.Core.Option.Option (Option V))). get_elem? l 0) h.1,
        subst (λ b. Rule (stepped s 0 (either b 1 x) id me.1 w (takes 0 (Some h.0)))) (sym (eq-eqb x 0 free)) record {
          list = r.list;
          owner = r.owner;
          holder = id;
          five = length-set s.words 0 1 ∙ five;
          counted = still ∙ r.counted;
          is_bit = omega arith;
          home = λ z. absurd (omega arith);
          out = λ _. (w, set_here s.views id w (there s.views id v at), refl);
          each = all_after (Knows number r.list r.owner id (get_or (set s.words 0 1) 0 0)) s.views id w
              record { goes_on = whole number v.has r.list; owns = k.owns; holds = λ _. (refl, now, refl, some_number); went_on = whole number v.has r.list }
              (λ j d _ p. let o = r.each j d p in record { goes_on = o.goes_on; owns = o.owns; holds = λ t. absurd (out_of j d p t); went_on = o.went_on });
          all = had s.views r.owner id v w at (λ n y. y) r.all;
        },
        (
          λ _. (h.0, (λ i. (with_turn (sym h.2 i) v, (0, Some h.0) ∷ me.1)), false_from_ne_true v.turn (out_of id v at), subst (GoesOn number v.has v.seen) (sym h.2) k.goes_on),
          λ ne. absurd (ne free),
        ),
      ))
      (λ busy. (
        v,
        keeps,
        tt,
        subst (λ b. Rule (stepped s 0 (either b 1 x) id me.1 v keeps)) (sym (ne_eqb x 0 busy))
            (subst Rule (λ i. record { words = sym (set-get_or s.words 0 0) i; homes = s.homes; views = sym (set_again s.views id v at) i }) r),
        ((λ free. absurd (busy free)), λ _. refl),
      ))

  pub marking : (slots : ℕ) (id : ℕ) (me : M) (old new : ℕ) (y : V) → me.0.turn ≡ true → old ≡ length me.0.seen → GrewBy number me.0.has me.0.seen (entries y) → new ≡ length (entries y)
      → Allows Rule slots id me 1 (λ x. either (eqb x old) new x) (marked entries number (step slots 1 old new (some (Some y))) me)
  marking slots id me old new y t was grew count s r wide at small = let v : Known E = me.0 in let k = r.each id v at in let h = k.holds t in let five = r.five in
      let hit : get_or s.words 1 0 ≡ old = r.counted ∙ (ap length (sym h.2) ∙ sym was) in let w : Known E = with_seen (entries y) v in
      let now : get_or (set s.words 1 new) 1 0 ≡ new = get_or-set_same s.words 1 new 0 (omega arith) in
      let still : get_or (set s.words 1 new) 0 0 ≡ taken s = get_or-set_other s.words 1 0 new 0 (λ e. omega arith) in
      let one : taken s ≡ 1 = h.1 in
      let from : GrewBy number v.has r.list (entries y) = subst (λ (l : List E). GrewBy number v.has l (entries y)) h.2 grew in (
        w,
        keeps,
        tt,
        subst (λ b. Rule (stepped s 1 (either b new (get_or s.words 1 0)) id me.1 w keeps)) (sym (eq-eqb (get_or s.words 1 0) old hit)) record {
          list = entries y;
          owner = r.owner;
          holder = r.holder;
          five = length-set s.words 1 new ∙ five;
          counted = now ∙ count;
          is_bit = omega arith;
          home = λ z. absurd (omega arith);
          out = λ _. (w, subst (λ (j : ℕ). get_elem? (set s.views id w) j ≡ some w) h.0 (set_here s.views id w (there s.views id v at)), t);
          each = all_after (Knows number (entries y) r.owner r.holder (get_or (set s.words 1 new) 0 0)) s.views id w
              record { goes_on = whole number v.has (entries y); owns = k.owns; holds = λ _. (h.0, still ∙ one, refl, h.3); went_on = whole number v.has (entries y) }
              (λ j d ne p. let o = r.each j d p in record {
                goes_on = goes_on_more number v.has d.has d.seen r.list (entries y) (apart_at s r id v at j d ne p) o.goes_on from;
                owns = o.owns;
                holds = λ q. absurd (nobody_else s r id v at t j d ne p q);
                went_on = o.went_on;
              });
          all = had s.views r.owner id v w at (λ n z. z) r.all;
        },
        λ x said. λ i. (with_seen (entries (given y x said i)) v, me.1),
      )
    where
      inner : V → mathlib.Core.Option.Option (Option V) → V
      inner d (some (Some x)) = x
      inner d _ = d

      given : (y x : V) → some (Some y) ≡ some (Some x) → y ≡ x
      given y x e = ap (inner y) e

  pub freeing : (slots : ℕ) → slots ≡ 1 → (id : ℕ) (v : Known E) (y : V) → v.turn ≡ true → entries y ≡ v.seen
      → Allows Rule slots id (v, (0, Some y) ∷ []) 0 (λ _. 0) (λ _. freed entries number (step slots 0 0 0 none) (v, (0, Some y) ∷ []) 0)
  freeing slots single id v y t same s r wide at small = let k = r.each id v at in let h = k.holds t in let five = r.five in let w : Known E = without_turn v in
      let still : get_or (set s.words 0 0) 1 0 ≡ get_or s.words 1 0 = get_or-set_other s.words 0 1 0 0 (λ e. omega arith) in
      let now : get_or (set s.words 0 0) 0 0 ≡ 0 = get_or-set_same s.words 0 0 0 (omega arith) in (
        w,
        gives,
        tt,
        record {
          list = r.list;
          owner = r.owner;
          holder = r.holder;
          five = length-set s.words 0 0 ∙ five;
          counted = still ∙ r.counted;
          is_bit = omega arith;
          home = λ _. (y, alone s.homes (Some y) (wide ∙ single), same ∙ h.2);
          out = λ z. absurd (omega arith);
          each = all_after (Knows number r.list r.owner r.holder (get_or (set s.words 0 0) 0 0)) s.views id w
              record { goes_on = k.goes_on; owns = k.owns; holds = λ q. absurd (true≢false (sym q)); went_on = whole number v.has v.seen }
              (λ j d ne p. let o = r.each j d p in record { goes_on = o.goes_on; owns = o.owns; holds = λ q. absurd (nobody_else s r id v at t j d ne p q); went_on = o.went_on });
          all = had s.views r.owner id v w at (λ n z. z) r.all;
        },
        refl,
      )
    where
      alone : {A : Type 0} (hs : List (mathlib.Core.Option.Option A)) (a : A) → length hs ≡ 1 → set hs 0 (some a) ≡ some a ∷ []
      alone [] a e = absurd (omega arith)
      alone (x ∷ []) a e = refl
      alone (x ∷ y ∷ ys) a e = absurd (omega arith)

  abbrev pick : Bool → ℕ → ℕ → ℕ
  pick true a b = a
  pick false a b = b

  -- a pass with no turn gives some of its numbers to a new one
  parts : (id : ℕ) (v left right : Known E) (from : ℕ → Bool) → v.turn ≡ false → left.turn ≡ false → right.turn ≡ false → left.seen ≡ v.seen → right.seen ≡ v.seen
      → ((n : ℕ) → has_number left.has n ≡ true → (has_number v.has n ≡ true) × (from n ≡ false))
      → ((n : ℕ) → has_number right.has n ≡ true → (has_number v.has n ≡ true) × (from n ≡ true))
      → ((n : ℕ) → has_number v.has n ≡ true → from n ≡ false → has_number left.has n ≡ true)
      → ((n : ℕ) → from n ≡ true → has_number right.has n ≡ true)
      → (GoesOn number v.had v.before v.seen → GoesOn number left.had left.before left.seen) → GoesOn number right.had right.before right.seen
      → Splits Rule id v left right
  parts id v left right from free left_free right_free left_seen right_seen leaves gives_n stays_n goes_n left_went right_went s r at =
      let k = r.each id v at in
      let vs : List (Known E) = set s.views id left in
      let last : ℕ = length s.views in
      let same_length : length vs ≡ last = length-set s.views id left in
      let owner : ℕ → ℕ = λ n. pick (from n) last (r.owner n) in
      let K : ℕ → Known E → Type 0 = Knows number r.list owner r.holder (taken s) in
      let mine : K id left = record {
        goes_on = subst (λ (l : List E). GoesOn number left.has l r.list) (sym left_seen) (goes_on_less number v.has left.has v.seen r.list (λ n h. (leaves n h).0) k.goes_on);
        owns = λ n h. let y = leaves n h in let z = k.owns n y.0 in (z.0, ap (λ b. pick b last (r.owner n)) y.1 ∙ z.1);
        holds = λ t. absurd (true≢false (sym t ∙ left_free));
        went_on = left_went k.went_on;
      } in
      let new : (j : ℕ) → j ≡ last → K j right = λ j e. record {
        goes_on = subst (λ (l : List E). GoesOn number right.has l r.list) (sym right_seen) (goes_on_less number v.has right.has v.seen r.list (λ n h. (gives_n n h).0) k.goes_on);
        owns = λ n h. let y = gives_n n h in let z = k.owns n y.0 in (z.0, ap (λ b. pick b last (r.owner n)) y.1 ∙ sym e);
        holds = λ t. absurd (true≢false (sym t ∙ right_free));
        went_on = right_went;
      } in
      let others : (j : ℕ) (u : Known E) → j ≢ id → get_elem? s.views j ≡ some u → K j u = λ j u ne p. let o = r.each j u p in record {
        goes_on = o.goes_on;
        owns = λ n h. let z = o.owns n h in
            (z.0, ap (λ b. pick b last (r.owner n)) (false_from_ne_true (from n) (λ f. apart_at s r id v at j u ne p n (gives_n n (goes_n n f)).0 h)) ∙ z.1);
        holds = o.holds;
        went_on = o.went_on;
      } in
      record {
        list = r.list;
        owner = owner;
        holder = r.holder;
        five = r.five;
        counted = r.counted;
        is_bit = r.is_bit;
        home = r.home;
        out = λ one. let o = r.out one in dite (ℕ_discrete r.holder id)
            (λ e. absurd (true≢false (sym o.2 ∙ (ap (λ (x : Known E). x.turn) (same_there s.views id o.0 v (subst (λ (k : ℕ). get_elem? s.views k ≡ some o.0) e o.1) at) ∙ free))))
            (λ ne. (o.0, at_longer vs (right ∷ []) r.holder o.0 (set_else s.views id r.holder left ne ∙ o.1), o.2));
        each = λ j d p. ⊎_elim
            (λ (q : get_elem? vs j ≡ some d). all_after K s.views id left mine others j d q)
            (λ (q : (right ≡ d) × (j ≡ length vs)). subst (K j) q.0 (new j (q.1 ∙ same_length)))
            (at_or_last vs right d j p);
        all = λ n l. let h = r.all n l in ⊎_elim
            (λ (yes : from n ≡ true). (right, subst (λ (j : ℕ). get_elem? (vs ++ right ∷ []) j ≡ some right) (sym (ap (λ b. pick b last (r.owner n)) yes)) (at_last vs right last same_length), goes_n n yes))
            (λ (no : from n ≡ false). let o = sym (ap (λ b. pick b last (r.owner n)) no) in dite (ℕ_discrete (r.owner n) id)
            (λ e. (
              left,
              subst (λ (j : ℕ). get_elem? (vs ++ right ∷ []) j ≡ some left) (sym e ∙ o) (at_longer vs (right ∷ []) id left (set_here s.views id left (there s.views id v at))),
              stays_n n (subst (λ (x : Known E). has_number x.has n ≡ true) (same_there s.views id h.0 v (subst (λ (k : ℕ). get_elem? s.views k ≡ some h.0) e h.1) at) h.2) no,
            ))
            (λ ne. (
              h.0,
              subst (λ (j : ℕ). get_elem? (vs ++ right ∷ []) j ≡ some h.0) o (at_longer vs (right ∷ []) (r.owner n) h.0 (set_else s.views id (r.owner n) left ne ∙ h.1)),
              h.2,
            )))
            (bool_cases (from n));
      }

  pub cutting : (id : ℕ) (v : Known E) → v.turn ≡ false → v.picked < 65 → has_number v.has v.picked ≡ true → Splits Rule id v (left_over v) (cut_off v)
  cutting id v free small here = parts id v (left_over v) (cut_off v) (λ n. eqb n v.picked) free free refl refl refl
      (λ n h. let o = taken_out v.has v.picked n h in (o.1, ne_eqb n v.picked o.0))
      (λ n h. let e = only_there v.picked n h in (ap (has_number v.has) e ∙ here, eq-eqb n v.picked e))
      (λ n h no. still_there v.has v.picked n (λ e. true≢false (sym (eq-eqb n v.picked e) ∙ no)) h)
      (λ n yes. ap (has_number (only_number v.picked)) (dite (ℕ_discrete n v.picked) (λ e. e) (λ ne. absurd (true≢false (sym yes ∙ ne_eqb n v.picked ne)))) ∙ there_alone v.picked small)
      (λ _. whole number (left_over v).has v.seen)
      (whole number (cut_off v).has v.seen)

  pub echoing : (id : ℕ) (v : Known E) → v.turn ≡ false → Splits Rule id v v (echo v)
  echoing id v free = parts id v v (echo v) (λ _. false) free free refl refl refl (λ n h. (h, refl)) (λ n h. absurd (none_there n h)) (λ n h _. h) (λ n yes. absurd (true≢false (sym yes))) (λ g. g) (whole number no_numbers v.seen)

  pub joining : (id : ℕ) (v : Known E) (other : ℕ) (w : Known E) → v.turn ≡ false → w.turn ≡ false → Joins Rule id v other w (joined v w) spent
  joining id v other w free other_free s r at apart there_after =
      let both : Known E = joined v w in
      let vs : List (Known E) = set s.views id both in
      let there_before : get_elem? s.views other ≡ some w = sym (set_else s.views id other both apart) ∙ there_after in
      let k = r.each id v at in
      let l = r.each other w there_before in
      let owner : ℕ → ℕ = λ n. pick (eqb (r.owner n) other) id (r.owner n) in
      let K : ℕ → Known E → Type 0 = Knows number r.list owner r.holder (taken s) in
      let from : (n : ℕ) → has_number both.has n ≡ true → (has_number v.has n ≡ true) ⊎ (has_number w.has n ≡ true) = λ n h. or_true (has_number v.has n) (has_number w.has n) (sym (merged_at v.has w.has n) ∙ h) in
      let stays : (n : ℕ) (j : ℕ) → j ≢ other → r.owner n ≡ j → owner n ≡ j = λ n j ne e. ap (λ b. pick b id (r.owner n)) (ne_eqb (r.owner n) other (λ f. ne (sym e ∙ f))) ∙ e in
      let moves : (n : ℕ) → r.owner n ≡ other → owner n ≡ id = λ n e. ap (λ b. pick b id (r.owner n)) (eq-eqb (r.owner n) other e) in
      let mine : K id both = record {
        goes_on = goes_on_both number w.seen v.seen r.list w.has v.has both.has (λ n h. ⊎_elim inr inl (from n h)) l.goes_on k.goes_on;
        owns = λ n h. ⊎_elim
            (λ a. let z = k.owns n a in (z.0, stays n id (λ e. apart (sym e)) z.1))
            (λ b. let z = l.owns n b in (z.0, moves n z.1))
            (from n h);
        holds = λ t. absurd (true≢false (sym t ∙ free));
        went_on = goes_to_longer number w.seen v.seen r.list w.has v.has l.goes_on k.goes_on;
      } in
      let ended : K other spent = record {
        goes_on = (r.list, refl, foreign_none number no_numbers none_there r.list);
        owns = λ n h. absurd (none_there n h);
        holds = λ t. absurd (true≢false (sym t));
        went_on = whole number no_numbers [];
      } in
      let others : (j : ℕ) (u : Known E) → j ≢ other → get_elem? s.views j ≡ some u → K j u = λ j u ne p. let o = r.each j u p in record {
        goes_on = o.goes_on;
        owns = λ n h. let z = o.owns n h in (z.0, stays n j ne z.1);
        holds = o.holds;
        went_on = o.went_on;
      } in
      let at_home : (j : ℕ) (u : Known E) → get_elem? s.views j ≡ some u → j ≢ id → j ≢ other → get_elem? (set vs other spent) j ≡ some u =
      λ j u p a b. set_else vs other j spent b ∙ (set_else s.views id j both a ∙ p) in
      let kept_there : get_elem? (set vs other spent) id ≡ some both = set_else vs other id spent (λ e. apart (sym e)) ∙ set_here s.views id both (there s.views id v at) in
      record {
        list = r.list;
        owner = owner;
        holder = r.holder;
        five = r.five;
        counted = r.counted;
        is_bit = r.is_bit;
        home = r.home;
        out = λ one. let o = r.out one in (
          o.0,
          at_home r.holder o.0 o.1
              (λ e. true≢false (sym o.2 ∙ (ap (λ (x : Known E). x.turn) (same_there s.views id o.0 v (subst (λ (k : ℕ). get_elem? s.views k ≡ some o.0) e o.1) at) ∙ free)))
              (λ e. true≢false (sym o.2 ∙ (ap (λ (x : Known E). x.turn) (same_there s.views other o.0 w (subst (λ (k : ℕ). get_elem? s.views k ≡ some o.0) e o.1) there_before) ∙ other_free))),
          o.2,
        );
        each = all_after K vs other spent ended (λ j u ne p. all_after (λ i x. i ≢ other → K i x) s.views id both (λ _. mine) (λ i x _ q away. others i x away q) j u p ne);
        all = λ n small. let h = r.all n small in dite (ℕ_discrete (r.owner n) other)
            (λ e. (
              both,
              subst (λ (j : ℕ). get_elem? (set vs other spent) j ≡ some both) (sym (moves n e)) kept_there,
              merged_at v.has w.has n ∙ or_right (has_number v.has n) (has_number w.has n)
                  (subst (λ (x : Known E). has_number x.has n ≡ true) (same_there s.views other h.0 w (subst (λ (k : ℕ). get_elem? s.views k ≡ some h.0) e h.1) there_before) h.2),
            ))
            (λ away. dite (ℕ_discrete (r.owner n) id)
            (λ e. (
              both,
              subst (λ (j : ℕ). get_elem? (set vs other spent) j ≡ some both) (sym (stays n id (λ f. apart (sym f)) e)) kept_there,
              merged_at v.has w.has n ∙ or_left (has_number v.has n) (has_number w.has n)
                  (subst (λ (x : Known E). has_number x.has n ≡ true) (same_there s.views id h.0 v (subst (λ (k : ℕ). get_elem? s.views k ≡ some h.0) e h.1) at) h.2),
            ))
            (λ ne. (
              h.0,
              subst (λ (j : ℕ). get_elem? (set vs other spent) j ≡ some h.0) (sym (stays n (r.owner n) away refl)) (at_home (r.owner n) h.0 h.1 ne away),
              h.2,
            )));
      }

  -- where one pass has every number and no turn, the value is at home, and its list goes on from what the pass has seen
  pub closing : (s : St) (r : Rule s) (id : ℕ) (v : Known E) → get_elem? s.views id ≡ some v → HasAll v.has → v.turn ≡ false
      → (x : V) × (s.homes ≡ some (Some x) ∷ []) × GoesOn number v.has v.seen (entries x)
  closing s r id v at every free =
      let bit = r.is_bit in
      let k = r.each id v at in
      let home : taken s ≡ 0 = dite (ℕ_discrete (taken s) 1)
      (λ one. let o = r.out one in let h = (r.each r.holder o.0 o.1).holds o.2 in let some_number = h.3 in
      let its = (r.each r.holder o.0 o.1).owns some_number.0 some_number.1 in
      let mine = k.owns some_number.0 (every some_number.0 its.0) in
      let e : r.holder ≡ id = sym its.1 ∙ mine.1 in
      absurd (true≢false (sym o.2 ∙ (ap (λ (x : Known E). x.turn) (same_there s.views id o.0 v (subst (λ (k : ℕ). get_elem? s.views k ≡ some o.0) e o.1) at) ∙ free))))
      (λ not. omega arith) in
      let h = r.home home in
      (h.0, h.1, subst (GoesOn number v.has v.seen) (sym h.2) k.goes_on)

  -- the rule at the start
  pub beginning : (has : List Bool) (x : V) (count : ℕ) → length has ≡ 65 → HasAll has → count ≡ length (entries x)
      → Rule (opening (0 ∷ count ∷ 0 ∷ 0 ∷ 0 ∷ []) (Some x ∷ []) (founder has (entries x)))
  beginning has x count long every is = record {
    list = entries x;
    owner = λ _. 0;
    holder = 0;
    five = refl;
    counted = is;
    is_bit = omega arith;
    home = λ _. (x, refl, refl);
    out = λ e. absurd (omega arith);
    each = λ j v p. ⊎_elim
        (λ q. absurd (some-ne-none v (sym q)))
        (λ (q : (founder has (entries x) ≡ v) × (j ≡ 0)). subst (Knows number (entries x) (λ _. 0) 0 0 j) q.0 record {
          goes_on = whole number has (entries x);
          owns = λ n h. let l = within has n h in (omega arith, sym q.1);
          holds = λ t. absurd (true≢false (sym t));
          went_on = whole number has (entries x);
        })
        (at_or_last [] (founder has (entries x)) v j p);
    all = λ n l. (founder has (entries x), refl, every n l);
  }

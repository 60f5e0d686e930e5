-- A label more in a row, and what that does to the row's edges.
use Rattle.std.proofs.Common.{◌≡◌, Bool, true, false, cond, not, ◌||◌, List, [], ◌∷◌, Option, None, Some, is_some, Less, Equal, Greater, nat_cmp, is_eq, is_lt, refl, sym, ap, subst, ◌∙◌, true≢false, ◌⊎◌, inl, inr, ⊎_elim}
use Rattle.std.specs.Ordering.{ordering_reverse}
use Rattle.std.specs.Cmp.Lexicographic.{slice_cmp, nat_list_cmp_total}
use Rattle.dewey_labels.specs.Labels.{Label, is_child}
use Rattle.lock_resources.specs.declared.resource.Side.{Side}
use Rattle.lock_resources.specs.declared.resource.Side.TheVariants.{First, Last, Next, Prev}
use Rattle.std.specs.Option.{option_or}
use Rattle.tree_model.specs.ValidTrees.{same_label, is_among}
use Rattle.tree_model.proofs.Found.{some_is}
use Rattle.tree_model.proofs.EntryLimits.{list_itself}
use Rattle.tree_cells.proofs.Rows.{Rises, head_in, last_in, next_in, prev_in}
use Rattle.tree_cells.proofs.Edges.{edge_in}

-- the row with one more label
abbrev pub put_in : Label → List Label → List Label
put_in new [] = new ∷ []
put_in new (l ∷ ls) = cond (is_lt (slice_cmp nat_cmp new l)) (new ∷ l ∷ ls) (l ∷ put_in new ls)

-- it comes first
abbrev pub goes_first : Label → List Label → Bool
goes_first new [] = true
goes_first new (l ∷ ls) = is_lt (slice_cmp nat_cmp new l)

-- its neighbours
abbrev pub left_of : Label → List Label → Option Label
left_of new [] = None
left_of new (l ∷ ls) = cond (is_lt (slice_cmp nat_cmp new l)) None (cond (goes_first new ls) (Some l) (left_of new ls))

abbrev pub right_of : Label → List Label → Option Label
right_of new [] = None
right_of new (l ∷ ls) = cond (is_lt (slice_cmp nat_cmp new l)) (Some l) (right_of new ls)

abbrev pub is_at : Label → Option Label → Bool
is_at l None = false
is_at l (Some m) = same_label l m

-- what stands at an edge of the row with the new label between these neighbours, o being what stood there
abbrev pub edge_after : Label → Option Label → Option Label → Side → Label → Option Label → Option Label
edge_after new left right First l o = cond (is_some left) o (Some new)
edge_after new left right Last l o = cond (is_some right) o (Some new)
edge_after new left right Next l o = cond (same_label l new) right (cond (is_at l left) (Some new) o)
edge_after new left right Prev l o = cond (same_label l new) left (cond (is_at l right) (Some new) o)

-- ---- membership and order

pub among_put : (m new : Label) (ls : List Label) → is_among m (put_in new ls) ≡ (same_label m new || is_among m ls)
among_put m new [] = refl
among_put m new (l ∷ ls) = elim (is_lt (slice_cmp nat_cmp new l)) as (λ b. is_among m (cond b (new ∷ l ∷ ls) (l ∷ put_in new ls)) ≡ (same_label m new || (same_label m l || is_among m ls))) [
  | true ↦ refl
  | false ↦ ap (λ b. same_label m l || b) (among_put m new ls) ∙ swapped (same_label m l) (same_label m new) (is_among m ls)
]
  where
    swapped : (a b c : Bool) → (a || (b || c)) ≡ (b || (a || c))
    swapped true true c = refl
    swapped true false c = refl
    swapped false b c = refl

-- two labels, one of which isn't the other, are in order
apart_labels : (a b : Label) → same_label a b ≡ false → is_lt (slice_cmp nat_cmp a b) ≡ false → slice_cmp nat_cmp b a ≡ Less
apart_labels a b n h = elim (slice_cmp nat_cmp a b) as (λ o. slice_cmp nat_cmp a b ≡ o → is_eq o ≡ false → is_lt o ≡ false → slice_cmp nat_cmp b a ≡ Less) [
  | Less ↦ λ _ _ g. absurd (true≢false g)
  | Equal ↦ λ _ g _. absurd (true≢false g)
  | Greater ↦ λ e _ _. nat_list_cmp_total.antisymm b a ∙ ap ordering_reverse e
] refl n h

less_is : (a b : Label) → is_lt (slice_cmp nat_cmp a b) ≡ true → slice_cmp nat_cmp a b ≡ Less
less_is a b h = elim (slice_cmp nat_cmp a b) as (λ o. is_lt o ≡ true → o ≡ Less) [ Less ↦ λ _. refl | Equal ↦ λ g. absurd (true≢false (sym g)) | Greater ↦ λ g. absurd (true≢false (sym g)) ] h

neither : (a b : Bool) → (a || b) ≡ false → (a ≡ false) × (b ≡ false)
neither true b e = absurd (true≢false e)
neither false b e = (refl, e)

pub rises_put : (p b new : Label) (ls : List Label) → Rises p b ls → is_child p new ≡ true → slice_cmp nat_cmp b new ≡ Less → is_among new ls ≡ false → Rises p b (put_in new ls)
rises_put p b new [] w c h n = (c, h, tt)
rises_put p b new (l ∷ ls) w c h n = elim (is_lt (slice_cmp nat_cmp new l)) as (λ z. is_lt (slice_cmp nat_cmp new l) ≡ z → Rises p b (cond z (new ∷ l ∷ ls) (l ∷ put_in new ls))) [
  | true ↦ λ e. (c, h, (w.0, less_is new l e, w.2))
  | false ↦ λ e. let off = neither (same_label new l) (is_among new ls) n in (w.0, w.1, rises_put p l new ls w.2 c (apart_labels new l off.0 e) off.1)
] refl

-- ---- edges

left_none : (new : Label) (ls : List Label) → is_some (left_of new ls) ≡ not (goes_first new ls)
left_none new [] = refl
left_none new (l ∷ ls) = elim (is_lt (slice_cmp nat_cmp new l)) as (λ b. is_some (cond b None (cond (goes_first new ls) (Some l) (left_of new ls))) ≡ not b) [
  | true ↦ refl
  | false ↦ elim (goes_first new ls) as (λ b. is_some (left_of new ls) ≡ not b → is_some (cond b (Some l) (left_of new ls)) ≡ true) [ true ↦ λ _. refl | false ↦ λ h. h ] (left_none new ls)
]

no_left : (new : Label) (ls : List Label) → goes_first new ls ≡ true → left_of new ls ≡ None
no_left new ls g = by (left_of new ls) (left_none new ls ∙ ap not g)
  where
    by : (o : Option Label) → is_some o ≡ false → o ≡ None
    by None h = refl
    by (Some m) h = absurd (true≢false h)

head_put : (new : Label) (ls : List Label) → head_in (put_in new ls) ≡ cond (goes_first new ls) (Some new) (head_in ls)
head_put new [] = refl
head_put new (l ∷ ls) = elim (is_lt (slice_cmp nat_cmp new l)) as (λ b. head_in (cond b (new ∷ l ∷ ls) (l ∷ put_in new ls)) ≡ cond b (Some new) (Some l)) [ true ↦ refl | false ↦ refl ]

first_put : (new : Label) (ls : List Label) → head_in (put_in new ls) ≡ cond (is_some (left_of new ls)) (head_in ls) (Some new)
first_put new ls = head_put new ls ∙ turned (goes_first new ls) ∙ sym (ap (λ b. cond b (head_in ls) (Some new)) (left_none new ls))
  where
    turned : (b : Bool) → cond b (Some new) (head_in ls) ≡ cond (not b) (head_in ls) (Some new)
    turned true = refl
    turned false = refl

last_put : (new : Label) (ls : List Label) → last_in (put_in new ls) ≡ cond (is_some (right_of new ls)) (last_in ls) (Some new)
last_put new [] = refl
last_put new (l ∷ ls) = elim (is_lt (slice_cmp nat_cmp new l)) as (λ b. last_in (cond b (new ∷ l ∷ ls) (l ∷ put_in new ls)) ≡ cond (is_some (cond b (Some l) (right_of new ls))) (last_in (l ∷ ls)) (Some new)) [
  | true ↦ absorbed (last_in ls)
  | false ↦ ap (λ o. option_or o (Some l)) (last_put new ls) ∙ elim (is_some (right_of new ls)) as (λ b. option_or (cond b (last_in ls) (Some new)) (Some l) ≡ cond b (option_or (last_in ls) (Some l)) (Some new)) [ true ↦ refl | false ↦ refl ]
]
  where
    absorbed : (o : Option Label) → option_or (option_or o (Some l)) (Some new) ≡ option_or o (Some l)
    absorbed None = refl
    absorbed (Some m) = refl

-- a label before a row is no neighbour in it
left_apart : (p b k new : Label) (ls : List Label) → Rises p b ls → (slice_cmp nat_cmp k b ≡ Less) ⊎ (k ≡ b) → is_at k (left_of new ls) ≡ false
left_apart p b k new [] w h = refl
left_apart p b k new (l ∷ ls) w h =
    let less : slice_cmp nat_cmp k l ≡ Less = ⊎_elim (λ e. nat_list_cmp_total.trans k b l e w.1) (λ e. subst (λ v. slice_cmp nat_cmp v l ≡ Less) (sym e) w.1) h in
    elim (is_lt (slice_cmp nat_cmp new l)) as (λ z. is_at k (cond z None (cond (goes_first new ls) (Some l) (left_of new ls))) ≡ false) [
      | true ↦ refl
      | false ↦ elim (goes_first new ls) as (λ z. is_at k (cond z (Some l) (left_of new ls)) ≡ false) [ true ↦ ap is_eq less | false ↦ left_apart p l k new ls w.2 (inl less) ]
    ]

right_apart : (p b k new : Label) (ls : List Label) → Rises p b ls → (slice_cmp nat_cmp k b ≡ Less) ⊎ (k ≡ b) → is_at k (right_of new ls) ≡ false
right_apart p b k new [] w h = refl
right_apart p b k new (l ∷ ls) w h =
    let less : slice_cmp nat_cmp k l ≡ Less = ⊎_elim (λ e. nat_list_cmp_total.trans k b l e w.1) (λ e. subst (λ v. slice_cmp nat_cmp v l ≡ Less) (sym e) w.1) h in
    elim (is_lt (slice_cmp nat_cmp new l)) as (λ z. is_at k (cond z (Some l) (right_of new ls)) ≡ false) [ true ↦ ap is_eq less | false ↦ right_apart p l k new ls w.2 (inl less) ]

same_is_label : (l k : Label) → same_label l k ≡ true → l ≡ k
same_is_label = Rattle.tree_model.proofs.StoredCatalogues.same_label_is

next_put : (p b l new : Label) (ls : List Label) → Rises p b ls → is_among new ls ≡ false → next_in l (put_in new ls) ≡ cond (same_label l new) (right_of new ls) (cond (is_at l (left_of new ls)) (Some new) (next_in l ls))
next_put p b l new [] w n = refl
next_put p b l new (k ∷ ks) w n =
    let off = neither (same_label new k) (is_among new ks) n in
    elim (is_lt (slice_cmp nat_cmp new k)) as (λ z. is_lt (slice_cmp nat_cmp new k) ≡ z → next_in l (cond z (new ∷ k ∷ ks) (k ∷ put_in new ks)) ≡ cond (same_label l new) (cond z (Some k) (right_of new ks)) (cond (is_at l (cond z None (cond (goes_first new ks) (Some k) (left_of new ks)))) (Some new) (next_in l (k ∷ ks)))) [
      | true ↦ λ _. refl
      | false ↦ λ e. elim (same_label l k) as (λ z. same_label l k ≡ z → cond z (head_in (put_in new ks)) (next_in l (put_in new ks)) ≡ cond (same_label l new) (right_of new ks) (cond (is_at l (cond (goes_first new ks) (Some k) (left_of new ks))) (Some new) (cond z (head_in ks) (next_in l ks)))) [
        | true ↦ λ g.
            let is : l ≡ k = same_is_label l k g in
            let before : same_label l new ≡ false = subst (λ v. same_label v new ≡ false) (sym is) (ap is_eq (apart_labels new k off.0 e)) in
            let no : is_at l (left_of new ks) ≡ false = left_apart p k l new ks w.2 (inr is) in
            head_put new ks
            ∙ elim (goes_first new ks) as (λ z. cond z (Some new) (head_in ks) ≡ cond (is_at l (cond z (Some k) (left_of new ks))) (Some new) (head_in ks)) [ true ↦ sym (ap (λ b. cond b (Some new) (head_in ks)) g) | false ↦ sym (ap (λ b. cond b (Some new) (head_in ks)) no) ]
            ∙ sym (ap (λ b. cond b (right_of new ks) (cond (is_at l (cond (goes_first new ks) (Some k) (left_of new ks))) (Some new) (head_in ks))) before)
        | false ↦ λ g. next_put p k l new ks w.2 off.1
            ∙ ap (λ b. cond (same_label l new) (right_of new ks) (cond b (Some new) (next_in l ks))) (elim (goes_first new ks) as (λ z. goes_first new ks ≡ z → is_at l (left_of new ks) ≡ is_at l (cond z (Some k) (left_of new ks))) [ true ↦ λ q. ap (is_at l) (no_left new ks q) ∙ sym g | false ↦ λ _. refl ] refl)
      ] refl
    ] refl

prev_put : (o : Option Label) (p b l new : Label) (ls : List Label) → Rises p b ls → is_among new ls ≡ false → prev_in o l (put_in new ls) ≡ cond (same_label l new) (cond (goes_first new ls) o (left_of new ls)) (cond (is_at l (right_of new ls)) (Some new) (prev_in o l ls))
prev_put o p b l new [] w n = refl
prev_put o p b l new (k ∷ ks) w n =
    let off = neither (same_label new k) (is_among new ks) n in
    elim (is_lt (slice_cmp nat_cmp new k)) as (λ z. is_lt (slice_cmp nat_cmp new k) ≡ z → prev_in o l (cond z (new ∷ k ∷ ks) (k ∷ put_in new ks)) ≡ cond (same_label l new) (cond z o (cond z None (cond (goes_first new ks) (Some k) (left_of new ks)))) (cond (is_at l (cond z (Some k) (right_of new ks))) (Some new) (prev_in o l (k ∷ ks)))) [
      | true ↦ λ _. ap (λ v. cond (same_label l new) o v) (elim (same_label l k) as (λ z. cond z (Some new) (prev_in (Some k) l ks) ≡ cond z (Some new) (cond z o (prev_in (Some k) l ks))) [ true ↦ refl | false ↦ refl ])
      | false ↦ λ e. elim (same_label l k) as (λ z. same_label l k ≡ z → cond z o (prev_in (Some k) l (put_in new ks)) ≡ cond (same_label l new) (cond (goes_first new ks) (Some k) (left_of new ks)) (cond (is_at l (right_of new ks)) (Some new) (cond z o (prev_in (Some k) l ks)))) [
        | true ↦ λ g.
            let is : l ≡ k = same_is_label l k g in
            let before : same_label l new ≡ false = subst (λ v. same_label v new ≡ false) (sym is) (ap is_eq (apart_labels new k off.0 e)) in
            let no : is_at l (right_of new ks) ≡ false = right_apart p k l new ks w.2 (inr is) in
            sym ((λ i. cond (before i) (cond (goes_first new ks) (Some k) (left_of new ks)) (cond (no i) (Some new) o)))
        | false ↦ λ g. prev_put (Some k) p k l new ks w.2 off.1
      ] refl
    ] refl

-- the edges of the row with the new label
pub edge_put : (s : Side) (p b l new : Label) (ls : List Label) → Rises p b ls → is_among new ls ≡ false → edge_in s l (put_in new ls) ≡ edge_after new (left_of new ls) (right_of new ls) s l (edge_in s l ls)
edge_put First p b l new ls w n = first_put new ls
edge_put Last p b l new ls w n = last_put new ls
edge_put Next p b l new ls w n = next_put p b l new ls w n
edge_put Prev p b l new ls w n = prev_put None p b l new ls w n ∙ ap (λ o. cond (same_label l new) o (cond (is_at l (right_of new ls)) (Some new) (prev_in None l ls))) (elim (goes_first new ls) as (λ z. goes_first new ls ≡ z → cond z None (left_of new ls) ≡ left_of new ls) [ true ↦ λ q. sym (no_left new ls q) | false ↦ λ _. refl ] refl)

-- ---- a label behind all others

all_before_not_among : (new : Label) (ls : List Label) → Rattle.std.specs.List.AllByRecursion (λ m. slice_cmp nat_cmp m new ≡ Less) ls → is_among new ls ≡ false
all_before_not_among new [] h = refl
all_before_not_among new (l ∷ ls) h = ap (λ o. is_eq o || is_among new ls) (nat_list_cmp_total.antisymm new l ∙ ap ordering_reverse h.0) ∙ all_before_not_among new ls h.1

pub end_not_among : (new : Label) (ls : List Label) → Rattle.std.specs.List.AllByRecursion (λ m. slice_cmp nat_cmp m new ≡ Less) ls → is_among new ls ≡ false
end_not_among = all_before_not_among

behind : (new l : Label) → slice_cmp nat_cmp l new ≡ Less → is_lt (slice_cmp nat_cmp new l) ≡ false
behind new l h = ap is_lt (nat_list_cmp_total.antisymm new l ∙ ap ordering_reverse h)

pub end_left : (new : Label) (ls : List Label) → Rattle.std.specs.List.AllByRecursion (λ m. slice_cmp nat_cmp m new ≡ Less) ls → left_of new ls ≡ last_in ls
end_left new [] h = refl
end_left new (l ∷ ls) h = ap (λ b. cond b None (cond (goes_first new ls) (Some l) (left_of new ls))) (behind new l h.0) ∙ by ls h.1 (end_left new ls h.1)
  where
    some : (o : Option Label) (k : Label) → option_or (option_or o (Some k)) (Some l) ≡ option_or o (Some k)
    some None k = refl
    some (Some m) k = refl

    by : (ls : List Label) → Rattle.std.specs.List.AllByRecursion (λ m. slice_cmp nat_cmp m new ≡ Less) ls → left_of new ls ≡ last_in ls → cond (goes_first new ls) (Some l) (left_of new ls) ≡ option_or (last_in ls) (Some l)
    by [] h e = refl
    by (k ∷ ks) h e = ap (λ b. cond b (Some l) (left_of new (k ∷ ks))) (behind new k h.0) ∙ e ∙ sym (some (last_in ks) k)

pub end_right : (new : Label) (ls : List Label) → Rattle.std.specs.List.AllByRecursion (λ m. slice_cmp nat_cmp m new ≡ Less) ls → right_of new ls ≡ None
end_right new [] h = refl
end_right new (l ∷ ls) h = ap (λ b. cond b (Some l) (right_of new ls)) (behind new l h.0) ∙ end_right new ls h.1

-- ---- a label less

-- what stands at an edge of the row without a label that stood between these neighbours, o being what stood there with it
abbrev pub edge_without : Label → Option Label → Option Label → Side → Label → Option Label → Option Label
edge_without old left right First l o = cond (is_some left) o right
edge_without old left right Last l o = cond (is_some right) o left
edge_without old left right Next l o = cond (same_label l old) None (cond (is_at l left) right o)
edge_without old left right Prev l o = cond (same_label l old) None (cond (is_at l right) left o)

none_or_some : {A : Type 0} (o : Option A) → (o ≡ None) ⊎ (is_some o ≡ true)
none_or_some None = inl refl
none_or_some (Some a) = inr refl

no_some : {A P : Type 0} (o : Option A) → is_some o ≡ true → o ≡ None → P
no_some o h e = absurd (true≢false (sym h ∙ ap is_some e))

first_gap : (new : Label) (ls : List Label) → left_of new ls ≡ None → head_in ls ≡ right_of new ls
first_gap new [] h = refl
first_gap new (l ∷ ls) h = elim (is_lt (slice_cmp nat_cmp new l)) as (λ b. cond b None (cond (goes_first new ls) (Some l) (left_of new ls)) ≡ None → Some l ≡ cond b (Some l) (right_of new ls)) [
  | true ↦ λ _. refl
  | false ↦ elim (goes_first new ls) as (λ b. goes_first new ls ≡ b → cond b (Some l) (left_of new ls) ≡ None → Some l ≡ right_of new ls) [
    | true ↦ λ _ g. no_some (Some l) refl g
    | false ↦ λ e g. no_some (left_of new ls) (left_none new ls ∙ ap not e) g
  ] refl
] h

last_gap : (new : Label) (ls : List Label) → right_of new ls ≡ None → last_in ls ≡ left_of new ls
last_gap new [] h = refl
last_gap new (l ∷ ls) h = by (last_gap new ls)
  where
    one : (ls : List Label) → goes_first new ls ≡ true → right_of new ls ≡ None → last_in ls ≡ None
    one [] g r = refl
    one (k ∷ ks) g r = no_some (Some k) refl (sym (ap (λ b. cond b (Some k) (right_of new ks)) g) ∙ r)

    more : (o : Option Label) → is_some o ≡ true → option_or o (Some l) ≡ o
    more None e = absurd (true≢false (sym e))
    more (Some k) e = refl

    by : (right_of new ls ≡ None → last_in ls ≡ left_of new ls) → option_or (last_in ls) (Some l) ≡ left_of new (l ∷ ls)
    by rec = elim (is_lt (slice_cmp nat_cmp new l)) as (λ b. cond b (Some l) (right_of new ls) ≡ None → option_or (last_in ls) (Some l) ≡ cond b None (cond (goes_first new ls) (Some l) (left_of new ls))) [
      | true ↦ λ g. no_some (Some l) refl g
      | false ↦ λ g. elim (goes_first new ls) as (λ b. goes_first new ls ≡ b → option_or (last_in ls) (Some l) ≡ cond b (Some l) (left_of new ls)) [
        | true ↦ λ e. ap (λ o. option_or o (Some l)) (one ls e g)
        | false ↦ λ e. ap (λ o. option_or o (Some l)) (rec g) ∙ more (left_of new ls) (left_none new ls ∙ ap not e)
      ] refl
    ] h

same_label_turned : (l k : Label) → same_label l k ≡ false → same_label k l ≡ false
same_label_turned l k h = elim (same_label k l) as (λ b. same_label k l ≡ b → b ≡ false) [
  | true ↦ λ e. absurd (true≢false (sym (ap is_eq (list_itself l)) ∙ ap (same_label l) (sym (same_is_label k l e)) ∙ h))
  | false ↦ λ _. refl
] refl

next_gap : (p b l new : Label) (ls : List Label) → Rises p b ls → left_of new ls ≡ Some l → next_in l ls ≡ right_of new ls
next_gap p b l new [] w h = no_some (Some l) refl (sym h)
next_gap p b l new (k ∷ ks) w h = elim (is_lt (slice_cmp nat_cmp new k)) as (λ z. cond z None (cond (goes_first new ks) (Some k) (left_of new ks)) ≡ Some l → cond (same_label l k) (head_in ks) (next_in l ks) ≡ cond z (Some k) (right_of new ks)) [
  | true ↦ λ g. no_some (Some l) refl (sym g)
  | false ↦ elim (goes_first new ks) as (λ z. goes_first new ks ≡ z → cond z (Some k) (left_of new ks) ≡ Some l → cond (same_label l k) (head_in ks) (next_in l ks) ≡ right_of new ks) [
    | true ↦ λ e g. ap (λ z. cond z (head_in ks) (next_in l ks)) (subst (λ v. same_label v k ≡ true) (some_is k l g) (ap is_eq (list_itself k))) ∙ first_gap new ks (no_left new ks e)
    | false ↦ λ e g. ap (λ z. cond z (head_in ks) (next_in l ks)) (same_label_turned k l (sym (ap (is_at k) g) ∙ left_apart p k k new ks w.2 (inr refl))) ∙ next_gap p k l new ks w.2 g
  ] refl
] h

prev_gap : (o : Option Label) (p b l new : Label) (ls : List Label) → Rises p b ls → right_of new ls ≡ Some l → prev_in o l ls ≡ cond (goes_first new ls) o (left_of new ls)
prev_gap o p b l new [] w h = no_some (Some l) refl (sym h)
prev_gap o p b l new (k ∷ ks) w h = elim (is_lt (slice_cmp nat_cmp new k)) as (λ z. cond z (Some k) (right_of new ks) ≡ Some l → cond (same_label l k) o (prev_in (Some k) l ks) ≡ cond z o (cond z None (cond (goes_first new ks) (Some k) (left_of new ks)))) [
  | true ↦ λ g. ap (λ z. cond z o (prev_in (Some k) l ks)) (subst (λ v. same_label v k ≡ true) (some_is k l g) (ap is_eq (list_itself k)))
  | false ↦ λ g. ap (λ z. cond z o (prev_in (Some k) l ks)) (same_label_turned k l (sym (ap (is_at k) g) ∙ right_apart p k k new ks w.2 (inr refl))) ∙ prev_gap (Some k) p k l new ks w.2 g
] h

left_with : (new : Label) (ls : List Label) → cond (goes_first new ls) None (left_of new ls) ≡ left_of new ls
left_with new ls = elim (goes_first new ls) as (λ z. goes_first new ls ≡ z → cond z None (left_of new ls) ≡ left_of new ls) [ true ↦ λ q. sym (no_left new ls q) | false ↦ λ _. refl ] refl

not_next : (l : Label) (ls : List Label) → is_among l ls ≡ false → next_in l ls ≡ None
not_next = Rattle.tree_cells.proofs.Rows.no_next

at_some : (l : Label) (o : Option Label) → is_at l o ≡ true → o ≡ Some l
at_some l None e = absurd (true≢false (sym e))
at_some l (Some m) e = ap Some (sym (same_is_label l m e))

-- the edges of the row without a label
pub edge_less : (s : Side) (p b l old : Label) (ls : List Label) → Rises p b ls → is_among old ls ≡ false → edge_in s l ls ≡ edge_without old (left_of old ls) (right_of old ls) s l (edge_in s l (put_in old ls))
edge_less First p b l old ls w n = ⊎_elim
    (λ e. first_gap old ls e ∙ sym (ap (λ o. cond (is_some o) (head_in (put_in old ls)) (right_of old ls)) e))
    (λ e. sym (ap (λ z. cond z (head_in (put_in old ls)) (right_of old ls)) e ∙ first_put old ls ∙ ap (λ z. cond z (head_in ls) (Some old)) e))
    (none_or_some (left_of old ls))
edge_less Last p b l old ls w n = ⊎_elim
    (λ e. last_gap old ls e ∙ sym (ap (λ o. cond (is_some o) (last_in (put_in old ls)) (left_of old ls)) e))
    (λ e. sym (ap (λ z. cond z (last_in (put_in old ls)) (left_of old ls)) e ∙ last_put old ls ∙ ap (λ z. cond z (last_in ls) (Some old)) e))
    (none_or_some (right_of old ls))
edge_less Next p b l old ls w n = elim (same_label l old) as (λ z. same_label l old ≡ z → next_in l ls ≡ cond z None (cond (is_at l (left_of old ls)) (right_of old ls) (next_in l (put_in old ls)))) [
  | true ↦ λ e. not_next l ls (ap (λ k. is_among k ls) (same_is_label l old e) ∙ n)
  | false ↦ λ e. elim (is_at l (left_of old ls)) as (λ z. is_at l (left_of old ls) ≡ z → next_in l ls ≡ cond z (right_of old ls) (next_in l (put_in old ls))) [
    | true ↦ λ g. next_gap p b l old ls w (at_some l (left_of old ls) g)
    | false ↦ λ g. sym (next_put p b l old ls w n ∙ (λ i. cond (e i) (right_of old ls) (cond (g i) (Some old) (next_in l ls))))
  ] refl
] refl
edge_less Prev p b l old ls w n = elim (same_label l old) as (λ z. same_label l old ≡ z → prev_in None l ls ≡ cond z None (cond (is_at l (right_of old ls)) (left_of old ls) (prev_in None l (put_in old ls)))) [
  | true ↦ λ e. Rattle.tree_cells.proofs.Rows.no_prev None l ls (ap (λ k. is_among k ls) (same_is_label l old e) ∙ n)
  | false ↦ λ e. elim (is_at l (right_of old ls)) as (λ z. is_at l (right_of old ls) ≡ z → prev_in None l ls ≡ cond z (left_of old ls) (prev_in None l (put_in old ls))) [
    | true ↦ λ g. prev_gap None p b l old ls w (at_some l (right_of old ls) g) ∙ left_with old ls
    | false ↦ λ g. sym (prev_put None p b l old ls w n ∙ (λ i. cond (e i) (cond (goes_first old ls) None (left_of old ls)) (cond (g i) (Some old) (prev_in None l ls))))
  ] refl
] refl

-- ---- a label before another one

-- of a row behind k, the left neighbour of one of its labels is k or comes behind it
prev_behind : (p k c : Label) (ls : List Label) → Rises p k ls → is_among c ls ≡ true → (m : Label) × (prev_in (Some k) c ls ≡ Some m) × ((m ≡ k) ⊎ (slice_cmp nat_cmp k m ≡ Less))
prev_behind p k c [] w a = absurd (true≢false (sym a))
prev_behind p k c (l ∷ ls) w a = elim (same_label c l) as (λ z. (z || is_among c ls) ≡ true → (m : Label) × (cond z (Some k) (prev_in (Some l) c ls) ≡ Some m) × ((m ≡ k) ⊎ (slice_cmp nat_cmp k m ≡ Less))) [
  | true ↦ λ _. (k, refl, inl refl)
  | false ↦ λ g. let rest = prev_behind p l c ls w.2 g in (rest.0, rest.1, inr (⊎_elim (λ e. subst (λ v. slice_cmp nat_cmp k v ≡ Less) (sym e) w.1) (λ e. nat_list_cmp_total.trans k l rest.0 w.1 e) rest.2))
] a

pub record GapBefore (o : Option Label) (c new : Label) (ls : List Label) : Type 0 where
  pub left : cond (goes_first new ls) o (left_of new ls) ≡ prev_in o c ls
  pub right : right_of new ls ≡ Some c
  pub absent : is_among new ls ≡ false

is_behind : (new k : Label) → slice_cmp nat_cmp k new ≡ Less → slice_cmp nat_cmp new k ≡ Greater
is_behind new k h = nat_list_cmp_total.antisymm new k ∙ ap ordering_reverse h

-- a label between a label of the row and its left neighbour
pub gap_before : (o : Option Label) (p b c new : Label) (ls : List Label) → Rises p b ls → is_among c ls ≡ true → ((m : Label) → prev_in o c ls ≡ Some m → slice_cmp nat_cmp m new ≡ Less) → slice_cmp nat_cmp new c ≡ Less → GapBefore o c new ls
gap_before o p b c new [] w a before after = absurd (true≢false (sym a))
gap_before o p b c new (k ∷ ks) w a before after = by (same_label c k) refl (λ g low. gap_before (Some k) p k c new ks w.2 g low after)
  where
    by : (z : Bool) → same_label c k ≡ z → (is_among c ks ≡ true → ((m : Label) → prev_in (Some k) c ks ≡ Some m → slice_cmp nat_cmp m new ≡ Less) → GapBefore (Some k) c new ks) → GapBefore o c new (k ∷ ks)
    by true e rec =
        let is : c ≡ k = same_is_label c k e in
        let less : slice_cmp nat_cmp new k ≡ Less = subst (λ v. slice_cmp nat_cmp new v ≡ Less) is after in
        let lt : is_lt (slice_cmp nat_cmp new k) ≡ true = ap is_lt less in
        record {
          left = ap (λ z. cond z o (left_of new (k ∷ ks))) lt ∙ sym (ap (λ z. cond z o (prev_in (Some k) c ks)) e);
          right = ap (λ z. cond z (Some k) (right_of new ks)) lt ∙ ap Some (sym is);
          absent = ap (λ v. is_eq v || is_among new ks) less ∙ Rattle.tree_cells.proofs.Rows.none_before p k new ks w.2 (inl less);
        }
    by false e rec =
        let g : is_among c ks ≡ true = sym (ap (λ z. z || is_among c ks) e) ∙ a in
        let prev_is : prev_in o c (k ∷ ks) ≡ prev_in (Some k) c ks = ap (λ z. cond z o (prev_in (Some k) c ks)) e in
        let low : (m : Label) → prev_in (Some k) c ks ≡ Some m → slice_cmp nat_cmp m new ≡ Less = λ m h. before m (prev_is ∙ h) in
        let there = prev_behind p k c ks w.2 g in
        let k_low : slice_cmp nat_cmp k new ≡ Less = ⊎_elim (λ q. subst (λ v. slice_cmp nat_cmp v new ≡ Less) q (low there.0 there.1)) (λ q. nat_list_cmp_total.trans k there.0 new q (low there.0 there.1)) there.2 in
        let not_lt : is_lt (slice_cmp nat_cmp new k) ≡ false = ap is_lt (is_behind new k k_low) in
        let rest = rec g low in
        record {
          left = (λ i. cond (not_lt i) o (cond (not_lt i) None (cond (goes_first new ks) (Some k) (left_of new ks)))) ∙ rest.left ∙ sym prev_is;
          right = ap (λ z. cond z (Some k) (right_of new ks)) not_lt ∙ rest.right;
          absent = ap (λ v. is_eq v || is_among new ks) (is_behind new k k_low) ∙ rest.absent;
        }

pub gap_left : (c new : Label) (ls : List Label) → GapBefore None c new ls → left_of new ls ≡ prev_in None c ls
gap_left c new ls h = sym (left_with new ls) ∙ h.left

-- a left neighbour comes before
pub prev_before : (o : Option Label) (p b c m : Label) (ls : List Label) → ((k : Label) → o ≡ Some k → k ≡ b) → Rises p b ls → prev_in o c ls ≡ Some m → slice_cmp nat_cmp m c ≡ Less
prev_before o p b c m [] h w e = no_some (Some m) refl (sym e)
prev_before o p b c m (k ∷ ks) h w e = elim (same_label c k) as (λ z. same_label c k ≡ z → cond z o (prev_in (Some k) c ks) ≡ Some m → slice_cmp nat_cmp m c ≡ Less) [
  | true ↦ λ q g. subst (λ v. slice_cmp nat_cmp v c ≡ Less) (sym (h m g)) (subst (λ v. slice_cmp nat_cmp b v ≡ Less) (sym (same_is_label c k q)) w.1)
  | false ↦ λ _ g. prev_before (Some k) p k c m ks (λ j q. sym (some_is k j q)) w.2 g
] refl e

-- ---- a label in the gap of another one

left_behind : (p b m old : Label) (ls : List Label) → Rises p b ls → left_of old ls ≡ Some m → slice_cmp nat_cmp b m ≡ Less
left_behind p b m old [] w e = no_some (Some m) refl (sym e)
left_behind p b m old (l ∷ ls) w e = elim (is_lt (slice_cmp nat_cmp old l)) as (λ z. cond z None (cond (goes_first old ls) (Some l) (left_of old ls)) ≡ Some m → slice_cmp nat_cmp b m ≡ Less) [
  | true ↦ λ g. no_some (Some m) refl (sym g)
  | false ↦ elim (goes_first old ls) as (λ z. cond z (Some l) (left_of old ls) ≡ Some m → slice_cmp nat_cmp b m ≡ Less) [
    | true ↦ λ g. subst (λ v. slice_cmp nat_cmp b v ≡ Less) (some_is l m g) w.1
    | false ↦ λ g. nat_list_cmp_total.trans b l m w.1 (left_behind p l m old ls w.2 g)
  ]
] e

pub record SameGap (old new : Label) (ls : List Label) : Type 0 where
  pub left : left_of new ls ≡ left_of old ls
  pub right : right_of new ls ≡ right_of old ls
  pub first : goes_first new ls ≡ goes_first old ls
  pub absent : is_among new ls ≡ false

-- a label between the neighbours of another one that isn't there has the same neighbours
pub gap_between : (p b old new : Label) (ls : List Label) → Rises p b ls → is_among old ls ≡ false → ((m : Label) → left_of old ls ≡ Some m → slice_cmp nat_cmp m new ≡ Less) → ((m : Label) → right_of old ls ≡ Some m → slice_cmp nat_cmp new m ≡ Less) → SameGap old new ls
gap_between p b old new [] w n low high = record { left = refl; right = refl; first = refl; absent = refl }
gap_between p b old new (l ∷ ls) w n low high = by (is_lt (slice_cmp nat_cmp old l)) refl (λ a c. gap_between p l old new ls w.2 (neither (same_label old l) (is_among old ls) n).1 a c)
  where
    by : (z : Bool) → is_lt (slice_cmp nat_cmp old l) ≡ z → (((m : Label) → left_of old ls ≡ Some m → slice_cmp nat_cmp m new ≡ Less) → ((m : Label) → right_of old ls ≡ Some m → slice_cmp nat_cmp new m ≡ Less) → SameGap old new ls) → SameGap old new (l ∷ ls)
    by true e rec =
        let less : slice_cmp nat_cmp new l ≡ Less = high l (ap (λ z. cond z (Some l) (right_of old ls)) e) in
        let lt : is_lt (slice_cmp nat_cmp new l) ≡ true = ap is_lt less in
        record {
          left = ap (λ z. cond z None (cond (goes_first new ls) (Some l) (left_of new ls))) lt ∙ sym (ap (λ z. cond z None (cond (goes_first old ls) (Some l) (left_of old ls))) e);
          right = ap (λ z. cond z (Some l) (right_of new ls)) lt ∙ sym (ap (λ z. cond z (Some l) (right_of old ls)) e);
          first = lt ∙ sym e;
          absent = ap (λ v. is_eq v || is_among new ls) less ∙ Rattle.tree_cells.proofs.Rows.none_before p l new ls w.2 (inl less);
        }
    by false e rec =
        let left_old : left_of old (l ∷ ls) ≡ cond (goes_first old ls) (Some l) (left_of old ls) = ap (λ z. cond z None (cond (goes_first old ls) (Some l) (left_of old ls))) e in
        let right_old : right_of old (l ∷ ls) ≡ right_of old ls = ap (λ z. cond z (Some l) (right_of old ls)) e in
        let low_rest : (m : Label) → left_of old ls ≡ Some m → slice_cmp nat_cmp m new ≡ Less = λ m g. elim (goes_first old ls) as (λ z. goes_first old ls ≡ z → slice_cmp nat_cmp m new ≡ Less) [
          | true ↦ λ q. no_some (Some m) refl (sym g ∙ no_left old ls q)
          | false ↦ λ q. low m (left_old ∙ ap (λ z. cond z (Some l) (left_of old ls)) q ∙ g)
        ] refl in
        let rest = rec low_rest (λ m g. high m (right_old ∙ g)) in
        let l_low : slice_cmp nat_cmp l new ≡ Less = elim (goes_first old ls) as (λ z. goes_first old ls ≡ z → slice_cmp nat_cmp l new ≡ Less) [
          | true ↦ λ q. low l (left_old ∙ ap (λ z. cond z (Some l) (left_of old ls)) q)
          | false ↦ λ q. some_low (left_of old ls) refl (left_none old ls ∙ ap not q)
        ] refl in
        let not_lt : is_lt (slice_cmp nat_cmp new l) ≡ false = ap is_lt (is_behind new l l_low) in
        record {
          left = (λ i. cond (not_lt i) None (cond (rest.first i) (Some l) (rest.left i))) ∙ sym left_old;
          right = ap (λ z. cond z (Some l) (right_of new ls)) not_lt ∙ rest.right ∙ sym right_old;
          first = not_lt ∙ sym e;
          absent = ap (λ v. is_eq v || is_among new ls) (is_behind new l l_low) ∙ rest.absent;
        }
      where
        some_low : (o : Option Label) → left_of old ls ≡ o → is_some o ≡ true → slice_cmp nat_cmp l new ≡ Less
        some_low None q h = absurd (true≢false (sym h))
        some_low (Some m) q h = nat_list_cmp_total.trans l m new (left_behind p l m old ls w.2 q) (low_there m q)
          where
            low_there : (m : Label) → left_of old ls ≡ Some m → slice_cmp nat_cmp m new ≡ Less
            low_there m g = elim (goes_first old ls) as (λ z. goes_first old ls ≡ z → slice_cmp nat_cmp m new ≡ Less) [
              | true ↦ λ q. no_some (Some m) refl (sym g ∙ no_left old ls q)
              | false ↦ λ q. low m (ap (λ z. cond z None (cond (goes_first old ls) (Some l) (left_of old ls))) e ∙ ap (λ z. cond z (Some l) (left_of old ls)) q ∙ g)
            ] refl

-- a right neighbour comes behind
pub next_after : (p b c m : Label) (ls : List Label) → Rises p b ls → next_in c ls ≡ Some m → slice_cmp nat_cmp c m ≡ Less
next_after p b c m [] w e = no_some (Some m) refl (sym e)
next_after p b c m (k ∷ ks) w e = elim (same_label c k) as (λ z. same_label c k ≡ z → cond z (head_in ks) (next_in c ks) ≡ Some m → slice_cmp nat_cmp c m ≡ Less) [
  | true ↦ λ q g. subst (λ v. slice_cmp nat_cmp v m ≡ Less) (sym (same_is_label c k q)) (head_after ks w.2 g)
  | false ↦ λ _ g. next_after p k c m ks w.2 g
] refl e
  where
    head_after : (ks : List Label) → Rises p k ks → head_in ks ≡ Some m → slice_cmp nat_cmp k m ≡ Less
    head_after [] w g = no_some (Some m) refl (sym g)
    head_after (j ∷ js) w g = subst (λ v. slice_cmp nat_cmp k v ≡ Less) (some_is j m g) w.1

-- ---- a label behind one of the row

-- what stands in a row comes behind its bound
pub among_behind : (p b c : Label) (ls : List Label) → Rises p b ls → is_among c ls ≡ true → slice_cmp nat_cmp b c ≡ Less
among_behind p b c [] w a = absurd (true≢false (sym a))
among_behind p b c (k ∷ ks) w a = elim (same_label c k) as (λ z. same_label c k ≡ z → (z || is_among c ks) ≡ true → slice_cmp nat_cmp b c ≡ Less) [
  | true ↦ λ e _. subst (λ v. slice_cmp nat_cmp b v ≡ Less) (sym (same_is_label c k e)) w.1
  | false ↦ λ _ g. nat_list_cmp_total.trans b k c w.1 (among_behind p k c ks w.2 g)
] refl a

pub record GapBehind (next : Option Label) (c new : Label) (ls : List Label) : Type 0 where
  pub left : left_of new ls ≡ Some c
  pub right : right_of new ls ≡ next
  pub absent : is_among new ls ≡ false

-- a label before a whole row
record GoesFirst (new : Label) (ls : List Label) : Type 0 where
  first : goes_first new ls ≡ true
  right : right_of new ls ≡ head_in ls
  absent : is_among new ls ≡ false

before_all : (p b new : Label) (ls : List Label) → Rises p b ls → ((m : Label) → head_in ls ≡ Some m → slice_cmp nat_cmp new m ≡ Less) → GoesFirst new ls
before_all p b new [] w h = record { first = refl; right = refl; absent = refl }
before_all p b new (k ∷ ks) w h =
    let less = h k refl in
    record {
      first = ap is_lt less;
      right = ap (λ z. cond z (Some k) (right_of new ks)) (ap is_lt less);
      absent = ap (λ v. is_eq v || is_among new ks) less ∙ Rattle.tree_cells.proofs.Rows.none_before p k new ks w.2 (inl less);
    }

-- a label between a label of the row and its right neighbour
pub gap_behind : (p b c new : Label) (ls : List Label) → Rises p b ls → is_among c ls ≡ true → slice_cmp nat_cmp c new ≡ Less → ((m : Label) → next_in c ls ≡ Some m → slice_cmp nat_cmp new m ≡ Less) → GapBehind (next_in c ls) c new ls
gap_behind p b c new [] w a low high = absurd (true≢false (sym a))
gap_behind p b c new (k ∷ ks) w a low high = by (same_label c k) refl (λ g h. gap_behind p k c new ks w.2 g low h)
  where
    by : (z : Bool) → same_label c k ≡ z → (is_among c ks ≡ true → ((m : Label) → next_in c ks ≡ Some m → slice_cmp nat_cmp new m ≡ Less) → GapBehind (next_in c ks) c new ks) → GapBehind (next_in c (k ∷ ks)) c new (k ∷ ks)
    by true e rec =
        let is : c ≡ k = same_is_label c k e in
        let k_low : slice_cmp nat_cmp k new ≡ Less = subst (λ v. slice_cmp nat_cmp v new ≡ Less) is low in
        let not_lt : is_lt (slice_cmp nat_cmp new k) ≡ false = ap is_lt (is_behind new k k_low) in
        let next_is : next_in c (k ∷ ks) ≡ head_in ks = ap (λ z. cond z (head_in ks) (next_in c ks)) e in
        let rest = before_all p k new ks w.2 (λ m h. high m (next_is ∙ h)) in
        record {
          left = (λ i. cond (not_lt i) None (cond (rest.first i) (Some k) (left_of new ks))) ∙ ap Some (sym is);
          right = ap (λ z. cond z (Some k) (right_of new ks)) not_lt ∙ rest.right ∙ sym next_is;
          absent = ap (λ v. is_eq v || is_among new ks) (is_behind new k k_low) ∙ rest.absent;
        }
    by false e rec =
        let g : is_among c ks ≡ true = sym (ap (λ z. z || is_among c ks) e) ∙ a in
        let k_low : slice_cmp nat_cmp k new ≡ Less = nat_list_cmp_total.trans k c new (among_behind p k c ks w.2 g) low in
        let not_lt : is_lt (slice_cmp nat_cmp new k) ≡ false = ap is_lt (is_behind new k k_low) in
        let next_is : next_in c (k ∷ ks) ≡ next_in c ks = ap (λ z. cond z (head_in ks) (next_in c ks)) e in
        let rest = rec g (λ m h. high m (next_is ∙ h)) in
        let later : goes_first new ks ≡ false = turned (goes_first new ks) (sym (left_none new ks) ∙ ap is_some rest.left) in
        record {
          left = (λ i. cond (not_lt i) None (cond (later i) (Some k) (left_of new ks))) ∙ rest.left;
          right = ap (λ z. cond z (Some k) (right_of new ks)) not_lt ∙ rest.right ∙ sym next_is;
          absent = ap (λ v. is_eq v || is_among new ks) (is_behind new k k_low) ∙ rest.absent;
        }
      where
        turned : (z : Bool) → not z ≡ true → z ≡ false
        turned true h = absurd (true≢false (sym h))
        turned false h = refl

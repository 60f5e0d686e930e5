-- Entries that are taken one after another: what is found among them, the first that breaks a rule, and the path to the last one.
use Rattle.std.proofs.Common.{◌≡◌, ℕ, Bool, true, false, cond, List, [], ◌∷◌, ◌++◌, length, Option, Some, None, inl, inr, Ordering, Less, Equal, Greater, is_eq, nat_cmp, refl, sym, ap, subst, ◌∙◌, append_assoc, true≢false}
use Rattle.std.proofs.lemmas.List.{append-nil}
use Rattle.std.specs.Cmp.Lexicographic.{slice_cmp, nat_list_cmp_total}
use Rattle.std.specs.List.{AllByRecursion}
use Rattle.std.specs.Option.{option_or}
use Rattle.std.specs.Ordering.{ordering_reverse, ordering_then}
use Rattle.std.specs.Prelude.{◌⊎◌, option_map}
use Rattle.dewey_labels.specs.Labels.{Label, is_ancestor}
use Rattle.dewey_labels.specs.Lists.{is_empty}
use Rattle.dewey_labels.specs.Sides.{above, left, same, under, right, ahead, is_in, is_under, rest, side}
use Rattle.dewey_labels.proofs.Sides.{ancestor_under, in_is, right_behind, same_is, side_itself, under_is_in}
use Rattle.tree_model.specs.declared.key.Key.{Key}
use Rattle.tree_model.specs.declared.record.Record.{Record}
use Rattle.tree_model.specs.Entries.{Above, Below, Entries, Sorted, get}
use Rattle.tree_model.specs.Keys.{key_cmp, node_key}
use Rattle.tree_model.specs.StoredTree.{entry_fits, misfit_at}
use Rattle.tree_model.specs.ValidTrees.{same_label}
use Rattle.tree_model.proofs.Entries.{get_here, get_past, last_of, sorted_below}
use Rattle.tree_model.proofs.Keys.{key_tied, key_turned}
use Rattle.tree_model.proofs.Lists.{all_append, all_before, all_behind}
use Rattle.tree_model.proofs.SameEntries.{value_is}
use Rattle.tree_model.proofs.Seeks.{ahead_below_node}
use Rattle.tree_model.proofs.Split.{Later}
use Rattle.tree_model.proofs.StoredCatalogues.{later_not_below, same_label_is}
use Rattle.tree_rules.specs.declared.path.Room.{Room}
use Rattle.tree_rules.specs.declared.path.Step.{Step}
use Rattle.tree_rules.specs.Testing.{IsPath}
use Rattle.tree_rules.specs.inside.Paths.{HasGone, room_at, room_in, room_of}
use Rattle.tree_rules.proofs.PathLaws.{same_itself}

-- ---- what is found

get_other : (k : Key) (es : Entries) (x : Key × Record) → is_eq (key_cmp k x.0) ≡ false → get k (es ++ x ∷ []) ≡ get k es
get_other k [] x h = ap (λ (b : Bool). cond b (Some x.1) None) h
get_other k (e ∷ es) x h = ap (λ (o : Option Record). cond (is_eq (key_cmp k e.0)) (Some e.1) o) (get_other k es x h)

-- an entry that comes behind all others
pub get_absent : (es : Entries) (x : Key × Record) → Sorted (es ++ x ∷ []) → get x.0 es ≡ None
get_absent es x s = ap (get x.0) (sym (append-nil es)) ∙ get_past x.0 es [] (sorted_below es [] x s)

get_last : (es : Entries) (x : Key × Record) → Sorted (es ++ x ∷ []) → get x.0 (es ++ x ∷ []) ≡ Some x.1
get_last es x s = get_past x.0 es (x ∷ []) (sorted_below es [] x s) ∙ get_here x []

then_equal : (o : Ordering) → is_eq (ordering_then o Equal) ≡ is_eq o
then_equal Less = refl
then_equal Equal = refl
then_equal Greater = refl

then_less : (o : Ordering) → is_eq (ordering_then o Less) ≡ false
then_less Less = refl
then_less Equal = refl
then_less Greater = refl

nothing_first : (n : List ℕ) → is_empty n ≡ false → slice_cmp nat_cmp [] n ≡ Less
nothing_first [] h = cc
nothing_first (c ∷ n) h = refl

-- the last is a node
pub get_node : (p l : Label) (r : Record) (es : Entries) → Sorted (es ++ (node_key l, r) ∷ []) → get (node_key p) (es ++ (node_key l, r) ∷ []) ≡ cond (same_label p l) (Some r) (get (node_key p) es)
get_node p l r es s = elim (same_label p l) as (λ b. same_label p l ≡ b → get (node_key p) (es ++ (node_key l, r) ∷ []) ≡ cond b (Some r) (get (node_key p) es)) [
  | true ↦ λ q. ap (λ (m : Label). get (node_key m) (es ++ (node_key l, r) ∷ [])) (same_label_is p l q) ∙ get_last es (node_key l, r) s
  | false ↦ λ q. get_other (node_key p) es (node_key l, r) (then_equal (slice_cmp nat_cmp p l) ∙ q)
] refl

-- it is an attribute
pub get_attribute : (p : Label) (x : Key × Record) (es : Entries) → is_empty x.0.name ≡ false → get (node_key p) (es ++ x ∷ []) ≡ get (node_key p) es
get_attribute p x es h =
    get_other (node_key p) es x (ap (λ (o : Ordering). is_eq (ordering_then (slice_cmp nat_cmp p x.0.label) o)) (nothing_first x.0.name h) ∙ then_less (slice_cmp nat_cmp p x.0.label))

-- what holds of all entries holds of one that is found
pub found_all : (P : Key × Record → Type 0) (k : Key) (r : Record) (es : Entries) → AllByRecursion P es → get k es ≡ Some r → P (k, r)
found_all P k r [] all h = cc
found_all P k r (e ∷ es) all h =
    elim (key_cmp k e.0) as (λ o. key_cmp k e.0 ≡ o → cond (is_eq o) (Some e.1) (get k es) ≡ Some r → P (k, r)) [
      | Less ↦ λ _ g. found_all P k r es all.1 g
      | Equal ↦ λ q g. subst P (λ i. (sym (key_tied k e.0 q) i, value_is e.1 r g i)) all.0
      | Greater ↦ λ _ g. found_all P k r es all.1 g
    ] refl h

pub last_more : (es : Entries) (x : Key × Record) → last_of (es ++ x ∷ []) ≡ Some x
last_more [] x = refl
last_more (e ∷ es) x = ap (λ (o : Option (Key × Record)). option_or o (Some e)) (last_more es x)

-- ---- the first that breaks a rule

pub misfit_more : (before es : Entries) (x : Key × Record) → misfit_at before es ≡ None → misfit_at before (es ++ x ∷ []) ≡ cond (entry_fits (before ++ es) x) None (Some (length (before ++ es)))
misfit_more before [] x h = ap (λ (v : Entries). cond (entry_fits v x) None (Some (length v))) (sym (append-nil before))
misfit_more before (e ∷ es) x h =
    elim (entry_fits before e) as (λ b. cond b (misfit_at (before ++ e ∷ []) es) (Some (length before)) ≡ None
    → cond b (misfit_at (before ++ e ∷ []) (es ++ x ∷ [])) (Some (length before)) ≡ cond (entry_fits (before ++ e ∷ es) x) None (Some (length (before ++ e ∷ es)))) [
      | true ↦ λ g. misfit_more (before ++ e ∷ []) es x g ∙ ap (λ (v : Entries). cond (entry_fits v x) None (Some (length v))) (append_assoc before (e ∷ []) es)
      | false ↦ λ g. cc
    ] h

pub misfit_stays : (before es more : Entries) (at : ℕ) → misfit_at before es ≡ Some at → misfit_at before (es ++ more) ≡ Some at
misfit_stays before [] more at h = cc
misfit_stays before (e ∷ es) more at h =
    elim (entry_fits before e) as (λ b. cond b (misfit_at (before ++ e ∷ []) es) (Some (length before)) ≡ Some at → cond b (misfit_at (before ++ e ∷ []) (es ++ more)) (Some (length before)) ≡ Some at) [
      | true ↦ λ g. misfit_stays (before ++ e ∷ []) es more at g
      | false ↦ λ g. g
    ] h

-- ---- the path

-- what stands between a node and an entry in its subtree stands in its subtree
between : (p : Label) (y x : Key × Record) → Above (node_key p) y → Above y.0 x → is_in (side p x.0.label) ≡ true → is_in (side p y.0.label) ≡ true
between p y x low high b = elim (side p y.0.label) as (λ s. side p y.0.label ≡ s → is_in s ≡ true) [
  | above ↦ λ s. absurd (early (ap ahead s))
  | left ↦ λ s. absurd (early (ap ahead s))
  | same ↦ λ _. refl
  | under ↦ λ _. refl
  | right ↦ λ s. absurd (later_not_below x.0.label x.0.name y (turned (subst (λ k. slice_cmp nat_cmp y.0.label k ≡ Greater) (sym (in_is p x.0.label b)) (right_behind p y.0.label (rest p x.0.label) s))) high)
] refl
  where
    early : ahead (side p y.0.label) ≡ true → ⊥
    early g = let clash : Less ≡ Greater = sym (ahead_below_node p [] y g) ∙ key_turned (node_key p) y.0 low in cc

    turned : slice_cmp nat_cmp y.0.label x.0.label ≡ Greater → Later x.0.label y.0.label
    turned g = nat_list_cmp_total.antisymm x.0.label y.0.label ∙ ap ordering_reverse g

pub in_itself : (l : Label) → is_in (side l l) ≡ true
in_itself l = ap is_in (side_itself l)

pub in_below : (p l : Label) → is_ancestor p l ≡ true → is_in (side p l) ≡ true
in_below p l h = under_is_in (side p l) (sym (ancestor_under p l) ∙ h)

-- one in the subtree stands at the label or under it
in_cases : (p l : Label) → is_in (side p l) ≡ true → same_label p l ≡ false → is_ancestor p l ≡ true
in_cases p l h apart = elim (side p l) as (λ s. side p l ≡ s → is_in s ≡ true → is_ancestor p l ≡ true) [
  | above ↦ λ _ g. cc
  | left ↦ λ _ g. cc
  | same ↦ λ s _. absurd (true≢false (sym (same_itself p) ∙ ap (same_label p) (sym (same_is p l s)) ∙ apart))
  | under ↦ λ s _. ancestor_under p l ∙ ap is_under s
  | right ↦ λ _ g. cc
] refl h

-- entries with one fewer before the last
sorted_without : (es : Entries) (x y : Key × Record) → Sorted ((es ++ x ∷ []) ++ y ∷ []) → Sorted (es ++ y ∷ [])
sorted_without [] x y s = s.1
sorted_without (e ∷ es) x y s =
    let all = all_before (Above e.0) (es ++ x ∷ []) (y ∷ []) s.0 in
    let last = all_behind (Above e.0) (es ++ x ∷ []) (y ∷ []) s.0 in
    (all_append (Above e.0) es (y ∷ []) (all_before (Above e.0) es (x ∷ []) all) last, sorted_without es x y s.1)

pub sorted_first : (es more : Entries) → Sorted (es ++ more) → Sorted es
sorted_first [] more s = tt
sorted_first (e ∷ es) more s = (all_before (Above e.0) es more s.0, sorted_first es more s.1)

none_in : (p : Label) (es : Entries) → get (node_key p) es ≡ None → room_in p es ≡ None
none_in p es h = ap (option_map room_of) h

absent_room : (path : List Step) (es : Entries) (p : Label) → IsPath path es → room_in p es ≡ None → room_at p path ≡ None
absent_room path es p keeps none = elim (room_at p path) as (λ (o : Option Room). room_at p path ≡ o → o ≡ None) [
  | None ↦ λ _. refl
  | Some r ↦ λ q. sym (keeps.only p r q) ∙ none
] refl

pub path_begins : (path : List Step) → path ≡ [] → IsPath path []
path_begins path none = record {
  has = λ p x s b. ap (room_at p) none;
  only = λ p r h. let clash : None ≡ Some r = sym (ap (room_at p) none) ∙ h in cc;
}

-- behind an attribute
pub path_attribute : (path : List Step) (es : Entries) (x : Key × Record) → IsPath path es → is_empty x.0.name ≡ false → IsPath path (es ++ x ∷ [])
path_attribute path es x keeps named =
    let found : (p : Label) → room_in p (es ++ x ∷ []) ≡ room_in p es = λ p. ap (option_map room_of) (get_attribute p x es named) in
    record {
      has = λ p y s b. keeps.has p y (sorted_without es x y s) b ∙ sym (found p);
      only = λ p r h. found p ∙ keeps.only p r h;
    }

-- behind a node
module _ (path new : List Step) (es : Entries) (l : Label) (r : Record) (keeps : IsPath path es) (gone : HasGone l (room_of r) path new) (sorted : Sorted (es ++ (node_key l, r) ∷ [])) where
  abbrev x : Key × Record
  x = (node_key l, r)

  found : (p : Label) → room_in p (es ++ x ∷ []) ≡ cond (same_label p l) (Some (room_of r)) (room_in p es)
  found p = ap (option_map room_of) (get_node p l r es sorted) ∙ by_test (same_label p l)
    where
      by_test : (b : Bool) → option_map room_of (cond b (Some r) (get (node_key p) es)) ≡ cond b (Some (room_of r)) (room_in p es)
      by_test true = refl
      by_test false = refl

  none_there : room_in l es ≡ None
  none_there = none_in l es (get_absent es x sorted)

  at_node : (p : Label) → same_label p l ≡ true → room_at p new ≡ Some (room_of r)
  at_node p q = ap (λ (m : Label). room_at m new) (same_label_is p l q) ∙ gone.here (absent_room path es l keeps none_there)

  -- a node with an entry behind this one in its subtree, and not this one, isn't there
  beside : (p : Label) (y : Key × Record) → Sorted ((es ++ x ∷ []) ++ y ∷ []) → is_in (side p y.0.label) ≡ true → same_label p l ≡ false → is_ancestor p l ≡ false → room_in p es ≡ None
  beside p y s b apart above_not = elim (get (node_key p) es) as (λ (o : Option Record). get (node_key p) es ≡ o → option_map room_of o ≡ None) [
    | None ↦ λ _. refl
    | Some q ↦ λ h.
        let low : Above (node_key p) x = found_all (Below x.0) (node_key p) q es (sorted_below es [] x sorted) h in
        let high : Above x.0 y = (all_behind (Below y.0) es (x ∷ []) (sorted_below (es ++ x ∷ []) [] y s)).0 in
        absurd (true≢false (sym (in_cases p l (between p x y low high b) apart) ∙ above_not))
  ] refl

  -- so the path hasn't got it
  off_path : (p : Label) → same_label p l ≡ false → room_in p es ≡ None → room_at p new ≡ None
  off_path p apart none = elim (room_at p new) as (λ (o : Option Room). room_at p new ≡ o → o ≡ None) [
    | None ↦ λ _. refl
    | Some q ↦ λ h. elim (gone.fewer p q h) [
      | inl old ↦ sym (keeps.only p q old) ∙ none
      | inr here ↦ absurd (true≢false (sym (ap (same_label p) (sym here.0) ∙ same_itself p) ∙ apart))
    ]
  ] refl

  on_path : (p : Label) (y : Key × Record) → Sorted ((es ++ x ∷ []) ++ y ∷ []) → is_in (side p y.0.label) ≡ true → same_label p l ≡ false → room_at p new ≡ room_in p es
  on_path p y s b apart = elim (is_ancestor p l) as (λ a. is_ancestor p l ≡ a → room_at p new ≡ room_in p es) [
    | true ↦ λ a. gone.above p a ∙ keeps.has p x sorted (in_below p l a)
    | false ↦ λ a. let none = beside p y s b apart a in off_path p apart none ∙ sym none
  ] refl

  pub path_node : IsPath new (es ++ x ∷ [])
  path_node = record {
    has = λ p y s b. elim (same_label p l) as (λ t. same_label p l ≡ t → room_at p new ≡ cond t (Some (room_of r)) (room_in p es)) [
      | true ↦ λ q. at_node p q
      | false ↦ λ q. on_path p y s b q
    ] refl ∙ sym (found p);
    only = λ p q h. found p ∙ only_node p q (gone.fewer p q h);
  }
    where
      only_node : (p : Label) (q : Room) → (room_at p path ≡ Some q) ⊎ ((p ≡ l) × (q ≡ room_of r)) → cond (same_label p l) (Some (room_of r)) (room_in p es) ≡ Some q
      only_node p q (inl old) = elim (same_label p l) as (λ t. same_label p l ≡ t → cond t (Some (room_of r)) (room_in p es) ≡ Some q) [
        | true ↦ λ e. let clash : None ≡ Some q = sym none_there ∙ ap (λ (m : Label). room_in m es) (sym (same_label_is p l e)) ∙ keeps.only p q old in cc
        | false ↦ λ _. keeps.only p q old
      ] refl
      only_node p q (inr here) = ap (λ (b : Bool). cond b (Some (room_of r)) (room_in p es)) (ap (same_label p) (sym here.0) ∙ same_itself p) ∙ ap (λ (room : Room). Some room) (sym here.1)

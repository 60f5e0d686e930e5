-- Lists of a tree's positions, put in document order without doubles, are what is filtered out of all positions.
use Rattle.std.proofs.Common.{◌≡◌, Bool, true, false, cond, ◌||◌, List, [], ◌∷◌, ◌++◌, inl, inr, map, refl, sym, ap, subst, ◌∙◌, Less}
use Rattle.std.specs.List.{AllByRecursion, filter, list_any}
use Rattle.std.specs.Ordering.{is_eq}
use Rattle.std.proofs.lemmas.List.Folds.{list_any-append}
use Rattle.dewey_labels.specs.Labels.{Label, root}
use Rattle.tree_model.specs.declared.key.Key.{Key}
use Rattle.tree_model.specs.Entries.{Entries, Above, Sorted}
use Rattle.tree_model.specs.Keys.{key_cmp}
use Rattle.tree_model.specs.Orders.{by_order}
use Rattle.tree_model.specs.Tree.{Attributes, Forest, none, node, Tree, attr_entry, own, entries_of}
use Rattle.tree_model.specs.ValidTrees.{IsValidTree}
use Rattle.tree_model.proofs.Keys.{key_itself, key_turned}
use Rattle.tree_model.proofs.Sorted.{entries_sorted}
use Rattle.path_model.specs.Positions.{Position, a_node, attributes_at, positions_in, positions, key_of, is_same}
use Rattle.path_model.specs.Meaning.{is_among, union}
use Rattle.path_model.specs.Evaluation.{put_in, in_order}
use Rattle.path_model.specs.Sets.{Among, Precedes, Rises}
use Rattle.path_model.proofs.Members.{AllAmong, all_filtered}
use Rattle.path_model.proofs.ProgramAnswers.{flat}

-- ---- rising positions

-- positions and the entries at their keys
abbrev Paired : List Position → Entries → Type 0
Paired [] [] = Unit {0}
Paired [] (e ∷ es) = ⊥
Paired (n ∷ ns) [] = ⊥
Paired (n ∷ ns) (e ∷ es) = (key_of n ≡ e.0) × Paired ns es

paired_append : (ns ms : List Position) (es fs : Entries) → Paired ns es → Paired ms fs → Paired (ns ++ ms) (es ++ fs)
paired_append [] ms [] fs h g = g
paired_append [] ms (e ∷ es) fs h g = absurd h
paired_append (n ∷ ns) ms [] fs h g = absurd h
paired_append (n ∷ ns) ms (e ∷ es) fs h g = (h.0, paired_append ns ms es fs h.1 g)

paired_attributes : (l : Label) (ats : Attributes) → Paired (attributes_at l ats) (map (attr_entry l) ats)
paired_attributes l [] = tt
paired_attributes l (a ∷ ats) = (refl, paired_attributes l ats)

paired_positions : (f : Forest) → Paired (positions_in f) (entries_of f)
paired_positions none = tt
paired_positions (node l r ats ch nx) =
    paired_append ((a_node l r ∷ attributes_at l ats) ++ positions_in ch) (positions_in nx) (own l r ats ++ entries_of ch) (entries_of nx)
    (paired_append (a_node l r ∷ attributes_at l ats) (positions_in ch) (own l r ats) (entries_of ch) (refl, paired_attributes l ats) (paired_positions ch)) (paired_positions nx)

above_paired : (k : Key) (ns : List Position) (es : Entries) → Paired ns es → AllByRecursion (Above k) es → AllByRecursion (λ m. key_cmp k (key_of m) ≡ Less) ns
above_paired k [] es h g = tt
above_paired k (n ∷ ns) [] h g = absurd h
above_paired k (n ∷ ns) (e ∷ es) h g = (ap (key_cmp k) h.0 ∙ g.0, above_paired k ns es h.1 g.1)

rising_paired : (ns : List Position) (es : Entries) → Paired ns es → Sorted es → Rises ns
rising_paired [] es h g = tt
rising_paired (n ∷ ns) [] h g = absurd h
rising_paired (n ∷ ns) (e ∷ es) h g = (above_paired (key_of n) ns es h.1 (subst (λ k. AllByRecursion (Above k) es) (sym h.0) g.0), rising_paired ns es h.1 g.1)

pub positions_rise : (t : Tree) → IsValidTree t → Rises (positions t)
positions_rise t w = rising_paired (positions t) (entries_of t.documents) (paired_positions t.documents) (entries_sorted root root t.documents w.keys)

-- ---- filters

pub filter_on : {A : Type 0} (p q : A → Bool) → ((x : A) → p x ≡ q x) → (xs : List A) → filter p xs ≡ filter q xs
filter_on p q h [] = refl
filter_on p q h (x ∷ xs) = ap (λ b. cond b (x ∷ filter p xs) (filter p xs)) (h x) ∙ ap (λ (ys : List _). cond (q x) (x ∷ ys) ys) (filter_on p q h xs)

-- for what holds of each item
pub filter_where : {A : Type 0} (P : A → Type 0) (p q : A → Bool) → ((x : A) → P x → p x ≡ q x) → (xs : List A) → AllByRecursion P xs → filter p xs ≡ filter q xs
filter_where P p q h [] w = refl
filter_where P p q h (x ∷ xs) w = ap (λ b. cond b (x ∷ filter p xs) (filter p xs)) (h x w.0) ∙ ap (λ (ys : List _). cond (q x) (x ∷ ys) ys) (filter_where P p q h xs w.1)

filter_none : (xs : List Position) → filter (λ m. false) xs ≡ []
filter_none [] = refl
filter_none (x ∷ xs) = filter_none xs

-- ---- one more position

pub not_same_higher : (x m : Position) → Precedes x m → is_same m x ≡ false
not_same_higher x m h = ap is_eq (key_turned (key_of x) (key_of m) h)

not_same_lower : (x m : Position) → Precedes m x → is_same m x ≡ false
not_same_lower x m h = ap is_eq h

pub same_itself : (x : Position) → is_same x x ≡ true
same_itself x = ap is_eq (key_itself (key_of x))

-- before positions that lie above it
pub put_low : (x : Position) (ms : List Position) → AllByRecursion (Precedes x) ms → put_in x ms ≡ x ∷ ms
put_low x [] h = refl
put_low x (m ∷ ms) h = ap (λ o. by_order o (x ∷ m ∷ ms) (m ∷ ms) (m ∷ put_in x ms)) h.0

pub higher_member : (y x : Position) (ms : List Position) → AllByRecursion (Precedes y) ms → Among x ms → Precedes y x
higher_member y x [] h i = absurd i
higher_member y x (m ∷ ms) h (inl e) = subst (Precedes y) (sym e) h.0
higher_member y x (m ∷ ms) h (inr i) = higher_member y x ms h.1 i

module _ (x : Position) (q : Position → Bool) where
  abbrev Or : Position → Bool
  Or m = is_same m x || q m

  put_here : (ys : List Position) → AllByRecursion (Precedes x) ys → (b : Bool) → put_in x (cond b (x ∷ filter q ys) (filter q ys)) ≡ x ∷ filter q ys
  put_here ys h true = ap (λ o. by_order o (x ∷ x ∷ filter q ys) (x ∷ filter q ys) (x ∷ put_in x (filter q ys))) (key_itself (key_of x))
  put_here ys h false = put_low x (filter q ys) (all_filtered (Precedes x) q ys h)

  pub put_filter : (ps : List Position) → Rises ps → Among x ps → put_in x (filter q ps) ≡ filter Or ps
  put_filter [] r i = absurd i
  put_filter (y ∷ ys) r (inl e) =
      let above : AllByRecursion (Precedes x) ys = subst (λ z. AllByRecursion (Precedes z) ys) (sym e) r.0 in
      let others : filter q ys ≡ filter Or ys = filter_where (Precedes x) q Or (λ m h. sym (ap (λ b. b || q m) (not_same_higher x m h))) ys above in
      ap (λ z. put_in x (cond (q y) (z ∷ filter q ys) (filter q ys))) (sym e)
      ∙ put_here ys above (q y)
      ∙ ap (λ (zs : List Position). x ∷ zs) others
      ∙ ap (λ z. z ∷ filter Or ys) e
      ∙ sym (ap (λ b. cond (b || q y) (y ∷ filter Or ys) (filter Or ys)) (ap (λ z. is_same y z) e ∙ same_itself y))
  put_filter (y ∷ ys) r (inr i) =
      let low : Precedes y x = higher_member y x ys r.0 i in
      let rest = put_filter ys r.1 i in
      passed (q y) low rest ∙ sym (ap (λ b. cond (b || q y) (y ∷ filter Or ys) (filter Or ys)) (not_same_lower x y low))
    where
      passed : (b : Bool) → Precedes y x → put_in x (filter q ys) ≡ filter Or ys → put_in x (cond b (y ∷ filter q ys) (filter q ys)) ≡ cond b (y ∷ filter Or ys) (filter Or ys)
      passed true low rest = ap (λ o. by_order o (x ∷ y ∷ filter q ys) (y ∷ filter q ys) (y ∷ put_in x (filter q ys))) (key_turned (key_of y) (key_of x) low) ∙ ap (λ (zs : List Position). y ∷ zs) rest
      passed false low rest = rest

-- ---- lists as sets

pub in_order_is : (ps : List Position) → Rises ps → (ms : List Position) → AllAmong ps ms → in_order ms ≡ filter (λ m. is_among m ms) ps
in_order_is ps r [] h = sym (filter_none ps)
in_order_is ps r (x ∷ xs) h = ap (put_in x) (in_order_is ps r xs h.1) ∙ put_filter x (λ m. is_among m xs) ps r h.0

among_flat : (m : Position) (leads : Position → List Position) (ns : List Position) → is_among m (flat leads ns) ≡ list_any (λ n. is_among m (leads n)) ns
among_flat m leads [] = refl
among_flat m leads (n ∷ ns) = list_any-append (λ k. is_same m k) (leads n) (flat leads ns) ∙ ap (λ b. is_among m (leads n) || b) (among_flat m leads ns)

-- the lists to which nodes lead are their union
pub union_is : (t : Tree) → IsValidTree t → (leads : Position → List Position) (ns : List Position) → AllAmong (positions t) (flat leads ns) → in_order (flat leads ns) ≡ union t leads ns
union_is t w leads ns h =
    in_order_is (positions t) (positions_rise t w) (flat leads ns) h
    ∙ filter_on (λ m. is_among m (flat leads ns)) (λ m. list_any (λ n. is_among m (leads n)) ns) (λ m. among_flat m leads ns) (positions t)

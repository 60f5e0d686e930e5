-- A subtree, the descendants of a node and what follows it, each as a stretch of the entries; and an attribute's entry.
use Rattle.std.proofs.Common.{◌≡◌, ℕ, Bool, true, false, cond, List, [], ◌∷◌, ◌++◌, map, filter, Option, Some, None, Less, nat_cmp, is_eq, refl, sym, ap, ◌∙◌, append_assoc, append-nil}
use Rattle.std.specs.Ordering.{ordering_then}
use Rattle.std.specs.Cmp.Lexicographic.{slice_cmp}
use Rattle.std.specs.List.{AllByRecursion}
use Rattle.dewey_labels.specs.Labels.{Label}
use Rattle.dewey_labels.specs.Sides.{Side, above, left, same, under, right, side, is_under, is_in, ahead, is_right}
use Rattle.dewey_labels.proofs.Sides.{side_itself, right_before, under_before}
use Rattle.tree_model.specs.declared.key.Key.{Key}
use Rattle.tree_model.specs.declared.record.Record.{Record}
use Rattle.tree_model.specs.Names.{Name}
use Rattle.tree_model.specs.Keys.{key_at, node_key}
use Rattle.tree_model.specs.Entries.{Entries, Below, Above, get}
use Rattle.tree_model.specs.Tree.{Attributes, Forest, attr_entry, own, entries_of, beside}
use Rattle.tree_model.proofs.Lists.{all_append, all_on}
use Rattle.tree_model.proofs.Entries.{get_past, get_none}
use Rattle.tree_model.proofs.Split.{own_all, Labelled, SideIs, SideIn, all_under}
use Rattle.tree_model.proofs.Found.{Lies}
use Rattle.tree_model.proofs.EntryLimits.{list_itself}
use Rattle.tree_model.proofs.Seeks.{ahead_below_node, later_above}
use Rattle.tree_model.proofs.ForwardReads.{behind_right}
use Rattle.tree_model.specs.declared.record.Record.TheVariants.{Attr}

module _ {A : Type 0} (p : A → Bool) where
  filter_append : (xs ys : List A) → filter p (xs ++ ys) ≡ filter p xs ++ filter p ys
  filter_append [] ys = refl
  filter_append (x ∷ xs) ys = elim (p x) as (λ b. cond b (x ∷ filter p (xs ++ ys)) (filter p (xs ++ ys)) ≡ cond b (x ∷ filter p xs) (filter p xs) ++ filter p ys) [ true ↦ ap (λ v. x ∷ v) (filter_append xs ys) | false ↦ filter_append xs ys ]

  filter_none : (xs : List A) → AllByRecursion (λ x. p x ≡ false) xs → filter p xs ≡ []
  filter_none [] h = refl
  filter_none (x ∷ xs) h = ap (λ b. cond b (x ∷ filter p xs) (filter p xs)) h.0 ∙ filter_none xs h.1

  filter_all : (xs : List A) → AllByRecursion (λ x. p x ≡ true) xs → filter p xs ≡ xs
  filter_all [] h = refl
  filter_all (x ∷ xs) h = ap (λ b. cond b (x ∷ filter p xs) (filter p xs)) h.0 ∙ ap (λ v. x ∷ v) (filter_all xs h.1)

ahead_not_in : (s : Side) → ahead s ≡ true → is_in s ≡ false
ahead_not_in above h = refl
ahead_not_in left h = refl
ahead_not_in same h = cc
ahead_not_in under h = cc
ahead_not_in right h = cc

ahead_not_under : (s : Side) → ahead s ≡ true → is_under s ≡ false
ahead_not_under above h = refl
ahead_not_under left h = refl
ahead_not_under same h = cc
ahead_not_under under h = cc
ahead_not_under right h = cc

ahead_not_right : (s : Side) → ahead s ≡ true → is_right s ≡ false
ahead_not_right above h = refl
ahead_not_right left h = refl
ahead_not_right same h = cc
ahead_not_right under h = cc
ahead_not_right right h = cc

-- of three parts the middle one
module _ {A : Type 0} (q : A → Bool) where
  -- a test that holds of the middle part alone filters it out
  pub middle : (a b c : List A) → AllByRecursion (λ x. q x ≡ false) a → AllByRecursion (λ x. q x ≡ true) b → AllByRecursion (λ x. q x ≡ false) c → filter q ((a ++ b) ++ c) ≡ b
  middle a b c f g h = filter_append q (a ++ b) c ∙ (λ i. filter_append q a b i ++ filter_none q c h i) ∙ append-nil _ ∙ (λ i. filter_none q a f i ++ filter_all q b g i)

module _ (p l : Label) (r : Record) (ats : Attributes) (ch nx : Forest) (es : Entries) (z : Lies p l r ats ch nx es) where
  abbrev By : (Side → Bool) → Key × Record → Bool
  By t e = t (side l e.0.label)

  -- a subtree is what lies at or under its label; its descendants lie under it; and what follows it in document order lies to its right
  pub stretch_law : filter (λ e. is_in (side l e.0.label)) es ≡ own l r ats ++ entries_of ch
  stretch_law =
      let q : Key × Record → Bool = By is_in in
      let back = entries_of nx ++ z.after in
      let whole : es ≡ (z.before ++ (own l r ats ++ entries_of ch)) ++ back = z.whole ∙ ap (λ v. v ++ back) (append_assoc z.before (own l r ats) (entries_of ch)) in
      ap (filter q) whole ∙ middle q z.before (own l r ats ++ entries_of ch) back
      (all_on (Labelled (λ k. ahead (side l k) ≡ true)) (λ e. q e ≡ false) (λ e h. ahead_not_in _ h) z.before z.before_ahead)
      (all_append (λ e. q e ≡ true) (own l r ats) (entries_of ch) (own_all (SideIn l) l r ats (ap is_in (side_itself l))) (all_on (Labelled (SideIs l under)) (λ e. q e ≡ true) (λ e h. ap is_in h) (entries_of ch) (all_under l l ch z.children)))
      (all_on (Labelled (SideIs l right)) (λ e. q e ≡ false) (λ e h. ap is_in h) back (behind_right p l r ats ch nx es z))

  -- the descendants lie under the label
  pub descendants_law : filter (λ e. is_under (side l e.0.label)) es ≡ entries_of ch
  descendants_law =
      let q : Key × Record → Bool = By is_under in
      let back = entries_of nx ++ z.after in
      ap (filter q) z.whole ∙ middle q (z.before ++ own l r ats) (entries_of ch) back
      (all_append (λ e. q e ≡ false) z.before (own l r ats) (all_on (Labelled (λ k. ahead (side l k) ≡ true)) (λ e. q e ≡ false) (λ e h. ahead_not_under _ h) z.before z.before_ahead) (own_all (λ k. is_under (side l k) ≡ false) l r ats (ap is_under (side_itself l))))
      (all_on (Labelled (SideIs l under)) (λ e. q e ≡ true) (λ e h. ap is_under h) (entries_of ch) (all_under l l ch z.children))
      (all_on (Labelled (SideIs l right)) (λ e. q e ≡ false) (λ e h. ap is_under h) back (behind_right p l r ats ch nx es z))

  -- what follows in document order lies to the right
  pub following_law : filter (λ e. is_right (side l e.0.label)) es ≡ entries_of nx ++ z.after
  following_law =
      let q : Key × Record → Bool = By is_right in
      let back = entries_of nx ++ z.after in
      ap (filter q) (z.whole ∙ sym (append-nil _)) ∙ middle q ((z.before ++ own l r ats) ++ entries_of ch) back []
      (all_append (λ e. q e ≡ false) (z.before ++ own l r ats) (entries_of ch)
      (all_append (λ e. q e ≡ false) z.before (own l r ats) (all_on (Labelled (λ k. ahead (side l k) ≡ true)) (λ e. q e ≡ false) (λ e h. ahead_not_right _ h) z.before z.before_ahead) (own_all (λ k. is_right (side l k) ≡ false) l r ats (ap is_right (side_itself l))))
      (all_on (Labelled (SideIs l under)) (λ e. q e ≡ false) (λ e h. ap is_right h) (entries_of ch) (all_under l l ch z.children)))
      (all_on (Labelled (SideIs l right)) (λ e. q e ≡ true) (λ e h. ap is_right h) back (behind_right p l r ats ch nx es z))
      tt

-- ---- an attribute

-- the record of an attribute that was looked for
abbrev pub attr_record : Option (List ℕ) → Option Record
attr_record None = None
attr_record (Some v) = Some (Attr v)

-- an attribute's entry, before entries above it
pub get_attr : (l : Label) (n : Name) (ats : Attributes) (ys : Entries) → AllByRecursion (Above (key_at l n)) ys → get (key_at l n) (map (attr_entry l) ats ++ ys) ≡ attr_record (beside n ats)
get_attr l n [] ys h = get_none (key_at l n) ys h
get_attr l n (a ∷ ats) ys h =
    ap (λ o. cond (is_eq (ordering_then o (slice_cmp nat_cmp n a.0))) (Some (Attr a.1)) (get (key_at l n) (map (attr_entry l) ats ++ ys))) (list_itself l)
    ∙ elim (is_eq (slice_cmp nat_cmp n a.0)) as (λ b. cond b (Some (Attr a.1)) (get (key_at l n) (map (attr_entry l) ats ++ ys)) ≡ attr_record (cond b (Some a.1) (beside n ats))) [ true ↦ refl | false ↦ get_attr l n ats ys h ]

module _ (p l : Label) (r : Record) (ats : Attributes) (ch nx : Forest) (es : Entries) (z : Lies p l r ats ch nx es) where
  -- the record at the key of an attribute of a found node
  pub attr_law : (d : ℕ) (n : Name) → get (key_at l (d ∷ n)) es ≡ attr_record (beside (d ∷ n) ats)
  attr_law d n =
      let k = key_at l (d ∷ n) in
      let back = entries_of ch ++ (entries_of nx ++ z.after) in
      let prefix = z.before ++ ((node_key l, r) ∷ []) in
      let lows : AllByRecursion (Below k) prefix = all_append (Below k) z.before _ (all_on (Labelled (λ v. ahead (side l v) ≡ true)) (Below k) (ahead_below_node l (d ∷ n)) z.before z.before_ahead) (ap (λ o. ordering_then o Less) (list_itself l), tt) in
      let highs : AllByRecursion (Above k) back = all_append (Above k) (entries_of ch) _ (all_on (Labelled (SideIs l under)) (Above k) (λ e h. later_above l (d ∷ n) e (under_before l e.0.label h)) (entries_of ch) (all_under l l ch z.children)) (all_on (Labelled (SideIs l right)) (Above k) (λ e h. later_above l (d ∷ n) e (right_before l e.0.label h)) _ (behind_right p l r ats ch nx es z)) in
      let cut : es ≡ prefix ++ (map (attr_entry l) ats ++ back) = z.whole ∙ simp append_assoc refl in
      ap (get k) cut ∙ get_past k prefix _ lows ∙ get_attr l (d ∷ n) ats back highs

-- `split_text` keeps a valid tree valid, gives the text its left part, and puts a new text with the right one.
use Rattle.std.specs.Cmp.Lexicographic.{slice_cmp}
use Rattle.std.proofs.Common.{◌≡◌, ℕ, ◌+◌, ◌≤◌, true, false, cond, List, [], ◌∷◌, ◌++◌, map, Option, None, Some, Less, nat_cmp, is_lt, is_eq, refl, sym, ap}
use Rattle.std.proofs.Common.{subst, ◌∙◌, true≢false, ⊎_elim}
use Rattle.dewey_labels.specs.Labels.{Label, root, parent, is_child, is_label, level}
use Rattle.dewey_labels.specs.NewLabels.{new_label}
use Rattle.dewey_labels.proofs.Labels.{level_of_child, parent_of_child, is_label-parent}
use Rattle.tree_model.specs.declared.key.Key.{Key}
use Rattle.tree_model.specs.declared.record.Record.{Record}
use Rattle.tree_model.specs.declared.record.Record.TheVariants.{Document, Element, Text, Attr}
use Rattle.tree_model.specs.declared.refusal.Refusal.{Refusal}
use Rattle.tree_model.specs.declared.refusal.Refusal.TheVariants.{Dom, LabelLimit}
use Rattle.tree_model.specs.declared.reply.Reply.TheVariants.{Place}
use Rattle.tree_model.specs.Limits.{deepest_level}
use Rattle.tree_model.specs.Keys.{node_key}
use Rattle.tree_model.specs.Entries.{changed}
use Rattle.tree_model.specs.Changes.{put_change, drop_change, same_record, stands, put_unless, differences}
use Rattle.tree_model.specs.Tree.{Attributes, Forest, none, node, own, entries_of, Tree, map_of, at, found, head_label, next_of, record_of}
use Rattle.tree_model.specs.inside.FoundNodes.{up, low}
use Rattle.tree_model.specs.ValidTrees.{KeysRise, KindsAllowed, LimitsKept, IsValidTree, may_stand, may_follow, may_have}
use Rattle.tree_model.specs.Outcomes.{Outcome, refused, not_found_err, not_supported_err, index_size_err}
use Rattle.tree_model.specs.Edits.{edited}
use Rattle.tree_model.specs.Places.{is_root}
use Rattle.tree_model.specs.Texts.{is_past, data_before, data_from, split_at, place_rest, split_text_in, split_text}
use Rattle.tree_model.proofs.Edits.{over, raise}
use Rattle.tree_model.proofs.EditedTrees.{labels-edit_below, edited_keeps, found_label}
use Rattle.tree_model.proofs.FoundParents.{over_is}
use Rattle.tree_model.proofs.FoundRecords.{at_kinds}
use Rattle.tree_model.proofs.Keys.{key_itself}
use Rattle.tree_model.proofs.PlaceLaws.{not_root, found_or_not}
use Rattle.tree_model.proofs.SplitTexts.{parts_are_data}
use Rattle.tree_model.proofs.WholeTree.{map_sorted}
use Rattle.tree_changes.specs.KeyChanges.{as_change, change_at}
use Rattle.tree_changes.proofs.Cases.{on_test, on_text}
use Rattle.tree_changes.proofs.EditedMaps.{IsStretch, stretch_differences, stretch_changes, tree_stretch}
use Rattle.tree_changes.proofs.Gaps.{StandsBelow, InGap, stands_below, gap_behind}
use Rattle.tree_changes.proofs.InPlace.{text_may_stand, text_may_have, none_below_text}

-- ---- a text stands alone

-- it has no attributes
pub no_attributes : (d : List ℕ) (ats : Attributes) → may_have (Text d) ats ≡ true → ats ≡ []
no_attributes d [] h = refl
no_attributes d (a ∷ ats) h = cc

-- and nothing under it
pub nothing_below : (d : List ℕ) (ch : Forest) → KindsAllowed (Some (Text d)) ch → ch ≡ none
nothing_below d none h = refl
nothing_below d (node l r ats ch nx) h = cc

-- ---- the differences of a record that changes and an entry that comes behind it

pub differences_of_two : (k : Key) (q r : Record) (x : Key × Record)
    → differences ((k, q) ∷ []) ((k, r) ∷ x ∷ []) ≡ change_at k (Some q) (Some r) ++ (put_change x ∷ [])
differences_of_two k q r x =
    ap (λ o. map drop_change (cond (is_lt o) ((k, q) ∷ []) [])
    ++ (put_unless (stands r (cond (is_eq o) (Some q) None)) (k, r) ++ differences (cond (is_lt o) ((k, q) ∷ []) []) (x ∷ []))) (key_itself k)
    ∙ elim (same_record r q) as (λ b. put_unless b (k, r) ++ (put_change x ∷ []) ≡ as_change k (cond b None (Some (Some r))) ++ (put_change x ∷ [])) [
      | true ↦
          refl
      | false ↦ refl
    ]

-- ---- the call

module _ (l : Label) (offset : ℕ) (t : Tree) where
  -- refused, or split
  pub on_split_text : (P : Outcome → Type 0) → ((why : Refusal) → P (refused why t))
      → ((d : List ℕ) (ats : Attributes) (ch nx : Forest) (new : Label) → at l t.documents ≡ node l (Text d) ats ch nx → is_past offset d ≡ false
      → new_label (parent l) (Some l) (next_of (at l t.documents)) ≡ Some new → P (Place (Some new), edited l (split_at offset new) t))
      → P (split_text l offset t)
  on_split_text P out done = on_text P l t (split_text_in l offset t) (out (Dom not_found_err)) (out (Dom not_supported_err)) (λ d ats ch nx e.
      on_test P (is_past offset d) (refused (Dom index_size_err) t) (place_rest l offset t (new_label (parent l) (Some l) (next_of (at l t.documents))))
      (λ _. out (Dom index_size_err)) (λ inside.
      placed d ats ch nx e inside (new_label (parent l) (Some l) (next_of (at l t.documents))) refl))
    where
      placed : (d : List ℕ) (ats : Attributes) (ch nx : Forest) → at l t.documents ≡ node l (Text d) ats ch nx → is_past offset d ≡ false → (o : Option Label)
          → new_label (parent l) (Some l) (next_of (at l t.documents)) ≡ o → P (place_rest l offset t o)
      placed d ats ch nx e inside None label = out LabelLimit
      placed d ats ch nx e inside (Some new) label = done d ats ch nx new e inside label

  module _ (w : IsValidTree t) (d : List ℕ) (ats : Attributes) (ch nx : Forest) (new : Label) (e : at l t.documents ≡ node l (Text d) ats ch nx)
      (label : new_label (parent l) (Some l) (next_of (at l t.documents)) ≡ Some new) where
    there : found (at l t.documents) ≡ true
    there = ap found e

    pub text_stands : StandsBelow (parent l) l t
    text_stands = stands_below (parent l) l t w.keys there refl

    pub gap : InGap (parent l) new (Some l) (next_of (at l t.documents))
    gap = gap_behind (parent l) l t text_stands new label

    kinds_there : KindsAllowed (over l None t.documents) (node l (Text d) ats ch nx)
    kinds_there = subst (KindsAllowed (over l None t.documents)) e (at_kinds None l t.documents w.kinds)

    no_document : is_child root l ≡ false
    no_document = ⊎_elim (λ c. absurd (⊎_elim
        (λ h. true≢false (sym (subst (λ q. may_stand q (Text d) ≡ true) h.1 kinds_there.0)))
        (λ h. true≢false (ap is_root (sym (text_stands.up_is ∙ parent_of_child root l refl c)) ∙ not_root (up l root t.documents) t w h.0))
        (over_is None root root l t.documents w.keys there)))
        (λ c. c) (found_or_not (is_child root l))

    before_next : (m : Label) → head_label nx ≡ Some m → slice_cmp nat_cmp new m ≡ Less
    before_next m h = gap.before_right m (ap next_of e ∙ h)

    follows : (q : Option Record) (g : Forest) → may_stand q (Text d) ≡ true → may_follow q g ≡ true
    follows None g h = cc
    follows (Some Document) g h = cc
    follows (Some (Element k)) g h = refl
    follows (Some (Text x)) g h = cc
    follows (Some (Attr v)) g h = cc

    split_limits : LimitsKept (node l (Text d) ats ch nx)
        → LimitsKept (node l (Text (data_before offset d)) ats ch (node new (Text (data_from offset d)) [] none nx))
    split_limits k =
        let labelled : is_label (parent l) ≡ true = is_label-parent l (found_label l t.documents w.keys there) in
        let parts = parts_are_data offset d k.1 in
        let deep : level new ≡ level (parent l) + 1 = level_of_child (parent l) new labelled gap.child in
        let own_deep : level l ≡ level (parent l) + 1 = level_of_child (parent l) l labelled text_stands.child in
        (k.0, parts.0, k.2, k.3, (subst (λ z. z ≤ deepest_level) (own_deep ∙ sym deep) k.0, parts.1, tt, tt, k.4))

    pub split_keeps : IsValidTree (edited l (split_at offset new) t)
    split_keeps = edited_keeps l (split_at offset new) t w (record {
      documents = labels-edit_below l root root (split_at offset new) t.documents w.keys no_document;
      keys = subst (λ g. KeysRise (up l root t.documents) (low l root t.documents) g
          → KeysRise (up l root t.documents) (low l root t.documents) (split_at offset new g)) (sym e)
          (λ k. (
            k.0,
            k.1,
            k.2,
            k.3,
            k.4,
            (
              subst (λ z. is_child z new ≡ true) (sym text_stands.up_is) gap.child,
              gap.behind_left l refl,
              gap.within,
              tt,
              tt,
              raise (up l root t.documents) new l nx k.5 before_next,
            ),
          ));
      kinds = subst (λ g. KindsAllowed (over l None t.documents) g → KindsAllowed (over l None t.documents) (split_at offset new g)) (sym e)
          (λ k. (
            text_may_stand (over l None t.documents) d (data_before offset d) k.0,
            follows (over l None t.documents) (node new (Text (data_from offset d)) [] none nx) k.0,
            text_may_have d (data_before offset d) ats k.2,
            none_below_text d (data_before offset d) ch k.3,
            (text_may_stand (over l None t.documents) d (data_from offset d) k.0, k.1, refl, tt, k.4),
          ));
      limits = subst (λ g. LimitsKept g → LimitsKept (split_at offset new g)) (sym e) split_limits;
    })

    -- the text's entry, and in its stead that of its left part and that of the new text
    pub split_stretch : IsStretch ((node_key l, Text d) ∷ []) ((node_key l, Text (data_before offset d)) ∷ (node_key new, Text (data_from offset d)) ∷ []) t
        (edited l (split_at offset new) t)
    split_stretch = subst (λ es. IsStretch es ((node_key l, Text (data_before offset d)) ∷ (node_key new, Text (data_from offset d)) ∷ []) t
        (edited l (split_at offset new) t)) alone
        (tree_stretch l (split_at offset new) t (Text d) ats ch nx e
        ((node_key l, Text (data_before offset d)) ∷ (node_key new, Text (data_from offset d)) ∷ []) both)
      where
        bare : ats ≡ []
        bare = no_attributes d ats kinds_there.2

        empty : ch ≡ none
        empty = nothing_below d ch kinds_there.3

        alone : own l (Text d) ats ++ entries_of ch ≡ (node_key l, Text d) ∷ []
        alone = λ i. own l (Text d) (bare i) ++ entries_of (empty i)

        both : entries_of (split_at offset new (node l (Text d) ats ch nx)) ≡ ((node_key l, Text (data_before offset d))
            ∷ (node_key new, Text (data_from offset d)) ∷ []) ++ entries_of nx
        both = λ i. (own l (Text (data_before offset d)) (bare i) ++ entries_of (empty i)) ++ ((node_key new, Text (data_from offset d)) ∷ entries_of nx)

    pub split_changes : map_of (edited l (split_at offset new) t) ≡ changed
        (drop_change (node_key l, Text d) ∷ put_change (node_key l, Text (data_before offset d)) ∷ put_change (node_key new, Text (data_from offset d)) ∷ [])
        (map_of t)
    split_changes = stretch_changes ((node_key l, Text d) ∷ []) ((node_key l, Text (data_before offset d)) ∷ (node_key new, Text (data_from offset d)) ∷ []) t
        (edited l (split_at offset new) t) (map_sorted t w) (map_sorted (edited l (split_at offset new) t) split_keeps) split_stretch

    split_differ : differences (map_of t) (map_of (edited l (split_at offset new) t)) ≡ change_at (node_key l) (Some (Text d))
        (Some (Text (data_before offset d))) ++ (put_change (node_key new, Text (data_from offset d)) ∷ [])
    split_differ = stretch_differences ((node_key l, Text d) ∷ []) ((node_key l, Text (data_before offset d)) ∷ (node_key new, Text (data_from offset d)) ∷ [])
        t (edited l (split_at offset new) t) w split_keeps split_stretch
        ∙ differences_of_two (node_key l) (Text d) (Text (data_before offset d)) (node_key new, Text (data_from offset d))

  pub split_text_keeps : IsValidTree t → IsValidTree (split_text l offset t).1
  split_text_keeps w = on_split_text (λ o. IsValidTree o.1) (λ why. w) (λ d ats ch nx new e inside label. split_keeps w d ats ch nx new e label)

  pub split_text_differences : IsValidTree t → (d : List ℕ) (new : Label) → record_of (at l t.documents) ≡ Some (Text d)
      → (split_text l offset t).0 ≡ Place (Some new)
      → differences (map_of t) (map_of (split_text l offset t).1) ≡ change_at (node_key l) (Some (Text d)) (Some (Text (data_before offset d)))
      ++ (put_change (node_key new, Text (data_from offset d)) ∷ [])
  split_text_differences w d new is =
      on_split_text (λ o. o.0 ≡ Place (Some new) → differences (map_of t) (map_of o.1) ≡ change_at (node_key l) (Some (Text d))
      (Some (Text (data_before offset d))) ++ (put_change (node_key new, Text (data_from offset d)) ∷ [])) (λ why h. cc)
      (λ x ats ch nx k e inside label h. let same : k ≡ new = cc in let both : Some (Text x) ≡ Some (Text d) = sym (ap record_of e)
      ∙ is in let data_is : x ≡ d = cc in
      split_differ w x ats ch nx k e label
      ∙ (λ i. change_at (node_key l) (Some (Text (data_is i))) (Some (Text (data_before offset (data_is i))))
      ++ (put_change (node_key (same i), Text (data_from offset (data_is i))) ∷ [])))

-- The changes that the toys give are the differences between the maps.
use Rattle.std.proofs.Common.{◌≡◌, Bool, true, false, cond, List, [], ◌∷◌, ◌++◌, Option, Some, None, is_eq, refl, sym, ap, subst, ◌∙◌}
use Rattle.std.proofs.lemmas.Slice.Eq.{bytes_eq-Decides}
use Rattle.std.specs.List.{AllByRecursion}
use Rattle.dewey_labels.specs.Labels.{Label}
use Rattle.lock_resources.specs.declared.request.Request.{Request}
use Rattle.lock_resources.specs.Resources.{Fits}
use Rattle.tree_model.specs.declared.change.Change.{Change}
use Rattle.tree_model.specs.declared.key.Key.{Key}
use Rattle.tree_model.specs.declared.record.Record.{Record}
use Rattle.tree_model.specs.declared.record.Record.TheVariants.{Document, Element, Text, Attr}
use Rattle.tree_model.specs.Keys.{key_cmp, node_key, IsValidKey}
use Rattle.tree_model.specs.Entries.{Entries, get}
use Rattle.tree_model.specs.Changes.{Rising, now_at, same_record, difference, differences}
use Rattle.tree_model.specs.Tree.{Tree, map_of}
use Rattle.tree_model.specs.ValidTrees.{IsValidTree}
use Rattle.tree_model.specs.Texts.{set_data}
use Rattle.tree_model.specs.NodeKinds.{is_text_record}
use Rattle.tree_model.proofs.Differences.{at_differences, rising_differences}
use Rattle.tree_model.proofs.ChangeLists.{same_changes}
use Rattle.tree_model.proofs.WholeTree.{map_sorted}
use Rattle.tree_model.proofs.Keys.{key_itself}
use Rattle.tree_model.proofs.ValidKeys.{HasValidKey, keys_valid}
use Rattle.tree_cells.proofs.SameTrees.{key_is}
use Rattle.call_rows.proofs.ClearLaws.{emptied, after_is, emptied_valid, key_is_after}
use Rattle.call_rows.specs.Toys.{emptied_at, cleared_changes}

-- ---- requests

pub fit_append : (xs ys : List Request) → AllByRecursion Fits xs → AllByRecursion Fits ys → AllByRecursion Fits (xs ++ ys)
fit_append [] ys a b = b
fit_append (x ∷ xs) ys a b = (a.0, fit_append xs ys a.1 b)

-- ---- no difference

bytes_same : (bs : List _) → Rattle.std.specs.Str.bytes_eq bs bs ≡ true
bytes_same bs = (bytes_eq-Decides bs bs).1 refl

record_itself : (r : Record) → same_record r r ≡ true
record_itself Document = refl
record_itself (Element n) = bytes_same n
record_itself (Text d) = bytes_same d
record_itself (Attr v) = bytes_same v

difference_itself : (o : Option Record) → difference o o ≡ None
difference_itself None = refl
difference_itself (Some r) = ap (λ b. cond b None (Some (Some r))) (record_itself r)

pub nothing_changed : (t : Tree) → IsValidTree t → [] ≡ differences (map_of t) (map_of t)
nothing_changed t w = sym (same_changes (differences (map_of t) (map_of t)) [] (rising_differences (map_of t) (map_of t) (map_sorted t w) (map_sorted t w)) tt
    (λ k. at_differences k (map_of t) (map_of t) (map_sorted t w) ∙ difference_itself (get k (map_of t))))

-- ---- a text that is emptied

module _ (l : Label) (t : Tree) (w : IsValidTree t) where
  -- nothing where no text stands
  unless_text : is_text_record (get (node_key l) (map_of t)) ≡ false → [] ≡ differences (map_of t) (map_of (set_data l [] t).1)
  unless_text h = nothing_changed t w ∙ ap (λ u. differences (map_of t) (map_of u)) (sym (after_is l t w false h))

  -- a text's data, by each key
  of_text : (d : List _) → get (node_key l) (map_of t) ≡ Some (Text d) → (cs : List Change) → Rising cs
      → ((k : Key) → difference (get k (map_of t)) (cond (is_eq (key_cmp k (node_key l))) (Some (Text [])) (get k (map_of t))) ≡ now_at k cs)
      → cs ≡ differences (map_of t) (map_of (set_data l [] t).1)
  of_text d is cs rise each =
      let h : is_text_record (get (node_key l) (map_of t)) ≡ true = ap is_text_record is in
      let v = emptied_valid l t w h in
      sym (same_changes (differences (map_of t) (map_of (emptied l t))) cs (rising_differences (map_of t) (map_of (emptied l t)) (map_sorted t w) (map_sorted (emptied l t) v)) rise
      (λ k. at_differences k (map_of t) (map_of (emptied l t)) (map_sorted (emptied l t) v) ∙ ap (difference (get k (map_of t))) (key_is_after l t w h k) ∙ each k))
      ∙ ap (λ u. differences (map_of t) (map_of u)) (sym (after_is l t w true h))

  -- at the node's key, and at any other
  by_key : (d : List _) → get (node_key l) (map_of t) ≡ Some (Text d) → (cs : List Change) → difference (Some (Text d)) (Some (Text [])) ≡ now_at (node_key l) cs
      → ((k : Key) → is_eq (key_cmp k (node_key l)) ≡ false → None ≡ now_at k cs) → (k : Key)
      → difference (get k (map_of t)) (cond (is_eq (key_cmp k (node_key l))) (Some (Text [])) (get k (map_of t))) ≡ now_at k cs
  by_key d is cs here other k = by (is_eq (key_cmp k (node_key l))) refl
    where
      by : (b : Bool) → is_eq (key_cmp k (node_key l)) ≡ b → difference (get k (map_of t)) (cond (is_eq (key_cmp k (node_key l))) (Some (Text [])) (get k (map_of t))) ≡ now_at k cs
      by true h =
          let same = key_is k (node_key l) h in
          ap (λ b. difference (get k (map_of t)) (cond b (Some (Text [])) (get k (map_of t)))) h
          ∙ ap (λ j. difference (get j (map_of t)) (Some (Text []))) same ∙ ap (λ o. difference o (Some (Text []))) is ∙ here ∙ ap (λ j. now_at j cs) (sym same)
      by false h = ap (λ b. difference (get k (map_of t)) (cond b (Some (Text [])) (get k (map_of t)))) h ∙ difference_itself (get k (map_of t)) ∙ other k h

  pub changes_are : (o : Option Record) → get (node_key l) (map_of t) ≡ o → cleared_changes (node_key l) o ≡ differences (map_of t) (map_of (set_data l [] t).1)
  changes_are None is = unless_text (ap is_text_record is)
  changes_are (Some Document) is = unless_text (ap is_text_record is)
  changes_are (Some (Element n)) is = unless_text (ap is_text_record is)
  changes_are (Some (Text [])) is = of_text [] is [] tt (by_key [] is [] refl (λ k h. refl))
  changes_are (Some (Text (c ∷ d))) is = of_text (c ∷ d) is (emptied_at (node_key l) ∷ []) (tt, tt)
      (by_key (c ∷ d) is (emptied_at (node_key l) ∷ []) (sym (ap (λ o. cond (is_eq o) (Some (Some (Text []))) None) (key_itself (node_key l)))) (λ k h. sym (ap (λ b. cond b (Some (Some (Text []))) None) h)))
  changes_are (Some (Attr v)) is = unless_text (ap is_text_record is)

-- ---- keys that no tree has

valid_found : (k : Key) (es : Entries) (r : Record) → AllByRecursion HasValidKey es → get k es ≡ Some r → IsValidKey k
valid_found k [] r all e = absurd (none_some e)
  where
    none_some : {A : Type 0} {x : A} → None ≡ Some x → ⊥
    none_some e = cc
valid_found k (x ∷ xs) r all e = by (is_eq (key_cmp k x.0)) refl (valid_found k xs r all.1)
  where
    by : (b : Bool) → is_eq (key_cmp k x.0) ≡ b → (get k xs ≡ Some r → IsValidKey k) → IsValidKey k
    by true h rest = subst IsValidKey (sym (key_is k x.0 h)) all.0
    by false h rest = rest (sym (ap (λ b. cond b (Some x.1) (get k xs)) h) ∙ e)

pub invalid_absent : (k : Key) (t : Tree) → IsValidTree t → (IsValidKey k → ⊥) → get k (map_of t) ≡ None
invalid_absent k t w bad = by (get k (map_of t)) refl
  where
    by : (o : Option Record) → get k (map_of t) ≡ o → o ≡ None
    by None e = refl
    by (Some r) e = absurd (bad (valid_found k (map_of t) r (keys_valid t w) e))

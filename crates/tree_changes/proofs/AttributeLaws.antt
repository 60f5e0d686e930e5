-- `set_attr`, `remove_attr` and `rename`: each keeps a valid tree valid, and changes one key.
use Rattle.std.specs.Str.{is_utf8}
use Rattle.std.proofs.Common.{◌≡◌, ℕ, true, false, not, if◌then◌else◌, List, [], ◌∷◌, Some, None, refl, sym, ap, ◌∙◌, true≢false}
use Rattle.dewey_labels.specs.Labels.{Label}
use Rattle.tree_model.specs.declared.record.Record.TheVariants.{Element, Attr}
use Rattle.tree_model.specs.declared.refusal.Refusal.{Refusal}
use Rattle.tree_model.specs.declared.refusal.Refusal.TheVariants.{Dom, TextLimit}
use Rattle.tree_model.specs.declared.reply.Reply.TheVariants.{Nothing}
use Rattle.tree_model.specs.Limits.{is_too_long}
use Rattle.tree_model.specs.Names.{Name, is_name}
use Rattle.tree_model.specs.Keys.{key_at, node_key}
use Rattle.tree_model.specs.Entries.{get, changed}
use Rattle.tree_model.specs.Changes.{put_change, differences}
use Rattle.tree_model.specs.Tree.{Attributes, Forest, node, Tree, map_of, at}
use Rattle.tree_model.specs.ValidTrees.{IsValidTree}
use Rattle.tree_model.specs.Outcomes.{Outcome, refused, is_refused, not_found_err, not_supported_err, invalid_character_err}
use Rattle.tree_model.specs.Edits.{edited, with_record, with_attributes, with_entry, without_entry}
use Rattle.tree_model.specs.Attributes.{set_attr_in, set_attr, remove_attr_in, remove_attr, rename_in, rename}
use Rattle.tree_model.proofs.SplitTexts.{data_of_tests}
use Rattle.tree_model.proofs.WholeTree.{map_sorted}
use Rattle.tree_changes.specs.KeyChanges.{change_at}
use Rattle.tree_changes.proofs.Cases.{not_false, not_true, on_test, on_element}
use Rattle.tree_changes.proofs.ChangeLists.{differences_of_one}
use Rattle.tree_changes.proofs.InPlace.{record_puts, attribute_puts, attribute_keeps, attribute_drops, without_attribute_keeps, renamed_keeps}

-- ---- `set_attr`

module _ (l : Label) (n : Name) (v : List ℕ) (t : Tree) where
  abbrev set_in : Attributes → Outcome
  set_in ats = (Nothing, edited l (with_attributes (with_entry n v ats)) t)

  -- refused, or done at an element
  pub on_set_attr : (P : Outcome → Type 0) → ((why : Refusal) → P (refused why t))
      → ((k : Name) (ats : Attributes) (ch nx : Forest) → at l t.documents ≡ node l (Element k) ats ch nx → is_name n ≡ true → is_too_long v ≡ false
      → P (set_in ats)) → P (set_attr l n v t)
  on_set_attr P out done = on_element P l t (set_attr_in l n v t) (out (Dom not_found_err)) (out (Dom not_supported_err)) (λ k ats ch nx e.
      on_test P (not (is_name n)) (refused (Dom invalid_character_err) t) (if is_too_long v then refused TextLimit t else set_in ats)
      (λ _. out (Dom invalid_character_err)) (λ named.
      on_test P (is_too_long v) (refused TextLimit t) (set_in ats) (λ _. out TextLimit) (λ short. done k ats ch nx e (not_false (is_name n) named) short)))

  pub set_attr_keeps : IsValidTree t → is_utf8 v ≡ true → IsValidTree (set_attr l n v t).1
  set_attr_keeps w u = on_set_attr (λ o. IsValidTree o.1) (λ why. w)
      (λ k ats ch nx e named short. attribute_keeps l n v k ats ch nx t w e named (data_of_tests v u short))

  pub set_attr_changes : IsValidTree t → is_refused (set_attr l n v t).0 ≡ false
      → map_of (set_attr l n v t).1 ≡ changed (put_change (key_at l n, Attr v) ∷ []) (map_of t)
  set_attr_changes w = on_set_attr (λ o. is_refused o.0 ≡ false → map_of o.1 ≡ changed (put_change (key_at l n, Attr v) ∷ []) (map_of t))
      (λ why h. absurd (true≢false h)) (λ k ats ch nx e named short _. attribute_puts l n v t w named (Element k) ats ch nx e)

  pub set_attr_differences : IsValidTree t → is_refused (set_attr l n v t).0 ≡ false
      → differences (map_of t) (map_of (set_attr l n v t).1) ≡ change_at (key_at l n) (get (key_at l n) (map_of t)) (Some (Attr v))
  set_attr_differences w h = ap (differences (map_of t)) (set_attr_changes w h) ∙ differences_of_one (key_at l n) (Some (Attr v)) (map_of t) (map_sorted t w)

-- ---- `remove_attr`

module _ (l : Label) (n : Name) (t : Tree) where
  abbrev removed_in : Attributes → Outcome
  removed_in ats = (Nothing, edited l (with_attributes (without_entry n ats)) t)

  -- refused, left as it is since the name is none, or done at an element
  pub on_remove_attr : (P : Outcome → Type 0) → ((why : Refusal) → P (refused why t)) → (is_name n ≡ false → P (Nothing, t))
      → ((k : Name) (ats : Attributes) (ch nx : Forest) → at l t.documents ≡ node l (Element k) ats ch nx → is_name n ≡ true → P (removed_in ats))
      → P (remove_attr l n t)
  on_remove_attr P out left done = on_element P l t (remove_attr_in l n t) (out (Dom not_found_err)) (out (Dom not_supported_err)) (λ k ats ch nx e.
      on_test P (not (is_name n)) (Nothing, t) (removed_in ats) (λ x. left (not_true (is_name n) x))
      (λ named. done k ats ch nx e (not_false (is_name n) named)))

  pub remove_attr_keeps : IsValidTree t → IsValidTree (remove_attr l n t).1
  remove_attr_keeps w = on_remove_attr (λ o. IsValidTree o.1) (λ why. w) (λ _. w) (λ k ats ch nx e named. without_attribute_keeps l n k ats ch nx t w e)

  pub remove_attr_changes : IsValidTree t → is_name n ≡ true → is_refused (remove_attr l n t).0 ≡ false
      → map_of (remove_attr l n t).1 ≡ changed (record { key = key_at l n; now = None } ∷ []) (map_of t)
  remove_attr_changes w named = on_remove_attr (λ o. is_refused o.0 ≡ false → map_of o.1 ≡ changed (record { key = key_at l n; now = None } ∷ []) (map_of t))
      (λ why h. absurd (true≢false h)) (λ x. absurd (true≢false (sym named ∙ x)))
      (λ k ats ch nx e named _. attribute_drops l n t w named (Element k) ats ch nx e)

  pub remove_attr_differences : IsValidTree t → is_name n ≡ true → is_refused (remove_attr l n t).0 ≡ false
      → differences (map_of t) (map_of (remove_attr l n t).1) ≡ change_at (key_at l n) (get (key_at l n) (map_of t)) None
  remove_attr_differences w named h = ap (differences (map_of t)) (remove_attr_changes w named h)
      ∙ differences_of_one (key_at l n) None (map_of t) (map_sorted t w)

  -- of what is no Name
  pub remove_attr_no_name : is_name n ≡ false → (remove_attr l n t).1 ≡ t
  remove_attr_no_name none_named = on_remove_attr (λ o. o.1 ≡ t) (λ why. refl) (λ _. refl) (λ k ats ch nx e named. absurd (true≢false (sym named ∙ none_named)))

  -- ---- `rename`

  -- refused, or done at an element
  pub on_rename : (P : Outcome → Type 0) → ((why : Refusal) → P (refused why t))
      → ((k : Name) (ats : Attributes) (ch nx : Forest) → at l t.documents ≡ node l (Element k) ats ch nx → is_name n ≡ true
      → P (Nothing, edited l (with_record (Element n)) t)) → P (rename l n t)
  on_rename P out done = on_element P l t (rename_in l n t) (out (Dom not_found_err)) (out (Dom not_supported_err)) (λ k ats ch nx e.
      on_test P (not (is_name n)) (refused (Dom invalid_character_err) t) (Nothing, edited l (with_record (Element n)) t) (λ _. out (Dom invalid_character_err))
      (λ named. done k ats ch nx e (not_false (is_name n) named)))

  pub rename_keeps : IsValidTree t → IsValidTree (rename l n t).1
  rename_keeps w = on_rename (λ o. IsValidTree o.1) (λ why. w) (λ k ats ch nx e named. renamed_keeps l k n ats ch nx t w e named)

  pub rename_changes : IsValidTree t → is_refused (rename l n t).0 ≡ false
      → map_of (rename l n t).1 ≡ changed (put_change (node_key l, Element n) ∷ []) (map_of t)
  rename_changes w = on_rename (λ o. is_refused o.0 ≡ false → map_of o.1 ≡ changed (put_change (node_key l, Element n) ∷ []) (map_of t))
      (λ why h. absurd (true≢false h)) (λ k ats ch nx e named _. record_puts l (Element n) t w (ap Rattle.tree_model.specs.Tree.found e))

  pub rename_differences : IsValidTree t → is_refused (rename l n t).0 ≡ false
      → differences (map_of t) (map_of (rename l n t).1) ≡ change_at (node_key l) (get (node_key l) (map_of t)) (Some (Element n))
  rename_differences w h = ap (differences (map_of t)) (rename_changes w h) ∙ differences_of_one (node_key l) (Some (Element n)) (map_of t) (map_sorted t w)

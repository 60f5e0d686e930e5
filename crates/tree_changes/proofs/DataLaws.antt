-- The calls that set a text's data anew: each keeps a valid tree valid, and changes the text's key.
use Rattle.std.specs.Str.{is_utf8}
use Rattle.std.proofs.Common.{◌≡◌, ℕ, ◌+◌, true, false, List, [], ◌∷◌, ◌++◌, Some, sym, ap, subst, ◌∙◌, true≢false}
use Rattle.dewey_labels.specs.Labels.{Label}
use Rattle.dewey_labels.proofs.Codes.{second_of_both}
use Rattle.tree_model.specs.declared.record.Record.{Record}
use Rattle.tree_model.specs.declared.record.Record.TheVariants.{Document, Element, Text, Attr}
use Rattle.tree_model.specs.declared.refusal.Refusal.TheVariants.{Dom, TextLimit}
use Rattle.tree_model.specs.declared.reply.Reply.TheVariants.{Nothing}
use Rattle.tree_model.specs.Limits.{is_too_long}
use Rattle.tree_model.specs.Keys.{node_key}
use Rattle.tree_model.specs.Entries.{get, changed}
use Rattle.tree_model.specs.Changes.{put_change, differences}
use Rattle.tree_model.specs.Tree.{Attributes, Forest, none, node, Tree, map_of, at, found, record_of}
use Rattle.tree_model.specs.ValidTrees.{LimitsKept, IsValidTree}
use Rattle.tree_model.specs.Outcomes.{Outcome, refused, is_refused, index_size_err}
use Rattle.tree_model.specs.Edits.{edited, with_record}
use Rattle.tree_model.specs.Texts.{is_past, with_data, set_data_in, set_data, append_data_in, append_data, data_before, data_from, replace_data_in}
use Rattle.tree_model.specs.Texts.{replace_data}
use Rattle.tree_model.proofs.FoundRecords.{at_limits}
use Rattle.tree_model.proofs.SplitTexts.{data_of_tests, parts_utf8, utf8_append}
use Rattle.tree_model.proofs.WholeTree.{map_sorted}
use Rattle.tree_changes.specs.KeyChanges.{change_at}
use Rattle.tree_changes.proofs.Cases.{on_test, on_text}
use Rattle.tree_changes.proofs.ChangeLists.{differences_of_one}
use Rattle.tree_changes.proofs.InPlace.{record_puts, data_keeps}

-- the data of a text in a valid tree is UTF-8
pub found_utf8 : (l : Label) (d : List ℕ) (ats : Attributes) (ch nx : Forest) (t : Tree) → IsValidTree t → at l t.documents ≡ node l (Text d) ats ch nx
    → is_utf8 d ≡ true
found_utf8 l d ats ch nx t w e = let k : LimitsKept (node l (Text d) ats ch nx) = subst LimitsKept e (at_limits l t.documents w.limits) in
    second_of_both _ (is_utf8 d) k.1

-- the data of a record, where it is a text's
abbrev data_in : Record → List ℕ
data_in Document = []
data_in (Element n) = []
data_in (Text d) = d
data_in (Attr v) = []

abbrev data_of_found : Forest → List ℕ
data_of_found none = []
data_of_found (node l r ats ch nx) = data_in r

-- a found text's data is that of its record
same_data : (l : Label) (d old : List ℕ) (ats : Attributes) (ch nx : Forest) (t : Tree) → at l t.documents ≡ node l (Text d) ats ch nx
    → record_of (at l t.documents) ≡ Some (Text old) → d ≡ old
same_data l d old ats ch nx t e h = let both : Some (Text d) ≡ Some (Text old) = sym (ap record_of e)
    ∙ h in ap data_in (Rattle.tree_model.proofs.Found.some_is (Text d) (Text old) both)

-- ---- new data, unless it is too long

module _ (l : Label) (d old : List ℕ) (ats : Attributes) (ch nx : Forest) (t : Tree) (w : IsValidTree t)
    (e : at l t.documents ≡ node l (Text old) ats ch nx) where
  pub with_data_keeps : is_utf8 d ≡ true → IsValidTree (with_data l t d).1
  with_data_keeps u = on_test (λ (o : Outcome). IsValidTree o.1) (is_too_long d) (refused TextLimit t) (Nothing, edited l (with_record (Text d)) t) (λ _. w)
      (λ short. data_keeps l old d ats ch nx t w e (data_of_tests d u short))

  pub with_data_changes : is_refused (with_data l t d).0 ≡ false → map_of (with_data l t d).1 ≡ changed (put_change (node_key l, Text d) ∷ []) (map_of t)
  with_data_changes = on_test (λ (o : Outcome). is_refused o.0 ≡ false → map_of o.1 ≡ changed (put_change (node_key l, Text d) ∷ []) (map_of t)) (is_too_long d)
      (refused TextLimit t) (Nothing, edited l (with_record (Text d)) t) (λ _ h. absurd (true≢false h)) (λ short _. record_puts l (Text d) t w (ap found e))

-- so one key differs
text_differs : (l : Label) (d : List ℕ) (o : Outcome) (t : Tree) → IsValidTree t → map_of o.1 ≡ changed (put_change (node_key l, Text d) ∷ []) (map_of t)
    → differences (map_of t) (map_of o.1) ≡ change_at (node_key l) (get (node_key l) (map_of t)) (Some (Text d))
text_differs l d o t w e = ap (differences (map_of t)) e ∙ differences_of_one (node_key l) (Some (Text d)) (map_of t) (map_sorted t w)

-- ---- `set_data`

module _ (l : Label) (d : List ℕ) (t : Tree) (w : IsValidTree t) where
  pub set_data_keeps : is_utf8 d ≡ true → IsValidTree (set_data l d t).1
  set_data_keeps u = on_text (λ o. IsValidTree o.1) l t (set_data_in l d t) w w (λ old ats ch nx e. with_data_keeps l d old ats ch nx t w e u)

  pub set_data_changes : is_refused (set_data l d t).0 ≡ false → map_of (set_data l d t).1 ≡ changed (put_change (node_key l, Text d) ∷ []) (map_of t)
  set_data_changes = on_text (λ o. is_refused o.0 ≡ false → map_of o.1 ≡ changed (put_change (node_key l, Text d) ∷ []) (map_of t)) l t (set_data_in l d t)
      (λ h. absurd (true≢false h)) (λ h. absurd (true≢false h)) (λ old ats ch nx e. with_data_changes l d old ats ch nx t w e)

  pub set_data_differences : is_refused (set_data l d t).0 ≡ false
      → differences (map_of t) (map_of (set_data l d t).1) ≡ change_at (node_key l) (get (node_key l) (map_of t)) (Some (Text d))
  set_data_differences h = text_differs l d (set_data l d t) t w (set_data_changes h)

  -- ---- `append_data`

  pub append_data_keeps : is_utf8 d ≡ true → IsValidTree (append_data l d t).1
  append_data_keeps u = on_text (λ o. IsValidTree o.1) l t (append_data_in l d t) w w
      (λ old ats ch nx e. with_data_keeps l (old ++ d) old ats ch nx t w e (utf8_append old d (found_utf8 l old ats ch nx t w e) u))

  pub append_data_changes : (old : List ℕ) → record_of (at l t.documents) ≡ Some (Text old) → is_refused (append_data l d t).0 ≡ false
      → map_of (append_data l d t).1 ≡ changed (put_change (node_key l, Text (old ++ d)) ∷ []) (map_of t)
  append_data_changes old is = on_text (λ o. is_refused o.0 ≡ false → map_of o.1 ≡ changed (put_change (node_key l, Text (old ++ d)) ∷ []) (map_of t)) l t
      (append_data_in l d t) (λ h. absurd (true≢false h)) (λ h. absurd (true≢false h))
      (λ found_data ats ch nx e. subst (λ x. is_refused (with_data l t (found_data ++ d)).0 ≡ false
      → map_of (with_data l t (found_data ++ d)).1 ≡ changed (put_change (node_key l, Text (x ++ d)) ∷ []) (map_of t))
      (same_data l found_data old ats ch nx t e is) (with_data_changes l (found_data ++ d) found_data ats ch nx t w e))

  pub append_data_differences : (old : List ℕ) → record_of (at l t.documents) ≡ Some (Text old) → is_refused (append_data l d t).0 ≡ false
      → differences (map_of t) (map_of (append_data l d t).1) ≡ change_at (node_key l) (get (node_key l) (map_of t)) (Some (Text (old ++ d)))
  append_data_differences old is h = text_differs l (old ++ d) (append_data l d t) t w (append_data_changes old is h)

-- ---- `replace_data`, and with it `insert_data` and `delete_data`

-- the data with some characters replaced
abbrev pub replaced : ℕ → ℕ → List ℕ → List ℕ → List ℕ
replaced offset count d old = data_before offset old ++ (d ++ data_from (offset + count) old)

module _ (l : Label) (offset count : ℕ) (d : List ℕ) (t : Tree) (w : IsValidTree t) where
  pub replace_data_keeps : is_utf8 d ≡ true → IsValidTree (replace_data l offset count d t).1
  replace_data_keeps u = on_text (λ o. IsValidTree o.1) l t (replace_data_in l offset count d t) w w (λ old ats ch nx e.
      on_test (λ (o : Outcome). IsValidTree o.1) (is_past offset old) (refused (Dom index_size_err) t) (with_data l t (replaced offset count d old)) (λ _. w)
      (λ _.
      let utf8 = found_utf8 l old ats ch nx t w e in
      with_data_keeps l (replaced offset count d old) old ats ch nx t w e
      (utf8_append (data_before offset old) (d ++ data_from (offset + count) old) (parts_utf8 offset old utf8).0
      (utf8_append d (data_from (offset + count) old) u (parts_utf8 (offset + count) old utf8).1))))

  pub replace_data_changes : (old : List ℕ) → record_of (at l t.documents) ≡ Some (Text old) → is_refused (replace_data l offset count d t).0 ≡ false
      → map_of (replace_data l offset count d t).1 ≡ changed (put_change (node_key l, Text (replaced offset count d old)) ∷ []) (map_of t)
  replace_data_changes old is = on_text (λ o. is_refused o.0 ≡ false
      → map_of o.1 ≡ changed (put_change (node_key l, Text (replaced offset count d old)) ∷ []) (map_of t)) l t (replace_data_in l offset count d t)
      (λ h. absurd (true≢false h)) (λ h. absurd (true≢false h))
      (λ found_data ats ch nx e. subst (λ x. is_refused (replace_data_in l offset count d t found_data).0 ≡ false
      → map_of (replace_data_in l offset count d t found_data).1 ≡ changed (put_change (node_key l, Text (replaced offset count d x)) ∷ []) (map_of t))
      (same_data l found_data old ats ch nx t e is)
      (on_test (λ (o : Outcome). is_refused o.0 ≡ false → map_of o.1 ≡ changed (put_change (node_key l, Text (replaced offset count d found_data)) ∷ [])
      (map_of t)) (is_past offset found_data) (refused (Dom index_size_err) t) (with_data l t (replaced offset count d found_data))
      (λ _ h. absurd (true≢false h)) (λ _.
      with_data_changes l (replaced offset count d found_data) found_data ats ch nx t w e)))

  pub replace_data_differences : (old : List ℕ) → record_of (at l t.documents) ≡ Some (Text old) → is_refused (replace_data l offset count d t).0 ≡ false
      → differences (map_of t) (map_of (replace_data l offset count d t).1) ≡ change_at (node_key l) (get (node_key l) (map_of t))
      (Some (Text (replaced offset count d old)))
  replace_data_differences old is h = text_differs l (replaced offset count d old) (replace_data l offset count d t) t w (replace_data_changes old is h)

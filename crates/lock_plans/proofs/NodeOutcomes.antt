-- Calls at one node end as their steps say: what they answer early is what the call answers.
use Rattle.std.specs.Prelude.{encode_utf8_all}
use Rattle.std.specs.Str.{chars}
use Rattle.std.proofs.Common.{[], ◌≡◌, true, false, not, if◌then◌else◌, None, Some, refl, sym, ap, ◌∙◌, ℕ, Bool, List, ◌∷◌, ◌++◌, Option, is_some, subst}
use Rattle.std.proofs.Common.{true≢false, ◌≤◌, length, ◌+◌, ◌&&◌, nat_lt, arith, take, drop}
use Rattle.std.proofs.lemmas.Bool.Decides.{nat_tests}
use Rattle.dewey_labels.specs.Labels.{Label, parent, level}
use Rattle.dewey_labels.specs.NewLabels.{first_division, new_label}
use Rattle.dewey_labels.specs.Lists.{is_empty}
use Rattle.dewey_labels.proofs.NewLabels.{new_label_is}
use Rattle.dewey_labels.proofs.Limits.{test_of_within}
use Rattle.tree_model.specs.declared.record.Record.{Record}
use Rattle.tree_model.specs.declared.record.Record.TheVariants.{Document, Element, Text, Attr as AttrRecord}
use Rattle.tree_model.specs.declared.reply.Reply.{Reply}
use Rattle.tree_model.specs.declared.reply.Reply.TheVariants.{Refused, Place, Nothing}
use Rattle.tree_model.specs.declared.refusal.Refusal.TheVariants.{Dom, TextLimit, TooDeep, LabelLimit}
use Rattle.tree_model.specs.Names.{Name, is_name}
use Rattle.tree_model.specs.Tree.{Attributes, Forest, none, node, Tree, at, found, below, attributes_of, beside, first_of, last_child_of, next_of, prev_of}
use Rattle.tree_model.specs.Tree.{head_label}
use Rattle.tree_model.specs.ValidTrees.{IsValidTree, LimitsKept}
use Rattle.tree_model.specs.Outcomes.{Outcome, see, not_supported_err, not_found_err, see_in, invalid_character_err, index_size_err}
use Rattle.tree_model.specs.NodeKinds.{is_document, is_element, is_text_node}
use Rattle.tree_model.specs.Edits.{edited, with_record, with_attributes, with_entry, without_entry, with_children}
use Rattle.tree_model.specs.Limits.{is_too_long, deepest_level}
use Rattle.tree_model.specs.Texts.{in_text, set_data_in, text_below, set_text_of, is_past, data_before, data_from, place_rest, split_text_in, normal, texts_fit}
use Rattle.tree_model.specs.Texts.{normalize_in, content, of_text, replace_data, append_data_in, replace_data_in}
use Rattle.tree_model.specs.Attributes.{in_element, set_attr_in, rename_in, remove_attr_in, of_element}
use Rattle.tree_model.specs.Graft.{graft, all_within}
use Rattle.tree_model.specs.Placing.{is_too_deep}
use Rattle.tree_model.specs.Navigation.{describe, unless_document}
use Rattle.tree_model.specs.DomCalls.{dom}
use Rattle.tree_model.proofs.Found.{some_is, at_label}
use Rattle.tree_model.proofs.FoundRecords.{at_limits, no_attr_node}
use Rattle.tree_changes.proofs.Cases.{not_false, not_true}
use Rattle.tree_changes.proofs.InPlace.{without_absent_same}
use Rattle.lock_plans.specs.DomPlans.{data_of, data_steps, run}
use Rattle.lock_plans.specs.Plans.{ends, in_turn}
use Rattle.lock_plans.proofs.StepOutcomes.{stepped, found_outcome, right_outcome, outcome_by, change_by, element_by, text_by}
use Rattle.tree_model.specs.declared.reply.Reply.TheVariants as reply
use Rattle.tree_model.specs.declared.dom_call.DomCall.TheVariants as call
use Rattle.lock_plans.specs.Plans as plans

-- ---- calls that read

module _ (l : Label) (t : Tree) where
  pub node_outcome : (f : Forest) → ◌≡◌ {A = Outcome} (if not (found f) then (Refused (Dom not_found_err), t) else (describe f, t)) (describe f, t)
  node_outcome none = refl
  node_outcome (node m r ats ch nx) = refl

  pub parent_outcome : (run (call.Parent l) t).outcome ≡ dom (call.Parent l) t
  parent_outcome = outcome_by t (unless_document (Some (parent l))) (λ f. (see (unless_document (Some (parent l))) f, t)) (λ m r ats ch nx. refl)
      (at l t.documents)

  -- the node at an edge
  pub first_outcome : (run (call.First l) t).outcome ≡ dom (call.First l) t
  first_outcome = ap (λ (o : Outcome). if not (found (at l t.documents)) then (Refused (Dom not_found_err), t) else o)
      (found_outcome (first_of (at l t.documents)) _)
      ∙ outcome_by t (λ f. Place (first_of f)) (λ f. (see (λ f. Place (first_of f)) f, t)) (λ m r ats ch nx. refl) (at l t.documents)

  pub last_outcome : (run (call.Last l) t).outcome ≡ dom (call.Last l) t
  last_outcome = ap (λ (o : Outcome). if not (found (at l t.documents)) then (Refused (Dom not_found_err), t) else o)
      (found_outcome (last_child_of (at l t.documents)) _)
      ∙ outcome_by t (λ f. Place (last_child_of f)) (λ f. (see (λ f. Place (last_child_of f)) f, t)) (λ m r ats ch nx. refl) (at l t.documents)

  unless : (b : Bool) (o : Option Label) → ◌≡◌ {A = Outcome} (if b then (Place None, t) else (if b then Place None else Place o, t))
      (if b then Place None else Place o, t)
  unless true o = refl
  unless false o = refl

  pub next_outcome : (run (call.Next l) t).outcome ≡ dom (call.Next l) t
  next_outcome = ap (λ (o : Outcome). if not (found (at l t.documents)) then (Refused (Dom not_found_err), t) else if is_document
      (at l t.documents) then (Place None, t) else o) (found_outcome (next_of (at l t.documents)) _)
      ∙ outcome_by t (λ f. unless_document (next_of f) f) (λ f. if is_document f then (Place None, t) else (see (λ f. unless_document (next_of f) f) f, t))
      (λ m r ats ch nx. unless (is_document (node m r ats ch nx)) (next_of (node m r ats ch nx))) (at l t.documents)

  pub prev_outcome : (run (call.Prev l) t).outcome ≡ dom (call.Prev l) t
  prev_outcome = ap (λ (o : Outcome). if not (found (at l t.documents)) then (Refused (Dom not_found_err), t) else if is_document
      (at l t.documents) then (Place None, t) else o) (found_outcome (prev_of None l t.documents) _)
      ∙ outcome_by t (unless_document (prev_of None l t.documents))
      (λ f. if is_document f then (Place None, t) else (see (unless_document (prev_of None l t.documents)) f, t))
      (λ m r ats ch nx. unless (is_document (node m r ats ch nx)) (prev_of None l t.documents)) (at l t.documents)

  -- what is answered of any node
  pub seen_outcome : (answer : Forest → Reply)
      → ◌≡◌ {A = Outcome} (if not (found (at l t.documents)) then (Refused (Dom not_found_err), t) else (see answer (at l t.documents), t))
      (see answer (at l t.documents), t)
  seen_outcome answer = outcome_by t answer (λ f. (see answer f, t)) (λ m r ats ch nx. refl) (at l t.documents)

  -- an attribute, or what is answered of no Name
  pub attribute_outcome : (n : Name) (missing : Reply) (answer : Attributes → Reply) → (is_name n ≡ false → (ats : Attributes) → answer ats ≡ missing)
      → ◌≡◌ {A = Outcome} (if not (found (at l t.documents)) then (Refused (Dom not_found_err), t) else if not
      (is_element (at l t.documents)) then (Refused (Dom not_supported_err), t) else if not
      (is_name n) then (missing, t) else (see (λ f. of_element (answer (attributes_of f)) f) (at l t.documents), t))
      (see (λ f. of_element (answer (attributes_of f)) f) (at l t.documents), t)
  attribute_outcome n missing answer no_name = outcome_by t (λ f. of_element (answer (attributes_of f)) f) rest by (at l t.documents)
    where
      rest : Forest → Outcome
      rest f = if not (is_element f) then (Refused (Dom not_supported_err), t) else if not
          (is_name n) then (missing, t) else (see (λ f. of_element (answer (attributes_of f)) f) f, t)

      by : (m : Label) (r : Record) (ats : Attributes) (ch nx : Forest) → rest (node m r ats ch nx) ≡ (of_element (answer ats) (node m r ats ch nx), t)
      by m Document ats ch nx = refl
      by m (Text d) ats ch nx = refl
      by m (AttrRecord v) ats ch nx = refl
      by m (Element k) ats ch nx = stepped (not (is_name n)) _ _ _ (λ h. ap (λ a. (a, t)) (sym (no_name (not_true (is_name n) h) ats))) (λ _. refl)

  pub attrs_outcome : (run (call.Attrs l) t).outcome ≡ dom (call.Attrs l) t
  attrs_outcome = outcome_by t answer (λ f. if not (is_element f) then (reply.Attrs None, t) else (see answer f, t))
      (λ m r ats ch nx. by (is_element (node m r ats ch nx)) ats) (at l t.documents)
    where
      answer : Forest → Reply
      answer f = reply.Attrs (if is_element f then Some (attributes_of f) else None)

      by : (b : Bool) (ats : Attributes) → ◌≡◌ {A = Outcome} (if not b then (reply.Attrs None, t) else (reply.Attrs (if b then Some ats else None), t))
          (reply.Attrs (if b then Some ats else None), t)
      by true ats = refl
      by false ats = refl

  pub content_outcome : (run (call.TextContent l) t).outcome ≡ dom (call.TextContent l) t
  content_outcome = outcome_by t content (λ f. if is_document f then (Nothing, t) else (see content f, t)) by (at l t.documents)
    where
      by : (m : Label) (r : Record) (ats : Attributes) (ch nx : Forest)
          → ◌≡◌ {A = Outcome} (if is_document (node m r ats ch nx) then (Nothing, t) else (content (node m r ats ch nx), t)) (content (node m r ats ch nx), t)
      by m Document ats ch nx = refl
      by m (Element n) ats ch nx = refl
      by m (Text d) ats ch nx = refl
      by m (AttrRecord v) ats ch nx = refl

  pub length_outcome : (run (call.Length l) t).outcome ≡ dom (call.Length l) t
  length_outcome = outcome_by t (of_text answer) (λ f. if not (is_text_node f) then (Refused (Dom not_supported_err), t) else (see (of_text answer) f, t)) by
      (at l t.documents)
    where
      answer : List ℕ → Reply
      answer d = reply.Number (length (chars d))

      by : (m : Label) (r : Record) (ats : Attributes) (ch nx : Forest)
          → ◌≡◌ {A = Outcome} (if not (is_text_node (node m r ats ch nx)) then (Refused (Dom not_supported_err), t)
          else (of_text answer (node m r ats ch nx), t)) (of_text answer (node m r ats ch nx), t)
      by m Document ats ch nx = refl
      by m (Element n) ats ch nx = refl
      by m (Text d) ats ch nx = refl
      by m (AttrRecord v) ats ch nx = refl

  pub substring_outcome : (offset count : ℕ) → (run (call.Substring l offset count) t).outcome ≡ dom (call.Substring l offset count) t
  substring_outcome offset count = outcome_by t (of_text answer) rest by (at l t.documents)
    where
      answer : List ℕ → Reply
      answer d = if is_past offset d then Refused (Dom index_size_err) else reply.Chars (encode_utf8_all (take count (drop offset (chars d))))

      rest : Forest → Outcome
      rest f = if not (is_text_node f) then (Refused (Dom not_supported_err), t) else if is_past offset
          (data_of f) then (Refused (Dom index_size_err), t) else (see (of_text answer) f, t)

      past : (b : Bool) (x : Reply) → ◌≡◌ {A = Outcome} (if b then (Refused (Dom index_size_err), t) else (if b then Refused (Dom index_size_err) else x, t))
          (if b then Refused (Dom index_size_err) else x, t)
      past true x = refl
      past false x = refl

      by : (m : Label) (r : Record) (ats : Attributes) (ch nx : Forest) → rest (node m r ats ch nx) ≡ (of_text answer (node m r ats ch nx), t)
      by m Document ats ch nx = refl
      by m (Element n) ats ch nx = refl
      by m (Text d) ats ch nx = past (is_past offset d) _
      by m (AttrRecord v) ats ch nx = refl

  -- ---- calls on attributes

  pub set_attr_outcome : (n v : List ℕ) → (run (call.SetAttr l n v) t).outcome ≡ dom (call.SetAttr l n v) t
  set_attr_outcome n v = element_by t (set_attr_in l n v t) rest
      (λ m k ats ch nx. by (is_name n) (is_too_long v) (Nothing, edited l (with_attributes (with_entry n v ats)) t)) (at l t.documents)
    where
      rest : Forest → Outcome
      rest f = if not (is_name n) then (Refused (Dom invalid_character_err), t) else if is_too_long v then (Refused TextLimit, t) else see_in t
          (in_element t (set_attr_in l n v t)) f

      tests : Bool → Bool → Outcome → Outcome
      tests b c x = if not b then (Refused (Dom invalid_character_err), t) else if c then (Refused TextLimit, t) else x

      by : (b c : Bool) (x : Outcome) → tests b c (tests b c x) ≡ tests b c x
      by true true x = refl
      by true false x = refl
      by false c x = refl

  pub rename_outcome : (n : Name) → (run (call.Rename l n) t).outcome ≡ dom (call.Rename l n) t
  rename_outcome n = element_by t (rename_in l n t) rest (λ m k ats ch nx. by (is_name n) (Nothing, edited l (with_record (Element n)) t)) (at l t.documents)
    where
      rest : Forest → Outcome
      rest f = if not (is_name n) then (Refused (Dom invalid_character_err), t) else see_in t (in_element t (rename_in l n t)) f

      by : (b : Bool) (x : Outcome) → (if not b then (Refused (Dom invalid_character_err), t) else if not b then (Refused (Dom invalid_character_err), t)
          else x) ≡ (if not b then (Refused (Dom invalid_character_err), t) else x)
      by true x = refl
      by false x = refl

  -- where the attribute isn't there the tree stays
  pub remove_attr_outcome : (n : Name) → (run (call.RemoveAttr l n) t).outcome ≡ dom (call.RemoveAttr l n) t
  remove_attr_outcome n = by (at l t.documents) refl
    where
      rest : Forest → Outcome
      rest f = if not (is_name n) then (Nothing, t) else if not (is_some (beside n (attributes_of f))) then (Nothing, t) else see_in t
          (in_element t (remove_attr_in l n t)) f

      tests : Bool → Outcome → Outcome
      tests b x = if not b then (Nothing, t) else x

      of_element_there : (ats : Attributes) → attributes_of (at l t.documents) ≡ ats
          → tests (is_name n) (if not (is_some (beside n ats)) then (Nothing, t) else tests (is_name n)
          (Nothing, edited l (with_attributes (without_entry n ats)) t)) ≡ tests (is_name n) (Nothing, edited l (with_attributes (without_entry n ats)) t)
      of_element_there ats is = stepped (not (is_name n)) _ _ _
          (λ h. sym (ap (λ b. tests b (Nothing, edited l (with_attributes (without_entry n ats)) t)) (not_true (is_name n) h)))
          (λ h. stepped (not (is_some (beside n ats))) _ _ _
          (λ g. ap (λ z. (Nothing, z)) (sym
          (subst (λ a. is_some (beside n a) ≡ false → edited l (with_attributes (without_entry n a)) t ≡ t) is (without_absent_same l n t)
          (not_true (is_some (beside n ats)) g)))
          ∙ sym (ap (λ b. tests b (Nothing, edited l (with_attributes (without_entry n ats)) t)) (not_false (is_name n) h)))
          (λ _. refl))

      by : (f : Forest) → at l t.documents ≡ f
          → (if not (found f) then (Refused (Dom not_found_err), t) else if not (is_element f) then (Refused (Dom not_supported_err), t) else rest f) ≡ see_in t
          (in_element t (remove_attr_in l n t)) f
      by none e = refl
      by (node m Document ats ch nx) e = refl
      by (node m (Text d) ats ch nx) e = refl
      by (node m (AttrRecord v) ats ch nx) e = refl
      by (node m (Element k) ats ch nx) e = of_element_there ats (ap attributes_of e)

  -- ---- calls on texts

  -- new data, unless they are too long
  long : (b : Bool) (x : Outcome) → (if b then (Refused TextLimit, t) else if b then (Refused TextLimit, t) else x) ≡ (if b then (Refused TextLimit, t) else x)
  long true x = refl
  long false x = refl

  pub set_data_outcome : (d : List ℕ) → (run (call.SetData l d) t).outcome ≡ dom (call.SetData l d) t
  set_data_outcome d = text_by t (set_data_in l d t) (λ f. if is_too_long d then (Refused TextLimit, t) else see_in t (in_text t (set_data_in l d t)) f)
      (λ m old ats ch nx. long (is_too_long d) (Nothing, edited l (with_record (Text d)) t)) (at l t.documents)

  pub append_data_outcome : (d : List ℕ) → (run (call.AppendData l d) t).outcome ≡ dom (call.AppendData l d) t
  append_data_outcome d = text_by t
      (append_data_in l d t) (λ f. if is_too_long (data_of f ++ d) then (Refused TextLimit, t) else see_in t (in_text t (append_data_in l d t)) f)
      (λ m old ats ch nx. long (is_too_long (old ++ d)) (Nothing, edited l (with_record (Text (old ++ d))) t)) (at l t.documents)

  pub replace_data_outcome : (offset count : ℕ) (d : List ℕ)
      → (in_turn (data_steps l (is_past offset) (λ old. data_before offset old ++ (d ++ data_from (offset + count) old)) t)
      (ends (replace_data l offset count d t))).outcome ≡ replace_data l offset count d t
  replace_data_outcome offset count d = text_by t (replace_data_in l offset count d t) rest
      (λ m old ats ch nx. by (is_past offset old) (is_too_long (make old)) (Nothing, edited l (with_record (Text (make old))) t)) (at l t.documents)
    where
      make : List ℕ → List ℕ
      make old = data_before offset old ++ (d ++ data_from (offset + count) old)

      rest : Forest → Outcome
      rest f = if is_past offset (data_of f) then (Refused (Dom index_size_err), t) else if is_too_long
          (make (data_of f)) then (Refused TextLimit, t) else see_in t (in_text t (replace_data_in l offset count d t)) f

      tests : Bool → Bool → Outcome → Outcome
      tests b c x = if b then (Refused (Dom index_size_err), t) else if c then (Refused TextLimit, t) else x

      by : (b c : Bool) (x : Outcome) → tests b c (tests b c x) ≡ tests b c x
      by true c x = refl
      by false true x = refl
      by false false x = refl

  pub split_outcome : (offset : ℕ) → (run (call.SplitText l offset) t).outcome ≡ dom (call.SplitText l offset) t
  split_outcome offset = text_by t (split_text_in l offset t) rest (λ m d ats ch nx. by d) (at l t.documents)
    where
      right : Option Label
      right = next_of (at l t.documents)

      text : Label → Forest
      text new = node new (Text []) [] none none

      rest : Forest → Outcome
      rest g = if is_past offset (data_of g) then (Refused (Dom index_size_err), t)
          else (plans.take_right (parent l) right
          (plans.place text (new_label (parent l) (Some l) right) t (ends (see_in t (in_text t (split_text_in l offset t)) g)))).outcome

      made : Bool → Option Label → Outcome
      made past o = if past then (Refused (Dom index_size_err), t) else place_rest l offset t o

      placed : (d : List ℕ) → is_past offset d ≡ false → (o : Option Label) → new_label (parent l) (Some l) right ≡ o
          → (plans.place text o t (ends (split_text_in l offset t d))).outcome ≡ split_text_in l offset t d
      placed d h None e = sym (λ k. made (h k) (e k))
      placed d h (Some new) e = stepped (not (all_within (text new))) _ _ _
          (λ k. absurd (true≢false (sym (ap (λ b. b && (true && true)) (test_of_within new (new_label_is (parent l) new (Some l) right e).1))
          ∙ not_true (all_within (text new)) k)))
          (λ _. refl)

      by : (d : List ℕ) → rest (node l (Text d) [] none none) ≡ split_text_in l offset t d
      by d = stepped (is_past offset d) _ _ _
          (λ h. sym (λ k. made (h k) (new_label (parent l) (Some l) right)))
          (λ h. right_outcome (parent l) right _ ∙ placed d h (new_label (parent l) (Some l) right) refl)

  pub normalize_outcome : (run (call.Normalize l) t).outcome ≡ dom (call.Normalize l) t
  normalize_outcome = change_by t
      (normalize_in l t) (λ g. if is_text_node g then (Nothing, t) else if not (texts_fit (normal (below g))) then (Refused TextLimit, t) else see_in t
      (normalize_in l t) g) (λ m r ats ch nx. by (is_text_node (node m r ats ch nx)) (texts_fit (normal ch)) (Nothing, edited l (with_children (normal ch)) t))
      (at l t.documents)
    where
      by : (a b : Bool) (x : Outcome)
          → (if a then (Nothing, t) else if not b then (Refused TextLimit, t) else if a then (Nothing, t) else if b then x else (Refused TextLimit, t)) ≡ (if a
          then (Nothing, t) else if b then x else (Refused TextLimit, t))
      by true b x = refl
      by false true x = refl
      by false false x = refl

  -- a found node lies deep enough for nothing at all below it
  pub nothing_fits : (d : List ℕ) → level l ≤ deepest_level → is_too_deep l (text_below d) ≡ (not (is_empty d) && is_too_deep l (text_below d))
  nothing_fits [] h = let z : nat_lt deepest_level (level l + 0) ≡ false = grind (arith, nat_tests) in z
  nothing_fits (b ∷ d) h = refl

  pub set_text_outcome : (d : List ℕ) → IsValidTree t → (run (call.SetText l d) t).outcome ≡ dom (call.SetText l d) t
  set_text_outcome d w = by (at l t.documents) refl
    where
      tests : Bool → Bool → Bool → Outcome → Outcome
      tests s b a x = if s then (Refused TooDeep, t) else if b then (Refused TextLimit, t) else if a then x else (Refused LabelLimit, t)

      tested : (r s b a : Bool) (x : Outcome)
          → r ≡ s → (if r then (Refused TooDeep, t) else if b then (Refused TextLimit, t) else if not a then (Refused LabelLimit, t) else tests s b a x) ≡ tests
          s b a x
      tested true s b a x e = ap (λ z. tests z b a x) e
      tested false true b a x e = absurd (true≢false (sym e))
      tested false false true a x e = refl
      tested false false false true x e = refl
      tested false false false false x e = refl

      rest : Forest → Outcome
      rest g = if is_document g then (Nothing, t) else if not (is_text_node g) && is_too_deep l
          (text_below d) then (Refused TooDeep, t) else if is_too_long d then (Refused TextLimit, t) else if not (is_text_node g) && not
          (all_within (graft (l ++ (first_division ∷ [])) (text_below d) none)) then (Refused LabelLimit, t) else see_in t (set_text_of l d t) g

      by : (g : Forest) → at l t.documents ≡ g → (if not (found g) then (Refused (Dom not_found_err), t) else rest g) ≡ see_in t (set_text_of l d t) g
      by none e = refl
      by (node m Document ats ch nx) e = refl
      by (node m (Text x) ats ch nx) e = long (is_too_long d) (Nothing, edited l (with_record (Text d)) t)
      by (node m (AttrRecord v) ats ch nx) e = absurd (no_attr_node l m v ats ch nx t w e)
      by (node m (Element n) ats ch nx) e = tested (is_too_deep l (text_below d)) (not (is_empty d) && is_too_deep l (text_below d)) (is_too_long d)
          (all_within (graft (l ++ (first_division ∷ [])) (text_below d) none))
          (Nothing, edited l (with_children (graft (l ++ (first_division ∷ [])) (text_below d) none)) t)
          (nothing_fits d (let k : LimitsKept (node m (Element n) ats ch nx) = subst LimitsKept e (at_limits l t.documents w.limits) in let is : m ≡ l =
          some_is m l (ap head_label (sym e) ∙ at_label l t.documents (ap found e)) in subst (λ z. level z ≤ deepest_level) is k.0))

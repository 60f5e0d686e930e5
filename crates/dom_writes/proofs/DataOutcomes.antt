-- What the calls on a text's data give, by the record of the node that was looked for.
use Rattle.std.proofs.Common.{◌≡◌, ℕ, ◌+◌, true, false, if◌then◌else◌, List, [], ◌++◌, Some, None, sym, ap, ◌∙◌}
use Rattle.dewey_labels.specs.Labels.{Label}
use Rattle.tree_model.specs.declared.change.Change.{Change}
use Rattle.tree_model.specs.declared.record.Record.{Record}
use Rattle.tree_model.specs.declared.record.Record.TheVariants.{Text}
use Rattle.tree_model.specs.declared.refusal.Refusal.TheVariants.{Dom, TextLimit}
use Rattle.tree_model.specs.declared.reply.Reply.{Reply}
use Rattle.tree_model.specs.declared.reply.Reply.TheVariants.{Nothing, Refused}
use Rattle.tree_model.specs.Changes.{differences}
use Rattle.tree_model.specs.Edits.{edited, with_record}
use Rattle.tree_model.specs.Entries.{get}
use Rattle.tree_model.specs.Keys.{node_key}
use Rattle.tree_model.specs.Limits.{is_too_long}
use Rattle.tree_model.specs.Outcomes.{Outcome, refused, is_refused, see_in, not_found_err, not_supported_err, index_size_err}
use Rattle.tree_model.specs.Texts.{in_text, is_past, with_data, set_data_in, set_data, append_data_in, append_data, data_before, data_from, replace_data_in, replace_data}
use Rattle.tree_model.specs.Tree.{Tree, map_of, at, record_of}
use Rattle.tree_model.specs.ValidTrees.{IsValidTree}
use Rattle.tree_model.proofs.WholeTree.{get_node}
use Rattle.tree_changes.specs.KeyChanges.{change_at}
use Rattle.tree_changes.proofs.DataLaws.{set_data_differences, append_data_differences, replace_data_differences}
use Rattle.dom_writes.proofs.InPlaceOutcomes.{Changes, changes_none, at_none, at_text, at_no_text}

-- where there is no text the call is refused
module _ (l : Label) (t : Tree) (w : IsValidTree t) (change : List ℕ → Outcome) where
  pub text_nowhere : None ≡ record_of (at l t.documents) → Changes t (see_in t (in_text t change) (at l t.documents)) []
  text_nowhere e = changes_none t _ (Refused (Dom not_found_err)) w (at_none t (in_text t change) (at l t.documents) e)

  pub no_text_there : (r : Record) → Some r ≡ record_of (at l t.documents) → ((d : List ℕ) → r ≡ Text d → ⊥) → Changes t (see_in t (in_text t change) (at l t.documents)) []
  no_text_there r e h = changes_none t _ (Refused (Dom not_supported_err)) w (at_no_text t change (at l t.documents) r e h)

-- what is answered where a text is given these data
abbrev pub reply_to : List ℕ → Reply
reply_to d = if is_too_long d then Refused TextLimit else Nothing

-- what is changed then, the old data being these
abbrev pub changes_to : Label → List ℕ → List ℕ → List Change
changes_to l old d = if is_too_long d then [] else change_at (node_key l) (Some (Text old)) (Some (Text d))

module _ (l : Label) (t : Tree) (old : List ℕ) (e : Some (Text old) ≡ record_of (at l t.documents)) where
  reply_is : (d : List ℕ) (o : Outcome) → o ≡ with_data l t d → reply_to d ≡ o.0
  reply_is d o is = elim (is_too_long d) as (λ b. (if b then Refused TextLimit else Nothing) ≡ (if b then refused TextLimit t else (Nothing, edited l (with_record (Text d)) t)).0) [
    | true ↦ Rattle.std.proofs.Common.refl
    | false ↦ Rattle.std.proofs.Common.refl
  ] ∙ sym (ap (λ p. p.0) is)

  changes_are : IsValidTree t → (d : List ℕ) (o : Outcome) → o ≡ with_data l t d
      → (is_refused o.0 ≡ false → differences (map_of t) (map_of o.1) ≡ change_at (node_key l) (get (node_key l) (map_of t)) (Some (Text d)))
      → Changes t o (changes_to l old d)
  changes_are w d o is law = elim (is_too_long d) as (λ b. o ≡ (if b then refused TextLimit t else (Nothing, edited l (with_record (Text d)) t))
      → Changes t o (if b then [] else change_at (node_key l) (Some (Text old)) (Some (Text d)))) [
        | true ↦ λ q. changes_none t o (Refused TextLimit) w q
        | false ↦ λ q. ap (λ before. change_at (node_key l) before (Some (Text d))) (e ∙ sym (get_node l t w)) ∙ sym (law (ap (λ p. is_refused p.0) q))
      ] is

  -- ---- `set_data` and `append_data`

  module _ (d : List ℕ) where
    pub set_data_reply : reply_to d ≡ (set_data l d t).0
    set_data_reply = reply_is d (set_data l d t) (at_text t (set_data_in l d t) (at l t.documents) old e)

    pub set_data_changes : IsValidTree t → Changes t (set_data l d t) (changes_to l old d)
    set_data_changes w = changes_are w d (set_data l d t) (at_text t (set_data_in l d t) (at l t.documents) old e) (set_data_differences l d t w)

    pub append_data_reply : reply_to (old ++ d) ≡ (append_data l d t).0
    append_data_reply = reply_is (old ++ d) (append_data l d t) (at_text t (append_data_in l d t) (at l t.documents) old e)

    pub append_data_changes : IsValidTree t → Changes t (append_data l d t) (changes_to l old (old ++ d))
    append_data_changes w = changes_are w (old ++ d) (append_data l d t) (at_text t (append_data_in l d t) (at l t.documents) old e) (append_data_differences l d t w old (sym e))

  -- ---- `replace_data`

  module _ (offset count : ℕ) (d : List ℕ) where
    replaced : List ℕ
    replaced = data_before offset old ++ (d ++ data_from (offset + count) old)

    replaced_is : replace_data l offset count d t ≡ replace_data_in l offset count d t old
    replaced_is = at_text t (replace_data_in l offset count d t) (at l t.documents) old e

    pub replace_data_past : IsValidTree t → is_past offset old ≡ true → Changes t (replace_data l offset count d t) []
    replace_data_past w past = changes_none t (replace_data l offset count d t) (Refused (Dom index_size_err)) w
        (replaced_is ∙ ap (λ b. if b then refused (Dom index_size_err) t else with_data l t (data_before offset old ++ (d ++ data_from (offset + count) old))) past)

    within_is : is_past offset old ≡ false → replace_data l offset count d t ≡ with_data l t (data_before offset old ++ (d ++ data_from (offset + count) old))
    within_is within = replaced_is ∙ ap (λ b. if b then refused (Dom index_size_err) t else with_data l t (data_before offset old ++ (d ++ data_from (offset + count) old))) within

    pub replace_data_reply : is_past offset old ≡ false → reply_to (data_before offset old ++ (d ++ data_from (offset + count) old)) ≡ (replace_data l offset count d t).0
    replace_data_reply within = reply_is _ (replace_data l offset count d t) (within_is within)

    pub replace_data_changes : IsValidTree t → is_past offset old ≡ false → Changes t (replace_data l offset count d t) (changes_to l old (data_before offset old ++ (d ++ data_from (offset + count) old)))
    replace_data_changes w within = changes_are w _ (replace_data l offset count d t) (within_is within) (replace_data_differences l offset count d t w old (sym e))

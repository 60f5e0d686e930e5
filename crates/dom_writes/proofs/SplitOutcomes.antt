-- What `split_text` gives, and the changes of a text and a new one behind it.
use Rattle.std.proofs.Common.{◌≡◌, ◌≤◌, ℕ, true, false, cond, if◌then◌else◌, List, [], ◌∷◌, ◌++◌, Option, Some, None, IfSome, Less, nat_cmp, sym, ap, subst, ◌∙◌}
use Rattle.std.specs.Cmp.Lexicographic.{slice_cmp}
use Rattle.std.specs.Ordering.{ordering_then}
use Rattle.dewey_labels.specs.Labels.{Label, IsLabel, root, parent, is_child, level}
use Rattle.dewey_labels.specs.NewLabels.{new_label}
use Rattle.dewey_labels.proofs.Labels.{level_of_child, child_of_parent, is_label-parent}
use Rattle.tree_model.specs.declared.key.Key.{Key}
use Rattle.tree_model.specs.declared.record.Record.{Record}
use Rattle.tree_model.specs.declared.record.Record.TheVariants.{Text}
use Rattle.tree_model.specs.declared.refusal.Refusal.TheVariants.{Dom, LabelLimit}
use Rattle.tree_model.specs.declared.reply.Reply.TheVariants.{Place, Refused}
use Rattle.tree_model.specs.Changes.{same_record, put_change}
use Rattle.tree_model.specs.Keys.{IsValidKey, key_cmp, node_key}
use Rattle.tree_model.specs.Limits.{deepest_level}
use Rattle.tree_model.specs.Outcomes.{refused, index_size_err}
use Rattle.tree_model.specs.Records.{is_data, record_fits}
use Rattle.tree_model.specs.Texts.{is_past, data_before, data_from, place_rest, split_text_in, split_text}
use Rattle.tree_model.specs.Tree.{Forest, none, node, Tree, at, next_of, record_of}
use Rattle.tree_model.specs.ValidTrees.{LimitsKept, IsValidTree}
use Rattle.tree_model.proofs.Found.{some_is}
use Rattle.tree_model.proofs.FoundRecords.{at_limits}
use Rattle.tree_model.proofs.SplitTexts.{parts_are_data}
use Rattle.tree_changes.specs.KeyChanges.{as_change, change_at}
use Rattle.tree_changes.proofs.SplitLaws.{split_text_differences}
use Rattle.node_seq.specs.ChangeLists.{IsChangeList}
use Rattle.node_seq.specs.Reads.{IsValidEntry}
use Rattle.dom_writes.proofs.InPlaceOutcomes.{Changes, changes_none, at_text}

-- ---- changes of a text and a new one

pub two_changes : (k : Key) (before : Option Record) (r : Record) (x : Key × Record) → IsValidEntry (k, r) → IsValidEntry x → key_cmp k x.0 ≡ Less
    → IsChangeList (change_at k before (Some r) ++ (put_change x ∷ []))
two_changes k None r x h g o = record { rise = ((o, tt), (tt, tt)); puts = (h, (g, tt)) }
two_changes k (Some q) r x h g o = elim (same_record r q) as (λ b. IsChangeList (as_change k (cond b None (Some (Some r))) ++ (put_change x ∷ []))) [
  | true ↦ record { rise = (tt, tt); puts = (g, tt) }
  | false ↦ record { rise = ((o, tt), (tt, tt)); puts = (h, (g, tt)) }
]

pub nodes_rise : (l n : Label) → slice_cmp nat_cmp l n ≡ Less → key_cmp (node_key l) (node_key n) ≡ Less
nodes_rise l n h = ap (λ o. ordering_then o (slice_cmp nat_cmp [] [])) h

-- ---- labels beside one another

pub is_child_there : (l : Label) → IsLabel l → (l ≡ root → ⊥) → is_child (parent l) l ≡ true
is_child_there l h below = child_of_parent l h.0 below

pub same_level : (l n : Label) → IsLabel l → is_child (parent l) l ≡ true → is_child (parent l) n ≡ true → level n ≡ level l
same_level l n h a b =
    let p = is_label-parent l h.0 in
    level_of_child (parent l) n p b ∙ sym (level_of_child (parent l) l p a)

pub same_levels : (p l : Label) (o : Option Label) → p ≡ parent l → IsLabel l → is_child (parent l) l ≡ true
    → IfSome o IsLabel → IfSome o (λ n. is_child p n ≡ true) → IfSome o (λ n. IsLabel n × (level n ≡ level l))
same_levels p l None e h a i b = tt
same_levels p l (Some n) e h a i b = (i, same_level l n h a (subst (λ q. is_child q n ≡ true) e b))

-- a key at the level of another one
pub beside_valid : (l n : Label) → IsValidKey (node_key l) → IsLabel n → level n ≡ level l → IsValidKey (node_key n)
beside_valid l n k h e = record { label = h; level = subst (λ z. z ≤ deepest_level) (sym e) k.level; name = k.name }

-- ---- parts of a text

pub left_fits : (offset : ℕ) (d left : List ℕ) → is_data d ≡ true → left ≡ data_before offset d → is_data left ≡ true
left_fits offset d left h e = subst (λ b. is_data b ≡ true) (sym e) (parts_are_data offset d h).0

pub right_fits : (offset : ℕ) (d right : List ℕ) → is_data d ≡ true → right ≡ data_from offset d → is_data right ≡ true
right_fits offset d right h e = subst (λ b. is_data b ≡ true) (sym e) (parts_are_data offset d h).1

-- ---- the call

-- a text of a tree isn't too long
pub data_there : (l : Label) (t : Tree) (d : List ℕ) → IsValidTree t → Some (Text d) ≡ record_of (at l t.documents) → is_data d ≡ true
data_there l t d w e = by (at l t.documents) (at_limits l t.documents w.limits) e
  where
    by : (g : Forest) → LimitsKept g → Some (Text d) ≡ record_of g → is_data d ≡ true
    by none k q = cc
    by (node m r ats ch nx) k q = subst (λ v. record_fits v ≡ true) (sym (some_is (Text d) r q)) k.1

module _ (l : Label) (offset : ℕ) (t : Tree) (w : IsValidTree t) (old : List ℕ) (e : Some (Text old) ≡ record_of (at l t.documents)) where
  split_is : split_text l offset t ≡ split_text_in l offset t old
  split_is = at_text t (split_text_in l offset t) (at l t.documents) old e

  pub split_past : is_past offset old ≡ true → Changes t (split_text l offset t) []
  split_past past = changes_none t (split_text l offset t) (Refused (Dom index_size_err)) w
      (split_is ∙ ap (λ b. if b then refused (Dom index_size_err) t else place_rest l offset t (new_label (parent l) (Some l) (next_of (at l t.documents)))) past)

  module _ (within : is_past offset old ≡ false) where
    placed_is : (o : Option Label) → o ≡ new_label (parent l) (Some l) (next_of (at l t.documents)) → split_text l offset t ≡ place_rest l offset t o
    placed_is o h = split_is
        ∙ ap (λ b. if b then refused (Dom index_size_err) t else place_rest l offset t (new_label (parent l) (Some l) (next_of (at l t.documents)))) within
        ∙ ap (place_rest l offset t) (sym h)

    pub split_no_label_reply : None ≡ new_label (parent l) (Some l) (next_of (at l t.documents)) → Refused LabelLimit ≡ (split_text l offset t).0
    split_no_label_reply h = sym (ap (λ o. o.0) (placed_is None h))

    pub split_no_label : None ≡ new_label (parent l) (Some l) (next_of (at l t.documents)) → Changes t (split_text l offset t) []
    split_no_label h = changes_none t (split_text l offset t) (Refused LabelLimit) w (placed_is None h)

    pub split_reply : (new : Label) → Some new ≡ new_label (parent l) (Some l) (next_of (at l t.documents)) → Place (Some new) ≡ (split_text l offset t).0
    split_reply new h = sym (ap (λ o. o.0) (placed_is (Some new) h))

    pub split_changes : (new : Label) → Some new ≡ new_label (parent l) (Some l) (next_of (at l t.documents))
        → Changes t (split_text l offset t) (change_at (node_key l) (Some (Text old)) (Some (Text (data_before offset old))) ++ (put_change (node_key new, Text (data_from offset old)) ∷ []))
    split_changes new h = sym (split_text_differences l offset t w old new (sym e) (sym (split_reply new h)))

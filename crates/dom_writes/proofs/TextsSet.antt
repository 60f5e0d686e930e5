-- The reply and the changes of `set_text`, by the kind of the node that was found.
use Rattle.std.specs.Str.{is_utf8}
use Rattle.std.specs.Option.{option_or}
use Rattle.std.proofs.Common.{◌≡◌, ◌≤◌, ℕ, ◌&&◌, Bool, true, false, not, if◌then◌else◌, List, [], ◌∷◌, option_map, Option, Some, None, refl, sym, ap, subst, ◌∙◌}
use Rattle.dewey_labels.specs.Labels.{Label, level}
use Rattle.dewey_labels.specs.Lists.{is_empty}
use Rattle.tree_model.specs.declared.change.Change.{Change}
use Rattle.tree_model.specs.declared.dom_call.DomCall.TheVariants as call
use Rattle.tree_model.specs.declared.record.Record.{Record}
use Rattle.tree_model.specs.declared.record.Record.TheVariants.{Attr, Document, Element, Text}
use Rattle.tree_model.specs.declared.refusal.Refusal.{Refusal}
use Rattle.tree_model.specs.declared.refusal.Refusal.TheVariants.{Dom, LabelLimit, TextLimit, TooDeep}
use Rattle.tree_model.specs.declared.reply.Reply.TheVariants.{Nothing, Refused}
use Rattle.tree_model.specs.Changes.{differences}
use Rattle.tree_model.specs.Entries.{Sorted}
use Rattle.tree_model.specs.Graft.{all_within}
use Rattle.tree_model.specs.Keys.{node_key}
use Rattle.tree_model.specs.Limits.{deepest_level, is_too_long}
use Rattle.tree_model.specs.Outcomes.{Outcome, is_refused, not_found_err, refused}
use Rattle.tree_model.specs.Placing.{is_too_deep}
use Rattle.tree_model.specs.Texts.{set_text, set_text_of, text_below}
use Rattle.tree_model.specs.Tree.{Forest, none, node, Tree, at, below, entries_of, map_of, record_of}
use Rattle.tree_model.specs.ValidTrees.{IsValidTree, LimitsKept}
use Rattle.tree_model.proofs.Found.{some_is}
use Rattle.tree_model.proofs.FoundRecords.{at_limits, no_attr_node}
use Rattle.tree_model.proofs.WholeTree.{get_node, map_sorted}
use Rattle.tree_changes.specs.KeyChanges.{change_at}
use Rattle.tree_changes.proofs.ChangeLists.{no_differences}
use Rattle.tree_changes.proofs.ContentLaws.{set_text_differences, set_text_of_document, set_text_of_text}
use Rattle.tree_model.proofs.Refusals.{dom_refused}
use Rattle.dom_reads.proofs.SubtreeEntries.{found_label}
use Rattle.dom_writes.specs.inside.TextsSet.{data_changes, data_refused, one_text, reply_of, text_changes, text_refused, unless_refused}

-- ---- what was found

-- a found node is not deeper than a tree
pub level_found : (l : Label) (r : Record) (t : Tree) → IsValidTree t → Some r ≡ record_of (at l t.documents) → level l ≤ deepest_level
level_found l r t w h = by (at l t.documents) refl h (at_limits l t.documents w.limits)
  where
    by : (g : Forest) → at l t.documents ≡ g → Some r ≡ record_of g → LimitsKept g → level l ≤ deepest_level
    by none e q k = cc
    by (node m s ats ch nx) e q k = subst (λ v. level v ≤ deepest_level) (found_label l m s ats ch nx t.documents e) k.0

-- nor is it an attribute
pub no_attribute_found : (l : Label) (v : List ℕ) (t : Tree) → IsValidTree t → Some (Attr v) ≡ record_of (at l t.documents) → ⊥
no_attribute_found l v t w h = by (at l t.documents) refl h
  where
    by : (g : Forest) → at l t.documents ≡ g → Some (Attr v) ≡ record_of g → ⊥
    by none e q = cc
    by (node m s ats ch nx) e q = no_attr_node l m v ats ch nx t w (e ∙ ap (λ r. node m r ats ch nx) (sym (some_is (Attr v) s q)))

-- ---- of no node, and of a document

pub missing_reply : (l : Label) (d : List ℕ) (t : Tree) → None ≡ record_of (at l t.documents) → Refused (Dom not_found_err) ≡ (set_text l d t).0
missing_reply l d t h = by (at l t.documents) h
  where
    by : (g : Forest) → None ≡ record_of g → Refused (Dom not_found_err) ≡ (Rattle.tree_model.specs.Outcomes.see_in t (set_text_of l d t) g).0
    by none q = refl
    by (node m s ats ch nx) q = cc

pub document_reply : (l : Label) (d : List ℕ) (t : Tree) → Some Document ≡ record_of (at l t.documents) → Nothing ≡ (set_text l d t).0
document_reply l d t h = by (at l t.documents) h
  where
    by : (g : Forest) → Some Document ≡ record_of g → Nothing ≡ (Rattle.tree_model.specs.Outcomes.see_in t (set_text_of l d t) g).0
    by none q = cc
    by (node m s ats ch nx) q = ap (λ r. (set_text_of l d t (node m r ats ch nx)).0) (some_is Document s q)

-- a refused call changes nothing
pub refused_changes : (l : Label) (d : List ℕ) (t : Tree) → IsValidTree t → is_refused (set_text l d t).0 ≡ true → [] ≡ differences (map_of t) (map_of (set_text l d t).1)
refused_changes l d t w h = sym (no_differences (map_of t) (map_sorted t w)) ∙ ap (λ v. differences (map_of t) (map_of v)) (sym ((dom_refused (call.SetText l d) t).same h))

pub missing_changes : (l : Label) (d : List ℕ) (t : Tree) → IsValidTree t → None ≡ record_of (at l t.documents)
    → [] ≡ differences (map_of t) (map_of (set_text l d t).1)
missing_changes l d t w h = refused_changes l d t w (ap is_refused (sym (missing_reply l d t h)))

pub document_changes : (l : Label) (d : List ℕ) (t : Tree) → IsValidTree t → is_utf8 d ≡ true → Some Document ≡ record_of (at l t.documents)
    → [] ≡ differences (map_of t) (map_of (set_text l d t).1)
document_changes l d t w u h = sym (no_differences (map_of t) (map_sorted t w)) ∙ ap (λ v. differences (map_of t) (map_of v)) (sym (set_text_of_document l d t w u (sym h)))

-- ---- changes, unless the call is refused

module _ (l : Label) (d : List ℕ) (t : Tree) (w : IsValidTree t) where
  by_refusal : (why : Option Refusal) (cs : List Change) → (set_text l d t).0 ≡ reply_of why
      → (is_refused (set_text l d t).0 ≡ false → cs ≡ differences (map_of t) (map_of (set_text l d t).1))
      → unless_refused why cs ≡ differences (map_of t) (map_of (set_text l d t).1)
  by_refusal None cs reply is = is (ap is_refused reply)
  by_refusal (Some why) cs reply is = refused_changes l d t w (ap is_refused reply)

  -- ---- of a text

  pub text_reply : (old : List ℕ) → Some (Text old) ≡ record_of (at l t.documents) → (set_text l d t).0 ≡ reply_of (data_refused d)
  text_reply old h = by (at l t.documents) h
    where
      tests : (b : Bool) (v : Tree) → (if b then refused TextLimit t else (Nothing, v)).0 ≡ reply_of (if b then Some TextLimit else None)
      tests true v = refl
      tests false v = refl

      by : (g : Forest) → Some (Text old) ≡ record_of g → (Rattle.tree_model.specs.Outcomes.see_in t (set_text_of l d t) g).0 ≡ reply_of (data_refused d)
      by none q = cc
      by (node m s ats ch nx) q = ap (λ r. (set_text_of l d t (node m r ats ch nx)).0) (sym (some_is (Text old) s q)) ∙ tests (is_too_long d) _

  pub text_changes_found : (old : List ℕ) → is_utf8 d ≡ true → Some (Text old) ≡ record_of (at l t.documents)
      → data_changes l old d ≡ differences (map_of t) (map_of (set_text l d t).1)
  text_changes_found old u h = by_refusal (data_refused d) (change_at (node_key l) (Some (Text old)) (Some (Text d))) (text_reply old h)
      (λ done. ap (λ o. change_at (node_key l) o (Some (Text d))) (h ∙ sym (get_node l t w)) ∙ sym (set_text_of_text l d t w u old (sym h) done))

  -- ---- of an element

  pub element_reply : (n : List ℕ) → Some (Element n) ≡ record_of (at l t.documents) → (set_text l d t).0 ≡ reply_of (text_refused l d)
  element_reply n h = by (at l t.documents) h
    where
      tests : (a b c : Bool) (v : Tree) → (if a then refused TooDeep t else if b then refused TextLimit t else if c then (Nothing, v) else refused LabelLimit t).0
          ≡ reply_of (option_or (if a then Some TooDeep else if b then Some TextLimit else None) (if c then None else Some LabelLimit))
      tests true b c v = refl
      tests false true c v = refl
      tests false false true v = refl
      tests false false false v = refl

      by : (g : Forest) → Some (Element n) ≡ record_of g → (Rattle.tree_model.specs.Outcomes.see_in t (set_text_of l d t) g).0 ≡ reply_of (text_refused l d)
      by none q = cc
      by (node m s ats ch nx) q = ap (λ r. (set_text_of l d t (node m r ats ch nx)).0) (sym (some_is (Element n) s q))
          ∙ tests (not (is_empty d) && is_too_deep l (text_below d)) (is_too_long d) (all_within (one_text l d)) _

  pub element_changes : (n : List ℕ) → is_utf8 d ≡ true → Some (Element n) ≡ record_of (at l t.documents)
      → text_changes l d (entries_of (below (at l t.documents))) ≡ differences (map_of t) (map_of (set_text l d t).1)
  element_changes n u h = by_refusal (text_refused l d) (differences (entries_of (below (at l t.documents))) (entries_of (one_text l d))) (element_reply n h)
      (λ done. sym (set_text_differences l d t w u n (sym h) done))

-- ---- changes that may be laid over a map

-- nothing was refused
pub not_past : (o : Option Refusal) → None ≡ option_map Refused o → o ≡ None
not_past None h = refl
not_past (Some why) h = cc

pub text_rises : (l : Label) (d : List ℕ) → Sorted (entries_of (one_text l d))
text_rises l [] = tt
text_rises l (b ∷ d) = (tt, tt)

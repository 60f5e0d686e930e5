-- The reads of calls over a subtree, from those before it and its own.
use Rattle.std.proofs.Common.{◌≡◌, ◌≤◌, ◌+◌, ℕ, Bool, true, false, if◌then◌else◌, length, Option, Some, None, Ok, refl, sym, ap, subst, ◌∙◌, arith}
use Rattle.dewey_labels.specs.Labels.{Label}
use Rattle.tree_model.specs.Fragments.{Fragments}
use Rattle.tree_model.specs.NodeKinds.{is_element, is_text_node, is_text_record}
use Rattle.tree_model.specs.Outcomes.{Outcome, is_refused}
use Rattle.tree_model.specs.Placing.{replace}
use Rattle.tree_model.specs.Names.{Name}
use Rattle.tree_model.specs.Tree.{Attributes, Forest, node, Tree, at, record_of}
use Rattle.tree_model.specs.declared.record.Record.{Record}
use Rattle.tree_model.specs.declared.record.Record.TheVariants.{Document, Element, Text, Attr}
use Rattle.dom_reads.specs.ReadCounts.{subtree_reads}
use Rattle.dom_reads.specs.SubtreeWalks.{subtree_of}
use Rattle.dom_reads.proofs.ReplyLaws.{element_is, on_found}
use Rattle.dom_writes.specs.ReadCounts.{drop_reads, normalize_reads, removal_reads, replace_reads, set_text_reads}
use Rattle.dom_writes.specs.inside.Outcomes.{placed_instead}

module _ (first : ℕ) (t : Tree) where
  pub removal_all : (read after : ℕ) (l : Label) → read ≤ first + 1 → after ≤ read + subtree_reads l t → after ≤ first + removal_reads l t
  removal_all read after l a b = omega (arith, a, b)

  pub drop_one : (after : ℕ) (o : Option Label) → after ≤ first + 1 → after ≤ first + drop_reads o t
  drop_one after None a = a
  drop_one after (Some l) a = omega (arith, a)

  pub drop_all : (read after : ℕ) (l : Label) (o : Option Label) → Some l ≡ o → read ≤ first + 1 → after ≤ read + subtree_reads l t → after ≤ first + drop_reads o t
  drop_all read after l o e a b = subst (λ (p : Option Label). after ≤ first + drop_reads p t) e (removal_all read after l a b)

  pub replace_four : (after : ℕ) (p old : Label) (f : Fragments) → after ≤ first + 4 → after ≤ first + replace_reads p old f t
  replace_four after p old f a =
      elim (is_refused (replace p old f t).0) as (λ b. after ≤ first + (if b then 4 else length (subtree_of old t) + 5)) [ true ↦ a | false ↦ omega (arith, a) ]

  pub replace_all : (read after : ℕ) (p old : Label) (f : Fragments) (new : Label) → placed_instead old f t (Ok new) ≡ replace p old f t
      → read ≤ first + 4 → after ≤ read + subtree_reads old t → after ≤ first + replace_reads p old f t
  replace_all read after p old f new e a b =
      subst (λ c. after ≤ first + (if c then 4 else length (subtree_of old t) + 5)) (ap (λ (o : Outcome). is_refused o.0) e) (omega (arith, a, b))

  pub set_text_one : (after : ℕ) (l : Label) → after ≤ first + 1 → after ≤ first + set_text_reads l t
  set_text_one after l a =
      elim (is_element (at l t.documents)) as (λ b. after ≤ first + (if b then removal_reads l t else 1)) [ true ↦ omega (arith, a) | false ↦ a ]

  pub set_text_all : (read after : ℕ) (l : Label) (n : Name) → Some (Element n) ≡ record_of (at l t.documents)
      → read ≤ first + 1 → after ≤ read + subtree_reads l t → after ≤ first + set_text_reads l t
  set_text_all read after l n e a b =
      subst (λ c. after ≤ first + (if c then removal_reads l t else 1)) (sym (element_is (at l t.documents) (Element n) e)) (removal_all read after l a b)

  pub normalize_one : (after : ℕ) (l : Label) → after ≤ first + 1 → after ≤ first + normalize_reads l t
  normalize_one after l a =
      elim (is_text_node (at l t.documents)) as (λ b. after ≤ first + (if b then 1 else removal_reads l t)) [ true ↦ a | false ↦ omega (arith, a) ]

  pub normalize_all : (read after : ℕ) (l : Label) (r : Record) → Some r ≡ record_of (at l t.documents) → is_text_record (Some r) ≡ false
      → read ≤ first + 1 → after ≤ read + subtree_reads l t → after ≤ first + normalize_reads l t
  normalize_all read after l r e h a b =
      subst (λ c. after ≤ first + (if c then 1 else removal_reads l t)) (sym (text_is (at l t.documents) r e ∙ h)) (removal_all read after l a b)
    where
      text_is : (g : Forest) (r : Record) → Some r ≡ record_of g → is_text_node g ≡ is_text_record (Some r)
      text_is g r e = on_found (λ h. is_text_node h ≡ is_text_record (Some r)) g r e (λ l ats ch nx. by l ats ch nx r)
        where
          by : (l : Label) (ats : Attributes) (ch nx : Forest) (r : Record) → is_text_node (node l r ats ch nx) ≡ is_text_record (Some r)
          by l ats ch nx Document = refl
          by l ats ch nx (Element n) = refl
          by l ats ch nx (Text d) = refl
          by l ats ch nx (Attr v) = refl

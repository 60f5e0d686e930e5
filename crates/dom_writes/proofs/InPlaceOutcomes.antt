-- What changes the calls make that change a node in place, by the record of the node that was looked for.
use Rattle.std.proofs.Common.{◌≡◌, ℕ, Bool, true, false, not, if◌then◌else◌, List, [], Some, None, refl, sym, ap, ◌∙◌}
use Rattle.dewey_labels.specs.Labels.{Label}
use Rattle.tree_model.specs.declared.change.Change.{Change}
use Rattle.tree_model.specs.declared.record.Record.{Record}
use Rattle.tree_model.specs.declared.record.Record.TheVariants.{Document, Element, Text, Attr}
use Rattle.tree_model.specs.declared.refusal.Refusal.TheVariants.{Dom, TextLimit}
use Rattle.tree_model.specs.declared.reply.Reply.{Reply}
use Rattle.tree_model.specs.declared.reply.Reply.TheVariants.{Nothing, Refused}
use Rattle.tree_model.specs.Attributes.{in_element, set_attr_in, set_attr, remove_attr_in, remove_attr, rename_in, rename}
use Rattle.tree_model.specs.Changes.{differences}
use Rattle.tree_model.specs.Edits.{edited, with_attributes, with_entry, with_record, without_entry}
use Rattle.tree_model.specs.Entries.{get}
use Rattle.tree_model.specs.Keys.{key_at, node_key}
use Rattle.tree_model.specs.Limits.{is_too_long}
use Rattle.tree_model.specs.Names.{Name, is_name}
use Rattle.tree_model.specs.Outcomes.{Outcome, refused, is_refused, see_in, not_found_err, not_supported_err, invalid_character_err}
use Rattle.tree_model.specs.StoredTree.{is_element_record}
use Rattle.tree_model.specs.Texts.{in_text}
use Rattle.tree_model.specs.Tree.{Attributes, Forest, none, node, Tree, map_of, at, record_of, attributes_of}
use Rattle.tree_model.specs.ValidTrees.{IsValidTree}
use Rattle.tree_model.proofs.WholeTree.{map_sorted, get_node}
use Rattle.tree_changes.specs.KeyChanges.{change_at}
use Rattle.tree_changes.proofs.AttributeLaws.{set_attr_differences, remove_attr_differences, rename_differences}
use Rattle.tree_changes.proofs.ChangeLists.{no_differences}
use Rattle.dom_reads.proofs.ReplyLaws.{on_found}

-- ---- what a call changes

-- the changes are those of the map, from a tree to what an outcome makes of it
abbrev pub Changes : Tree → Outcome → List Change → Type 0
Changes t o changes = changes ≡ differences (map_of t) (map_of o.1)

-- a call that leaves the tree changes nothing
pub changes_none : (t : Tree) (o : Outcome) (reply : Reply) → IsValidTree t → o ≡ (reply, t) → Changes t o []
changes_none t o reply w e = sym (ap (λ p. differences (map_of t) (map_of p.1)) e ∙ no_differences (map_of t) (map_sorted t w))

-- ---- the node that was looked for

pub at_none : (t : Tree) (change : Forest → Outcome) (g : Forest) → None ≡ record_of g → see_in t change g ≡ refused (Dom not_found_err) t
at_none t change none e = refl
at_none t change (node l r ats ch nx) e = cc

module _ (t : Tree) (change : Attributes → Outcome) (g : Forest) (r : Record) (e : Some r ≡ record_of g) where
  pub at_element : is_element_record (Some r) ≡ true → see_in t (in_element t change) g ≡ change (attributes_of g)
  at_element h = on_found (λ f. see_in t (in_element t change) f ≡ change (attributes_of f)) g r e (λ l ats ch nx. by l ats ch nx r h)
    where
      by : (l : Label) (ats : Attributes) (ch nx : Forest) (r : Record) → is_element_record (Some r) ≡ true → in_element t change (node l r ats ch nx) ≡ change ats
      by l ats ch nx Document h = cc
      by l ats ch nx (Element n) h = refl
      by l ats ch nx (Text d) h = cc
      by l ats ch nx (Attr v) h = cc

  pub at_no_element : is_element_record (Some r) ≡ false → see_in t (in_element t change) g ≡ refused (Dom not_supported_err) t
  at_no_element h = on_found (λ f. see_in t (in_element t change) f ≡ refused (Dom not_supported_err) t) g r e (λ l ats ch nx. by l ats ch nx r h)
    where
      by : (l : Label) (ats : Attributes) (ch nx : Forest) (r : Record) → is_element_record (Some r) ≡ false → in_element t change (node l r ats ch nx) ≡ refused (Dom not_supported_err) t
      by l ats ch nx Document h = refl
      by l ats ch nx (Element n) h = cc
      by l ats ch nx (Text d) h = refl
      by l ats ch nx (Attr v) h = refl

pub at_text : (t : Tree) (change : List ℕ → Outcome) (g : Forest) (d : List ℕ) → Some (Text d) ≡ record_of g → see_in t (in_text t change) g ≡ change d
at_text t change g d e = on_found (λ f. see_in t (in_text t change) f ≡ change d) g (Text d) e (λ l ats ch nx. refl)

pub at_no_text : (t : Tree) (change : List ℕ → Outcome) (g : Forest) (r : Record) → Some r ≡ record_of g → ((d : List ℕ) → r ≡ Text d → ⊥) → see_in t (in_text t change) g ≡ refused (Dom not_supported_err) t
at_no_text t change g r e h = on_found (λ f. see_in t (in_text t change) f ≡ refused (Dom not_supported_err) t) g r e (λ l ats ch nx. by l ats ch nx r h)
  where
    by : (l : Label) (ats : Attributes) (ch nx : Forest) (r : Record) → ((d : List ℕ) → r ≡ Text d → ⊥) → in_text t change (node l r ats ch nx) ≡ refused (Dom not_supported_err) t
    by l ats ch nx Document h = refl
    by l ats ch nx (Element n) h = refl
    by l ats ch nx (Text d) h = absurd (h d refl)
    by l ats ch nx (Attr v) h = refl

-- ---- calls on elements

-- where there is no element the call is refused
module _ (l : Label) (t : Tree) (w : IsValidTree t) (change : Attributes → Outcome) where
  pub element_nowhere : None ≡ record_of (at l t.documents) → Changes t (see_in t (in_element t change) (at l t.documents)) []
  element_nowhere e = changes_none t _ (Refused (Dom not_found_err)) w (at_none t (in_element t change) (at l t.documents) e)

  pub no_element_there : (r : Record) → Some r ≡ record_of (at l t.documents) → is_element_record (Some r) ≡ false → Changes t (see_in t (in_element t change) (at l t.documents)) []
  no_element_there r e h = changes_none t _ (Refused (Dom not_supported_err)) w (at_no_element t change (at l t.documents) r e h)

-- `set_attr`
module _ (l : Label) (n : Name) (v : List ℕ) (t : Tree) (w : IsValidTree t) (r : Record) (e : Some r ≡ record_of (at l t.documents)) (h : is_element_record (Some r) ≡ true) where
  abbrev set_in : Bool → Bool → Outcome
  set_in named long = if not named then refused (Dom invalid_character_err) t
      else if long then refused TextLimit t
      else (Nothing, edited l (with_attributes (with_entry n v (attributes_of (at l t.documents)))) t)

  set_is : set_attr l n v t ≡ set_in (is_name n) (is_too_long v)
  set_is = at_element t (set_attr_in l n v t) (at l t.documents) r e h

  pub set_attr_no_name : is_name n ≡ false → Changes t (set_attr l n v t) []
  set_attr_no_name named = changes_none t (set_attr l n v t) (Refused (Dom invalid_character_err)) w (set_is ∙ ap (λ b. set_in b (is_too_long v)) named)

  pub set_attr_too_long : is_name n ≡ true → is_too_long v ≡ true → Changes t (set_attr l n v t) []
  set_attr_too_long named long = changes_none t (set_attr l n v t) (Refused TextLimit) w (set_is ∙ (λ i. set_in (named i) (long i)))

  pub set_attr_done : is_name n ≡ true → is_too_long v ≡ false → Changes t (set_attr l n v t) (change_at (key_at l n) (get (key_at l n) (map_of t)) (Some (Attr v)))
  set_attr_done named short = sym (set_attr_differences l n v t w (ap (λ o. is_refused o.0) (set_is ∙ (λ i. set_in (named i) (short i)))))

-- `remove_attr` and `rename`
module _ (l : Label) (n : Name) (t : Tree) (w : IsValidTree t) (r : Record) (e : Some r ≡ record_of (at l t.documents)) (h : is_element_record (Some r) ≡ true) where
  abbrev remove_in : Bool → Outcome
  remove_in named = if not named then (Nothing, t) else (Nothing, edited l (with_attributes (without_entry n (attributes_of (at l t.documents)))) t)

  remove_is : remove_attr l n t ≡ remove_in (is_name n)
  remove_is = at_element t (remove_attr_in l n t) (at l t.documents) r e h

  pub remove_attr_no_name : is_name n ≡ false → Changes t (remove_attr l n t) []
  remove_attr_no_name named = changes_none t (remove_attr l n t) Nothing w (remove_is ∙ ap remove_in named)

  pub remove_attr_done : is_name n ≡ true → Changes t (remove_attr l n t) (change_at (key_at l n) (get (key_at l n) (map_of t)) None)
  remove_attr_done named = sym (remove_attr_differences l n t w named (ap (λ o. is_refused o.0) (remove_is ∙ ap remove_in named)))

  abbrev named_in : Bool → Outcome
  named_in named = if not named then refused (Dom invalid_character_err) t else (Nothing, edited l (with_record (Element n)) t)

  rename_is : rename l n t ≡ named_in (is_name n)
  rename_is = at_element t (rename_in l n t) (at l t.documents) r e h

  pub rename_no_name : is_name n ≡ false → Changes t (rename l n t) []
  rename_no_name named = changes_none t (rename l n t) (Refused (Dom invalid_character_err)) w (rename_is ∙ ap named_in named)

  pub rename_done : is_name n ≡ true → Changes t (rename l n t) (change_at (node_key l) (Some r) (Some (Element n)))
  rename_done named = ap (λ before. change_at (node_key l) before (Some (Element n))) (e ∙ sym (get_node l t w))
      ∙ sym (rename_differences l n t w (ap (λ o. is_refused o.0) (rename_is ∙ ap named_in named)))
